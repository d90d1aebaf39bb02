use Rattle.std.specs.Prelude.{slice_set}
use Rattle.std.proofs.Common.{◌+◌, ◌∙◌, ap}
use Rattle.step_code.specs.Bytes.{size_of_pieces, size_of_steps}
use Rattle.code_emit.specs.Plans.{plan_of}
use Rattle.code_emit.specs.Unlinked.{labels_noted}
use Rattle.code_emit.proofs.function.place_labels.Goals as goal

pub returns : goal.returns
returns c =
    let p = plan_of c.args.p.now in
    let steps = c.as_slice.ensures in
    let first = c.in_ok-first.ensures in
    let last = c.in_ok-last.ensures.end ∙ (λ j. first j + size_of_steps p (steps j)) in
    let exit = c.in_ok-exit.ensures ∙ (λ j. last j + (c.in_ok-size_of_all.ensures ∙ ap size_of_pieces c.end.ensures) j) in
    let labels = c.in_ok-last.ensures.labels ∙ (λ j. labels_noted p (first j) (steps j) c.args.labels.now.items) in
    c.set_label.ensures ∙ (λ j. slice_set (labels j) c.args.p.now.exit (exit j))
