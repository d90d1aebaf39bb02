use Rattle.std.proofs.Common.{◌≡◌, ◌+◌, ◌++◌, ◌∙◌, List, ℕ, ap}
use Rattle.step_code.specs.declared.pieces.Piece.{Piece}
use Rattle.step_code.specs.Bytes.{size_of_pieces}
use Rattle.step_code.specs.Homing.{homing}
use Rattle.step_code.specs.Entry.{inner_entry}
use Rattle.step_code.specs.Functions.{plain}
use Rattle.code_emit.specs.Plans.{plan_of, parameters_of}
use Rattle.code_emit.proofs.Loops.{map_if}
use Rattle.code_emit.proofs.function.steps_at.Goals as goal

pub returns : goal.returns
returns c =
    let put = homing (plan_of c.args.p.now) c.args.f.now.private (parameters_of c.args.parameters.now) in
    let home = c.as_slice.ensures.value ∙ c.in_ok-put_homing.ensures ∙ ap (λ (l : List Piece). l ++ put) c.new-home.ensures.items in
    let at_homing = c.in_ok-homing.ensures ∙ ap (λ (n : ℕ). c.args.at + n) (c.in_ok-size_of_all.ensures ∙ ap size_of_pieces c.inner_entry.ensures) in
    map_if c.add-2.result (λ n. n ≡ c.in_ok-homing.homing + c.in_ok-size_of_all-2.field-0)
    (λ n. n ≡ c.args.at + size_of_pieces (plain (inner_entry c.args.f.now.frame c.args.units)) + size_of_pieces put)
    (λ n is. is ∙ (λ j. at_homing j + (c.in_ok-size_of_all-2.ensures ∙ ap size_of_pieces home) j)) c.add-2.ensures
