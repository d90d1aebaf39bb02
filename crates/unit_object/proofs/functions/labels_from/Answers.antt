use Rattle.std.proofs.Common.{rules, ◌≡◌, ◌∙◌, replicate}
use Rattle.code_emit.specs.Plans.{parameters_of}
use Rattle.code_emit.specs.Unlinked.{function_labels}
use Rattle.unit_object.proofs.Given.{same_plan}
use Rattle.unit_object.proofs.functions.labels_from.Goals as goal

pub returns : goal.returns
returns c =
    let f = c.args.f.now in
    let labels : c.in_ok-labels.labels.items ≡ replicate f.labels 0 = search (rules, c.in_ok-labels.ensures) in
    c.in_ok-place_labels.ensures
    ∙ (λ j. function_labels (same_plan f.plan j) f.fun.now (parameters_of f.parameters.now) f.units c.args.at (labels j))
