use Rattle.std.proofs.Common.{◌++◌, ◌∙◌, ℕ, ap, length}
use Rattle.code_emit.specs.Plans.{parameters_of}
use Rattle.code_emit.specs.Unlinked as l
use Rattle.code_emit.proofs.Loops.{map_ok}
use Rattle.unit_object.specs.Given.{coded_of, is_function_of}
use Rattle.unit_object.specs.Units as u
use Rattle.unit_object.proofs.Given.{same_plan}
use Rattle.unit_object.proofs.functions.put_unit_function.Goals as goal

pub returns-clause-code : goal.returns-clause-code
returns-clause-code c =
    let f = c.args.f.now in
    let at = c.in_ok-at.ensures in
    let labels = c.as_slice.ensures.value ∙ c.in_ok-labels.ensures ∙ ap (λ (n : ℕ). u.labels_from (is_function_of f) n (coded_of f)) at in
    map_ok c.note_fields.result (λ e. c.in_ok-put_function.ensures
    ∙ (λ j. c.args.code.now.items ++ l.unlinked_function (same_plan f.plan j) f.fun.now (parameters_of f.parameters.now) f.units (labels j) (length c.args.code.now.items))) c.note_fields.ensures.fields

pub returns-clause-fields : goal.returns-clause-fields
returns-clause-fields c =
    let f = c.args.f.now in
    let first = c.in_ok-first.ensures ∙ (λ j. l.steps_at (same_plan f.plan j) f.fun.now (parameters_of f.parameters.now) f.units (c.in_ok-at.ensures j)) in
    map_ok c.note_fields.result (λ e. e ∙ (λ j. c.args.fields.now.items ++ l.fields_of_steps (same_plan f.plan j) (first j) (c.as_slice-2.ensures j))) c.note_fields.ensures.fields

pub returns-clause-places : goal.returns-clause-places
returns-clause-places c =
    let f = c.args.f.now in
    let first = c.in_ok-first.ensures ∙ (λ j. l.steps_at (same_plan f.plan j) f.fun.now (parameters_of f.parameters.now) f.units (c.in_ok-at.ensures j)) in
    map_ok c.note_fields.result (λ e. e ∙ (λ j. c.args.places.now.items ++ l.spots_of_steps (same_plan f.plan j) (first j) (c.as_slice-2.ensures j))) c.note_fields.ensures.places
