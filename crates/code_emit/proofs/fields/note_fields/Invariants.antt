use Rattle.std.proofs.Common.{◌≡◌, ◌++◌, drop}
use Rattle.code_emit.specs.Plans.{plan_of}
use Rattle.code_emit.specs.Unlinked.{fields_of_steps, spots_of_steps}
use Rattle.code_emit.proofs.fields.note_fields.Given as goal

abbrev pub invariant-all : goal.invariant-all
invariant-all l = record {
  fields : l.fields.items ++ fields_of_steps (plan_of l.fn.p) l.at (drop l.step-index l.steps) ≡ l.fn.fields.items ++ fields_of_steps (plan_of l.fn.p) l.fn.from l.steps;
  places : l.places.items ++ spots_of_steps (plan_of l.fn.p) l.at (drop l.step-index l.steps) ≡ l.fn.places.items ++ spots_of_steps (plan_of l.fn.p) l.fn.from l.steps;
}
