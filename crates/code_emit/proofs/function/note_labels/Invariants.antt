use Rattle.std.proofs.Common.{◌≡◌, ◌+◌, drop}
use Rattle.step_code.specs.Bytes.{size_of_steps}
use Rattle.code_emit.specs.Plans.{plan_of}
use Rattle.code_emit.specs.Unlinked.{labels_noted}
use Rattle.code_emit.proofs.function.note_labels.Given as goal

abbrev pub invariant-all : goal.invariant-all
invariant-all l = record {
  noted : labels_noted (plan_of l.fn.p) l.at (drop l.step-index l.steps) l.labels.items ≡ labels_noted (plan_of l.fn.p) l.fn.from l.steps l.fn.labels.items;
  reached : l.at + size_of_steps (plan_of l.fn.p) (drop l.step-index l.steps) ≡ l.fn.from + size_of_steps (plan_of l.fn.p) l.steps;
}
