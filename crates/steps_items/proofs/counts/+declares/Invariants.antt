use Rattle.std.proofs.Common.{◌≡◌, ◌+◌, map, drop}
use Rattle.bounds_plan.specs.elaboration.Statements.{declarations, total}
use Rattle.steps_items.proofs.counts.+declares.Given as goal

abbrev pub invariant-of_all-loop-one : goal.invariant-of_all-loop-one
invariant-of_all-loop-one l = l.count + total (map declarations (drop l.one-index l.all)) ≡ total (map declarations l.all)
