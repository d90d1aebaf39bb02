use Rattle.std.proofs.Common.{◌≡◌, ◌++◌, drop, map}
use Rattle.c_types.specs.Types.{type_at}
use Rattle.steps_facts.specs.Around.{sorts_of}
use Rattle.steps_known.proofs.functions.sorts_at.Given as goal

abbrev pub invariant-loop-one : goal.invariant-loop-one
invariant-loop-one l = l.sorts ++ sorts_of (map (type_at l.types) (drop l.one-index l.all)) ≡ sorts_of (map (type_at l.types) l.all)
