use Rattle.std.proofs.Common.{◌≡◌, ◌++◌, ◌-◌, ◌*◌}
use Rattle.bounds_plan.specs.elaboration.Scalars.{repeated}
use Rattle.steps_facts.specs.Around.{scalars_seen}
use Rattle.steps_structs.proofs.scalars.repeated.Given as goal

-- the elements that are left make up what all of them make
abbrev pub invariant-loop-at : goal.invariant-loop-at
invariant-loop-at l = scalars_seen l.all ++ repeated (l.count - l.at) (l.size * l.at) l.size (scalars_seen l.element) ≡ repeated l.count 0 l.size (scalars_seen l.element)
