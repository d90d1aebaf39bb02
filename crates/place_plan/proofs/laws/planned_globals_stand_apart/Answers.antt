use Rattle.place_plan.proofs.PlannedData.{planned_each, planned_stands, planned_apart, planned_small}
use Rattle.place_plan.proofs.laws.planned_globals_stand_apart.Goals as goal

pub returns-clause-each : goal.returns-clause-each
returns-clause-each c = planned_each

pub returns-clause-aligned : goal.returns-clause-aligned
returns-clause-aligned c = λ tree i o v h d k. (planned_stands c.sizes_are_multiples.ensures.some tree i o v h d k).aligned

pub returns-clause-within : goal.returns-clause-within
returns-clause-within c = λ tree i o v h d k. (planned_stands c.sizes_are_multiples.ensures.some tree i o v h d k).below

pub returns-clause-apart : goal.returns-clause-apart
returns-clause-apart c = planned_apart c.sizes_are_multiples.ensures.some

pub returns-clause-small : goal.returns-clause-small
returns-clause-small c = λ tree room few formed h. planned_small c.checked_sizes_are_those_of_types.ensures tree room (c.accepted_sources_can_be_numbered.ensures tree room few formed h) h
