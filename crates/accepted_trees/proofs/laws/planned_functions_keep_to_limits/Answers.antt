use Rattle.c_accepted.specs.Planned.{layout_of_plan}
use Rattle.accepted_trees.proofs.Functions.{functions_keep}
use Rattle.accepted_trees.proofs.Planned.{plan_within}
use Rattle.accepted_trees.proofs.laws.planned_functions_keep_to_limits.Goals as goal

pub returns-clause-layouts : goal.returns-clause-layouts
returns-clause-layouts c = λ tree room formed few accepted literals low. plan_within tree literals (c.planned_frames_are_small.ensures tree room few formed accepted) low

pub returns-clause-functions : goal.returns-clause-functions
returns-clause-functions c = λ located returns takes tree room formed few accepted literals flags low serve.
    functions_keep located returns takes tree room formed few accepted (layout_of_plan tree literals) flags (plan_within tree literals (c.planned_frames_are_small.ensures tree room few formed accepted) low) serve
