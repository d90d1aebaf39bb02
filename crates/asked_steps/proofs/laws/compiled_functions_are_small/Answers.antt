use Rattle.std.proofs.Common.{arith}
use Rattle.bounds_plan.specs.steps.Code.{fat_function}
use Rattle.asked_steps.proofs.Limits.{function_limited}
use Rattle.asked_steps.proofs.Nodes.{function_few}
use Rattle.asked_steps.proofs.Sizes.{steps_short, few_places}
use Rattle.asked_steps.proofs.laws.compiled_functions_are_small.Goals as goal

pub returns-clause-steps : goal.returns-clause-steps
returns-clause-steps c = function_few

pub returns-clause-bytes : goal.returns-clause-bytes
returns-clause-bytes c = λ f p returns takes within name label_at entry_at at valid. let few = function_few f name in
    let h = steps_short p p.located p.pointer returns takes label_at entry_at at (fat_function name f).steps valid (function_limited p.located p.pointer returns takes f within name) in omega arith

pub returns-clause-places : goal.returns-clause-places
returns-clause-places c = λ f name p at. let few = function_few f name in let h = few_places p at (fat_function name f).steps in omega arith
