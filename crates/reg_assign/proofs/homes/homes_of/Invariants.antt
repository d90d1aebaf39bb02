use Rattle.std.proofs.Common.{◌≡◌, ◌++◌, drop, get_or}
use Rattle.reg_assign.specs.Homes.{homes_by}
use Rattle.reg_assign.proofs.homes.homes_of.Given as goal

abbrev pub invariant-loop-value : goal.invariant-loop-value
invariant-loop-value l = l.homes.items ++ homes_by (λ v. get_or l.numbers v 0) (λ v. get_or l.bounds v 0) l.words l.value (drop l.value l.fun.bounds) ≡ homes_by (λ v. get_or l.numbers v 0) (λ v. get_or l.bounds v 0) l.words 0 l.fun.bounds
