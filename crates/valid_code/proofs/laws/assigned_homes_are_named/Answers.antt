use Rattle.std.proofs.Common.{sym, subst, ◌+◌, ◌<◌, ◌≤◌, arith}
use Rattle.reg_assign.specs.Homes.{IsNamed}
use Rattle.valid_code.proofs.laws.assigned_homes_are_named.Goals as goal

pub returns : goal.returns
returns c = λ f h p spare are. record {
  homes = λ v. subst IsNamed (sym (spare.has.home v)) (are.named v);
  spare = (let few = are.few in let is = spare.spare in omega (arith, few, is));
}
