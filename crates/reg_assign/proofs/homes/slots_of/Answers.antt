use Rattle.std.proofs.Common.{arith, length, inl, inr}
use Rattle.std.proofs.lemmas.Bool.{cases_lt}
use Rattle.reg_assign.proofs.Noises.{past_end}
use Rattle.reg_assign.proofs.homes.slots_of.Goals as goal

pub returns-clause-all : goal.returns-clause-all
returns-clause-all c v = elim (cases_lt v (length c.args.places.now)) [
  | inl lt ↦ c.loop-place.invariant.all v (let t = c.loop-place-test.false in omega (arith, c.loop-place.auto))
  | inr le ↦ let e = past_end c.args.places.now v le in let s = c.requires.some in omega arith
]
