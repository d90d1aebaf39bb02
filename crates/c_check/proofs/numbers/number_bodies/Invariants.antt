use Rattle.c_check.proofs.TableLists.{BodiesListed}
use Rattle.c_check.proofs.numbers.number_bodies.Given as goal

abbrev pub invariant-bodies : goal.invariant-bodies
invariant-bodies l = BodiesListed l.fn.table l.table l.all l.bodies l.body-index
