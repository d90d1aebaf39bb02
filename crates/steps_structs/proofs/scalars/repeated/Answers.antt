use Rattle.std.proofs.Common.{arith, ◌+◌}
use Rattle.steps_structs.proofs.ScalarLemmas.{many_elements, elements_on, elements_ended}
use Rattle.steps_structs.proofs.scalars.repeated.Goals as goal

pub returns-then-wanted-gt-MOST : goal.returns-then-wanted-gt-MOST
returns-then-wanted-gt-MOST c = many_elements c.args.element.now c.args.count c.args.size (grind (arith, c.saturating_mul-wanted.ensures, c.if-wanted-gt-MOST.true))

pub loop-at-preserved : goal.loop-at-preserved
loop-at-preserved c = elements_on c.loop-at.all c.put_moved.new.all c.args.element.now c.args.count c.loop-at.at (c.loop-at.at + 1) c.in_ok-offset.offset c.args.size _
    c.loop-at-test.true (omega arith) c.in_ok-offset.ensures c.in_ok-put_moved.ensures c.loop-at.invariant

pub returns : goal.returns
returns c = elements_ended c.loop-at.all c.args.element.now c.args.count c.loop-at.at c.args.size (omega (arith, c.loop-at-test.false)) c.loop-at.invariant
    (grind (arith, c.saturating_mul-wanted.ensures, c.if-wanted-gt-MOST.false))
