use Rattle.assembler.proofs.UseLemmas.{taken_more}
use Rattle.assembler.proofs.object.symbols_of.Goals as goal

pub loop-number-preserved : goal.loop-number-preserved
loop-number-preserved c =
    taken_more c.args.table.now c.loop-number.symbols.items c.push.new.self.items c.loop-number.number c.in_ok-at.field-0 c.loop-number.invariant c.in_ok-push.ensures.items c.in_ok-at.ensures
