use Rattle.mpx_core.proofs.Views.{words_set}
use Rattle.mpx_core.proofs.registers.set_register.Goals as goal

pub returns-clause-bounds : goal.returns-clause-bounds
returns-clause-bounds c = words_set c.args.b.now.lb c.args.b.now.held c.set_word.new.words c.set_word-2.new.words c.args.k c.args.lb c.args.held c.set_word.ensures c.set_word-2.ensures
