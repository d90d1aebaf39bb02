use Rattle.x86_core.proofs.Stepping.{stored, refused_store}
use Rattle.x86_core.proofs.operands.store.Goals as goal

pub returns-in-Ok-clause-answer : goal.returns-in-Ok-clause-answer
returns-in-Ok-clause-answer c = stored c.args.m.now c.store.new.self c.args.n c.args.at c.args.v c.in-Ok.ensures.answer.0 c.in-Ok.ensures.answer.1

pub returns-in-Err-clause-answer : goal.returns-in-Err-clause-answer
returns-in-Err-clause-answer c = refused_store c.args.m.now c.store.new.self c.args.n c.args.at c.args.v c.in-Err.stop c.in-Err.ensures.answer
