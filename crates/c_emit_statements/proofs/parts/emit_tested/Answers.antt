use Rattle.steps_facts.specs.Seen.{reached_of}
use Rattle.steps_pieces.specs.Put.{put_of}
use Rattle.c_emit_statements.proofs.WalkLemmas.{nothing_tested}
use Rattle.c_emit_statements.proofs.parts.emit_tested.Goals as goal

pub returns-in_ok-put_word-in-None-clause-put : goal.returns-in_ok-put_word-in-None-clause-put
returns-in_ok-put_word-in-None-clause-put g c = nothing_tested c.args.test.now (g.K.Knows.around c.args.known.now) (reached_of c.args.r) c.args.d (put_of c.args.out.now) _ c.in-None.is c.in_ok-put_word-in-None.ensures
