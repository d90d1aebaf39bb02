use Rattle.steps_facts.specs.Seen.{reached_of}
use Rattle.steps_pieces.specs.Put.{put_of}
use Rattle.c_emit_statements.proofs.WalkLemmas.{nothing_done}
use Rattle.c_emit_statements.proofs.parts.emit_done.Goals as goal

pub returns-in-None-clause-put : goal.returns-in-None-clause-put
returns-in-None-clause-put g c = nothing_done c.args.value.now (g.K.Knows.around c.args.known.now) (reached_of c.args.r) c.args.d (put_of c.args.out.now) c.in-None.is
