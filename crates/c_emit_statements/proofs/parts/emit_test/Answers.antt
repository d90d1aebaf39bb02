use Rattle.std.proofs.Common.{◌∙◌, sym}
use Rattle.bounds_plan.specs.elaboration.Expressions.{expression}
use Rattle.steps_facts.specs.Seen.{reached_of}
use Rattle.steps_pieces.specs.Put.{put_of}
use Rattle.c_emit_statements.proofs.WalkLemmas.{number_went}
use Rattle.c_emit_statements.proofs.parts.emit_test.Goals as goal

pub returns-clause-put : goal.returns-clause-put
returns-clause-put g c = c.in_ok-x.ensures.put ∙ sym (number_went (expression c.args.test.now (g.K.Knows.around c.args.known.now) (reached_of c.args.r)) c.args.d (put_of c.args.out.now))
