use Rattle.std.proofs.Common.{refl}
use Rattle.c_types.specs.Types.{type_at}
use Rattle.bounds_plan.specs.elaboration.Expressions.{expression}
use Rattle.steps_facts.specs.Seen.{reached_of}
use Rattle.steps_pieces.specs.Put.{put_of}
use Rattle.c_emit_initialisers.proofs.OneLemmas.{text_walk}
use Rattle.c_emit_initialisers.proofs.ones.fill_text.Goals as goal

pub returns-clause-put : goal.returns-clause-put
returns-clause-put g c = text_walk (g.K.Knows.around c.args.known.now) (type_at (g.K.Knows.table c.args.known.now) c.args.element) c.args.count c.in_ok-facts.facts.size c.kind_of-kind.result c.in_ok-facts.facts c.args.at c.args.offset c.args.place
    (expression c.args.e.now (g.K.Knows.around c.args.known.now) (reached_of c.args.r)) c.text_of-text.result.now c.args.d (put_of c.args.out.now) _ c.in_ok-facts.ensures c.kind_of-kind.ensures refl
    (c.text_of-text.ensures (g.K.Knows.around c.args.known.now) (reached_of c.args.r)) c.in_ok-put_text_filled.ensures
