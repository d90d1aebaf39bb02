use Rattle.c_types.specs.Types.{type_at}
use Rattle.bounds_plan.specs.elaboration.Expressions.{expression}
use Rattle.steps_facts.specs.Seen.{reached_of}
use Rattle.steps_pieces.specs.Put.{put_of}
use Rattle.c_emit.proofs.Walks.{on_ok}
use Rattle.c_emit_initialisers.proofs.OneLemmas.{one_number, one_pointer}
use Rattle.c_emit_initialisers.proofs.ones.fill_one.Goals as goal

pub returns-in-Int-clause-put : goal.returns-in-Int-clause-put
returns-in-Int-clause-put g c = on_ok c.fill_scalar.result _ _ (one_number (g.K.Knows.around c.args.known.now) (type_at (g.K.Knows.table c.args.known.now) c.args.kind) c.in-Int.number c.args.at c.args.offset c.args.place
    (expression c.args.e.now (g.K.Knows.around c.args.known.now) (reached_of c.args.r)) c.args.d (put_of c.args.out.now) _ c.in-Int.ensures.means) c.fill_scalar.ensures.put

pub returns-in-Pointer-clause-put : goal.returns-in-Pointer-clause-put
returns-in-Pointer-clause-put g c = on_ok c.fill_scalar-in-Pointer.result _ _ (one_pointer (g.K.Knows.around c.args.known.now) (type_at (g.K.Knows.table c.args.known.now) c.args.kind) _ c.args.at c.args.offset c.args.place
    (expression c.args.e.now (g.K.Knows.around c.args.known.now) (reached_of c.args.r)) c.args.d (put_of c.args.out.now) _ c.in-Pointer.ensures.means) c.fill_scalar-in-Pointer.ensures.put
