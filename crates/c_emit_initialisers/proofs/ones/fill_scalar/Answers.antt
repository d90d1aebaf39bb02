use Rattle.std.proofs.Common.{ap}
use Rattle.bounds_plan.specs.elaboration.Expressions.{expression}
use Rattle.steps_facts.specs.Seen.{SeenOf, reached_of}
use Rattle.steps_pieces.specs.Put.{put_of}
use Rattle.c_emit_initialisers.proofs.OneLemmas.{scalar_walk}
use Rattle.c_emit_initialisers.proofs.ones.fill_scalar.Goals as goal

pub returns-clause-put : goal.returns-clause-put
returns-clause-put g c = scalar_walk c.args.sort c.args.at c.args.offset c.args.place (expression c.args.e.now (g.K.Knows.around c.args.known.now) (reached_of c.args.r)) _ _ c.args.d _ (put_of c.args.out.now) _ _ _
    c.spot_at-spot.ensures c.value_at.ensures (ap (λ (z : SeenOf). z.number) c.in_ok-x.ensures.seen) c.in_ok-put_part.ensures c.in_ok-x.ensures.put c.in_ok-put_stored.ensures
