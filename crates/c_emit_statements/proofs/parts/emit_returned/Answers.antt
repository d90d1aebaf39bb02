use Rattle.std.proofs.Common.{ap}
use Rattle.steps_facts.specs.Seen.{SeenOf, reached_of}
use Rattle.steps_pieces.specs.Put.{put_of}
use Rattle.c_emit_statements.proofs.WalkLemmas.{nothing_returned, value_returned}
use Rattle.c_emit_statements.proofs.parts.emit_returned.Goals as goal

pub returns-in_ok-put_nothing_given-in-None-clause-put : goal.returns-in_ok-put_nothing_given-in-None-clause-put
returns-in_ok-put_nothing_given-in-None-clause-put g c = nothing_returned c.args.value.now (g.K.Knows.around c.args.known.now) (reached_of c.args.r) c.args.d (put_of c.args.out.now) _ c.in-None.is c.in_ok-put_nothing_given-in-None.ensures

pub returns-in_ok-put_given-in-Some-clause-put : goal.returns-in_ok-put_given-in-Some-clause-put
returns-in_ok-put_given-in-Some-clause-put g c = value_returned c.args.value.now c.in-Some.e (g.K.Knows.around c.args.known.now) (reached_of c.args.r) _ _ _ c.args.d (put_of c.args.out.now) _ _ c.in-Some.is c.result-sort.ensures
    (ap (λ (z : SeenOf). z.number) c.in_ok-x-in-Some.ensures.seen) c.given_number.ensures c.in_ok-x-in-Some.ensures.put c.in_ok-put_given-in-Some.ensures
