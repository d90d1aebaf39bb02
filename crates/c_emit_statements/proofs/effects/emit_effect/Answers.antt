use Rattle.std.proofs.Common.{◌∙◌, sym, ap}
use Rattle.bounds_plan.specs.elaboration.Expressions.{expression}
use Rattle.steps_facts.specs.Seen.{SeenOf, reached_of}
use Rattle.steps_pieces.specs.Put.{put_of}
use Rattle.c_emit_statements.proofs.EffectLemmas.{evaluated_walk, assigned_does}
use Rattle.c_emit_statements.proofs.effects.emit_effect.Goals as goal

pub returns-in_ok-x-in-None-clause-put : goal.returns-in_ok-x-in-None-clause-put
returns-in_ok-x-in-None-clause-put g c = let around = g.K.Knows.around c.args.known.now in
    evaluated_walk (expression c.args.e.now around (reached_of c.args.r)) c.args.d (put_of c.args.out.now) _ (c.in-None.ensures around (reached_of c.args.r)) c.in_ok-x-in-None.ensures.put

pub returns-in_ok-x-in-Some-clause-put : goal.returns-in_ok-x-in-Some-clause-put
returns-in_ok-x-in-Some-clause-put g c = let around = g.K.Knows.around c.args.known.now in
    evaluated_walk (expression c.args.e.now around (reached_of c.args.r)) c.args.d (put_of c.args.out.now) _
    (assigned_does c.args.e.now c.in-Some.target.now c.in-Some.source.now around (reached_of c.args.r) c.in_ok-a-in-Some.a.facts.sort c.in-Some.ensures (ap (λ (z : SeenOf). z.facts.sort) c.in_ok-a-in-Some.ensures)
    (sym c.is_whole-whole.ensures ∙ c.if-whole.false)) c.in_ok-x-in-Some.ensures.put
