use Rattle.std.proofs.Common.{◌∙◌, ap}
use Rattle.steps_facts.specs.Seen.{view_of, reached_of}
use Rattle.steps_facts.specs.Around.{scalars_seen}
use Rattle.steps_pieces.specs.Put.{put_of}
use Rattle.c_emit_statements.proofs.EffectLemmas.{copy_all}
use Rattle.c_emit_statements.proofs.effects.copy_struct.Goals as goal

pub returns-clause-put : goal.returns-clause-put
returns-clause-put g c = copy_all (g.K.Knows.around c.args.known.now) c.args.target.now c.args.source.now (reached_of c.args.r) (view_of c.in_ok-x.x) (view_of c.in_ok-y.y) _ _ _ _ _ _ c.args.d (scalars_seen c.as_slice.result.now)
    (put_of c.args.out.now) _ _ _ _ _ c.requires.whole c.if-array.false c.in_ok-x.ensures.seen c.in_ok-y.ensures.seen (ap scalars_seen c.as_slice.ensures ∙ c.in_ok-scalars.ensures)
    c.in_ok-x.ensures.put c.in_ok-put_single.ensures c.in_ok-y.ensures.put c.in_ok-put_single-2.ensures c.in_ok-put_copied.ensures
