use Rattle.std.proofs.Common.{◌∙◌, ap, arith}
use Rattle.steps_facts.specs.Around.{scalars_seen}
use Rattle.steps_pieces.specs.Put.{put_of}
use Rattle.c_emit_initialisers.proofs.ZeroLemmas.{members_on, drop_on}
use Rattle.c_emit_initialisers.proofs.rests.put_members_rest.Goals as goal

pub loop-part-preserved : goal.loop-part-preserved
loop-part-preserved g c = members_on (g.K.Knows.around c.args.known.now).structs (g.K.Knows.table c.args.known.now) c.args.place _ _ _ c.args.offset _ (scalars_seen c.as_slice.result.now) c.args.at c.args.d (put_of c.loop-part.out) _
    (drop_on c.args.parts.now c.loop-part.part-index _ _ c.loop-part-test.true (omega arith)) c.in_ok-to.ensures (ap scalars_seen c.as_slice.ensures ∙ c.in_ok-scalars.ensures) c.in_ok-put_zeros.ensures
    ∙ c.loop-part.invariant
