use Rattle.steps_pieces.specs.Put.{put_of}
use Rattle.steps_filling.proofs.PartLemmas.{on_ok, null_walk}
use Rattle.steps_filling.proofs.parts.put_null.Goals as goal

pub returns : goal.returns
returns c = on_ok c.put_stored.result _ _ (null_walk c.args.at c.args.offset c.args.place c.args.d _ _ (put_of c.args.out.now) _ _ _ c.spot_at-spot.ensures c.value_at.ensures
    c.in_ok-put_part.ensures c.in_ok-put_no_pointer.ensures) c.put_stored.ensures
