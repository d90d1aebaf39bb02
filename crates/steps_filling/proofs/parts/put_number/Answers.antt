use Rattle.steps_pieces.specs.Put.{put_of}
use Rattle.steps_filling.proofs.PartLemmas.{on_ok, number_walk}
use Rattle.steps_filling.proofs.parts.put_number.Goals as goal

pub returns : goal.returns
returns c = on_ok c.put_stored.result _ _ (number_walk c.args.kind c.args.at c.args.offset c.args.place c.args.n c.args.d _ _ (put_of c.args.out.now) _ _ _ c.spot_at-spot.ensures c.value_at.ensures
    c.in_ok-put_part.ensures c.in_ok-put_word.ensures) c.put_stored.ensures
