use Rattle.steps_pieces.specs.Put.{put_of}
use Rattle.steps_filling.proofs.PartLemmas.{on_ok, two_added}
use Rattle.steps_filling.proofs.copies.put_offset.Goals as goal

pub returns : goal.returns
returns c = on_ok c.put-2.result _ _ (two_added _ _ (put_of c.args.out.now) _ _ c.in_ok-put.ensures) c.put-2.ensures
