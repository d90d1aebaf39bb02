use Rattle.steps_facts.specs.Around.{scalars_seen}
use Rattle.steps_pieces.specs.Put.{put_of}
use Rattle.steps_filling.proofs.PartLemmas.{on_ok, copied_walk}
use Rattle.steps_filling.proofs.copies.put_copied.Goals as goal

pub returns : goal.returns
returns c = on_ok c.put_copies.result _ _ (copied_walk c.args.size _ c.args.d (scalars_seen c.args.scalars.now) c.args.to c.args.from (put_of c.args.out.now) _ _ _ _ _ c.in_ok-n.ensures
    c.in_ok-put.ensures c.in_ok-put-2.ensures c.in_ok-put-3.ensures c.in_ok-put-4.ensures) c.put_copies.ensures
