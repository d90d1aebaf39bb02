use Rattle.steps_pieces.specs.Put.{put_of}
use Rattle.steps_filling.proofs.PartLemmas.{on_ok, pointer_copy, number_copy}
use Rattle.steps_filling.proofs.copies.put_copy.Goals as goal

pub returns-in_ok-put_offset-in-None : goal.returns-in_ok-put_offset-in-None
returns-in_ok-put_offset-in-None c = on_ok c.put-in-None.result _ _ (pointer_copy c.args.x.offset c.args.d c.args.x.kind (put_of c.args.out.now) _ _ _ _ c.in-None.is c.in_ok-put_offset.ensures c.in_ok-put-in-None.ensures
    c.in_ok-put_offset-in-None.ensures) c.put-in-None.ensures

pub returns-in_ok-put_offset-in-Some : goal.returns-in_ok-put_offset-in-Some
returns-in_ok-put_offset-in-Some c = on_ok c.put-in-Some-2.result _ _ (number_copy c.args.x.offset c.args.d c.in-Some.kind c.args.x.kind (put_of c.args.out.now) _ _ _ _ c.in-Some.is c.in_ok-put_offset.ensures c.in_ok-put-in-Some.ensures
    c.in_ok-put_offset-in-Some.ensures) c.put-in-Some-2.ensures
