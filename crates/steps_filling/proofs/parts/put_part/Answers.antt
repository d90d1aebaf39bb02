use Rattle.steps_pieces.specs.Put.{put_of}
use Rattle.steps_filling.proofs.PartLemmas.{on_ok, number_part, pointer_part, frame_part, nowhere_part}
use Rattle.steps_filling.proofs.parts.put_part.Goals as goal

pub returns-in-Number : goal.returns-in-Number
returns-in-Number c = number_part c.args.at _ c.args.offset c.args.d (put_of c.args.out.now) c.in-Number.is

pub returns-in-Pointer : goal.returns-in-Pointer
returns-in-Pointer c = pointer_part c.args.at _ c.args.offset c.args.d (put_of c.args.out.now) c.in-Pointer.is

pub returns-in_ok-put-in-Frame : goal.returns-in_ok-put-in-Frame
returns-in_ok-put-in-Frame c = on_ok c.put_further.result _ _ (frame_part c.args.at c.in-Frame.front c.in-Frame.size c.args.offset c.args.d (put_of c.args.out.now) _ _ c.in-Frame.is c.in_ok-put-in-Frame.ensures) c.put_further.ensures

pub returns-in_ok-put_no_pointer-in-Nowhere : goal.returns-in_ok-put_no_pointer-in-Nowhere
returns-in_ok-put_no_pointer-in-Nowhere c = on_ok c.put_further-in-Nowhere.result _ _ (nowhere_part c.args.at c.args.offset c.args.d (put_of c.args.out.now) _ _ c.in-Nowhere.is c.in_ok-put_no_pointer-in-Nowhere.ensures) c.put_further-in-Nowhere.ensures
