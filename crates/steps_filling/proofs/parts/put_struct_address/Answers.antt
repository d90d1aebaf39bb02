use Rattle.steps_pieces.specs.Put.{put_of}
use Rattle.steps_filling.proofs.PartLemmas.{on_ok, number_struct, pointer_struct, frame_struct, nowhere_struct}
use Rattle.steps_filling.proofs.parts.put_struct_address.Goals as goal

pub returns-in-Number : goal.returns-in-Number
returns-in-Number c = on_ok c.put_no_pointer.result _ _ (number_struct c.args.at _ c.args.offset c.args.d (put_of c.args.out.now) _ c.in-Number.is) c.put_no_pointer.ensures

pub returns-in-Pointer : goal.returns-in-Pointer
returns-in-Pointer c = on_ok c.put_no_pointer-in-Pointer.result _ _ (pointer_struct c.args.at _ c.args.offset c.args.d (put_of c.args.out.now) _ c.in-Pointer.is) c.put_no_pointer-in-Pointer.ensures

pub returns-in-Frame : goal.returns-in-Frame
returns-in-Frame c = on_ok c.put_part.result _ _ (frame_struct c.args.at _ _ c.args.offset c.args.d (put_of c.args.out.now) _ c.in-Frame.is) c.put_part.ensures

pub returns-in-Nowhere : goal.returns-in-Nowhere
returns-in-Nowhere c = on_ok c.put_part-in-Nowhere.result _ _ (nowhere_struct c.args.at c.args.offset c.args.d (put_of c.args.out.now) _ c.in-Nowhere.is) c.put_part-in-Nowhere.ensures
