use Rattle.obj_file.proofs.ImageLaws.{segments_short}
use Rattle.obj_file.proofs.image_writer.write_image.Goals as goal

pub put_segments-requires-clause-short : goal.put_segments-requires-clause-short
put_segments-requires-clause-short c = rw c.as_slice.ensures (segments_short c.args.i.now.segments c.requires.segments)
