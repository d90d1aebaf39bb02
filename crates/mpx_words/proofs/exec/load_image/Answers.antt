use Rattle.std.proofs.Common.{ℕ}
use Rattle.std.specs.declared.vec.Vec.{Vec}
use Rattle.std.specs.Global.{Global}
use Rattle.obj_file.specs.declared.image.Image.{Image}
use Rattle.mpx_words.specs.Files.{image_form}
use Rattle.mpx_words.proofs.Formed.{refused_bytes, loads, load_counts, same_counts}
use Rattle.mpx_words.proofs.exec.load_image.Goals as goal

pub returns-in-Err-clause-loads : goal.returns-in-Err-clause-loads
returns-in-Err-clause-loads g c = refused_bytes image_form _ _ c.in-Err.ensures.loads

pub returns-in-Err-clause-counts : goal.returns-in-Err-clause-counts
returns-in-Err-clause-counts g c = same_counts (Vec ℕ Global) Image _ _ _ c.in-Err.ensures.counts

pub returns-in-Ok-clause-loads : goal.returns-in-Ok-clause-loads
returns-in-Ok-clause-loads g c = loads image_form _ c.in-Ok.bytes _ _ c.as_slice.ensures.value c.in-Ok.ensures.loads c.image_in.ensures.reads

pub returns-in-Ok-clause-counts : goal.returns-in-Ok-clause-counts
returns-in-Ok-clause-counts g c = load_counts image_form _ _ _ _ c.image_in.ensures.reads c.in-Ok.ensures.counts
