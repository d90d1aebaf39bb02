use Rattle.obj_file.proofs.StoredStart.{starts_alike}
use Rattle.obj_file.proofs.store_laws.images_begin_alike.Goals as goal

pub returns : goal.returns
returns c v preserve input image bytes = starts_alike v image bytes preserve input
