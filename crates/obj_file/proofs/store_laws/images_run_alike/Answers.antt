use Rattle.obj_file.proofs.StoredImages.{image_ends, image_makes}
use Rattle.obj_file.proofs.store_laws.images_run_alike.Goals as goal

pub returns-clause-ends : goal.returns-clause-ends
returns-clause-ends c = image_ends

pub returns-clause-accesses : goal.returns-clause-accesses
returns-clause-accesses c = image_makes
