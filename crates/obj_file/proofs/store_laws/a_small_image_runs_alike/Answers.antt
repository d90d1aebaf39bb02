use Rattle.obj_file.proofs.StoredExample.{example_readable, example_is_image, example_stays, walk_computes, store_computes}
use Rattle.obj_file.proofs.store_laws.a_small_image_runs_alike.Goals as goal

pub returns-clause-readable : goal.returns-clause-readable
returns-clause-readable c = example_readable

pub returns-clause-image : goal.returns-clause-image
returns-clause-image c = example_is_image

pub returns-clause-stays_out : goal.returns-clause-stays_out
returns-clause-stays_out c = example_stays

pub returns-clause-walk : goal.returns-clause-walk
returns-clause-walk c = walk_computes

pub returns-clause-store : goal.returns-clause-store
returns-clause-store c = store_computes
