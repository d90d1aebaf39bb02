use Rattle.obj_file.proofs.StoredServed.{kept_stands}
use Rattle.obj_file.proofs.store_laws.kept_bounds_stand_in_their_entries.Goals as goal

pub returns : goal.returns
returns c = kept_stands
