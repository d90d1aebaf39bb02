use Rattle.obj_file.proofs.StoreOfC.{event_in_c}
use Rattle.obj_file.proofs.store_laws.events_load_and_keep_in_words_of_c.Goals as goal

pub returns : goal.returns
returns c = event_in_c
