use Rattle.obj_file.proofs.StoredEvents.{event_alike}
use Rattle.obj_file.proofs.store_laws.events_go_alike.Goals as goal

pub returns : goal.returns
returns c = event_alike
