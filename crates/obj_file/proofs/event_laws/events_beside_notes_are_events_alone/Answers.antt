use Rattle.obj_file.proofs.EventsAlone.{event_is_alone}
use Rattle.obj_file.proofs.event_laws.events_beside_notes_are_events_alone.Goals as goal

pub returns : goal.returns
returns x c = event_is_alone
