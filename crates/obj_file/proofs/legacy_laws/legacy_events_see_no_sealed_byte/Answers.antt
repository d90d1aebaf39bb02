use Rattle.obj_file.proofs.LegacyEvents.{event_like}
use Rattle.obj_file.proofs.legacy_laws.legacy_events_see_no_sealed_byte.Goals as goal

pub returns : goal.returns
returns c reads outers preserve s t valid legacy old = event_like reads outers preserve valid s t legacy old
