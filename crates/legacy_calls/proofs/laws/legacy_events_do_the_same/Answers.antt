use Rattle.legacy_calls.specs.Legacy.{ground}
use Rattle.legacy_calls.specs.OfC.{legacy_notes}
use Rattle.obj_file.proofs.EventsAlone.{event_is_alone}
use Rattle.legacy_calls.proofs.laws.legacy_events_do_the_same.Goals as goal

pub returns : goal.returns
returns c = λ k s. event_is_alone (ground k) legacy_notes s
