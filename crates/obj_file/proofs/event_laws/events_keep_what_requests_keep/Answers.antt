use Rattle.std.proofs.Common.{◌≡◌, true}
use Rattle.obj_file.proofs.EventsKeep.{event_keeps}
use Rattle.obj_file.proofs.event_laws.events_keep_what_requests_keep.Goals as goal

pub returns : goal.returns
returns x c g r q keeps serves = event_keeps g (λ a b. r a b ≡ true) keeps (λ a b. q a b ≡ true) serves
