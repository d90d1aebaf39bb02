-- Each event leaves a guest as services leave it.
use Rattle.std.specs.Prelude.{Bool, not, ◌==◌}
use Rattle.std.proofs.Common.{◌≡◌, ℕ, Option, None, Some, subst, arith}
use Rattle.std.proofs.lemmas.Bool.{cond_both}
use Rattle.mx_base.specs.Guests.{GuestFits, AnswerFits}
use Rattle.mx_base.specs.Memory.{Bytes}
use Rattle.mx_base.specs.Services.{Guest, Service, Write, Exit, Alloc, Free, Print, Put, Get, StackOver, NoService, Served, Answers, Exits, Overflows, Refused, served, service_of, written}
use Rattle.mx_base.specs.declared.stops.Stop.{Stop}
use Rattle.mx_base.proofs.GuestLemmas.{served_fits}
use Rattle.x86_forms.specs.Processor.{rax}
use Rattle.obj_file.specs.Machine.{Ground, State, Event, Goes, event, asked}
use Rattle.obj_file.specs.Stored.{Stored}
use Rattle.obj_file.specs.Keeping.{KeepsByServices, EventLeaves}
use Rattle.obj_file.proofs.EventsKeep.{event_keeps}
use Rattle.legacy_calls.proofs.Requests.{any_request}

abbrev Left : Served Stop → Type 0
Left (Answers word g) = GuestFits g
Left (Exits code) = Unit {0}
Left Overflows = Unit {0}
Left (Refused why) = Unit {0}

module _ (g : Guest) (h : GuestFits g) where
  written_left : (m : Bytes) (at size : ℕ) (o : Option Stop) → Left (written m at size g o)
  written_left m at size None = record { free = h.free; live = h.live; input = h.input }
  written_left m at size (Some why) = tt

  answer_left : (a : Served Stop) → AnswerFits a → Left a
  answer_left (Answers word k) e = e.1
  answer_left (Exits code) e = tt
  answer_left Overflows e = tt
  answer_left (Refused why) e = tt

  served_left : (m : Bytes) (judge : ℕ → ℕ → Option Stop) (service : Service) (a b c : ℕ) → Left (served m judge service a b c g)
  unfolding served
  served_left m judge Write a b c = cond_both (not (a == 1)) _ _ (λ (z : Served Stop). Left z) (λ e. h) (λ e. cond_both (c == 0) _ _ (λ (z : Served Stop). Left z) (λ f. h) (λ f. written_left m b c (judge b c)))
  served_left m judge Exit a b c = tt
  served_left m judge Alloc a b c = answer_left (served m judge Alloc a b 0 g) (served_fits g h Alloc m judge a b 0 (omega arith))
  served_left m judge Free a b c = answer_left (served m judge Free a b 0 g) (served_fits g h Free m judge a b 0 (omega arith))
  served_left m judge Print a b c = answer_left (served m judge Print a b 0 g) (served_fits g h Print m judge a b 0 (omega arith))
  served_left m judge Put a b c = answer_left (served m judge Put a b 0 g) (served_fits g h Put m judge a b 0 (omega arith))
  served_left m judge Get a b c = answer_left (served m judge Get a b 0 g) (served_fits g h Get m judge a b 0 (omega arith))
  served_left m judge StackOver a b c = tt
  served_left m judge NoService a b c = h

abbrev Stays : Guest → Guest → Type 0
Stays g h = GuestFits g → GuestFits h

asked_left : (g : Ground Stored) (s : State Stored) → GuestFits s.guest → Left (asked g s)
unfolding asked
asked_left g s h = served_left s.guest h _ _ (service_of (s.processor.regs rax)) _ _ _

guests_stay : (g : Ground Stored) → KeepsByServices g Stays
guests_stay g = record { same = λ h fits. fits; served = λ s word h e fits. subst (λ (a : Served Stop). Left a) e (asked_left g s fits) }

-- whatever an event does, the guest fits behind it
pub event_fits : (g : Ground Stored) (s : State Stored) → GuestFits s.guest → (turn : Bool) (t : State Stored) → event g s ≡ Goes turn t → GuestFits t.guest
event_fits g s fits turn t e =
    (subst (λ (x : Event Stored). EventLeaves (λ u. Unit {0} × Stays s.guest u.guest) x) e (event_keeps g (λ a b. Unit {0}) (any_request g) Stays (guests_stay g) s)).1 fits
