-- Legacy code takes no turns back, its output only grows, and all accesses for C are as C asks.
use Rattle.std.specs.Prelude.{not, ◌==◌}
use Rattle.std.proofs.Common.{◌≡◌, ℕ, Bool, true, false, cond, Option, None, Some, List, [], ◌∷◌, refl, ◌∙◌, subst, arith}
use Rattle.mx_base.specs.declared.stops.Stop.{Stop}
use Rattle.mx_base.specs.Heap.{Heap, freed}
use Rattle.mx_base.specs.Memory.{Bytes}
use Rattle.mx_base.specs.Services.{Guest, Service, Write, Exit, Alloc, Free, Print, Put, Get, StackOver, NoService, Served, Answers, served, service_of, gotten, free_answer, written, minus}
use Rattle.mx_base.specs.World.{Log}
use Rattle.x86_forms.specs.Processor.{rax}
use Rattle.obj_file.specs.Machine.{Ground, State, asked, event}
use Rattle.fat_ir.proofs.Worlds.{Begins, begins-same, begins-more}
use Rattle.bounds_plan.specs.laws.Laws.{LeftOutside, NoMoreTurns, OutputGrows, Judged}
use Rattle.bounds_plan.proofs.Worlds.{longer, longer-by-none, judged, no_access}
use Rattle.legacy_calls.specs.Legacy.{Linkage, Foreign, ground}
use Rattle.obj_file.specs.Keeping.{KeepsByRequests, KeepsByServices, EventLeaves}
use Rattle.legacy_calls.specs.OfC.{handed, legacy_notes, ground_of_c, as_noted, outside_of_c}
use Rattle.obj_file.proofs.EventsKeep.{After, event_keeps}
use Rattle.legacy_calls.proofs.Kept.{KeepsLegacy, one-trace, outside_keeps}
use Rattle.legacy_calls.proofs.Requests.{notes_keep, any_service, any_request, each_leaves, then_leaves}

-- ---- turns

legacy_fewer : (k : Linkage) → KeepsLegacy k NoMoreTurns
legacy_fewer k = record {
  same = λ w l. omega arith;
  join = λ w l u m v n h g. omega (arith, h, g);
  turned = λ w l n e. omega (arith, e);
  handed_over = λ w l b. omega arith;
  moved = λ w l far sp. omega arith;
  returned = λ w l sp e. omega arith;
  event = λ l log. each_leaves _ (λ t. omega arith) (event (ground_of_c k) (as_noted l log));
}

pub outside_takes_none_back : (k : Linkage) → LeftOutside NoMoreTurns (outside_of_c k)
outside_takes_none_back k = outside_keeps k NoMoreTurns (legacy_fewer k)

-- ---- output

abbrev Longer : List ℕ → Served Stop → Type 0
Longer out (Answers x h) = Begins out h.out
Longer out _ = Unit {0}

put : (m : Bytes) (from n : ℕ) (g : Guest) (o : Option Stop) → Longer g.out (written m from n g o)
put m from n g None = begins-more g.out _
put m from n g (Some why) = tt

either : (out : List ℕ) (b : Bool) (x y : Served Stop) → Longer out x → Longer out y → Longer out (cond b x y)
either out true x y h k = h
either out false x y h k = k

got : (g : Guest) (input : List ℕ) → Longer g.out (gotten g input)
got g [] = begins-same g.out
got g (b ∷ rest) = begins-same g.out

gave : (g : Guest) (h : Option Heap) → Longer g.out (free_answer g h)
gave g None = begins-same g.out
gave g (Some h) = begins-same g.out

serves_longer : (m : Bytes) (judge : ℕ → ℕ → Option Stop) (service : Service) (a b c : ℕ) (g : Guest) → Longer g.out (served m judge service a b c g)
unfolding served
serves_longer m judge Write a b c g = either g.out (not (a == 1)) (Answers (minus 9) g) (cond (c == 0) (Answers 0 g) (written m b c g (judge b c))) (begins-same g.out)
    (either g.out (c == 0) (Answers 0 g) (written m b c g (judge b c)) (begins-same g.out) (put m b c g (judge b c)))
serves_longer m judge Exit a b c g = tt
serves_longer m judge Alloc a b c g = begins-same g.out
serves_longer m judge Free a b c g = gave g (freed g.heap a)
serves_longer m judge Print a b c g = begins-more g.out _
serves_longer m judge Put a b c g = begins-more g.out _
serves_longer m judge Get a b c g = got g g.input
serves_longer m judge StackOver a b c g = tt
serves_longer m judge NoService a b c g = begins-same g.out

asked_longer : {X : Type 0} (g : Ground X) (s : State X) → Longer s.guest.out (asked g s)
unfolding asked
asked_longer g s = serves_longer _ _ (service_of (s.processor.regs rax)) _ _ _ s.guest

pub grows_by_services : {X : Type 0} (g : Ground X) → KeepsByServices g (λ a b. Begins a.out b.out)
grows_by_services g = record { same = λ h. begins-same h.out; served = λ s word h e. subst (λ (a : Served Stop). Longer s.guest.out a) e (asked_longer g s) }

legacy_longer : (k : Linkage) → KeepsLegacy k OutputGrows
legacy_longer k = record {
  same = longer.same;
  join = longer.join;
  turned = longer.turned;
  handed_over = λ w l b. longer.logged w l (handed b l) (one-trace b l);
  moved = λ w l far sp. longer-by-none w l _ l refl;
  returned = λ w l sp e. longer-by-none w l _ _ refl;
  event = λ l log. let g = ground_of_c k in
      then_leaves (After g (λ a b. Unit {0}) (any_request g) (λ a b. Begins a.out b.out) (grows_by_services g) (as_noted l log)) _ (λ t h. record { more = h.1.more; is = h.1.is }) (event g (as_noted l log))
      (event_keeps g (λ a b. Unit {0}) (any_request g) (λ a b. Begins a.out b.out) (grows_by_services g) (as_noted l log));
}

pub output_grows_outside : (k : Linkage) → LeftOutside OutputGrows (outside_of_c k)
output_grows_outside k = outside_keeps k OutputGrows (legacy_longer k)

-- ---- accesses: those of legacy code are none of C's

abbrev SameTrace : Log → Log → Type 0
SameTrace l m = m.trace ≡ l.trace

traces_stay : (k : Linkage) → KeepsByRequests (ground_of_c k) (λ y z. SameTrace y.notes z.notes)
traces_stay k = notes_keep (ground k) legacy_notes SameTrace (λ l. refl) (λ l m o h g. g ∙ h) (λ at size l. refl) (λ at l. refl) (λ at b l. refl)

pub event_traces : (k : Linkage) (l : Foreign) (log : Log) → EventLeaves (λ t. t.memory.notes.trace ≡ log.trace) (event (ground_of_c k) (as_noted l log))
event_traces k l log = let g = ground_of_c k in
    then_leaves (After g (λ y z. SameTrace y.notes z.notes) (traces_stay k) (λ a b. Unit {0}) (any_service g) (as_noted l log)) _ (λ t h. h.0) (event g (as_noted l log))
    (event_keeps g (λ y z. SameTrace y.notes z.notes) (traces_stay k) (λ a b. Unit {0}) (any_service g) (as_noted l log))

legacy_judged : (k : Linkage) → KeepsLegacy k Judged
legacy_judged k = record {
  same = judged.same;
  join = judged.join;
  turned = judged.turned;
  handed_over = λ w l b. judged.logged w l (handed b l) (one-trace b l);
  moved = λ w l far sp. no_access w l _ l refl refl;
  returned = λ w l sp e. record { more = _ ∷ []; trace = refl; accesses = refl; within = (tt, tt); allowed = (e, tt) };
  event = λ l log. then_leaves (λ t. t.memory.notes.trace ≡ log.trace) _ (λ t h. no_access l.world log _ t.memory.notes h refl) (event (ground_of_c k) (as_noted l log)) (event_traces k l log);
}

pub accesses_judged_outside : (k : Linkage) → LeftOutside Judged (outside_of_c k)
accesses_judged_outside k = outside_keeps k Judged (legacy_judged k)
