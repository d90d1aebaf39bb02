-- What a call of a legacy function does where C's log stands beside the world: the run of legacy code, with all that it makes.
use Rattle.std.specs.Prelude.{ℕ, zero, suc, ◌+◌, ◌-◌, ◌/◌, ◌==◌, ◌&&◌, not, Bool, true, if◌then◌else◌, Option, None, Some, List, [], ◌∷◌, ◌++◌, length}
use Rattle.mx_base.specs.declared.limits.Bounds.{Bounds}
use Rattle.mx_base.specs.declared.numbers.IntKind.{IntKind}
use Rattle.mx_base.specs.Numbers.{extended}
use Rattle.mx_base.specs.Bounds.{full_bounds}
use Rattle.mx_base.specs.Regions.{instrumented_code, is_in}
use Rattle.mx_base.specs.Access.{Refusal, refusal}
use Rattle.mx_base.specs.StopOfC.{OutOfTurns, Strayed}
use Rattle.mx_base.specs.World.{World, Root, MadeAt, FullBy, LegacyInit, Log, number_written}
use Rattle.x86_forms.specs.Processor.{Processor, below_stack}
use Rattle.x86_forms.specs.Watch.{is_legacy, landing}
use Rattle.obj_file.specs.Machine.{Ground, State, Event, Goes, Stops as Halts, event}
use Rattle.obj_file.specs.Stored.{Stored}
use Rattle.fat_ir.specs.Values.{Value}
use Rattle.fat_ir.specs.Step.{stop_by}
use Rattle.bounds_plan.specs.meaning.State.{Passed, OfNumber, OfPointer, with_made, with_cause, pages_with, listed}
use Rattle.bounds_plan.specs.meaning.Accesses.{with_granule}
use Rattle.bounds_plan.specs.meaning.Expressions.{Answer, Comes, Stops, CalleeOfC}
use Rattle.bounds_plan.specs.meaning.Functions.{taking_turn}
use Rattle.bounds_plan.specs.steps.Follows.{value_of, values_of}
use Rattle.bounds_plan.specs.meaning.Outside.{made_and_kept}
use Rattle.call_sigs.specs.Signatures.{Result, Nothing, Pointer, Of, parameter_register}
use Rattle.x86_forms.specs.Processor.{rax}
use Rattle.legacy_calls.specs.Legacy.{Linkage, Foreign, ground, as_state, from_state, at_entry, after_outer, far_of, stop_of, entered_at, lent}
use Rattle.obj_file.specs.Beside.{Beside, Noting, noted_ground, alone}

-- ---- an event of legacy code

-- these pages, so many from one on
abbrev pub pages_through : (n page : ℕ) → List ℕ → List ℕ
pages_through zero page pages = pages
pages_through (suc n) page pages = pages_through n (page + 1) (listed page pages)

-- those of an access of any size
abbrev pub with_pages : (at size : ℕ) → Log → Log
with_pages at size l = record l { pages = pages_through ((at + size - 1) / 4096 + 1 - at / 4096) (at / 4096) l.pages }

-- a write adds its pages, a load its granule; bounds that are kept are made by that
abbrev pub legacy_notes : Noting Log
legacy_notes = record { wrote = with_pages; loaded = with_granule; kept = made_and_kept }

abbrev pub ground_of_c : Linkage → Ground (Beside Stored Log)
ground_of_c k = noted_ground (ground k) legacy_notes

abbrev pub as_noted : Foreign → Log → State (Beside Stored Log)
as_noted l log = record { processor = l.processor; memory = record { memory = (as_state l).memory; notes = log }; guest = l.world.guest; steps = 0 }

-- ---- pairs that legacy code hands over

-- those of a bounds register that allows every address
abbrev pub is_init : Bounds → Bool
is_init b = b.lb == full_bounds.lb && b.ub == full_bounds.ub

abbrev pub root_handed : Bounds → Log → Root
root_handed b log = if is_init b then FullBy LegacyInit else MadeAt (length log.made)

abbrev pub handed : Bounds → Log → Log
handed b log = if is_init b then with_cause LegacyInit log else with_made b log

abbrev pub pointer_handed : (address : ℕ) → Bounds → Log → Passed
pointer_handed address b log = OfPointer record { address = address; rooted = record { bounds = b; root = root_handed b log } }

-- the arguments of a C function in the registers, and the log once they are handed over
abbrev pub passed_from : (k b : ℕ) → List (Option IntKind) → Processor → Log → List Passed
passed_from k b [] c log = []
passed_from k b (None ∷ ps) c log = pointer_handed (c.regs (parameter_register k)) (c.bounds b) log ∷ passed_from (k + 1) (b + 1) ps c (handed (c.bounds b) log)
passed_from k b (Some kind ∷ ps) c log = OfNumber (extended kind (c.regs (parameter_register k))) ∷ passed_from (k + 1) b ps c log

abbrev pub all_handed : (b : ℕ) → List (Option IntKind) → Processor → Log → Log
all_handed b [] c log = log
all_handed b (None ∷ ps) c log = all_handed (b + 1) ps c (handed (c.bounds b) log)
all_handed b (Some kind ∷ ps) c log = all_handed b ps c log

-- what legacy code gives back
abbrev pub passed_back : Result → Value → World → Log → Answer
passed_back Nothing v w log = Comes (OfNumber 0) w log
passed_back Pointer v w log = Comes (pointer_handed v.number v.bounds log) w (handed v.bounds log)
passed_back (Of kind) v w log = Comes (OfNumber (extended kind v.number)) w log

-- ---- the run of legacy code

abbrev pub stepped_of_c : World → (Foreign → Log → Answer) → Event (Beside Stored Log) → Answer
stepped_of_c u go (Goes turn t) = go (from_state u (alone t)) t.memory.notes
stepped_of_c u go (Halts turn why t) = Stops (stop_of why) (from_state u (alone t)).world t.memory.notes

abbrev pub judged_return_of_c : (Foreign → Log → Answer) → Foreign → Log → Answer
judged_return_of_c go l log = if is_in instrumented_code l.processor.rip && not (l.processor.rip == landing) then Stops (Strayed l.processor.rip) l.world log else go l log

abbrev pub came_back_of_c : Linkage → Result → (Foreign → Log → Answer) → Foreign → Answer → Answer
came_back_of_c k result go l (Comes v w log) = taking_turn w log (λ u. judged_return_of_c go (after_outer k result l (value_of v) u) log)
came_back_of_c k result go l (Stops why w log) = Stops why w log

-- at the landing; where its bounds come from is said once they are handed over
abbrev pub landed_of_c : Foreign → Log → Answer
landed_of_c l log = Comes (OfPointer record { address = l.processor.regs rax; rooted = record { bounds = l.processor.bounds 0; root = FullBy LegacyInit } }) (record l.world { far = far_of l.processor.regs }) log

abbrev pub legacy_run_of_c : Linkage → CalleeOfC → (room : ℕ) → Foreign → Log → Answer
legacy_run_of_c k own zero l log = Stops OutOfTurns l.world log
legacy_run_of_c k own (suc n) l log =
    if is_legacy l.processor.rip then taking_turn l.world log (λ u. stepped_of_c u (legacy_run_of_c k own n) (event (ground_of_c k) (as_noted l log)))
    else if l.processor.rip == landing then landed_of_c l log
    else came_back_of_c k (k.own (entered_at l.processor.rip)).result (legacy_run_of_c k own n) l
    (own (entered_at l.processor.rip) (passed_from 0 0 (k.own (entered_at l.processor.rip)).parameters l.processor log) (lent l)
    (all_handed 0 (k.own (entered_at l.processor.rip)).parameters l.processor log))

abbrev pub finished_of_c : Result → (sp : ℕ) → Answer → Answer
finished_of_c result sp (Comes v w log) = taking_turn w log (λ u. passed_back result (value_of v) (record u { legacy_sp = sp }) log)
finished_of_c result sp (Stops why w log) = Stops why w log

-- the return address is written by an access without bounds
abbrev pub with_return : (sp : ℕ) → Log → Log
with_return sp log = record log {
  trace = log.trace ++ record { access = record { write = true; at = sp; size = 8 }; bounds = None; made = length log.made; causes = length log.causes } ∷ [];
  pages = pages_with record { write = true; at = sp; size = 8 } log.pages;
}

abbrev pub unless_refused_of_c : Option Refusal → World → Log → Answer → Answer
unless_refused_of_c None w log done = done
unless_refused_of_c (Some why) w log done = Stops (stop_by why) w log

abbrev pub called_in_of_c : Linkage → CalleeOfC → (g : ℕ) → List Passed → World → Log → Answer
called_in_of_c k own g args u log = let sp = below_stack u.legacy_sp in let x = number_written 8 u sp landing in
    unless_refused_of_c (refusal true 8 sp) u log (finished_of_c (k.legacy g).result u.legacy_sp (legacy_run_of_c k own (suc x.turns) (at_entry k g (values_of args) x) (with_return sp log)))

-- the meaning of what is outside, by that of the C functions
abbrev pub outside_of_c : Linkage → CalleeOfC → CalleeOfC
outside_of_c k own g args w log = taking_turn w log (λ u. called_in_of_c k own g args u log)
