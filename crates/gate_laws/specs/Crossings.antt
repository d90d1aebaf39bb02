-- What the gates do: between a call of a legacy function and its code, from the landing back, between legacy code and the C function
-- that it calls, and from the start to `main`.
use Rattle.std.specs.Prelude.{◌≡◌, ◌<◌, ℕ, suc, ◌%◌, ◌&&◌, not, ◌==◌, true, false, Option, None, Some, List, []}
use Rattle.mx_base.specs.Memory.{Bytes}
use Rattle.mx_base.specs.Regions.{instrumented_code, is_in}
use Rattle.mx_base.specs.Access.{Refusal, refusal}
use Rattle.mx_base.specs.StopOfC.{AccessOfC, OutOfTurns, Strayed, Exit}
use Rattle.mx_base.specs.World.{World, number_written}
use Rattle.x86_forms.specs.Processor.{below_stack}
use Rattle.x86_forms.specs.Watch.{is_legacy, landing}
use Rattle.obj_file.specs.Machine.{Event, Goes, Stops as Halts, event}
use Rattle.obj_file.specs.Stored.{Stored}
use Rattle.obj_file.specs.Finals.{final}
use Rattle.fat_ir.specs.Values.{Value}
use Rattle.fat_ir.specs.Calls.{Callee, Outcome, Comes, Stops, Stuck, taking_turn, with_turns, entering, returning}
use Rattle.fat_ir.specs.Step.{stop_by}
use Rattle.fat_ir.specs.Functions.{Linked, body_run, most_depth}
use Rattle.call_sigs.specs.Signatures.{Result}
use Rattle.legacy_calls.specs.Legacy.{Linkage, Foreign, ground, as_state, from_state, at_entry, after_outer, arguments_from, given, stop_of, lent, far_of}
use Rattle.gate_laws.specs.Moments.{Moment, Final}
use Rattle.gate_laws.specs.Standing.{EndsAs, Alongside, AtDoor, AtCall, Back}

-- one level of C functions, over what they call
abbrev pub deeper : (ℕ → Linked) → (own other : Callee) → Callee
deeper program own other f args w = taking_turn w (λ u. entering (program f).fun.frame u (λ x. returning u.data_sp (body_run (program f) own other args x)))

module _ (k : Linkage) (image : Bytes) (places : ℕ → Option AccessOfC) where
  abbrev pub run_from : Moment → Final
  run_from m = final (ground k) m

  -- ---- legacy code

  -- a turn is taken where one is left
  abbrev pub WithTurn : World → Moment → (World → Type 0) → Type 0
  WithTurn w m go = (w.turns ≡ 0 → EndsAs places OutOfTurns w (run_from m)) × ((j : ℕ) → w.turns ≡ suc j → go (with_turns j w))

  -- an event of legacy code on the machine
  abbrev pub After : Bytes → Moment → World → Event Stored → Type 0
  After z m u (Goes turn t) = (n : Moment) × (run_from m ≡ run_from n) × Alongside k z (from_state u t) n
  After z m u (Halts turn why t) = EndsAs places (stop_of why) (from_state u t).world (run_from m)

  abbrev pub EachEvent : Type 0
  EachEvent = (z : Bytes) (l : Foreign) (m : Moment) → Alongside k z l m → is_legacy l.processor.rip ≡ true
      → WithTurn l.world m (λ u. After z m u (event (ground k) (as_state l)))

  -- the return of an outer entry
  abbrev pub Returned : Bytes → Moment → Foreign → Type 0
  Returned z m l = ((is_in instrumented_code l.processor.rip && not (l.processor.rip == landing)) ≡ true → EndsAs places (Strayed l.processor.rip) l.world (run_from m))
      × ((is_in instrumented_code l.processor.rip && not (l.processor.rip == landing)) ≡ false → (n : Moment) × (run_from m ≡ run_from n) × Alongside k z l n)

  abbrev pub DoorEnds : Bytes → Result → Foreign → Moment → Outcome → Type 0
  DoorEnds z result l m (Comes v w) = WithTurn w m (λ u. Returned z m (after_outer k result l v u))
  DoorEnds z result l m (Stops why w) = EndsAs places why w (run_from m)
  DoorEnds z result l m Stuck = Unit {0}

  -- through an outer entry a C function does what it means; how much room the control stack has is seen from what legacy code kept
  abbrev pub EachDoor : (HasSpace : Bytes → Type 0) → Callee → Type 0
  EachDoor HasSpace own = (z : Bytes) (l : Foreign) (m : Moment) (f : ℕ) → HasSpace z → Alongside k z l m → AtDoor k l f
      → DoorEnds z (k.own f).result l m (own f (arguments_from 0 0 (k.own f).parameters l.processor) (lent l))

  -- ---- a call of a legacy function

  -- at the landing a turn is taken, and the stub's caller goes on
  abbrev pub LandingEnds : (depth : ℕ) → Result → (before : Moment) → (sp : ℕ) → Foreign → Moment → Type 0
  LandingEnds depth result before sp l m =
      let v : Value = record { number = l.processor.regs 0; bounds = l.processor.bounds 0 } in
      let w : World = record l.world { far = far_of l.processor.regs } in
      WithTurn w m (λ u. (n : Moment) × (run_from m ≡ run_from n) × Back k image depth result before (given result v) (record u { legacy_sp = sp }) n)

  -- what the stub does once its turn is taken: it stops where it can't write the return address; or legacy code begins with all that is
  -- sealed as z, and what comes from there to the landing goes on behind the call
  abbrev pub StubEnds : (HasSpace : Bytes → Type 0) → (depth g : ℕ) → List Value → (before : Moment) → World → Option Refusal → Type 0
  StubEnds HasSpace depth g args before u (Some why) = EndsAs places (stop_by why) u (run_from before)
  StubEnds HasSpace depth g args before u None = (z : Bytes) × (m : Moment) × (run_from before ≡ run_from m) × HasSpace z
      × Alongside k z (at_entry k g args (number_written 8 u (below_stack u.legacy_sp) landing)) m
      × ((l : Foreign) (n : Moment) → Alongside k z l n → l.processor.rip ≡ landing → LandingEnds depth (k.legacy g).result before u.legacy_sp l n)

  abbrev pub EachStub : (HasSpace : Bytes → Type 0) → (depth : ℕ) → (stub : ℕ → ℕ) → Type 0
  EachStub HasSpace depth stub = (g : ℕ) (args : List Value) (w : World) (m : Moment) → g < k.stubs → AtCall k image depth 112 (stub g) (k.legacy g) args w m
      → WithTurn w m (λ u. StubEnds HasSpace depth g args m u (refusal true 8 (below_stack u.legacy_sp)))

  -- ---- a whole program

  abbrev pub ProgramEnds : Moment → Outcome → Type 0
  ProgramEnds m (Comes v w) = ⊥
  ProgramEnds m (Stops why w) = EndsAs places why w (run_from m)
  ProgramEnds m Stuck = Unit {0}

  -- the start calls `main`, and what comes back ends the program
  abbrev pub Starts : (inner : ℕ → ℕ) (main : ℕ) → World → Moment → Type 0
  Starts inner main w m = (n : Moment) × (run_from m ≡ run_from n) × AtCall k image most_depth 64 (inner main) (k.own main) [] w n
      × ((v : Value) (u : World) (x : Moment) → Back k image most_depth (k.own main).result n v u x → EndsAs places (Exit (v.number % 256)) u (run_from x))
