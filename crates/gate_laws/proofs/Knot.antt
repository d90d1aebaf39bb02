-- The knot: legacy code against the machine over any meaning of C functions, and the closing induction on the depth that is left.
use Rattle.fat_ir.specs.Laws.{FramesGivenBack}
use Rattle.legacy_calls.proofs.Giving.{frames_of, outside_gives}
use Rattle.std.specs.Prelude.{true, false, ◌&&◌, not, ◌==◌, Option, None, Some, List, [], ◌%◌}
use Rattle.std.proofs.Common.{◌≡◌, ℕ, zero, suc, ◌<◌, refl, arith, ◌∙◌, sym, subst}
use Rattle.std.proofs.lemmas.Bool.{cond_both}
use Rattle.std.proofs.lemmas.Bool.Decides.{nat_tests}
use Rattle.mx_base.specs.Memory.{Bytes}
use Rattle.mx_base.specs.Regions.{instrumented_code, is_in}
use Rattle.mx_base.specs.Access.{Refusal, refusal}
use Rattle.mx_base.specs.StopOfC.{StopOfC, OutOfTurns, Exit, AccessOfC}
use Rattle.mx_base.specs.World.{World, number_written}
use Rattle.x86_forms.specs.Processor.{below_stack}
use Rattle.x86_forms.specs.Watch.{is_legacy, landing, outer_entry}
use Rattle.obj_file.specs.Machine.{Event, Goes, Stops as Halts, event}
use Rattle.obj_file.specs.Stored.{Stored}
use Rattle.fat_ir.specs.Values.{Value}
use Rattle.fat_ir.specs.Calls.{Callee, Outcome, Comes, Stops, Stuck, turn_from, with_turns}
use Rattle.fat_ir.specs.Functions.{Linked, calls, program_run, exited, most_depth}
use Rattle.fat_ir.specs.Laws.{Leaves, LeftByCalls, LeftOutside, NoMoreTurns}
use Rattle.call_sigs.specs.Signatures.{Result}
use Rattle.obj_file.specs.Finals.{final}
use Rattle.gate_laws.specs.Moments.{Moment, Final}
use Rattle.legacy_calls.specs.Legacy.{Linkage, Foreign, ground, as_state, from_state, at_entry, after_outer, arguments_from, given, stepped, judged_return, came_back, entered_at, lent, landed, legacy_run, finished, unless_refused, called_in, outside, far_of}
use Rattle.legacy_calls.specs.Laws.{KeepsStacks}
use Rattle.gate_laws.specs.Standing.{EndsAs, Alongside, AtDoor, LegacyEnds, Back, CallEnds, Calls}
use Rattle.gate_laws.specs.Crossings.{deeper, WithTurn, After, EachEvent, Returned, DoorEnds, EachDoor, LandingEnds, StubEnds, EachStub, ProgramEnds, Starts}

module _ (k : Linkage) (image : Bytes) (places : ℕ → Option AccessOfC) where
  abbrev F : Moment → Final
  F m = final (ground k) m

  -- ---- legacy code

  module _ (each : EachEvent k image places) (HasSpace : Bytes → Type 0) (own : Callee) (doors : EachDoor k image places HasSpace own) (left : LeftByCalls NoMoreTurns own) (z : Bytes) (space : HasSpace z) where
    moved : (m n : Moment) (r : Outcome) → F m ≡ F n → LegacyEnds k places z n r → LegacyEnds k places z m r
    moved m n (Comes v w) e h = (h.0, h.1, e ∙ h.2, h.3, h.4, h.5, h.6)
    moved m n (Stops why w) e h = subst (λ (f : Final). EndsAs places why w f) (sym e) h
    moved m n Stuck e h = tt

    abbrev Earlier : ℕ → Type 0
    Earlier n = (l : Foreign) (m : Moment) → Alongside k z l m → l.world.turns < n → LegacyEnds k places z m (legacy_run k own n l)

    on_event : (n : ℕ) (m : Moment) (u : World) (e : Event Stored) → u.turns < n → After k image places z m u e → Earlier n → LegacyEnds k places z m (stepped u (legacy_run k own n) e)
    on_event n m u (Goes turn t) low (p, same, beside) ih = moved m p _ same (ih (from_state u t) p beside low)
    on_event n m u (Halts turn why t) low h ih = h

    turned : (w : World) (m : Moment) (claim : World → Type 0) (go : World → Outcome) → WithTurn k image places w m claim
        → ((j : ℕ) → w.turns ≡ suc j → claim (with_turns j w) → LegacyEnds k places z m (go (with_turns j w)))
        → (t : ℕ) → w.turns ≡ t → LegacyEnds k places z m (turn_from t w go)
    turned w m claim go (out, on) h zero e = out e
    turned w m claim go (out, on) h (suc j) e = h j e (on j e)

    returned : (n : ℕ) (m : Moment) (l : Foreign) → l.world.turns < n → Returned k image places z m l → Earlier n → LegacyEnds k places z m (judged_return (legacy_run k own n) l)
    returned n m l low (strays, on) ih =
        cond_both (is_in instrumented_code l.processor.rip && not (l.processor.rip == landing)) _ _ (λ r. LegacyEnds k places z m r) strays
        (λ e. let h = on e in moved m h.0 _ h.1 (ih l h.0 h.2 low))

    on_door : (n : ℕ) (m : Moment) (result : Result) (l : Foreign) (r : Outcome) → Leaves (NoMoreTurns (lent l)) r → l.world.turns < suc n → DoorEnds k image places z result l m r → Earlier n
        → LegacyEnds k places z m (came_back k result (legacy_run k own n) l r)
    on_door n m result l (Comes v w) fewer low h ih =
        turned w m (λ u. Returned k image places z m (after_outer k result l v u)) (λ u. judged_return (legacy_run k own n) (after_outer k result l v u)) h
        (λ j e q. returned n m (after_outer k result l v (with_turns j w)) (omega arith) q ih) w.turns refl
    on_door n m result l (Stops why w) fewer low h ih = h
    on_door n m result l Stuck fewer low h ih = tt

    same_door : (f rip : ℕ) → rip ≡ outer_entry f → entered_at rip ≡ f
    same_door f rip e = grind (arith, e)

    not_landed : (n : ℕ) (l : Foreign) (m : Moment) → Alongside k z l m → l.world.turns < suc n → is_legacy l.processor.rip ≡ false → (l.processor.rip == landing) ≡ false → Earlier n
        → LegacyEnds k places z m (came_back k (k.own (entered_at l.processor.rip)).result (legacy_run k own n) l
        (own (entered_at l.processor.rip) (arguments_from 0 0 (k.own (entered_at l.processor.rip)).parameters l.processor) (lent l)))
    not_landed n l m beside low inside away ih =
        let door : (f : ℕ) × AtDoor k l f = beside.admitted inside (grind (arith, nat_tests)) in
        let same : entered_at l.processor.rip ≡ door.0 = same_door door.0 l.processor.rip door.1.here in
        subst (λ (f : ℕ). LegacyEnds k places z m (came_back k (k.own f).result (legacy_run k own n) l (own f (arguments_from 0 0 (k.own f).parameters l.processor) (lent l)))) (sym same)
        (on_door n m (k.own door.0).result l _ (left door.0 _ (lent l)) low (doors z l m door.0 space beside door.1) ih)

    landed_there : (l : Foreign) (m : Moment) → Alongside k z l m → (l.processor.rip == landing) ≡ true → LegacyEnds k places z m (landed l)
    landed_there l m beside e = (m, l, refl, beside, grind (arith, nat_tests), refl, refl)

    -- legacy code ends on both sides alike
    pub legacy_ends : (n : ℕ) → Earlier n
    legacy_ends zero l m beside low = absurd (omega arith)
    legacy_ends (suc n) l m beside low =
        cond_both (is_legacy l.processor.rip) _ _ (λ r. LegacyEnds k places z m r)
        (λ e. turned l.world m (λ u. After k image places z m u (event (ground k) (as_state l))) (λ u. stepped u (legacy_run k own n) (event (ground k) (as_state l))) (each z l m beside e)
        (λ j is h. on_event n m (with_turns j l.world) (event (ground k) (as_state l)) (omega arith) h (legacy_ends n)) l.world.turns refl)
        (λ e. cond_both (l.processor.rip == landing) _ _ (λ r. LegacyEnds k places z m r) (landed_there l m beside) (λ away. not_landed n l m beside low e away (legacy_ends n)))

  -- ---- a call of a legacy function

  module _ (each : EachEvent k image places) (depth : ℕ) (HasSpace : Bytes → Type 0) (stub : ℕ → ℕ) (stubs : EachStub k image places HasSpace depth stub)
      (own : Callee) (doors : EachDoor k image places HasSpace own) (left : LeftByCalls NoMoreTurns own) where
    abbrev Ends : ℕ → Moment → Outcome → Type 0
    Ends g m r = CallEnds k image places depth (k.legacy g).result m r

    with_turn : (w : World) (m : Moment) (g : ℕ) (before : Moment) (same : F before ≡ F m) (claim : World → Type 0) (go : World → Outcome) → WithTurn k image places w m claim
        → ((j : ℕ) → claim (with_turns j w) → Ends g before (go (with_turns j w)))
        → (t : ℕ) → w.turns ≡ t → Ends g before (turn_from t w go)
    with_turn w m g before same claim go (out, on) h zero e = subst (λ (x : Final). EndsAs places OutOfTurns w x) (sym same) (out e)
    with_turn w m g before same claim go (out, on) h (suc j) e = h j (on j e)

    went_on : (g : ℕ) (before n : Moment) (same : F before ≡ F n) (result : Result) (v : Value) (x : World)
        → (p : Moment) × (F n ≡ F p) × Back k image depth (k.legacy g).result before v x p → Ends g before (Comes v x)
    went_on g before n same result v x (p, on, back) = (p, same ∙ on, back)

    finishes : (g : ℕ) (before m : Moment) (z : Bytes) (sp : ℕ) (r : Outcome) → F before ≡ F m
        → ((l : Foreign) (n : Moment) → Alongside k z l n → l.processor.rip ≡ landing → LandingEnds k image places depth (k.legacy g).result before sp l n)
        → LegacyEnds k places z m r → Ends g before (finished (k.legacy g).result sp r)
    finishes g before m z sp (Comes v w) same lands h =
        let on : LandingEnds k image places depth (k.legacy g).result before sp h.1 h.0 = lands h.1 h.0 h.3 h.4 in
        let all : F before ≡ F h.0 = same ∙ h.2 in
        subst (λ (y : Value). Ends g before (finished (k.legacy g).result sp (Comes y w))) (sym h.5)
        (subst (λ (x : World). Ends g before (finished (k.legacy g).result sp (Comes record { number = h.1.processor.regs 0; bounds = h.1.processor.bounds 0 } x))) (sym h.6)
        (let v : Value = record { number = h.1.processor.regs 0; bounds = h.1.processor.bounds 0 } in
        with_turn (record h.1.world { far = far_of h.1.processor.regs }) h.0 g before all
        (λ u. (n : Moment) × (F h.0 ≡ F n) × Back k image depth (k.legacy g).result before (given (k.legacy g).result v) (record u { legacy_sp = sp }) n)
        (λ u. Comes (given (k.legacy g).result v) (record u { legacy_sp = sp })) on (λ j b. went_on g before h.0 all (k.legacy g).result _ _ b) h.1.world.turns refl))
    finishes g before m z sp (Stops why w) same lands h = subst (λ (x : Final). EndsAs places why w x) (sym same) h
    finishes g before m z sp Stuck same lands h = tt

    entered : (g : ℕ) (args : List Value) (before : Moment) (u : World) (o : Option Refusal) → StubEnds k image places HasSpace depth g args before u o
        → Ends g before (unless_refused o u (finished (k.legacy g).result u.legacy_sp
        (legacy_run k own (suc u.turns) (at_entry k g args (number_written 8 u (below_stack u.legacy_sp) landing)))))
    entered g args before u (Some why) h = h
    entered g args before u None h =
        finishes g before h.1 h.0 u.legacy_sp _ h.2 h.5 (legacy_ends each HasSpace own doors left h.0 h.3 (suc u.turns) _ h.1 h.4 (omega arith))

    -- a call of a legacy function does what it means, if C functions do so through their outer entries
    pub outside_ends : Calls k image places depth 112 k.stubs stub k.legacy (outside k own)
    outside_ends g args w m few at =
        with_turn w m g m refl (λ u. StubEnds k image places HasSpace depth g args m u (refusal true 8 (below_stack u.legacy_sp))) (called_in k own g args)
        (stubs g args w m few at) (λ j h. entered g args m (with_turns j w) _ h) w.turns refl

  -- ---- the closing induction

  module _ (program : ℕ → Linked) (inner stub : ℕ → ℕ) (HasSpace : ℕ → Bytes → Type 0)
      -- the code of a function does its steps, over any meaning of what it calls; and where no more may be entered it stops
      (lowered : (depth : ℕ) (own other : Callee) → Calls k image places depth 64 k.outers inner k.own own → Calls k image places depth 112 k.stubs stub k.legacy other
      → LeftByCalls NoMoreTurns own → LeftByCalls NoMoreTurns other → FramesGivenBack own → FramesGivenBack other
      → Calls k image places (suc depth) 64 k.outers inner k.own (deeper program own other))
      (full : Calls k image places 0 64 k.outers inner k.own (calls program (outside k) 0))
      (each : EachEvent k image places)
      (stubs : (depth : ℕ) → EachStub k image places (HasSpace depth) depth stub)
      (doors : (depth : ℕ) (own : Callee) → Calls k image places depth 64 k.outers inner k.own own → KeepsStacks own → EachDoor k image places (HasSpace depth) own)
      (stacks : (depth : ℕ) → KeepsStacks (calls program (outside k) depth))
      (left : (depth : ℕ) → LeftByCalls NoMoreTurns (calls program (outside k) depth))
      (left_outside : LeftOutside NoMoreTurns (outside k)) where
    pub all_calls : (depth : ℕ) → Calls k image places depth 64 k.outers inner k.own (calls program (outside k) depth)
    all_calls zero = full
    all_calls (suc depth) = lowered depth (calls program (outside k) depth) (outside k (calls program (outside k) depth)) (all_calls depth)
        (outside_ends each depth (HasSpace depth) stub (stubs depth) (calls program (outside k) depth) (doors depth (calls program (outside k) depth) (all_calls depth) (stacks depth)) (left depth))
        (left depth) (left_outside (calls program (outside k) depth) (left depth))
        (frames_of (calls program (outside k) depth) (stacks depth)) (outside_gives k (calls program (outside k) depth) (frames_of (calls program (outside k) depth) (stacks depth)))

    pub program_ends : (main : ℕ) (w : World) (m : Moment) → main < k.outers → Starts k image places inner main w m → ProgramEnds k image places m (program_run program (outside k) main w)
    program_ends main w m few (n, same, at, ends) = exits (calls program (outside k) most_depth main [] w) (all_calls most_depth main [] w n few at)
      where
        moved_to : (why : StopOfC) (u : World) → EndsAs places why u (F n) → EndsAs places why u (F m)
        moved_to why u h = subst (λ (x : Final). EndsAs places why u x) (sym same) h

        exits : (r : Outcome) → CallEnds k image places most_depth (k.own main).result n r → ProgramEnds k image places m (exited r)
        exits (Comes v u) (p, on, back) = moved_to (Exit (v.number % 256)) u (subst (λ (x : Final). EndsAs places (Exit (v.number % 256)) u x) (sym on) (ends v u p back))
        exits (Stops why u) h = moved_to why u h
        exits Stuck h = tt
