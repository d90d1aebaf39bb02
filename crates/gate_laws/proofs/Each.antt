-- An event of legacy code: from the event to runs.
use Rattle.mx_base.specs.Guests.{GuestFits}
use Rattle.gate_laws.proofs.Guests.{event_fits}
use Rattle.std.specs.Prelude.{if◌then◌else◌, not}
use Rattle.std.proofs.Common.{◌≡◌, ℕ, suc, ◌+◌, ◌<◌, ◌≤◌, Bool, true, false, Option, None, Some, List, [], ◌∷◌, ◌++◌, refl, ap, ◌∙◌, sym, subst, arith}
use Rattle.std.proofs.lemmas.Bool.Decides.{nat_tests}
use Rattle.mx_base.specs.declared.stops.Stop.{Stop}
use Rattle.mx_base.specs.declared.stops.Stop.TheVariants as stop
use Rattle.mx_base.specs.Memory.{Bytes, AreBytes, number_at, first_refused, first_refused_around}
use Rattle.mx_base.specs.Regions.{instrumented_code, control_stack, region_end, is_in, is_executable, is_readable, is_sealed}
use Rattle.mx_base.specs.StopOfC.{OutOfTurns, stop_in_c, AccessOfC}
use Rattle.mx_base.specs.World.{World, Access}
use Rattle.mx_base.proofs.MemoryLemmas.{number_at-same}
use Rattle.x86_forms.specs.declared.instr.Instr.{Instr}
use Rattle.x86_forms.specs.declared.spans.Span.{Span}
use Rattle.x86_forms.specs.Processor.{Processor}
use Rattle.x86_forms.specs.Watch.{is_legacy}
use Rattle.obj_file.specs.Machine.{Reading, Is, Part, Neither, State, Deed, Does, Halts, Event, Goes, Stops, event, event_of, owes, deed_by, reading_at}
use Rattle.obj_file.specs.Runs.{Out, Stopped, c_accesses_by}
use Rattle.obj_file.specs.StoreLaw.{ReadsValid, HoldsWords}
use Rattle.obj_file.specs.Stored.{Stored}
use Rattle.fat_ir.specs.Calls.{with_turns}
use Rattle.call_gates.specs.Gates.{control_cell, legacy_cell, data_cell, depth_cell}
use Rattle.obj_file.specs.Finals.{final, keeps_out, all_keep_out, clean_now, clean_by}
use Rattle.gate_laws.specs.Moments.{Moment, Final}
use Rattle.legacy_calls.specs.Legacy.{Linkage, Foreign, ground, as_state, from_state, stop_of}
use Rattle.obj_file.specs.LegacyEvents.{Like, SameSealed, StatesLike, EventsLike}
use Rattle.gate_laws.specs.Standing.{EndsAs, Alongside, IsAdmitted}
use Rattle.obj_file.proofs.LegacyEvents.{event_like, looks}
use Rattle.gate_laws.proofs.Preserve.{preserve_stays}
use Rattle.gate_laws.proofs.Steps.{takes_turn}
use Rattle.gate_laws.proofs.StopsOfC.{stops_of_c}
use Rattle.gate_laws.proofs.Turns.{out_there, stray_out, stray_stop}
use Rattle.gate_laws.proofs.Walks.{append_none}
use Rattle.gate_laws.specs.Crossings.{After, EachEvent}

-- all accesses of legacy code are watched, and none is made for C
nothing_for_c : (s : State Stored) → is_legacy s.processor.rip ≡ true → (r : Reading) → c_accesses_by s r ≡ []
nothing_for_c s legacy (Is i size) = rw legacy refl
nothing_for_c s legacy Part = refl
nothing_for_c s legacy Neither = refl

all_looked : (i : Instr) (from : ℕ) → is_legacy from ≡ true → (ss : List Span) → all_keep_out false i from ss ≡ true
unfolding keeps_out
all_looked i from legacy [] = refl
all_looked i from legacy (s ∷ rest) = rw (looks i from legacy s, all_looked i from legacy rest) refl

clean_reading : (s : State Stored) → is_legacy s.processor.rip ≡ true → (r : Reading) → clean_by false s.processor r ≡ true
clean_reading s legacy (Is i size) = all_looked i s.processor.rip legacy _
clean_reading s legacy Part = refl
clean_reading s legacy Neither = refl

both_true : (b c : Bool) → c ≡ true → (if b then c else true) ≡ true
both_true true c h = h
both_true false c h = refl

-- an event of legacy code takes a turn
abbrev Taken : Event Stored → Type 0
Taken (Goes turn t) = turn ≡ true
Taken (Stops turn why t) = turn ≡ true

taken_of : (s : State Stored) (owed : Bool) (d : Deed Stored) → is_legacy s.processor.rip ≡ true → Taken (event_of s owed d)
taken_of s owed (Does t) legacy = rw legacy refl
taken_of s owed (Halts why t) legacy = rw legacy refl

either_taken : (b : Bool) (d e : Event Stored) → Taken d → Taken e → Taken (if b then d else e)
either_taken true d e h k = h
either_taken false d e h k = k

code_sealed : (a : ℕ) → is_in instrumented_code a ≡ true → is_sealed a ≡ true
unfolding is_sealed
code_sealed a inside = grind (arith, nat_tests)

cells_sealed : (a : ℕ) → 0x7000_0000 ≤ a → a < 0x7000_1000 → is_sealed a ≡ true
unfolding is_sealed
cells_sealed a from to = grind (arith, nat_tests)

stack_sealed : (a : ℕ) → control_stack.from ≤ a → a < region_end control_stack → is_sealed a ≡ true
unfolding is_sealed
stack_sealed a from to = grind (arith, nat_tests)

-- control that leaves legacy code has come to the landing, or to a door
abbrev pub Admits : Linkage → Type 0
Admits k = (s t : State Stored) (turn : Bool) (w : World) → is_legacy s.processor.rip ≡ true → HoldsWords s.processor → AreBytes s.memory.bytes → event (ground k) s ≡ Goes turn t
    → IsAdmitted k record { processor = t.processor; world = w }

admitted_like : (k : Linkage) (c d : Processor) (w v : World) → Like c d → IsAdmitted k record { processor = d; world = v } → IsAdmitted k record { processor = c; world = w }
admitted_like k c d w v like h inside away =
    let a = h (subst (λ (n : ℕ). is_legacy n ≡ false) like.rip inside) (λ e. away (like.rip ∙ e)) in (
      a.0,
      record {
        few = a.1.few;
        here = like.rip ∙ a.1.here;
        readable = subst (λ (n : ℕ). first_refused is_readable 8 n ≡ None) (sym (like.regs 4 (omega arith))) a.1.readable;
        unsealed = subst (λ (n : ℕ). first_refused_around (λ x. not (is_sealed x)) 8 n ≡ None) (sym (like.regs 4 (omega arith))) a.1.unsealed;
      },
    )

module _ (k : Linkage) (image : Bytes) (places : ℕ → Option AccessOfC) where
  taken : (s : State Stored) → is_legacy s.processor.rip ≡ true → Taken (event (ground k) s)
  unfolding event
  taken s legacy = either_taken (is_executable s.processor.rip) (event_of s (owes (reading_at (ground k) s)) (deed_by (ground k) s (reading_at (ground k) s))) (event_of s false (Halts (stop.Unmapped s.processor.rip) s)) (taken_of s (owes (reading_at (ground k) s)) (deed_by (ground k) s (reading_at (ground k) s)) legacy) (taken_of s false (Halts (stop.Unmapped s.processor.rip) s) legacy)

  clean : (s : State Stored) → is_legacy s.processor.rip ≡ true → clean_now (ground k) s ≡ true
  clean s legacy = both_true (is_executable s.processor.rip) (clean_by false s.processor (reading_at (ground k) s)) (clean_reading s legacy (reading_at (ground k) s))

  abbrev F : Moment → Final
  F m = final (ground k) m

  -- no turn is left
  none_left : (s : State Stored) (made : List Access) (e : Event Stored) → event (ground k) s ≡ e → Taken e → clean_now (ground k) s ≡ true
      → F record { state = s; turns = 0; accesses = made } ≡ record { end = Out s; accesses = made; clean = true }
  none_left s made (Goes turn t) e is tidy = out_there k image s t made (e ∙ ap (λ (b : Bool). let v : Event Stored = Goes b t in v) is) tidy
  none_left s made (Stops turn why t) e is tidy = stray_out k image s t why made (e ∙ ap (λ (b : Bool). let v : Event Stored = Stops b why t in v) is) tidy

  kept_cell : (z : Bytes) (x y : Stored) (a : ℕ) → SameSealed x y → 0x7000_0000 ≤ a → a + 8 ≤ 0x7000_1000 → number_at 8 x.bytes a ≡ number_at 8 z a → number_at 8 y.bytes a ≡ number_at 8 z a
  kept_cell z x y a left from to is = number_at-same 8 y.bytes x.bytes a (λ b f t. left.sealed b (cells_sealed b (omega arith) (omega arith))) ∙ is

  module _ (z : Bytes) (l : Foreign) (m : Moment) (beside : Alongside k z l m) (j : ℕ) (turns_are : l.world.turns ≡ suc j) where
    abbrev g : Moment → State Stored → Moment
    g m t = record { state = t; turns = j; accesses = m.accesses ++ [] }

    beside_after : (s t : State Stored) → StatesLike m.state.memory s t → t.processor.preserve ≡ m.state.processor.preserve → GuestFits t.guest → IsAdmitted k (from_state (with_turns j l.world) s)
        → Alongside k z (from_state (with_turns j l.world) s) (g m t)
    beside_after s t h kept fits admitted = record {
      shares = record {
        unsealed = h.same.unsealed;
        each_byte = h.left.each_byte;
        store = h.same.bounds;
        kept_words = h.left.kept_words;
        guest = h.guest;
        guest_fits = fits;
        turns = refl;
        accesses = append_none k image m.accesses ∙ beside.shares.accesses;
      };
      like = h.like;
      admitted = admitted;
      words = h.words;
      preserve = kept ∙ beside.preserve;
      data_sp = beside.data_sp;
      legacy_sp = beside.legacy_sp;
      frozen = record {
        code = λ a inside. h.left.sealed a (code_sealed a inside) ∙ beside.frozen.code a inside;
        control = kept_cell z m.state.memory t.memory control_cell h.left (omega arith) (omega arith) beside.frozen.control;
        legacy = kept_cell z m.state.memory t.memory legacy_cell h.left (omega arith) (omega arith) beside.frozen.legacy;
        data_word = kept_cell z m.state.memory t.memory data_cell h.left (omega arith) (omega arith) beside.frozen.data_word;
        depth = kept_cell z m.state.memory t.memory depth_cell h.left (omega arith) (omega arith) beside.frozen.depth;
        pointer = beside.frozen.pointer;
        stack = λ a from to. let p = beside.frozen.pointer in h.left.sealed a (stack_sealed a (omega arith) to) ∙ beside.frozen.stack a from to;
      };
    }

    -- a turn is taken
    after : (d e : Event Stored) → event (ground k) m.state ≡ e → Taken e → is_legacy m.state.processor.rip ≡ true → m.turns ≡ suc j → EventsLike m.state.memory d e
        → ((s : State Stored) (turn : Bool) (t : State Stored) → Like s.processor t.processor → e ≡ Goes turn t → (t.processor.preserve ≡ m.state.processor.preserve) × GuestFits t.guest × IsAdmitted k (from_state (with_turns j l.world) s))
        → ((turn : Bool) (why : Stop) (t : State Stored) → e ≡ Stops turn why t → stop_in_c places why ≡ Some (stop_of why))
        → After k image places z m (with_turns j l.world) d
    after (Goes a s) (Goes b t) is takes legacy has h admits stops =
        let tidy = clean m.state legacy in
        let one : F m ≡ F record { state = m.state; turns = suc j; accesses = m.accesses } = ap (λ (n : ℕ). F record { state = m.state; turns = n; accesses = m.accesses }) has in
        let kept = admits s b t h.1.like refl in (
          g m t,
          one ∙ takes_turn (ground k) m.state t j m.accesses [] (is ∙ ap (λ (x : Bool). let v : Event Stored = Goes x t in v) takes) (nothing_for_c m.state legacy (reading_at (ground k) m.state)) tidy,
          beside_after s t h.1 kept.0 kept.1 kept.2,
        )
    after (Stops a why s) (Stops b also t) is takes legacy has h admits stops =
        let tidy = clean m.state legacy in
        let one : F m ≡ F record { state = m.state; turns = suc j; accesses = m.accesses } = ap (λ (n : ℕ). F record { state = m.state; turns = n; accesses = m.accesses }) has in
        let ends : F m ≡ record { end = Stopped also t; accesses = m.accesses; clean = true } = one ∙ stray_stop k image m.state t also j m.accesses (is ∙ ap (λ (x : Bool). let v : Event Stored = Stops x also t in v) takes) tidy in
        let by : stop_in_c places also ≡ Some (stop_of why) = stops b also t refl ∙ ap (λ (x : Stop). Some (stop_of x)) (sym h.1) in
        subst (λ (f : Final). EndsAs places (stop_of why) (from_state (with_turns j l.world) s).world f) (sym ends)
        (beside.shares.accesses, refl, (by, record { guest = h.2.guest; store = h.2.same.bounds }))
    after (Goes a s) (Stops b also t) is takes legacy has h admits stops = absurd h
    after (Stops a why s) (Goes b t) is takes legacy has h admits stops = absurd h

  -- an event of legacy code is the same on both sides, over what it leaves
  pub each_event : ReadsValid k.reads → ((a : ℕ) → is_legacy a ≡ true → places a ≡ None) → Admits k → EachEvent k image places
  each_event valid placed admits z l m beside legacy =
      let there : is_legacy m.state.processor.rip ≡ true = subst (λ (a : ℕ). is_legacy a ≡ true) beside.like.rip legacy in
      let old : StatesLike m.state.memory (as_state l) m.state = record {
        like = beside.like;
        same = record { unsealed = beside.shares.unsealed; bounds = beside.shares.store };
        left = record { sealed = λ a h. refl; each_byte = beside.shares.each_byte; kept_words = beside.shares.kept_words };
        words = beside.words;
        guest = beside.shares.guest;
      } in
      let both = event_like k.reads k.outers k.preserve valid (as_state l) m.state there old in (
        λ none. let no : F m ≡ record { end = Out m.state; accesses = m.accesses; clean = true } =
            ap (λ (n : ℕ). F record { state = m.state; turns = n; accesses = m.accesses }) (beside.shares.turns ∙ none) ∙ none_left m.state m.accesses (event (ground k) m.state) refl (taken m.state there) (clean m.state there) in
            subst (λ (f : Final). EndsAs places OutOfTurns l.world f) (sym no) (beside.shares.accesses, refl, (refl, record { guest = beside.shares.guest; store = beside.shares.store })),
        λ j has. after z l m beside j has (event (ground k) (as_state l)) (event (ground k) m.state) refl (taken m.state there) there (beside.shares.turns ∙ has) both
            (λ s turn t like on. (preserve_stays (ground k) m.state turn t on, event_fits (ground k) m.state beside.shares.guest_fits turn t on, admitted_like k s.processor t.processor _ l.world like (admits m.state t turn l.world there beside.words beside.shares.each_byte on)))
            (λ turn why t is. stops_of_c k places m.state (placed m.state.processor.rip there) turn why t is),
      )
