-- Instructions of the gates that take a turn, or may stop.
use Rattle.std.specs.Prelude.{Bool, true, false, ◌||◌, ◌&&◌, ◌==◌, not, nat_eq, if◌then◌else◌, Option, None, Some, List, [], ◌∷◌, ◌++◌, ◌^◌, ◌%◌, ℤ, pos, negsuc, ◌-ℤ◌}
use Rattle.std.specs.Int.{cast_unsigned, w64}
use Rattle.std.proofs.Common.{◌≡◌, ℕ, zero, suc, ◌+◌, ◌<◌, ◌≤◌, refl, arith, ap, ◌∙◌, sym, subst}
use Rattle.std.proofs.lemmas.Bool.Decides.{nat_tests}
use Rattle.std.proofs.lemmas.Int.{ints}
use Rattle.std.specs.Option.{option_or}
use Rattle.mx_base.specs.declared.stops.Stop.{Stop}
use Rattle.mx_base.specs.declared.stops.Stop.TheVariants as stop
use Rattle.mx_base.specs.Access.{Refusal, Strays, Misses, refusal}
use Rattle.mx_base.specs.Bounds.{moved}
use Rattle.mx_base.specs.Memory.{Bytes, number_at, first_refused, first_refused_around}
use Rattle.mx_base.specs.Outside.{one_more}
use Rattle.mx_base.specs.Regions.{instrumented_code, is_in, is_readable, is_writable}
use Rattle.mx_base.specs.Services.{Guest}
use Rattle.mx_base.specs.World.{Access}
use Rattle.mx_base.proofs.MemoryLemmas.{number_at-lt}
use Rattle.x86_forms.specs.declared.instr.Instr.{Instr}
use Rattle.x86_forms.specs.declared.instr.Rm.TheVariants.{Mem as InMem}
use Rattle.x86_forms.specs.declared.instr.Instr.TheVariants.{MovTo, CallRel, Ret}
use Rattle.x86_forms.specs.declared.spans.Span.{Span}
use Rattle.x86_forms.specs.Processor.{Processor, address, with_reg, branch_target, below_stack}
use Rattle.x86_forms.specs.Accesses.{accesses, reach_of}
use Rattle.x86_forms.specs.Requests.{Done, run}
use Rattle.x86_forms.specs.Table.{row}
use Rattle.x86_forms.specs.Watch.{is_legacy, is_watched, is_c_access, access_strays, first_sealed, control_strays, is_legacy_control, is_in_outer, may_enter, landing}
use Rattle.obj_file.specs.Machine.{Is, State, Does, Halts, Goes, Stops, event, event_of, deed_of, executed, is_call, is_return, is_service, reach_strays, left_by, reading_at, counted}
use Rattle.obj_file.specs.Runs.{Out, Stopped, after, run_of, accesses_of, and_later, c_accesses_among}
use Rattle.obj_file.specs.StoreLaw.{is_of_bounds}
use Rattle.obj_file.specs.Stored.{Stored, stored_read, stored_write}
use Rattle.obj_file.proofs.RunLaws.{run_step}
use Rattle.call_gates.specs.Gates.{reg, behind, way}
use Rattle.obj_file.specs.Finals.{all_below, final, keeps_out, all_keep_out, clean_now, clean_of, and_clean}
use Rattle.gate_laws.specs.Moments.{Final}
use Rattle.legacy_calls.specs.Legacy.{Linkage, ground}
use Rattle.gate_laws.specs.Placed.{HasCode, StandsAt}
use Rattle.obj_file.proofs.FinalLaws.{accesses_step, clean_step}
use Rattle.gate_laws.proofs.Steps.{goes, plain_goes, takes_turn, clean_plain, by_reading, next_fits}
use Rattle.gate_laws.proofs.Walks.{written, IsOwn, own_read, own_write, here, unwatched, own_out, append_none}
use Rattle.gate_laws.proofs.Refusing.{is_unsealed, refused_write}

-- ---- the way of a branch

way_back : (t n : ℕ) (z : ℤ) → z ≡ pos t -ℤ pos n → t < 2 ^ 62 → n < 2 ^ 62 → (n + cast_unsigned w64 z) % 2 ^ 64 ≡ t
way_back t n (pos k) e small less = let f : t ≡ k + n = omega (arith, ints) in omega arith
way_back t n (negsuc k) e small less = let f : t + suc k ≡ n = omega (arith, ints) in omega arith

pub way_leads : (target next : ℕ) → target < 2 ^ 62 → next < 2 ^ 62 → branch_target next (way target next) ≡ target
way_leads target next small less = way_back target next (way target next) refl small less

abbrev pub stop_by_machine : Refusal → Stop
stop_by_machine (Strays x) = stop.Strayed x
stop_by_machine (Misses x) = stop.Unmapped x

module _ (k : Linkage) (image : Bytes) where
  -- ---- ends

  pub out_there : (s t : State Stored) (made : List Access) → event (ground k) s ≡ Goes true t → clean_now (ground k) s ≡ true → final (ground k) record { state = s; turns = 0; accesses = made } ≡ record { end = Out s; accesses = made; clean = true }
  out_there s t made e c =
      let tidy : clean_of (ground k) 0 s ≡ true = clean_step (ground k) 0 s ∙ ap (and_clean (clean_of (ground k)) 0 (clean_now (ground k) s)) e ∙ c in
      let ends : run_of (ground k) 0 s ≡ Out s = run_step (ground k) 0 s ∙ ap (after (run_of (ground k)) 0 s) e in
      let none : accesses_of (ground k) 0 s ≡ [] = accesses_step (ground k) 0 s ∙ ap (and_later (accesses_of (ground k)) 0 _) e in
      λ i. record { end = ends i; accesses = (ap (λ (l : List Access). made ++ l) none ∙ append_none k image made) i; clean = tidy i }

  stopped : (turns : ℕ) (s last : State Stored) (why : Stop) → after (run_of (ground k)) turns s (Stops false why last) ≡ Stopped why last
  stopped zero s last why = refl
  stopped (suc n) s last why = refl

  pub stop_there : (s last : State Stored) (why : Stop) (turns : ℕ) (made : List Access) → event (ground k) s ≡ Stops false why last → clean_now (ground k) s ≡ true
      → final (ground k) record { state = s; turns = turns; accesses = made } ≡ record { end = Stopped why last; accesses = made; clean = true }
  stop_there s last why turns made e c =
      let tidy : clean_of (ground k) turns s ≡ true = clean_step (ground k) turns s ∙ ap (and_clean (clean_of (ground k)) turns (clean_now (ground k) s)) e ∙ c in
      let ends : run_of (ground k) turns s ≡ Stopped why last = run_step (ground k) turns s ∙ ap (after (run_of (ground k)) turns s) e ∙ stopped turns s last why in
      let none : accesses_of (ground k) turns s ≡ [] = accesses_step (ground k) turns s ∙ ap (and_later (accesses_of (ground k)) turns _) e in
      λ i. record { end = ends i; accesses = (ap (λ (l : List Access). made ++ l) none ∙ append_none k image made) i; clean = tidy i }

  -- ---- calls and returns

  turn_deed : (s : State Stored) (i : Instr) (n : ℕ) (p : Processor) (y : Stored)
      → reach_strays i s.processor.rip (reach_of (accesses i (s.processor.rip + n) s.processor.regs)) ≡ None
      → is_service i ≡ false → control_strays s.processor.rip p.rip (is_call i) (is_return i) k.outers ≡ None
      → run (ground k).store s.processor (row i (s.processor.rip + n) s.processor) s.memory ≡ Done p y
      → deed_of (ground k) i (s.processor.rip + n) s ≡ Does (left_by s p y)
  unfolding deed_of executed
  turn_deed s i n p y fine plain stays does = rw (fine, plain, does, stays) refl

  turn_goes : (s : State Stored) (i : Instr) (n : ℕ) (p : Processor) (y : Stored) → is_in instrumented_code s.processor.rip ≡ true → n ≤ 15
      → reading_at (ground k) s ≡ Is i n → (is_call i || is_return i) ≡ true
      → deed_of (ground k) i (s.processor.rip + n) s ≡ Does (left_by s p y)
      → event (ground k) s ≡ Goes true (counted (left_by s p y))
  turn_goes s i n p y code small is owes deed =
      by_reading k.reads k.outers k.preserve s (Is i n) code is
      ∙ ap (λ a. event_of s (is_call i || is_return i) (deed_of (ground k) i a s)) (next_fits s.processor.rip n code small)
      ∙ ap (event_of s (is_call i || is_return i)) deed
      ∙ rw (code, owes) refl

  no_access : (i : Instr) (size : ℕ) (c : Processor) (now : List Access) → is_in instrumented_code c.rip ≡ true → size ≤ 15 → c_accesses_among i (accesses i (c.rip + size) c.regs) ≡ now → c_accesses_among i (accesses i ((c.rip + size) % 2 ^ 64) c.regs) ≡ now
  no_access i size c now inside small none = let e : (c.rip + size) % 2 ^ 64 ≡ c.rip + size = grind (arith, nat_tests) in rw e none

  -- an instruction that takes a turn: none is left, or the run goes on with one less
  pub record Turns (c : Processor) (y : Stored) (d : Processor) (z : Stored) : Type 0 where
    pub out : (g : Guest) (n : ℕ) (made : List Access) → final (ground k) (here k image c y g n 0 made) ≡ record { end = Out (record { processor = c; memory = y; guest = g; steps = n }); accesses = made; clean = true }
    pub on : (g : Guest) (n turns : ℕ) (made : List Access) → (m : ℕ) × (final (ground k) (here k image c y g n (suc turns) made) ≡ final (ground k) (here k image d z g m turns made))

  turning : (i : Instr) (size : ℕ) (c d : Processor) (y z : Stored) → StandsAt k image c.rip i size → HasCode image y → (is_call i || is_return i) ≡ true → is_service i ≡ false
      → reach_strays i c.rip (reach_of (accesses i (c.rip + size) c.regs)) ≡ None → c_accesses_among i (accesses i (c.rip + size) c.regs) ≡ [] → all_keep_out false i c.rip (accesses i (c.rip + size) c.regs) ≡ true
      → control_strays c.rip d.rip (is_call i) (is_return i) k.outers ≡ None
      → run (ground k).store c (row i (c.rip + size) c) y ≡ Done d z → Turns c y d z
  turning i size c d y z st code owes plain fine none out stays does = record {
    out = λ g n made. let s : State Stored = record { processor = c; memory = y; guest = g; steps = n } in out_there s (counted (left_by s d z)) made (ev g n) (tidy g n);
    on = λ g n turns made. let s : State Stored = record { processor = c; memory = y; guest = g; steps = n } in (
      one_more n,
      takes_turn (ground k) s (counted (left_by s d z)) turns made [] (ev g n) (rw (st.reads s refl code, st.inside) (no_access i size c [] st.inside st.small none)) (tidy g n)
          ∙ ap (λ (l : List Access). final (ground k) (here k image d z g (one_more n) turns l)) (append_none k image made),
    );
  }
    where
      tidy : (g : Guest) (n : ℕ) → clean_now (ground k) (record { processor = c; memory = y; guest = g; steps = n }) ≡ true
      tidy g n = let s : State Stored = record { processor = c; memory = y; guest = g; steps = n } in clean_plain k.reads k.outers k.preserve s i size st.inside st.small (st.reads s refl code) plain out

      ev : (g : Guest) (n : ℕ) → event (ground k) (record { processor = c; memory = y; guest = g; steps = n }) ≡ Goes true (counted (left_by (record { processor = c; memory = y; guest = g; steps = n }) d z))
      ev g n = let s : State Stored = record { processor = c; memory = y; guest = g; steps = n } in
          turn_goes s i size d z st.inside st.small (st.reads s refl code) owes (turn_deed s i size d z fine plain stays does)

  from_inside : (from to : ℕ) (call : Bool) → is_in instrumented_code from ≡ true → control_strays from to call false k.outers ≡ None
  unfolding control_strays is_legacy_control
  from_inside from to call inside = rw inside refl

  from_no_outer : (from to : ℕ) (call : Bool) → is_in instrumented_code from ≡ true → is_in_outer k.outers from ≡ false → control_strays from to call true k.outers ≡ None
  unfolding control_strays is_legacy_control
  from_no_outer from to call inside away = rw (inside, away) refl

  pub call_turns : (target sp : ℕ) (c : Processor) (y : Stored) → StandsAt k image c.rip (CallRel true (way target (c.rip + 6))) 6 → HasCode image y → c.regs 4 ≡ sp + 8 → IsOwn sp → target < 2 ^ 62
      → Turns c y (record c { rip = target; regs = with_reg c.regs 4 sp }) (written y sp (c.rip + 6))
  unfolding run row is_c_access
  call_turns target sp c y st code at own small =
      let inside = st.inside in
      let low : c.rip + 6 < 2 ^ 62 = grind (arith, nat_tests) in
      let high = own.high in
      let below : (sp + 8 + 0xffff_ffff_ffff_fff8) % 2 ^ 64 ≡ sp = omega arith in
      let word : (c.rip + 6) % 2 ^ 64 ≡ c.rip + 6 = omega arith in
      turning (CallRel true (way target (c.rip + 6))) 6 c (record c { rip = target; regs = with_reg c.regs 4 sp }) y (written y sp (c.rip + 6)) st code refl refl
      (unwatched k image (CallRel true (way target (c.rip + 6))) c.rip _ st.inside refl) refl (own_out k image (CallRel true (way target (c.rip + 6))) c.rip _ refl (subst IsOwn (sym below ∙ ap below_stack (sym at)) own)) (from_inside c.rip target true st.inside)
      (rw (at, below, word, way_leads target (c.rip + 6) small low, own_write y sp (c.rip + 6) own) refl)

  pub return_turns : (target sp : ℕ) (c : Processor) (y : Stored) → StandsAt k image c.rip (Ret true) 2 → HasCode image y → c.regs 4 ≡ sp → IsOwn sp → number_at 8 y.bytes sp ≡ target → is_in_outer k.outers c.rip ≡ false
      → Turns c y (record c { rip = target; regs = with_reg c.regs 4 (sp + 8) }) y
  unfolding run row is_c_access
  return_turns target sp c y st code at own is away =
      let high = own.high in
      let above : (sp + 8) % 2 ^ 64 ≡ sp + 8 = omega arith in
      let fits : number_at 8 y.bytes sp < 2 ^ 64 = number_at-lt 8 y.bytes sp code.each_byte in
      let word : target % 2 ^ 64 ≡ target = omega arith in
      turning (Ret true) 2 c (record c { rip = target; regs = with_reg c.regs 4 (sp + 8) }) y y st code refl refl
      (unwatched k image (Ret true) c.rip _ st.inside refl) refl (own_out k image (Ret true) c.rip _ refl (subst IsOwn (sym at) own)) (from_no_outer c.rip target false st.inside away)
      (rw (at, own_read y sp own, is, above, word) refl)

  -- ---- a write for C: of the return address, through a register

  write_code : (regs : ℕ → ℕ) (next b a : ℕ) → regs b ≡ a → a < 2 ^ 64 → address regs next (behind b (pos 0)) ≡ a
  unfolding address
  write_code regs next b a is small = omega arith

  abbrev write_of : (b r : ℕ) → Instr
  write_of b r = MovTo 64 (reg r) (InMem (behind b (pos 0)))

  pub write_span : ℕ → Span
  write_span a = record { at = a; size = 8; write = true; implicit = false }

  strays_at : (from a : ℕ) (i : Instr) → is_in instrumented_code from ≡ true → is_c_access i (record { at = a; size = 8; write = true; implicit = false }) ≡ true
      → reach_strays i from (reach_of (record { at = a; size = 8; write = true; implicit = false } ∷ [])) ≡ first_refused_around is_unsealed 8 a
  unfolding reach_strays access_strays is_watched first_sealed
  strays_at from a i inside is = rw (inside, is) (one_only _ _)
    where
      one_only : (o : Option ℕ) (b : Bool) → option_or o (if b then None else None) ≡ o
      one_only None true = refl
      one_only None false = refl
      one_only (Some x) true = refl
      one_only (Some x) false = refl

  -- the write goes on, strays, or misses
  pub record Writes (c : Processor) (y : Stored) (a v size : ℕ) (o : Option Refusal) : Type 0 where
    pub done : o ≡ None → (g : Guest) (n turns : ℕ) (made : List Access) → (m : ℕ) × (final (ground k) (here k image c y g n turns made) ≡ final (ground k) (here k image (record c { rip = c.rip + size }) (written y a v) g m turns (made ++ record { write = true; at = a; size = 8 } ∷ [])))
    pub open_there : o ≡ None → first_refused_around is_unsealed 8 a ≡ None
    pub writable : o ≡ None → first_refused is_writable 8 a ≡ None
    pub ends : (why : Refusal) → o ≡ Some why → (g : Guest) (n turns : ℕ) (made : List Access)
        → (last : State Stored) × (final (ground k) (here k image c y g n turns made) ≡ record { end = Stopped (stop_by_machine why) last; accesses = made; clean = true }) × (last.guest ≡ g) × (last.memory ≡ y)

  of_c : (b r : ℕ) → nat_eq b 4 ≡ false → (a : ℕ) → is_c_access (write_of b r) (record { at = a; size = 8; write = true; implicit = false }) ≡ true
  unfolding is_c_access
  of_c b r base a = rw base refl

  module _ (b r a v size : ℕ) (c : Processor) (y : Stored) (st : StandsAt k image c.rip (write_of b r) size) (some : 0 < size) (code : HasCode image y) (base : nat_eq b 4 ≡ false)
      (at : c.regs b ≡ a) (low : a < 2 ^ 64) (is : c.regs r ≡ v) (small : v < 2 ^ 64) where
    next : ℕ
    next = c.rip + size

    there : address c.regs (c.rip + size) (behind b (pos 0)) ≡ a
    there = write_code c.regs (c.rip + size) b a at low

    strays_is : reach_strays (write_of b r) c.rip (reach_of (accesses (write_of b r) (c.rip + size) c.regs)) ≡ first_refused_around is_unsealed 8 a
    strays_is = rw there (strays_at c.rip a (write_of b r) st.inside (of_c b r base a))

    noted_is : c_accesses_among (write_of b r) (accesses (write_of b r) (c.rip + size) c.regs) ≡ record { write = true; at = a; size = 8 } ∷ []
    noted_is = rw (there, of_c b r base a) refl

    does_it : first_refused is_writable 8 a ≡ None → run (ground k).store c (row (write_of b r) (c.rip + size) c) y ≡ Done (record c { rip = c.rip + size }) (written y a v)
    unfolding run row stored_write
    does_it fine = let word : v % 2 ^ 64 ≡ v = omega arith in rw (there, is, word, word, fine) refl

    tidy_write : all_keep_out false (write_of b r) c.rip (accesses (write_of b r) (c.rip + size) c.regs) ≡ true
    unfolding keeps_out is_watched
    tidy_write = let inside = st.inside in rw (there, of_c b r base a, inside) refl

    tidy_there : (g : Guest) (n : ℕ) → clean_now (ground k) (record { processor = c; memory = y; guest = g; steps = n }) ≡ true
    tidy_there g n = let s : State Stored = record { processor = c; memory = y; guest = g; steps = n } in clean_plain k.reads k.outers k.preserve s (write_of b r) size st.inside st.small (st.reads s refl code) refl tidy_write

    written_on : first_refused_around is_unsealed 8 a ≡ None → first_refused is_writable 8 a ≡ None → (g : Guest) (n turns : ℕ) (made : List Access)
        → (m : ℕ) × (final (ground k) (here k image c y g n turns made) ≡ final (ground k) (here k image (record c { rip = c.rip + size }) (written y a v) g m turns (made ++ record { write = true; at = a; size = 8 } ∷ [])))
    written_on none fine g n turns made =
        let s : State Stored = record { processor = c; memory = y; guest = g; steps = n } in
        let d : Processor = record c { rip = c.rip + size } in
        let reads = st.reads s refl code in (
          one_more n,
          goes (ground k) s (counted (left_by s d (written y a v))) turns made (record { write = true; at = a; size = 8 } ∷ [])
              (plain_goes k.reads k.outers k.preserve s (write_of b r) size d (written y a v) st.inside st.small reads refl (strays_is ∙ none) (does_it fine) (omega arith))
              (rw (reads, st.inside) (no_access (write_of b r) size c _ st.inside st.small noted_is)) (tidy_there g n),
        )

    -- an instruction that stops, by its deed
    stops_by : (g : Guest) (n : ℕ) (why : Stop) (last : State Stored) → deed_of (ground k) (write_of b r) (c.rip + size) (record { processor = c; memory = y; guest = g; steps = n }) ≡ Halts why last
        → event (ground k) (record { processor = c; memory = y; guest = g; steps = n }) ≡ Stops false why last
    stops_by g n why last deed =
        let s : State Stored = record { processor = c; memory = y; guest = g; steps = n } in
        let reads = st.reads s refl code in
        by_reading k.reads k.outers k.preserve s (Is (write_of b r) size) st.inside reads
        ∙ ap (λ x. event_of s false (deed_of (ground k) (write_of b r) x s)) (next_fits c.rip size st.inside st.small)
        ∙ ap (event_of s false) deed
        ∙ (let inside = st.inside in rw inside refl)

    strayed : (g : Guest) (n x : ℕ) → first_refused_around is_unsealed 8 a ≡ Some x
        → deed_of (ground k) (write_of b r) (c.rip + size) (record { processor = c; memory = y; guest = g; steps = n }) ≡ Halts (stop.Strayed x) (record { processor = c; memory = y; guest = g; steps = n })
    unfolding deed_of
    strayed g n x e = let f = strays_is ∙ e in rw f refl

    missed : (g : Guest) (n x : ℕ) → first_refused_around is_unsealed 8 a ≡ None → first_refused is_writable 8 a ≡ Some x
        → deed_of (ground k) (write_of b r) (c.rip + size) (record { processor = c; memory = y; guest = g; steps = n }) ≡ Halts (stop.Unmapped x) (record { processor = c; memory = y; guest = g; steps = n })
    unfolding deed_of executed run row stored_write
    missed g n x e f = let fine = strays_is ∙ e in rw (fine, there, f) refl

    pub writes : Writes c y a v size (refusal true 8 a)
    writes = refused_write 8 a (λ o. Writes c y a v size o) (omega arith) (omega arith) low
        (λ none fine. record { done = λ _. written_on none fine; open_there = λ _. none; writable = λ _. fine; ends = λ why e. absurd (cc) })
        (λ x e. record {
          done = λ h. absurd (cc);
          open_there = λ h. absurd (cc);
          writable = λ h. absurd (cc);
          ends = λ why h g n turns made. let s : State Stored = record { processor = c; memory = y; guest = g; steps = n } in let same : Strays x ≡ why = cc in
              (s, stop_there s s (stop.Strayed x) turns made (stops_by g n (stop.Strayed x) s (strayed g n x e)) (tidy_there g n) ∙ ap (λ (w : Refusal). let f : Final = record { end = Stopped (stop_by_machine w) s; accesses = made; clean = true } in f) same, refl, refl);
        })
        (λ x e f. record {
          done = λ h. absurd (cc);
          open_there = λ h. absurd (cc);
          writable = λ h. absurd (cc);
          ends = λ why h g n turns made. let s : State Stored = record { processor = c; memory = y; guest = g; steps = n } in let same : Misses x ≡ why = cc in
              (s, stop_there s s (stop.Unmapped x) turns made (stops_by g n (stop.Unmapped x) s (missed g n x e f)) (tidy_there g n) ∙ ap (λ (w : Refusal). let f : Final = record { end = Stopped (stop_by_machine w) s; accesses = made; clean = true } in f) same, refl, refl);
        })

  -- ---- the return of an outer entry, which is judged as legacy control

  -- where control strays, the stop comes with its turn, after the effects
  pub record Strays_there (c : Processor) (y : Stored) (d : Processor) (x : ℕ) : Type 0 where
    pub out : (g : Guest) (n : ℕ) (made : List Access) → final (ground k) (here k image c y g n 0 made) ≡ record { end = Out (record { processor = c; memory = y; guest = g; steps = n }); accesses = made; clean = true }
    pub ends : (g : Guest) (n turns : ℕ) (made : List Access) → final (ground k) (here k image c y g n (suc turns) made) ≡ record { end = Stopped (stop.Strayed x) (record { processor = d; memory = y; guest = g; steps = n }); accesses = made; clean = true }

  pub stray_out : (s last : State Stored) (why : Stop) (made : List Access) → event (ground k) s ≡ Stops true why last → clean_now (ground k) s ≡ true → final (ground k) record { state = s; turns = 0; accesses = made } ≡ record { end = Out s; accesses = made; clean = true }
  stray_out s last why made e c =
      let tidy : clean_of (ground k) 0 s ≡ true = clean_step (ground k) 0 s ∙ ap (and_clean (clean_of (ground k)) 0 (clean_now (ground k) s)) e ∙ c in
      let ends : run_of (ground k) 0 s ≡ Out s = run_step (ground k) 0 s ∙ ap (after (run_of (ground k)) 0 s) e in
      let none : accesses_of (ground k) 0 s ≡ [] = accesses_step (ground k) 0 s ∙ ap (and_later (accesses_of (ground k)) 0 _) e in
      λ i. record { end = ends i; accesses = (ap (λ (l : List Access). made ++ l) none ∙ append_none k image made) i; clean = tidy i }

  pub stray_stop : (s last : State Stored) (why : Stop) (turns : ℕ) (made : List Access) → event (ground k) s ≡ Stops true why last → clean_now (ground k) s ≡ true
      → final (ground k) record { state = s; turns = suc turns; accesses = made } ≡ record { end = Stopped why last; accesses = made; clean = true }
  stray_stop s last why turns made e c =
      let tidy : clean_of (ground k) (suc turns) s ≡ true = clean_step (ground k) (suc turns) s ∙ ap (and_clean (clean_of (ground k)) (suc turns) (clean_now (ground k) s)) e ∙ c in
      let ends : run_of (ground k) (suc turns) s ≡ Stopped why last = run_step (ground k) (suc turns) s ∙ ap (after (run_of (ground k)) (suc turns) s) e in
      let none : accesses_of (ground k) (suc turns) s ≡ [] = accesses_step (ground k) (suc turns) s ∙ ap (and_later (accesses_of (ground k)) (suc turns) _) e in
      λ i. record { end = ends i; accesses = (ap (λ (l : List Access). made ++ l) none ∙ append_none k image made) i; clean = tidy i }

  abbrev pub strays_by : ℕ → Bool
  strays_by target = is_in instrumented_code target && not (target == landing)

  judged_control : (from target : ℕ) → is_in_outer k.outers from ≡ true → control_strays from target false true k.outers ≡ (if strays_by target then Some target else None)
  unfolding control_strays is_legacy_control may_enter
  judged_control from target outer = rw outer (by (is_legacy from) (is_in instrumented_code target) (target == landing))
    where
      by : (a b e : Bool) → (if (a || true) && b && not (e || false) then Some target else None) ≡ (if b && not e then Some target else None)
      by true true true = refl
      by true true false = refl
      by true false e = refl
      by false true true = refl
      by false true false = refl
      by false false e = refl

  module _ (target sp : ℕ) (c : Processor) (y : Stored) (st : StandsAt k image c.rip (Ret true) 2) (code : HasCode image y) (at : c.regs 4 ≡ sp) (readable : first_refused is_readable 8 sp ≡ None) (low : sp + 8 < 2 ^ 64)
      (is : number_at 8 y.bytes sp ≡ target) (outer : is_in_outer k.outers c.rip ≡ true) (avoids : all_below 8 (λ n. not (is_of_bounds (moved sp n))) ≡ true) where
    abbrev d : Processor
    d = record c { rip = target; regs = with_reg c.regs 4 (sp + 8) }

    reads_it : run (ground k).store c (row (Ret true) (c.rip + 2) c) y ≡ Done d y
    unfolding run row stored_read
    reads_it =
        let above : (sp + 8) % 2 ^ 64 ≡ sp + 8 = omega arith in
        let fits : number_at 8 y.bytes sp < 2 ^ 64 = number_at-lt 8 y.bytes sp code.each_byte in
        let word : target % 2 ^ 64 ≡ target = omega arith in
        rw (at, readable, is, above, word) refl

    unwatched_pop : reach_strays (Ret true) c.rip (reach_of (accesses (Ret true) (c.rip + 2) c.regs)) ≡ None
    unfolding is_c_access
    unwatched_pop = unwatched k image (Ret true) c.rip _ st.inside refl

    none_noted : c_accesses_among (Ret true) (accesses (Ret true) (c.rip + 2) c.regs) ≡ []
    unfolding is_c_access
    none_noted = refl

    tidy_pop : all_keep_out false (Ret true) c.rip (accesses (Ret true) (c.rip + 2) c.regs) ≡ true
    unfolding keeps_out is_watched is_c_access
    tidy_pop = rw (at, avoids) (either (is_legacy c.rip))
      where
        either : (b : Bool) → (((b || false) || true) && true) ≡ true
        either true = refl
        either false = refl

    pub return_judged : strays_by target ≡ false → Turns c y d y
    return_judged fine = turning (Ret true) 2 c d y y st code refl refl unwatched_pop none_noted tidy_pop (judged_control c.rip target outer ∙ rw fine refl) reads_it

    stray_deed : (g : Guest) (n : ℕ) → strays_by target ≡ true → deed_of (ground k) (Ret true) (c.rip + 2) (record { processor = c; memory = y; guest = g; steps = n }) ≡ Halts (stop.Strayed target) (record { processor = d; memory = y; guest = g; steps = n })
    unfolding deed_of executed
    stray_deed g n bad = let e = judged_control c.rip target outer ∙ (let f : (if strays_by target then Some target else None) ≡ Some target = rw bad refl in f) in rw (unwatched_pop, reads_it, e) refl

    pub return_strays : strays_by target ≡ true → Strays_there c y d target
    return_strays bad = record { out = λ g n made. stray_out _ _ _ made (ev g n) (tidy g n); ends = λ g n turns made. stray_stop _ _ _ turns made (ev g n) (tidy g n) }
      where
        tidy : (g : Guest) (n : ℕ) → clean_now (ground k) (record { processor = c; memory = y; guest = g; steps = n }) ≡ true
        tidy g n = let s : State Stored = record { processor = c; memory = y; guest = g; steps = n } in clean_plain k.reads k.outers k.preserve s (Ret true) 2 st.inside st.small (st.reads s refl code) refl tidy_pop

        ev : (g : Guest) (n : ℕ) → event (ground k) (record { processor = c; memory = y; guest = g; steps = n }) ≡ Stops true (stop.Strayed target) (record { processor = d; memory = y; guest = g; steps = n })
        ev g n = let s : State Stored = record { processor = c; memory = y; guest = g; steps = n } in
            by_reading k.reads k.outers k.preserve s (Is (Ret true) 2) st.inside (st.reads s refl code)
            ∙ ap (λ x. event_of s true (deed_of (ground k) (Ret true) x s)) (next_fits c.rip 2 st.inside st.small)
            ∙ ap (event_of s true) (stray_deed g n bad)
            ∙ (let inside = st.inside in rw inside refl)
