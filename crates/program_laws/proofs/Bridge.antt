-- One relation seen from both sides: the border of calls, and what the code of a function sees.
use Rattle.mx_base.specs.StopOfC.{AccessOfC}
use Rattle.call_sigs.specs.Signatures.{Signature, Result, Nothing, Pointer, Of}
use Rattle.call_gates.specs.Gates.{way}
use Rattle.gate_laws.specs.Moments.{Moment, Final}
use Rattle.obj_file.specs.Finals.{final}
use Rattle.code_laws.specs.Views.{View}
use Rattle.step_code.specs.Pieces.{relative}
use Rattle.code_laws.specs.Seen.{Setting, IsSetting, Seen}
use Rattle.step_code.specs.Steps.{Plan}
use Rattle.code_laws.specs.Runs.{whole, whole_of, Ready, ArgsStand}
use Rattle.step_code.proofs.Sizes.{four_bytes}
use Rattle.std.proofs.Common.{◌≡◌, ℕ, suc, ◌+◌, ◌*◌, ◌<◌, ◌≤◌, inl, inr, Bool, true, Option, None, Some, List, [], ◌∷◌, length, refl, arith, ap, ◌∙◌, sym, subst}
use Rattle.std.proofs.lemmas.Bool.{and_parts}
use Rattle.std.proofs.lemmas.Bool.Decides.{nat_tests}
use Rattle.program_laws.specs.Levels.{Do}
use Rattle.program_laws.specs.Borders.{moment_of, setting_of}
use Rattle.program_laws.specs.Functions.{signature_of, entry_of, entries_of, is_there, are_arguments, is_pointer_result, returns_in, takes_in}
use Rattle.std.specs.Prelude.{nat_lt}
use Rattle.program_laws.proofs.Registers.{same_register}
use Rattle.mx_base.specs.declared.numbers.IntKind.{IntKind}
use Rattle.mx_base.specs.Memory.{Bytes, list_at}
use Rattle.mx_base.specs.Regions.{instrumented_code, control_stack, is_in}
use Rattle.mx_base.specs.StopOfC.{StopOfC}
use Rattle.mx_base.specs.World.{World, FarRegisters}
use Rattle.mx_base.proofs.MemoryLemmas.{number_at-same}
use Rattle.x86_forms.specs.declared.instr.Instr.TheVariants.{CallRel}
use Rattle.x86_forms.specs.Spelling.{spelling, prefix_bytes, rex_bytes, escape_bytes, operand_bytes, forces_rex, rex_bits, high_bits}
use Rattle.obj_file.specs.Machine.{IsReader}
use Rattle.obj_file.specs.Runs.{End, Out, Stopped}
use Rattle.obj_file.specs.Stored.{Stored}
use Rattle.fat_ir.specs.Values.{Value}
use Rattle.fat_ir.specs.Calls.{Callee, Outcome, Comes, Stops, Stuck}
use Rattle.fat_ir.specs.Laws.{Leaves, LeftByCalls, NoMoreTurns}
use Rattle.fat_ir.specs.Functions.{Linked, Target, OfC, Outside, call_of, symbols_of}
use Rattle.legacy_calls.specs.Legacy.{Linkage, ground}
use Rattle.gate_laws.specs.Standing.{EndsAs, EndIs, Stands, AtCall, Arrive, Back, CallEnds, Calls, Holds}
use Rattle.gate_laws.specs.Placed.{StandsAt}
use Rattle.gate_laws.proofs.Placing.{stands_by_bytes}
use Rattle.mx_base.specs.Guests.{GuestFits}
use Rattle.code_laws.specs.Runs as core

inside_high : (a : ℕ) → is_in instrumented_code a ≡ true → (0x0100_0000 ≤ a) × (a < 0x1100_0000)
inside_high a h = (grind (arith, nat_tests), grind (arith, nat_tests))

inside_code : (a : ℕ) → 0x0100_0000 ≤ a → a < 0x1100_0000 → is_in instrumented_code a ≡ true
inside_code a low high = grind (arith, nat_tests)

-- ---- ends of runs

module _ (S : Setting) (p : Plan) (places : ℕ → Option AccessOfC) where
  stops_by_end : (out : Final) (e : End Stored) (why : StopOfC) (w : World) → out.end ≡ e → out.accesses ≡ w.accesses → out.clean ≡ true → EndIs places why w e → core.StopsSo S p places out why w
  stops_by_end out (Out last) why w is made clean h = inl (h.0, record { last = last; is = λ i. record { end = is i; accesses = made i; clean = clean i }; guest = h.1.guest; store = h.1.store })
  stops_by_end out (Stopped by last) why w is made clean h = inr (by, record { last = last; is = λ i. record { end = is i; accesses = made i; clean = clean i }; guest = h.1.guest; store = h.1.store }, h.0)

  pub stops_so : (out : Final) (why : StopOfC) (w : World) → EndsAs places why w out → core.StopsSo S p places out why w
  stops_so out why w h = stops_by_end out out.end why w refl h.0 h.1 h.2

  pub ends_as : (out : Final) (why : StopOfC) (w : World) → core.StopsSo S p places out why w → EndsAs places why w out
  ends_as out why w (inl h) = let r = h.1 in subst (λ (f : Final). EndsAs places why w f) (sym r.is) (refl, refl, (h.0, record { guest = r.guest; store = r.store }))
  ends_as out why w (inr h) = let r = h.1 in subst (λ (f : Final). EndsAs places why w f) (sym r.is) (refl, refl, (h.2, record { guest = r.guest; store = r.store }))

module _ (k : Linkage) (image : Bytes) (places : ℕ → Option AccessOfC) (frozen : Bytes) (sp units depth : ℕ) (label_at entry_at : ℕ → ℕ) where
  abbrev S : Setting
  S = setting_of k image frozen sp units depth label_at entry_at

  -- what a function's code sees stands at the border
  pub stands_there : (v : View) (y : Stored) (n d : ℕ) → Seen S v y → depth + d ≡ 4096 → Stands k image d v.world (moment_of v y n)
  stands_there v y n d seen deep = record {
    shares = record { unsealed = seen.memory.open_bytes; each_byte = seen.memory.each_byte; store = seen.memory.store; kept_words = seen.memory.kept_words; guest = refl; guest_fits = seen.memory.guest_fits; turns = refl; accesses = refl };
    far = λ i. record { rbx = seen.far.rbx i; rbp = seen.far.rbp i; r12 = seen.far.r12 i; r13 = seen.far.r13 i; r14 = seen.far.r14 i; r15 = seen.far.r15 i };
    legacy_sp = seen.memory.legacy_cell;
    data_sp = seen.memory.data_cell;
    depth_left = let e = seen.memory.depth_cell in omega arith;
    code = λ a inside. let b = inside_high a inside in seen.memory.code a b.0 b.1;
    preserve = seen.preserve;
    words = seen.words;
  }

  abbrev pub view_after : View → World → Moment → View
  view_after v w b = record { processor = b.state.processor; slots = v.slots; world = w }

  -- and is seen again behind a call
  pub seen_again : (v : View) (y : Stored) (n d : ℕ) → Seen S v y → depth + d ≡ 4096 → (r : Result) (x : Value) (w : World) (b : Moment) → sp + 8 * units ≤ 0x7200_0000 → Back k image d r (moment_of v y n) x w b → Seen S (view_after v w b) b.state.memory
  seen_again v y n d seen deep r x w b top back =
      let st = back.stands in
      let at = seen.stack in
      record {
        memory = record {
          open_bytes = st.shares.unsealed;
          store = st.shares.store;
          frame = λ j few. number_at-same 8 b.state.memory.bytes y.bytes (sp + 8 * j) (λ a from to. back.kept a (omega arith) (omega arith)) ∙ seen.memory.frame j few;
          frozen = λ a from to. back.kept a (omega arith) to ∙ seen.memory.frozen a from to;
          code = λ a from to. st.code a (inside_code a from to);
          data_cell = st.data_sp;
          legacy_cell = st.legacy_sp;
          depth_cell = let e = st.depth_left in omega arith;
          each_byte = st.shares.each_byte;
          kept_words = st.shares.kept_words;
          guest_fits = subst GuestFits st.shares.guest st.shares.guest_fits;
        };
        words = st.words;
        stack = back.sp ∙ seen.stack;
        preserve = st.preserve;
        far = record { rbx = ap (λ (f : FarRegisters). f.rbx) st.far; rbp = ap (λ (f : FarRegisters). f.rbp) st.far; r12 = ap (λ (f : FarRegisters). f.r12) st.far; r13 = ap (λ (f : FarRegisters). f.r13) st.far; r14 = ap (λ (f : FarRegisters). f.r14) st.far; r15 = ap (λ (f : FarRegisters). f.r15) st.far };
      }

  same_run : (v : View) (y : Stored) (n : ℕ) (b : Moment) (w : World) → final (ground k) (moment_of v y n) ≡ final (ground k) b → b.state.guest ≡ w.guest → b.turns ≡ w.turns → b.accesses ≡ w.accesses
      → whole_of S v y n ≡ whole_of S (view_after v w b) b.state.memory b.state.steps
  unfolding whole
  same_run v y n b w on guest turns made = on ∙ (λ i. final (ground k) (record { state = record { processor = b.state.processor; memory = b.state.memory; guest = guest i; steps = b.state.steps }; turns = turns i; accesses = made i }))

  pub as_final : (v : View) (y : Stored) (n : ℕ) → whole_of S v y n ≡ final (ground k) (moment_of v y n)
  unfolding whole
  as_final v y n = refl

  number_of : (r : Result) (x : Value) (c : View) → Holds r x c.processor → c.processor.regs 0 ≡ x.number
  number_of Nothing x c h = h
  number_of Pointer x c h = h.0
  number_of (Of kind) x c h = h

  -- how a call ends at the border, as the caller's code sees it
  pub call_ends : (p : Plan) (d : ℕ) (r : Result) (pointer : Bool) → (pointer ≡ true → r ≡ Pointer) → (v : View) (y : Stored) (n next : ℕ) → Seen S v y → depth + d ≡ 4096 → sp + 8 * units ≤ 0x7200_0000 → next ≡ v.processor.rip + 6
      → (o : Outcome) → Leaves (NoMoreTurns v.world) o → CallEnds k image places d r (moment_of v y n) o → core.CallEnds S p places v next pointer (whole_of S v y n) o
  call_ends p d r pointer is_pointer v y n next seen deep top at (Comes x w) few (b, on, back) = record {
    view = view_after v w b;
    leads = record { memory = b.state.memory; steps = b.state.steps; same = same_run v y n b w on back.stands.shares.guest back.stands.shares.turns back.stands.shares.accesses; seen = seen_again v y n d seen deep r x w b top back };
    at = back.next ∙ sym at;
    number = number_of r x (view_after v w b) back.holds;
    bounds = λ e. (subst (λ (z : Result). Holds z x b.state.processor) (is_pointer e) back.holds).1;
    slots = refl;
    world = refl;
    left = few;
  }
  call_ends p d r pointer is_pointer v y n next seen deep top at (Stops why w) few h = stops_so S p places (whole_of S v y n) why w (subst (λ (f : Final). EndsAs places why w f) (sym (as_final v y n)) h)
  call_ends p d r pointer is_pointer v y n next seen deep top at Stuck few h = tt

-- ---- arguments

-- arguments of a call are those that the parameters take
pub arrives : (qs : List (Option IntKind)) (args : List (ℕ × Option ℕ)) (xs : List Value) (v : View) (i j : ℕ) → are_arguments qs args ≡ true → ArgsStand i j args xs v → Arrive i j qs xs v.processor
arrives [] [] [] v i j t h = tt
arrives [] [] (x ∷ xs) v i j t h = absurd h
arrives [] (a ∷ rest) xs v i j t h = absurd (cc)
arrives (q ∷ qs) [] xs v i j t h = absurd (cc)
arrives (q ∷ qs) (a ∷ rest) [] v i j t h = absurd h
arrives (None ∷ qs) ((a, None) ∷ rest) (x ∷ xs) v i j t h = absurd (cc)
arrives (None ∷ qs) ((a, Some b) ∷ rest) (x ∷ xs) v i j t h =
    (ap v.processor.regs (sym (same_register i)) ∙ h.0, h.1, (let e : suc i ≡ i + 1 = omega arith in let f : suc j ≡ j + 1 = omega arith in subst (λ (m : ℕ). Arrive m (j + 1) qs xs v.processor) e (subst (λ (m : ℕ). Arrive (suc i) m qs xs v.processor) f (arrives qs rest xs v (suc i) (suc j) t h.2))))
arrives (Some kind ∷ qs) ((a, None) ∷ rest) (x ∷ xs) v i j t h =
    (ap v.processor.regs (sym (same_register i)) ∙ h.0, (let e : suc i ≡ i + 1 = omega arith in subst (λ (m : ℕ). Arrive m j qs xs v.processor) e (arrives qs rest xs v (suc i) j t h.2)))
arrives (Some kind ∷ qs) ((a, Some b) ∷ rest) (x ∷ xs) v i j t h = absurd (cc)

gives_pointer : (r : Result) → is_pointer_result r ≡ true → r ≡ Pointer
gives_pointer Nothing e = absurd (cc)
gives_pointer Pointer e = refl
gives_pointer (Of kind) e = absurd (cc)

-- ---- calls of a function's code

below_there : (a b : ℕ) → nat_lt a b ≡ true → a < b
below_there a b h = grind (arith, nat_tests)

module _ (k : Linkage) (image : Bytes) (places : ℕ → Option AccessOfC) (reader : IsReader k.reads) (frozen : Bytes) (sp units depth : ℕ) (label_at : ℕ → ℕ) (inner stub : ℕ → ℕ) (l : Linked)
    (ok : IsSetting (setting_of k image frozen sp units depth label_at (entries_of inner stub l))) (d : ℕ) (deep : depth + d ≡ 4096) (room : control_stack.from + 4088 * d + 112 ≤ sp) where
  abbrev entry_at : ℕ → ℕ
  entry_at = entries_of inner stub l

  abbrev T : Setting
  T = setting_of k image frozen sp units depth label_at entry_at

  six : (next entry : ℕ) → length (spelling (CallRel true (relative entry next))) ≡ 6
  unfolding prefix_bytes rex_bytes escape_bytes operand_bytes rex_bits high_bits forces_rex
  six next entry = ap (λ (n : ℕ). suc (suc n)) (four_bytes (relative entry next))

  pub call_at : (more : ℕ) → more ≤ 112 → (target : ℕ) (sig : Signature) (v : View) (y : Stored) (n next : ℕ) (args : List (ℕ × Option ℕ)) (xs : List Value) → Ready T ok v y (CallRel true (relative target next)) next
      → are_arguments sig.parameters args ≡ true → ArgsStand 0 0 args xs v → (next ≡ v.processor.rip + 6) × AtCall k image d more target sig xs v.world (moment_of v y n)
  call_at more few target sig v y n next args xs h takes stand =
      let st = h.stands in
      let size = six next target in
      let is = st.is_next in
      let at : next ≡ v.processor.rip + 6 = omega arith in
      let low = st.low in
      let high = st.high in
      let seen = h.seen in
      let stack = seen.stack in
      let top = ok.high in (
        at,
        record {
          stands = stands_there k image places frozen sp units depth label_at entry_at v y n d seen deep;
          here = subst (λ (z : ℕ). StandsAt k image v.processor.rip (CallRel true (way target z)) 6) at (stands_by_bytes k reader image v.processor.rip (CallRel true (relative target next)) 6 (inside_code v.processor.rip low (omega arith)) (omega arith) st.valid size
              (subst (λ (z : ℕ). list_at z image v.processor.rip ≡ spelling (CallRel true (relative target next))) size st.bytes));
          arrive = arrives sig.parameters args xs v 0 0 takes stand;
          room = (omega arith, omega arith);
        },
      )

  module _ (p : Plan) (own other : Callee) (calls_own : Calls k image places d 64 k.outers inner k.own own) (calls_other : Calls k image places d 112 k.stubs stub k.legacy other) (left_own : LeftByCalls NoMoreTurns own) (left_other : LeftByCalls NoMoreTurns other) where
    by_target : (t : Target) (pointer : Bool) (args : List (ℕ × Option ℕ)) (xs : List Value) (v : View) (y : Stored) (n next : ℕ) → is_there k t ≡ true → (pointer ≡ true → (signature_of k t).result ≡ Pointer) → are_arguments (signature_of k t).parameters args ≡ true
        → Ready T ok v y (CallRel true (relative (entry_of inner stub t) next)) next → ArgsStand 0 0 args xs v → core.CallEnds T p places v next pointer (whole_of T v y n) (call_of t own other xs v.world)
    by_target (OfC f) pointer args xs v y n next few gives shape h stand =
        let at = call_at 64 (omega arith) (inner f) (k.own f) v y n next args xs h shape stand in
        call_ends k image places frozen sp units depth label_at entry_at p d (k.own f).result pointer gives v y n next h.seen deep ok.high at.0 (own f xs v.world) (left_own f xs v.world) (calls_own f xs v.world (moment_of v y n) (below_there f k.outers few) at.1)
    by_target (Outside g) pointer args xs v y n next few gives shape h stand =
        let at = call_at 112 (omega arith) (stub g) (k.legacy g) v y n next args xs h shape stand in
        call_ends k image places frozen sp units depth label_at entry_at p d (k.legacy g).result pointer gives v y n next h.seen deep ok.high at.0 (other g xs v.world) (left_other g xs v.world) (calls_other g xs v.world (moment_of v y n) (below_there g k.stubs few) at.1)

    -- so calls do what they mean, as the function's code asks of them
    pub calls_there : core.Calls T ok p places (symbols_of l own other) (returns_in k l) (takes_in k l)
    calls_there symbol args xs v y n next takes_it h stand =
        let parts = and_parts (is_there k (l.targets symbol)) (are_arguments (signature_of k (l.targets symbol)).parameters args) takes_it in
        by_target (l.targets symbol) (returns_in k l symbol) args xs v y n next parts.0 (gives_pointer (signature_of k (l.targets symbol)).result) parts.1 h stand

-- the same of all that is asked of calls
pub do_there : (k : Linkage) (image : Bytes) (places : ℕ → Option AccessOfC) (inner stub : ℕ → ℕ) (l : Linked) → IsReader k.reads
    → (frozen : Bytes) (sp units depth : ℕ) (label_at : ℕ → ℕ) (ok : IsSetting (setting_of k image frozen sp units depth label_at (entries_of inner stub l)))
    (d : ℕ) → depth + d ≡ 4096 → control_stack.from + 4088 * d + 112 ≤ sp → (p : Plan) (own other : Callee) → Do k image places inner stub d own other
    → core.Calls (setting_of k image frozen sp units depth label_at (entries_of inner stub l)) ok p places (symbols_of l own other) (returns_in k l) (takes_in k l)
do_there k image places inner stub l reader frozen sp units depth label_at ok d deep room p own other h =
    calls_there k image places reader frozen sp units depth label_at inner stub l ok d deep room p own other h.calls_own h.calls_other h.left_own h.left_other
