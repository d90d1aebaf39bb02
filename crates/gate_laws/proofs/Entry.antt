-- A call of a legacy function leads to where its meaning begins, or stops as it does.
use Rattle.std.specs.Prelude.{Bool, true, false, ◌==◌, nat_eq, nat_lt, nat_le, ◌&&◌, if◌then◌else◌, Option, None, Some, List, [], ◌∷◌, ◌++◌, ◌^◌, length}
use Rattle.std.proofs.Common.{◌≡◌, ℕ, suc, ◌+◌, ◌-◌, ◌<◌, ◌≤◌, ◌⊎◌, inl, inr, refl, arith, ap, ◌∙◌, sym, subst}
use Rattle.std.proofs.lemmas.Bool.{cond_both, cases_lt}
use Rattle.std.proofs.lemmas.Bool.Decides.{nat_tests}
use Rattle.mx_base.specs.declared.limits.Bounds.{Bounds}
use Rattle.mx_base.specs.declared.numbers.IntKind.{IntKind}
use Rattle.mx_base.specs.Access.{Refusal, Strays, Misses, refusal}
use Rattle.mx_base.specs.Bounds.{full_bounds, addresses}
use Rattle.mx_base.specs.Memory.{Bytes, number_at, first_refused_around}
use Rattle.mx_base.specs.Regions.{instrumented_code, is_in, is_sealed}
use Rattle.mx_base.specs.StopOfC.{OutOfTurns, stop_in_c, AccessOfC}
use Rattle.mx_base.specs.World.{World, FarRegisters, number_written}
use Rattle.mx_base.proofs.MemoryLemmas.{number_at-lt, number_at-same, AreBytes-with_number}
use Rattle.obj_file.proofs.StoredBytes.{with_number_apart, with_number_both, number_apart, word_back}
use Rattle.x86_forms.specs.declared.instr.Instr.TheVariants.{JmpRel}
use Rattle.x86_forms.specs.Processor.{Processor, with_reg, below_stack}
use Rattle.x86_forms.specs.Table.{init_bounds}
use Rattle.x86_forms.specs.Watch.{is_legacy, landing}
use Rattle.obj_file.specs.Runs.{Out, Stopped}
use Rattle.obj_file.specs.Stored.{Stored}
use Rattle.obj_file.specs.StoreLaw.{AreWords}
use Rattle.fat_ir.specs.Values.{Value}
use Rattle.fat_ir.specs.Calls.{with_turns}
use Rattle.fat_ir.specs.Step.{stop_by}
use Rattle.call_sigs.specs.Signatures.{Signature, parameter_register, pointers}
use Rattle.call_gates.specs.Gates.{Code, not_carrying, stub_keeps, stub_writes, stub_clears, stub_tail, stub_body_size, control_cell, legacy_cell, data_cell, depth_cell, landing_at, jumps, way}
use Rattle.obj_file.specs.Finals.{final}
use Rattle.gate_laws.specs.Moments.{Moment, Final}
use Rattle.legacy_calls.specs.Legacy.{Linkage, ground, zero_flags, bare_regs, with_arguments, at_entry}
use Rattle.gate_laws.specs.Placed.{HasCode, IsPlaced, StandsAt}
use Rattle.gate_laws.specs.Standing.{EndsAs, AtCall, Alongside}
use Rattle.gate_laws.specs.Effects.{end_of, cleared, arrived, init_above}
use Rattle.gate_laws.proofs.Walks.{written, IsOwn, code_kept, here, Leads, then_on}
use Rattle.gate_laws.proofs.Straight.{set_leads, placed_front, placed_back, arrived_small, words_stay}
use Rattle.gate_laws.proofs.Borders.{NumbersArrive, numbers_arrive, regs_alike, pointers_alike}
use Rattle.gate_laws.proofs.Turns.{Turns, call_turns, Writes, writes, stop_by_machine}
use Rattle.gate_laws.proofs.Refusing.{is_unsealed, unsealed_byte, written_within}
use Rattle.call_gates.proofs.Sizes.{few_stub}
use Rattle.gate_laws.proofs.Sizes.{stub_behind}
use Rattle.gate_laws.proofs.Stub.{kept_in, kept_regs, keeps_lead, clears_lead, jump_leads}
use Rattle.gate_laws.specs.Owed.{HasSpace, IsStub}

-- ---- what is sealed, and what is not

own_sealed : (a x : ℕ) → IsOwn a → a ≤ x → x < a + 8 → is_sealed x ≡ true
unfolding is_sealed
own_sealed a x o from to = let l = o.low in let h = o.high in elim o.place [ inl p ↦ grind (arith, nat_tests) | inr p ↦ grind (arith, nat_tests) ]

pub stack_sealed : (x : ℕ) → 0x7100_0000 ≤ x → x < 0x7200_0000 → is_sealed x ≡ true
unfolding is_sealed
stack_sealed x from to = grind (arith, nat_tests)

pub own_byte_sealed : (a x : ℕ) → IsOwn a → a ≤ x → x < a + 8 → is_sealed x ≡ true
own_byte_sealed = own_sealed

pub no_both : {A : Type 0} (b : Bool) → b ≡ true → b ≡ false → A
no_both true h e = absurd (cc)
no_both false h e = absurd (cc)

own_apart : (a x : ℕ) → IsOwn a → is_sealed x ≡ false → (x < a) ⊎ (a + 8 ≤ x)
own_apart a x o unsealed = elim (cases_lt x a) [
  | inl low ↦ inl low
  | inr from ↦ elim (cases_lt x (a + 8)) [ inl to ↦ no_both (is_sealed x) (own_sealed a x o from to) unsealed | inr high ↦ inr high ]
]

-- what is not sealed stays when a word of the machine's own is written
pub open_kept : (y : Stored) (a v x : ℕ) → IsOwn a → is_sealed x ≡ false → (written y a v).bytes x ≡ y.bytes x
open_kept y a v x o unsealed = with_number_apart 8 y.bytes a v x (own_apart a x o unsealed)

-- and what is sealed stays when a word that is not sealed is written
pub sealed_apart : (a x : ℕ) → first_refused_around is_unsealed 8 a ≡ None → a + 8 ≤ addresses → is_sealed x ≡ true → (x < a) ⊎ (a + 8 ≤ x)
sealed_apart a x none within closed = elim (cases_lt x a) [
  | inl low ↦ inl low
  | inr from ↦ elim (cases_lt x (a + 8)) [ inl to ↦ no_both (is_sealed x) closed (unsealed_byte 8 a x (omega arith) none within from to) | inr high ↦ inr high ]
]

pub own_word_kept : (y : Stored) (a v b : ℕ) → first_refused_around is_unsealed 8 a ≡ None → a + 8 ≤ addresses → IsOwn b → number_at 8 (written y a v).bytes b ≡ number_at 8 y.bytes b
own_word_kept y a v b none within o = number_at-same 8 (written y a v).bytes y.bytes b (λ x from to. with_number_apart 8 y.bytes a v x (sealed_apart a x none within (own_sealed b x o from to)))

-- ---- what the stub leaves in sealed memory

pub record IsLeft (z : Bytes) (q control legacy tail next : ℕ) (before : Bytes) : Type 0 where
  pub cell : number_at 8 z control_cell ≡ q
  pub tail_is : number_at 8 z q ≡ tail
  pub legacy_is : number_at 8 z (q + 8) ≡ legacy
  pub control_is : number_at 8 z (q + 16) ≡ control
  pub next_is : number_at 8 z (q + 24) ≡ next
  pub legacy_same : number_at 8 z legacy_cell ≡ number_at 8 before legacy_cell
  pub data_same : number_at 8 z data_cell ≡ number_at 8 before data_cell
  pub depth_same : number_at 8 z depth_cell ≡ number_at 8 before depth_cell
  pub above : (a : ℕ) → q + 32 ≤ a → a < 0x7200_0000 → z a ≡ before a

pub record Fits (q control legacy tail next : ℕ) : Type 0 where
  pub low : 0x7100_0000 ≤ q
  pub high : q + 32 ≤ 0x7200_0000
  pub control_fits : control < 2 ^ 64
  pub legacy_fits : legacy < 2 ^ 64
  pub tail_fits : tail < 2 ^ 64
  pub next_fits : next < 2 ^ 64

-- the return address of the call, the words that are kept, and the return address of legacy code, which lies at `a`
abbrev pub all_written : Stored → (q control legacy tail next a : ℕ) → Stored
all_written y q control legacy tail next a = written (kept_in (written y (q + 24) next) q control legacy tail) a landing_at

pub own_at : (q n : ℕ) → 0x7100_0000 ≤ q → q + n + 8 ≤ 0x7200_0000 → IsOwn (q + n)
own_at q n low high = record { low = omega arith; place = inr (omega arith); high = omega arith }

pub own_cell : (a : ℕ) → 0x7000_0000 ≤ a → a + 8 ≤ 0x7000_1000 → IsOwn a
own_cell a low high = record { low = low; place = inl high; high = omega arith }

pub is_left : (y : Stored) (q control legacy tail next a : ℕ) → Fits q control legacy tail next → first_refused_around is_unsealed 8 a ≡ None → a + 8 ≤ addresses → IsLeft (all_written y q control legacy tail next a).bytes q control legacy tail next y.bytes
is_left y q control legacy tail next a f none within =
    let low = f.low in
    let high = f.high in
    let y0 = written y (q + 24) next in
    let y1 = written y0 (q + 16) control in
    let y2 = written y1 (q + 8) legacy in
    let y3 = written y2 q tail in
    let y4 = written y3 control_cell q in
    let own_0 : IsOwn q = record { low = omega arith; place = inr (omega arith); high = omega arith } in
    let last : (b : ℕ) → IsOwn b → number_at 8 (written y4 a landing_at).bytes b ≡ number_at 8 y4.bytes b = λ b o. own_word_kept y4 a landing_at b none within o in
    let cell_b : (b : ℕ) → 0x7000_0008 ≤ b → b + 8 ≤ 0x7000_1000 → number_at 8 (written y4 a landing_at).bytes b ≡ number_at 8 y.bytes b = λ b from to.
    last b (own_cell b (omega arith) to) ∙ number_apart y3.bytes b control_cell q (inr (omega arith)) ∙ number_apart y2.bytes b q tail (inl (omega arith)) ∙ number_apart y1.bytes b (q + 8) legacy (inl (omega arith))
    ∙ number_apart y0.bytes b (q + 16) control (inl (omega arith)) ∙ number_apart y.bytes b (q + 24) next (inl (omega arith)) in
    record {
      cell = last control_cell (own_cell control_cell (omega arith) (omega arith)) ∙ word_back y3.bytes control_cell q (omega arith);
      tail_is = last q own_0 ∙ number_apart y3.bytes q control_cell q (inr (omega arith)) ∙ word_back y2.bytes q tail f.tail_fits;
      legacy_is = last (q + 8) (own_at q 8 low (omega arith)) ∙ number_apart y3.bytes (q + 8) control_cell q (inr (omega arith)) ∙ number_apart y2.bytes (q + 8) q tail (inr (omega arith)) ∙ word_back y1.bytes (q + 8) legacy f.legacy_fits;
      control_is = last (q + 16) (own_at q 16 low (omega arith)) ∙ number_apart y3.bytes (q + 16) control_cell q (inr (omega arith)) ∙ number_apart y2.bytes (q + 16) q tail (inr (omega arith)) ∙ number_apart y1.bytes (q + 16) (q + 8) legacy (inr (omega arith)) ∙ word_back y0.bytes (q + 16) control f.control_fits;
      next_is = last (q + 24) (own_at q 24 low (omega arith)) ∙ number_apart y3.bytes (q + 24) control_cell q (inr (omega arith)) ∙ number_apart y2.bytes (q + 24) q tail (inr (omega arith)) ∙ number_apart y1.bytes (q + 24) (q + 8) legacy (inr (omega arith)) ∙ number_apart y0.bytes (q + 24) (q + 16) control (inr (omega arith)) ∙ word_back y.bytes (q + 24) next f.next_fits;
      legacy_same = cell_b legacy_cell (omega arith) (omega arith);
      data_same = cell_b data_cell (omega arith) (omega arith);
      depth_same = cell_b depth_cell (omega arith) (omega arith);
      above = λ x from to. with_number_apart 8 y4.bytes a landing_at x (sealed_apart a x none within (stack_sealed x (omega arith) to))
          ∙ with_number_apart 8 y3.bytes control_cell q x (inr (omega arith)) ∙ with_number_apart 8 y2.bytes q tail x (inr (omega arith)) ∙ with_number_apart 8 y1.bytes (q + 8) legacy x (inr (omega arith))
          ∙ with_number_apart 8 y0.bytes (q + 16) control x (inr (omega arith)) ∙ with_number_apart 8 y.bytes (q + 24) next x (inr (omega arith));
    }

pub code_sealed : (x : ℕ) → is_in instrumented_code x ≡ true → is_sealed x ≡ true
unfolding is_sealed
code_sealed x inside = grind (arith, nat_tests)

cleared_zero : (rs : List ℕ) (regs : ℕ → ℕ) → regs 0 ≡ 0 → cleared rs regs 0 ≡ 0
cleared_zero [] regs h = h
cleared_zero (r ∷ rs) regs h = cleared_zero rs (with_reg regs r 0) (cond_both (nat_eq 0 r) 0 (regs 0) (λ (n : ℕ). n ≡ 0) (λ _. refl) (λ _. h))

pub cleared_small : (rs : List ℕ) (regs : ℕ → ℕ) → ((x : ℕ) → regs x < 2 ^ 64) → (x : ℕ) → cleared rs regs x < 2 ^ 64
cleared_small [] regs h = h
cleared_small (r ∷ rs) regs h = cleared_small rs (with_reg regs r 0) (λ x. cond_both (nat_eq x r) 0 (regs x) (λ (n : ℕ). n < 2 ^ 64) (λ _. omega arith) (λ _. h x))

-- ---- registers that carry parameters

pub by_parameter : (P : ℕ → Type 0) → P 7 → P 6 → P 2 → P 1 → P 8 → P 9 → (k : ℕ) → P (parameter_register k)
by_parameter P a b c d e f k =
    cond_both (k == 0) 7 _ P (λ _. a) (λ _. cond_both (k == 1) 6 _ P (λ _. b) (λ _. cond_both (k == 2) 2 _ P (λ _. c) (λ _. cond_both (k == 3) 1 _ P (λ _. d) (λ _. cond_both (k == 4) 8 _ P (λ _. e) (λ _. f)))))

arrive_still : (k : ℕ) (ps : List (Option IntKind)) (args : List Value) (f g : ℕ → ℕ) → ((j : ℕ) → g (parameter_register j) ≡ f (parameter_register j)) → NumbersArrive k ps args f → NumbersArrive k ps args g
arrive_still k [] [] f g same h = tt
arrive_still k [] (a ∷ args) f g same h = absurd h
arrive_still k (p ∷ ps) [] f g same h = absurd h
arrive_still k (p ∷ ps) (a ∷ args) f g same h = (same k ∙ h.0, arrive_still (k + 1) ps args f g same h.1)

above_none : (m b : ℕ) (bounds : ℕ → Bounds) → (if nat_le 0 b && nat_lt b (0 + m) then bounds b else full_bounds) ≡ init_above m bounds b
above_none m b bounds = let e : (nat_le 0 b && nat_lt b (0 + m)) ≡ nat_lt b m = grind (arith, nat_tests) in rw e refl

-- the place of a stub and of what it calls
module _ (k : Linkage) (image : Bytes) (places : ℕ → Option AccessOfC) where
  abbrev F : Moment → Final
  F m = final (ground k) m

  -- legacy code is about to begin, with all that is kept
  pub record Begun (depth g : ℕ) (args : List Value) (before : Moment) (w : World) (next tail control : ℕ) : Type 0 where
    pub moment : Moment
    pub q : ℕ
    pub same : F before ≡ F moment
    pub space : HasSpace depth moment.state.memory.bytes
    pub left : IsLeft moment.state.memory.bytes q control w.legacy_sp tail next before.state.memory.bytes
    pub fits : Fits q control w.legacy_sp tail next
    pub sp_is : before.state.processor.regs 4 ≡ q + 32
    pub code : HasCode image moment.state.memory
    pub alongside : Alongside k moment.state.memory.bytes (at_entry k g args (number_written 8 w (below_stack w.legacy_sp) landing)) moment

  abbrev pub Entry : (depth g : ℕ) → List Value → Moment → World → (next tail control : ℕ) → Option Refusal → Type 0
  Entry depth g args before u next tail control (Some why) = EndsAs places (stop_by why) u (F before)
  Entry depth g args before u next tail control None = Begun depth g args before u next tail control

  stop_same : (why : Refusal) → stop_in_c places (stop_by_machine why) ≡ Some (stop_by why)
  stop_same (Strays x) = refl
  stop_same (Misses x) = refl

  legacy_is : (a : ℕ) → 0x1200_0000 ≤ a → is_legacy a ≡ true
  legacy_is a low = grind (arith, nat_tests)

  module _ (depth g at : ℕ) (args : List Value) (w : World) (m : Moment) (st : IsStub k image g at) (call : AtCall k image depth 112 at (k.legacy g) args w m) where
    abbrev c : Processor
    c = m.state.processor

    abbrev y : Stored
    y = m.state.memory

    abbrev sig : Signature
    sig = k.legacy g

    abbrev tail : ℕ
    tail = at + stub_body_size sig

    abbrev q : ℕ
    q = c.regs 4 - 32

    abbrev control : ℕ
    control = number_at 8 y.bytes control_cell

    abbrev legacy : ℕ
    legacy = w.legacy_sp

    abbrev sp : ℕ
    sp = below_stack legacy

    abbrev next : ℕ
    next = c.rip + 6

    code : HasCode image y
    code = record { each_byte = call.stands.shares.each_byte; code = call.stands.code }

    abbrev y0 : Stored
    y0 = written y (q + 24) next

    abbrev c1 : Processor
    c1 = record c { rip = at; regs = with_reg c.regs 4 (q + 24) }

    abbrev a1 : ℕ
    a1 = end_of at (stub_keeps tail)

    abbrev y4 : Stored
    y4 = kept_in y0 q control legacy tail

    abbrev r9 : ℕ → ℕ
    r9 = with_reg (kept_regs c1.regs q control legacy tail) 10 landing_at

    abbrev c3 : Processor
    c3 = record c { rip = a1 + 6; regs = r9 }

    abbrev after_stub : Code
    after_stub = jumps (k.begins g) tail ∷ stub_tail sig

    q_is : c.regs 4 ≡ q + 32
    q_is = let room = call.room.0 in omega arith

    fits : Fits q control legacy tail next
    fits =
        let room = call.room in
        let inside = call.here.inside in
        let low : next < 2 ^ 64 = grind (arith, nat_tests) in
        let is = call.stands.legacy_sp in
        let f = number_at-lt 8 y.bytes legacy_cell code.each_byte in
        let high = st.high in
        let size = few_stub (k.legacy g) st.few st.few_pointers in
        record { low = omega arith; high = omega arith; control_fits = number_at-lt 8 y.bytes control_cell code.each_byte; legacy_fits = omega arith; tail_fits = omega arith; next_fits = low }

    entered : Turns k image c y (record c { rip = at; regs = with_reg c.regs 4 (q + 24) }) (written y (q + 24) next)
    entered = let low = fits.low in let high = fits.high in let room = call.room in let h = st.high in
        call_turns k image at (q + 24) c y call.here code (q_is ∙ omega arith) (own_at q 24 low (omega arith)) (omega arith)

    -- ---- up to the writing of the return address

    code0 : HasCode image y0
    code0 = code_kept image y (q + 24) next (own_at q 24 fits.low (omega (arith, fits.high))) code

    code4 : HasCode image y4
    code4 = let low = fits.low in let high = fits.high in
        code_kept image _ control_cell q (own_cell control_cell (omega arith) (omega arith))
        (code_kept image _ q tail (record { low = omega arith; place = inr (omega arith); high = omega arith })
        (code_kept image _ (q + 8) legacy (own_at q 8 low (omega arith))
        (code_kept image _ (q + 16) control (own_at q 16 low (omega arith)) code0)))

    to_write : Leads k image c1 y0 c3 y4
    to_write = let low = fits.low in let high = fits.high in let h = st.high in let size = few_stub (k.legacy g) st.few st.few_pointers in
        then_on k image c1 (record c { rip = a1; regs = kept_regs c1.regs q control legacy tail }) c3 y0 y4 y4
        (keeps_lead k image q control legacy tail c1 y0 (placed_front k image (stub_keeps tail) (stub_writes ++ (stub_clears sig ++ after_stub)) at st.placed) code0 low (omega arith) refl
        (number_apart y.bytes control_cell (q + 24) next (inl (omega arith))) (number_apart y.bytes legacy_cell (q + 24) next (inl (omega arith)) ∙ call.stands.legacy_sp) (omega arith))
        (set_leads k image 10 landing_at 6 (record c { rip = a1; regs = kept_regs c1.regs q control legacy tail }) y4 (placed_back k image (stub_keeps tail) (stub_writes ++ (stub_clears sig ++ after_stub)) at st.placed).0 (omega arith) code4 (omega arith))

    placed_write : IsPlaced k image a1 (stub_writes ++ (stub_clears sig ++ after_stub))
    placed_write = placed_back k image (stub_keeps tail) (stub_writes ++ (stub_clears sig ++ after_stub)) at st.placed

    sp_small : sp < 2 ^ 64
    sp_small = omega arith

    words9 : (x : ℕ) → r9 x < 2 ^ 64
    words9 = let f = fits in let low = f.low in let high = f.high in
        let w0 = words_stay k image c.regs 4 (q + 24) call.stands.words.regs_fit (omega arith) in
        let w1 = words_stay k image _ 0 control w0 f.control_fits in
        let w2 = words_stay k image _ 4 (q + 16) w1 (omega arith) in
        let w3 = words_stay k image _ 0 legacy w2 f.legacy_fits in
        let w4 = words_stay k image _ 4 (q + 8) w3 (omega arith) in
        let w5 = words_stay k image _ 10 tail w4 f.tail_fits in
        let w6 = words_stay k image _ 4 q w5 (omega arith) in
        let w7 = words_stay k image _ 0 sp w6 sp_small in
        words_stay k image _ 10 landing_at w7 (omega arith)

    written_R : Writes k image c3 y4 sp landing_at 3 (refusal true 8 sp)
    written_R = writes k image 0 10 sp landing_at 3 c3 y4 placed_write.1.0 (omega arith) code4 refl refl sp_small refl (omega arith)

    -- no turn is left for the call
    pub out_at_call : m.turns ≡ 0 → EndsAs places OutOfTurns w (F m)
    out_at_call e =
        let shares = call.stands.shares in
        let all : F m ≡ record { end = Out m.state; accesses = m.accesses; clean = true } = ap (λ (t : ℕ). F (here k image c y m.state.guest m.state.steps t m.accesses)) e ∙ entered.out m.state.guest m.state.steps m.accesses in
        subst (λ (f : Final). EndsAs places OutOfTurns w f) (sym all) (shares.accesses, refl, (refl, record { guest = shares.guest; store = shares.store }))

    module _ (j : ℕ) (turns : m.turns ≡ suc j) where
      abbrev u : World
      u = with_turns j w

      -- the run goes on to the writing, with one turn less
      goes_there : (n : ℕ) × (F m ≡ F (here k image c3 y4 m.state.guest n j m.accesses))
      goes_there =
          let first = entered.on m.state.guest m.state.steps j m.accesses in
          let rest = to_write m.state.guest first.0 j m.accesses in
          (rest.0, ap (λ (t : ℕ). F (here k image c y m.state.guest m.state.steps t m.accesses)) turns ∙ first.1 ∙ rest.1)

      refused_there : (why : Refusal) → Writes k image c3 y4 sp landing_at 3 (Some why) → EndsAs places (stop_by why) u (F m)
      refused_there why ws =
          let e = ws.ends why refl m.state.guest goes_there.0 j m.accesses in
          let all : F m ≡ record { end = Stopped (stop_by_machine why) e.0; accesses = m.accesses; clean = true } = goes_there.1 ∙ e.1 in
          let shares = call.stands.shares in
          subst (λ (f : Final). EndsAs places (stop_by why) u f) (sym all)
          (shares.accesses, refl, (stop_same why, record { guest = e.2 ∙ shares.guest; store = ap (λ (z : Stored). z.bounds) e.3 ∙ shares.store }))

      -- ---- and on to legacy code

      module _ (ws : Writes k image c3 y4 sp landing_at 3 None) where
        abbrev y5 : Stored
        y5 = written y4 sp landing_at

        abbrev a2 : ℕ
        a2 = a1 + 6 + 3

        abbrev a3 : ℕ
        a3 = end_of a2 (stub_clears sig)

        abbrev c4 : Processor
        c4 = record c3 { rip = a2 }

        abbrev ps : List (Option IntKind)
        ps = sig.parameters

        abbrev r10 : ℕ → ℕ
        r10 = cleared (0 ∷ 10 ∷ 11 ∷ not_carrying (length ps)) (arrived 0 ps (with_reg r9 4 sp))

        none : first_refused_around is_unsealed 8 sp ≡ None
        none = ws.open_there refl

        within : sp + 8 ≤ addresses
        within = written_within 8 sp (omega arith) (omega arith) (ws.writable refl)

        code5 : HasCode image y5
        code5 = record {
          each_byte = AreBytes-with_number 8 y4.bytes sp landing_at code4.each_byte;
          code = λ x inside. with_number_apart 8 y4.bytes sp landing_at x (sealed_apart sp x none within (code_sealed x inside)) ∙ code4.code x inside;
        }

        placed_clears : IsPlaced k image a2 (stub_clears sig ++ after_stub)
        placed_clears = placed_write.1.1

        legacy_left : IsLeft y5.bytes q control legacy tail next y.bytes
        legacy_left = is_left y q control legacy tail next sp fits none within

        kept_open : (x : ℕ) → is_sealed x ≡ false → y4.bytes x ≡ w.bytes x
        kept_open x unsealed = let low = fits.low in let high = fits.high in
            open_kept (written (written (written y0 (q + 16) control) (q + 8) legacy) q tail) control_cell q x (own_cell control_cell (omega arith) (omega arith)) unsealed
            ∙ open_kept (written (written y0 (q + 16) control) (q + 8) legacy) q tail x (record { low = omega arith; place = inr (omega arith); high = omega arith }) unsealed
            ∙ open_kept (written y0 (q + 16) control) (q + 8) legacy x (own_at q 8 low (omega arith)) unsealed
            ∙ open_kept y0 (q + 16) control x (own_at q 16 low (omega arith)) unsealed
            ∙ open_kept y (q + 24) next x (own_at q 24 low (omega arith)) unsealed
            ∙ call.stands.shares.unsealed x unsealed

        to_jump : a3 + 6 ≡ tail
        to_jump = stub_behind (k.legacy g) at

        stands_jump : StandsAt k image a3 (JmpRel true (way (k.begins g) (a3 + 6))) 6
        stands_jump = subst (λ (a : ℕ). StandsAt k image a3 (JmpRel true (way (k.begins g) a)) 6) (sym to_jump) (placed_back k image (stub_clears sig) after_stub a2 placed_clears).0

        pub begun : Begun depth g args m u next tail control
        begun =
            let low = fits.low in
            let high = fits.high in
            let size = few_stub (k.legacy g) st.few st.few_pointers in
            let top = st.high in
            let target_low = st.target_low in
            let target_high = st.target_high in
            let jump_at = to_jump in
            let clears = clears_lead k image sig sp c4 y5 (placed_front k image (stub_clears sig) after_stub a2 placed_clears) code5 refl sp_small words9 st.few_pointers
            (cleared_zero (10 ∷ 11 ∷ not_carrying (length ps)) (with_reg (arrived 0 ps (with_reg r9 4 sp)) 0 0) refl) in
            let c5 : Processor = record c { rip = a3; regs = r10; flags = zero_flags; bounds = clears.0 } in
            let c6 : Processor = record c { rip = k.begins g; regs = r10; flags = zero_flags; bounds = clears.0 } in
            let way_on : Leads k image c4 y5 c6 y5 = then_on k image c4 c5 c6 y5 y5 y5 clears.3 (jump_leads k image (k.begins g) c5 y5 stands_jump code5 (omega arith) (omega arith)) in
            let noted = m.accesses ++ record { write = true; at = sp; size = 8 } ∷ [] in
            let there = goes_there in
            let write = ws.done refl m.state.guest there.0 j m.accesses in
            let last = way_on m.state.guest write.0 j noted in
            let shares = call.stands.shares in
            let left = legacy_left in
            let room = call.room.0 in
            let cell = left.cell in
            record {
              moment = here k image c6 y5 m.state.guest last.0 j noted;
              q = q;
              same = there.1 ∙ write.1 ∙ last.1;
              space = (omega arith, omega arith, let e = left.depth_same in let d = call.stands.depth_left in omega arith);
              left = left;
              fits = fits;
              sp_is = q_is;
              code = code5;
              alongside = record {
                shares = record {
                  unsealed = λ x free. with_number_both 8 y4.bytes w.bytes sp landing x (kept_open x free);
                  each_byte = code5.each_byte;
                  store = shares.store;
                  kept_words = shares.kept_words;
                  guest = shares.guest;
                  guest_fits = shares.guest_fits;
                  turns = refl;
                  accesses = ap (λ l. l ++ record { write = true; at = sp; size = 8 } ∷ []) shares.accesses;
                };
                like = record {
                  regs = λ r few. ap (λ (f : FarRegisters). with_arguments 0 ps args (bare_regs f sp) r) (sym call.stands.far)
                      ∙ regs_alike ps args r9 sp st.few (arrive_still 0 ps args c.regs r9 (by_parameter (λ r. r9 r ≡ c.regs r) refl refl refl refl refl refl) (numbers_arrive 0 0 ps args c call.arrive)) r few;
                  flags = refl;
                  rip = refl;
                  bounds = λ b few. pointers_alike 0 0 ps args c init_bounds call.arrive b ∙ above_none (pointers ps) b c.bounds ∙ clears.1 b few;
                  preserve = sym call.stands.preserve;
                };
                admitted = λ inside away. no_both (is_legacy (k.begins g)) (legacy_is (k.begins g) target_low) inside;
                words = record { regs_fit = cleared_small (0 ∷ 10 ∷ 11 ∷ not_carrying (length ps)) _ (arrived_small k image 0 ps _ (words_stay k image r9 4 sp words9 sp_small)); bounds_fit = clears.2 AreWords (omega arith, omega arith) call.stands.words.bounds_fit };
                preserve = call.stands.preserve;
                data_sp = left.data_same ∙ call.stands.data_sp;
                legacy_sp = left.legacy_same ∙ call.stands.legacy_sp;
                frozen = record { code = λ a inside. refl; control = refl; legacy = refl; data_word = refl; depth = refl; pointer = omega arith; stack = λ a from to. refl };
              };
            }

      -- a call of a legacy function stops as its meaning does, or begins as it does
      pub outcome : (o : Option Refusal) → Writes k image c3 y4 sp landing_at 3 o → Entry depth g args m u next tail control o
      outcome None ws = begun ws
      outcome (Some why) ws = refused_there why ws

      pub entry : Entry depth g args m u next tail control (refusal true 8 sp)
      entry = outcome (refusal true 8 sp) written_R
