-- From the landing back behind the call.
use Rattle.std.specs.Prelude.{◌≢◌, true, false, nat_eq, Option, List, [], ◌∷◌, ◌++◌, ◌^◌}
use Rattle.std.proofs.Common.{◌≡◌, ℕ, suc, ◌+◌, ◌<◌, ◌≤◌, inr, refl, arith, ap, ◌∙◌, sym, subst}
use Rattle.std.proofs.lemmas.Bool.Decides.{nat_tests}
use Rattle.mx_base.specs.declared.limits.Bounds.{Bounds}
use Rattle.mx_base.specs.Memory.{Bytes, number_at}
use Rattle.mx_base.specs.Numbers.{extended}
use Rattle.mx_base.specs.StopOfC.{OutOfTurns, AccessOfC}
use Rattle.mx_base.specs.World.{World}
use Rattle.mx_base.proofs.MemoryLemmas.{number_at-same}
use Rattle.obj_file.proofs.StoredBytes.{with_number_apart, number_apart, word_back}
use Rattle.x86_forms.specs.Processor.{Processor, with_reg}
use Rattle.x86_forms.specs.Watch.{landing, is_in_outer}
use Rattle.obj_file.specs.Runs.{Out}
use Rattle.obj_file.specs.Stored.{Stored}
use Rattle.obj_file.specs.StoreLaw.{AreWords}
use Rattle.fat_ir.specs.Values.{Value}
use Rattle.fat_ir.specs.Calls.{with_turns}
use Rattle.call_sigs.specs.Signatures.{Result, Nothing, Pointer, Of}
use Rattle.call_gates.specs.Gates.{Code, extends_result, stub_tail, stub_keeps, stub_writes, stub_clears, stub_body_size, jumps, returns, landing_gate, landing_at, control_cell, legacy_cell, data_cell, depth_cell}
use Rattle.obj_file.specs.Finals.{final}
use Rattle.gate_laws.specs.Moments.{Moment, Final}
use Rattle.legacy_calls.specs.Legacy.{Linkage, Foreign, ground, far_of, given, zero_flags}
use Rattle.gate_laws.specs.Placed.{HasCode, IsPlaced, StandsAt}
use Rattle.gate_laws.specs.Standing.{EndsAs, AtCall, Alongside, Back, Holds}
use Rattle.gate_laws.specs.Effects.{end_of}
use Rattle.gate_laws.proofs.Walks.{written, IsOwn, code_kept, here, Leads}
use Rattle.gate_laws.proofs.Straight.{clear_leads, extend_leads, extended_small, placed_front, placed_back, words_stay}
use Rattle.gate_laws.proofs.Landing.{IsKept, landing_leads, after_landing}
use Rattle.gate_laws.proofs.Turns.{Turns, return_turns}
use Rattle.gate_laws.proofs.Sizes.{stub_behind}
use Rattle.gate_laws.proofs.Entry.{Begun, own_at, own_cell, open_kept}
use Rattle.gate_laws.specs.Owed.{IsStub}

-- ---- the tail of the stub

pub record ResultLed (k : Linkage) (image : Bytes) (result : Result) (c : Processor) (y : Stored) : Type 0 where
  pub processor : Processor
  pub leads : Leads k image c y processor y
  pub rip : processor.rip ≡ end_of c.rip (extends_result result)
  pub forward : c.rip ≤ processor.rip
  pub number : processor.regs 0 ≡ (given result (record { number = c.regs 0; bounds = c.bounds 0 })).number
  pub others : (r : ℕ) → r ≢ 0 → processor.regs r ≡ c.regs r
  pub bounds : processor.bounds ≡ c.bounds
  pub preserve : processor.preserve ≡ c.preserve
  pub words : (r : ℕ) → processor.regs r < 2 ^ 64

other_reg : (regs : ℕ → ℕ) (v r : ℕ) → r ≢ 0 → with_reg regs 0 v r ≡ regs r
other_reg regs v r away = let e : nat_eq r 0 ≡ false = grind (arith, nat_tests) in rw e refl

end_after : (a : Code) (at : ℕ) → at ≤ end_of at a
end_after [] at = omega arith
end_after (x ∷ a) at = let h = end_after a (at + x.1) in omega arith

module _ (k : Linkage) (image : Bytes) where
  pub result_led : (result : Result) (c : Processor) (y : Stored) → IsPlaced k image c.rip (extends_result result) → HasCode image y → ((r : ℕ) → c.regs r < 2 ^ 64) → ResultLed k image result c y
  result_led Nothing c y p code small = record {
    processor = record c { rip = c.rip + 2; regs = with_reg c.regs 0 0; flags = zero_flags };
    leads = clear_leads k image 0 2 c y p.0 (omega arith) code;
    rip = refl;
    forward = omega arith;
    number = refl;
    others = other_reg c.regs 0;
    bounds = refl;
    preserve = refl;
    words = words_stay k image c.regs 0 0 small (omega arith);
  }
  result_led Pointer c y p code small = record {
    processor = c;
    leads = λ g n turns made. (n, refl);
    rip = refl;
    forward = omega arith;
    number = refl;
    others = λ r away. refl;
    bounds = refl;
    preserve = refl;
    words = small;
  }
  result_led (Of kind) c y p code small = record {
    processor = record c { rip = end_of c.rip (extends_result (Of kind)); regs = with_reg c.regs 0 (extended kind (c.regs 0)) };
    leads = extend_leads k image kind 0 c y p code (small 0);
    rip = refl;
    forward = end_after (extends_result (Of kind)) c.rip;
    number = refl;
    others = other_reg c.regs (extended kind (c.regs 0));
    bounds = refl;
    preserve = refl;
    words = words_stay k image c.regs 0 (extended kind (c.regs 0)) small (extended_small kind (c.regs 0));
  }

away_from_outers : (outers a : ℕ) → outers ≤ 65536 → 0x0200_0000 ≤ a → is_in_outer outers a ≡ false
unfolding is_in_outer
away_from_outers outers a few low = grind (arith, nat_tests)

module _ (k : Linkage) (image : Bytes) (places : ℕ → Option AccessOfC) (few_outers : k.outers ≤ 65536) (landing_placed : IsPlaced k image landing_at landing_gate)
    (depth g at : ℕ) (args : List Value) (w : World) (before : Moment) (st : IsStub k image g at) (call : AtCall k image depth 112 at (k.legacy g) args w before) (u : World)
    (next control : ℕ) (next_is : next ≡ before.state.processor.rip + 6) (same_sp : u.legacy_sp ≡ w.legacy_sp)
    (b : Begun k image places depth g args before u next (at + stub_body_size (k.legacy g)) control)
    (l : Foreign) (n : Moment) (beside : Alongside k b.moment.state.memory.bytes l n) (landed : l.processor.rip ≡ landing) where
  abbrev F : Moment → Final
  F m = final (ground k) m

  abbrev z : Bytes
  z = b.moment.state.memory.bytes

  abbrev q : ℕ
  q = b.q

  abbrev c : Processor
  c = n.state.processor

  abbrev y : Stored
  y = n.state.memory

  abbrev tail : ℕ
  tail = at + stub_body_size (k.legacy g)

  abbrev legacy : ℕ
  legacy = u.legacy_sp

  abbrev result : Result
  result = (k.legacy g).result

  -- what is on the control stack from its kept pointer on
  own_still : (a : ℕ) → q ≤ a → a + 8 ≤ 0x7200_0000 → number_at 8 y.bytes a ≡ number_at 8 z a
  own_still a low high = let e = b.left.cell in number_at-same 8 y.bytes z a (λ x from to. beside.frozen.stack x (omega arith) (omega arith))

  code : HasCode image y
  code = record {
    each_byte = beside.shares.each_byte;
    code = λ x inside. beside.frozen.code x inside ∙ b.code.code x inside;
  }

  kept : IsKept y q tail legacy control
  kept = let f = b.fits in let low = f.low in let high = f.high in record {
    low = f.low;
    high = omega arith;
    cell = beside.frozen.control ∙ b.left.cell;
    tail_is = own_still q (omega arith) (omega arith) ∙ b.left.tail_is;
    legacy_is = own_still (q + 8) (omega arith) (omega arith) ∙ b.left.legacy_is;
    control_is = own_still (q + 16) (omega arith) (omega arith) ∙ b.left.control_is;
  }

  abbrev y2 : Stored
  y2 = after_landing y legacy control

  abbrev c7 : Processor
  c7 = record c { rip = tail; regs = with_reg (with_reg (with_reg (with_reg (with_reg (with_reg (with_reg c.regs 4 q) 4 (q + 8)) 11 tail) 4 (q + 8 + 8)) 1 legacy) 4 (q + 8 + 8 + 8)) 1 control }

  to_tail : Leads k image (record c { rip = landing_at }) y c7 y2
  to_tail = let low = st.low in landing_leads k image q tail legacy control c y landing_placed code kept (omega arith)

  own_l : IsOwn legacy_cell
  own_l = own_cell legacy_cell (omega arith) (omega arith)

  own_c : IsOwn control_cell
  own_c = own_cell control_cell (omega arith) (omega arith)

  code2 : HasCode image y2
  code2 = code_kept image (written y legacy_cell legacy) control_cell control own_c (code_kept image y legacy_cell legacy own_l code)

  words7 : (r : ℕ) → c7.regs r < 2 ^ 64
  words7 = let f = b.fits in let low = f.low in let high = f.high in
      let w0 = words_stay k image c.regs 4 q beside.words.regs_fit (omega arith) in
      let w1 = words_stay k image _ 4 (q + 8) w0 (omega arith) in
      let w2 = words_stay k image _ 11 tail w1 f.tail_fits in
      let w3 = words_stay k image _ 4 (q + 8 + 8) w2 (omega arith) in
      let w4 = words_stay k image _ 1 legacy w3 f.legacy_fits in
      let w5 = words_stay k image _ 4 (q + 8 + 8 + 8) w4 (omega arith) in
      words_stay k image _ 1 control w5 f.control_fits

  placed_tail : IsPlaced k image tail (stub_tail (k.legacy g))
  placed_tail =
      let after_stub : Code = jumps (k.begins g) tail ∷ stub_tail (k.legacy g) in
      let write = placed_back k image (stub_keeps tail) (stub_writes ++ (stub_clears (k.legacy g) ++ after_stub)) at st.placed in
      let jump = placed_back k image (stub_clears (k.legacy g)) after_stub (end_of at (stub_keeps tail) + 6 + 3) write.1.1 in
      subst (λ (a : ℕ). IsPlaced k image a (stub_tail (k.legacy g))) (stub_behind (k.legacy g) at) jump.1

  led : ResultLed k image result c7 y2
  led = result_led k image result c7 y2 (placed_front k image (extends_result result) (returns ∷ []) tail placed_tail) code2 words7

  abbrev c9 : Processor
  c9 = record led.processor { rip = next; regs = with_reg led.processor.regs 4 (q + 24 + 8) }

  still_next : number_at 8 y2.bytes (q + 24) ≡ next
  still_next = let f = b.fits in let low = f.low in let high = f.high in
      number_apart (written y legacy_cell legacy).bytes (q + 24) control_cell control (inr (omega arith)) ∙ number_apart y.bytes (q + 24) legacy_cell legacy (inr (omega arith))
      ∙ own_still (q + 24) (omega arith) (omega arith) ∙ b.left.next_is

  stands_return : StandsAt k image led.processor.rip (returns.0) 2
  stands_return = subst (λ (a : ℕ). StandsAt k image a (returns.0) 2) (sym led.rip) (placed_back k image (extends_result result) (returns ∷ []) tail placed_tail).0

  returning : Turns k image led.processor y2 c9 y2
  returning = let f = b.fits in let low = f.low in let high = f.high in let first = st.low in let on = led.forward in
      return_turns k image next (q + 24) led.processor y2 stands_return code2 (led.others 4 (λ e. absurd (omega arith)) ∙ omega arith) (own_at q 24 low (omega arith)) still_next
      (away_from_outers k.outers led.processor.rip few_outers (omega arith))

  -- the run goes on to the return
  to_return : (m : ℕ) × (F n ≡ F (here k image led.processor y2 n.state.guest m n.turns n.accesses))
  to_return =
      let first = to_tail n.state.guest n.state.steps n.turns n.accesses in
      let second = led.leads n.state.guest first.0 n.turns n.accesses in
      let at_landing : c.rip ≡ landing_at = sym beside.like.rip ∙ landed in
      (second.0, ap (λ (a : ℕ). F (here k image (record c { rip = a }) y n.state.guest n.state.steps n.turns n.accesses)) at_landing ∙ first.1 ∙ second.1)

  abbrev v : Value
  v = record { number = l.processor.regs 0; bounds = l.processor.bounds 0 }

  abbrev x : World
  x = record l.world { far = far_of l.processor.regs }

  pub out_at_landing : x.turns ≡ 0 → EndsAs places OutOfTurns x (F n)
  out_at_landing e =
      let on = to_return in
      let shares = beside.shares in
      let all : F n ≡ record { end = Out (record { processor = led.processor; memory = y2; guest = n.state.guest; steps = on.0 }); accesses = n.accesses; clean = true } =
      on.1 ∙ ap (λ (t : ℕ). F (here k image led.processor y2 n.state.guest on.0 t n.accesses)) (shares.turns ∙ e) ∙ returning.out n.state.guest on.0 n.accesses in
      subst (λ (f : Final). EndsAs places OutOfTurns x f) (sym all) (shares.accesses, refl, (refl, record { guest = shares.guest; store = shares.store }))

  -- ---- behind the call

  reg_still : (r : ℕ) → r ≢ 0 → r ≢ 1 → r ≢ 4 → r ≢ 11 → r < 16 → c9.regs r ≡ l.processor.regs r
  reg_still r a0 a1 a4 a11 few =
      let e4 : nat_eq r 4 ≡ false = grind (arith, nat_tests) in
      let e1 : nat_eq r 1 ≡ false = grind (arith, nat_tests) in
      let e11 : nat_eq r 11 ≡ false = grind (arith, nat_tests) in
      rw e4 (led.others r a0 ∙ rw (e1, e4, e11) (sym (beside.like.regs r few)))

  far_still : far_of c9.regs ≡ far_of l.processor.regs
  far_still = λ i. record {
    rbx = reg_still 3 (λ e. absurd (omega arith)) (λ e. absurd (omega arith)) (λ e. absurd (omega arith)) (λ e. absurd (omega arith)) (omega arith) i;
    rbp = reg_still 5 (λ e. absurd (omega arith)) (λ e. absurd (omega arith)) (λ e. absurd (omega arith)) (λ e. absurd (omega arith)) (omega arith) i;
    r12 = reg_still 12 (λ e. absurd (omega arith)) (λ e. absurd (omega arith)) (λ e. absurd (omega arith)) (λ e. absurd (omega arith)) (omega arith) i;
    r13 = reg_still 13 (λ e. absurd (omega arith)) (λ e. absurd (omega arith)) (λ e. absurd (omega arith)) (λ e. absurd (omega arith)) (omega arith) i;
    r14 = reg_still 14 (λ e. absurd (omega arith)) (λ e. absurd (omega arith)) (λ e. absurd (omega arith)) (λ e. absurd (omega arith)) (omega arith) i;
    r15 = reg_still 15 (λ e. absurd (omega arith)) (λ e. absurd (omega arith)) (λ e. absurd (omega arith)) (λ e. absurd (omega arith)) (omega arith) i;
  }

  cell_still : (a v : ℕ) → 0x7000_0010 ≤ a → a + 8 ≤ 0x7000_1000 → number_at 8 y.bytes a ≡ v → number_at 8 y2.bytes a ≡ v
  cell_still a v low high is =
      number_apart (written y legacy_cell legacy).bytes a control_cell control (inr (omega arith)) ∙ number_apart y.bytes a legacy_cell legacy (inr (omega arith)) ∙ is

  holds_result : (r : Result) → led.processor.regs 0 ≡ (given r (record { number = c.regs 0; bounds = c.bounds 0 })).number → Holds r (given r v) c9
  holds_result Nothing e = e
  holds_result Pointer e = (e ∙ sym (beside.like.regs 0 (omega arith)), ap (λ (f : ℕ → Bounds). f 0) led.bounds ∙ sym (beside.like.bounds 0 (omega arith)))
  holds_result (Of kind) e = e ∙ ap (extended kind) (sym (beside.like.regs 0 (omega arith)))

  abbrev m9 : ℕ → ℕ → Moment
  m9 j steps = here k image c9 y2 n.state.guest steps j n.accesses

  behind_call : (j steps : ℕ) → Back k image depth result before (given result v) (record (with_turns j x) { legacy_sp = u.legacy_sp }) (m9 j steps)
  behind_call j steps =
      let f = b.fits in
      let low = f.low in
      let high = f.high in
      let shares = beside.shares in
      record {
        stands = record {
          shares = record {
            unsealed = λ a free. open_kept (written y legacy_cell legacy) control_cell control a own_c free ∙ open_kept y legacy_cell legacy a own_l free ∙ shares.unsealed a free;
            each_byte = code2.each_byte;
            store = shares.store;
            kept_words = shares.kept_words;
            guest = shares.guest;
            guest_fits = shares.guest_fits;
            turns = refl;
            accesses = shares.accesses;
          };
          far = far_still;
          legacy_sp = number_apart (written y legacy_cell legacy).bytes legacy_cell control_cell control (inr (omega arith)) ∙ word_back y.bytes legacy_cell legacy f.legacy_fits;
          data_sp = cell_still data_cell _ (omega arith) (omega arith) (beside.frozen.data_word ∙ beside.data_sp);
          depth_left = let e = cell_still depth_cell (number_at 8 before.state.memory.bytes depth_cell) (omega arith) (omega arith) (beside.frozen.depth ∙ b.left.depth_same) in let d = call.stands.depth_left in omega arith;
          code = code2.code;
          preserve = led.preserve ∙ beside.preserve;
          words = record { regs_fit = words_stay k image led.processor.regs 4 (q + 24 + 8) led.words (omega arith); bounds_fit = subst (λ (f : ℕ → Bounds). (i : ℕ) → AreWords (f i)) (sym led.bounds) beside.words.bounds_fit };
        };
        next = next_is;
        sp = let e = b.sp_is in omega arith;
        kept = λ a from to. let e = b.sp_is in
            with_number_apart 8 (written y legacy_cell legacy).bytes control_cell control a (inr (omega arith)) ∙ with_number_apart 8 y.bytes legacy_cell legacy a (inr (omega arith))
            ∙ beside.frozen.stack a (let s = b.left.cell in omega arith) to ∙ b.left.above a (omega arith) to;
        holds = holds_result result led.number;
      }

  pub back_at_landing : (j : ℕ) → x.turns ≡ suc j → (m : Moment) × (F n ≡ F m) × Back k image depth result before (given result v) (record (with_turns j x) { legacy_sp = u.legacy_sp }) m
  back_at_landing j e =
      let on = to_return in
      let shares = beside.shares in
      let last = returning.on n.state.guest on.0 j n.accesses in
      (m9 j last.0, on.1 ∙ ap (λ (t : ℕ). F (here k image led.processor y2 n.state.guest on.0 t n.accesses)) (shares.turns ∙ e) ∙ last.1, behind_call j last.0)
