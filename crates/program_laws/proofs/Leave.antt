-- The return of a C function: from the end of its own code to behind its CALL.
use Rattle.mx_base.specs.StopOfC.{AccessOfC}
use Rattle.call_gates.specs.Gates.{legacy_cell, data_cell, depth_cell}
use Rattle.call_sigs.specs.Signatures.{Result, Nothing, Pointer, Of}
use Rattle.gate_laws.specs.Moments.{Moment, Final}
use Rattle.obj_file.specs.Finals.{final}
use Rattle.code_laws.specs.Views.{View}
use Rattle.code_laws.specs.Seen.{Seen}
use Rattle.program_laws.proofs.Sized.{Sizes, AreSizes, inner_return}
use Rattle.std.proofs.Common.{◌≡◌, ℕ, zero, suc, ◌+◌, ◌-◌, ◌*◌, ◌^◌, ◌<◌, ◌≤◌, inl, inr, true, false, Option, refl, arith, ap, ◌∙◌, sym, subst}
use Rattle.std.proofs.lemmas.Bool.Decides.{nat_tests}
use Rattle.mx_base.specs.Memory.{Bytes, number_at}
use Rattle.mx_base.specs.Regions.{instrumented_code, is_in}
use Rattle.mx_base.specs.StopOfC.{OutOfTurns}
use Rattle.mx_base.specs.World.{World}
use Rattle.mx_base.proofs.MemoryLemmas.{number_at-same}
use Rattle.obj_file.proofs.StoredBytes.{with_number_apart, number_apart, word_back}
use Rattle.x86_forms.specs.Processor.{Processor, with_reg}
use Rattle.x86_forms.specs.Watch.{is_in_outer}
use Rattle.obj_file.specs.Runs.{Out}
use Rattle.obj_file.specs.Stored.{Stored}
use Rattle.fat_ir.specs.Values.{Value}
use Rattle.fat_ir.specs.Calls.{with_turns, with_data_sp, turn_from, Comes}
use Rattle.legacy_calls.specs.Legacy.{Linkage, ground}
use Rattle.gate_laws.specs.Placed.{HasCode, IsPlaced}
use Rattle.gate_laws.specs.Standing.{EndsAs, Back, CallEnds, Holds}
use Rattle.gate_laws.proofs.Walks.{written, IsOwn, code_kept, here, Leads, then_on, load_leads, store_leads}
use Rattle.gate_laws.proofs.Straight.{words_stay}
use Rattle.gate_laws.proofs.Turns.{Turns, return_turns}
use Rattle.gate_laws.proofs.Entry.{own_cell, open_kept}
use Rattle.program_laws.specs.Borders.{moment_of, setting_of}
use Rattle.program_laws.proofs.Words.{added_flags, taken_flags, add_leads, take_leads}

inside_high : (a : ℕ) → is_in instrumented_code a ≡ true → (0x0100_0000 ≤ a) × (a < 0x1100_0000)
inside_high a h = (grind (arith, nat_tests), grind (arith, nat_tests))

-- the code of a function at its end, over the memory `b` at its beginning, where the return address `next` stands at `s`
module _ (k : Linkage) (image : Bytes) (places : ℕ → Option AccessOfC) (b : Bytes) (s units depth frame next d : ℕ) (label_at entry_at : ℕ → ℕ) (low : 0x7100_0000 + 8 * units ≤ s) (high : s + 8 ≤ 0x7200_0000) (deep : depth + suc d ≡ 4096)
    (small_next : next < 2 ^ 63) (address_there : number_at 8 b s ≡ next) (small_frame : frame ≤ 0x0400_0000) (z : Sizes) (sized : AreSizes z)
    (v : View) (x : Stored) (seen : Seen (setting_of k image b (s - 8 * units) units (depth + 1) label_at entry_at) v x) (placed : IsPlaced k image v.processor.rip (inner_return z frame units)) (V : ℕ) (data_is : v.world.data_sp + frame ≡ V) (small_v : V < 2 ^ 64)
    (away : is_in_outer k.outers (v.processor.rip + 8 + z.frame_given + 8 + 8 + z.one_taken + 8 + z.words_given) ≡ false) where
  abbrev F : Moment → Final
  F t = final (ground k) t

  abbrev c : Processor
  c = v.processor

  abbrev a : ℕ
  a = c.rip

  abbrev W : ℕ
  W = v.world.data_sp

  abbrev r1 : ℕ → ℕ
  r1 = with_reg c.regs 1 W

  abbrev c1 : Processor
  c1 = record c { rip = a + 8; regs = r1 }

  abbrev r2 : ℕ → ℕ
  r2 = with_reg r1 1 (W + frame)

  abbrev c2 : Processor
  c2 = record c { rip = a + 8 + z.frame_given; regs = r2; flags = added_flags 1 frame c1 }

  abbrev x1 : Stored
  x1 = written x data_cell (W + frame)

  abbrev c3 : Processor
  c3 = record c2 { rip = a + 8 + z.frame_given + 8 }

  abbrev r4 : ℕ → ℕ
  r4 = with_reg r2 1 (depth + 1)

  abbrev c4 : Processor
  c4 = record c2 { rip = a + 8 + z.frame_given + 8 + 8; regs = r4 }

  abbrev r5 : ℕ → ℕ
  r5 = with_reg r4 1 (depth + 1 - 1)

  abbrev c5 : Processor
  c5 = record c4 { rip = a + 8 + z.frame_given + 8 + 8 + z.one_taken; regs = r5; flags = taken_flags 1 1 c4 }

  abbrev x2 : Stored
  x2 = written x1 depth_cell (depth + 1 - 1)

  abbrev c6 : Processor
  c6 = record c5 { rip = a + 8 + z.frame_given + 8 + 8 + z.one_taken + 8 }

  abbrev r7 : ℕ → ℕ
  r7 = with_reg r5 4 (s - 8 * units + 8 * units)

  abbrev c7 : Processor
  c7 = record c6 { rip = a + 8 + z.frame_given + 8 + 8 + z.one_taken + 8 + z.words_given; regs = r7; flags = added_flags 4 (8 * units) c6 }

  abbrev c8 : Processor
  c8 = record c7 { rip = next; regs = with_reg r7 4 (s + 8) }

  own_n : IsOwn depth_cell
  own_n = own_cell depth_cell (omega arith) (omega arith)

  own_d : IsOwn data_cell
  own_d = own_cell data_cell (omega arith) (omega arith)

  own_s : IsOwn s
  own_s = record { low = omega arith; place = inr (omega arith); high = omega arith }

  code : HasCode image x
  code = record { each_byte = seen.memory.each_byte; code = λ t inside. let e = inside_high t inside in seen.memory.code t e.0 e.1 }

  code1 : HasCode image x1
  code1 = code_kept image x data_cell (W + frame) own_d code

  code2 : HasCode image x2
  code2 = code_kept image x1 depth_cell (depth + 1 - 1) own_n code1

  stack_is : c.regs 4 ≡ s - 8 * units
  stack_is = seen.stack

  depth_is : number_at 8 x1.bytes depth_cell ≡ depth + 1
  depth_is = number_apart x.bytes depth_cell data_cell (W + frame) (inr (omega arith)) ∙ seen.memory.depth_cell

  -- what stands on the control stack from the return address on
  above : (t : ℕ) → s ≤ t → t < 0x7200_0000 → x2.bytes t ≡ b t
  above t from to = with_number_apart 8 x1.bytes depth_cell (depth + 1 - 1) t (inr (omega arith)) ∙ with_number_apart 8 x.bytes data_cell (W + frame) t (inr (omega arith)) ∙ seen.memory.frozen t (omega arith) to

  address_is : number_at 8 x2.bytes s ≡ next
  address_is = number_at-same 8 x2.bytes b s (λ t from to. above t from (omega arith)) ∙ address_there

  to_return : Leads k image c x c7 x2
  to_return =
      then_on k image c c1 c7 x x x2 (load_leads k image 1 data_cell W 8 c x placed.0 (omega arith) code own_d (omega arith) seen.memory.data_cell)
      (then_on k image c1 c2 c7 x x x2 (add_leads k image 1 W frame z.frame_given c1 x placed.1.0 sized.frame_given code refl (omega arith) (omega arith))
      (then_on k image c2 c3 c7 x x1 x2 (store_leads k image 1 data_cell (W + frame) 8 c2 x placed.1.1.0 (omega arith) code own_d (omega arith) refl (omega arith))
      (then_on k image c3 c4 c7 x1 x1 x2 (load_leads k image 1 depth_cell (depth + 1) 8 c3 x1 placed.1.1.1.0 (omega arith) code1 own_n (omega arith) depth_is)
      (then_on k image c4 c5 c7 x1 x1 x2 (take_leads k image 1 (depth + 1) 1 z.one_taken c4 x1 placed.1.1.1.1.0 sized.one_taken code1 refl (omega arith) (omega arith) (omega arith))
      (then_on k image c5 c6 c7 x1 x2 x2 (store_leads k image 1 depth_cell (depth + 1 - 1) 8 c5 x1 placed.1.1.1.1.1.0 (omega arith) code1 own_n (omega arith) refl (omega arith))
      (add_leads k image 4 (s - 8 * units) (8 * units) z.words_given c6 x2 placed.1.1.1.1.1.1.0 sized.words_given code2 stack_is (omega arith) (omega arith)))))))

  returning : Turns k image c7 x2 c8 x2
  returning = return_turns k image next s c7 x2 placed.1.1.1.1.1.1.1.0 code2 (let e : s - 8 * units + 8 * units ≡ s = omega arith in e) own_s address_is away

  words8 : (r : ℕ) → c8.regs r < 2 ^ 64
  words8 = words_stay k image r7 4 (s + 8) (words_stay k image r5 4 (s - 8 * units + 8 * units) (words_stay k image r4 1 (depth + 1 - 1) (words_stay k image r2 1 (depth + 1) (words_stay k image r1 1 (W + frame) (words_stay k image c.regs 1 W seen.words.regs_fit (omega arith)) (omega arith)) (omega arith)) (omega arith)) (omega arith)) (omega arith)

  abbrev w2 : World
  w2 = v.world

  -- how the function's call ends where its code came to its end with a value, over the moment of the call
  module _ (m : Moment) (n : ℕ) (on : F m ≡ F (moment_of v x n)) (at_call : m.state.processor.regs 4 ≡ s + 8) (next_is : next ≡ m.state.processor.rip + 6) (kept : (t : ℕ) → s + 8 ≤ t → t < 0x7200_0000 → b t ≡ m.state.memory.bytes t)
      (result : Result) (value : Value) (number : c.regs 0 ≡ value.number) (bounds : result ≡ Pointer → c.bounds 0 ≡ value.bounds) where
    came : (n2 : ℕ) × (F m ≡ F (here k image c7 x2 w2.guest n2 w2.turns w2.accesses))
    came = let went = to_return w2.guest n w2.turns w2.accesses in (went.0, on ∙ went.1)

    holds_by : (r : Result) → (r ≡ Pointer → c.bounds 0 ≡ value.bounds) → Holds r value c8
    holds_by Nothing h = number
    holds_by Pointer h = (number, h refl)
    holds_by (Of kind) h = number

    abbrev w3 : ℕ → World
    w3 j = with_data_sp V (with_turns j w2)

    back : (j n2 : ℕ) → Back k image (suc d) result m value (w3 j) (here k image c8 x2 w2.guest n2 j w2.accesses)
    back j n2 = record {
      stands = record {
        shares = record {
          unsealed = λ t free. open_kept x1 depth_cell (depth + 1 - 1) t own_n free ∙ open_kept x data_cell (W + frame) t own_d free ∙ seen.memory.open_bytes t free;
          each_byte = code2.each_byte;
          store = seen.memory.store;
          kept_words = seen.memory.kept_words;
          guest = refl;
          guest_fits = seen.memory.guest_fits;
          turns = refl;
          accesses = refl;
        };
        far = λ i. record { rbx = seen.far.rbx i; rbp = seen.far.rbp i; r12 = seen.far.r12 i; r13 = seen.far.r13 i; r14 = seen.far.r14 i; r15 = seen.far.r15 i };
        legacy_sp = number_apart x1.bytes legacy_cell depth_cell (depth + 1 - 1) (inl (omega arith)) ∙ number_apart x.bytes legacy_cell data_cell (W + frame) (inl (omega arith)) ∙ seen.memory.legacy_cell;
        data_sp = number_apart x1.bytes data_cell depth_cell (depth + 1 - 1) (inl (omega arith)) ∙ word_back x.bytes data_cell (W + frame) (omega arith) ∙ data_is;
        depth_left = let e = word_back x1.bytes depth_cell (depth + 1 - 1) (omega arith) in omega arith;
        code = code2.code;
        preserve = seen.preserve;
        words = record { regs_fit = words8; bounds_fit = seen.words.bounds_fit };
      };
      next = next_is;
      sp = sym at_call;
      kept = λ t from to. above t (omega arith) to ∙ kept t (omega arith) to;
      holds = holds_by result bounds;
    }

    by_turns : (t : ℕ) → w2.turns ≡ t → CallEnds k image places (suc d) result m (turn_from t w2 (λ u. Comes value (with_data_sp V u)))
    by_turns zero e =
        let went = came in
        let all : F m ≡ record { end = Out (record { processor = c7; memory = x2; guest = w2.guest; steps = went.0 }); accesses = w2.accesses; clean = true } =
        went.1 ∙ ap (λ (t : ℕ). F (here k image c7 x2 w2.guest went.0 t w2.accesses)) e ∙ returning.out w2.guest went.0 w2.accesses in
        subst (λ (g : Final). EndsAs places OutOfTurns w2 g) (sym all) (refl, refl, (refl, record { guest = refl; store = seen.memory.store }))
    by_turns (suc j) e =
        let went = came in
        let last = returning.on w2.guest went.0 j w2.accesses in
        (here k image c8 x2 w2.guest last.0 j w2.accesses, went.1 ∙ ap (λ (t : ℕ). F (here k image c7 x2 w2.guest went.0 t w2.accesses)) e ∙ last.1, back j last.0)

    pub leaves : CallEnds k image places (suc d) result m (turn_from w2.turns w2 (λ u. Comes value (with_data_sp V u)))
    leaves = by_turns w2.turns refl
