-- The inner entry of a C function: from its CALL to where its own words begin; or the stop for want of stack.
use Rattle.mx_base.specs.StopOfC.{AccessOfC}
use Rattle.call_gates.specs.Gates.{legacy_cell, data_cell, depth_cell}
use Rattle.call_sigs.specs.Signatures.{Signature, parameter_register}
use Rattle.gate_laws.specs.Moments.{Moment, Final}
use Rattle.obj_file.specs.Finals.{final}
use Rattle.code_laws.specs.Views.{View}
use Rattle.code_laws.specs.Seen.{Setting, Seen}
use Rattle.program_laws.proofs.Sized.{Sizes, AreSizes, counts, enters, overflows}
use Rattle.mx_base.specs.declared.numbers.IntKind.{IntKind}
use Rattle.std.proofs.Common.{◌≡◌, ℕ, suc, ◌+◌, ◌-◌, ◌*◌, ◌^◌, ◌<◌, ◌≤◌, inl, inr, true, Option, None, Some, List, [], ◌∷◌, refl, arith, ap, ◌∙◌, sym, subst}
use Rattle.std.proofs.lemmas.Bool.Decides.{nat_tests}
use Rattle.mx_base.specs.declared.stops.Stop.TheVariants as stop
use Rattle.mx_base.specs.Memory.{Bytes, number_at}
use Rattle.mx_base.specs.Regions.{instrumented_code, is_in}
use Rattle.mx_base.specs.StopOfC.{OutOfTurns, StackOver}
use Rattle.mx_base.specs.World.{World, FarRegisters}
use Rattle.mx_base.proofs.MemoryLemmas.{number_at-lt}
use Rattle.obj_file.proofs.StoredBytes.{with_number_apart, number_apart, word_back}
use Rattle.x86_forms.specs.Processor.{Processor, with_reg}
use Rattle.obj_file.specs.Machine.{State}
use Rattle.obj_file.specs.Runs.{Out, Stopped}
use Rattle.obj_file.specs.Stored.{Stored}
use Rattle.fat_ir.specs.Values.{Value}
use Rattle.fat_ir.specs.Calls.{with_turns, with_data_sp}
use Rattle.mx_base.specs.Guests.{GuestFits}
use Rattle.legacy_calls.specs.Legacy.{Linkage, ground}
use Rattle.gate_laws.specs.Placed.{HasCode, IsPlaced}
use Rattle.gate_laws.specs.Standing.{EndsAs, AtCall, Arrive}
use Rattle.gate_laws.specs.Effects.{end_of}
use Rattle.gate_laws.proofs.Walks.{written, IsOwn, code_kept, here, Leads, then_on, load_leads, store_leads}
use Rattle.gate_laws.proofs.Straight.{set_leads, words_stay}
use Rattle.gate_laws.proofs.Turns.{Turns, call_turns, stop_there}
use Rattle.gate_laws.proofs.Entry.{own_cell, open_kept, by_parameter}
use Rattle.program_laws.specs.Borders.{setting_of}
use Rattle.program_laws.proofs.Words.{added_flags, taken_flags, compared_flags, is_below, not_below, is_least, not_least, add_leads, take_leads, compare_leads, hop_over, hop_not, tidy_overflow, overflows_there}

code_bytes : (a : ℕ) → 0x0100_0000 ≤ a → a < 0x1100_0000 → is_in instrumented_code a ≡ true
code_bytes a low high = grind (arith, nat_tests)

code_low : (a : ℕ) → is_in instrumented_code a ≡ true → a < 0x1100_0000
code_low a h = grind (arith, nat_tests)

module _ (k : Linkage) (image : Bytes) (places : ℕ → Option AccessOfC) (inner : ℕ) (small_inner : inner < 2 ^ 62) (sig : Signature) (args : List Value) (w : World) (m : Moment) (d : ℕ) (call : AtCall k image d 64 inner sig args w m) where
  abbrev F : Moment → Final
  F x = final (ground k) x

  abbrev c : Processor
  c = m.state.processor

  abbrev y : Stored
  y = m.state.memory

  abbrev pub next : ℕ
  next = c.rip + 6

  abbrev pub s : ℕ
  s = c.regs 4 - 8

  abbrev pub D : ℕ
  D = number_at 8 y.bytes depth_cell

  abbrev pub y1 : Stored
  y1 = written y s next

  abbrev r1 : ℕ → ℕ
  r1 = with_reg c.regs 4 s

  abbrev c1 : Processor
  c1 = record c { rip = inner; regs = r1 }

  pub low_s : 0x7100_0000 + 4088 * d + 56 ≤ s
  low_s = let r = call.room.0 in omega arith

  pub high_s : s + 8 ≤ 0x7200_0000
  high_s = let r = call.room.0 in let h = call.room.1 in omega arith

  pub s_is : c.regs 4 ≡ s + 8
  s_is = let r = call.room.0 in omega arith

  own_s : IsOwn s
  own_s = let l = low_s in let h = high_s in record { low = omega arith; place = inr (omega arith); high = omega arith }

  own_n : IsOwn depth_cell
  own_n = own_cell depth_cell (omega arith) (omega arith)

  own_d : IsOwn data_cell
  own_d = own_cell data_cell (omega arith) (omega arith)

  code : HasCode image y
  code = record { each_byte = call.stands.shares.each_byte; code = call.stands.code }

  pub code1 : HasCode image y1
  code1 = code_kept image y s next own_s code

  words1 : (r : ℕ) → r1 r < 2 ^ 64
  words1 = let h = high_s in words_stay k image c.regs 4 s call.stands.words.regs_fit (omega arith)

  pub calling : Turns k image c y c1 y1
  calling = call_turns k image inner s c y call.here code s_is own_s small_inner

  depth_there : number_at 8 y1.bytes depth_cell ≡ D
  depth_there = let l = low_s in number_apart y.bytes depth_cell s next (inl (omega arith))

  pub deep : D + d ≡ 4096
  deep = call.stands.depth_left

  pub rip_low : c.rip < 0x1100_0000
  rip_low = code_low c.rip call.here.inside

  -- no turn is left for the call
  pub no_turn : w.turns ≡ 0 → EndsAs places OutOfTurns w (F m)
  no_turn e =
      let shares = call.stands.shares in
      let all : F m ≡ record { end = Out m.state; accesses = m.accesses; clean = true } = ap (λ (t : ℕ). F (here k image c y m.state.guest m.state.steps t m.accesses)) (shares.turns ∙ e) ∙ calling.out m.state.guest m.state.steps m.accesses in
      subst (λ (f : Final). EndsAs places OutOfTurns w f) (sym all) (shares.accesses, refl, (refl, record { guest = shares.guest; store = shares.store }))

  abbrev at_inner : (j n : ℕ) → Moment
  at_inner j n = here k image c1 y1 m.state.guest n j m.accesses

  pub called : (j : ℕ) → w.turns ≡ suc j → (n : ℕ) × (F m ≡ F (at_inner j n))
  called j e = let went = calling.on m.state.guest m.state.steps j m.accesses in (went.0, ap (λ (t : ℕ). F (here k image c y m.state.guest m.state.steps t m.accesses)) (call.stands.shares.turns ∙ e) ∙ went.1)

  -- the machine stops for want of stack
  stops_there : (e : Processor) (z : Stored) (a : ℕ) (j : ℕ) → (n : ℕ) × (F m ≡ F (here k image e z m.state.guest n j m.accesses)) → IsPlaced k image e.rip overflows → HasCode image z → z.bounds ≡ y.bounds → EndsAs places StackOver (with_turns j w) (F m)
  stops_there e z a j (n, there) placed codez store =
      let shares = call.stands.shares in
      let f : Processor = record e { rip = e.rip + 5; regs = with_reg e.regs 0 0x1005 } in
      let on = set_leads k image 0 0x1005 5 e z placed.0 (omega arith) codez (omega arith) m.state.guest n j m.accesses in
      let t : State Stored = record { processor = f; memory = z; guest = m.state.guest; steps = on.0 } in
      let all : F m ≡ record { end = Stopped stop.StackOver t; accesses = m.accesses; clean = true } = there ∙ on.1 ∙ stop_there k image t t stop.StackOver j m.accesses (overflows_there k image t placed.1.0 codez refl) (tidy_overflow k image t placed.1.0 codez refl) in
      subst (λ (g : Final). EndsAs places StackOver (with_turns j w) g) (sym all) (shares.accesses, refl, (refl, record { guest = shares.guest; store = store ∙ shares.store }))

  module _ (z : Sizes) (sized : AreSizes z) (placed : IsPlaced k image inner (counts z)) where
    abbrev r2 : ℕ → ℕ
    r2 = with_reg r1 0 D

    abbrev c2 : Processor
    c2 = record c { rip = inner + 8; regs = r2 }

    abbrev c3 : Processor
    c3 = record c { rip = inner + 8 + z.depth_compared; regs = r2; flags = compared_flags 0 4096 c2 }

    depth_small : D < 2 ^ 64
    depth_small = number_at-lt 8 y.bytes depth_cell code.each_byte

    pub to_compare : Leads k image c1 y1 c3 y1
    to_compare = then_on k image c1 c2 c3 y1 y1 y1
        (load_leads k image 0 depth_cell D 8 c1 y1 placed.0 (omega arith) code1 own_n (omega arith) depth_there)
        (compare_leads k image 0 4096 z.depth_compared c2 y1 placed.1.0 sized.depth_compared code1)

    -- where no more functions may be entered
    pub full : d ≡ 0 → (j : ℕ) → w.turns ≡ suc j → EndsAs places StackOver (with_turns j w) (F m)
    full none j e =
        let dd = deep in
        let went = called j e in
        let c4 : Processor = record c3 { rip = c3.rip + 7 } in
        let all : Leads k image c1 y1 c4 y1 = then_on k image c1 c3 c4 y1 y1 y1 to_compare (hop_not k image 2 7 c3 y1 placed.1.1.0 (omega arith) code1 (not_below 0 D 4096 c2 refl depth_small (omega arith) (omega arith))) in
        let on = all m.state.guest went.0 j m.accesses in
        stops_there c4 y1 0 j (on.0, went.1 ∙ on.1) placed.1.1.1 code1 refl

    -- else one more is entered
    abbrev pub a4 : ℕ
    a4 = end_of inner (counts z)

    module _ (some : 0 < d) (frame units : ℕ) (small_frame : frame ≤ 0x0400_0000) (small_units : 8 * units ≤ 4032) (placed2 : IsPlaced k image a4 (enters z frame units)) where
      abbrev V : ℕ
      V = w.data_sp

      abbrev c4 : Processor
      c4 = record c { rip = a4; regs = r2; flags = compared_flags 0 4096 c2 }

      abbrev r5 : ℕ → ℕ
      r5 = with_reg r2 0 (D + 1)

      abbrev c5 : Processor
      c5 = record c { rip = a4 + z.one_added; regs = r5; flags = added_flags 0 1 c4 }

      abbrev pub y2 : Stored
      y2 = written y1 depth_cell (D + 1)

      abbrev c6 : Processor
      c6 = record c5 { rip = a4 + z.one_added + 8 }

      abbrev r7 : ℕ → ℕ
      r7 = with_reg r5 0 V

      abbrev c7 : Processor
      c7 = record c5 { rip = a4 + z.one_added + 8 + 8; regs = r7 }

      abbrev c8 : Processor
      c8 = record c7 { rip = a4 + z.one_added + 8 + 8 + z.room_compared; flags = compared_flags 0 (0x5000_0000 + frame) c7 }

      abbrev a9 : ℕ
      a9 = a4 + z.one_added + 8 + 8 + z.room_compared + 7 + 5 + 2

      abbrev c9 : Processor
      c9 = record c8 { rip = a9 }

      abbrev r10 : ℕ → ℕ
      r10 = with_reg r7 0 (V - frame)

      abbrev c10 : Processor
      c10 = record c9 { rip = a9 + z.frame_taken; regs = r10; flags = taken_flags 0 frame c9 }

      abbrev pub y3 : Stored
      y3 = written y2 data_cell (V - frame)

      abbrev c11 : Processor
      c11 = record c10 { rip = a9 + z.frame_taken + 8 }

      abbrev pub sp : ℕ
      sp = s - 8 * units

      abbrev r12 : ℕ → ℕ
      r12 = with_reg r10 4 sp

      abbrev pub c12 : Processor
      c12 = record c11 { rip = a9 + z.frame_taken + 8 + z.words_taken; regs = r12; flags = taken_flags 4 (8 * units) c11 }

      code2 : HasCode image y2
      code2 = code_kept image y1 depth_cell (D + 1) own_n code1

      pub code3 : HasCode image y3
      code3 = code_kept image y2 data_cell (V - frame) own_d code2

      data_there : number_at 8 y2.bytes data_cell ≡ V
      data_there = let l = low_s in number_apart y1.bytes data_cell depth_cell (D + 1) (inl (omega arith)) ∙ number_apart y.bytes data_cell s next (inl (omega arith)) ∙ call.stands.data_sp

      small_v : V < 2 ^ 64
      small_v = let e = number_at-lt 8 y2.bytes data_cell code2.each_byte in let f = data_there in omega arith

      to_room : Leads k image c1 y1 c8 y2
      to_room = let dd = deep in
          then_on k image c1 c3 c8 y1 y1 y2 to_compare
          (then_on k image c3 c4 c8 y1 y1 y2 (hop_over k image 2 7 a4 c3 y1 placed.1.1.0 (omega arith) code1 (is_below 0 D 4096 c2 refl depth_small (omega arith) (omega arith)) (omega arith))
          (then_on k image c4 c5 c8 y1 y1 y2 (add_leads k image 0 D 1 z.one_added c4 y1 placed2.0 sized.one_added code1 refl (omega arith) (omega arith))
          (then_on k image c5 c6 c8 y1 y2 y2 (store_leads k image 0 depth_cell (D + 1) 8 c5 y1 placed2.1.0 (omega arith) code1 own_n (omega arith) refl (omega arith))
          (then_on k image c6 c7 c8 y2 y2 y2 (load_leads k image 0 data_cell V 8 c6 y2 placed2.1.1.0 (omega arith) code2 own_d (omega arith) data_there)
          (compare_leads k image 0 (0x5000_0000 + frame) z.room_compared c7 y2 placed2.1.1.1.0 sized.room_compared code2)))))

      -- the data stack has no room for the frame
      pub no_room : V < 0x5000_0000 + frame → (j : ℕ) → w.turns ≡ suc j → EndsAs places StackOver (with_turns j w) (F m)
      no_room less j e =
          let went = called j e in
          let c8b : Processor = record c8 { rip = c8.rip + 7 } in
          let all : Leads k image c1 y1 c8b y2 = then_on k image c1 c8 c8b y1 y2 y2 to_room (hop_not k image 3 7 c8 y2 placed2.1.1.1.1.0 (omega arith) code2 (not_least 0 V (0x5000_0000 + frame) c7 refl small_v (omega arith) less)) in
          let on = all m.state.guest went.0 j m.accesses in
          let there : IsPlaced k image c8b.rip overflows = (placed2.1.1.1.1.1.0, (placed2.1.1.1.1.1.1.0, tt)) in
          stops_there c8b y2 0 j (on.0, went.1 ∙ on.1) there code2 refl

      pub kept_there : (t : ℕ) → s + 8 ≤ t → t < 0x7200_0000 → y3.bytes t ≡ y.bytes t
      kept_there t from to = let l = low_s in with_number_apart 8 y2.bytes data_cell (V - frame) t (inr (omega arith)) ∙ with_number_apart 8 y1.bytes depth_cell (D + 1) t (inr (omega arith)) ∙ with_number_apart 8 y.bytes s next t (inr (omega arith))

      pub address_there : number_at 8 y3.bytes s ≡ next
      address_there = let l = low_s in let low = rip_low in number_apart y2.bytes s data_cell (V - frame) (inr (omega arith)) ∙ number_apart y1.bytes s depth_cell (D + 1) (inr (omega arith)) ∙ word_back y.bytes s next (omega arith)

      module _ (room : 0x5000_0000 + frame ≤ V) where
        to_words : Leads k image c1 y1 c12 y3
        to_words = let l = low_s in let h = high_s in let rest = placed2.1.1.1.1.1.1.1 in
            then_on k image c1 c8 c12 y1 y2 y3 to_room
            (then_on k image c8 c9 c12 y2 y2 y3 (hop_over k image 3 7 a9 c8 y2 placed2.1.1.1.1.0 (omega arith) code2 (is_least 0 V (0x5000_0000 + frame) c7 refl small_v (omega arith) room) (omega arith))
            (then_on k image c9 c10 c12 y2 y2 y3 (take_leads k image 0 V frame z.frame_taken c9 y2 rest.0 sized.frame_taken code2 refl (omega arith) small_v (omega arith))
            (then_on k image c10 c11 c12 y2 y3 y3 (store_leads k image 0 data_cell (V - frame) 8 c10 y2 rest.1.0 (omega arith) code2 own_d (omega arith) refl (let v = small_v in omega arith))
            (take_leads k image 4 s (8 * units) z.words_taken c11 y3 rest.1.1.0 sized.words_taken code3 refl (omega arith) (omega arith) (omega arith)))))

        -- the run from the call is the run from here
        pub entered : (j : ℕ) → w.turns ≡ suc j → (n : ℕ) × (F m ≡ F (here k image c12 y3 m.state.guest n j m.accesses))
        entered j e = let went = called j e in let on = to_words m.state.guest went.0 j m.accesses in (on.0, went.1 ∙ on.1)

        abbrev pub setting : (label_at entry_at : ℕ → ℕ) → Setting
        setting label_at entry_at = setting_of k image y3.bytes sp units (D + 1) label_at entry_at

        abbrev pub view : ℕ → View
        view j = record { processor = c12; slots = λ i. number_at 8 y3.bytes (sp + 8 * i); world = with_data_sp (V - frame) (with_turns j w) }

        words12 : (r : ℕ) → r12 r < 2 ^ 64
        words12 = let dd = deep in let v = small_v in let h = high_s in
            words_stay k image r10 4 sp (words_stay k image r7 0 (V - frame) (words_stay k image r5 0 V (words_stay k image r2 0 (D + 1) (words_stay k image r1 0 D words1 depth_small) (omega arith)) v) (omega arith)) (omega arith)

        -- and the function's own code sees its view
        pub seen : (label_at entry_at : ℕ → ℕ) (j : ℕ) → Seen (setting label_at entry_at) (view j) y3
        seen label_at entry_at j =
            let l = low_s in let h = high_s in let st = call.stands in let v = small_v in let dd = deep in
            record {
              memory = record {
                open_bytes = λ a free. open_kept y2 data_cell (V - frame) a own_d free ∙ open_kept y1 depth_cell (D + 1) a own_n free ∙ open_kept y s next a own_s free ∙ st.shares.unsealed a free;
                store = st.shares.store;
                frame = λ i few. refl;
                frozen = λ a from to. refl;
                code = λ a from to. code3.code a (code_bytes a from to);
                data_cell = word_back y2.bytes data_cell (V - frame) (omega arith);
                legacy_cell = number_apart y2.bytes legacy_cell data_cell (V - frame) (inl (omega arith)) ∙ number_apart y1.bytes legacy_cell depth_cell (D + 1) (inl (omega arith)) ∙ number_apart y.bytes legacy_cell s next (inl (omega arith)) ∙ st.legacy_sp;
                depth_cell = number_apart y2.bytes depth_cell data_cell (V - frame) (inr (omega arith)) ∙ word_back y1.bytes depth_cell (D + 1) (omega arith);
                each_byte = code3.each_byte;
                kept_words = st.shares.kept_words;
                guest_fits = subst GuestFits st.shares.guest st.shares.guest_fits;
              };
              words = record { regs_fit = words12; bounds_fit = st.words.bounds_fit };
              stack = refl;
              preserve = st.preserve;
              far = record { rbx = ap (λ (f : FarRegisters). f.rbx) st.far; rbp = ap (λ (f : FarRegisters). f.rbp) st.far; r12 = ap (λ (f : FarRegisters). f.r12) st.far; r13 = ap (λ (f : FarRegisters). f.r13) st.far; r14 = ap (λ (f : FarRegisters). f.r14) st.far; r15 = ap (λ (f : FarRegisters). f.r15) st.far };
            }

        -- the arguments stand where they stood
        same_reg : (i : ℕ) → r12 (parameter_register i) ≡ c.regs (parameter_register i)
        same_reg i = by_parameter (λ r. r12 r ≡ c.regs r) refl refl refl refl refl refl i

        pub arrive_kept : (j i b : ℕ) (ps : List (Option IntKind)) (xs : List Value) → Arrive i b ps xs c → Arrive i b ps xs c12
        arrive_kept j i b [] [] h = tt
        arrive_kept j i b [] (x ∷ xs) h = absurd h
        arrive_kept j i b (q ∷ ps) [] h = absurd h
        arrive_kept j i b (None ∷ ps) (x ∷ xs) h = (same_reg i ∙ h.0, h.1, arrive_kept j (i + 1) (b + 1) ps xs h.2)
        arrive_kept j i b (Some kind ∷ ps) (x ∷ xs) h = (same_reg i ∙ h.0, arrive_kept j (i + 1) b ps xs h.1)
