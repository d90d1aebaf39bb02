-- The start: from the state before the first event to the call of `main`, and from its return to the exit.
use Rattle.mx_base.specs.Guests.{InputFits}
use Rattle.std.specs.Prelude.{true, false, nat_eq, Option, List, [], ◌^◌, ◌%◌, pos}
use Rattle.std.proofs.Common.{◌≡◌, ℕ, ◌+◌, ◌<◌, inl, refl, arith, ap, ◌∙◌, sym, subst}
use Rattle.std.proofs.lemmas.Bool.{cond_both}
use Rattle.mx_base.specs.declared.numbers.IntKind.TheVariants.{I32}
use Rattle.mx_base.specs.declared.stops.Stop.TheVariants as stop
use Rattle.mx_base.specs.Memory.{Bytes}
use Rattle.mx_base.specs.Regions.{is_sealed}
use Rattle.mx_base.specs.Services.{guest_with, service_of, served}
use Rattle.mx_base.specs.StopOfC.{Exit, AccessOfC}
use Rattle.mx_base.specs.World.{World, world_at_start}
use Rattle.mx_base.specs.BoundsStore.{BoundsStore, empty_store}
use Rattle.obj_file.proofs.StoredBytes.{number_apart, word_back}
use Rattle.x86_forms.specs.declared.instr.Instr.TheVariants.{MovMemImm, CallRel, Syscall}
use Rattle.x86_forms.specs.Processor.{Processor, with_reg, address}
use Rattle.x86_forms.specs.Requests.{run}
use Rattle.x86_forms.specs.Table.{row}
use Rattle.x86_forms.specs.Watch.{is_c_access}
use Rattle.obj_file.specs.Loaded.{processor_at_start}
use Rattle.obj_file.specs.Machine.{Is, State, Stops, event, event_of, deed_of, executed, asked, reach_strays}
use Rattle.obj_file.specs.Runs.{Stopped}
use Rattle.obj_file.specs.Stored.{Stored}
use Rattle.obj_file.specs.StoreLaw.{HoldsWords, KeepsWords}
use Rattle.fat_ir.specs.Values.{Value}
use Rattle.fat_ir.specs.Functions.{most_depth}
use Rattle.call_sigs.specs.Signatures.{Signature, Of}
use Rattle.call_gates.specs.Gates.{start_gate, start_at, way, at_cell, control_cell, legacy_cell, data_cell, depth_cell}
use Rattle.obj_file.specs.Finals.{final, clean_now}
use Rattle.gate_laws.specs.Moments.{Moment, Final}
use Rattle.legacy_calls.specs.Legacy.{Linkage, ground}
use Rattle.gate_laws.specs.Placed.{HasCode, IsPlaced, StandsAt}
use Rattle.gate_laws.specs.Standing.{EndsAs, AtCall, Back, Arrive, Holds}
use Rattle.gate_laws.proofs.Steps.{by_reading, next_fits, clean_there}
use Rattle.gate_laws.proofs.Walks.{own_out, written, IsOwn, own_write, code_kept, here, Leads, then_on, leads, store_leads, unwatched}
use Rattle.gate_laws.proofs.Straight.{set_leads, copy_leads, words_stay}
use Rattle.gate_laws.proofs.Turns.{stop_there}
use Rattle.gate_laws.proofs.Entry.{own_cell, open_kept}
use Rattle.gate_laws.specs.Crossings.{Starts}

cell_at : (regs : ℕ → ℕ) (next a : ℕ) → a < 2 ^ 31 → address regs next (at_cell a) ≡ a
unfolding address
cell_at regs next a small = omega arith

module _ (k : Linkage) (image : Bytes) where
  zero_leads : (a : ℕ) (c : Processor) (y : Stored) → StandsAt k image c.rip (MovMemImm 64 (at_cell a) (pos 0)) 12 → HasCode image y → IsOwn a → a < 2 ^ 31
      → Leads k image c y (record c { rip = c.rip + 12 }) (written y a 0)
  unfolding run row is_c_access
  zero_leads a c y st code own small =
      let at = cell_at c.regs (c.rip + 12) a small in
      leads k image (MovMemImm 64 (at_cell a) (pos 0)) 12 c (record c { rip = c.rip + 12 }) y (written y a 0) st code refl
      (unwatched k image (MovMemImm 64 (at_cell a) (pos 0)) c.rip _ st.inside refl) refl (own_out k image (MovMemImm 64 (at_cell a) (pos 0)) c.rip _ refl (subst IsOwn (sym at) own)) (rw (at, own_write y a 0 own) refl) (omega arith)

  tidy_exit : (s : State Stored) → StandsAt k image s.processor.rip Syscall 2 → HasCode image s.memory → s.processor.regs 0 ≡ 60 → clean_now (ground k) s ≡ true
  unfolding service_of
  tidy_exit s st code is_exit = clean_there k.reads k.outers k.preserve s Syscall 2 st.inside st.small (st.reads s refl code) (rw is_exit refl)

  -- the exit
  exits_there : (s : State Stored) (n : ℕ) → StandsAt k image s.processor.rip Syscall 2 → HasCode image s.memory → s.processor.regs 0 ≡ 60 → s.processor.regs 7 ≡ n
      → event (ground k) s ≡ Stops false (stop.Exit (n % 256)) s
  unfolding deed_of executed asked reach_strays run row service_of served
  exits_there s n st code is_exit is =
      by_reading k.reads k.outers k.preserve s (Is Syscall 2) st.inside (st.reads s refl code)
      ∙ ap (λ a. event_of s false (deed_of (ground k) Syscall a s)) (next_fits s.processor.rip 2 st.inside st.small)
      ∙ (let inside = st.inside in rw (is_exit, is, inside) refl)

module _ (k : Linkage) (image : Bytes) (places : ℕ → Option AccessOfC) (inner : ℕ → ℕ) (main : ℕ) (is_main : (k.own main) ≡ record { result = Of I32; parameters = [] })
    (placed : IsPlaced k image start_at (start_gate (inner main))) (input : List ℕ) (fits : InputFits input) (turns : ℕ) (bytes : Bytes) (y : Stored)
    (code : HasCode image y) (alike : (a : ℕ) → is_sealed a ≡ false → y.bytes a ≡ bytes a) (empty : y.bounds ≡ empty_store) where
  abbrev c0 : Processor
  c0 = processor_at_start k.preserve

  abbrev m0 : Moment
  m0 = record { state = record { processor = c0; memory = y; guest = guest_with input; steps = 0 }; turns = turns; accesses = [] }

  abbrev w0 : World
  w0 = world_at_start bytes input turns

  own_c : IsOwn control_cell
  own_c = own_cell control_cell (omega arith) (omega arith)

  own_l : IsOwn legacy_cell
  own_l = own_cell legacy_cell (omega arith) (omega arith)

  own_d : IsOwn data_cell
  own_d = own_cell data_cell (omega arith) (omega arith)

  own_n : IsOwn depth_cell
  own_n = own_cell depth_cell (omega arith) (omega arith)

  abbrev y1 : Stored
  y1 = written y control_cell 0

  abbrev y2 : Stored
  y2 = written y1 legacy_cell 0x6080_0000

  abbrev y3 : Stored
  y3 = written y2 data_cell 0x5400_0000

  abbrev y4 : Stored
  y4 = written y3 depth_cell 0

  abbrev r1 : ℕ → ℕ
  r1 = with_reg c0.regs 0 0x6080_0000

  abbrev r2 : ℕ → ℕ
  r2 = with_reg r1 0 0x5400_0000

  abbrev c6 : Processor
  c6 = record c0 { rip = start_at + 50; regs = r2 }

  code1 : HasCode image y1
  code1 = code_kept image y control_cell 0 own_c code

  code2 : HasCode image y2
  code2 = code_kept image y1 legacy_cell 0x6080_0000 own_l code1

  code3 : HasCode image y3
  code3 = code_kept image y2 data_cell 0x5400_0000 own_d code2

  code4 : HasCode image y4
  code4 = code_kept image y3 depth_cell 0 own_n code3

  to_call : Leads k image c0 y c6 y4
  to_call =
      let c1 : Processor = record c0 { rip = start_at + 12 } in
      let c2 : Processor = record c0 { rip = start_at + 17; regs = r1 } in
      let c3 : Processor = record c0 { rip = start_at + 25; regs = r1 } in
      let c4 : Processor = record c0 { rip = start_at + 30; regs = r2 } in
      let c5 : Processor = record c0 { rip = start_at + 38; regs = r2 } in
      then_on k image c0 c1 c6 y y1 y4 (zero_leads k image control_cell c0 y placed.0 code own_c (omega arith))
      (then_on k image c1 c2 c6 y1 y1 y4 (set_leads k image 0 0x6080_0000 5 c1 y1 placed.1.0 (omega arith) code1 (omega arith))
      (then_on k image c2 c3 c6 y1 y2 y4 (store_leads k image 0 legacy_cell 0x6080_0000 8 c2 y1 placed.1.1.0 (omega arith) code1 own_l (omega arith) refl (omega arith))
      (then_on k image c3 c4 c6 y2 y2 y4 (set_leads k image 0 0x5400_0000 5 c3 y2 placed.1.1.1.0 (omega arith) code2 (omega arith))
      (then_on k image c4 c5 c6 y2 y3 y4 (store_leads k image 0 data_cell 0x5400_0000 8 c4 y2 placed.1.1.1.1.0 (omega arith) code2 own_d (omega arith) refl (omega arith))
      (zero_leads k image depth_cell c5 y3 placed.1.1.1.1.1.0 code3 own_n (omega arith))))))

  words6 : HoldsWords c6
  words6 = record {
    regs_fit = words_stay k image r1 0 0x5400_0000 (words_stay k image c0.regs 0 0x6080_0000 (λ r. cond_both (nat_eq r 4) 0x7200_0000 0 (λ (n : ℕ). n < 2 ^ 64) (λ _. omega arith) (λ _. omega arith)) (omega arith)) (omega arith);
    bounds_fit = λ b. (omega arith, omega arith);
  }

  abbrev at_main : ℕ → Moment
  at_main n = here k image c6 y4 (guest_with input) n turns []

  stands_call : StandsAt k image (start_at + 50) (CallRel true (way (inner main) (start_at + 56))) 6
  stands_call = placed.1.1.1.1.1.1.0

  calls_main : (n : ℕ) → AtCall k image most_depth 64 (inner main) (k.own main) [] w0 (at_main n)
  calls_main n = record {
    stands = record {
      shares = record {
        unsealed = λ a free. open_kept y3 depth_cell 0 a own_n free ∙ open_kept y2 data_cell 0x5400_0000 a own_d free ∙ open_kept y1 legacy_cell 0x6080_0000 a own_l free ∙ open_kept y control_cell 0 a own_c free ∙ alike a free;
        each_byte = code4.each_byte;
        store = empty;
        kept_words = subst (λ (b : BoundsStore). (g : ℕ) → KeepsWords (b.kept g)) (sym empty) (λ g. tt);
        guest = refl;
        guest_fits = record { free = (omega arith, tt); live = tt; input = fits };
        turns = refl;
        accesses = refl;
      };
      far = refl;
      legacy_sp = number_apart y3.bytes legacy_cell depth_cell 0 (inl (omega arith)) ∙ number_apart y2.bytes legacy_cell data_cell 0x5400_0000 (inl (omega arith)) ∙ word_back y1.bytes legacy_cell 0x6080_0000 (omega arith);
      data_sp = number_apart y3.bytes data_cell depth_cell 0 (inl (omega arith)) ∙ word_back y2.bytes data_cell 0x5400_0000 (omega arith);
      depth_left = let e = word_back y3.bytes depth_cell 0 (omega arith) in omega arith;
      code = code4.code;
      preserve = refl;
      words = words6;
    };
    here = stands_call;
    arrive = subst (λ (s : Signature). Arrive 0 0 s.parameters [] c6) (sym is_main) tt;
    room = (omega arith, omega arith);
  }

  exits_behind : (n : ℕ) (v : Value) (u : World) (x : Moment) → Back k image most_depth (k.own main).result (at_main n) v u x → EndsAs places (Exit (v.number % 256)) u (final (ground k) x)
  exits_behind n v u x back =
      let c : Processor = x.state.processor in
      let z : Stored = x.state.memory in
      let a = start_at + 56 in
      let codez : HasCode image z = record { each_byte = back.stands.shares.each_byte; code = back.stands.code } in
      let holds : c.regs 0 ≡ v.number = subst (λ (s : Signature). Holds s.result v c → c.regs 0 ≡ v.number) (sym is_main) (λ h. h) back.holds in
      let small : v.number < 2 ^ 64 = subst (λ (t : ℕ). t < 2 ^ 64) holds (back.stands.words.regs_fit 0) in
      let rest = placed.1.1.1.1.1.1.1 in
      let d0 : Processor = record c { rip = a } in
      let d1 : Processor = record c { rip = a + 3; regs = with_reg c.regs 7 v.number } in
      let d2 : Processor = record c { rip = a + 8; regs = with_reg (with_reg c.regs 7 v.number) 0 60 } in
      let on : Leads k image d0 z d2 z = then_on k image d0 d1 d2 z z z (copy_leads k image 7 0 v.number 3 d0 z rest.0 (omega arith) codez holds small) (set_leads k image 0 60 5 d1 z rest.1.0 (omega arith) codez (omega arith)) in
      let went = on x.state.guest x.state.steps x.turns x.accesses in
      let s : State Stored = record { processor = d2; memory = z; guest = x.state.guest; steps = went.0 } in
      let all : final (ground k) x ≡ record { end = Stopped (stop.Exit (v.number % 256)) s; accesses = x.accesses; clean = true } =
      ap (λ (r : ℕ). final (ground k) (here k image (record c { rip = r }) z x.state.guest x.state.steps x.turns x.accesses)) back.next ∙ went.1
      ∙ stop_there k image s s (stop.Exit (v.number % 256)) x.turns x.accesses (exits_there k image s v.number rest.1.1.0 codez refl refl) (tidy_exit k image s rest.1.1.0 codez refl) in
      subst (λ (f : Final). EndsAs places (Exit (v.number % 256)) u f) (sym all) (back.stands.shares.accesses, refl, (refl, record { guest = back.stands.shares.guest; store = back.stands.shares.store }))

  -- the start calls `main`, and what comes back ends the program
  pub starts : Starts k image places inner main w0 m0
  starts =
      let on = to_call (guest_with input) 0 turns [] in
      (at_main on.0, on.1, calls_main on.0, exits_behind on.0)
