-- From behind the call of its function, by the return of the outer entry, back to legacy code.
use Rattle.std.specs.Prelude.{◌≢◌, Bool, true, false, not, ◌==◌, nat_eq, ◌&&◌, Option, None, List, [], ◌∷◌, ◌++◌, ◌^◌, ◌%◌}
use Rattle.std.proofs.Common.{◌≡◌, ℕ, suc, ◌+◌, ◌-◌, ◌<◌, ◌≤◌, inr, refl, arith, ap, ◌∙◌, sym, subst}
use Rattle.std.proofs.lemmas.Bool.Decides.{nat_tests}
use Rattle.mx_base.specs.declared.limits.Bounds.{Bounds}
use Rattle.mx_base.specs.declared.stops.Stop.TheVariants as stop
use Rattle.mx_base.specs.Bounds.{full_bounds, addresses, moved}
use Rattle.mx_base.specs.Memory.{Bytes, number_at, first_refused}
use Rattle.mx_base.specs.Numbers.{extended}
use Rattle.mx_base.specs.Regions.{instrumented_code, is_in, is_sealed, is_readable}
use Rattle.mx_base.specs.StopOfC.{OutOfTurns, Strayed, AccessOfC}
use Rattle.mx_base.specs.World.{World, FarRegisters}
use Rattle.mx_base.proofs.MemoryLemmas.{number_at-same, first_refused-none}
use Rattle.obj_file.proofs.StoredBytes.{with_number_apart, number_apart, word_back}
use Rattle.x86_forms.specs.Processor.{Processor, with_reg, with_bounds, above_stack}
use Rattle.x86_forms.specs.Table.{init_bounds}
use Rattle.x86_forms.specs.Watch.{is_legacy, landing, outer_entry, is_in_outer}
use Rattle.obj_file.specs.Runs.{Out, Stopped}
use Rattle.obj_file.specs.Stored.{Stored}
use Rattle.obj_file.specs.StoreLaw.{AreWords, is_of_bounds}
use Rattle.fat_ir.specs.Values.{Value}
use Rattle.fat_ir.specs.Calls.{with_turns}
use Rattle.call_sigs.specs.Signatures.{Signature, Result, Nothing, Pointer, Of, result_pointers}
use Rattle.call_gates.specs.Gates.{Code, outer_keeps, extend_parameters, outer_restores, outer_clears, extends_result, clear_all, init_from, returns, control_cell, legacy_cell, data_cell, depth_cell}
use Rattle.obj_file.specs.Finals.{final}
use Rattle.gate_laws.specs.Moments.{Moment, Final}
use Rattle.legacy_calls.specs.Legacy.{Linkage, Foreign, ground, bare_regs, given, after_outer, zero_flags}
use Rattle.gate_laws.specs.Placed.{HasCode, IsPlaced, StandsAt}
use Rattle.gate_laws.specs.Standing.{EndsAs, AtDoor, Alongside, Back, Holds}
use Rattle.gate_laws.specs.Effects.{end_of, cleared, init_above}
use Rattle.gate_laws.proofs.Walks.{written, IsOwn, code_kept, here, Leads, then_on}
use Rattle.gate_laws.proofs.Straight.{clear_leads, clear_all_leads, placed_front, placed_back, words_stay}
use Rattle.gate_laws.proofs.Borders.{init_leads, each_reg, each_bound}
use Rattle.gate_laws.proofs.Turns.{Turns, Strays_there, strays_by, return_judged, return_strays}
use Rattle.gate_laws.proofs.Refusing.{unsealed_byte, read_within}
use Rattle.gate_laws.proofs.Entry.{own_cell, open_kept, cleared_small}
use Rattle.gate_laws.proofs.Return.{ResultLed, result_led}
use Rattle.gate_laws.proofs.Doors.{door_left, left_regs, door_restores_lead}
use Rattle.gate_laws.proofs.DoorEntry as entry
use Rattle.gate_laws.specs.Owed.{HasSpace, IsOuter}
use Rattle.obj_file.specs.Finals.{all_below}
use Rattle.obj_file.proofs.FinalLaws.{each_below}

unsealed_avoids : (x : ℕ) → is_sealed x ≡ false → not (is_of_bounds x) ≡ true
unfolding is_sealed is_of_bounds
unsealed_avoids x free = grind (arith, nat_tests)

readable_below : (x : ℕ) → is_readable x ≡ true → x < 0x6000_0000_0000
unfolding is_readable
readable_below x can = grind (arith, nat_tests)

-- no word at the top of all addresses can be read
top_unread : (s : ℕ) → first_refused is_readable 8 s ≡ None → s + 8 < 2 ^ 64
top_unread s none = let low = readable_below s (first_refused-none is_readable 8 s s none (omega arith) (omega arith)) in omega arith

abbrev zeros : List ℕ
zeros = 1 ∷ 2 ∷ 6 ∷ 7 ∷ 8 ∷ 9 ∷ 10 ∷ 11 ∷ []

end_append : (a b : Code) (at : ℕ) → end_of at (a ++ b) ≡ end_of (end_of at a) b
end_append [] b at = refl
end_append (x ∷ a) b at = end_append a b (at + x.1)

-- the bounds that legacy code sees
bounds_after : (r : Result) (v : Value) (c : Processor) (bounds : ℕ → Bounds) → Holds r v c → bounds ≡ c.bounds → (b : ℕ) → b < 4 → with_bounds init_bounds 0 (given r v).bounds b ≡ init_above (result_pointers r) bounds b
bounds_after Nothing v c bounds h e = each_bound (λ b. with_bounds init_bounds 0 (given Nothing v).bounds b ≡ init_above 0 bounds b) refl refl refl refl
bounds_after Pointer v c bounds h e = each_bound (λ b. with_bounds init_bounds 0 (given Pointer v).bounds b ≡ init_above 1 bounds b) (sym (ap (λ (f : ℕ → Bounds). f 0) e ∙ h.1)) refl refl refl
bounds_after (Of kind) v c bounds h e = each_bound (λ b. with_bounds init_bounds 0 (given (Of kind) v).bounds b ≡ init_above 0 bounds b) refl refl refl refl

number_after : (r : Result) (v : Value) (c : Processor) (x : Bounds) → Holds r v c → (given r (record { number = c.regs 0; bounds = x })).number ≡ (given r v).number
number_after Nothing v c x h = refl
number_after Pointer v c x h = h.0
number_after (Of kind) v c x h = ap (extended kind) h

goes_fine : (target : ℕ) → (is_in instrumented_code target && not (target == landing)) ≡ false → is_legacy target ≡ false → target ≢ landing → ⊥
goes_fine target fine inside away = grind (arith, nat_tests)

few_results : (r : Result) → result_pointers r ≤ 4
few_results Nothing = omega arith
few_results Pointer = omega arith
few_results (Of kind) = omega arith

module _ (k : Linkage) (image : Bytes) (places : ℕ → Option AccessOfC) (depth f inner : ℕ) (o : IsOuter k image f inner)
    (z : Bytes) (l : Foreign) (m : Moment) (space : HasSpace depth z) (image_is : (a : ℕ) → is_in instrumented_code a ≡ true → z a ≡ image a) (beside : Alongside k z l m) (door : AtDoor k l f)
    (v : Value) (w : World) (steps : ℕ) (n : Moment)
    (back : Back k image depth (k.own f).result (entry.moment k image places depth f inner o z l m space image_is beside door steps) v w n)
    (same_sp : w.legacy_sp ≡ l.processor.regs 4) (same_data : w.data_sp ≡ l.world.data_sp)
    (inside : is_in_outer k.outers (end_of (end_of (end_of (end_of (outer_entry f) outer_keeps) (extend_parameters 0 (k.own f).parameters) + 6) outer_restores) (outer_clears (k.own f))) ≡ true) where
  abbrev F : Moment → Final
  F x = final (ground k) x

  abbrev c : Processor
  c = n.state.processor

  abbrev y : Stored
  y = n.state.memory

  abbrev sig : Signature
  sig = k.own f

  abbrev result : Result
  result = sig.result

  abbrev q : ℕ
  q = number_at 8 z control_cell

  abbrev p : ℕ
  p = q - 16

  abbrev legacy : ℕ
  legacy = l.world.legacy_sp

  abbrev s : ℕ
  s = l.processor.regs 4

  abbrev a0 : ℕ
  a0 = end_of (end_of (outer_entry f) outer_keeps) (extend_parameters 0 sig.parameters) + 6

  abbrev a1 : ℕ
  a1 = end_of a0 outer_restores

  abbrev results : Code
  results = extends_result result

  abbrev clears_all : Code
  clears_all = clear_all zeros

  abbrev inits : Code
  inits = init_from 1 (result_pointers result)

  low_p : 0x7100_0000 ≤ p
  low_p = entry.low_p k image places depth f inner o z l m space image_is beside door

  high_p : p + 16 ≤ 0x7200_0000
  high_p = entry.high_p k image places depth f inner o z l m space image_is beside door

  q_is : q ≡ p + 16
  q_is = entry.q_is k image places depth f inner o z l m space image_is beside door

  sp_is : (entry.moment k image places depth f inner o z l m space image_is beside door steps).state.processor.regs 4 ≡ p
  sp_is = entry.stack_arrived 0 sig.parameters _

  code : HasCode image y
  code = record { each_byte = back.stands.shares.each_byte; code = back.stands.code }

  word_kept : (a v : ℕ) → p ≤ a → a + 8 ≤ 0x7200_0000 → number_at 8 (entry.moment k image places depth f inner o z l m space image_is beside door steps).state.memory.bytes a ≡ v → number_at 8 y.bytes a ≡ v
  word_kept a v low high is = let e = sp_is in number_at-same 8 y.bytes _ a (λ x from to. back.kept x (omega arith) (omega arith)) ∙ is

  is_legacy_word : number_at 8 y.bytes p ≡ legacy
  is_legacy_word = let hp = high_p in word_kept p legacy (omega arith) (omega arith) (entry.kept_legacy k image places depth f inner o z l m space image_is beside door)

  is_control_word : number_at 8 y.bytes (p + 8) ≡ p + 16
  is_control_word = let hp = high_p in word_kept (p + 8) (p + 16) (omega arith) (omega arith) (entry.kept_control k image places depth f inner o z l m space image_is beside door)

  placed_behind : IsPlaced k image a0 (outer_restores ++ (outer_clears sig ++ (returns ∷ [])))
  placed_behind = (entry.placed_call k image places depth f inner o z l m space image_is beside door).1

  placed_clears : IsPlaced k image a1 (outer_clears sig ++ (returns ∷ []))
  placed_clears = placed_back k image outer_restores (outer_clears sig ++ (returns ∷ [])) a0 placed_behind

  placed_parts : IsPlaced k image a1 (results ++ (clears_all ++ inits))
  placed_parts = placed_front k image (outer_clears sig) (returns ∷ []) a1 placed_clears

  abbrev y4 : Stored
  y4 = door_left k image y p legacy

  abbrev c3 : Processor
  c3 = record c { rip = a1; regs = left_regs k image c.regs p legacy s }

  own_c : IsOwn control_cell
  own_c = own_cell control_cell (omega arith) (omega arith)

  own_l : IsOwn legacy_cell
  own_l = own_cell legacy_cell (omega arith) (omega arith)

  code4 : HasCode image y4
  code4 = code_kept image (written y legacy_cell legacy) control_cell (p + 16) own_c (code_kept image y legacy_cell legacy own_l code)

  restored : Leads k image (record c { rip = a0 }) y c3 y4
  restored = door_restores_lead k image p legacy s (record c { rip = a0 }) y (placed_front k image outer_restores (outer_clears sig ++ (returns ∷ [])) a0 placed_behind) code low_p high_p
      (back.sp ∙ sp_is) is_legacy_word is_control_word (back.stands.legacy_sp ∙ same_sp)

  small_s : s < 2 ^ 64
  small_s = let e = door.readable in let g = read_within 8 s (omega arith) (omega arith) e in omega arith

  words3 : (r : ℕ) → c3.regs r < 2 ^ 64
  words3 = let lp = low_p in let hp = high_p in let sl = entry.small_legacy k image places depth f inner o z l m space image_is beside door in
      let w1 = words_stay k image c.regs 4 (p + 8) back.stands.words.regs_fit (omega arith) in
      let w2 = words_stay k image _ 1 legacy w1 sl in
      let w3 = words_stay k image _ 4 (p + 8 + 8) w2 (omega arith) in
      let w4 = words_stay k image _ 2 (p + 16) w3 (omega arith) in
      let w5 = words_stay k image _ 10 s w4 small_s in
      words_stay k image _ 4 s w5 small_s

  led : ResultLed k image result c3 y4
  led = result_led k image result c3 y4 (placed_front k image results (clears_all ++ inits) a1 placed_parts) code4 words3

  abbrev d : Processor
  d = led.processor

  abbrev a2 : ℕ
  a2 = end_of a1 results

  abbrev a3 : ℕ
  a3 = end_of a2 clears_all

  abbrev a4 : ℕ
  a4 = end_of a3 inits

  abbrev r5 : ℕ → ℕ
  r5 = cleared zeros d.regs

  placed_zeros : IsPlaced k image a2 (clears_all ++ inits)
  placed_zeros = placed_back k image results (clears_all ++ inits) a1 placed_parts

  inited : (bounds : ℕ → Bounds) × ((x : ℕ) → x < 4 → init_above (result_pointers result) d.bounds x ≡ bounds x) × ((P : Bounds → Type 0) → P full_bounds → ((x : ℕ) → P (d.bounds x)) → (x : ℕ) → P (bounds x))
      × Leads k image (record d { rip = a3; regs = r5; flags = zero_flags }) y4 (record d { rip = a4; regs = r5; flags = zero_flags; bounds = bounds }) y4
  inited = init_leads k image (result_pointers result) 1 (record d { rip = a3; regs = r5; flags = zero_flags }) y4 (placed_back k image clears_all inits a2 placed_zeros) code4 refl (few_results result)

  abbrev c6 : Processor
  c6 = record d { rip = a4; regs = r5; flags = zero_flags; bounds = inited.0 }

  cleared_all : Leads k image d y4 (record d { rip = a3; regs = r5; flags = zero_flags }) y4
  cleared_all = subst (λ (x : ℕ). Leads k image (record d { rip = x }) y4 (record d { rip = a3; regs = r5; flags = zero_flags }) y4) (sym led.rip)
      (then_on k image (record d { rip = a2 }) (record d { rip = a2 + 2; regs = with_reg d.regs 1 0; flags = zero_flags }) (record d { rip = a3; regs = r5; flags = zero_flags }) y4 y4 y4
      (clear_leads k image 1 2 (record d { rip = a2 }) y4 (placed_front k image clears_all inits a2 placed_zeros).0 (omega arith) code4)
      (clear_all_leads k image (2 ∷ 6 ∷ 7 ∷ 8 ∷ 9 ∷ 10 ∷ 11 ∷ []) (record d { rip = a2 + 2; regs = with_reg d.regs 1 0; flags = zero_flags }) y4 (placed_front k image clears_all inits a2 placed_zeros).1 code4 refl))

  to_return : Leads k image (record c { rip = a0 }) y c6 y4
  to_return = then_on k image (record c { rip = a0 }) c3 c6 y y4 y4 restored
      (then_on k image c3 d c6 y4 y4 y4 led.leads (then_on k image d (record d { rip = a3; regs = r5; flags = zero_flags }) c6 y4 y4 y4 cleared_all inited.3))

  place : end_of a1 (outer_clears sig) ≡ a4
  place = end_append results (clears_all ++ inits) a1 ∙ end_append clears_all inits a2

  stands_return : StandsAt k image a4 (returns.0) 2
  stands_return = subst (λ (x : ℕ). StandsAt k image x (returns.0) 2) place (placed_back k image (outer_clears sig) (returns ∷ []) a1 placed_clears).0

  abbrev target : ℕ
  target = number_at 8 w.bytes s

  within : s + 8 ≤ addresses
  within = read_within 8 s (omega arith) (omega arith) door.readable

  is_target : number_at 8 y4.bytes s ≡ target
  is_target = number_at-same 8 y4.bytes w.bytes s (λ x from to. let free = unsealed_byte 8 s x (omega arith) door.unsealed within from to in
      open_kept (written y legacy_cell legacy) control_cell (p + 16) x own_c free ∙ open_kept y legacy_cell legacy x own_l free ∙ back.stands.shares.unsealed x free)

  far_is : (r x : ℕ) → nat_eq r 0 ≡ false → r ≢ 0 → c3.regs r ≡ c.regs r → c.regs r ≡ x → d.regs r ≡ x
  far_is r x e away same is = led.others r away ∙ same ∙ is

  sp_back : c6.regs 4 ≡ s
  sp_back = led.others 4 (λ e. absurd (omega arith))

  low_s : s + 8 < 2 ^ 64
  low_s = top_unread s door.readable

  avoids : all_below 8 (λ n. not (is_of_bounds (moved s n))) ≡ true
  unfolding moved
  avoids = each_below 8 (λ n. not (is_of_bounds (moved s n))) (λ n less. let room = within in let e : (s + n) % addresses ≡ s + n = omega arith in
      subst (λ (x : ℕ). not (is_of_bounds x) ≡ true) (sym e) (unsealed_avoids (s + n) (unsealed_byte 8 s (s + n) (omega arith) door.unsealed within (omega arith) (omega arith))))

  abbrev c8 : Processor
  c8 = record c6 { rip = target; regs = with_reg c6.regs 4 (s + 8) }

  -- legacy code behind its CALL
  behind : (j steps : ℕ) → strays_by k image target ≡ false → Alongside k z (after_outer k result l v (with_turns j w)) (here k image c8 y4 n.state.guest steps j n.accesses)
  behind j steps fine =
      let lp = low_p in
      let hp = high_p in
      let qp = q_is in
      let sp = sp_is in
      let shares = back.stands.shares in
      let far = back.stands.far in
      record {
        shares = record {
          unsealed = λ x free. open_kept (written y legacy_cell legacy) control_cell (p + 16) x own_c free ∙ open_kept y legacy_cell legacy x own_l free ∙ shares.unsealed x free;
          each_byte = code4.each_byte;
          store = shares.store;
          kept_words = shares.kept_words;
          guest = shares.guest;
          guest_fits = shares.guest_fits;
          turns = refl;
          accesses = shares.accesses;
        };
        like = record {
          regs = each_reg (λ r. with_reg (bare_regs w.far (above_stack s)) 0 (given result v).number r ≡ c8.regs r)
              (sym (led.number ∙ number_after result v c (c.bounds 0) back.holds)) refl refl (sym (led.others 3 (λ e. absurd (omega arith)) ∙ ap (λ (f : FarRegisters). f.rbx) far)) (let ls = low_s in let e : (s + 8) % 2 ^ 64 ≡ s + 8 = omega arith in e)
              (sym (led.others 5 (λ e. absurd (omega arith)) ∙ ap (λ (f : FarRegisters). f.rbp) far)) refl refl refl refl refl refl
              (sym (led.others 12 (λ e. absurd (omega arith)) ∙ ap (λ (f : FarRegisters). f.r12) far)) (sym (led.others 13 (λ e. absurd (omega arith)) ∙ ap (λ (f : FarRegisters). f.r13) far))
              (sym (led.others 14 (λ e. absurd (omega arith)) ∙ ap (λ (f : FarRegisters). f.r14) far)) (sym (led.others 15 (λ e. absurd (omega arith)) ∙ ap (λ (f : FarRegisters). f.r15) far));
          flags = refl;
          rip = refl;
          bounds = λ b few. bounds_after result v c d.bounds back.holds led.bounds b few ∙ inited.1 b few;
          preserve = sym (led.preserve ∙ back.stands.preserve);
        };
        admitted = λ inside away. absurd (goes_fine target fine inside away);
        words = record {
          regs_fit = let ls = low_s in words_stay k image r5 4 (s + 8) (cleared_small zeros d.regs led.words) (omega arith);
          bounds_fit = inited.2 AreWords (omega arith, omega arith) (subst (λ (f : ℕ → Bounds). (i : ℕ) → AreWords (f i)) (sym led.bounds) back.stands.words.bounds_fit);
        };
        preserve = led.preserve ∙ back.stands.preserve;
        data_sp = beside.data_sp ∙ sym same_data;
        legacy_sp = beside.legacy_sp;
        frozen = record {
          code = λ x inside. code4.code x inside ∙ sym (image_is x inside);
          control = word_back (written y legacy_cell legacy).bytes control_cell (p + 16) (omega arith) ∙ sym qp;
          legacy = number_apart (written y legacy_cell legacy).bytes legacy_cell control_cell (p + 16) (inr (omega arith)) ∙ word_back y.bytes legacy_cell legacy (entry.small_legacy k image places depth f inner o z l m space image_is beside door) ∙ sym beside.legacy_sp;
          data_word = number_apart (written y legacy_cell legacy).bytes data_cell control_cell (p + 16) (inr (omega arith)) ∙ number_apart y.bytes data_cell legacy_cell legacy (inr (omega arith)) ∙ back.stands.data_sp ∙ same_data ∙ sym beside.data_sp;
          depth = let e = number_apart (written y legacy_cell legacy).bytes depth_cell control_cell (p + 16) (inr (omega arith)) ∙ number_apart y.bytes depth_cell legacy_cell legacy (inr (omega arith)) in
              let here_is = back.stands.depth_left in let there = space.2 in e ∙ omega arith;
          pointer = beside.frozen.pointer;
          stack = λ x from to. with_number_apart 8 (written y legacy_cell legacy).bytes control_cell (p + 16) x (inr (omega arith)) ∙ with_number_apart 8 y.bytes legacy_cell legacy x (inr (omega arith))
              ∙ back.kept x (omega arith) to ∙ entry.kept_stack k image places depth f inner o z l m space image_is beside door x from to;
        };
      }

  module _ (came : F m ≡ F n) where
    reached : (x : ℕ) × (F m ≡ F (here k image c6 y4 n.state.guest x n.turns n.accesses))
    reached =
        let on = to_return n.state.guest n.state.steps n.turns n.accesses in
        (on.0, came ∙ ap (λ (r : ℕ). F (here k image (record c { rip = r }) y n.state.guest n.state.steps n.turns n.accesses)) back.next ∙ on.1)

    fine_turns : strays_by k image target ≡ false → Turns k image c6 y4 c8 y4
    fine_turns fine = let e = sp_back in
        subst (λ (x : ℕ). Turns k image c6 y4 (record c6 { rip = target; regs = with_reg c6.regs 4 (x + 8) }) y4) refl
        (return_judged k image target s c6 y4 stands_return code4 sp_back door.readable low_s is_target (subst (λ (x : ℕ). is_in_outer k.outers x ≡ true) place inside) avoids fine)

    bad_ends : strays_by k image target ≡ true → Strays_there k image c6 y4 c8 target
    bad_ends bad = return_strays k image target s c6 y4 stands_return code4 sp_back door.readable low_s is_target (subst (λ (x : ℕ). is_in_outer k.outers x ≡ true) place inside) avoids bad

    either_out : (b : Bool) → strays_by k image target ≡ b → (x : ℕ) → final (ground k) (here k image c6 y4 n.state.guest x 0 n.accesses) ≡ record { end = Out (record { processor = c6; memory = y4; guest = n.state.guest; steps = x }); accesses = n.accesses; clean = true }
    either_out true e x = (bad_ends e).out n.state.guest x n.accesses
    either_out false e x = (fine_turns e).out n.state.guest x n.accesses

    pub out_at_return : w.turns ≡ 0 → EndsAs places OutOfTurns w (F m)
    out_at_return e =
        let on = reached in
        let shares = back.stands.shares in
        let all : F m ≡ record { end = Out (record { processor = c6; memory = y4; guest = n.state.guest; steps = on.0 }); accesses = n.accesses; clean = true } =
        on.1 ∙ ap (λ (t : ℕ). F (here k image c6 y4 n.state.guest on.0 t n.accesses)) (shares.turns ∙ e) ∙ either_out (strays_by k image target) refl on.0 in
        subst (λ (g : Final). EndsAs places OutOfTurns w g) (sym all) (shares.accesses, refl, (refl, record { guest = shares.guest; store = shares.store }))

    pub strays_at_return : (j : ℕ) → w.turns ≡ suc j → strays_by k image target ≡ true → EndsAs places (Strayed target) (record (with_turns j w) { legacy_sp = legacy }) (F m)
    strays_at_return j e bad =
        let on = reached in
        let shares = back.stands.shares in
        let all : F m ≡ record { end = Stopped (stop.Strayed target) (record { processor = c8; memory = y4; guest = n.state.guest; steps = on.0 }); accesses = n.accesses; clean = true } =
        on.1 ∙ ap (λ (t : ℕ). F (here k image c6 y4 n.state.guest on.0 t n.accesses)) (shares.turns ∙ e) ∙ (bad_ends bad).ends n.state.guest on.0 j n.accesses in
        subst (λ (g : Final). EndsAs places (Strayed target) (record (with_turns j w) { legacy_sp = legacy }) g) (sym all) (shares.accesses, refl, (refl, record { guest = shares.guest; store = shares.store }))

    pub back_at_return : (j : ℕ) → w.turns ≡ suc j → strays_by k image target ≡ false → (x : Moment) × (F m ≡ F x) × Alongside k z (after_outer k result l v (with_turns j w)) x
    back_at_return j e fine =
        let on = reached in
        let shares = back.stands.shares in
        let last = (fine_turns fine).on n.state.guest on.0 j n.accesses in
        (here k image c8 y4 n.state.guest last.0 j n.accesses, on.1 ∙ ap (λ (t : ℕ). F (here k image c6 y4 n.state.guest on.0 t n.accesses)) (shares.turns ∙ e) ∙ last.1, behind j last.0 fine)
