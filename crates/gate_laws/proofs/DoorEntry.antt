-- From a door, by its outer entry, to the call of its function.
use Rattle.std.specs.Prelude.{true, false, nat_eq, Option, List, [], ◌∷◌, ◌++◌, ◌^◌, length}
use Rattle.mx_base.specs.StopOfC.{AccessOfC}
use Rattle.std.proofs.Common.{◌≡◌, ℕ, ◌+◌, ◌-◌, ◌<◌, ◌≤◌, inl, inr, refl, arith, ap, ◌∙◌, sym, subst}
use Rattle.mx_base.specs.declared.numbers.IntKind.{IntKind}
use Rattle.mx_base.specs.Memory.{Bytes, number_at}
use Rattle.mx_base.specs.Regions.{instrumented_code, is_in}
use Rattle.mx_base.proofs.MemoryLemmas.{number_at-lt}
use Rattle.obj_file.proofs.StoredBytes.{with_number_apart, number_apart, word_back}
use Rattle.x86_forms.specs.declared.instr.Instr.TheVariants.{CallRel}
use Rattle.x86_forms.specs.Processor.{Processor, with_reg}
use Rattle.x86_forms.specs.Watch.{outer_entry}
use Rattle.obj_file.specs.Stored.{Stored}
use Rattle.call_sigs.specs.Signatures.{Signature, parameter_register}
use Rattle.call_gates.specs.Gates.{Code, outer_head, outer_keeps, outer_restores, outer_clears, extend_parameters, calls, returns, way, size_of_code, control_cell, legacy_cell, data_cell, depth_cell}
use Rattle.obj_file.specs.Finals.{final}
use Rattle.gate_laws.specs.Moments.{Moment, Final}
use Rattle.legacy_calls.specs.Legacy.{Linkage, Foreign, ground, far_of, arguments_from, lent, word_as}
use Rattle.gate_laws.specs.Placed.{HasCode, IsPlaced, StandsAt}
use Rattle.gate_laws.specs.Standing.{AtCall, AtDoor, Alongside}
use Rattle.gate_laws.specs.Effects.{end_of, arrived}
use Rattle.gate_laws.proofs.Walks.{written, IsOwn, code_kept, here, Leads, then_on}
use Rattle.gate_laws.proofs.Straight.{parameters_lead, arrived_small, placed_front, placed_back, words_stay}
use Rattle.gate_laws.proofs.Entry.{own_at, own_cell, open_kept, by_parameter}
use Rattle.gate_laws.proofs.Sizes.{outer_behind}
use Rattle.gate_laws.proofs.Doors.{door_kept, door_regs, door_keeps_lead}
use Rattle.gate_laws.proofs.Arguments.{arguments_arrive}
use Rattle.gate_laws.specs.Owed.{HasSpace, IsOuter}

far_arrived : (j : ℕ) (ps : List (Option IntKind)) (regs : ℕ → ℕ) → j + length ps ≤ 6 → far_of (arrived j ps regs) ≡ far_of regs
far_arrived j [] regs few = refl
far_arrived j (p ∷ ps) regs few = far_arrived (j + 1) ps _ (omega arith) ∙ λ i. record {
  rbx = still 3 (by_parameter (λ r. nat_eq 3 r ≡ false) refl refl refl refl refl refl j) i;
  rbp = still 5 (by_parameter (λ r. nat_eq 5 r ≡ false) refl refl refl refl refl refl j) i;
  r12 = still 12 (by_parameter (λ r. nat_eq 12 r ≡ false) refl refl refl refl refl refl j) i;
  r13 = still 13 (by_parameter (λ r. nat_eq 13 r ≡ false) refl refl refl refl refl refl j) i;
  r14 = still 14 (by_parameter (λ r. nat_eq 14 r ≡ false) refl refl refl refl refl refl j) i;
  r15 = still 15 (by_parameter (λ r. nat_eq 15 r ≡ false) refl refl refl refl refl refl j) i;
}
  where
    still : (r : ℕ) → nat_eq r (parameter_register j) ≡ false → with_reg regs (parameter_register j) (word_as p (regs (parameter_register j))) r ≡ regs r
    still r e = rw e refl

pub stack_arrived : (j : ℕ) (ps : List (Option IntKind)) (regs : ℕ → ℕ) → arrived j ps regs 4 ≡ regs 4
stack_arrived j [] regs = refl
stack_arrived j (p ∷ ps) regs = stack_arrived (j + 1) ps _ ∙ (let e = by_parameter (λ r. nat_eq 4 r ≡ false) refl refl refl refl refl refl j in rw e refl)

end_append : (a b : Code) (at : ℕ) → end_of at (a ++ b) ≡ end_of (end_of at a) b
end_append [] b at = refl
end_append (x ∷ a) b at = end_append a b (at + x.1)

module _ (k : Linkage) (image : Bytes) (places : ℕ → Option AccessOfC) (depth f inner : ℕ) (o : IsOuter k image f inner)
    (z : Bytes) (l : Foreign) (m : Moment) (space : HasSpace depth z) (image_is : (a : ℕ) → is_in instrumented_code a ≡ true → z a ≡ image a) (beside : Alongside k z l m) (door : AtDoor k l f) where
  abbrev F : Moment → Final
  F x = final (ground k) x

  abbrev c : Processor
  c = m.state.processor

  abbrev y : Stored
  y = m.state.memory

  abbrev sig : Signature
  sig = k.own f

  abbrev ps : List (Option IntKind)
  ps = sig.parameters

  abbrev a : ℕ
  a = outer_entry f

  abbrev q : ℕ
  q = number_at 8 z control_cell

  abbrev p : ℕ
  p = q - 16

  abbrev legacy : ℕ
  legacy = l.world.legacy_sp

  abbrev s : ℕ
  s = c.regs 4

  abbrev head : Code
  head = outer_keeps ++ extend_parameters 0 ps

  abbrev behind : Code
  behind = outer_restores ++ (outer_clears sig ++ (returns ∷ []))

  abbrev y3 : Stored
  y3 = door_kept y p legacy s

  abbrev r1 : ℕ → ℕ
  r1 = door_regs c.regs p legacy s

  abbrev r2 : ℕ → ℕ
  r2 = arrived 0 ps r1

  abbrev a1 : ℕ
  a1 = end_of a outer_keeps

  abbrev a2 : ℕ
  a2 = end_of a1 (extend_parameters 0 ps)

  abbrev c0 : Processor
  c0 = record c { rip = a }

  abbrev c2 : Processor
  c2 = record c { rip = a2; regs = r2 }

  pub low_p : 0x7100_0000 ≤ p
  low_p = let e = space.0 in omega arith

  pub q_is : q ≡ p + 16
  q_is = let e = space.0 in omega arith

  pub high_p : p + 16 ≤ 0x7200_0000
  high_p = let e = space.1 in let h = q_is in omega arith

  pub small_s : s < 2 ^ 64
  small_s = beside.words.regs_fit 4

  pub code : HasCode image y
  code = record { each_byte = beside.shares.each_byte; code = λ x inside. beside.frozen.code x inside ∙ image_is x inside }

  is_legacy_cell : number_at 8 y.bytes legacy_cell ≡ legacy
  is_legacy_cell = beside.frozen.legacy ∙ beside.legacy_sp

  pub small_legacy : legacy < 2 ^ 64
  small_legacy = let e = is_legacy_cell in let g = number_at-lt 8 y.bytes legacy_cell code.each_byte in omega arith

  own_c : IsOwn control_cell
  own_c = own_cell control_cell (omega arith) (omega arith)

  own_l : IsOwn legacy_cell
  own_l = own_cell legacy_cell (omega arith) (omega arith)

  pub own_0 : IsOwn p
  own_0 = let low = low_p in let high = high_p in record { low = omega arith; place = inr (omega arith); high = omega arith }

  pub own_1 : IsOwn (p + 8)
  own_1 = let low = low_p in let high = high_p in own_at p 8 low (omega arith)

  pub code3 : HasCode image y3
  code3 = code_kept image _ legacy_cell s own_l (code_kept image _ p legacy own_0 (code_kept image y (p + 8) (p + 16) own_1 code))

  placed_head : IsPlaced k image a head
  placed_head = placed_front k image head (calls inner (a + size_of_code (outer_head sig) + 6) ∷ behind) a o.placed

  words1 : (r : ℕ) → r1 r < 2 ^ 64
  words1 = let low = low_p in let high = high_p in
      let w1 = words_stay k image c.regs 10 s beside.words.regs_fit small_s in
      let w2 = words_stay k image _ 4 control_cell w1 (omega arith) in
      let w3 = words_stay k image _ 4 (control_cell + 8) w2 (omega arith) in
      let w4 = words_stay k image _ 0 (p + 16) w3 (omega arith) in
      let w5 = words_stay k image _ 4 (legacy_cell + 8) w4 (omega arith) in
      let w6 = words_stay k image _ 11 legacy w5 small_legacy in
      let w7 = words_stay k image _ 4 (p + 16) w6 (omega arith) in
      let w8 = words_stay k image _ 4 (p + 8) w7 (omega arith) in
      words_stay k image _ 4 p w8 (omega arith)

  to_call : Leads k image c0 y c2 y3
  to_call =
      then_on k image c0 (record c { rip = a1; regs = r1 }) c2 y y3 y3
      (door_keeps_lead k image p legacy s c0 y (placed_front k image outer_keeps (extend_parameters 0 ps) a placed_head) code low_p high_p refl small_s (beside.frozen.control ∙ q_is) is_legacy_cell)
      (parameters_lead k image 0 ps (record c { rip = a1; regs = r1 }) y3 (placed_back k image outer_keeps (extend_parameters 0 ps) a placed_head) code3 words1)

  abbrev pub moment : ℕ → Moment
  moment n = here k image c2 y3 m.state.guest n m.turns m.accesses

  pub reaches : (n : ℕ) × (F m ≡ F (here k image c2 y3 m.state.guest n m.turns m.accesses))
  reaches =
      let on = to_call m.state.guest m.state.steps m.turns m.accesses in
      let at_door : c.rip ≡ a = sym beside.like.rip ∙ door.here in
      (on.0, ap (λ (r : ℕ). F (here k image (record c { rip = r }) y m.state.guest m.state.steps m.turns m.accesses)) at_door ∙ on.1)

  place : end_of a head ≡ a2
  place = end_append outer_keeps (extend_parameters 0 ps) a

  pub placed_call : IsPlaced k image a2 (calls inner (a + size_of_code (outer_head sig) + 6) ∷ behind)
  placed_call = subst (λ (x : ℕ). IsPlaced k image x (calls inner (a + size_of_code (outer_head sig) + 6) ∷ behind)) place (placed_back k image head (calls inner (a + size_of_code (outer_head sig) + 6) ∷ behind) a o.placed)

  next_is : a + size_of_code (outer_head sig) + 6 ≡ a2 + 6
  next_is = sym (outer_behind sig a) ∙ ap (λ (x : ℕ). x + 6) place

  stands_call : StandsAt k image a2 (CallRel true (way inner (a2 + 6))) 6
  stands_call = subst (λ (x : ℕ). StandsAt k image a2 (CallRel true (way inner x)) 6) next_is placed_call.0

  pub far_same : far_of c.regs ≡ far_of l.processor.regs
  far_same = λ i. record {
    rbx = sym (beside.like.regs 3 (omega arith)) i;
    rbp = sym (beside.like.regs 5 (omega arith)) i;
    r12 = sym (beside.like.regs 12 (omega arith)) i;
    r13 = sym (beside.like.regs 13 (omega arith)) i;
    r14 = sym (beside.like.regs 14 (omega arith)) i;
    r15 = sym (beside.like.regs 15 (omega arith)) i;
  }

  kept_cell : (b v : ℕ) → 0x7000_0010 ≤ b → b + 8 ≤ 0x7000_1000 → number_at 8 y.bytes b ≡ v → number_at 8 y3.bytes b ≡ v
  kept_cell b v low high is = let lp = low_p in
      number_apart (written (written y (p + 8) (p + 16)) p legacy).bytes b legacy_cell s (inr (omega arith)) ∙ number_apart (written y (p + 8) (p + 16)).bytes b p legacy (inl (omega arith))
      ∙ number_apart y.bytes b (p + 8) (p + 16) (inl (omega arith)) ∙ is

  same_sp : s ≡ l.processor.regs 4
  same_sp = sym (beside.like.regs 4 (omega arith))

  -- the function is called with what legacy code left
  pub calls_function : (n : ℕ) → AtCall k image depth 64 inner sig (arguments_from 0 0 ps l.processor) (lent l) (here k image c2 y3 m.state.guest n m.turns m.accesses)
  calls_function n = let lp = low_p in let hp = high_p in let shares = beside.shares in let few = o.few in let pointed = o.few_pointers in record {
    stands = record {
      shares = record {
        unsealed = λ x free. open_kept (written (written y (p + 8) (p + 16)) p legacy) legacy_cell s x own_l free ∙ open_kept (written y (p + 8) (p + 16)) p legacy x own_0 free ∙ open_kept y (p + 8) (p + 16) x own_1 free ∙ shares.unsealed x free;
        each_byte = code3.each_byte;
        store = shares.store;
        kept_words = shares.kept_words;
        guest = shares.guest;
        guest_fits = shares.guest_fits;
        turns = shares.turns;
        accesses = shares.accesses;
      };
      far = far_arrived 0 ps r1 (omega arith) ∙ far_same;
      legacy_sp = word_back (written (written y (p + 8) (p + 16)) p legacy).bytes legacy_cell s small_s ∙ same_sp;
      data_sp = kept_cell data_cell _ (omega arith) (omega arith) (beside.frozen.data_word ∙ beside.data_sp);
      depth_left = let e = kept_cell depth_cell (number_at 8 z depth_cell) (omega arith) (omega arith) beside.frozen.depth in let d = space.2 in omega arith;
      code = code3.code;
      preserve = beside.preserve;
      words = record { regs_fit = arrived_small k image 0 ps r1 words1; bounds_fit = beside.words.bounds_fit };
    };
    here = stands_call;
    arrive = arguments_arrive 0 0 ps l.processor c2 r1 (omega arith) (omega arith)
        (λ i low high. by_parameter (λ r. r1 r ≡ c.regs r) refl refl refl refl refl refl i ∙ sym (beside.like.regs (parameter_register i) (by_parameter (λ r. r < 16) (omega arith) (omega arith) (omega arith) (omega arith) (omega arith) (omega arith) i)))
        (λ i low. sym (beside.like.bounds i low)) refl;
    room = let e = stack_arrived 0 ps r1 in let d = space.0 in (omega arith, omega arith);
  }

  -- what is kept on the control stack meanwhile
  pub kept_legacy : number_at 8 y3.bytes p ≡ legacy
  kept_legacy = let lp = low_p in number_apart (written (written y (p + 8) (p + 16)) p legacy).bytes p legacy_cell s (inr (omega arith)) ∙ word_back (written y (p + 8) (p + 16)).bytes p legacy small_legacy

  pub kept_control : number_at 8 y3.bytes (p + 8) ≡ p + 16
  kept_control = let lp = low_p in let hp = high_p in
      number_apart (written (written y (p + 8) (p + 16)) p legacy).bytes (p + 8) legacy_cell s (inr (omega arith)) ∙ number_apart (written y (p + 8) (p + 16)).bytes (p + 8) p legacy (inr (omega arith)) ∙ word_back y.bytes (p + 8) (p + 16) (omega arith)

  pub kept_stack : (x : ℕ) → q ≤ x → x < 0x7200_0000 → y3.bytes x ≡ z x
  kept_stack x from to = let lp = low_p in let e = q_is in
      with_number_apart 8 (written (written y (p + 8) (p + 16)) p legacy).bytes legacy_cell s x (inr (omega arith)) ∙ with_number_apart 8 (written y (p + 8) (p + 16)).bytes p legacy x (inr (omega arith))
      ∙ with_number_apart 8 y.bytes (p + 8) (p + 16) x (inr (omega arith)) ∙ beside.frozen.stack x from to
