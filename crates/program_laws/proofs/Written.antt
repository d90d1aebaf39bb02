-- Where an image has the bytes of a function, its parts stand.
use Rattle.std.specs.Prelude.{nat_lt, IsTrue}
use Rattle.std.proofs.Common.{◌≡◌, ℕ, suc, ◌+◌, ◌*◌, ◌^◌, ◌<◌, ◌≤◌, true, false, Option, List, [], ◌∷◌, ◌++◌, length, refl, arith, sym, subst}
use Rattle.std.proofs.lemmas.Bool.Decides.{nat_tests}
use Rattle.mx_base.specs.Memory.{Bytes, list_at}
use Rattle.mx_base.specs.Numbers.{as_signed}
use Rattle.mx_base.specs.Regions.{instrumented_code, is_in}
use Rattle.mx_base.specs.StopOfC.{AccessOfC}
use Rattle.x86_forms.specs.declared.instr.Instr.{Instr}
use Rattle.x86_forms.specs.Spelling.{spelling, low_bytes, mod_of, disp_bytes, scale_code, modrm, sib, over_base, mem_bytes, rm_bytes, index_high, base_high, rm_high, high_bits, is_low, rm_is_low, forces_rex, rex_bits, rex_bytes, prefix_bytes, escape_bytes, operand_bytes}
use Rattle.x86_forms.specs.Validity.{valid_of}
use Rattle.x86_forms.specs.Watch.{is_in_outer}
use Rattle.x86_forms.proofs.ShortCode.{spelling-short}
use Rattle.obj_file.specs.Machine.{IsReader}
use Rattle.fat_ir.specs.Functions.{Linked}
use Rattle.step_code.specs.declared.pieces.Piece.{Piece}
use Rattle.step_code.specs.declared.pieces.Piece.TheVariants.{Plain}
use Rattle.step_code.specs.Steps.{end_pieces}
use Rattle.step_code.specs.Entry as entry
use Rattle.step_code.specs.Bytes.{size_of_piece, size_of_pieces, size_of_steps, bytes_of_pieces, bytes_of_steps, AllValid}
use Rattle.step_code.specs.Functions.{plain, Layout, homing_at, steps_at, end_at, return_at, past_function}
use Rattle.step_code.specs.Homing.{homing}
use Rattle.step_code.proofs.Sizes.{length_bytes, length_steps}
use Rattle.code_laws.specs.Laid.{StandAll}
use Rattle.code_laws.proofs.Placing.{list_parts, pieces_stand, steps_stand}
use Rattle.call_gates.specs.Gates.{Code, instructions}
use Rattle.legacy_calls.specs.Legacy.{Linkage}
use Rattle.gate_laws.specs.Effects.{end_of}
use Rattle.gate_laws.specs.Placed.{IsPlaced}
use Rattle.gate_laws.proofs.Placing.{stands_by_bytes}
use Rattle.gate_laws.proofs.Straight.{placed_front, placed_back}
use Rattle.program_laws.specs.Functions.{IsFunction, entries_of}
use Rattle.program_laws.proofs.Sized.{Sizes, AreSizes, counts, enters, inner_entry, inner_return}
use Rattle.program_laws.proofs.Functions.{Parts, enters_so as function_enters}
use Rattle.program_laws.specs.Entering.{EntersFunction}
use Rattle.fat_ir.specs.Values.{Value}
use Rattle.mx_base.specs.World.{World}
use Rattle.gate_laws.specs.Moments.{Moment}
use Rattle.gate_laws.specs.Standing.{AtCall}

-- ---- instructions one behind the other

-- each has the size that is told
abbrev AreRight : Code → Type 0
AreRight [] = Unit {0}
AreRight (x ∷ rest) = (length (spelling x.0) ≡ x.1) × AreRight rest

abbrev AllSound : List Instr → Type 0
AllSound [] = Unit {0}
AllSound (i ∷ is) = IsTrue (valid_of i) × AllSound is

plain_valid : (label_at entry_at : ℕ → ℕ) (is : List Instr) (at : ℕ) → AllSound is → AllValid label_at entry_at at (plain is)
plain_valid label_at entry_at [] at h = tt
plain_valid label_at entry_at (i ∷ is) at h = (h.0, plain_valid label_at entry_at is (at + size_of_piece (Plain i)) h.1)

inside_code : (a : ℕ) → 0x0100_0000 ≤ a → a < 0x1100_0000 → is_in instrumented_code a ≡ true
inside_code a low high = grind (arith, nat_tests)

module _ (k : Linkage) (image : Bytes) (reader : IsReader k.reads) (label_at entry_at : ℕ → ℕ) where
  placed_of : (code : Code) (at end : ℕ) → AreRight code → StandAll image label_at entry_at at (plain (instructions code)) end → IsPlaced k image at code × (end_of at code ≡ end)
  placed_of [] at end right h = (tt, h)
  placed_of (x ∷ rest) at end right (next, st, more) =
      let some = (spelling-short x.0 st.valid).some in
      let e = st.is_next in
      let size = right.0 in
      let same : next ≡ at + x.1 = omega arith in
      let low = st.low in
      let high = st.high in
      let there = placed_of rest (at + x.1) end right.1 (subst (λ (a : ℕ). StandAll image label_at entry_at a (plain (instructions rest)) end) same more) in
      ((stands_by_bytes k reader image at x.0 x.1 (inside_code at low (omega arith)) (omega arith) st.valid size (subst (λ (n : ℕ). list_at n image at ≡ spelling x.0) size st.bytes), there.0), there.1)

-- ---- the entry and the return

fits_there : (n : ℕ) → n < 2 ^ 31 → nat_lt n (2 ^ 31) ≡ true
fits_there n h = grind (arith, nat_tests)

entry_sound : (frame units : ℕ) → frame ≤ 0x0400_0000 → units ≤ 504 → AllSound (entry.inner_entry frame units)
entry_sound frame units few_bytes few_words =
    (refl, (refl, (refl, (refl, (refl, (refl, (refl, (refl, (fits_there (0x5000_0000 + frame) (omega arith), (refl, (refl, (refl, (fits_there frame (omega arith), (refl, (fits_there (8 * units) (omega arith), tt)))))))))))))))

return_sound : (frame units : ℕ) → frame ≤ 0x0400_0000 → units ≤ 504 → AllSound (entry.inner_return frame units)
return_sound frame units few_bytes few_words = (refl, (fits_there frame (omega arith), (refl, (refl, (refl, (refl, (fits_there (8 * units) (omega arith), (refl, tt))))))))

sizes_of : (frame units : ℕ) → Sizes
sizes_of frame units = record {
  depth_compared = length (spelling (entry.compares 0 4096));
  one_added = length (spelling (entry.adds 0 1));
  room_compared = length (spelling (entry.compares 0 (0x5000_0000 + frame)));
  frame_taken = length (spelling (entry.takes 0 frame));
  words_taken = length (spelling (entry.takes 4 (8 * units)));
  frame_given = length (spelling (entry.adds 1 frame));
  one_taken = length (spelling (entry.takes 1 1));
  words_given = length (spelling (entry.adds 4 (8 * units)));
}

are_sizes : (frame units : ℕ) → frame ≤ 0x0400_0000 → units ≤ 504 → AreSizes (sizes_of frame units)
unfolding sizes_of
are_sizes frame units few_bytes few_words = record {
  depth_compared = (spelling-short (entry.compares 0 4096) refl).some;
  one_added = (spelling-short (entry.adds 0 1) refl).some;
  room_compared = (spelling-short (entry.compares 0 (0x5000_0000 + frame)) (fits_there (0x5000_0000 + frame) (omega arith))).some;
  frame_taken = (spelling-short (entry.takes 0 frame) (fits_there frame (omega arith))).some;
  words_taken = (spelling-short (entry.takes 4 (8 * units)) (fits_there (8 * units) (omega arith))).some;
  frame_given = (spelling-short (entry.adds 1 frame) (fits_there frame (omega arith))).some;
  one_taken = (spelling-short (entry.takes 1 1) refl).some;
  words_given = (spelling-short (entry.adds 4 (8 * units)) (fits_there (8 * units) (omega arith))).some;
}

entry_right : (frame units : ℕ) → AreRight (inner_entry (sizes_of frame units) frame units)
unfolding sizes_of low_bytes mod_of disp_bytes scale_code modrm sib over_base mem_bytes rm_bytes index_high base_high rm_high high_bits is_low rm_is_low forces_rex rex_bits rex_bytes prefix_bytes escape_bytes operand_bytes as_signed
entry_right frame units = (refl, (refl, (refl, (refl, (refl, (refl, (refl, (refl, (refl, (refl, (refl, (refl, (refl, (refl, (refl, tt)))))))))))))))

return_right : (frame units : ℕ) → AreRight (inner_return (sizes_of frame units) frame units)
unfolding sizes_of low_bytes mod_of disp_bytes scale_code modrm sib over_base mem_bytes rm_bytes index_high base_high rm_high high_bits is_low rm_is_low forces_rex rex_bits rex_bytes prefix_bytes escape_bytes operand_bytes as_signed
return_right frame units = (refl, (refl, (refl, (refl, (refl, (refl, (refl, (refl, tt))))))))

-- ---- a function

away_there : (outers a : ℕ) → outers ≤ 65536 → 0x0200_0000 ≤ a → is_in_outer outers a ≡ false
unfolding is_in_outer
away_there outers a few low = grind (arith, nat_tests)

-- five parts one behind the other
record Room (from past : ℕ) : Type 0 where
  low : 0x0100_0000 ≤ from
  high : past ≤ 0x1100_0000

rooms : (at a b c d e : ℕ) → 0x0200_0000 ≤ at → at + a + b + c + d + e ≤ 0x1100_0000
    → Room at (at + a) × Room (at + a) (at + a + b) × Room (at + a + b) (at + a + b + c) × Room (at + a + b + c) (at + a + b + c + d) × Room (at + a + b + c + d) (at + a + b + c + d + e) × (at < 2 ^ 62)
rooms at a b c d e low high =
    (record { low = omega arith; high = omega arith }, record { low = omega arith; high = omega arith }, record { low = omega arith; high = omega arith }, record { low = omega arith; high = omega arith }, record { low = omega arith; high = omega arith }, omega arith)

return_high : (at a b c d exit x : ℕ) → 0x0200_0000 ≤ at → exit ≡ at + a + b + c + d → 0x0200_0000 ≤ exit + x
return_high at a b c d exit x low is = omega arith

end_valid : (label_at entry_at : ℕ → ℕ) (at : ℕ) → AllValid label_at entry_at at end_pieces
end_valid label_at entry_at at = (refl, (refl, tt))

module _ (image : Bytes) (label_at entry_at : ℕ → ℕ) where
  -- pieces in front of other bytes
  front_stands : (ps : List Piece) (at : ℕ) (rest : List ℕ) → Room at (at + size_of_pieces ps) → AllValid label_at entry_at at ps
      → list_at (length (bytes_of_pieces label_at entry_at at ps ++ rest)) image at ≡ bytes_of_pieces label_at entry_at at ps ++ rest
      → StandAll image label_at entry_at at ps (at + size_of_pieces ps) × (list_at (length rest) image (at + size_of_pieces ps) ≡ rest)
  front_stands ps at rest room valid bytes =
      let parts = list_parts image at (bytes_of_pieces label_at entry_at at ps) rest bytes in (
        pieces_stand image label_at entry_at at ps room.low room.high valid parts.0,
        subst (λ (n : ℕ). list_at (length rest) image (at + n) ≡ rest) (length_bytes label_at entry_at at ps) parts.1,
      )

module _ (k : Linkage) (image : Bytes) (places : ℕ → Option AccessOfC) (reader : IsReader k.reads) (few_outers : k.outers ≤ 65536) (inner stub : ℕ → ℕ) (l : Linked) (f : ℕ) (fn : IsFunction k image places inner stub l f) where
  abbrev lay : Layout
  lay = fn.layout

  abbrev at : ℕ
  at = inner f

  abbrev label_at : ℕ → ℕ
  label_at = lay.label_at

  abbrev entry_at : ℕ → ℕ
  entry_at = entries_of inner stub l

  abbrev frame : ℕ
  frame = l.fun.frame

  abbrev z : Sizes
  z = sizes_of frame lay.units

  abbrev A : List Piece
  A = plain (entry.inner_entry frame lay.units)

  abbrev B : List Piece
  B = homing lay.plan l.fun.private l.parameters

  abbrev E : List Piece
  E = plain (entry.inner_return frame lay.units)

  abbrev at1 : ℕ
  at1 = homing_at l.fun l.parameters lay at

  abbrev at2 : ℕ
  at2 = steps_at l.fun l.parameters lay at

  abbrev at3 : ℕ
  at3 = end_at l.fun l.parameters lay at

  abbrev at4 : ℕ
  at4 = return_at l.fun l.parameters lay at

  room : Room at at1 × Room at1 at2 × Room at2 at3 × Room at3 at4 × Room at4 (past_function l.fun l.parameters lay at) × (at < 2 ^ 62)
  room = rooms at (size_of_pieces A) (size_of_pieces B) (size_of_steps lay.plan l.fun.steps) (size_of_pieces end_pieces) (size_of_pieces E) fn.written.low fn.written.high

  abbrev bytes_e : List ℕ
  bytes_e = bytes_of_pieces label_at entry_at at4 E

  abbrev bytes_d : List ℕ
  bytes_d = bytes_of_pieces label_at entry_at at3 end_pieces ++ bytes_e

  abbrev bytes_c : List ℕ
  bytes_c = bytes_of_steps lay.plan label_at entry_at at2 l.fun.steps ++ bytes_d

  abbrev bytes_b : List ℕ
  bytes_b = bytes_of_pieces label_at entry_at at1 B ++ bytes_c

  entry_stands : StandAll image label_at entry_at at A at1 × (list_at (length bytes_b) image at1 ≡ bytes_b)
  entry_stands = front_stands image label_at entry_at A at bytes_b room.0 (plain_valid label_at entry_at (entry.inner_entry frame lay.units) at (entry_sound frame lay.units fn.homes.few_bytes fn.homes.few_words)) fn.written.bytes

  homing_stands : StandAll image label_at entry_at at1 B at2 × (list_at (length bytes_c) image at2 ≡ bytes_c)
  homing_stands = front_stands image label_at entry_at B at1 bytes_c room.1 fn.written.homing_valid entry_stands.1

  steps_parts : (list_at (length (bytes_of_steps lay.plan label_at entry_at at2 l.fun.steps)) image at2 ≡ bytes_of_steps lay.plan label_at entry_at at2 l.fun.steps) × (list_at (length bytes_d) image at3 ≡ bytes_d)
  steps_parts =
      let parts = list_parts image at2 (bytes_of_steps lay.plan label_at entry_at at2 l.fun.steps) bytes_d homing_stands.1 in
      (parts.0, subst (λ (n : ℕ). list_at (length bytes_d) image (at2 + n) ≡ bytes_d) (length_steps lay.plan label_at entry_at at2 l.fun.steps) parts.1)

  end_stands : StandAll image label_at entry_at at3 end_pieces at4 × (list_at (length bytes_e) image at4 ≡ bytes_e)
  end_stands = front_stands image label_at entry_at end_pieces at3 bytes_e room.3 (end_valid label_at entry_at at3) steps_parts.1

  return_stands : StandAll image label_at entry_at at4 E (past_function l.fun l.parameters lay at)
  return_stands = pieces_stand image label_at entry_at at4 E room.4.low room.4.high (plain_valid label_at entry_at (entry.inner_return frame lay.units) at4 (return_sound frame lay.units fn.homes.few_bytes fn.homes.few_words)) end_stands.1

  entry_placed : IsPlaced k image at (inner_entry z frame lay.units) × (end_of at (inner_entry z frame lay.units) ≡ at1)
  entry_placed = placed_of k image reader label_at entry_at (inner_entry z frame lay.units) at at1 (entry_right frame lay.units) entry_stands.0

  return_placed : IsPlaced k image at4 (inner_return z frame lay.units)
  return_placed = (placed_of k image reader label_at entry_at (inner_return z frame lay.units) at4 (past_function l.fun l.parameters lay at) (return_right frame lay.units) return_stands).0

  pub parts : Parts k image places inner stub l f
  parts = record {
    small = room.5;
    sizes = z;
    sized = are_sizes frame lay.units fn.homes.few_bytes fn.homes.few_words;
    layout = lay;
    few_words = let few = fn.homes.few_words in omega arith;
    few_bytes = fn.homes.few_bytes;
    counts_placed = placed_front k image (counts z) (enters z frame lay.units) at entry_placed.0;
    enters_placed = placed_back k image (counts z) (enters z frame lay.units) at entry_placed.0;
    small_labels = fn.written.small_labels;
    assigned = fn.homes.assigned;
    base = at2;
    end = at3;
    laid = steps_stand image label_at entry_at lay.plan places at2 l.fun.steps room.2.low room.2.high fn.written.steps_valid fn.written.here steps_parts.0;
    tail = subst (λ (a : ℕ). StandAll image label_at entry_at at3 end_pieces a) (sym fn.written.exit) end_stands.0;
    returns_placed = subst (λ (a : ℕ). IsPlaced k image a (inner_return z frame lay.units)) (sym fn.written.exit) return_placed;
    away = away_there k.outers (label_at lay.plan.exit + 8 + z.frame_given + 8 + 8 + z.one_taken + 8 + z.words_given) few_outers
        (behind (label_at lay.plan.exit) z.frame_given z.one_taken z.words_given (return_high at (size_of_pieces A) (size_of_pieces B) (size_of_steps lay.plan l.fun.steps) (size_of_pieces end_pieces) (label_at lay.plan.exit) 0 fn.written.low fn.written.exit));
    pointer = fn.pointer;
    fine = fn.steps;
    homing_laid = subst (λ (a : ℕ). StandAll image label_at entry_at a B at2) (sym entry_placed.1) homing_stands.0;
    sorts = fn.homes.sorts;
    few_taken = fn.homes.few_taken;
    parameters_fine = fn.homes.arguments;
  }
    where
      behind : (exit a b c : ℕ) → 0x0200_0000 ≤ exit + 0 → 0x0200_0000 ≤ exit + 8 + a + 8 + 8 + b + 8 + c
      behind exit a b c low = omega arith

  -- how a call begins
  pub call_enters : (d : ℕ) (args : List Value) (w : World) (m : Moment) → AtCall k image (suc d) 64 (inner f) (k.own f) args w m
      → EntersFunction k image places inner stub l f fn m args w
  unfolding parts
  call_enters d args w m call = function_enters k image places reader inner stub l f parts d args w m call
