-- All that is asked is met by a whole image of two C functions, one of which takes a pointer.
use Rattle.std.specs.Prelude.{nat_lt, nat_eq, if◌then◌else◌, slice_index_or}
use Rattle.std.proofs.Common.{◌≡◌, ◌≢◌, ℕ, zero, suc, ◌+◌, ◌<◌, ◌≤◌, ◌==◌, Bool, true, false, Option, None, Some, List, [], ◌∷◌, ◌++◌, inl, inr, refl, arith, ap, ◌∙◌}
use Rattle.std.proofs.lemmas.Bool.Decides.{nat_tests}
use Rattle.mx_base.specs.BoundsStore.{empty_store}
use Rattle.mx_base.specs.Guests.{InputFits}
use Rattle.mx_base.specs.Access.{refusal}
use Rattle.mx_base.specs.Bounds.{leaving_value, moved, bounds_at, last_byte}
use Rattle.mx_base.specs.Memory.{Bytes, list_at, number_at, with_number, first_refused, first_refused_around}
use Rattle.mx_base.specs.Numbers.{as_signed, extended, word_of, residue, value_of, number_of}
use Rattle.mx_base.specs.Regions.{is_sealed, is_open_to_write, is_open_to_read}
use Rattle.mx_base.specs.StopOfC.{AccessOfC, Exit}
use Rattle.mx_base.specs.World.{world_at_start}
use Rattle.x86_forms.specs.Spelling.{low_bytes, mod_of, disp_bytes, scale_code, modrm, sib, over_base, mem_bytes, rm_bytes, index_high, base_high, rm_high, high_bits, is_low, rm_is_low, forces_rex, rex_bits, rex_bytes, prefix_bytes, escape_bytes, operand_bytes}
use Rattle.x86_forms.specs.Watch.{is_legacy}
use Rattle.obj_file.specs.Machine.{Reading, IsReader}
use Rattle.obj_file.specs.Stored.{Stored}
use Rattle.fat_ir.specs.declared.step.FatStep.{FatStep}
use Rattle.fat_ir.specs.declared.step.FatStep.TheVariants.{Label}
use Rattle.fat_ir.specs.Functions.{program_run}
use Rattle.step_code.specs.Steps.{arg_reg}
use Rattle.step_code.specs.Homes.{Assigned, Apart, IsNumberHome, IsPairHome, IsSlot}
use Rattle.step_code.specs.Functions.{IsWritten, HomesFit, past_function}
use Rattle.call_gates.specs.Gates.{start_gate, start_at, landing_gate, landing_at, outer_gate, stub_gate}
use Rattle.legacy_calls.specs.Legacy.{Linkage, outside}
use Rattle.gate_laws.specs.Crossings.{ProgramEnds}
use Rattle.gate_laws.specs.Moments.{moment_at_start}
use Rattle.gate_laws.specs.Owed.{IsLinked, IsOuter}
use Rattle.gate_laws.specs.Placed.{HasCode, IsPlaced}
use Rattle.gate_laws.proofs.Placing.{placed_by_bytes}
use Rattle.program_laws.specs.Functions.{IsFunction, HasFunctions, entries_of}
use Rattle.program_laws.specs.Examples.{main_steps, f_steps, linked_main, linked_f, program, is_bounds, homes_of_main, homes_of_f, first_of, last_of, main_at, f_at, stub_at, plan_of, layout_of_main, layout_of_f, signature_of_main, signature_of_f, inner_at, stubs_at, linkage, image, places, why_of}
use Rattle.program_laws.proofs.Whole.{program_does}

-- ---- homes

is_few : (x i : ℕ) → first_of x ≤ i → i ≤ last_of x → x < 4
is_few x i from to = by_test (nat_lt x 4) refl from to
  where
    by_test : (t : Bool) → nat_lt x 4 ≡ t → (if t then 0 else 1) ≤ i → i ≤ (if t then 5 else 0) → x < 4
    by_test true e from to = grind (arith, nat_tests)
    by_test false e from to = absurd (omega arith)

numbers_of_main : (x : ℕ) → is_bounds x ≡ false → IsNumberHome 5 (homes_of_main x)
numbers_of_main zero e = (let h : 0 < 5 = omega arith in h)
numbers_of_main (suc zero) e = (let h : 1 < 5 = omega arith in h)
numbers_of_main (suc (suc zero)) e = absurd (cc)
numbers_of_main (suc (suc (suc n))) e = (let h : 4 < 5 = omega arith in h)

pairs_of_main : (x : ℕ) → is_bounds x ≡ true → IsPairHome 5 (homes_of_main x)
pairs_of_main zero e = absurd (cc)
pairs_of_main (suc zero) e = absurd (cc)
pairs_of_main (suc (suc zero)) e = (let h : 2 + 1 < 5 = omega arith in h)
pairs_of_main (suc (suc (suc n))) e = absurd (cc)

numbers_of_f : (x : ℕ) → is_bounds x ≡ false → IsNumberHome 1 (homes_of_f x)
numbers_of_f zero e = record { free = record { rbx = refl; rsp = refl; rbp = refl; r12 = refl; r13 = refl; r14 = refl; r15 = refl }; rax = refl; rcx = refl; rdx = refl }
numbers_of_f (suc zero) e = record { free = record { rbx = refl; rsp = refl; rbp = refl; r12 = refl; r13 = refl; r14 = refl; r15 = refl }; rax = refl; rcx = refl; rdx = refl }
numbers_of_f (suc (suc zero)) e = absurd (cc)
numbers_of_f (suc (suc (suc n))) e = (let h : 0 < 1 = omega arith in h)

pairs_of_f : (x : ℕ) → is_bounds x ≡ true → IsPairHome 1 (homes_of_f x)
pairs_of_f zero e = absurd (cc)
pairs_of_f (suc zero) e = absurd (cc)
pairs_of_f (suc (suc zero)) e = record { bnd0 = refl; bnd1 = refl }
pairs_of_f (suc (suc (suc n))) e = absurd (cc)

main_apart : (x y : ℕ) → x ≢ y → x < 4 → y < 4 → Apart (is_bounds x) (homes_of_main x) (is_bounds y) (homes_of_main y)
main_apart zero zero ne a b = absurd (ne refl)
main_apart zero (suc zero) ne a b = inl (omega arith)
main_apart zero (suc (suc zero)) ne a b = inl (omega arith)
main_apart zero (suc (suc (suc n))) ne a b = inl (omega arith)
main_apart (suc zero) zero ne a b = inr (omega arith)
main_apart (suc zero) (suc zero) ne a b = absurd (ne refl)
main_apart (suc zero) (suc (suc zero)) ne a b = inl (omega arith)
main_apart (suc zero) (suc (suc (suc n))) ne a b = inl (omega arith)
main_apart (suc (suc zero)) zero ne a b = inr (omega arith)
main_apart (suc (suc zero)) (suc zero) ne a b = inr (omega arith)
main_apart (suc (suc zero)) (suc (suc zero)) ne a b = absurd (ne refl)
main_apart (suc (suc zero)) (suc (suc (suc n))) ne a b = inl (omega arith)
main_apart (suc (suc (suc m))) zero ne a b = inr (omega arith)
main_apart (suc (suc (suc m))) (suc zero) ne a b = inr (omega arith)
main_apart (suc (suc (suc m))) (suc (suc zero)) ne a b = inr (omega arith)
main_apart (suc (suc (suc m))) (suc (suc (suc n))) ne a b = absurd (ne (omega arith))

f_apart : (x y : ℕ) → x ≢ y → x < 4 → y < 4 → Apart (is_bounds x) (homes_of_f x) (is_bounds y) (homes_of_f y)
f_apart zero zero ne a b = absurd (ne refl)
f_apart zero (suc zero) ne a b = λ e. absurd (omega arith)
f_apart zero (suc (suc zero)) ne a b = tt
f_apart zero (suc (suc (suc n))) ne a b = tt
f_apart (suc zero) zero ne a b = λ e. absurd (omega arith)
f_apart (suc zero) (suc zero) ne a b = absurd (ne refl)
f_apart (suc zero) (suc (suc zero)) ne a b = tt
f_apart (suc zero) (suc (suc (suc n))) ne a b = tt
f_apart (suc (suc zero)) zero ne a b = tt
f_apart (suc (suc zero)) (suc zero) ne a b = tt
f_apart (suc (suc zero)) (suc (suc zero)) ne a b = absurd (ne refl)
f_apart (suc (suc zero)) (suc (suc (suc n))) ne a b = tt
f_apart (suc (suc (suc m))) zero ne a b = tt
f_apart (suc (suc (suc m))) (suc zero) ne a b = tt
f_apart (suc (suc (suc m))) (suc (suc zero)) ne a b = tt
f_apart (suc (suc (suc m))) (suc (suc (suc n))) ne a b = absurd (ne (omega arith))

no_label_in_main : (n : ℕ) (a rest : List FatStep) → main_steps.steps ≡ a ++ Label n ∷ rest → ⊥
no_label_in_main n [] rest e = absurd (cc)
no_label_in_main n (s ∷ []) rest e = absurd (cc)
no_label_in_main n (s ∷ t ∷ []) rest e = absurd (cc)
no_label_in_main n (s ∷ t ∷ u ∷ []) rest e = absurd (cc)
no_label_in_main n (s ∷ t ∷ u ∷ v ∷ []) rest e = absurd (cc)
no_label_in_main n (s ∷ t ∷ u ∷ v ∷ w ∷ []) rest e = absurd (cc)
no_label_in_main n (s ∷ t ∷ u ∷ v ∷ w ∷ x ∷ []) rest e = absurd (cc)
no_label_in_main n (s ∷ t ∷ u ∷ v ∷ w ∷ x ∷ y ∷ a) rest e = absurd (cc)

no_label_in_f : (n : ℕ) (a rest : List FatStep) → f_steps.steps ≡ a ++ Label n ∷ rest → ⊥
no_label_in_f n [] rest e = absurd (cc)
no_label_in_f n (s ∷ []) rest e = absurd (cc)
no_label_in_f n (s ∷ t ∷ []) rest e = absurd (cc)
no_label_in_f n (s ∷ t ∷ u ∷ []) rest e = absurd (cc)
no_label_in_f n (s ∷ t ∷ u ∷ v ∷ a) rest e = absurd (cc)

main_assigned : Assigned 5 0 main_steps.steps (plan_of homes_of_main) first_of last_of
main_assigned = record {
  private_first = λ x few. absurd (omega arith);
  apart = λ x y i ne a b c d. main_apart x y ne (is_few x i a b) (is_few y i c d);
  round = λ x n a rest pre more step e f jumps le from to. absurd (no_label_in_main n a rest e);
  number_fits = numbers_of_main;
  pair_fits = pairs_of_main;
}

begins : (x : ℕ) → x < 3 → first_of x ≡ 0
begins zero few = refl
begins (suc zero) few = refl
begins (suc (suc zero)) few = refl
begins (suc (suc (suc n))) few = absurd (omega arith)

f_assigned : Assigned 1 3 f_steps.steps (plan_of homes_of_f) first_of last_of
f_assigned = record {
  private_first = begins;
  apart = λ x y i ne a b c d. f_apart x y ne (is_few x i a b) (is_few y i c d);
  round = λ x n a rest pre more step e f jumps le from to. absurd (no_label_in_f n a rest e);
  number_fits = numbers_of_f;
  pair_fits = pairs_of_f;
}

main_homes : HomesFit main_steps [] layout_of_main []
main_homes = record { few_words = omega arith; few_bytes = omega arith; assigned = main_assigned; sorts = λ x few. absurd (omega arith); few_taken = omega arith; arguments = tt }

sorts_of_f : (x : ℕ) → x < 3 → slice_index_or f_steps.bounds x false ≡ is_bounds x
sorts_of_f zero few = refl
sorts_of_f (suc zero) few = refl
sorts_of_f (suc (suc zero)) few = refl
sorts_of_f (suc (suc (suc n))) few = absurd (omega arith)

not_rsi : (j : ℕ) → j < 1 → nat_eq (arg_reg j) 6 ≡ false
not_rsi zero less = refl
not_rsi (suc n) less = absurd (omega arith)

f_homes : HomesFit f_steps linked_f.parameters layout_of_f signature_of_f.parameters
f_homes = record {
  few_words = omega arith;
  few_bytes = omega arith;
  assigned = f_assigned;
  sorts = sorts_of_f;
  few_taken = omega arith;
  arguments = ((omega arith, refl, λ j less. absurd (omega arith)), (((omega arith, refl, not_rsi), (omega arith, refl, λ t less. absurd (omega arith))), tt));
}

-- ---- code

main_past : past_function main_steps [] layout_of_main main_at ≤ 0x1100_0000
unfolding low_bytes mod_of disp_bytes scale_code modrm sib over_base mem_bytes rm_bytes index_high base_high rm_high high_bits is_low rm_is_low forces_rex rex_bits rex_bytes prefix_bytes escape_bytes operand_bytes as_signed
main_past = omega arith

main_written : IsWritten main_steps [] layout_of_main image places (entries_of inner_at stubs_at linked_main) main_at
unfolding list_at low_bytes mod_of disp_bytes scale_code modrm sib over_base mem_bytes rm_bytes index_high base_high rm_high high_bits is_low rm_is_low forces_rex rex_bits rex_bytes prefix_bytes escape_bytes operand_bytes as_signed
main_written = record {
  low = omega arith;
  high = main_past;
  bytes = refl;
  homing_valid = (refl, tt);
  steps_valid = ((refl, (refl, (refl, (refl, (refl, tt))))), ((refl, (refl, tt)), ((refl, (refl, (refl, (refl, tt)))), ((refl, (refl, (refl, tt))), ((refl, (refl, (refl, (refl, (refl, tt))))), ((refl, (refl, tt)), tt))))));
  here = (tt, (tt, ((refl, refl), (tt, (tt, (tt, tt))))));
  exit = refl;
  small_labels = λ n. omega arith;
}

f_past : past_function f_steps linked_f.parameters layout_of_f f_at ≤ 0x1100_0000
unfolding low_bytes mod_of disp_bytes scale_code modrm sib over_base mem_bytes rm_bytes index_high base_high rm_high high_bits is_low rm_is_low forces_rex rex_bits rex_bytes prefix_bytes escape_bytes operand_bytes as_signed
f_past = omega arith

f_written : IsWritten f_steps linked_f.parameters layout_of_f image places (entries_of inner_at stubs_at linked_f) f_at
unfolding list_at low_bytes mod_of disp_bytes scale_code modrm sib over_base mem_bytes rm_bytes index_high base_high rm_high high_bits is_low rm_is_low forces_rex rex_bits rex_bytes prefix_bytes escape_bytes operand_bytes as_signed
f_written = record {
  low = omega arith;
  high = f_past;
  bytes = refl;
  homing_valid = (refl, (refl, (refl, (refl, tt))));
  steps_valid = ((refl, (refl, (refl, (refl, tt)))), ((refl, (refl, (refl, tt))), ((refl, (refl, tt)), tt)));
  here = ((refl, refl), (tt, (tt, tt)));
  exit = refl;
  small_labels = λ n. omega arith;
}

-- no check stands in legacy code
no_place : (a : ℕ) → is_legacy a ≡ true → places a ≡ None
unfolding low_bytes mod_of disp_bytes scale_code modrm sib over_base mem_bytes rm_bytes index_high base_high rm_high high_bits is_low rm_is_low forces_rex rex_bits rex_bytes prefix_bytes escape_bytes operand_bytes as_signed
no_place a h = other 0x0200_008D _ _ (omega arith) (omega arith) (other 0x0200_0091 _ _ (omega arith) (omega arith) (other 0x0200_106E _ _ (omega arith) (omega arith) (other 0x0200_1072 _ _ (omega arith) (omega arith) refl)))
  where
    other : (b : ℕ) (x : AccessOfC) (rest : Option AccessOfC) → 0x0100_0000 ≤ b → b < 0x1100_0000 → rest ≡ None → (if a == b then Some x else rest) ≡ None
    other b x rest low high e = let ne : (a == b) ≡ false = grind (arith, nat_tests, h) in ap (λ t. if t then Some x else rest) ne ∙ e

module _ (reads : List ℕ → Reading) (preserve : Bool) where
  abbrev k : Linkage
  k = linkage reads preserve

  calls_are_slots : (x : ℕ) → IsSlot (homes_of_main x)
  calls_are_slots zero = tt
  calls_are_slots (suc zero) = tt
  calls_are_slots (suc (suc zero)) = tt
  calls_are_slots (suc (suc (suc n))) = tt

  main_is : IsFunction k image places inner_at stubs_at linked_main 0
  main_is = record {
    layout = layout_of_main;
    written = main_written;
    homes = main_homes;
    pointer = λ e. absurd (cc);
    steps = (
      ((omega arith, omega arith), (omega arith, omega arith), refl, refl, omega arith, omega arith, (refl, omega arith)),
      (
        ((omega arith, omega arith), refl, omega arith),
        (
          ((omega arith, omega arith), (omega arith, omega arith), omega arith, omega arith),
          (
            ((omega arith, omega arith), (omega arith, omega arith)),
            (
              (((omega arith, omega arith), ((omega arith, omega arith), (omega arith, omega arith), tt)), omega arith, ((omega arith, omega arith), refl), tt, (λ s. absurd s), (λ x there. calls_are_slots x), refl),
              (((omega arith, omega arith), refl), tt),
            ),
          ),
        ),
      ),
    );
  }

  f_is : IsFunction k image places inner_at stubs_at linked_f 1
  f_is = record {
    layout = layout_of_f;
    written = f_written;
    homes = f_homes;
    pointer = λ e. absurd (cc);
    steps = (
      ((omega arith, omega arith), (omega arith, omega arith), omega arith, omega arith),
      (
        ((omega arith, omega arith), (omega arith, omega arith), refl),
        (((omega arith, omega arith), refl), tt),
      ),
    );
  }

  are_functions : (f : ℕ) → f < 2 → IsFunction k image places inner_at stubs_at (program f) f
  are_functions zero few = main_is
  are_functions (suc zero) few = f_is
  are_functions (suc (suc n)) few = absurd (omega arith)

  -- its meaning: it exits with 7 where four turns are left, for two calls and two returns
  pub example_means : (bytes : Bytes) (input : List ℕ) → why_of (program_run program (outside k) 0 (world_at_start bytes input 4)) ≡ Some (Exit 7)
  unfolding leaving_value moved bounds_at last_byte refusal first_refused_around first_refused is_sealed is_open_to_write is_open_to_read extended word_of residue value_of number_of as_signed number_at with_number
  example_means bytes input = refl

module _ (reads : List ℕ → Reading) (reader : IsReader reads) (preserve : Bool) where
  abbrev j : Linkage
  j = linkage reads preserve

  pub has_functions : HasFunctions j image places inner_at stubs_at program
  has_functions = record { reader = reader; few = omega arith; each = are_functions reads preserve; placed = no_place }

  start_there : IsPlaced j image start_at (start_gate main_at)
  unfolding list_at low_bytes mod_of disp_bytes scale_code modrm sib over_base mem_bytes rm_bytes index_high base_high rm_high high_bits is_low rm_is_low forces_rex rex_bits rex_bytes prefix_bytes escape_bytes operand_bytes as_signed
  start_there = placed_by_bytes j reader image (start_gate main_at) start_at refl (omega arith) (omega arith) refl

  landing_there : IsPlaced j image landing_at landing_gate
  unfolding list_at low_bytes mod_of disp_bytes scale_code modrm sib over_base mem_bytes rm_bytes index_high base_high rm_high high_bits is_low rm_is_low forces_rex rex_bits rex_bytes prefix_bytes escape_bytes operand_bytes as_signed
  landing_there = placed_by_bytes j reader image landing_gate landing_at refl (omega arith) (omega arith) refl

  main_outer : IsPlaced j image 0x0101_0000 (outer_gate signature_of_main main_at 0x0101_0000)
  unfolding list_at low_bytes mod_of disp_bytes scale_code modrm sib over_base mem_bytes rm_bytes index_high base_high rm_high high_bits is_low rm_is_low forces_rex rex_bits rex_bytes prefix_bytes escape_bytes operand_bytes as_signed
  main_outer = placed_by_bytes j reader image (outer_gate signature_of_main main_at 0x0101_0000) 0x0101_0000 refl (omega arith) (omega arith) refl

  f_outer : IsPlaced j image 0x0101_0080 (outer_gate signature_of_f f_at 0x0101_0080)
  unfolding list_at low_bytes mod_of disp_bytes scale_code modrm sib over_base mem_bytes rm_bytes index_high base_high rm_high high_bits is_low rm_is_low forces_rex rex_bits rex_bytes prefix_bytes escape_bytes operand_bytes as_signed
  f_outer = placed_by_bytes j reader image (outer_gate signature_of_f f_at 0x0101_0080) 0x0101_0080 refl (omega arith) (omega arith) refl

  stub_there : IsPlaced j image stub_at (stub_gate signature_of_f 0x1200_0000 stub_at)
  unfolding list_at low_bytes mod_of disp_bytes scale_code modrm sib over_base mem_bytes rm_bytes index_high base_high rm_high high_bits is_low rm_is_low forces_rex rex_bits rex_bytes prefix_bytes escape_bytes operand_bytes as_signed
  stub_there = placed_by_bytes j reader image (stub_gate signature_of_f 0x1200_0000 stub_at) stub_at refl (omega arith) (omega arith) refl

  outers : (f : ℕ) → f < 2 → IsOuter j image f (inner_at f)
  outers zero few = record { few = omega arith; few_pointers = omega arith; near = omega arith; placed = main_outer }
  outers (suc zero) few = record { few = omega arith; few_pointers = omega arith; near = omega arith; placed = f_outer }
  outers (suc (suc n)) few = absurd (omega arith)

  pub is_linked : IsLinked j image inner_at stubs_at
  is_linked = record {
    few_outers = omega arith;
    landing = landing_there;
    stubs = λ g few. record { low = omega arith; high = omega arith; target_low = omega arith; target_high = omega arith; few = omega arith; few_pointers = omega arith; placed = stub_there };
    outers = outers;
  }

  -- so it ends as its steps do, over any memory that it is loaded in
  pub example_ends : (y : Stored) → HasCode image y → y.bounds ≡ empty_store → (input : List ℕ) → InputFits input → (turns : ℕ)
      → ProgramEnds j image places (moment_at_start j y input turns) (program_run program (outside j) 0 (world_at_start y.bytes input turns))
  example_ends y code empty input fits turns = program_does j image places program inner_at stubs_at has_functions is_linked
      0 y.bytes y record { few = omega arith; is_main = refl; start = start_there; code = code; unsealed = λ a free. refl; empty = empty } input fits turns
