-- All that is asked of a compiled program is met by an image of one compiled function.
use Rattle.std.specs.Prelude.{nat_lt, if◌then◌else◌, slice_index_or}
use Rattle.std.specs.List.{All}
use Rattle.std.proofs.Common.{◌≡◌, ◌≢◌, ℕ, zero, suc, ◌+◌, ◌^◌, ◌<◌, ◌≤◌, ◌==◌, Bool, true, false, None, Some, List, [], ◌∷◌, inl, inr, refl, arith, ap, sym, subst}
use Rattle.std.proofs.lemmas.Bool.{cond_both}
use Rattle.std.proofs.lemmas.Bool.Decides.{nat_tests, eqb_tells}
use Rattle.std.proofs.lemmas.List.Elements.{All-nil, All-cons, All-contains}
use Rattle.std.proofs.lemmas.Option.{slice_get_within}
use Rattle.mx_base.specs.Memory.{Bytes, list_at}
use Rattle.mx_base.specs.Numbers.{as_signed}
use Rattle.mx_base.specs.StopOfC.{Exit}
use Rattle.mx_base.specs.World.{Log, world_at_start}
use Rattle.x86_forms.specs.Spelling.{low_bytes, mod_of, disp_bytes, scale_code, modrm, sib, over_base, mem_bytes, rm_bytes, index_high, base_high, rm_high, high_bits, is_low, rm_is_low, forces_rex, rex_bits, rex_bytes, prefix_bytes, escape_bytes, operand_bytes}
use Rattle.obj_file.specs.Machine.{Reading, IsReader}
use Rattle.fat_ir.specs.declared.step.FatStep.{FatStep}
use Rattle.fat_ir.specs.declared.step.FatStep.TheVariants as s
use Rattle.fat_ir.specs.Spans.{named, StandsAt, Range, Holds, Spans}
use Rattle.bounds_plan.specs.steps.Code.{fat_function}
use Rattle.bounds_plan.specs.steps.Compiled.{FitsFunction, compiled, parameters_of, taken_by}
use Rattle.bounds_plan.specs.steps.Follows.{outcome_of}
use Rattle.bounds_plan.specs.meaning.Functions.{program_run}
use Rattle.step_code.specs.Homes.{Apart, HaveHomes, IsNumberHome, IsPairHome, width}
use Rattle.step_code.specs.Functions.{IsWritten, past_function}
use Rattle.step_code.specs.declared.homes.Home.{Home}
use Rattle.step_code.specs.declared.homes.Home.TheVariants.{Slot}
use Rattle.asked_steps.specs.Homes.{HomesServe, Leaves}
use Rattle.call_gates.specs.Gates.{start_gate, start_at, landing_gate, landing_at, outer_gate}
use Rattle.legacy_calls.specs.Legacy.{Linkage}
use Rattle.legacy_calls.specs.OfC.{outside_of_c}
use Rattle.gate_laws.specs.Owed.{IsLinked, IsOuter}
use Rattle.gate_laws.specs.Placed.{IsPlaced}
use Rattle.gate_laws.proofs.Placing.{placed_by_bytes}
use Rattle.program_laws.specs.Compiled.{layout_of, HasCompiled}
use Rattle.program_laws.specs.Examples.{why_of}
use Rattle.program_laws.specs.Functions.{entries_of}
use Rattle.program_laws.specs.CompiledExample.{main_of_c, linked_of_c, program_of_c, names, code_at, word_of_value, range_of_value, homes_of_c, signature_of_c, inner_of_c, stubs_of_c, linkage_of_c, image_of_c, no_places}

abbrev steps : List FatStep
steps = (fat_function 0 main_of_c).steps

abbrev is_bounds : ℕ → Bool
is_bounds v = slice_index_or (fat_function 0 main_of_c).bounds v false

-- ---- spans

below_there : (a b : ℕ) → nat_lt a b ≡ true → a < b
below_there a b h = grind (arith, nat_tests)

above_there : (a b : ℕ) → nat_lt a b ≡ false → b ≤ a
above_there a b h = grind (arith, nat_tests)

-- each step is one of these
one_of : (P : FatStep → Type 0) → P (s.Const 1 7) → P (s.Copy 0 1) → P (s.Copy 1 0) → P (s.Give (Some 1) None) → P (s.Label 0) → (i : ℕ) (step : FatStep) → StandsAt steps i step → P step
one_of P a b c d e zero step stands = let q : s.Const 1 7 ≡ step = cc in subst P q a
one_of P a b c d e (suc zero) step stands = let q : s.Copy 0 1 ≡ step = cc in subst P q b
one_of P a b c d e (suc (suc zero)) step stands = let q : s.Copy 1 0 ≡ step = cc in subst P q c
one_of P a b c d e (suc (suc (suc zero))) step stands = let q : s.Give (Some 1) None ≡ step = cc in subst P q d
one_of P a b c d e (suc (suc (suc (suc zero)))) step stands = let q : s.Label 0 ≡ step = cc in subst P q e
one_of P a b c d e (suc (suc (suc (suc (suc i))))) step stands = absurd (cc)

abbrev Low : ℕ → Type 0
Low v = v < 2

one : (v : ℕ) → v < 2 → All Low (v ∷ [])
one v low = All-cons Low v [] low (All-nil Low)

two : (v w : ℕ) → v < 2 → w < 2 → All Low (v ∷ w ∷ [])
two v w low less = All-cons Low v (w ∷ []) low (one w less)

named_low : (i : ℕ) (step : FatStep) → StandsAt steps i step → All Low (named step)
named_low = one_of (λ step. All Low (named step)) (one 1 (omega arith)) (two 1 0 (omega arith) (omega arith)) (two 0 1 (omega arith) (omega arith)) (one 1 (omega arith)) (All-nil Low)

spans_of : (v : ℕ) → Spans (fat_function 0 main_of_c) v (range_of_value v)
spans_of v = by_test (nat_lt v 2) refl
  where
    by_test : (t : Bool) → nat_lt v 2 ≡ t → Spans (fat_function 0 main_of_c) v (if t then record { from = 0; past = 5 } else record { from = 0; past = 0 })
    by_test true e = record {
      names = λ i step stands has. (omega arith, slice_get_within steps i step stands);
      first = λ few. (omega arith, omega arith);
      whole = λ label jump back from i low high held j low2 high2. let less = slice_get_within steps jump back.step back.ends in (omega arith, omega arith);
    }
    by_test false e = record {
      names = λ i step stands has. let low = All-contains Low (named step) v (named_low i step stands) has in let high = above_there v 2 e in absurd (omega arith);
      first = λ few. let high = above_there v 2 e in absurd (omega arith);
      whole = λ label jump back from i low high held j low2 high2. let none = held.1 in absurd (omega arith);
    }

-- only the variable and the temporary are there
is_held : (v i : ℕ) → Holds (range_of_value v) i → v < 2
is_held v i h = by_test (nat_lt v 2) refl h
  where
    by_test : (t : Bool) → nat_lt v 2 ≡ t → Holds (if t then record { from = 0; past = 5 } else record { from = 0; past = 0 }) i → v < 2
    by_test true e h = below_there v 2 e
    by_test false e h = let none = h.1 in absurd (omega arith)

ends_of : (v : ℕ) → (range_of_value v).past ≤ 5
ends_of v = by_test (nat_lt v 2)
  where
    by_test : (t : Bool) → (let r : Range = if t then record { from = 0; past = 5 } else record { from = 0; past = 0 } in r).past ≤ 5
    by_test true = omega arith
    by_test false = omega arith

-- ---- homes

a_word : (v : ℕ) → (P : Home → Type 0) → (v ≡ 1 → P (Slot 1)) → P (Slot 0) → P (word_of_value v)
a_word v P h g = elim (eqb_tells v 1) [
  | inl e ↦ subst (λ (t : Bool). P (if t then Slot 1 else Slot 0)) (sym e.0) (h e.1)
  | inr e ↦ subst (λ (t : Bool). P (if t then Slot 1 else Slot 0)) (sym e.0) g
]

apart_of : (u v i : ℕ) → u ≢ v → Holds (range_of_value u) i → Holds (range_of_value v) i → Apart (is_bounds u) (word_of_value u) (is_bounds v) (word_of_value v)
apart_of u v i ne a b = two_words u v ne (is_held u i a) (is_held v i b)
  where
    two_words : (u v : ℕ) → u ≢ v → u < 2 → v < 2 → Apart (is_bounds u) (word_of_value u) (is_bounds v) (word_of_value v)
    two_words zero zero ne a b = absurd (ne refl)
    two_words zero (suc zero) ne a b = inl (omega arith)
    two_words (suc zero) zero ne a b = inr (omega arith)
    two_words (suc zero) (suc zero) ne a b = absurd (ne refl)
    two_words (suc (suc u)) v ne a b = absurd (omega arith)
    two_words zero (suc (suc v)) ne a b = absurd (omega arith)
    two_words (suc zero) (suc (suc v)) ne a b = absurd (omega arith)

have_homes : HaveHomes (fat_function 0 main_of_c) 6 homes_of_c.plan range_of_value
have_homes = record {
  spans = spans_of;
  apart = apart_of;
  number_fits = λ v e. a_word v (IsNumberHome 6) (λ at. omega arith) (omega arith);
  pair_fits = λ v e. a_word v (IsPairHome 6) (λ at. omega arith) (omega arith);
}

narrow : (b : Bool) → width b ≤ 2
narrow true = omega arith
narrow false = omega arith

-- the spare words lie behind those of values
spare_of : (k v : ℕ) → 2 ≤ k → Apart (is_bounds v) (word_of_value v) true (Slot k)
spare_of k v far = a_word v (λ h. Apart (is_bounds v) h true (Slot k)) (λ at. inl (number_there (is_bounds v) (ap is_bounds at))) (inl (let few = narrow (is_bounds v) in omega arith))
  where
    number_there : (b : Bool) → b ≡ false → 1 + width b ≤ k
    number_there true e = absurd (cc)
    number_there false e = omega arith

serves : HomesServe (fat_function 0 main_of_c) 6 homes_of_c.plan range_of_value
serves = record {
  have = have_homes;
  short = omega arith;
  ends = ends_of;
  sorts = λ v few. refl;
  at_calls = λ i step stands leaves v held. absurd (one_of (λ step. Leaves step → ⊥) (λ h. h) (λ h. h) (λ h. h) (λ h. h) (λ h. h) i step stands leaves);
  spare = omega arith;
  spare_first = λ v. spare_of 2 v (omega arith);
  spare_second = λ v. spare_of 4 v (omega arith);
}

-- ---- code

past_there : past_function (fat_function 0 main_of_c) [] (layout_of homes_of_c) code_at ≤ 0x1100_0000
unfolding low_bytes mod_of disp_bytes scale_code modrm sib over_base mem_bytes rm_bytes index_high base_high rm_high high_bits is_low rm_is_low forces_rex rex_bits rex_bytes prefix_bytes escape_bytes operand_bytes as_signed
past_there = omega arith

small_there : (n : ℕ) → homes_of_c.label_at n < 2 ^ 62
small_there n = cond_both (n == 1) 0x0200_009A 0x0200_008A (λ (a : ℕ). a < 2 ^ 62) (λ _. omega arith) (λ _. omega arith)

written : IsWritten (fat_function 0 main_of_c) [] (layout_of homes_of_c) image_of_c no_places (entries_of inner_of_c stubs_of_c (compiled 0 linked_of_c)) code_at
unfolding list_at low_bytes mod_of disp_bytes scale_code modrm sib over_base mem_bytes rm_bytes index_high base_high rm_high high_bits is_low rm_is_low forces_rex rex_bits rex_bytes prefix_bytes escape_bytes operand_bytes as_signed
written = record {
  low = omega arith;
  high = past_there;
  bytes = refl;
  homing_valid = (refl, (refl, tt));
  steps_valid = ((refl, (refl, tt)), ((refl, (refl, tt)), ((refl, (refl, tt)), ((refl, (refl, tt)), (tt, tt)))));
  here = (tt, (tt, (tt, (tt, (refl, tt)))));
  exit = refl;
  small_labels = small_there;
}

fits_main : (count : ℕ → ℕ) → FitsFunction count main_of_c
fits_main count = record { parameters = tt; body = (((omega arith, refl), tt), (omega arith, refl)) }

module _ (reads : List ℕ → Reading) (reader : IsReader reads) (preserve : Bool) where
  abbrev k : Linkage
  k = linkage_of_c reads preserve

  pub has_compiled : HasCompiled k image_of_c no_places inner_of_c stubs_of_c (λ g. 0) program_of_c names
  has_compiled = record {
    reader = reader;
    few = omega arith;
    fits = λ f. fits_main (λ symbol. taken_by (parameters_of program_of_c) (λ g. 0) ((program_of_c f).targets symbol));
    signatures = λ f. refl;
    few_pairs = λ f. omega arith;
    each = λ f few. record {
      homes = homes_of_c;
      written = written;
      serve = serves;
      few_words = omega arith;
      few_bytes = omega arith;
      arguments = tt;
      pointer = λ e. absurd (cc);
      located = λ symbol. refl;
      within = record { parameters = tt; body = (omega arith, (refl, tt)) };
    };
    placed = λ a h. refl;
  }

  start_there : IsPlaced k image_of_c start_at (start_gate code_at)
  unfolding list_at low_bytes mod_of disp_bytes scale_code modrm sib over_base mem_bytes rm_bytes index_high base_high rm_high high_bits is_low rm_is_low forces_rex rex_bits rex_bytes prefix_bytes escape_bytes operand_bytes as_signed
  start_there = placed_by_bytes k reader image_of_c (start_gate code_at) start_at refl (omega arith) (omega arith) refl

  landing_there : IsPlaced k image_of_c landing_at landing_gate
  unfolding list_at low_bytes mod_of disp_bytes scale_code modrm sib over_base mem_bytes rm_bytes index_high base_high rm_high high_bits is_low rm_is_low forces_rex rex_bits rex_bytes prefix_bytes escape_bytes operand_bytes as_signed
  landing_there = placed_by_bytes k reader image_of_c landing_gate landing_at refl (omega arith) (omega arith) refl

  outer_there : IsPlaced k image_of_c 0x0101_0000 (outer_gate signature_of_c code_at 0x0101_0000)
  unfolding list_at low_bytes mod_of disp_bytes scale_code modrm sib over_base mem_bytes rm_bytes index_high base_high rm_high high_bits is_low rm_is_low forces_rex rex_bits rex_bytes prefix_bytes escape_bytes operand_bytes as_signed
  outer_there = placed_by_bytes k reader image_of_c (outer_gate signature_of_c code_at 0x0101_0000) 0x0101_0000 refl (omega arith) (omega arith) refl

  outers : (f : ℕ) → f < 1 → IsOuter k image_of_c f code_at
  outers zero few = record { few = omega arith; few_pointers = omega arith; near = omega arith; placed = outer_there }
  outers (suc f) few = absurd (omega arith)

  pub compiled_linked : IsLinked k image_of_c inner_of_c stubs_of_c
  compiled_linked = record { few_outers = omega arith; landing = landing_there; stubs = λ g few. absurd (omega arith); outers = outers }

  -- it exits with 7 where two turns are left, for a call and a return
  pub compiled_means : (bytes : Bytes) (input : List ℕ) (log : Log) → why_of (outcome_of (program_run program_of_c (outside_of_c k) 0 (world_at_start bytes input 2) log)) ≡ Some (Exit 7)
  compiled_means bytes input log = refl
