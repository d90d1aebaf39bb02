-- A range is quiet by the counts of calls where none stands in it.
use Rattle.std.proofs.Common.{ℕ, zero, suc, ◌+◌, ◌-◌, ◌≡◌, ◌≢◌, ◌<◌, ◌≤◌, refl, sym, ap, ◌∙◌, subst, List, [], ◌∷◌, length, Some, arith, get_or, slice_get, nat_eq, true, false, Bool, if◌then◌else◌}
use Rattle.std.proofs.lemmas.Bool.{true≢false}
use Rattle.std.proofs.lemmas.Bool.Decides.{nat_tests}
use Rattle.fat_ir.specs.declared.step.FatStep.{FatStep}
use Rattle.reg_assign.specs.declared.lives.LiveRange.{LiveRange}
use Rattle.reg_assign.specs.Noise.{is_call, counts_from, quiet_by}

pub past_end : (xs : List ℕ) (i : ℕ) → length xs ≤ i → get_or xs i 0 ≡ 0
past_end [] i le = refl
past_end (x ∷ xs) zero le = absurd (omega arith)
past_end (x ∷ xs) (suc i) le = past_end xs i (omega arith)

abbrev counted : List FatStep → ℕ → ℕ
counted steps i = get_or (counts_from 0 steps) i 0

abbrev noise : FatStep → ℕ
noise step = if is_call step then 1 else 0

counts_first : (n : ℕ) (steps : List FatStep) → get_or (counts_from n steps) 0 0 ≡ n
counts_first n [] = refl
counts_first n (x ∷ steps) = refl

one_more : (c : Bool) (n : ℕ) → (if c then n + 1 else n) ≡ n + (if c then 1 else 0)
one_more true n = refl
one_more false n = omega arith

counts_next : (n : ℕ) (steps : List FatStep) (i : ℕ) (step : FatStep) → slice_get steps i ≡ Some step → get_or (counts_from n steps) (suc i) 0 ≡ get_or (counts_from n steps) i 0 + noise step
counts_next n [] i step e = cc
counts_next n (x ∷ steps) zero step e = let same : x ≡ step = cc in
    counts_first (if is_call x then n + 1 else n) steps ∙ (one_more (is_call x) n ∙ ap (λ y. n + noise y) same)
counts_next n (x ∷ steps) (suc i) step e = counts_next (if is_call x then n + 1 else n) steps i step e

step_at : (steps : List FatStep) (i : ℕ) → i < length steps → (step : FatStep) × (slice_get steps i ≡ Some step)
step_at [] i lt = absurd (omega arith)
step_at (x ∷ steps) zero lt = (x, refl)
step_at (x ∷ steps) (suc i) lt = step_at steps i (omega arith)

next_at : (steps : List FatStep) (i : ℕ) (step : FatStep) → slice_get steps i ≡ Some step → counted steps (i + 1) ≡ counted steps i + noise step
next_at steps i step e = let a : i + 1 ≡ suc i = omega arith in ap (counted steps) a ∙ counts_next 0 steps i step e

counts_grow : (steps : List FatStep) (i d : ℕ) → i + d ≤ length steps → counted steps i ≤ counted steps (i + d)
counts_grow steps i zero le = let e : i + 0 ≡ i = omega arith in let a = ap (counted steps) e in omega arith
counts_grow steps i (suc d) le = let s = step_at steps (i + d) (omega arith) in let h = counts_grow steps i d (omega arith) in
    let n = next_at steps (i + d) s.0 s.1 in let e : (i + d) + 1 ≡ i + suc d = omega arith in let a = ap (counted steps) e in omega arith

counts_rise : (steps : List FatStep) (i j : ℕ) → i ≤ j → j ≤ length steps → counted steps i ≤ counted steps j
counts_rise steps i j le short = let e : i + (j - i) ≡ j = omega arith in let h = counts_grow steps i (j - i) (omega arith) in let a = ap (counted steps) e in omega arith

call_counts : (step : FatStep) → is_call step ≡ true → noise step ≡ 1
call_counts step e = ap (λ c. if c then 1 else 0) e

other_counts : (step : FatStep) → is_call step ≡ false → noise step ≡ 0
other_counts step e = ap (λ c. if c then 1 else 0) e

none_called : (steps : List FatStep) (r : LiveRange) → (1 ≤ length steps → r.past ≤ length steps) → quiet_by (counts_from 0 steps) r ≡ true
    → (i : ℕ) (step : FatStep) → slice_get steps i ≡ Some step → r.from ≤ i → i < r.past → is_call step ≡ true → ⊥
none_called [] r ends quiet i step e low high call = cc
none_called (x ∷ rest) r ends quiet i step e low high call = let steps = x ∷ rest in
    let short = ends (omega arith) in
    let same : counted (x ∷ rest) r.from ≡ counted (x ∷ rest) r.past = grind (arith, nat_tests) in
    let a = counts_rise (x ∷ rest) r.from i low (omega arith) in
    let b = counts_rise (x ∷ rest) (i + 1) r.past (omega arith) short in
    let n = next_at (x ∷ rest) i step e in
    let c = call_counts step call in omega arith

pub quiet_is_quiet : (steps : List FatStep) (r : LiveRange) → (1 ≤ length steps → r.past ≤ length steps) → quiet_by (counts_from 0 steps) r ≡ true
    → (i : ℕ) (step : FatStep) → slice_get steps i ≡ Some step → r.from ≤ i → i < r.past → is_call step ≡ false
quiet_is_quiet steps r ends quiet i step e low high = elim (is_call step) as (λ b. is_call step ≡ b → b ≡ false) [
  | true ↦ λ call. absurd (none_called steps r ends quiet i step e low high call)
  | false ↦ λ call. refl
] refl

-- a call in a range
pub record CallIn (steps : List FatStep) (from past : ℕ) : Type 0 where
  pub place : ℕ
  pub step : FatStep
  pub stands : slice_get steps place ≡ Some step
  pub low : from ≤ place
  pub high : place < past
  pub call : is_call step ≡ true

call_among : (steps : List FatStep) (from d : ℕ) → from + d ≤ length steps → counted steps from ≢ counted steps (from + d) → CallIn steps from (from + d)
call_among steps from zero le ne = absurd (ne (ap (counted steps) (omega arith)))
call_among steps from (suc d) le ne = let s = step_at steps (from + d) (omega arith) in
    let n = next_at steps (from + d) s.0 s.1 in let e : (from + d) + 1 ≡ from + suc d = omega arith in let a = ap (counted steps) e in
    elim (is_call s.0) as (λ b. is_call s.0 ≡ b → CallIn steps from (from + suc d)) [
      | true ↦ λ call. record { place = from + d; step = s.0; stands = s.1; low = omega arith; high = omega arith; call = call }
      | false ↦ λ call. let z = other_counts s.0 call in let c = call_among steps from d (omega arith) (λ same. ne (omega arith)) in
          record { place = c.place; step = c.step; stands = c.stands; low = c.low; high = (let h = c.high in omega arith); call = c.call }
    ] refl

abbrev lone : List ℕ
lone = 0 ∷ []

only_zero : (i : ℕ) → get_or lone i 0 ≡ 0
only_zero zero = refl
only_zero (suc i) = refl

pub noisy_has_call : (steps : List FatStep) (r : LiveRange) → (1 ≤ length steps → r.past ≤ length steps) → r.from ≤ r.past → quiet_by (counts_from 0 steps) r ≡ false → CallIn steps r.from r.past
noisy_has_call [] r ends le noisy = absurd (let a = only_zero r.from in let b = only_zero r.past in let same : get_or lone r.from 0 ≡ get_or lone r.past 0 = omega arith in
    let t : nat_eq (get_or lone r.from 0) (get_or lone r.past 0) ≡ true = grind (arith, nat_tests) in true≢false (sym t ∙ noisy))
noisy_has_call (x ∷ rest) r ends le noisy = let short = ends (omega arith) in
    let e : r.from + (r.past - r.from) ≡ r.past = omega arith in
    let ne : counted (x ∷ rest) r.from ≢ counted (x ∷ rest) r.past = λ same. (let t : nat_eq (counted (x ∷ rest) r.from) (counted (x ∷ rest) r.past) ≡ true = grind (arith, nat_tests) in true≢false (sym t ∙ noisy)) in
    subst (CallIn (x ∷ rest) r.from) e (call_among (x ∷ rest) r.from (r.past - r.from) (omega arith) (subst (λ p. counted (x ∷ rest) r.from ≢ counted (x ∷ rest) p) (sym e) ne))
