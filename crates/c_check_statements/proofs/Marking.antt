-- Marks of numbers, and the numbers in a list.
use Rattle.std.proofs.Common.{◌≡◌, refl, sym, ap, ap₂, ◌∙◌, ℕ, zero, suc, ◌+◌, ◌<◌, ◌≤◌, nat_lt, Bool, true, false, ◌||◌, List, [], ◌∷◌, length, replicate, slice_set, slice_index_or, arith}
use Rattle.std.proofs.lemmas.Bool.{eq-eqb, ne_eqb, ltb-true, ltb-false}
use Rattle.c_check_statements.specs.Frames.{is_among, marked}

or_true : (b : Bool) → (b || true) ≡ true
or_true true = refl
or_true false = refl

or_false : (b : Bool) → (b || false) ≡ b
or_false true = refl
or_false false = refl

pub marked_none : (first : ℕ) (marks : List Bool) → marked first [] marks ≡ marks
marked_none first [] = refl
marked_none first (mark ∷ more) = ap₂ (λ b l. b ∷ l) (or_false mark) (marked_none (first + 1) more)

-- a number before the first marks nothing
skipped : (first n : ℕ) (numbers : List ℕ) (marks : List Bool) → n < first → marked first (n ∷ numbers) marks ≡ marked first numbers marks
skipped first n numbers [] h = refl
skipped first n numbers (mark ∷ more) h = ap₂ (λ b l. (mark || (b || is_among first numbers)) ∷ l) (ne_eqb n first (λ e. omega (arith, h, e))) (skipped (first + 1) n numbers more (omega arith))

marked_from : (first i : ℕ) (numbers : List ℕ) (marks : List Bool) → i < length marks → marked first ((first + i) ∷ numbers) marks ≡ marked first numbers (slice_set marks i true)
marked_from first i numbers [] h = absurd (omega (arith, h))
marked_from first zero numbers (mark ∷ more) h =
    ap₂ (λ b l. (mark || (b || is_among first numbers)) ∷ l) (eq-eqb (first + 0) first (omega arith)) (skipped (first + 1) (first + 0) numbers more (omega arith)) ∙ ap (λ b. b ∷ marked (first + 1) numbers more) (or_true mark)
marked_from first (suc i) numbers (mark ∷ more) h =
    let same : first + suc i ≡ first + 1 + i = omega arith in
    ap₂ (λ b l. (mark || (b || is_among first numbers)) ∷ l) (ne_eqb (first + suc i) first (λ e. omega (arith, e)))
    (ap (λ n. marked (first + 1) (n ∷ numbers) more) same ∙ marked_from (first + 1) i numbers more (omega (arith, h)))

one_marked : (n : ℕ) (numbers : List ℕ) (marks : List Bool) → n < length marks → marked 0 (n ∷ numbers) marks ≡ marked 0 numbers (slice_set marks n true)
one_marked n numbers marks h = (let same : n ≡ 0 + n = omega arith in ap (λ k. marked 0 (k ∷ numbers) marks) same ∙ marked_from 0 n numbers marks h)

beyond : (first n : ℕ) (numbers : List ℕ) (marks : List Bool) → first + length marks ≤ n → marked first (n ∷ numbers) marks ≡ marked first numbers marks
beyond first n numbers [] h = refl
beyond first n numbers (mark ∷ more) h = ap₂ (λ b l. (mark || (b || is_among first numbers)) ∷ l) (ne_eqb n first (λ e. omega (arith, h, e))) (beyond (first + 1) n numbers more (omega (arith, h)))

set_beyond : (marks : List Bool) (n : ℕ) → length marks ≤ n → slice_set marks n true ≡ marks
set_beyond [] n h = refl
set_beyond (mark ∷ more) zero h = absurd (omega (arith, h))
set_beyond (mark ∷ more) (suc n) h = ap (λ l. mark ∷ l) (set_beyond more n (omega (arith, h)))

pub next_marked : (n : ℕ) (numbers : List ℕ) (marks : List Bool) → marked 0 (n ∷ numbers) marks ≡ marked 0 numbers (slice_set marks n true)
next_marked n numbers marks = by (nat_lt n (length marks)) refl
  where
    by : (b : Bool) → nat_lt n (length marks) ≡ b → marked 0 (n ∷ numbers) marks ≡ marked 0 numbers (slice_set marks n true)
    by true e = one_marked n numbers marks (ltb-true n (length marks) e)
    by false e = let past = ltb-false n (length marks) e in beyond 0 n numbers marks (omega (arith, past)) ∙ ap (marked 0 numbers) (sym (set_beyond marks n past))

mark_at : (first i count : ℕ) (numbers : List ℕ) → i < count → slice_index_or (marked first numbers (replicate count false)) i false ≡ is_among (first + i) numbers
mark_at first i zero numbers h = absurd (omega (arith, h))
mark_at first zero (suc count) numbers h = (let same : first ≡ first + 0 = omega arith in ap (λ n. is_among n numbers) same)
mark_at first (suc i) (suc count) numbers h = mark_at (first + 1) i count numbers (omega (arith, h)) ∙ (let same : first + 1 + i ≡ first + suc i = omega arith in ap (λ n. is_among n numbers) same)

-- a mark says whether its number is in the list
pub mark_of : (i count : ℕ) (numbers : List ℕ) → i < count → slice_index_or (marked 0 numbers (replicate count false)) i false ≡ is_among i numbers
mark_of i count numbers h = mark_at 0 i count numbers h ∙ (let same : 0 + i ≡ i = omega arith in ap (λ n. is_among n numbers) same)
