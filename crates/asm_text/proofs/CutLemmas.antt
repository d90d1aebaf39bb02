-- The first part of a text that is cut at a byte.
use Rattle.std.proofs.Common.{◌≡◌, ℕ, suc, ◌+◌, ◌-◌, ◌≤◌, Bool, true, false, List, [], ◌∷◌, length, take, drop, ap, sym, ◌∙◌, refl, cond, not, arith}
use Rattle.std.specs.List.{slice_split, onto_first, position_or_len}

abbrev pub others : (ℕ → Bool) → List ℕ → List (List ℕ)
others p [] = []
others p (x ∷ more) = slice_split p more

pub cut_first : (p : ℕ → Bool) (text : List ℕ) → slice_split p text ≡ take (position_or_len p text) text ∷ others p (drop (position_or_len p text) text)
cut_first p [] = refl
cut_first p (x ∷ xs) = at_first (cut_first p xs) (p x)
  where
    at_first : slice_split p xs ≡ take (position_or_len p xs) xs ∷ others p (drop (position_or_len p xs) xs) → (b : Bool)
        → cond b ([] ∷ slice_split p xs) (onto_first x (slice_split p xs)) ≡ take (cond (not b) (1 + position_or_len p xs) 0) (x ∷ xs) ∷ others p (drop (cond (not b) (1 + position_or_len p xs) 0) (x ∷ xs))
    at_first more true = refl
    at_first more false =
        let e : suc (position_or_len p xs) ≡ 1 + position_or_len p xs = omega arith in
        ap (onto_first x) more ∙ ap (λ k. take k (x ∷ xs) ∷ others p (drop k (x ∷ xs))) e

take_all : (xs : List ℕ) → take (length xs) xs ≡ xs
take_all [] = refl
take_all (x ∷ xs) = ap (λ l. x ∷ l) (take_all xs)

others_is : (p : ℕ → Bool) (rest : List ℕ) → 1 ≤ length rest → others p rest ≡ slice_split p (take (length rest - 1) (drop 1 rest))
others_is p [] some = absurd (omega arith)
others_is p (x ∷ more) some =
    let e : length more ≡ suc (length more) - 1 = omega arith in
    ap (slice_split p) (sym (take_all more) ∙ ap (λ k. take k more) e)

-- more is behind the first part
pub cut_more : (p : ℕ → Bool) (text part rest : List ℕ) (n : ℕ) → n ≡ position_or_len p text → part ≡ take n text → rest ≡ drop n text → 1 ≤ length rest
    → slice_split p text ≡ part ∷ slice_split p (take (length rest - 1) (drop 1 rest))
cut_more p text part rest n at front back some =
    cut_first p text ∙ (ap (λ k. take k text ∷ others p (drop k text)) (sym at) ∙ (ap (λ l. l ∷ others p (drop n text)) (sym front) ∙ (ap (λ l. part ∷ others p l) (sym back) ∙ ap (λ l. part ∷ l) (others_is p rest some))))
