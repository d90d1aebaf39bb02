-- One element more of a list whose elements are numbered.
use Rattle.std.proofs.Common.{◌≡◌, sym, ap, ◌∙◌, ℕ, zero, suc, ◌+◌, ◌<◌, List, [], ◌∷◌, ◌++◌, length, take, get_or, append_assoc, append-nil, add-zero, add-one, arith}
use Rattle.obj_linker.specs.Symbols.{numbered}

by_suc : {X A : Type 0} (f : ℕ → X → List A) (n : ℕ) (xs : List X) (k : ℕ) (d : X) → k < length xs → numbered f n (take (suc k) xs) ≡ numbered f n (take k xs) ++ f (n + k) (get_or xs k d)
by_suc f n [] k d h = absurd (let no : ⊥ = omega (arith, h) in no)
by_suc f n (x ∷ xs) zero d h = append-nil (f n x) ∙ ap (λ m. f m x) (sym (add-zero n))
by_suc f n (x ∷ xs) (suc k) d h =
    ap (λ l. f n x ++ l) (by_suc f (n + 1) xs k d (let less : k < length xs = omega (arith, h) in less))
    ∙ (sym (append_assoc (f n x) (numbered f (n + 1) (take k xs)) (f (n + 1 + k) (get_or xs k d)))
    ∙ ap (λ m. (f n x ++ numbered f (n + 1) (take k xs)) ++ f m (get_or xs k d)) (let e : n + 1 + k ≡ n + suc k = omega arith in e))

-- with the k-th element behind those before it
pub numbered_taken : {X A : Type 0} (f : ℕ → X → List A) (xs : List X) (k : ℕ) (d : X) → k < length xs → numbered f 0 (take (k + 1) xs) ≡ numbered f 0 (take k xs) ++ f k (get_or xs k d)
numbered_taken f xs k d h = ap (λ m. numbered f 0 (take m xs)) (add-one k) ∙ (by_suc f 0 xs k d h ∙ ap (λ m. numbered f 0 (take k xs) ++ f m (get_or xs k d)) (let e : 0 + k ≡ k = omega arith in e))

-- the same behind what was there
pub grown : {X A : Type 0} (f : ℕ → X → List A) (xs : List X) (k : ℕ) (d : X) (before now : List A) → k < length xs → now ≡ before ++ numbered f 0 (take k xs)
    → now ++ f k (get_or xs k d) ≡ before ++ numbered f 0 (take (k + 1) xs)
grown f xs k d before now h is = ap (λ l. l ++ f k (get_or xs k d)) is ∙ (append_assoc before (numbered f 0 (take k xs)) (f k (get_or xs k d)) ∙ sym (ap (λ l. before ++ l) (numbered_taken f xs k d h)))
