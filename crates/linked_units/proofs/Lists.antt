-- What all elements keep, and bytes of a list in memory.
use Rattle.std.proofs.Common.{◌≡◌, refl, sym, subst, ℕ, zero, suc, ◌+◌, ◌≤◌, List, [], ◌∷◌, ◌++◌, length, map, Some, slice_get, slice_set, arith, add-zero}
use Rattle.std.specs.Prelude.{slice_index_or}
use Rattle.std.specs.List.{AllByRecursion}
use Rattle.mx_base.specs.Memory.{Bytes, list_at}
use Rattle.obj_linker.specs.Symbols.{numbered}

pub both_front : {X : Type 0} (P : X → Type 0) (xs ys : List X) → AllByRecursion P (xs ++ ys) → AllByRecursion P xs
both_front P [] ys all = tt
both_front P (x ∷ xs) ys all = (all.0, both_front P xs ys all.1)

pub both_back : {X : Type 0} (P : X → Type 0) (xs ys : List X) → AllByRecursion P (xs ++ ys) → AllByRecursion P ys
both_back P [] ys all = all
both_back P (x ∷ xs) ys all = both_back P xs ys all.1

pub all_then : {X : Type 0} (P Q : X → Type 0) (xs : List X) → ((x : X) → P x → Q x) → AllByRecursion P xs → AllByRecursion Q xs
all_then P Q [] leads all = tt
all_then P Q (x ∷ xs) leads all = (leads x all.0, all_then P Q xs leads all.1)

pub all_mapped : {X Y : Type 0} (P : Y → Type 0) (f : X → Y) (xs : List X) → AllByRecursion P (map f xs) → AllByRecursion (λ x. P (f x)) xs
all_mapped P f [] all = tt
all_mapped P f (x ∷ xs) all = (all.0, all_mapped P f xs all.1)

-- what the k-th element gives
of_numbered : {X A : Type 0} (P : A → Type 0) (f : ℕ → X → List A) (n : ℕ) (xs : List X) → AllByRecursion P (numbered f n xs) → (k : ℕ) (x : X) → slice_get xs k ≡ Some x
    → AllByRecursion P (f (n + k) x)
of_numbered P f n [] all k x h = cc
of_numbered P f n (y ∷ xs) all zero x h =
    let same : y ≡ x = cc in
    subst (λ m. AllByRecursion P (f m x)) (sym (add-zero n)) (subst (λ z. AllByRecursion P (f n z)) same (both_front P (f n y) (numbered f (n + 1) xs) all))
of_numbered P f n (y ∷ xs) all (suc k) x h =
    subst (λ m. AllByRecursion P (f m x)) (let e : n + 1 + k ≡ n + suc k = omega arith in e) (of_numbered P f (n + 1) xs (both_back P (f n y) (numbered f (n + 1) xs) all) k x h)

pub of_first : {X A : Type 0} (P : A → Type 0) (f : ℕ → X → List A) (xs : List X) → AllByRecursion P (numbered f 0 xs) → (k : ℕ) (x : X) → slice_get xs k ≡ Some x → AllByRecursion P (f k x)
of_first P f xs all k x h = subst (λ m. AllByRecursion P (f m x)) (let e : 0 + k ≡ k = omega arith in e) (of_numbered P f 0 xs all k x h)

-- ---- bytes

pub parts_of_list : (m : Bytes) (a : ℕ) (xs ys : List ℕ) → list_at (length (xs ++ ys)) m a ≡ xs ++ ys → (list_at (length xs) m a ≡ xs) × (list_at (length ys) m (a + length xs) ≡ ys)
unfolding list_at
parts_of_list m a [] ys h = (refl, let e : a ≡ a + 0 = omega arith in subst (λ b. list_at (length ys) m b ≡ ys) e h)
parts_of_list m a (x ∷ xs) ys h =
    let head : m a ≡ x = cc in
    let tail : list_at (length (xs ++ ys)) m (a + 1) ≡ xs ++ ys = cc in
    let rest = parts_of_list m (a + 1) xs ys tail in
    ((λ i. head i ∷ rest.0 i), let e : a + 1 + length xs ≡ a + suc (length xs) = omega arith in subst (λ b. list_at (length ys) m b ≡ ys) e rest.1)

-- ---- lists of numbers

abbrev pub AllLow : ℕ → List ℕ → Type 0
AllLow most xs = (k : ℕ) → slice_index_or xs k 0 ≤ most

pub set_low : (most : ℕ) (xs : List ℕ) (n v : ℕ) → AllLow most xs → v ≤ most → AllLow most (slice_set xs n v)
set_low most [] n v low le k = low k
set_low most (x ∷ xs) zero v low le zero = le
set_low most (x ∷ xs) zero v low le (suc k) = low (suc k)
set_low most (x ∷ xs) (suc n) v low le zero = low zero
set_low most (x ∷ xs) (suc n) v low le (suc k) = set_low most xs n v (λ j. low (suc j)) le k

pub zeros_low : (most : ℕ) (xs : List ℕ) → AllByRecursion (λ (n : ℕ). n ≡ 0) xs → AllLow most xs
zeros_low most [] all k = omega arith
zeros_low most (x ∷ xs) all zero = (let none = all.0 in omega (arith, none))
zeros_low most (x ∷ xs) all (suc k) = zeros_low most xs all.1 k
