-- How many values in order can have a weight, and at most how many of a function's values have a sort.
use Rattle.std.proofs.Common.{ℕ, zero, suc, ◌+◌, ◌≡◌, ◌≤◌, ◌<◌, refl, ap, ◌∙◌, subst, List, [], ◌∷◌, Bool, true, false, ◌==◌, arith}
use Rattle.std.specs.Prelude.{slice_index_or, length}
use Rattle.std.specs.List.{All}
use Rattle.std.proofs.lemmas.Bool.Decides.{nat_tests}
use Rattle.fat_ir.specs.Spans.{Rising}
use Rattle.bounds_plan.specs.steps.Code.{in_turn}
use Rattle.bounds_plan.specs.steps.Sorts.{same_sort, how_many}

-- the weights of k values from l on
abbrev pub weights : (ℕ → ℕ) → (l k : ℕ) → ℕ
weights w l zero = 0
weights w l (suc k) = w l + weights w (l + 1) k

abbrev Has : (ℕ → ℕ) → (past : ℕ) → ℕ → Type 0
Has w past v = (v < past) × (1 ≤ w v)

all_but_first : (P : ℕ → Type 0) (v : ℕ) (vs : List ℕ) → All P (v ∷ vs) → All P vs
all_but_first P v vs h = λ k d lt. h (suc k) d (omega (arith, lt))

pub at_most_weights : (w : ℕ → ℕ) (k l past : ℕ) (vs : List ℕ) → past ≤ l + k → Rising l vs → All (Has w past) vs → length vs ≤ weights w l k
at_most_weights w k l past [] le up h = omega arith
at_most_weights w zero l past (v ∷ vs) le up h = let lt = (h 0 v (omega arith)).0 in let low = up.0 in absurd (omega (arith, lt, le, low))
at_most_weights w (suc k) l past (v ∷ vs) le up h = by_cases (l == v) refl (at_most_weights w k (l + 1) past vs (omega (arith, le))) (at_most_weights w k (l + 1) past (v ∷ vs) (omega (arith, le)))
  where
    by_cases : (c : Bool) → (l == v) ≡ c → (Rising (l + 1) vs → All (Has w past) vs → length vs ≤ weights w (l + 1) k)
        → (Rising (l + 1) (v ∷ vs) → All (Has w past) (v ∷ vs) → suc (length vs) ≤ weights w (l + 1) k) → suc (length vs) ≤ w l + weights w (l + 1) k
    by_cases true e this other =
        let same : v ≡ l = grind (arith, nat_tests, e) in
        let some : 1 ≤ w l = subst (λ x. 1 ≤ w x) same (h 0 v (omega arith)).1 in
        let up' : Rising (l + 1) vs = subst (λ x. Rising (x + 1) vs) same up.1 in
        let more = this up' (all_but_first (Has w past) v vs h) in
        omega (arith, some, more)
    by_cases false e this other =
        let low : l + 1 ≤ v = let le' = up.0 in grind (arith, nat_tests, e, le') in
        let more = other (low, up.1) h in
        omega (arith, more)

add_weights : (w : ℕ → ℕ) (l a b : ℕ) → weights w l (a + b) ≡ weights w l a + weights w (l + a) b
add_weights w l zero b =
    let e : 0 + b ≡ b = omega arith in
    let i : weights w (l + 0) b ≡ weights w l b = ap (λ x. weights w x b) (omega arith) in
    ap (λ x. weights w l x) e ∙ omega (arith, i)
add_weights w l (suc a) b =
    let e : suc a + b ≡ suc (a + b) = omega arith in
    let i = add_weights w (l + 1) a b in
    let s : weights w (l + 1 + a) b ≡ weights w (l + suc a) b = ap (λ x. weights w x b) (omega arith) in
    ap (λ x. weights w l x) e ∙ omega (arith, i, s)

pub weights_add : (w : ℕ → ℕ) (l a b m : ℕ) → l + a ≡ m → weights w l (a + b) ≡ weights w l a + weights w m b
weights_add w l a b m e = add_weights w l a b ∙ ap (λ x. weights w l a + weights w x b) e

pub three_parts : (n t t' x y z p q r : ℕ) → n ≤ t → t ≡ x + t' → t' ≡ y + z → x ≤ p → y ≤ q → z ≤ r → n ≤ p + (q + r)
three_parts n t t' x y z p q r all one two a b c = omega (arith, all, one, two, a, b, c)

-- those of values that are no more than the elements of a list of this sort
pub weights_of : (w : ℕ → ℕ) (b : Bool) (xs : List Bool) (l : ℕ) → ((v x : ℕ) → v ≡ l + x → x < length xs → w v ≡ same_sort b (slice_index_or xs x false)) → weights w l (length xs) ≤ how_many b xs
weights_of w b [] l h = omega arith
weights_of w b (x ∷ xs) l h =
    let here : w l ≡ same_sort b x = h l 0 (omega arith) (omega arith) in
    let more = weights_of w b xs (l + 1) (λ v k e lt. h v (suc k) (omega (arith, e)) (omega (arith, lt))) in
    omega (arith, here, more)

pub no_weights : (w : ℕ → ℕ) (l k : ℕ) → ((v : ℕ) → l ≤ v → v < l + k → w v ≡ 0) → weights w l k ≡ 0
no_weights w l zero h = refl
no_weights w l (suc k) h =
    let here = h l (omega arith) (omega arith) in
    let more = no_weights w (l + 1) k (λ v low lt. h v (omega (arith, low)) (omega (arith, lt))) in
    omega (arith, here, more)

pub sort_itself : (b : Bool) → 1 ≤ same_sort b b
sort_itself true = omega arith
sort_itself false = omega arith

pub turns_count : (b : Bool) (n : ℕ) → how_many b (in_turn n) ≡ n
turns_count b zero = refl
turns_count true (suc n) = let h = turns_count true n in omega (arith, h)
turns_count false (suc n) = let h = turns_count false n in omega (arith, h)
