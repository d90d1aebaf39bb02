-- How many numbers pass a test: as many at least as there are places for which one is found.
use Rattle.std.proofs.Common.{ℕ, zero, suc, ◌+◌, ◌≡◌, ◌≢◌, ◌<◌, ◌≤◌, inl, inr, refl, sym, ap, subst, List, [], ◌∷◌, length, arith, nat_eq, true, false, Bool, if◌then◌else◌, ◌&&◌, not}
use Rattle.std.specs.List.{All}
use Rattle.std.proofs.lemmas.Bool.{cases_eq, and_parts, and_from, and_right}
use Rattle.std.proofs.lemmas.Bool.Decides.{nat_tests}
use Rattle.std.proofs.lemmas.List.Elements.{All-nil, All-cons}
use Rattle.fat_ir.specs.Spans.{Rising}

-- those from v on, so many numbers, that pass
abbrev pub picked : (q : ℕ → Bool) → (v n : ℕ) → List ℕ
picked q v zero = []
picked q v (suc n) = if q v then v ∷ picked q (v + 1) n else picked q (v + 1) n

module _ (q : ℕ → Bool) where
  pub picked_rise : (least v n : ℕ) → least ≤ v → Rising least (picked q v n)
  picked_rise least v zero le = tt
  picked_rise least v (suc n) le = elim (q v) as (λ b. Rising least (if b then v ∷ picked q (v + 1) n else picked q (v + 1) n)) [
    | true ↦ (le, picked_rise (v + 1) (v + 1) n (omega arith))
    | false ↦ picked_rise least (v + 1) n (omega arith)
  ]

  pub picked_pass : (P : ℕ → Type 0) (v n : ℕ) → ((u : ℕ) → u < v + n → q u ≡ true → P u) → All P (picked q v n)
  picked_pass P v zero h = All-nil P
  picked_pass P v (suc n) h = elim (q v) as (λ b. q v ≡ b → All P (if b then v ∷ picked q (v + 1) n else picked q (v + 1) n)) [
    | true ↦ λ e. All-cons P v (picked q (v + 1) n) (h v (omega arith) e) (picked_pass P (v + 1) n (λ u lt. h u (omega arith)))
    | false ↦ λ e. picked_pass P (v + 1) n (λ u lt. h u (omega arith))
  ] refl

module _ (p q : ℕ → Bool) (imply : (u : ℕ) → p u ≡ true → q u ≡ true) where
  picked_fewer : (v n : ℕ) → length (picked p v n) ≤ length (picked q v n)
  picked_fewer v zero = omega arith
  picked_fewer v (suc n) = let h = picked_fewer (v + 1) n in
      elim (p v) as (λ b. p v ≡ b → length (if b then v ∷ picked p (v + 1) n else picked p (v + 1) n) ≤ length (if q v then v ∷ picked q (v + 1) n else picked q (v + 1) n)) [
        | true ↦ λ e. subst (λ b. suc (length (picked p (v + 1) n)) ≤ length (if b then v ∷ picked q (v + 1) n else picked q (v + 1) n)) (sym (imply v e)) (omega arith)
        | false ↦ λ e. elim (q v) as (λ b. length (picked p (v + 1) n) ≤ length (if b then v ∷ picked q (v + 1) n else picked q (v + 1) n)) [ true ↦ omega arith | false ↦ h ]
      ] refl

  -- one that passes the second test alone makes them more
  picked_less : (x : ℕ) → q x ≡ true → p x ≡ false → (v n : ℕ) → v ≤ x → x < v + n → length (picked p v n) + 1 ≤ length (picked q v n)
  picked_less x passes fails v zero low high = absurd (omega arith)
  picked_less x passes fails v (suc n) low high = elim (cases_eq v x) [
    | inl e ↦ let f = picked_fewer (v + 1) n in
        let a : p v ≡ false = subst (λ y. p y ≡ false) (sym e) fails in let b : q v ≡ true = subst (λ y. q y ≡ true) (sym e) passes in
        let c = ap (λ t. length (if t then v ∷ picked p (v + 1) n else picked p (v + 1) n)) a in
        let d = ap (λ t. length (if t then v ∷ picked q (v + 1) n else picked q (v + 1) n)) b in omega arith
    | inr ne ↦ let h = picked_less x passes fails (v + 1) n (omega arith) (omega arith) in
        elim (p v) as (λ b. p v ≡ b → length (if b then v ∷ picked p (v + 1) n else picked p (v + 1) n) + 1 ≤ length (if q v then v ∷ picked q (v + 1) n else picked q (v + 1) n)) [
          | true ↦ λ e. subst (λ b. suc (length (picked p (v + 1) n)) + 1 ≤ length (if b then v ∷ picked q (v + 1) n else picked q (v + 1) n)) (sym (imply v e)) (omega arith)
          | false ↦ λ e. elim (q v) as (λ b. length (picked p (v + 1) n) + 1 ≤ length (if b then v ∷ picked q (v + 1) n else picked q (v + 1) n)) [ true ↦ omega arith | false ↦ h ]
        ] refl
  ]

-- all but one
but : (ℕ → Bool) → ℕ → ℕ → Bool
but q x u = q u && not (nat_eq u x)

but_passes : (q : ℕ → Bool) (x u : ℕ) → but q x u ≡ true → q u ≡ true
unfolding but
but_passes q x u e = (and_parts (q u) (not (nat_eq u x)) e).0

but_other : (q : ℕ → Bool) (x u : ℕ) → q u ≡ true → u ≢ x → but q x u ≡ true
unfolding but
but_other q x u e ne = and_from (q u) (not (nat_eq u x)) e (let f : nat_eq u x ≡ false = grind (arith, nat_tests) in ap not f)

but_it : (q : ℕ → Bool) (x : ℕ) → but q x x ≡ false
unfolding but
but_it q x = and_right (q x) (not (nat_eq x x)) (let t : nat_eq x x ≡ true = grind (arith, nat_tests) in ap not t)

-- one at each place from `low` on, so many places, and each passes
pub record Found (q : ℕ → Bool) (place : ℕ → ℕ) (count c : ℕ) : Type 0 where
  pub value : ℕ
  pub below : value < count
  pub passes : q value ≡ true
  pub there : place value ≡ c

module _ (place : ℕ → ℕ) (count low : ℕ) where
  pub many_found : (n : ℕ) (q : ℕ → Bool) → ((c : ℕ) → low ≤ c → c < low + n → Found q place count c) → n ≤ length (picked q 0 count)
  many_found zero q found = omega arith
  many_found (suc n) q found =
      let last = found (low + n) (omega arith) (omega arith) in
      let fewer : n ≤ length (picked (but q last.value) 0 count) = many_found n (but q last.value) (λ c le lt.
      let f = found c le (omega arith) in
      record { value = f.value; below = f.below; passes = but_other q last.value f.value f.passes (λ same. let e = ap place same in let a = f.there in let b = last.there in absurd (omega arith)); there = f.there }) in
      let b = last.below in
      let less = picked_less (but q last.value) q (but_passes q last.value) last.value last.passes (but_it q last.value) 0 count (omega arith) (omega arith) in omega arith

  -- and one more that stands at none of them
  pub many_and_one : (n : ℕ) (q : ℕ → Bool) (x : ℕ) → x < count → q x ≡ true → ((c : ℕ) → low ≤ c → c < low + n → (f : Found q place count c) × (f.value ≢ x)) → n < length (picked q 0 count)
  many_and_one n q x below passes found =
      let fewer = many_found n (but q x) (λ c le lt. let f = found c le lt in record { value = f.0.value; below = f.0.below; passes = but_other q x f.0.value f.0.passes f.1; there = f.0.there }) in
      let less = picked_less (but q x) q (but_passes q x) x passes (but_it q x) 0 count (omega arith) (omega arith) in omega arith
