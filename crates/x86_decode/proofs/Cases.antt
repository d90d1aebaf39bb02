-- Fields with few values, taken apart into them.
use Rattle.std.proofs.Common.{◌≡◌, ◌<◌, true, ℕ, zero, suc, arith, nat_eq, subst, sym, inl, inr}
use Rattle.std.specs.Prelude.{◌⊎◌, ◌||◌}
use Rattle.std.proofs.lemmas.Bool.{eqb-true, or_cases, cases_eq}
use Rattle.x86_forms.specs.Validity.{word_ok, width_ok, narrow_ok}

at : (n v : ℕ) (P : ℕ → Type 0) → nat_eq n v ≡ true → P v → P n
at n v P e h = subst P (sym (eqb-true n v e)) h

pub word_cases : (w : ℕ) (P : ℕ → Type 0) → word_ok w ≡ true → P 32 → P 64 → P w
word_cases w P h a b = elim (or_cases (nat_eq w 32) (nat_eq w 64) h) [ inl e ↦ at w 32 P e a | inr e ↦ at w 64 P e b ]

pub narrow_cases : (w : ℕ) (P : ℕ → Type 0) → narrow_ok w ≡ true → P 8 → P 16 → P w
narrow_cases w P h a b = elim (or_cases (nat_eq w 8) (nat_eq w 16) h) [ inl e ↦ at w 8 P e a | inr e ↦ at w 16 P e b ]

pub width_cases : (w : ℕ) (P : ℕ → Type 0) → width_ok w ≡ true → P 8 → P 16 → P 32 → P 64 → P w
width_cases w P h a b c d =
    elim (or_cases (nat_eq w 8 || nat_eq w 16 || nat_eq w 32) (nat_eq w 64) h) [
      | inr e ↦ at w 64 P e d
      | inl k ↦ elim (or_cases (nat_eq w 8 || nat_eq w 16) (nat_eq w 32) k) [
        | inr e ↦ at w 32 P e c
        | inl l ↦ narrow_cases w P l a b
      ]
    ]

-- P of each number below n
abbrev pub Each : ℕ → (ℕ → Type 0) → Type 0
Each zero P = Unit {0}
Each (suc n) P = Each n P × P n

each_case : (n i : ℕ) (P : ℕ → Type 0) → (i < n → P i) → P n → i < suc n → (i ≡ n) ⊎ (i ≡ n → ⊥) → P i
each_case n i P below here h (inl e) = subst P (sym e) here
each_case n i P below here h (inr e) = below (omega arith)

pub each-at : (n i : ℕ) (P : ℕ → Type 0) → Each n P → i < n → P i
each-at zero i P e h = absurd (omega arith)
each-at (suc n) i P e h = each_case n i P (λ k. each-at n i P e.0 k) e.1 h (cases_eq i n)

pub below_16 : (P : ℕ → Type 0) → P 0 → P 1 → P 2 → P 3 → P 4 → P 5 → P 6 → P 7 → P 8 → P 9 → P 10 → P 11 → P 12 → P 13 → P 14 → P 15 → (n : ℕ) → n < 16 → P n
below_16 P p0 p1 p2 p3 p4 p5 p6 p7 p8 p9 p10 p11 p12 p13 p14 p15 n h =
    each-at 16 n P ((((((((((((((((tt, p0), p1), p2), p3), p4), p5), p6), p7), p8), p9), p10), p11), p12), p13), p14), p15) h
