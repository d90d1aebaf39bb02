-- A sign spread over more bits, and widths of numbers.
use Rattle.std.proofs.Common.{◌≡◌, ℕ, ◌+◌, ◌-◌, ◌/◌, ◌%◌, ◌^◌, ◌<◌, ◌≤◌, inl, inr, ◌&&◌, nat_eq, IsTrue, refl, subst, sym, ◌∙◌, ap, arith, pos, negsuc}
use Rattle.std.proofs.lemmas.Bool.{or_cases, and_parts, eqb-true}
use Rattle.std.proofs.Math.Nat.{mod-eq_of_lt}
use Rattle.mx_base.specs.Numbers.{residue, as_signed}
use Rattle.mx_base.proofs.NumbersLemmas.{as_signed_low, as_signed_high}
use Rattle.x86_forms.specs.Validity.{word_ok, width_ok, narrow_ok}
use Rattle.x86_forms.specs.Arithmetic.{signed, bits_of, low}
use Rattle.x86_core.specs.Steps.{spreads, less_than_64}

pub by_word : (P : ℕ → Type 0) (w : ℕ) → IsTrue (word_ok w) → P 32 → P 64 → P w
by_word P w h p q = elim (or_cases (nat_eq w 32) (nat_eq w 64) h) [
  | inl e ↦ subst P (sym (eqb-true w 32 e)) p
  | inr e ↦ subst P (sym (eqb-true w 64 e)) q
]

by_narrow : (P : ℕ → Type 0) (w : ℕ) → IsTrue (narrow_ok w) → P 8 → P 16 → P w
by_narrow P w h p q = elim (or_cases (nat_eq w 8) (nat_eq w 16) h) [
  | inl e ↦ subst P (sym (eqb-true w 8 e)) p
  | inr e ↦ subst P (sym (eqb-true w 16 e)) q
]

by_spread : (P : ℕ → ℕ → Type 0) (w from : ℕ) → IsTrue (word_ok w) → IsTrue (spreads w from) → P 32 8 → P 64 8 → P 32 16 → P 64 16 → P 64 32 → P w from
by_spread P w from h k a b c d e = elim (or_cases (narrow_ok from) (nat_eq from 32 && nat_eq w 64) k) [
  | inl n ↦ by_word (λ w. P w from) w h (by_narrow (λ f. P 32 f) from n a c) (by_narrow (λ f. P 64 f) from n b d)
  | inr n ↦ let parts = and_parts (nat_eq from 32) (nat_eq w 64) n in subst (λ f. P w f) (sym (eqb-true from 32 parts.0)) (subst (λ w. P w 32) (sym (eqb-true w 64 parts.1)) e)
]

pub word-width : (w : ℕ) → IsTrue (word_ok w) → IsTrue (width_ok w)
word-width w h = by_word (λ w. IsTrue (width_ok w)) w h refl refl

pub spreads-width : (w from : ℕ) → IsTrue (word_ok w) → IsTrue (spreads w from) → IsTrue (width_ok from)
spreads-width w from h k = by_spread (λ w from. IsTrue (width_ok from)) w from h k refl refl refl refl refl

pub spreads-less : (w from : ℕ) → IsTrue (word_ok w) → IsTrue (spreads w from) → IsTrue (less_than_64 from)
spreads-less w from h k = by_spread (λ w from. IsTrue (less_than_64 from)) w from h k refl refl refl refl refl

pub low-small : (w a : ℕ) → a < 2 ^ w → low w a ≡ a
low-small w a h = mod-eq_of_lt h

spread-pos : (m a : ℕ) → a < m → residue m (pos a) ≡ a
unfolding residue
spread-pos m a h = mod-eq_of_lt h

spread-negsuc : (m a : ℕ) → a < m → residue m (negsuc a) ≡ m - 1 - a
unfolding residue
spread-negsuc m a h = ap (λ x. m - 1 - x) (mod-eq_of_lt h)

pub spread-low : (w from v : ℕ) → IsTrue (word_ok w) → IsTrue (spreads w from) → v < 2 ^ (from - 1) → v ≡ bits_of w (signed from v)
spread-low w from v h k = by_spread (λ w from. v < 2 ^ (from - 1) → v ≡ bits_of w (signed from v)) w from h k
    (λ l. at (2 ^ 32) (2 ^ 8) l (omega arith)) (λ l. at (2 ^ 64) (2 ^ 8) l (omega arith)) (λ l. at (2 ^ 32) (2 ^ 16) l (omega arith)) (λ l. at (2 ^ 64) (2 ^ 16) l (omega arith)) (λ l. at (2 ^ 64) (2 ^ 32) l (omega arith))
  where
    at : (m n : ℕ) → v < n / 2 → v < m → v ≡ residue m (as_signed n v)
    at m n l b = sym (spread-pos m v b) ∙ ap (residue m) (sym (as_signed_low n v l))

pub spread-high : (w from v above : ℕ) → IsTrue (word_ok w) → IsTrue (spreads w from) → 2 ^ (from - 1) ≤ v → v < 2 ^ from → above + 2 ^ from ≡ 2 ^ 64 → low w (above + v) ≡ bits_of w (signed from v)
spread-high w from v above h k = by_spread (λ w from. 2 ^ (from - 1) ≤ v → v < 2 ^ from → above + 2 ^ from ≡ 2 ^ 64 → low w (above + v) ≡ bits_of w (signed from v)) w from h k
    (λ l b e. at (2 ^ 32) (2 ^ 8) (omega arith) l (omega arith)) (λ l b e. at (2 ^ 64) (2 ^ 8) (omega arith) l (omega arith)) (λ l b e. at (2 ^ 32) (2 ^ 16) (omega arith) l (omega arith)) (λ l b e. at (2 ^ 64) (2 ^ 16) (omega arith) l (omega arith)) (λ l b e. at (2 ^ 64) (2 ^ 32) (omega arith) l (omega arith))
  where
    at : (m n : ℕ) → (above + v) % m ≡ m - 1 - (n - 1 - v) → n / 2 ≤ v → n - 1 - v < m → (above + v) % m ≡ residue m (as_signed n v)
    at m n same l b = same ∙ sym (spread-negsuc m (n - 1 - v) b) ∙ ap (residue m) (sym (as_signed_high n v l))
