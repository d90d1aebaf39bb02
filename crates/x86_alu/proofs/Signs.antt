-- A signed sum or difference is out of range exactly where its sign is wrong.
use Rattle.std.proofs.Common.{◌≡◌, ℕ, ◌+◌, ◌-◌, ◌%◌, ◌^◌, ◌<◌, ◌≤◌, inl, inr, Bool, true, false, ◌&&◌, nat_le, nat_lt, IsTrue, refl, sym, ◌∙◌, arith, ℤ, pos, negsuc, ◌+ℤ◌, ◌-ℤ◌, ◌≤ℤ◌, ◌<ℤ◌}
use Rattle.std.specs.Prelude.{not, int_le, int_lt}
use Rattle.std.proofs.lemmas.Bool.{cases_lt}
use Rattle.std.proofs.lemmas.Bool.Decides.{nat_tests}
use Rattle.std.proofs.lemmas.Int.{ints}
use Rattle.x86_forms.specs.Validity.{word_ok}
use Rattle.x86_forms.specs.Arithmetic.{signed, holds_signed, is_negative, difference, low}
use Rattle.x86_alu.specs.Alu.{sign_is_wrong}
use Rattle.x86_alu.proofs.Widths.{by_width, signed_low, signed_high}

tests : (h a : ℕ) → a < h → nat_le h a ≡ false
tests h a e = grind (arith, nat_tests)

passes : (h a : ℕ) → h ≤ a → nat_le h a ≡ true
passes h a e = grind (arith, nat_tests)

at_least : (a b : ℤ) → a ≤ℤ b → int_le a b ≡ true
at_least a b h = grind (arith, ints)

not_least : (a b : ℤ) → b <ℤ a → int_le a b ≡ false
not_least a b h = grind (arith, ints)

under : (a b : ℤ) → a <ℤ b → int_lt a b ≡ true
under a b h = grind (arith, ints)

not_under : (a b : ℤ) → b ≤ℤ a → int_lt a b ≡ false
not_under a b h = grind (arith, ints)

-- whether a signed number lies outside the range that ends below h
abbrev is_out : ℕ → ℤ → Bool
is_out h z = not (int_le (pos 0 -ℤ pos h) z && int_lt z (pos h))

inside : (h : ℕ) (z : ℤ) → (pos 0 -ℤ pos h) ≤ℤ z → z <ℤ pos h → false ≡ is_out h z
inside h z least most = rw (at_least (pos 0 -ℤ pos h) z least, under z (pos h) most) refl

past : (h : ℕ) (z : ℤ) → (pos 0 -ℤ pos h) ≤ℤ z → pos h ≤ℤ z → true ≡ is_out h z
past h z least most = rw (at_least (pos 0 -ℤ pos h) z least, not_under z (pos h) most) refl

before : (h : ℕ) (z : ℤ) → z <ℤ (pos 0 -ℤ pos h) → true ≡ is_out h z
before h z least = rw (not_least (pos 0 -ℤ pos h) z least) refl

-- the signed number of a word whose upper half begins at h
abbrev Stands : ℕ → ℕ → ℤ → Type 0
Stands h a x = (a < h → x ≡ pos a) × (h ≤ a → x ≡ pos a -ℤ pos (h + h))

sum_at : (h a b r : ℕ) (x y z : ℤ) → Stands h a x → Stands h b y → z ≡ x +ℤ y → a < h + h → b < h + h → (a + b < h + h → r ≡ a + b) → (h + h ≤ a + b → r + (h + h) ≡ a + b)
    → sign_is_wrong (nat_le h a) (nat_le h b) (nat_le h r) ≡ is_out h z
sum_at h a b r x y z sx sy is fa fb low high = elim (cases_lt a h) [
  | inl al ↦ elim (cases_lt b h) [
    | inl bl ↦
        let ex = sx.0 al in
        let ey = sy.0 bl in
        let er = low (omega arith) in
        elim (cases_lt r h) [
          | inl rl ↦ rw (tests h a al, tests h b bl, tests h r rl) (inside h z (omega (arith, ints, ex, ey, is, er)) (omega (arith, ints, ex, ey, is, er)))
          | inr rh ↦ rw (tests h a al, tests h b bl, passes h r rh) (past h z (omega (arith, ints, ex, ey, is, er)) (omega (arith, ints, ex, ey, is, er)))
        ]
    | inr bh ↦
        let ex = sx.0 al in
        let ey = sy.1 bh in
        elim (cases_lt r h) [
          | inl rl ↦ rw (tests h a al, passes h b bh, tests h r rl) (inside h z (omega (arith, ints, ex, ey, is)) (omega (arith, ints, ex, ey, is)))
          | inr rh ↦ rw (tests h a al, passes h b bh, passes h r rh) (inside h z (omega (arith, ints, ex, ey, is)) (omega (arith, ints, ex, ey, is)))
        ]
  ]
  | inr ah ↦ elim (cases_lt b h) [
    | inl bl ↦
        let ex = sx.1 ah in
        let ey = sy.0 bl in
        rw (passes h a ah, tests h b bl) (inside h z (omega (arith, ints, ex, ey, is)) (omega (arith, ints, ex, ey, is)))
    | inr bh ↦
        let ex = sx.1 ah in
        let ey = sy.1 bh in
        let er = high (omega arith) in
        elim (cases_lt r h) [
          | inl rl ↦ rw (passes h a ah, passes h b bh, tests h r rl) (before h z (omega (arith, ints, ex, ey, is, er)))
          | inr rh ↦ rw (passes h a ah, passes h b bh, passes h r rh) (inside h z (omega (arith, ints, ex, ey, is, er)) (omega (arith, ints, ex, ey, is, er)))
        ]
  ]
]

rest_at : (h a b r : ℕ) (x y z : ℤ) → Stands h a x → Stands h b y → z ≡ x -ℤ y → a < h + h → b < h + h → (b ≤ a → r + b ≡ a) → (a < b → r + b ≡ a + (h + h))
    → sign_is_wrong (nat_le h a) (not (nat_le h b)) (nat_le h r) ≡ is_out h z
rest_at h a b r x y z sx sy is fa fb low high = elim (cases_lt a h) [
  | inl al ↦ elim (cases_lt b h) [
    | inl bl ↦
        let ex = sx.0 al in
        let ey = sy.0 bl in
        elim (cases_lt r h) [
          | inl rl ↦ rw (tests h a al, tests h b bl, tests h r rl) (inside h z (omega (arith, ints, ex, ey, is)) (omega (arith, ints, ex, ey, is)))
          | inr rh ↦ rw (tests h a al, tests h b bl, passes h r rh) (inside h z (omega (arith, ints, ex, ey, is)) (omega (arith, ints, ex, ey, is)))
        ]
    | inr bh ↦
        let ex = sx.0 al in
        let ey = sy.1 bh in
        let er = high (omega arith) in
        elim (cases_lt r h) [
          | inl rl ↦ rw (tests h a al, passes h b bh, tests h r rl) (inside h z (omega (arith, ints, ex, ey, is, er)) (omega (arith, ints, ex, ey, is, er)))
          | inr rh ↦ rw (tests h a al, passes h b bh, passes h r rh) (past h z (omega (arith, ints, ex, ey, is, er)) (omega (arith, ints, ex, ey, is, er)))
        ]
  ]
  | inr ah ↦ elim (cases_lt b h) [
    | inl bl ↦
        let ex = sx.1 ah in
        let ey = sy.0 bl in
        let er = low (omega arith) in
        elim (cases_lt r h) [
          | inl rl ↦ rw (passes h a ah, tests h b bl, tests h r rl) (before h z (omega (arith, ints, ex, ey, is, er)))
          | inr rh ↦ rw (passes h a ah, tests h b bl, passes h r rh) (inside h z (omega (arith, ints, ex, ey, is, er)) (omega (arith, ints, ex, ey, is, er)))
        ]
    | inr bh ↦
        let ex = sx.1 ah in
        let ey = sy.1 bh in
        rw (passes h a ah, passes h b bh) (inside h z (omega (arith, ints, ex, ey, is)) (omega (arith, ints, ex, ey, is)))
  ]
]

stands-32 : (a : ℕ) → a < 2 ^ 32 → Stands (2 ^ 31) a (signed 32 a)
stands-32 a fits = (λ h. signed_low 32 a refl h, λ h. signed_high 32 a refl h ∙ (let e : negsuc (2 ^ 32 - 1 - a) ≡ pos a -ℤ pos (2 ^ 31 + 2 ^ 31) = omega (arith, ints) in e))

stands-64 : (a : ℕ) → a < 2 ^ 64 → Stands (2 ^ 63) a (signed 64 a)
stands-64 a fits = (λ h. signed_low 64 a refl h, λ h. signed_high 64 a refl h ∙ (let e : negsuc (2 ^ 64 - 1 - a) ≡ pos a -ℤ pos (2 ^ 63 + 2 ^ 63) = omega (arith, ints) in e))

abbrev SumIsOut : ℕ → Type 0
SumIsOut w = (a b r : ℕ) → a < 2 ^ w → b < 2 ^ w → r ≡ (a + b) % 2 ^ w → sign_is_wrong (is_negative w a) (is_negative w b) (is_negative w r) ≡ not (holds_signed w (signed w a +ℤ signed w b))

sum_out-32 : SumIsOut 32
unfolding is_negative holds_signed
sum_out-32 a b r fa fb is = sum_at (2 ^ 31) a b r (signed 32 a) (signed 32 b) (signed 32 a +ℤ signed 32 b) (stands-32 a fa) (stands-32 b fb) refl (omega arith) (omega arith) (λ h. omega arith) (λ h. omega arith)

sum_out-64 : SumIsOut 64
unfolding is_negative holds_signed
sum_out-64 a b r fa fb is = sum_at (2 ^ 63) a b r (signed 64 a) (signed 64 b) (signed 64 a +ℤ signed 64 b) (stands-64 a fa) (stands-64 b fb) refl (omega arith) (omega arith) (λ h. omega arith) (λ h. omega arith)

pub sum_out : (w : ℕ) → IsTrue (word_ok w) → SumIsOut w
sum_out w h = by_width SumIsOut w h sum_out-32 sum_out-64

abbrev RestIsOut : ℕ → Type 0
RestIsOut w = (a b r : ℕ) → a < 2 ^ w → b < 2 ^ w → r ≡ difference w a b → sign_is_wrong (is_negative w a) (not (is_negative w b)) (is_negative w r) ≡ not (holds_signed w (signed w a -ℤ signed w b))

rest_out-32 : RestIsOut 32
unfolding is_negative holds_signed
rest_out-32 a b r fa fb is = rest_at (2 ^ 31) a b r (signed 32 a) (signed 32 b) (signed 32 a -ℤ signed 32 b) (stands-32 a fa) (stands-32 b fb) refl (omega arith) (omega arith) (λ h. omega arith) (λ h. omega arith)

rest_out-64 : RestIsOut 64
unfolding is_negative holds_signed
rest_out-64 a b r fa fb is = rest_at (2 ^ 63) a b r (signed 64 a) (signed 64 b) (signed 64 a -ℤ signed 64 b) (stands-64 a fa) (stands-64 b fb) refl (omega arith) (omega arith) (λ h. omega arith) (λ h. omega arith)

pub rest_out : (w : ℕ) → IsTrue (word_ok w) → RestIsOut w
rest_out w h = by_width RestIsOut w h rest_out-32 rest_out-64

-- a sum carries exactly where its low bits are below the first number
abbrev CarriesBelow : ℕ → Type 0
CarriesBelow w = (a b r : ℕ) → a < 2 ^ w → b < 2 ^ w → r ≡ (a + b) % 2 ^ w → nat_lt r a ≡ nat_le (2 ^ w) (a + b)

carries : (m a b r : ℕ) → a < m → b < m → (a + b < m → r ≡ a + b) → (m ≤ a + b → r + m ≡ a + b) → nat_lt r a ≡ nat_le m (a + b)
carries m a b r fa fb low high = elim (cases_lt (a + b) m) [
  | inl below ↦ let e = low below in
      let no : nat_lt r a ≡ false = grind (arith, nat_tests) in
      no ∙ sym (tests m (a + b) below)
  | inr over ↦ let e = high over in
      let yes : nat_lt r a ≡ true = grind (arith, nat_tests) in
      yes ∙ sym (passes m (a + b) over)
]

pub sum_carries : (w : ℕ) → IsTrue (word_ok w) → CarriesBelow w
sum_carries w h =
    by_width CarriesBelow w h (λ a b r fa fb is. carries (2 ^ 32) a b r fa fb (λ e. omega arith) (λ e. omega arith)) (λ a b r fa fb is. carries (2 ^ 64) a b r fa fb (λ e. omega arith) (λ e. omega arith))
