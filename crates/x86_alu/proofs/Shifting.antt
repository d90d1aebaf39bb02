-- Flags of shifts, by the count that is left modulo the width.
use Rattle.std.proofs.Common.{◌≡◌, ℕ, ◌-◌, ◌*◌, ◌/◌, ◌%◌, ◌^◌, ◌<◌, Bool, false, ◌&&◌, IsTrue, refl, sym, subst, ◌∙◌, ap, arith, ℤ, pos, negsuc, to_z, of_z, FitsSigned}
use Rattle.std.specs.Prelude.{◌==◌}
use Rattle.std.specs.Int.{int_shr, w64, w128}
use Rattle.std.proofs.lemmas.Int.{to_z-of_z}
use Rattle.std.proofs.lemmas.Nat.{shr_le}
use Rattle.std.proofs.lemmas.Bool.{ne_eqb, eq-eqb, cond-true, cond-false}
use Rattle.x86_forms.specs.Validity.{word_ok}
use Rattle.x86_forms.specs.Arithmetic.{Flags, Operation, Shl, Shr, Sar, low, signed, bits_of, is_negative, differ, has_bit, count_of, result_of, flags_of, flags_after, shift_flags, moved_out, shift_overflow}
use Rattle.x86_alu.proofs.Widths.{by_width, low-word}

pub count_of-again : (w b : ℕ) → IsTrue (word_ok w) → count_of w (count_of w b) ≡ count_of w b
count_of-again w b h = by_width (λ w. b % w % w ≡ b % w) w h (omega arith) (omega arith)

-- ---- results

pub shl-result : (w a b c : ℕ) → IsTrue (word_ok w) → c ≡ count_of w b → low w ((a * 2 ^ c) % 2 ^ 64) ≡ result_of Shl w a b
unfolding result_of
shl-result w a b c h e = low-word w (a * 2 ^ c) h ∙ ap (λ k. (a * 2 ^ k) % 2 ^ w) e

pub shr-result : (w a b c : ℕ) → c ≡ count_of w b → a / 2 ^ c ≡ result_of Shr w a b
unfolding result_of
shr-result w a b c e = ap (λ k. a / 2 ^ k) e

pub sar-result : (w a b c : ℕ) → c ≡ count_of w b → bits_of w (int_shr (signed w a) c) ≡ result_of Sar w a b
unfolding result_of
sar-result w a b c e = ap (λ k. bits_of w (int_shr (signed w a) k)) e

-- a signed number of 64 bits, shifted right, on its way through casts
shifted-fits : (z : ℤ) (k : ℕ) → FitsSigned w64 z → FitsSigned w64 (int_shr z k)
shifted-fits (pos a) k f = record { sfits = let b : a < 2 ^ 63 = f.sfits in omega (arith, shr_le a k) }
shifted-fits (negsuc a) k f = record { sfits = let b : a < 2 ^ 63 = f.sfits in omega (arith, shr_le a k) }

widened : (z : ℤ) → FitsSigned w64 z → FitsSigned w128 z
widened (pos a) f = record { sfits = let b : a < 2 ^ 63 = f.sfits in omega arith }
widened (negsuc a) f = record { sfits = let b : a < 2 ^ 63 = f.sfits in omega arith }

pub cast-shifted : (s z : ℤ) (k : ℕ) → FitsSigned w64 s → z ≡ to_z w64 (of_z w64 (int_shr (to_z w64 (of_z w64 s)) k)) → to_z w128 (of_z w128 z) ≡ int_shr s k
cast-shifted s z k f e =
    let shifted = shifted-fits s k f in
    let same : z ≡ int_shr s k = e ∙ ap (λ s. to_z w64 (of_z w64 (int_shr s k))) (to_z-of_z w64 s f) ∙ to_z-of_z w64 (int_shr s k) shifted in
    let P : ℤ → Type 0 = FitsSigned w128 in
    to_z-of_z w128 z (subst P (sym same) (widened (int_shr s k) shifted)) ∙ same

result_of-count : (w a b : ℕ) → IsTrue (word_ok w) → (result_of Shl w a (count_of w b) ≡ result_of Shl w a b) × (result_of Shr w a (count_of w b) ≡ result_of Shr w a b) × (result_of Sar w a (count_of w b) ≡ result_of Sar w a b)
unfolding result_of
result_of-count w a b h = let e = count_of-again w b h in (ap (λ k. (a * 2 ^ k) % 2 ^ w) e, ap (λ k. a / 2 ^ k) e, ap (λ k. bits_of w (int_shr (signed w a) k)) e)

-- ---- flags

by_none : (op : Operation) (w a c : ℕ) (before : Flags) → c ≡ 0 → before ≡ shift_flags op w a c before
by_none op w a c before e = sym (cond-true (c == 0) before (flags_of w (result_of op w a c) (moved_out op w a c) (shift_overflow op w a c)) (eq-eqb c 0 e))

by_some : (op : Operation) (w a c : ℕ) (before : Flags) → (c ≡ 0 → ⊥) → flags_of w (result_of op w a c) (moved_out op w a c) (shift_overflow op w a c) ≡ shift_flags op w a c before
by_some op w a c before n = sym (cond-false (c == 0) before (flags_of w (result_of op w a c) (moved_out op w a c) (shift_overflow op w a c)) (ne_eqb c 0 n))

-- a shift by a count that is 0 modulo the width leaves the flags
pub shl-kept : (w a b c : ℕ) (before : Flags) → c ≡ count_of w b → c ≡ 0 → before ≡ flags_after Shl w a b before
unfolding flags_after
shl-kept w a b c before e z = by_none Shl w a (count_of w b) before (sym e ∙ z)

pub shr-kept : (w a b c : ℕ) (before : Flags) → c ≡ count_of w b → c ≡ 0 → before ≡ flags_after Shr w a b before
unfolding flags_after
shr-kept w a b c before e z = by_none Shr w a (count_of w b) before (sym e ∙ z)

pub sar-kept : (w a b c : ℕ) (before : Flags) → c ≡ count_of w b → c ≡ 0 → before ≡ flags_after Sar w a b before
unfolding flags_after
sar-kept w a b c before e z = by_none Sar w a (count_of w b) before (sym e ∙ z)

flags_of-same : (w r s : ℕ) (p q x y : Bool) → r ≡ s → p ≡ q → x ≡ y → flags_of w r p x ≡ flags_of w s q y
flags_of-same w r s p q x y er ep ex = cc

pub shl-flags : (w a b c r : ℕ) (out over : Bool) (before : Flags) → IsTrue (word_ok w) → c ≡ count_of w b → (c ≡ 0 → ⊥) → r ≡ result_of Shl w a b → out ≡ has_bit (w - c) a → over ≡ (c == 1 && differ (is_negative w r) out) → flags_of w r out over ≡ flags_after Shl w a b before
unfolding flags_after moved_out shift_overflow
shl-flags w a b c r out over before h e n er eo ev =
    let k = count_of w b in
    let value : r ≡ result_of Shl w a k = er ∙ sym (result_of-count w a b h).0 in
    let moved : out ≡ has_bit (w - k) a = eo ∙ ap (λ k. has_bit (w - k) a) e in
    let overflow : over ≡ (k == 1 && differ (is_negative w (result_of Shl w a k)) (has_bit (w - k) a)) = cc in
    flags_of-same w r (result_of Shl w a k) out (moved_out Shl w a k) over (shift_overflow Shl w a k) value moved overflow ∙ by_some Shl w a k before (λ z. n (e ∙ z))

pub shr-flags : (w a b c r : ℕ) (out over : Bool) (before : Flags) → IsTrue (word_ok w) → c ≡ count_of w b → (c ≡ 0 → ⊥) → r ≡ result_of Shr w a b → out ≡ has_bit (c - 1) a → over ≡ (c == 1 && is_negative w a) → flags_of w r out over ≡ flags_after Shr w a b before
unfolding flags_after moved_out shift_overflow
shr-flags w a b c r out over before h e n er eo ev =
    let k = count_of w b in
    let value : r ≡ result_of Shr w a k = er ∙ sym (result_of-count w a b h).1 in
    let moved : out ≡ has_bit (k - 1) a = eo ∙ ap (λ k. has_bit (k - 1) a) e in
    let overflow : over ≡ (k == 1 && is_negative w a) = ev ∙ ap (λ k. k == 1 && is_negative w a) e in
    flags_of-same w r (result_of Shr w a k) out (moved_out Shr w a k) over (shift_overflow Shr w a k) value moved overflow ∙ by_some Shr w a k before (λ z. n (e ∙ z))

pub sar-flags : (w a b c r : ℕ) (out : Bool) (before : Flags) → IsTrue (word_ok w) → c ≡ count_of w b → (c ≡ 0 → ⊥) → r ≡ result_of Sar w a b → out ≡ has_bit (c - 1) a → flags_of w r out false ≡ flags_after Sar w a b before
unfolding flags_after moved_out shift_overflow
sar-flags w a b c r out before h e n er eo =
    let k = count_of w b in
    let value : r ≡ result_of Sar w a k = er ∙ sym (result_of-count w a b h).2 in
    let moved : out ≡ has_bit (k - 1) a = eo ∙ ap (λ k. has_bit (k - 1) a) e in
    flags_of-same w r (result_of Sar w a k) out (moved_out Sar w a k) false (shift_overflow Sar w a k) value moved refl ∙ by_some Sar w a k before (λ z. n (e ∙ z))
