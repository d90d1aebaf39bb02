-- Instructions on numbers give C's results.
use Rattle.std.specs.Prelude.{if◌then◌else◌, ℤ, pos, negsuc, ◌+ℤ◌}
use Rattle.std.proofs.Common.{◌≡◌, ℕ, suc, ◌+◌, ◌-◌, ◌*◌, ◌/◌, ◌%◌, ◌^◌, ◌<◌, Bool, true, false, cond, Option, Some, refl, arith, ap, ◌∙◌}
use Rattle.std.proofs.lemmas.Int.{ints}
use Rattle.std.proofs.lemmas.Bool.{cases_lt}
use Rattle.std.proofs.Common.{inl, inr}
use Rattle.std.specs.Prelude.{◌-ℤ◌}
use Rattle.mx_base.proofs.NumbersLemmas.{as_signed_low, as_signed_high}
use Rattle.mx_base.specs.declared.numbers.IntKind.{IntKind}
use Rattle.mx_base.specs.declared.numbers.IntKind.TheVariants.{I8, U8, I16, U16, I32, U32, I64, U64}
use Rattle.mx_base.specs.Numbers.{residue, as_signed, number_of, value_of, wrapped, word_of, extended}
use Rattle.mx_base.specs.declared.operators.Arithmetic.TheVariants.{Add, Sub}
use Rattle.mx_base.specs.Operators.{word_arithmetic, arithmetic}
use Rattle.x86_forms.specs.declared.instr.Instr.TheVariants.{AluTo, Imul, One, Wide, ShiftCl, Movzx, Set}
use Rattle.x86_forms.specs.Arithmetic as machine
use Rattle.x86_forms.specs.Arithmetic.{Flags, Operation, Cmp, holds, Or, And, Xor, Imul as Product, no_flags, low, flags_after, result_of, divided, divided_signed}
use Rattle.x86_forms.specs.Examples.{reg, in_reg}
use Rattle.x86_forms.specs.Processor.{Processor, part_written}
use Rattle.x86_forms.specs.Requests.{Ends}
use Rattle.x86_forms.specs.Table.{row, at_next, quotient_kept}
use Rattle.code_laws.specs.Views.{with_word}
use Rattle.step_code.specs.Steps.{extend_instr, is_narrow, shift_width, right_shift}
use Rattle.code_laws.proofs.Words.{by_words, by_shift}
use Rattle.code_laws.proofs.Operators.{right_operation, sign_word}
use Rattle.code_laws.specs.Seen.{Setting, IsSetting}
use Rattle.code_laws.proofs.Accessing.{signed_8, signed_16, signed_32, plain_8, plain_16, plain_32, plain_64, low_word}

-- the processor after an instruction on rax and rcx
abbrev pub after_word : (ℕ → ℕ → ℕ) → (Processor → Flags) → Processor → ℕ → Processor
after_word f flags c next = record (with_word (at_next c next) 0 (f (c.regs 0) (c.regs 1))) { flags = flags c }

abbrev pub sum : ℕ → ℕ → ℕ
sum a b = (a + b) % 2 ^ 64

abbrev pub diff : ℕ → ℕ → ℕ
diff a b = (a + 2 ^ 64 - b % 2 ^ 64) % 2 ^ 64

abbrev pub flags_by : Operation → Processor → Flags
flags_by op c = flags_after op 64 (low 64 (c.regs 0)) (low 64 (c.regs 1)) c.flags

pub add_row : (c : Processor) (next : ℕ) → row (AluTo 0 64 (reg 1) (in_reg 0)) next c ≡ Ends (after_word sum (flags_by machine.Add) c next)
unfolding row result_of part_written
add_row c next =
    let e : (c.regs 0 % 2 ^ 64 + c.regs 1 % 2 ^ 64) % 2 ^ 64 % 2 ^ 64 ≡ sum (c.regs 0) (c.regs 1) = omega arith in
    ap (λ (n : ℕ). Ends (record (with_word (at_next c next) 0 n) { flags = flags_by machine.Add c })) e

pub sub_row : (c : Processor) (next : ℕ) → row (AluTo 3 64 (reg 1) (in_reg 0)) next c ≡ Ends (after_word diff (flags_by machine.Sub) c next)
unfolding row result_of part_written
sub_row c next =
    let e : (c.regs 0 % 2 ^ 64 + (2 ^ 64 - c.regs 1 % 2 ^ 64)) % 2 ^ 64 % 2 ^ 64 ≡ diff (c.regs 0) (c.regs 1) = omega arith in
    ap (λ (n : ℕ). Ends (record (with_word (at_next c next) 0 n) { flags = flags_by machine.Sub c })) e

abbrev pub shift_flags_by : ℕ → Operation → Processor → Flags
shift_flags_by w op c = flags_after op w (low w (c.regs 0)) (low 8 (c.regs 1)) c.flags

pub and_row : (c : Processor) (next : ℕ) → row (AluTo 2 64 (reg 1) (in_reg 0)) next c ≡ Ends (after_word (by_words And) (flags_by And) c next)
unfolding row part_written
and_row c next = refl

pub or_row : (c : Processor) (next : ℕ) → row (AluTo 1 64 (reg 1) (in_reg 0)) next c ≡ Ends (after_word (by_words Or) (flags_by Or) c next)
unfolding row part_written
or_row c next = refl

pub xor_row : (c : Processor) (next : ℕ) → row (AluTo 4 64 (reg 1) (in_reg 0)) next c ≡ Ends (after_word (by_words Xor) (flags_by Xor) c next)
unfolding row part_written
xor_row c next = refl

pub imul_row : (c : Processor) (next : ℕ) → row (Imul 64 (reg 0) (in_reg 1)) next c ≡ Ends (after_word (by_words Product) (flags_by Product) c next)
unfolding row part_written
imul_row c next = refl

pub left_row : (kind : IntKind) (c : Processor) (next : ℕ) → row (ShiftCl 0 (shift_width kind) (in_reg 0)) next c ≡ Ends (after_word (by_shift (shift_width kind) machine.Shl) (shift_flags_by (shift_width kind) machine.Shl) c next)
unfolding row part_written
left_row kind c next = elim (is_narrow kind) as (λ b. row (ShiftCl 0 (cond b 32 64) (in_reg 0)) next c ≡ Ends (after_word (by_shift (cond b 32 64) machine.Shl) (shift_flags_by (cond b 32 64) machine.Shl) c next)) [ true ↦ refl | false ↦ refl ]

pub right_row : (kind : IntKind) (c : Processor) (next : ℕ) → row (ShiftCl (right_shift kind) (shift_width kind) (in_reg 0)) next c ≡ Ends (after_word (by_shift (shift_width kind) (right_operation kind)) (shift_flags_by (shift_width kind) (right_operation kind)) c next)
unfolding row part_written
right_row I8 c next = refl
right_row U8 c next = refl
right_row I16 c next = refl
right_row U16 c next = refl
right_row I32 c next = refl
right_row U32 c next = refl
right_row I64 c next = refl
right_row U64 c next = refl

module _ (S : Setting) (ok : IsSetting S) where
  pub extend_row : (kind : IntKind) (c : Processor) (next r : ℕ) → c.regs r < 2 ^ 64 → row (extend_instr kind r) next c ≡ Ends (with_word (at_next c next) r (extended kind (c.regs r)))
  unfolding row
  extend_row I8 c next r small = ap (λ (n : ℕ). Ends (with_word (at_next c next) r n)) (signed_8 S ok (c.regs r) (c.regs r))
  extend_row U8 c next r small = ap (λ (n : ℕ). Ends (with_word (at_next c next) r n)) (plain_8 S ok (c.regs r) (c.regs r))
  extend_row I16 c next r small = ap (λ (n : ℕ). Ends (with_word (at_next c next) r n)) (signed_16 S ok (c.regs r) (c.regs r))
  extend_row U16 c next r small = ap (λ (n : ℕ). Ends (with_word (at_next c next) r n)) (plain_16 S ok (c.regs r) (c.regs r))
  extend_row I32 c next r small = ap (λ (n : ℕ). Ends (with_word (at_next c next) r n)) (signed_32 S ok (c.regs r) (c.regs r))
  extend_row U32 c next r small = ap (λ (n : ℕ). Ends (with_word (at_next c next) r n)) (plain_32 S ok (c.regs r) (c.regs r))
  extend_row I64 c next r small = ap (λ (n : ℕ). Ends (with_word (at_next c next) r n)) (low_word S ok (c.regs r) (c.regs r) small)
  extend_row U64 c next r small = ap (λ (n : ℕ). Ends (with_word (at_next c next) r n)) (plain_64 S ok (c.regs r) (c.regs r))

-- ---- division

abbrev pub quotient_kept_in : Processor → ℕ → ℕ → ℕ → Processor
quotient_kept_in c next q r = record (with_word (with_word (at_next c next) 0 q) 2 r) { flags = no_flags }

pub kept_row : (c : Processor) (next : ℕ) (t : ℕ × ℕ) → quotient_kept c next 64 (Some t) ≡ Ends (quotient_kept_in c next (low 64 t.0) (low 64 t.1))
unfolding part_written
kept_row c next t = refl

pub div_row : (c : Processor) (next : ℕ) → row (One 2 64 (in_reg 1)) next c ≡ quotient_kept c next 64 (divided 64 (low 64 (c.regs 2)) (low 64 (c.regs 0)) (low 64 (c.regs 1)))
unfolding row
div_row c next = refl

pub idiv_row : (c : Processor) (next : ℕ) → row (One 3 64 (in_reg 1)) next c ≡ quotient_kept c next 64 (divided_signed 64 (low 64 (c.regs 2)) (low 64 (c.regs 0)) (low 64 (c.regs 1)))
unfolding row
idiv_row c next = refl

pub wide_row : (c : Processor) (next : ℕ) → row (Wide 64) next c ≡ Ends (with_word (at_next c next) 2 (sign_word (c.regs 0)))
unfolding row part_written
wide_row c next = refl

residue_pos : (m n : ℕ) → residue m (pos n) ≡ n % m
unfolding residue
residue_pos m n = refl

-- ---- sums modulo 2^8

once_8 : (z : ℤ) (n : ℕ) → z ≡ pos n -ℤ pos 256 → n < 512 → residue 256 z ≡ n % 256
unfolding residue
once_8 (pos k) n e small = let f : k + 256 ≡ n = omega (arith, ints) in omega arith
once_8 (negsuc k) n e small = let f : n + suc k ≡ 256 = omega (arith, ints) in omega arith

twice_8 : (z : ℤ) (n : ℕ) → z ≡ pos n -ℤ pos 512 → n < 512 → residue 256 z ≡ n % 256
unfolding residue
twice_8 (pos k) n e small = let f : k + 512 ≡ n = omega (arith, ints) in absurd (omega arith)
twice_8 (negsuc k) n e small = let f : n + suc k ≡ 512 = omega (arith, ints) in omega arith

sum_8 : (a b : ℕ) → a < 256 → b < 256 → residue 256 (as_signed 256 a +ℤ as_signed 256 b) ≡ (a + b) % 256
sum_8 a b small_a small_b = elim (cases_lt a 128) [
  | inl x ↦ elim (cases_lt b 128) [
    | inl y ↦ let e : residue 256 (pos a +ℤ pos b) ≡ (a + b) % 256 = residue_pos 256 (a + b) in rw (as_signed_low 256 a x, as_signed_low 256 b y) e
    | inr y ↦ rw (as_signed_low 256 a x, as_signed_high 256 b y) (once_8 (pos a +ℤ negsuc (256 - 1 - b)) (a + b) (omega (arith, ints)) (omega arith))
  ]
  | inr x ↦ elim (cases_lt b 128) [
    | inl y ↦ rw (as_signed_high 256 a x, as_signed_low 256 b y) (once_8 (negsuc (256 - 1 - a) +ℤ pos b) (a + b) (omega (arith, ints)) (omega arith))
    | inr y ↦ rw (as_signed_high 256 a x, as_signed_high 256 b y) (twice_8 (negsuc (256 - 1 - a) +ℤ negsuc (256 - 1 - b)) (a + b) (omega (arith, ints)) (omega arith))
  ]
]

-- ---- sums modulo 2^16

once_16 : (z : ℤ) (n : ℕ) → z ≡ pos n -ℤ pos 65536 → n < 131072 → residue 65536 z ≡ n % 65536
unfolding residue
once_16 (pos k) n e small = let f : k + 65536 ≡ n = omega (arith, ints) in omega arith
once_16 (negsuc k) n e small = let f : n + suc k ≡ 65536 = omega (arith, ints) in omega arith

twice_16 : (z : ℤ) (n : ℕ) → z ≡ pos n -ℤ pos 131072 → n < 131072 → residue 65536 z ≡ n % 65536
unfolding residue
twice_16 (pos k) n e small = let f : k + 131072 ≡ n = omega (arith, ints) in absurd (omega arith)
twice_16 (negsuc k) n e small = let f : n + suc k ≡ 131072 = omega (arith, ints) in omega arith

sum_16 : (a b : ℕ) → a < 65536 → b < 65536 → residue 65536 (as_signed 65536 a +ℤ as_signed 65536 b) ≡ (a + b) % 65536
sum_16 a b small_a small_b = elim (cases_lt a 32768) [
  | inl x ↦ elim (cases_lt b 32768) [
    | inl y ↦ let e : residue 65536 (pos a +ℤ pos b) ≡ (a + b) % 65536 = residue_pos 65536 (a + b) in rw (as_signed_low 65536 a x, as_signed_low 65536 b y) e
    | inr y ↦ rw (as_signed_low 65536 a x, as_signed_high 65536 b y) (once_16 (pos a +ℤ negsuc (65536 - 1 - b)) (a + b) (omega (arith, ints)) (omega arith))
  ]
  | inr x ↦ elim (cases_lt b 32768) [
    | inl y ↦ rw (as_signed_high 65536 a x, as_signed_low 65536 b y) (once_16 (negsuc (65536 - 1 - a) +ℤ pos b) (a + b) (omega (arith, ints)) (omega arith))
    | inr y ↦ rw (as_signed_high 65536 a x, as_signed_high 65536 b y) (twice_16 (negsuc (65536 - 1 - a) +ℤ negsuc (65536 - 1 - b)) (a + b) (omega (arith, ints)) (omega arith))
  ]
]

-- ---- sums modulo 2^32

once_32 : (z : ℤ) (n : ℕ) → z ≡ pos n -ℤ pos 4294967296 → n < 8589934592 → residue 4294967296 z ≡ n % 4294967296
unfolding residue
once_32 (pos k) n e small = let f : k + 4294967296 ≡ n = omega (arith, ints) in omega arith
once_32 (negsuc k) n e small = let f : n + suc k ≡ 4294967296 = omega (arith, ints) in omega arith

twice_32 : (z : ℤ) (n : ℕ) → z ≡ pos n -ℤ pos 8589934592 → n < 8589934592 → residue 4294967296 z ≡ n % 4294967296
unfolding residue
twice_32 (pos k) n e small = let f : k + 8589934592 ≡ n = omega (arith, ints) in absurd (omega arith)
twice_32 (negsuc k) n e small = let f : n + suc k ≡ 8589934592 = omega (arith, ints) in omega arith

sum_32 : (a b : ℕ) → a < 4294967296 → b < 4294967296 → residue 4294967296 (as_signed 4294967296 a +ℤ as_signed 4294967296 b) ≡ (a + b) % 4294967296
sum_32 a b small_a small_b = elim (cases_lt a 2147483648) [
  | inl x ↦ elim (cases_lt b 2147483648) [
    | inl y ↦ let e : residue 4294967296 (pos a +ℤ pos b) ≡ (a + b) % 4294967296 = residue_pos 4294967296 (a + b) in rw (as_signed_low 4294967296 a x, as_signed_low 4294967296 b y) e
    | inr y ↦ rw (as_signed_low 4294967296 a x, as_signed_high 4294967296 b y) (once_32 (pos a +ℤ negsuc (4294967296 - 1 - b)) (a + b) (omega (arith, ints)) (omega arith))
  ]
  | inr x ↦ elim (cases_lt b 2147483648) [
    | inl y ↦ rw (as_signed_high 4294967296 a x, as_signed_low 4294967296 b y) (once_32 (negsuc (4294967296 - 1 - a) +ℤ pos b) (a + b) (omega (arith, ints)) (omega arith))
    | inr y ↦ rw (as_signed_high 4294967296 a x, as_signed_high 4294967296 b y) (twice_32 (negsuc (4294967296 - 1 - a) +ℤ negsuc (4294967296 - 1 - b)) (a + b) (omega (arith, ints)) (omega arith))
  ]
]

-- ---- sums modulo 2^64

once_64 : (z : ℤ) (n : ℕ) → z ≡ pos n -ℤ pos 18446744073709551616 → n < 36893488147419103232 → residue 18446744073709551616 z ≡ n % 18446744073709551616
unfolding residue
once_64 (pos k) n e small = let f : k + 18446744073709551616 ≡ n = omega (arith, ints) in omega arith
once_64 (negsuc k) n e small = let f : n + suc k ≡ 18446744073709551616 = omega (arith, ints) in omega arith

twice_64 : (z : ℤ) (n : ℕ) → z ≡ pos n -ℤ pos 36893488147419103232 → n < 36893488147419103232 → residue 18446744073709551616 z ≡ n % 18446744073709551616
unfolding residue
twice_64 (pos k) n e small = let f : k + 36893488147419103232 ≡ n = omega (arith, ints) in absurd (omega arith)
twice_64 (negsuc k) n e small = let f : n + suc k ≡ 36893488147419103232 = omega (arith, ints) in omega arith

sum_64 : (a b : ℕ) → a < 18446744073709551616 → b < 18446744073709551616 → residue 18446744073709551616 (as_signed 18446744073709551616 a +ℤ as_signed 18446744073709551616 b) ≡ (a + b) % 18446744073709551616
sum_64 a b small_a small_b = elim (cases_lt a 9223372036854775808) [
  | inl x ↦ elim (cases_lt b 9223372036854775808) [
    | inl y ↦ let e : residue 18446744073709551616 (pos a +ℤ pos b) ≡ (a + b) % 18446744073709551616 = residue_pos 18446744073709551616 (a + b) in rw (as_signed_low 18446744073709551616 a x, as_signed_low 18446744073709551616 b y) e
    | inr y ↦ rw (as_signed_low 18446744073709551616 a x, as_signed_high 18446744073709551616 b y) (once_64 (pos a +ℤ negsuc (18446744073709551616 - 1 - b)) (a + b) (omega (arith, ints)) (omega arith))
  ]
  | inr x ↦ elim (cases_lt b 9223372036854775808) [
    | inl y ↦ rw (as_signed_high 18446744073709551616 a x, as_signed_low 18446744073709551616 b y) (once_64 (negsuc (18446744073709551616 - 1 - a) +ℤ pos b) (a + b) (omega (arith, ints)) (omega arith))
    | inr y ↦ rw (as_signed_high 18446744073709551616 a x, as_signed_high 18446744073709551616 b y) (twice_64 (negsuc (18446744073709551616 - 1 - a) +ℤ negsuc (18446744073709551616 - 1 - b)) (a + b) (omega (arith, ints)) (omega arith))
  ]
]

pub plus_is : (kind : IntKind) (x y : ℕ) → word_arithmetic Add kind x y ≡ Some (extended kind ((x + y) % 2 ^ 64))
unfolding word_arithmetic arithmetic extended wrapped value_of number_of
plus_is I8 x y = ap (λ (r : ℕ). let o : Option ℕ = Some (word_of (as_signed 256 r)) in o) (sum_8 (x % 256) (y % 256) (omega arith) (omega arith) ∙ (let e : (x % 256 + y % 256) % 256 ≡ (x + y) % 18446744073709551616 % 256 = omega arith in e))
plus_is U8 x y = ap (λ (r : ℕ). let o : Option ℕ = Some (word_of (pos r)) in o) (residue_pos 256 (x % 256 + y % 256) ∙ (let e : (x % 256 + y % 256) % 256 ≡ (x + y) % 18446744073709551616 % 256 = omega arith in e))
plus_is I16 x y = ap (λ (r : ℕ). let o : Option ℕ = Some (word_of (as_signed 65536 r)) in o) (sum_16 (x % 65536) (y % 65536) (omega arith) (omega arith) ∙ (let e : (x % 65536 + y % 65536) % 65536 ≡ (x + y) % 18446744073709551616 % 65536 = omega arith in e))
plus_is U16 x y = ap (λ (r : ℕ). let o : Option ℕ = Some (word_of (pos r)) in o) (residue_pos 65536 (x % 65536 + y % 65536) ∙ (let e : (x % 65536 + y % 65536) % 65536 ≡ (x + y) % 18446744073709551616 % 65536 = omega arith in e))
plus_is I32 x y = ap (λ (r : ℕ). let o : Option ℕ = Some (word_of (as_signed 4294967296 r)) in o) (sum_32 (x % 4294967296) (y % 4294967296) (omega arith) (omega arith) ∙ (let e : (x % 4294967296 + y % 4294967296) % 4294967296 ≡ (x + y) % 18446744073709551616 % 4294967296 = omega arith in e))
plus_is U32 x y = ap (λ (r : ℕ). let o : Option ℕ = Some (word_of (pos r)) in o) (residue_pos 4294967296 (x % 4294967296 + y % 4294967296) ∙ (let e : (x % 4294967296 + y % 4294967296) % 4294967296 ≡ (x + y) % 18446744073709551616 % 4294967296 = omega arith in e))
plus_is I64 x y = ap (λ (r : ℕ). let o : Option ℕ = Some (word_of (as_signed 18446744073709551616 r)) in o) (sum_64 (x % 18446744073709551616) (y % 18446744073709551616) (omega arith) (omega arith) ∙ (let e : (x % 18446744073709551616 + y % 18446744073709551616) % 18446744073709551616 ≡ (x + y) % 18446744073709551616 % 18446744073709551616 = omega arith in e))
plus_is U64 x y = ap (λ (r : ℕ). let o : Option ℕ = Some (word_of (pos r)) in o) (residue_pos 18446744073709551616 (x % 18446744073709551616 + y % 18446744073709551616) ∙ (let e : (x % 18446744073709551616 + y % 18446744073709551616) % 18446744073709551616 ≡ (x + y) % 18446744073709551616 % 18446744073709551616 = omega arith in e))

-- ---- differences

exact : (m : ℕ) (z : ℤ) (n : ℕ) → z ≡ pos n → residue m z ≡ n % m
exact m z n e = ap (residue m) e ∙ residue_pos m n

diff_8 : (a b : ℕ) → a < 256 → b < 256 → residue 256 (as_signed 256 a -ℤ as_signed 256 b) ≡ (a + 256 - b) % 256
diff_8 a b small_a small_b = elim (cases_lt a 128) [
  | inl x ↦ elim (cases_lt b 128) [
    | inl y ↦ rw (as_signed_low 256 a x, as_signed_low 256 b y) (once_8 (pos a -ℤ pos b) (a + 256 - b) (omega (arith, ints)) (omega arith))
    | inr y ↦ rw (as_signed_low 256 a x, as_signed_high 256 b y) (exact 256 (pos a -ℤ negsuc (256 - 1 - b)) (a + 256 - b) (omega (arith, ints)))
  ]
  | inr x ↦ elim (cases_lt b 128) [
    | inl y ↦ rw (as_signed_high 256 a x, as_signed_low 256 b y) (twice_8 (negsuc (256 - 1 - a) -ℤ pos b) (a + 256 - b) (omega (arith, ints)) (omega arith))
    | inr y ↦ rw (as_signed_high 256 a x, as_signed_high 256 b y) (once_8 (negsuc (256 - 1 - a) -ℤ negsuc (256 - 1 - b)) (a + 256 - b) (omega (arith, ints)) (omega arith))
  ]
]

diff_16 : (a b : ℕ) → a < 65536 → b < 65536 → residue 65536 (as_signed 65536 a -ℤ as_signed 65536 b) ≡ (a + 65536 - b) % 65536
diff_16 a b small_a small_b = elim (cases_lt a 32768) [
  | inl x ↦ elim (cases_lt b 32768) [
    | inl y ↦ rw (as_signed_low 65536 a x, as_signed_low 65536 b y) (once_16 (pos a -ℤ pos b) (a + 65536 - b) (omega (arith, ints)) (omega arith))
    | inr y ↦ rw (as_signed_low 65536 a x, as_signed_high 65536 b y) (exact 65536 (pos a -ℤ negsuc (65536 - 1 - b)) (a + 65536 - b) (omega (arith, ints)))
  ]
  | inr x ↦ elim (cases_lt b 32768) [
    | inl y ↦ rw (as_signed_high 65536 a x, as_signed_low 65536 b y) (twice_16 (negsuc (65536 - 1 - a) -ℤ pos b) (a + 65536 - b) (omega (arith, ints)) (omega arith))
    | inr y ↦ rw (as_signed_high 65536 a x, as_signed_high 65536 b y) (once_16 (negsuc (65536 - 1 - a) -ℤ negsuc (65536 - 1 - b)) (a + 65536 - b) (omega (arith, ints)) (omega arith))
  ]
]

diff_32 : (a b : ℕ) → a < 4294967296 → b < 4294967296 → residue 4294967296 (as_signed 4294967296 a -ℤ as_signed 4294967296 b) ≡ (a + 4294967296 - b) % 4294967296
diff_32 a b small_a small_b = elim (cases_lt a 2147483648) [
  | inl x ↦ elim (cases_lt b 2147483648) [
    | inl y ↦ rw (as_signed_low 4294967296 a x, as_signed_low 4294967296 b y) (once_32 (pos a -ℤ pos b) (a + 4294967296 - b) (omega (arith, ints)) (omega arith))
    | inr y ↦ rw (as_signed_low 4294967296 a x, as_signed_high 4294967296 b y) (exact 4294967296 (pos a -ℤ negsuc (4294967296 - 1 - b)) (a + 4294967296 - b) (omega (arith, ints)))
  ]
  | inr x ↦ elim (cases_lt b 2147483648) [
    | inl y ↦ rw (as_signed_high 4294967296 a x, as_signed_low 4294967296 b y) (twice_32 (negsuc (4294967296 - 1 - a) -ℤ pos b) (a + 4294967296 - b) (omega (arith, ints)) (omega arith))
    | inr y ↦ rw (as_signed_high 4294967296 a x, as_signed_high 4294967296 b y) (once_32 (negsuc (4294967296 - 1 - a) -ℤ negsuc (4294967296 - 1 - b)) (a + 4294967296 - b) (omega (arith, ints)) (omega arith))
  ]
]

diff_64 : (a b : ℕ) → a < 18446744073709551616 → b < 18446744073709551616 → residue 18446744073709551616 (as_signed 18446744073709551616 a -ℤ as_signed 18446744073709551616 b) ≡ (a + 18446744073709551616 - b) % 18446744073709551616
diff_64 a b small_a small_b = elim (cases_lt a 9223372036854775808) [
  | inl x ↦ elim (cases_lt b 9223372036854775808) [
    | inl y ↦ rw (as_signed_low 18446744073709551616 a x, as_signed_low 18446744073709551616 b y) (once_64 (pos a -ℤ pos b) (a + 18446744073709551616 - b) (omega (arith, ints)) (omega arith))
    | inr y ↦ rw (as_signed_low 18446744073709551616 a x, as_signed_high 18446744073709551616 b y) (exact 18446744073709551616 (pos a -ℤ negsuc (18446744073709551616 - 1 - b)) (a + 18446744073709551616 - b) (omega (arith, ints)))
  ]
  | inr x ↦ elim (cases_lt b 9223372036854775808) [
    | inl y ↦ rw (as_signed_high 18446744073709551616 a x, as_signed_low 18446744073709551616 b y) (twice_64 (negsuc (18446744073709551616 - 1 - a) -ℤ pos b) (a + 18446744073709551616 - b) (omega (arith, ints)) (omega arith))
    | inr y ↦ rw (as_signed_high 18446744073709551616 a x, as_signed_high 18446744073709551616 b y) (once_64 (negsuc (18446744073709551616 - 1 - a) -ℤ negsuc (18446744073709551616 - 1 - b)) (a + 18446744073709551616 - b) (omega (arith, ints)) (omega arith))
  ]
]

pub minus_is : (kind : IntKind) (x y : ℕ) → word_arithmetic Sub kind x y ≡ Some (extended kind (diff x y))
unfolding word_arithmetic arithmetic extended wrapped value_of number_of
minus_is I8 x y = ap (λ (r : ℕ). let o : Option ℕ = Some (word_of (as_signed 256 r)) in o) (diff_8 (x % 256) (y % 256) (omega arith) (omega arith) ∙ (let e : (x % 256 + 256 - y % 256) % 256 ≡ (x + 18446744073709551616 - y % 18446744073709551616) % 18446744073709551616 % 256 = omega arith in e))
minus_is U8 x y = ap (λ (r : ℕ). let o : Option ℕ = Some (word_of (pos r)) in o) (once_8 (pos (x % 256) -ℤ pos (y % 256)) (x % 256 + 256 - y % 256) (omega (arith, ints)) (omega arith) ∙ (let e : (x % 256 + 256 - y % 256) % 256 ≡ (x + 18446744073709551616 - y % 18446744073709551616) % 18446744073709551616 % 256 = omega arith in e))
minus_is I16 x y = ap (λ (r : ℕ). let o : Option ℕ = Some (word_of (as_signed 65536 r)) in o) (diff_16 (x % 65536) (y % 65536) (omega arith) (omega arith) ∙ (let e : (x % 65536 + 65536 - y % 65536) % 65536 ≡ (x + 18446744073709551616 - y % 18446744073709551616) % 18446744073709551616 % 65536 = omega arith in e))
minus_is U16 x y = ap (λ (r : ℕ). let o : Option ℕ = Some (word_of (pos r)) in o) (once_16 (pos (x % 65536) -ℤ pos (y % 65536)) (x % 65536 + 65536 - y % 65536) (omega (arith, ints)) (omega arith) ∙ (let e : (x % 65536 + 65536 - y % 65536) % 65536 ≡ (x + 18446744073709551616 - y % 18446744073709551616) % 18446744073709551616 % 65536 = omega arith in e))
minus_is I32 x y = ap (λ (r : ℕ). let o : Option ℕ = Some (word_of (as_signed 4294967296 r)) in o) (diff_32 (x % 4294967296) (y % 4294967296) (omega arith) (omega arith) ∙ (let e : (x % 4294967296 + 4294967296 - y % 4294967296) % 4294967296 ≡ (x + 18446744073709551616 - y % 18446744073709551616) % 18446744073709551616 % 4294967296 = omega arith in e))
minus_is U32 x y = ap (λ (r : ℕ). let o : Option ℕ = Some (word_of (pos r)) in o) (once_32 (pos (x % 4294967296) -ℤ pos (y % 4294967296)) (x % 4294967296 + 4294967296 - y % 4294967296) (omega (arith, ints)) (omega arith) ∙ (let e : (x % 4294967296 + 4294967296 - y % 4294967296) % 4294967296 ≡ (x + 18446744073709551616 - y % 18446744073709551616) % 18446744073709551616 % 4294967296 = omega arith in e))
minus_is I64 x y = ap (λ (r : ℕ). let o : Option ℕ = Some (word_of (as_signed 18446744073709551616 r)) in o) (diff_64 (x % 18446744073709551616) (y % 18446744073709551616) (omega arith) (omega arith) ∙ (let e : (x % 18446744073709551616 + 18446744073709551616 - y % 18446744073709551616) % 18446744073709551616 ≡ (x + 18446744073709551616 - y % 18446744073709551616) % 18446744073709551616 % 18446744073709551616 = omega arith in e))
minus_is U64 x y = ap (λ (r : ℕ). let o : Option ℕ = Some (word_of (pos r)) in o) (once_64 (pos (x % 18446744073709551616) -ℤ pos (y % 18446744073709551616)) (x % 18446744073709551616 + 18446744073709551616 - y % 18446744073709551616) (omega (arith, ints)) (omega arith) ∙ (let e : (x % 18446744073709551616 + 18446744073709551616 - y % 18446744073709551616) % 18446744073709551616 ≡ (x + 18446744073709551616 - y % 18446744073709551616) % 18446744073709551616 % 18446744073709551616 = omega arith in e))

-- ---- a comparison

abbrev pub compared_flags : Processor → Flags
compared_flags c = flags_after Cmp 64 (low 64 (c.regs 0)) (low 64 (c.regs 1)) c.flags

pub cmp_row : (c : Processor) (next : ℕ) → row (AluTo 5 64 (reg 1) (in_reg 0)) next c ≡ Ends (record (at_next c next) { flags = compared_flags c })
unfolding row
cmp_row c next = refl

abbrev pub with_low : ℕ → ℕ → ℕ
with_low old v = old / 256 * 256 + v % 256

pub set_row : (code : ℕ) (c : Processor) (next : ℕ) → row (Set code (in_reg 0)) next c ≡ Ends (with_word (at_next c next) 0 (with_low (c.regs 0) (if holds code c.flags then 1 else 0)))
unfolding row part_written
set_row code c next = refl

pub widen_row : (c : Processor) (next old : ℕ) (b : Bool) → c.regs 0 ≡ with_low old (if b then 1 else 0) → row (Movzx 8 (reg 0) (in_reg 0)) next c ≡ Ends (with_word (at_next c next) 0 (if b then 1 else 0))
unfolding row part_written
widen_row c next old true is = let e : c.regs 0 % 256 % 2 ^ 32 ≡ 1 = omega arith in ap (λ (n : ℕ). Ends (with_word (at_next c next) 0 n)) e
widen_row c next old false is = let e : c.regs 0 % 256 % 2 ^ 32 ≡ 0 = omega arith in ap (λ (n : ℕ). Ends (with_word (at_next c next) 0 n)) e
