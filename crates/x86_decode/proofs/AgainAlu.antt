-- Arithmetic is read again from its spellings.
use Rattle.std.proofs.Common.{◌≡◌, ◌<◌, ◌+◌, ◌*◌, ◌%◌, IsTrue, true, false, Bool, ℕ, arith, nat_lt, ℤ, pos, refl, ◌∙◌, ap}
use Rattle.std.specs.Prelude.{Some, ◌&&◌, if◌then◌else◌}
use Rattle.std.proofs.lemmas.Bool.{and_parts, cond_both, ltb-true}
use Rattle.std.proofs.lemmas.Grind.{common_steps}
use Rattle.x86_forms.specs.declared.instr.Instr.TheVariants as i
use Rattle.x86_forms.specs.declared.instr.Reg.{Reg}
use Rattle.x86_forms.specs.declared.instr.Mem.{Mem}
use Rattle.x86_forms.specs.declared.instr.Rm.{Rm}
use Rattle.x86_forms.specs.declared.instr.Rm.TheVariants.{Mem as InMem}
use Rattle.x86_forms.specs.Fits.{fits_8, fits_32, fits_count}
use Rattle.x86_forms.specs.Layout.{is_wide, alu_digit, one_digit, shift_digit, operands, one_byte, with_imm}
use Rattle.x86_forms.specs.Spelling.{bytes_of}
use Rattle.x86_forms.specs.Validity.{valid_of, rm_ok, mem_ok, reg_ok, word_ok, condition_ok}
use Rattle.x86_decode.specs.declared.rows.Row.TheVariants.{AluTo, AluFrom, AluImm, Test, Imul, One, ShiftCl, ShiftImm, Set}
use Rattle.x86_decode.specs.declared.states.State.TheVariants.{Start}
use Rattle.x86_decode.specs.declared.states.Next.TheVariants.{Go, End}
use Rattle.x86_decode.specs.Rows.{row_of, one_plain, two_plain, build, imm_len, is_bare, is_in_opcode, any_reg, takes, takes_reg, low_in_reg, low_in_rm, allows_rip, allows_no_base, digit_alu, digit_one, digit_shift}
use Rattle.x86_decode.specs.Steps.{key_of, imm_value, imm_fine}
use Rattle.x86_decode.proofs.Cases.{word_cases, each-at, below_16}
use Rattle.x86_decode.proofs.Feed.{feed}
use Rattle.x86_decode.proofs.ReadForms.{ReadsAgain, read_plain, any_rm, any_base, takes_register, takes_digit}
use Rattle.x86_decode.proofs.ReadImm.{HasImm, imm_0, imm_1, imm_4, signed_1, signed_4, count_1}
use Rattle.x86_decode.proofs.ReadModrm.{is_opcode}
use Rattle.x86_decode.proofs.ReadRex.{Takes}

-- the rows of the six operations
row-AluTo : (op w : ℕ) → op < 6 → word_ok w ≡ true → row_of 0 (is_wide w) false (key_of false (8 * alu_digit op + 1)) ≡ Some (AluTo op w)
unfolding row_of one_plain
row-AluTo op w h k =
    word_cases w (λ w. row_of 0 (is_wide w) false (key_of false (8 * alu_digit op + 1)) ≡ Some (AluTo op w)) k
    (each-at 6 op (λ o. row_of 0 false false (key_of false (8 * alu_digit o + 1)) ≡ Some (AluTo o 32)) ((((((tt, refl), refl), refl), refl), refl), refl) h)
    (each-at 6 op (λ o. row_of 0 true false (key_of false (8 * alu_digit o + 1)) ≡ Some (AluTo o 64)) ((((((tt, refl), refl), refl), refl), refl), refl) h)

row-AluFrom : (op w : ℕ) → op < 6 → word_ok w ≡ true → row_of 0 (is_wide w) false (key_of false (8 * alu_digit op + 3)) ≡ Some (AluFrom op w)
unfolding row_of one_plain
row-AluFrom op w h k =
    word_cases w (λ w. row_of 0 (is_wide w) false (key_of false (8 * alu_digit op + 3)) ≡ Some (AluFrom op w)) k
    (each-at 6 op (λ o. row_of 0 false false (key_of false (8 * alu_digit o + 3)) ≡ Some (AluFrom o 32)) ((((((tt, refl), refl), refl), refl), refl), refl) h)
    (each-at 6 op (λ o. row_of 0 true false (key_of false (8 * alu_digit o + 3)) ≡ Some (AluFrom o 64)) ((((((tt, refl), refl), refl), refl), refl), refl) h)

opcode-AluTo : (op : ℕ) → op < 6 → is_opcode (8 * alu_digit op + 1) ≡ true
opcode-AluTo op h = each-at 6 op (λ o. is_opcode (8 * alu_digit o + 1) ≡ true) ((((((tt, refl), refl), refl), refl), refl), refl) h

opcode-AluFrom : (op : ℕ) → op < 6 → is_opcode (8 * alu_digit op + 3) ≡ true
opcode-AluFrom op h = each-at 6 op (λ o. is_opcode (8 * alu_digit o + 3) ≡ true) ((((((tt, refl), refl), refl), refl), refl), refl) h

takes-AluTo : (op w : ℕ) (r : Reg) (rm : Rm) → r.0 < 16 → IsTrue (rm_ok rm) → Takes (AluTo op w) r.0 rm
unfolding is_bare is_in_opcode any_reg takes takes_reg allows_rip allows_no_base
takes-AluTo op w r rm h k = takes_register (AluTo op w) r.0 rm refl refl refl refl (any_rm (AluTo op w) rm (λ r. refl) refl refl) h k

alu_to : (op w : ℕ) (r : Reg) (rm : Rm) → op < 6 → word_ok w ≡ true → r.0 < 16 → IsTrue (rm_ok rm) → ReadsAgain (i.AluTo op w r rm)
unfolding build imm_len low_in_reg low_in_rm
alu_to op w r rm o v h k =
    read_plain (is_wide w) false (8 * alu_digit op + 1) (AluTo op w) r.0 rm 0 (pos 0) (opcode-AluTo op o) (row-AluTo op w o v) (takes-AluTo op w r rm h k) (λ d. imm_0 d (AluTo op w) r.0 rm refl)

pub again-AluTo : (op w : ℕ) (r : Reg) (rm : Rm) → IsTrue (valid_of (i.AluTo op w r rm)) → ReadsAgain (i.AluTo op w r rm)
again-AluTo op w r rm v =
    let k = and_parts (nat_lt op 6 && word_ok w && reg_ok r) (rm_ok rm) v in let l = and_parts (nat_lt op 6 && word_ok w) (reg_ok r) k.0 in let m = and_parts (nat_lt op 6) (word_ok w) l.0 in
    alu_to op w r rm (ltb-true _ _ m.0) m.1 (ltb-true _ _ l.1) k.1

takes-AluFrom : (op w : ℕ) (r : Reg) (m : Mem) → r.0 < 16 → IsTrue (mem_ok m) → Takes (AluFrom op w) r.0 (InMem m)
unfolding is_bare is_in_opcode any_reg takes allows_rip allows_no_base
takes-AluFrom op w r m h k = takes_register (AluFrom op w) r.0 (InMem m) refl refl refl refl (any_base (AluFrom op w) m.base refl refl) h k

alu_from : (op w : ℕ) (r : Reg) (m : Mem) → op < 6 → word_ok w ≡ true → r.0 < 16 → IsTrue (mem_ok m) → ReadsAgain (i.AluFrom op w r m)
unfolding build imm_len low_in_reg low_in_rm
alu_from op w r m o v h k =
    read_plain (is_wide w) false (8 * alu_digit op + 3) (AluFrom op w) r.0 (InMem m) 0 (pos 0) (opcode-AluFrom op o) (row-AluFrom op w o v) (takes-AluFrom op w r m h k) (λ d. imm_0 d (AluFrom op w) r.0 (InMem m) refl)

pub again-AluFrom : (op w : ℕ) (r : Reg) (m : Mem) → IsTrue (valid_of (i.AluFrom op w r m)) → ReadsAgain (i.AluFrom op w r m)
again-AluFrom op w r m v =
    let k = and_parts (nat_lt op 6 && word_ok w && reg_ok r) (mem_ok m) v in let l = and_parts (nat_lt op 6 && word_ok w) (reg_ok r) k.0 in let n = and_parts (nat_lt op 6) (word_ok w) l.0 in
    alu_from op w r m (ltb-true _ _ n.0) n.1 (ltb-true _ _ l.1) k.1

-- an immediate of 8 or of 32 bits
row-AluImm : (w : ℕ) (long : Bool) → word_ok w ≡ true → row_of 0 (is_wide w) false (key_of false (if long then 0x81 else 0x83)) ≡ Some (AluImm w long)
unfolding row_of one_plain
row-AluImm w true k = word_cases w (λ w. row_of 0 (is_wide w) false 0x81 ≡ Some (AluImm w true)) k refl refl
row-AluImm w false k = word_cases w (λ w. row_of 0 (is_wide w) false 0x83 ≡ Some (AluImm w false)) k refl refl

takes-AluImm_code : (w : ℕ) (long : Bool) (op : ℕ) → op < 6 → takes (AluImm w long) (alu_digit op % 8) ≡ true
unfolding takes
takes-AluImm_code w long op h = each-at 6 op (λ o. takes (AluImm w long) (alu_digit o % 8) ≡ true) ((((((tt, refl), refl), refl), refl), refl), refl) h

alu_digit-lt : (op : ℕ) → alu_digit op < 8
alu_digit-lt op = grind (arith, common_steps)

takes-AluImm : (w : ℕ) (long : Bool) (op : ℕ) (rm : Rm) → op < 6 → IsTrue (rm_ok rm) → Takes (AluImm w long) (alu_digit op) rm
unfolding is_bare is_in_opcode takes_reg allows_rip allows_no_base
takes-AluImm w long op rm h k = takes_digit (AluImm w long) (alu_digit op) rm refl refl (takes-AluImm_code w long op h) (any_rm (AluImm w long) rm (λ r. refl) refl refl) (alu_digit-lt op) k

digit_alu-alu_digit : (op : ℕ) → op < 6 → digit_alu (alu_digit op) ≡ op
digit_alu-alu_digit op h = each-at 6 op (λ o. digit_alu (alu_digit o) ≡ o) ((((((tt, refl), refl), refl), refl), refl), refl) h

build-AluImm : (w : ℕ) (long : Bool) (op : ℕ) (rm : Rm) (imm : ℤ) → op < 6 → build (AluImm w long) (alu_digit op) rm imm ≡ i.AluImm op w rm imm
unfolding build
build-AluImm w long op rm imm h = ap (λ o. i.AluImm o w rm imm) (digit_alu-alu_digit op h)

long_fine : (w : ℕ) (imm : ℤ) → fits_8 imm ≡ false → imm_fine (AluImm w true) imm ≡ true
unfolding imm_fine
long_fine w imm f = simp f

has-AluImm_4 : (w : ℕ) (imm : ℤ) → IsTrue (fits_32 imm) → fits_8 imm ≡ false → HasImm (AluImm w true) 4 imm
unfolding imm_len imm_value
has-AluImm_4 w imm k f = record { bytes = refl; value = signed_4 imm k; fine = long_fine w imm f }

has-AluImm_1 : (w : ℕ) (imm : ℤ) → IsTrue (fits_8 imm) → HasImm (AluImm w false) 1 imm
unfolding imm_len imm_value imm_fine
has-AluImm_1 w imm k = record { bytes = refl; value = signed_1 imm k; fine = refl }

alu_long : (op w : ℕ) (rm : Rm) (imm : ℤ) → op < 6 → word_ok w ≡ true → IsTrue (rm_ok rm) → IsTrue (fits_32 imm) → fits_8 imm ≡ false → feed (bytes_of (with_imm (one_byte 0 (is_wide w) 0x81 (operands (alu_digit op) rm)) 4 imm)) (Go Start) ≡ End (i.AluImm op w rm imm)
unfolding low_in_reg low_in_rm
alu_long op w rm imm o v k f n =
    read_plain (is_wide w) false 0x81 (AluImm w true) (alu_digit op) rm 4 imm refl (row-AluImm w true v) (takes-AluImm w true op rm o k) (λ d. imm_4 d (AluImm w true) (alu_digit op) rm imm (has-AluImm_4 w imm f n))
    ∙ ap End (build-AluImm w true op rm imm o)

alu_short : (op w : ℕ) (rm : Rm) (imm : ℤ) → op < 6 → word_ok w ≡ true → IsTrue (rm_ok rm) → IsTrue (fits_8 imm) → feed (bytes_of (with_imm (one_byte 0 (is_wide w) 0x83 (operands (alu_digit op) rm)) 1 imm)) (Go Start) ≡ End (i.AluImm op w rm imm)
unfolding low_in_reg low_in_rm
alu_short op w rm imm o v k f =
    read_plain (is_wide w) false 0x83 (AluImm w false) (alu_digit op) rm 1 imm refl (row-AluImm w false v) (takes-AluImm w false op rm o k) (λ d. imm_1 d (AluImm w false) (alu_digit op) rm imm (has-AluImm_1 w imm f))
    ∙ ap End (build-AluImm w false op rm imm o)

alu_imm : (op w : ℕ) (rm : Rm) (imm : ℤ) → op < 6 → word_ok w ≡ true → IsTrue (rm_ok rm) → IsTrue (fits_32 imm) → ReadsAgain (i.AluImm op w rm imm)
alu_imm op w rm imm o v k f =
    cond_both (fits_8 imm) (with_imm (one_byte 0 (is_wide w) 0x83 (operands (alu_digit op) rm)) 1 imm) (with_imm (one_byte 0 (is_wide w) 0x81 (operands (alu_digit op) rm)) 4 imm) (λ l. feed (bytes_of l) (Go Start) ≡ End (i.AluImm op w rm imm))
    (λ e. alu_short op w rm imm o v k e) (λ e. alu_long op w rm imm o v k f e)

pub again-AluImm : (op w : ℕ) (rm : Rm) (imm : ℤ) → IsTrue (valid_of (i.AluImm op w rm imm)) → ReadsAgain (i.AluImm op w rm imm)
again-AluImm op w rm imm v =
    let k = and_parts (nat_lt op 6 && word_ok w && rm_ok rm) (fits_32 imm) v in let l = and_parts (nat_lt op 6 && word_ok w) (rm_ok rm) k.0 in let n = and_parts (nat_lt op 6) (word_ok w) l.0 in
    alu_imm op w rm imm (ltb-true _ _ n.0) n.1 l.1 k.1

takes-Test : (w : ℕ) (r : Reg) (rm : Rm) → r.0 < 16 → IsTrue (rm_ok rm) → Takes (Test w) r.0 rm
unfolding is_bare is_in_opcode any_reg takes takes_reg allows_rip allows_no_base
takes-Test w r rm h k = takes_register (Test w) r.0 rm refl refl refl refl (any_rm (Test w) rm (λ r. refl) refl refl) h k

test : (w : ℕ) (r : Reg) (rm : Rm) → word_ok w ≡ true → r.0 < 16 → IsTrue (rm_ok rm) → ReadsAgain (i.Test w r rm)
unfolding row_of one_plain build imm_len low_in_reg low_in_rm
test w r rm v h k =
    word_cases w (λ w. ReadsAgain (i.Test w r rm)) v
    (read_plain false false 0x85 (Test 32) r.0 rm 0 (pos 0) refl refl (takes-Test 32 r rm h k) (λ d. imm_0 d (Test 32) r.0 rm refl))
    (read_plain true false 0x85 (Test 64) r.0 rm 0 (pos 0) refl refl (takes-Test 64 r rm h k) (λ d. imm_0 d (Test 64) r.0 rm refl))

pub again-Test : (w : ℕ) (r : Reg) (rm : Rm) → IsTrue (valid_of (i.Test w r rm)) → ReadsAgain (i.Test w r rm)
again-Test w r rm v = test w r rm (grind (arith, common_steps)) (grind (arith, common_steps)) (grind (arith, common_steps))

takes-Imul : (w : ℕ) (r : Reg) (rm : Rm) → r.0 < 16 → IsTrue (rm_ok rm) → Takes (Imul w) r.0 rm
unfolding is_bare is_in_opcode any_reg takes takes_reg allows_rip allows_no_base
takes-Imul w r rm h k = takes_register (Imul w) r.0 rm refl refl refl refl (any_rm (Imul w) rm (λ r. refl) refl refl) h k

imul : (w : ℕ) (r : Reg) (rm : Rm) → word_ok w ≡ true → r.0 < 16 → IsTrue (rm_ok rm) → ReadsAgain (i.Imul w r rm)
unfolding row_of two_plain build imm_len low_in_reg low_in_rm
imul w r rm v h k =
    word_cases w (λ w. ReadsAgain (i.Imul w r rm)) v
    (read_plain false true 0xAF (Imul 32) r.0 rm 0 (pos 0) refl refl (takes-Imul 32 r rm h k) (λ d. imm_0 d (Imul 32) r.0 rm refl))
    (read_plain true true 0xAF (Imul 64) r.0 rm 0 (pos 0) refl refl (takes-Imul 64 r rm h k) (λ d. imm_0 d (Imul 64) r.0 rm refl))

pub again-Imul : (w : ℕ) (r : Reg) (rm : Rm) → IsTrue (valid_of (i.Imul w r rm)) → ReadsAgain (i.Imul w r rm)
again-Imul w r rm v = imul w r rm (grind (arith, common_steps)) (grind (arith, common_steps)) (grind (arith, common_steps))

-- one operand: the digit says which
takes-One : (w op : ℕ) (rm : Rm) → op < 4 → IsTrue (rm_ok rm) → Takes (One w) (one_digit op) rm
unfolding is_bare is_in_opcode takes takes_reg allows_rip allows_no_base
takes-One w op rm h k =
    takes_digit (One w) (one_digit op) rm refl refl (each-at 4 op (λ o. takes (One w) (one_digit o % 8) ≡ true) ((((tt, refl), refl), refl), refl) h) (any_rm (One w) rm (λ r. refl) refl refl) (grind (arith, common_steps)) k

build-One : (w op : ℕ) (rm : Rm) → op < 4 → build (One w) (one_digit op) rm (pos 0) ≡ i.One op w rm
unfolding build
build-One w op rm h = ap (λ o. i.One o w rm) (each-at 4 op (λ o. digit_one (one_digit o) ≡ o) ((((tt, refl), refl), refl), refl) h)

one : (op w : ℕ) (rm : Rm) → op < 4 → word_ok w ≡ true → IsTrue (rm_ok rm) → ReadsAgain (i.One op w rm)
unfolding row_of one_plain imm_len low_in_reg low_in_rm
one op w rm o v k =
    word_cases w (λ w. ReadsAgain (i.One op w rm)) v
    (read_plain false false 0xF7 (One 32) (one_digit op) rm 0 (pos 0) refl refl (takes-One 32 op rm o k) (λ d. imm_0 d (One 32) (one_digit op) rm refl) ∙ ap End (build-One 32 op rm o))
    (read_plain true false 0xF7 (One 64) (one_digit op) rm 0 (pos 0) refl refl (takes-One 64 op rm o k) (λ d. imm_0 d (One 64) (one_digit op) rm refl) ∙ ap End (build-One 64 op rm o))

pub again-One : (op w : ℕ) (rm : Rm) → IsTrue (valid_of (i.One op w rm)) → ReadsAgain (i.One op w rm)
again-One op w rm v =
    let k = and_parts (nat_lt op 4 && word_ok w) (rm_ok rm) v in let l = and_parts (nat_lt op 4) (word_ok w) k.0 in one op w rm (ltb-true _ _ l.0) l.1 k.1

-- shifts by cl and by an immediate
takes-ShiftCl : (w op : ℕ) (rm : Rm) → op < 3 → IsTrue (rm_ok rm) → Takes (ShiftCl w) (shift_digit op) rm
unfolding is_bare is_in_opcode takes takes_reg allows_rip allows_no_base
takes-ShiftCl w op rm h k =
    takes_digit (ShiftCl w) (shift_digit op) rm refl refl (each-at 3 op (λ o. takes (ShiftCl w) (shift_digit o % 8) ≡ true) (((tt, refl), refl), refl) h) (any_rm (ShiftCl w) rm (λ r. refl) refl refl) (grind (arith, common_steps)) k

digit_shift-shift_digit : (op : ℕ) → op < 3 → digit_shift (shift_digit op) ≡ op
digit_shift-shift_digit op h = each-at 3 op (λ o. digit_shift (shift_digit o) ≡ o) (((tt, refl), refl), refl) h

build-ShiftCl : (w op : ℕ) (rm : Rm) → op < 3 → build (ShiftCl w) (shift_digit op) rm (pos 0) ≡ i.ShiftCl op w rm
unfolding build
build-ShiftCl w op rm h = ap (λ o. i.ShiftCl o w rm) (digit_shift-shift_digit op h)

shift_cl : (op w : ℕ) (rm : Rm) → op < 3 → word_ok w ≡ true → IsTrue (rm_ok rm) → ReadsAgain (i.ShiftCl op w rm)
unfolding row_of one_plain imm_len low_in_reg low_in_rm
shift_cl op w rm o v k =
    word_cases w (λ w. ReadsAgain (i.ShiftCl op w rm)) v
    (read_plain false false 0xD3 (ShiftCl 32) (shift_digit op) rm 0 (pos 0) refl refl (takes-ShiftCl 32 op rm o k) (λ d. imm_0 d (ShiftCl 32) (shift_digit op) rm refl) ∙ ap End (build-ShiftCl 32 op rm o))
    (read_plain true false 0xD3 (ShiftCl 64) (shift_digit op) rm 0 (pos 0) refl refl (takes-ShiftCl 64 op rm o k) (λ d. imm_0 d (ShiftCl 64) (shift_digit op) rm refl) ∙ ap End (build-ShiftCl 64 op rm o))

pub again-ShiftCl : (op w : ℕ) (rm : Rm) → IsTrue (valid_of (i.ShiftCl op w rm)) → ReadsAgain (i.ShiftCl op w rm)
again-ShiftCl op w rm v =
    let k = and_parts (nat_lt op 3 && word_ok w) (rm_ok rm) v in let l = and_parts (nat_lt op 3) (word_ok w) k.0 in shift_cl op w rm (ltb-true _ _ l.0) l.1 k.1

takes-ShiftImm : (w op : ℕ) (rm : Rm) → op < 3 → IsTrue (rm_ok rm) → Takes (ShiftImm w) (shift_digit op) rm
unfolding is_bare is_in_opcode takes takes_reg allows_rip allows_no_base
takes-ShiftImm w op rm h k =
    takes_digit (ShiftImm w) (shift_digit op) rm refl refl (each-at 3 op (λ o. takes (ShiftImm w) (shift_digit o % 8) ≡ true) (((tt, refl), refl), refl) h) (any_rm (ShiftImm w) rm (λ r. refl) refl refl) (grind (arith, common_steps)) k

has-ShiftImm : (w : ℕ) (imm : ℤ) → IsTrue (fits_count imm) → HasImm (ShiftImm w) 1 imm
unfolding imm_len imm_value imm_fine
has-ShiftImm w imm k = record { bytes = refl; value = count_1 imm k; fine = refl }

build-ShiftImm : (w op : ℕ) (rm : Rm) (imm : ℤ) → op < 3 → build (ShiftImm w) (shift_digit op) rm imm ≡ i.ShiftImm op w rm imm
unfolding build
build-ShiftImm w op rm imm h = ap (λ o. i.ShiftImm o w rm imm) (digit_shift-shift_digit op h)

shift_imm : (op w : ℕ) (rm : Rm) (imm : ℤ) → op < 3 → word_ok w ≡ true → IsTrue (rm_ok rm) → IsTrue (fits_count imm) → ReadsAgain (i.ShiftImm op w rm imm)
unfolding row_of one_plain low_in_reg low_in_rm
shift_imm op w rm imm o v k f =
    word_cases w (λ w. ReadsAgain (i.ShiftImm op w rm imm)) v
    (read_plain false false 0xC1 (ShiftImm 32) (shift_digit op) rm 1 imm refl refl (takes-ShiftImm 32 op rm o k) (λ d. imm_1 d (ShiftImm 32) (shift_digit op) rm imm (has-ShiftImm 32 imm f)) ∙ ap End (build-ShiftImm 32 op rm imm o))
    (read_plain true false 0xC1 (ShiftImm 64) (shift_digit op) rm 1 imm refl refl (takes-ShiftImm 64 op rm o k) (λ d. imm_1 d (ShiftImm 64) (shift_digit op) rm imm (has-ShiftImm 64 imm f)) ∙ ap End (build-ShiftImm 64 op rm imm o))

pub again-ShiftImm : (op w : ℕ) (rm : Rm) (imm : ℤ) → IsTrue (valid_of (i.ShiftImm op w rm imm)) → ReadsAgain (i.ShiftImm op w rm imm)
again-ShiftImm op w rm imm v =
    let k = and_parts (nat_lt op 3 && word_ok w && rm_ok rm) (fits_count imm) v in let l = and_parts (nat_lt op 3 && word_ok w) (rm_ok rm) k.0 in let n = and_parts (nat_lt op 3) (word_ok w) l.0 in
    shift_imm op w rm imm (ltb-true _ _ n.0) n.1 l.1 k.1

-- a byte by a condition
takes-Set : (c : ℕ) (rm : Rm) → IsTrue (rm_ok rm) → Takes (Set c) 0 rm
unfolding is_bare is_in_opcode takes takes_reg allows_rip allows_no_base
takes-Set c rm k = takes_digit (Set c) 0 rm refl refl refl (any_rm (Set c) rm (λ r. refl) refl refl) (omega arith) k

row-Set : (c : ℕ) → c < 16 → condition_ok c ≡ true → row_of 0 false true (key_of true (0x90 + c)) ≡ Some (Set c)
unfolding row_of two_plain
row-Set c h = below_16 (λ c. condition_ok c ≡ true → row_of 0 false true (key_of true (0x90 + c)) ≡ Some (Set c)) (λ e. refl) (λ e. refl) (λ e. refl) (λ e. refl) (λ e. refl) (λ e. refl) (λ e. refl) (λ e. refl) (λ e. refl) (λ e. refl) (λ e. absurd (cc)) (λ e. absurd (cc)) (λ e. refl) (λ e. refl) (λ e. refl) (λ e. refl) c h

set : (c : ℕ) (rm : Rm) → c < 16 → condition_ok c ≡ true → IsTrue (rm_ok rm) → ReadsAgain (i.Set c rm)
unfolding build imm_len low_in_reg low_in_rm
set c rm h v k = read_plain false true (0x90 + c) (Set c) 0 rm 0 (pos 0) refl (row-Set c h v) (takes-Set c rm k) (λ d. imm_0 d (Set c) 0 rm refl)

pub again-Set : (c : ℕ) (rm : Rm) → IsTrue (valid_of (i.Set c rm)) → ReadsAgain (i.Set c rm)
again-Set c rm v = let k = and_parts (condition_ok c) (rm_ok rm) v in set c rm (grind (arith, common_steps)) k.0 k.1
