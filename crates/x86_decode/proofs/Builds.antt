-- The instruction of a row with ModRM is valid, and its layout has the row's parts.
use Rattle.std.proofs.Common.{◌≡◌, ◌<◌, ◌/◌, ◌%◌, IsTrue, true, false, Bool, ℕ, arith, nat_eq, nat_lt, ℤ, pos, refl, sym, subst, ap, ◌∙◌, inl, inr}
use Rattle.std.specs.Prelude.{if◌then◌else◌, ◌&&◌, ◌||◌, not, negsuc}
use Rattle.std.proofs.lemmas.Bool.{eqb-true, or_cases}
use Rattle.std.proofs.lemmas.Grind.{common_steps}
use Rattle.x86_forms.specs.declared.instr.Reg.{Reg}
use Rattle.x86_forms.specs.declared.instr.Base.{Base}
use Rattle.x86_forms.specs.declared.instr.Base.TheVariants.{None as NoBase, Reg as BaseReg, Rip}
use Rattle.x86_forms.specs.declared.instr.Rm.{Rm}
use Rattle.x86_forms.specs.declared.instr.Rm.TheVariants.{Reg as InReg, Mem as InMem}
use Rattle.x86_forms.specs.declared.layout.Layout.{Layout}
use Rattle.x86_forms.specs.Fits.{fits_8, fits_32, fits_64, fits_count}
use Rattle.x86_forms.specs.Layout.{layout_of, alu_digit, one_digit, shift_digit}
use Rattle.x86_forms.specs.Spelling.{is_zero}
use Rattle.x86_forms.specs.Validity.{valid_of, reg_ok, rm_ok, mem_ok, width_ok, word_ok, narrow_ok, condition_ok, bnd_ok, imm_ok, mov_imm_ok, is_not_rip, has_base_reg}
use Rattle.x86_decode.specs.declared.rows.Row.{Row}
use Rattle.x86_decode.specs.declared.rows.Row.TheVariants.{MovTo, MovFrom, MovMem, MovImm, Movsxd, Movzx, Movsx, Lea, AluTo, AluFrom, AluImm, Test, Imul, One, Wide, ShiftCl, ShiftImm, Set, Push, Pop, CallRel, JmpRel, Ff, Jcc, Ret, Syscall, Ud2, Nop, Bndmk, Bndcl, Bndcu, Bndcn, BndmovTo, BndmovFrom, Bndldx, Bndstx}
use Rattle.x86_decode.specs.Rows.{build, imm_len, is_bare, is_in_opcode, any_reg, takes, takes_reg, low_in_reg, low_in_rm, allows_rip, allows_no_base, digit_alu, digit_one, digit_shift}
use Rattle.x86_decode.specs.Steps.{imm_fine}
use Rattle.x86_decode.proofs.Keys.{key_of_row, row_ok}
use Rattle.x86_decode.proofs.ReadModrm.{layout_for}
use Rattle.x86_decode.proofs.ReadOperands.{rm_form, base_form}
use Rattle.x86_decode.proofs.ReadRex.{Takes}

-- the immediate is one that the row's field holds; 0 where there is none
abbrev pub imm_fits : Row → ℤ → Bool
imm_fits (MovMem w) z = imm_ok w z
imm_fits (MovImm w) z = mov_imm_ok w z
imm_fits (AluImm w long) z = if long then fits_32 z else fits_8 z
imm_fits (ShiftImm w) z = fits_count z
imm_fits (CallRel b) z = fits_32 z
imm_fits (JmpRel b) z = fits_32 z
imm_fits (Jcc b c) z = fits_32 z
imm_fits _ z = is_zero z

abbrev pub whole : Row → ℕ → Rm → ℤ → Layout
whole row g rm z = layout_for (key_of_row row).prefix (key_of_row row).wide (key_of_row row).escape (key_of_row row).opcode row g rm (imm_len row) z

pub record Builds (row : Row) (g : ℕ) (rm : Rm) (z : ℤ) : Type 0 where
  pub valid : IsTrue (valid_of (build row g rm z))
  pub layout : layout_of (build row g rm z) ≡ whole row g rm z

pub zero_is : (z : ℤ) → is_zero z ≡ true → z ≡ pos 0
zero_is (pos n) e = ap pos (eqb-true n 0 e)
zero_is (negsuc n) e = absurd (cc)

pub both : (a b : Bool) → a ≡ true → b ≡ true → (a && b) ≡ true
both a b h k = rw (h, k) refl

pub reg_small : (g : ℕ) → g < 16 → nat_lt g 16 ≡ true
reg_small g h = grind (arith, common_steps)

-- a digit or a bounds register has no high bit
digit_small : (g : ℕ) → (nat_eq (g / 8) 0 || false) ≡ true → g < 8
digit_small g h = grind (arith, common_steps)

digit_is : (g : ℕ) → g < 8 → g % 8 ≡ g
digit_is g h = omega arith

fits_32-fits_64 : (z : ℤ) → fits_32 z ≡ true → fits_64 z ≡ true
fits_32-fits_64 (pos n) h = grind (arith, common_steps)
fits_32-fits_64 (negsuc n) h = grind (arith, common_steps)

not_true : (b : Bool) → not b ≡ true → b ≡ false
not_true true h = absurd (cc)
not_true false h = refl

builds-MovTo : (w : ℕ) (g : ℕ) (rm : Rm) (z : ℤ) → row_ok (MovTo w) ≡ true → Takes (MovTo w) g rm → imm_fits (MovTo w) z ≡ true → Builds (MovTo w) g rm z
unfolding build low_in_reg low_in_rm imm_len
builds-MovTo w g rm z o t f = record {
  valid = both (width_ok w && nat_lt g 16) (rm_ok rm) (both (width_ok w) (nat_lt g 16) o (reg_small g t.small)) t.valid;
  layout = ap (λ y. whole (MovTo w) g rm y) (sym (zero_is z f));
}

builds-Movsxd : (g : ℕ) (rm : Rm) (z : ℤ) → row_ok Movsxd ≡ true → Takes Movsxd g rm → imm_fits Movsxd z ≡ true → Builds Movsxd g rm z
unfolding build low_in_reg low_in_rm imm_len
builds-Movsxd g rm z o t f = record {
  valid = both (nat_lt g 16) (rm_ok rm) (reg_small g t.small) t.valid;
  layout = ap (λ y. whole Movsxd g rm y) (sym (zero_is z f));
}

builds-Movzx : (v : ℕ) (g : ℕ) (rm : Rm) (z : ℤ) → row_ok (Movzx v) ≡ true → Takes (Movzx v) g rm → imm_fits (Movzx v) z ≡ true → Builds (Movzx v) g rm z
unfolding build low_in_reg low_in_rm imm_len
builds-Movzx v g rm z o t f = record {
  valid = both (narrow_ok v && nat_lt g 16) (rm_ok rm) (both (narrow_ok v) (nat_lt g 16) o (reg_small g t.small)) t.valid;
  layout = ap (λ y. whole (Movzx v) g rm y) (sym (zero_is z f));
}

builds-Movsx : (w : ℕ) (v : ℕ) (g : ℕ) (rm : Rm) (z : ℤ) → row_ok (Movsx w v) ≡ true → Takes (Movsx w v) g rm → imm_fits (Movsx w v) z ≡ true → Builds (Movsx w v) g rm z
unfolding build low_in_reg low_in_rm imm_len
builds-Movsx w v g rm z o t f = record {
  valid = both (word_ok w && narrow_ok v && nat_lt g 16) (rm_ok rm) (both (word_ok w && narrow_ok v) (nat_lt g 16) o (reg_small g t.small)) t.valid;
  layout = ap (λ y. whole (Movsx w v) g rm y) (sym (zero_is z f));
}

builds-AluTo : (op : ℕ) (w : ℕ) (g : ℕ) (rm : Rm) (z : ℤ) → row_ok (AluTo op w) ≡ true → Takes (AluTo op w) g rm → imm_fits (AluTo op w) z ≡ true → Builds (AluTo op w) g rm z
unfolding build low_in_reg low_in_rm imm_len
builds-AluTo op w g rm z o t f = record {
  valid = both (nat_lt op 6 && word_ok w && nat_lt g 16) (rm_ok rm) (both (nat_lt op 6 && word_ok w) (nat_lt g 16) o (reg_small g t.small)) t.valid;
  layout = ap (λ y. whole (AluTo op w) g rm y) (sym (zero_is z f));
}

builds-Test : (w : ℕ) (g : ℕ) (rm : Rm) (z : ℤ) → row_ok (Test w) ≡ true → Takes (Test w) g rm → imm_fits (Test w) z ≡ true → Builds (Test w) g rm z
unfolding build low_in_reg low_in_rm imm_len
builds-Test w g rm z o t f = record {
  valid = both (word_ok w && nat_lt g 16) (rm_ok rm) (both (word_ok w) (nat_lt g 16) o (reg_small g t.small)) t.valid;
  layout = ap (λ y. whole (Test w) g rm y) (sym (zero_is z f));
}

builds-Imul : (w : ℕ) (g : ℕ) (rm : Rm) (z : ℤ) → row_ok (Imul w) ≡ true → Takes (Imul w) g rm → imm_fits (Imul w) z ≡ true → Builds (Imul w) g rm z
unfolding build low_in_reg low_in_rm imm_len
builds-Imul w g rm z o t f = record {
  valid = both (word_ok w && nat_lt g 16) (rm_ok rm) (both (word_ok w) (nat_lt g 16) o (reg_small g t.small)) t.valid;
  layout = ap (λ y. whole (Imul w) g rm y) (sym (zero_is z f));
}

builds-MovFrom : (w : ℕ) (g : ℕ) (rm : Rm) (z : ℤ) → row_ok (MovFrom w) ≡ true → Takes (MovFrom w) g rm → imm_fits (MovFrom w) z ≡ true → Builds (MovFrom w) g rm z
unfolding build low_in_reg low_in_rm imm_len takes_reg
builds-MovFrom w g (InReg r) z o t f = let k = t.form in absurd (cc)
builds-MovFrom w g (InMem m) z o t f = record {
  valid = both (width_ok w && nat_lt g 16) (mem_ok m) (both (width_ok w) (nat_lt g 16) o (reg_small g t.small)) t.valid;
  layout = ap (λ y. whole (MovFrom w) g (InMem m) y) (sym (zero_is z f));
}

builds-Lea : (g : ℕ) (rm : Rm) (z : ℤ) → row_ok Lea ≡ true → Takes Lea g rm → imm_fits Lea z ≡ true → Builds Lea g rm z
unfolding build low_in_reg low_in_rm imm_len takes_reg
builds-Lea g (InReg r) z o t f = let k = t.form in absurd (cc)
builds-Lea g (InMem m) z o t f = record {
  valid = both (nat_lt g 16) (mem_ok m) (reg_small g t.small) t.valid;
  layout = ap (λ y. whole Lea g (InMem m) y) (sym (zero_is z f));
}

builds-AluFrom : (op : ℕ) (w : ℕ) (g : ℕ) (rm : Rm) (z : ℤ) → row_ok (AluFrom op w) ≡ true → Takes (AluFrom op w) g rm → imm_fits (AluFrom op w) z ≡ true → Builds (AluFrom op w) g rm z
unfolding build low_in_reg low_in_rm imm_len takes_reg
builds-AluFrom op w g (InReg r) z o t f = let k = t.form in absurd (cc)
builds-AluFrom op w g (InMem m) z o t f = record {
  valid = both (nat_lt op 6 && word_ok w && nat_lt g 16) (mem_ok m) (both (nat_lt op 6 && word_ok w) (nat_lt g 16) o (reg_small g t.small)) t.valid;
  layout = ap (λ y. whole (AluFrom op w) g (InMem m) y) (sym (zero_is z f));
}

-- the digit is 0
digit_0 : (g : ℕ) → (nat_eq (g / 8) 0 || false) ≡ true → nat_eq (g % 8) 0 ≡ true → g ≡ 0
digit_0 g h k = grind (arith, common_steps)

builds-MovMem_64 : (r : Reg) (z : ℤ) → IsTrue (rm_ok (InReg r)) → fits_32 z ≡ true → Builds (MovMem 64) 0 (InReg r) z
unfolding build low_in_reg low_in_rm imm_len
builds-MovMem_64 r z v f = record { valid = both (reg_ok r) (fits_64 z) v (fits_32-fits_64 z f); layout = rw f refl }

builds-MovMem_0 : (w : ℕ) (rm : Rm) (z : ℤ) → row_ok (MovMem w) ≡ true → rm_form (MovMem w) rm ≡ true → IsTrue (rm_ok rm) → imm_fits (MovMem w) z ≡ true → Builds (MovMem w) 0 rm z
unfolding build low_in_reg low_in_rm imm_len takes_reg
builds-MovMem_0 w (InReg r) z o k v f =
    subst (λ w. imm_fits (MovMem w) z ≡ true → Builds (MovMem w) 0 (InReg r) z) (sym (eqb-true w 64 k)) (λ f. builds-MovMem_64 r z v f) f
builds-MovMem_0 w (InMem m) z o k v f = record { valid = both (width_ok w && mem_ok m) (imm_ok w z) (both (width_ok w) (mem_ok m) o v) f; layout = refl }

builds-MovMem : (w g : ℕ) (rm : Rm) (z : ℤ) → row_ok (MovMem w) ≡ true → Takes (MovMem w) g rm → imm_fits (MovMem w) z ≡ true → Builds (MovMem w) g rm z
unfolding takes any_reg
builds-MovMem w g rm z o t f = subst (λ g. Builds (MovMem w) g rm z) (sym (digit_0 g t.high t.code)) (builds-MovMem_0 w rm z o t.form t.valid f)

-- the operation is in the digit
alu_digit-digit_alu : (g : ℕ) → g < 8 → (not (nat_eq g 2) && not (nat_eq g 3)) ≡ true → alu_digit (digit_alu g) ≡ g
alu_digit-digit_alu g k h = grind (arith, common_steps)

digit_alu-lt : (g : ℕ) → nat_lt (digit_alu g) 6 ≡ true
digit_alu-lt g = grind (arith, common_steps)

alu_taken : (g : ℕ) → g < 8 → (not (nat_eq (g % 8) 2) && not (nat_eq (g % 8) 3)) ≡ true → alu_digit (digit_alu g) ≡ g
alu_taken g k h = alu_digit-digit_alu g k (subst (λ n. (not (nat_eq n 2) && not (nat_eq n 3)) ≡ true) (digit_is g k) h)

fits_8-fits_32 : (z : ℤ) → fits_8 z ≡ true → fits_32 z ≡ true
fits_8-fits_32 (pos n) h = grind (arith, common_steps)
fits_8-fits_32 (negsuc n) h = grind (arith, common_steps)

builds-AluImm : (w : ℕ) (long : Bool) (g : ℕ) (rm : Rm) (z : ℤ) → row_ok (AluImm w long) ≡ true → Takes (AluImm w long) g rm → imm_fits (AluImm w long) z ≡ true → imm_fine (AluImm w long) z ≡ true → Builds (AluImm w long) g rm z
unfolding build low_in_reg low_in_rm imm_len takes any_reg imm_fine
builds-AluImm w true g rm z o t f k =
    let e : fits_8 z ≡ false = not_true (fits_8 z) k in
    let d : alu_digit (digit_alu g) ≡ g = alu_taken g (digit_small g t.high) t.code in
    record {
      valid = both (nat_lt (digit_alu g) 6 && word_ok w && rm_ok rm) (fits_32 z) (both (nat_lt (digit_alu g) 6 && word_ok w) (rm_ok rm) (both (nat_lt (digit_alu g) 6) (word_ok w) (digit_alu-lt g) o) t.valid) f;
      layout = simp (d, e);
    }
builds-AluImm w false g rm z o t f k =
    let d : alu_digit (digit_alu g) ≡ g = alu_taken g (digit_small g t.high) t.code in
    record {
      valid = both (nat_lt (digit_alu g) 6 && word_ok w && rm_ok rm) (fits_32 z) (both (nat_lt (digit_alu g) 6 && word_ok w) (rm_ok rm) (both (nat_lt (digit_alu g) 6) (word_ok w) (digit_alu-lt g) o) t.valid) (fits_8-fits_32 z f);
      layout = simp (d, f);
    }

one_digit-digit_one : (g : ℕ) → g < 8 → (nat_eq (g % 8) 2 || nat_eq (g % 8) 3 || nat_eq (g % 8) 6 || nat_eq (g % 8) 7) ≡ true → one_digit (digit_one g) ≡ g
one_digit-digit_one g h k = one_back g (subst (λ n. (nat_eq n 2 || nat_eq n 3 || nat_eq n 6 || nat_eq n 7) ≡ true) (digit_is g h) k)
  where
    one_back : (g : ℕ) → (nat_eq g 2 || nat_eq g 3 || nat_eq g 6 || nat_eq g 7) ≡ true → one_digit (digit_one g) ≡ g
    one_back g h = grind (arith, common_steps)

digit_one-lt : (g : ℕ) → nat_lt (digit_one g) 4 ≡ true
digit_one-lt g = grind (arith, common_steps)

builds-One : (w g : ℕ) (rm : Rm) (z : ℤ) → row_ok (One w) ≡ true → Takes (One w) g rm → imm_fits (One w) z ≡ true → Builds (One w) g rm z
unfolding build low_in_reg low_in_rm imm_len takes any_reg
builds-One w g rm z o t f = record {
  valid = both (nat_lt (digit_one g) 4 && word_ok w) (rm_ok rm) (both (nat_lt (digit_one g) 4) (word_ok w) (digit_one-lt g) o) t.valid;
  layout = rw (one_digit-digit_one g (digit_small g t.high) t.code) (ap (λ y. whole (One w) g rm y) (sym (zero_is z f)));
}

shift_digit-digit_shift : (g : ℕ) → g < 8 → (nat_eq (g % 8) 4 || nat_eq (g % 8) 5 || nat_eq (g % 8) 7) ≡ true → shift_digit (digit_shift g) ≡ g
shift_digit-digit_shift g h k = shift_back g (subst (λ n. (nat_eq n 4 || nat_eq n 5 || nat_eq n 7) ≡ true) (digit_is g h) k)
  where
    shift_back : (g : ℕ) → (nat_eq g 4 || nat_eq g 5 || nat_eq g 7) ≡ true → shift_digit (digit_shift g) ≡ g
    shift_back g h = grind (arith, common_steps)

digit_shift-lt : (g : ℕ) → nat_lt (digit_shift g) 3 ≡ true
digit_shift-lt g = grind (arith, common_steps)

builds-ShiftCl : (w g : ℕ) (rm : Rm) (z : ℤ) → row_ok (ShiftCl w) ≡ true → Takes (ShiftCl w) g rm → imm_fits (ShiftCl w) z ≡ true → Builds (ShiftCl w) g rm z
unfolding build low_in_reg low_in_rm imm_len takes any_reg
builds-ShiftCl w g rm z o t f = record {
  valid = both (nat_lt (digit_shift g) 3 && word_ok w) (rm_ok rm) (both (nat_lt (digit_shift g) 3) (word_ok w) (digit_shift-lt g) o) t.valid;
  layout = rw (shift_digit-digit_shift g (digit_small g t.high) t.code) (ap (λ y. whole (ShiftCl w) g rm y) (sym (zero_is z f)));
}

builds-ShiftImm : (w g : ℕ) (rm : Rm) (z : ℤ) → row_ok (ShiftImm w) ≡ true → Takes (ShiftImm w) g rm → imm_fits (ShiftImm w) z ≡ true → Builds (ShiftImm w) g rm z
unfolding build low_in_reg low_in_rm imm_len takes any_reg
builds-ShiftImm w g rm z o t f = record {
  valid = both (nat_lt (digit_shift g) 3 && word_ok w && rm_ok rm) (fits_count z) (both (nat_lt (digit_shift g) 3 && word_ok w) (rm_ok rm) (both (nat_lt (digit_shift g) 3) (word_ok w) (digit_shift-lt g) o) t.valid) f;
  layout = rw (shift_digit-digit_shift g (digit_small g t.high) t.code) refl;
}

builds-Set_0 : (c : ℕ) (rm : Rm) (z : ℤ) → row_ok (Set c) ≡ true → IsTrue (rm_ok rm) → imm_fits (Set c) z ≡ true → Builds (Set c) 0 rm z
unfolding build low_in_reg low_in_rm imm_len
builds-Set_0 c rm z o v f = record { valid = both (condition_ok c) (rm_ok rm) o v; layout = ap (λ y. whole (Set c) 0 rm y) (sym (zero_is z f)) }

builds-Set : (c g : ℕ) (rm : Rm) (z : ℤ) → row_ok (Set c) ≡ true → Takes (Set c) g rm → imm_fits (Set c) z ≡ true → Builds (Set c) g rm z
unfolding takes any_reg
builds-Set c g rm z o t f = subst (λ g. Builds (Set c) g rm z) (sym (digit_0 g t.high t.code)) (builds-Set_0 c rm z o t.valid f)

-- call or jmp
builds-Ff_2 : (b : Bool) (rm : Rm) (z : ℤ) → IsTrue (rm_ok rm) → imm_fits (Ff b) z ≡ true → Builds (Ff b) 2 rm z
unfolding build low_in_reg low_in_rm imm_len
builds-Ff_2 b rm z v f = record { valid = v; layout = ap (λ y. whole (Ff b) 2 rm y) (sym (zero_is z f)) }

builds-Ff_4 : (b : Bool) (rm : Rm) (z : ℤ) → IsTrue (rm_ok rm) → imm_fits (Ff b) z ≡ true → Builds (Ff b) 4 rm z
unfolding build low_in_reg low_in_rm imm_len
builds-Ff_4 b rm z v f = record { valid = v; layout = ap (λ y. whole (Ff b) 4 rm y) (sym (zero_is z f)) }

builds-Ff : (b : Bool) (g : ℕ) (rm : Rm) (z : ℤ) → row_ok (Ff b) ≡ true → Takes (Ff b) g rm → imm_fits (Ff b) z ≡ true → Builds (Ff b) g rm z
unfolding takes any_reg
builds-Ff b g rm z o t f =
    let s = digit_small g t.high in
    elim (or_cases (nat_eq (g % 8) 2) (nat_eq (g % 8) 4) t.code) [
      | inl e ↦ subst (λ g. Builds (Ff b) g rm z) (sym (sym (digit_is g s) ∙ eqb-true _ 2 e)) (builds-Ff_2 b rm z t.valid f)
      | inr e ↦ subst (λ g. Builds (Ff b) g rm z) (sym (sym (digit_is g s) ∙ eqb-true _ 4 e)) (builds-Ff_4 b rm z t.valid f)
    ]

-- bounds registers
bnd_small : (g : ℕ) → (nat_eq (g / 8) 0 || false) ≡ true → nat_lt (g % 8) 4 ≡ true → nat_lt g 4 ≡ true
bnd_small g h k = grind (arith, common_steps)

builds-Bndcl : (g : ℕ) (rm : Rm) (z : ℤ) → Takes Bndcl g rm → imm_fits Bndcl z ≡ true → Builds Bndcl g rm z
unfolding build low_in_reg low_in_rm imm_len takes any_reg
builds-Bndcl g rm z t f = record { valid = both (bnd_ok g) (rm_ok rm) (bnd_small g t.high t.code) t.valid; layout = ap (λ y. whole Bndcl g rm y) (sym (zero_is z f)) }

builds-Bndcu : (g : ℕ) (rm : Rm) (z : ℤ) → Takes Bndcu g rm → imm_fits Bndcu z ≡ true → Builds Bndcu g rm z
unfolding build low_in_reg low_in_rm imm_len takes any_reg
builds-Bndcu g rm z t f = record { valid = both (bnd_ok g) (rm_ok rm) (bnd_small g t.high t.code) t.valid; layout = ap (λ y. whole Bndcu g rm y) (sym (zero_is z f)) }

builds-Bndcn : (g : ℕ) (rm : Rm) (z : ℤ) → Takes Bndcn g rm → imm_fits Bndcn z ≡ true → Builds Bndcn g rm z
unfolding build low_in_reg low_in_rm imm_len takes any_reg
builds-Bndcn g rm z t f = record { valid = both (bnd_ok g) (rm_ok rm) (bnd_small g t.high t.code) t.valid; layout = ap (λ y. whole Bndcn g rm y) (sym (zero_is z f)) }

builds-BndmovFrom : (g : ℕ) (rm : Rm) (z : ℤ) → Takes BndmovFrom g rm → imm_fits BndmovFrom z ≡ true → Builds BndmovFrom g rm z
unfolding build low_in_reg low_in_rm imm_len takes takes_reg any_reg
builds-BndmovFrom g (InReg r) z t f = record { valid = both (bnd_ok g) (nat_lt r.0 4) (bnd_small g t.high t.code) t.form; layout = ap (λ y. whole BndmovFrom g (InReg r) y) (sym (zero_is z f)) }
builds-BndmovFrom g (InMem m) z t f = record { valid = both (bnd_ok g) (mem_ok m) (bnd_small g t.high t.code) t.valid; layout = ap (λ y. whole BndmovFrom g (InMem m) y) (sym (zero_is z f)) }

builds-BndmovTo : (g : ℕ) (rm : Rm) (z : ℤ) → Takes BndmovTo g rm → imm_fits BndmovTo z ≡ true → Builds BndmovTo g rm z
unfolding build low_in_reg low_in_rm imm_len takes takes_reg any_reg
builds-BndmovTo g (InReg r) z t f = let k = t.form in absurd (cc)
builds-BndmovTo g (InMem m) z t f = record { valid = both (bnd_ok g) (mem_ok m) (bnd_small g t.high t.code) t.valid; layout = ap (λ y. whole BndmovTo g (InMem m) y) (sym (zero_is z f)) }

not_rip : (b : Base) → base_form Bndmk b ≡ true → is_not_rip b ≡ true
unfolding allows_rip
not_rip NoBase h = refl
not_rip (BaseReg r) h = refl
not_rip Rip h = absurd (cc)

builds-Bndmk : (g : ℕ) (rm : Rm) (z : ℤ) → Takes Bndmk g rm → imm_fits Bndmk z ≡ true → Builds Bndmk g rm z
unfolding build low_in_reg low_in_rm imm_len takes takes_reg any_reg
builds-Bndmk g (InReg r) z t f = let k = t.form in absurd (cc)
builds-Bndmk g (InMem m) z t f = record {
  valid = both (bnd_ok g && mem_ok m) (is_not_rip m.base) (both (bnd_ok g) (mem_ok m) (bnd_small g t.high t.code) t.valid) (not_rip m.base t.form);
  layout = ap (λ y. whole Bndmk g (InMem m) y) (sym (zero_is z f));
}

reg_base-Bndldx : (b : Base) → base_form Bndldx b ≡ true → has_base_reg b ≡ true
unfolding allows_rip allows_no_base
reg_base-Bndldx NoBase h = absurd (cc)
reg_base-Bndldx (BaseReg r) h = refl
reg_base-Bndldx Rip h = absurd (cc)

builds-Bndldx : (g : ℕ) (rm : Rm) (z : ℤ) → Takes Bndldx g rm → imm_fits Bndldx z ≡ true → Builds Bndldx g rm z
unfolding build low_in_reg low_in_rm imm_len takes takes_reg any_reg
builds-Bndldx g (InReg r) z t f = let k = t.form in absurd (cc)
builds-Bndldx g (InMem m) z t f = record {
  valid = both (bnd_ok g && mem_ok m) (has_base_reg m.base) (both (bnd_ok g) (mem_ok m) (bnd_small g t.high t.code) t.valid) (reg_base-Bndldx m.base t.form);
  layout = ap (λ y. whole Bndldx g (InMem m) y) (sym (zero_is z f));
}

reg_base-Bndstx : (b : Base) → base_form Bndstx b ≡ true → has_base_reg b ≡ true
unfolding allows_rip allows_no_base
reg_base-Bndstx NoBase h = absurd (cc)
reg_base-Bndstx (BaseReg r) h = refl
reg_base-Bndstx Rip h = absurd (cc)

builds-Bndstx : (g : ℕ) (rm : Rm) (z : ℤ) → Takes Bndstx g rm → imm_fits Bndstx z ≡ true → Builds Bndstx g rm z
unfolding build low_in_reg low_in_rm imm_len takes takes_reg any_reg
builds-Bndstx g (InReg r) z t f = let k = t.form in absurd (cc)
builds-Bndstx g (InMem m) z t f = record {
  valid = both (bnd_ok g && mem_ok m) (has_base_reg m.base) (both (bnd_ok g) (mem_ok m) (bnd_small g t.high t.code) t.valid) (reg_base-Bndstx m.base t.form);
  layout = ap (λ y. whole Bndstx g (InMem m) y) (sym (zero_is z f));
}

pub builds : (row : Row) (g : ℕ) (rm : Rm) (z : ℤ) → row_ok row ≡ true → Takes row g rm → imm_fits row z ≡ true → imm_fine row z ≡ true → Builds row g rm z
unfolding is_bare is_in_opcode
builds (MovTo w) g rm z o t f k = builds-MovTo w g rm z o t f
builds (MovFrom w) g rm z o t f k = builds-MovFrom w g rm z o t f
builds (MovMem w) g rm z o t f k = builds-MovMem w g rm z o t f
builds (MovImm w) g rm z o t f k = let e = t.inside in absurd (cc)
builds Movsxd g rm z o t f k = builds-Movsxd g rm z o t f
builds (Movzx w) g rm z o t f k = builds-Movzx w g rm z o t f
builds (Movsx w h) g rm z o t f k = builds-Movsx w h g rm z o t f
builds Lea g rm z o t f k = builds-Lea g rm z o t f
builds (AluTo op w) g rm z o t f k = builds-AluTo op w g rm z o t f
builds (AluFrom op w) g rm z o t f k = builds-AluFrom op w g rm z o t f
builds (AluImm w long) g rm z o t f k = builds-AluImm w long g rm z o t f k
builds (Test w) g rm z o t f k = builds-Test w g rm z o t f
builds (Imul w) g rm z o t f k = builds-Imul w g rm z o t f
builds (One w) g rm z o t f k = builds-One w g rm z o t f
builds (Wide w) g rm z o t f k = let e = t.bare in absurd (cc)
builds (ShiftCl w) g rm z o t f k = builds-ShiftCl w g rm z o t f
builds (ShiftImm w) g rm z o t f k = builds-ShiftImm w g rm z o t f
builds (Set c) g rm z o t f k = builds-Set c g rm z o t f
builds Push g rm z o t f k = let e = t.inside in absurd (cc)
builds Pop g rm z o t f k = let e = t.inside in absurd (cc)
builds (CallRel b) g rm z o t f k = let e = t.bare in absurd (cc)
builds (JmpRel b) g rm z o t f k = let e = t.bare in absurd (cc)
builds (Ff b) g rm z o t f k = builds-Ff b g rm z o t f
builds (Jcc b c) g rm z o t f k = let e = t.bare in absurd (cc)
builds (Ret b) g rm z o t f k = let e = t.bare in absurd (cc)
builds Syscall g rm z o t f k = let e = t.bare in absurd (cc)
builds Ud2 g rm z o t f k = let e = t.bare in absurd (cc)
builds Nop g rm z o t f k = let e = t.bare in absurd (cc)
builds Bndmk g rm z o t f k = builds-Bndmk g rm z t f
builds Bndcl g rm z o t f k = builds-Bndcl g rm z t f
builds Bndcu g rm z o t f k = builds-Bndcu g rm z t f
builds Bndcn g rm z o t f k = builds-Bndcn g rm z t f
builds BndmovTo g rm z o t f k = builds-BndmovTo g rm z t f
builds BndmovFrom g rm z o t f k = builds-BndmovFrom g rm z t f
builds Bndldx g rm z o t f k = builds-Bndldx g rm z t f
builds Bndstx g rm z o t f k = builds-Bndstx g rm z t f
