-- What is written of each valid instruction is built again as that instruction.
use Rattle.std.proofs.Common.{◌≡◌, ℕ, ◌+◌, ◌-◌, ◌/◌, ◌%◌, ◌^◌, ◌<◌, Bool, true, false, true≢false, cond, not, IsTrue, Some, None, refl, sym, ap, subst, ◌∙◌, arith, nat_eq, nat_lt}
use Rattle.std.specs.Prelude.{◌&&◌, option_map, ℤ, pos, negsuc}
use Rattle.std.proofs.lemmas.Bool.{and_parts}
use Rattle.std.proofs.lemmas.Bool.Decides.{nat_tests}
use Rattle.mx_base.specs.declared.numbers.IntKind.TheVariants.{I8, I16, I32, I64}
use Rattle.mx_base.specs.Numbers.{residue, as_signed, number_of, wrapped}
use Rattle.x86_forms.specs.declared.instr.Instr.{Instr}
use Rattle.x86_forms.specs.declared.instr.Instr.TheVariants as ins
use Rattle.x86_forms.specs.declared.instr.Reg.{Reg}
use Rattle.x86_forms.specs.declared.instr.Mem.{Mem}
use Rattle.x86_forms.specs.declared.instr.Rm.{Rm}
use Rattle.x86_forms.specs.declared.instr.Rm.TheVariants.{Reg as InReg, Mem as InMem}
use Rattle.x86_forms.specs.Fits.{fits_8, fits_16, fits_32, fits_64, fits_count}
use Rattle.x86_forms.specs.Validity.{valid_of, width_ok, word_ok, narrow_ok, reg_ok, mem_ok, rm_ok, bnd_ok, bnd_rm_ok, is_not_rip, has_base_reg, condition_ok, imm_ok, mov_imm_ok}
use Rattle.asm_names.specs.declared.mnemonic.Mnemonic.TheVariants as m
use Rattle.disasm.specs.declared.operand.Operand.TheVariants.{Register, Bounds, Memory, Sized, Signed, Relative}
use Rattle.disasm.specs.Written.{plain, sized as shown_sized, bounds_or_memory, cl, written_of}
use Rattle.asm_text.specs.declared.parts.Operand.TheVariants as o
use Rattle.asm_text.specs.declared.parts.Target.{Target}
use Rattle.asm_text.specs.declared.parts.Choice.{Choice}
use Rattle.asm_text.specs.Instructions.{fit, beside, sized, taken, narrow, wide, count, field, has_field, to, alu_registers, alu_number, alu, mov_number, mov_registers, mov, test_operands, imul, movsxd, movzx, movsx, lea, one, shift_by, shift, set, push, pop, way_of, branch, call, jump, bndmov, unary, binary, may_be_prefixed, built}
use Rattle.listing_laws.proofs.Signed.{fits_wide}
use Rattle.listing_laws.proofs.Operands.{by_width, meant, is_operand}
use Rattle.listing_laws.proofs.Lines.{IsForm, NoOperands, OneOperand, TwoOperands}
use Rattle.listing_laws.proofs.Mnemonics.{is_mov, is_movsxd, is_movzx, is_movsx, is_lea, is_test, is_imul, is_cdq, is_cqo, is_push, is_pop, is_call, is_jmp, is_ret, is_syscall, is_ud2, is_nop, is_bndmk, is_bndcl, is_bndcu, is_bndcn, is_bndmov, is_bndldx, is_bndstx, is_alu, is_one, is_shift, is_set, is_jump}

-- ---- tests

three : (a b c : Bool) → (a && b && c) ≡ true → (a ≡ true) × (b ≡ true) × (c ≡ true)
three a b c h = let p = and_parts (a && b) c h in let q = and_parts a b p.0 in (q.0, q.1, p.1)

four : (a b c d : Bool) → (a && b && c && d) ≡ true → (a ≡ true) × (b ≡ true) × (c ≡ true) × (d ≡ true)
four a b c d h = let p = and_parts (a && b && c) d h in let q = three a b c p.0 in (q.0, q.1, q.2, p.1)

both : (a b : Bool) → a ≡ true → b ≡ true → (a && b) ≡ true
both a b h k = λ i. h i && k i

word_width : (w : ℕ) → word_ok w ≡ true → width_ok w ≡ true
word_width w h = grind (arith, nat_tests)

narrow_width : (w : ℕ) → narrow_ok w ≡ true → width_ok w ≡ true
narrow_width w h = grind (arith, nat_tests)

by_word : (P : ℕ → Type 0) → P 32 → P 64 → (w : ℕ) → word_ok w ≡ true → P w
by_word P a b w ok = by (nat_eq w 32) refl
  where
    by : (x : Bool) → nat_eq w 32 ≡ x → P w
    by true e = let same : 32 ≡ w = grind (arith, nat_tests, e) in subst P same a
    by false e = let same : 64 ≡ w = grind (arith, nat_tests, ok, e) in subst P same b

below : (n most : ℕ) → nat_lt n most ≡ true → n < most
below n most h = grind (arith, nat_tests)

condition_below : (op : ℕ) → condition_ok op ≡ true → op < 16
condition_below op ok = below op 16 (three (nat_lt op 16) (not (nat_eq op 10)) (not (nat_eq op 11)) ok).0

-- ---- numbers of a width stay as they are

stays_above : (m half n : ℕ) → m / 2 ≡ half → n % m ≡ n → nat_lt n half ≡ true → cond (nat_lt (n % m) (m / 2)) (pos (n % m)) (negsuc (m - 1 - n % m)) ≡ pos n
stays_above m half n h e f = (λ i. cond (nat_lt (e i) (h i)) (pos (e i)) (negsuc (m - 1 - e i))) ∙ ap (λ b. cond b (pos n) (negsuc (m - 1 - n))) f

stays_below : (m half n : ℕ) → m / 2 ≡ half → half + half ≡ m → n % m ≡ n → nat_lt n half ≡ true → cond (nat_lt (m - 1 - n % m) (m / 2)) (pos (m - 1 - n % m)) (negsuc (m - 1 - (m - 1 - n % m))) ≡ negsuc n
stays_below m half n h d e f =
    let small : n < half = below n half f in
    let upper : nat_lt (m - 1 - n) half ≡ false = grind (arith, nat_tests) in
    let again : m - 1 - (m - 1 - n) ≡ n = omega arith in
    (λ i. cond (nat_lt (m - 1 - e i) (h i)) (pos (m - 1 - e i)) (negsuc (m - 1 - (m - 1 - e i))))
    ∙ ap (λ b. cond b (pos (m - 1 - n)) (negsuc (m - 1 - (m - 1 - n)))) upper
    ∙ ap negsuc again

stays_8 : (z : ℤ) → fits_8 z ≡ true → wrapped I8 z ≡ z
unfolding wrapped number_of as_signed residue
stays_8 (pos n) f = let small : n < 128 = below n 128 f in stays_above 256 128 n refl (omega arith) f
stays_8 (negsuc n) f = let small : n < 128 = below n 128 f in stays_below 256 128 n refl refl (omega arith) f

stays_16 : (z : ℤ) → fits_16 z ≡ true → wrapped I16 z ≡ z
unfolding wrapped number_of as_signed residue
stays_16 (pos n) f = let small : n < 32768 = below n 32768 f in stays_above 65536 32768 n refl (omega arith) f
stays_16 (negsuc n) f = let small : n < 32768 = below n 32768 f in stays_below 65536 32768 n refl refl (omega arith) f

stays_32 : (z : ℤ) → fits_32 z ≡ true → wrapped I32 z ≡ z
unfolding wrapped number_of as_signed residue
stays_32 (pos n) f = let small : n < 2 ^ 31 = below n (2 ^ 31) f in stays_above 4294967296 2147483648 n refl (omega arith) f
stays_32 (negsuc n) f = let small : n < 2 ^ 31 = below n (2 ^ 31) f in stays_below 4294967296 2147483648 n refl refl (omega arith) f

stays_64 : (z : ℤ) → fits_64 z ≡ true → wrapped I64 z ≡ z
unfolding wrapped number_of as_signed residue
stays_64 (pos n) f = let small : n < 2 ^ 63 = below n (2 ^ 63) f in stays_above 18446744073709551616 9223372036854775808 n refl (omega arith) f
stays_64 (negsuc n) f = let small : n < 2 ^ 63 = below n (2 ^ 63) f in stays_below 18446744073709551616 9223372036854775808 n refl refl (omega arith) f

narrow_of : (w : ℕ) (z : ℤ) → taken w z ≡ z → fits_32 z ≡ true → narrow w (Some z) ≡ Some z
unfolding narrow
narrow_of w z e f = ap (λ y. cond (fits_32 y) (Some y) None) e ∙ ap (λ b. cond b (Some z) None) f

word_taken : (w : ℕ) (z : ℤ) → word_ok w ≡ true → fits_32 z ≡ true → narrow w (Some z) ≡ Some z
unfolding taken
word_taken w z ok f = narrow_of w z (by_word (λ (w : ℕ). taken w z ≡ z) (stays_32 z f) (stays_64 z (fits_wide z f)) w ok) f

fits_more_8 : (z : ℤ) → fits_8 z ≡ true → fits_32 z ≡ true
fits_more_8 (pos n) f = grind (arith, nat_tests)
fits_more_8 (negsuc n) f = grind (arith, nat_tests)

fits_more_16 : (z : ℤ) → fits_16 z ≡ true → fits_32 z ≡ true
fits_more_16 (pos n) f = grind (arith, nat_tests)
fits_more_16 (negsuc n) f = grind (arith, nat_tests)

-- the immediate of a move to memory
record IsTaken (w : ℕ) (z : ℤ) : Type 0 where
  same : narrow w (Some z) ≡ Some z
  fits : fits_64 z ≡ true

taken_narrow : (w : ℕ) (z : ℤ) → taken w z ≡ z → fits_32 z ≡ true → IsTaken w z
taken_narrow w z e f = record { same = narrow_of w z e f; fits = fits_wide z f }

imm_taken : (w : ℕ) (z : ℤ) → width_ok w ≡ true → imm_ok w z ≡ true → IsTaken w z
unfolding taken
imm_taken w z ok f =
    by_width (λ (w : ℕ). imm_ok w z ≡ true → IsTaken w z)
    (λ f. taken_narrow 8 z (stays_8 z f) (fits_more_8 z f))
    (λ f. taken_narrow 16 z (stays_16 z f) (fits_more_16 z f))
    (λ f. taken_narrow 32 z (stays_32 z f) f)
    (λ f. taken_narrow 64 z (stays_64 z (fits_wide z f)) f)
    w ok f

-- the immediate of a move to a register
record IsTakenWide (w : ℕ) (z : ℤ) : Type 0 where
  same : taken w z ≡ z
  fits : fits_64 z ≡ true

mov_taken : (w : ℕ) (z : ℤ) → word_ok w ≡ true → mov_imm_ok w z ≡ true → IsTakenWide w z
unfolding taken
mov_taken w z ok f =
    by_word (λ (w : ℕ). mov_imm_ok w z ≡ true → IsTakenWide w z)
    (λ f. record { same = stays_32 z f; fits = fits_wide z f })
    (λ f. record { same = stays_64 z f; fits = f })
    w ok f

-- the count of a shift

count_same : (w n : ℕ) → word_ok w ≡ true → nat_lt n 256 ≡ true → count w (Some (pos n)) ≡ Some (pos n)
unfolding count wrapped number_of residue
count_same w n ok f =
    let small : n < 256 = below n 256 f in
    let e : n % 4294967296 ≡ n = omega arith in
    let g : n % 18446744073709551616 ≡ n = omega arith in
    by_word (λ (w : ℕ). count w (Some (pos n)) ≡ Some (pos n))
    (ap (λ y. cond (nat_lt y 256) (Some (pos y)) None) e ∙ ap (λ b. cond b (Some (pos n)) None) f)
    (ap (λ y. cond (nat_lt y 256) (Some (pos y)) None) g ∙ ap (λ b. cond b (Some (pos n)) None) f)
    w ok

count_taken : (w : ℕ) (z : ℤ) → word_ok w ≡ true → fits_count z ≡ true → count w (Some z) ≡ Some z
count_taken w (pos n) ok f = count_same w n ok f
count_taken w (negsuc n) ok f = absurd (true≢false (sym f))

count_wide : (z : ℤ) → fits_count z ≡ true → fits_64 z ≡ true
count_wide (pos n) f = grind (arith, nat_tests)
count_wide (negsuc n) f = absurd (true≢false (sym f))

-- ---- operands

plain_ok : (w : ℕ) (rm : Rm) → width_ok w ≡ true → rm_ok rm ≡ true → is_operand (plain w rm) ≡ true
plain_ok w (InReg r) h k = both (width_ok w) (reg_ok r) h k
plain_ok w (InMem x) h k = k

sized_ok : (w : ℕ) (rm : Rm) → width_ok w ≡ true → rm_ok rm ≡ true → is_operand (shown_sized w rm) ≡ true
sized_ok w (InReg r) h k = both (width_ok w) (reg_ok r) h k
sized_ok w (InMem x) h k = both (width_ok w) (mem_ok x) h k

bounds_ok : (rm : Rm) → bnd_rm_ok rm ≡ true → is_operand (bounds_or_memory rm) ≡ true
bounds_ok (InReg r) h = h
bounds_ok (InMem x) h = h

register_ok : (w : ℕ) (r : Reg) → width_ok w ≡ true → reg_ok r ≡ true → is_operand (Register w r) ≡ true
register_ok w r h k = both (width_ok w) (reg_ok r) h k

-- ---- what is built

self : (w : ℕ) → nat_eq w w ≡ true
self w = grind (arith, nat_tests)

-- a register beside one of its width
same_width : (form : Target → Choice) (w : ℕ) (q : Reg) → option_map form (cond (nat_eq w w) (Some (record { w = w; rm = InReg q; fits = true })) None) ≡ Some (form (record { w = w; rm = InReg q; fits = true }))
same_width form w q = ap (λ b. option_map form (cond b (Some (record { w = w; rm = InReg q; fits = true })) None)) (self w)

mov_to : (w : ℕ) (r : Reg) (rm : Rm) → built false m.Mov (meant (plain w rm)).operand (o.Register w r) ≡ Some (fit (ins.MovTo w r rm) true)
unfolding built binary mov mov_registers to beside
mov_to w r (InReg q) = same_width (λ t. fit (ins.MovTo w r t.rm) t.fits) w q
mov_to w r (InMem x) = refl

mov_from : (w : ℕ) (r : Reg) (x : Mem) → built false m.Mov (o.Register w r) (o.Memory x true) ≡ Some (fit (ins.MovFrom w r x) true)
unfolding built binary mov mov_registers
mov_from w r x = refl

mov_mem_imm : (w : ℕ) (x : Mem) (z : ℤ) → narrow w (Some z) ≡ Some z → built false m.Mov (o.Sized w x true) (o.Number (Some z)) ≡ Some (fit (ins.MovMemImm w x z) true)
unfolding built binary mov mov_number
mov_mem_imm w x z e = ap (λ n. Some (fit (ins.MovMemImm w x (field n)) (true && has_field n))) e

mov_imm : (w : ℕ) (r : Reg) (z : ℤ) → taken w z ≡ z → built false m.Mov (o.Register w r) (o.Number (Some z)) ≡ Some (fit (ins.MovImm w r z) true)
unfolding built binary mov mov_number wide
mov_imm w r z e = ap (λ y. Some (fit (ins.MovImm w r y) true)) e

movsxd_of : (r : Reg) (rm : Rm) → built false m.Movsxd (o.Register 64 r) (meant (plain 32 rm)).operand ≡ Some (fit (ins.Movsxd r rm) true)
unfolding built binary movsxd beside
movsxd_of r (InReg q) = refl
movsxd_of r (InMem x) = refl

movzx_of : (from : ℕ) (r : Reg) (rm : Rm) → built false m.Movzx (o.Register 32 r) (meant (shown_sized from rm)).operand ≡ Some (fit (ins.Movzx from r rm) true)
unfolding built binary movzx sized
movzx_of from r (InReg q) = refl
movzx_of from r (InMem x) = refl

movsx_of : (w from : ℕ) (r : Reg) (rm : Rm) → built false m.Movsx (o.Register w r) (meant (shown_sized from rm)).operand ≡ Some (fit (ins.Movsx w from r rm) true)
unfolding built binary movsx sized
movsx_of w from r (InReg q) = refl
movsx_of w from r (InMem x) = refl

lea_of : (r : Reg) (x : Mem) → built false m.Lea (o.Register 64 r) (o.Memory x true) ≡ Some (fit (ins.Lea r x) true)
unfolding built binary lea
lea_of r x = refl

alu_to : (op w : ℕ) (r : Reg) (rm : Rm) → built false (m.Alu op) (meant (plain w rm)).operand (o.Register w r) ≡ Some (fit (ins.AluTo op w r rm) true)
unfolding built binary alu alu_registers to beside
alu_to op w r (InReg q) = same_width (λ t. fit (ins.AluTo op w r t.rm) t.fits) w q
alu_to op w r (InMem x) = refl

alu_from : (op w : ℕ) (r : Reg) (x : Mem) → built false (m.Alu op) (o.Register w r) (o.Memory x true) ≡ Some (fit (ins.AluFrom op w r x) true)
unfolding built binary alu alu_registers
alu_from op w r x = refl

alu_imm : (op w : ℕ) (rm : Rm) (z : ℤ) → narrow w (Some z) ≡ Some z → built false (m.Alu op) (meant (shown_sized w rm)).operand (o.Number (Some z)) ≡ Some (fit (ins.AluImm op w rm z) true)
unfolding built binary alu alu_number sized
alu_imm op w (InReg q) z e = ap (λ n. Some (fit (ins.AluImm op w (InReg q) (field n)) (true && has_field n))) e
alu_imm op w (InMem x) z e = ap (λ n. Some (fit (ins.AluImm op w (InMem x) (field n)) (true && has_field n))) e

test_of : (w : ℕ) (r : Reg) (rm : Rm) → built false m.Test (meant (plain w rm)).operand (o.Register w r) ≡ Some (fit (ins.Test w r rm) true)
unfolding built binary test_operands to beside
test_of w r (InReg q) = same_width (λ t. fit (ins.Test w r t.rm) t.fits) w q
test_of w r (InMem x) = refl

imul_of : (w : ℕ) (r : Reg) (rm : Rm) → built false m.Imul (o.Register w r) (meant (plain w rm)).operand ≡ Some (fit (ins.Imul w r rm) true)
unfolding built binary imul beside
imul_of w r (InReg q) = same_width (λ t. fit (ins.Imul w r t.rm) t.fits) w q
imul_of w r (InMem x) = refl

one_of : (op w : ℕ) (rm : Rm) → built false (m.One op) (meant (shown_sized w rm)).operand o.Nothing ≡ Some (fit (ins.One op w rm) true)
unfolding built unary one sized
one_of op w (InReg q) = refl
one_of op w (InMem x) = refl

shift_cl : (op w : ℕ) (rm : Rm) → built false (m.Shift op) (meant (shown_sized w rm)).operand (meant cl).operand ≡ Some (fit (ins.ShiftCl op w rm) true)
unfolding built binary shift shift_by sized
shift_cl op w (InReg q) = refl
shift_cl op w (InMem x) = refl

shift_imm : (op w : ℕ) (rm : Rm) (z : ℤ) → count w (Some z) ≡ Some z → built false (m.Shift op) (meant (shown_sized w rm)).operand (o.Number (Some z)) ≡ Some (fit (ins.ShiftImm op w rm z) true)
unfolding built binary shift shift_by sized
shift_imm op w (InReg q) z e = ap (λ n. Some (fit (ins.ShiftImm op w (InReg q) (field n)) (true && has_field n))) e
shift_imm op w (InMem x) z e = ap (λ n. Some (fit (ins.ShiftImm op w (InMem x) (field n)) (true && has_field n))) e

set_of : (op : ℕ) (rm : Rm) → built false (m.Set op) (meant (shown_sized 8 rm)).operand o.Nothing ≡ Some (fit (ins.Set op rm) true)
unfolding built unary set sized
set_of op (InReg q) = refl
set_of op (InMem x) = refl

push_of : (r : Reg) → built false m.Push (o.Register 64 r) o.Nothing ≡ Some (fit (ins.Push r) true)
unfolding built unary push
push_of r = refl

pop_of : (r : Reg) → built false m.Pop (o.Register 64 r) o.Nothing ≡ Some (fit (ins.Pop r) true)
unfolding built unary pop
pop_of r = refl

-- a branch whose number fits
way_fits : (form : ℤ → Instr) (z : ℤ) → fits_32 z ≡ true → branch form (o.Relative (Some z)) ≡ Some (fit (form z) true)
unfolding branch way_of
way_fits form z f = λ i. Some (fit (form (cond (f i) z (pos 0))) (f i))

call_rel : (p : Bool) (z : ℤ) → fits_32 z ≡ true → built p m.Call (o.Relative (Some z)) o.Nothing ≡ Some (fit (ins.CallRel p z) true)
unfolding built unary call may_be_prefixed
call_rel true z f = way_fits (ins.CallRel true) z f
call_rel false z f = way_fits (ins.CallRel false) z f

jmp_rel : (p : Bool) (z : ℤ) → fits_32 z ≡ true → built p m.Jmp (o.Relative (Some z)) o.Nothing ≡ Some (fit (ins.JmpRel p z) true)
unfolding built unary jump may_be_prefixed
jmp_rel true z f = way_fits (ins.JmpRel true) z f
jmp_rel false z f = way_fits (ins.JmpRel false) z f

jcc_of : (p : Bool) (op : ℕ) (z : ℤ) → fits_32 z ≡ true → built p (m.JumpIf op) (o.Relative (Some z)) o.Nothing ≡ Some (fit (ins.Jcc p op z) true)
unfolding built unary may_be_prefixed
jcc_of true op z f = way_fits (ins.Jcc true op) z f
jcc_of false op z f = way_fits (ins.Jcc false op) z f

call_rm : (p : Bool) (rm : Rm) → built p m.Call (meant (plain 64 rm)).operand o.Nothing ≡ Some (fit (ins.CallRm p rm) true)
unfolding built unary call may_be_prefixed
call_rm true (InReg q) = refl
call_rm true (InMem x) = refl
call_rm false (InReg q) = refl
call_rm false (InMem x) = refl

jmp_rm : (p : Bool) (rm : Rm) → built p m.Jmp (meant (plain 64 rm)).operand o.Nothing ≡ Some (fit (ins.JmpRm p rm) true)
unfolding built unary jump may_be_prefixed
jmp_rm true (InReg q) = refl
jmp_rm true (InMem x) = refl
jmp_rm false (InReg q) = refl
jmp_rm false (InMem x) = refl

ret_of : (p : Bool) → built p m.Ret o.Nothing o.Nothing ≡ Some (fit (ins.Ret p) true)
unfolding built unary may_be_prefixed
ret_of true = refl
ret_of false = refl

bndcl_of : (b : ℕ) (rm : Rm) → built false m.Bndcl (o.Bounds b) (meant (plain 64 rm)).operand ≡ Some (fit (ins.Bndcl b rm) true)
unfolding built binary beside
bndcl_of b (InReg q) = refl
bndcl_of b (InMem x) = refl

bndcu_of : (b : ℕ) (rm : Rm) → built false m.Bndcu (o.Bounds b) (meant (plain 64 rm)).operand ≡ Some (fit (ins.Bndcu b rm) true)
unfolding built binary beside
bndcu_of b (InReg q) = refl
bndcu_of b (InMem x) = refl

bndcn_of : (b : ℕ) (rm : Rm) → built false m.Bndcn (o.Bounds b) (meant (plain 64 rm)).operand ≡ Some (fit (ins.Bndcn b rm) true)
unfolding built binary beside
bndcn_of b (InReg q) = refl
bndcn_of b (InMem x) = refl

bndmov_from : (b : ℕ) (rm : Rm) → built false m.Bndmov (o.Bounds b) (meant (bounds_or_memory rm)).operand ≡ Some (fit (ins.BndmovFrom b rm) true)
unfolding built binary bndmov
bndmov_from b (InReg q) = refl
bndmov_from b (InMem x) = refl

wide_of : (w : ℕ) → word_ok w ≡ true → IsForm (ins.Wide w) (written_of (ins.Wide w))
unfolding written_of built unary
wide_of w ok = by_word (λ (w : ℕ). IsForm (ins.Wide w) (written_of (ins.Wide w))) (record { mnemonic = is_cdq; operands = NoOperands; built = refl }) (record { mnemonic = is_cqo; operands = NoOperands; built = refl }) w ok

-- ---- every instruction

pub form : (i : Instr) → IsTrue (valid_of i) → IsForm i (written_of i)
unfolding written_of built unary binary bndmov
form (ins.MovTo w r rm) v =
    let p = three (width_ok w) (reg_ok r) (rm_ok rm) v in
    record { mnemonic = is_mov; operands = TwoOperands (plain w rm) (Register w r) (plain_ok w rm p.0 p.2) (register_ok w r p.0 p.1); built = mov_to w r rm }
form (ins.MovFrom w r x) v =
    let p = three (width_ok w) (reg_ok r) (mem_ok x) v in
    record { mnemonic = is_mov; operands = TwoOperands (Register w r) (Memory x) (register_ok w r p.0 p.1) p.2; built = mov_from w r x }
form (ins.MovMemImm w x z) v =
    let p = three (width_ok w) (mem_ok x) (imm_ok w z) v in
    let t = imm_taken w z p.0 p.2 in
    record { mnemonic = is_mov; operands = TwoOperands (Sized w x) (Signed z) (both (width_ok w) (mem_ok x) p.0 p.1) t.fits; built = mov_mem_imm w x z t.same }
form (ins.MovImm w r z) v =
    let p = three (word_ok w) (reg_ok r) (mov_imm_ok w z) v in
    let t = mov_taken w z p.0 p.2 in
    record { mnemonic = is_mov; operands = TwoOperands (Register w r) (Signed z) (register_ok w r (word_width w p.0) p.1) t.fits; built = mov_imm w r z t.same }
form (ins.Movsxd r rm) v =
    let p = and_parts (reg_ok r) (rm_ok rm) v in
    record { mnemonic = is_movsxd; operands = TwoOperands (Register 64 r) (plain 32 rm) p.0 (plain_ok 32 rm refl p.1); built = movsxd_of r rm }
form (ins.Movzx from r rm) v =
    let p = three (narrow_ok from) (reg_ok r) (rm_ok rm) v in
    record { mnemonic = is_movzx; operands = TwoOperands (Register 32 r) (shown_sized from rm) p.1 (sized_ok from rm (narrow_width from p.0) p.2); built = movzx_of from r rm }
form (ins.Movsx w from r rm) v =
    let p = four (word_ok w) (narrow_ok from) (reg_ok r) (rm_ok rm) v in
    record { mnemonic = is_movsx; operands = TwoOperands (Register w r) (shown_sized from rm) (register_ok w r (word_width w p.0) p.2) (sized_ok from rm (narrow_width from p.1) p.3); built = movsx_of w from r rm }
form (ins.Lea r x) v =
    let p = and_parts (reg_ok r) (mem_ok x) v in
    record { mnemonic = is_lea; operands = TwoOperands (Register 64 r) (Memory x) p.0 p.1; built = lea_of r x }
form (ins.AluTo op w r rm) v =
    let p = four (nat_lt op 6) (word_ok w) (reg_ok r) (rm_ok rm) v in
    let width = word_width w p.1 in
    record { mnemonic = is_alu op (below op 6 p.0); operands = TwoOperands (plain w rm) (Register w r) (plain_ok w rm width p.3) (register_ok w r width p.2); built = alu_to op w r rm }
form (ins.AluFrom op w r x) v =
    let p = four (nat_lt op 6) (word_ok w) (reg_ok r) (mem_ok x) v in
    record { mnemonic = is_alu op (below op 6 p.0); operands = TwoOperands (Register w r) (Memory x) (register_ok w r (word_width w p.1) p.2) p.3; built = alu_from op w r x }
form (ins.AluImm op w rm z) v =
    let p = four (nat_lt op 6) (word_ok w) (rm_ok rm) (fits_32 z) v in
    record { mnemonic = is_alu op (below op 6 p.0); operands = TwoOperands (shown_sized w rm) (Signed z) (sized_ok w rm (word_width w p.1) p.2) (fits_wide z p.3); built = alu_imm op w rm z (word_taken w z p.1 p.3) }
form (ins.Test w r rm) v =
    let p = three (word_ok w) (reg_ok r) (rm_ok rm) v in
    let width = word_width w p.0 in
    record { mnemonic = is_test; operands = TwoOperands (plain w rm) (Register w r) (plain_ok w rm width p.2) (register_ok w r width p.1); built = test_of w r rm }
form (ins.Imul w r rm) v =
    let p = three (word_ok w) (reg_ok r) (rm_ok rm) v in
    let width = word_width w p.0 in
    record { mnemonic = is_imul; operands = TwoOperands (Register w r) (plain w rm) (register_ok w r width p.1) (plain_ok w rm width p.2); built = imul_of w r rm }
form (ins.One op w rm) v =
    let p = three (nat_lt op 4) (word_ok w) (rm_ok rm) v in
    record { mnemonic = is_one op (below op 4 p.0); operands = OneOperand (shown_sized w rm) (sized_ok w rm (word_width w p.1) p.2); built = one_of op w rm }
form (ins.Wide w) v = wide_of w v
form (ins.ShiftCl op w rm) v =
    let p = three (nat_lt op 3) (word_ok w) (rm_ok rm) v in
    record { mnemonic = is_shift op (below op 3 p.0); operands = TwoOperands (shown_sized w rm) cl (sized_ok w rm (word_width w p.1) p.2) refl; built = shift_cl op w rm }
form (ins.ShiftImm op w rm z) v =
    let p = four (nat_lt op 3) (word_ok w) (rm_ok rm) (fits_count z) v in
    record { mnemonic = is_shift op (below op 3 p.0); operands = TwoOperands (shown_sized w rm) (Signed z) (sized_ok w rm (word_width w p.1) p.2) (count_wide z p.3); built = shift_imm op w rm z (count_taken w z p.1 p.3) }
form (ins.Set op rm) v =
    let p = and_parts (condition_ok op) (rm_ok rm) v in
    record { mnemonic = is_set op (condition_below op p.0) p.0; operands = OneOperand (shown_sized 8 rm) (sized_ok 8 rm refl p.1); built = set_of op rm }
form (ins.Push r) v = record { mnemonic = is_push; operands = OneOperand (Register 64 r) v; built = push_of r }
form (ins.Pop r) v = record { mnemonic = is_pop; operands = OneOperand (Register 64 r) v; built = pop_of r }
form (ins.CallRel p z) v = record { mnemonic = is_call; operands = OneOperand (Relative z) v; built = call_rel p z v }
form (ins.JmpRel p z) v = record { mnemonic = is_jmp; operands = OneOperand (Relative z) v; built = jmp_rel p z v }
form (ins.CallRm p rm) v = record { mnemonic = is_call; operands = OneOperand (plain 64 rm) (plain_ok 64 rm refl v); built = call_rm p rm }
form (ins.JmpRm p rm) v = record { mnemonic = is_jmp; operands = OneOperand (plain 64 rm) (plain_ok 64 rm refl v); built = jmp_rm p rm }
form (ins.Jcc p op z) v =
    let q = and_parts (condition_ok op) (fits_32 z) v in
    record { mnemonic = is_jump op (condition_below op q.0) q.0; operands = OneOperand (Relative z) q.1; built = jcc_of p op z q.1 }
form (ins.Ret p) v = record { mnemonic = is_ret; operands = NoOperands; built = ret_of p }
form ins.Syscall v = record { mnemonic = is_syscall; operands = NoOperands; built = refl }
form ins.Ud2 v = record { mnemonic = is_ud2; operands = NoOperands; built = refl }
form ins.Nop v = record { mnemonic = is_nop; operands = NoOperands; built = refl }
form (ins.Bndmk b x) v =
    let p = three (bnd_ok b) (mem_ok x) (is_not_rip x.base) v in
    record { mnemonic = is_bndmk; operands = TwoOperands (Bounds b) (Memory x) p.0 p.1; built = refl }
form (ins.Bndcl b rm) v =
    let p = and_parts (bnd_ok b) (rm_ok rm) v in
    record { mnemonic = is_bndcl; operands = TwoOperands (Bounds b) (plain 64 rm) p.0 (plain_ok 64 rm refl p.1); built = bndcl_of b rm }
form (ins.Bndcu b rm) v =
    let p = and_parts (bnd_ok b) (rm_ok rm) v in
    record { mnemonic = is_bndcu; operands = TwoOperands (Bounds b) (plain 64 rm) p.0 (plain_ok 64 rm refl p.1); built = bndcu_of b rm }
form (ins.Bndcn b rm) v =
    let p = and_parts (bnd_ok b) (rm_ok rm) v in
    record { mnemonic = is_bndcn; operands = TwoOperands (Bounds b) (plain 64 rm) p.0 (plain_ok 64 rm refl p.1); built = bndcn_of b rm }
form (ins.BndmovTo b x) v =
    let p = and_parts (bnd_ok b) (mem_ok x) v in
    record { mnemonic = is_bndmov; operands = TwoOperands (Memory x) (Bounds b) p.1 p.0; built = refl }
form (ins.BndmovFrom b rm) v =
    let p = and_parts (bnd_ok b) (bnd_rm_ok rm) v in
    record { mnemonic = is_bndmov; operands = TwoOperands (Bounds b) (bounds_or_memory rm) p.0 (bounds_ok rm p.1); built = bndmov_from b rm }
form (ins.Bndldx b x) v =
    let p = three (bnd_ok b) (mem_ok x) (has_base_reg x.base) v in
    record { mnemonic = is_bndldx; operands = TwoOperands (Bounds b) (Memory x) p.0 p.1; built = refl }
form (ins.Bndstx b x) v =
    let p = three (bnd_ok b) (mem_ok x) (has_base_reg x.base) v in
    record { mnemonic = is_bndstx; operands = TwoOperands (Memory x) (Bounds b) p.1 p.0; built = refl }
