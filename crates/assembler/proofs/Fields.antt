-- Where an operand has a name, the instruction has a field of four bytes for it.
use Rattle.std.proofs.Common.{◌≡◌, refl, sym, subst, ℕ, ◌+◌, ◌≤◌, Bool, true, false, cond, List, ◌∷◌, ◌++◌, length, Option, Some, None, inl, inr, arith}
use Rattle.std.specs.Prelude.{◌⊎◌, ◌&&◌, not, option_map, ℤ, nat_eq, ◌%◌}
use Rattle.std.proofs.lemmas.List.{length-append}
use Rattle.x86_forms.specs.declared.instr.Instr.{Instr}
use Rattle.x86_forms.specs.declared.instr.Instr.TheVariants as i
use Rattle.x86_forms.specs.declared.instr.Mem.{Mem}
use Rattle.x86_forms.specs.declared.instr.Reg.{Reg}
use Rattle.x86_forms.specs.declared.instr.Base.{Base}
use Rattle.x86_forms.specs.declared.instr.Base.TheVariants.{None as NoBase, Reg as BaseReg, Rip}
use Rattle.x86_forms.specs.declared.instr.Rm.{Rm}
use Rattle.x86_forms.specs.declared.instr.Rm.TheVariants.{Reg as InReg, Mem as InMem}
use Rattle.x86_forms.specs.declared.layout.Layout.{Layout}
use Rattle.x86_forms.specs.declared.layout.Operands.{Operands}
use Rattle.x86_forms.specs.declared.layout.Operands.TheVariants.{InOpcode, InModrm}
use Rattle.x86_forms.specs.Fits.{fits_8}
use Rattle.x86_forms.specs.Layout.{layout_of, mov_imm_len, is_wide, with_imm, one_byte, operands, alu_digit}
use Rattle.x86_forms.specs.Spelling.{bytes_of, low_bytes, modrm, sib, mod_of, disp_bytes, over_base, mem_bytes, rm_bytes, operand_bytes, prefix_bytes, rex_bytes, rex_bits, forces_rex, escape_bytes}
use Rattle.asm_names.specs.declared.mnemonic.Mnemonic.{Mnemonic}
use Rattle.asm_names.specs.declared.mnemonic.Mnemonic.TheVariants as m
use Rattle.asm_text.specs.declared.parts.Operand.{Operand}
use Rattle.asm_text.specs.declared.parts.Operand.TheVariants.{Nothing, Register, Bounds, Memory, Sized, Number, Symbol, Local}
use Rattle.asm_text.specs.declared.parts.Target.{Target}
use Rattle.asm_text.specs.declared.parts.Choice.{Choice}
use Rattle.asm_text.specs.Operands.{wide_field}
use Rattle.asm_text.specs.Lines.{behind_field, behind_operands}
use Rattle.asm_text.specs.Instructions.{beside, sized, to, alu_registers, alu_number, alu, mov_number, mov_symbol, mov_registers, mov, test_operands, imul, movsxd, movzx, movsx, lea, one, is_cl, shift_by, shift, set, push, pop, way_of, branch, call, jump, bndmov, fit, nullary, checking, with_memory, unary, binary, may_be_prefixed, built, narrow, field, count, option_then}
use Rattle.assembler.specs.Sound.{HasField}

-- ---- lengths

low_1 : (z : ℤ) → length (low_bytes 1 z) ≡ 1
unfolding low_bytes
low_1 z = refl

low_2 : (z : ℤ) → length (low_bytes 2 z) ≡ 2
unfolding low_bytes
low_2 z = refl

pub low_4 : (z : ℤ) → length (low_bytes 4 z) ≡ 4
unfolding low_bytes
low_4 z = refl

low_0 : (z : ℤ) → length (low_bytes 0 z) ≡ 0
unfolding low_bytes
low_0 z = refl

low_mov : (w : ℕ) (z : ℤ) → length (low_bytes (mov_imm_len w) z) ≡ mov_imm_len w
low_mov w z = by (nat_eq w 8) (nat_eq w 16)
  where
    by : (a b : Bool) → length (low_bytes (cond a 1 (cond b 2 4)) z) ≡ cond a 1 (cond b 2 4)
    by true b = low_1 z
    by false true = low_2 z
    by false false = low_4 z

-- the displacement that stands for a name has four bytes
over_long : (reg r : ℕ) (index : Option (Reg × ℕ)) → 5 ≤ length (over_base reg r index wide_field)
unfolding over_base mod_of disp_bytes low_bytes
over_long reg r None = by (nat_eq (r % 8) 4)
  where
    by : (b : Bool) → 5 ≤ length (cond b (modrm 2 reg 4 ∷ sib None r ∷ low_bytes 4 wide_field) (modrm 2 reg r ∷ low_bytes 4 wide_field))
    by true = omega arith
    by false = omega arith
over_long reg r (Some x) = omega arith

mem_long : (reg : ℕ) (base : Base) (index : Option (Reg × ℕ)) → 5 ≤ length (mem_bytes reg base index wide_field)
unfolding mem_bytes low_bytes
mem_long reg NoBase index = omega arith
mem_long reg Rip index = omega arith
mem_long reg (BaseReg r) index = over_long reg r.0 index

behind_front : (a b c d : List ℕ) (n : ℕ) → n ≤ length d → n ≤ length (a ++ (b ++ (c ++ d)))
behind_front a b c d n h = simp length-append (omega (arith, h))

-- an instruction with memory whose displacement stands for a name
in_memory : (l : Layout) (reg : ℕ) (low_reg : Bool) (m : Mem) (low_rm : Bool) → l.operands ≡ InModrm reg low_reg (InMem m) low_rm → m.disp ≡ wide_field
    → length (low_bytes l.imm_len l.imm) ≡ l.imm_len → behind_field l + 4 ≤ length (bytes_of l)
unfolding operand_bytes rm_bytes
in_memory l reg low_reg m low_rm shape wide imm =
    behind_front (prefix_bytes l.prefix) (rex_bytes (forces_rex l.operands) (rex_bits l.wide l.operands)) (escape_bytes l.escape) (operand_bytes l.opcode l.operands ++ low_bytes l.imm_len l.imm) (behind_field l + 4)
    (subst (λ (ops : Operands). behind_operands ops l.imm_len + 4 ≤ length (operand_bytes l.opcode ops ++ low_bytes l.imm_len l.imm)) (sym shape) inner)
  where
    long : 5 ≤ length (mem_bytes reg m.base m.index m.disp)
    long = subst (λ (z : ℤ). 5 ≤ length (mem_bytes reg m.base m.index z)) (sym wide) (mem_long reg m.base m.index)

    inner : l.imm_len + 4 ≤ length (operand_bytes l.opcode (InModrm reg low_reg (InMem m) low_rm) ++ low_bytes l.imm_len l.imm)
    inner = simp length-append (omega (arith, long, imm))

abbrev FieldIn : Layout → Type 0
FieldIn l = behind_field l + 4 ≤ length (bytes_of l)

-- a field that ends the instruction
at_end : (l : Layout) → behind_field l ≡ 0 → 4 ≤ length (low_bytes l.imm_len l.imm) → behind_field l + 4 ≤ length (bytes_of l)
at_end l none four =
    behind_front (prefix_bytes l.prefix) (rex_bytes (forces_rex l.operands) (rex_bits l.wide l.operands)) (escape_bytes l.escape) (operand_bytes l.opcode l.operands ++ low_bytes l.imm_len l.imm) (behind_field l + 4)
    (simp length-append (omega (arith, none, four)))

-- ---- forms

-- the operand has a name, so its place is wide
abbrev pub Carries : Operand → Type 0
Carries (Memory m fits) = m.disp ≡ wide_field
Carries (Sized w m fits) = m.disp ≡ wide_field
Carries Symbol = Unit {0}
Carries Local = Unit {0}
Carries x = ⊥

abbrev pub Holds : {A : Type 0} → (A → Type 0) → Option A → Type 0
Holds P (Some x) = P x
Holds P None = Unit {0}

abbrev pub Fielded : Choice → Type 0
Fielded c = HasField c.instr

abbrev IsWideRm : Rm → Type 0
IsWideRm (InMem m) = m.disp ≡ wide_field
IsWideRm (InReg r) = ⊥

abbrev IsWideTarget : Target → Type 0
IsWideTarget t = IsWideRm t.rm

-- forms with a register or memory
abbrev TakesRm : (Rm → Instr) → Type 0
TakesRm form = (m : Mem) → m.disp ≡ wide_field → HasField (form (InMem m))

held_if : {A : Type 0} (P : A → Type 0) (b : Bool) (x : Option A) → Holds P x → Holds P (cond b x None)
held_if P true x h = h
held_if P false x h = tt

at_wide : (form : Rm → Instr) → TakesRm form → (rm : Rm) → IsWideRm rm → HasField (form rm)
at_wide form takes (InMem m) wide = takes m wide
at_wide form takes (InReg r) wide = absurd wide

of_target : (o : Option Target) (f : Target → Choice) → Holds IsWideTarget o → ((t : Target) → IsWideTarget t → Fielded (f t)) → Holds Fielded (option_map f o)
of_target (Some t) f h all = all t h
of_target None f h all = tt

beside_wide : (w : ℕ) (a : Operand) → Carries a → Holds IsWideTarget (beside w a)
unfolding beside
beside_wide w (Register v r) h = absurd h
beside_wide w (Memory m fits) h = h
beside_wide w x h = tt

sized_wide : (a : Operand) → Carries a → Holds IsWideTarget (sized a)
unfolding sized
sized_wide (Register w r) h = absurd h
sized_wide (Sized w m fits) h = h
sized_wide x h = tt

in_movto : (w : ℕ) (r : Reg) → TakesRm (i.MovTo w r)
in_movto w r m h = in_memory (layout_of (i.MovTo w r (InMem m))) _ _ m _ refl h (low_0 _)

in_movfrom : (w : ℕ) (r : Reg) (m : Mem) → m.disp ≡ wide_field → HasField (i.MovFrom w r m)
in_movfrom w r m h = in_memory (layout_of (i.MovFrom w r m)) _ _ m _ refl h (low_0 _)

in_movmemimm : (w : ℕ) (m : Mem) (z : ℤ) → m.disp ≡ wide_field → HasField (i.MovMemImm w m z)
in_movmemimm w m z h = in_memory (layout_of (i.MovMemImm w m z)) _ _ m _ refl h (low_mov w z)

in_movimm : (w : ℕ) (r : Reg) → HasField (i.MovImm w r wide_field)
in_movimm w r = by (is_wide w)
  where
    by : (b : Bool) → FieldIn (cond b (with_imm (one_byte 0 true 0xC7 (operands 0 (InReg (record { 0 = r.0 })))) 4 wide_field) (with_imm (one_byte 0 false 0xB8 (InOpcode r.0)) 4 wide_field))
    by true = at_end (with_imm (one_byte 0 true 0xC7 (operands 0 (InReg (record { 0 = r.0 })))) 4 wide_field) refl (omega (arith, low_4 wide_field))
    by false = at_end (with_imm (one_byte 0 false 0xB8 (InOpcode r.0)) 4 wide_field) refl (omega (arith, low_4 wide_field))

in_movsxd : (r : Reg) → TakesRm (i.Movsxd r)
in_movsxd r m h = in_memory (layout_of (i.Movsxd r (InMem m))) _ _ m _ refl h (low_0 _)

in_movzx : (v : ℕ) (r : Reg) → TakesRm (i.Movzx v r)
in_movzx v r m h = in_memory (layout_of (i.Movzx v r (InMem m))) _ _ m _ refl h (low_0 _)

in_movsx : (w v : ℕ) (r : Reg) → TakesRm (i.Movsx w v r)
in_movsx w v r m h = in_memory (layout_of (i.Movsx w v r (InMem m))) _ _ m _ refl h (low_0 _)

in_lea : (r : Reg) (m : Mem) → m.disp ≡ wide_field → HasField (i.Lea r m)
in_lea r m h = in_memory (layout_of (i.Lea r m)) _ _ m _ refl h (low_0 _)

in_aluto : (op w : ℕ) (r : Reg) → TakesRm (i.AluTo op w r)
in_aluto op w r m h = in_memory (layout_of (i.AluTo op w r (InMem m))) _ _ m _ refl h (low_0 _)

in_alufrom : (op w : ℕ) (r : Reg) (m : Mem) → m.disp ≡ wide_field → HasField (i.AluFrom op w r m)
in_alufrom op w r m h = in_memory (layout_of (i.AluFrom op w r m)) _ _ m _ refl h (low_0 _)

in_aluimm : (op w : ℕ) (z : ℤ) → TakesRm (λ rm. i.AluImm op w rm z)
in_aluimm op w z m h = by (fits_8 z)
  where
    by : (b : Bool) → FieldIn (cond b (with_imm (one_byte 0 (is_wide w) 0x83 (operands (alu_digit op) (InMem m))) 1 z) (with_imm (one_byte 0 (is_wide w) 0x81 (operands (alu_digit op) (InMem m))) 4 z))
    by true = in_memory (with_imm (one_byte 0 (is_wide w) 0x83 (operands (alu_digit op) (InMem m))) 1 z) _ _ m _ refl h (low_1 z)
    by false = in_memory (with_imm (one_byte 0 (is_wide w) 0x81 (operands (alu_digit op) (InMem m))) 4 z) _ _ m _ refl h (low_4 z)

in_test : (w : ℕ) (r : Reg) → TakesRm (i.Test w r)
in_test w r m h = in_memory (layout_of (i.Test w r (InMem m))) _ _ m _ refl h (low_0 _)

in_imul : (w : ℕ) (r : Reg) → TakesRm (i.Imul w r)
in_imul w r m h = in_memory (layout_of (i.Imul w r (InMem m))) _ _ m _ refl h (low_0 _)

in_one : (op w : ℕ) → TakesRm (i.One op w)
in_one op w m h = in_memory (layout_of (i.One op w (InMem m))) _ _ m _ refl h (low_0 _)

in_shiftcl : (op w : ℕ) → TakesRm (i.ShiftCl op w)
in_shiftcl op w m h = in_memory (layout_of (i.ShiftCl op w (InMem m))) _ _ m _ refl h (low_0 _)

in_shiftimm : (op w : ℕ) (z : ℤ) → TakesRm (λ rm. i.ShiftImm op w rm z)
in_shiftimm op w z m h = in_memory (layout_of (i.ShiftImm op w (InMem m) z)) _ _ m _ refl h (low_1 _)

in_set : (op : ℕ) → TakesRm (i.Set op)
in_set op m h = in_memory (layout_of (i.Set op (InMem m))) _ _ m _ refl h (low_0 _)

in_callrm : (p : Bool) → TakesRm (i.CallRm p)
in_callrm p m h = in_memory (layout_of (i.CallRm p (InMem m))) _ _ m _ refl h (low_0 _)

in_jmprm : (p : Bool) → TakesRm (i.JmpRm p)
in_jmprm p m h = in_memory (layout_of (i.JmpRm p (InMem m))) _ _ m _ refl h (low_0 _)

in_bndcl : (b : ℕ) → TakesRm (i.Bndcl b)
in_bndcl b m h = in_memory (layout_of (i.Bndcl b (InMem m))) _ _ m _ refl h (low_0 _)

in_bndcu : (b : ℕ) → TakesRm (i.Bndcu b)
in_bndcu b m h = in_memory (layout_of (i.Bndcu b (InMem m))) _ _ m _ refl h (low_0 _)

in_bndcn : (b : ℕ) → TakesRm (i.Bndcn b)
in_bndcn b m h = in_memory (layout_of (i.Bndcn b (InMem m))) _ _ m _ refl h (low_0 _)

in_bndmk : (b : ℕ) (m : Mem) → m.disp ≡ wide_field → HasField (i.Bndmk b m)
in_bndmk b m h = in_memory (layout_of (i.Bndmk b m)) _ _ m _ refl h (low_0 _)

in_bndmovto : (b : ℕ) (m : Mem) → m.disp ≡ wide_field → HasField (i.BndmovTo b m)
in_bndmovto b m h = in_memory (layout_of (i.BndmovTo b m)) _ _ m _ refl h (low_0 _)

in_bndmovfrom : (b : ℕ) → TakesRm (i.BndmovFrom b)
in_bndmovfrom b m h = in_memory (layout_of (i.BndmovFrom b (InMem m))) _ _ m _ refl h (low_0 _)

in_bndldx : (b : ℕ) (m : Mem) → m.disp ≡ wide_field → HasField (i.Bndldx b m)
in_bndldx b m h = in_memory (layout_of (i.Bndldx b m)) _ _ m _ refl h (low_0 _)

in_bndstx : (b : ℕ) (m : Mem) → m.disp ≡ wide_field → HasField (i.Bndstx b m)
in_bndstx b m h = in_memory (layout_of (i.Bndstx b m)) _ _ m _ refl h (low_0 _)

in_call : (p : Bool) (z : ℤ) → HasField (i.CallRel p z)
in_call p z = at_end (layout_of (i.CallRel p z)) refl (omega (arith, low_4 z))

in_jmp : (p : Bool) (z : ℤ) → HasField (i.JmpRel p z)
in_jmp p z = at_end (layout_of (i.JmpRel p z)) refl (omega (arith, low_4 z))

in_jcc : (p : Bool) (op : ℕ) (z : ℤ) → HasField (i.Jcc p op z)
in_jcc p op z = at_end (layout_of (i.Jcc p op z)) refl (omega (arith, low_4 z))

-- ---- mnemonics

left : {A : Type 0} → A ⊎ ⊥ → A
left (inl a) = a
left (inr n) = absurd n

right : {A : Type 0} → ⊥ ⊎ A → A
right (inl n) = absurd n
right (inr a) = a

swapped : {A B : Type 0} → A ⊎ B → B ⊎ A
swapped (inl a) = inr a
swapped (inr b) = inl b

to_fields : (form : ℕ → Reg → Rm → Instr) → ((w : ℕ) (r : Reg) → TakesRm (form w r)) → (a b : Operand) → Carries a ⊎ Carries b → Holds Fielded (to form a b)
unfolding to
to_fields form takes a (Register w r) h = of_target (beside w a) _ (beside_wide w a (left h)) (λ t wide. at_wide (form w r) (takes w r) t.rm wide)
to_fields form takes a b h = tt

alu_registers_fields : (op : ℕ) (a b : Operand) → Carries a ⊎ Carries b → Holds Fielded (alu_registers op a b)
unfolding alu_registers
alu_registers_fields op (Register w r) (Memory m fits) h = in_alufrom op w r m (right h)
alu_registers_fields op a b h = to_fields (i.AluTo op) (in_aluto op) a b h

alu_number_fields : (op : ℕ) (a : Operand) (n : Option ℤ) → Carries a → Holds Fielded (alu_number op a n)
unfolding alu_number
alu_number_fields op a n h = of_target (sized a) _ (sized_wide a h) (λ t wide. at_wide (λ rm. i.AluImm op t.w rm (field (narrow t.w n))) (in_aluimm op t.w (field (narrow t.w n))) t.rm wide)

alu_fields : (op : ℕ) (a b : Operand) → Carries a ⊎ Carries b → Holds Fielded (alu op a b)
unfolding alu
alu_fields op a (Number n) h = alu_number_fields op a n (left h)
alu_fields op a b h = alu_registers_fields op a b h

mov_number_fields : (a : Operand) (n : Option ℤ) → Carries a → Holds Fielded (mov_number a n)
unfolding mov_number
mov_number_fields (Register w r) n h = absurd h
mov_number_fields (Sized w m fits) n h = in_movmemimm w m (field (narrow w n)) h
mov_number_fields a n h = tt

mov_symbol_fields : (a : Operand) → Holds Fielded (mov_symbol a)
unfolding mov_symbol
mov_symbol_fields (Register w r) = in_movimm w r
mov_symbol_fields a = tt

mov_registers_fields : (a b : Operand) → Carries a ⊎ Carries b → Holds Fielded (mov_registers a b)
unfolding mov_registers
mov_registers_fields (Register w r) (Memory m fits) h = in_movfrom w r m (right h)
mov_registers_fields a b h = to_fields i.MovTo in_movto a b h

mov_fields : (a b : Operand) → Carries a ⊎ Carries b → Holds Fielded (mov a b)
unfolding mov
mov_fields a (Number n) h = mov_number_fields a n (left h)
mov_fields a Symbol h = mov_symbol_fields a
mov_fields a b h = mov_registers_fields a b h

test_fields : (a b : Operand) → Carries a ⊎ Carries b → Holds Fielded (test_operands a b)
unfolding test_operands
test_fields a b h = to_fields i.Test in_test a b h

imul_fields : (a b : Operand) → Carries a ⊎ Carries b → Holds Fielded (imul a b)
unfolding imul
imul_fields (Register w r) b h = of_target (beside w b) _ (beside_wide w b (right h)) (λ t wide. at_wide (i.Imul w r) (in_imul w r) t.rm wide)
imul_fields a b h = tt

movsxd_fields : (a b : Operand) → Carries a ⊎ Carries b → Holds Fielded (movsxd a b)
unfolding movsxd
movsxd_fields (Register w r) b h = held_if Fielded (nat_eq w 64) _ (of_target (beside 32 b) _ (beside_wide 32 b (right h)) (λ t wide. at_wide (i.Movsxd r) (in_movsxd r) t.rm wide))
movsxd_fields a b h = tt

movzx_fields : (a b : Operand) → Carries a ⊎ Carries b → Holds Fielded (movzx a b)
unfolding movzx
movzx_fields (Register w r) b h = held_if Fielded (nat_eq w 32) _ (of_target (sized b) _ (sized_wide b (right h)) (λ t wide. at_wide (i.Movzx t.w r) (in_movzx t.w r) t.rm wide))
movzx_fields a b h = tt

movsx_fields : (a b : Operand) → Carries a ⊎ Carries b → Holds Fielded (movsx a b)
unfolding movsx
movsx_fields (Register w r) b h = of_target (sized b) _ (sized_wide b (right h)) (λ t wide. at_wide (i.Movsx w t.w r) (in_movsx w t.w r) t.rm wide)
movsx_fields a b h = tt

lea_fields : (a b : Operand) → Carries a ⊎ Carries b → Holds Fielded (lea a b)
unfolding lea
lea_fields (Register w r) (Memory m fits) h = held_if Fielded (nat_eq w 64) _ (in_lea r m (right h))
lea_fields a b h = tt

one_fields : (op : ℕ) (a : Operand) → Carries a → Holds Fielded (one op a)
unfolding one
one_fields op a h = of_target (sized a) _ (sized_wide a h) (λ t wide. at_wide (i.One op t.w) (in_one op t.w) t.rm wide)

shift_by_fields : (op : ℕ) (t : Target) (b : Operand) → IsWideTarget t ⊎ Carries b → Holds Fielded (shift_by op t b)
unfolding shift_by
shift_by_fields op t (Number n) h = at_wide (λ rm. i.ShiftImm op t.w rm (field (count t.w n))) (in_shiftimm op t.w (field (count t.w n))) t.rm (left h)
shift_by_fields op t (Register w r) h = held_if Fielded (is_cl w r) _ (at_wide (i.ShiftCl op t.w) (in_shiftcl op t.w) t.rm (left h))
shift_by_fields op t b h = tt

-- of a target, if there is one
then_fields : {B : Type 0} (o : Option Target) (f : Target → Option Choice) → Holds IsWideTarget o ⊎ B → ((t : Target) → IsWideTarget t ⊎ B → Holds Fielded (f t)) → Holds Fielded (option_then o f)
then_fields (Some t) f h all = all t h
then_fields None f h all = tt

shift_fields : (op : ℕ) (a b : Operand) → Carries a ⊎ Carries b → Holds Fielded (shift op a b)
unfolding shift
shift_fields op a b (inl h) = then_fields {B = Carries b} (sized a) (λ t. shift_by op t b) (inl (sized_wide a h)) (λ t wide. shift_by_fields op t b wide)
shift_fields op a b (inr h) = then_fields {B = Carries b} (sized a) (λ t. shift_by op t b) (inr h) (λ t wide. shift_by_fields op t b wide)

set_fields : (op : ℕ) (a : Operand) → Carries a → Holds Fielded (set op a)
unfolding set
set_fields op a h = then_fields {B = ⊥} (sized a) _ (inl (sized_wide a h)) (λ t wide. held_if Fielded (nat_eq t.w 8) _ (at_wide (i.Set op) (in_set op) t.rm (left wide)))

push_fields : (a : Operand) → Carries a → Holds Fielded (push a)
unfolding push
push_fields (Register w r) h = absurd h
push_fields a h = tt

pop_fields : (a : Operand) → Carries a → Holds Fielded (pop a)
unfolding pop
pop_fields (Register w r) h = absurd h
pop_fields a h = tt

branch_fields : (form : ℤ → Instr) → ((z : ℤ) → HasField (form z)) → (a : Operand) → Holds Fielded (branch form a)
unfolding branch
branch_fields form all a = by (way_of a)
  where
    by : (o : Option (ℤ × Bool)) → Holds Fielded (option_map (λ x. fit (form x.0) x.1) o)
    by (Some x) = all x.0
    by None = tt

call_fields : (p : Bool) (a : Operand) → Carries a → Holds Fielded (call p a)
unfolding call
call_fields p (Register w r) h = absurd h
call_fields p (Memory m fits) h = in_callrm p m h
call_fields p a h = branch_fields (i.CallRel p) (in_call p) a

jump_fields : (p : Bool) (a : Operand) → Carries a → Holds Fielded (jump p a)
unfolding jump
jump_fields p (Register w r) h = absurd h
jump_fields p (Memory m fits) h = in_jmprm p m h
jump_fields p a h = branch_fields (i.JmpRel p) (in_jmp p) a

checking_fields : (form : ℕ → Rm → Instr) → ((b : ℕ) → TakesRm (form b)) → (a c : Operand) → Carries a ⊎ Carries c → Holds Fielded (checking form a c)
checking_fields form takes (Bounds b) c h = by (beside 64 c) (beside_wide 64 c (right h))
  where
    by : (o : Option Target) → Holds IsWideTarget o → Holds Fielded (option_map (λ (x : ℕ × Target). fit (form x.0 x.1.rm) x.1.fits) (option_map (λ (t : Target). (b, t)) o))
    by (Some t) wide = at_wide (form b) (takes b) t.rm wide
    by None wide = tt
checking_fields form takes a c h = tt

with_memory_fields : (form : ℕ → Mem → Instr) → ((b : ℕ) (m : Mem) → m.disp ≡ wide_field → HasField (form b m)) → (a c : Operand) → Carries a ⊎ Carries c → Holds Fielded (with_memory form a c)
with_memory_fields form takes (Bounds b) (Memory m fits) h = takes b m (right h)
with_memory_fields form takes a c h = tt

bndmov_fields : (a c : Operand) → Carries a ⊎ Carries c → Holds Fielded (bndmov a c)
unfolding bndmov
bndmov_fields (Bounds b) (Bounds c) h = absurd (left h)
bndmov_fields (Bounds b) (Memory m fits) h = in_bndmovfrom b m (right h)
bndmov_fields (Memory m fits) (Bounds b) h = in_bndmovto b m (left h)
bndmov_fields a c h = tt

nullary_fields : (x : Instr) (a : Operand) → Carries a → Holds Fielded (nullary x a)
nullary_fields x Nothing h = absurd h
nullary_fields x a h = tt

unary_fields : (p : Bool) (x : Mnemonic) (a : Operand) → Carries a → Holds Fielded (unary p x a)
unfolding unary
unary_fields p m.Cdq a h = nullary_fields _ a h
unary_fields p m.Cqo a h = nullary_fields _ a h
unary_fields p m.Ret a h = nullary_fields _ a h
unary_fields p m.Syscall a h = nullary_fields _ a h
unary_fields p m.Ud2 a h = nullary_fields _ a h
unary_fields p m.Nop a h = nullary_fields _ a h
unary_fields p (m.One op) a h = one_fields op a h
unary_fields p (m.Set op) a h = set_fields op a h
unary_fields p m.Push a h = push_fields a h
unary_fields p m.Pop a h = pop_fields a h
unary_fields p m.Call a h = call_fields p a h
unary_fields p m.Jmp a h = jump_fields p a h
unary_fields p (m.JumpIf op) a h = branch_fields (i.Jcc p op) (in_jcc p op) a
unary_fields p x a h = tt

binary_fields : (x : Mnemonic) (a b : Operand) → Carries a ⊎ Carries b → Holds Fielded (binary x a b)
unfolding binary
binary_fields m.Mov a b h = mov_fields a b h
binary_fields m.Movsxd a b h = movsxd_fields a b h
binary_fields m.Movzx a b h = movzx_fields a b h
binary_fields m.Movsx a b h = movsx_fields a b h
binary_fields m.Lea a b h = lea_fields a b h
binary_fields (m.Alu op) a b h = alu_fields op a b h
binary_fields m.Test a b h = test_fields a b h
binary_fields m.Imul a b h = imul_fields a b h
binary_fields (m.Shift op) a b h = shift_fields op a b h
binary_fields m.Bndmk a b h = with_memory_fields i.Bndmk in_bndmk a b h
binary_fields m.Bndcl a b h = checking_fields i.Bndcl in_bndcl a b h
binary_fields m.Bndcu a b h = checking_fields i.Bndcu in_bndcu a b h
binary_fields m.Bndcn a b h = checking_fields i.Bndcn in_bndcn a b h
binary_fields m.Bndmov a b h = bndmov_fields a b h
binary_fields m.Bndldx a b h = with_memory_fields i.Bndldx in_bndldx a b h
binary_fields m.Bndstx a b h = with_memory_fields i.Bndstx in_bndstx b a (swapped h)
binary_fields x a b h = tt

none_or : {A : Type 0} (P : A → Type 0) (b : Bool) (x : Option A) → Holds P x → Holds P (cond b None x)
none_or P true x h = tt
none_or P false x h = h

-- an instruction of which an operand has a name has a field for it
pub built_fields : (p : Bool) (x : Mnemonic) (a b : Operand) → Carries a ⊎ Carries b → Holds Fielded (built p x a b)
unfolding built
built_fields p x a Nothing h = none_or Fielded (p && not (may_be_prefixed x)) _ (unary_fields p x a (left h))
built_fields p x a b h = none_or Fielded p _ (binary_fields x a b h)
