-- The instruction of a mnemonic and its operands, by the table of forms. There is none where the operands are of no form. A number that fits no
-- field is told beside, and 0 stands for it.
use Rattle.std.specs.Prelude.{ℕ, Bool, true, false, ◌&&◌, not, nat_eq, if◌then◌else◌, Option, Some, None, option_map, ℤ, pos}
use Rattle.mx_base.specs.declared.numbers.IntKind.{IntKind}
use Rattle.mx_base.specs.declared.numbers.IntKind.TheVariants.{I8, I16, I32, I64, U32, U64}
use Rattle.mx_base.specs.Numbers.{wrapped}
use Rattle.x86_forms.specs.declared.instr.Instr.{Instr}
use Rattle.x86_forms.specs.declared.instr.Mem.{Mem}
use Rattle.x86_forms.specs.declared.instr.Reg.{Reg}
use Rattle.x86_forms.specs.declared.instr.Rm.{Rm}
use Rattle.x86_forms.specs.declared.instr.Rm.TheVariants.{Reg as InReg, Mem as InMem}
use Rattle.x86_forms.specs.declared.instr.Instr.TheVariants as i
use Rattle.x86_forms.specs.Fits.{fits_32, fits_count}
use Rattle.asm_names.specs.declared.mnemonic.Mnemonic.{Mnemonic}
use Rattle.asm_names.specs.declared.mnemonic.Mnemonic.TheVariants as m
use Rattle.asm_text.specs.declared.parts.Operand.{Operand}
use Rattle.asm_text.specs.declared.parts.Operand.TheVariants.{Nothing, Register, Bounds, Memory, Sized, Number, Symbol, Local, Relative}
use Rattle.asm_text.specs.declared.parts.Target.{Target}
use Rattle.asm_text.specs.declared.parts.Choice.{Choice}
use Rattle.asm_text.specs.Operands.{wide_field, signed_32, is_signed_32}

abbrev pub fit : Instr → Bool → Choice
fit instr fits = record { instr = instr; fits = fits }

-- ---- operands of a width

-- a register or memory beside an operand that fixes the width, so without a size word
unfoldable pub beside : ℕ → Operand → Option Target
beside w (Register v r) = if nat_eq v w then Some (record { w = w; rm = InReg r; fits = true }) else None
beside w (Memory m fits) = Some (record { w = w; rm = InMem m; fits = fits })
beside w x = None

-- a register, or memory behind a size word
unfoldable pub sized : Operand → Option Target
sized (Register w r) = Some (record { w = w; rm = InReg r; fits = true })
sized (Sized w m fits) = Some (record { w = w; rm = InMem m; fits = fits })
sized x = None

-- ---- immediates: a number is taken modulo the width, and must then fit its field

abbrev pub kind_of : ℕ → IntKind
kind_of w = if nat_eq w 8 then I8 else if nat_eq w 16 then I16 else if nat_eq w 32 then I32 else I64

-- the signed number of w bits
unfoldable pub taken : ℕ → ℤ → ℤ
taken w z = wrapped (kind_of w) z

-- a field of at most 32 bits
unfoldable pub narrow : ℕ → Option ℤ → Option ℤ
narrow w (Some z) = if fits_32 (taken w z) then Some (taken w z) else None
narrow w None = None

-- a field of w bits
unfoldable pub wide : ℕ → Option ℤ → Option ℤ
wide w n = option_map (taken w) n

abbrev pub unsigned_kind : ℕ → IntKind
unsigned_kind w = if nat_eq w 32 then U32 else U64

-- the count of a shift, unsigned in 8 bits
unfoldable pub count : ℕ → Option ℤ → Option ℤ
count w (Some z) = if fits_count (wrapped (unsigned_kind w) z) then Some (wrapped (unsigned_kind w) z) else None
count w None = None

-- the field's number, or 0
abbrev pub field : Option ℤ → ℤ
field (Some z) = z
field None = pos 0

abbrev pub has_field : Option ℤ → Bool
has_field (Some z) = true
has_field None = false

-- ---- forms of operands

-- `rm, r`
unfoldable pub to : (ℕ → Reg → Rm → Instr) → Operand → Operand → Option Choice
to form a (Register w r) = option_map (λ t. fit (form w r t.rm) t.fits) (beside w a)
to form a b = None

-- `rm, r`, or else `r, m`
unfoldable pub alu_registers : ℕ → Operand → Operand → Option Choice
alu_registers op (Register w r) (Memory m fits) = Some (fit (i.AluFrom op w r m) fits)
alu_registers op a b = to (i.AluTo op) a b

unfoldable pub alu_number : ℕ → Operand → Option ℤ → Option Choice
alu_number op a n = option_map (λ t. fit (i.AluImm op t.w t.rm (field (narrow t.w n))) (t.fits && has_field (narrow t.w n))) (sized a)

unfoldable pub alu : ℕ → Operand → Operand → Option Choice
alu op a (Number n) = alu_number op a n
alu op a b = alu_registers op a b

-- a move of a number or a name
unfoldable pub mov_number : Operand → Option ℤ → Option Choice
mov_number (Register w r) n = Some (fit (i.MovImm w r (field (wide w n))) (has_field n))
mov_number (Sized w m fits) n = Some (fit (i.MovMemImm w m (field (narrow w n))) (fits && has_field (narrow w n)))
mov_number a n = None

unfoldable pub mov_symbol : Operand → Option Choice
mov_symbol (Register w r) = Some (fit (i.MovImm w r wide_field) true)
mov_symbol a = None

unfoldable pub mov_registers : Operand → Operand → Option Choice
mov_registers (Register w r) (Memory m fits) = Some (fit (i.MovFrom w r m) fits)
mov_registers a b = to i.MovTo a b

unfoldable pub mov : Operand → Operand → Option Choice
mov a (Number n) = mov_number a n
mov a Symbol = mov_symbol a
mov a b = mov_registers a b

unfoldable pub test_operands : Operand → Operand → Option Choice
test_operands a b = to i.Test a b

unfoldable pub imul : Operand → Operand → Option Choice
imul (Register w r) b = option_map (λ t. fit (i.Imul w r t.rm) t.fits) (beside w b)
imul a b = None

unfoldable pub movsxd : Operand → Operand → Option Choice
movsxd (Register w r) b = if nat_eq w 64 then option_map (λ t. fit (i.Movsxd r t.rm) t.fits) (beside 32 b) else None
movsxd a b = None

unfoldable pub movzx : Operand → Operand → Option Choice
movzx (Register w r) b = if nat_eq w 32 then option_map (λ t. fit (i.Movzx t.w r t.rm) t.fits) (sized b) else None
movzx a b = None

unfoldable pub movsx : Operand → Operand → Option Choice
movsx (Register w r) b = option_map (λ t. fit (i.Movsx w t.w r t.rm) t.fits) (sized b)
movsx a b = None

unfoldable pub lea : Operand → Operand → Option Choice
lea (Register w r) (Memory m fits) = if nat_eq w 64 then Some (fit (i.Lea r m) fits) else None
lea a b = None

unfoldable pub one : ℕ → Operand → Option Choice
one op a = option_map (λ t. fit (i.One op t.w t.rm) t.fits) (sized a)

-- the register `cl`
abbrev pub is_cl : ℕ → Reg → Bool
is_cl w r = nat_eq w 8 && nat_eq r.0 1

unfoldable pub shift_by : ℕ → Target → Operand → Option Choice
shift_by op t (Number n) = Some (fit (i.ShiftImm op t.w t.rm (field (count t.w n))) (t.fits && has_field (count t.w n)))
shift_by op t (Register w r) = if is_cl w r then Some (fit (i.ShiftCl op t.w t.rm) t.fits) else None
shift_by op t b = None

abbrev pub option_then : {A B : Type 0} → Option A → (A → Option B) → Option B
option_then (Some x) f = f x
option_then None f = None

unfoldable pub shift : ℕ → Operand → Operand → Option Choice
shift op a b = option_then (sized a) (λ t. shift_by op t b)

unfoldable pub set : ℕ → Operand → Option Choice
set op a = option_then (sized a) (λ t. if nat_eq t.w 8 then Some (fit (i.Set op t.rm) t.fits) else None)

unfoldable pub push : Operand → Option Choice
push (Register w r) = if nat_eq w 64 then Some (fit (i.Push r) true) else None
push a = None

unfoldable pub pop : Operand → Option Choice
pop (Register w r) = if nat_eq w 64 then Some (fit (i.Pop r) true) else None
pop a = None

-- the target of a branch: a name, which the linker or the place of a label fills in, or a number counted from the end of the instruction
unfoldable pub way_of : Operand → Option (ℤ × Bool)
way_of Symbol = Some (pos 0, true)
way_of Local = Some (pos 0, true)
way_of (Relative n) = Some (signed_32 n, is_signed_32 n)
way_of a = None

unfoldable pub branch : (ℤ → Instr) → Operand → Option Choice
branch form a = option_map (λ x. fit (form x.0) x.1) (way_of a)

unfoldable pub call : Bool → Operand → Option Choice
call prefixed (Register w r) = if nat_eq w 64 then Some (fit (i.CallRm prefixed (InReg r)) true) else None
call prefixed (Memory m fits) = Some (fit (i.CallRm prefixed (InMem m)) fits)
call prefixed a = branch (i.CallRel prefixed) a

unfoldable pub jump : Bool → Operand → Option Choice
jump prefixed (Register w r) = if nat_eq w 64 then Some (fit (i.JmpRm prefixed (InReg r)) true) else None
jump prefixed (Memory m fits) = Some (fit (i.JmpRm prefixed (InMem m)) fits)
jump prefixed a = branch (i.JmpRel prefixed) a

-- `b, rm`
abbrev pub bounds_and_target : Operand → Operand → Option (ℕ × Target)
bounds_and_target (Bounds b) c = option_map (λ t. (b, t)) (beside 64 c)
bounds_and_target a c = None

abbrev pub checking : (ℕ → Rm → Instr) → Operand → Operand → Option Choice
checking form a c = option_map (λ x. fit (form x.0 x.1.rm) x.1.fits) (bounds_and_target a c)

abbrev pub bndcl : Operand → Operand → Option Choice
bndcl a c = checking i.Bndcl a c

abbrev pub bndcu : Operand → Operand → Option Choice
bndcu a c = checking i.Bndcu a c

abbrev pub bndcn : Operand → Operand → Option Choice
bndcn a c = checking i.Bndcn a c

-- `b, m`
abbrev pub bounds_and_memory : Operand → Operand → Option (ℕ × Mem × Bool)
bounds_and_memory (Bounds b) (Memory m fits) = Some (b, m, fits)
bounds_and_memory a c = None

abbrev pub with_memory : (ℕ → Mem → Instr) → Operand → Operand → Option Choice
with_memory form a c = option_map (λ x. fit (form x.0 x.1) x.2) (bounds_and_memory a c)

abbrev pub bndmk : Operand → Operand → Option Choice
bndmk a c = with_memory i.Bndmk a c

abbrev pub bndldx : Operand → Operand → Option Choice
bndldx a c = with_memory i.Bndldx a c

-- `m, b`
abbrev pub bndstx : Operand → Operand → Option Choice
bndstx a c = with_memory i.Bndstx c a

unfoldable pub bndmov : Operand → Operand → Option Choice
bndmov (Bounds b) (Bounds c) = Some (fit (i.BndmovFrom b (InReg (record { 0 = c }))) true)
bndmov (Bounds b) (Memory m fits) = Some (fit (i.BndmovFrom b (InMem m)) fits)
bndmov (Memory m fits) (Bounds b) = Some (fit (i.BndmovTo b m) fits)
bndmov a c = None

-- ---- by mnemonic

abbrev pub nullary : Instr → Operand → Option Choice
nullary x Nothing = Some (fit x true)
nullary x a = None

-- the forms without operands, and those with one
unfoldable pub unary : Bool → Mnemonic → Operand → Option Choice
unary prefixed m.Cdq a = nullary (i.Wide 32) a
unary prefixed m.Cqo a = nullary (i.Wide 64) a
unary prefixed m.Ret a = nullary (i.Ret prefixed) a
unary prefixed m.Syscall a = nullary i.Syscall a
unary prefixed m.Ud2 a = nullary i.Ud2 a
unary prefixed m.Nop a = nullary i.Nop a
unary prefixed (m.One op) a = one op a
unary prefixed (m.Set op) a = set op a
unary prefixed m.Push a = push a
unary prefixed m.Pop a = pop a
unary prefixed m.Call a = call prefixed a
unary prefixed m.Jmp a = jump prefixed a
unary prefixed (m.JumpIf op) a = branch (i.Jcc prefixed op) a
unary prefixed x a = None

-- the forms with two
unfoldable pub binary : Mnemonic → Operand → Operand → Option Choice
binary m.Mov a b = mov a b
binary m.Movsxd a b = movsxd a b
binary m.Movzx a b = movzx a b
binary m.Movsx a b = movsx a b
binary m.Lea a b = lea a b
binary (m.Alu op) a b = alu op a b
binary m.Test a b = test_operands a b
binary m.Imul a b = imul a b
binary (m.Shift op) a b = shift op a b
binary m.Bndmk a b = bndmk a b
binary m.Bndcl a b = bndcl a b
binary m.Bndcu a b = bndcu a b
binary m.Bndcn a b = bndcn a b
binary m.Bndmov a b = bndmov a b
binary m.Bndldx a b = bndldx a b
binary m.Bndstx a b = bndstx a b
binary x a b = None

-- the BND prefix stands only before a near branch
unfoldable pub may_be_prefixed : Mnemonic → Bool
may_be_prefixed m.Call = true
may_be_prefixed m.Jmp = true
may_be_prefixed (m.JumpIf op) = true
may_be_prefixed m.Ret = true
may_be_prefixed x = false

-- the instruction
unfoldable pub built : Bool → Mnemonic → Operand → Operand → Option Choice
built prefixed x a Nothing = if prefixed && not (may_be_prefixed x) then None else unary prefixed x a
built prefixed x a b = if prefixed then None else binary x a b
