-- The parts of each instruction's bytes: its prefix, REX.W, opcode, operands and immediate (SDM volume 2, the
-- instruction pages).
use Rattle.std.specs.Prelude.{ℕ, ◌+◌, ◌*◌, Bool, true, false, nat_eq, if◌then◌else◌, ℤ, pos}
use Rattle.x86_forms.specs.declared.instr.Instr.{Instr}
use Rattle.x86_forms.specs.declared.instr.Rm.{Rm}
use Rattle.x86_forms.specs.declared.instr.Rm.TheVariants.{Reg as InReg, Mem as InMem}
use Rattle.x86_forms.specs.declared.instr.Instr.TheVariants.{MovTo, MovFrom, MovMemImm, MovImm, Movsxd, Movzx, Movsx, Lea, AluTo, AluFrom, AluImm, Test, Imul, One, Wide, ShiftCl, ShiftImm, Set, Push, Pop, CallRel, JmpRel, CallRm, JmpRm, Jcc, Ret, Syscall, Ud2, Nop, Bndmk, Bndcl, Bndcu, Bndcn, BndmovTo, BndmovFrom, Bndldx, Bndstx}
use Rattle.x86_forms.specs.declared.layout.Layout.{Layout}
use Rattle.x86_forms.specs.declared.layout.Operands.{Operands}
use Rattle.x86_forms.specs.declared.layout.Operands.TheVariants.{Bare, InOpcode, InModrm}
use Rattle.x86_forms.specs.Fits.{fits_8, fits_32}

abbrev pub is_byte : ℕ → Bool
is_byte w = nat_eq w 8

abbrev pub is_wide : ℕ → Bool
is_wide w = nat_eq w 64

-- 66 as operand size
abbrev pub size_prefix : ℕ → ℕ
size_prefix w = if nat_eq w 16 then 0x66 else 0

abbrev pub bnd_prefix : Bool → ℕ
bnd_prefix prefixed = if prefixed then 0xF2 else 0

-- in ModRM: a register, a bounds register or a digit, and a register or memory; none needs a REX byte for being low
abbrev pub operands : ℕ → Rm → Operands
operands reg rm = InModrm reg false rm false

-- one opcode byte, no immediate
abbrev pub one_byte : ℕ → Bool → ℕ → Operands → Layout
one_byte prefix wide opcode ops = record { prefix = prefix; wide = wide; escape = false; opcode = opcode; operands = ops; imm = pos 0; imm_len = 0 }

-- 0F and an opcode byte, no immediate
abbrev pub two_byte : ℕ → Bool → ℕ → Operands → Layout
two_byte prefix wide opcode ops = record { prefix = prefix; wide = wide; escape = true; opcode = opcode; operands = ops; imm = pos 0; imm_len = 0 }

-- with an immediate of n bytes
abbrev pub with_imm : Layout → ℕ → ℤ → Layout
with_imm l n imm = record l { imm = imm; imm_len = n }

-- add or and sub xor cmp: the digit of the opcode
abbrev pub alu_digit : ℕ → ℕ
alu_digit op = if nat_eq op 0 then 0 else if nat_eq op 1 then 1 else if nat_eq op 2 then 4 else if nat_eq op 3 then 5 else if nat_eq op 4 then 6 else 7

-- not neg div idiv
abbrev pub one_digit : ℕ → ℕ
one_digit op = if nat_eq op 0 then 2 else if nat_eq op 1 then 3 else if nat_eq op 2 then 6 else 7

-- shl shr sar
abbrev pub shift_digit : ℕ → ℕ
shift_digit op = if nat_eq op 0 then 4 else if nat_eq op 1 then 5 else 7

-- the bytes of the immediate of a move to memory
abbrev pub mov_imm_len : ℕ → ℕ
mov_imm_len w = if nat_eq w 8 then 1 else if nat_eq w 16 then 2 else 4

-- 64 bits are written in 32 where they fit
abbrev pub mov_imm : ℕ → ℕ → ℤ → Layout
mov_imm w r imm =
    if is_wide w then (if fits_32 imm then with_imm (one_byte 0 true 0xC7 (operands 0 (InReg (record { 0 = r })))) 4 imm else with_imm (one_byte 0 true 0xB8 (InOpcode r)) 8 imm)
    else with_imm (one_byte 0 false 0xB8 (InOpcode r)) 4 imm

-- 8 bits where they fit
abbrev pub alu_imm : ℕ → ℕ → Rm → ℤ → Layout
alu_imm op w rm imm =
    if fits_8 imm then with_imm (one_byte 0 (is_wide w) 0x83 (operands (alu_digit op) rm)) 1 imm
    else with_imm (one_byte 0 (is_wide w) 0x81 (operands (alu_digit op) rm)) 4 imm

-- the parts of an instruction's bytes
abbrev pub layout_of : Instr → Layout
layout_of (MovTo w r rm) = one_byte (size_prefix w) (is_wide w) (if is_byte w then 0x88 else 0x89) (InModrm r.0 (is_byte w) rm (is_byte w))
layout_of (MovFrom w r m) = one_byte (size_prefix w) (is_wide w) (if is_byte w then 0x8A else 0x8B) (InModrm r.0 (is_byte w) (InMem m) false)
layout_of (MovMemImm w m imm) = with_imm (one_byte (size_prefix w) (is_wide w) (if is_byte w then 0xC6 else 0xC7) (operands 0 (InMem m))) (mov_imm_len w) imm
layout_of (MovImm w r imm) = mov_imm w r.0 imm
layout_of (Movsxd r rm) = one_byte 0 true 0x63 (operands r.0 rm)
layout_of (Movzx from r rm) = two_byte 0 false (if is_byte from then 0xB6 else 0xB7) (InModrm r.0 false rm (is_byte from))
layout_of (Movsx w from r rm) = two_byte 0 (is_wide w) (if is_byte from then 0xBE else 0xBF) (InModrm r.0 false rm (is_byte from))
layout_of (Lea r m) = one_byte 0 true 0x8D (operands r.0 (InMem m))
layout_of (AluTo op w r rm) = one_byte 0 (is_wide w) (8 * alu_digit op + 1) (operands r.0 rm)
layout_of (AluFrom op w r m) = one_byte 0 (is_wide w) (8 * alu_digit op + 3) (operands r.0 (InMem m))
layout_of (AluImm op w rm imm) = alu_imm op w rm imm
layout_of (Test w r rm) = one_byte 0 (is_wide w) 0x85 (operands r.0 rm)
layout_of (Imul w r rm) = two_byte 0 (is_wide w) 0xAF (operands r.0 rm)
layout_of (One op w rm) = one_byte 0 (is_wide w) 0xF7 (operands (one_digit op) rm)
layout_of (Wide w) = one_byte 0 (is_wide w) 0x99 Bare
layout_of (ShiftCl op w rm) = one_byte 0 (is_wide w) 0xD3 (operands (shift_digit op) rm)
layout_of (ShiftImm op w rm imm) = with_imm (one_byte 0 (is_wide w) 0xC1 (operands (shift_digit op) rm)) 1 imm
layout_of (Set op rm) = two_byte 0 false (0x90 + op) (InModrm 0 false rm true)
layout_of (Push r) = one_byte 0 false 0x50 (InOpcode r.0)
layout_of (Pop r) = one_byte 0 false 0x58 (InOpcode r.0)
layout_of (CallRel prefixed rel) = with_imm (one_byte (bnd_prefix prefixed) false 0xE8 Bare) 4 rel
layout_of (JmpRel prefixed rel) = with_imm (one_byte (bnd_prefix prefixed) false 0xE9 Bare) 4 rel
layout_of (CallRm prefixed rm) = one_byte (bnd_prefix prefixed) false 0xFF (operands 2 rm)
layout_of (JmpRm prefixed rm) = one_byte (bnd_prefix prefixed) false 0xFF (operands 4 rm)
layout_of (Jcc prefixed op rel) = with_imm (two_byte (bnd_prefix prefixed) false (0x80 + op) Bare) 4 rel
layout_of (Ret prefixed) = one_byte (bnd_prefix prefixed) false 0xC3 Bare
layout_of Syscall = two_byte 0 false 0x05 Bare
layout_of Ud2 = two_byte 0 false 0x0B Bare
layout_of Nop = one_byte 0 false 0x90 Bare
layout_of (Bndmk b m) = two_byte 0xF3 false 0x1B (operands b (InMem m))
layout_of (Bndcl b rm) = two_byte 0xF3 false 0x1A (operands b rm)
layout_of (Bndcu b rm) = two_byte 0xF2 false 0x1A (operands b rm)
layout_of (Bndcn b rm) = two_byte 0xF2 false 0x1B (operands b rm)
layout_of (BndmovTo b m) = two_byte 0x66 false 0x1B (operands b (InMem m))
layout_of (BndmovFrom b rm) = two_byte 0x66 false 0x1A (operands b rm)
layout_of (Bndldx b m) = two_byte 0 false 0x1A (operands b (InMem m))
layout_of (Bndstx b m) = two_byte 0 false 0x1B (operands b (InMem m))
