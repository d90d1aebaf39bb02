-- What an opcode begins, and what a row says of its operands.
use Rattle.std.specs.Prelude.{ℕ, ◌-◌, ◌&&◌, ◌||◌, not, Bool, true, false, nat_eq, nat_le, nat_lt, if◌then◌else◌, Option, Some, None, ℤ}
use Rattle.x86_forms.specs.declared.instr.Instr.{Instr}
use Rattle.x86_forms.specs.declared.instr.Reg.{Reg}
use Rattle.x86_forms.specs.declared.instr.Mem.{Mem}
use Rattle.x86_forms.specs.declared.instr.Rm.{Rm}
use Rattle.x86_forms.specs.declared.instr.Rm.TheVariants.{Reg as InReg, Mem as InMem}
use Rattle.x86_forms.specs.declared.instr.Instr.TheVariants as i
use Rattle.x86_forms.specs.Fits.{fits_32}
use Rattle.x86_decode.specs.declared.rows.Row.{Row}
use Rattle.x86_decode.specs.declared.rows.Row.TheVariants.{MovTo, MovFrom, MovMem, MovImm, Movsxd, Movzx, Movsx, Lea, AluTo, AluFrom, AluImm, Test, Imul, One, Wide, ShiftCl, ShiftImm, Set, Push, Pop, CallRel, JmpRel, Ff, Jcc, Ret, Syscall, Ud2, Nop, Bndmk, Bndcl, Bndcu, Bndcn, BndmovTo, BndmovFrom, Bndldx, Bndstx}
use Rattle.x86_forms.specs.Validity.{condition_ok}

abbrev pub width_of : Bool → ℕ
width_of w = if w then 64 else 32

-- one opcode byte, no prefix; w is REX.W
unfoldable pub one_plain : Bool → ℕ → Option Row
one_plain w op =
    if nat_eq op 0x89 then Some (MovTo (width_of w))
    else if nat_eq op 0x88 then (if w then None else Some (MovTo 8))
    else if nat_eq op 0x8B then Some (MovFrom (width_of w))
    else if nat_eq op 0x8A then (if w then None else Some (MovFrom 8))
    else if nat_eq op 0xC7 then Some (MovMem (width_of w))
    else if nat_eq op 0xC6 then (if w then None else Some (MovMem 8))
    else if nat_eq op 0xB8 then Some (MovImm (width_of w))
    else if nat_eq op 0x63 then (if w then Some Movsxd else None)
    else if nat_eq op 0x8D then (if w then Some Lea else None)
    else if nat_eq op 0x81 then Some (AluImm (width_of w) true)
    else if nat_eq op 0x83 then Some (AluImm (width_of w) false)
    else if nat_eq op 0x85 then Some (Test (width_of w))
    else if nat_eq op 0xF7 then Some (One (width_of w))
    else if nat_eq op 0x99 then Some (Wide (width_of w))
    else if nat_eq op 0xD3 then Some (ShiftCl (width_of w))
    else if nat_eq op 0xC1 then Some (ShiftImm (width_of w))
    else if nat_eq op 0x50 then (if w then None else Some Push)
    else if nat_eq op 0x58 then (if w then None else Some Pop)
    else if nat_eq op 0xE8 then (if w then None else Some (CallRel false))
    else if nat_eq op 0xE9 then (if w then None else Some (JmpRel false))
    else if nat_eq op 0xFF then (if w then None else Some (Ff false))
    else if nat_eq op 0xC3 then (if w then None else Some (Ret false))
    else if nat_eq op 0x90 then (if w then None else Some Nop)
    else if nat_eq op 1 then Some (AluTo 0 (width_of w))
    else if nat_eq op 9 then Some (AluTo 1 (width_of w))
    else if nat_eq op 33 then Some (AluTo 2 (width_of w))
    else if nat_eq op 41 then Some (AluTo 3 (width_of w))
    else if nat_eq op 49 then Some (AluTo 4 (width_of w))
    else if nat_eq op 57 then Some (AluTo 5 (width_of w))
    else if nat_eq op 3 then Some (AluFrom 0 (width_of w))
    else if nat_eq op 11 then Some (AluFrom 1 (width_of w))
    else if nat_eq op 35 then Some (AluFrom 2 (width_of w))
    else if nat_eq op 43 then Some (AluFrom 3 (width_of w))
    else if nat_eq op 51 then Some (AluFrom 4 (width_of w))
    else if nat_eq op 59 then Some (AluFrom 5 (width_of w))
    else None

-- 0F and an opcode byte, no prefix
unfoldable pub two_plain : Bool → ℕ → Option Row
two_plain w op =
    if nat_eq op 0xB6 then (if w then None else Some (Movzx 8))
    else if nat_eq op 0xB7 then (if w then None else Some (Movzx 16))
    else if nat_eq op 0xBE then Some (Movsx (width_of w) 8)
    else if nat_eq op 0xBF then Some (Movsx (width_of w) 16)
    else if nat_eq op 0xAF then Some (Imul (width_of w))
    else if nat_eq op 0x05 then (if w then None else Some Syscall)
    else if nat_eq op 0x0B then (if w then None else Some Ud2)
    else if nat_eq op 0x1A then (if w then None else Some Bndldx)
    else if nat_eq op 0x1B then (if w then None else Some Bndstx)
    else if nat_le 0x90 op && condition_ok (op - 0x90) then (if w then None else Some (Set (op - 0x90)))
    else if nat_le 0x80 op && condition_ok (op - 0x80) then (if w then None else Some (Jcc false (op - 0x80)))
    else None

unfoldable pub one_66 : ℕ → Option Row
one_66 op = if nat_eq op 0x89 then Some (MovTo 16) else if nat_eq op 0x8B then Some (MovFrom 16) else if nat_eq op 0xC7 then Some (MovMem 16) else None

unfoldable pub two_66 : ℕ → Option Row
two_66 op = if nat_eq op 0x1A then Some BndmovFrom else if nat_eq op 0x1B then Some BndmovTo else None

unfoldable pub one_f2 : ℕ → Option Row
one_f2 op =
    if nat_eq op 0xE8 then Some (CallRel true)
    else if nat_eq op 0xE9 then Some (JmpRel true)
    else if nat_eq op 0xFF then Some (Ff true)
    else if nat_eq op 0xC3 then Some (Ret true)
    else None

unfoldable pub two_f2 : ℕ → Option Row
two_f2 op =
    if nat_eq op 0x1A then Some Bndcu
    else if nat_eq op 0x1B then Some Bndcn
    else if nat_le 0x80 op && condition_ok (op - 0x80) then Some (Jcc true (op - 0x80))
    else None

unfoldable pub two_f3 : ℕ → Option Row
two_f3 op = if nat_eq op 0x1A then Some Bndcl else if nat_eq op 0x1B then Some Bndmk else None

-- by prefix, REX.W, 0F and the opcode without a register
unfoldable pub row_of : ℕ → Bool → Bool → ℕ → Option Row
row_of p w escape op =
    if nat_eq p 0 then (if escape then two_plain w op else one_plain w op)
    else if w then None
    else if nat_eq p 0x66 then (if escape then two_66 op else one_66 op)
    else if nat_eq p 0xF2 then (if escape then two_f2 op else one_f2 op)
    else if escape then two_f3 op
    else None

unfoldable pub is_bare : Row → Bool
is_bare (Wide w) = true
is_bare (Ret b) = true
is_bare Syscall = true
is_bare Ud2 = true
is_bare Nop = true
is_bare (CallRel b) = true
is_bare (JmpRel b) = true
is_bare (Jcc b c) = true
is_bare _ = false

unfoldable pub is_in_opcode : Row → Bool
is_in_opcode Push = true
is_in_opcode Pop = true
is_in_opcode (MovImm w) = true
is_in_opcode _ = false

-- bytes of the immediate
unfoldable pub imm_len : Row → ℕ
imm_len (MovMem w) = if nat_eq w 8 then 1 else if nat_eq w 16 then 2 else 4
imm_len (MovImm w) = if nat_eq w 64 then 8 else 4
imm_len (AluImm w long) = if long then 4 else 1
imm_len (ShiftImm w) = 1
imm_len (CallRel b) = 4
imm_len (JmpRel b) = 4
imm_len (Jcc b c) = 4
imm_len _ = 0

-- the reg field is a register, so REX.R may be set
unfoldable pub any_reg : Row → Bool
any_reg (MovTo w) = true
any_reg (MovFrom w) = true
any_reg Movsxd = true
any_reg (Movzx f) = true
any_reg (Movsx w f) = true
any_reg Lea = true
any_reg (AluTo op w) = true
any_reg (AluFrom op w) = true
any_reg (Test w) = true
any_reg (Imul w) = true
any_reg _ = false

-- the three bits of the reg field are a digit or a bounds register of this row
unfoldable pub takes : Row → ℕ → Bool
takes (MovMem w) g = nat_eq g 0
takes (AluImm w long) g = not (nat_eq g 2) && not (nat_eq g 3)
takes (One w) g = nat_eq g 2 || nat_eq g 3 || nat_eq g 6 || nat_eq g 7
takes (ShiftCl w) g = nat_eq g 4 || nat_eq g 5 || nat_eq g 7
takes (ShiftImm w) g = nat_eq g 4 || nat_eq g 5 || nat_eq g 7
takes (Set c) g = nat_eq g 0
takes (Ff b) g = nat_eq g 2 || nat_eq g 4
takes Bndmk g = nat_lt g 4
takes Bndcl g = nat_lt g 4
takes Bndcu g = nat_lt g 4
takes Bndcn g = nat_lt g 4
takes BndmovTo g = nat_lt g 4
takes BndmovFrom g = nat_lt g 4
takes Bndldx g = nat_lt g 4
takes Bndstx g = nat_lt g 4
takes _ g = true

-- the rm field may be the register r
unfoldable pub takes_reg : Row → ℕ → Bool
takes_reg (MovFrom w) r = false
takes_reg (MovMem w) r = nat_eq w 64
takes_reg Lea r = false
takes_reg (AluFrom op w) r = false
takes_reg Bndmk r = false
takes_reg BndmovTo r = false
takes_reg BndmovFrom r = nat_lt r 4
takes_reg Bndldx r = false
takes_reg Bndstx r = false
takes_reg _ r = true

-- spl, bpl, sil and dil may stand in the reg field
unfoldable pub low_in_reg : Row → Bool
low_in_reg (MovTo w) = nat_eq w 8
low_in_reg (MovFrom w) = nat_eq w 8
low_in_reg _ = false

unfoldable pub low_in_rm : Row → Bool
low_in_rm (MovTo w) = nat_eq w 8
low_in_rm (Movzx f) = nat_eq f 8
low_in_rm (Movsx w f) = nat_eq f 8
low_in_rm (Set c) = true
low_in_rm _ = false

unfoldable pub allows_rip : Row → Bool
allows_rip Bndmk = false
allows_rip Bndldx = false
allows_rip Bndstx = false
allows_rip _ = true

unfoldable pub allows_no_base : Row → Bool
allows_no_base Bndldx = false
allows_no_base Bndstx = false
allows_no_base _ = true

abbrev pub digit_alu : ℕ → ℕ
digit_alu g = if nat_eq g 0 then 0 else if nat_eq g 1 then 1 else if nat_eq g 4 then 2 else if nat_eq g 5 then 3 else if nat_eq g 6 then 4 else 5

abbrev pub digit_one : ℕ → ℕ
digit_one g = if nat_eq g 2 then 0 else if nat_eq g 3 then 1 else if nat_eq g 6 then 2 else 3

abbrev pub digit_shift : ℕ → ℕ
digit_shift g = if nat_eq g 4 then 0 else if nat_eq g 5 then 1 else 2

-- r, m: a row that has memory only is given memory only
abbrev pub mem_form : (Mem → Instr) → Rm → Instr
mem_form f (InMem m) = f m
mem_form f (InReg r) = i.Nop

abbrev pub build_mov : ℕ → ℤ → Rm → Instr
build_mov w imm (InMem m) = i.MovMemImm w m imm
build_mov w imm (InReg r) = i.MovImm w r imm

abbrev pub reg_of : ℕ → Reg
reg_of n = record { 0 = n }

abbrev pub build_mem : Row → ℕ → Mem → Instr
build_mem (MovFrom w) g m = i.MovFrom w (reg_of g) m
build_mem Lea g m = i.Lea (reg_of g) m
build_mem (AluFrom op w) g m = i.AluFrom op w (reg_of g) m
build_mem Bndmk g m = i.Bndmk g m
build_mem BndmovTo g m = i.BndmovTo g m
build_mem Bndldx g m = i.Bndldx g m
build_mem Bndstx g m = i.Bndstx g m
build_mem _ g m = i.Nop

abbrev pub build_rel : Row → ℤ → Instr
build_rel (CallRel b) z = i.CallRel b z
build_rel (JmpRel b) z = i.JmpRel b z
build_rel (Jcc b c) z = i.Jcc b c z
build_rel _ z = i.Nop

abbrev pub rel_fits : Row → ℤ → Bool
rel_fits (CallRel b) z = fits_32 z
rel_fits (JmpRel b) z = fits_32 z
rel_fits (Jcc b c) z = fits_32 z
rel_fits _ z = true

-- the instruction of a row
unfoldable pub build : Row → ℕ → Rm → ℤ → Instr
build (MovTo w) g rm imm = i.MovTo w (reg_of g) rm
build (MovFrom w) g rm imm = mem_form (i.MovFrom w (reg_of g)) rm
build (MovMem w) g rm imm = build_mov w imm rm
build (MovImm w) g rm imm = i.MovImm w (reg_of g) imm
build Movsxd g rm imm = i.Movsxd (reg_of g) rm
build (Movzx f) g rm imm = i.Movzx f (reg_of g) rm
build (Movsx w f) g rm imm = i.Movsx w f (reg_of g) rm
build Lea g rm imm = mem_form (i.Lea (reg_of g)) rm
build (AluTo op w) g rm imm = i.AluTo op w (reg_of g) rm
build (AluFrom op w) g rm imm = mem_form (i.AluFrom op w (reg_of g)) rm
build (AluImm w long) g rm imm = i.AluImm (digit_alu g) w rm imm
build (Test w) g rm imm = i.Test w (reg_of g) rm
build (Imul w) g rm imm = i.Imul w (reg_of g) rm
build (One w) g rm imm = i.One (digit_one g) w rm
build (Wide w) g rm imm = i.Wide w
build (ShiftCl w) g rm imm = i.ShiftCl (digit_shift g) w rm
build (ShiftImm w) g rm imm = i.ShiftImm (digit_shift g) w rm imm
build (Set c) g rm imm = i.Set c rm
build Push g rm imm = i.Push (reg_of g)
build Pop g rm imm = i.Pop (reg_of g)
build (CallRel b) g rm imm = i.CallRel b imm
build (JmpRel b) g rm imm = i.JmpRel b imm
build (Ff b) g rm imm = if nat_eq g 2 then i.CallRm b rm else i.JmpRm b rm
build (Jcc b c) g rm imm = i.Jcc b c imm
build (Ret b) g rm imm = i.Ret b
build Syscall g rm imm = i.Syscall
build Ud2 g rm imm = i.Ud2
build Nop g rm imm = i.Nop
build Bndmk g rm imm = mem_form (i.Bndmk g) rm
build Bndcl g rm imm = i.Bndcl g rm
build Bndcu g rm imm = i.Bndcu g rm
build Bndcn g rm imm = i.Bndcn g rm
build BndmovTo g rm imm = mem_form (i.BndmovTo g) rm
build BndmovFrom g rm imm = i.BndmovFrom g rm
build Bndldx g rm imm = mem_form (i.Bndldx g) rm
build Bndstx g rm imm = mem_form (i.Bndstx g) rm
