-- The watch over sealed bytes: which data accesses and which jumps are stopped, and at which address.
-- Instrumented code may touch sealed bytes, but not by an access that it makes for C; legacy code, which is all other code, may not.
use Rattle.std.specs.Prelude.{ℕ, ◌+◌, ◌-◌, ◌*◌, ◌%◌, nat_lt, nat_le, nat_eq, Bool, false, not, ◌&&◌, ◌||◌, if◌then◌else◌, Option, None, Some}
use Rattle.mx_base.specs.Memory.{first_refused_around}
use Rattle.mx_base.specs.Regions.{instrumented_code, is_in, is_sealed}
use Rattle.x86_forms.specs.declared.instr.Instr.{Instr}
use Rattle.x86_forms.specs.declared.instr.Mem.{Mem}
use Rattle.x86_forms.specs.declared.instr.Base.{Base}
use Rattle.x86_forms.specs.declared.instr.Base.TheVariants.{None as NoBase, Reg as BaseReg, Rip}
use Rattle.x86_forms.specs.declared.instr.Rm.{Rm}
use Rattle.x86_forms.specs.declared.instr.Rm.TheVariants.{Reg as InReg, Mem as InMem}
use Rattle.x86_forms.specs.declared.instr.Instr.TheVariants.{MovTo, MovFrom, MovMemImm, Movsxd, Movzx, Movsx, Lea, AluTo, AluFrom, AluImm, Test, Imul, One, ShiftCl, ShiftImm, Set, CallRm, JmpRm, Bndmk, Bndcl, Bndcu, Bndcn, BndmovTo, BndmovFrom, Bndldx, Bndstx}
use Rattle.x86_forms.specs.declared.spans.Span.{Span}
use Rattle.x86_forms.specs.Processor.{rsp}

-- ---- whose code

-- code that stands anywhere but in the region of instrumented code
abbrev pub is_legacy : ℕ → Bool
is_legacy from = not (is_in instrumented_code from)

-- ---- C accesses

abbrev pub memory_of : Rm → Option Mem
memory_of (InReg r) = None
memory_of (InMem m) = Some m

-- the memory operand of an instruction
abbrev pub operand_of : Instr → Option Mem
operand_of (MovTo w r rm) = memory_of rm
operand_of (MovFrom w r m) = Some m
operand_of (MovMemImm w m imm) = Some m
operand_of (Movsxd r rm) = memory_of rm
operand_of (Movzx from r rm) = memory_of rm
operand_of (Movsx w from r rm) = memory_of rm
operand_of (Lea r m) = Some m
operand_of (AluTo op w r rm) = memory_of rm
operand_of (AluFrom op w r m) = Some m
operand_of (AluImm op w rm imm) = memory_of rm
operand_of (Test w r rm) = memory_of rm
operand_of (Imul w r rm) = memory_of rm
operand_of (One op w rm) = memory_of rm
operand_of (ShiftCl op w rm) = memory_of rm
operand_of (ShiftImm op w rm imm) = memory_of rm
operand_of (Set op rm) = memory_of rm
operand_of (CallRm prefixed rm) = memory_of rm
operand_of (JmpRm prefixed rm) = memory_of rm
operand_of (Bndmk b m) = Some m
operand_of (Bndcl b rm) = memory_of rm
operand_of (Bndcu b rm) = memory_of rm
operand_of (Bndcn b rm) = memory_of rm
operand_of (BndmovTo b m) = Some m
operand_of (BndmovFrom b rm) = memory_of rm
operand_of (Bndldx b m) = Some m
operand_of (Bndstx b m) = Some m
operand_of i = None

-- C's places are reached by a base register other than the stack pointer. By rsp the code reaches its own frame, and by an
-- address without base register, or from rip, the cells
abbrev pub is_c_base : Base → Bool
is_c_base NoBase = false
is_c_base (BaseReg r) = not (nat_eq r.0 rsp)
is_c_base Rip = false

abbrev pub is_c_operand : Option Mem → Bool
is_c_operand None = false
is_c_operand (Some m) = is_c_base m.base

-- whether an access of an instruction of instrumented code is one that it makes for C. The access of push, pop, call and ret
-- to the stack is implicit, and so is the reading of a service
unfoldable pub is_c_access : Instr → Span → Bool
is_c_access i s = not s.implicit && is_c_operand (operand_of i)

-- ---- data accesses

-- whether the watch looks at an access of the instruction at address `from`: at all of legacy code, and at C accesses
unfoldable pub is_watched : Instr → ℕ → Span → Bool
is_watched i from s = is_legacy from || is_c_access i s

-- the first sealed byte of an access, whose bytes may go past the last address and on from address 0
unfoldable pub first_sealed : Span → Option ℕ
first_sealed s = first_refused_around (λ a. not (is_sealed a)) s.size s.at

-- where an access of the instruction at address `from` strays: at its first sealed byte, if it is watched; None where it is fine
unfoldable pub access_strays : Instr → ℕ → Span → Option ℕ
access_strays i from s = if is_watched i from s then first_sealed s else None

-- ---- control

-- where calls of legacy code come back
abbrev pub landing : ℕ
landing = 0x0100_0400

-- the outer entries, by which legacy code calls C: 128 bytes each, one for each C function of the image
abbrev pub first_outer : ℕ
first_outer = 0x0101_0000

abbrev pub outer_size : ℕ
outer_size = 128

abbrev pub outer_entry : ℕ → ℕ
outer_entry k = first_outer + outer_size * k

-- the address lies in one of so many outer entries, and is the first of one
unfoldable pub is_in_outer : ℕ → ℕ → Bool
is_in_outer outers a = nat_le first_outer a && nat_lt a (outer_entry outers)

unfoldable pub begins_outer : ℕ → ℕ → Bool
begins_outer outers a = is_in_outer outers a && nat_eq ((a - first_outer) % outer_size) 0

-- where legacy code may go in instrumented code: to the landing, and by a call to an outer entry
unfoldable pub may_enter : ℕ → Bool → ℕ → Bool
may_enter to call outers = nat_eq to landing || (call && begins_outer outers to)

-- control of legacy code: from there, or by the return of an outer entry
unfoldable pub is_legacy_control : ℕ → Bool → ℕ → Bool
is_legacy_control from ret outers = is_legacy from || (ret && is_in_outer outers from)

-- where control strays that goes from the instruction at address `from`, a call or a return or neither, to another address:
-- at that address, or None where it is fine
unfoldable pub control_strays : ℕ → ℕ → Bool → Bool → ℕ → Option ℕ
control_strays from to call ret outers = if is_legacy_control from ret outers && is_in instrumented_code to && not (may_enter to call outers) then Some to else None
