-- The instruction table: what each instruction does, as a program of requests over the processor before it (Intel SDM, volume 2, the page of each instruction).
-- Reads come first, then writes and pushes, and then the target. A row that fails leaves the processor as it was, but for BNDSTATUS.
use Rattle.std.specs.Prelude.{ℕ, ◌+◌, ◌-◌, ◌*◌, ◌/◌, ◌^◌, Bool, true, false, nat_lt, ◌==◌, ◌||◌, if◌then◌else◌, Option, None, Some, ℤ}
use Rattle.std.specs.Int.{cast_unsigned, w64}
use Rattle.mx_base.specs.declared.limits.Bounds.{Bounds}
use Rattle.mx_base.specs.Bounds.{full_bounds, complement}
use Rattle.mx_base.specs.Walk.{violation_status}
use Rattle.x86_forms.specs.declared.instr.Instr.{Instr}
use Rattle.x86_forms.specs.declared.instr.Rm.{Rm}
use Rattle.x86_forms.specs.declared.instr.Rm.TheVariants.{Reg as InReg, Mem as InMem}
use Rattle.x86_forms.specs.declared.instr.Instr.TheVariants.{MovTo, MovFrom, MovMemImm, MovImm, Movsxd, Movzx, Movsx, Lea, AluTo, AluFrom, AluImm, Test as TestRm, Imul as ImulRm, One, Wide, ShiftCl, ShiftImm, Set, Push, Pop, CallRel, JmpRel, CallRm, JmpRm, Jcc, Ret, Syscall, Ud2, Nop, Bndmk, Bndcl, Bndcu, Bndcn, BndmovTo, BndmovFrom, Bndldx, Bndstx}
use Rattle.x86_forms.specs.Arithmetic.{Flags, no_flags, low, signed, bits_of, is_negative, Operation, Add, Or, And, Sub, Xor, Cmp, Test, Imul, Not, Neg, Shl, Shr, Sar, result_of, flags_after, writes_result, divided, divided_signed, holds}
use Rattle.x86_forms.specs.Processor.{Processor, rax, rcx, rdx, rsp, r11, with_reg, with_part, with_bounds, bytes_in, base_value, index_register, address, pointer_address, below_stack, above_stack, branch_target}
use Rattle.x86_forms.specs.Requests.{Program, Ends, Fails, Reads, Writes, Loads, Keeps, Divides, Undefines, Violates}

-- ---- the processor after small steps

-- on to the next instruction
abbrev pub at_next : Processor → ℕ → Processor
at_next c next = record c { rip = next }

abbrev pub with_result : Processor → ℕ → ℕ → ℕ → Processor
with_result c w r v = record c { regs = with_part w c.regs r v }

abbrev pub with_flags : Processor → Flags → Processor
with_flags c f = record c { flags = f }

abbrev pub with_stack : Processor → ℕ → Processor
with_stack c sp = record c { regs = with_reg c.regs rsp sp }

abbrev pub with_bnd : Processor → ℕ → Bounds → Processor
with_bnd c b x = record c { bounds = with_bounds c.bounds b x }

abbrev pub init_bounds : ℕ → Bounds
init_bounds = λ b. full_bounds

-- a near branch to a target: without the BND prefix it sets BND0 to BND3 to INIT, unless BNDPRESERVE is set
-- (SDM, volume 1, "MPX and control flow": CALL, RET, JMP and Jcc)
abbrev pub branched : Processor → Bool → ℕ → Processor
branched c prefixed target = record c { rip = target; bounds = if prefixed || c.preserve then c.bounds else init_bounds }

-- ---- operands

-- the w bits of a register
abbrev pub reg_value : Processor → ℕ → ℕ → ℕ
reg_value c w r = low w (c.regs r)

-- the value of a register or memory operand, for the rest of the row
abbrev pub value_then : Processor → ℕ → ℕ → Rm → (ℕ → Program) → Program
value_then c next w (InReg r) rest = rest (reg_value c w r.0)
value_then c next w (InMem m) rest = Reads (address c.regs next m) (bytes_in w) false (λ v. rest (low w v))

-- the value written to the operand, and then the end, `after` being the processor then but for the operand. The address is made of the registers before the instruction
abbrev pub written_to : Processor → ℕ → ℕ → Rm → ℕ → Processor → Program
written_to c next w (InReg r) v after = Ends (with_result after w r.0 v)
written_to c next w (InMem m) v after = Writes (address c.regs next m) (bytes_in w) (low w v) false (Ends after)

-- the w bits of a signed immediate
abbrev pub imm_value : ℕ → ℤ → ℕ
imm_value w imm = low w (cast_unsigned w64 imm)

-- 8 bytes pushed, and then the end
abbrev pub pushed : Processor → ℕ → Processor → Program
pushed c v after = Writes (below_stack (c.regs rsp)) 8 (low 64 v) true (Ends (with_stack after (below_stack (c.regs rsp))))

-- ---- groups of forms

-- the operation by its place in the list `add or and sub xor cmp`
abbrev pub alu_operation : ℕ → Operation
alu_operation op = if op == 0 then Add else if op == 1 then Or else if op == 2 then And else if op == 3 then Sub else if op == 4 then Xor else Cmp

-- in the list `shl shr sar`
abbrev pub shift_operation : ℕ → Operation
shift_operation op = if op == 0 then Shl else if op == 1 then Shr else Sar

abbrev pub with_flags_after : Processor → ℕ → Operation → ℕ → ℕ → ℕ → Processor
with_flags_after c next op w a b = with_flags (at_next c next) (flags_after op w a b c.flags)

-- an operation on the operand's value a, its result written there where it has one
abbrev pub operated : Processor → ℕ → Operation → ℕ → Rm → ℕ → ℕ → Program
operated c next op w rm a b = if writes_result op then written_to c next w rm (result_of op w a b) (with_flags_after c next op w a b) else Ends (with_flags_after c next op w a b)

-- division of rdx:rax by the operand's value: the quotient to rax and the rest to rdx, all flags cleared, which the manual leaves undefined
abbrev pub quotient_kept : Processor → ℕ → ℕ → Option (ℕ × ℕ) → Program
quotient_kept c next w None = Fails Divides c
quotient_kept c next w (Some q) = Ends (with_flags (with_result (with_result (at_next c next) w rax q.0) w rdx q.1) no_flags)

-- `not neg div idiv`, by the place in this list
abbrev pub one_operand : Processor → ℕ → ℕ → ℕ → Rm → ℕ → Program
one_operand c next op w rm a =
    if op == 0 then operated c next Not w rm a 0
    else if op == 1 then operated c next Neg w rm a 0
    else if op == 2 then quotient_kept c next w (divided w (reg_value c w rdx) (reg_value c w rax) a)
    else quotient_kept c next w (divided_signed w (reg_value c w rdx) (reg_value c w rax) a)

-- a bounds check: a value on the wrong side sets BNDSTATUS and raises #BR
abbrev pub checked : Processor → ℕ → Bool → ℕ → Bounds → Program
checked c next violates v b = if violates then Fails (Violates v b) (record c { status = violation_status }) else Ends (at_next c next)

-- the value that BNDCL, BNDCU and BNDCN check: a memory operand gives only its address
abbrev pub checked_value : Processor → ℕ → Rm → ℕ
checked_value c next (InReg r) = c.regs r.0
checked_value c next (InMem m) = address c.regs next m

-- bounds as 16 bytes of memory: the lower bound, and the upper one in one's complement form
abbrev pub as_stored : Bounds → ℕ
as_stored b = b.lb + complement b.ub * 2 ^ 64

abbrev pub from_stored : ℕ → Bounds
from_stored v = record { lb = low 64 v; ub = complement (low 64 (v / 2 ^ 64)) }

-- bounds from a bounds register or memory
abbrev pub bounds_then : Processor → ℕ → Rm → (Bounds → Program) → Program
bounds_then c next (InReg r) rest = rest (c.bounds r.0)
bounds_then c next (InMem m) rest = Reads (address c.regs next m) 16 false (λ v. rest (from_stored v))

-- ---- the table: the row of an instruction, `next` being the address after it and c the processor before it
unfoldable pub row : Instr → ℕ → Processor → Program
-- MOV, Move
row (MovTo w r rm) next c = written_to c next w rm (reg_value c w r.0) (at_next c next)
row (MovFrom w r m) next c = value_then c next w (InMem m) (λ v. Ends (with_result (at_next c next) w r.0 v))
row (MovMemImm w m imm) next c = written_to c next w (InMem m) (imm_value w imm) (at_next c next)
row (MovImm w r imm) next c = Ends (with_result (at_next c next) w r.0 (imm_value w imm))
-- MOVSX/MOVSXD, Move With Sign-Extension
row (Movsxd r rm) next c = value_then c next 32 rm (λ v. Ends (with_result (at_next c next) 64 r.0 (bits_of 64 (signed 32 v))))
row (Movsx w from r rm) next c = value_then c next from rm (λ v. Ends (with_result (at_next c next) w r.0 (bits_of w (signed from v))))
-- MOVZX, Move With Zero-Extend
row (Movzx from r rm) next c = value_then c next from rm (λ v. Ends (with_result (at_next c next) 32 r.0 v))
-- LEA, Load Effective Address
row (Lea r m) next c = Ends (with_result (at_next c next) 64 r.0 (address c.regs next m))
-- ADD, OR, AND, SUB, XOR, CMP
row (AluTo op w r rm) next c = value_then c next w rm (λ a. operated c next (alu_operation op) w rm a (reg_value c w r.0))
row (AluFrom op w r m) next c = value_then c next w (InMem m) (λ b. operated c next (alu_operation op) w (InReg r) (reg_value c w r.0) b)
row (AluImm op w rm imm) next c = value_then c next w rm (λ a. operated c next (alu_operation op) w rm a (imm_value w imm))
-- TEST, Logical Compare
row (TestRm w r rm) next c = value_then c next w rm (λ a. operated c next Test w rm a (reg_value c w r.0))
-- IMUL, Signed Multiply
row (ImulRm w r rm) next c = value_then c next w rm (λ b. operated c next Imul w (InReg r) (reg_value c w r.0) b)
-- NOT, NEG, DIV, IDIV
row (One op w rm) next c = value_then c next w rm (λ a. one_operand c next op w rm a)
-- CWD/CDQ/CQO, Convert Doubleword to Quadword
row (Wide w) next c = Ends (with_result (at_next c next) w rdx (if is_negative w (reg_value c w rax) then 2 ^ w - 1 else 0))
-- SAL/SAR/SHL/SHR, Shift
row (ShiftCl op w rm) next c = value_then c next w rm (λ a. operated c next (shift_operation op) w rm a (reg_value c 8 rcx))
row (ShiftImm op w rm imm) next c = value_then c next w rm (λ a. operated c next (shift_operation op) w rm a (imm_value 8 imm))
-- SETcc, Set Byte on Condition
row (Set op rm) next c = written_to c next 8 rm (if holds op c.flags then 1 else 0) (at_next c next)
-- PUSH: the value is the one before, for rsp too
row (Push r) next c = pushed c (c.regs r.0) (at_next c next)
-- POP: the stack pointer grows before the register is written
row (Pop r) next c = Reads (c.regs rsp) 8 true (λ v. Ends (with_result (with_stack (at_next c next) (above_stack (c.regs rsp))) 64 r.0 v))
-- CALL, Call Procedure
row (CallRel prefixed rel) next c = pushed c next (branched c prefixed (branch_target next rel))
row (CallRm prefixed rm) next c = value_then c next 64 rm (λ target. pushed c next (branched c prefixed target))
-- JMP, Jump
row (JmpRel prefixed rel) next c = Ends (branched c prefixed (branch_target next rel))
row (JmpRm prefixed rm) next c = value_then c next 64 rm (λ target. Ends (branched c prefixed target))
-- Jcc, Jump if Condition Is Met: without the prefix it sets the bounds to INIT whether or not it is taken
row (Jcc prefixed op rel) next c = Ends (branched c prefixed (if holds op c.flags then branch_target next rel else next))
-- RET, Return From Procedure
row (Ret prefixed) next c = Reads (c.regs rsp) 8 true (λ target. Ends (with_stack (branched c prefixed (low 64 target)) (above_stack (c.regs rsp))))
-- SYSCALL, Fast System Call: rcx gets the address of the next instruction and r11 the flags, which are 0 here; the service comes after it
row Syscall next c = Ends (with_result (with_result (at_next c next) 64 rcx next) 64 r11 0)
-- UD, Undefined Instruction
row Ud2 next c = Fails Undefines c
-- NOP, No Operation
row Nop next c = Ends (at_next c next)
-- BNDMK, Make Bounds: the lower bound is the base register, 0 if there is none
row (Bndmk b m) next c = Ends (with_bnd (at_next c next) b (record { lb = base_value c.regs next m.base; ub = address c.regs next m }))
-- BNDCL, Check Lower Bound
row (Bndcl b rm) next c = checked c next (nat_lt (checked_value c next rm) (c.bounds b).lb) (checked_value c next rm) (c.bounds b)
-- BNDCU/BNDCN, Check Upper Bound: against the upper bound, and against the word in which it is held
row (Bndcu b rm) next c = checked c next (nat_lt (c.bounds b).ub (checked_value c next rm)) (checked_value c next rm) (c.bounds b)
row (Bndcn b rm) next c = checked c next (nat_lt (complement (c.bounds b).ub) (checked_value c next rm)) (checked_value c next rm) (c.bounds b)
-- BNDMOV, Move Bounds: with memory one access of 16 bytes
row (BndmovTo b m) next c = Writes (address c.regs next m) 16 (as_stored (c.bounds b)) false (Ends (at_next c next))
row (BndmovFrom b rm) next c = bounds_then c next rm (λ x. Ends (with_bnd (at_next c next) b x))
-- BNDLDX, Load Extended Bounds Using Address Translation
row (Bndldx b m) next c = Loads (pointer_address c.regs next m) (index_register c.regs m.index) (λ x. Ends (with_bnd (at_next c next) b x))
-- BNDSTX, Store Extended Bounds Using Address Translation
row (Bndstx b m) next c = Keeps (pointer_address c.regs next m) (index_register c.regs m.index) (c.bounds b) (Ends (at_next c next))
