-- The data accesses of an instruction, in the order in which they are made: reads first, and then writes and pushes.
use Rattle.std.specs.Prelude.{ℕ, Bool, true, false, nat_lt, if◌then◌else◌, None, Some, List, [], ◌∷◌, ◌++◌}
use Rattle.x86_forms.specs.declared.instr.Instr.{Instr}
use Rattle.x86_forms.specs.declared.instr.Rm.{Rm}
use Rattle.x86_forms.specs.declared.instr.Rm.TheVariants.{Reg as InReg, Mem as InMem}
use Rattle.x86_forms.specs.declared.instr.Instr.TheVariants.{MovTo, MovFrom, MovMemImm, Movsxd, Movzx, Movsx, AluTo, AluFrom, AluImm, Test, Imul, One, ShiftCl, ShiftImm, Set, Push, Pop, CallRel, CallRm, JmpRm, Ret, BndmovTo, BndmovFrom}
use Rattle.x86_forms.specs.declared.spans.Span.{Span}
use Rattle.x86_forms.specs.declared.spans.Reach.{Reach}
use Rattle.x86_forms.specs.Processor.{address, bytes_in, below_stack, rsp}

-- an access that an operand names, of w bits
abbrev pub span : ℕ → ℕ → Bool → Span
span at w write = record { at = at; size = bytes_in w; write = write; implicit = false }

-- the write of push and call to the stack, and the read of pop and ret
abbrev pub push : (ℕ → ℕ) → Span
push regs = record { at = below_stack (regs rsp); size = 8; write = true; implicit = true }

abbrev pub pop : (ℕ → ℕ) → Span
pop regs = record { at = regs rsp; size = 8; write = false; implicit = true }

abbrev pub pushes : (ℕ → ℕ) → List Span
pushes regs = push regs ∷ []

abbrev pub pops : (ℕ → ℕ) → List Span
pops regs = pop regs ∷ []

-- a register operand is no access
abbrev pub operand_reads : (ℕ → ℕ) → ℕ → ℕ → Rm → List Span
operand_reads regs next w (InReg r) = []
operand_reads regs next w (InMem m) = span (address regs next m) w false ∷ []

abbrev pub operand_writes : (ℕ → ℕ) → ℕ → ℕ → Rm → List Span
operand_writes regs next w (InReg r) = []
operand_writes regs next w (InMem m) = span (address regs next m) w true ∷ []

-- an operand that is read, and then also written or not
abbrev pub operand_changes : (ℕ → ℕ) → ℕ → ℕ → Rm → Bool → List Span
operand_changes regs next w rm writes = operand_reads regs next w rm ++ (if writes then operand_writes regs next w rm else [])

abbrev pub call_accesses : (ℕ → ℕ) → ℕ → Rm → List Span
call_accesses regs next rm = operand_reads regs next 64 rm ++ pushes regs

-- the accesses of an instruction, `next` being the address after it. `lea`, BNDMK and the bounds checks only compute an
-- address, and a walk to the bounds of a pointer is no data access
abbrev pub accesses : Instr → ℕ → (ℕ → ℕ) → List Span
accesses (MovTo w r rm) next regs = operand_writes regs next w rm
accesses (MovFrom w r m) next regs = operand_reads regs next w (InMem m)
accesses (MovMemImm w m imm) next regs = operand_writes regs next w (InMem m)
accesses (Movsxd r rm) next regs = operand_reads regs next 32 rm
accesses (Movzx from r rm) next regs = operand_reads regs next from rm
accesses (Movsx w from r rm) next regs = operand_reads regs next from rm
accesses (AluTo op w r rm) next regs = operand_changes regs next w rm (nat_lt op 5)
accesses (AluFrom op w r m) next regs = operand_reads regs next w (InMem m)
accesses (AluImm op w rm imm) next regs = operand_changes regs next w rm (nat_lt op 5)
accesses (Test w r rm) next regs = operand_reads regs next w rm
accesses (Imul w r rm) next regs = operand_reads regs next w rm
accesses (One op w rm) next regs = operand_changes regs next w rm (nat_lt op 2)
accesses (ShiftCl op w rm) next regs = operand_changes regs next w rm true
accesses (ShiftImm op w rm imm) next regs = operand_changes regs next w rm true
accesses (Set op rm) next regs = operand_writes regs next 8 rm
accesses (Push r) next regs = pushes regs
accesses (Pop r) next regs = pops regs
accesses (CallRel prefixed rel) next regs = pushes regs
accesses (CallRm prefixed rm) next regs = call_accesses regs next rm
accesses (JmpRm prefixed rm) next regs = operand_reads regs next 64 rm
accesses (Ret prefixed) next regs = pops regs
accesses (BndmovTo b m) next regs = operand_writes regs next 128 (InMem m)
accesses (BndmovFrom b rm) next regs = operand_reads regs next 128 rm
accesses i next regs = []

-- at most two accesses, as an answer of `reach`
abbrev pub reach_of : List Span → Reach
reach_of [] = record { first = None; second = None }
reach_of (a ∷ []) = record { first = Some a; second = None }
reach_of (a ∷ b ∷ rest) = record { first = Some a; second = Some b }
