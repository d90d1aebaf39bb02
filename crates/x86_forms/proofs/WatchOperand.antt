-- Each access of an instruction is at the address of its memory operand, or is implicit.
use Rattle.std.proofs.Common.{ℕ, Bool, true, false, nat_lt, refl, inl, inr, []}
use Rattle.std.specs.Prelude.{if◌then◌else◌, None, Some, ◌∷◌}
use Rattle.std.specs.List.{AllByRecursion}
use Rattle.x86_forms.specs.declared.instr.Instr.{Instr}
use Rattle.x86_forms.specs.declared.instr.Reg.{Reg}
use Rattle.x86_forms.specs.declared.instr.Mem.{Mem}
use Rattle.x86_forms.specs.declared.instr.Rm.TheVariants.{Reg as InReg, Mem as InMem}
use Rattle.x86_forms.specs.declared.instr.Instr.TheVariants.{MovTo, MovFrom, MovMemImm, MovImm, Movsxd, Movzx, Movsx, Lea, AluTo, AluFrom, AluImm, Test, Imul, One, Wide, ShiftCl, ShiftImm, Set, Push, Pop, CallRel, JmpRel, CallRm, JmpRm, Jcc, Ret, Syscall, Ud2, Nop, Bndmk, Bndcl, Bndcu, Bndcn, BndmovTo, BndmovFrom, Bndldx, Bndstx}
use Rattle.x86_forms.specs.Accesses.{accesses, span, operand_writes}
use Rattle.x86_forms.specs.Processor.{address}
use Rattle.x86_forms.specs.Watch.{operand_of}
use Rattle.x86_forms.specs.WatchLaws.{IsAtOperand}

changes_at : (regs : ℕ → ℕ) (next w : ℕ) (m : Mem) (b : Bool) → AllByRecursion (IsAtOperand regs next (Some m)) (span (address regs next m) w false ∷ (if b then operand_writes regs next w (InMem m) else []))
changes_at regs next w m true = (inr refl, (inr refl, tt))
changes_at regs next w m false = (inr refl, tt)

no_changes : (regs : ℕ → ℕ) (next w : ℕ) (s : Reg) (b : Bool) → AllByRecursion (IsAtOperand regs next None) (if b then operand_writes regs next w (InReg s) else [])
no_changes regs next w s true = tt
no_changes regs next w s false = tt

pub accesses-at_operand : (i : Instr) (next : ℕ) (regs : ℕ → ℕ) → AllByRecursion (IsAtOperand regs next (operand_of i)) (accesses i next regs)
accesses-at_operand (MovTo w r (InReg s)) next regs = tt
accesses-at_operand (MovTo w r (InMem m)) next regs = (inr refl, tt)
accesses-at_operand (MovFrom w r m) next regs = (inr refl, tt)
accesses-at_operand (MovMemImm w m imm) next regs = (inr refl, tt)
accesses-at_operand (MovImm w r imm) next regs = tt
accesses-at_operand (Movsxd r (InReg s)) next regs = tt
accesses-at_operand (Movsxd r (InMem m)) next regs = (inr refl, tt)
accesses-at_operand (Movzx from r (InReg s)) next regs = tt
accesses-at_operand (Movzx from r (InMem m)) next regs = (inr refl, tt)
accesses-at_operand (Movsx w from r (InReg s)) next regs = tt
accesses-at_operand (Movsx w from r (InMem m)) next regs = (inr refl, tt)
accesses-at_operand (Lea r m) next regs = tt
accesses-at_operand (AluTo op w r (InReg s)) next regs = no_changes regs next w s (nat_lt op 5)
accesses-at_operand (AluTo op w r (InMem m)) next regs = changes_at regs next w m (nat_lt op 5)
accesses-at_operand (AluFrom op w r m) next regs = (inr refl, tt)
accesses-at_operand (AluImm op w (InReg s) imm) next regs = no_changes regs next w s (nat_lt op 5)
accesses-at_operand (AluImm op w (InMem m) imm) next regs = changes_at regs next w m (nat_lt op 5)
accesses-at_operand (Test w r (InReg s)) next regs = tt
accesses-at_operand (Test w r (InMem m)) next regs = (inr refl, tt)
accesses-at_operand (Imul w r (InReg s)) next regs = tt
accesses-at_operand (Imul w r (InMem m)) next regs = (inr refl, tt)
accesses-at_operand (One op w (InReg s)) next regs = no_changes regs next w s (nat_lt op 2)
accesses-at_operand (One op w (InMem m)) next regs = changes_at regs next w m (nat_lt op 2)
accesses-at_operand (Wide w) next regs = tt
accesses-at_operand (ShiftCl op w (InReg s)) next regs = tt
accesses-at_operand (ShiftCl op w (InMem m)) next regs = (inr refl, (inr refl, tt))
accesses-at_operand (ShiftImm op w (InReg s) imm) next regs = tt
accesses-at_operand (ShiftImm op w (InMem m) imm) next regs = (inr refl, (inr refl, tt))
accesses-at_operand (Set op (InReg s)) next regs = tt
accesses-at_operand (Set op (InMem m)) next regs = (inr refl, tt)
accesses-at_operand (Push r) next regs = (refl, tt)
accesses-at_operand (Pop r) next regs = (refl, tt)
accesses-at_operand (CallRel prefixed rel) next regs = (refl, tt)
accesses-at_operand (JmpRel prefixed rel) next regs = tt
accesses-at_operand (CallRm prefixed (InReg s)) next regs = (refl, tt)
accesses-at_operand (CallRm prefixed (InMem m)) next regs = (inr refl, (inl refl, tt))
accesses-at_operand (JmpRm prefixed (InReg s)) next regs = tt
accesses-at_operand (JmpRm prefixed (InMem m)) next regs = (inr refl, tt)
accesses-at_operand (Jcc prefixed op rel) next regs = tt
accesses-at_operand (Ret prefixed) next regs = (refl, tt)
accesses-at_operand Syscall next regs = tt
accesses-at_operand Ud2 next regs = tt
accesses-at_operand Nop next regs = tt
accesses-at_operand (Bndmk b m) next regs = tt
accesses-at_operand (Bndcl b rm) next regs = tt
accesses-at_operand (Bndcu b rm) next regs = tt
accesses-at_operand (Bndcn b rm) next regs = tt
accesses-at_operand (BndmovTo b m) next regs = (inr refl, tt)
accesses-at_operand (BndmovFrom b (InReg s)) next regs = tt
accesses-at_operand (BndmovFrom b (InMem m)) next regs = (inr refl, tt)
accesses-at_operand (Bndldx b m) next regs = tt
accesses-at_operand (Bndstx b m) next regs = tt
