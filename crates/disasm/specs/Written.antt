-- What stands on the line of each instruction: its mnemonic and its operands, in the order of the text (the names of the Intel manual,
-- SDM volume 2, destination first).
use Rattle.std.specs.Prelude.{ℕ, Bool, false, nat_eq, if◌then◌else◌, List, [], ◌++◌, codes}
use Rattle.x86_forms.specs.declared.instr.Instr.{Instr}
use Rattle.x86_forms.specs.declared.instr.Instr.TheVariants.{MovTo, MovFrom, MovMemImm, MovImm, Movsxd, Movzx, Movsx, Lea, AluTo, AluFrom, AluImm, Test, Imul, One, Wide, ShiftCl, ShiftImm, Set, Push, Pop, CallRel, JmpRel, CallRm, JmpRm, Jcc, Ret, Syscall, Ud2, Nop, Bndmk, Bndcl, Bndcu, Bndcn, BndmovTo, BndmovFrom, Bndldx, Bndstx}
use Rattle.x86_forms.specs.declared.instr.Rm.{Rm}
use Rattle.x86_forms.specs.declared.instr.Rm.TheVariants.{Reg as InReg, Mem as InMem}
use Rattle.asm_names.specs.Mnemonics.{mnemonic_text}
use Rattle.asm_names.specs.declared.mnemonic.Mnemonic.{Mnemonic}
use Rattle.asm_names.specs.declared.mnemonic.Mnemonic.TheVariants as mnemonic
use Rattle.disasm.specs.declared.operand.Operand.{Operand}
use Rattle.disasm.specs.declared.operand.Operand.TheVariants.{Nothing, Register, Bounds, Memory, Sized, Signed, Relative}
use Rattle.disasm.specs.declared.operand.Written.{Written}
use Rattle.disasm.specs.Operands.{behind}

-- a register or memory, beside an operand that fixes the width
abbrev pub plain : ℕ → Rm → Operand
plain w (InReg r) = Register w r
plain w (InMem m) = Memory m

-- where nothing else fixes the width, memory has its size word
abbrev pub sized : ℕ → Rm → Operand
sized w (InReg r) = Register w r
sized w (InMem m) = Sized w m

-- a bounds register or memory
abbrev pub bounds_or_memory : Rm → Operand
bounds_or_memory (InReg r) = Bounds r.0
bounds_or_memory (InMem m) = Memory m

-- the count register of shifts
abbrev pub cl : Operand
cl = Register 8 (record { 0 = 1 })

abbrev pub prefixed_one : Bool → Mnemonic → Operand → Written
prefixed_one prefixed m x = record { prefixed = prefixed; mnemonic = m; first = x; second = Nothing }

abbrev pub none : Mnemonic → Written
none m = prefixed_one false m Nothing

abbrev pub single : Mnemonic → Operand → Written
single m x = prefixed_one false m x

abbrev pub pair : Mnemonic → Operand → Operand → Written
pair m x y = record { prefixed = false; mnemonic = m; first = x; second = y }

unfoldable pub written_of : Instr → Written
written_of (MovTo w r rm) = pair mnemonic.Mov (plain w rm) (Register w r)
written_of (MovFrom w r m) = pair mnemonic.Mov (Register w r) (Memory m)
written_of (MovMemImm w m imm) = pair mnemonic.Mov (Sized w m) (Signed imm)
written_of (MovImm w r imm) = pair mnemonic.Mov (Register w r) (Signed imm)
written_of (Movsxd r rm) = pair mnemonic.Movsxd (Register 64 r) (plain 32 rm)
written_of (Movzx from r rm) = pair mnemonic.Movzx (Register 32 r) (sized from rm)
written_of (Movsx w from r rm) = pair mnemonic.Movsx (Register w r) (sized from rm)
written_of (Lea r m) = pair mnemonic.Lea (Register 64 r) (Memory m)
written_of (AluTo op w r rm) = pair (mnemonic.Alu op) (plain w rm) (Register w r)
written_of (AluFrom op w r m) = pair (mnemonic.Alu op) (Register w r) (Memory m)
written_of (AluImm op w rm imm) = pair (mnemonic.Alu op) (sized w rm) (Signed imm)
written_of (Test w r rm) = pair mnemonic.Test (plain w rm) (Register w r)
written_of (Imul w r rm) = pair mnemonic.Imul (Register w r) (plain w rm)
written_of (One op w rm) = single (mnemonic.One op) (sized w rm)
written_of (Wide w) = none (if nat_eq w 32 then mnemonic.Cdq else mnemonic.Cqo)
written_of (ShiftCl op w rm) = pair (mnemonic.Shift op) (sized w rm) cl
written_of (ShiftImm op w rm imm) = pair (mnemonic.Shift op) (sized w rm) (Signed imm)
written_of (Set op rm) = single (mnemonic.Set op) (sized 8 rm)
written_of (Push r) = single mnemonic.Push (Register 64 r)
written_of (Pop r) = single mnemonic.Pop (Register 64 r)
written_of (CallRel prefixed rel) = prefixed_one prefixed mnemonic.Call (Relative rel)
written_of (JmpRel prefixed rel) = prefixed_one prefixed mnemonic.Jmp (Relative rel)
written_of (CallRm prefixed rm) = prefixed_one prefixed mnemonic.Call (plain 64 rm)
written_of (JmpRm prefixed rm) = prefixed_one prefixed mnemonic.Jmp (plain 64 rm)
written_of (Jcc prefixed op rel) = prefixed_one prefixed (mnemonic.JumpIf op) (Relative rel)
written_of (Ret prefixed) = prefixed_one prefixed mnemonic.Ret Nothing
written_of Syscall = none mnemonic.Syscall
written_of Ud2 = none mnemonic.Ud2
written_of Nop = none mnemonic.Nop
written_of (Bndmk b m) = pair mnemonic.Bndmk (Bounds b) (Memory m)
written_of (Bndcl b rm) = pair mnemonic.Bndcl (Bounds b) (plain 64 rm)
written_of (Bndcu b rm) = pair mnemonic.Bndcu (Bounds b) (plain 64 rm)
written_of (Bndcn b rm) = pair mnemonic.Bndcn (Bounds b) (plain 64 rm)
written_of (BndmovTo b m) = pair mnemonic.Bndmov (Memory m) (Bounds b)
written_of (BndmovFrom b rm) = pair mnemonic.Bndmov (Bounds b) (bounds_or_memory rm)
written_of (Bndldx b m) = pair mnemonic.Bndldx (Bounds b) (Memory m)
written_of (Bndstx b m) = pair mnemonic.Bndstx (Memory m) (Bounds b)

-- the prefix, the mnemonic, and the operands behind a space and a comma
abbrev pub text_of_written : Written → List ℕ
text_of_written w = (if w.prefixed then codes "bnd " else []) ++ mnemonic_text w.mnemonic ++ behind (codes " ") w.first ++ behind (codes ", ") w.second

-- the text of an instruction
abbrev pub text_of : Instr → List ℕ
text_of i = text_of_written (written_of i)
