-- The instructions of pieces, of which the code of a function is made.
use Rattle.std.specs.Prelude.{ℕ, ◌*◌, true, None, ℤ, pos, ◌-ℤ◌}
use Rattle.mx_base.specs.declared.numbers.IntKind.{IntKind}
use Rattle.mx_base.specs.declared.numbers.IntKind.TheVariants.{I8, U8, I16, U16, I32, U32, I64, U64}
use Rattle.mx_base.specs.Numbers.{size_of}
use Rattle.x86_forms.specs.declared.instr.Instr.{Instr}
use Rattle.x86_forms.specs.declared.instr.Mem.{Mem}
use Rattle.x86_forms.specs.declared.instr.Base.TheVariants.{None as NoBase}
use Rattle.x86_forms.specs.declared.instr.Rm.TheVariants.{Mem as InMem}
use Rattle.x86_forms.specs.declared.instr.Instr.TheVariants.{MovTo, MovFrom, Movsxd, Movzx, Movsx, BndmovTo, BndmovFrom, Bndldx, Bndstx, JmpRel, Jcc, CallRel, Syscall}
use Rattle.x86_forms.specs.Examples.{reg, based, indexed}
use Rattle.step_code.specs.declared.pieces.Piece.{Piece}
use Rattle.step_code.specs.declared.pieces.Piece.TheVariants.{Plain, LoadSlot, KeepSlot, LoadBounds, KeepBounds, LoadCell, Read, Write, LoadPair, KeepPair, Go, GoIf, Hop, Serve, CallTo}

-- ---- their instructions

abbrev pub of_frame : ℕ → Mem
of_frame k = based 4 (pos (8 * k))

-- the cell of the data stack pointer
abbrev pub data_sp_cell : ℕ
data_sp_cell = 0x7000_0010

abbrev pub cell : ℕ → Mem
cell at = record { base = NoBase; index = None; disp = pos at }

abbrev pub read_instr : IntKind → ℕ → ℕ → Instr
read_instr I8 r p = Movsx 64 8 (reg r) (InMem (based p (pos 0)))
read_instr U8 r p = Movzx 8 (reg r) (InMem (based p (pos 0)))
read_instr I16 r p = Movsx 64 16 (reg r) (InMem (based p (pos 0)))
read_instr U16 r p = Movzx 16 (reg r) (InMem (based p (pos 0)))
read_instr I32 r p = Movsxd (reg r) (InMem (based p (pos 0)))
read_instr U32 r p = MovFrom 32 (reg r) (based p (pos 0))
read_instr I64 r p = MovFrom 64 (reg r) (based p (pos 0))
read_instr U64 r p = MovFrom 64 (reg r) (based p (pos 0))

abbrev pub relative : (target next : ℕ) → ℤ
relative target next = pos target -ℤ pos next

-- the instruction of a piece. `next` is the address after it, and labels and functions stand at addresses; each branch has the BND prefix
abbrev pub instr_of : (label_at entry_at : ℕ → ℕ) → (next : ℕ) → Piece → Instr
instr_of label_at entry_at next (Plain i) = i
instr_of label_at entry_at next (LoadSlot r k) = MovFrom 64 (reg r) (of_frame k)
instr_of label_at entry_at next (KeepSlot k r) = MovTo 64 (reg r) (InMem (of_frame k))
instr_of label_at entry_at next (LoadBounds b k) = BndmovFrom b (InMem (of_frame k))
instr_of label_at entry_at next (KeepBounds k b) = BndmovTo b (of_frame k)
instr_of label_at entry_at next (LoadCell r) = MovFrom 64 (reg r) (cell data_sp_cell)
instr_of label_at entry_at next (Read kind r p) = read_instr kind r p
instr_of label_at entry_at next (Write kind p r) = MovTo (8 * size_of kind) (reg r) (InMem (based p (pos 0)))
instr_of label_at entry_at next (LoadPair b p v) = Bndldx b (indexed p v 1 (pos 0))
instr_of label_at entry_at next (KeepPair p v b) = Bndstx b (indexed p v 1 (pos 0))
instr_of label_at entry_at next (Go label) = JmpRel true (relative (label_at label) next)
instr_of label_at entry_at next (GoIf code label) = Jcc true code (relative (label_at label) next)
instr_of label_at entry_at next (Hop code skip) = Jcc true code (pos skip)
instr_of label_at entry_at next Serve = Syscall
instr_of label_at entry_at next (CallTo symbol) = CallRel true (relative (entry_at symbol) next)
