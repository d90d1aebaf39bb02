-- The inner entry of a C function, and its return, as instructions. Only rax, rsp and flags are touched before the arguments come to their
-- homes, and only rcx, rsp and flags after the steps: so the registers of arguments, rax and BND0 stay.
use Rattle.std.specs.Prelude.{true, ℕ, ◌+◌, ◌*◌, pos, List, [], ◌∷◌, ◌++◌}
use Rattle.x86_forms.specs.declared.instr.Instr.{Instr}
use Rattle.x86_forms.specs.declared.instr.Rm.TheVariants.{Mem as InMem}
use Rattle.x86_forms.specs.declared.instr.Instr.TheVariants.{MovTo, MovFrom, MovImm, AluImm, Jcc, Ret, Syscall}
use Rattle.x86_forms.specs.Examples.{reg, in_reg}
use Rattle.step_code.specs.Pieces.{cell, data_sp_cell}

-- the cell of the depth: how many C functions are entered
abbrev pub depth_cell : ℕ
depth_cell = 0x7000_0018

abbrev pub load_cell : ℕ → ℕ → Instr
load_cell r at = MovFrom 64 (reg r) (cell at)

abbrev pub store_cell : ℕ → ℕ → Instr
store_cell at r = MovTo 64 (reg r) (InMem (cell at))

abbrev pub adds : (r n : ℕ) → Instr
adds r n = AluImm 0 64 (in_reg r) (pos n)

abbrev pub takes : (r n : ℕ) → Instr
takes r n = AluImm 3 64 (in_reg r) (pos n)

abbrev pub compares : (r n : ℕ) → Instr
compares r n = AluImm 5 64 (in_reg r) (pos n)

-- a jump over so many bytes, on a condition
abbrev pub hops : (condition skip : ℕ) → Instr
hops condition skip = Jcc true condition (pos skip)

-- the stop for want of stack, which stands behind a hop and has 7 bytes
abbrev pub overflows : List Instr
overflows = MovImm 32 (reg 0) (pos 0x1005) ∷ Syscall ∷ []

-- fewer functions than 4,096 are entered
abbrev pub counts : List Instr
counts = load_cell 0 depth_cell ∷ compares 0 4096 ∷ hops 2 7 ∷ overflows

-- they become one more; the data stack has room for the frame, which is taken, and so are the words of the control stack
abbrev pub enters : (frame units : ℕ) → List Instr
enters frame units =
    adds 0 1 ∷ store_cell depth_cell 0
    ∷ load_cell 0 data_sp_cell ∷ compares 0 (0x5000_0000 + frame) ∷ hops 3 7
    ∷ (overflows ++ (takes 0 frame ∷ store_cell data_sp_cell 0 ∷ takes 4 (8 * units) ∷ []))

abbrev pub inner_entry : (frame units : ℕ) → List Instr
inner_entry frame units = counts ++ enters frame units

-- at the end all is given back
abbrev pub inner_return : (frame units : ℕ) → List Instr
inner_return frame units =
    load_cell 1 data_sp_cell ∷ adds 1 frame ∷ store_cell data_sp_cell 1
    ∷ load_cell 1 depth_cell ∷ takes 1 1 ∷ store_cell depth_cell 1
    ∷ adds 4 (8 * units)
    ∷ Ret true
    ∷ []
