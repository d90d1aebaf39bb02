-- Code that checks each access to memory.
use Rattle.std.specs.Prelude.{◌≡◌, ℕ, ◌+◌, ◌-◌, ◌%◌, ◌^◌, nat_lt, Bool, true, false, List, [], ◌∷◌, ◌++◌, length, filter}
use Rattle.c_reader.specs.declared.early.Act.{Act}
use Rattle.c_reader.specs.declared.early.Act.TheVariants.{Write, PutAt, Put}
use Rattle.c_reader.specs.EarlyMeaning.{array_at}
use Rattle.x86_forms.specs.declared.instr.Reg.{Reg}
use Rattle.x86_forms.specs.declared.instr.Rm.TheVariants.{Reg as InReg}
use Rattle.x86_forms.specs.declared.instr.Instr.{Instr}
use Rattle.x86_forms.specs.declared.instr.Instr.TheVariants.{MovImm, Bndcl, Bndcu, Syscall}
use Rattle.x86_forms.specs.Accesses.{accesses, span}
use Rattle.x86_forms.specs.EarlyEffects.{EarlyState}
use Rattle.x86_forms.specs.EarlyCode.{IsCodeOf, program_run, started}
use Rattle.x86_lower.specs.EarlyProgram.{bounds_code}

-- the instruction accesses the one byte at the address in this register, and nothing else in memory
pub record AccessesAt (r : Reg) (i : Instr) : Type 0 where
  pub write : Bool
  pub is : (next : ℕ) (regs : ℕ → ℕ) → accesses i next regs ≡ span (regs r.0 % 2 ^ 64) 8 write ∷ []

-- the instruction neither accesses memory nor checks or makes bounds
abbrev pub IsPlain : Instr → Type 0
IsPlain (MovImm w r imm) = Unit {0}
IsPlain Syscall = Unit {0}
IsPlain i = ⊥

-- In this code each access to memory comes directly after one BNDCL and one BNDCU of its own register with these bounds.
-- No other check stands in it, and nothing in it makes bounds.
pub data IsChecked (b : ℕ) : List Instr → Type 0 where
  ends : IsChecked b []
  plain : {i : Instr} {code : List Instr} → IsPlain i → IsChecked b code → IsChecked b (i ∷ code)
  access : {r : Reg} {i : Instr} {code : List Instr} → AccessesAt r i → IsChecked b code → IsChecked b (Bndcl b (InReg r) ∷ Bndcu b (InReg r) ∷ i ∷ code)

-- the first two instructions lead from the start to a state in which bnd0 holds the bounds of the array
pub record MakesBounds (size : ℕ) : Type 0 where
  pub state : EarlyState
  pub leads : (body : List Instr) → program_run (bounds_code size ++ body) (started size) ≡ program_run body state
  pub bounds : state.processor.bounds 0 ≡ record { lb = array_at; ub = array_at + size - 1 }

-- the instruction accesses memory; whether it does is the same for all registers
abbrev pub is_access : Instr → Bool
is_access i = nat_lt 0 (length (accesses i 0 (λ r. 0)))

-- the act has an index
abbrev pub is_indexed : Act → Bool
is_indexed (Write index value) = true
is_indexed (PutAt index) = true
is_indexed (Put value) = false

-- Code that makes the bounds of the array first. Each access in what follows is checked against them, and it has one
-- access for each act with an index.
pub record IsGuarded (size : ℕ) (acts : List Act) (program : List Instr) : Type 0 where
  pub body : List Instr
  pub begins : program ≡ bounds_code size ++ body
  pub bounds : MakesBounds size
  pub checked : IsChecked 0 body
  pub accesses : length (filter is_access body) ≡ length (filter is_indexed acts)

-- the bytes are those of guarded code
pub record IsGuardedCode (size : ℕ) (acts : List Act) (code : List ℕ) : Type 0 where
  pub program : List Instr
  pub spells : IsCodeOf code program
  pub guarded : IsGuarded size acts program
