-- What a bounds check compares.
use Rattle.std.specs.Prelude.{ℕ}
use Rattle.x86_forms.specs.declared.instr.Rm.{Rm}
use Rattle.x86_forms.specs.declared.instr.Rm.TheVariants.{Reg as InReg, Mem as InMem}
use Rattle.x86_forms.specs.Processor.{address}

abbrev pub value_checked : (ℕ → ℕ) → ℕ → Rm → ℕ
value_checked regs next (InReg r) = regs r.0
value_checked regs next (InMem m) = address regs next m
