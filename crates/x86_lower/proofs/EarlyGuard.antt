-- Each access of a program's code is checked.
use Rattle.std.proofs.Common.{◌≡◌, ℕ, suc, ◌+◌, ◌%◌, ◌^◌, length, ◌<◌, ◌≤◌, true, false, List, [], ◌∷◌, ◌++◌, refl, ap, arith}
use Rattle.std.specs.Prelude.{filter}
use Rattle.std.specs.Int.{w8, cast_signed}
use Rattle.std.specs.List.{flat_map, AllByRecursion}
use Rattle.c_reader.specs.declared.early.Act.{Act}
use Rattle.c_reader.specs.declared.early.Act.TheVariants.{Write, PutAt, Put}
use Rattle.c_reader.specs.EarlyForm.{InRange}
use Rattle.x86_forms.specs.declared.instr.Instr.TheVariants.{MovMemImm, Movzx}
use Rattle.x86_forms.specs.declared.instr.Rm.TheVariants.{Mem as InMem}
use Rattle.x86_forms.specs.Processor.{address}
use Rattle.x86_lower.specs.EarlyProgram.{rcx, rdi, element, act_code, end_code, program_of, bytes_of}
use Rattle.x86_lower.specs.EarlyChecks.{AccessesAt, IsChecked, ends, plain, access, is_access, is_indexed, IsGuarded, IsGuardedCode}
use Rattle.x86_lower.proofs.EarlyBytes.{bytes_spelled}
use Rattle.x86_lower.proofs.EarlyRun.{makes_bounds}

writes_element : (value : ℕ) → AccessesAt rcx (MovMemImm 8 element (cast_signed w8 value))
unfolding address
writes_element value = record { write = true; is = λ next regs. let e : (regs 1 + 0 + 0) % 2 ^ 64 ≡ regs 1 % 2 ^ 64 = omega arith in rw e refl }

reads_element : AccessesAt rcx (Movzx 8 rdi (InMem element))
unfolding address
reads_element = record { write = false; is = λ next regs. let e : (regs 1 + 0 + 0) % 2 ^ 64 ≡ regs 1 % 2 ^ 64 = omega arith in rw e refl }

body_checked : (acts : List Act) (code : ℕ) → IsChecked 0 (flat_map act_code acts ++ end_code code)
body_checked [] code = plain tt (plain tt (plain tt ends))
body_checked (Write index value ∷ acts) code = plain tt (access (writes_element value) (body_checked acts code))
body_checked (PutAt index ∷ acts) code = plain tt (access reads_element (plain tt (plain tt (body_checked acts code))))
body_checked (Put value ∷ acts) code = plain tt (plain tt (plain tt (body_checked acts code)))

accesses : (acts : List Act) (code : ℕ) → length (filter is_access (flat_map act_code acts ++ end_code code)) ≡ length (filter is_indexed acts)
accesses [] code = refl
accesses (Write index value ∷ acts) code = ap suc (accesses acts code)
accesses (PutAt index ∷ acts) code = ap suc (accesses acts code)
accesses (Put value ∷ acts) code = accesses acts code

program_guarded : (size : ℕ) (acts : List Act) (code : ℕ) → 1 ≤ size → size ≤ 4096 → IsGuarded size acts (program_of size acts code)
program_guarded size acts code some most = record {
  body = flat_map act_code acts ++ end_code code;
  begins = refl;
  bounds = makes_bounds size some most;
  checked = body_checked acts code;
  accesses = accesses acts code;
}

pub bytes_guarded : (size : ℕ) (acts : List Act) (code : ℕ) → 1 ≤ size → size ≤ 4096 → code < 256 → AllByRecursion InRange acts → IsGuardedCode size acts (bytes_of size acts code)
bytes_guarded size acts code some most fits ranges = record {
  program = program_of size acts code;
  spells = bytes_spelled size acts code some most fits ranges;
  guarded = program_guarded size acts code some most;
}
