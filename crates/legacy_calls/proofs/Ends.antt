-- A program's steps with legacy code end as the program does in C.
use Rattle.std.proofs.Common.{◌≡◌, ℕ, length}
use Rattle.mx_base.specs.World.{World, Log}
use Rattle.fat_ir.specs.Functions.{calls as calls_by_steps, program_run as program_run_by_steps}
use Rattle.bounds_plan.specs.meaning.Functions.{Linked, calls, program_run}
use Rattle.bounds_plan.specs.steps.Compiled.{FitsProgram, all_compiled, parameters_of}
use Rattle.bounds_plan.specs.steps.Follows.{outcome_of, DoesSame}
use Rattle.bounds_plan.proofs.Calls.{calls_follow, programs_follow}
use Rattle.legacy_calls.specs.Legacy.{Linkage, outside}
use Rattle.legacy_calls.specs.OfC.{outside_of_c}
use Rattle.legacy_calls.proofs.Same.{outside_does_same}
use Rattle.legacy_calls.proofs.Relations.{outside_takes_none_back}

module _ (k : Linkage) (takes_outside : ℕ → ℕ) (program : ℕ → Linked) (fits : FitsProgram takes_outside program) (counts : (f : ℕ) → parameters_of program f ≡ length (k.own f).parameters) (name : ℕ → ℕ) where
  pub calls_end_alike : (depth : ℕ) → DoesSame (parameters_of program) (calls program (outside_of_c k) depth) (calls_by_steps (all_compiled name program) (outside k) depth)
  calls_end_alike depth = calls_follow takes_outside program fits (outside_of_c k) (outside k) (outside_does_same k (parameters_of program) takes_outside counts) (outside_takes_none_back k) name depth

  pub programs_end_alike : (main : ℕ) → parameters_of program main ≡ 0 → (w : World) (log : Log) → program_run_by_steps (all_compiled name program) (outside k) main w ≡ outcome_of (program_run program (outside_of_c k) main w log)
  programs_end_alike main none w log = programs_follow takes_outside program fits (outside_of_c k) (outside k) (outside_does_same k (parameters_of program) takes_outside counts) (outside_takes_none_back k) name main none w log
