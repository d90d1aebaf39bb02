-- The run of an image with legacy code ends as its program does in C, with the log beside it.
use Rattle.std.proofs.Common.{◌≡◌, ℕ, Option, List, length, ap, ◌∙◌, subst}
use Rattle.mx_base.specs.Guests.{InputFits}
use Rattle.mx_base.specs.Memory.{Bytes}
use Rattle.mx_base.specs.StopOfC.{AccessOfC}
use Rattle.mx_base.specs.World.{Log, world_at_start}
use Rattle.obj_file.specs.Stored.{Stored}
use Rattle.fat_ir.specs.Calls.{Outcome}
use Rattle.bounds_plan.specs.meaning.Functions.{Linked, program_run}
use Rattle.bounds_plan.specs.steps.Compiled.{FitsProgram, all_compiled, parameters_of}
use Rattle.bounds_plan.specs.steps.Follows.{outcome_of}
use Rattle.call_sigs.specs.Signatures.{Signature}
use Rattle.legacy_calls.specs.Legacy.{Linkage}
use Rattle.legacy_calls.specs.OfC.{outside_of_c}
use Rattle.legacy_calls.proofs.Ends.{programs_end_alike}
use Rattle.gate_laws.specs.Crossings.{ProgramEnds}
use Rattle.gate_laws.specs.Moments.{moment_at_start}
use Rattle.gate_laws.specs.Owed.{Layers, IsLinked, IsLoaded}
use Rattle.gate_laws.proofs.Whole.{image_ends}

-- whatever the log is at the start
pub image_means : (k : Linkage) (image : Bytes) (places : ℕ → Option AccessOfC) (takes_outside : ℕ → ℕ) (program : ℕ → Linked) (name inner stub : ℕ → ℕ)
    → FitsProgram takes_outside program → ((f : ℕ) → parameters_of program f ≡ length (k.own f).parameters) → Layers k image places (all_compiled name program) inner stub → IsLinked k image inner stub
    → (main : ℕ) (bytes : Bytes) (y : Stored) → IsLoaded k image inner main bytes y → (input : List ℕ) → InputFits input → (turns : ℕ) (log : Log)
    → ProgramEnds k image places (moment_at_start k y input turns) (outcome_of (program_run program (outside_of_c k) main (world_at_start bytes input turns) log))
image_means k image places takes_outside program name inner stub fits counts layers linked main bytes y loaded input bytes_fit turns log =
    subst (λ (o : Outcome). ProgramEnds k image places (moment_at_start k y input turns) o)
    (programs_end_alike k takes_outside program fits counts name main (counts main ∙ ap (λ (s : Signature). length s.parameters) loaded.is_main) (world_at_start bytes input turns) log)
    (image_ends k image places (all_compiled name program) inner stub layers linked main bytes y loaded input bytes_fit turns)
