-- Moments and ends of runs over the store of bounds.
use Rattle.std.specs.Prelude.{ℕ, Bool, true, false, List, []}
use Rattle.mx_base.specs.Services.{guest_with}
use Rattle.x86_forms.specs.declared.instr.Instr.{Instr}
use Rattle.x86_forms.specs.declared.instr.Instr.TheVariants.{CallRel, CallRm, Ret, Syscall}
use Rattle.obj_file.specs.Finals.{Moment as MomentOver, Final as FinalOver}
use Rattle.obj_file.specs.Loaded.{processor_at_start}
use Rattle.obj_file.specs.Stored.{Stored}
use Rattle.legacy_calls.specs.Legacy.{Linkage}

abbrev pub Moment : Type 0
Moment = MomentOver Stored

abbrev pub Final : Type 0
Final = FinalOver Stored

-- before the first event
abbrev pub moment_at_start : Linkage → Stored → (input : List ℕ) → (turns : ℕ) → Moment
moment_at_start k y input turns = record { state = record { processor = processor_at_start k.preserve; memory = y; guest = guest_with input; steps = 0 }; turns = turns; accesses = [] }

-- instructions that neither call, return nor ask for a service
abbrev pub is_plain : Instr → Bool
is_plain (CallRel prefixed rel) = false
is_plain (CallRm prefixed rm) = false
is_plain (Ret prefixed) = false
is_plain Syscall = false
is_plain i = true
