-- From the run of a program's code to what is due for the program.
use Rattle.std.proofs.Common.{◌≡◌, ℕ, Option, Ok, List, sym, subst}
use Rattle.std.specs.Prelude.{Result}
use Rattle.mx_base.specs.declared.memory.OutOfMemory.{OutOfMemory}
use Rattle.c_reader.specs.EarlyMeaning.{EarlyRun, EarlyEnd, Returns, Leaves}
use Rattle.mx_base.specs.Outside.{Adds, AddsFront}
use Rattle.x86_forms.specs.EarlyCode.{CodeRun, CodeRuns}
use Rattle.x86_forms.specs.EarlyEffects.{Exits, Violates, Unmapped, Undefined}
use Rattle.x86_lower.specs.EarlyProgram.{as_code_run, as_code_end}
use Rattle.mpx_words.specs.declared.end.End.TheVariants.{Exit, Bounds}
use Rattle.mpx_words.specs.Due.{end_of}
use Rattle.x86_core.specs.declared.early.EarlyStop.{EarlyStop}
use Rattle.x86_core.specs.declared.early.EarlyStop.TheVariants as stop
use Rattle.x86_core.specs.EarlyRuns.{RunsCode}

exit_of : (e : EarlyEnd) (code : ℕ) → as_code_end e ≡ Exits code → Exit code ≡ end_of e
exit_of (Returns n) code h = cc
exit_of (Leaves value lb ub) code h = absurd (cc)

bounds_of : (e : EarlyEnd) (value lb ub : ℕ) → as_code_end e ≡ Violates value lb ub → Bounds value lb ub ≡ end_of e
bounds_of (Returns n) value lb ub h = absurd (cc)
bounds_of (Leaves v l u) value lb ub h = cc

not_unmapped : (e : EarlyEnd) → as_code_end e ≡ Unmapped → ⊥
not_unmapped (Returns n) h = cc
not_unmapped (Leaves v l u) h = cc

not_undefined : (e : EarlyEnd) → as_code_end e ≡ Undefined → ⊥
not_undefined (Returns n) h = cc
not_undefined (Leaves v l u) h = cc

-- how a program ran whose code stopped so
abbrev pub Ran : EarlyRun → Option (List ℕ) → Option (List ℕ) → EarlyStop → Type 0
Ran r old new (stop.Exit code) = (Exit code ≡ end_of r.ends) × Adds old new r.out
Ran r old new (stop.Bounds value lb ub) = (Bounds value lb ub ≡ end_of r.ends) × Adds old new r.out
Ran r old new stop.Unmapped = ⊥
Ran r old new stop.Undefined = ⊥
Ran r old new stop.WriteFault = AddsFront old new r.out

ran : (r : EarlyRun) (old new : Option (List ℕ)) (s : EarlyStop) → RunsCode (as_code_run r) old new (Ok s) → Ran r old new s
ran r old new (stop.Exit code) h = (exit_of r.ends code h.ends, h.adds)
ran r old new (stop.Bounds value lb ub) h = (bounds_of r.ends value lb ub h.ends, h.adds)
ran r old new stop.Unmapped h = not_unmapped r.ends h.ends
ran r old new stop.Undefined h = not_undefined r.ends h.ends
ran r old new stop.WriteFault h = h

-- the run of the code that is a program's is the program's
code_ran : (bytes items : List ℕ) (size : ℕ) (r : EarlyRun) → bytes ≡ items → CodeRuns items size (as_code_run r) → (old new : Option (List ℕ)) (result : Result EarlyStop OutOfMemory)
    → ((run : CodeRun) → CodeRuns bytes size run → RunsCode run old new result) → RunsCode (as_code_run r) old new result
code_ran bytes items size r same effect old new result h = h (as_code_run r) (subst (λ (xs : List ℕ). CodeRuns xs size (as_code_run r)) (sym same) effect)

-- the stop of a program's code is the end of the program
pub program_ran : (bytes items : List ℕ) (size : ℕ) (r : EarlyRun) → bytes ≡ items → CodeRuns items size (as_code_run r) → (old new : Option (List ℕ)) (s t : EarlyStop) → s ≡ t
    → ((run : CodeRun) → CodeRuns bytes size run → RunsCode run old new (Ok s)) → Ran r old new t
program_ran bytes items size r same effect old new s t e h = subst (Ran r old new) e (ran r old new s (code_ran bytes items size r same effect old new (Ok s) h))
