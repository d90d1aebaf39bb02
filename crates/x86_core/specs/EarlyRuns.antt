-- What a run of code leaves in a sink, by how it ended.
use Rattle.std.specs.Prelude.{◌≡◌, ℕ, Option, Result, Ok, Err, List, [], ◌∷◌}
use Rattle.mx_base.specs.Outside.{Adds, AddsFront, HasRisen}
use Rattle.mx_base.specs.declared.memory.OutOfMemory.{OutOfMemory as NoMemory}
use Rattle.x86_forms.specs.EarlyEffects.{CodeEnd, Exits, Violates, Unmapped as AtUnmapped, Undefined as AtUndefined}
use Rattle.x86_forms.specs.EarlyCode.{CodeRun}
use Rattle.x86_core.specs.declared.early.EarlyStop.{EarlyStop}
use Rattle.x86_core.specs.declared.early.EarlyStop.TheVariants.{Exit, Bounds, Unmapped, Undefined, WriteFault}

-- what putting one byte does to what a sink holds and to its count of faults
abbrev pub PutsByte : {E : Type 0} → Option (List ℕ) → Option (List ℕ) → ℕ → ℕ → ℕ → Result (Unit {0}) E → Type 0
PutsByte held held' faults faults' byte (Ok v) = Adds held held' (byte ∷ []) × (faults' ≡ faults)
PutsByte held held' faults faults' byte (Err e) = Adds held held' [] × HasRisen faults faults'

-- the run ends so, and the sink has its bytes more
pub record EndsAs (run : CodeRun) (end : CodeEnd) (held held' : Option (List ℕ)) : Type 0 where
  pub ends : run.ends ≡ end
  pub adds : Adds held held' run.out

-- what a run of code answers, and what it leaves in the sink
abbrev pub RunsCode : CodeRun → Option (List ℕ) → Option (List ℕ) → Result EarlyStop NoMemory → Type 0
RunsCode run held held' (Ok (Exit code)) = EndsAs run (Exits code) held held'
RunsCode run held held' (Ok (Bounds value lb ub)) = EndsAs run (Violates value lb ub) held held'
RunsCode run held held' (Ok Unmapped) = EndsAs run AtUnmapped held held'
RunsCode run held held' (Ok Undefined) = EndsAs run AtUndefined held held'
RunsCode run held held' (Ok WriteFault) = AddsFront held held' run.out
RunsCode run held held' (Err e) = held' ≡ held

-- the sink's count of faults rises exactly where the run ends in a write fault
abbrev pub CountsFaults : Result EarlyStop NoMemory → ℕ → ℕ → Type 0
CountsFaults (Ok WriteFault) faults faults' = HasRisen faults faults'
CountsFaults result faults faults' = faults' ≡ faults
