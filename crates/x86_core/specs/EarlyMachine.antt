-- The machine of the first path as the state that its definition speaks of, and its steps as effects.
use Rattle.std.specs.Prelude.{◌≡◌, false, slice_index}
use Rattle.mx_base.specs.Bounds.{complement}
use Rattle.x86_forms.specs.Arithmetic.{no_flags}
use Rattle.x86_forms.specs.EarlyEffects.{EarlyState, EarlyEffect, Goes, Sends, Ends, CodeEnd, Exits, Violates, Unmapped as AtUnmapped, Undefined as AtUndefined}
use Rattle.x86_core.specs.declared.early.EarlyStop.{EarlyStop}
use Rattle.x86_core.specs.declared.early.EarlyStop.TheVariants.{Exit, Bounds, Unmapped, Undefined, WriteFault}
use Rattle.x86_core.specs.declared.early.machine.Step.{Step}
use Rattle.x86_core.specs.declared.early.machine.Step.TheVariants.{On, Put, End}
use Rattle.x86_core.specs.declared.early.machine.Machine.{Machine}

-- none of the instructions changes flags, BNDPRESERVE or, but for one that fails, BNDSTATUS
abbrev pub seen : Machine → EarlyState
seen m = record {
  processor = record { regs = slice_index m.regs; flags = no_flags; rip = m.rip; bounds = λ b. record { lb = slice_index m.lower b; ub = complement (slice_index m.held b) }; preserve = false; status = 0 };
  array = m.array.items;
}

-- the end of a run that a stop tells of; no instruction ends in a fault of the sink
abbrev pub TellsEnd : EarlyStop → CodeEnd → Type 0
TellsEnd (Exit code) e = e ≡ Exits code
TellsEnd (Bounds value lb ub) e = e ≡ Violates value lb ub
TellsEnd Unmapped e = e ≡ AtUnmapped
TellsEnd Undefined e = e ≡ AtUndefined
TellsEnd WriteFault e = ⊥

-- what a step answered, with the state after it, is this effect
abbrev pub Does : EarlyEffect → Step → EarlyState → Type 0
Does effect On s = effect ≡ Goes s
Does effect (Put byte) s = effect ≡ Sends byte s
Does (Ends e) (End stop) s = TellsEnd stop e
Does (Goes t) (End stop) s = ⊥
Does (Sends b t) (End stop) s = ⊥
