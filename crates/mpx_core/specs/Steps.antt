-- An MPX instruction of the code, as a row of the instruction table over what its memory stands for.
use Rattle.std.specs.Prelude.{◌≡◌, ℕ, ◌^◌, ◌<◌, nat_lt, Bool, true, false, if◌then◌else◌, List, Result, Ok, Err}
use Rattle.mx_base.specs.declared.limits.Bounds.{Bounds}
use Rattle.mx_base.specs.Memory.{Bytes}
use Rattle.mx_base.specs.Walk.{bounds_in, entry_for, entry_size, violation_status, invalid_status}
use Rattle.paged_memory.specs.declared.stops.MemStop.{MemStop}
use Rattle.paged_memory.specs.declared.stops.MemStop.TheVariants.{NoFrames}
use Rattle.paged_memory.specs.Answers.{load_answer, store_answer}
use Rattle.paged_memory.specs.Touched.{touched_by, frames_for}
use Rattle.paged_memory.specs.Framed.{Framed, framed_of}
use Rattle.paged_memory.specs.Paged.{Paged}
use Rattle.bound_tables.specs.declared.entries.Entry.{Entry}
use Rattle.bound_tables.specs.declared.walks.Walk.{Walk}
use Rattle.bound_tables.specs.declared.walks.Walk.TheVariants.{Invalid, Stop}
use Rattle.bound_tables.specs.Entries.{as_entry, as_table_entry, entry_loaded, entry_stored, place_of}
use Rattle.x86_forms.specs.declared.instr.Instr.{Instr}
use Rattle.x86_forms.specs.declared.instr.Rm.{Rm}
use Rattle.x86_forms.specs.declared.instr.Instr.TheVariants.{Bndmk, Bndcl, Bndcu, Bndcn, BndmovTo, BndmovFrom, Bndldx, Bndstx}
use Rattle.x86_forms.specs.Arithmetic.{Flags}
use Rattle.x86_forms.specs.Processor.{Processor}
use Rattle.x86_forms.specs.Requests.{Store, Program, Ends, Outcome, Done, Failed, Refused, Violates, run}
use Rattle.x86_forms.specs.Table.{at_next, with_bnd, bounds_then}
use Rattle.mpx_core.specs.declared.registers.BndRegs.{BndRegs}
use Rattle.mpx_core.specs.declared.registers.BndStop.{BndStop}
use Rattle.mpx_core.specs.declared.registers.BndStop.TheVariants.{Violation, Invalid as NoTable, Stop as Stopped}
use Rattle.mpx_core.specs.Registers.{bounds_of, preserves}

-- ---- the memory, with the walk as its store of bounds

-- bytes that were written, if there are frames for the pages that are touched then
abbrev pub framed_answer : Framed → List ℕ → Result Bytes Walk → Result Framed Walk
framed_answer x touched (Ok bytes) =
    if nat_lt x.capacity (frames_for touched) then Err (Stop (NoFrames (frames_for x.touched) x.capacity)) else Ok (record { bytes = bytes; touched = touched; capacity = x.capacity })
framed_answer x touched (Err stop) = Err stop

-- what a write that left this memory answered
abbrev pub framed_result : Paged → Result (Unit {0}) Walk → Result Framed Walk
framed_result new (Ok done) = Ok (framed_of new)
framed_result new (Err stop) = Err stop

-- an answer of the memory as one of a walk
abbrev pub as_walk : {X : Type 0} → Result X MemStop → Result X Walk
as_walk (Ok v) = Ok v
as_walk (Err stop) = Err (Stop stop)

abbrev pub bounds_loaded : Framed → ℕ → Result Entry Walk → Result (Bounds × Framed) Walk
bounds_loaded x value (Ok e) = Ok (bounds_in value (as_table_entry e), x)
bounds_loaded x value (Err stop) = Err stop

abbrev pub status_after : Walk → ℕ → ℕ
status_after (Invalid entry) before = invalid_status entry
status_after (Stop stop) before = before

unfoldable pub walked_write : Framed → ℕ → ℕ → ℕ → Result Framed Walk
walked_write x at size value = framed_answer x (touched_by size at x.touched) (as_walk (store_answer size x.bytes at value))

unfoldable pub walked_load : ℕ → Framed → ℕ → ℕ → Result (Bounds × Framed) Walk
walked_load cfg x at value = bounds_loaded x value (entry_loaded x.bytes cfg at)

unfoldable pub walked_keep : ℕ → Framed → ℕ → ℕ → Bounds → Result Framed Walk
walked_keep cfg x at value b = framed_answer x (touched_by entry_size (place_of x.bytes cfg at) x.touched) (entry_stored x.bytes cfg at (as_entry (entry_for value b)))

abbrev pub walked : ℕ → Store Framed Walk
walked cfg = record {
  read = λ x at size. as_walk (load_answer size x.bytes at);
  write = walked_write;
  load = walked_load cfg;
  keep = walked_keep cfg;
  status = status_after;
}

-- ---- a step

-- what a processor has beside its registers and bounds
pub record Beside : Type 0 where
  pub flags : Flags
  pub rip : ℕ

abbrev pub seen : Beside → (ℕ → ℕ) → BndRegs → Processor
seen s regs b = record { regs = regs; flags = s.flags; rip = s.rip; bounds = bounds_of b; preserve = preserves b.cfg; status = b.status }

-- how a row ends, by what a step answers and leaves
abbrev pub outcome_of : Beside → (ℕ → ℕ) → ℕ → BndRegs → Paged → Result (Unit {0}) BndStop → Outcome Framed Walk
outcome_of s regs next b m (Ok done) = Done (at_next (seen s regs b) next) (framed_of m)
outcome_of s regs next b m (Err (Violation value lb ub)) = Failed (Violates value record { lb = lb; ub = ub }) (seen s regs b) (framed_of m)
outcome_of s regs next b m (Err (NoTable entry)) = Refused (Invalid entry) (seen s regs b) (framed_of m)
outcome_of s regs next b m (Err (Stopped stop)) = Refused (Stop stop) (seen s regs b) (framed_of m)

-- a step from these bounds registers and memory to others does a program of requests
abbrev pub Does : Beside → (ℕ → ℕ) → ℕ → BndRegs → Paged → Program → BndRegs → Paged → Result (Unit {0}) BndStop → Type 0
Does s regs next b m program b' m' answer = run (walked b.cfg) (seen s regs b) program (framed_of m) ≡ outcome_of s regs next b' m' answer

-- bounds from a bounds register or memory, put into register k
abbrev pub taken : Processor → ℕ → ℕ → Rm → Program
taken c next k rm = bounds_then c next rm (λ x. Ends (with_bnd (at_next c next) k x))

-- an MPX instruction
abbrev pub is_bounds : Instr → Bool
is_bounds (Bndmk b m) = true
is_bounds (Bndcl b rm) = true
is_bounds (Bndcu b rm) = true
is_bounds (Bndcn b rm) = true
is_bounds (BndmovTo b m) = true
is_bounds (BndmovFrom b rm) = true
is_bounds (Bndldx b m) = true
is_bounds (Bndstx b m) = true
is_bounds i = false

-- BNDSTATUS after a step that isn't done
abbrev pub status_of : BndStop → ℕ → ℕ
status_of (Violation value lb ub) before = violation_status
status_of (NoTable entry) before = invalid_status entry
status_of (Stopped stop) before = before

-- ---- refusals of a walk

abbrev pub stop_of : Walk → BndStop
stop_of (Invalid entry) = NoTable entry
stop_of (Stop stop) = Stopped stop

-- the address of a directory entry, so that BNDSTATUS holds 2 more
abbrev pub IsLow : Walk → Type 0
IsLow (Invalid entry) = entry < 2 ^ 63
IsLow (Stop stop) = Unit {0}
