-- What a walk answers.
use Rattle.std.specs.Prelude.{ℕ, Bool, ◌||◌, ◌==◌, Option, None, Some, Result, Ok, Err}
use Rattle.paged_memory.specs.declared.stops.MemStop.TheVariants.{Unmapped}
use Rattle.mx_base.specs.Walk.{Walked, Beyond, Invalid as NoTable, Stands}
use Rattle.bound_tables.specs.declared.walks.Walk.{Walk}
use Rattle.bound_tables.specs.declared.walks.Walk.TheVariants.{Invalid, Stop}

-- what the configuration register holds: the directory's address, whether bounds are kept over unprefixed branches in bit 1,
-- and that bounds are on in bit 0
abbrev pub is_configuration : ℕ → Bool
is_configuration cfg = cfg == 0x4000_0000_0001 || cfg == 0x4000_0000_0003

-- what is answered at the place where a walk ends
abbrev pub at_place : {X : Type 0} → Walked → (ℕ → Result X Walk) → Result X Walk
at_place (Beyond la) answer = Err (Stop (Unmapped la))
at_place (NoTable entry_at) answer = Err (Invalid entry_at)
at_place (Stands at) answer = answer at

-- an answer, unless a byte of the table entry is refused
abbrev pub unless_refused : {X : Type 0} → Option ℕ → X → Result X Walk
unless_refused None v = Ok v
unless_refused (Some x) v = Err (Stop (Unmapped x))
