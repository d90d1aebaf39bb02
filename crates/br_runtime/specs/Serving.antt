-- What the runtime answers and leaves.
use Rattle.std.specs.Prelude.{◌≡◌, ℕ, ◌*◌, ◌/◌, ◌%◌, Bool, ◌&&◌, ◌==◌, None, Some, IsSome, Result, Ok, Err}
use Rattle.mx_base.specs.Regions.{directory, is_in}
use Rattle.mx_base.specs.Walk.{with_next_table}
use Rattle.paged_memory.specs.Paged.{Paged, bytes_of}
use Rattle.paged_memory.specs.Answers.{Touches, IsShort}
use Rattle.br_runtime.specs.declared.refusals.Serve.{Serve}
use Rattle.br_runtime.specs.declared.refusals.Serve.TheVariants.{NoTable, NoFrames}

-- the address that the status register has in its bits 63 to 2
abbrev pub named_entry : ℕ → ℕ
named_entry status = 4 * (status / 4)

-- an entry of the directory: 8 bytes of it
abbrev pub is_directory_entry : ℕ → Bool
is_directory_entry a = is_in directory a && a % 8 == 0

-- how many bytes a directory entry has
abbrev pub directory_entry_size : ℕ
directory_entry_size = 8

-- what a call answers and leaves, once so many tables were made
abbrev pub Serves : ℕ → ℕ → Paged → Paged → Result (Unit {0}) Serve → Type 0
Serves at made old new (Ok done) = (with_next_table (bytes_of old) at made ≡ Some (bytes_of new)) × Touches directory_entry_size at old new
Serves at made old new (Err NoTable) = with_next_table (bytes_of old) at made ≡ None
Serves at made old new (Err (NoFrames in_use capacity)) = IsSome (with_next_table (bytes_of old) at made) × IsShort directory_entry_size at old in_use capacity
