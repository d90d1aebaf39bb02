-- What the calls of a memory answer and leave.
use Rattle.std.specs.Prelude.{◌≡◌, ℕ, ◌-◌, ◌<◌, ◌≤◌, min, Bool, ◌||◌, ◌==◌, if◌then◌else◌, Option, Some, None, List, length, Result, Ok, Err, IsOk}
use Rattle.paged_memory.specs.declared.stops.MemStop.{MemStop}
use Rattle.paged_memory.specs.declared.stops.MemStop.TheVariants.{Unmapped, NoFrames}
use Rattle.mx_base.specs.Regions.{is_readable, is_writable, is_executable}
use Rattle.mx_base.specs.Memory.{Bytes, number_at, with_number, with_list, first_refused}
use Rattle.paged_memory.specs.Ends.{run_end}
use Rattle.paged_memory.specs.Touched.{touched_by, frames_for}
use Rattle.paged_memory.specs.Paged.{Paged, bytes_of, touched_of, in_use_of}

-- how many bytes a load or a store may have
abbrev pub is_width : ℕ → Bool
is_width n = n == 1 || n == 2 || n == 4 || n == 8

-- an answer, unless a byte is refused
abbrev pub unless_refused : {X : Type 0} → Option ℕ → X → Result X MemStop
unless_refused None v = Ok v
unless_refused (Some x) v = Err (Unmapped x)

-- the number of n bytes at a
unfoldable pub load_answer : ℕ → Bytes → ℕ → Result ℕ MemStop
load_answer n m a = unless_refused (first_refused is_readable n a) (number_at n m a)

-- whether n bytes at a can be read
unfoldable pub read_answer : ℕ → ℕ → Result (Unit {0}) MemStop
read_answer n a = unless_refused (first_refused is_readable n a) tt

-- the bytes once those of a number, or of a list, are in them
unfoldable pub store_answer : ℕ → Bytes → ℕ → ℕ → Result Bytes MemStop
store_answer n m a v = unless_refused (first_refused is_writable n a) (with_number n m a v)

unfoldable pub write_answer : List ℕ → Bytes → ℕ → Result Bytes MemStop
write_answer bytes m a = unless_refused (first_refused is_writable (length bytes) a) (with_list m a bytes)

-- the same for bytes that are placed: in any region
unfoldable pub place_answer : List ℕ → Bytes → ℕ → Result Bytes MemStop
place_answer bytes m a = unless_refused (first_refused is_readable (length bytes) a) (with_list m a bytes)

-- how many bytes a fetch at a gives: those to the end of its code region, at most 15
unfoldable pub fetch_answer : ℕ → Result ℕ MemStop
fetch_answer a = if is_executable a then Ok (min (run_end (λ r. r.execute) a - a) 15) else Err (Unmapped a)

-- the touched pages, and the frames, after n bytes at a were written
pub record Touches (n a : ℕ) (old new : Paged) : Type 0 where
  pub touched : touched_of new ≡ touched_by n a (touched_of old)
  pub enough : in_use_of new ≤ new.capacity
  pub capacity : new.capacity ≡ old.capacity

-- too few frames for n bytes at a
pub record IsShort (n a : ℕ) (old : Paged) (used frames : ℕ) : Type 0 where
  pub few : old.capacity < frames_for (touched_by n a (touched_of old))
  pub in_use : used ≡ in_use_of old
  pub capacity : frames ≡ old.capacity

-- what a call that writes n bytes at a answers and leaves, where `want` are the bytes that it is to leave unless one of its
-- bytes is refused
abbrev pub Writes : ℕ → ℕ → Result Bytes MemStop → Paged → Paged → Result (Unit {0}) MemStop → Type 0
Writes n a want old new (Ok done) = (want ≡ Ok (bytes_of new)) × Touches n a old new
Writes n a want old new (Err (Unmapped x)) = want ≡ Err (Unmapped x)
Writes n a want old new (Err (NoFrames in_use capacity)) = IsOk want × IsShort n a old in_use capacity
