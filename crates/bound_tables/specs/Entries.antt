-- What loads and stores of table entries answer and leave.
use Rattle.std.specs.Prelude.{◌≡◌, ℕ, Result, Ok, Err, IsOk}
use Rattle.paged_memory.specs.declared.stops.MemStop.TheVariants.{Unmapped, NoFrames}
use Rattle.paged_memory.specs.Paged.{Paged, bytes_of}
use Rattle.paged_memory.specs.Answers.{Touches, IsShort}
use Rattle.mx_base.specs.Regions.{is_readable, is_writable}
use Rattle.mx_base.specs.Memory.{Bytes, number_at, first_refused}
use Rattle.mx_base.specs.Walk.{TableEntry, walk, directory_entry_at, table_entry_at, entry_in, with_entry, entry_size}
use Rattle.bound_tables.specs.declared.entries.Entry.{Entry}
use Rattle.bound_tables.specs.declared.walks.Walk.{Walk}
use Rattle.bound_tables.specs.declared.walks.Walk.TheVariants.{Invalid, Stop}
use Rattle.bound_tables.specs.Walks.{at_place, unless_refused}

abbrev pub as_entry : TableEntry → Entry
as_entry e = record { lb = e.lb; held = e.held; value = e.value }

abbrev pub as_table_entry : Entry → TableEntry
as_table_entry e = record { lb = e.lb; held = e.held; value = e.value }

-- the table entry at a place, and the bytes with an entry there
unfoldable pub loaded_at : Bytes → ℕ → Result Entry Walk
loaded_at m at = unless_refused (first_refused is_readable entry_size at) (as_entry (entry_in m at))

unfoldable pub stored_at : Bytes → Entry → ℕ → Result Bytes Walk
stored_at m e at = unless_refused (first_refused is_writable entry_size at) (with_entry m at (as_table_entry e))

-- the entry of an address, and the bytes with that entry of an address
unfoldable pub entry_loaded : Bytes → ℕ → ℕ → Result Entry Walk
entry_loaded m cfg la = at_place (walk m cfg la) (loaded_at m)

unfoldable pub entry_stored : Bytes → ℕ → ℕ → Entry → Result Bytes Walk
entry_stored m cfg la e = at_place (walk m cfg la) (stored_at m e)

-- where the table entry of an address stands, if its directory entry names a table
unfoldable pub place_of : Bytes → ℕ → ℕ → ℕ
place_of m cfg la = table_entry_at (number_at 8 m (directory_entry_at cfg la)) la

-- what a call that writes a table entry answers and leaves, where `want` are the bytes that it is to leave unless it is refused
abbrev pub WritesEntry : ℕ → Result Bytes Walk → Paged → Paged → Result (Unit {0}) Walk → Type 0
WritesEntry at want old new (Ok done) = (want ≡ Ok (bytes_of new)) × Touches entry_size at old new
WritesEntry at want old new (Err (Invalid entry)) = want ≡ Err (Invalid entry)
WritesEntry at want old new (Err (Stop (Unmapped x))) = want ≡ Err (Stop (Unmapped x))
WritesEntry at want old new (Err (Stop (NoFrames in_use capacity))) = IsOk want × IsShort entry_size at old in_use capacity
