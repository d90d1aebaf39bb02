-- The definitions at values that are known from the rules that they state.
use Rattle.std.proofs.Common.{◌≡◌, ℕ, zero, suc, ◌-◌, Bool, true, false, Option, None, Some, Result, Ok, Err, List, [], ◌∷◌, ◌++◌, pos, negsuc, codes, replicate, refl}
use Rattle.std.specs.Fmt.{digits}
use Rattle.mx_base.specs.declared.limits.Bounds.{Bounds}
use Rattle.mx_base.specs.declared.numbers.IntKind.TheVariants.{I8, U8, I32, I64, U64}
use Rattle.mx_base.specs.Numbers.{residue, as_signed, number_of, value_of, wrapped, word_of, extended}
use Rattle.mx_base.specs.declared.operators.Arithmetic.TheVariants.{Div, Rem, Shl, Shr}
use Rattle.mx_base.specs.Operators.{arithmetic}
use Rattle.mx_base.specs.Bounds.{last_byte, leaving_value, is_outside, bounds_at, full_bounds, met}
use Rattle.mx_base.specs.Regions.{is_readable, is_writable, is_executable, is_sealed, is_open_to_read, is_open_to_write}
use Rattle.mx_base.specs.Memory.{no_bytes, number_at, with_number, first_refused, first_refused_around}
use Rattle.mx_base.specs.Access.{refusal, Strays, Misses}
use Rattle.mx_base.specs.BoundsStore.{touched_with, keep_bounds, load_bounds, bounds_for, empty_store}
use Rattle.mx_base.specs.Walk.{directory_entry_at, table_entry_at, next_entry, bounds_in, entry_for, with_next_table}
use Rattle.mx_base.specs.Heap.{Range, Heap, whole_heap, rounded, allocated, freed, heap_after, Allocs, Frees}
use Rattle.mx_base.specs.World.{World, world_at_start, number_written, pointer_written, pointer_read}
use Rattle.mx_base.specs.Services.{Guest, guest_with, Served, Answers, Exits, served, service_of}

-- ---- regions: whether an address can be read, written and executed, whether it is sealed, and whether C may read and write it

abbrev marks : ℕ → List Bool
unfolding is_readable is_writable is_executable is_sealed is_open_to_read is_open_to_write
marks a = is_readable a ∷ is_writable a ∷ is_executable a ∷ is_sealed a ∷ is_open_to_read a ∷ is_open_to_write a ∷ []

abbrev nothing : List Bool
nothing = false ∷ false ∷ false ∷ false ∷ false ∷ false ∷ []

abbrev sealed_code : List Bool
sealed_code = true ∷ false ∷ true ∷ true ∷ false ∷ false ∷ []

abbrev open_code : List Bool
open_code = true ∷ false ∷ true ∷ false ∷ true ∷ false ∷ []

abbrev open_data : List Bool
open_data = true ∷ true ∷ false ∷ false ∷ true ∷ true ∷ []

abbrev sealed_data : List Bool
sealed_data = true ∷ true ∷ false ∷ true ∷ false ∷ false ∷ []

-- the address before a region, its first, its last, and the one after it
abbrev ends : ℕ → ℕ → List (List Bool)
ends first last = marks (first - 1) ∷ marks first ∷ marks last ∷ marks (suc last) ∷ []

abbrev ends_are : List Bool → List (List Bool)
ends_are inside = nothing ∷ inside ∷ inside ∷ nothing ∷ []

instrumented_code_ends : ends 0x0100_0000 0x10ff_ffff ≡ ends_are sealed_code
unfolding is_readable is_writable is_executable is_sealed is_open_to_read is_open_to_write
instrumented_code_ends = refl

legacy_code_ends : ends 0x1200_0000 0x12ff_ffff ≡ ends_are open_code
unfolding is_readable is_writable is_executable is_sealed is_open_to_read is_open_to_write
legacy_code_ends = refl

data_ends : ends 0x2000_0000 0x20ff_ffff ≡ ends_are open_data
unfolding is_readable is_writable is_executable is_sealed is_open_to_read is_open_to_write
data_ends = refl

heap_ends : ends 0x3000_0000 0x3fff_ffff ≡ ends_are open_data
unfolding is_readable is_writable is_executable is_sealed is_open_to_read is_open_to_write
heap_ends = refl

data_stack_ends : ends 0x5000_0000 0x53ff_ffff ≡ ends_are open_data
unfolding is_readable is_writable is_executable is_sealed is_open_to_read is_open_to_write
data_stack_ends = refl

legacy_stack_ends : ends 0x6000_0000 0x607f_ffff ≡ ends_are open_data
unfolding is_readable is_writable is_executable is_sealed is_open_to_read is_open_to_write
legacy_stack_ends = refl

cells_ends : ends 0x7000_0000 0x7000_0fff ≡ ends_are sealed_data
unfolding is_readable is_writable is_executable is_sealed is_open_to_read is_open_to_write
cells_ends = refl

control_stack_ends : ends 0x7100_0000 0x71ff_ffff ≡ ends_are sealed_data
unfolding is_readable is_writable is_executable is_sealed is_open_to_read is_open_to_write
control_stack_ends = refl

directory_ends : ends 0x4000_0000_0000 0x4000_7fff_ffff ≡ ends_are sealed_data
unfolding is_readable is_writable is_executable is_sealed is_open_to_read is_open_to_write
directory_ends = refl

tables_ends : ends 0x5000_0000_0000 0x5000_ffff_ffff ≡ ends_are sealed_data
unfolding is_readable is_writable is_executable is_sealed is_open_to_read is_open_to_write
tables_ends = refl

no_region : (marks 0 ≡ nothing) × (marks 0xffff_ffff_ffff_ffff ≡ nothing)
unfolding is_readable is_writable is_executable is_sealed is_open_to_read is_open_to_write
no_region = (refl, refl)

-- ---- accesses

-- bytes on both sides of the last address: those behind it are the first ones
goes_around : first_refused_around (λ a. true) 4 0xffff_ffff_ffff_fffe ≡ None
unfolding first_refused_around first_refused
goes_around = refl

strayed_first : refusal false 8 0x6fff_fffc ≡ Some (Strays 0x7000_0000)
unfolding refusal first_refused_around first_refused is_readable is_writable is_executable is_sealed is_open_to_read is_open_to_write
strayed_first = refl

missed : refusal true 8 0x3fff_fffc ≡ Some (Misses 0x4000_0000)
unfolding refusal first_refused_around first_refused is_readable is_writable is_executable is_sealed is_open_to_read is_open_to_write
missed = refl

legacy_code_not_written : (refusal true 1 0x1200_0000 ≡ Some (Misses 0x1200_0000)) × (refusal false 1 0x1200_0000 ≡ None)
unfolding refusal first_refused_around first_refused is_readable is_writable is_executable is_sealed is_open_to_read is_open_to_write
legacy_code_not_written = (refl, refl)

-- ---- bounds

abbrev pair : ℕ → ℕ → Bounds
pair lb ub = record { lb = lb; ub = ub }

byte_behind : leaving_value 0x2000_0004 1 (pair 0x2000_0000 0x2000_0003) ≡ Some 0x2000_0004
unfolding leaving_value last_byte
byte_behind = refl

last_of_four_behind : leaving_value 0x2000_0001 4 (pair 0x2000_0000 0x2000_0003) ≡ Some 0x2000_0004
unfolding leaving_value last_byte
last_of_four_behind = refl

four_inside : (leaving_value 0x2000_0000 4 (pair 0x2000_0000 0x2000_0003) ≡ None) × (is_outside 0x2000_0000 4 (pair 0x2000_0000 0x2000_0003) ≡ false)
unfolding leaving_value is_outside last_byte
four_inside = (refl, refl)

byte_before : is_outside 0x1fff_ffff 1 (pair 0x2000_0000 0x2000_0003) ≡ true
unfolding is_outside last_byte
byte_before = refl

last_address : (is_outside 0xffff_ffff_ffff_ffff 1 full_bounds ≡ false) × (is_outside 0xffff_ffff_ffff_ffff 2 (pair 1 0xffff_ffff_ffff_ffff) ≡ false)
unfolding is_outside last_byte
last_address = (refl, refl)

no_bytes_at : (bounds_at 0 0 ≡ full_bounds) × (bounds_at 5 0 ≡ pair 5 4) × (bounds_at 5 1 ≡ pair 5 5)
unfolding bounds_at
no_bytes_at = (refl, refl, refl)

meets : met (pair 2 9) (pair 4 20) ≡ pair 4 9
meets = refl

-- ---- numbers

wraps : (wrapped I8 (pos 128) ≡ negsuc 127) × (wrapped U8 (negsuc 0) ≡ pos 255) × (wrapped I64 (pos 0x8000_0000_0000_0000) ≡ negsuc 0x7fff_ffff_ffff_ffff) × (wrapped I32 (pos 0x7fff_ffff) ≡ pos 0x7fff_ffff)
unfolding wrapped number_of as_signed residue
wraps = (refl, refl, refl, refl)

extends : (extended I8 0x1ff ≡ 0xffff_ffff_ffff_ffff) × (extended U8 0x1ff ≡ 0xff) × (extended I32 0x8000_0000 ≡ 0xffff_ffff_8000_0000) × (extended U64 0xffff_ffff_ffff_ffff ≡ 0xffff_ffff_ffff_ffff)
unfolding extended value_of number_of as_signed word_of residue
extends = (refl, refl, refl, refl)

divides : (arithmetic Div I32 (pos 1) (pos 0) ≡ None) × (arithmetic Div I64 (negsuc 0x7fff_ffff_ffff_ffff) (negsuc 0) ≡ None)
    × (arithmetic Div I32 (negsuc 0x7fff_ffff) (negsuc 0) ≡ Some (negsuc 0x7fff_ffff)) × (arithmetic Div I32 (negsuc 6) (pos 2) ≡ Some (negsuc 2))
    × (arithmetic Rem I32 (negsuc 6) (pos 2) ≡ Some (negsuc 0))
unfolding arithmetic wrapped number_of as_signed residue word_of
divides = (refl, refl, refl, refl, refl)

shifts : (arithmetic Shl I32 (pos 1) (pos 33) ≡ Some (pos 2)) × (arithmetic Shl I64 (pos 1) (pos 33) ≡ Some (pos 0x2_0000_0000))
    × (arithmetic Shr I32 (negsuc 4) (pos 1) ≡ Some (negsuc 2)) × (arithmetic Shr I32 (negsuc 4) (negsuc 0) ≡ Some (negsuc 0))
unfolding arithmetic wrapped number_of as_signed residue word_of
shifts = (refl, refl, refl, refl)

-- ---- the bounds store and the walk

abbrev megabytes : ℕ → List ℕ
megabytes zero = []
megabytes (suc n) = n ∷ megabytes n

megabyte_1024 : touched_with (megabytes 1023) 5000 ≡ Some (megabytes 1023 ++ 5000 ∷ [])
unfolding touched_with
megabyte_1024 = refl

megabyte_1025 : (touched_with (megabytes 1024) 5000 ≡ None) × (touched_with (megabytes 1024) 1023 ≡ Some (megabytes 1024))
unfolding touched_with
megabyte_1025 = (refl, refl)

walks : (directory_entry_at 0x4000_0000_0001 0x3000_0000 ≡ 0x4000_0000_1800) × (directory_entry_at 0x4000_0000_0003 0x3010_0000 ≡ 0x4000_0000_1808)
    × (table_entry_at 0x5000_0000_0001 0x3000_0008 ≡ 0x5000_0000_0020) × (table_entry_at 0x5000_0040_0001 0x301f_ffff ≡ 0x5000_007f_ffe0)
unfolding directory_entry_at table_entry_at
walks = (refl, refl, refl, refl)

tables_made : (next_entry 0 ≡ 0x5000_0000_0001) × (next_entry 1 ≡ 0x5000_0040_0001) × (next_entry 1023 ≡ 0x5000_ffc0_0001)
unfolding next_entry
tables_made = (refl, refl, refl)

-- 1,024 tables are made, each named in its directory entry, and no more
abbrev entry_then : Option (ℕ → ℕ) → Option ℕ
unfolding number_at
entry_then None = None
entry_then (Some m) = Some (number_at 8 m 0x4000_0000_1800)

last_table : (entry_then (with_next_table no_bytes 0x4000_0000_1800 1023) ≡ Some 0x5000_ffc0_0001) × (entry_then (with_next_table no_bytes 0x4000_0000_1800 1024) ≡ None)
unfolding with_next_table with_number next_entry entry_then
last_table = (refl, refl)

-- a table entry's bounds, for the value that it was stored for and for another; an untouched entry gives full bounds
stored_bounds : (bounds_in 0x2000_0000 (entry_for 0x2000_0000 record { lb = 0x2000_0000; ub = 0x2000_0003 }) ≡ record { lb = 0x2000_0000; ub = 0x2000_0003 })
    × (bounds_in 0x2000_0001 (entry_for 0x2000_0000 record { lb = 0x2000_0000; ub = 0x2000_0003 }) ≡ full_bounds)
    × (bounds_in 0 record { lb = 0; held = 0; value = 0 } ≡ full_bounds)
unfolding bounds_in
stored_bounds = (refl, refl, refl)

-- where a table is wanting, the pointer's bytes are written all the same, and nothing is kept
abbrev full_world : World
full_world = record (world_at_start no_bytes [] 0) { store = record empty_store { touched = megabytes 1024 } }

abbrev stopped_number : Result World World → Option ℕ
unfolding number_at
stopped_number (Ok w) = None
stopped_number (Err w) = Some (number_at 8 w.bytes 0x5000_0000)

no_table_after_bytes : stopped_number (pointer_written full_world 0x5000_0000 0x1234 full_bounds) ≡ Some 0x1234
unfolding pointer_written keep_bounds touched_with number_at with_number
no_table_after_bytes = refl

-- a pointer is read with the bounds that it was written with, until its bytes are written otherwise
abbrev read_bounds : Result World World → Option Bounds
unfolding pointer_read load_bounds bounds_for touched_with number_at
read_bounds (Ok w) = elim (pointer_read w 0x3000_0000) as (λ r. Option Bounds) [ Ok t ↦ Some t.1 | Err u ↦ None ]
read_bounds (Err w) = None

kept_for_the_value : read_bounds (pointer_written (world_at_start no_bytes [] 0) 0x3000_0000 0x2000_0000 (pair 0x2000_0000 0x2000_0003)) ≡ Some (pair 0x2000_0000 0x2000_0003)
unfolding pointer_written keep_bounds pointer_read load_bounds bounds_for touched_with number_at with_number
kept_for_the_value = refl

abbrev spoiled : Result World World → Result World World
unfolding with_number
spoiled (Ok w) = Ok (number_written 1 w 0x3000_0000 9)
spoiled (Err w) = Err w

not_for_another_value : read_bounds (spoiled (pointer_written (world_at_start no_bytes [] 0) 0x3000_0000 0x2000_0000 (pair 0x2000_0000 0x2000_0003))) ≡ Some full_bounds
unfolding pointer_written keep_bounds pointer_read load_bounds bounds_for touched_with number_at with_number
not_for_another_value = refl

-- ---- the heap

abbrev at : ℕ → ℕ → Range
at from size = record { from = from; size = size }

abbrev heap : List Range → List Range → Heap
heap free live = record { free = free; live = live }

nine_bytes : allocated whole_heap 9 ≡ (0x3000_0000, heap (at 0x3000_0010 0x0fff_fff0 ∷ []) (at 0x3000_0000 16 ∷ []))
unfolding allocated rounded
nine_bytes = refl

fits_exactly : allocated whole_heap 0x1000_0000 ≡ (0x3000_0000, heap [] (at 0x3000_0000 0x1000_0000 ∷ []))
unfolding allocated rounded
fits_exactly = refl

not_given : (allocated whole_heap 0 ≡ (0, whole_heap)) × (allocated whole_heap 0x1000_0001 ≡ (0, whole_heap)) × (allocated whole_heap 0xffff_ffff_ffff_ffff ≡ (0, whole_heap))
unfolding allocated rounded
not_given = (refl, refl, refl)

too_many_blocks : (allocated (heap (at 0x3000_0000 64 ∷ []) (replicate 65536 (at 0 16))) 16).0 ≡ 0
unfolding allocated rounded
too_many_blocks = refl

-- three blocks, of which the outer two are freed, then the middle one
first_and_last_freed : heap_after (Frees 0x3000_0020 ∷ Frees 0x3000_0000 ∷ Allocs 1 ∷ Allocs 16 ∷ Allocs 2 ∷ []) ≡ heap (at 0x3000_0000 16 ∷ at 0x3000_0020 0x0fff_ffe0 ∷ []) (at 0x3000_0010 16 ∷ [])
unfolding allocated rounded freed
first_and_last_freed = refl

joins_neighbours : freed (heap (at 0x3000_0000 16 ∷ at 0x3000_0020 0x0fff_ffe0 ∷ []) (at 0x3000_0010 16 ∷ [])) 0x3000_0010 ≡ Some whole_heap
unfolding freed
joins_neighbours = refl

no_block_there : (freed whole_heap 0x3000_0000 ≡ None) × (freed (heap [] (at 0x3000_0000 32 ∷ [])) 0x3000_0010 ≡ None)
unfolding freed
no_block_there = (refl, refl)

-- ---- services

abbrev guest : Guest
guest = guest_with (65 ∷ [])

abbrev asked : ℕ → ℕ → ℕ → ℕ → Served ℕ
unfolding served service_of
asked number rdi rsi rdx = served no_bytes (λ a n. Some a) (service_of number) rdi rsi rdx guest

abbrev wrote : List ℕ → Guest
wrote out = record guest { out = out }

prints : (asked 0x1002 7 0 0 ≡ Answers 0 (wrote (codes "7\n"))) × (asked 0x1002 0xffff_ffff_ffff_ffff 0 0 ≡ Answers 0 (wrote (codes "-1\n")))
unfolding served service_of value_of number_of as_signed digits
prints = (refl, refl)

puts_and_gets : (asked 0x1003 0x141 0 0 ≡ Answers 0 (wrote (65 ∷ []))) × (asked 0x1004 0 0 0 ≡ Answers 65 record guest { input = [] })
unfolding served service_of
puts_and_gets = (refl, refl)

answers : (asked 60 0x103 0 0 ≡ Exits 3) × (asked 1 2 0 5 ≡ Answers 0xffff_ffff_ffff_fff7 guest) × (asked 1 1 0 0 ≡ Answers 0 guest) × (asked 2 0 0 0 ≡ Answers 0xffff_ffff_ffff_ffda guest) × (asked 0x1001 0x3000_0000 0 0 ≡ Answers 0xffff_ffff_ffff_ffff guest)
unfolding served service_of freed
answers = (refl, refl, refl, refl, refl)
