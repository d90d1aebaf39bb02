-- The machine over the store of bounds: an image's memory with what is kept for each granule beside it, in place of the directory and the
-- tables. What the walk finds in them is answered from the store; a megabyte that was not touched yet is one whose directory entry names no
-- table (Intel SDM, volume 1, bound directory and bound tables).
use Rattle.std.specs.Prelude.{ℕ, ◌-◌, ◌*◌, ◌/◌, nat_lt, ◌==◌, Bool, if◌then◌else◌, Option, None, Some, Result, Ok, Err, List}
use Rattle.std.specs.List.{list_any}
use Rattle.std.specs.Option.{option_map}
use Rattle.mx_base.specs.declared.limits.Bounds.{Bounds}
use Rattle.mx_base.specs.BoundsStore.{BoundsStore, empty_store, bounds_for, granule, megabyte, touch, with_kept}
use Rattle.mx_base.specs.Memory.{Bytes, no_bytes, number_at, with_number, first_refused}
use Rattle.mx_base.specs.Regions.{directory, is_readable, is_writable}
use Rattle.mx_base.specs.Services.{guest_with}
use Rattle.mx_base.specs.Walk.{directory_entry_at, walk_end}
use Rattle.mx_base.specs.World.{Access}
use Rattle.x86_forms.specs.Requests.{Store}
use Rattle.obj_file.specs.declared.image.Image.{Image}
use Rattle.obj_file.specs.declared.image.Segment.{Segment}
use Rattle.obj_file.specs.Machine.{Reading, Refusal, Misses, Invalid, Lacks, Ground, State, served_or_invalid}
use Rattle.obj_file.specs.Runs.{End, run_of, accesses_of}
use Rattle.obj_file.specs.Loaded.{Mode, unless_missing, status_after, configuration, processor_at_start, with_segments}

-- the byte at each address, and the store of bounds. No walk reads the bytes of the directory and of the tables
pub record Stored : Type 0 where
  pub bytes : Bytes
  pub bounds : BoundsStore

abbrev pub with_store : Stored → BoundsStore → Stored
with_store y s = record { bytes = y.bytes; bounds = s }

unfoldable pub stored_read : Stored → ℕ → ℕ → Result ℕ Refusal
stored_read y at size = unless_missing (first_refused is_readable size at) (number_at size y.bytes at)

unfoldable pub stored_write : Stored → ℕ → ℕ → ℕ → Result Stored Refusal
stored_write y at size value = unless_missing (first_refused is_writable size at) (record { bytes = with_number size y.bytes at value; bounds = y.bounds })

unfoldable pub is_touched : BoundsStore → ℕ → Bool
is_touched s m = list_any (λ t. t == m) s.touched

-- an answer for an address: there is none where addresses have no bounds, and none yet where its megabyte was not touched
abbrev pub unless_untouched : {A : Type 0} → ℕ → BoundsStore → ℕ → A → Result A Refusal
unless_untouched cfg s la v =
    if nat_lt la walk_end then (if is_touched s (megabyte la) then Ok v else Err (Invalid (directory_entry_at cfg la))) else Err (Misses la)

unfoldable pub stored_load : ℕ → Stored → ℕ → ℕ → Result (Bounds × Stored) Refusal
stored_load cfg y la value = unless_untouched cfg y.bounds la (bounds_for value (y.bounds.kept (granule la)), y)

unfoldable pub stored_keep : ℕ → Stored → ℕ → ℕ → Bounds → Result Stored Refusal
stored_keep cfg y la value b = unless_untouched cfg y.bounds la (with_store y (with_kept y.bounds la value b))

-- memory with a store of bounds, by the configuration register
abbrev pub stored_store : ℕ → Store Stored Refusal
stored_store cfg = record {
  read = stored_read;
  write = stored_write;
  load = stored_load cfg;
  keep = stored_keep cfg;
  status = status_after;
}

-- the first address of those whose directory entry this is
abbrev pub address_of_entry : ℕ → ℕ
address_of_entry entry_at = 0x10_0000 * ((entry_at - directory.from) / 8)

-- what serves a directory entry here: its megabyte is touched, if one more may be
unfoldable pub megabyte_touched : Stored → ℕ → Option Stored
megabyte_touched y entry_at = option_map (with_store y) (touch y.bounds (address_of_entry entry_at))

abbrev pub stored_ground : (List ℕ → Reading) → ℕ → Mode → Ground Stored
stored_ground reads outers mode = record {
  reads = reads;
  store = stored_store (configuration mode.preserve);
  bytes = λ y. y.bytes;
  serve = λ y entry_at. served_or_invalid entry_at (megabyte_touched y entry_at);
  outers = outers;
  bare = mode.bare;
}

-- ---- a request with its serving

-- a request to the memory, and its answer. Where its megabyte is not touched yet that is served, and the request is asked once more
abbrev pub done_or : {A : Type 0} → Option A → Result A Refusal → Option A
done_or otherwise (Ok v) = Some v
done_or otherwise (Err (Misses at)) = None
done_or otherwise (Err (Invalid entry_at)) = otherwise
done_or otherwise (Err (Lacks in_use capacity)) = None

abbrev pub once_more : {A : Type 0} → (Stored → Result A Refusal) → Option Stored → Option A
once_more ask None = None
once_more ask (Some y) = done_or None (ask y)

abbrev pub with_serving : {A : Type 0} → (Stored → Result A Refusal) → Stored → Result A Refusal → Option A
with_serving ask y (Ok v) = Some v
with_serving ask y (Err (Misses at)) = None
with_serving ask y (Err (Lacks in_use capacity)) = None
with_serving ask y (Err (Invalid entry_at)) = once_more ask (megabyte_touched y entry_at)

-- ---- images

unfoldable pub stored_at_start : List Segment → Bool → List ℕ → State Stored
stored_at_start segments preserve input = record {
  processor = processor_at_start preserve;
  memory = record { bytes = with_segments no_bytes segments; bounds = empty_store };
  guest = guest_with input;
  steps = 0;
}

-- the run of an image over the store of bounds, and the accesses that it makes for C
unfoldable pub stored_run : (List ℕ → Reading) → Image → Mode → ℕ → List ℕ → End Stored
stored_run reads image mode turns input = run_of (stored_ground reads image.outers mode) turns (stored_at_start image.segments mode.preserve input)

unfoldable pub stored_accesses : (List ℕ → Reading) → Image → Mode → ℕ → List ℕ → List Access
stored_accesses reads image mode turns input = accesses_of (stored_ground reads image.outers mode) turns (stored_at_start image.segments mode.preserve input)
