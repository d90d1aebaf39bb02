-- An image in the machine: its memory with the bounds directory and the bound tables (Intel SDM, volume 1, bound directory and bound
-- tables), the state before the first event, and its run.
use Rattle.std.specs.Prelude.{◌≡◌, ℕ, ◌+◌, ◌<◌, ◌≤◌, nat_eq, Bool, if◌then◌else◌, Option, None, Some, Result, Ok, Err, List, [], ◌∷◌, length}
use Rattle.std.specs.Option.{option_map}
use Rattle.mx_base.specs.declared.limits.Bounds.{Bounds}
use Rattle.mx_base.specs.Regions.{instrumented_code, control_stack, region_end, is_readable, is_writable}
use Rattle.mx_base.specs.Memory.{Bytes, no_bytes, number_at, with_number, list_at, with_list, first_refused}
use Rattle.mx_base.specs.Services.{guest_with}
use Rattle.mx_base.specs.Walk.{Walked, Beyond, Invalid as NoTable, Stands, walk, entry_in, with_entry, entry_size, bounds_in, entry_for, with_next_table, invalid_status}
use Rattle.mx_base.specs.World.{Access}
use Rattle.x86_forms.specs.Arithmetic.{no_flags}
use Rattle.x86_forms.specs.Processor.{Processor, rsp}
use Rattle.x86_forms.specs.Requests.{Store}
use Rattle.x86_forms.specs.Table.{init_bounds}
use Rattle.obj_file.specs.declared.image.Image.{Image}
use Rattle.obj_file.specs.declared.image.Segment.{Segment}
use Rattle.obj_file.specs.Machine.{Reading, Refusal, Misses, Invalid, Lacks, Ground, State, served_or_invalid}
use Rattle.obj_file.specs.Runs.{End, run_of, accesses_of}

-- ---- memory

-- the byte at each address, and how many bound tables the runtime made
pub record Tabled : Type 0 where
  pub bytes : Bytes
  pub made : ℕ

abbrev pub unless_missing : {A : Type 0} → Option ℕ → A → Result A Refusal
unless_missing None v = Ok v
unless_missing (Some x) v = Err (Misses x)

abbrev pub with_bytes : Tabled → Bytes → Tabled
with_bytes x bytes = record { bytes = bytes; made = x.made }

unfoldable pub tabled_read : Tabled → ℕ → ℕ → Result ℕ Refusal
tabled_read x at size = unless_missing (first_refused is_readable size at) (number_at size x.bytes at)

unfoldable pub tabled_write : Tabled → ℕ → ℕ → ℕ → Result Tabled Refusal
tabled_write x at size value = unless_missing (first_refused is_writable size at) (with_bytes x (with_number size x.bytes at value))

-- what is answered where a walk ends
abbrev pub at_walked : {A : Type 0} → Walked → (ℕ → Result A Refusal) → Result A Refusal
at_walked (Beyond la) answer = Err (Misses la)
at_walked (NoTable entry_at) answer = Err (Invalid entry_at)
at_walked (Stands at) answer = answer at

unfoldable pub tabled_load : ℕ → Tabled → ℕ → ℕ → Result (Bounds × Tabled) Refusal
tabled_load cfg x la value = at_walked (walk x.bytes cfg la) (λ at. unless_missing (first_refused is_readable entry_size at) (bounds_in value (entry_in x.bytes at), x))

unfoldable pub tabled_keep : ℕ → Tabled → ℕ → ℕ → Bounds → Result Tabled Refusal
tabled_keep cfg x la value b = at_walked (walk x.bytes cfg la) (λ at. unless_missing (first_refused is_writable entry_size at) (with_bytes x (with_entry x.bytes at (entry_for value b))))

-- an invalid directory entry is told in BNDSTATUS
abbrev pub status_after : Refusal → ℕ → ℕ
status_after (Misses at) before = before
status_after (Invalid entry_at) before = invalid_status entry_at
status_after (Lacks in_use capacity) before = before

-- memory with the walk as its store of bounds, by the configuration register
abbrev pub tabled_store : ℕ → Store Tabled Refusal
tabled_store cfg = record {
  read = tabled_read;
  write = tabled_write;
  load = tabled_load cfg;
  keep = tabled_keep cfg;
  status = status_after;
}

-- the runtime puts the next table into a directory entry
unfoldable pub table_made : Tabled → ℕ → Option Tabled
table_made x entry_at = option_map (λ bytes. record { bytes = bytes; made = x.made + 1 }) (with_next_table x.bytes entry_at x.made)

-- ---- images

-- what BNDCFGU holds: the directory's address, BNDPRESERVE in bit 1, and that bounds are on in bit 0
abbrev pub configuration : Bool → ℕ
configuration preserve = if preserve then 0x4000_0000_0003 else 0x4000_0000_0001

-- how an image is run: whether BNDPRESERVE is set, and whether the watch is off
pub record Mode : Type 0 where
  pub preserve : Bool
  pub bare : Bool

abbrev pub ground_of : (List ℕ → Reading) → ℕ → Mode → Ground Tabled
ground_of reads outers mode = record {
  reads = reads;
  store = tabled_store (configuration mode.preserve);
  bytes = λ x. x.bytes;
  serve = λ x entry_at. served_or_invalid entry_at (table_made x entry_at);
  outers = outers;
  bare = mode.bare;
}

-- the bytes with those of segments
abbrev pub with_segments : Bytes → List Segment → Bytes
with_segments m [] = m
with_segments m (s ∷ rest) = with_segments (with_list m s.at s.bytes) rest

-- memory has a segment's bytes at its addresses
abbrev pub Holds : Bytes → Segment → Type 0
Holds m s = list_at (length s.bytes) m s.at ≡ s.bytes

-- an address that a segment doesn't have
abbrev pub IsOutside : ℕ → Segment → Type 0
IsOutside a s = s.at ≤ a → a < s.at + length s.bytes → ⊥

-- the processor before the first event
abbrev pub processor_at_start : Bool → Processor
processor_at_start preserve = record {
  regs = λ k. if nat_eq k rsp then region_end control_stack else 0;
  flags = no_flags;
  rip = instrumented_code.from;
  bounds = init_bounds;
  preserve = preserve;
  status = 0;
}

unfoldable pub state_at_start : List Segment → Bool → List ℕ → State Tabled
state_at_start segments preserve input = record {
  processor = processor_at_start preserve;
  memory = record { bytes = with_segments no_bytes segments; made = 0 };
  guest = guest_with input;
  steps = 0;
}

-- the run of an image by a reader of instructions: its output, the input left, the stop and the last state are those of its end
unfoldable pub image_run : (List ℕ → Reading) → Image → Mode → ℕ → List ℕ → End Tabled
image_run reads image mode turns input = run_of (ground_of reads image.outers mode) turns (state_at_start image.segments mode.preserve input)

-- the accesses that it makes for C
unfoldable pub image_accesses : (List ℕ → Reading) → Image → Mode → ℕ → List ℕ → List Access
image_accesses reads image mode turns input = accesses_of (ground_of reads image.outers mode) turns (state_at_start image.segments mode.preserve input)
