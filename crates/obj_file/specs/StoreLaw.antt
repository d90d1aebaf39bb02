-- When the directory and the tables hold what the store of bounds keeps, and which runs leave them to walks and servings.
use Rattle.std.specs.Prelude.{◌≡◌, ℕ, zero, suc, ◌+◌, ◌*◌, ◌/◌, ◌^◌, ◌<◌, ◌≤◌, ⊤, Bool, true, false, IsTrue, not, ◌&&◌, ◌||◌, if◌then◌else◌, Option, None, Some, List, [], ◌∷◌, ◌++◌, length, slice_index}
use Rattle.std.specs.List.{All, AllByRecursion}
use Rattle.mx_base.specs.declared.limits.Bounds.{Bounds}
use Rattle.mx_base.specs.Bounds.{moved}
use Rattle.mx_base.specs.BoundsStore.{BoundsStore, Kept, most_tables}
use Rattle.mx_base.specs.Memory.{AreBytes, number_at}
use Rattle.mx_base.specs.Regions.{directory, tables, region_end, is_in, is_executable}
use Rattle.mx_base.specs.Services.{Service, Write, service_of}
use Rattle.mx_base.specs.Walk.{TableEntry, entry_in, entry_for, next_entry, table_size}
use Rattle.x86_forms.specs.declared.instr.Instr.{Instr}
use Rattle.x86_forms.specs.declared.spans.Span.{Span}
use Rattle.x86_forms.specs.Processor.{Processor, rax, rdx}
use Rattle.x86_forms.specs.Accesses.{accesses}
use Rattle.x86_forms.specs.Validity.{valid_of}
use Rattle.x86_forms.specs.Watch.{is_watched}
use Rattle.obj_file.specs.declared.image.Segment.{Segment}
use Rattle.obj_file.specs.Machine.{Reading, Is, Part, Neither, Ground, State, Event, Goes, Stops, event, reading_at, next_address, service_span, is_service, rsi}
use Rattle.obj_file.specs.Runs.{End, Out, Stopped, room}
use Rattle.obj_file.specs.Loaded.{Tabled}
use Rattle.obj_file.specs.Stored.{Stored, is_touched}

-- ---- words

abbrev pub AreWords : Bounds → Type 0
AreWords b = (b.lb < 2 ^ 64) × (b.ub < 2 ^ 64)

-- registers and bounds of 64 bits
pub record AreWordFiles (regs : ℕ → ℕ) (bounds : ℕ → Bounds) : Type 0 where
  pub regs_fit : (k : ℕ) → regs k < 2 ^ 64
  pub bounds_fit : (k : ℕ) → AreWords (bounds k)

abbrev pub HoldsWords : Processor → Type 0
HoldsWords c = AreWordFiles c.regs c.bounds

abbrev pub KeepsWords : Option Kept → Type 0
KeepsWords None = ⊤
KeepsWords (Some k) = (k.value < 2 ^ 64) × AreWords k.bounds

-- ---- places

-- where the directory entry of a megabyte of addresses stands
abbrev pub megabyte_entry_at : ℕ → ℕ
megabyte_entry_at m = directory.from + 8 * m

-- the directory has entries for so many megabytes, and addresses with bounds are in so many
abbrev pub directory_entries : ℕ
directory_entries = 0x1000_0000

abbrev pub bounded_megabytes : ℕ
bounded_megabytes = 0x800_0000

-- a table has an entry for each of the granules of a megabyte. Here are entry r of table k, and granule r of megabyte m
abbrev pub table_entries : ℕ
table_entries = 0x2_0000

abbrev pub nth_entry_at : ℕ → ℕ → ℕ
nth_entry_at k r = tables.from + table_size * k + 32 * r

abbrev pub nth_granule : ℕ → ℕ → ℕ
nth_granule m r = table_entries * m + r

-- the megabyte that was touched after so many others
abbrev pub touched_at : BoundsStore → ℕ → ℕ
touched_at s k = slice_index s.touched k

-- an address in the directory or the tables
unfoldable pub is_of_bounds : ℕ → Bool
is_of_bounds a = is_in directory a || is_in tables a

-- ---- one memory stands for the other

-- the table entry of what is kept: of zeros where nothing is
abbrev pub kept_entry : Option Kept → TableEntry
kept_entry None = record { lb = 0; held = 0; value = 0 }
kept_entry (Some k) = entry_for k.value k.bounds

-- a memory with the directory and the tables stands for one with a store of bounds. There is a table for each megabyte that was touched, in
-- this order; its directory entry names it, and every other directory entry is 0. Each entry of a table is that of what is kept for its
-- granule, and nothing is kept for other granules. The bytes behind these tables are 0 up to the end of their region, and all bytes that
-- are neither in the directory nor in the tables are the same
pub record StandsIn (x : Tabled) (y : Stored) : Type 0 where
  pub made : x.made ≡ length y.bounds.touched
  pub few : x.made ≤ most_tables
  pub bounded : (k : ℕ) → k < x.made → touched_at y.bounds k < bounded_megabytes
  pub distinct : (j k : ℕ) → j < x.made → k < x.made → touched_at y.bounds j ≡ touched_at y.bounds k → j ≡ k
  pub named : (k : ℕ) → k < x.made → number_at 8 x.bytes (megabyte_entry_at (touched_at y.bounds k)) ≡ next_entry k
  pub unnamed : (m : ℕ) → m < directory_entries → is_touched y.bounds m ≡ false → number_at 8 x.bytes (megabyte_entry_at m) ≡ 0
  pub entries : (k r : ℕ) → k < x.made → r < table_entries → entry_in x.bytes (nth_entry_at k r) ≡ kept_entry (y.bounds.kept (nth_granule (touched_at y.bounds k) r))
  pub unkept : (g : ℕ) → is_touched y.bounds (g / table_entries) ≡ false → y.bounds.kept g ≡ None
  pub words : (g : ℕ) → KeepsWords (y.bounds.kept g)
  pub unmade : (a : ℕ) → nth_entry_at x.made 0 ≤ a → a < region_end tables → x.bytes a ≡ 0
  pub others : (a : ℕ) → is_of_bounds a ≡ false → x.bytes a ≡ y.bytes a
  pub each_byte : AreBytes x.bytes

-- two states that differ in memory alone, of which one stands for the other
pub record StatesAlike (s : State Tabled) (t : State Stored) : Type 0 where
  pub processor : s.processor ≡ t.processor
  pub guest : s.guest ≡ t.guest
  pub steps : s.steps ≡ t.steps
  pub memory : StandsIn s.memory t.memory
  pub words : HoldsWords s.processor

abbrev pub EventsAlike : Event Tabled → Event Stored → Type 0
EventsAlike (Goes a s) (Goes b t) = (a ≡ b) × StatesAlike s t
EventsAlike (Goes a s) (Stops b also t) = ⊥
EventsAlike (Stops a why s) (Goes b t) = ⊥
EventsAlike (Stops a why s) (Stops b also t) = (a ≡ b) × (why ≡ also) × StatesAlike s t

abbrev pub EndsAlike : End Tabled → End Stored → Type 0
EndsAlike (Out s) (Out t) = StatesAlike s t
EndsAlike (Out s) (Stopped also t) = ⊥
EndsAlike (Stopped why s) (Out t) = ⊥
EndsAlike (Stopped why s) (Stopped also t) = (why ≡ also) × StatesAlike s t

-- ---- readers

-- what is read of bytes is valid
abbrev pub ReadsValid : (List ℕ → Reading) → Type 0
ReadsValid reads = (bytes : List ℕ) (i : Instr) (size : ℕ) → All (λ b. b < 256) bytes → reads bytes ≡ Is i size → IsTrue (valid_of i)

-- ---- runs that leave the directory and the tables to walks and servings

-- no byte of an access lies in the directory or the tables
abbrev pub AvoidsBounds : Span → Type 0
AvoidsBounds s = (k : ℕ) → k < s.size → is_of_bounds (moved s.at k) ≡ false

-- an access stays out of them, unless the watch judges it: of the bytes that it lets pass none is sealed
abbrev pub StaysOut : Bool → Instr → ℕ → Span → Type 0
StaysOut bare i from s = (not bare && is_watched i from s) ≡ false → AvoidsBounds s

-- what a service reads: the bytes of a write
abbrev pub read_by : Service → ℕ → ℕ → List Span
read_by Write at size = service_span at size ∷ []
read_by s at size = []

abbrev pub service_reads : Instr → Processor → List Span
service_reads i c = if is_service i then read_by (service_of (c.regs rax)) (c.regs rsi) (c.regs rdx) else []

-- the accesses of the instruction and of its service stay out
abbrev pub ReadingStaysOut : Bool → Processor → Reading → Type 0
ReadingStaysOut bare c (Is i size) = AllByRecursion (StaysOut bare i c.rip) (accesses i (next_address c.rip size) c.regs ++ service_reads i c)
ReadingStaysOut bare c Part = ⊤
ReadingStaysOut bare c Neither = ⊤

-- those of one event
unfoldable pub EventStaysOut : {X : Type 0} → Ground X → State X → Type 0
EventStaysOut g s = is_executable s.processor.rip ≡ true → ReadingStaysOut g.bare s.processor (reading_at g s)

-- a claim on the events after one, as far as turns last
abbrev pub Later : {X : Type 0} → (ℕ → State X → Type 0) → ℕ → Event X → Type 0
Later claim turns (Goes false t) = claim turns t
Later claim zero (Goes true t) = ⊤
Later claim (suc turns) (Goes true t) = claim turns t
Later claim turns (Stops turn why last) = ⊤

-- those of at most n events, one for which no turn is left among them
unfoldable pub StaysOutWithin : {X : Type 0} → Ground X → ℕ → ℕ → State X → Type 0
StaysOutWithin g zero turns s = ⊤
StaysOutWithin g (suc n) turns s = EventStaysOut g s × Later (StaysOutWithin g n) turns (event g s)

-- those of a run
unfoldable pub RunStaysOut : {X : Type 0} → Ground X → ℕ → State X → Type 0
RunStaysOut g turns s = StaysOutWithin g (room turns s) turns s

-- ---- images

-- segments of bytes
abbrev pub HaveBytes : List Segment → Type 0
HaveBytes segments = AllByRecursion (λ s. All (λ b. b < 256) s.bytes) segments
