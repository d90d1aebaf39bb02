-- Accesses of C: judged by the pointer's bounds, then by the bytes, and then done.
use Rattle.std.specs.Prelude.{ℕ, Bool, true, false, ◌==◌, if◌then◌else◌, Option, None, Some, Result, Ok, Err}
use Rattle.std.specs.Option.{option_map}
use Rattle.mx_base.specs.declared.limits.Bounds.{Bounds as BoundsPair}
use Rattle.mx_base.specs.declared.numbers.IntKind.{IntKind}
use Rattle.mx_base.specs.declared.places.Place.{Place}
use Rattle.mx_base.specs.Numbers.{size_of, extended}
use Rattle.mx_base.specs.Bounds.{leaving_value}
use Rattle.mx_base.specs.Memory.{number_at}
use Rattle.mx_base.specs.Access.{refusal}
use Rattle.mx_base.specs.BoundsStore.{Kept, granule}
use Rattle.mx_base.specs.StopOfC.{StopOfC, Bounds, NoTable, AccessOfC, AtAccess}
use Rattle.mx_base.specs.World.{World, NothingKept, Root, FullBy, Log, read_noted, number_written, pointer_read, pointer_written}
use Rattle.fat_ir.specs.Step.{stop_by}
use Rattle.bounds_plan.specs.meaning.State.{Pointer, State, Ended, Done, Stopped, M, ◌>>◌, unless, with_access, with_cause, listed}

-- the stop of an access that leaves its bounds by a value
abbrev pub leaves : BoundsPair → AccessOfC → Option ℕ → Option StopOfC
leaves b access o = option_map (λ value. Bounds value b (AtAccess access)) o

abbrev pub judge : (write : Bool) → (size : ℕ) → Place → Pointer → M (Unit {0})
judge write size place p = unless (leaves p.rooted.bounds record { place = place; write = write; size = size } (leaving_value p.address size p.rooted.bounds))

-- the stop of an access that its bounds allow
abbrev pub allow : (write : Bool) → (size : ℕ) → Pointer → M (Unit {0})
allow write size p = unless (option_map stop_by (refusal write size p.address))

-- ---- accesses that are done

abbrev pub access : (write : Bool) → (size : ℕ) → Pointer → Log → Log
access write size p l = with_access p.rooted record { write = write; at = p.address; size = size } l

abbrev pub read_number : IntKind → Pointer → M ℕ
read_number kind p = λ s. Done (extended kind (number_at (size_of kind) s.world.bytes p.address))
    record s { world = read_noted (size_of kind) s.world p.address; log = access false (size_of kind) p s.log }

abbrev pub write_number : IntKind → Pointer → ℕ → M (Unit {0})
write_number kind p n = λ s. Done tt record s { world = number_written (size_of kind) s.world p.address n; log = access true (size_of kind) p s.log }

-- the granule was asked for
abbrev pub with_granule : ℕ → Log → Log
with_granule a l = record l { granules = listed (granule a) l.granules }

-- the root of the bounds that were loaded for a value: that of what is kept for this value, or that nothing was
abbrev pub root_for : (value : ℕ) → Option Kept → Option Root → Option Root
root_for value None root = None
root_for value (Some k) root = if k.value == value then root else None

abbrev pub with_root : (value : ℕ) → BoundsPair → Option Root → World → State → Ended Pointer
with_root value b (Some root) w s = Done record { address = value; rooted = record { bounds = b; root = root } } record s { world = w }
with_root value b None w s = Done record { address = value; rooted = record { bounds = b; root = FullBy NothingKept } } record s { world = w; log = with_cause NothingKept s.log }

abbrev pub came : Pointer → Result (ℕ × BoundsPair × World) World → State → Ended Pointer
came p (Ok r) s = with_root r.0 r.1 (root_for r.0 (s.world.store.kept (granule p.address)) (s.log.roots (granule p.address))) r.2 record s { log = with_granule p.address s.log }
came p (Err w) s = Stopped NoTable record s { world = w }

abbrev pub read_pointer : Pointer → M Pointer
read_pointer p = λ s. came p (pointer_read s.world p.address) record s { log = access false 8 p s.log }

abbrev pub with_kept_root : ℕ → Root → Log → Log
with_kept_root a root l = record l { roots = λ g. if g == granule a then Some root else l.roots g }

abbrev pub went : Pointer → Root → Result World World → State → Ended (Unit {0})
went p root (Ok w) s = Done tt record s { world = w; log = with_kept_root p.address root (with_granule p.address s.log) }
went p root (Err w) s = Stopped NoTable record s { world = w }

abbrev pub write_pointer : Pointer → Pointer → M (Unit {0})
write_pointer p v = λ s. went p v.rooted.root (pointer_written s.world p.address v.address v.rooted.bounds) record s { log = access true 8 p s.log }

-- ---- accesses of places

abbrev pub load : IntKind → Place → Pointer → M ℕ
load kind place p = do
  judge false (size_of kind) place p
  allow false (size_of kind) p
  read_number kind p

abbrev pub store : IntKind → Place → Pointer → ℕ → M (Unit {0})
store kind place p n = do
  judge true (size_of kind) place p
  allow true (size_of kind) p
  write_number kind p n

abbrev pub load_ptr : Place → Pointer → M Pointer
load_ptr place p = do
  judge false 8 place p
  allow false 8 p
  read_pointer p

abbrev pub store_ptr : Place → Pointer → Pointer → M (Unit {0})
store_ptr place p v = do
  judge true 8 place p
  allow true 8 p
  write_pointer p v
