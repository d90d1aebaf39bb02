-- What the code of a function sees of the machine, and what its pieces make of that.
use Rattle.std.specs.Prelude.{ℕ, ◌+◌, nat_le, ◌==◌, if◌then◌else◌, Option, None, Some}
use Rattle.mx_base.specs.declared.limits.Bounds.{Bounds as BoundsPair}
use Rattle.mx_base.specs.declared.stops.Stop.{Stop}
use Rattle.mx_base.specs.declared.stops.Stop.TheVariants as stop
use Rattle.mx_base.specs.Access.{Refusal, Strays, Misses}
use Rattle.mx_base.specs.Bounds.{complement}
use Rattle.mx_base.specs.BoundsStore.{BoundsStore, megabyte}
use Rattle.mx_base.specs.Walk.{invalid_status, directory_entry_at}
use Rattle.mx_base.specs.World.{World, with_store}
use Rattle.x86_forms.specs.Processor.{Processor, with_reg, with_bounds}
use Rattle.obj_file.specs.Loaded.{configuration}
use Rattle.obj_file.specs.Stored.{is_touched}
use Rattle.step_code.specs.declared.homes.Home.{Home}
use Rattle.step_code.specs.declared.homes.Home.TheVariants.{Reg, Slot, Bnd}

-- ---- what the code of a function sees: the processor, the words of its frame, and the world
pub record View : Type 0 where
  pub processor : Processor
  pub slots : ℕ → ℕ
  pub world : World

-- what a piece leads to: it goes on, by the way taking a turn, or the run stops
pub data Came : Type 0 where
  On : (v : View) → Came
  Turn : (v : View) → Came
  Over : (why : Stop) → (w : World) → Came

abbrev pub with_slot : ℕ → ℕ → (ℕ → ℕ) → ℕ → ℕ
with_slot k n slots = λ x. if x == k then n else slots x

-- bounds in two words
abbrev pub pair_at : (ℕ → ℕ) → ℕ → BoundsPair
pair_at slots k = record { lb = slots k; ub = complement (slots (k + 1)) }

abbrev pub with_pair_at : ℕ → BoundsPair → (ℕ → ℕ) → ℕ → ℕ
with_pair_at k b slots = with_slot (k + 1) (complement b.ub) (with_slot k b.lb slots)

abbrev pub with_word : Processor → ℕ → ℕ → Processor
with_word c r n = record c { regs = with_reg c.regs r n }

abbrev pub with_bound : Processor → ℕ → BoundsPair → Processor
with_bound c b x = record c { bounds = with_bounds c.bounds b x }

abbrev pub unless_refused : View → Option Refusal → Came → Came
unless_refused v None done = done
unless_refused v (Some (Strays at)) done = Over (stop.Strayed at) v.world
unless_refused v (Some (Misses at)) done = Over (stop.Unmapped at) v.world

-- BNDSTATUS after a walk, which is served where the megabyte was not touched
abbrev pub walked : BoundsStore → ℕ → Processor → Processor
walked store at c = record c { status = if is_touched store (megabyte at) then c.status else invalid_status (directory_entry_at (configuration c.preserve) at) }

abbrev pub pair_loaded : View → ℕ → ℕ → Processor → Option (BoundsPair × BoundsStore) → Came
pair_loaded v b at c None = Over stop.NoTable v.world
pair_loaded v b at c (Some p) = On record v { processor = with_bound c b p.0; world = with_store v.world p.1 }

abbrev pub pair_kept : View → Processor → Option BoundsStore → Came
pair_kept v c None = Over stop.NoTable v.world
pair_kept v c (Some s) = On record v { processor = c; world = with_store v.world s }

abbrev pub jumped : View → (target : ℕ) → Came
jumped v target =
    if nat_le target v.processor.rip then Turn record v { processor = record v.processor { rip = target } }
    else On record v { processor = record v.processor { rip = target } }

-- ---- values at home

abbrev pub number_home : View → Home → ℕ
number_home v (Reg r) = v.processor.regs r
number_home v (Slot k) = v.slots k
number_home v (Bnd b) = 0

abbrev pub pair_home : View → Home → BoundsPair
pair_home v (Reg r) = record { lb = 0; ub = 0 }
pair_home v (Slot k) = pair_at v.slots k
pair_home v (Bnd b) = v.processor.bounds b

abbrev pub regs_put : Home → ℕ → (ℕ → ℕ) → ℕ → ℕ
regs_put (Reg r) n regs = with_reg regs r n
regs_put (Slot k) n regs = regs
regs_put (Bnd b) n regs = regs

abbrev pub slots_put : Home → ℕ → (ℕ → ℕ) → ℕ → ℕ
slots_put (Reg r) n slots = slots
slots_put (Slot k) n slots = with_slot k n slots
slots_put (Bnd b) n slots = slots

abbrev pub with_number_home : Home → ℕ → View → View
with_number_home h n v = record v { processor = record v.processor { regs = regs_put h n v.processor.regs }; slots = slots_put h n v.slots }

abbrev pub bounds_put : Home → BoundsPair → (ℕ → BoundsPair) → ℕ → BoundsPair
bounds_put (Reg r) b bounds = bounds
bounds_put (Slot k) b bounds = bounds
bounds_put (Bnd c) b bounds = with_bounds bounds c b

abbrev pub slots_put_pair : Home → BoundsPair → (ℕ → ℕ) → ℕ → ℕ
slots_put_pair (Reg r) b slots = slots
slots_put_pair (Slot k) b slots = with_pair_at k b slots
slots_put_pair (Bnd c) b slots = slots

abbrev pub with_pair_home : Home → BoundsPair → View → View
with_pair_home h b v = record v { processor = record v.processor { bounds = bounds_put h b v.processor.bounds }; slots = slots_put_pair h b v.slots }
