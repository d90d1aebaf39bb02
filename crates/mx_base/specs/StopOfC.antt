-- How a program of C stops. Where the machine has the address of a check, C has the access as it stands in the sources, or the
-- address of a check that legacy code made by hand.
use Rattle.std.specs.Prelude.{ℕ, Bool, false, true, Option, None, Some}
use Rattle.mx_base.specs.declared.limits.Bounds.{Bounds as BoundsPair}
use Rattle.mx_base.specs.declared.places.Place.{Place}
use Rattle.mx_base.specs.declared.stops.Stop.{Stop}
use Rattle.mx_base.specs.declared.stops.Stop.TheVariants as machine

-- an access as it stands in the sources: its place, whether it writes, and its size in bytes
pub record AccessOfC : Type 0 where
  pub place : Place
  pub write : Bool
  pub size : ℕ

pub data Site : Type 0 where
  AtAccess : (access : AccessOfC) → Site
  AtCode : (address : ℕ) → Site

-- a read and a write of so many bytes at a place
abbrev pub read_of : (size : ℕ) → Place → Site
read_of size place = AtAccess record { place = place; write = false; size = size }

abbrev pub write_of : (size : ℕ) → Place → Site
write_of size place = AtAccess record { place = place; write = true; size = size }

pub data StopOfC : Type 0 where
  Exit : (code : ℕ) → StopOfC
  Bounds : (value : ℕ) → (bounds : BoundsPair) → (site : Site) → StopOfC
  Unmapped : (at : ℕ) → StopOfC
  Divide : StopOfC
  Undefined : (at : ℕ) → StopOfC
  StackOver : StopOfC
  OutOfTurns : StopOfC
  Strayed : (at : ℕ) → StopOfC
  NoTable : StopOfC

abbrev pub site_of : ℕ → Option AccessOfC → Site
site_of address None = AtCode address
site_of address (Some access) = AtAccess access

-- the stop of C that a stop of the machine is, where an image gives accesses to addresses of its code; want of frames and faults
-- of the outside are none
abbrev pub stop_in_c : (ℕ → Option AccessOfC) → Stop → Option StopOfC
stop_in_c access_of (machine.Exit code) = Some (Exit code)
stop_in_c access_of (machine.Bounds b) = Some (Bounds b.value record { lb = b.lb; ub = b.ub } (site_of b.rip (access_of b.rip)))
stop_in_c access_of (machine.Unmapped at) = Some (Unmapped at)
stop_in_c access_of machine.Divide = Some Divide
stop_in_c access_of (machine.Undefined at) = Some (Undefined at)
stop_in_c access_of machine.StackOver = Some StackOver
stop_in_c access_of machine.OutOfTurns = Some OutOfTurns
stop_in_c access_of (machine.Strayed at) = Some (Strayed at)
stop_in_c access_of machine.NoTable = Some NoTable
stop_in_c access_of (machine.NoFrames in_use capacity) = None
stop_in_c access_of machine.ReadFault = None
stop_in_c access_of machine.WriteFault = None
