-- A place for one file.
use Rattle.std.specs.Prelude.{ℕ, false, []}
use Rattle.mx_base.specs.Shelf.{HeldFile}

-- the file, and how many bytes it may have
pub record SlotState : Type 0 where
  pub file : HeldFile
  pub each : ℕ

abbrev pub empty_slot : ℕ → SlotState
empty_slot each = record { file = record { name = []; bytes = []; told = false }; each = each }
