-- Memories with the same code.
use Rattle.std.specs.Prelude.{◌≡◌, ℕ, true}
use Rattle.mx_base.specs.Memory.{Bytes}
use Rattle.mx_base.specs.Regions.{is_executable}

-- each byte that can be executed is as it was
abbrev pub SameCode : Bytes → Bytes → Type 0
SameCode before after = (a : ℕ) → is_executable a ≡ true → after a ≡ before a
