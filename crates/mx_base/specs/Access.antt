-- An access of C or of legacy code to bytes that no bounds forbid: it is judged by the seals first, and then by the regions.
use Rattle.std.specs.Prelude.{ℕ, Bool, not, Option, None, Some, if◌then◌else◌}
use Rattle.mx_base.specs.Regions.{is_sealed, is_open_to_read, is_open_to_write}
use Rattle.mx_base.specs.Memory.{first_refused_around}

-- why it is not done: the first byte of it that is sealed, or else the first that no region allows
pub data Refusal : Type 0 where
  Strays : (at : ℕ) → Refusal
  Misses : (at : ℕ) → Refusal

abbrev pub refused_at : Option ℕ → Option ℕ → Option Refusal
refused_at (Some x) missing = Some (Strays x)
refused_at None (Some x) = Some (Misses x)
refused_at None None = None

-- how the read or write of n bytes at a is refused, if it is
unfoldable pub refusal : Bool → ℕ → ℕ → Option Refusal
refusal write n a = refused_at (first_refused_around (λ x. not (is_sealed x)) n a)
    (first_refused_around (λ x. if write then is_open_to_write x else is_open_to_read x) n a)
