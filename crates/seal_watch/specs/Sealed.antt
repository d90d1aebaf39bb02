-- The first sealed address from another on, and the first sealed byte of an access in two halves.
use Rattle.std.specs.Prelude.{◌≡◌, ℕ, ◌-◌, ◌<◌, ◌≤◌, min, Bool, true, false, not, Option, None, Some}
use Rattle.mx_base.specs.Bounds.{addresses}
use Rattle.mx_base.specs.Memory.{first_refused}
use Rattle.mx_base.specs.Regions.{is_sealed}
use Rattle.x86_forms.specs.declared.spans.Span.{Span}

pub record IsFirstSealedFrom (a x : ℕ) : Type 0 where
  pub from : a ≤ x
  pub sealed : is_sealed x ≡ true
  pub before : (y : ℕ) → a ≤ y → y < x → is_sealed y ≡ false

-- the first sealed address from a on, or none
abbrev pub IsNextSealed : ℕ → Option ℕ → Type 0
IsNextSealed a None = (y : ℕ) → a ≤ y → is_sealed y ≡ false
IsNextSealed a (Some x) = IsFirstSealedFrom a x

abbrev pub is_unsealed : ℕ → Bool
is_unsealed a = not (is_sealed a)

-- the first sealed one of the bytes of an access up to the last address
unfoldable pub sealed_low : Span → Option ℕ
sealed_low s = first_refused is_unsealed (min s.size (addresses - s.at)) s.at

-- the same of its bytes from address 0 on, past the last one
unfoldable pub sealed_high : Span → Option ℕ
sealed_high s = first_refused is_unsealed (s.size - (addresses - s.at)) 0
