-- The bounds of an element of an array.
use Rattle.std.specs.Prelude.{ℕ, Bool, ◌&&◌, if◌then◌else◌}
use Rattle.mx_base.specs.declared.limits.Bounds.{Bounds}
use Rattle.mx_base.specs.declared.settings.Flags.{Flags}
use Rattle.mx_base.specs.Bounds.{met}
use Rattle.narrowing.specs.declared.member.Rule.{Rule}
use Rattle.narrowing.specs.declared.member.Rule.TheVariants.{Keep, Meet}
use Rattle.narrowing.specs.Member.{part_bytes}

-- an element has bounds of its own if it is nested, which is an array itself, and narrowing goes to the innermost array
abbrev pub element_meets : Flags → (nested : Bool) → Bool
element_meets flags nested = nested && flags.narrow && flags.innermost

-- the bounds of the address of an element, where the address p of its array has the bounds b: those, or those met with the element's bytes
unfoldable pub element_bounds : Flags → (nested : Bool) → (offset size : ℕ) → (p : ℕ) → Bounds → Bounds
element_bounds flags nested offset size p b = if element_meets flags nested then met b (part_bytes offset size p) else b

-- the rule that does so for every address and all bounds
abbrev pub element_rule : Flags → (nested : Bool) → (offset size : ℕ) → Rule
element_rule flags nested offset size = if element_meets flags nested then Meet offset size else Keep
