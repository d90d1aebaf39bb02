-- The bounds of a member of a struct.
use Rattle.std.specs.Prelude.{ℕ, Bool, ◌||◌, ◌&&◌, not, if◌then◌else◌}
use Rattle.mx_base.specs.declared.limits.Bounds.{Bounds}
use Rattle.mx_base.specs.declared.settings.Flags.{Flags}
use Rattle.mx_base.specs.Bounds.{met, moved, bounds_at}
use Rattle.narrowing.specs.declared.member.Rule.{Rule}
use Rattle.narrowing.specs.declared.member.Rule.TheVariants.{Keep, Meet}

-- the bytes of a part, a member or an element, of this size at this offset from the address p, modulo 2^64
abbrev pub part_bytes : (offset size p : ℕ) → Bounds
part_bytes offset size p = bounds_at (moved p offset) size

-- a member keeps the bounds of its struct where narrowing is off, if it is the first one and has no bounds of its own, and if it is a
-- trailing array, which is the last member, and such arrays are flexible
abbrev pub member_keeps : Flags → (first trailing : Bool) → Bool
member_keeps flags first trailing = not flags.narrow || (first && not flags.first_own) || (trailing && flags.flexible)

-- the bounds of the address of a member, where the address p of its struct has the bounds b: those, or those met with the member's bytes
unfoldable pub member_bounds : Flags → (first trailing : Bool) → (offset size : ℕ) → (p : ℕ) → Bounds → Bounds
member_bounds flags first trailing offset size p b = if member_keeps flags first trailing then b else met b (part_bytes offset size p)

-- the rule that does so for every address and all bounds
abbrev pub member_rule : Flags → (first trailing : Bool) → (offset size : ℕ) → Rule
member_rule flags first trailing offset size = if member_keeps flags first trailing then Keep else Meet offset size

-- what a rule makes of the bounds b of the address p
abbrev pub bounds_by : Rule → ℕ → Bounds → Bounds
bounds_by Keep p b = b
bounds_by (Meet offset size) p b = met b (part_bytes offset size p)
