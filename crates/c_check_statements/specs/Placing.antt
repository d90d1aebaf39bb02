-- Where things stand one after another, each at the next multiple of its alignment, as long as they end within a limit.
use Rattle.std.specs.Prelude.{ℕ, ◌+◌, nat_le, if◌then◌else◌, max, List, [], ◌∷◌, Option, None, Some}
use Rattle.c_types.specs.Types.{CType}
use Rattle.c_types.specs.Layouts.{next_multiple}
use Rattle.c_types.specs.declared.layout.Layout.{Layout}
use Rattle.c_check_rules.specs.declared.names.StructInfo.{StructInfo}
use Rattle.c_check_rules.specs.Sizes.{size_in, align_in}

-- the first byte after what comes next; None where that is over the limit
abbrev pub placed : (most free size align : ℕ) → Option ℕ
placed most free size align = if nat_le (next_multiple free align + size) most then Some (next_multiple free align + size) else None

abbrev pub placed_after : (most : ℕ) → Option ℕ → (size align : ℕ) → Option ℕ
placed_after most None size align = None
placed_after most (Some free) size align = placed most free size align

-- a type without a size has no bytes
abbrev pub or_nothing : Option ℕ → ℕ
or_nothing None = 0
or_nothing (Some n) = n

abbrev pub kind_placed : (most : ℕ) → List StructInfo → Option ℕ → CType → Option ℕ
kind_placed most structs free kind = placed_after most free (or_nothing (size_in structs kind)) (align_in structs kind)

-- ---- structs

abbrev pub from_start : Option ℕ
from_start = Some 0

-- the first byte after members of these types, and their greatest alignment
abbrev pub members_placed : List StructInfo → (most : ℕ) → Option ℕ → List CType → Option ℕ
members_placed structs most free [] = free
members_placed structs most free (kind ∷ more) = members_placed structs most (kind_placed most structs free kind) more

abbrev pub members_align : List StructInfo → (align : ℕ) → List CType → ℕ
members_align structs align [] = align
members_align structs align (kind ∷ more) = members_align structs (max align (align_in structs kind)) more

abbrev pub sized : Option ℕ → (align : ℕ) → Option Layout
sized None align = None
sized (Some size) align = Some (record { size = size; align = align })

-- the layout of a struct whose members have these types: they stand in order, and its size is rounded up to its alignment; None where that is
-- over the limit
abbrev pub struct_laid : (most : ℕ) → List StructInfo → List CType → Option Layout
struct_laid most structs kinds = sized (placed_after most (members_placed structs most from_start kinds) 0 (members_align structs 1 kinds)) (members_align structs 1 kinds)
