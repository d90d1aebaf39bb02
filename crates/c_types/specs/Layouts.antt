-- Sizes, alignments and the offsets of members, as C's types have them on this machine: a scalar's alignment is its size, the members of a
-- struct stand in order, each at the next multiple of its alignment, and the struct's size is rounded up to its alignment.
use Rattle.std.specs.Prelude.{◌≡◌, ℕ, ◌+◌, ◌-◌, ◌*◌, ◌/◌, ◌<◌, ◌≤◌, List, [], ◌∷◌, ◌==◌, if◌then◌else◌, map, max, slice_index, slice_index_or}
use Rattle.mx_base.specs.declared.numbers.IntKind.{IntKind}
use Rattle.mx_base.specs.declared.numbers.IntKind.TheVariants.{I8, U8, I16, U16, I32, U32, I64, U64}
use Rattle.c_types.specs.declared.shape.TypeId.{TypeId}
use Rattle.c_types.specs.declared.shape.Shape.{Shape}
use Rattle.c_types.specs.declared.shape.Shape.TheVariants as s
use Rattle.c_types.specs.declared.layout.Layout.{Layout}
use Rattle.c_types.specs.Types.{CType, Void, Int, Pointer, Array, Struct, StructType, Types, type_at, structs_of, members_at, IsIn, HasSize}

-- the bytes of an integer
abbrev pub width : IntKind → ℕ
width I8 = 1
width U8 = 1
width I16 = 2
width U16 = 2
width I32 = 4
width U32 = 4
width I64 = 8
width U64 = 8

abbrev pub scalar : ℕ → Layout
scalar bytes = record { size = bytes; align = bytes }

-- of what has no size
abbrev pub no_layout : Layout
no_layout = record { size = 0; align = 1 }

-- the first multiple of `align` that is not below n
abbrev pub next_multiple : ℕ → ℕ → ℕ
next_multiple n align = (n + (align - 1)) / align * align

-- where members stand, from the first byte that is free on
abbrev pub offsets_from : ℕ → List Layout → List ℕ
offsets_from free [] = []
offsets_from free (m ∷ ms) = next_multiple free m.align ∷ offsets_from (next_multiple free m.align + m.size) ms

-- the first byte after all members
abbrev pub end_from : ℕ → List Layout → ℕ
end_from free [] = free
end_from free (m ∷ ms) = end_from (next_multiple free m.align + m.size) ms

-- the greatest alignment of the members
abbrev pub widest : List Layout → ℕ
widest [] = 1
widest (m ∷ ms) = max m.align (widest ms)

abbrev pub struct_layout : List Layout → Layout
struct_layout ms = record { size = next_multiple (end_from 0 ms) (widest ms); align = widest ms }

-- by recursion on the type, where the structs have these layouts
abbrev pub layout_by : (ℕ → Layout) → CType → Layout
layout_by of_struct Void = no_layout
layout_by of_struct (Int kind) = scalar (width kind)
layout_by of_struct (Pointer target) = scalar 8
layout_by of_struct (Array element count) = record { size = (layout_by of_struct element).size * count; align = (layout_by of_struct element).align }
layout_by of_struct (Struct number) = of_struct number

-- the layout of a struct by those that had their members before it
abbrev pub layout_of_struct : List StructType → ℕ → Layout
layout_of_struct [] number = no_layout
layout_of_struct (e ∷ earlier) number = if e.number == number then struct_layout (map (layout_by (layout_of_struct earlier)) e.members) else layout_of_struct earlier number

abbrev pub layout_of : List StructType → CType → Layout
layout_of structs type = layout_by (layout_of_struct structs) type

abbrev pub layout_at : Types → TypeId → Layout
layout_at table t = layout_of (structs_of table) (type_at table t)

abbrev pub size_of : Types → TypeId → ℕ
size_of table t = (layout_at table t).size

abbrev pub align_of : Types → TypeId → ℕ
align_of table t = (layout_at table t).align

-- the layouts of a struct's members, and where they stand
abbrev pub member_layouts : Types → TypeId → List Layout
member_layouts table t = map (layout_of (structs_of table)) (members_at table t)

abbrev pub member_layout : Types → TypeId → ℕ → Layout
member_layout table t member = slice_index_or (member_layouts table t) member no_layout

abbrev pub offset_of : Types → TypeId → ℕ → ℕ
offset_of table t member = slice_index (offsets_from 0 (member_layouts table t)) member

-- what a member or the element of an array may be
abbrev pub CanStand : Types → TypeId → Type 0
CanStand table t = IsIn table t × HasSize table t × (size_of table t ≤ 16777216)

-- what a shape may name: types and structs of the table
abbrev pub CanBuild : Types → Shape → Type 0
CanBuild table s.Void = Unit {0}
CanBuild table (s.Int kind) = Unit {0}
CanBuild table (s.Pointer target) = IsIn table target
CanBuild table (s.Array element count) = CanStand table element × (1 ≤ count) × (count ≤ 16777216)
CanBuild table (s.Struct number) = number < table.begun

-- a table that has more than another says the same of what both have
pub record Extends (old new : Types) : Type 0 where
  pub stays : (t : TypeId) → IsIn old t → IsIn new t × (type_at new t ≡ type_at old t)
  pub laid : (t : TypeId) → IsIn old t → HasSize old t → HasSize new t × (layout_at new t ≡ layout_at old t) × (member_layouts new t ≡ member_layouts old t)
