-- The scalars of which a type consists, in order of their offsets.
use Rattle.std.specs.Prelude.{ℕ, zero, suc, ◌+◌, ◌==◌, if◌then◌else◌, None, Some, List, [], ◌∷◌, ◌++◌, map}
use Rattle.c_types.specs.declared.layout.Layout.{Layout}
use Rattle.c_types.specs.Types.{CType, Void, Int, Pointer, Array, Struct, StructType}
use Rattle.c_types.specs.Layouts.{layout_by, layout_of_struct, offsets_from}
use Rattle.bounds_plan.specs.meaning.Core.{Scalar}

abbrev pub scalar_at : ℕ → Scalar → Scalar
scalar_at offset x = record { offset = offset + x.offset; kind = x.kind }

-- those of `count` elements of this size from an offset on
abbrev pub repeated : (count offset size : ℕ) → List Scalar → List Scalar
repeated zero offset size element = []
repeated (suc n) offset size element = map (scalar_at offset) element ++ repeated n (offset + size) size element

-- those of members that stand at these offsets
abbrev pub joined_at : List ℕ → List (List Scalar) → List Scalar
joined_at [] members = []
joined_at (o ∷ os) [] = []
joined_at (o ∷ os) (m ∷ ms) = map (scalar_at o) m ++ joined_at os ms

-- by recursion on the type, where the structs have these layouts and scalars
abbrev pub scalars_by : (ℕ → Layout) → (ℕ → List Scalar) → CType → List Scalar
scalars_by laid of_struct Void = []
scalars_by laid of_struct (Int kind) = record { offset = 0; kind = Some kind } ∷ []
scalars_by laid of_struct (Pointer target) = record { offset = 0; kind = None } ∷ []
scalars_by laid of_struct (Array element count) = repeated count 0 (layout_by laid element).size (scalars_by laid of_struct element)
scalars_by laid of_struct (Struct number) = of_struct number

abbrev pub scalars_of_struct : List StructType → ℕ → List Scalar
scalars_of_struct [] number = []
scalars_of_struct (e ∷ earlier) number = if e.number == number
    then joined_at (offsets_from 0 (map (layout_by (layout_of_struct earlier)) e.members)) (map (scalars_by (layout_of_struct earlier) (scalars_of_struct earlier)) e.members)
    else scalars_of_struct earlier number

abbrev pub scalars_of : List StructType → CType → List Scalar
scalars_of structs type = scalars_by (layout_of_struct structs) (scalars_of_struct structs) type
