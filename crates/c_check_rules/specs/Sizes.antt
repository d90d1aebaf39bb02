-- Sizes within the limits: a type has a size where every array in it has a count from 1 to 16,777,216 and a size of at most that, and every
-- struct in it by value is closed. `void` has none.
use Rattle.std.specs.Prelude.{ℕ, ◌*◌, Bool, true, false, ◌&&◌, nat_le, if◌then◌else◌, is_some, min, List, slice_get, Option, None, Some}
use Rattle.c_types.specs.Types.{CType, Void, Int, Pointer, Array, Struct}
use Rattle.c_types.specs.Layouts.{width}
use Rattle.c_types.specs.declared.layout.Layout.{Layout}
use Rattle.c_check_rules.specs.declared.kinds.Layer.{Layer}
use Rattle.c_check_rules.specs.declared.kinds.Layer.TheVariants as l
use Rattle.c_check_rules.specs.declared.names.StructInfo.{StructInfo}

-- the most bytes of a type, and the most elements of an array
abbrev pub limit : ℕ
limit = 16777216

-- so many elements of a size, if they are within the limits
abbrev pub times_in : Option ℕ → ℕ → Option ℕ
times_in None count = None
times_in (Some size) count = if nat_le 1 count && nat_le count limit && nat_le (size * count) limit then Some (size * count) else None

-- the size of a type with this layer around one of that size
abbrev pub layer_size : Layer → Option ℕ → Option ℕ
layer_size l.Pointer size = Some 8
layer_size (l.Array count) size = times_in size count

abbrev pub laid_size : Option Layout → Option ℕ
laid_size None = None
laid_size (Some layout) = Some layout.size

abbrev pub laid_align : Option Layout → ℕ
laid_align None = 1
laid_align (Some layout) = layout.align

abbrev pub laid_of : Option StructInfo → Option Layout
laid_of None = None
laid_of (Some info) = info.laid

abbrev pub scalars_of : Option StructInfo → ℕ
scalars_of None = 0
scalars_of (Some info) = info.scalars

abbrev pub size_in : List StructInfo → CType → Option ℕ
size_in structs Void = None
size_in structs (Int kind) = Some (width kind)
size_in structs (Pointer t) = Some 8
size_in structs (Array t count) = times_in (size_in structs t) count
size_in structs (Struct number) = laid_size (laid_of (slice_get structs number))

abbrev pub is_sized : List StructInfo → CType → Bool
is_sized structs t = is_some (size_in structs t)

abbrev pub layer_align : Layer → ℕ → ℕ
layer_align l.Pointer align = 8
layer_align (l.Array count) align = align

abbrev pub align_in : List StructInfo → CType → ℕ
align_in structs Void = 1
align_in structs (Int kind) = width kind
align_in structs (Pointer t) = 8
align_in structs (Array t count) = align_in structs t
align_in structs (Struct number) = laid_align (laid_of (slice_get structs number))

-- how many scalars a value of a type has, counted to 65
abbrev pub counted : ℕ → ℕ
counted n = min 65 n

abbrev pub layer_scalars : Layer → ℕ → ℕ
layer_scalars l.Pointer scalars = 1
layer_scalars (l.Array count) scalars = counted (scalars * count)

abbrev pub is_array_layer : Layer → Bool
is_array_layer l.Pointer = false
is_array_layer (l.Array count) = true

abbrev pub scalars_in : List StructInfo → CType → ℕ
scalars_in structs Void = 0
scalars_in structs (Int kind) = 1
scalars_in structs (Pointer t) = 1
scalars_in structs (Array t count) = counted (scalars_in structs t * count)
scalars_in structs (Struct number) = counted (scalars_of (slice_get structs number))

-- a type that may stand: its structs are opened, and each array in it has a size
abbrev pub is_within : List StructInfo → CType → Bool
is_within structs Void = true
is_within structs (Int kind) = true
is_within structs (Pointer t) = is_within structs t
is_within structs (Array t count) = is_sized structs (Array t count) && is_within structs t
is_within structs (Struct number) = is_some (slice_get structs number)
