-- Types as they are kept: pointers and arrays, the outermost first, around a core.
use Rattle.std.specs.Prelude.{ℕ, Bool, true, false, ◌&&◌, ◌==◌, List, [], ◌∷◌}
use Rattle.mx_base.specs.declared.numbers.IntKind.{IntKind}
use Rattle.mx_base.specs.declared.numbers.IntKind.TheVariants.{I8, U8, I16, U16, I32, U32, I64, U64}
use Rattle.c_types.specs.Types.{CType, Void, Int, Pointer, Array, Struct}
use Rattle.c_check_rules.specs.declared.kinds.Core.{Core}
use Rattle.c_check_rules.specs.declared.kinds.Core.TheVariants as c
use Rattle.c_check_rules.specs.declared.kinds.Layer.{Layer}
use Rattle.c_check_rules.specs.declared.kinds.Layer.TheVariants as l
use Rattle.c_check_rules.specs.declared.kinds.Outer.{Outer}
use Rattle.c_check_rules.specs.declared.kinds.Outer.TheVariants as o

abbrev pub core_kind : Core → CType
core_kind c.Void = Void
core_kind (c.Int kind) = Int kind
core_kind (c.Struct number) = Struct number

abbrev pub layered : Layer → CType → CType
layered l.Pointer t = Pointer t
layered (l.Array count) t = Array t count

abbrev pub shaped : Core → List Layer → CType
shaped core [] = core_kind core
shaped core (layer ∷ more) = layered layer (shaped core more)

-- the outermost form of a type
abbrev pub outer_of : CType → Outer
outer_of Void = o.Void
outer_of (Int kind) = o.Int kind
outer_of (Pointer t) = o.Pointer
outer_of (Array t count) = o.Array count
outer_of (Struct number) = o.Struct number

-- what a pointer points to, or an array has as elements
abbrev pub inner_of : CType → CType
inner_of Void = Void
inner_of (Int kind) = Int kind
inner_of (Pointer t) = t
inner_of (Array t count) = t
inner_of (Struct number) = Struct number

abbrev pub core_of : CType → Core
core_of Void = c.Void
core_of (Int kind) = c.Int kind
core_of (Pointer t) = core_of t
core_of (Array t count) = core_of t
core_of (Struct number) = c.Struct number

-- the integers of C in order
abbrev pub place_of : IntKind → ℕ
place_of I8 = 0
place_of U8 = 1
place_of I16 = 2
place_of U16 = 3
place_of I32 = 4
place_of U32 = 5
place_of I64 = 6
place_of U64 = 7

abbrev pub same_integers : IntKind → IntKind → Bool
same_integers k l = place_of k == place_of l

abbrev pub same_layer : Layer → Layer → Bool
same_layer l.Pointer l.Pointer = true
same_layer l.Pointer (l.Array m) = false
same_layer (l.Array n) l.Pointer = false
same_layer (l.Array n) (l.Array m) = n == m

-- two types are the same where they are built alike
abbrev pub same_kinds : CType → CType → Bool
same_kinds Void Void = true
same_kinds Void (Int l) = false
same_kinds Void (Pointer b) = false
same_kinds Void (Array b m) = false
same_kinds Void (Struct m) = false
same_kinds (Int k) Void = false
same_kinds (Int k) (Int l) = same_integers k l
same_kinds (Int k) (Pointer b) = false
same_kinds (Int k) (Array b m) = false
same_kinds (Int k) (Struct m) = false
same_kinds (Pointer a) Void = false
same_kinds (Pointer a) (Int l) = false
same_kinds (Pointer a) (Pointer b) = same_kinds a b
same_kinds (Pointer a) (Array b m) = false
same_kinds (Pointer a) (Struct m) = false
same_kinds (Array a n) Void = false
same_kinds (Array a n) (Int l) = false
same_kinds (Array a n) (Pointer b) = false
same_kinds (Array a n) (Array b m) = (n == m) && same_kinds a b
same_kinds (Array a n) (Struct m) = false
same_kinds (Struct n) Void = false
same_kinds (Struct n) (Int l) = false
same_kinds (Struct n) (Pointer b) = false
same_kinds (Struct n) (Array b m) = false
same_kinds (Struct n) (Struct m) = n == m
