-- What may be a member stays so as a table grows.
use Rattle.std.proofs.Common.{◌≡◌, ◌≤◌, List, [], ◌∷◌, ◌++◌, Some, slice_get, ap, sym, subst, arith}
use Rattle.std.proofs.lemmas.Option.{slice_get_within}
use Rattle.std.proofs.lemmas.List.Elements.{All-weaker, All-push}
use Rattle.std.specs.List.{All}
use Rattle.mx_base.specs.declared.numbers.IntKind.{IntKind}
use Rattle.mx_base.specs.declared.numbers.IntKind.TheVariants.{I8, U8, I16, U16, I32, U32, I64, U64}
use Rattle.c_types.specs.declared.shape.TypeId.{TypeId}
use Rattle.c_types.specs.declared.shape.Shape.{Shape}
use Rattle.c_types.specs.declared.layout.Layout.{Layout}
use Rattle.c_types.specs.Types.{CType, Int, Pointer, Types, type_at, structs_of, has_size}
use Rattle.c_types.specs.Layouts.{width, layout_of, CanStand, Extends}

pub stands-stay : (old new : Types) → Extends old new → (t : TypeId) → CanStand old t → CanStand new t
stands-stay old new h t can =
    let laid = h.laid t can.0 can.1 in
    ((h.stays t can.0).0, laid.0, subst (λ (l : Layout). l.size ≤ 16777216) (sym laid.1) can.2)

narrow : (kind : IntKind) → width kind ≤ 16777216
narrow I8 = omega arith
narrow U8 = omega arith
narrow I16 = omega arith
narrow U16 = omega arith
narrow I32 = omega arith
narrow U32 = omega arith
narrow I64 = omega arith
narrow U64 = omega arith

pub integer-stands : (table : Types) (t : TypeId) (shape : Shape) (kind : IntKind) → slice_get table.shapes t.0 ≡ Some shape → type_at table t ≡ Int kind → CanStand table t
integer-stands table t shape kind at is = (
  slice_get_within table.shapes t.0 shape at,
  ap (has_size (structs_of table)) is,
  subst (λ (l : Layout). l.size ≤ 16777216) (sym (ap (layout_of (structs_of table)) is)) (narrow kind),
)

pub pointer-stands : (table : Types) (t : TypeId) (shape : Shape) (target : CType) → slice_get table.shapes t.0 ≡ Some shape → type_at table t ≡ Pointer target → CanStand table t
pointer-stands table t shape target at is = (
  slice_get_within table.shapes t.0 shape at,
  ap (has_size (structs_of table)) is,
  subst (λ (l : Layout). l.size ≤ 16777216) (sym (ap (layout_of (structs_of table)) is)) (omega arith),
)

pub one-more-stands : (old new : Types) (members : List TypeId) (t : TypeId) (shape : Shape) (kind : IntKind) → Extends old new → slice_get new.shapes t.0 ≡ Some shape → type_at new t ≡ Int kind
    → All (CanStand old) members → All (CanStand new) (members ++ t ∷ [])
one-more-stands old new members t shape kind h at is all =
    All-push (CanStand new) members t (All-weaker (CanStand old) (CanStand new) (stands-stay old new h) members all) (integer-stands new t shape kind at is)
