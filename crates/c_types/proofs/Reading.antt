-- What a sound table says of a type, and that a table that grows says the same of what it had.
use Rattle.std.proofs.Common.{◌≡◌, ℕ, ◌<◌, true, false, List, [], ◌∷◌, map, length, get_or, refl, ap, sym, ◌∙◌, subst, arith, Option, Some, slice_get}
use Rattle.std.proofs.lemmas.List.{length_push, get_or-map}
use Rattle.std.proofs.lemmas.Option.{slice_get_within, get_or_from_slice_get, slice_get-map}
use Rattle.std.specs.Borrow.{Bor}
use Rattle.std.specs.Option.{option_map}
use Rattle.std.specs.Map.{keys_of, values_of}
use Rattle.std.specs.Map.Iter.{deref_pair}
use Rattle.c_types.specs.declared.shape.TypeId.{TypeId}
use Rattle.c_types.specs.declared.shape.Shape.{Shape}
use Rattle.c_types.specs.declared.shape.Shape.TheVariants as s
use Rattle.c_types.specs.declared.layout.Layout.{Layout}
use Rattle.c_types.specs.declared.layout.StructLayout.{StructLayout}
use Rattle.c_types.specs.Types.{CType, Void, Int, Pointer, Array, Struct, StructType, Types, built, types_of, type_at, structs_of, is_ended, members_of, members_in, has_size, IsIn}
use Rattle.c_types.specs.Layouts.{layout_of, CanBuild, Extends}
use Rattle.c_types.specs.Sound.{NamesBelow, IsWithinLimits, kept_of, IsSound}
use Rattle.c_types.proofs.TypeLists.{length-types_of, type-stays, type-built}
use Rattle.c_types.proofs.LayoutLemmas.{has_size-sized, members-stay, layout-stays, has_size-stays, all-layouts-stay, members-sized}
use Rattle.c_types.proofs.Growth.{with_shape, with_begun, with_members, structs-same, sized-at, elements-at}

-- ---- one table
-- what the place of an entry has, as a shape and as a layout
pub entry-at : (entries : List (Shape × Layout)) (i : ℕ) (r : Option (Bor Shape × Bor Layout)) (x : Bor Shape × Bor Layout) → option_map deref_pair r ≡ slice_get entries i → r ≡ Some x
    → (slice_get (keys_of entries) i ≡ Some x.0.now) × (slice_get (values_of entries) i ≡ Some x.1.now)
entry-at entries i r x at is =
    let here : Some (x.0.now, x.1.now) ≡ slice_get entries i = sym (ap (option_map deref_pair) is) ∙ at in (
      slice_get-map (λ (e : Shape × Layout). e.0) entries i ∙ ap (option_map (λ (e : Shape × Layout). e.0)) (sym here),
      slice_get-map (λ (e : Shape × Layout). e.1) entries i ∙ ap (option_map (λ (e : Shape × Layout). e.1)) (sym here),
    )

-- the type of a number is that of its shape
pub type-of-shape : (table : Types) (kept : List Layout) (structs : List (Option StructLayout)) (t : TypeId) (shape : Shape) → IsSound table kept structs → slice_get table.shapes t.0 ≡ Some shape → type_at table t ≡ built (type_at table) shape
type-of-shape table kept structs t shape sound at =
    let inside : t.0 < length table.shapes = slice_get_within table.shapes t.0 shape at in
    let is : get_or table.shapes t.0 shape ≡ shape = get_or_from_slice_get table.shapes t.0 shape shape at in
    type-built table.begun table.shapes t.0 shape sound.names inside ∙ ap (built (type_at table)) is

-- a shape of the table could be built again
pub can-build : (table : Types) (kept : List Layout) (structs : List (Option StructLayout)) (t : TypeId) (shape : Shape) → IsSound table kept structs → slice_get table.shapes t.0 ≡ Some shape → CanBuild table shape
can-build table kept structs t shape sound at =
    let inside : t.0 < length table.shapes = slice_get_within table.shapes t.0 shape at in
    let is : get_or table.shapes t.0 shape ≡ shape = get_or_from_slice_get table.shapes t.0 shape shape at in
    by inside shape (subst (NamesBelow table.begun t.0) is (sound.names t.0 shape inside))
    (subst (IsWithinLimits (structs_of table)) (type-of-shape table kept structs t shape sound at) (elements-at table (structs_of table) t sound.elements inside))
  where
    by : IsIn table t → (shape : Shape) → NamesBelow table.begun t.0 shape → IsWithinLimits (structs_of table) (built (type_at table) shape) → CanBuild table shape
    by inside s.Void below limits = tt
    by inside (s.Int kind) below limits = tt
    by inside (s.Pointer target) below limits = omega arith
    by inside (s.Array element count) below limits = ((omega arith, has_size-sized (structs_of table) (type_at table element) limits.0, limits.1), limits.2, limits.3)
    by inside (s.Struct number) below limits = below

-- ---- a table that grows
module _ (table : Types) (kept : List Layout) (structs : List (Option StructLayout)) (sound : IsSound table kept structs) where
  pub extends-itself : Extends table table
  extends-itself = record { stays = λ t h. (h, refl); laid = λ t h has. (has, refl, refl) }

  pub extends-begun : Extends table (with_begun table)
  extends-begun = record { stays = λ t h. (h, refl); laid = λ t h has. (has, refl, refl) }

  pub extends-shape : (shape : Shape) → Extends table (with_shape table shape)
  extends-shape shape =
      let same : structs_of (with_shape table shape) ≡ structs_of table = structs-same table shape sound.ended_in in
      record {
        stays = λ t h. (omega (arith, length_push table.shapes shape), type-stays table.shapes (shape ∷ []) t.0 h);
        laid = λ t h has.
            let type : type_at (with_shape table shape) t ≡ type_at table t = type-stays table.shapes (shape ∷ []) t.0 h in (
              (λ i. has_size (same i) (type i)) ∙ has,
              (λ i. layout_of (same i) (type i)),
              (λ i. map (layout_of (same i)) (members_in (same i) (type i))),
            );
      }

  members-in-stay : (e : StructType) → is_ended (structs_of table) e.number ≡ false → (c : CType) → has_size (structs_of table) c ≡ true
      → map (layout_of (e ∷ structs_of table)) (members_in (e ∷ structs_of table) c) ≡ map (layout_of (structs_of table)) (members_in (structs_of table) c)
  members-in-stay e absent Void has = refl
  members-in-stay e absent (Int kind) has = refl
  members-in-stay e absent (Pointer target) has = refl
  members-in-stay e absent (Array element count) has = refl
  members-in-stay e absent (Struct number) has =
      ap (map (layout_of (e ∷ structs_of table))) (members-stay e (structs_of table) absent number has)
      ∙ all-layouts-stay e (structs_of table) absent (members_of (structs_of table) number) (members-sized (structs_of table) number sound.ended has)

  pub extends-members : (number : ℕ) (members : List TypeId) → is_ended (structs_of table) number ≡ false → Extends table (with_members table number members)
  extends-members number members absent =
      let e : StructType = record { number = number; members = map (type_at table) members } in
      record {
        stays = λ t h. (h, refl);
        laid = λ t h has. (
          has_size-stays e (structs_of table) absent (type_at table t) has,
          layout-stays e (structs_of table) absent (type_at table t) (sized-at table t sound.elements h has),
          members-in-stay e absent (type_at table t) has,
        );
      }

  -- what is kept with a type that is no struct is its layout
  pub kept-at : (t : TypeId) (l : Layout) → IsIn table t → slice_get kept t.0 ≡ Some l → l ≡ kept_of (structs_of table) (type_at table t)
  kept-at t l inside at =
      let is : get_or kept t.0 l ≡ l = get_or_from_slice_get kept t.0 l l at in
      let long : t.0 < length (types_of table.shapes) = omega (arith, length-types_of table.shapes) in
      sym is ∙ ap (λ ks. get_or ks t.0 l) sound.kept_is ∙ get_or-map (kept_of (structs_of table)) (types_of table.shapes) t.0 Void l long
