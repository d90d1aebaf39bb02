-- The steps of a table's fields.
use Rattle.std.proofs.Common.{◌≡◌, ℕ, ◌<◌, false, List, [], ◌∷◌, ◌++◌, map, reverse, length, set, refl, ap, sym, ◌∙◌, subst, arith, Option, None, Some, slice_get, eqb, cond, ◌||◌, true}
use Rattle.std.proofs.lemmas.List.{length_push, get_or_push, length-set, map_push, reverse-append}
use Rattle.std.proofs.lemmas.Option.{slice_get-get_or}
use borrow.Author.Tests.{eq-eqb}
use Rattle.std.proofs.lemmas.List.Elements.{recursion_from_All}
use Rattle.std.specs.List.{AllByRecursion, All}
use Rattle.indexmap.specs.IndexMap.{insert_entry}
use Rattle.c_types.specs.Shapes.{is_same}
use Rattle.c_types.proofs.ShapeKeys.{insert-new}
use Rattle.c_types.proofs.Reading.{type-of-shape, extends-shape, extends-members}
use Rattle.std.specs.Map.{keys_of, values_of}
use Rattle.c_types.specs.declared.shape.TypeId.{TypeId}
use Rattle.c_types.specs.declared.shape.Shape.{Shape}
use Rattle.c_types.specs.declared.layout.Layout.{Layout}
use Rattle.c_types.specs.declared.layout.StructLayout.{StructLayout}
use Rattle.c_types.specs.Types.{Ended, Types, IsNew, built, type_at, structs_of, is_ended, is_given, members_of, members_in, members_at, has_size, HasSize, Struct, CType, StructType}
use Rattle.c_types.specs.Layouts.{layout_of, layout_at, struct_layout, offsets_from, CanStand, CanBuild, Extends}
use Rattle.c_types.specs.Sound.{table_of, kept_of, IsSound}
use Rattle.c_types.proofs.Growth.{absent-from, with_shape, with_begun, with_members, sound-shape, sound-begun, sound-members}

module _ (entries : List (Shape × Layout)) (structs : List (Option StructLayout)) (ended : List Ended) (sound : IsSound (table_of entries structs ended) (values_of entries) structs) where
  abbrev table : Types
  table = table_of entries structs ended

  begun-is : table_of entries (structs ++ None ∷ []) ended ≡ with_begun table
  begun-is = ap (λ n. let t : Types = record { shapes = keys_of entries; begun = n; ended = reverse ended } in t) (length_push structs None)

  pub step-begun : IsSound (table_of entries (structs ++ None ∷ []) ended) (values_of entries) (structs ++ None ∷ [])
  step-begun = subst (λ t. IsSound t (values_of entries) (structs ++ None ∷ [])) (sym begun-is) (sound-begun table (values_of entries) structs refl sound)

  pub shape-is : (shape : Shape) (l : Layout) → table_of (entries ++ (shape, l) ∷ []) structs ended ≡ with_shape table shape
  shape-is shape l = ap (λ ss. let t : Types = record { shapes = ss; begun = length structs; ended = reverse ended } in t) (map_push (λ e. e.0) entries (shape, l))

  pub step-shape : (shape : Shape) (l : Layout) → CanBuild table shape → IsNew (keys_of entries) shape → l ≡ kept_of (structs_of table) (built (type_at table) shape)
      → IsSound (table_of (entries ++ (shape, l) ∷ []) structs ended) (values_of (entries ++ (shape, l) ∷ [])) structs
  step-shape shape l can fresh is =
      let moved : IsSound (with_shape table shape) (values_of entries ++ l ∷ []) structs =
      subst (λ k. IsSound (with_shape table shape) (values_of entries ++ k ∷ []) structs) (sym is) (sound-shape table (values_of entries) structs shape sound can fresh) in
      subst (λ t. IsSound t (values_of (entries ++ (shape, l) ∷ [])) structs) (sym (shape-is shape l))
      (subst (λ ks. IsSound (with_shape table shape) ks structs) (sym (map_push (λ e. e.1) entries (shape, l))) moved)

  members-is : (e : Ended) (o : Option StructLayout) → table_of entries (set structs e.number o) (ended ++ e ∷ []) ≡ with_members table e.number e.members
  members-is e o = λ i. record { shapes = keys_of entries; begun = length-set structs e.number o i; ended = reverse-append ended (e ∷ []) i }

  pub step-members : (e : Ended) (laid : StructLayout) → e.number < length structs → is_ended (structs_of table) e.number ≡ false → AllByRecursion (CanStand table) e.members
      → laid.layout ≡ struct_layout (map (layout_at table) e.members) → laid.offsets.items ≡ offsets_from 0 (map (layout_at table) e.members)
      → IsSound (table_of entries (set structs e.number (Some laid)) (ended ++ e ∷ [])) (values_of entries) (set structs e.number (Some laid))
  step-members e laid begun absent can layout offsets =
      subst (λ t. IsSound t (values_of entries) (set structs e.number (Some laid))) (sym (members-is e (Some laid)))
      (sound-members table (values_of entries) structs e.number e.members laid refl sound begun absent can
      (layout ∙ ap struct_layout (same e.members)) (offsets ∙ ap (offsets_from 0) (same e.members)))
    where
      same : (ms : List TypeId) → map (layout_at table) ms ≡ map (layout_of (structs_of table)) (map (type_at table) ms)
      same [] = refl
      same (m ∷ ms) = λ i. layout_at table m ∷ same ms i

last-shape : (shapes : List Shape) (shape : Shape) (t : ℕ) → t ≡ length shapes → slice_get (shapes ++ shape ∷ []) t ≡ Some shape
last-shape shapes shape t long =
    slice_get-get_or (shapes ++ shape ∷ []) t shape (omega (arith, length_push shapes shape)) ∙ ap Some (get_or_push shapes shape shape t (sym long))

-- what a table says once a shape is added
pub record IsAdded (new : List (Shape × Layout)) (structs : List (Option StructLayout)) (ended : List Ended) (now : Types) (shape : Shape) : Type 0 where
  pub sound : IsSound (table_of new structs ended) (values_of new) structs
  pub is : table_of new structs ended ≡ with_shape now shape
  pub means : (t : ℕ) → t ≡ length now.shapes → type_at (table_of new structs ended) (record { 0 = t }) ≡ built (type_at (table_of new structs ended)) shape
  pub extends : Extends now (table_of new structs ended)

module _ (entries : List (Shape × Layout)) (structs : List (Option StructLayout)) (ended : List Ended) (sound : IsSound (table_of entries structs ended) (values_of entries) structs) (shape : Shape) (l : Layout) where
  added-here : CanBuild (table_of entries structs ended) shape → IsNew (keys_of entries) shape → l ≡ kept_of (structs_of (table_of entries structs ended)) (built (type_at (table_of entries structs ended)) shape)
      → IsAdded (entries ++ (shape, l) ∷ []) structs ended (table_of entries structs ended) shape
  added-here can fresh kept =
      let new = step-shape entries structs ended sound shape l can fresh kept in
      let is = shape-is entries structs ended sound shape l in
      record {
        sound = new;
        is = is;
        means = λ t long.
            let at : slice_get (keys_of (entries ++ (shape, l) ∷ [])) t ≡ Some shape =
            subst (λ ss. slice_get ss t ≡ Some shape) (sym (ap (λ (t : Types). t.shapes) is)) (last-shape (keys_of entries) shape t long) in
            type-of-shape (table_of (entries ++ (shape, l) ∷ []) structs ended) (values_of (entries ++ (shape, l) ∷ [])) structs (record { 0 = t }) shape new at;
        extends = subst (Extends (table_of entries structs ended)) (sym is) (extends-shape (table_of entries structs ended) (values_of entries) structs sound shape);
      }

  pub added : (new : List (Shape × Layout)) (now : Types) → table_of entries structs ended ≡ now → CanBuild now shape → IsNew now.shapes shape
      → l ≡ kept_of (structs_of now) (built (type_at now) shape) → new ≡ insert_entry is_same entries shape l → IsAdded new structs ended now shape
  added new now view can fresh kept inserted =
      subst (λ now. CanBuild now shape → IsNew now.shapes shape → l ≡ kept_of (structs_of now) (built (type_at now) shape) → IsAdded new structs ended now shape) view
      (λ can fresh kept. subst (λ n. IsAdded n structs ended (table_of entries structs ended) shape) (sym (inserted ∙ insert-new entries shape l fresh)) (added-here can fresh kept))
      can fresh kept

given-ended : (at : TypeId → CType) (es : List Ended) (number : ℕ) → is_given es number ≡ is_ended (map (λ (e : Ended). let s : StructType = record { number = e.number; members = map at e.members } in s) es) number
given-ended at [] number = refl
given-ended at (e ∷ es) number = ap (λ b. eqb e.number number || b) (given-ended at es number)

-- whether a struct was given its members, as the types of structs tell it
pub given-is : (table : Types) (number : ℕ) → is_given table.ended number ≡ is_ended (structs_of table) number
given-is table number = given-ended (type_at table) table.ended number

-- a struct that was just begun is open
pub open-begun : (table : Types) (kept : List Layout) (structs : List (Option StructLayout)) → IsSound table kept structs → is_given table.ended table.begun ≡ false
open-begun table kept structs sound = given-is table table.begun ∙ absent-from table.begun (length table.shapes) table table.ended table.begun sound.ended_in (omega arith)

-- a struct that was just given its members has them
module _ (table : Types) (number : ℕ) (members : List TypeId) where
  itself : eqb number number ≡ true
  itself = eq-eqb number number refl

  pub sized-given : (t : TypeId) → type_at table t ≡ Struct number → HasSize (with_members table number members) t
  sized-given t is = ap (has_size (structs_of (with_members table number members))) is ∙ ap (λ b. b || is_ended (structs_of table) number) itself

  pub members-given : (t : TypeId) → type_at table t ≡ Struct number → members_at (with_members table number members) t ≡ map (type_at table) members
  members-given t is = ap (members_in (structs_of (with_members table number members))) is ∙ ap (λ b. cond b (map (type_at table) members) (members_of (structs_of table) number)) itself

-- what a table says once a struct is given its members
pub record IsGiven (entries : List (Shape × Layout)) (structs : List (Option StructLayout)) (ended : List Ended) (now : Types) (number : ℕ) (members : List TypeId) : Type 0 where
  pub sound : IsSound (table_of entries structs ended) (values_of entries) structs
  pub extends : Extends now (table_of entries structs ended)
  pub sized : (t : TypeId) → type_at (table_of entries structs ended) t ≡ Struct number → HasSize (table_of entries structs ended) t
  pub has_members : (t : TypeId) → type_at (table_of entries structs ended) t ≡ Struct number → members_at (table_of entries structs ended) t ≡ map (type_at (table_of entries structs ended)) members

module _ (entries : List (Shape × Layout)) (structs : List (Option StructLayout)) (ended : List Ended) (sound : IsSound (table_of entries structs ended) (values_of entries) structs) (laid : StructLayout) where
  given-here : (e : Ended) → e.number < length structs → is_ended (structs_of (table_of entries structs ended)) e.number ≡ false → All (CanStand (table_of entries structs ended)) e.members
      → laid.layout ≡ struct_layout (map (layout_at (table_of entries structs ended)) e.members) → laid.offsets.items ≡ offsets_from 0 (map (layout_at (table_of entries structs ended)) e.members)
      → IsGiven entries (set structs e.number (Some laid)) (ended ++ e ∷ []) (table_of entries structs ended) e.number e.members
  given-here e begun absent can layout offsets = record {
    sound = step-members entries structs ended sound e laid begun absent (recursion_from_All (CanStand (table_of entries structs ended)) e.members can) layout offsets;
    extends = subst (Extends (table_of entries structs ended)) (sym (members-is entries structs ended sound e (Some laid)))
        (extends-members (table_of entries structs ended) (values_of entries) structs sound e.number e.members absent);
    sized = subst (λ table. (t : TypeId) → type_at table t ≡ Struct e.number → HasSize table t) (sym (members-is entries structs ended sound e (Some laid)))
        (sized-given (table_of entries structs ended) e.number e.members);
    has_members = subst (λ table. (t : TypeId) → type_at table t ≡ Struct e.number → members_at table t ≡ map (type_at table) e.members) (sym (members-is entries structs ended sound e (Some laid)))
        (members-given (table_of entries structs ended) e.number e.members);
  }

  pub given : (number : ℕ) (members kept : List TypeId) (new : List Ended) (now : Types) → table_of entries structs ended ≡ now → number < now.begun → is_ended (structs_of now) number ≡ false
      → All (CanStand now) members → laid.layout ≡ struct_layout (map (layout_at now) members) → laid.offsets.items ≡ offsets_from 0 (map (layout_at now) members)
      → kept ≡ members → new ≡ ended ++ record { number = number; members = kept } ∷ [] → IsGiven entries (set structs number (Some laid)) new now number members
  given number members kept new now view begun absent can layout offsets same pushed =
      subst (λ now. number < now.begun → is_ended (structs_of now) number ≡ false → All (CanStand now) members → laid.layout ≡ struct_layout (map (layout_at now) members)
      → laid.offsets.items ≡ offsets_from 0 (map (layout_at now) members) → IsGiven entries (set structs number (Some laid)) new now number members) view
      (λ begun absent can layout offsets. subst (λ n. IsGiven entries (set structs number (Some laid)) n (table_of entries structs ended) number members)
      (sym (pushed ∙ ap (λ ms. let e : Ended = record { number = number; members = ms } in ended ++ e ∷ []) same))
      (given-here (record { number = number; members = members }) begun absent can layout offsets))
      begun absent can layout offsets
