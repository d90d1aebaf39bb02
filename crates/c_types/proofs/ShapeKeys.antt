-- The map of shapes: equal keys are equal shapes, and a shape that no key has goes last.
use Rattle.std.proofs.Common.{◌≡◌, ℕ, Bool, true, false, cond, List, [], ◌∷◌, ◌++◌, zero, suc, get_or, slice_get, position, refl, ap, sym, ◌∙◌, true≢false, Option, None, Some, is_some}
use Rattle.std.proofs.lemmas.Option.{none-some, same_Some, slice_get-get_or}
use Rattle.std.proofs.lemmas.List.Quantifiers.{position-Some}
use Rattle.std.proofs.lemmas.Map.{none_passes_from_lookup}
use lib.Pointwise.{bytes_decides}
use Rattle.std.specs.Map.{keys_of, lookup}
use Rattle.std.specs.List.{AllByRecursion}
use Rattle.indexmap.specs.IndexMap.{insert_entry}
use Rattle.mx_base.specs.declared.numbers.IntKind.{IntKind}
use Rattle.mx_base.specs.declared.numbers.IntKind.TheVariants.{I8, U8, I16, U16, I32, U32, I64, U64}
use Rattle.c_types.specs.declared.shape.Shape.{Shape}
use Rattle.c_types.specs.declared.shape.Shape.TheVariants as s
use Rattle.c_types.specs.declared.layout.Layout.{Layout}
use Rattle.c_types.specs.Types.{IsNew}
use Rattle.c_types.specs.Shapes.{place_of, numbers_of, is_same}

kind_at : ℕ → IntKind
kind_at zero = I8
kind_at (suc zero) = U8
kind_at (suc (suc zero)) = I16
kind_at (suc (suc (suc zero))) = U16
kind_at (suc (suc (suc (suc zero)))) = I32
kind_at (suc (suc (suc (suc (suc zero))))) = U32
kind_at (suc (suc (suc (suc (suc (suc zero)))))) = I64
kind_at (suc (suc (suc (suc (suc (suc (suc n))))))) = U64

kind_back : (kind : IntKind) → kind_at (place_of kind) ≡ kind
unfolding kind_at
kind_back I8 = refl
kind_back U8 = refl
kind_back I16 = refl
kind_back U16 = refl
kind_back I32 = refl
kind_back U32 = refl
kind_back I64 = refl
kind_back U64 = refl

shape_at : ℕ → ℕ → ℕ → Shape
shape_at zero a b = s.Void
shape_at (suc zero) a b = s.Int (kind_at a)
shape_at (suc (suc zero)) a b = s.Pointer (record { 0 = a })
shape_at (suc (suc (suc zero))) a b = s.Array (record { 0 = a }) b
shape_at (suc (suc (suc (suc n)))) a b = s.Struct a

shape_from : List ℕ → Shape
shape_from (v ∷ a ∷ b ∷ []) = shape_at v a b
shape_from _ = s.Void

shape_back : (shape : Shape) → shape_from (numbers_of shape) ≡ shape
unfolding shape_from shape_at
shape_back s.Void = refl
shape_back (s.Int kind) = ap s.Int (kind_back kind)
shape_back (s.Pointer target) = refl
shape_back (s.Array element count) = refl
shape_back (s.Struct number) = refl

pub same-shapes : (a b : Shape) → is_same a b ≡ true → a ≡ b
same-shapes a b h = sym (shape_back a) ∙ ap shape_from ((bytes_decides (numbers_of a) (numbers_of b)).0 h) ∙ shape_back b

pub same-itself : (a : Shape) → is_same a a ≡ true
same-itself a = (bytes_decides (numbers_of a) (numbers_of a)).1 refl

-- the place that a search gives has the shape
pub found-at : (shapes : List Shape) (shape : Shape) (place : ℕ) → position (is_same shape) shapes ≡ Some place → slice_get shapes place ≡ Some shape
found-at shapes shape place h =
    let first = position-Some (is_same shape) shapes place shape h in
    slice_get-get_or shapes place shape first.0 ∙ ap Some (sym (same-shapes shape (get_or shapes place shape) first.1))

none-has : (entries : List (Shape × Layout)) (shape : Shape) → AllByRecursion (λ (e : Shape × Layout). is_same shape e.0 ≡ false) entries → IsNew (keys_of entries) shape
none-has [] shape all a h = absurd (none-some shape h)
none-has (e ∷ es) shape all zero h = absurd (true≢false (sym (ap (is_same shape) (same_Some e.0 shape h) ∙ same-itself shape) ∙ all.0))
none-has (e ∷ es) shape all (suc a) h = none-has es shape all.1 a h

-- where a search gives none, no place has the shape
pub absent-at : (entries : List (Shape × Layout)) (shape : Shape) → lookup (is_same shape) entries ≡ None → IsNew (keys_of entries) shape
absent-at entries shape h = none-has entries shape (none_passes_from_lookup (is_same shape) entries h)

-- a shape that no place has goes last
pub insert-new : (entries : List (Shape × Layout)) (shape : Shape) (l : Layout) → IsNew (keys_of entries) shape → insert_entry is_same entries shape l ≡ entries ++ (shape, l) ∷ []
insert-new [] shape l fresh = refl
insert-new (e ∷ es) shape l fresh = by (is_same shape e.0) refl (insert-new es shape l (λ a h. fresh (suc a) h))
  where
    by : (b : Bool) → is_same shape e.0 ≡ b → insert_entry is_same es shape l ≡ es ++ (shape, l) ∷ [] → insert_entry is_same (e ∷ es) shape l ≡ (e ∷ es) ++ (shape, l) ∷ []
    by true is rest = absurd (fresh zero (ap Some (sym (same-shapes shape e.0 is))))
    by false is rest = ap (λ b. cond b ((e.0, l) ∷ es) (e ∷ insert_entry is_same es shape l)) is ∙ ap (λ r. e ∷ r) rest

pub none-from : {X : Type 0} (o : Option X) → false ≡ is_some o → o ≡ None
none-from None h = refl
none-from (Some x) h = absurd (true≢false (sym h))
