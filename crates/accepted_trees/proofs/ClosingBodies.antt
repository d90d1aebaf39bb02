-- The same of initialisers and statements.
use Rattle.std.proofs.Common.{◌≡◌, ℕ, zero, suc, ◌+◌, ◌*◌, ◌^◌, ◌<◌, ◌≤◌, Bool, false, List, [], ◌∷◌, ◌++◌, map, arith}
use Rattle.std.proofs.Math.Nat.{mul-suc}
use Rattle.std.specs.Prelude.{Option, None, Some, slice_index, slice_index_or}
use Rattle.fat_ir.specs.Step.{Located}
use Rattle.mx_base.specs.declared.numbers.IntKind.{IntKind}
use Rattle.mx_base.specs.declared.places.Place.{Place}
use Rattle.mx_base.specs.Numbers.{extended}
use Rattle.c_types.specs.Types.{CType, Void, Int, Pointer, Array, Struct, StructType, members_of}
use Rattle.c_types.specs.Layouts.{layout_of, offsets_from}
use Rattle.bounds_plan.specs.meaning.Core.{Word, Null, Scalar, Effect}
use Rattle.bounds_plan.specs.laws.Laws.{most_bytes}
use Rattle.bounds_plan.specs.elaboration.Scalars.{scalars_of, scalar_at}
use Rattle.bounds_plan.specs.elaboration.Types.{Value, Numeric, Address, Sort, ANumber, APointer, sort_of, kind_of, size_in, given}
use Rattle.bounds_plan.specs.elaboration.Source.{Around}
use Rattle.bounds_plan.specs.elaboration.Places.{Lvalue, NumberVariable, PointerVariable, InMemory, written_as}
use Rattle.bounds_plan.specs.elaboration.Expressions.{Found, effect_of}
use Rattle.bounds_plan.specs.elaboration.Initialisers.{part_at, zero_as, zero_written, zeros, member_zeros, text_filled, scalar_filled, bytes_of, one_filled}
use Rattle.bounds_plan.specs.elaboration.Statements.{in_order, return_of}
use Rattle.asked_steps.specs.Trees.{EffectWithin, StatementWithin}
use Rattle.accepted_trees.specs.Limits.{TypeWithin, StructsWithin, gives_pointer}
use Rattle.accepted_trees.proofs.Sizes.{BeginBy, scalars_begin}
use Rattle.accepted_trees.proofs.Closing.{ValueWithin, PlaceWithin, FoundWithin, effect_within, given_within, written_within, copied_within}
use Rattle.accepted_trees.proofs.Expressions.{extended_small}

-- ---- members

-- members of these types at these offsets end by there
abbrev pub EndBy : List StructType → ℕ → List CType → List ℕ → Type 0
EndBy structs most [] offsets = Unit {0}
EndBy structs most (t ∷ ts) [] = Unit {0}
EndBy structs most (t ∷ ts) (o ∷ os) = (o + size_in structs t ≤ most) × EndBy structs most ts os

each_ends : (structs : List StructType) (most : ℕ) (ts : List CType) (os : List ℕ) → ((i : ℕ) → slice_index os i + size_in structs (slice_index_or ts i Void) ≤ most) → EndBy structs most ts os
each_ends structs most [] os h = tt
each_ends structs most (t ∷ ts) [] h = tt
each_ends structs most (t ∷ ts) (o ∷ os) h = (h 0, each_ends structs most ts os (λ i. h (suc i)))

pub members_end : (structs : List StructType) (number : ℕ) → StructsWithin structs → EndBy structs (size_in structs (Struct number)) (members_of structs number) (offsets_from 0 (map (layout_of structs) (members_of structs number)))
members_end structs number h = each_ends structs (size_in structs (Struct number)) (members_of structs number) (offsets_from 0 (map (layout_of structs) (members_of structs number))) (h.inside number)

module _ (located : ℕ → Located) (pointer : Bool) (returns : ℕ → Bool) (takes : ℕ → List (ℕ × Option ℕ) → Bool) where
  abbrev pub AllEffectsWithin : List Effect → Type 0
  AllEffectsWithin [] = Unit {0}
  AllEffectsWithin (x ∷ more) = EffectWithin located pointer returns takes x × AllEffectsWithin more

  pub append_within : (xs ys : List Effect) → AllEffectsWithin xs → AllEffectsWithin ys → AllEffectsWithin (xs ++ ys)
  append_within [] ys h k = k
  append_within (x ∷ xs) ys h k = (h.0, append_within xs ys h.1 k)

  part_within : (n : ℕ) (l : Lvalue) → n ≤ most_bytes → PlaceWithin located pointer returns takes l → PlaceWithin located pointer returns takes (part_at n l)
  part_within zero l le h = h
  part_within (suc n) (NumberVariable x) le h = h
  part_within (suc n) (PointerVariable x) le h = h
  part_within (suc n) (InMemory p) le h = (omega (arith, le), tt, h)

  write_within : (sort : Sort) (place : Place) (l : Lvalue) (v : Value) → PlaceWithin located pointer returns takes l → ValueWithin located pointer returns takes v → EffectWithin located pointer returns takes (effect_of (written_as sort place l v))
  write_within sort place l v h k = effect_within located pointer returns takes (written_as sort place l v) (written_within located pointer returns takes sort place l v h k)

  no_bits : 0 < 2 ^ 64
  no_bits = omega arith

  zero_within : (k : Option IntKind) (place : Place) (l : Lvalue) → PlaceWithin located pointer returns takes l → EffectWithin located pointer returns takes (zero_as k place l)
  zero_within (Some kind) place l h = write_within (ANumber kind) place l (Numeric (Word 0)) h no_bits
  zero_within None place l h = write_within APointer place l (Address Null) h tt

  scalars_zero : (scalars : List Scalar) (place : Place) (l : Lvalue) (offset size : ℕ) → BeginBy size scalars → offset + size ≤ most_bytes → PlaceWithin located pointer returns takes l → AllEffectsWithin (map (zero_written place l) (map (scalar_at offset) scalars))
  scalars_zero [] place l offset size b le h = tt
  scalars_zero (x ∷ more) place l offset size b le h = let first = b.0 in (zero_within x.kind place (part_at (offset + x.offset) l) (part_within (offset + x.offset) l (omega (arith, first, le)) h), scalars_zero more place l offset size b.1 le h)

  pub zeros_within : (structs : List StructType) (place : Place) (type : CType) (l : Lvalue) (offset : ℕ) → offset + size_in structs type ≤ most_bytes → PlaceWithin located pointer returns takes l → AllEffectsWithin (zeros structs place type l offset)
  zeros_within structs place type l offset le h = scalars_zero (scalars_of structs type) place l offset (size_in structs type) (scalars_begin structs type) le h

  pub member_zeros_within : (structs : List StructType) (place : Place) (types : List CType) (offsets : List ℕ) (l : Lvalue) (offset most : ℕ) → EndBy structs most types offsets → offset + most ≤ most_bytes → PlaceWithin located pointer returns takes l
      → AllEffectsWithin (member_zeros structs place types offsets l offset)
  member_zeros_within structs place [] offsets l offset most ends le h = tt
  member_zeros_within structs place (t ∷ ts) [] l offset most ends le h = tt
  member_zeros_within structs place (t ∷ ts) (o ∷ os) l offset most ends le h = let first = ends.0 in append_within (zeros structs place t l (offset + o)) (member_zeros structs place ts os l offset)
      (zeros_within structs place t l (offset + o) (omega (arith, first, le)) h) (member_zeros_within structs place ts os l offset most ends.1 le h)

  text_within : (place : Place) (kind : IntKind) (count : ℕ) (l : Lvalue) (offset step : ℕ) (bytes : List ℕ) → offset + step * count ≤ most_bytes → PlaceWithin located pointer returns takes l → AllEffectsWithin (text_filled place kind count l offset step bytes)
  text_within place kind zero l offset step bytes le h = tt
  text_within place kind (suc n) l offset step [] le h = let e : step * suc n ≡ step * n + step = mul-suc step n in
      (write_within (ANumber kind) place (part_at offset l) (Numeric (Word 0)) (part_within offset l (omega (arith, e, le)) h) no_bits, text_within place kind n l (offset + step) step [] (omega (arith, e, le)) h)
  text_within place kind (suc n) l offset step (b ∷ more) le h = let e : step * suc n ≡ step * n + step = mul-suc step n in
      (write_within (ANumber kind) place (part_at offset l) (Numeric (Word (extended kind b))) (part_within offset l (omega (arith, e, le)) h) (extended_small kind b), text_within place kind n l (offset + step) step more (omega (arith, e, le)) h)

  scalar_within : (structs : List StructType) (type : CType) (place : Place) (l : Lvalue) (offset : ℕ) (f : Found) → offset ≤ most_bytes → PlaceWithin located pointer returns takes l → FoundWithin located pointer returns takes structs f → AllEffectsWithin (scalar_filled type place l offset f)
  scalar_within structs type place l offset f le h k =
      (write_within (sort_of type) place (part_at offset l) (given type f.type f.value) (part_within offset l le h) (given_within located pointer returns takes type f.type f.value k.value), tt)

  pub one_within : (around : Around) (type : CType) (place : Place) (l : Lvalue) (offset : ℕ) (f : Found) → TypeWithin around.structs type → offset + size_in around.structs type ≤ most_bytes → PlaceWithin located pointer returns takes l
      → FoundWithin located pointer returns takes around.structs f → AllEffectsWithin (one_filled around type place l offset f)
  one_within around Void place l offset f t le h k = tt
  one_within around (Int kind) place l offset f t le h k = scalar_within around.structs (Int kind) place l offset f (omega (arith, le)) h k
  one_within around (Pointer target) place l offset f t le h k = scalar_within around.structs (Pointer target) place l offset f (omega (arith, le)) h k
  one_within around (Array element count) place l offset f t le h k = text_within place (kind_of element) count l offset (size_in around.structs element) (bytes_of f.text) le h
  one_within around (Struct number) place l offset f t le h k = (copied_within located pointer returns takes around.structs (Struct number) (part_at offset l) place f t t (part_within offset l (omega (arith, le)) h) k, tt)

  pub in_order_within : (xs : List Effect) → AllEffectsWithin xs → StatementWithin located pointer returns takes (in_order xs)
  in_order_within [] h = tt
  in_order_within (x ∷ more) h = (h.0, in_order_within more h.1)

  number_returned : (v : Value) → pointer ≡ false → ValueWithin located pointer returns takes v → StatementWithin located pointer returns takes (return_of v)
  number_returned (Numeric e) p h = (p, h)
  number_returned (Address p) e h = h

  -- what is returned is of the function's type: a function that gives a pointer gives no number
  pub returned_within : (type from : CType) (v : Value) → pointer ≡ gives_pointer (sort_of type) → ValueWithin located pointer returns takes v → StatementWithin located pointer returns takes (return_of (given type from v))
  returned_within Void from v p h = number_returned (given Void from v) p (given_within located pointer returns takes Void from v h)
  returned_within (Int kind) from v p h = number_returned (given (Int kind) from v) p (given_within located pointer returns takes (Int kind) from v h)
  returned_within (Pointer target) from v p h = given_within located pointer returns takes (Pointer target) from v h
  returned_within (Array element count) from v p h = number_returned (given (Array element count) from v) p (given_within located pointer returns takes (Array element count) from v h)
  returned_within (Struct number) from v p h = number_returned (given (Struct number) from v) p (given_within located pointer returns takes (Struct number) from v h)
