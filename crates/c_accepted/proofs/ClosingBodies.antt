-- The same of initialisers and statements.
use Rattle.std.proofs.Common.{ℕ, zero, suc, ◌+◌, List, [], ◌∷◌, ◌++◌, map}
use Rattle.std.specs.Prelude.{Option, None, Some}
use Rattle.mx_base.specs.declared.numbers.IntKind.{IntKind}
use Rattle.mx_base.specs.declared.places.Place.{Place}
use Rattle.mx_base.specs.Numbers.{extended}
use Rattle.c_types.specs.Types.{CType, Void, Int, Pointer, Array, Struct, StructType}
use Rattle.bounds_plan.specs.meaning.Core.{Word, Null, Scalar, Effect}
use Rattle.bounds_plan.specs.laws.Roots.{Names, NamesEffect, NamesStatement}
use Rattle.bounds_plan.specs.elaboration.Scalars.{scalars_of, scalar_at}
use Rattle.bounds_plan.specs.elaboration.Types.{Value, Numeric, Address, number_in, Sort, ANumber, APointer, sort_of, kind_of, size_in, given}
use Rattle.bounds_plan.specs.elaboration.Source.{Around}
use Rattle.bounds_plan.specs.elaboration.Places.{Lvalue, NumberVariable, PointerVariable, InMemory, written_as}
use Rattle.bounds_plan.specs.elaboration.Expressions.{Found, effect_of}
use Rattle.bounds_plan.specs.elaboration.Initialisers.{part_at, zero_as, zero_written, zeros, member_zeros, text_filled, scalar_filled, bytes_of, one_filled}
use Rattle.bounds_plan.specs.elaboration.Statements.{in_order, return_of}
use Rattle.c_accepted.proofs.Closing.{NamesValue, NamesPlace, NamesFound, effect_names, given_names, written_names, copied_names}

module _ (S : ℕ → ℕ → ℕ → Type 0) (F : ℕ → ℕ → Type 0) (P : ℕ → Type 0) where
  abbrev pub AllNameEffects : List Effect → Type 0
  AllNameEffects [] = Unit {0}
  AllNameEffects (x ∷ more) = NamesEffect S F P x × AllNameEffects more

  pub append_names : (xs ys : List Effect) → AllNameEffects xs → AllNameEffects ys → AllNameEffects (xs ++ ys)
  append_names [] ys h k = k
  append_names (x ∷ xs) ys h k = (h.0, append_names xs ys h.1 k)

  part_names : (n : ℕ) (l : Lvalue) → NamesPlace S F P l → NamesPlace S F P (part_at n l)
  part_names zero l h = h
  part_names (suc n) (NumberVariable x) h = h
  part_names (suc n) (PointerVariable x) h = h
  part_names (suc n) (InMemory p) h = h

  write_names : (sort : Sort) (place : Place) (l : Lvalue) (v : Value) → NamesPlace S F P l → NamesValue S F P v → NamesEffect S F P (effect_of (written_as sort place l v))
  write_names sort place l v h k = effect_names S F P (written_as sort place l v) (written_names S F P sort place l v h k)

  zero_names : (k : Option IntKind) (place : Place) (l : Lvalue) → NamesPlace S F P l → NamesEffect S F P (zero_as k place l)
  zero_names (Some kind) place l h = write_names (ANumber kind) place l (Numeric (Word 0)) h tt
  zero_names None place l h = write_names APointer place l (Address Null) h tt

  pub zeros_name : (scalars : List Scalar) (place : Place) (l : Lvalue) → NamesPlace S F P l → AllNameEffects (map (zero_written place l) scalars)
  zeros_name [] place l h = tt
  zeros_name (x ∷ more) place l h = (zero_names x.kind place (part_at x.offset l) (part_names x.offset l h), zeros_name more place l h)

  pub member_zeros_name : (structs : List StructType) (place : Place) (types : List CType) (offsets : List ℕ) (l : Lvalue) (offset : ℕ) → NamesPlace S F P l → AllNameEffects (member_zeros structs place types offsets l offset)
  member_zeros_name structs place [] offsets l offset h = tt
  member_zeros_name structs place (t ∷ ts) [] l offset h = tt
  member_zeros_name structs place (t ∷ ts) (o ∷ os) l offset h = append_names (zeros structs place t l (offset + o)) (member_zeros structs place ts os l offset)
      (zeros_name (map (scalar_at (offset + o)) (scalars_of structs t)) place l h) (member_zeros_name structs place ts os l offset h)

  pub text_names : (place : Place) (kind : IntKind) (count : ℕ) (l : Lvalue) (offset step : ℕ) (bytes : List ℕ) → NamesPlace S F P l → AllNameEffects (text_filled place kind count l offset step bytes)
  text_names place kind zero l offset step bytes h = tt
  text_names place kind (suc n) l offset step [] h = (write_names (ANumber kind) place (part_at offset l) (Numeric (Word 0)) (part_names offset l h) tt, text_names place kind n l (offset + step) step [] h)
  text_names place kind (suc n) l offset step (b ∷ more) h = (write_names (ANumber kind) place (part_at offset l) (Numeric (Word (extended kind b))) (part_names offset l h) tt, text_names place kind n l (offset + step) step more h)

  scalar_names : (type : CType) (place : Place) (l : Lvalue) (offset : ℕ) (f : Found) → NamesPlace S F P l → NamesFound S F P f → AllNameEffects (scalar_filled type place l offset f)
  scalar_names type place l offset f h k = (write_names (sort_of type) place (part_at offset l) (given type f.type f.value) (part_names offset l h) (given_names S F P type f.type f.value k.value), tt)

  pub one_names : (around : Around) (type : CType) (place : Place) (l : Lvalue) (offset : ℕ) (f : Found) → NamesPlace S F P l → NamesFound S F P f → AllNameEffects (one_filled around type place l offset f)
  one_names around Void place l offset f h k = tt
  one_names around (Int kind) place l offset f h k = scalar_names (Int kind) place l offset f h k
  one_names around (Pointer target) place l offset f h k = scalar_names (Pointer target) place l offset f h k
  one_names around (Array element count) place l offset f h k = text_names place (kind_of element) count l offset (size_in around.structs element) (bytes_of f.text) h
  one_names around (Struct number) place l offset f h k = (copied_names S F P around.structs (Struct number) (part_at offset l) place f (part_names offset l h) k, tt)

  pub in_order_names : (xs : List Effect) → AllNameEffects xs → NamesStatement S F P (in_order xs)
  in_order_names [] h = tt
  in_order_names (x ∷ more) h = (h.0, in_order_names more h.1)

  pub number_of_names : (v : Value) → NamesValue S F P v → Names S F P (number_in v)
  number_of_names (Numeric e) h = h
  number_of_names (Address p) h = h

  pub return_names : (v : Value) → NamesValue S F P v → NamesStatement S F P (return_of v)
  return_names (Numeric e) h = h
  return_names (Address p) h = h
