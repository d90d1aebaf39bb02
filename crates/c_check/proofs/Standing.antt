-- Types that stand by the structs so far and have at most so many layers.
use Rattle.std.proofs.Common.{◌≡◌, ℕ, zero, suc, ◌+◌, ◌*◌, ◌≤◌, ◌<◌, refl, true, Option, None, Some, List, [], ◌∷◌, ◌++◌, length, slice_set, nat_le, arith}
use Rattle.std.specs.List.{AllByRecursion}
use Rattle.std.proofs.lemmas.Bool.Decides.{nat_tests}
use Rattle.mx_base.specs.declared.numbers.IntKind.TheVariants.{I8}
use Rattle.c_types.specs.Types.{CType, Void, Int, Pointer, Array, Struct}
use Rattle.c_check_rules.specs.declared.names.StructInfo.{StructInfo}
use Rattle.c_check_rules.specs.Kinds.{inner_of}
use Rattle.c_check_rules.specs.Sizes.{limit, size_in, is_sized, is_within}
use Rattle.c_check_typing.specs.Rules.{decayed, starred}
use Rattle.c_check_statements.specs.Counts.{arrayed}
use Rattle.c_check.specs.Standing.{layers_of}
use Rattle.c_check.proofs.Growing.{both_hold, and_holds, value_of, there, times_of, Grows, within_grows, sized_grows}

-- ---- lists of which each element has a fact

abbrev pub Each : {X : Type 0} → (X → Type 0) → List X → Type 0
Each P xs = AllByRecursion P xs

module _ {X : Type 0} (P : X → Type 0) where
  pub each_joined : (xs ys : List X) → Each P xs → Each P ys → Each P (xs ++ ys)
  each_joined [] ys h g = g
  each_joined (x ∷ xs) ys h g = (h.0, each_joined xs ys h.1 g)

  pub each_pushed : (xs : List X) (y : X) → Each P xs → P y → Each P (xs ++ y ∷ [])
  each_pushed xs y h p = each_joined xs (y ∷ []) h (p, tt)

  pub each_set : (xs : List X) (n : ℕ) (y : X) → Each P xs → P y → Each P (slice_set xs n y)
  each_set [] n y h p = tt
  each_set (x ∷ xs) zero y h p = (p, h.1)
  each_set (x ∷ xs) (suc n) y h p = (h.0, each_set xs n y h.1 p)

  pub each_other : (Q : X → Type 0) → ((x : X) → P x → Q x) → (xs : List X) → Each P xs → Each Q xs
  each_other Q f [] h = tt
  each_other Q f (x ∷ xs) h = (f x h.0, each_other Q f xs h.1)

-- what is known, where something is known
abbrev pub IfKnown : {X : Type 0} → (X → Type 0) → Option X → Type 0
IfKnown P None = Unit {0}
IfKnown P (Some x) = P x

-- ---- types

abbrev pub StandsBy : (most : ℕ) → List StructInfo → CType → Type 0
StandsBy most structs t = (is_within structs t ≡ true) × (layers_of t ≤ most)

abbrev pub ValueBy : (most : ℕ) → List StructInfo → CType → Type 0
ValueBy most structs t = StandsBy most structs t × (is_sized structs t ≡ true)

pub stands_more : (most more : ℕ) (structs : List StructInfo) → most ≤ more → (t : CType) → StandsBy most structs t → StandsBy more structs t
stands_more most more structs le t h = let few = h.1 in (h.0, omega arith)

pub value_more : (most more : ℕ) (structs : List StructInfo) → most ≤ more → (t : CType) → ValueBy most structs t → ValueBy more structs t
value_more most more structs le t h = (stands_more most more structs le t h.0, h.1)

pub stands_grows : (most : ℕ) (old new : List StructInfo) → Grows old new → (t : CType) → StandsBy most old t → StandsBy most new t
stands_grows most old new g t h = (within_grows old new g t h.0, h.1)

pub value_grows : (most : ℕ) (old new : List StructInfo) → Grows old new → (t : CType) → ValueBy most old t → ValueBy most new t
value_grows most old new g t h = (stands_grows most old new g t h.0, sized_grows old new g t h.1)

pub int_stands : (most : ℕ) (structs : List StructInfo) (t : CType) → is_within structs t ≡ true → layers_of t ≡ 0 → StandsBy most structs t
int_stands most structs t h e = (h, omega (arith, e))

module _ (most : ℕ) (structs : List StructInfo) where
  pub inner_stands : (t : CType) → StandsBy most structs t → StandsBy most structs (inner_of t)
  inner_stands Void h = h
  inner_stands (Int kind) h = h
  inner_stands (Pointer t) h = let few = h.1 in (h.0, omega arith)
  inner_stands (Array t count) h = let few = h.1 in ((both_hold (is_sized structs (Array t count)) (is_within structs t) h.0).1, omega arith)
  inner_stands (Struct number) h = h

  pub decayed_stands : (t : CType) → StandsBy most structs t → StandsBy most structs (decayed t)
  decayed_stands Void h = h
  decayed_stands (Int kind) h = h
  decayed_stands (Pointer t) h = h
  decayed_stands (Array t count) h = ((both_hold (is_sized structs (Array t count)) (is_within structs t) h.0).1, h.1)
  decayed_stands (Struct number) h = h

  pub starred_stands : (stars : ℕ) (t : CType) → is_within structs t ≡ true → layers_of t ≡ 0 → stars ≤ most → StandsBy most structs (starred stars t)
  starred_stands stars t h e le = (within stars, omega (arith, layers stars, le))
    where
      within : (n : ℕ) → is_within structs (starred n t) ≡ true
      within zero = h
      within (suc n) = within n

      layers : (n : ℕ) → layers_of (starred n t) ≡ n
      layers zero = e
      layers (suc n) = let below = layers n in omega (arith, below)

-- ---- arrays

text_sized : (n : ℕ) (structs : List StructInfo) → n < limit → is_sized structs (Array (Int I8) (n + 1)) ≡ true
text_sized n structs h =
    let first : nat_le 1 (n + 1) ≡ true = grind (arith, nat_tests) in
    let second : nat_le (n + 1) 16777216 ≡ true = grind (arith, nat_tests) in
    let third : nat_le (1 * (n + 1)) 16777216 ≡ true = grind (arith, nat_tests) in
    rw (first, second, third) refl

pub text_stands : (n most : ℕ) (structs : List StructInfo) → n < limit → 1 ≤ most → StandsBy most structs (Array (Int I8) (n + 1))
text_stands n most structs h le = (and_holds (is_sized structs (Array (Int I8) (n + 1))) true (text_sized n structs h) refl, omega arith)

-- arrays within the limits, of what stands
pub arrayed_within : (structs : List StructInfo) (counts : List ℕ) (t : CType) → is_within structs t ≡ true → is_sized structs (arrayed counts t) ≡ true → is_within structs (arrayed counts t) ≡ true
arrayed_within structs [] t h g = h
arrayed_within structs (n ∷ more) t h g =
    let k = value_of (size_in structs (Array (arrayed more t) n)) g in
    let m = times_of (size_in structs (arrayed more t)) n k.0 k.1 in
    and_holds (is_sized structs (Array (arrayed more t) n)) (is_within structs (arrayed more t)) g (arrayed_within structs more t h (there (size_in structs (arrayed more t)) m.0 m.1))

pub arrayed_layers : (counts : List ℕ) (t : CType) → layers_of (arrayed counts t) ≡ length counts + layers_of t
arrayed_layers [] t = omega arith
arrayed_layers (n ∷ more) t = let below = arrayed_layers more t in omega (arith, below)
