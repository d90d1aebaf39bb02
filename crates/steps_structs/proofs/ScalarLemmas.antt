-- Scalars as they are kept are those of the definition.
use Rattle.std.proofs.Common.{◌≡◌, ℕ, zero, suc, ◌+◌, ◌*◌, ◌-◌, ◌<◌, ◌≤◌, Bool, true, false, nat_le, if◌then◌else◌, refl, sym, ap, ◌∙◌, List, [], ◌∷◌, ◌++◌, map, length, drop, slice_index_or, arith, None, Some, subst, leb-true, le-leb}
use Rattle.std.proofs.lemmas.List.{length-append, length-map, map-append, append-nil, append_assoc, drop_all}
use Rattle.std.proofs.lemmas.Option.{same_Some, none-some}
use Rattle.std.proofs.Math.Seq.{drop-cons}
use Rattle.std.proofs.Math.Nat.{mul-suc, suc-mul, zero-mul, mul-zero, mul_comm}
use Rattle.c_types.specs.declared.shape.TypeId.{TypeId}
use Rattle.c_types.specs.declared.layout.Layout.{Layout}
use Rattle.c_types.specs.declared.shape.Shape.{Shape}
use Rattle.c_types.specs.declared.shape.Shape.TheVariants as s
use Rattle.c_types.specs.Types.{CType, StructType, Types, type_at, built}
use Rattle.c_types.specs.Layouts.{layout_of, next_multiple, CanBuild}
use Rattle.bounds_plan.specs.meaning.Core.{Scalar}
use Rattle.bounds_plan.specs.elaboration.Scalars.{scalar_at, repeated, scalars_of}
use Rattle.steps_facts.specs.declared.knows.ScalarAt.{ScalarAt}
use Rattle.steps_facts.specs.Around.{scalar_of, scalars_seen}
use Rattle.steps_structs.specs.Scalars.{held, few, moved}
use Rattle.steps_structs.specs.Structs.{scalars_from}

pub seen_held : (xs : List Scalar) → scalars_seen (map held xs) ≡ xs
seen_held [] = refl
seen_held (x ∷ xs) = ap (λ ys. x ∷ ys) (seen_held xs)

pub held_seen : (xs : List ScalarAt) → map held (scalars_seen xs) ≡ xs
held_seen [] = refl
held_seen (x ∷ xs) = ap (λ ys. x ∷ ys) (held_seen xs)

-- ---- few or not

pub few_are : (all : List ScalarAt) (xs : List Scalar) → scalars_seen all ≡ xs → length all ≤ 64 → Some all ≡ few xs
few_are all xs e h = subst (λ ys. Some all ≡ few ys) e (ap Some (sym (held_seen all))
    ∙ ap (λ (b : Bool). if b then Some (map held (scalars_seen all)) else None) (sym (ap (λ n. nat_le n 64) (length-map all scalar_of) ∙ le-leb (length all) 64 h)))

many_are : (xs : List Scalar) (b : Bool) → nat_le (length xs) 64 ≡ b → 64 < length xs → b ≡ false
many_are xs false e h = refl
many_are xs true e h = let few = leb-true (length xs) 64 e in absurd (omega (arith, few, h))

pub too_many : (xs : List Scalar) → 64 < length xs → None ≡ few xs
too_many xs h = ap (λ (b : Bool). if b then Some (map held xs) else None) (sym (many_are xs (nat_le (length xs) 64) refl h))

-- what a list of few says
few_by : (xs : List Scalar) (all : List ScalarAt) (b : Bool) → nat_le (length xs) 64 ≡ b → Some all ≡ (if b then Some (map held xs) else None) → all ≡ map held xs
few_by xs all true t e = same_Some _ _ e
few_by xs all false t e = absurd (none-some all (sym e))

pub few_tell : (xs : List Scalar) (all : List ScalarAt) → Some all ≡ few xs → scalars_seen all ≡ xs
few_tell xs all e = ap scalars_seen (few_by xs all (nat_le (length xs) 64) refl e) ∙ seen_held xs

none_by : (xs : List Scalar) (b : Bool) → nat_le (length xs) 64 ≡ b → None ≡ (if b then Some (map held xs) else None) → 64 < length xs
none_by xs true t e = absurd (none-some (map held xs) e)
none_by xs false t e = grind (arith, t)

pub none_tells : (xs : List Scalar) → None ≡ few xs → 64 < length xs
none_tells xs e = none_by xs (nat_le (length xs) 64) refl e

-- ---- elements

pub seen_moved : (offset : ℕ) (xs : List ScalarAt) → scalars_seen (map (moved offset) xs) ≡ map (scalar_at offset) (scalars_seen xs)
seen_moved offset [] = refl
seen_moved offset (x ∷ xs) = ap (λ ys. scalar_at offset (scalar_of x) ∷ ys) (seen_moved offset xs)

pub seen_more : (offset : ℕ) (all part : List ScalarAt) → scalars_seen (all ++ map (moved offset) part) ≡ scalars_seen all ++ map (scalar_at offset) (scalars_seen part)
seen_more offset all part = map-append scalar_of all (map (moved offset) part) ∙ ap (λ ys. scalars_seen all ++ ys) (seen_moved offset part)

pub as_many_repeated : (n offset size : ℕ) (xs : List Scalar) → length (repeated n offset size xs) ≡ n * length xs
as_many_repeated zero offset size xs = sym (zero-mul (length xs))
as_many_repeated (suc n) offset size xs = length-append (map (scalar_at offset) xs) (repeated n (offset + size) size xs)
    ∙ ap (λ a. a + length (repeated n (offset + size) size xs)) (length-map xs (scalar_at offset))
    ∙ ap (λ b. length xs + b) (as_many_repeated n (offset + size) size xs)
    ∙ swap (length xs) (n * length xs) ∙ sym (suc-mul n (length xs))
  where
    swap : (a b : ℕ) → a + b ≡ b + a
    swap a b = omega arith

-- more elements than are few
pub many_elements : (element : List ScalarAt) (count size : ℕ) → 64 < length element * count → None ≡ few (repeated count 0 size (scalars_seen element))
many_elements element count size h = too_many (repeated count 0 size (scalars_seen element))
    (subst (λ n. 64 < n) (sym (as_many_repeated count 0 size (scalars_seen element) ∙ ap (λ n. count * n) (length-map element scalar_of) ∙ mul_comm count (length element))) h)

-- the elements from one on are that one and those behind it
repeated_on : (count at size : ℕ) (xs : List Scalar) → at < count → repeated (count - at) (size * at) size xs ≡ map (scalar_at (size * at)) xs ++ repeated (count - suc at) (size * suc at) size xs
repeated_on count at size xs h = ap (λ n. repeated n (size * at) size xs) left
    ∙ ap (λ o. map (scalar_at (size * at)) xs ++ repeated (count - suc at) o size xs) (sym (mul-suc size at))
  where
    left : count - at ≡ suc (count - suc at)
    left = omega (arith, h)

pub elements_on : (all new element : List ScalarAt) (count at next offset size : ℕ) (whole : List Scalar) → at < count → next ≡ suc at → offset ≡ size * at → new ≡ all ++ map (moved offset) element
    → scalars_seen all ++ repeated (count - at) (size * at) size (scalars_seen element) ≡ whole → scalars_seen new ++ repeated (count - next) (size * next) size (scalars_seen element) ≡ whole
elements_on all new element count at next offset size whole h n o e i = let xs = scalars_seen element in
    ap (λ k. scalars_seen new ++ repeated (count - k) (size * k) size xs) n
    ∙ ap (λ ys. ys ++ repeated (count - suc at) (size * suc at) size xs) (ap scalars_seen e ∙ seen_more offset all element)
    ∙ append_assoc (scalars_seen all) (map (scalar_at offset) xs) (repeated (count - suc at) (size * suc at) size xs)
    ∙ ap (λ p. scalars_seen all ++ (map (scalar_at p) xs ++ repeated (count - suc at) (size * suc at) size xs)) o
    ∙ ap (λ ys. scalars_seen all ++ ys) (sym (repeated_on count at size xs h))
    ∙ i

pub elements_begun : (count size : ℕ) (xs : List Scalar) → [] ++ repeated (count - 0) (size * 0) size xs ≡ repeated count 0 size xs
elements_begun count size xs = ap (λ n. repeated n (size * 0) size xs) none ∙ ap (λ o. repeated count o size xs) (mul-zero size)
  where
    none : count - 0 ≡ count
    none = omega arith

pub elements_ended : (all element : List ScalarAt) (count at size : ℕ) → count ≤ at → scalars_seen all ++ repeated (count - at) (size * at) size (scalars_seen element) ≡ repeated count 0 size (scalars_seen element)
    → length element * count ≤ 64 → Some all ≡ few (repeated count 0 size (scalars_seen element))
elements_ended all element count at size h i few = few_are all (repeated count 0 size (scalars_seen element)) them
    (subst (λ n. n ≤ 64) (sym (sym (length-map all scalar_of) ∙ ap length them ∙ as_many_repeated count 0 size (scalars_seen element) ∙ ap (λ n. count * n) (length-map element scalar_of) ∙ mul_comm count (length element))) few)
  where
    none : count - at ≡ 0
    none = omega (arith, h)

    them : scalars_seen all ≡ repeated count 0 size (scalars_seen element)
    them = sym (append-nil (scalars_seen all)) ∙ sym (ap (λ n. scalars_seen all ++ repeated n (size * at) size (scalars_seen element)) none) ∙ i

-- ---- members

module _ (table : Types) (structs : List StructType) where
  abbrev at : TypeId → List Scalar
  at m = scalars_of structs (type_at table m)

  abbrev from : (free : ℕ) → List TypeId → List Scalar
  from free ms = scalars_from structs free (map (type_at table) ms)

  from_on : (free offset free2 : ℕ) (one : Layout) (m : TypeId) (ms : List TypeId) → one ≡ layout_of structs (type_at table m) → offset ≡ next_multiple free one.align → free2 ≡ offset + one.size
      → from free (m ∷ ms) ≡ map (scalar_at offset) (at m) ++ from free2 ms
  from_on free offset free2 one m ms is o f = let laid = layout_of structs (type_at table m) in
      sym (ap (λ p. map (scalar_at p) (at m) ++ from free2 ms) (o ∙ ap (λ (l : Layout). next_multiple free l.align) is)
      ∙ ap (λ g. map (scalar_at (next_multiple free laid.align)) (at m) ++ from g ms) (f ∙ ap (λ p. p + one.size) o ∙ ap (λ (l : Layout). next_multiple free l.align + l.size) is))

  -- what stands before the members from the i-th on, that one, and what stands behind it
  whole_on : (ms : List TypeId) (i free offset free2 : ℕ) (one : Layout) (m : TypeId) (before whole : List Scalar) → i < length ms → m ≡ slice_index_or ms i (record { 0 = 0 })
      → one ≡ layout_of structs (type_at table m) → offset ≡ next_multiple free one.align → free2 ≡ offset + one.size → before ++ from free (drop i ms) ≡ whole
      → whole ≡ before ++ (map (scalar_at offset) (at m) ++ from free2 (drop (suc i) ms))
  whole_on ms i free offset free2 one m before whole h e is o f w = sym w ∙ ap (λ rest. before ++ from free rest) (drop-cons ms i (record { 0 = 0 }) h ∙ ap (λ x. x ∷ drop (suc i) ms) (sym e))
      ∙ ap (λ xs. before ++ xs) (from_on free offset free2 one m (drop (suc i) ms) is o f)

  pub members_on : (ms : List TypeId) (i j free offset free2 : ℕ) (one : Layout) (m : TypeId) (all new part : List ScalarAt) (whole : List Scalar) → i < length ms → j ≡ suc i → m ≡ slice_index_or ms i (record { 0 = 0 })
      → one ≡ layout_of structs (type_at table m) → offset ≡ next_multiple free one.align → free2 ≡ offset + one.size → Some part ≡ few (at m) → new ≡ all ++ map (moved offset) part
      → scalars_seen all ++ from free (drop i ms) ≡ whole → scalars_seen new ++ from free2 (drop j ms) ≡ whole
  members_on ms i j free offset free2 one m all new part whole h n e is o f p g w =
      ap (λ k. scalars_seen new ++ from free2 (drop k ms)) n
      ∙ ap (λ ys. ys ++ from free2 (drop (suc i) ms)) (ap scalars_seen g ∙ seen_more offset all part ∙ ap (λ ys. scalars_seen all ++ map (scalar_at offset) ys) (few_tell (at m) part p))
      ∙ append_assoc (scalars_seen all) (map (scalar_at offset) (at m)) (from free2 (drop (suc i) ms))
      ∙ sym (whole_on ms i free offset free2 one m (scalars_seen all) whole h e is o f w)

  pub members_ended : (ms : List TypeId) (i free : ℕ) (all : List ScalarAt) (whole : List Scalar) → length ms ≤ i → scalars_seen all ++ from free (drop i ms) ≡ whole → length all ≤ 64 → Some all ≡ few whole
  members_ended ms i free all whole h w few = few_are all whole (sym (append-nil (scalars_seen all)) ∙ sym (ap (λ rest. scalars_seen all ++ from free rest) (drop_all i ms h)) ∙ w) few

  -- ---- arrays

  pub array_few : (shape inner : Shape) (element : TypeId) (count : ℕ) (one : Layout) (scalars slice : List ScalarAt) → shape ≡ s.Array element count → type_at table element ≡ built (type_at table) inner
      → one ≡ layout_of structs (built (type_at table) inner) → Some scalars ≡ few (scalars_of structs (built (type_at table) inner)) → slice ≡ scalars
      → few (repeated count 0 one.size (scalars_seen slice)) ≡ few (scalars_of structs (built (type_at table) shape))
  array_few shape inner element count one scalars slice is means laid them e =
      ap (λ (l : Layout). few (repeated count 0 l.size (scalars_seen slice))) laid
      ∙ ap (λ xs. few (repeated count 0 (layout_of structs (built (type_at table) inner)).size xs)) (ap scalars_seen e ∙ few_tell (scalars_of structs (built (type_at table) inner)) scalars them)
      ∙ ap (λ (t : CType). few (repeated count 0 (layout_of structs t).size (scalars_of structs t))) (sym means)
      ∙ ap (λ (q : Shape). few (scalars_of structs (built (type_at table) q))) (sym is)

  array_many : (count size : ℕ) (xs : List Scalar) → 1 ≤ count → 64 < length xs → None ≡ few (repeated count 0 size xs)
  array_many zero size xs one h = absurd (omega (arith, one))
  array_many (suc n) size xs one h = let many = as_many_repeated (suc n) 0 size xs ∙ suc-mul n (length xs) in too_many (repeated (suc n) 0 size xs) (omega (arith, many, h))

  at_least_one : (shape : Shape) (element : TypeId) (count : ℕ) → shape ≡ s.Array element count → CanBuild table shape → 1 ≤ count
  at_least_one shape element count is named = (subst (CanBuild table) is named).1

  pub array_none : (shape inner : Shape) (element : TypeId) (count : ℕ) → shape ≡ s.Array element count → type_at table element ≡ built (type_at table) inner
      → CanBuild table shape → None ≡ few (scalars_of structs (built (type_at table) inner)) → None ≡ few (scalars_of structs (built (type_at table) shape))
  array_none shape inner element count is means named none =
      array_many count (layout_of structs (type_at table element)).size (scalars_of structs (type_at table element)) (at_least_one shape element count is named)
      (none_tells (scalars_of structs (type_at table element)) (none ∙ ap (λ t. few (scalars_of structs t)) (sym means)))
      ∙ ap (λ (q : Shape). few (scalars_of structs (built (type_at table) q))) (sym is)
