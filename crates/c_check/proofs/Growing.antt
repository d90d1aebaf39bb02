-- Structs that grow: what stood by them, and had a size, does so by more of them, and by those of which the last is closed.
use Rattle.std.proofs.Common.{◌≡◌, ℕ, zero, suc, ◌*◌, refl, sym, ap, ◌∙◌, Bool, true, false, ◌&&◌, if◌then◌else◌, is_some, Option, None, Some, List, [], ◌∷◌, ◌++◌, slice_get, nat_le}
use Rattle.c_types.specs.Types.{CType, Void, Int, Pointer, Array, Struct}
use Rattle.c_check_rules.specs.declared.names.StructInfo.{StructInfo}
use Rattle.c_check_rules.specs.Sizes.{limit, times_in, laid_size, laid_of, size_in, is_sized, is_within}
use Rattle.c_check_statements.specs.Structs.{open_struct}

pub both_hold : (a b : Bool) → (a && b) ≡ true → (a ≡ true) × (b ≡ true)
both_hold true b h = (refl, h)
both_hold false b h = cc

pub and_holds : (a b : Bool) → a ≡ true → b ≡ true → (a && b) ≡ true
and_holds true b h g = g
and_holds false b h g = h

-- what is there has a value
pub value_of : {X : Type 0} (o : Option X) → is_some o ≡ true → (x : X) × (o ≡ Some x)
value_of None h = cc
value_of (Some x) h = (x, refl)

pub there : {X : Type 0} (o : Option X) (x : X) → o ≡ Some x → is_some o ≡ true
there o x h = ap is_some h

pub same_value : {X : Type 0} (x y : X) → Some x ≡ Some y → x ≡ y
same_value x y h = cc

-- ---- sizes

chosen : (m k count : ℕ) (b : Bool) → (if b then Some (m * count) else None) ≡ Some k → m * count ≡ k
chosen m k count true h = cc
chosen m k count false h = cc

pub times_of : (size : Option ℕ) (count k : ℕ) → times_in size count ≡ Some k → (m : ℕ) × (size ≡ Some m) × (m * count ≡ k)
times_of None count k h = cc
times_of (Some m) count k h = (m, refl, chosen m k count (nat_le 1 count && nat_le count limit && nat_le (m * count) limit) h)

pub record Grows (old new : List StructInfo) : Type 0 where
  pub stands : (n : ℕ) → is_some (slice_get old n) ≡ true → is_some (slice_get new n) ≡ true
  pub sizes : (n k : ℕ) → laid_size (laid_of (slice_get old n)) ≡ Some k → laid_size (laid_of (slice_get new n)) ≡ Some k

module _ (old new : List StructInfo) (g : Grows old new) where
  pub size_grows : (t : CType) (k : ℕ) → size_in old t ≡ Some k → size_in new t ≡ Some k
  size_grows Void k h = h
  size_grows (Int kind) k h = h
  size_grows (Pointer t) k h = h
  size_grows (Array t count) k h = let m = times_of (size_in old t) count k h in ap (λ s. times_in s count) (size_grows t m.0 m.1 ∙ sym m.1) ∙ h
  size_grows (Struct number) k h = g.sizes number k h

  pub sized_grows : (t : CType) → is_sized old t ≡ true → is_sized new t ≡ true
  sized_grows t h = let k = value_of (size_in old t) h in there (size_in new t) k.0 (size_grows t k.0 k.1)

  pub within_grows : (t : CType) → is_within old t ≡ true → is_within new t ≡ true
  within_grows Void h = h
  within_grows (Int kind) h = h
  within_grows (Pointer t) h = within_grows t h
  within_grows (Array t count) h = let parts = both_hold (is_sized old (Array t count)) (is_within old t) h in
      and_holds (is_sized new (Array t count)) (is_within new t) (sized_grows (Array t count) parts.0) (within_grows t parts.1)
  within_grows (Struct number) h = g.stands number h

-- ---- more structs

pub got_before : (xs ys : List StructInfo) (n : ℕ) (info : StructInfo) → slice_get xs n ≡ Some info → slice_get (xs ++ ys) n ≡ Some info
got_before [] ys n info h = cc
got_before (x ∷ xs) ys zero info h = h
got_before (x ∷ xs) ys (suc n) info h = got_before xs ys n info h

kept_before : (xs ys : List StructInfo) (n : ℕ) → is_some (slice_get xs n) ≡ true → is_some (slice_get (xs ++ ys) n) ≡ true
kept_before [] ys n h = cc
kept_before (x ∷ xs) ys zero h = h
kept_before (x ∷ xs) ys (suc n) h = kept_before xs ys n h

sizes_before : (xs ys : List StructInfo) (n k : ℕ) → laid_size (laid_of (slice_get xs n)) ≡ Some k → laid_size (laid_of (slice_get (xs ++ ys) n)) ≡ Some k
sizes_before [] ys n k h = cc
sizes_before (x ∷ xs) ys zero k h = h
sizes_before (x ∷ xs) ys (suc n) k h = sizes_before xs ys n k h

pub more_structs : (xs ys : List StructInfo) → Grows xs (xs ++ ys)
more_structs xs ys = record { stands = kept_before xs ys; sizes = sizes_before xs ys }

kept_closed : (xs : List StructInfo) (tag : List ℕ) (s : StructInfo) (n : ℕ) → is_some (slice_get (xs ++ open_struct tag ∷ []) n) ≡ true → is_some (slice_get (xs ++ s ∷ []) n) ≡ true
kept_closed [] tag s zero h = refl
kept_closed [] tag s (suc n) h = h
kept_closed (x ∷ xs) tag s zero h = h
kept_closed (x ∷ xs) tag s (suc n) h = kept_closed xs tag s n h

sizes_closed : (xs : List StructInfo) (tag : List ℕ) (s : StructInfo) (n k : ℕ) → laid_size (laid_of (slice_get (xs ++ open_struct tag ∷ []) n)) ≡ Some k → laid_size (laid_of (slice_get (xs ++ s ∷ []) n)) ≡ Some k
sizes_closed [] tag s zero k h = cc
sizes_closed [] tag s (suc n) k h = h
sizes_closed (x ∷ xs) tag s zero k h = h
sizes_closed (x ∷ xs) tag s (suc n) k h = sizes_closed xs tag s n k h

-- the last struct is closed
pub closed_structs : (xs : List StructInfo) (tag : List ℕ) (s : StructInfo) → Grows (xs ++ open_struct tag ∷ []) (xs ++ s ∷ [])
closed_structs xs tag s = record { stands = kept_closed xs tag s; sizes = sizes_closed xs tag s }
