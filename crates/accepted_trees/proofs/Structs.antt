-- The structs of a checked source are within the limits, and so is each type that stands by them.
use Rattle.std.proofs.Common.{◌≡◌, ℕ, zero, suc, ◌+◌, ◌*◌, ◌<◌, ◌≤◌, ◌==◌, refl, sym, ap, ◌∙◌, subst, Bool, true, false, ◌&&◌, nat_le, is_some, List, [], ◌∷◌, ◌++◌, map, length, append_assoc, if◌then◌else◌, arith}
use Rattle.std.proofs.lemmas.Bool.Decides.{nat_tests}
use Rattle.std.proofs.lemmas.List.{length_push}
use Rattle.std.proofs.lemmas.List.Elements.{All-tail}
use Rattle.std.proofs.Math.Nat.{mul-suc}
use Rattle.std.specs.Prelude.{None, Some, All, slice_get, slice_index, slice_index_or}
use Rattle.std.specs.List.{AllByRecursion}
use Rattle.c_types.specs.declared.layout.Layout.{Layout}
use Rattle.c_types.specs.Types.{CType, Void, Int, Pointer, Array, Struct, StructType, members_of}
use Rattle.c_types.specs.Layouts.{next_multiple, offsets_from, end_from, widest, struct_layout, layout_by, layout_of, layout_of_struct}
use Rattle.c_check_rules.specs.declared.names.StructInfo.{StructInfo}
use Rattle.c_check_rules.specs.declared.names.Member.{Member}
use Rattle.c_check_rules.specs.Sizes.{limit, times_in, laid_size, laid_of, size_in as size_known, is_sized, is_within}
use Rattle.c_check_statements.specs.declared.state.State.{State}
use Rattle.c_check_statements.specs.Structs.{kinds_in, open_struct}
use Rattle.c_check.specs.Standing.{structs_from, structs_seen, HoldsValues, IsLaid, AreLaid}
use Rattle.c_check.proofs.Agreeing.{sizes_agree}
use Rattle.c_check.proofs.Growing.{both_hold, same_value, value_of, there, times_of, sized_grows, within_grows, more_structs, closed_structs}
use Rattle.bounds_plan.specs.laws.Laws.{most_bytes}
use Rattle.bounds_plan.specs.elaboration.Types.{size_in}
use Rattle.bounds_plan.specs.elaboration.Places.{offset_in, member_type}
use Rattle.c_accepted.proofs.Going.{begins_itself}
use Rattle.c_accepted.proofs.Limits.{stay_small}
use Rattle.accepted_trees.specs.Limits.{TypeWithin, TypesWithin, StructsWithin}
use Rattle.accepted_trees.proofs.Sizes.{next_enough, width_some, widest_some, struct_some, end_grows}

-- ---- what is sized beside an open struct is sized without it

open_size : (before : List StructInfo) (tag : List ℕ) (m n : ℕ) → laid_size (laid_of (slice_get (before ++ (open_struct tag ∷ [])) m)) ≡ Some n → laid_size (laid_of (slice_get before m)) ≡ Some n
open_size [] tag zero n h = cc
open_size [] tag (suc m) n h = h
open_size (x ∷ xs) tag zero n h = h
open_size (x ∷ xs) tag (suc m) n h = open_size xs tag m n h

size_before : (before : List StructInfo) (tag : List ℕ) (t : CType) (n : ℕ) → size_known (before ++ (open_struct tag ∷ [])) t ≡ Some n → size_known before t ≡ Some n
size_before before tag Void n h = h
size_before before tag (Int kind) n h = h
size_before before tag (Pointer t) n h = h
size_before before tag (Array t count) n h = let m = times_of (size_known (before ++ (open_struct tag ∷ [])) t) count n h in ap (λ o. times_in o count) (size_before before tag t m.0 m.1 ∙ sym m.1) ∙ h
size_before before tag (Struct number) n h = open_size before tag number n h

sized_before : (before : List StructInfo) (tag : List ℕ) (t : CType) → is_sized (before ++ (open_struct tag ∷ [])) t ≡ true → is_sized before t ≡ true
sized_before before tag t h = let k = value_of (size_known (before ++ (open_struct tag ∷ [])) t) h in there (size_known before t) k.0 (size_before before tag t k.0 k.1)

element_sized : (before : List StructInfo) (t : CType) (count : ℕ) → is_sized before (Array t count) ≡ true → is_sized before t ≡ true
element_sized before t count h = let k = value_of (size_known before (Array t count)) h in let m = times_of (size_known before t) count k.0 k.1 in there (size_known before t) m.0 m.1

below : (before : List StructInfo) (m : ℕ) → is_some (laid_size (laid_of (slice_get before m))) ≡ true → m < length before
below [] m h = cc
below (x ∷ xs) zero h = omega arith
below (x ∷ xs) (suc m) h = omega (arith, below xs m h)

-- ---- a struct more does not change what was sized before

module _ (before : List StructInfo) (seen : List StructType) (x : StructType) (next : x.number ≡ length before) where
  same_layout : (t : CType) → is_sized before t ≡ true → layout_of (x ∷ seen) t ≡ layout_of seen t
  same_layout Void h = refl
  same_layout (Int kind) h = refl
  same_layout (Pointer t) h = refl
  same_layout (Array t count) h = ap (λ (l : Layout). record { size = l.size * count; align = l.align }) (same_layout t (element_sized before t count h))
  same_layout (Struct number) h = let lt = below before number h in let other : (x.number == number) ≡ false = grind (arith, nat_tests) in
      ap (λ b. if b then struct_layout (map (layout_by (layout_of_struct seen)) x.members) else layout_of_struct seen number) other

  same_layouts : (ts : List CType) → AllByRecursion (λ t. is_sized before t ≡ true) ts → map (layout_of (x ∷ seen)) ts ≡ map (layout_of seen) ts
  same_layouts [] h = refl
  same_layouts (t ∷ ts) h = λ i. same_layout t h.0 i ∷ same_layouts ts h.1 i

-- ---- sizes from 1

module _ (laid : ℕ → Layout) (some : (n : ℕ) → 1 ≤ (laid n).align) where
  -- the members of a struct end in it
  inside_from : (free : ℕ) (ts : List CType) (i : ℕ) → slice_index (offsets_from free (map (layout_by laid) ts)) i + (layout_by laid (slice_index_or ts i Void)).size ≤ end_from free (map (layout_by laid) ts)
  inside_from free [] i = omega arith
  inside_from free (t ∷ ts) zero = end_grows laid some (next_multiple free (layout_by laid t).align + (layout_by laid t).size) ts
  inside_from free (t ∷ ts) (suc i) = inside_from (next_multiple free (layout_by laid t).align + (layout_by laid t).size) ts i

  inside_struct : (ts : List CType) (i : ℕ) → slice_index (offsets_from 0 (map (layout_by laid) ts)) i + (layout_by laid (slice_index_or ts i Void)).size ≤ (struct_layout (map (layout_by laid) ts)).size
  inside_struct ts i = let a = inside_from 0 ts i in let ms = map (layout_by laid) ts in let b = next_enough (end_from 0 ms) (widest ms) (widest_some ms) in omega (arith, a, b)

  first_inside : (t : CType) (ts : List CType) → (layout_by laid t).size ≤ (struct_layout (map (layout_by laid) (t ∷ ts))).size
  first_inside t ts = let a = inside_struct (t ∷ ts) 0 in omega (arith, a)

count_some : (m count k : ℕ) (b : Bool) → nat_le 1 count ≡ b → (if b && nat_le count limit && nat_le (m * count) limit then Some (m * count) else None) ≡ Some k → 1 ≤ count
count_some m count k true e h = grind (arith, nat_tests)
count_some m count k false e h = cc

count_small : (m count k : ℕ) (a b : Bool) → nat_le (m * count) limit ≡ b → (if a && b then Some (m * count) else None) ≡ Some k → m * count ≤ limit
count_small m count k a true e h = grind (arith, nat_tests)
count_small m count k true false e h = cc
count_small m count k false false e h = cc

product_some : (a b : ℕ) → 1 ≤ a → 1 ≤ b → 1 ≤ a * b
product_some a zero h g = absurd (omega (arith, g))
product_some a (suc b) h g = let e : a * suc b ≡ a * b + a = mul-suc a b in omega (arith, e, h)

-- ---- all structs

-- what is known of structs, and of their types in their order
record Wide (before : List StructInfo) (seen : List StructType) : Type 0 where
  sized : (number : ℕ) → AllByRecursion (λ t. is_sized before t ≡ true) (members_of seen number)
  within : (number : ℕ) → AllByRecursion (λ t. is_within before t ≡ true) (members_of seen number)
  made : (number : ℕ) → layout_of_struct seen number ≡ struct_layout (map (layout_of seen) (members_of seen number))
  some : (t : CType) → is_sized before t ≡ true → 1 ≤ size_in seen t

each_other : {X : Type 0} (P Q : X → Type 0) → ((x : X) → P x → Q x) → (xs : List X) → AllByRecursion P xs → AllByRecursion Q xs
each_other P Q f [] h = tt
each_other P Q f (x ∷ xs) h = (f x h.0, each_other P Q f xs h.1)

members_sized : (structs : List StructInfo) (kinds : List CType) → All (HoldsValues structs) kinds → AllByRecursion (λ t. is_sized structs t ≡ true) kinds
members_sized structs [] h = tt
members_sized structs (t ∷ more) h = ((h 0 t (omega arith)).1, members_sized structs more (All-tail (HoldsValues structs) t more h))

members_within : (structs : List StructInfo) (kinds : List CType) → All (HoldsValues structs) kinds → AllByRecursion (λ t. is_within structs t ≡ true) kinds
members_within structs [] h = tt
members_within structs (t ∷ more) h = ((h 0 t (omega arith)).0.0, members_within structs more (All-tail (HoldsValues structs) t more h))

other_than_last : (xs : List StructInfo) (s : StructInfo) (n : ℕ) → (length xs == n) ≡ false → slice_get (xs ++ (s ∷ [])) n ≡ slice_get xs n
other_than_last [] s zero h = cc
other_than_last [] s (suc n) h = refl
other_than_last (x ∷ xs) s zero h = refl
other_than_last (x ∷ xs) s (suc n) h = let e : (length xs == n) ≡ false = grind (arith, nat_tests) in other_than_last xs s n e

module _ (before : List StructInfo) (seen : List StructType) (s : StructInfo) (w : Wide before seen) (laid : IsLaid before s) where
  abbrev kinds : List CType
  kinds = kinds_in s.members

  abbrev new : StructType
  new = record { number = length before; members = kinds }

  kinds_sized : AllByRecursion (λ t. is_sized before t ≡ true) kinds
  kinds_sized = each_other (λ t. is_sized (before ++ (open_struct s.tag ∷ [])) t ≡ true) (λ t. is_sized before t ≡ true) (sized_before before s.tag) kinds (members_sized (before ++ (open_struct s.tag ∷ [])) kinds laid.members)

  next_sized : (b : Bool) (number : ℕ) → AllByRecursion (λ t. is_sized (before ++ (s ∷ [])) t ≡ true) (if b then kinds else members_of seen number)
  next_sized true number = each_other (λ t. is_sized before t ≡ true) (λ t. is_sized (before ++ (s ∷ [])) t ≡ true) (sized_grows before (before ++ (s ∷ [])) (more_structs before (s ∷ []))) kinds kinds_sized
  next_sized false number = each_other (λ t. is_sized before t ≡ true) (λ t. is_sized (before ++ (s ∷ [])) t ≡ true) (sized_grows before (before ++ (s ∷ [])) (more_structs before (s ∷ []))) (members_of seen number) (w.sized number)

  next_within : (b : Bool) (number : ℕ) → AllByRecursion (λ t. is_within (before ++ (s ∷ [])) t ≡ true) (if b then kinds else members_of seen number)
  next_within true number = each_other (λ t. is_within (before ++ (open_struct s.tag ∷ [])) t ≡ true) (λ t. is_within (before ++ (s ∷ [])) t ≡ true)
      (within_grows (before ++ (open_struct s.tag ∷ [])) (before ++ (s ∷ [])) (closed_structs before s.tag s)) kinds (members_within (before ++ (open_struct s.tag ∷ [])) kinds laid.members)
  next_within false number = each_other (λ t. is_within before t ≡ true) (λ t. is_within (before ++ (s ∷ [])) t ≡ true) (within_grows before (before ++ (s ∷ [])) (more_structs before (s ∷ []))) (members_of seen number) (w.within number)

  next_made : (b : Bool) (number : ℕ) → (if b then struct_layout (map (layout_of seen) kinds) else layout_of_struct seen number) ≡ struct_layout (map (layout_of (new ∷ seen)) (if b then kinds else members_of seen number))
  next_made true number = ap struct_layout (sym (same_layouts before seen new refl kinds kinds_sized))
  next_made false number = w.made number ∙ ap struct_layout (sym (same_layouts before seen new refl (members_of seen number) (w.sized number)))

  first_some : (ts : List CType) → 1 ≤ length ts → AllByRecursion (λ t. is_sized before t ≡ true) ts → 1 ≤ (struct_layout (map (layout_of seen) ts)).size
  first_some [] le h = absurd (omega (arith, le))
  first_some (t ∷ ts) le h = let a = first_inside (layout_of_struct seen) (struct_some seen) t ts in let b = w.some t h.0 in omega (arith, a, b)

  as_many : (ms : List Member) → length (kinds_in ms) ≡ length ms
  as_many [] = refl
  as_many (m ∷ ms) = ap suc (as_many ms)

  struct_next : (b : Bool) (number : ℕ) → (length before == number) ≡ b → is_sized (before ++ (s ∷ [])) (Struct number) ≡ true → 1 ≤ (if b then struct_layout (map (layout_of seen) kinds) else layout_of_struct seen number).size
  struct_next true number e h = let some = laid.some in let many = as_many s.members in first_some kinds (omega (arith, some, many)) kinds_sized
  struct_next false number e h = w.some (Struct number) (ap (λ o. is_some (laid_size (laid_of o))) (sym (other_than_last before s number e)) ∙ h)

  next_some : (t : CType) → is_sized (before ++ (s ∷ [])) t ≡ true → 1 ≤ size_in (new ∷ seen) t
  next_some Void h = cc
  next_some (Int kind) h = width_some kind
  next_some (Pointer t) h = omega arith
  next_some (Array t count) h =
      let k = value_of (size_known (before ++ (s ∷ [])) (Array t count)) h in let m = times_of (size_known (before ++ (s ∷ [])) t) count k.0 k.1 in
      let counted : times_in (Some m.0) count ≡ Some k.0 = ap (λ o. times_in o count) (sym m.1) ∙ k.1 in
      product_some (size_in (new ∷ seen) t) count (next_some t (there (size_known (before ++ (s ∷ [])) t) m.0 m.1)) (count_some m.0 count k.0 (nat_le 1 count) refl counted)
  next_some (Struct number) h = struct_next (length before == number) number refl h

  widened : Wide (before ++ (s ∷ [])) (new ∷ seen)
  widened = record { sized = λ number. next_sized (length before == number) number; within = λ number. next_within (length before == number) number; made = λ number. next_made (length before == number) number; some = next_some }

wide_from : (structs before : List StructInfo) (seen : List StructType) (number : ℕ) → number ≡ length before → Wide before seen → AreLaid before structs → Wide (before ++ structs) (structs_from number seen structs)
wide_from [] before seen number e w laid = subst (λ xs. Wide xs seen) (sym (nothing_more before)) w
  where
    nothing_more : (xs : List StructInfo) → xs ++ [] ≡ xs
    nothing_more [] = refl
    nothing_more (x ∷ xs) = ap (λ ys. x ∷ ys) (nothing_more xs)
wide_from (s ∷ more) before seen number e w laid =
    let next = subst (λ k. Wide (before ++ (s ∷ [])) (record { number = k; members = kinds_in s.members } ∷ seen)) (sym e) (widened before seen s w laid.0) in
    let long : number + 1 ≡ length (before ++ (s ∷ [])) = omega (arith, e, length_push before s) in
    subst (λ xs. Wide xs (structs_from number seen (s ∷ more))) (append_assoc before (s ∷ []) more) (wide_from more (before ++ (s ∷ [])) (record { number = number; members = kinds_in s.members } ∷ seen) (number + 1) long next laid.1)

none_wide : Wide [] []
none_wide = record { sized = λ number. tt; within = λ number. tt; made = λ number. refl; some = none_some }
  where
    none_some : (t : CType) → is_sized [] t ≡ true → 1 ≤ size_in [] t
    none_some Void h = cc
    none_some (Int kind) h = width_some kind
    none_some (Pointer t) h = omega arith
    none_some (Array t count) h =
        let k = value_of (size_known [] (Array t count)) h in let m = times_of (size_known [] t) count k.0 k.1 in
        let counted : times_in (Some m.0) count ≡ Some k.0 = ap (λ o. times_in o count) (sym m.1) ∙ k.1 in
        product_some (size_in [] t) count (none_some t (there (size_known [] t) m.0 m.1)) (count_some m.0 count k.0 (nat_le 1 count) refl counted)
    none_some (Struct number) h = cc

wide : (structs : List StructInfo) → AreLaid [] structs → Wide structs (structs_seen structs)
wide structs laid = wide_from structs [] [] 0 refl none_wide laid

-- ---- types that stand

closed : (structs before : List StructInfo) (n : ℕ) → AreLaid before structs → is_some (slice_get structs n) ≡ true → is_some (laid_size (laid_of (slice_get structs n))) ≡ true
closed [] before n laid h = cc
closed (s ∷ more) before zero laid h = ap (λ o. is_some (laid_size o)) laid.0.laid
closed (s ∷ more) before (suc n) laid h = closed more (before ++ (s ∷ [])) n laid.1 h

module _ (state : State) (laid : AreLaid [] state.scope.structs) where
  struct_most : (number : ℕ) → size_in (structs_seen state.scope.structs) (Struct number) ≤ most_bytes
  struct_most number = stay_small state laid state.scope.structs (begins_itself state.scope.structs) number

  -- an array is no larger, since the checker measures it
  array_most : (t : CType) (count : ℕ) → is_sized state.scope.structs (Array t count) ≡ true → size_in (structs_seen state.scope.structs) (Array t count) ≤ most_bytes
  array_most t count h =
      let k = value_of (size_known state.scope.structs (Array t count)) h in let m = times_of (size_known state.scope.structs t) count k.0 k.1 in
      let counted : times_in (Some m.0) count ≡ Some k.0 = ap (λ o. times_in o count) (sym m.1) ∙ k.1 in
      let small = count_small m.0 count k.0 (nat_le 1 count && nat_le count limit) (nat_le (m.0 * count) limit) refl counted in
      let agree = same_value k.0 (size_in (structs_seen state.scope.structs) (Array t count)) (sym k.1 ∙ (sizes_agree state.scope.structs (Array t count) laid h).0) in
      let product = m.2 in omega (arith, small, product, agree)

  pub type_within : (t : CType) → is_within state.scope.structs t ≡ true → TypeWithin (structs_seen state.scope.structs) t
  type_within Void h = tt
  type_within (Int kind) h = tt
  type_within (Pointer t) h = type_within t h
  type_within (Array t count) h = let both = both_hold (is_sized state.scope.structs (Array t count)) (is_within state.scope.structs t) h in
      (type_within t both.1, ((wide state.scope.structs laid).some (Array t count) both.0, array_most t count both.0))
  type_within (Struct number) h = ((wide state.scope.structs laid).some (Struct number) (closed state.scope.structs [] number laid h), struct_most number)

  pub types_within : (ts : List CType) → AllByRecursion (λ t. is_within state.scope.structs t ≡ true) ts → TypesWithin (structs_seen state.scope.structs) ts
  types_within ts h = each_other (λ t. is_within state.scope.structs t ≡ true) (TypeWithin (structs_seen state.scope.structs)) type_within ts h

  member_inside : (number index : ℕ) → offset_in (structs_seen state.scope.structs) number index + size_in (structs_seen state.scope.structs) (member_type (structs_seen state.scope.structs) number index) ≤ size_in (structs_seen state.scope.structs) (Struct number)
  member_inside number index = let seen = structs_seen state.scope.structs in
      let a = inside_struct (layout_of_struct seen) (struct_some seen) (members_of seen number) index in let e = ap (λ (l : Layout). l.size) ((wide state.scope.structs laid).made number) in omega (arith, a, e)

  pub structs_within : StructsWithin (structs_seen state.scope.structs)
  structs_within = record { sizes = struct_most; types = λ number. types_within (members_of (structs_seen state.scope.structs) number) ((wide state.scope.structs laid).within number); inside = member_inside }
