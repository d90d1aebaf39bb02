-- The sizes by which a source is checked are those of its types, where its structs are laid.
use Rattle.std.proofs.Common.{◌≡◌, ℕ, zero, suc, ◌+◌, ◌*◌, ◌≤◌, max, refl, sym, ap, ◌∙◌, subst, ap₂, Bool, true, false, if◌then◌else◌, ◌==◌, nat_le, Option, None, Some, List, [], ◌∷◌, ◌++◌, map, length, slice_get, All, append_assoc, append-nil, arith}
use Rattle.std.proofs.lemmas.Bool.Decides.{nat_tests}
use Rattle.std.proofs.lemmas.List.{length_push}
use Rattle.std.proofs.lemmas.List.Elements.{All-tail}
use Rattle.c_types.specs.declared.layout.Layout.{Layout}
use Rattle.c_types.specs.Types.{CType, Void, Int, Pointer, Array, Struct, StructType}
use Rattle.c_types.specs.Layouts.{next_multiple, end_from, widest, struct_layout, layout_of, layout_of_struct}
use Rattle.c_check_rules.specs.declared.names.StructInfo.{StructInfo}
use Rattle.c_check_rules.specs.Sizes.{limit, laid_size, laid_align, laid_of, size_in, align_in, is_sized}
use Rattle.c_check_statements.specs.Placing.{placed_after, or_nothing, from_start, members_placed, members_align, sized}
use Rattle.c_check_statements.specs.Structs.{kinds_in, open_struct}
use Rattle.c_check.specs.Standing.{structs_from, structs_seen, HoldsValues, IsLaid, AreLaid}
use Rattle.c_check.proofs.Growing.{value_of, same_value, times_of}

-- the structs have the layouts of these types of structs
abbrev Agree : List StructInfo → List StructType → Type 0
Agree structs seen = (n : ℕ) (layout : Layout) → laid_of (slice_get structs n) ≡ Some layout → layout_of_struct seen n ≡ layout

abbrev HasLayout : List StructInfo → List StructType → CType → ℕ → Type 0
HasLayout structs seen t k = ((layout_of seen t).size ≡ k) × ((layout_of seen t).align ≡ align_in structs t)

module _ (structs : List StructInfo) (seen : List StructType) (agree : Agree structs seen) where
  struct_agrees : (n k : ℕ) (laid : Option Layout) → laid_of (slice_get structs n) ≡ laid → laid_size laid ≡ Some k → HasLayout structs seen (Struct n) k
  struct_agrees n k None e h = cc
  struct_agrees n k (Some l) e h = let same = agree n l e in (ap (λ (x : Layout). x.size) same ∙ same_value l.size k h, ap (λ (x : Layout). x.align) same ∙ sym (ap laid_align e))

  size_agrees : (t : CType) (k : ℕ) → size_in structs t ≡ Some k → HasLayout structs seen t k
  size_agrees Void k h = cc
  size_agrees (Int kind) k h = (same_value _ k h, refl)
  size_agrees (Pointer t) k h = (same_value 8 k h, refl)
  size_agrees (Array t count) k h = let m = times_of (size_in structs t) count k h in let below = size_agrees t m.0 m.1 in (ap (λ n. n * count) below.0 ∙ m.2, below.1)
  size_agrees (Struct n) k h = struct_agrees n k (laid_of (slice_get structs n)) refl h

  -- ---- members one after another

  none_placed : (kinds : List CType) → members_placed structs limit None kinds ≡ None
  none_placed [] = refl
  none_placed (t ∷ more) = none_placed more

  abbrev AllSized : List CType → Type 0
  AllSized [] = Unit {0}
  AllSized (t ∷ more) = (is_sized structs t ≡ true) × AllSized more

  ends_agree : (kinds : List CType) → AllSized kinds → (free x : ℕ) → members_placed structs limit (Some free) kinds ≡ Some x → end_from free (map (layout_of seen) kinds) ≡ x
  ends_agree [] all free x h = same_value free x h
  ends_agree (t ∷ more) all free x h =
      by_cases (nat_le (next_multiple free (align_in structs t) + or_nothing (size_in structs t)) limit) h (ends_agree more all.1)
    where
      after : ℕ
      after = next_multiple free (align_in structs t) + or_nothing (size_in structs t)

      same_after : next_multiple free (layout_of seen t).align + (layout_of seen t).size ≡ next_multiple free (align_in structs t) + or_nothing (size_in structs t)
      same_after = let k = value_of (size_in structs t) all.0 in let one = size_agrees t k.0 k.1 in
          ap (λ n. next_multiple free n + (layout_of seen t).size) one.1 ∙ ap (λ n. next_multiple free (align_in structs t) + n) (one.0 ∙ sym (ap or_nothing k.1))

      by_cases : (b : Bool) → members_placed structs limit (if b then Some (next_multiple free (align_in structs t) + or_nothing (size_in structs t)) else None) more ≡ Some x
          → ((free x : ℕ) → members_placed structs limit (Some free) more ≡ Some x → end_from free (map (layout_of seen) more) ≡ x)
          → end_from free (map (layout_of seen) (t ∷ more)) ≡ x
      by_cases true g rest = ap (λ n. end_from n (map (layout_of seen) more)) same_after ∙ rest _ x g
      by_cases false g rest = let none = none_placed more in cc

  aligns_agree : (kinds : List CType) → AllSized kinds → (align : ℕ) → 1 ≤ align → members_align structs align kinds ≡ max align (widest (map (layout_of seen) kinds))
  aligns_agree [] all align h = omega arith
  aligns_agree (t ∷ more) all align h =
      let k = value_of (size_in structs t) all.0 in
      let one : (layout_of seen t).align ≡ align_in structs t = (size_agrees t k.0 k.1).1 in
      let rest = aligns_agree more all.1 (max align (align_in structs t)) (omega arith) in
      omega (arith, one, rest)

widest_some : (all : List Layout) → 1 ≤ widest all
widest_some [] = omega arith
widest_some (x ∷ more) = let rest = widest_some more in omega (arith, rest)

-- ---- one struct

laid_by : (end align : ℕ) (b : Bool) (layout : Layout) → sized (if b then Some (next_multiple end align + 0) else None) align ≡ Some layout → record { size = next_multiple end align + 0; align = align } ≡ layout
laid_by end align true layout h = same_value _ layout h
laid_by end align false layout h = cc

module _ (structs : List StructInfo) (seen : List StructType) (agree : Agree structs seen) (kinds : List CType) (all : AllSized structs seen agree kinds) where
  same_align : members_align structs 1 kinds ≡ widest (map (layout_of seen) kinds)
  same_align = let some = widest_some (map (layout_of seen) kinds) in let same = aligns_agree structs seen agree kinds all 1 (omega arith) in omega (arith, some, same)

  layouts_agree : (end : Option ℕ) → members_placed structs limit from_start kinds ≡ end → (layout : Layout) → sized (placed_after limit end 0 (members_align structs 1 kinds)) (members_align structs 1 kinds) ≡ Some layout
      → struct_layout (map (layout_of seen) kinds) ≡ layout
  layouts_agree None e layout h = cc
  layouts_agree (Some x) e layout h =
      let ends : end_from 0 (map (layout_of seen) kinds) ≡ x = ends_agree structs seen agree kinds all 0 x e in
      let laid = laid_by x (members_align structs 1 kinds) (nat_le (next_multiple x (members_align structs 1 kinds) + 0) limit) layout h in
      let no_more : next_multiple x (members_align structs 1 kinds) ≡ next_multiple x (members_align structs 1 kinds) + 0 = omega arith in
      let first : struct_layout (map (layout_of seen) kinds) ≡ record { size = next_multiple x (members_align structs 1 kinds); align = members_align structs 1 kinds }
      = ap₂ (λ n w. record { size = next_multiple n w; align = w }) ends (sym same_align) in
      first ∙ (ap (λ n. record { size = n; align = members_align structs 1 kinds }) no_more ∙ laid)

-- ---- all structs

open_agrees : (before : List StructInfo) (tag : List ℕ) (n : ℕ) (layout : Layout) → laid_of (slice_get (before ++ open_struct tag ∷ []) n) ≡ Some layout → laid_of (slice_get before n) ≡ Some layout
open_agrees [] tag zero layout h = cc
open_agrees [] tag (suc n) layout h = h
open_agrees (x ∷ xs) tag zero layout h = h
open_agrees (x ∷ xs) tag (suc n) layout h = open_agrees xs tag n layout h

other_than_last : (xs : List StructInfo) (s : StructInfo) (n : ℕ) → (length xs ≡ n → ⊥) → slice_get (xs ++ s ∷ []) n ≡ slice_get xs n
other_than_last [] s zero h = absurd (h refl)
other_than_last [] s (suc n) h = refl
other_than_last (x ∷ xs) s zero h = refl
other_than_last (x ∷ xs) s (suc n) h = other_than_last xs s n (λ e. h (ap suc e))

last_got : (xs : List StructInfo) (s : StructInfo) → slice_get (xs ++ s ∷ []) (length xs) ≡ Some s
last_got [] s = refl
last_got (x ∷ xs) s = last_got xs s

all_sized : (structs : List StructInfo) (seen : List StructType) (agree : Agree structs seen) (kinds : List CType) → All (HoldsValues structs) kinds → AllSized structs seen agree kinds
all_sized structs seen agree [] h = tt
all_sized structs seen agree (t ∷ more) h = ((h 0 t (omega arith)).1, all_sized structs seen agree more (All-tail (HoldsValues structs) t more h))

abbrev type_of : ℕ → StructInfo → StructType
type_of number s = record { number = number; members = kinds_in s.members }

one_more : (before : List StructInfo) (seen : List StructType) (s : StructInfo) → Agree before seen → IsLaid before s → Agree (before ++ s ∷ []) (type_of (length before) s ∷ seen)
one_more before seen s agree laid n layout h = by_cases (length before == n) refl
  where
    opened : Agree (before ++ open_struct s.tag ∷ []) seen
    opened m l g = agree m l (open_agrees before s.tag m l g)

    by_cases : (b : Bool) → (length before == n) ≡ b → (if b then struct_layout (map (layout_of seen) (kinds_in s.members)) else layout_of_struct seen n) ≡ layout
    by_cases true e =
        let same : length before ≡ n = grind (arith, nat_tests) in
        let got : laid_of (slice_get (before ++ s ∷ []) n) ≡ s.laid = ap (λ m. laid_of (slice_get (before ++ s ∷ []) m)) (sym same) ∙ ap laid_of (last_got before s) in
        let made = layouts_agree (before ++ open_struct s.tag ∷ []) seen opened (kinds_in s.members) (all_sized (before ++ open_struct s.tag ∷ []) seen opened (kinds_in s.members) laid.members)
        (members_placed (before ++ open_struct s.tag ∷ []) limit from_start (kinds_in s.members)) refl laid.layout laid.by_members in
        made ∙ same_value laid.layout layout (sym laid.laid ∙ (sym got ∙ h))
    by_cases false e =
        let differ : length before ≡ n → ⊥ = λ same. grind (arith, nat_tests) in
        agree n layout (ap laid_of (sym (other_than_last before s n differ)) ∙ h)

agree_from : (structs : List StructInfo) (before : List StructInfo) (seen : List StructType) (number : ℕ) → number ≡ length before → Agree before seen → AreLaid before structs → Agree (before ++ structs) (structs_from number seen structs)
agree_from [] before seen number e agree laid = subst (λ xs. Agree xs seen) (sym (append-nil before)) agree
agree_from (s ∷ more) before seen number e agree laid =
    let next : Agree (before ++ s ∷ []) (type_of number s ∷ seen) = subst (λ k. Agree (before ++ s ∷ []) (type_of k s ∷ seen)) (sym e) (one_more before seen s agree laid.0) in
    let long : number + 1 ≡ length (before ++ s ∷ []) = omega (arith, e, length_push before s) in
    subst (λ xs. Agree xs (structs_from number seen (s ∷ more))) (append_assoc before (s ∷ []) more) (agree_from more (before ++ s ∷ []) (type_of number s ∷ seen) (number + 1) long next laid.1)

none_agree : Agree [] []
none_agree n layout h = cc

pub sizes_agree : (structs : List StructInfo) (t : CType) → AreLaid [] structs → is_sized structs t ≡ true → (size_in structs t ≡ Some (layout_of (structs_seen structs) t).size) × (align_in structs t ≡ (layout_of (structs_seen structs) t).align)
sizes_agree structs t laid h =
    let k = value_of (size_in structs t) h in
    let same = size_agrees structs (structs_seen structs) (agree_from structs [] [] 0 refl none_agree laid) t k.0 k.1 in
    (k.1 ∙ ap (λ n. Some n) (sym same.0), sym same.1)
