-- No struct of a checked source is larger than may be.
use Rattle.std.proofs.Common.{◌≡◌, ℕ, zero, suc, ◌+◌, ◌≤◌, ◌==◌, refl, sym, ap, ◌∙◌, subst, Bool, true, false, nat_le, List, [], ◌∷◌, ◌++◌, map, length, if◌then◌else◌, arith}
use Rattle.std.specs.Prelude.{Option, None, Some, is_some, slice_get}
use Rattle.std.proofs.lemmas.Bool.Decides.{nat_tests}
use Rattle.c_types.specs.declared.layout.Layout.{Layout}
use Rattle.c_types.specs.Types.{CType, Struct, StructType}
use Rattle.c_types.specs.Layouts.{next_multiple, struct_layout, layout_by, layout_of_struct, layout_of}
use Rattle.c_check_rules.specs.declared.names.StructInfo.{StructInfo}
use Rattle.c_check_rules.specs.Sizes.{limit, laid_size, laid_of, size_in}
use Rattle.c_check_statements.specs.declared.state.State.{State}
use Rattle.c_check_statements.specs.Placing.{placed_after, members_placed, from_start, members_align, sized, struct_laid}
use Rattle.c_check_statements.specs.Structs.{kinds_in, open_struct}
use Rattle.c_check.specs.Standing.{structs_from, structs_seen, IsLaid, AreLaid}
use Rattle.c_check.proofs.Agreeing.{sizes_agree}
use Rattle.bounds_plan.specs.laws.Laws.{most_bytes}
use Rattle.c_accepted.proofs.Sourcing.{StaySmall}

-- ---- what stands in front of a list of structs is laid too

front_laid : (xs ys before : List StructInfo) → AreLaid before (xs ++ ys) → AreLaid before xs
front_laid [] ys before h = tt
front_laid (s ∷ xs) ys before h = (h.0, front_laid xs ys (before ++ (s ∷ [])) h.1)

record LaidThere (s : StructInfo) : Type 0 where
  before : List StructInfo
  laid : IsLaid before s

laid_there : (structs before : List StructInfo) (n : ℕ) (s : StructInfo) → AreLaid before structs → slice_get structs n ≡ Some s → LaidThere s
laid_there [] before n s h e = cc
laid_there (x ∷ more) before zero s h e = let same : x ≡ s = cc in record { before = before; laid = subst (IsLaid before) same h.0 }
laid_there (x ∷ more) before (suc n) s h e = laid_there more (before ++ (x ∷ [])) n s h.1 e

-- ---- the size of a struct

same_layout : (x y : Layout) → Some x ≡ Some y → x ≡ y
same_layout x y e = cc

placed_small : (b : Bool) (n most align : ℕ) (layout : Layout) → nat_le n most ≡ b → sized (if b then Some n else None) align ≡ Some layout → layout.size ≤ most
placed_small true n most align layout e h = let le : n ≤ most = grind (arith, nat_tests) in let size = ap (λ (l : Layout). l.size) (same_layout record { size = n; align = align } layout h) in omega (arith, size)
placed_small false n most align layout e h = cc

laid_small : (most : ℕ) (structs : List StructInfo) (kinds : List CType) (layout : Layout) → struct_laid most structs kinds ≡ Some layout → layout.size ≤ most
laid_small most structs kinds layout h = by (members_placed structs most from_start kinds) (members_align structs 1 kinds) h
  where
    by : (free : Option ℕ) (align : ℕ) → sized (placed_after most free 0 align) align ≡ Some layout → layout.size ≤ most
    by None align k = cc
    by (Some free) align k = placed_small (nat_le (next_multiple free align + 0) most) (next_multiple free align + 0) most align layout refl k

-- one of no such number has no size
unknown_layout : (structs : List StructInfo) (at : ℕ) (earlier : List StructType) (n : ℕ) → at + length structs ≤ n → layout_of_struct (structs_from at earlier structs) n ≡ layout_of_struct earlier n
unknown_layout [] at earlier n le = refl
unknown_layout (s ∷ more) at earlier n le = let other : (at == n) ≡ false = grind (arith, nat_tests) in
    unknown_layout more (at + 1) (record { number = at; members = kinds_in s.members } ∷ earlier) n (omega arith)
    ∙ ap (λ b. if b then struct_layout (map (layout_by (layout_of_struct earlier)) (kinds_in s.members)) else layout_of_struct earlier n) other

past_end : (structs : List StructInfo) (n : ℕ) → slice_get structs n ≡ None → length structs ≤ n
past_end [] n e = omega arith
past_end (s ∷ more) zero e = cc
past_end (s ∷ more) (suc n) e = omega (arith, past_end more n e)

same_some : {X : Type 0} (x y : X) → Some x ≡ Some y → x ≡ y
same_some x y e = cc

struct_small : (structs : List StructInfo) (n : ℕ) (o : Option StructInfo) → AreLaid [] structs → slice_get structs n ≡ o → (layout_of (structs_seen structs) (Struct n)).size ≤ most_bytes
struct_small structs n None h e = let size : (layout_of (structs_seen structs) (Struct n)).size ≡ 0 = ap (λ (l : Layout). l.size) (unknown_layout structs 0 [] n (omega (arith, past_end structs n e))) in omega (arith, size)
struct_small structs n (Some s) h e =
    let one = laid_there structs [] n s h e in let size : size_in structs (Struct n) ≡ Some one.laid.layout.size = ap (λ o. laid_size (laid_of o)) e ∙ ap laid_size one.laid.laid in
    let agrees = (sizes_agree structs (Struct n) h (ap is_some size)).0 in
    let same = same_some one.laid.layout.size (layout_of (structs_seen structs) (Struct n)).size (sym size ∙ agrees) in
    omega (arith, same, laid_small limit (one.before ++ (open_struct s.tag ∷ [])) (kinds_in s.members) one.laid.layout one.laid.by_members)

pub stay_small : (state : State) → AreLaid [] state.scope.structs → StaySmall state
stay_small state h structs front n = struct_small structs n (slice_get structs n) (front_laid structs front.more [] (subst (AreLaid []) front.is h)) refl
