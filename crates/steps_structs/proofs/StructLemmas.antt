-- One struct more leaves what is known of the others.
use Rattle.std.proofs.Common.{◌≡◌, ℕ, zero, suc, ◌+◌, ◌==◌, if◌then◌else◌, refl, sym, ap, ◌∙◌, List, [], ◌∷◌, ◌++◌, map, fold, length, arith, Bool, true, false, Option, Some, None, slice_get}
use Rattle.std.specs.Prelude.{All}
use Rattle.std.proofs.Math.Dec.{eqb-zero-suc, eqb-suc-zero, eqb-suc-suc}
use Rattle.std.proofs.lemmas.List.Sums.{fold_push}
use Rattle.std.proofs.lemmas.List.Elements.{All-nil, All-head, All-tail, All-push}
use Rattle.c_types.specs.declared.layout.Layout.{Layout}
use Rattle.c_types.specs.Types.{CType, StructType, Types, type_at, members_of, IsIn}
use Rattle.c_types.specs.Layouts.{layout_of_struct}
use Rattle.steps_structs.specs.declared.known.KnownStruct.{KnownStruct}
use Rattle.bounds_plan.specs.meaning.Core.{Scalar}
use Rattle.bounds_plan.specs.elaboration.Scalars.{scalars_of_struct}
use Rattle.steps_facts.specs.declared.knows.ScalarAt.{ScalarAt}
use Rattle.steps_structs.specs.Scalars.{few}
use Rattle.steps_structs.specs.Structs.{with_known, structs_known, tags_known, kept, scalars_kept, members_kept, members_ids, HasKnown, AreKnown, laid_by, scalars_from}

module _ (table : Types) where
  as_many_from : (ks : List KnownStruct) (before : List StructType) → length (fold (with_known table) before ks) ≡ length before + length ks
  as_many_from [] before = omega arith
  as_many_from (k ∷ ks) before = as_many_from ks (with_known table before k) ∙ omega arith

  pub as_many : (ks : List KnownStruct) → length (structs_known table ks) ≡ length ks
  as_many ks = let more = as_many_from ks [] in omega (arith, more)

  pub known_push : (ks : List KnownStruct) (k : KnownStruct) → structs_known table (ks ++ k ∷ []) ≡ with_known table (structs_known table ks) k
  known_push ks k = fold_push (with_known table) [] ks k

  kept_push : (ks : List KnownStruct) (k : KnownStruct) (n : ℕ) → kept (slice_get (ks ++ k ∷ []) n) ≡ (if length ks == n then k.layout else kept (slice_get ks n))
  kept_push [] k zero = refl
  kept_push [] k (suc n) = ap (λ b. if b then k.layout else kept None) (sym (eqb-zero-suc n))
  kept_push (x ∷ ks) k zero = ap (λ b. if b then k.layout else x.layout) (sym (eqb-suc-zero (length ks)))
  kept_push (x ∷ ks) k (suc n) = kept_push ks k n ∙ ap (λ b. if b then k.layout else kept (slice_get ks n)) (sym (eqb-suc-suc (length ks) n))

  types_push : (ks : List KnownStruct) (k : KnownStruct) (n : ℕ) → members_kept table (slice_get (ks ++ k ∷ []) n) ≡ (if length ks == n then map (type_at table) k.members else members_kept table (slice_get ks n))
  types_push [] k zero = refl
  types_push [] k (suc n) = ap (λ b. if b then map (type_at table) k.members else []) (sym (eqb-zero-suc n))
  types_push (x ∷ ks) k zero = ap (λ b. if b then map (type_at table) k.members else map (type_at table) x.members) (sym (eqb-suc-zero (length ks)))
  types_push (x ∷ ks) k (suc n) = types_push ks k n ∙ ap (λ b. if b then map (type_at table) k.members else members_kept table (slice_get ks n)) (sym (eqb-suc-suc (length ks) n))

  scalars_push : (ks : List KnownStruct) (k : KnownStruct) (n : ℕ) → scalars_kept (slice_get (ks ++ k ∷ []) n) ≡ (if length ks == n then k.scalars else scalars_kept (slice_get ks n))
  scalars_push [] k zero = refl
  scalars_push [] k (suc n) = ap (λ b. if b then k.scalars else Some []) (sym (eqb-zero-suc n))
  scalars_push (x ∷ ks) k zero = ap (λ b. if b then k.scalars else x.scalars) (sym (eqb-suc-zero (length ks)))
  scalars_push (x ∷ ks) k (suc n) = scalars_push ks k n ∙ ap (λ b. if b then k.scalars else scalars_kept (slice_get ks n)) (sym (eqb-suc-suc (length ks) n))

  few_of_either : (b : Bool) (xs ys : List Scalar) → (if b then few xs else few ys) ≡ few (if b then xs else ys)
  few_of_either true xs ys = refl
  few_of_either false xs ys = refl

  scalars_more : (ks : List KnownStruct) (k : KnownStruct) → AreKnown table ks → k.scalars ≡ few (scalars_from (structs_known table ks) 0 (map (type_at table) k.members))
      → (n : ℕ) → scalars_kept (slice_get (ks ++ k ∷ []) n) ≡ few (scalars_of_struct (structs_known table (ks ++ k ∷ [])) n)
  scalars_more ks k all held n = let own = scalars_from (structs_known table ks) 0 (map (type_at table) k.members) in let before = scalars_of_struct (structs_known table ks) n in
      scalars_push ks k n
      ∙ ap (λ (l : Option (List ScalarAt)). if length ks == n then l else scalars_kept (slice_get ks n)) held
      ∙ ap (λ (l : Option (List ScalarAt)). if length ks == n then few own else l) (all.scalars n)
      ∙ few_of_either (length ks == n) own before
      ∙ ap (λ m. few (if m == n then own else before)) (sym (as_many ks))
      ∙ ap (λ ss. few (scalars_of_struct ss n)) (sym (known_push ks k))

  laid_more : (ks : List KnownStruct) (k : KnownStruct) → AreKnown table ks → k.layout ≡ laid_by (structs_known table ks) (map (type_at table) k.members)
      → (n : ℕ) → layout_of_struct (structs_known table (ks ++ k ∷ [])) n ≡ kept (slice_get (ks ++ k ∷ []) n)
  laid_more ks k all laid n = ap (λ ss. layout_of_struct ss n) (known_push ks k)
      ∙ ap (λ m. if m == n then laid_by (structs_known table ks) (map (type_at table) k.members) else layout_of_struct (structs_known table ks) n) (as_many ks)
      ∙ ap (λ (l : Layout). if length ks == n then l else layout_of_struct (structs_known table ks) n) (sym laid)
      ∙ ap (λ (l : Layout). if length ks == n then k.layout else l) (all.laid n)
      ∙ sym (kept_push ks k n)

  types_more : (ks : List KnownStruct) (k : KnownStruct) → AreKnown table ks
      → (n : ℕ) → members_of (structs_known table (ks ++ k ∷ [])) n ≡ members_kept table (slice_get (ks ++ k ∷ []) n)
  types_more ks k all n = ap (λ ss. members_of ss n) (known_push ks k)
      ∙ ap (λ m. if m == n then map (type_at table) k.members else members_of (structs_known table ks) n) (as_many ks)
      ∙ ap (λ (l : List CType). if length ks == n then map (type_at table) k.members else l) (all.types n)
      ∙ sym (types_push ks k n)

  -- with one struct more, all are known
  pub known_more : (ks : List KnownStruct) (k : KnownStruct) → AreKnown table ks → All (IsIn table) k.members → k.layout ≡ laid_by (structs_known table ks) (map (type_at table) k.members)
      → k.scalars ≡ few (scalars_from (structs_known table ks) 0 (map (type_at table) k.members)) → AreKnown table (ks ++ k ∷ [])
  known_more ks k all inside laid held = record {
    laid = laid_more ks k all laid;
    scalars = scalars_more ks k all held;
    types = types_more ks k all;
    members = All-push (HasKnown table) ks k all.members inside;
  }

  tags_as_many : (ks : List KnownStruct) → length (tags_known ks) ≡ length ks
  tags_as_many [] = refl
  tags_as_many (k ∷ ks) = ap suc (tags_as_many ks)

  -- what one struct more is to the definition
  pub structs_more : (ks : List KnownStruct) (k : KnownStruct) → structs_known table (ks ++ k ∷ []) ≡ record { number = length (tags_known ks); members = map (type_at table) k.members } ∷ structs_known table ks
  structs_more ks k = known_push ks k ∙ ap (λ n. record { number = n; members = map (type_at table) k.members } ∷ structs_known table ks) (as_many ks ∙ sym (tags_as_many ks))

  -- the types of the members of each struct are in the table
  pub ids_known : (ks : List KnownStruct) (n : ℕ) → All (HasKnown table) ks → All (IsIn table) (members_ids (slice_get ks n))
  ids_known [] n all = All-nil (IsIn table)
  ids_known (k ∷ ks) zero all = All-head (HasKnown table) k ks all
  ids_known (k ∷ ks) (suc n) all = ids_known ks n (All-tail (HasKnown table) k ks all)
