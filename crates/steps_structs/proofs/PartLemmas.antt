-- What members with their places say.
use Rattle.std.proofs.Common.{◌≡◌, ℕ, zero, suc, ◌+◌, ◌-◌, ◌<◌, refl, sym, ap, ◌∙◌, List, [], ◌∷◌, map, length, drop, drop-cons, slice_index, slice_index_or, arith}
use Rattle.std.specs.Prelude.{All}
use Rattle.std.proofs.lemmas.List.Elements.{All-nil, All-cons, All-head, All-tail}
use Rattle.c_types.specs.declared.shape.TypeId.{TypeId}
use Rattle.c_types.specs.declared.layout.Layout.{Layout}
use Rattle.c_types.specs.Types.{StructType, Types, type_at, IsIn}
use Rattle.c_types.specs.Layouts.{layout_of, offsets_from, next_multiple}
use Rattle.steps_facts.specs.Around.{part_types, part_offsets, IsPart}
use Rattle.steps_structs.specs.Structs.{parts_from}

module _ (table : Types) (structs : List StructType) where
  pub types_of_parts : (free : ℕ) (ms : List TypeId) → part_types table (parts_from table structs free ms) ≡ map (type_at table) ms
  types_of_parts free [] = refl
  types_of_parts free (m ∷ ms) = let layout = layout_of structs (type_at table m) in ap (λ ts. type_at table m ∷ ts) (types_of_parts (next_multiple free layout.align + layout.size) ms)

  pub offsets_of_parts : (free : ℕ) (ms : List TypeId) → part_offsets (parts_from table structs free ms) ≡ offsets_from free (map (layout_of structs) (map (type_at table) ms))
  offsets_of_parts free [] = refl
  offsets_of_parts free (m ∷ ms) = let layout = layout_of structs (type_at table m) in ap (λ os. next_multiple free layout.align ∷ os) (offsets_of_parts (next_multiple free layout.align + layout.size) ms)

  pub parts_known : (free : ℕ) (ms : List TypeId) → All (IsIn table) ms → All (IsPart table) (parts_from table structs free ms)
  parts_known free [] all = All-nil (IsPart table)
  parts_known free (m ∷ ms) all = let layout = layout_of structs (type_at table m) in
      All-cons (IsPart table) _ _ (All-head (IsIn table) m ms all) (parts_known (next_multiple free layout.align + layout.size) ms (All-tail (IsIn table) m ms all))

  abbrev laid : List TypeId → List Layout
  laid ms = map (layout_of structs) (map (type_at table) ms)

  abbrev next : (free : ℕ) → Layout → ℕ
  next free one = next_multiple free one.align + one.size

  one_on : (ms more : List TypeId) (m : TypeId) (free left free2 : ℕ) (one : Layout) → more ≡ m ∷ ms → (left ≡ 0 → ⊥) → one ≡ layout_of structs (type_at table m) → free2 ≡ next free one
      → slice_index (offsets_from free2 (laid ms)) (left - 1) ≡ slice_index (offsets_from free (laid more)) left
  one_on ms more m free zero free2 one e ne is n = absurd (ne refl)
  one_on ms more m free (suc k) free2 one e ne is n = let k_is : suc k - 1 ≡ k = omega arith in
      ap (slice_index (offsets_from free2 (laid ms))) k_is
      ∙ ap (λ f. slice_index (offsets_from f (laid ms)) k) (n ∙ ap (next free) is)
      ∙ sym (ap (λ xs. slice_index (offsets_from free (laid xs)) (suc k)) e)

  -- past a member that isn't the one asked for
  pub offset_on : (ms : List TypeId) (i j free left offset free2 : ℕ) (one : Layout) (d : TypeId) → i < length ms → j ≡ suc i → (left ≡ 0 → ⊥) → one ≡ layout_of structs (type_at table (slice_index_or ms i d))
      → offset ≡ next_multiple free one.align → free2 ≡ offset + one.size → slice_index (offsets_from free2 (laid (drop j ms))) (left - 1) ≡ slice_index (offsets_from free (laid (drop i ms))) left
  offset_on ms i j free left offset free2 one d h e ne is at n = ap (λ k. slice_index (offsets_from free2 (laid (drop k ms))) (left - 1)) e
      ∙ one_on (drop (suc i) ms) (drop i ms) (slice_index_or ms i d) free left free2 one (drop-cons ms i d h) ne is (n ∙ ap (λ o. o + one.size) at)
