-- The loop that lays out a struct: what it has so far and what is left make the whole.
use Rattle.std.proofs.Common.{◌≡◌, ℕ, ◌+◌, ◌<◌, ◌≤◌, max, Bool, true, false, eqb, cond, ◌||◌, List, [], ◌∷◌, ◌++◌, map, length, get_or, drop, refl, ap, sym, ◌∙◌, subst, arith}
use Rattle.std.proofs.lemmas.List.{append_assoc, drop_more, drop_all}
use Rattle.c_types.specs.declared.layout.Layout.{Layout}
use Rattle.c_types.specs.declared.shape.TypeId.{TypeId}
use Rattle.c_types.specs.Types.{Struct, StructType, Types, type_at, structs_of, is_ended, members_of, members_in, members_at}
use Rattle.c_types.specs.Layouts.{next_multiple, offsets_from, end_from, widest}

pub record IsLaying (items : List ℕ) (end align : ℕ) (rest all : List Layout) : Type 0 where
  pub offsets : items ++ offsets_from end rest ≡ offsets_from 0 all
  pub ends : end_from end rest ≡ end_from 0 all
  pub aligns : max align (widest rest) ≡ widest all

widest-some : (ms : List Layout) → 1 ≤ widest ms
widest-some [] = omega arith
widest-some (m ∷ ms) = omega (arith, widest-some ms)

pub laying-none : (items : List ℕ) (all : List Layout) → items ≡ [] → IsLaying items 0 1 all all
laying-none items all none = record { offsets = ap (λ xs. xs ++ offsets_from 0 all) none; ends = refl; aligns = omega (arith, widest-some all) }

laying-more : (items : List ℕ) (end align : ℕ) (l : Layout) (rest all : List Layout) → IsLaying items end align (l ∷ rest) all
    → IsLaying (items ++ next_multiple end l.align ∷ []) (next_multiple end l.align + l.size) (max align l.align) rest all
laying-more items end align l rest all h = record {
  offsets = append_assoc items (next_multiple end l.align ∷ []) (offsets_from (next_multiple end l.align + l.size) rest) ∙ h.offsets;
  ends = h.ends;
  aligns = omega (arith, h.aligns);
}

pub laying-step : (at : TypeId → Layout) (members : List TypeId) (i : ℕ) (d : TypeId) (items more : List ℕ) (end align offset wider : ℕ) (l : Layout) → i < length members
    → l ≡ at (get_or members i d) → offset ≡ next_multiple end l.align → more ≡ items ++ offset ∷ [] → wider ≡ max align l.align
    → IsLaying items end align (map at (drop i members)) (map at members) → IsLaying more (offset + l.size) wider (map at (drop (i + 1) members)) (map at members)
laying-step at members i d items more end align offset wider l inside is stands pushed widened h =
    let rest = map at (drop (i + 1) members) in
    let split : map at (drop i members) ≡ l ∷ rest = ap (map at) (drop_more members i d inside) ∙ ap (λ x. x ∷ rest) (sym is) in
    let now : IsLaying items end align (l ∷ rest) (map at members) = subst (λ r. IsLaying items end align r (map at members)) split h in
    let next = laying-more items end align l rest (map at members) now in
    let here : IsLaying (items ++ offset ∷ []) (offset + l.size) (max align l.align) rest (map at members) =
    subst (λ o. IsLaying (items ++ o ∷ []) (o + l.size) (max align l.align) rest (map at members)) (sym stands) next in
    subst (λ w. IsLaying more (offset + l.size) w rest (map at members)) (sym widened) (subst (λ xs. IsLaying xs (offset + l.size) (max align l.align) rest (map at members)) (sym pushed) here)

pub laying-all : (at : TypeId → Layout) (members : List TypeId) (i : ℕ) (items : List ℕ) (end align : ℕ) → length members ≤ i → IsLaying items end align (map at (drop i members)) (map at members)
    → IsLaying items end align [] (map at members)
laying-all at members i items end align past h = subst (λ r. IsLaying items end align (map at r) (map at members)) (drop_all i members past) h

-- ---- members
pub length-offsets_from : (free : ℕ) (ms : List Layout) → length (offsets_from free ms) ≡ length ms
length-offsets_from free [] = refl
length-offsets_from free (m ∷ ms) = omega (arith, length-offsets_from (next_multiple free m.align + m.size) ms)

pub ended-of-member : (structs : List StructType) (number member : ℕ) → member < length (members_of structs number) → is_ended structs number ≡ true
ended-of-member [] number member h = absurd (omega arith)
ended-of-member (e ∷ earlier) number member h = by (eqb e.number number) h (ended-of-member earlier number member)
  where
    by : (b : Bool) → member < length (cond b e.members (members_of earlier number)) → (member < length (members_of earlier number) → is_ended earlier number ≡ true) → (b || is_ended earlier number) ≡ true
    by true h rest = refl
    by false h rest = rest h

pub members-of-struct : (table : Types) (t : TypeId) (number : ℕ) → type_at table t ≡ Struct number → members_at table t ≡ members_of (structs_of table) number
members-of-struct table t number is = ap (members_in (structs_of table)) is
