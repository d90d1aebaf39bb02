-- A table stays sound as it grows, and says the same of what it had.
use Rattle.std.proofs.Common.{◌≡◌, ℕ, ◌+◌, ◌<◌, ◌≤◌, Bool, true, false, eqb, cond, ◌||◌, List, [], ◌∷◌, ◌++◌, map, length, get_or, set, refl, ap, sym, ◌∙◌, subst, arith, Option, None, Some, ◌⊎◌, inl, inr, ⊎_elim, zero, suc, slice_get}
use Rattle.std.proofs.lemmas.List.{get_or_append_left, get_or_push, length_push, map_push, get_or-set_same, get_or-set_other, length-set}
use Rattle.std.proofs.lemmas.List.Elements.{All-from_recursion}
use Rattle.std.proofs.lemmas.Option.{same_Some, none-some}
use Rattle.std.proofs.lemmas.Bool.{cases_lt, cases_eq}
use Rattle.std.specs.List.{AllByRecursion}
use borrow.Author.Tests.{eqb-true, eq-eqb}
use Rattle.c_types.specs.declared.shape.TypeId.{TypeId}
use Rattle.c_types.specs.declared.shape.Shape.{Shape}
use Rattle.c_types.specs.declared.shape.Shape.TheVariants as s
use Rattle.c_types.specs.declared.layout.Layout.{Layout}
use Rattle.c_types.specs.declared.layout.StructLayout.{StructLayout}
use Rattle.c_types.specs.Types.{Void, StructType, Ended, Types, AllDiffer, IsNew, built, types_of, type_at, structs_of, is_ended, members_of, IsIn, HasSize}
use Rattle.c_types.specs.Layouts.{layout_of, layout_of_struct, struct_layout, offsets_from, CanStand, CanBuild}
use Rattle.c_types.specs.Sound.{NamesBelow, AllNameBelow, IsSized, IsWithinLimits, AreEnded, IsEndedIn, kept_of, IsLaid, IsSound}
use Rattle.c_types.proofs.TypeLists.{length-types_of, types_of-push, type-stays}
use Rattle.c_types.proofs.LayoutLemmas.{sized, members-stay, ended-stays, struct-stays, all-elements-stay, all-kept-stay, all-layouts-stay, members-sized}

-- what holds of each element of a list holds at each place
pub each_at : {X : Type 0} (P : X → Type 0) (xs : List X) (i : ℕ) (d : X) → AllByRecursion P xs → i < length xs → P (get_or xs i d)
each_at P xs i d all h = All-from_recursion P xs all i d h

pub each_push : {X : Type 0} (P : X → Type 0) (xs : List X) (x : X) → AllByRecursion P xs → P x → AllByRecursion P (xs ++ x ∷ [])
each_push P [] y all h = (h, tt)
each_push P (x ∷ xs) y all h = (all.0, each_push P xs y all.1 h)

pub each_weaker : {X : Type 0} (P Q : X → Type 0) → ((x : X) → P x → Q x) → (xs : List X) → AllByRecursion P xs → AllByRecursion Q xs
each_weaker P Q f [] all = tt
each_weaker P Q f (x ∷ xs) all = (f x all.0, each_weaker P Q f xs all.1)

abbrev pub with_shape : Types → Shape → Types
with_shape table shape = record table { shapes = table.shapes ++ shape ∷ [] }

abbrev pub with_begun : Types → Types
with_begun table = record table { begun = table.begun + 1 }

abbrev pub with_members : Types → ℕ → List TypeId → Types
with_members table number members = record table { ended = record { number = number; members = members } ∷ table.ended }

-- ---- a new shape
members-same : (table : Types) (shape : Shape) (ms : List TypeId) → AllByRecursion (λ (m : TypeId). m.0 < length table.shapes) ms → map (type_at (with_shape table shape)) ms ≡ map (type_at table) ms
members-same table shape [] all = refl
members-same table shape (m ∷ ms) all = λ i. type-stays table.shapes (shape ∷ []) m.0 all.0 i ∷ members-same table shape ms all.1 i

abbrev pub typed : Types → Ended → StructType
typed table e = record { number = e.number; members = map (type_at table) e.members }

structs-same-at : (table : Types) (shape : Shape) (es : List Ended) → AllByRecursion (IsEndedIn table.begun (length table.shapes)) es → map (typed (with_shape table shape)) es ≡ map (typed table) es
structs-same-at table shape [] all = refl
structs-same-at table shape (e ∷ es) all = λ i. record { number = e.number; members = members-same table shape e.members all.0.1 i } ∷ structs-same-at table shape es all.1 i

pub structs-same : (table : Types) (shape : Shape) → AllByRecursion (IsEndedIn table.begun (length table.shapes)) table.ended → structs_of (with_shape table shape) ≡ structs_of table
structs-same table shape all = structs-same-at table shape table.ended all

names-from : (table : Types) (shape : Shape) → CanBuild table shape → NamesBelow table.begun (length table.shapes) shape
names-from table s.Void h = tt
names-from table (s.Int kind) h = tt
names-from table (s.Pointer target) h = h
names-from table (s.Array element count) h = h.0.0
names-from table (s.Struct number) h = h

names-push : (table : Types) (shape : Shape) → AllNameBelow table.begun table.shapes → CanBuild table shape → AllNameBelow table.begun (table.shapes ++ shape ∷ [])
names-push table shape all h i d inside = by (cases_lt i (length table.shapes))
  where
    by : (i < length table.shapes) ⊎ (length table.shapes ≤ i) → NamesBelow table.begun i (get_or (table.shapes ++ shape ∷ []) i d)
    by (inl below) = subst (NamesBelow table.begun i) (sym (get_or_append_left table.shapes (shape ∷ []) d i below)) (all i d below)
    by (inr past) =
        let here : length table.shapes ≡ i = omega (arith, length_push table.shapes shape) in
        let is : get_or (table.shapes ++ shape ∷ []) i d ≡ shape = get_or_push table.shapes shape d i here in
        subst (NamesBelow table.begun i) (sym is) (subst (λ n. NamesBelow table.begun n shape) here (names-from table shape h))

-- what is known of the type with a number
pub elements-at : (table : Types) (structs : List StructType) (t : TypeId) → AllByRecursion (IsWithinLimits structs) (types_of table.shapes) → IsIn table t → IsWithinLimits structs (type_at table t)
elements-at table structs t all h = each_at (IsWithinLimits structs) (types_of table.shapes) t.0 Void all (omega (arith, length-types_of table.shapes))

pub sized-at : (table : Types) (t : TypeId) → AllByRecursion (IsWithinLimits (structs_of table)) (types_of table.shapes) → IsIn table t → HasSize table t → IsSized (structs_of table) (type_at table t)
sized-at table t all h has = sized (structs_of table) (type_at table t) (elements-at table (structs_of table) t all h) has

built-elements : (table : Types) (shape : Shape) → AllByRecursion (IsWithinLimits (structs_of table)) (types_of table.shapes) → CanBuild table shape → IsWithinLimits (structs_of table) (built (type_at table) shape)
built-elements table s.Void all h = tt
built-elements table (s.Int kind) all h = tt
built-elements table (s.Pointer target) all h = tt
built-elements table (s.Array element count) all h = (sized-at table element all h.0.0 h.0.1, h.0.2, h.1, h.2)
built-elements table (s.Struct number) all h = tt

longer : (table : Types) (shape : Shape) (es : List Ended) → AllByRecursion (IsEndedIn table.begun (length table.shapes)) es → AllByRecursion (IsEndedIn table.begun (length (table.shapes ++ shape ∷ []))) es
longer table shape es all =
    each_weaker _ _ (λ e h. (h.0, each_weaker _ _ (λ (m : TypeId) lt. omega (arith, length_push table.shapes shape)) e.members h.1)) es all

place-push : (shapes : List Shape) (new shape : Shape) (a : ℕ) → slice_get (shapes ++ new ∷ []) a ≡ Some shape → ((slice_get shapes a ≡ Some shape) ⊎ ((a ≡ length shapes) × (shape ≡ new)))
place-push [] new shape zero h = inr (refl, sym (same_Some new shape h))
place-push [] new shape (suc a) h = absurd (none-some shape h)
place-push (x ∷ xs) new shape zero h = inl h
place-push (x ∷ xs) new shape (suc a) h = ⊎_elim (λ p. inl p) (λ p. inr (ap suc p.0, p.1)) (place-push xs new shape a h)

differ-push : (shapes : List Shape) (new : Shape) → AllDiffer shapes → IsNew shapes new → AllDiffer (shapes ++ new ∷ [])
differ-push shapes new all fresh a b shape here there = by (place-push shapes new shape a here) (place-push shapes new shape b there)
  where
    by : (slice_get shapes a ≡ Some shape) ⊎ ((a ≡ length shapes) × (shape ≡ new)) → (slice_get shapes b ≡ Some shape) ⊎ ((b ≡ length shapes) × (shape ≡ new)) → a ≡ b
    by (inl p) (inl q) = all a b shape p q
    by (inl p) (inr q) = absurd (fresh a (p ∙ ap Some q.1))
    by (inr p) (inl q) = absurd (fresh b (q ∙ ap Some p.1))
    by (inr p) (inr q) = p.0 ∙ sym q.0

pub sound-shape : (table : Types) (kept : List Layout) (structs : List (Option StructLayout)) (shape : Shape) → IsSound table kept structs → CanBuild table shape → IsNew table.shapes shape
    → IsSound (with_shape table shape) (kept ++ kept_of (structs_of table) (built (type_at table) shape) ∷ []) structs
sound-shape table kept structs shape sound h fresh =
    let new = built (type_at table) shape in
    let same : structs_of (with_shape table shape) ≡ structs_of table = structs-same table shape sound.ended_in in
    let types : types_of (table.shapes ++ shape ∷ []) ≡ types_of table.shapes ++ new ∷ [] = types_of-push table.shapes shape in
    record {
      differ = differ-push table.shapes shape sound.differ fresh;
      names = names-push table shape sound.names h;
      kept_is = ap (λ ks. ks ++ kept_of (structs_of table) new ∷ []) sound.kept_is ∙ sym (map_push (kept_of (structs_of table)) (types_of table.shapes) new)
          ∙ ap (map (kept_of (structs_of table))) (sym types) ∙ ap (λ ss. map (kept_of ss) (types_of (table.shapes ++ shape ∷ []))) (sym same);
      elements = subst (λ ss. AllByRecursion (IsWithinLimits ss) (types_of (table.shapes ++ shape ∷ []))) (sym same)
          (subst (AllByRecursion (IsWithinLimits (structs_of table))) (sym types) (each_push _ (types_of table.shapes) new sound.elements (built-elements table shape sound.elements h)));
      ended_in = longer table shape table.ended sound.ended_in;
      ended = subst AreEnded (sym same) sound.ended;
      laid = λ number d inside. subst (λ ss. IsLaid ss number (get_or structs number d)) (sym same) (sound.laid number d inside);
    }

-- ---- a struct is begun
names-begun : (begun n : ℕ) (shape : Shape) → NamesBelow begun n shape → NamesBelow (begun + 1) n shape
names-begun begun n s.Void h = tt
names-begun begun n (s.Int kind) h = tt
names-begun begun n (s.Pointer target) h = h
names-begun begun n (s.Array element count) h = h
names-begun begun n (s.Struct number) h = omega arith

pub absent-from : (begun n : ℕ) (table : Types) (es : List Ended) (number : ℕ) → AllByRecursion (IsEndedIn begun n) es → begun ≤ number → is_ended (map (typed table) es) number ≡ false
absent-from begun n table [] number all h = refl
absent-from begun n table (e ∷ es) number all h =
    let other : eqb e.number number ≡ false = by (eqb e.number number) refl in
    ap (λ b. b || is_ended (map (typed table) es) number) other ∙ absent-from begun n table es number all.1 h
  where
    by : (b : Bool) → eqb e.number number ≡ b → b ≡ false
    by false is = refl
    by true is = let lt : e.number < begun = all.0.0 in let same : e.number ≡ number = eqb-true e.number number is in absurd (omega arith)

pub sound-begun : (table : Types) (kept : List Layout) (structs : List (Option StructLayout)) → table.begun ≡ length structs → IsSound table kept structs → IsSound (with_begun table) kept (structs ++ None ∷ [])
sound-begun table kept structs counts sound =
    record {
      differ = sound.differ;
      names = λ i d inside. names-begun table.begun i (get_or table.shapes i d) (sound.names i d inside);
      kept_is = sound.kept_is;
      elements = sound.elements;
      ended_in = each_weaker _ _ (λ (e : Ended) h. (omega (arith, h.0), h.1)) table.ended sound.ended_in;
      ended = sound.ended;
      laid = λ number d inside. by number d inside (cases_lt number (length structs));
    }
  where
    by : (number : ℕ) (d : Option StructLayout) → number < length (structs ++ None ∷ []) → (number < length structs) ⊎ (length structs ≤ number) → IsLaid (structs_of table) number (get_or (structs ++ None ∷ []) number d)
    by number d inside (inl below) = subst (IsLaid (structs_of table) number) (sym (get_or_append_left structs (None ∷ []) d number below)) (sound.laid number d below)
    by number d inside (inr past) =
        let here : length structs ≡ number = omega (arith, length_push structs None) in
        subst (IsLaid (structs_of table) number) (sym (get_or_push structs None d number here))
        (absent-from table.begun (length table.shapes) table table.ended number sound.ended_in (omega arith))

-- ---- a struct is given its members
module _ (e : StructType) (earlier : List StructType) (absent : is_ended earlier e.number ≡ false) (all : AreEnded earlier) where
  layouts-of-members : (number : ℕ) → is_ended earlier number ≡ true → map (layout_of (e ∷ earlier)) (members_of (e ∷ earlier) number) ≡ map (layout_of earlier) (members_of earlier number)
  layouts-of-members number there =
      ap (map (layout_of (e ∷ earlier))) (members-stay e earlier absent number there) ∙ all-layouts-stay e earlier absent (members_of earlier number) (members-sized earlier number all there)

  laid-stays : (number : ℕ) (o : Option StructLayout) → eqb e.number number ≡ false → IsLaid earlier number o → IsLaid (e ∷ earlier) number o
  laid-stays number None other h = ap (λ b. b || is_ended earlier number) other ∙ h
  laid-stays number (Some laid) other h =
      (ended-stays e earlier absent number h.0, h.1 ∙ sym (struct-stays e earlier absent number h.0), h.2 ∙ ap (offsets_from 0) (sym (layouts-of-members number h.0)))

  laid-new : AllByRecursion (IsSized earlier) e.members → (laid : StructLayout) → laid.layout ≡ struct_layout (map (layout_of earlier) e.members)
      → laid.offsets.items ≡ offsets_from 0 (map (layout_of earlier) e.members) → IsLaid (e ∷ earlier) e.number (Some laid)
  laid-new sizes laid layout offsets =
      let itself : eqb e.number e.number ≡ true = eq-eqb e.number e.number refl in (
        ap (λ b. b || is_ended earlier e.number) itself,
        layout ∙ sym (ap (λ b. cond b (struct_layout (map (layout_of earlier) e.members)) (layout_of_struct earlier e.number)) itself),
        offsets ∙ ap (offsets_from 0) (sym (all-layouts-stay e earlier absent e.members sizes))
            ∙ ap (λ ms. offsets_from 0 (map (layout_of (e ∷ earlier)) ms)) (sym (ap (λ b. cond b e.members (members_of earlier e.number)) itself)),
      )

members-can : (table : Types) (ms : List TypeId) → AllByRecursion (IsWithinLimits (structs_of table)) (types_of table.shapes) → AllByRecursion (CanStand table) ms
    → AllByRecursion (IsSized (structs_of table)) (map (type_at table) ms)
members-can table [] all h = tt
members-can table (m ∷ ms) all h = (sized-at table m all h.0.0 h.0.1, members-can table ms all h.1)

pub sound-members : (table : Types) (kept : List Layout) (structs : List (Option StructLayout)) (number : ℕ) (members : List TypeId) (laid : StructLayout)
    → table.begun ≡ length structs → IsSound table kept structs → number < table.begun → is_ended (structs_of table) number ≡ false → AllByRecursion (CanStand table) members
    → laid.layout ≡ struct_layout (map (layout_of (structs_of table)) (map (type_at table) members))
    → laid.offsets.items ≡ offsets_from 0 (map (layout_of (structs_of table)) (map (type_at table) members))
    → IsSound (with_members table number members) kept (set structs number (Some laid))
sound-members table kept structs number members laid counts sound begun absent can layout offsets =
    let sizes = members-can table members sound.elements can in
    record {
      differ = sound.differ;
      names = sound.names;
      kept_is = sound.kept_is ∙ sym (all-kept-stay e (structs_of table) absent (types_of table.shapes) sound.elements);
      elements = all-elements-stay e (structs_of table) absent (types_of table.shapes) sound.elements;
      ended_in = ((begun, each_weaker _ _ (λ (m : TypeId) h. h.0) members can), sound.ended_in);
      ended = (absent, sizes, sound.ended);
      laid = λ n d inside. by sizes n d (omega (arith, length-set structs number (Some laid))) (cases_eq number n);
    }
  where
    e : StructType
    e = record { number = number; members = map (type_at table) members }

    by : AllByRecursion (IsSized (structs_of table)) (map (type_at table) members) → (n : ℕ) (d : Option StructLayout) → n < length structs → (number ≡ n) ⊎ (number ≡ n → ⊥) → IsLaid (e ∷ structs_of table) n (get_or (set structs number (Some laid)) n d)
    by sizes n d inside (inl same) =
        let here : number < length structs = omega arith in
        subst (λ k. IsLaid (e ∷ structs_of table) k (get_or (set structs number (Some laid)) k d)) same
        (subst (IsLaid (e ∷ structs_of table) number) (sym (get_or-set_same structs number (Some laid) d here)) (laid-new e (structs_of table) absent sound.ended sizes laid layout offsets))
    by sizes n d inside (inr other) =
        subst (IsLaid (e ∷ structs_of table) n) (sym (get_or-set_other structs number n (Some laid) d (λ p. other (sym p))))
        (laid-stays e (structs_of table) absent sound.ended n (get_or structs n d) (grind (arith, other)) (sound.laid n d inside))
