-- How names, and the places that are noted of them, change at the end of a list.
use Rattle.std.proofs.Common.{◌≡◌, refl, sym, ap, ◌∙◌, subst, ℕ, zero, suc, ◌+◌, Bool, true, false, true≢false, if◌then◌else◌, cond, is_some, Option, None, Some, List, [], ◌∷◌, ◌++◌, length, map, slice_get, slice_set, bytes_eq, append_assoc, append-nil, arith}
use Rattle.std.proofs.lemmas.List.{same_from_push}
use Rattle.std.specs.Cmp.Lexicographic.{bytes_decides}
use Rattle.std.specs.Global.{Global}
use Rattle.std.specs.Map.{lookup, set_value}
use Rattle.std.specs.declared.vec.Vec.{Vec}
use Rattle.indexmap.specs.IndexMap.{insert_entry}
use Rattle.c_check_rules.specs.Named.{last_at, earlier, or_none, Places, noted_at, IsIndex}

abbrev pub Key : Type 0
Key = Vec ℕ Global

-- ---- bytes

same_bytes : (a b : List ℕ) → bytes_eq a b ≡ true → a ≡ b
same_bytes a b h = (bytes_decides a b).0 h

bytes_same : (a b : List ℕ) → a ≡ b → bytes_eq a b ≡ true
bytes_same a b e = (bytes_decides a b).1 e

bytes_turned : (a b : List ℕ) → bytes_eq a b ≡ bytes_eq b a
bytes_turned a b = by (bytes_eq a b) (bytes_eq b a) refl refl
  where
    by : (s t : Bool) → bytes_eq a b ≡ s → bytes_eq b a ≡ t → s ≡ t
    by true true p q = refl
    by false false p q = refl
    by true false p q = absurd (true≢false (sym (bytes_same b a (sym (same_bytes a b p))) ∙ q))
    by false true p q = absurd (true≢false (sym (bytes_same a b (sym (same_bytes b a q))) ∙ p))

-- ---- names

last_pushed : (name : List ℕ) (ns : List (List ℕ)) (n : List ℕ) (at : ℕ) (found : Option ℕ) → last_at name (ns ++ n ∷ []) at found ≡ (if bytes_eq n name then Some (at + length ns) else last_at name ns at found)
last_pushed name [] n at found = ap (λ k. if bytes_eq n name then Some k else found) (let e : at ≡ at + 0 = omega arith in e)
last_pushed name (x ∷ ns) n at found = last_pushed name ns n (at + 1) (if bytes_eq x name then Some at else found)
    ∙ ap (λ k. if bytes_eq n name then Some k else last_at name ns (at + 1) (if bytes_eq x name then Some at else found)) (let e : at + 1 + length ns ≡ at + suc (length ns) = omega arith in e)

earlier_pushed : (before ns : List (List ℕ)) (n : List ℕ) → earlier before (ns ++ n ∷ []) ≡ earlier before ns ++ last_at n (before ++ ns) 0 None ∷ []
earlier_pushed before [] n = ap (λ l. last_at n l 0 None ∷ []) (sym (append-nil before))
earlier_pushed before (x ∷ ns) n = ap (λ l. last_at x before 0 None ∷ l) (earlier_pushed (before ++ x ∷ []) ns n ∙ ap (λ l. earlier (before ++ x ∷ []) ns ++ last_at n l 0 None ∷ []) (append_assoc before (x ∷ []) ns))

map_pushed : {T : Type 0} (f : T → List ℕ) (xs : List T) (x : T) → map f (xs ++ x ∷ []) ≡ map f xs ++ f x ∷ []
map_pushed f [] x = refl
map_pushed f (y ∷ xs) x = ap (λ l. f y ∷ l) (map_pushed f xs x)

length_map : {T : Type 0} (f : T → List ℕ) (xs : List T) → length (map f xs) ≡ length xs
length_map f [] = refl
length_map f (x ∷ xs) = ap suc (length_map f xs)

pub map_set : {T : Type 0} (f : T → List ℕ) (xs : List T) (at : ℕ) (x : T) → slice_get (map f xs) at ≡ Some (f x) → map f (slice_set xs at x) ≡ map f xs
map_set f [] at x h = refl
map_set f (y ∷ xs) zero x h = (let e : f x ≡ f y = cc in ap (λ n. n ∷ map f xs) e)
map_set f (y ∷ xs) (suc at) x h = ap (λ l. f y ∷ l) (map_set f xs at x h)

-- ---- places that are noted

abbrev pub same_keys : Key → Key → Bool
same_keys a b = bytes_eq a.items b.items

abbrev pub has_name : List ℕ → Key → Bool
has_name name n = bytes_eq name n.items

or_else : (b : Bool) (p q : Option (Option ℕ)) → or_none (cond b p q) ≡ (if b then or_none p else or_none q)
or_else true p q = refl
or_else false p q = refl

noted_inserted : (name : List ℕ) (places : Places) (k : Key) (p : Option ℕ) → noted_at name (insert_entry same_keys places k p) ≡ (if bytes_eq name k.items then p else noted_at name places)
noted_inserted name [] k p = or_else (bytes_eq name k.items) (Some p) None
noted_inserted name (e ∷ places) k p = by (noted_inserted name places k p) (same_keys k e.0) refl (bytes_eq name e.0.items) refl
  where
    rest : Option (Option ℕ)
    rest = lookup (has_name name) places

    same : bytes_eq k.items e.0.items ≡ true → bytes_eq name k.items ≡ bytes_eq name e.0.items
    same h = ap (bytes_eq name) (same_bytes k.items e.0.items h)

    apart : bytes_eq k.items e.0.items ≡ false → bytes_eq name e.0.items ≡ true → bytes_eq name k.items ≡ false
    apart h g = ap (λ l. bytes_eq l k.items) (same_bytes name e.0.items g) ∙ (bytes_turned e.0.items k.items ∙ h)

    by : noted_at name (insert_entry same_keys places k p) ≡ (if bytes_eq name k.items then p else noted_at name places) → (s : Bool) → same_keys k e.0 ≡ s → (t : Bool) → bytes_eq name e.0.items ≡ t → noted_at name (if s then (e.0, p) ∷ places else e ∷ insert_entry same_keys places k p) ≡ (if bytes_eq name k.items then p else noted_at name (e ∷ places))
    by more true h true g = ap (λ b. or_none (cond b (Some p) rest)) g ∙ sym (ap (λ b. if b then p else noted_at name (e ∷ places)) (same h ∙ g))
    by more true h false g = ap (λ b. or_none (cond b (Some p) rest)) g ∙ sym (ap (λ b. if b then p else noted_at name (e ∷ places)) (same h ∙ g) ∙ ap (λ b. or_none (cond b (Some e.1) rest)) g)
    by more false h true g = ap (λ b. or_none (cond b (Some e.1) (lookup (has_name name) (insert_entry same_keys places k p)))) g
        ∙ sym (ap (λ b. if b then p else noted_at name (e ∷ places)) (apart h g) ∙ ap (λ b. or_none (cond b (Some e.1) rest)) g)
    by more false h false g = ap (λ b. or_none (cond b (Some e.1) (lookup (has_name name) (insert_entry same_keys places k p)))) g
        ∙ (more ∙ sym (ap (λ o. if bytes_eq name k.items then p else o) (ap (λ b. or_none (cond b (Some e.1) rest)) g)))

noted_written : (name : List ℕ) (places : Places) (p : Option ℕ) → is_some (lookup {K = Key} (has_name name) places) ≡ true → noted_at name (set_value (has_name name) places p) ≡ p
noted_written name [] p h = absurd (true≢false (sym h))
noted_written name (e ∷ places) p h = by (noted_written name places p) (has_name name e.0) refl
  where
    by : (is_some (lookup {K = Key} (has_name name) places) ≡ true → noted_at name (set_value (has_name name) places p) ≡ p) → (s : Bool) → has_name name e.0 ≡ s → noted_at name (cond s ((e.0, p) ∷ places) (e ∷ set_value (has_name name) places p)) ≡ p
    by more true g = ap (λ b. or_none (cond b (Some p) (lookup (has_name name) places))) g
    by more false g = ap (λ b. or_none (cond b (Some e.1) (lookup (has_name name) (set_value (has_name name) places p)))) g
        ∙ more (sym (ap (λ b. is_some (cond b (Some e.1) (lookup (has_name name) places))) g) ∙ h)

other_noted : (q name : List ℕ) (places : Places) (p : Option ℕ) → bytes_eq q name ≡ false → noted_at q (set_value (has_name name) places p) ≡ noted_at q places
other_noted q name [] p h = refl
other_noted q name (e ∷ places) p h = by (other_noted q name places p h) (has_name name e.0) refl (has_name q e.0) refl
  where
    later : Option (Option ℕ)
    later = lookup (has_name q) (set_value (has_name name) places p)

    by : noted_at q (set_value (has_name name) places p) ≡ noted_at q places → (s : Bool) → has_name name e.0 ≡ s → (t : Bool) → has_name q e.0 ≡ t → noted_at q (cond s ((e.0, p) ∷ places) (e ∷ set_value (has_name name) places p)) ≡ noted_at q (e ∷ places)
    by more true g true f = absurd (true≢false (sym (ap (bytes_eq q) (same_bytes name e.0.items g) ∙ f) ∙ h))
    by more true g false f = ap (λ b. or_none (cond b (Some p) (lookup (has_name q) places))) f ∙ sym (ap (λ b. or_none (cond b (Some e.1) (lookup (has_name q) places))) f)
    by more false g true f = ap (λ b. or_none (cond b (Some e.1) later)) f ∙ sym (ap (λ b. or_none (cond b (Some e.1) (lookup (has_name q) places))) f)
    by more false g false f = ap (λ b. or_none (cond b (Some e.1) later)) f ∙ (more ∙ sym (ap (λ b. or_none (cond b (Some e.1) (lookup (has_name q) places))) f))

-- ---- the index

pub index_none : IsIndex [] [] []
index_none = record { before = refl; last = λ name. refl }

index_pushed : (names : List (List ℕ)) (hidden : List (Option ℕ)) (places : Places) (n : List ℕ) (k : Key) (place : ℕ) (before : Option ℕ) → IsIndex names hidden places → k.items ≡ n → place ≡ length names
    → before ≡ last_at n names 0 None → IsIndex (names ++ n ∷ []) (hidden ++ before ∷ []) (insert_entry same_keys places k (Some place))
index_pushed names hidden places n k place before index of_name at_end found = record {
  before = (λ i. index.before i ++ found i ∷ []) ∙ sym (earlier_pushed [] names n);
  last = λ name. noted_inserted name places k (Some place)
      ∙ ((λ i. if bytes_eq name (of_name i) then Some ((at_end ∙ (let e : length names ≡ 0 + length names = omega arith in e)) i) else index.last name i)
      ∙ (ap (λ b. if b then Some (0 + length names) else last_at name names 0 None) (bytes_turned name n) ∙ sym (last_pushed name names n 0 None)));
}

-- where a name stands last, it is noted
is_noted : (name : List ℕ) (places : Places) (at : ℕ) → noted_at name places ≡ Some at → is_some (lookup {K = Key} (has_name name) places) ≡ true
is_noted name places at h = by (lookup (has_name name) places) refl
  where
    by : (r : Option (Option ℕ)) → lookup {K = Key} (has_name name) places ≡ r → is_some r ≡ true
    by None e = (let none : noted_at name places ≡ None = ap or_none e in cc)
    by (Some place) e = refl

last_noted : (names : List (List ℕ)) (hidden : List (Option ℕ)) (places : Places) (n : List ℕ) → IsIndex (names ++ n ∷ []) hidden places → noted_at n places ≡ Some (length names)
last_noted names hidden places n index = index.last n ∙ (last_pushed n names n 0 None ∙ ap (λ b. if b then Some (0 + length names) else last_at n names 0 None) (bytes_same n n refl) ∙ ap Some (let e : 0 + length names ≡ length names = omega arith in e))

index_popped : (names : List (List ℕ)) (hidden : List (Option ℕ)) (places : Places) (n : List ℕ) (before : Option ℕ) → IsIndex (names ++ n ∷ []) (hidden ++ before ∷ []) places → IsIndex names hidden (set_value (has_name n) places before)
index_popped names hidden places n before index =
    let ends = same_from_push hidden (earlier [] names) before (last_at n names 0 None) (index.before ∙ earlier_pushed [] names n) in
    record { before = ends.0; last = λ name. by ends.1 name (bytes_eq name n) refl }
  where
    by : before ≡ last_at n names 0 None → (name : List ℕ) (s : Bool) → bytes_eq name n ≡ s → noted_at name (set_value (has_name n) places before) ≡ last_at name names 0 None
    by found name true e =
        let same = same_bytes name n e in
        subst (λ q. noted_at q (set_value (has_name n) places before) ≡ last_at q names 0 None) (sym same) (noted_written n places before (is_noted n places (length names) (last_noted names (hidden ++ before ∷ []) places n index)) ∙ found)
    by found name false e = other_noted name n places before e
        ∙ (index.last name ∙ (last_pushed name names n 0 None ∙ ap (λ b. if b then Some (0 + length names) else last_at name names 0 None) (bytes_turned n name ∙ e)))

-- the last item has a place that is noted, and a place of the one before it
last_is_noted : (names : List (List ℕ)) (hidden : List (Option ℕ)) (places : Places) (n : List ℕ) → IsIndex (names ++ n ∷ []) hidden places → lookup (has_name n) places ≡ None → ⊥
last_is_noted names hidden places n index none = (let noted = last_noted names hidden places n index in let lost : noted_at n places ≡ None = ap or_none none in cc)

last_is_behind : (names : List (List ℕ)) (places : Places) (n : List ℕ) → IsIndex (names ++ n ∷ []) [] places → ⊥
last_is_behind names places n index = by (earlier [] names) (index.before ∙ earlier_pushed [] names n)
  where
    by : (xs : List (Option ℕ)) → [] ≡ xs ++ last_at n names 0 None ∷ [] → ⊥
    by [] e = cc
    by (x ∷ xs) e = cc

-- ---- items

pub items_pushed : {T : Type 0} (f : T → List ℕ) (xs ys : List T) (x : T) (hs ks : List (Option ℕ)) (before : Option ℕ) (ps qs : Places) (k : Key) (place : ℕ) → ys ≡ xs ++ x ∷ [] → ks ≡ hs ++ before ∷ []
    → qs ≡ insert_entry same_keys ps k (Some place) → k.items ≡ f x → place ≡ length xs → before ≡ last_at (f x) (map f xs) 0 None → IsIndex (map f xs) hs ps → IsIndex (map f ys) ks qs
items_pushed f xs ys x hs ks before ps qs k place items hidden places of_name at_end found index =
    subst (λ l. IsIndex (map f l) ks qs) (sym items) (subst (λ l. IsIndex l ks qs) (sym (map_pushed f xs x)) (subst (λ l. IsIndex (map f xs ++ f x ∷ []) l qs) (sym hidden) (subst (IsIndex (map f xs ++ f x ∷ []) (hs ++ before ∷ [])) (sym places)
    (index_pushed (map f xs) hs ps (f x) k place before index of_name (at_end ∙ sym (length_map f xs)) found))))

pub items_popped : {T : Type 0} (f : T → List ℕ) (xs ys : List T) (x : T) (hs ks : List (Option ℕ)) (before : Option ℕ) (ps qs : Places) → xs ≡ ys ++ x ∷ [] → hs ≡ ks ++ before ∷ []
    → qs ≡ set_value (has_name (f x)) ps before → IsIndex (map f xs) hs ps → IsIndex (map f ys) ks qs
items_popped f xs ys x hs ks before ps qs items hidden places index =
    subst (IsIndex (map f ys) ks) (sym places) (index_popped (map f ys) ks ps (f x) before (subst (λ l. IsIndex (map f ys ++ f x ∷ []) l ps) hidden (subst (λ l. IsIndex l hs ps) (ap (map f) items ∙ map_pushed f ys x) index)))

pub items_noted : {T : Type 0} (f : T → List ℕ) (xs ys : List T) (x : T) (hs : List (Option ℕ)) (ps : Places) → xs ≡ ys ++ x ∷ [] → IsIndex (map f xs) hs ps → lookup (has_name (f x)) ps ≡ None → ⊥
items_noted f xs ys x hs ps items index = last_is_noted (map f ys) hs ps (f x) (subst (λ l. IsIndex l hs ps) (ap (map f) items ∙ map_pushed f ys x) index)

pub items_behind : {T : Type 0} (f : T → List ℕ) (xs ys : List T) (x : T) (hs : List (Option ℕ)) (ps : Places) → xs ≡ ys ++ x ∷ [] → hs ≡ [] → IsIndex (map f xs) hs ps → ⊥
items_behind f xs ys x hs ps items none index = last_is_behind (map f ys) ps (f x) (subst (λ l. IsIndex (map f ys ++ f x ∷ []) l ps) none (subst (λ l. IsIndex l hs ps) (ap (map f) items ∙ map_pushed f ys x) index))
