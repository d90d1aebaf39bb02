-- `main` among definitions and among C functions.
use Rattle.std.proofs.Common.{◌≡◌, refl, sym, ap, ◌∙◌, subst, ℕ, suc, ◌+◌, ◌<◌, nat_lt, not, Bool, true, false, true≢false, cond, Option, None, Some, List, [], ◌∷◌, ◌++◌, length, slice_get, arith}
use Rattle.std.specs.List.{filter, fold, position_or_len}
use Rattle.std.specs.Map.{keys_of}
use Rattle.std.specs.Option.{unwrap_or, option_or}
use Rattle.std.specs.Str.{bytes_eq}
use Rattle.std.proofs.lemmas.Bool.Decides.{nat_tests}
use Rattle.std.proofs.lemmas.Slice.Eq.{bytes_eq-Decides}
use Rattle.obj_file.specs.declared.object.Object.{Object}
use Rattle.obj_linker.specs.declared.parts.SymbolId.{SymbolId}
use Rattle.obj_linker.specs.Symbols.{Named, ids, find, place_of, add_if_new, with_name, name_at, named_by}

-- ---- the first symbol of a name

abbrev pub first_named : List Object → List ℕ → List SymbolId → Option SymbolId
first_named os name [] = None
first_named os name (id ∷ xs) = cond (bytes_eq name (name_at os id)) (Some id) (first_named os name xs)

found_last : (name : List ℕ) (now : Named) (other : List ℕ) (id : SymbolId) → find name (now ++ (other, id) ∷ []) ≡ option_or (find name now) (cond (bytes_eq name other) (Some id) None)
found_last name [] other id = refl
found_last name (e ∷ now) other id = by (bytes_eq name e.0) (found_last name now other id)
  where
    by : (b : Bool) → find name (now ++ (other, id) ∷ []) ≡ option_or (find name now) (cond (bytes_eq name other) (Some id) None)
        → cond b (Some e.1) (find name (now ++ (other, id) ∷ [])) ≡ option_or (cond b (Some e.1) (find name now)) (cond (bytes_eq name other) (Some id) None)
    by true more = refl
    by false more = more

regroup : (a : Option SymbolId) (b : Bool) (x : SymbolId) (r : Option SymbolId) → option_or (option_or a (cond b (Some x) None)) r ≡ option_or a (cond b (Some x) r)
regroup None true x r = refl
regroup None false x r = refl
regroup (Some y) b x r = refl

found_already : (a : Option SymbolId) (b : Bool) (x y : SymbolId) (r : Option SymbolId) → (b ≡ true → a ≡ Some y) → option_or a r ≡ option_or a (cond b (Some x) r)
found_already (Some z) b x y r h = refl
found_already None true x y r h = (let no : None ≡ Some y = h refl in cc)
found_already None false x y r h = refl

pub find_one_more : (os : List Object) (name : List ℕ) (now : Named) (x : SymbolId) (r : Option SymbolId)
    → option_or (find name (with_name os now x)) r ≡ option_or (find name now) (cond (bytes_eq name (name_at os x)) (Some x) r)
find_one_more os name now x r = by (find (name_at os x) now) refl
  where
    by : (f : Option SymbolId) → find (name_at os x) now ≡ f → option_or (find name (add_if_new f (name_at os x) x now)) r ≡ option_or (find name now) (cond (bytes_eq name (name_at os x)) (Some x) r)
    by None e = ap (λ o. option_or o r) (found_last name now (name_at os x) x) ∙ regroup (find name now) (bytes_eq name (name_at os x)) x r
    by (Some y) e =
        found_already (find name now) (bytes_eq name (name_at os x)) x y r
        (λ same. ap (λ (n : List ℕ). find n now) ((bytes_eq-Decides name (name_at os x)).0 same) ∙ e)

find_noted : (os : List Object) (name : List ℕ) (now : Named) (xs : List SymbolId) → find name (fold (with_name os) now xs) ≡ option_or (find name now) (first_named os name xs)
find_noted os name now [] = by (find name now)
  where
    by : (o : Option SymbolId) → o ≡ option_or o None
    by None = refl
    by (Some x) = refl
find_noted os name now (x ∷ xs) = find_noted os name (with_name os now x) xs ∙ find_one_more os name now x (first_named os name xs)

pub find_first : (os : List Object) (name : List ℕ) (xs : List SymbolId) → find name (named_by os xs) ≡ first_named os name xs
find_first os name xs = find_noted os name [] xs

-- the first of a name that passes one test is the first that passes a stronger one, where it does
first_kept : (os : List Object) (name : List ℕ) (p q : SymbolId → Bool) → ((id : SymbolId) → q id ≡ true → p id ≡ true) → (xs : List SymbolId) (id : SymbolId) → q id ≡ true
    → first_named os name (filter p xs) ≡ Some id → first_named os name (filter q xs) ≡ Some id
first_kept os name p q weaker [] id is h = h
first_kept os name p q weaker (x ∷ xs) id is h = by (first_kept os name p q weaker xs id is) (p x) refl (q x) refl h
  where
    test : Bool
    test = bytes_eq name (name_at os x)

    inner : (b c : Bool) → test ≡ b → q x ≡ c → (first_named os name (filter p xs) ≡ Some id → first_named os name (filter q xs) ≡ Some id)
        → cond b (Some x) (first_named os name (filter p xs)) ≡ Some id → first_named os name (cond c (x ∷ filter q xs) (filter q xs)) ≡ Some id
    inner true true e f more h = ap (λ b. cond b (Some x) (first_named os name (filter q xs))) e ∙ h
    inner true false e f more h =
        let same : x ≡ id = cc in
        absurd (true≢false (sym is ∙ (ap q (sym same) ∙ f)))
    inner false true e f more h = ap (λ b. cond b (Some x) (first_named os name (filter q xs))) e ∙ more h
    inner false false e f more h = more h

    by : (first_named os name (filter p xs) ≡ Some id → first_named os name (filter q xs) ≡ Some id) → (b : Bool) → p x ≡ b → (c : Bool) → q x ≡ c
        → first_named os name (cond b (x ∷ filter p xs) (filter p xs)) ≡ Some id → first_named os name (cond c (x ∷ filter q xs) (filter q xs)) ≡ Some id
    by more true e c f h = inner test c refl f more h
    by more false e true f h = absurd (true≢false (sym (weaker x f) ∙ e))
    by more false e false f h = more h

pub found_too : (os : List Object) (name : List ℕ) (p q : SymbolId → Bool) → ((id : SymbolId) → q id ≡ true → p id ≡ true) → (xs : List SymbolId) (id : SymbolId) → q id ≡ true
    → find name (named_by os (filter p xs)) ≡ Some id → find name (named_by os (filter q xs)) ≡ Some id
found_too os name p q weaker xs id is h =
    find_first os name (filter q xs) ∙ first_kept os name p q weaker xs id is (sym (find_first os name (filter p xs)) ∙ h)

-- ---- places of names

pub record IsThere (name : List ℕ) (m : Named) (id : SymbolId) (at : ℕ) : Type 0 where
  pub few : at < length m
  pub got : slice_get (ids m) at ≡ Some id

there_by_length : (name : List ℕ) (m : Named) (id : SymbolId) → find name m ≡ Some id → IsThere name m id (position_or_len (bytes_eq name) (keys_of m))
there_by_length name [] id h = cc
there_by_length name (e ∷ m) id h = by (bytes_eq name e.0) (there_by_length name m id) h
  where
    by : (b : Bool) → (find name m ≡ Some id → IsThere name m id (position_or_len (bytes_eq name) (keys_of m))) → cond b (Some e.1) (find name m) ≡ Some id
        → IsThere name (e ∷ m) id (cond (not b) (1 + position_or_len (bytes_eq name) (keys_of m)) 0)
    by true more h = record { few = omega arith; got = h }
    by false more h =
        let r = more h in
        let few = r.few in
        let next : 1 + position_or_len (bytes_eq name) (keys_of m) ≡ suc (position_or_len (bytes_eq name) (keys_of m)) = omega arith in
        record { few = omega arith; got = ap (slice_get (ids (e ∷ m))) next ∙ r.got }

length_keys : (m : Named) → length (keys_of m) ≡ length m
length_keys [] = refl
length_keys (e ∷ m) = ap suc (length_keys m)

-- a name that is found stands at its place
pub there : (name : List ℕ) (m : Named) (id : SymbolId) → find name m ≡ Some id → IsThere name m id (place_of name m)
there name m id h =
    let r = there_by_length name m id h in
    let few = r.few in
    let same = length_keys m in
    let at : ℕ = position_or_len (bytes_eq name) (keys_of m) in
    let yes : nat_lt at (length (keys_of m)) ≡ true = grind (arith, nat_tests) in
    subst (IsThere name m id) (sym (ap (λ b. unwrap_or (cond b (Some at) None) 0) yes)) r
