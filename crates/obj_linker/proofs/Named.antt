-- Loops over symbols whose names are noted.
use Rattle.std.proofs.Common.{◌≡◌, refl, sym, ap, ◌∙◌, subst, ℕ, zero, suc, ◌+◌, ◌<◌, Bool, true, false, cond, if◌then◌else◌, List, [], ◌∷◌, ◌++◌, length, take, drop, get_or, append_assoc, append-nil, add-one, arith}
use Rattle.std.specs.List.{filter, fold, flat_map}
use Rattle.std.proofs.lemmas.List.Sums.{fold-append}
use Rattle.std.proofs.lemmas.List.Concat.{flat_map-append}
use Rattle.obj_file.specs.declared.object.Object.{Object}
use Rattle.obj_linker.specs.declared.fault.LinkFault.{LinkFault}
use Rattle.obj_linker.specs.declared.parts.SymbolId.{SymbolId}
use Rattle.obj_linker.specs.Symbols.{Named, find, name_at, named_by, with_name}
use Rattle.obj_linker.specs.Faults.{repeated, fault_if_found}
use Rattle.obj_linker.specs.Told.{IsFirst}
use Rattle.obj_linker.proofs.Passing.{sooner, later, both_none}

-- ---- filters

abbrev pub kept : {X : Type 0} → (X → Bool) → X → List X
kept p x = if p x then x ∷ [] else []

pub filter_at : {X : Type 0} (p : X → Bool) (xs : List X) (k : ℕ) (d : X) → k < length xs → filter p xs ≡ filter p (take k xs) ++ (kept p (get_or xs k d) ++ filter p (drop (suc k) xs))
filter_at p [] k d h = absurd (let no : ⊥ = omega (arith, h) in no)
filter_at p (x ∷ xs) zero d h = elim (p x) as (λ b. cond b (x ∷ filter p xs) (filter p xs) ≡ cond b (x ∷ []) [] ++ filter p xs) [ true ↦ refl | false ↦ refl ]
filter_at {X = X} p (x ∷ xs) (suc k) d h =
    let more = filter_at p xs k d (let less : k < length xs = omega (arith, h) in less) in
    let rest : List X = kept p (get_or xs k d) ++ filter p (drop (suc k) xs) in
    elim (p x) as (λ b. cond b (x ∷ filter p xs) (filter p xs) ≡ cond b (x ∷ filter p (take k xs)) (filter p (take k xs)) ++ rest) [ true ↦ ap (λ l. x ∷ l) more | false ↦ more ]

one_more : {X : Type 0} (p : X → Bool) (xs : List X) (k : ℕ) (d : X) → k < length xs → filter p (take (suc k) xs) ≡ filter p (take k xs) ++ kept p (get_or xs k d)
one_more p [] k d h = absurd (let no : ⊥ = omega (arith, h) in no)
one_more p (x ∷ xs) zero d h = refl
one_more p (x ∷ xs) (suc k) d h =
    let more = one_more p xs k d (let less : k < length xs = omega (arith, h) in less) in
    elim (p x) as (λ b. cond b (x ∷ filter p (take (suc k) xs)) (filter p (take (suc k) xs)) ≡ cond b (x ∷ filter p (take k xs)) (filter p (take k xs)) ++ kept p (get_or xs k d)) [ true ↦ ap (λ l. x ∷ l) more | false ↦ more ]

pub filter_more : {X : Type 0} (p : X → Bool) (xs : List X) (k : ℕ) (d : X) → k < length xs → filter p (take (k + 1) xs) ≡ filter p (take k xs) ++ kept p (get_or xs k d)
filter_more p xs k d h = ap (λ m. filter p (take m xs)) (add-one k) ∙ one_more p xs k d h

pub kept_yes : {X : Type 0} (p : X → Bool) (x : X) → p x ≡ true → kept p x ≡ x ∷ []
kept_yes p x h = ap (λ b. cond b (x ∷ []) []) h

pub kept_no : {X : Type 0} (p : X → Bool) (x : X) → p x ≡ false → kept p x ≡ []
kept_no p x h = ap (λ b. cond b (x ∷ []) []) h

-- ---- definitions

repeated-append : (os : List Object) (before : Named) (xs ys : List SymbolId) → repeated os before (xs ++ ys) ≡ repeated os before xs ++ repeated os (fold (with_name os) before xs) ys
repeated-append os before [] ys = refl
repeated-append os before (x ∷ xs) ys =
    ap (λ l. fault_if_found (find (name_at os x) before) (name_at os x) ++ l) (repeated-append os (with_name os before x) xs ys)
    ∙ sym (append_assoc (fault_if_found (find (name_at os x) before) (name_at os x)) (repeated os (with_name os before x) xs) (repeated os (fold (with_name os) (with_name os before x) xs) ys))

-- the fault of the next definition, where those before are noted
abbrev pub again : List Object → Named → SymbolId → List LinkFault
again os names id = fault_if_found (find (name_at os id) names) (name_at os id)

-- one definition more, without a fault
pub noted : (os : List Object) (p : SymbolId → Bool) (ids : List SymbolId) (k : ℕ) (d : SymbolId) (names news : Named) → k < length ids → p (get_or ids k d) ≡ true
    → names ≡ named_by os (filter p (take k ids)) → news ≡ with_name os names (get_or ids k d) → news ≡ named_by os (filter p (take (k + 1) ids))
noted os p ids k d names news h does is new =
    new ∙ (ap (λ n. with_name os n (get_or ids k d)) is
    ∙ sym (ap (named_by os) (filter_more p ids k d h ∙ ap (λ l. filter p (take k ids) ++ l) (kept_yes p (get_or ids k d) does)) ∙ fold-append (with_name os) [] (filter p (take k ids)) (get_or ids k d ∷ [])))

pub none_again : (os : List Object) (p : SymbolId → Bool) (ids : List SymbolId) (k : ℕ) (d : SymbolId) (names : Named) → k < length ids → p (get_or ids k d) ≡ true
    → names ≡ named_by os (filter p (take k ids)) → repeated os [] (filter p (take k ids)) ≡ [] → again os names (get_or ids k d) ≡ [] → repeated os [] (filter p (take (k + 1) ids)) ≡ []
none_again os p ids k d names h does is none now =
    ap (repeated os []) (filter_more p ids k d h ∙ ap (λ l. filter p (take k ids) ++ l) (kept_yes p (get_or ids k d) does))
    ∙ (repeated-append os [] (filter p (take k ids)) (get_or ids k d ∷ [])
    ∙ both_none (repeated os [] (filter p (take k ids))) (repeated os (named_by os (filter p (take k ids))) (get_or ids k d ∷ [])) none
    (append-nil (again os (named_by os (filter p (take k ids))) (get_or ids k d)) ∙ (ap (λ n. again os n (get_or ids k d)) (sym is) ∙ now)))

pub first_again : (e : LinkFault) (os : List Object) (p : SymbolId → Bool) (ids : List SymbolId) (k : ℕ) (d : SymbolId) (names : Named) → k < length ids → p (get_or ids k d) ≡ true
    → names ≡ named_by os (filter p (take k ids)) → repeated os [] (filter p (take k ids)) ≡ [] → IsFirst e (again os names (get_or ids k d)) → IsFirst e (repeated os [] (filter p ids))
first_again e os p ids k d names h does is none now =
    let before : List SymbolId = filter p (take k ids) in
    let id : SymbolId = get_or ids k d in
    let behind : List SymbolId = filter p (drop (suc k) ids) in
    let at : filter p ids ≡ before ++ (id ∷ behind) = filter_at p ids k d h ∙ ap (λ l. before ++ (l ++ behind)) (kept_yes p id does) in
    let shown : IsFirst e (again os (named_by os before) id) = subst (λ n. IsFirst e (again os n id)) is now in
    subst (IsFirst e) (sym (ap (repeated os []) at ∙ repeated-append os [] before (id ∷ behind)))
    (later e (repeated os [] before) (repeated os (named_by os before) (id ∷ behind)) none
    (sooner e (again os (named_by os before) id) (repeated os (with_name os (named_by os before) id) behind) shown))

-- ---- the same elements where one is left out

pub left_out : {X : Type 0} (p : X → Bool) (xs : List X) (k : ℕ) (d : X) → k < length xs → p (get_or xs k d) ≡ false → filter p (take (k + 1) xs) ≡ filter p (take k xs)
left_out p xs k d h isnt = filter_more p xs k d h ∙ (ap (λ l. filter p (take k xs) ++ l) (kept_no p (get_or xs k d) isnt) ∙ append-nil (filter p (take k xs)))

-- ---- imports

pub first_of_import : (e : LinkFault) (f : SymbolId → List LinkFault) (p : SymbolId → Bool) (ids : List SymbolId) (k : ℕ) (d : SymbolId) → k < length ids → p (get_or ids k d) ≡ true
    → flat_map f (filter p (take k ids)) ≡ [] → IsFirst e (f (get_or ids k d)) → IsFirst e (flat_map f (filter p ids))
first_of_import e f p ids k d h does none now =
    let before : List SymbolId = filter p (take k ids) in
    let id : SymbolId = get_or ids k d in
    let behind : List SymbolId = filter p (drop (suc k) ids) in
    let at : filter p ids ≡ before ++ (id ∷ behind) = filter_at p ids k d h ∙ ap (λ l. before ++ (l ++ behind)) (kept_yes p id does) in
    subst (IsFirst e) (sym (ap (flat_map f) at ∙ flat_map-append f before (id ∷ behind)))
    (later e (flat_map f before) (flat_map f (id ∷ behind)) none (sooner e (f id) (flat_map f behind) now))
