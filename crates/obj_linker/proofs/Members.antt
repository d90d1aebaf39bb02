-- What all symbols of names and lists keep.
use Rattle.std.proofs.Common.{◌≡◌, refl, sym, subst, ℕ, zero, suc, ◌+◌, ◌*◌, ◌^◌, ◌<◌, ◌≤◌, Bool, true, false, cond, if◌then◌else◌, ◌&&◌, Option, None, Some, List, [], ◌∷◌, ◌++◌, length, get_or, slice_get, length-append, arith}
use Rattle.std.specs.List.{All, AllByRecursion, filter, fold, flat_map}
use Rattle.std.proofs.Math.Nat.{suc-mul}
use Rattle.std.proofs.lemmas.List.{length_push}
use Rattle.obj_file.specs.declared.object.Object.{Object}
use Rattle.obj_file.specs.declared.object.Fix.{Fix}
use Rattle.obj_linker.specs.declared.parts.SymbolId.{SymbolId}
use Rattle.obj_linker.specs.Symbols.{numbered, Named, ids, find, name_at, with_name, named_by, add_if_new, symbol_id, symbols, ids_of, id_with, functions, is_c_function}
use Rattle.obj_linker.specs.Placement.{is_call, leads_to_legacy, stub_call, stub_calls_of, stub_calls}

pub each : {X : Type 0} (P : X → Type 0) (xs : List X) → AllByRecursion P xs → (k : ℕ) (d : X) → k < length xs → P (get_or xs k d)
each P [] all k d h = absurd (let no : ⊥ = omega (arith, h) in no)
each P (x ∷ xs) all zero d h = all.0
each P (x ∷ xs) all (suc k) d h = each P xs all.1 k d (let less : k < length xs = omega (arith, h) in less)

all-append : {X : Type 0} (P : X → Type 0) (xs ys : List X) → AllByRecursion P xs → AllByRecursion P ys → AllByRecursion P (xs ++ ys)
all-append P [] ys p q = q
all-append P (x ∷ xs) ys p q = (p.0, all-append P xs ys p.1 q)

filtered_so : {X : Type 0} (p : X → Bool) (x : X) (xs : List X) → AllByRecursion (λ x. p x ≡ true) xs → (b : Bool) → p x ≡ b → AllByRecursion (λ x. p x ≡ true) (cond b (x ∷ xs) xs)
filtered_so p x xs more true e = (e, more)
filtered_so p x xs more false e = more

pub all_filtered : {X : Type 0} (p : X → Bool) (xs : List X) → AllByRecursion (λ x. p x ≡ true) (filter p xs)
all_filtered p [] = tt
all_filtered p (x ∷ xs) = filtered_so p x (filter p xs) (all_filtered p xs) (p x) refl

pub by_recursion : {X : Type 0} (P : X → Type 0) (xs : List X) → All P xs → AllByRecursion P xs
by_recursion P [] all = tt
by_recursion P (x ∷ xs) all = (all 0 x (omega arith), by_recursion P xs (λ k d h. all (suc k) d (omega (arith, h))))

pub record Got {X : Type 0} (xs : List X) (k : ℕ) (x : X) : Type 0 where
  pub less : k < length xs
  pub is : (d : X) → get_or xs k d ≡ x

-- an element that is got stands there
pub got : {X : Type 0} (xs : List X) (k : ℕ) (x : X) → slice_get xs k ≡ Some x → Got xs k x
got [] k x h = cc
got (y ∷ ys) zero x h = (let same : y ≡ x = cc in record { less = omega arith; is = λ d. same })
got (y ∷ ys) (suc k) x h = (let more = got ys k x h in let less = more.less in record { less = omega arith; is = more.is })

-- ---- names

ids_added : (P : SymbolId → Type 0) (now : Named) (name : List ℕ) (id : SymbolId) → AllByRecursion P (ids now) → P id → AllByRecursion P (ids (now ++ (name, id) ∷ []))
ids_added P [] name id all own = (own, tt)
ids_added P (e ∷ now) name id all own = (all.0, ids_added P now name id all.1 own)

added : (P : SymbolId → Type 0) (found : Option SymbolId) (name : List ℕ) (id : SymbolId) (now : Named) → AllByRecursion P (ids now) → P id → AllByRecursion P (ids (add_if_new found name id now))
added P None name id now all own = ids_added P now name id all own
added P (Some f) name id now all own = all

noted_all : (P : SymbolId → Type 0) (os : List Object) (now : Named) (xs : List SymbolId) → AllByRecursion P (ids now) → AllByRecursion P xs → AllByRecursion P (ids (fold (with_name os) now xs))
noted_all P os now [] all more = all
noted_all P os now (x ∷ xs) all more = noted_all P os (with_name os now x) xs (added P (find (name_at os x) now) (name_at os x) x now all more.0) more.1

-- what all symbols keep, those whose names are noted keep
pub named_all : (P : SymbolId → Type 0) (os : List Object) (xs : List SymbolId) → AllByRecursion P xs → AllByRecursion P (ids (named_by os xs))
named_all P os xs all = noted_all P os [] xs tt all

length_noted : (now : Named) (e : List ℕ × SymbolId) → length (now ++ e ∷ []) ≡ length now + 1
length_noted now e = length_push now e

length_added : (found : Option SymbolId) (name : List ℕ) (id : SymbolId) (now : Named) → length (add_if_new found name id now) ≤ length now + 1
length_added None name id now = (let one = length_noted now (name, id) in omega arith)
length_added (Some f) name id now = omega arith

length_all : (os : List Object) (now : Named) (xs : List SymbolId) → length (fold (with_name os) now xs) ≤ length now + length xs
length_all os now [] = omega arith
length_all os now (x ∷ xs) =
    (let one = length_added (find (name_at os x) now) (name_at os x) x now in let more = length_all os (with_name os now x) xs in omega arith)

-- there are at most as many names as symbols
pub length_named_by : (os : List Object) (xs : List SymbolId) → length (named_by os xs) ≤ length xs
length_named_by os xs = (let all = length_all os [] xs in omega arith)

-- lists of at most m elements for each
pub length_numbered : {X A : Type 0} (f : ℕ → X → List A) (m n : ℕ) (xs : List X) → AllByRecursion (λ x. (i : ℕ) → length (f i x) ≤ m) xs → length (numbered f n xs) ≤ length xs * m
length_numbered f m n [] all = omega arith
length_numbered f m n (x ∷ xs) all =
    (let one = all.0 n in let more = length_numbered f m (n + 1) xs all.1 in let sum = length-append (f n x) (numbered f (n + 1) xs) in
    let all : suc (length xs) * m ≡ length xs * m + m = suc-mul (length xs) m in
    let less : length (f n x) + length (numbered f (n + 1) xs) ≤ suc (length xs) * m = omega arith in subst (λ k. k ≤ suc (length xs) * m) (sym sum) less)

-- ---- calls of legacy functions

abbrev pub LeadsToLegacy : List Object → Named → SymbolId → Type 0
LeadsToLegacy os defined id = leads_to_legacy os (find (name_at os id) defined) ≡ true

call_leads : (os : List Object) (defined : Named) (object : ℕ) (o : Object) (f : Fix) → AllByRecursion (LeadsToLegacy os defined) (stub_call os defined object o f)
call_leads os defined object o f = by (is_call o f) (leads_to_legacy os (find (name_at os id) defined)) refl
  where
    id : SymbolId
    id = symbol_id object f.symbol

    by : (a b : Bool) → leads_to_legacy os (find (name_at os id) defined) ≡ b → AllByRecursion (LeadsToLegacy os defined) (if a && b then id ∷ [] else [])
    by true true e = (e, tt)
    by true false e = tt
    by false true e = tt
    by false false e = tt

calls_lead_of : (os : List Object) (defined : Named) (object : ℕ) (o : Object) (fs : List Fix) → AllByRecursion (LeadsToLegacy os defined) (flat_map (stub_call os defined object o) fs)
calls_lead_of os defined object o [] = tt
calls_lead_of os defined object o (f ∷ fs) =
    all-append (LeadsToLegacy os defined) (stub_call os defined object o f) (flat_map (stub_call os defined object o) fs) (call_leads os defined object o f) (calls_lead_of os defined object o fs)

calls_lead_from : (os : List Object) (defined : Named) (n : ℕ) (xs : List Object) → AllByRecursion (LeadsToLegacy os defined) (numbered (stub_calls_of os defined) n xs)
calls_lead_from os defined n [] = tt
calls_lead_from os defined n (x ∷ xs) =
    all-append (LeadsToLegacy os defined) (stub_calls_of os defined n x) (numbered (stub_calls_of os defined) (n + 1) xs) (calls_lead_of os defined n x x.fixes) (calls_lead_from os defined (n + 1) xs)

-- each symbol of a stub is of a name that a legacy function has
pub stubs_lead : (os : List Object) (defined : Named) → AllByRecursion (LeadsToLegacy os defined) (ids (named_by os (stub_calls os defined)))
stubs_lead os defined = named_all (LeadsToLegacy os defined) os (stub_calls os defined) (calls_lead_from os defined 0 os)

one_call : (os : List Object) (defined : Named) (object : ℕ) (o : Object) (f : Fix) → length (stub_call os defined object o f) ≤ 1
one_call os defined object o f = by (is_call o f && leads_to_legacy os (find (name_at os (symbol_id object f.symbol)) defined))
  where
    by : (b : Bool) → length (if b then symbol_id object f.symbol ∷ [] else []) ≤ 1
    by true = omega arith
    by false = omega arith

pub few_calls : (os : List Object) (defined : Named) (object : ℕ) (o : Object) (fs : List Fix) → length (flat_map (stub_call os defined object o) fs) ≤ length fs
few_calls os defined object o [] = omega arith
few_calls os defined object o (f ∷ fs) =
    (let one = one_call os defined object o f in let more = few_calls os defined object o fs in
    let sum = length-append (stub_call os defined object o f) (flat_map (stub_call os defined object o) fs) in
    let less : length (stub_call os defined object o f) + length (flat_map (stub_call os defined object o) fs) ≤ suc (length fs) = omega arith in subst (λ k. k ≤ suc (length fs)) (sym sum) less)

-- ---- how many there are

few_filtered : {X : Type 0} (p : X → Bool) (xs : List X) → length (filter p xs) ≤ length xs
few_filtered p [] = omega arith
few_filtered p (x ∷ xs) = (let more = few_filtered p xs in filtered_few (p x) x (filter p xs) (length xs) more)
  where
    filtered_few : {X : Type 0} (b : Bool) (x : X) (ys : List X) (n : ℕ) → length ys ≤ n → length (cond b (x ∷ ys) ys) ≤ suc n
    filtered_few true x ys n h = omega arith
    filtered_few false x ys n h = omega arith

few_ids : (object : ℕ) (o : Object) → length (ids_of object o) ≤ length o.symbols * 1
few_ids object o = length_numbered (id_with object) 1 0 o.symbols (by_recursion (λ x. (i : ℕ) → length (id_with object i x) ≤ 1) o.symbols (λ k d h i. omega arith))

pub few_symbols : (os : List Object) → All (λ (o : Object). length o.symbols ≤ 65_536) os → length (symbols os) ≤ length os * 65_536
few_symbols os all =
    length_numbered ids_of 65_536 0 os (by_recursion (λ x. (i : ℕ) → length (ids_of i x) ≤ 65_536) os (λ k d h i. (let few = few_ids i (get_or os k d) in let own = all k d h in omega arith)))

pub few_functions : (os : List Object) → All (λ (o : Object). length o.symbols ≤ 65_536) os → length (functions os) ≤ length os * 65_536
few_functions os all =
    (let a = length_named_by os (filter (is_c_function os) (symbols os)) in let b = few_filtered (is_c_function os) (symbols os) in let c = few_symbols os all in omega arith)

pub few_stubs : (os : List Object) (defined : Named) → All (λ (o : Object). length o.fixes ≤ 2 ^ 20) os → length (named_by os (stub_calls os defined)) ≤ length os * 2 ^ 20
few_stubs os defined all =
    let a = length_named_by os (stub_calls os defined) in
    let b = length_numbered (stub_calls_of os defined) (2 ^ 20) 0 os (by_recursion (λ x. (i : ℕ) → length (stub_calls_of os defined i x) ≤ 2 ^ 20) os
    (λ k d h i. (let few = few_calls os defined i (get_or os k d) (get_or os k d).fixes in let own = all k d h in omega arith))) in
    omega arith
