-- The functions at the border have signatures of functions.
use Rattle.std.proofs.Common.{◌≡◌, ◌⊎◌, inl, inr, refl, sym, ap, ◌∙◌, subst, ℕ, zero, suc, ◌+◌, ◌<◌, ◌≤◌, nat_eq, nat_le, ◌==◌, not, ◌&&◌, ◌||◌, Bool, true, false, true≢false, cond, if◌then◌else◌, Option, None, Some, List, [], ◌∷◌, ◌++◌, length, slice_get, slice_index, add-zero, arith}
use Rattle.std.specs.Prelude.{drop}
use Rattle.std.specs.Char.{is_ascii_digit}
use Rattle.std.specs.List.{AllByRecursion, filter, flat_map, list_all}
use Rattle.std.specs.Option.{unwrap_or, option_or, option_map_or}
use Rattle.std.specs.Str.{bytes_eq}
use Rattle.std.proofs.lemmas.Bool.{and_parts}
use Rattle.std.proofs.lemmas.Bool.Decides.{nat_tests}
use Rattle.std.proofs.lemmas.List.{length-map}
use Rattle.std.proofs.lemmas.Slice.Eq.{bytes_eq-Decides}
use Rattle.obj_file.specs.declared.object.Object.{Object}
use Rattle.obj_file.specs.declared.object.Fix.{Fix}
use Rattle.obj_file.specs.declared.object.Symbol.{Symbol}
use Rattle.obj_file.specs.declared.image.Image.{Image}
use Rattle.obj_file.specs.declared.parts.End.{End}
use Rattle.obj_file.specs.declared.parts.Parts.{Parts}
use Rattle.obj_file.specs.InTurn.{InTurn}
use Rattle.obj_file.specs.Names.{is_function_sig, is_data_sig}
use Rattle.obj_file.specs.Object.{IsObject, IsSymbol, IsFix, after_symbol, fix_end, no_fix, least_sig, parts_of, suits}
use Rattle.obj_linker.specs.declared.fault.LinkFault.{LinkFault}
use Rattle.obj_linker.specs.declared.fault.LinkFault.TheVariants.{Clash}
use Rattle.obj_linker.specs.declared.parts.SymbolId.{SymbolId}
use Rattle.obj_linker.specs.Symbols.{Named, numbered, symbols, symbol_at, symbol_id, no_symbol, name_at, sig_at, ids, ids_of, id_with, is_some_text, is_import, is_code, is_legacy_at, is_c_function, is_legacy_function, find, with_name, definitions, definitions_in, imports_in, signed_imports}
use Rattle.obj_linker.specs.Placement.{is_call, leads_to_legacy, stub_call, stub_calls_of, stub_calls, plan_of}
use Rattle.obj_linker.specs.Faults.{clashes, fault_if_found, held_to, import_faults, is_of_other_part, repeated}
use Rattle.obj_linker.proofs.Members.{all_filtered, got, named_all}
use Rattle.linked_laws.specs.Linked.{AreLinked}
use Rattle.linked_laws.specs.Linkage.{called_at, function_at}
use Rattle.linked_laws.proofs.Answer.{passed}
use Rattle.linked_laws.proofs.Gated.{got_there, got_keeps}
use Rattle.linked_laws.proofs.Main.{find_first, find_one_more, first_named}
use Rattle.obj_linker.proofs.Passing.{none_before, none_behind}

-- ---- symbols that keep the rules of symbols

record KeepsRules (parts : Parts) (s : Symbol) : Type 0 where
  seen : List Symbol
  rules : IsSymbol parts seen s

keeps_rules : (parts : Parts) (seen xs : List Symbol) (k : ℕ) (s : Symbol) → InTurn (IsSymbol parts) after_symbol seen xs → slice_get xs k ≡ Some s → KeepsRules parts s
keeps_rules parts seen [] k s all h = cc
keeps_rules parts seen (x ∷ xs) zero s all h = (let same : x ≡ s = cc in record { seen = seen; rules = subst (IsSymbol parts seen) same all.0 })
keeps_rules parts seen (x ∷ xs) (suc k) s all h = keeps_rules parts (after_symbol seen x) xs k s all.1 h

-- a signature of a function, where one of data can't be
function_signed : (a b x c y : Bool) → a ≡ false → (c && y) ≡ false → (a || (b && x) || (c && y)) ≡ true → b ≡ true
function_signed true b x c y some other h = absurd (true≢false some)
function_signed false true x c y some other h = refl
function_signed false false x true y some other h = absurd (true≢false (sym h ∙ other))
function_signed false false x false y some other h = absurd (true≢false (sym h))

signed_by_rules : (parts : Parts) (seen : List Symbol) (s : Symbol) → IsSymbol parts seen s → parts.legacy ≡ false → (is_data_sig s.sig && not (nat_eq s.part 1)) ≡ false → is_function_sig s.sig ≡ true
unfolding suits
signed_by_rules parts seen s rules own other =
    let least : 1 ≤ length s.sig = subst (λ b. least_sig b ≤ length s.sig) own rules.signed in
    let some : nat_eq (length s.sig) 0 ≡ false = grind (arith, nat_tests) in
    function_signed (nat_eq (length s.sig) 0) (is_function_sig s.sig) (not (nat_eq s.part 2)) (is_data_sig s.sig) (not (nat_eq s.part 1)) some other rules.sig

and_no : (a b : Bool) → b ≡ false → (a && b) ≡ false
and_no true b h = h
and_no false b h = refl

-- ---- symbols of objects

shown_at : (os : List Object) (k j : ℕ) (o : Object) (s : Symbol) → slice_get os k ≡ Some o → slice_get o.symbols j ≡ Some s → symbol_at os (symbol_id k j) ≡ s
shown_at os k j o s at named =
    ap (λ x. unwrap_or (slice_get (option_map_or (λ (o : Object). o.symbols) x []) j) no_symbol) at ∙ ap (λ y. unwrap_or y no_symbol) named

record HasSymbol (os : List Object) (id : SymbolId) : Type 0 where
  object : Object
  at : slice_get os id.object ≡ Some object
  symbol : Symbol
  named : slice_get object.symbols id.symbol ≡ Some symbol

code_symbol : (os : List Object) (id : SymbolId) → is_code os id ≡ true → HasSymbol os id
code_symbol os id c = by (slice_get os id.object) refl c
  where
    inner : (o : Object) → slice_get os id.object ≡ Some o → (y : Option Symbol) → slice_get o.symbols id.symbol ≡ y → ((unwrap_or y no_symbol).part == 1) ≡ true → HasSymbol os id
    inner o e None f c = absurd (true≢false (sym c))
    inner o e (Some s) f c = record { object = o; at = e; symbol = s; named = f }

    by : (x : Option Object) → slice_get os id.object ≡ x → ((unwrap_or (slice_get (option_map_or (λ (o : Object). o.symbols) x []) id.symbol) no_symbol).part == 1) ≡ true → HasSymbol os id
    by None e c = absurd (true≢false (sym c))
    by (Some o) e c = inner o e (slice_get o.symbols id.symbol) refl c

turned : (b : Bool) → not b ≡ true → b ≡ false
turned true h = absurd (true≢false (sym h))
turned false h = refl

object_is : (os : List Object) (v : Image) → AreLinked os v → (k : ℕ) (o : Object) → slice_get os k ≡ Some o → IsObject o
object_is os v l k o at = (let g = got os k o at in subst IsObject (g.is o) (l.objects k o g.less))

-- a C function has the signature of a function
own_signed : (os : List Object) (v : Image) → AreLinked os v → (id : SymbolId) → is_c_function os id ≡ true → is_function_sig (sig_at os id) ≡ true
own_signed os v l id own =
    let two = and_parts (not (is_legacy_at os id)) (is_code os id) own in
    let s = code_symbol os id two.1 in
    let is = object_is os v l id.object s.object s.at in
    let kept = keeps_rules (parts_of s.object) [] s.object.symbols id.symbol s.symbol is.symbols s.named in
    let shown : symbol_at os id ≡ s.symbol = shown_at os id.object id.symbol s.object s.symbol s.at s.named in
    let legacy : s.object.legacy ≡ false = sym (ap (λ x. option_map_or (λ (o : Object). o.legacy) x false) s.at) ∙ turned (is_legacy_at os id) two.0 in
    let code : nat_eq s.symbol.part 1 ≡ true = sym (ap (λ (x : Symbol). nat_eq x.part 1) shown) ∙ two.1 in
    let other : (is_data_sig s.symbol.sig && not (nat_eq s.symbol.part 1)) ≡ false = and_no (is_data_sig s.symbol.sig) (not (nat_eq s.symbol.part 1)) (ap not code) in
    ap (λ (x : Symbol). is_function_sig x.sig) shown ∙ signed_by_rules (parts_of s.object) kept.seen s.symbol kept.rules legacy other

pub functions_signed : (os : List Object) (v : Image) → AreLinked os v → (f : ℕ) → f < length (plan_of os).functions → is_function_sig (sig_at os (function_at os f)) ≡ true
functions_signed os v l f less =
    let same = length-map (plan_of os).functions (λ (e : List ℕ × SymbolId). e.1) in
    own_signed os v l (function_at os f)
    (got_keeps (λ id. is_c_function os id ≡ true) (ids (plan_of os).functions) f (symbol_id 0 0)
    (named_all (λ id. is_c_function os id ≡ true) os (filter (is_c_function os) (symbols os)) (all_filtered (is_c_function os) (symbols os))) (omega arith))

-- ---- elements of lists

abbrev IsIn : {X : Type 0} → X → List X → Type 0
IsIn a [] = ⊥
IsIn a (x ∷ xs) = (x ≡ a) ⊎ IsIn a xs

in_before : {X : Type 0} (a : X) (xs ys : List X) → IsIn a xs → IsIn a (xs ++ ys)
in_before a [] ys h = absurd h
in_before a (x ∷ xs) ys (inl e) = inl e
in_before a (x ∷ xs) ys (inr h) = inr (in_before a xs ys h)

in_behind : {X : Type 0} (a : X) (xs ys : List X) → IsIn a ys → IsIn a (xs ++ ys)
in_behind a [] ys h = h
in_behind a (x ∷ xs) ys h = inr (in_behind a xs ys h)

in_numbered : {X A : Type 0} (a : A) (g : ℕ → X → List A) (n : ℕ) (xs : List X) (k : ℕ) (x : X) → slice_get xs k ≡ Some x → IsIn a (g (n + k) x) → IsIn a (numbered g n xs)
in_numbered a g n [] k x h own = cc
in_numbered a g n (y ∷ xs) zero x h own =
    let same : y ≡ x = cc in
    in_before a (g n y) (numbered g (n + 1) xs) (subst (λ z. IsIn a (g n z)) (sym same) (subst (λ m. IsIn a (g m x)) (add-zero n) own))
in_numbered a g n (y ∷ xs) (suc k) x h own =
    in_behind a (g n y) (numbered g (n + 1) xs) (in_numbered a g (n + 1) xs k x h (subst (λ m. IsIn a (g m x)) (let e : n + suc k ≡ n + 1 + k = omega arith in e) own))

in_filtered : {X : Type 0} (p : X → Bool) (a : X) (xs : List X) → p a ≡ true → IsIn a xs → IsIn a (filter p xs)
in_filtered p a [] passes h = h
in_filtered p a (x ∷ xs) passes (inl e) = subst (λ b. IsIn a (cond b (x ∷ filter p xs) (filter p xs))) (sym (ap p e ∙ passes)) (inl e)
in_filtered p a (x ∷ xs) passes (inr h) = by (p x) (in_filtered p a xs passes h)
  where
    by : (b : Bool) → IsIn a (filter p xs) → IsIn a (cond b (x ∷ filter p xs) (filter p xs))
    by true more = inr more
    by false more = more

in_symbols : (os : List Object) (k j : ℕ) (o : Object) (s : Symbol) → slice_get os k ≡ Some o → slice_get o.symbols j ≡ Some s → IsIn (symbol_id k j) (symbols os)
in_symbols os k j o s at named =
    let own : IsIn (symbol_id k j) (ids_of k o) = in_numbered (symbol_id k j) (id_with k) 0 o.symbols j s named (inl (ap (symbol_id k) (let e : 0 + j ≡ j = omega arith in e))) in
    in_numbered (symbol_id k j) ids_of 0 os k o at (subst (λ m. IsIn (symbol_id k j) (ids_of m o)) (let e : k ≡ 0 + k = omega arith in e) own)

none_of : {X : Type 0} (g : X → List LinkFault) (a : X) (xs : List X) → flat_map g xs ≡ [] → IsIn a xs → g a ≡ []
none_of g a [] none h = absurd h
none_of g a (x ∷ xs) none (inl e) = sym (ap g e) ∙ none_before (g x) (flat_map g xs) none
none_of g a (x ∷ xs) none (inr h) = none_of g a xs (none_behind (g x) (flat_map g xs) none) h

-- ---- definitions are of one name each

none_found : (x : Option SymbolId) (name : List ℕ) → fault_if_found x name ≡ [] → x ≡ None
none_found None name h = refl
none_found (Some y) name h = cc

nowhere : (a : Option SymbolId) (b : Bool) (x : SymbolId) → option_or a (cond b (Some x) None) ≡ None → (a ≡ None) × (b ≡ false)
nowhere None true x h = cc
nowhere None false x h = (refl, refl)
nowhere (Some y) b x h = cc

nothing_more : (a : Option SymbolId) → a ≡ None → option_or a None ≡ None
nothing_more None h = refl
nothing_more (Some y) h = cc

-- before a definition its name wasn't found
new_name : (os : List Object) (now : Named) (xs : List SymbolId) (id : SymbolId) → repeated os now xs ≡ [] → IsIn id xs → find (name_at os id) now ≡ None
new_name os now [] id none h = absurd h
new_name os now (x ∷ xs) id none (inl e) =
    ap (λ (y : SymbolId). find (name_at os y) now) (sym e)
    ∙ none_found (find (name_at os x) now) (name_at os x) (none_before (fault_if_found (find (name_at os x) now) (name_at os x)) (repeated os (with_name os now x) xs) none)
new_name os now (x ∷ xs) id none (inr h) =
    let rest = none_behind (fault_if_found (find (name_at os x) now) (name_at os x)) (repeated os (with_name os now x) xs) none in
    let later = nothing_more (find (name_at os id) (with_name os now x)) (new_name os (with_name os now x) xs id rest h) in
    (nowhere (find (name_at os id) now) (bytes_eq (name_at os id) (name_at os x)) x (sym (find_one_more os (name_at os id) now x None) ∙ later)).0

-- so it is the first of its name
first_of_name : (os : List Object) (now : Named) (xs : List SymbolId) (id : SymbolId) → repeated os now xs ≡ [] → IsIn id xs → first_named os (name_at os id) xs ≡ Some id
first_of_name os now [] id none h = absurd h
first_of_name os now (x ∷ xs) id none (inl e) =
    let self : bytes_eq (name_at os id) (name_at os x) ≡ true = (bytes_eq-Decides (name_at os id) (name_at os x)).1 (ap (name_at os) (sym e)) in
    ap (λ b. cond b (Some x) (first_named os (name_at os id) xs)) self ∙ ap Some e
first_of_name os now (x ∷ xs) id none (inr h) =
    let rest = none_behind (fault_if_found (find (name_at os x) now) (name_at os x)) (repeated os (with_name os now x) xs) none in
    let later = nothing_more (find (name_at os id) (with_name os now x)) (new_name os (with_name os now x) xs id rest h) in
    let other = (nowhere (find (name_at os id) now) (bytes_eq (name_at os id) (name_at os x)) x (sym (find_one_more os (name_at os id) now x None) ∙ later)).1 in
    ap (λ b. cond b (Some x) (first_named os (name_at os id) xs)) other ∙ first_of_name os (with_name os now x) xs id rest h

-- ---- calls of legacy functions

clash_free : (a b c : Bool) → (a && (b || c)) ≡ false → a ≡ true → c ≡ false
clash_free true true c h is = absurd (true≢false h)
clash_free true false c h is = h
clash_free false b c h is = absurd (true≢false (sym is))

either_free : (a b : Bool) → (a || b) ≡ false → a ≡ false
either_free true b h = absurd (true≢false h)
either_free false b h = refl

and_free : (a b : Bool) → (a && b) ≡ false → a ≡ true → b ≡ false
and_free true b h is = h
and_free false b h is = absurd (true≢false (sym is))

no_fault : (b : Bool) (fault : LinkFault) → (if b then fault ∷ [] else []) ≡ [] → b ≡ false
no_fault true fault h = cc
no_fault false fault h = refl

-- a signature of data begins with `d`
first_no : (a b : Bool) → a ≡ false → (a && b) ≡ false
first_no true b h = absurd (true≢false h)
first_no false b h = refl

no_data : (sig : List ℕ) → (slice_index sig 0 == 100) ≡ false → is_data_sig sig ≡ false
unfolding is_data_sig
no_data sig h =
    first_no (nat_le 2 (length sig) && nat_eq (slice_index sig 0) 100 && list_all is_ascii_digit (drop 1 sig)) (nat_eq (length sig) 2 || not (nat_eq (slice_index sig 1) 48))
    (first_no (nat_le 2 (length sig) && nat_eq (slice_index sig 0) 100) (list_all is_ascii_digit (drop 1 sig)) (and_no (nat_le 2 (length sig)) (nat_eq (slice_index sig 0) 100) h))

has_text : (text : List ℕ) → 1 ≤ length text → is_some_text text ≡ true
has_text text h = (let some : (length text == 0) ≡ false = grind (arith, nat_tests) in ap not some)

module _ (os : List Object) (v : Image) (l : AreLinked os v) (k : ℕ) (o : Object) (at : slice_get os k ≡ Some o) (own : o.legacy ≡ false) where
  module _ (j : ℕ) (few : j < length o.symbols) (d : SymbolId) (found : find (name_at os (symbol_id k j)) (definitions os) ≡ Some d) (legacy : is_legacy_function os d ≡ true) where
    abbrev symbol_there : Symbol
    symbol_there = unwrap_or (slice_get o.symbols j) no_symbol

    named : slice_get o.symbols j ≡ Some symbol_there
    named = got_there o.symbols j no_symbol few

    shown : symbol_at os (symbol_id k j) ≡ symbol_there
    shown = shown_at os k j o symbol_there at named

    import_signed : is_import os (symbol_id k j) ≡ true → is_function_sig (sig_at os (symbol_id k j)) ≡ true
    import_signed import =
        let is = object_is os v l k o at in
        let kept = keeps_rules (parts_of o) [] o.symbols j symbol_there is.symbols named in
        let least : 1 ≤ length symbol_there.sig = subst (λ b. least_sig b ≤ length symbol_there.sig) own kept.rules.signed in
        let id : SymbolId = symbol_id k j in
        let sig : List ℕ = sig_at os id in
        let some : is_some_text sig ≡ true = ap (λ (x : Symbol). is_some_text x.sig) shown ∙ has_text symbol_there.sig least in
        let among : IsIn id (imports_in os) = in_filtered (is_import os) id (symbols os) import (in_symbols os k j o symbol_there at named) in
        let none = none_of (λ i. import_faults os (signed_imports os) i (find (name_at os i) (definitions os))) id (imports_in os) (passed os v l).imports among in
        let free : import_faults os (signed_imports os) id (Some d) ≡ [] = ap (import_faults os (signed_imports os) id) (sym found) ∙ none in
        let part : ℕ = (symbol_at os d).part in
        let held : List ℕ = sig_at os (held_to os (signed_imports os) d) in
        let other : is_of_other_part part sig ≡ false = clash_free (is_some_text sig) (not (bytes_eq sig held)) (is_of_other_part part sig) (no_fault (clashes sig held part) (Clash (name_at os id)) free) some in
        let code : (part == 1) ≡ true = (and_parts (is_legacy_at os d) (is_code os d) legacy).1 in
        let letter = and_free (part == 1) (slice_index sig 0 == 100) (either_free (part == 1 && (slice_index sig 0 == 100)) (part == 2 && (slice_index sig 0 == 102)) other) code in
        let of_data : is_data_sig symbol_there.sig ≡ false = sym (ap (λ (x : Symbol). is_data_sig x.sig) shown) ∙ no_data sig letter in
        ap (λ (x : Symbol). is_function_sig x.sig) shown
        ∙ signed_by_rules (parts_of o) kept.seen symbol_there kept.rules own (first_no (is_data_sig symbol_there.sig) (not (nat_eq symbol_there.part 1)) of_data)

    -- a definition of the name would be the legacy function itself
    is_imported : is_import os (symbol_id k j) ≡ false → ⊥
    is_imported defines =
        let id : SymbolId = symbol_id k j in
        let among : IsIn id (definitions_in os) = in_filtered (λ i. not (is_import os i)) id (symbols os) (ap not defines) (in_symbols os k j o symbol_there at named) in
        let first : find (name_at os id) (definitions os) ≡ Some id = find_first os (name_at os id) (definitions_in os) ∙ first_of_name os [] (definitions_in os) id (passed os v l).twice among in
        let both : Some d ≡ Some id = sym found ∙ first in
        let same : d ≡ id = cc in
        let yes : is_legacy_at os d ≡ true = (and_parts (is_legacy_at os d) (is_code os d) legacy).0 in
        let false_there : is_legacy_at os id ≡ false = ap (λ x. option_map_or (λ (o : Object). o.legacy) x false) at ∙ own in
        true≢false (sym yes ∙ (ap (is_legacy_at os) same ∙ false_there))

    called_signed : is_function_sig (sig_at os (symbol_id k j)) ≡ true
    called_signed = by (is_import os (symbol_id k j)) refl
      where
        by : (b : Bool) → is_import os (symbol_id k j) ≡ b → is_function_sig (sig_at os (symbol_id k j)) ≡ true
        by true e = import_signed e
        by false e = absurd (is_imported e)

abbrev IsSigned : List Object → SymbolId → Type 0
IsSigned os id = is_function_sig (sig_at os id) ≡ true

-- ---- stubs

fix_symbol : (parts : Parts) (n : ℕ) (before : End) (fs : List Fix) → InTurn (IsFix parts n) fix_end before fs → AllByRecursion (λ f. f.symbol < n) fs
fix_symbol parts n before [] turn = tt
fix_symbol parts n before (f ∷ fs) turn = (turn.0.symbol, fix_symbol parts n (fix_end before f) fs turn.1)

join : {X : Type 0} (P : X → Type 0) (xs ys : List X) → AllByRecursion P xs → AllByRecursion P ys → AllByRecursion P (xs ++ ys)
join P [] ys p q = q
join P (x ∷ xs) ys p q = (p.0, join P xs ys p.1 q)

module _ (os : List Object) (v : Image) (l : AreLinked os v) where
  one_signed : (k : ℕ) (o : Object) → slice_get os k ≡ Some o → (f : Fix) → f.symbol < length o.symbols → AllByRecursion (IsSigned os) (stub_call os (definitions os) k o f)
  one_signed k o at f few = by (is_call o f) refl (find (name_at os (symbol_id k f.symbol)) (definitions os)) refl
    where
      inner : (d : SymbolId) → find (name_at os (symbol_id k f.symbol)) (definitions os) ≡ Some d → o.legacy ≡ false → (b : Bool) → is_legacy_function os d ≡ b
          → AllByRecursion (IsSigned os) (if b then symbol_id k f.symbol ∷ [] else [])
      inner d found own true e = (called_signed os v l k o at own f.symbol few d found e, tt)
      inner d found own false e = tt

      by : (c : Bool) → is_call o f ≡ c → (x : Option SymbolId) → find (name_at os (symbol_id k f.symbol)) (definitions os) ≡ x
          → AllByRecursion (IsSigned os) (if c && leads_to_legacy os x then symbol_id k f.symbol ∷ [] else [])
      by false c x e = tt
      by true c None e = tt
      by true c (Some d) e = inner d e (turned o.legacy (and_parts (not o.legacy) (f.form == 2) c).0) (is_legacy_function os d) refl

  of_fixes : (k : ℕ) (o : Object) → slice_get os k ≡ Some o → (fs : List Fix) → AllByRecursion (λ (f : Fix). f.symbol < length o.symbols) fs → AllByRecursion (IsSigned os) (flat_map (stub_call os (definitions os) k o) fs)
  of_fixes k o at [] all = tt
  of_fixes k o at (f ∷ fs) all =
      join (IsSigned os) (stub_call os (definitions os) k o f) (flat_map (stub_call os (definitions os) k o) fs) (one_signed k o at f all.0) (of_fixes k o at fs all.1)

  of_objects : (n : ℕ) (xs : List Object) → ((j : ℕ) (o : Object) → slice_get xs j ≡ Some o → slice_get os (n + j) ≡ Some o) → AllByRecursion (IsSigned os) (numbered (stub_calls_of os (definitions os)) n xs)
  of_objects n [] from = tt
  of_objects n (o ∷ xs) from =
      let at : slice_get os n ≡ Some o = ap (slice_get os) (let e : n ≡ n + 0 = omega arith in e) ∙ from zero o refl in
      let is = object_is os v l n o at in
      join (IsSigned os) (stub_calls_of os (definitions os) n o) (numbered (stub_calls_of os (definitions os)) (n + 1) xs)
      (of_fixes n o at o.fixes (fix_symbol (parts_of o) (length o.symbols) no_fix o.fixes is.fixes))
      (of_objects (n + 1) xs (λ j x h. ap (slice_get os) (let e : n + 1 + j ≡ n + suc j = omega arith in e) ∙ from (suc j) x h))

  pub stubs_signed : (g : ℕ) → g < length (plan_of os).stubs → is_function_sig (sig_at os (called_at os g)) ≡ true
  stubs_signed g less =
      let same = length-map (plan_of os).stubs (λ (e : List ℕ × SymbolId). e.1) in
      got_keeps (IsSigned os) (ids (plan_of os).stubs) g (symbol_id 0 0)
      (named_all (IsSigned os) os (stub_calls os (definitions os)) (of_objects 0 os (λ j o h. ap (slice_get os) (let e : 0 + j ≡ j = omega arith in e) ∙ h))) (omega arith)
