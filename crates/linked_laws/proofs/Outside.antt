-- Legacy code and data of objects that differ in their instrumented code alone.
use Rattle.std.proofs.Common.{◌≡◌, refl, sym, ap, ◌∙◌, subst, ℕ, zero, suc, ◌+◌, ◌==◌, not, ◌&&◌, Bool, true, false, true≢false, cond, eqb-true, if◌then◌else◌, Option, None, Some, List, [], ◌∷◌, ◌++◌, length, slice_get}
use Rattle.std.specs.List.{AllByRecursion, filter, fold}
use Rattle.std.specs.Option.{unwrap_or, option_map_or}
use Rattle.obj_file.specs.declared.object.Object.{Object}
use Rattle.obj_file.specs.declared.object.Fix.{Fix}
use Rattle.obj_file.specs.declared.object.Symbol.{Symbol}
use Rattle.obj_linker.specs.declared.parts.SymbolId.{SymbolId}
use Rattle.obj_linker.specs.Symbols.{Named, numbered, symbols, symbol_at, symbol_id, no_symbol, name_at, ids_of, id_with, is_import, is_code, is_legacy_at, is_c_function, find, place_of, add_if_new, named_by, functions, definitions, definitions_in}
use Rattle.obj_linker.specs.Placement.{is_call, plan_of, spot_of, own_address, outer_at}
use Rattle.obj_linker.specs.Fixing.{seen_address, meant_by, target, value_of, fix_value, field_bytes, with_field, fixed, fixed_part}
use Rattle.linked_laws.specs.Alike.{AreAlike}
use Rattle.linked_laws.specs.Outside.{IsSameSymbol, AreSameSymbols, IsSameOutside, AreSameOutside, is_in_data}
use Rattle.linked_laws.proofs.Places.{stored_stay, legacy_stays}

are_alike : (os ps : List Object) → AreSameOutside os ps → AreAlike os ps
are_alike [] [] h = tt
are_alike [] (p ∷ ps) h = absurd h
are_alike (o ∷ os) [] h = absurd h
are_alike (o ∷ os) (p ∷ ps) h = (
  record { legacy = h.0.legacy; stored = ap (λ (xs : List ℕ). length xs) h.0.stored; code = λ is. ap (λ (x : Object). length x.code) (h.0.same is) },
  are_alike os ps h.1,
)

-- only the fields in data fill data
data_alone : (ps : List Object) (k : ℕ) (p : Object) (fs : List Fix) (bytes : List ℕ) → fold (fixed ps (plan_of ps) k p 2) bytes fs ≡ fold (fixed ps (plan_of ps) k p 2) bytes (filter is_in_data fs)
data_alone ps k p [] bytes = refl
data_alone ps k p (f ∷ fs) bytes = by (f.part == 2) refl (data_alone ps k p fs)
  where
    by : (b : Bool) → (f.part == 2) ≡ b → ((bytes : List ℕ) → fold (fixed ps (plan_of ps) k p 2) bytes fs ≡ fold (fixed ps (plan_of ps) k p 2) bytes (filter is_in_data fs))
        → fold (fixed ps (plan_of ps) k p 2) (fixed ps (plan_of ps) k p 2 bytes f) fs ≡ fold (fixed ps (plan_of ps) k p 2) bytes (cond b (f ∷ filter is_in_data fs) (filter is_in_data fs))
    by true e more = more (fixed ps (plan_of ps) k p 2 bytes f)
    by false e more =
        ap (λ b. fold (fixed ps (plan_of ps) k p 2) (if b then with_field bytes f.offset (field_bytes f.form (fix_value ps (plan_of ps) k p f)) else bytes) fs) e ∙ more bytes

-- ---- symbols

same_symbol : (legacy : Bool) (ss ts : List Symbol) → AreSameSymbols legacy ss ts → (j : ℕ) → IsSameSymbol legacy (unwrap_or (slice_get ss j) no_symbol) (unwrap_or (slice_get ts j) no_symbol)
same_symbol legacy [] [] h j = record { part = refl; name = refl; sig = refl; offset = λ e. refl }
same_symbol legacy [] (t ∷ ts) h j = absurd h
same_symbol legacy (s ∷ ss) [] h j = absurd h
same_symbol legacy (s ∷ ss) (t ∷ ts) h zero = h.0
same_symbol legacy (s ∷ ss) (t ∷ ts) h (suc j) = same_symbol legacy ss ts h.1 j

record SameAt (os ps : List Object) (id : SymbolId) : Type 0 where
  legacy : is_legacy_at ps id ≡ is_legacy_at os id
  symbol : IsSameSymbol (is_legacy_at os id) (symbol_at os id) (symbol_at ps id)

same_at : (os ps : List Object) → AreSameOutside os ps → (k j : ℕ) → SameAt os ps (symbol_id k j)
same_at [] [] h k j = record { legacy = refl; symbol = record { part = refl; name = refl; sig = refl; offset = λ e. refl } }
same_at [] (p ∷ ps) h k j = absurd h
same_at (o ∷ os) [] h k j = absurd h
same_at (o ∷ os) (p ∷ ps) h zero j = record { legacy = h.0.legacy; symbol = same_symbol o.legacy o.symbols p.symbols h.0.symbols j }
same_at (o ∷ os) (p ∷ ps) h (suc k) j = (let more = same_at os ps h.1 k j in record { legacy = more.legacy; symbol = more.symbol })

same_ids : (k m : ℕ) (legacy : Bool) (ss ts : List Symbol) → AreSameSymbols legacy ss ts → numbered (id_with k) m ts ≡ numbered (id_with k) m ss
same_ids k m legacy [] [] h = refl
same_ids k m legacy [] (t ∷ ts) h = absurd h
same_ids k m legacy (s ∷ ss) [] h = absurd h
same_ids k m legacy (s ∷ ss) (t ∷ ts) h = ap (λ l. symbol_id k m ∷ l) (same_ids k (m + 1) legacy ss ts h.1)

same_symbols : (n : ℕ) (os ps : List Object) → AreSameOutside os ps → numbered ids_of n ps ≡ numbered ids_of n os
same_symbols n [] [] h = refl
same_symbols n [] (p ∷ ps) h = absurd h
same_symbols n (o ∷ os) [] h = absurd h
same_symbols n (o ∷ os) (p ∷ ps) h = (λ i. same_ids n 0 o.legacy o.symbols p.symbols h.0.symbols i ++ same_symbols (n + 1) os ps h.1 i)

module _ (os ps : List Object) (h : AreSameOutside os ps) where
  same_name : (id : SymbolId) → name_at ps id ≡ name_at os id
  same_name id = (same_at os ps h id.object id.symbol).symbol.name

  same_import : (id : SymbolId) → is_import ps id ≡ is_import os id
  same_import id = ap (λ n. n == 0) (same_at os ps h id.object id.symbol).symbol.part

  same_code : (id : SymbolId) → is_code ps id ≡ is_code os id
  same_code id = ap (λ n. n == 1) (same_at os ps h id.object id.symbol).symbol.part

  same_legacy : (id : SymbolId) → is_legacy_at ps id ≡ is_legacy_at os id
  same_legacy id = (same_at os ps h id.object id.symbol).legacy

  same_own : (id : SymbolId) → is_c_function ps id ≡ is_c_function os id
  same_own id = (λ i. not (same_legacy id i) && same_code id i)

  same_named : (xs : List SymbolId) → named_by ps xs ≡ named_by os xs
  same_named xs = (λ i. fold (λ (named : Named) (id : SymbolId). add_if_new (find (same_name id i) named) (same_name id i) id named) [] xs)

  same_definitions : definitions ps ≡ definitions os
  same_definitions = same_named (definitions_in ps) ∙ (λ i. named_by os (filter (λ id. not (same_import id i)) (same_symbols 0 os ps h i)))

  same_functions : functions ps ≡ functions os
  same_functions = same_named (filter (is_c_function ps) (symbols ps)) ∙ (λ i. named_by os (filter (λ id. same_own id i) (same_symbols 0 os ps h i)))

  -- ---- addresses

  same_stored : (k : ℕ) → (spot_of (plan_of ps) k).stored ≡ (spot_of (plan_of os) k).stored
  same_stored k = stored_stay os ps (are_alike os ps h) k

  -- of what isn't a C function
  same_address : (id : SymbolId) → is_c_function os id ≡ false → own_address ps (plan_of ps) id ≡ own_address os (plan_of os) id
  same_address id other = ap (λ b. (if b then (spot_of (plan_of ps) id.object).code else (spot_of (plan_of ps) id.object).stored) + (symbol_at ps id).offset) (same_code id)
      ∙ (λ i. spot (is_code os id) refl i + (same_at os ps h id.object id.symbol).symbol.offset other i)
    where
      legacy_there : (x : Option Object) → slice_get os id.object ≡ x → option_map_or (λ (o : Object). o.legacy) x false ≡ true → (spot_of (plan_of ps) id.object).code ≡ (spot_of (plan_of os) id.object).code
      legacy_there None e is = absurd (true≢false (sym is))
      legacy_there (Some o) e is = legacy_stays os ps (are_alike os ps h) id.object o e is

      not_own : (l c : Bool) → (not l && c) ≡ false → c ≡ true → l ≡ true
      not_own true c e is = refl
      not_own false c e is = absurd (true≢false (sym is ∙ e))

      spot : (b : Bool) → is_code os id ≡ b
          → (if b then (spot_of (plan_of ps) id.object).code else (spot_of (plan_of ps) id.object).stored) ≡ (if b then (spot_of (plan_of os) id.object).code else (spot_of (plan_of os) id.object).stored)
      spot true e = legacy_there (slice_get os id.object) refl (not_own (is_legacy_at os id) (is_code os id) other e)
      spot false e = same_stored id.object

  same_seen : (name : List ℕ) (d : SymbolId) → seen_address ps (plan_of ps) false name d ≡ seen_address os (plan_of os) false name d
  same_seen name d = ap (λ b. if b then outer_at (place_of name (functions ps)) else own_address ps (plan_of ps) d) (same_own d) ∙ by (is_c_function os d) refl
    where
      by : (b : Bool) → is_c_function os d ≡ b → (if b then outer_at (place_of name (functions ps)) else own_address ps (plan_of ps) d) ≡ (if b then outer_at (place_of name (functions os)) else own_address os (plan_of os) d)
      by true e = ap (λ fs. outer_at (place_of name fs)) same_functions
      by false e = same_address d e

  same_meant : (id : SymbolId) → meant_by ps (plan_of ps) id ≡ meant_by os (plan_of os) id
  same_meant id = (λ i. unwrap_or (find (same_name id i) (same_definitions i)) id)

  same_target : (k : ℕ) (o p : Object) (f : Fix) → is_call o f ≡ false → is_call p f ≡ false → target ps (plan_of ps) k p f ≡ target os (plan_of os) k o f
  same_target k o p f of_o of_p =
      (λ i. seen_address ps (plan_of ps) (of_p i) (same_name (symbol_id k f.symbol) i) (same_meant (symbol_id k f.symbol) i))
      ∙ (same_seen (name_at os (symbol_id k f.symbol)) (meant_by os (plan_of os) (symbol_id k f.symbol))
      ∙ ap (λ b. seen_address os (plan_of os) b (name_at os (symbol_id k f.symbol)) (meant_by os (plan_of os) (symbol_id k f.symbol))) (sym of_o))

  -- ---- parts

  same_value : (k : ℕ) (o p : Object) (f : Fix) → is_call o f ≡ false → is_call p f ≡ false → ((f.part == 1) ≡ true → (spot_of (plan_of ps) k).code ≡ (spot_of (plan_of os) k).code)
      → fix_value ps (plan_of ps) k p f ≡ fix_value os (plan_of os) k o f
  same_value k o p f of_o of_p code = (λ i. value_of (same_target k o p f of_o of_p i) (by (f.part == 1) refl i + f.offset) f)
    where
      by : (b : Bool) → (f.part == 1) ≡ b → (if b then (spot_of (plan_of ps) k).code else (spot_of (plan_of ps) k).stored) ≡ (if b then (spot_of (plan_of os) k).code else (spot_of (plan_of os) k).stored)
      by true e = code e
      by false e = same_stored k

  pub legacy_same : (k : ℕ) (o p : Object) → IsSameOutside o p → slice_get os k ≡ Some o → o.legacy ≡ true → fixed_part ps (plan_of ps) k p 1 ≡ fixed_part os (plan_of os) k o 1
  legacy_same k o p is at legacy =
      ap (λ x. fixed_part ps (plan_of ps) k x 1) (is.same legacy)
      ∙ (λ i. fold (λ bytes f. if f.part == 1 then with_field bytes f.offset (field_bytes f.form (value f i)) else bytes) o.code o.fixes)
    where
      free : (f : Fix) → is_call o f ≡ false
      free f = ap (λ b. not b && (f.form == 2)) legacy

      value : (f : Fix) → fix_value ps (plan_of ps) k o f ≡ fix_value os (plan_of os) k o f
      value f = same_value k o o f (free f) (free f) (λ e. legacy_stays os ps (are_alike os ps h) k o at legacy)

  data_values : (k : ℕ) (o p : Object) → p.legacy ≡ o.legacy → (fs : List Fix) (bytes : List ℕ) → AllByRecursion (λ f. is_call o f ≡ false) fs
      → fold (fixed ps (plan_of ps) k p 2) bytes fs ≡ fold (fixed os (plan_of os) k o 2) bytes fs
  data_values k o p legacy [] bytes all = refl
  data_values k o p legacy (f ∷ fs) bytes all =
      ap (λ b. fold (fixed ps (plan_of ps) k p 2) b fs) (by (f.part == 2) refl) ∙ data_values k o p legacy fs (fixed os (plan_of os) k o 2 bytes f) all.1
    where
      of_p : is_call p f ≡ false
      of_p = ap (λ b. not b && (f.form == 2)) legacy ∙ all.0

      by : (b : Bool) → (f.part == 2) ≡ b → (if b then with_field bytes f.offset (field_bytes f.form (fix_value ps (plan_of ps) k p f)) else bytes)
          ≡ (if b then with_field bytes f.offset (field_bytes f.form (fix_value os (plan_of os) k o f)) else bytes)
      by true e =
          let two : f.part ≡ 2 = eqb-true f.part 2 e in
          ap (λ z. with_field bytes f.offset (field_bytes f.form z))
          (same_value k o p f all.0 of_p (λ one. absurd (true≢false (sym one ∙ ap (λ n. n == 1) two))))
      by false e = refl

  pub data_same : (k : ℕ) (o p : Object) → IsSameOutside o p → fixed_part ps (plan_of ps) k p 2 ≡ fixed_part os (plan_of os) k o 2
  data_same k o p is =
      data_alone ps k p p.fixes p.stored
      ∙ ((λ i. fold (fixed ps (plan_of ps) k p 2) (is.stored i) (is.fixes i))
      ∙ (data_values k o p is.legacy (filter is_in_data o.fixes) o.stored is.absolute ∙ sym (data_alone os k o o.fixes o.stored)))

  pub same_entries : (plan_of ps).functions ≡ (plan_of os).functions
  same_entries = same_functions

pub same_object : (os ps : List Object) → AreSameOutside os ps → (k : ℕ) (o p : Object) → slice_get os k ≡ Some o → slice_get ps k ≡ Some p → IsSameOutside o p
same_object [] ps h k o p a b = cc
same_object (x ∷ os) [] h k o p a b = absurd h
same_object (x ∷ os) (y ∷ ps) h zero o p a b =
    let one : x ≡ o = cc in
    let two : y ≡ p = cc in
    subst (λ z. IsSameOutside z p) one (subst (IsSameOutside x) two h.0)
same_object (x ∷ os) (y ∷ ps) h (suc k) o p a b = same_object os ps h.1 k o p a b
