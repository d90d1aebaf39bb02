-- The symbols of objects, and what their names mean.
use Rattle.std.specs.Prelude.{ℕ, ◌+◌, Bool, false, not, ◌&&◌, ◌==◌, Option, None, Some, List, [], ◌∷◌, ◌++◌, length, slice_get, map}
use Rattle.std.specs.List.{filter, fold, position}
use Rattle.std.specs.Option.{unwrap_or, option_map_or}
use Rattle.std.specs.Str.{bytes_eq}
use Rattle.std.specs.Global.{Global}
use Rattle.std.specs.declared.vec.Vec.{Vec}
use Rattle.std.specs.Map.{lookup, keys_of}
use Rattle.obj_file.specs.declared.object.Object.{Object}
use Rattle.obj_file.specs.declared.object.Symbol.{Symbol}
use Rattle.obj_linker.specs.declared.parts.SymbolId.{SymbolId}

-- what a function gives for each element and its number, one after the other, the first number being n
abbrev pub numbered : {X A : Type 0} → (ℕ → X → List A) → (n : ℕ) → List X → List A
numbered f n [] = []
numbered f n (x ∷ xs) = f n x ++ numbered f (n + 1) xs

-- ---- symbols

abbrev pub symbol_id : (object symbol : ℕ) → SymbolId
symbol_id object symbol = record { object = object; symbol = symbol }

-- in place of a symbol that is not there
abbrev pub no_symbol : Symbol
no_symbol = record { part = 0; offset = 0; name = []; sig = [] }

abbrev pub symbols_of : List Object → ℕ → List Symbol
symbols_of os object = option_map_or (λ (o : Object). o.symbols) (slice_get os object) []

abbrev pub symbol_at : List Object → SymbolId → Symbol
symbol_at os id = unwrap_or (slice_get (symbols_of os id.object) id.symbol) no_symbol

abbrev pub is_legacy_at : List Object → SymbolId → Bool
is_legacy_at os id = option_map_or (λ (o : Object). o.legacy) (slice_get os id.object) false

abbrev pub name_at : List Object → SymbolId → List ℕ
name_at os id = (symbol_at os id).name

abbrev pub sig_at : List Object → SymbolId → List ℕ
sig_at os id = (symbol_at os id).sig

-- ---- kinds of symbols

abbrev pub is_some_text : List ℕ → Bool
is_some_text text = not (length text == 0)

abbrev pub is_import : List Object → SymbolId → Bool
is_import os id = (symbol_at os id).part == 0

abbrev pub is_code : List Object → SymbolId → Bool
is_code os id = (symbol_at os id).part == 1

-- a C function is a code symbol of an instrumented object
abbrev pub is_c_function : List Object → SymbolId → Bool
is_c_function os id = not (is_legacy_at os id) && is_code os id

abbrev pub is_legacy_function : List Object → SymbolId → Bool
is_legacy_function os id = is_legacy_at os id && is_code os id

abbrev pub is_signed : List Object → SymbolId → Bool
is_signed os id = is_some_text (sig_at os id)

abbrev pub is_signed_import : List Object → SymbolId → Bool
is_signed_import os id = is_import os id && is_signed os id

-- ---- all symbols, by object and symbol order

abbrev pub id_with : (object symbol : ℕ) → Symbol → List SymbolId
id_with object symbol s = symbol_id object symbol ∷ []

abbrev pub ids_of : ℕ → Object → List SymbolId
ids_of object o = numbered (id_with object) 0 o.symbols

abbrev pub symbols : List Object → List SymbolId
symbols os = numbered ids_of 0 os

abbrev pub definitions_in : List Object → List SymbolId
definitions_in os = filter (λ id. not (is_import os id)) (symbols os)

abbrev pub imports_in : List Object → List SymbolId
imports_in os = filter (is_import os) (symbols os)

-- ---- names

-- names, each with a symbol
abbrev pub Named : Type 0
Named = List (List ℕ × SymbolId)

-- what a map of names shows
abbrev pub named_of : List (Vec ℕ Global × SymbolId) → Named
named_of entries = map (λ (e : Vec ℕ Global × SymbolId). (e.0.items, e.1)) entries

abbrev pub ids : Named → List SymbolId
ids named = map (λ (e : List ℕ × SymbolId). e.1) named

abbrev pub find : List ℕ → Named → Option SymbolId
find name named = lookup (bytes_eq name) named

-- the place of a name among others; 0 where it is not there
abbrev pub place_of : List ℕ → Named → ℕ
place_of name named = unwrap_or (position (bytes_eq name) (keys_of named)) 0

abbrev pub add_if_new : Option SymbolId → List ℕ → SymbolId → Named → Named
add_if_new None name id named = named ++ (name, id) ∷ []
add_if_new (Some found) name id named = named

abbrev pub with_name : List Object → Named → SymbolId → Named
with_name os named id = add_if_new (find (name_at os id) named) (name_at os id) id named

-- the names of symbols, in order of their first appearance, each with the symbol that it had there
abbrev pub named_by : List Object → List SymbolId → Named
named_by os ids = fold (with_name os) [] ids

-- the definition of each name
abbrev pub definitions : List Object → Named
definitions os = named_by os (definitions_in os)

-- the C functions, whose places are their numbers
abbrev pub functions : List Object → Named
functions os = named_by os (filter (is_c_function os) (symbols os))

-- the first import of each name that has a signature
abbrev pub signed_imports : List Object → Named
signed_imports os = named_by os (filter (is_signed_import os) (symbols os))
