-- What a map from names to symbols shows.
use Rattle.std.proofs.Common.{◌≡◌, refl, sym, ap, ◌∙◌, ℕ, zero, suc, ◌+◌, nat_lt, Bool, true, false, true≢false, cond, if◌then◌else◌, is_some, not, Option, None, Some, List, [], ◌∷◌, ◌++◌, length, slice_get}
use Rattle.std.specs.List.{position, position_or_len}
use Rattle.std.specs.Str.{bytes_eq}
use Rattle.std.specs.Global.{Global}
use Rattle.std.specs.Map.{lookup, keys_of}
use Rattle.std.specs.declared.vec.Vec.{Vec}
use Rattle.indexmap.specs.IndexMap.{insert_entry}
use Rattle.obj_linker.specs.declared.parts.SymbolId.{SymbolId}
use Rattle.obj_linker.specs.Symbols.{Named, named_of, ids, find, add_if_new}

abbrev pub Key : Type 0
Key = Vec ℕ Global

abbrev pub same_keys : Key → Key → Bool
same_keys a b = bytes_eq a.items b.items

abbrev pub has_name : List ℕ → Key → Bool
has_name name n = bytes_eq name n.items

pub find_named : (name : List ℕ) (es : List (Key × SymbolId)) → lookup (has_name name) es ≡ find name (named_of es)
find_named name [] = refl
find_named name (e ∷ es) = ap (cond (bytes_eq name e.0.items) (Some e.1)) (find_named name es)

first_named : (name : List ℕ) (es : List (Key × SymbolId)) → position_or_len (has_name name) (keys_of es) ≡ position_or_len (bytes_eq name) (keys_of (named_of es))
first_named name [] = refl
first_named name (e ∷ es) = ap (λ n. cond (not (bytes_eq name e.0.items)) (1 + n) 0) (first_named name es)

length_named : (es : List (Key × SymbolId)) → length (keys_of es) ≡ length (keys_of (named_of es))
length_named [] = refl
length_named (e ∷ es) = ap suc (length_named es)

pub place_named : (name : List ℕ) (es : List (Key × SymbolId)) → position (has_name name) (keys_of es) ≡ position (bytes_eq name) (keys_of (named_of es))
place_named name es i = cond (nat_lt (first_named name es i) (length_named es i)) (Some (first_named name es i)) None

pub id_named : (es : List (Key × SymbolId)) (k : ℕ) (e : Key × SymbolId) → slice_get es k ≡ Some e → slice_get (ids (named_of es)) k ≡ Some e.1
id_named [] k e h = cc
id_named (x ∷ es) zero e h = (let same : x ≡ e = cc in ap (λ (y : Key × SymbolId). Some y.1) same)
id_named (x ∷ es) (suc k) e h = id_named es k e h

new_named : (es : List (Key × SymbolId)) (key : Key) (id : SymbolId) → find key.items (named_of es) ≡ None → named_of (insert_entry same_keys es key id) ≡ named_of es ++ (key.items, id) ∷ []
new_named [] key id none = refl
new_named (e ∷ es) key id none = by (new_named es key id) (bytes_eq key.items e.0.items) refl
  where
    by : (find key.items (named_of es) ≡ None → named_of (insert_entry same_keys es key id) ≡ named_of es ++ (key.items, id) ∷ []) → (b : Bool) → bytes_eq key.items e.0.items ≡ b
        → named_of (if b then (e.0, id) ∷ es else e ∷ insert_entry same_keys es key id) ≡ named_of (e ∷ es) ++ (key.items, id) ∷ []
    by more true h = (let found : Some e.1 ≡ None = sym (ap (λ b. cond b (Some e.1) (find key.items (named_of es))) h) ∙ none in cc)
    by more false h = ap (λ l. (e.0.items, e.1) ∷ l) (more (sym (ap (λ b. cond b (Some e.1) (find key.items (named_of es))) h) ∙ none))

-- a name that was not there, put into the map
pub name_added : (now : Named) (name : List ℕ) (es news : List (Key × SymbolId)) (key : Key) (id : SymbolId) → named_of es ≡ now → key.items ≡ name → is_some (find name now) ≡ false
    → news ≡ insert_entry same_keys es key id → named_of news ≡ add_if_new (find name now) name id now
name_added now name es news key id shown of_name is_new put = ap named_of put ∙ by (find name now) refl is_new
  where
    by : (found : Option SymbolId) → find name now ≡ found → is_some found ≡ false → named_of (insert_entry same_keys es key id) ≡ add_if_new found name id now
    by (Some x) e h = absurd (true≢false h)
    by None e h = new_named es key id ((λ i. find (of_name i) (shown i)) ∙ e) ∙ (λ i. shown i ++ (of_name i, id) ∷ [])
