-- What maps by names show: labels and symbols.
use Rattle.std.proofs.Common.{◌≡◌, refl, sym, ap, ◌∙◌, ℕ, suc, ◌+◌, nat_lt, add-zero, zero-add, Bool, true, false, true≢false, cond, if◌then◌else◌, is_some, not, Option, None, Some, List, [], ◌∷◌, ◌++◌, length, arith}
use Rattle.std.specs.Prelude.{◌&&◌, ◌||◌, map, option_map, option_and_then}
use Rattle.std.specs.List.{position, position_or_len, list_any, find}
use Rattle.std.specs.Str.{bytes_eq}
use Rattle.std.specs.Global.{Global}
use Rattle.std.specs.Map.{lookup, keys_of}
use Rattle.std.specs.declared.vec.Vec.{Vec}
use Rattle.std.proofs.lemmas.Slice.Eq.{bytes_eq-Decides}
use Rattle.std.proofs.lemmas.Bool.{lt-ltb}
use Rattle.std.proofs.lemmas.Bool.Decides.{same_from_decides, nat_tests}
use Rattle.std.proofs.lemmas.List.{map-append, length-map}
use Rattle.indexmap.specs.IndexMap.{insert_entry}
use Rattle.obj_file.specs.declared.object.Symbol.{Symbol}
use Rattle.asm_text.specs.Lexical.{either}
use Rattle.asm_text.specs.Assembly.{Label, is_of, is_before, label_of, is_named, number_from, sig_of, signed}
use Rattle.assembler.specs.declared.labels.Mark.{Mark}
use Rattle.assembler.specs.declared.symbols.Spot.{Spot}
use Rattle.assembler.specs.Held.{label, mark_of, labels_in, AreDistinct, Signs, has_name, items_of, sign_in, symbol, symbols_in, AreKnown}

abbrev pub Key : Type 0
Key = Vec ℕ Global

abbrev pub same_keys : Key → Key → Bool
same_keys a b = bytes_eq a.items b.items

pub eq_sym : (a b : List ℕ) → bytes_eq a b ≡ bytes_eq b a
eq_sym a b = same_from_decides (bytes_eq a b) (bytes_eq b a) (bytes_eq-Decides a b) ((λ e. sym ((bytes_eq-Decides b a).0 e)), (λ e. (bytes_eq-Decides b a).1 (sym e)))

pub same_bytes : (a b : List ℕ) → bytes_eq a b ≡ true → a ≡ b
same_bytes a b e = (bytes_eq-Decides a b).0 e

pub eq_self : (a : List ℕ) → bytes_eq a a ≡ true
eq_self a = (bytes_eq-Decides a a).1 refl

-- a new name goes last
pub new_entry : {V : Type 0} (es : List (Key × V)) (key : Key) (v : V) → lookup (has_name key.items) es ≡ None → insert_entry same_keys es key v ≡ es ++ (key, v) ∷ []
new_entry [] key v none = refl
new_entry {V} (e ∷ es) key v none = by (new_entry es key v) (bytes_eq key.items e.0.items) none
  where
    by : (lookup (has_name key.items) es ≡ None → insert_entry same_keys es key v ≡ es ++ (key, v) ∷ []) → (b : Bool) → cond b (Some e.1) (lookup (has_name key.items) es) ≡ None → cond b ((e.0, v) ∷ es) (e ∷ insert_entry same_keys es key v) ≡ e ∷ (es ++ (key, v) ∷ [])
    by more true none = absurd cc
    by more false none = ap (λ l. e ∷ l) (more none)

-- ---- labels

pub find_label : (name : List ℕ) (es : List (Key × Mark)) → lookup (has_name name) es ≡ option_map mark_of (label_of (labels_in es) name)
find_label name [] = refl
find_label name (e ∷ es) = ap (λ b. cond b (Some e.1) (lookup (has_name name) es)) (eq_sym name e.0.items) ∙ by (find_label name es) (bytes_eq e.0.items name)
  where
    by : lookup (has_name name) es ≡ option_map mark_of (label_of (labels_in es) name) → (b : Bool) → cond b (Some e.1) (lookup (has_name name) es) ≡ option_map mark_of (cond b (Some (label e.0.items e.1)) (find (is_of name) (labels_in es)))
    by more true = refl
    by more false = more

pub label_added : (es news : List (Key × Mark)) (key : Key) (name : List ℕ) (m : Mark) (now : List Label) → labels_in es ≡ now → key.items ≡ name → label_of now name ≡ None
    → news ≡ insert_entry same_keys es key m → labels_in news ≡ now ++ label name m ∷ []
label_added es news key name m now shown is_name none put =
    let missing : lookup (has_name key.items) es ≡ None = find_label key.items es ∙ ap (option_map mark_of) ((λ i. label_of (shown i) (is_name i)) ∙ none) in
    ap labels_in (put ∙ new_entry es key m missing) ∙ (map-append (λ (e : Key × Mark). label e.0.items e.1) es ((key, m) ∷ []) ∙ (λ i. shown i ++ label (is_name i) m ∷ []))

none_both : (name : List ℕ) (q : Label → Bool) (ls : List Label) → list_any (is_of name) ls ≡ false → find (λ l. is_of name l && q l) ls ≡ None
none_both name q [] h = refl
none_both name q (l ∷ ls) h = by (none_both name q ls) (is_of name l) h
  where
    by : (list_any (is_of name) ls ≡ false → find (λ x. is_of name x && q x) ls ≡ None) → (b : Bool) → (b || list_any (is_of name) ls) ≡ false → cond (b && q l) (Some l) (find (λ x. is_of name x && q x) ls) ≡ None
    by more true h = absurd (true≢false h)
    by more false h = more h

abbrev pub kept : ℕ → Label → Option Label
kept line l = if is_before line l then Some l else None

pub earlier_is : (name : List ℕ) (line : ℕ) (ls : List Label) → AreDistinct ls → find (λ l. is_of name l && is_before line l) ls ≡ option_and_then (kept line) (find (is_of name) ls)
earlier_is name line [] d = refl
earlier_is name line (l ∷ ls) d = by (earlier_is name line ls d.1) (is_of name l) refl
  where
    here : (c : Bool) → list_any (is_of name) ls ≡ false → cond c (Some l) (find (λ x. is_of name x && is_before line x) ls) ≡ cond c (Some l) None
    here true h = refl
    here false h = none_both name (is_before line) ls h

    by : find (λ x. is_of name x && is_before line x) ls ≡ option_and_then (kept line) (find (is_of name) ls) → (b : Bool) → is_of name l ≡ b → cond (b && is_before line l) (Some l) (find (λ x. is_of name x && is_before line x) ls) ≡ option_and_then (kept line) (cond b (Some l) (find (is_of name) ls))
    by more true e = here (is_before line l) (ap (λ (n : List ℕ). list_any (is_of n) ls) (sym (same_bytes l.name name e)) ∙ d.0)
    by more false e = more

-- ---- symbols

abbrev first_of : List ℕ → List (Key × Spot) → ℕ
first_of name es = position_or_len (has_name name) (keys_of es)

lt_suc : (a b : ℕ) → nat_lt (1 + a) (suc b) ≡ nat_lt a b
lt_suc a b = grind (arith, nat_tests)

number_at : (name : List ℕ) (n : ℕ) (signs : Signs) (es : List (Key × Spot)) → cond (nat_lt (first_of name es) (length (keys_of es))) (Some (n + first_of name es)) None ≡ number_from name n (symbols_in signs es)
number_at name n signs [] = refl
number_at name n signs (e ∷ es) = by (number_at name (n + 1) signs es) (bytes_eq name e.0.items) (bytes_eq e.0.items name) (eq_sym name e.0.items)
  where
    by : cond (nat_lt (first_of name es) (length (keys_of es))) (Some (n + 1 + first_of name es)) None ≡ number_from name (n + 1) (symbols_in signs es) → (b c : Bool) → b ≡ c
        → cond (nat_lt (cond (not b) (1 + first_of name es) 0) (suc (length (keys_of es)))) (Some (n + cond (not b) (1 + first_of name es) 0)) None ≡ cond c (Some n) (number_from name (n + 1) (symbols_in signs es))
    by more true true e = ap (λ t. cond t (Some (n + 0)) None) (lt-ltb 0 (suc (length (keys_of es))) (omega arith)) ∙ ap Some (add-zero n)
    by more false false e =
        ap (λ t. cond t (Some (n + (1 + first_of name es))) None) (lt_suc (first_of name es) (length (keys_of es)))
        ∙ (ap (λ m. cond (nat_lt (first_of name es) (length (keys_of es))) (Some m) None) (let up : n + (1 + first_of name es) ≡ n + 1 + first_of name es = omega arith in up) ∙ more)
    by more true false e = absurd (true≢false e)
    by more false true e = absurd (true≢false (sym e))

pub number_is : (name : List ℕ) (signs : Signs) (es : List (Key × Spot)) → position (has_name name) (keys_of es) ≡ number_from name 0 (symbols_in signs es)
number_is name signs es = ap (λ m. cond (nat_lt (first_of name es) (length (keys_of es))) (Some m) None) (sym (zero-add (first_of name es))) ∙ number_at name 0 signs es

pub length_is : (signs : Signs) (es : List (Key × Spot)) → length es ≡ length (symbols_in signs es)
length_is signs es = sym (length-map es (λ (e : Key × Spot). symbol e.0.items e.1 (sign_in signs e.0.items)))

-- a name is there exactly where it has a number
pub any_numbered : (name : List ℕ) (n : ℕ) (ss : List Symbol) → list_any (is_named name) ss ≡ is_some (number_from name n ss)
any_numbered name n [] = refl
any_numbered name n (s ∷ ss) = by (any_numbered name (n + 1) ss) (is_named name s)
  where
    by : list_any (is_named name) ss ≡ is_some (number_from name (n + 1) ss) → (b : Bool) → (b || list_any (is_named name) ss) ≡ is_some (cond b (Some n) (number_from name (n + 1) ss))
    by more true = refl
    by more false = more

-- a name that the entries lack
no_key : (name : List ℕ) (n : ℕ) (signs : Signs) (es : List (Key × Spot)) → number_from name n (symbols_in signs es) ≡ None → lookup (has_name name) es ≡ None
no_key name n signs [] none = refl
no_key name n signs (e ∷ es) none = ap (λ b. cond b (Some e.1) (lookup (has_name name) es)) (eq_sym name e.0.items) ∙ by (no_key name (n + 1) signs es) (bytes_eq e.0.items name) none
  where
    by : (number_from name (n + 1) (symbols_in signs es) ≡ None → lookup (has_name name) es ≡ None) → (b : Bool) → cond b (Some n) (number_from name (n + 1) (symbols_in signs es)) ≡ None → cond b (Some e.1) (lookup (has_name name) es) ≡ None
    by more true none = absurd cc
    by more false none = more none

pub number_front : (name : List ℕ) (n : ℕ) (ss more : List Symbol) → number_from name n (ss ++ more) ≡ None → number_from name n ss ≡ None
number_front name n [] more none = refl
number_front name n (s ∷ ss) more none = by (number_front name (n + 1) ss more) (is_named name s) none
  where
    by : (number_from name (n + 1) (ss ++ more) ≡ None → number_from name (n + 1) ss ≡ None) → (b : Bool) → cond b (Some n) (number_from name (n + 1) (ss ++ more)) ≡ None → cond b (Some n) (number_from name (n + 1) ss) ≡ None
    by rest true none = absurd cc
    by rest false none = rest none

pub symbol_added : (signs : Signs) (es news : List (Key × Spot)) (key : Key) (name : List ℕ) (spot : Spot) (now : List Symbol) → symbols_in signs es ≡ now → AreKnown signs (symbols_in signs es)
    → key.items ≡ name → number_from name 0 now ≡ None → news ≡ insert_entry same_keys es key spot → symbols_in signs news ≡ now ++ symbol name spot [] ∷ []
symbol_added signs es news key name spot now shown known is_name none put =
    let missing : number_from key.items 0 (symbols_in signs es) ≡ None = (λ i. number_from (is_name i) 0 (shown i)) ∙ none in
    let unsigned : sign_in signs key.items ≡ [] = known key.items missing in
    ap (symbols_in signs) (put ∙ new_entry es key spot (no_key key.items 0 signs es missing))
    ∙ (map-append (λ (e : Key × Spot). symbol e.0.items e.1 (sign_in signs e.0.items)) es ((key, spot) ∷ [])
    ∙ (ap (λ g. symbols_in signs es ++ symbol key.items spot g ∷ []) unsigned ∙ (λ i. shown i ++ symbol (is_name i) spot [] ∷ [])))

pub known_after : (signs : Signs) (es news : List (Key × Spot)) (now : List Symbol) (s : Symbol) → symbols_in signs es ≡ now → AreKnown signs (symbols_in signs es) → symbols_in signs news ≡ now ++ s ∷ []
    → AreKnown signs (symbols_in signs news)
known_after signs es news now s shown known is q none =
    known q (ap (number_from q 0) shown ∙ number_front q 0 now (s ∷ []) (ap (number_from q 0) (sym is) ∙ none))

-- ---- signatures

sig_named : (signs : Signs) (name : List ℕ) (n : ℕ) (es : List (Key × Spot)) → (number_from name n (symbols_in signs es) ≡ None → sign_in signs name ≡ []) → sig_of (symbols_in signs es) name ≡ sign_in signs name
sig_named signs name n [] h = sym (h refl)
sig_named signs name n (e ∷ es) h = by (sig_named signs name (n + 1) es) (bytes_eq e.0.items name) refl h
  where
    by : ((number_from name (n + 1) (symbols_in signs es) ≡ None → sign_in signs name ≡ []) → sig_of (symbols_in signs es) name ≡ sign_in signs name) → (b : Bool) → bytes_eq e.0.items name ≡ b → (cond b (Some n) (number_from name (n + 1) (symbols_in signs es)) ≡ None → sign_in signs name ≡ [])
        → either (cond b (Some (symbol e.0.items e.1 (sign_in signs e.0.items))) (find (is_named name) (symbols_in signs es))) (λ s. s.sig) [] ≡ sign_in signs name
    by more true same h = ap (sign_in signs) (same_bytes e.0.items name same)
    by more false other h = more h

pub sig_is : (signs : Signs) (name : List ℕ) (es : List (Key × Spot)) → AreKnown signs (symbols_in signs es) → sign_in signs name ≡ sig_of (symbols_in signs es) name
sig_is signs name es known = sym (sig_named signs name 0 es (known name))

put_sign : (signs : Signs) (key text : Key) (q : List ℕ) → lookup (has_name q) (insert_entry same_keys signs key text) ≡ cond (bytes_eq q key.items) (Some text) (lookup (has_name q) signs)
put_sign [] key text q = refl
put_sign (e ∷ es) key text q = by (put_sign es key text q) (bytes_eq key.items e.0.items) refl
  where
    same : key.items ≡ e.0.items → (c d : Bool) → bytes_eq q e.0.items ≡ c → bytes_eq q key.items ≡ d → cond c (Some text) (lookup (has_name q) es) ≡ cond d (Some text) (cond c (Some e.1) (lookup (has_name q) es))
    same i true true h g = refl
    same i false false h g = refl
    same i true false h g = absurd (true≢false (sym h ∙ (ap (bytes_eq q) (sym i) ∙ g)))
    same i false true h g = absurd (true≢false (sym g ∙ (ap (bytes_eq q) i ∙ h)))

    other : bytes_eq key.items e.0.items ≡ false → (c d : Bool) → bytes_eq q e.0.items ≡ c → bytes_eq q key.items ≡ d
        → cond c (Some e.1) (cond d (Some text) (lookup (has_name q) es)) ≡ cond d (Some text) (cond c (Some e.1) (lookup (has_name q) es))
    other differ true true h g = absurd (true≢false (sym (eq_self key.items) ∙ (ap (bytes_eq key.items) (sym (same_bytes q key.items g) ∙ same_bytes q e.0.items h) ∙ differ)))
    other differ true false h g = refl
    other differ false true h g = refl
    other differ false false h g = refl

    by : lookup (has_name q) (insert_entry same_keys es key text) ≡ cond (bytes_eq q key.items) (Some text) (lookup (has_name q) es) → (b : Bool) → bytes_eq key.items e.0.items ≡ b
        → lookup (has_name q) (cond b ((e.0, text) ∷ es) (e ∷ insert_entry same_keys es key text)) ≡ cond (bytes_eq q key.items) (Some text) (cond (bytes_eq q e.0.items) (Some e.1) (lookup (has_name q) es))
    by more true h = same (same_bytes key.items e.0.items h) (bytes_eq q e.0.items) (bytes_eq q key.items) refl refl
    by more false h = ap (cond (bytes_eq q e.0.items) (Some e.1)) more ∙ other h (bytes_eq q e.0.items) (bytes_eq q key.items) refl refl

signed_as : (signs news : Signs) (name sig : List ℕ) → ((q : List ℕ) → sign_in news q ≡ cond (bytes_eq q name) sig (sign_in signs q)) → (es : List (Key × Spot))
    → symbols_in news es ≡ map (signed name sig) (symbols_in signs es)
signed_as signs news name sig h [] = refl
signed_as signs news name sig h (e ∷ es) = (λ i. here i ∷ signed_as signs news name sig h es i)
  where
    by : (b : Bool) → symbol e.0.items e.1 (cond b sig (sign_in signs e.0.items)) ≡ cond b (symbol e.0.items e.1 sig) (symbol e.0.items e.1 (sign_in signs e.0.items))
    by true = refl
    by false = refl

    here : symbol e.0.items e.1 (sign_in news e.0.items) ≡ signed name sig (symbol e.0.items e.1 (sign_in signs e.0.items))
    here = ap (symbol e.0.items e.1) (h e.0.items) ∙ by (bytes_eq e.0.items name)

pub number_signed : (q name sig : List ℕ) (n : ℕ) (ss : List Symbol) → number_from q n (map (signed name sig) ss) ≡ number_from q n ss
number_signed q name sig n [] = refl
number_signed q name sig n (s ∷ ss) = (λ i. cond (named i) (Some n) (number_signed q name sig (n + 1) ss i))
  where
    by : (b : Bool) → is_named q (cond b (record s { sig = sig }) s) ≡ is_named q s
    by true = refl
    by false = refl

    named : is_named q (signed name sig s) ≡ is_named q s
    named = by (is_named name s)

sign_after : (signs news : Signs) (key text : Key) (name sig : List ℕ) → key.items ≡ name → text.items ≡ sig → news ≡ insert_entry same_keys signs key text
    → (q : List ℕ) → sign_in news q ≡ cond (bytes_eq q name) sig (sign_in signs q)
sign_after signs news key text name sig is_name is_sig put q =
    ap (λ (l : Option Key). either l items_of []) (ap (lookup (has_name q)) put ∙ put_sign signs key text q)
    ∙ (by (bytes_eq q key.items) ∙ (λ i. cond (bytes_eq q (is_name i)) (is_sig i) (sign_in signs q)))
  where
    by : (b : Bool) → either (cond b (Some text) (lookup (has_name q) signs)) items_of [] ≡ cond b text.items (sign_in signs q)
    by true = refl
    by false = refl

pub sign_given : (signs news : Signs) (es : List (Key × Spot)) (key text : Key) (name sig : List ℕ) (now : List Symbol) → symbols_in signs es ≡ now → key.items ≡ name → text.items ≡ sig
    → news ≡ insert_entry same_keys signs key text → symbols_in news es ≡ map (signed name sig) now
sign_given signs news es key text name sig now shown is_name is_sig put =
    signed_as signs news name sig (sign_after signs news key text name sig is_name is_sig put) es ∙ ap (map (signed name sig)) shown

pub known_signed : (signs news : Signs) (es : List (Key × Spot)) (key text : Key) (name sig : List ℕ) (now : List Symbol) → symbols_in signs es ≡ now → key.items ≡ name → text.items ≡ sig
    → news ≡ insert_entry same_keys signs key text → AreKnown signs (symbols_in signs es) → is_some (number_from name 0 now) ≡ true → AreKnown news (symbols_in news es)
known_signed signs news es key text name sig now shown is_name is_sig put known there q none =
    sign_after signs news key text name sig is_name is_sig put q ∙ by (bytes_eq q name) refl
  where
    was : number_from q 0 now ≡ None
    was = sym (number_signed q name sig 0 now) ∙ (ap (number_from q 0) (sym (sign_given signs news es key text name sig now shown is_name is_sig put)) ∙ none)

    by : (b : Bool) → bytes_eq q name ≡ b → cond b sig (sign_in signs q) ≡ []
    by true h = absurd (true≢false (sym there ∙ ap is_some (ap (λ (n : List ℕ). number_from n 0 now) (sym (same_bytes q name h)) ∙ was)))
    by false h = known q (ap (number_from q 0) shown ∙ was)
