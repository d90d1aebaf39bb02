-- The tokens of a text stand and are named.
use Rattle.std.proofs.Common.{◌≡◌, ◌⊎◌, inl, inr, ℕ, zero, suc, ◌+◌, ◌-◌, ◌==◌, Bool, true, false, ◌&&◌, ◌||◌, not, if◌then◌else◌, List, [], ◌∷◌, ◌++◌, take, drop, length, Option, Some, None, Ok, Err, refl, ap, subst, arith}
use Rattle.std.specs.Prelude.{slice_index, count_by}
use Rattle.std.specs.List.{All, list_all, list_any, suffix_len}
use Rattle.std.specs.Str.{bytes_eq}
use Rattle.std.proofs.lemmas.List.Elements.{All-nil, All-cons, All-head, All-tail}
use Rattle.std.proofs.lemmas.Bool.{le-leb}
use Rattle.c_tokens.specs.declared.class.Class.{Class}
use Rattle.c_tokens.specs.declared.class.Class.TheVariants as k
use Rattle.c_tokens.specs.declared.class.TokenKind.{TokenKind}
use Rattle.c_tokens.specs.declared.class.TokenKind.TheVariants as kind
use Rattle.c_tokens.specs.declared.token.Token.{Token}
use Rattle.c_tokens.specs.declared.piece.Piece.{Piece}
use Rattle.c_tokens.specs.declared.piece.Piece.TheVariants.{Gap, Lexeme as Found, Bad}
use Rattle.c_tokens.specs.Lexical.{IsLongestOf, IsToken, IsName, mark_of, begins_name}
use Rattle.c_tokens.specs.Marks.{marks_of_one, marks_of_two, marks_of_three, mark_of_one, mark_of_two, mark_of_three, one_in, two_in, three_in}
use Rattle.c_tokens.specs.Pieces.{piece, is_word_byte}
use Rattle.c_tokens.specs.Places.{place_after, is_line_feed}
use Rattle.c_tokens.specs.Tokens.{Tokens, led_by, with_piece, tokens_after, tokens_of}
use Rattle.c_tokens.specs.Words as words
use Rattle.c_tokens.specs.Words.{found_in, word_of}
use Rattle.c_tokens.proofs.Whole.{tokens_longest}
use Rattle.c_tree.specs.Names.{is_name, is_reserved}
use Rattle.c_tree.specs.Formed.{stands}
use Rattle.c_grammar.specs.Lexemes.{same, seen, lexemes}
use Rattle.c_grammar.specs.FormedLaw.{ProgramsAreFormed}
use Rattle.c_grammar.proofs.FormedTrees.{Sound, sources_are_formed}

-- ---- places

abbrev Stands : Token → Type 0
Stands t = stands t.place ≡ true

stands_after : (file : ℕ) (before : List ℕ) → stands (place_after file before) ≡ true
unfolding place_after
stands_after file before = both (le-leb 1 (count_by is_line_feed before + 1) (omega arith)) (le-leb 1 (suffix_len (λ b. not (is_line_feed b)) before + 1) (omega arith))
  where
    both : {a b : Bool} → a ≡ true → b ≡ true → (a && b) ≡ true
    both {a = true} {b = true} p q = refl
    both {a = true} {b = false} p q = q
    both {a = false} {b = b} p q = cc

led_case : (t : Token) → Stands t → (o : Tokens) (found : List Token) → led_by (t ∷ []) o ≡ Ok found → ((back : List Token) → o ≡ Ok back → All Stands back) → All Stands found
led_case t s (Ok back) found e f = let h : t ∷ back ≡ found = cc in subst (All Stands) h (All-cons Stands t back s (f back refl))
led_case t s (Err fault) found e f = cc

piece_case : (p : Piece) (file : ℕ) (before : List ℕ) (rest : ℕ → Tokens) → ((left : ℕ) (back : List Token) → rest left ≡ Ok back → All Stands back) → (found : List Token) → with_piece p file before rest ≡ Ok found → All Stands found
piece_case (Gap n) file before rest f found e = f (n - 1) found e
piece_case (Found kind class n) file before rest f found e = led_case _ (stands_after file before) (rest (n - 1)) found e (f (n - 1))
piece_case (Bad flaw) file before rest f found e = cc

tokens_stand : (file : ℕ) (before : List ℕ) (left : ℕ) (bs : List ℕ) (found : List Token) → tokens_after file before left bs ≡ Ok found → All Stands found
tokens_stand file before left [] found e = let h : [] ≡ found = cc in subst (All Stands) h (All-nil Stands)
tokens_stand file before (suc left) (b ∷ bs) found e = tokens_stand file (before ++ b ∷ []) left bs found e
tokens_stand file before zero (b ∷ bs) found e = piece_case (piece (b ∷ bs)) file before (λ left. tokens_after file (before ++ b ∷ []) left bs) (λ left back h. tokens_stand file (before ++ b ∷ []) left bs back h) found e

-- ---- names

name_class : (c : Class) → same c k.Name ≡ true → c ≡ k.Name
unfolding same
name_class k.Name h = refl
name_class _ h = cc

abbrev no_name : List (List ℕ × Class) → Bool
no_name [] = true
no_name (p ∷ ps) = not (same p.1 k.Name) && no_name ps

both_of : (a b : Bool) → (a && b) ≡ true → (a ≡ true) × (b ≡ true)
both_of true b h = (refl, h)
both_of false b h = (h, cc)

not_name : (c : Class) → not (same c k.Name) ≡ true → Some c ≡ Some k.Name → ⊥
unfolding same
not_name k.Name h e = cc
not_name _ h e = cc

choice : (b : Bool) (c : Class) (o : Option Class) → (if b then Some c else o) ≡ Some k.Name → (Some c ≡ Some k.Name) ⊎ (o ≡ Some k.Name)
choice true c o e = inl e
choice false c o e = inr e

never_found : (table : List (List ℕ × Class)) (text : List ℕ) → no_name table ≡ true → found_in table text ≡ Some k.Name → ⊥
never_found [] text h e = cc
never_found (p ∷ ps) text h e =
    let a = both_of _ _ h in
    elim (choice (bytes_eq text p.0) p.1 (found_in ps text) e) [ inl f ↦ not_name p.1 a.0 f | inr f ↦ never_found ps text a.1 f ]

never_one : (table : List (List ℕ × Class)) (x : ℕ) → no_name table ≡ true → one_in table x ≡ Some k.Name → ⊥
never_one [] x h e = cc
never_one (p ∷ ps) x h e =
    let a = both_of _ _ h in
    elim (choice (x == slice_index p.0 0) p.1 (one_in ps x) e) [ inl f ↦ not_name p.1 a.0 f | inr f ↦ never_one ps x a.1 f ]

never_two : (table : List (List ℕ × Class)) (x y : ℕ) → no_name table ≡ true → two_in table x y ≡ Some k.Name → ⊥
never_two [] x y h e = cc
never_two (p ∷ ps) x y h e =
    let a = both_of _ _ h in
    elim (choice (x == slice_index p.0 0 && y == slice_index p.0 1) p.1 (two_in ps x y) e) [ inl f ↦ not_name p.1 a.0 f | inr f ↦ never_two ps x y a.1 f ]

never_three : (table : List (List ℕ × Class)) (x y z : ℕ) → no_name table ≡ true → three_in table x y z ≡ Some k.Name → ⊥
never_three [] x y z h e = cc
never_three (p ∷ ps) x y z h e =
    let a = both_of _ _ h in
    elim (choice (x == slice_index p.0 0 && y == slice_index p.0 1 && z == slice_index p.0 2) p.1 (three_in ps x y z) e) [ inl f ↦ not_name p.1 a.0 f | inr f ↦ never_three ps x y z a.1 f ]

word_never : (text : List ℕ) → word_of text ≡ Some k.Name → ⊥
unfolding word_of same
word_never text e = never_found words.words text refl e

mark_never : (text : List ℕ) → mark_of text ≡ Some k.Name → ⊥
unfolding mark_of_one mark_of_two mark_of_three same
mark_never [] e = cc
mark_never (x ∷ []) e = never_one marks_of_one x refl e
mark_never (x ∷ y ∷ []) e = never_two marks_of_two x y refl e
mark_never (x ∷ y ∷ z ∷ []) e = never_three marks_of_three x y z refl e
mark_never (x ∷ y ∷ z ∷ w ∷ rest) e = cc

abbrev spellings : List (List ℕ × Class) → List (List ℕ)
spellings [] = []
spellings (p ∷ ps) = p.0 ∷ spellings ps

none_of : (b : Bool) (c : Class) (o : Option Class) → (if b then Some c else o) ≡ None → (b ≡ false) × (o ≡ None)
none_of true c o e = cc
none_of false c o e = (refl, e)

or_false : (a b : Bool) → a ≡ false → b ≡ false → (a || b) ≡ false
or_false true b p q = cc
or_false false b p q = q

free : (table : List (List ℕ × Class)) (text : List ℕ) → found_in table text ≡ None → list_any (bytes_eq text) (spellings table) ≡ false
free [] text e = refl
free (p ∷ ps) text e =
    let a = none_of (bytes_eq text p.0) p.1 (found_in ps text) e in
    or_false _ _ a.0 (free ps text a.1)

not_reserved : (text : List ℕ) → word_of text ≡ None → is_reserved text ≡ false
unfolding word_of is_reserved
not_reserved text e = free words.words text e

and4 : {a b c d : Bool} → a ≡ true → b ≡ true → c ≡ true → d ≡ true → (a && b && c && d) ≡ true
and4 {a = true} {b = true} {c = true} {d = true} p q r s = refl
and4 {a = true} {b = true} {c = true} {d = false} p q r s = cc
and4 {a = true} {b = true} {c = false} {d = d} p q r s = cc
and4 {a = true} {b = false} {c = c} {d = d} p q r s = cc
and4 {a = false} {b = b} {c = c} {d = d} p q r s = cc

tree_name : (text : List ℕ) → IsName text → is_name text ≡ true
unfolding is_name
tree_name text x =
    let a = both_of (begins_name (slice_index text 0)) (list_all is_word_byte text) x.is in
    and4 a.0 a.1 (le-leb (length text) 63 x.short) (ap not (not_reserved text x.free))

token_name : (kind : TokenKind) (text : List ℕ) → IsToken kind k.Name text → is_name text ≡ true
token_name kind.Name text x = tree_name text x.1
token_name kind.Word text x = absurd (word_never text x)
token_name kind.Number text x = cc x.0
token_name kind.Character text x = cc x.0
token_name kind.Text text x = cc x.0
token_name kind.Mark text x = absurd (mark_never text x)

sound : (bytes : List ℕ) (t : Token) → Stands t → IsLongestOf bytes t → Sound (seen bytes t)
sound bytes t s x = record { place = s; named = λ h. token_name t.kind (take (t.to - t.from) (drop t.from bytes)) (subst (λ z. IsToken t.kind z (take (t.to - t.from) (drop t.from bytes))) (name_class t.class h) x.is) }

all_sound : (bytes : List ℕ) (ts : List Token) → All Stands ts → All (IsLongestOf bytes) ts → All Sound (lexemes bytes ts)
all_sound bytes [] s x = All-nil Sound
all_sound bytes (t ∷ ts) s x = All-cons Sound (seen bytes t) (lexemes bytes ts) (sound bytes t (All-head Stands t ts s) (All-head (IsLongestOf bytes) t ts x)) (all_sound bytes ts (All-tail Stands t ts s) (All-tail (IsLongestOf bytes) t ts x))

pub tokens_are_sound : (file : ℕ) (bytes : List ℕ) (found : List Token) → tokens_of file bytes ≡ Ok found → All Sound (lexemes bytes found)
unfolding tokens_of
tokens_are_sound file bytes found e = all_sound bytes found (tokens_stand file [] 0 bytes found e) (tokens_longest file bytes found e)

pub programs_are_formed : ProgramsAreFormed
programs_are_formed file bytes tokens tree e p = sources_are_formed (lexemes bytes tokens) tree.items [] p (tokens_are_sound file bytes tokens e)
