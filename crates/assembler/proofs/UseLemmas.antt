-- What the lines' names add: symbols and fix-ups.
use Rattle.std.proofs.Common.{◌≡◌, refl, sym, ap, subst, ◌∙◌, ℕ, zero, suc, ◌+◌, ◌-◌, ◌≤◌, Bool, true, false, true≢false, cond, if◌then◌else◌, is_some, Option, None, Some, List, [], ◌∷◌, ◌++◌, length, take, drop, slice_get, add-one, arith}
use Rattle.std.specs.Prelude.{◌&&◌, Result, Ok, Err, IfOk, fold, is_none, nat_lt, option_map, option_and_then}
use Rattle.std.specs.List.{find}
use Rattle.std.proofs.lemmas.List.{length-append, length-map, drop-drop, append_assoc}
use Rattle.obj_file.specs.declared.object.Fix.{Fix}
use Rattle.obj_file.specs.declared.object.Symbol.{Symbol}
use Rattle.asm_text.specs.declared.parts.Cursor.{Cursor}
use Rattle.asm_text.specs.declared.parts.Kind.{Kind}
use Rattle.asm_text.specs.declared.parts.Kind.TheVariants as k
use Rattle.asm_text.specs.Lexical.{either}
use Rattle.asm_text.specs.Lines.{Line, line_of}
use Rattle.asm_text.specs.Assembly.{Label, Placed, Draft, placed, after, with_label, is_of, is_before, label_of, number_from, number_of, is_named, import, with_use, uses, signed, symbols_after, labels_after, bytes_of, fix_of, with_line, blanked}
use Rattle.assembler.specs.declared.labels.Mark.{Mark}
use Rattle.assembler.specs.declared.symbols.Spot.{Spot}
use Rattle.assembler.specs.Held.{mark_of, AreDistinct, Signs, sign_in, symbol, symbols_in, IsWritten, AreWritten, imports, used, code_fix, bare_draft}
use Rattle.assembler.proofs.NamedLemmas.{Key, any_numbered, kept, earlier_is}

-- ---- uses

with_use_is : (ss : List Symbol) (name : List ℕ) → with_use ss name ≡ cond (is_none (number_from name 0 ss)) (ss ++ import name ∷ []) ss
with_use_is ss name = ap (λ b. cond b ss (ss ++ import name ∷ [])) (any_numbered name 0 ss) ∙ by (number_from name 0 ss)
  where
    by : (o : Option ℕ) → cond (is_some o) ss (ss ++ import name ∷ []) ≡ cond (is_none o) (ss ++ import name ∷ []) ss
    by (Some n) = refl
    by None = refl

pub used_is : (ss : List Symbol) (l : Line) (x : Kind) → used ss l x ≡ cond (imports ss l x) (ss ++ import l.name ∷ []) ss
used_is ss l x = by (uses l x)
  where
    by : (b : Bool) → cond b (with_use ss l.name) ss ≡ cond (b && is_none (number_from l.name 0 ss)) (ss ++ import l.name ∷ []) ss
    by true = with_use_is ss l.name
    by false = refl

counted : (ss : List Symbol) (l : Line) (x : Kind) → length (used ss l x) ≡ cond (imports ss l x) (length ss + 1) (length ss)
counted ss l x = ap length (used_is ss l x) ∙ by (imports ss l x)
  where
    by : (b : Bool) → length (cond b (ss ++ import l.name ∷ []) ss) ≡ cond b (length ss + 1) (length ss)
    by true = length-append ss (import l.name ∷ [])
    by false = refl

pub used_length : (d : Draft) (l : Line) (x : Kind) → length (symbols_after d l x) ≡ cond (imports d.symbols l x) (length d.symbols + 1) (length d.symbols)
unfolding symbols_after uses
used_length d l k.Sig = length-map d.symbols (signed l.name l.text)
used_length d l x = counted d.symbols l x

pub unused : (d : Draft) (p : Placed) (x : Kind) → uses p.line x ≡ false → fix_of d p x ≡ []
unfolding fix_of uses
unused d p (k.Code i) e = ap (λ b. cond b (code_fix d.symbols p i ∷ []) []) e
unused d p k.Address e = absurd (true≢false e)
unused d p x e = refl

-- ---- numbers

below : (name : List ℕ) (n k : ℕ) (ss : List Symbol) → number_from name n ss ≡ Some k → k ≤ n + length ss
below name n k [] e = absurd cc
below name n k (s ∷ ss) e = by (below name (n + 1) k ss) (is_named name s) e
  where
    by : (number_from name (n + 1) ss ≡ Some k → k ≤ n + 1 + length ss) → (b : Bool) → cond b (Some n) (number_from name (n + 1) ss) ≡ Some k → k ≤ n + suc (length ss)
    by more true e = (let same : n ≡ k = cc in omega (arith, same))
    by more false e = (let less = more e in omega (arith, less))

pub number_small : (ss : List Symbol) (name : List ℕ) → number_of ss name ≤ length ss
number_small ss name = by (number_from name 0 ss) refl
  where
    by : (o : Option ℕ) → number_from name 0 ss ≡ o → either o (λ n. n) (length ss) ≤ length ss
    by (Some k) e = omega (arith, below name 0 k ss e)
    by None e = omega arith

-- ---- labels before a line

marked : (line : ℕ) (o : Option Label) → option_map mark_of (option_and_then (kept line) o) ≡ option_and_then (λ (m : Mark). if nat_lt m.line line then Some m else None) (option_map mark_of o)
marked line None = refl
marked line (Some l) = by (nat_lt l.line line)
  where
    by : (b : Bool) → option_map mark_of (cond b (Some l) None) ≡ cond b (Some (mark_of l)) None
    by true = refl
    by false = refl

-- the mark of a name, if it stands before a line
pub earlier_mark : (ls : List Label) (name : List ℕ) (line : ℕ) (o : Option Mark) → AreDistinct ls → o ≡ option_map mark_of (label_of ls name)
    → option_and_then (λ (m : Mark). if nat_lt m.line line then Some m else None) o ≡ option_map mark_of (find (λ l. is_of name l && is_before line l) ls)
earlier_mark ls name line o d e =
    ap (option_and_then (λ (m : Mark). if nat_lt m.line line then Some m else None)) e ∙ (sym (marked line (label_of ls name)) ∙ ap (option_map mark_of) (sym (earlier_is name line ls d)))

-- ---- symbols by their numbers

pub symbol_get : (signs : Signs) (es : List (Key × Spot)) (n : ℕ) (e : Key × Spot) → slice_get es n ≡ Some e → slice_get (symbols_in signs es) n ≡ Some (symbol e.0.items e.1 (sign_in signs e.0.items))
symbol_get signs [] n e h = absurd cc
symbol_get signs (x ∷ es) zero e h = (let same : x ≡ e = cc in ap (λ (y : Key × Spot). Some (symbol y.0.items y.1 (sign_in signs y.0.items))) same)
symbol_get signs (x ∷ es) (suc n) e h = symbol_get signs es n e h

pub written_at : (ss : List Symbol) (n : ℕ) (s : Symbol) → AreWritten ss → slice_get ss n ≡ Some s → IsWritten s
written_at [] n s w h = absurd cc
written_at (x ∷ ss) zero s w h = (let same : x ≡ s = cc in subst IsWritten same w.0)
written_at (x ∷ ss) (suc n) s w h = written_at ss n s w.1 h

-- ---- bytes

-- zeros in place of the field
pub blanked_is : (code : List ℕ) (behind n : ℕ) → n ≡ length code - (behind + 4) → blanked code behind ≡ take n code ++ (0 ∷ 0 ∷ 0 ∷ 0 ∷ []) ++ drop 4 (drop n code)
unfolding blanked
blanked_is code behind n e =
    ap (λ m. take m code ++ (0 ∷ 0 ∷ 0 ∷ 0 ∷ []) ++ drop (m + 4) code) (sym e) ∙ ap (λ l. take n code ++ (0 ∷ 0 ∷ 0 ∷ 0 ∷ []) ++ l) (sym (drop-drop 4 n code))

-- ---- lines put down

same_symbols : (d : Draft) (l : Line) (x : Kind) → symbols_after (bare_draft d.symbols) l x ≡ symbols_after d l x
unfolding symbols_after
same_symbols d l k.Sig = refl
same_symbols d l x = refl

abbrev draft_with : (code stored : List ℕ) (labels : ℕ) (symbols : List Symbol) (code_fixes stored_fixes : List Fix) → Draft
draft_with code stored labels symbols code_fixes stored_fixes = record { code = code; stored = stored; labels = labels; symbols = symbols; code_fixes = code_fixes; stored_fixes = stored_fixes }

pub put_in_data : (all : List Label) (d : Draft) (p : Placed) (stored : List ℕ) (n : ℕ) (symbols : List Symbol) (fixes : List Fix) → p.at.in_data ≡ true → stored ≡ d.stored ++ bytes_of all p p.line.kind
    → n ≡ labels_after d p.line p.line.kind → symbols ≡ symbols_after (bare_draft d.symbols) p.line p.line.kind → fixes ≡ d.stored_fixes ++ fix_of d p p.line.kind
    → draft_with d.code stored n symbols d.code_fixes fixes ≡ with_line all d p
unfolding with_line
put_in_data all d p stored n symbols fixes in_data bytes labels used fixed =
    (λ i. draft_with d.code (bytes i) (labels i) ((used ∙ same_symbols d p.line p.line.kind) i) d.code_fixes (fixed i))
    ∙ (λ i. draft_with (cond (sym in_data i) d.code (d.code ++ bytes_of all p p.line.kind)) (cond (sym in_data i) (d.stored ++ bytes_of all p p.line.kind) d.stored) (labels_after d p.line p.line.kind)
    (symbols_after d p.line p.line.kind) (cond (sym in_data i) d.code_fixes (d.code_fixes ++ fix_of d p p.line.kind)) (cond (sym in_data i) (d.stored_fixes ++ fix_of d p p.line.kind) d.stored_fixes))

pub put_in_code : (all : List Label) (d : Draft) (p : Placed) (code : List ℕ) (n : ℕ) (symbols : List Symbol) (fixes : List Fix) → p.at.in_data ≡ false → code ≡ d.code ++ bytes_of all p p.line.kind
    → n ≡ labels_after d p.line p.line.kind → symbols ≡ symbols_after (bare_draft d.symbols) p.line p.line.kind → fixes ≡ d.code_fixes ++ fix_of d p p.line.kind
    → draft_with code d.stored n symbols fixes d.stored_fixes ≡ with_line all d p
unfolding with_line
put_in_code all d p code n symbols fixes in_data bytes labels used fixed =
    (λ i. draft_with (bytes i) d.stored (labels i) ((used ∙ same_symbols d p.line p.line.kind) i) (fixed i) d.stored_fixes)
    ∙ (λ i. draft_with (cond (sym in_data i) d.code (d.code ++ bytes_of all p p.line.kind)) (cond (sym in_data i) (d.stored ++ bytes_of all p p.line.kind) d.stored) (labels_after d p.line p.line.kind)
    (symbols_after d p.line p.line.kind) (cond (sym in_data i) d.code_fixes (d.code_fixes ++ fix_of d p p.line.kind)) (cond (sym in_data i) (d.stored_fixes ++ fix_of d p p.line.kind) d.stored_fixes))

-- ---- the lines that are left

pub found_on : (texts parts : List (List ℕ)) (part : List ℕ) (labels new : List Label) (at next : Cursor) (l : Line) → texts ≡ part ∷ parts → l ≡ line_of at.in_data part
    → new ≡ with_label labels (record { at = at; line = l }) → next ≡ after at l.kind → fold with_label new (placed next parts) ≡ fold with_label labels (placed at texts)
found_on texts parts part labels new at next l cut is labelled moved =
    (λ i. fold with_label (labelled i) (placed (moved i) parts))
    ∙ (ap (λ (x : Line). fold with_label (with_label labels (record { at = at; line = x })) (placed (after at x.kind) parts)) is ∙ ap (λ (ts : List (List ℕ)). fold with_label labels (placed at ts)) (sym cut))

-- the lines of a text from here on
pub lines_on : (texts parts : List (List ℕ)) (part : List ℕ) (at next : Cursor) (l : Line) → texts ≡ part ∷ parts → l ≡ line_of at.in_data part → next ≡ after at l.kind
    → placed at texts ≡ record { at = at; line = l } ∷ placed next parts
lines_on texts parts part at next l cut is moved =
    ap (placed at) cut ∙ (ap (λ (x : Line). record { at = at; line = x } ∷ placed (after at x.kind) parts) (sym is) ∙ ap (λ (c : Cursor). record { at = at; line = l } ∷ placed c parts) (sym moved))

pub blanked_from : (out code front rest last : List ℕ) (behind n : ℕ) → front ≡ take n code → rest ≡ drop n code → last ≡ drop 4 rest → n ≡ length code - (behind + 4)
    → out ++ front ++ (0 ∷ 0 ∷ 0 ∷ 0 ∷ []) ++ last ≡ out ++ blanked code behind
blanked_from out code front rest last behind n a b c e =
    regroup ∙ ap (λ l. out ++ l) ((λ i. a i ++ (0 ∷ 0 ∷ 0 ∷ 0 ∷ []) ++ (c ∙ ap (drop 4) b) i) ∙ sym (blanked_is code behind n e))
  where
    regroup : out ++ front ++ (0 ∷ 0 ∷ 0 ∷ 0 ∷ []) ++ last ≡ out ++ (front ++ (0 ∷ 0 ∷ 0 ∷ 0 ∷ []) ++ last)
    regroup = ap (λ l. l ++ last) (append_assoc out front (0 ∷ 0 ∷ 0 ∷ 0 ∷ [])) ∙ append_assoc out (front ++ (0 ∷ 0 ∷ 0 ∷ 0 ∷ [])) last

-- what holds of a value, if there is one
pub if_ok : {T F : Type 0} (r : Result T F) (P Q : T → Type 0) → IfOk r P → ((x : T) → P x → Q x) → IfOk r Q
if_ok (Ok x) P Q h all = all x h
if_ok (Err e) P Q h all = tt

taken : (ss : List Symbol) (n : ℕ) (s : Symbol) → slice_get ss n ≡ Some s → take (suc n) ss ≡ take n ss ++ s ∷ []
taken [] n s h = absurd cc
taken (x ∷ ss) zero s h = (let same : x ≡ s = cc in ap (λ (y : Symbol). y ∷ []) same)
taken (x ∷ ss) (suc n) s h = ap (λ l. x ∷ l) (taken ss n s h)

-- one symbol more
pub taken_more : (ss now new : List Symbol) (n : ℕ) (s : Symbol) → now ≡ take n ss → new ≡ now ++ s ∷ [] → slice_get ss n ≡ Some s → new ≡ take (n + 1) ss
taken_more ss now new n s before added at = added ∙ (ap (λ l. l ++ s ∷ []) before ∙ (sym (taken ss n s at) ∙ ap (λ m. take m ss) (sym (add-one n))))

-- the number of the next line
pub next_line : (at : Cursor) (x : Kind) → (after at x).line ≡ at.line + 1
unfolding after
next_line at x = refl
