-- The labels of lines, and the symbols that they are.
use Rattle.std.proofs.Common.{◌≡◌, refl, ap, ◌∙◌, ℕ, suc, ◌+◌, ◌≤◌, Bool, true, false, true≢false, cond, not, Option, None, Some, List, [], ◌∷◌, ◌++◌, length, arith}
use Rattle.std.specs.Prelude.{◌&&◌, ◌||◌, map, fold, filter, is_none}
use Rattle.std.specs.List.{list_any, find}
use Rattle.std.proofs.lemmas.List.{length-map, length-append}
use Rattle.std.proofs.lemmas.List.Splits.{length-slice_split}
use Rattle.asm_text.specs.declared.parts.Cursor.{Cursor}
use Rattle.asm_text.specs.Cuts.{is}
use Rattle.asm_text.specs.Lexical.{is_local}
use Rattle.asm_text.specs.Lines.{line_of}
use Rattle.asm_text.specs.Assembly.{Label, Placed, placed, start, texts_of, after, offset_of, is_label, is_of, label_of, with_label, labels_of, is_symbol, symbol_of, labelled, number_from}
use Rattle.assembler.specs.Sound.{most_text}
use Rattle.assembler.specs.Held.{AreDistinct}
use Rattle.assembler.proofs.NamedLemmas.{eq_sym}
use Rattle.assembler.proofs.SoundLines.{count_le}

-- ---- symbols of labels

-- a name without label is no symbol's
unlabelled_from : (name : List ℕ) (n : ℕ) (ls : List Label) → label_of ls name ≡ None → number_from name n (labelled ls) ≡ None
unlabelled_from name n [] none = refl
unlabelled_from name n (l ∷ ls) none = by (λ m. unlabelled_from name m ls) (is_of name l) refl none
  where
    here : ((m : ℕ) → label_of ls name ≡ None → number_from name m (labelled ls) ≡ None) → (c : Bool) → is_of name l ≡ false → label_of ls name ≡ None → number_from name n (map symbol_of (cond c (l ∷ filter is_symbol ls) (filter is_symbol ls))) ≡ None
    here more true e none = ap (λ b. cond b (Some n) (number_from name (n + 1) (labelled ls))) e ∙ more (n + 1) none
    here more false e none = more n none

    by : ((m : ℕ) → label_of ls name ≡ None → number_from name m (labelled ls) ≡ None) → (b : Bool) → is_of name l ≡ b → cond b (Some l) (find (is_of name) ls) ≡ None → number_from name n (labelled (l ∷ ls)) ≡ None
    by more true e none = absurd cc
    by more false e none = here more (is_symbol l) e none

pub unlabelled : (name : List ℕ) (ls : List Label) → label_of ls name ≡ None → number_from name 0 (labelled ls) ≡ None
unlabelled name ls none = unlabelled_from name 0 ls none

-- one label more
pub labelled_symbol : (ls : List Label) (l : Label) → is_local l.name ≡ false → labelled (ls ++ l ∷ []) ≡ labelled ls ++ symbol_of l ∷ []
labelled_symbol [] l e = ap (λ b. map symbol_of (cond (not b) (l ∷ []) [])) e
labelled_symbol (x ∷ ls) l e = by (labelled_symbol ls l e) (is_symbol x)
  where
    by : labelled (ls ++ l ∷ []) ≡ labelled ls ++ symbol_of l ∷ [] → (b : Bool) → map symbol_of (cond b (x ∷ filter is_symbol (ls ++ l ∷ [])) (filter is_symbol (ls ++ l ∷ []))) ≡ map symbol_of (cond b (x ∷ filter is_symbol ls) (filter is_symbol ls)) ++ symbol_of l ∷ []
    by more true = ap (λ m. symbol_of x ∷ m) more
    by more false = more

pub labelled_local : (ls : List Label) (l : Label) → is_local l.name ≡ true → labelled (ls ++ l ∷ []) ≡ labelled ls
labelled_local [] l e = ap (λ b. map symbol_of (cond (not b) (l ∷ []) [])) e
labelled_local (x ∷ ls) l e = by (labelled_local ls l e) (is_symbol x)
  where
    by : labelled (ls ++ l ∷ []) ≡ labelled ls → (b : Bool) → map symbol_of (cond b (x ∷ filter is_symbol (ls ++ l ∷ [])) (filter is_symbol (ls ++ l ∷ []))) ≡ map symbol_of (cond b (x ∷ filter is_symbol ls) (filter is_symbol ls))
    by more true = ap (λ m. symbol_of x ∷ m) more
    by more false = more

-- ---- no name has two labels

absent : (name : List ℕ) (ls : List Label) → label_of ls name ≡ None → list_any (is_of name) ls ≡ false
absent name [] none = refl
absent name (l ∷ ls) none = by (absent name ls) (is_of name l) none
  where
    by : (label_of ls name ≡ None → list_any (is_of name) ls ≡ false) → (b : Bool) → cond b (Some l) (find (is_of name) ls) ≡ None → (b || list_any (is_of name) ls) ≡ false
    by more true none = absurd cc
    by more false none = more none

any_last : (name : List ℕ) (ls : List Label) (l : Label) → list_any (is_of name) ls ≡ false → is_of name l ≡ false → list_any (is_of name) (ls ++ l ∷ []) ≡ false
any_last name [] l none other = ap (λ b. b || false) other
any_last name (x ∷ ls) l none other = by (λ h. any_last name ls l h other) (is_of name x) none
  where
    by : (list_any (is_of name) ls ≡ false → list_any (is_of name) (ls ++ l ∷ []) ≡ false) → (b : Bool) → (b || list_any (is_of name) ls) ≡ false → (b || list_any (is_of name) (ls ++ l ∷ [])) ≡ false
    by more true none = none
    by more false none = more none

distinct_last : (ls : List Label) (l : Label) → AreDistinct ls → list_any (is_of l.name) ls ≡ false → AreDistinct (ls ++ l ∷ [])
distinct_last [] l d none = (refl, tt)
distinct_last (x ∷ ls) l d none = by (distinct_last ls l d.1) (is_of l.name x) refl none
  where
    by : (list_any (is_of l.name) ls ≡ false → AreDistinct (ls ++ l ∷ [])) → (b : Bool) → is_of l.name x ≡ b → (b || list_any (is_of l.name) ls) ≡ false → AreDistinct ((x ∷ ls) ++ l ∷ [])
    by more true e none = absurd (true≢false none)
    by more false e none = (any_last x.name ls l d.0 (eq_sym l.name x.name ∙ e), more none)

distinct_more : (ls : List Label) (p : Placed) → AreDistinct ls → AreDistinct (with_label ls p)
distinct_more ls p d = by (is_label p.line.kind) (label_of ls p.line.name) refl
  where
    by : (b : Bool) (o : Option Label) → label_of ls p.line.name ≡ o
        → AreDistinct (cond (b && is_none o) (ls ++ record { name = p.line.name; in_data = p.at.in_data; offset = offset_of p.at; line = p.at.line } ∷ []) ls)
    by true None e = distinct_last ls _ d (absent p.line.name ls e)
    by true (Some x) e = d
    by false o e = d

distinct_fold : (lines : List Placed) (ls : List Label) → AreDistinct ls → AreDistinct (fold with_label ls lines)
distinct_fold [] ls d = d
distinct_fold (p ∷ lines) ls d = distinct_fold lines (with_label ls p) (distinct_more ls p d)

pub labels_distinct : (lines : List Placed) → AreDistinct (labels_of lines)
labels_distinct lines = distinct_fold lines [] tt

-- ---- there are at most as many labels as lines

few_more : (ls : List Label) (p : Placed) → length (with_label ls p) ≤ length ls + 1
few_more ls p = by (is_label p.line.kind && is_none (label_of ls p.line.name))
  where
    by : (b : Bool) → length (cond b (ls ++ record { name = p.line.name; in_data = p.at.in_data; offset = offset_of p.at; line = p.at.line } ∷ []) ls) ≤ length ls + 1
    by true = simp length-append (omega arith)
    by false = omega arith

few_fold : (texts : List (List ℕ)) (at : Cursor) (ls : List Label) → length (fold with_label ls (placed at texts)) ≤ length ls + length texts
few_fold [] at ls = omega arith
few_fold (t ∷ texts) at ls =
    omega (arith, few_fold texts (after at (line_of at.in_data t).kind) (with_label ls (record { at = at; line = line_of at.in_data t })), few_more ls (record { at = at; line = line_of at.in_data t }))

filter_few : (ls : List Label) → length (filter is_symbol ls) ≤ length ls
filter_few [] = omega arith
filter_few (l ∷ ls) = by (filter_few ls) (is_symbol l)
  where
    by : length (filter is_symbol ls) ≤ length ls → (b : Bool) → length (cond b (l ∷ filter is_symbol ls) (filter is_symbol ls)) ≤ suc (length ls)
    by more true = omega (arith, more)
    by more false = omega (arith, more)

pub few_labelled : (text : List ℕ) → length text ≤ most_text → length (labelled (labels_of (placed start (texts_of text)))) ≤ most_text + 1
few_labelled text few =
    omega (arith, length-map (filter is_symbol (labels_of (placed start (texts_of text)))) symbol_of, filter_few (labels_of (placed start (texts_of text))), few_fold (texts_of text) start [], length-slice_split (is 10) text, count_le (is 10) text, few)
