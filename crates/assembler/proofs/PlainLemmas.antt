-- The symbols of accepted drafts: names of C, none twice, each where its label stands, with a signature that suits it.
use Rattle.std.proofs.Common.{◌≡◌, refl, sym, ap, subst, ◌∙◌, ℕ, ◌≤◌, Bool, true, false, true≢false, cond, is_some, not, Option, None, Some, List, [], ◌∷◌, ◌++◌, length, append_assoc, append-nil, inl, inr, arith}
use Rattle.std.specs.Prelude.{◌&&◌, ◌||◌, map, filter, fold, option_and_then, is_none, nat_lt, nat_le}
use Rattle.std.specs.List.{list_any}
use Rattle.std.proofs.lemmas.Bool.{and_parts, ltb-true, leb-true, not-true, not-false}
use Rattle.std.proofs.lemmas.List.{map-append}
use Rattle.obj_file.specs.Names.{is_function_sig, is_data_sig}
use Rattle.obj_file.specs.declared.object.Symbol.{Symbol}
use Rattle.obj_file.specs.Object.{suits}
use Rattle.asm_text.specs.declared.parts.Kind.{Kind}
use Rattle.asm_text.specs.declared.parts.Kind.TheVariants as k
use Rattle.asm_text.specs.Lexical.{either, is_name, is_local}
use Rattle.asm_text.specs.Lines.{Line, is_signature}
use Rattle.asm_text.specs.Assembly.{Label, Placed, Draft, offset_of, is_label, is_of, is_before, label_of, earlier_label, with_label, labels_of, is_symbol, symbol_of, labelled, is_named, import, uses, signed, symbols_after, part_of, unsuited, lacks}
use Rattle.assembler.specs.Sound.{is_word, NamesField, IsSound, IsSoundKind}
use Rattle.assembler.specs.Held.{AreDistinct}
use Rattle.assembler.specs.Good.{HasSymbols}
use Rattle.assembler.proofs.NamedLemmas.{eq_sym, eq_self, same_bytes, any_numbered, kept, earlier_is}
use Rattle.assembler.proofs.LabelLemmas.{unlabelled, labelled_symbol, labelled_local}
use Rattle.assembler.proofs.StepLemmas.{name_not_local}

-- ---- none twice

-- no name is that of a symbol before
abbrev pub AreFresh : List Symbol → List Symbol → Type 0
AreFresh seen [] = Unit {0}
AreFresh seen (s ∷ ss) = (list_any (is_named s.name) seen ≡ false) × AreFresh (seen ++ s ∷ []) ss

pub fresh_last : (seen ss : List Symbol) (s : Symbol) → AreFresh seen ss → list_any (is_named s.name) (seen ++ ss) ≡ false → AreFresh seen (ss ++ s ∷ [])
fresh_last seen [] s h none = (ap (list_any (is_named s.name)) (sym (append-nil seen)) ∙ none, tt)
fresh_last seen (x ∷ ss) s h none = (h.0, fresh_last (seen ++ x ∷ []) ss s h.1 (ap (list_any (is_named s.name)) (append_assoc seen (x ∷ []) ss) ∙ none))

any_signed : (q name sig : List ℕ) (ss : List Symbol) → list_any (is_named q) (map (signed name sig) ss) ≡ list_any (is_named q) ss
any_signed q name sig [] = refl
any_signed q name sig (s ∷ ss) = (λ i. here (is_named name s) i || any_signed q name sig ss i)
  where
    here : (b : Bool) → is_named q (cond b (record s { sig = sig }) s) ≡ is_named q s
    here true = refl
    here false = refl

name_signed : (name sig : List ℕ) (s : Symbol) → (signed name sig s).name ≡ s.name
name_signed name sig s = by (is_named name s)
  where
    by : (b : Bool) → (cond b (record s { sig = sig }) s).name ≡ s.name
    by true = refl
    by false = refl

pub fresh_signed : (name sig : List ℕ) (seen ss : List Symbol) → AreFresh seen ss → AreFresh (map (signed name sig) seen) (map (signed name sig) ss)
fresh_signed name sig seen [] h = tt
fresh_signed name sig seen (s ∷ ss) h = (
  ap (λ (n : List ℕ). list_any (is_named n) (map (signed name sig) seen)) (name_signed name sig s) ∙ (any_signed s.name name sig seen ∙ h.0),
  subst (λ (l : List Symbol). AreFresh l (map (signed name sig) ss)) (map-append (signed name sig) seen (s ∷ [])) (fresh_signed name sig (seen ++ s ∷ []) ss h.1),
)

-- ---- labels

-- every name is a word
abbrev pub AreWords : List Label → Type 0
AreWords [] = Unit {0}
AreWords (l ∷ ls) = (is_word l.name ≡ true) × AreWords ls

words_last : (ls : List Label) (l : Label) → AreWords ls → is_word l.name ≡ true → AreWords (ls ++ l ∷ [])
words_last [] l h w = (w, tt)
words_last (x ∷ ls) l h w = (h.0, words_last ls l h.1 w)

-- the lines are sound
abbrev pub AreSound : List Placed → Type 0
AreSound [] = Unit {0}
AreSound (p ∷ ps) = IsSound p.at.in_data p.line × AreSound ps

abbrev new_label : Placed → Label
new_label p = record { name = p.line.name; in_data = p.at.in_data; offset = offset_of p.at; line = p.at.line }

label_word : (p : Placed) → IsSound p.at.in_data p.line → is_label p.line.kind ≡ true → is_word p.line.name ≡ true
unfolding IsSound
label_word p sound e = by p.line.kind sound e
  where
    by : (x : Kind) → IsSoundKind p.at.in_data p.line x → is_label x ≡ true → is_word p.line.name ≡ true
    by k.Label h e = h
    by x h e = absurd (true≢false (sym e))

-- what is kept along the labels of lines
pub record AreNamed (ls : List Label) : Type 0 where
  pub words : AreWords ls
  pub fresh : AreFresh [] (labelled ls)

named_more : (ls : List Label) (p : Placed) → IsSound p.at.in_data p.line → AreNamed ls → AreNamed (with_label ls p)
named_more ls p sound n = by (is_label p.line.kind) (label_of ls p.line.name) refl refl
  where
    fresh : label_of ls p.line.name ≡ None → (b : Bool) → is_local p.line.name ≡ b → AreFresh [] (labelled (ls ++ new_label p ∷ []))
    fresh none true e = subst (AreFresh []) (sym (labelled_local ls (new_label p) e)) n.fresh
    fresh none false e =
        subst (AreFresh []) (sym (labelled_symbol ls (new_label p) e))
        (fresh_last [] (labelled ls) (symbol_of (new_label p)) n.fresh (any_numbered p.line.name 0 (labelled ls) ∙ ap is_some (unlabelled p.line.name ls none)))

    by : (b : Bool) (o : Option Label) → is_label p.line.kind ≡ b → label_of ls p.line.name ≡ o → AreNamed (cond (b && is_none o) (ls ++ new_label p ∷ []) ls)
    by true None e none = record { words = words_last ls (new_label p) n.words (label_word p sound e); fresh = fresh none (is_local p.line.name) refl }
    by true (Some x) e some = n
    by false o e some = n

named_fold : (lines : List Placed) (ls : List Label) → AreSound lines → AreNamed ls → AreNamed (fold with_label ls lines)
named_fold [] ls sound n = n
named_fold (p ∷ lines) ls sound n = named_fold lines (with_label ls p) sound.1 (named_more ls p sound.0 n)

pub labels_named : (lines : List Placed) → AreSound lines → AreNamed (labels_of lines)
labels_named lines sound = named_fold lines [] sound (record { words = tt; fresh = tt })

-- ---- plain symbols

pub record IsPlain (labels : List Label) (s : Symbol) : Type 0 where
  pub name : is_name s.name ≡ true
  pub part : s.part ≡ either (label_of labels s.name) part_of 0
  pub offset : s.offset ≡ either (label_of labels s.name) (λ l. l.offset) 0
  pub sig : suits s.part s.sig ≡ true
  pub short : length s.sig ≤ 63

abbrev pub ArePlain : List Label → List Symbol → Type 0
ArePlain labels [] = Unit {0}
ArePlain labels (s ∷ ss) = IsPlain labels s × ArePlain labels ss

pub plain_last : (labels : List Label) (ss : List Symbol) (s : Symbol) → ArePlain labels ss → IsPlain labels s → ArePlain labels (ss ++ s ∷ [])
plain_last labels [] s h p = (p, tt)
plain_last labels (x ∷ ss) s h p = (h.0, plain_last labels ss s h.1 p)

-- each of these labels is found by its name
abbrev AreFound : List Label → List Label → Type 0
AreFound all [] = Unit {0}
AreFound all (l ∷ ls) = (label_of all l.name ≡ Some l) × AreFound all ls

found_behind : (x : Label) (all ls : List Label) → list_any (is_of x.name) ls ≡ false → AreFound all ls → AreFound (x ∷ all) ls
found_behind x all [] none h = tt
found_behind x all (l ∷ ls) none h = by (λ other. found_behind x all ls other h.1) (is_of x.name l) refl none
  where
    by : (list_any (is_of x.name) ls ≡ false → AreFound (x ∷ all) ls) → (b : Bool) → is_of x.name l ≡ b → (b || list_any (is_of x.name) ls) ≡ false → AreFound (x ∷ all) (l ∷ ls)
    by more true e none = absurd (true≢false none)
    by more false e none = (ap (λ b. cond b (Some x) (label_of all l.name)) (eq_sym x.name l.name ∙ e) ∙ h.0, more none)

all_found : (ls : List Label) → AreDistinct ls → AreFound ls ls
all_found [] d = tt
all_found (l ∷ ls) d = (ap (λ b. cond b (Some l) (label_of ls l.name)) (eq_self l.name), found_behind l ls ls d.0 (all_found ls d.1))

word_name : (name : List ℕ) → is_word name ≡ true → is_local name ≡ false → is_name name ≡ true
word_name name w e = by (is_name name) (is_local name) w e
  where
    by : (a b : Bool) → (a || b) ≡ true → b ≡ false → a ≡ true
    by true b w e = refl
    by false b w e = absurd (true≢false (sym w ∙ e))

suits_nothing : (part : ℕ) → suits part [] ≡ true
unfolding suits
suits_nothing part = refl

plain_labels : (all ls : List Label) → AreWords ls → AreFound all ls → ArePlain all (labelled ls)
plain_labels all [] w f = tt
plain_labels all (l ∷ ls) w f = by (plain_labels all ls w.1 f.1) (is_local l.name) refl
  where
    by : ArePlain all (labelled ls) → (b : Bool) → is_local l.name ≡ b → ArePlain all (map symbol_of (cond (not b) (l ∷ filter is_symbol ls) (filter is_symbol ls)))
    by more true e = more
    by more false e = (
      record {
        name = word_name l.name w.0 e;
        part = sym (ap (λ (o : Option Label). either o part_of 0) f.0);
        offset = sym (ap (λ (o : Option Label). either o (λ x. x.offset) 0) f.0);
        sig = suits_nothing (part_of l);
        short = omega arith;
      },
      more,
    )

pub labels_plain : (ls : List Label) → AreDistinct ls → AreNamed ls → ArePlain ls (labelled ls)
labels_plain ls d n = plain_labels ls ls n.words (all_found ls d)

-- ---- a signature

-- the label of the signature's name
signed_part : (labels : List Label) (p : Placed) → AreDistinct labels → lacks labels p k.Sig ≡ false → unsuited labels p k.Sig ≡ false → suits (either (label_of labels p.line.name) part_of 0) p.line.text ≡ true
unfolding lacks unsuited earlier_label
signed_part labels p d there suited =
    by (label_of labels p.line.name)
    (ap is_none (sym (earlier_is p.line.name p.at.line labels d)) ∙ there)
    (ap (λ (o : Option Label). either o (λ l. not (suits (part_of l) p.line.text)) false) (sym (earlier_is p.line.name p.at.line labels d)) ∙ suited)
  where
    this : (l : Label) (b : Bool) → is_none (cond b (Some l) None) ≡ false → either (cond b (Some l) None) (λ (x : Label). not (suits (part_of x) p.line.text)) false ≡ false → suits (part_of l) p.line.text ≡ true
    this l true there suited = not-false (suits (part_of l) p.line.text) suited
    this l false there suited = absurd (true≢false there)

    by : (o : Option Label) → is_none (option_and_then (kept p.at.line) o) ≡ false → either (option_and_then (kept p.at.line) o) (λ (x : Label). not (suits (part_of x) p.line.text)) false ≡ false
        → suits (either o part_of 0) p.line.text ≡ true
    by (Some l) there suited = this l (is_before p.at.line l) there suited
    by None there suited = absurd (true≢false there)

sig_short : (sig : List ℕ) → is_signature sig ≡ true → length sig ≤ 63
sig_short sig e = leb-true (length sig) 63 (and_parts (nat_le (length sig) 63) (is_function_sig sig || is_data_sig sig) e).0

plain_signed : (labels : List Label) (name sig : List ℕ) (ss : List Symbol) → suits (either (label_of labels name) part_of 0) sig ≡ true → length sig ≤ 63 → ArePlain labels ss → ArePlain labels (map (signed name sig) ss)
plain_signed labels name sig [] fit short h = tt
plain_signed labels name sig (s ∷ ss) fit short h = (by (is_named name s) refl, plain_signed labels name sig ss fit short h.1)
  where
    by : (b : Bool) → is_named name s ≡ b → IsPlain labels (cond b (record s { sig = sig }) s)
    by true e = record {
      name = h.0.name;
      part = h.0.part;
      offset = h.0.offset;
      sig = ap (λ (part : ℕ). suits part sig) (h.0.part ∙ ap (λ (n : List ℕ). either (label_of labels n) part_of 0) (same_bytes s.name name e)) ∙ fit;
      short = short;
    }
    by false e = h.0

-- ---- an import

-- a name that is used, by the line
used_name : (in_data : Bool) (l : Line) (x : Kind) → IsSoundKind in_data l x → uses l x ≡ true → is_name l.name ≡ true
unfolding uses
used_name in_data l (k.Code i) sound e = by sound.1.1.0
  where
    parts : (nat_lt 0 (length l.name) ≡ true) × (not (is_local l.name) ≡ true)
    parts = and_parts (nat_lt 0 (length l.name)) (not (is_local l.name)) e

    by : NamesField l.name i → is_name l.name ≡ true
    by (inl none) = absurd (let some = ltb-true 0 (length l.name) parts.0 in omega (arith, some, none))
    by (inr h) = word_name l.name h.0 (not-true (is_local l.name) parts.1)
used_name in_data l k.Address sound e = sound.1.0
used_name in_data l x sound e = absurd (true≢false (sym e))

no_label : (labels : List Label) (ss : List Symbol) (name : List ℕ) → HasSymbols labels ss → is_name name ≡ true → list_any (is_named name) ss ≡ false → label_of labels name ≡ None
no_label labels ss name has named none = by (label_of labels name) refl
  where
    by : (o : Option Label) → label_of labels name ≡ o → o ≡ None
    by None e = refl
    by (Some l) e = absurd (true≢false (sym (has name (ap is_some e) (name_not_local name named)) ∙ (sym (any_numbered name 0 ss) ∙ none)))

plain_import : (labels : List Label) (name : List ℕ) → is_name name ≡ true → label_of labels name ≡ None → IsPlain labels (import name)
plain_import labels name named none = record {
  name = named;
  part = sym (ap (λ (o : Option Label). either o part_of 0) none);
  offset = sym (ap (λ (o : Option Label). either o (λ l. l.offset) 0) none);
  sig = suits_nothing 0;
  short = omega arith;
}

-- ---- one line more

pub plain_after : (labels : List Label) (d : Draft) (p : Placed) (x : Kind) → AreDistinct labels → HasSymbols labels d.symbols → IsSoundKind p.at.in_data p.line x → lacks labels p x ≡ false → unsuited labels p x ≡ false
    → ArePlain labels d.symbols → ArePlain labels (symbols_after d p.line x)
unfolding symbols_after
plain_after labels d p k.Sig distinct has sound there suited h = plain_signed labels p.line.name p.line.text d.symbols (signed_part labels p distinct there suited) (sig_short p.line.text sound.1) h
plain_after labels d p x distinct has sound there suited h = by (uses p.line x) (list_any (is_named p.line.name) d.symbols) refl refl
  where
    by : (a b : Bool) → uses p.line x ≡ a → list_any (is_named p.line.name) d.symbols ≡ b → ArePlain labels (cond a (cond b d.symbols (d.symbols ++ import p.line.name ∷ [])) d.symbols)
    by true true e none = h
    by true false e none =
        let named = used_name p.at.in_data p.line x sound e in
        plain_last labels d.symbols (import p.line.name) h (plain_import labels p.line.name named (no_label labels d.symbols p.line.name has named none))
    by false b e none = h

pub fresh_after : (d : Draft) (l : Line) (x : Kind) → AreFresh [] d.symbols → AreFresh [] (symbols_after d l x)
unfolding symbols_after
fresh_after d l k.Sig h = fresh_signed l.name l.text [] d.symbols h
fresh_after d l x h = by (uses l x) (list_any (is_named l.name) d.symbols) refl
  where
    by : (a b : Bool) → list_any (is_named l.name) d.symbols ≡ b → AreFresh [] (cond a (cond b d.symbols (d.symbols ++ import l.name ∷ [])) d.symbols)
    by true true e = h
    by true false e = fresh_last [] d.symbols (import l.name) h e
    by false b e = h
