-- The object of accepted lines is formed.
use Rattle.std.proofs.Common.{◌≡◌, refl, sym, ap, subst, ◌∙◌, ℕ, suc, ◌+◌, ◌≤◌, ◌<◌, Bool, true, false, true≢false, cond, not, Option, None, Some, List, [], ◌∷◌, ◌++◌, length, arith}
use Rattle.std.specs.Prelude.{◌&&◌, fold, is_none, nat_eq, nat_le, Result, Ok, Err}
use Rattle.std.specs.List.{list_any, slice_split, onto_first}
use Rattle.std.proofs.lemmas.Bool.{and_parts, and_from, leb-true}
use Rattle.std.proofs.lemmas.List.{length-append}
use Rattle.std.proofs.lemmas.Str.{IsUtf8-nil}
use Rattle.obj_file.specs.Names.{is_c_name}
use Rattle.obj_file.specs.declared.object.Object.{Object}
use Rattle.obj_file.specs.declared.object.Symbol.{Symbol}
use Rattle.obj_file.specs.declared.object.Fix.{Fix}
use Rattle.obj_file.specs.declared.parts.Parts.{Parts}
use Rattle.obj_file.specs.InTurn.{InTurn}
use Rattle.obj_file.specs.Object.{parts_of, part_len, is_free_name, is_taken, least_sig, after_symbol, IsSymbol, IsObject}
use Rattle.obj_file.proofs.AsciiNames.{free_names_are_text, signatures_are_text}
use Rattle.asm_text.specs.declared.fault.AsmKind.{AsmKind}
use Rattle.asm_text.specs.declared.parts.Kind.{Kind}
use Rattle.asm_text.specs.declared.parts.Kind.TheVariants as k
use Rattle.asm_text.specs.declared.parts.Cursor.{Cursor}
use Rattle.asm_text.specs.Cuts.{is}
use Rattle.asm_text.specs.Lexical.{either, is_name, is_local}
use Rattle.asm_text.specs.Lines.{line_of}
use Rattle.asm_text.specs.Assembly.{Label, Placed, Draft, size_of, after, placed, start, texts_of, offset_of, is_label, is_of, label_of, with_label, labels_of, symbol_of, labelled, is_named, nothing, bytes_of, fix_of, symbols_after, labels_after, with_line, part_of, fault_of, drafted, object_of, object_from, assembled}
use Rattle.assembler.specs.Sound.{most_text, IsSound, IsSoundKind}
use Rattle.assembler.specs.Held.{AreDistinct, AreWritten}
use Rattle.asm_text.specs.declared.fault.AsmFault.{AsmFault}
use Rattle.asm_text.specs.declared.fault.AsmFault.TheVariants.{Line as AtLine, OutOfMemory}
use Rattle.assembler.specs.Good.{IsWithin, drafted_text}
use Rattle.assembler.specs.Told.{Refuses}
use Rattle.assembler.proofs.SoundLines.{line_of_sound}
use Rattle.assembler.proofs.LabelLemmas.{labels_distinct, labelled_symbol, labelled_local}
use Rattle.assembler.proofs.StepLemmas.{IsAccepted, accepted, within_after, within_start}
use Rattle.assembler.proofs.SizeLemmas.{bytes_length}
use Rattle.assembler.proofs.ChainLemmas.{Chain, chain_wider, fixes_in_turn, symbols_grow, code_chain, stored_chain}
use Rattle.assembler.proofs.PlainLemmas.{AreFresh, AreSound, AreNamed, labels_named, IsPlain, ArePlain, labels_plain, plain_after, fresh_after}

-- ---- the lines of a text are sound

abbrev pub AreShort : ℕ → List (List ℕ) → Type 0
AreShort n [] = Unit {0}
AreShort n (t ∷ ts) = (length t ≤ n) × AreShort n ts

short_more : (n : ℕ) (ts : List (List ℕ)) → AreShort n ts → AreShort (suc n) ts
short_more n [] h = tt
short_more n (t ∷ ts) h = ((let a = h.0 in omega (arith, a)), short_more n ts h.1)

short_onto : (n x : ℕ) (ts : List (List ℕ)) → AreShort n ts → AreShort (suc n) (onto_first x ts)
short_onto n x [] h = (omega arith, tt)
short_onto n x (t ∷ ts) h = ((let a = h.0 in omega (arith, a)), short_more n ts h.1)

parts_short : (p : ℕ → Bool) (xs : List ℕ) → AreShort (length xs) (slice_split p xs)
parts_short p [] = (omega arith, tt)
parts_short p (x ∷ xs) = by (parts_short p xs) (p x)
  where
    by : AreShort (length xs) (slice_split p xs) → (b : Bool) → AreShort (suc (length xs)) (cond b ([] ∷ slice_split p xs) (onto_first x (slice_split p xs)))
    by more true = (omega arith, short_more (length xs) (slice_split p xs) more)
    by more false = short_onto (length xs) x (slice_split p xs) more

sound_lines : (n : ℕ) (texts : List (List ℕ)) (at : Cursor) → n ≤ most_text → AreShort n texts → AreSound (placed at texts)
sound_lines n [] at few h = tt
sound_lines n (t ∷ texts) at few h = (line_of_sound at.in_data t (let a = h.0 in omega (arith, a, few)), sound_lines n texts (after at (line_of at.in_data t).kind) few h.1)

pub text_sound : (text : List ℕ) → length text ≤ most_text → AreSound (placed start (texts_of text))
text_sound text few = sound_lines (length text) (texts_of text) start few (parts_short (is 10) text)

-- ---- along accepted lines

-- where the lines end
abbrev pub end_at : Cursor → List (List ℕ) → Cursor
end_at at [] = at
end_at at (t ∷ texts) = end_at (after at (line_of at.in_data t).kind) texts

pub record IsFormed (labels : List Label) (at : Cursor) (d : Draft) : Type 0 where
  pub within : IsWithin labels at d
  pub code : length d.code ≡ at.code
  pub stored : length d.stored ≡ at.stored
  pub plain : ArePlain labels d.symbols
  pub fresh : AreFresh [] d.symbols
  pub code_fixes : Chain 1 0 (length d.symbols) at.code d.code_fixes
  pub stored_fixes : Chain 2 0 (length d.symbols) at.stored d.stored_fixes

length_either : (b : Bool) (xs ys : List ℕ) (n m : ℕ) → length xs ≡ n → length ys ≡ m → length (cond b xs (xs ++ ys)) ≡ cond b n (n + m)
length_either true xs ys n m e f = e
length_either false xs ys n m e f = length-append xs ys ∙ (λ i. e i + f i)

length_other : (b : Bool) (xs ys : List ℕ) (n m : ℕ) → length xs ≡ n → length ys ≡ m → length (cond b (xs ++ ys) xs) ≡ cond b (n + m) n
length_other true xs ys n m e f = length-append xs ys ∙ (λ i. e i + f i)
length_other false xs ys n m e f = e

code_fixes_after : (d : Draft) (p : Placed) (x : Kind) (b : Bool) → IsSoundKind b p.line x → Chain 1 0 (length d.symbols) p.at.code d.code_fixes
    → Chain 1 0 (length (symbols_after d p.line x)) (cond b p.at.code (p.at.code + size_of p.at x)) (cond b d.code_fixes (d.code_fixes ++ fix_of d p x))
code_fixes_after d p x true sound h = chain_wider 1 0 (length d.symbols) (length (symbols_after d p.line x)) p.at.code p.at.code d.code_fixes (symbols_grow d p.line x) (omega arith) h
code_fixes_after d p x false sound h = code_chain d p x sound h

stored_fixes_after : (d : Draft) (p : Placed) (x : Kind) (b : Bool) → IsSoundKind b p.line x → Chain 2 0 (length d.symbols) p.at.stored d.stored_fixes
    → Chain 2 0 (length (symbols_after d p.line x)) (cond b (p.at.stored + size_of p.at x) p.at.stored) (cond b (d.stored_fixes ++ fix_of d p x) d.stored_fixes)
stored_fixes_after d p x true sound h = stored_chain d p x sound h
stored_fixes_after d p x false sound h = chain_wider 2 0 (length d.symbols) (length (symbols_after d p.line x)) p.at.stored p.at.stored d.stored_fixes (symbols_grow d p.line x) (omega arith) h

formed_after : (labels : List Label) (d : Draft) (p : Placed) → AreDistinct labels → IsSound p.at.in_data p.line → IsAccepted labels d p → IsFormed labels p.at d → IsFormed labels (after p.at p.line.kind) (with_line labels d p)
unfolding with_line after IsSound
formed_after labels d p distinct sound a f =
    let x = p.line.kind in
    record {
      within = within_after labels d p f.within a;
      code = length_either p.at.in_data d.code (bytes_of labels p x) p.at.code (size_of p.at x) f.code (bytes_length labels p x sound a.there);
      stored = length_other p.at.in_data d.stored (bytes_of labels p x) p.at.stored (size_of p.at x) f.stored (bytes_length labels p x sound a.there);
      plain = plain_after labels d p x distinct f.within.present sound a.there a.suited f.plain;
      fresh = fresh_after d p.line x f.fresh;
      code_fixes = code_fixes_after d p x p.at.in_data sound f.code_fixes;
      stored_fixes = stored_fixes_after d p x p.at.in_data sound f.stored_fixes;
    }

abbrev Answer : Type 0
Answer = Result Draft (ℕ × AsmKind)

-- from lines that are drafted
accepted_line : (labels : List Label) (d new : Draft) (p : Placed) (more : List Placed) → drafted labels d (p ∷ more) ≡ Ok new → IsAccepted labels d p × (drafted labels (with_line labels d p) more ≡ Ok new)
accepted_line labels d new p more e = by (fault_of labels (length (labelled labels)) d p p.line.kind) refl e
  where
    by : (o : Option AsmKind) → fault_of labels (length (labelled labels)) d p p.line.kind ≡ o → either {B = Answer} o (λ kind. Err (p.at.line, kind)) (drafted labels (with_line labels d p) more) ≡ Ok new
        → IsAccepted labels d p × (drafted labels (with_line labels d p) more ≡ Ok new)
    by (Some kind) h e = absurd cc
    by None h e = (accepted labels d p h, e)

formed_lines : (labels : List Label) (texts : List (List ℕ)) (at : Cursor) (d new : Draft) → AreDistinct labels → AreSound (placed at texts) → IsFormed labels at d → drafted labels d (placed at texts) ≡ Ok new
    → IsFormed labels (end_at at texts) new
formed_lines labels [] at d new distinct sound f e = (let same : d ≡ new = cc in subst (IsFormed labels at) same f)
formed_lines labels (t ∷ texts) at d new distinct sound f e =
    let p : Placed = record { at = at; line = line_of at.in_data t } in
    let h = accepted_line labels d new p (placed (after at p.line.kind) texts) e in
    formed_lines labels texts (after at p.line.kind) (with_line labels d p) new distinct sound.1 (formed_after labels d p distinct sound.0 h.0 f) h.1

-- ---- labels stand within the parts

abbrev pub AreInside : Cursor → List Label → Type 0
AreInside at [] = Unit {0}
AreInside at (l ∷ ls) = (l.offset ≤ cond l.in_data at.stored at.code) × AreInside at ls

wider_end : (b : Bool) (n : ℕ) (at to : Cursor) → at.code ≤ to.code → at.stored ≤ to.stored → n ≤ cond b at.stored at.code → n ≤ cond b to.stored to.code
wider_end true n at to c s h = omega (arith, s, h)
wider_end false n at to c s h = omega (arith, c, h)

inside_wider : (at to : Cursor) (ls : List Label) → at.code ≤ to.code → at.stored ≤ to.stored → AreInside at ls → AreInside to ls
inside_wider at to [] c s h = tt
inside_wider at to (l ∷ ls) c s h = (wider_end l.in_data l.offset at to c s h.0, inside_wider at to ls c s h.1)

inside_last : (at : Cursor) (ls : List Label) (l : Label) → AreInside at ls → l.offset ≤ cond l.in_data at.stored at.code → AreInside at (ls ++ l ∷ [])
inside_last at [] l h e = (e, tt)
inside_last at (x ∷ ls) l h e = (h.0, inside_last at ls l h.1 e)

abbrev new_label : Placed → Label
new_label p = record { name = p.line.name; in_data = p.at.in_data; offset = offset_of p.at; line = p.at.line }

own_offset : (at : Cursor) (b : Bool) → cond b at.stored at.code ≤ cond b at.stored at.code
own_offset at b = omega arith

inside_more : (ls : List Label) (p : Placed) → AreInside p.at ls → AreInside p.at (with_label ls p)
inside_more ls p h = by (is_label p.line.kind && is_none (label_of ls p.line.name))
  where
    by : (b : Bool) → AreInside p.at (cond b (ls ++ new_label p ∷ []) ls)
    by true = inside_last p.at ls (new_label p) h (own_offset p.at p.at.in_data)
    by false = h

grows : (at : Cursor) (x : Kind) → (at.code ≤ (after at x).code) × (at.stored ≤ (after at x).stored)
unfolding after
grows at x = by at.in_data
  where
    by : (b : Bool) → (at.code ≤ cond b at.code (at.code + size_of at x)) × (at.stored ≤ cond b (at.stored + size_of at x) at.stored)
    by true = (omega arith, omega arith)
    by false = (omega arith, omega arith)

inside_lines : (texts : List (List ℕ)) (at : Cursor) (ls : List Label) → AreInside at ls → AreInside (end_at at texts) (fold with_label ls (placed at texts))
inside_lines [] at ls h = h
inside_lines (t ∷ texts) at ls h =
    let p : Placed = record { at = at; line = line_of at.in_data t } in
    let g = grows at p.line.kind in
    inside_lines texts (after at p.line.kind) (with_label ls p) (inside_wider at (after at p.line.kind) (with_label ls p) g.0 g.1 (inside_more ls p h))

-- ---- all labels that are symbols are counted

one_counted : (ls : List Label) (l : Label) (b : Bool) (n : ℕ) → is_local l.name ≡ b → length (labelled (ls ++ l ∷ [])) + n ≤ length (labelled ls) + cond b n (n + 1)
one_counted ls l true n e = (let same = ap length (labelled_local ls l e) in omega (arith, same))
one_counted ls l false n e = (let more = ap length (labelled_symbol ls l e) ∙ length-append (labelled ls) (symbol_of l ∷ []) in omega (arith, more))

counted_kind : (ls : List Label) (p : Placed) (d : Draft) (x : Kind) → length (labelled (cond (is_label x && is_none (label_of ls p.line.name)) (ls ++ new_label p ∷ []) ls)) + d.labels ≤ length (labelled ls) + labels_after d p.line x
counted_kind ls p d k.Label = by (is_none (label_of ls p.line.name)) (is_local p.line.name) refl
  where
    by : (c b : Bool) → is_local p.line.name ≡ b → length (labelled (cond c (ls ++ new_label p ∷ []) ls)) + d.labels ≤ length (labelled ls) + cond b d.labels (d.labels + 1)
    by true b e = one_counted ls (new_label p) b d.labels e
    by false true e = omega arith
    by false false e = omega arith
counted_kind ls p d x = omega arith

labels_kept : (labels : List Label) (d : Draft) (p : Placed) → (with_line labels d p).labels ≡ labels_after d p.line p.line.kind
unfolding with_line
labels_kept labels d p = refl

counted_lines : (labels : List Label) (texts : List (List ℕ)) (at : Cursor) (ls : List Label) (d new : Draft) → drafted labels d (placed at texts) ≡ Ok new
    → length (labelled (fold with_label ls (placed at texts))) + d.labels ≤ length (labelled ls) + new.labels
counted_lines labels [] at ls d new e = (let same : d ≡ new = cc in let more = ap (λ (x : Draft). x.labels) same in omega (arith, more))
counted_lines labels (t ∷ texts) at ls d new e =
    let p : Placed = record { at = at; line = line_of at.in_data t } in
    let h = accepted_line labels d new p (placed (after at p.line.kind) texts) e in
    let more = counted_lines labels texts (after at p.line.kind) (with_label ls p) (with_line labels d p) new h.1 in
    let one = counted_kind ls p d p.line.kind in
    omega (arith, more, one, labels_kept labels d p)

-- ---- objects

some_name : (name : List ℕ) → is_name name ≡ true → (1 ≤ length name) × ((length name < 64) × (is_c_name name ≡ true))
unfolding is_name is_c_name
some_name [] e = absurd (true≢false (sym e))
some_name (b ∷ name) e =
    let c = and_parts (is_c_name (b ∷ name) && nat_le (length (b ∷ name)) 63) _ e in
    let f = and_parts (is_c_name (b ∷ name)) (nat_le (length (b ∷ name)) 63) c.0 in
    let short = leb-true (length (b ∷ name)) 63 f.1 in
    (omega arith, (omega (arith, short), f.0))

free_name : (seen : List Symbol) (name : List ℕ) → is_c_name name ≡ true → is_taken seen name ≡ false → is_free_name seen name ≡ true
unfolding is_free_name
free_name seen name c new = and_from (is_c_name name) (not (is_taken seen name)) c (ap not new)

low_part : (o : Option Label) → either o part_of 0 ≤ 2
low_part None = omega arith
low_part (Some l) = by l.in_data
  where
    by : (b : Bool) → cond b 2 1 ≤ 2
    by true = omega arith
    by false = omega arith

part_room : (at : Cursor) (parts : Parts) (n : ℕ) (c : Bool) → parts.code ≡ at.code → parts.stored ≡ at.stored → n ≤ cond c at.stored at.code → n ≤ part_len parts (cond c 2 1)
unfolding part_len
part_room at parts n true code stored h = omega (arith, stored, h)
part_room at parts n false code stored h = omega (arith, code, h)

label_inside : (at : Cursor) (name : List ℕ) (ls : List Label) (parts : Parts) → parts.code ≡ at.code → parts.stored ≡ at.stored → AreInside at ls
    → either (label_of ls name) (λ l. l.offset) 0 ≤ part_len parts (either (label_of ls name) part_of 0)
unfolding part_len
label_inside at name [] parts code stored h = omega arith
label_inside at name (l ∷ ls) parts code stored h = by (label_inside at name ls parts code stored h.1) (is_of name l)
  where
    by : either (label_of ls name) (λ x. x.offset) 0 ≤ part_len parts (either (label_of ls name) part_of 0) → (b : Bool)
        → either (cond b (Some l) (label_of ls name)) (λ x. x.offset) 0 ≤ part_len parts (either (cond b (Some l) (label_of ls name)) part_of 0)
    by more true = part_room at parts l.offset l.in_data code stored h.0
    by more false = more

one_symbol : (labels : List Label) (at : Cursor) (parts : Parts) (seen : List Symbol) (s : Symbol) → parts.legacy ≡ true → parts.code ≡ at.code → parts.stored ≡ at.stored → AreInside at labels → IsPlain labels s
    → list_any (is_named s.name) seen ≡ false → IsSymbol parts seen s
one_symbol labels at parts seen s legacy code stored inside p new =
    let name = some_name s.name p.name in
    record {
      part = (let e = p.part in let low = low_part (label_of labels s.name) in omega (arith, e, low));
      offset = (let room = label_inside at s.name labels parts code stored inside in
          subst (λ (n : ℕ). n ≤ part_len parts s.part) (sym p.offset) (subst (λ (q : ℕ). either (label_of labels s.name) (λ l. l.offset) 0 ≤ part_len parts q) (sym p.part) room));
      named = name.0;
      short_name = name.1.0;
      name = free_name seen s.name name.1.1 new;
      signed = subst (λ (b : Bool). least_sig b ≤ length s.sig) (sym legacy) (omega arith);
      short_sig = (let short = p.short in omega (arith, short));
      sig = p.sig;
    }

symbols_in_turn : (labels : List Label) (at : Cursor) (parts : Parts) (seen ss : List Symbol) → parts.legacy ≡ true → parts.code ≡ at.code → parts.stored ≡ at.stored → AreInside at labels → ArePlain labels ss
    → AreFresh seen ss → InTurn (IsSymbol parts) after_symbol seen ss
symbols_in_turn labels at parts seen [] legacy code stored inside plain fresh = tt
symbols_in_turn labels at parts seen (s ∷ ss) legacy code stored inside plain fresh =
    (one_symbol labels at parts seen s legacy code stored inside plain.0 fresh.0, symbols_in_turn labels at parts (seen ++ s ∷ []) ss legacy code stored inside plain.1 fresh.1)

chain_at : (place n : ℕ) (from to : ℕ) (fs : List Fix) → from ≡ to → Chain place 0 n from fs → Chain place 0 n to fs
chain_at place n from to fs e h = subst (λ (m : ℕ). Chain place 0 n m fs) e h

object_formed : (labels : List Label) (at : Cursor) (d : Draft) → IsFormed labels at d → AreInside at labels → length (labelled labels) ≤ d.labels → IsObject (object_of d)
unfolding part_len
object_formed labels at d f inside counted = record {
  file = IsUtf8-nil;
  short_file = omega arith;
  few_code = (let e = f.code in let few = f.within.code in omega (arith, e, few));
  few_stored = (let e = f.stored in let few = f.within.stored in omega (arith, e, few));
  few_symbols = (let few = f.within.symbols in omega (arith, few, counted));
  symbols = symbols_in_turn labels at (parts_of (object_of d)) [] d.symbols refl f.code f.stored inside f.plain f.fresh;
  few_fixes = (let few = f.within.fixes in simp length-append (omega (arith, few)));
  fixes = fixes_in_turn (parts_of (object_of d)) (length d.symbols) d.code_fixes d.stored_fixes (chain_at 1 (length d.symbols) at.code (length d.code) d.code_fixes (sym f.code) f.code_fixes)
      (chain_at 2 (length d.symbols) at.stored (length d.stored) d.stored_fixes (sym f.stored) f.stored_fixes);
  few_places = omega arith;
  places = tt;
}

-- ---- texts

formed_start : (labels : List Label) → AreDistinct labels → AreNamed labels → IsFormed labels start (nothing labels)
formed_start labels distinct n = record {
  within = within_start labels start refl refl;
  code = refl;
  stored = refl;
  plain = labels_plain labels distinct n;
  fresh = n.fresh;
  code_fixes = omega arith;
  stored_fixes = omega arith;
}

-- the draft of all lines of a text
pub text_formed : (text : List ℕ) (d : Draft) → length text ≤ most_text
    → drafted (labels_of (placed start (texts_of text))) (nothing (labels_of (placed start (texts_of text)))) (placed start (texts_of text)) ≡ Ok d → IsObject (object_of d)
text_formed text d few e =
    let lines = placed start (texts_of text) in
    let labels = labels_of lines in
    let sound = text_sound text few in
    let distinct = labels_distinct lines in
    let f = formed_lines labels (texts_of text) start (nothing labels) d distinct sound (formed_start labels distinct (labels_named lines sound)) e in
    let counted = counted_lines labels (texts_of text) start [] (nothing labels) d e in
    object_formed labels (end_at start (texts_of text)) d f (inside_lines (texts_of text) start [] tt) (omega (arith, counted))

-- ---- texts of symbols

written_from : (parts : Parts) (seen ss : List Symbol) → part_len parts 1 ≤ 16_777_216 → part_len parts 2 ≤ 16_777_216 → InTurn (IsSymbol parts) after_symbol seen ss → AreWritten ss
unfolding part_len
written_from parts seen [] code stored h = tt
written_from parts seen (s ∷ ss) code stored h =
    ((room s.part h.0.offset, (free_names_are_text seen s.name h.0.name, signatures_are_text s.part s.sig h.0.sig)), written_from parts (after_symbol seen s) ss code stored h.1)
  where
    room : (part : ℕ) → s.offset ≤ part_len parts part → s.offset < 4_294_967_296
    room part h = by (nat_eq part 1) (nat_eq part 2) h
      where
        by : (a b : Bool) → s.offset ≤ cond a parts.code (cond b parts.stored 0) → s.offset < 4_294_967_296
        by true b h = omega (arith, h, code)
        by false true h = omega (arith, h, stored)
        by false false h = omega (arith, h)

-- the symbols of a formed object can be written
pub symbols_written : (d : Draft) → IsObject (object_of d) → AreWritten d.symbols
unfolding part_len
symbols_written d o = written_from (parts_of (object_of d)) [] d.symbols (let few = o.few_code in omega (arith, few)) (let few = o.few_stored in omega (arith, few)) o.symbols

-- the object of a text is formed
pub assembled_formed : (text : List ℕ) (o : Object) → length text ≤ most_text → assembled text ≡ Ok o → IsObject o
unfolding assembled
assembled_formed text o few e = by (drafted labels (nothing labels) lines) refl e
  where
    lines : List Placed
    lines = placed start (texts_of text)

    labels : List Label
    labels = labels_of lines

    by : (r : Answer) → drafted labels (nothing labels) lines ≡ r → object_from r ≡ Ok o → IsObject o
    by (Ok d) h e = (let same : object_of d ≡ o = cc in subst IsObject same (text_formed text d few h))
    by (Err x) h e = absurd cc

-- ---- what is told

pub refuses_object : (e : AsmFault) (text : List ℕ) → Refuses e (drafted_text text) → Refuses e (assembled text)
unfolding assembled
refuses_object OutOfMemory text h = tt
refuses_object (AtLine line kind) text h = ap object_from h

pub gives_object : (text : List ℕ) (d : Draft) (o : Object) → drafted_text text ≡ Ok d → o ≡ object_of d → assembled text ≡ Ok o
unfolding assembled
gives_object text d o e is = ap object_from e ∙ ap (λ (x : Object). Ok x) (sym is)
