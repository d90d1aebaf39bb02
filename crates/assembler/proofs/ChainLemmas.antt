-- Fix-ups of accepted lines: their fields follow each other within their part.
use Rattle.std.proofs.Common.{◌≡◌, refl, sym, ap, subst, ◌∙◌, ℕ, suc, ◌+◌, ◌≤◌, ◌<◌, ◌^◌, Bool, true, false, true≢false, cond, not, is_some, Option, None, Some, List, [], ◌∷◌, ◌++◌, length, inl, inr, arith, FitsSigned}
use Rattle.std.specs.Prelude.{nat_eq, nat_lt, ℤ, pos, negsuc}
use Rattle.std.specs.Int.{w64}
use Rattle.std.specs.List.{list_any}
use Rattle.std.proofs.lemmas.Bool.{and_parts, ltb-true, eqb-true}
use Rattle.std.proofs.lemmas.List.{length-append, length-map, append-nil}
use Rattle.x86_forms.specs.declared.instr.Instr.{Instr}
use Rattle.x86_forms.specs.declared.instr.Base.{Base}
use Rattle.x86_forms.specs.declared.instr.Base.TheVariants.{None as NoBase, Reg as BaseReg, Rip}
use Rattle.x86_forms.specs.declared.instr.Rm.TheVariants.{Reg as InReg, Mem as InMem}
use Rattle.x86_forms.specs.declared.layout.Operands.{Operands}
use Rattle.x86_forms.specs.declared.layout.Operands.TheVariants.{Bare, InOpcode, InModrm}
use Rattle.x86_forms.specs.Fits.{fits_64}
use Rattle.x86_forms.specs.Layout.{layout_of}
use Rattle.x86_forms.specs.Spelling.{spelling}
use Rattle.obj_file.specs.declared.object.Symbol.{Symbol}
use Rattle.obj_file.specs.declared.object.Fix.{Fix}
use Rattle.obj_file.specs.declared.parts.Parts.{Parts}
use Rattle.obj_file.specs.declared.parts.End.{End}
use Rattle.obj_file.specs.InTurn.{InTurn}
use Rattle.obj_file.specs.Object.{part_len, fix_size, fix_end, free_from, no_fix, IsFix}
use Rattle.asm_text.specs.declared.parts.Kind.{Kind}
use Rattle.asm_text.specs.declared.parts.Kind.TheVariants as k
use Rattle.asm_text.specs.Lexical.{either, is_local}
use Rattle.asm_text.specs.Lines.{Line, behind_field}
use Rattle.asm_text.specs.Assembly.{Placed, Draft, size_of, form_over, form_of, field_at, number_from, number_of, is_named, import, with_use, uses, fix_of, symbols_after, signed}
use Rattle.assembler.specs.Sound.{HasField, NamesField, IsSoundKind}
use Rattle.assembler.proofs.NamedLemmas.{any_numbered}

-- a field of a part, from an offset on, for one of n symbols
pub record IsLink (place from n : ℕ) (f : Fix) : Type 0 where
  pub part : f.part ≡ place
  pub after : from ≤ f.offset
  pub form : f.form ≤ 2
  pub symbol : f.symbol < n
  pub addend : fits_64 f.addend ≡ true

-- fields of a part that follow each other, between two offsets
abbrev pub Chain : (part from n to : ℕ) → List Fix → Type 0
Chain part from n to [] = from ≤ to
Chain part from n to (f ∷ fs) = IsLink part from n f × Chain part (f.offset + fix_size f.form) n to fs

-- later ends and more symbols
pub chain_wider : (part from n m to end : ℕ) (fs : List Fix) → n ≤ m → to ≤ end → Chain part from n to fs → Chain part from m end fs
chain_wider part from n m to end [] few on h = omega (arith, on, h)
chain_wider part from n m to end (f ∷ fs) few on h =
    (record { part = h.0.part; after = h.0.after; form = h.0.form; symbol = (let s = h.0.symbol in omega (arith, s, few)); addend = h.0.addend }, chain_wider part (f.offset + fix_size f.form) n m to end fs few on h.1)

pub chain_last : (part from n to end : ℕ) (fs : List Fix) (f : Fix) → Chain part from n to fs → IsLink part to n f → f.offset + fix_size f.form ≤ end → Chain part from n end (fs ++ f ∷ [])
chain_last part from n to end [] f h link on = (record { part = link.part; after = (let a = link.after in omega (arith, a, h)); form = link.form; symbol = link.symbol; addend = link.addend }, on)
chain_last part from n to end (x ∷ fs) f h link on = (h.0, chain_last part (x.offset + fix_size x.form) n to end fs f h.1 link on)

chain_le : (part from n to : ℕ) (fs : List Fix) → Chain part from n to fs → from ≤ to
chain_le part from n to [] h = h
chain_le part from n to (f ∷ fs) h = (let a = h.0.after in omega (arith, a, chain_le part (f.offset + fix_size f.form) n to fs h.1))

-- ---- fix-ups of objects

signed_word : (z : ℤ) → fits_64 z ≡ true → FitsSigned w64 z
signed_word (pos n) e = record { sfits = ltb-true n (2 ^ 63) e }
signed_word (negsuc n) e = record { sfits = ltb-true n (2 ^ 63) e }

fix_of_link : (parts : Parts) (part from n : ℕ) (before : End) (f : Fix) → IsLink part from n f → part ≤ 2 → before.part ≤ part → free_from before part ≤ from
    → f.offset + fix_size f.form ≤ part_len parts part → IsFix parts n before f
fix_of_link parts part from n before f link low order free room = record {
  from_part = (let e = link.part in omega (arith, e, order));
  part = (let e = link.part in omega (arith, e, low));
  after = subst (λ (q : ℕ). free_from before q ≤ f.offset) (sym link.part) (let a = link.after in omega (arith, a, free));
  form = link.form;
  within = subst (λ (q : ℕ). f.offset + fix_size f.form ≤ part_len parts q) (sym link.part) room;
  symbol = link.symbol;
  addend = signed_word f.addend link.addend;
}

free_behind : (before : End) (f : Fix) (part : ℕ) → free_from (fix_end before f) part ≤ f.offset + fix_size f.form
free_behind before f part = by (nat_eq part f.part)
  where
    by : (b : Bool) → cond b (f.offset + fix_size f.form) 0 ≤ f.offset + fix_size f.form
    by true = omega arith
    by false = omega arith

in_turn : (parts : Parts) (n part : ℕ) (rest : List Fix) → part ≤ 2 → ((before : End) → before.part ≤ part → InTurn (IsFix parts n) fix_end before rest)
    → (before : End) (from : ℕ) (fs : List Fix) → before.part ≤ part → free_from before part ≤ from → Chain part from n (part_len parts part) fs → InTurn (IsFix parts n) fix_end before (fs ++ rest)
in_turn parts n part rest low more before from [] order free h = more before order
in_turn parts n part rest low more before from (f ∷ fs) order free h = (
  fix_of_link parts part from n before f h.0 low order free (chain_le part (f.offset + fix_size f.form) n (part_len parts part) fs h.1),
  in_turn parts n part rest low more (fix_end before f) (f.offset + fix_size f.form) fs (let e = h.0.part in omega (arith, e)) (free_behind before f part) h.1,
)

first_of_data : (before : End) → before.part ≤ 1 → free_from before 2 ≤ 0
first_of_data before low = by (nat_eq 2 before.part) refl
  where
    by : (b : Bool) → nat_eq 2 before.part ≡ b → cond b before.at 0 ≤ 0
    by true e = (let same = eqb-true 2 before.part e in omega (arith, same, low))
    by false e = omega arith

-- the fix-ups of code and of data make those of an object
pub fixes_in_turn : (parts : Parts) (n : ℕ) (code stored : List Fix) → Chain 1 0 n (part_len parts 1) code → Chain 2 0 n (part_len parts 2) stored → InTurn (IsFix parts n) fix_end no_fix (code ++ stored)
fixes_in_turn parts n code stored in_code in_stored =
    in_turn parts n 1 stored (omega arith)
    (λ before low. subst (λ (l : List Fix). InTurn (IsFix parts n) fix_end before l) (append-nil stored)
    (in_turn parts n 2 [] (omega arith) (λ other _. tt) before 0 stored (omega (arith, low)) (first_of_data before low) in_stored))
    no_fix 0 code (omega arith) (omega arith) in_code

-- ---- one line more

form_low : (ops : Operands) → (form_of ops ≤ 2) × (fix_size (form_of ops) ≡ 4)
form_low Bare = (omega arith, refl)
form_low (InOpcode r) = (omega arith, refl)
form_low (InModrm reg low (InReg r) low_rm) = (omega arith, refl)
form_low (InModrm reg low (InMem m) low_rm) = by m.base
  where
    by : (b : Base) → (form_over b ≤ 2) × (fix_size (form_over b) ≡ 4)
    by NoBase = (omega arith, refl)
    by (BaseReg r) = (omega arith, refl)
    by Rip = (omega arith, refl)

below : (name : List ℕ) (n k : ℕ) (ss : List Symbol) → number_from name n ss ≡ Some k → k < n + length ss
below name n k [] e = absurd cc
below name n k (s ∷ ss) e = by (below name (n + 1) k ss) (is_named name s) e
  where
    by : (number_from name (n + 1) ss ≡ Some k → k < n + 1 + length ss) → (b : Bool) → cond b (Some n) (number_from name (n + 1) ss) ≡ Some k → k < n + suc (length ss)
    by more true e = (let same : n ≡ k = cc in omega (arith, same))
    by more false e = (let less = more e in omega (arith, less))

-- the number of a name that is used
pub used_number : (name : List ℕ) (ss : List Symbol) → number_of ss name < length (with_use ss name)
used_number name ss = by (number_from name 0 ss) (list_any (is_named name) ss) refl (any_numbered name 0 ss)
  where
    by : (o : Option ℕ) (b : Bool) → number_from name 0 ss ≡ o → b ≡ is_some (number_from name 0 ss) → either o (λ n. n) (length ss) < length (cond b ss (ss ++ import name ∷ []))
    by (Some k) true e h = omega (arith, below name 0 k ss e)
    by (Some k) false e h = absurd (true≢false (sym (h ∙ ap is_some e)))
    by None true e h = absurd (true≢false (h ∙ ap is_some e))
    by None false e h = simp length-append (omega arith)

-- symbols are never fewer
pub symbols_grow : (d : Draft) (l : Line) (x : Kind) → length d.symbols ≤ length (symbols_after d l x)
unfolding symbols_after
symbols_grow d l k.Sig = omega (arith, length-map d.symbols (signed l.name l.text))
symbols_grow d l x = by (uses l x) (list_any (is_named l.name) d.symbols)
  where
    by : (a b : Bool) → length d.symbols ≤ length (cond a (cond b d.symbols (d.symbols ++ import l.name ∷ [])) d.symbols)
    by true true = omega arith
    by true false = simp length-append (omega arith)
    by false b = omega arith

used_field : (l : Line) (i : Instr) → uses l (k.Code i) ≡ true → NamesField l.name i → HasField i
unfolding uses
used_field l i e (inl none) = absurd (let some = ltb-true 0 (length l.name) (and_parts (nat_lt 0 (length l.name)) (not (is_local l.name)) e).0 in omega (arith, some, none))
used_field l i e (inr h) = h.1

use_grows : (ss : List Symbol) (name : List ℕ) → length ss ≤ length (with_use ss name)
use_grows ss name = by (list_any (is_named name) ss)
  where
    by : (b : Bool) → length ss ≤ length (cond b ss (ss ++ import name ∷ []))
    by true = omega arith
    by false = simp length-append (omega arith)

nothing_more : (part : ℕ) (fs : List Fix) (n m to end : ℕ) → n ≤ m → to ≤ end → Chain part 0 n to fs → Chain part 0 m end (fs ++ [])
nothing_more part fs n m to end few on h = subst (λ (l : List Fix). Chain part 0 m end l) (sym (append-nil fs)) (chain_wider part 0 n m to end fs few on h)

abbrev code_link : Draft → Placed → Instr → Fix
code_link d p i = record { part = 1; offset = p.at.code + field_at (spelling i) (behind_field (layout_of i)); form = form_of (layout_of i).operands; symbol = number_of d.symbols p.line.name; addend = p.line.addend }

one_code : (d : Draft) (p : Placed) (i : Instr) (b : Bool) → (b ≡ true → HasField i) → fits_64 p.line.addend ≡ true → Chain 1 0 (length d.symbols) p.at.code d.code_fixes
    → Chain 1 0 (length (cond b (with_use d.symbols p.line.name) d.symbols)) (p.at.code + length (spelling i)) (d.code_fixes ++ cond b (code_link d p i ∷ []) [])
one_code d p i true field addend h =
    let has = field refl in
    let form = form_low (layout_of i).operands in
    let n = length (with_use d.symbols p.line.name) in
    chain_last 1 0 n p.at.code (p.at.code + length (spelling i)) d.code_fixes (code_link d p i)
    (chain_wider 1 0 (length d.symbols) n p.at.code p.at.code d.code_fixes (use_grows d.symbols p.line.name) (omega arith) h)
    (record { part = refl; after = omega arith; form = form.0; symbol = used_number p.line.name d.symbols; addend = addend }) (omega (arith, has, form.1))
one_code d p i false field addend h = nothing_more 1 d.code_fixes (length d.symbols) (length d.symbols) p.at.code (p.at.code + length (spelling i)) (omega arith) (omega arith) h

pub code_chain : (d : Draft) (p : Placed) (x : Kind) → IsSoundKind false p.line x → Chain 1 0 (length d.symbols) p.at.code d.code_fixes
    → Chain 1 0 (length (symbols_after d p.line x)) (p.at.code + size_of p.at x) (d.code_fixes ++ fix_of d p x)
unfolding fix_of size_of symbols_after
code_chain d p (k.Code i) sound h = one_code d p i (uses p.line (k.Code i)) (λ e. used_field p.line i e sound.1.1.0) sound.1.1.1 h
code_chain d p k.Address sound h = absurd (true≢false (sym sound.0))
code_chain d p x sound h = nothing_more 1 d.code_fixes (length d.symbols) (length (symbols_after d p.line x)) p.at.code (p.at.code + size_of p.at x) (symbols_grow d p.line x) (omega arith) h

abbrev stored_link : Draft → Placed → Fix
stored_link d p = record { part = 2; offset = p.at.stored; form = 0; symbol = number_of d.symbols p.line.name; addend = p.line.addend }

one_stored : (d : Draft) (p : Placed) → fits_64 p.line.addend ≡ true → Chain 2 0 (length d.symbols) p.at.stored d.stored_fixes
    → Chain 2 0 (length (with_use d.symbols p.line.name)) (p.at.stored + 8) (d.stored_fixes ++ stored_link d p ∷ [])
one_stored d p addend h =
    let n = length (with_use d.symbols p.line.name) in
    chain_last 2 0 n p.at.stored (p.at.stored + 8) d.stored_fixes (stored_link d p)
    (chain_wider 2 0 (length d.symbols) n p.at.stored p.at.stored d.stored_fixes (use_grows d.symbols p.line.name) (omega arith) h)
    (record { part = refl; after = omega arith; form = omega arith; symbol = used_number p.line.name d.symbols; addend = addend }) (omega arith)

pub stored_chain : (d : Draft) (p : Placed) (x : Kind) → IsSoundKind true p.line x → Chain 2 0 (length d.symbols) p.at.stored d.stored_fixes
    → Chain 2 0 (length (symbols_after d p.line x)) (p.at.stored + size_of p.at x) (d.stored_fixes ++ fix_of d p x)
unfolding fix_of size_of symbols_after uses
stored_chain d p (k.Code i) sound h = absurd (true≢false sound.0)
stored_chain d p k.Address sound h = one_stored d p sound.1.1 h
stored_chain d p x sound h = nothing_more 2 d.stored_fixes (length d.symbols) (length (symbols_after d p.line x)) p.at.stored (p.at.stored + size_of p.at x) (symbols_grow d p.line x) (omega arith) h
