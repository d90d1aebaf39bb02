-- What an accepted line leaves.
use Rattle.std.proofs.Common.{◌≡◌, refl, sym, ap, ◌∙◌, ℕ, ◌+◌, ◌-◌, ◌≤◌, Bool, true, false, true≢false, cond, is_some, not, Option, None, Some, List, [], ◌∷◌, ◌++◌, length, arith}
use Rattle.std.specs.Prelude.{◌&&◌, ◌||◌, map, filter, is_none, nat_eq, nat_lt, nat_le, slice_index, drop, Result, Ok, Err}
use Rattle.std.specs.List.{list_any, find}
use Rattle.std.proofs.lemmas.Bool.{and_parts, ltb-false}
use Rattle.std.proofs.lemmas.Bool.Decides.{nat_tests}
use Rattle.std.proofs.lemmas.List.{length-append}
use Rattle.obj_file.specs.Names.{begins_name, is_c_name}
use Rattle.obj_file.specs.declared.object.Symbol.{Symbol}
use Rattle.obj_file.specs.declared.object.Fix.{Fix}
use Rattle.asm_text.specs.declared.fault.AsmKind.{AsmKind}
use Rattle.asm_text.specs.declared.fault.AsmKind.TheVariants as fault
use Rattle.asm_text.specs.declared.fault.AsmFault.{AsmFault}
use Rattle.asm_text.specs.declared.fault.AsmFault.TheVariants.{Line as AtLine, OutOfMemory}
use Rattle.asm_text.specs.declared.parts.Kind.{Kind}
use Rattle.asm_text.specs.declared.parts.Kind.TheVariants as k
use Rattle.asm_text.specs.declared.parts.Cursor.{Cursor}
use Rattle.asm_text.specs.Lexical.{either, is_name, is_local}
use Rattle.asm_text.specs.Lines.{Line}
use Rattle.asm_text.specs.Assembly.{Label, Placed, Draft, after, is_of, is_before, label_of, earlier_label, is_symbol, symbol_of, labelled, nothing, is_named, number_from, uses, import, symbols_after, labels_after, fix_of, with_line, is_shapeless, unsuited, is_outside, is_far, passes, again, lacks, fault_of, drafted}
use Rattle.assembler.specs.Sound.{IsSound, IsSoundKind}
use Rattle.assembler.specs.Held.{MaySign}
use Rattle.assembler.specs.Good.{HasSymbols, IsWithin, added}
use Rattle.assembler.specs.Told.{Refuses}
use Rattle.assembler.proofs.NamedLemmas.{same_bytes, number_signed, number_front}

-- ---- what no test refused

pub record IsAccepted (labels : List Label) (d : Draft) (p : Placed) : Type 0 where
  pub suited : unsuited labels p p.line.kind ≡ false
  pub near : is_far labels p p.line.kind ≡ false
  pub within : passes (length (labelled labels)) d p p.line.kind ≡ false
  pub new : again labels d p p.line.kind ≡ false
  pub there : lacks labels p p.line.kind ≡ false

or_false : (a b : Bool) → (a || b) ≡ false → (a ≡ false) × (b ≡ false)
or_false true b e = absurd (true≢false e)
or_false false b e = (refl, e)

all_false : (a b c d : Bool) → cond a (Some fault.Shape) (cond b (Some fault.Range) (cond c (Some fault.Twice) (cond d (Some fault.NoLocal) None))) ≡ None
    → (a ≡ false) × (b ≡ false) × (c ≡ false) × (d ≡ false)
all_false true b c d e = absurd cc
all_false false true c d e = absurd cc
all_false false false true d e = absurd cc
all_false false false false true e = absurd cc
all_false false false false false e = (refl, refl, refl, refl)

pub accepted : (labels : List Label) (d : Draft) (p : Placed) → fault_of labels (length (labelled labels)) d p p.line.kind ≡ None → IsAccepted labels d p
unfolding fault_of
accepted labels d p none =
    let x = p.line.kind in
    let n = length (labelled labels) in
    let t = all_false (is_shapeless x || unsuited labels p x) (is_outside x || is_far labels p x || passes n d p x) (again labels d p x) (lacks labels p x) none in
    let first = or_false (is_shapeless x) (unsuited labels p x) t.0 in
    let second = or_false (is_outside x || is_far labels p x) (passes n d p x) t.1 in
    record { suited = first.1; near = (or_false (is_outside x) (is_far labels p x) second.0).1; within = second.1; new = t.2; there = t.3 }

-- ---- names of symbols stay

number_stays : (name : List ℕ) (ss more : List Symbol) → is_some (number_from name 0 ss) ≡ true → is_some (number_from name 0 (ss ++ more)) ≡ true
number_stays name ss more h = by (number_from name 0 (ss ++ more)) refl
  where
    by : (o : Option ℕ) → number_from name 0 (ss ++ more) ≡ o → is_some o ≡ true
    by (Some n) e = refl
    by None e = absurd (true≢false (sym h ∙ ap is_some (number_front name 0 ss more e)))

pub number_kept : (d : Draft) (l : Line) (x : Kind) (name : List ℕ) → is_some (number_from name 0 d.symbols) ≡ true → is_some (number_from name 0 (symbols_after d l x)) ≡ true
unfolding symbols_after
number_kept d l k.Sig name h = ap is_some (number_signed name l.name l.text 0 d.symbols) ∙ h
number_kept d l x name h = by (uses l x) (list_any (is_named l.name) d.symbols)
  where
    by : (a b : Bool) → is_some (number_from name 0 (cond a (cond b d.symbols (d.symbols ++ import l.name ∷ [])) d.symbols)) ≡ true
    by true true = h
    by true false = number_stays name d.symbols (import l.name ∷ []) h
    by false b = h

-- ---- the limits

room_of_fixes : (in_data : Bool) (a b c : List Fix) (n : ℕ) → length a + length b + length c ≤ n → length (cond in_data a (a ++ c)) + length (cond in_data (b ++ c) b) ≤ n
room_of_fixes true a b c n h = simp length-append (omega (arith, h))
room_of_fixes false a b c n h = simp length-append (omega (arith, h))

pub within_after : (labels : List Label) (d : Draft) (p : Placed) → IsWithin labels p.at d → IsAccepted labels d p → IsWithin labels (after p.at p.line.kind) (with_line labels d p)
unfolding with_line passes
within_after labels d p w a =
    let x = p.line.kind in
    let n = length (labelled labels) in
    let to = after p.at x in
    let symbols = labels_after d p.line x + (length (symbols_after d p.line x) - n) in
    let fixes = length d.code_fixes + length d.stored_fixes + length (fix_of d p x) in
    let t = or_false (nat_lt 16_777_216 to.code || nat_lt 16_777_216 to.stored || nat_lt 65_536 symbols) (nat_lt 1_048_576 fixes) a.within in
    let u = or_false (nat_lt 16_777_216 to.code || nat_lt 16_777_216 to.stored) (nat_lt 65_536 symbols) t.0 in
    let v = or_false (nat_lt 16_777_216 to.code) (nat_lt 16_777_216 to.stored) u.0 in
    record {
      code = ltb-false 16_777_216 to.code v.0;
      stored = ltb-false 16_777_216 to.stored v.1;
      symbols = ltb-false 65_536 symbols u.1;
      fixes = room_of_fixes p.at.in_data d.code_fixes d.stored_fixes (fix_of d p x) 1_048_576 (ltb-false 1_048_576 fixes t.1);
      present = λ name some other. number_kept d p.line x name (w.present name some other);
    }

-- ---- signatures

begins_no_dot : (b : ℕ) → begins_name b ≡ true → nat_eq b 46 ≡ false
begins_no_dot b e = grind (arith, nat_tests)

pub name_not_local : (name : List ℕ) → is_name name ≡ true → is_local name ≡ false
unfolding is_name is_local is_c_name
name_not_local name e =
    let c = (and_parts (is_c_name name) _ (and_parts _ _ e).0).0 in
    let no_dot = begins_no_dot (slice_index name 0) (and_parts (begins_name (slice_index name 0)) _ c).0 in
    ap (λ b. b && nat_eq (slice_index name 1) 76 && is_c_name (drop 1 name) && nat_le (length name) 63) no_dot

both_some : (name : List ℕ) (q : Label → Bool) (ls : List Label) → is_none (find (λ l. is_of name l && q l) ls) ≡ false → is_some (label_of ls name) ≡ true
both_some name q [] h = absurd (true≢false h)
both_some name q (l ∷ ls) h = by (both_some name q ls) (is_of name l) h
  where
    by : (is_none (find (λ x. is_of name x && q x) ls) ≡ false → is_some (label_of ls name) ≡ true) → (b : Bool) → is_none (cond (b && q l) (Some l) (find (λ x. is_of name x && q x) ls)) ≡ false → is_some (cond b (Some l) (find (is_of name) ls)) ≡ true
    by more true h = refl
    by more false h = more h

may_sign_kind : (labels : List Label) (symbols : List Symbol) (p : Placed) (x : Kind) → HasSymbols labels symbols → IsSoundKind p.at.in_data p.line x → lacks labels p x ≡ false → MaySign symbols p.line x
unfolding lacks earlier_label
may_sign_kind labels symbols p k.Sig has sound there = has p.line.name (both_some p.line.name (is_before p.at.line) labels there) (name_not_local p.line.name sound.0)
may_sign_kind labels symbols p x has sound there = tt

pub may_sign : (labels : List Label) (d : Draft) (p : Placed) → IsWithin labels p.at d → IsSound p.at.in_data p.line → IsAccepted labels d p → MaySign d.symbols p.line p.line.kind
unfolding IsSound
may_sign labels d p w sound a = may_sign_kind labels d.symbols p p.line.kind w.present sound a.there

-- ---- the first draft

present_from : (name : List ℕ) (n : ℕ) (ls : List Label) → is_some (label_of ls name) ≡ true → is_local name ≡ false → is_some (number_from name n (labelled ls)) ≡ true
present_from name n [] some other = absurd (true≢false (sym some))
present_from name n (l ∷ ls) some other = by (λ m h. present_from name m ls h other) (is_of name l) refl some
  where
    here : ((m : ℕ) → is_some (label_of ls name) ≡ true → is_some (number_from name m (labelled ls)) ≡ true) → (c : Bool) → is_of name l ≡ false → is_some (label_of ls name) ≡ true → is_some (number_from name n (map symbol_of (cond c (l ∷ filter is_symbol ls) (filter is_symbol ls)))) ≡ true
    here more true e some = ap (λ b. is_some (cond b (Some n) (number_from name (n + 1) (labelled ls)))) e ∙ more (n + 1) some
    here more false e some = more n some

    this : (c : Bool) → c ≡ true → is_of name l ≡ true → is_some (number_from name n (map symbol_of (cond c (l ∷ filter is_symbol ls) (filter is_symbol ls)))) ≡ true
    this true h e = ap (λ b. is_some (cond b (Some n) (number_from name (n + 1) (labelled ls)))) e
    this false h e = absurd (true≢false (sym h))

    by : ((m : ℕ) → is_some (label_of ls name) ≡ true → is_some (number_from name m (labelled ls)) ≡ true) → (b : Bool) → is_of name l ≡ b → is_some (cond b (Some l) (find (is_of name) ls)) ≡ true → is_some (number_from name n (labelled (l ∷ ls))) ≡ true
    by more true e some = this (is_symbol l) (ap (λ (m : List ℕ). not (is_local m)) (same_bytes l.name name e) ∙ ap not other) e
    by more false e some = here more (is_symbol l) e some

pub within_start : (labels : List Label) (at : Cursor) → at.code ≡ 0 → at.stored ≡ 0 → IsWithin labels at (nothing labels)
within_start labels at code stored = record {
  code = omega (arith, code);
  stored = omega (arith, stored);
  symbols = omega arith;
  fixes = omega arith;
  present = λ name some other. present_from name 0 labels some other;
}

-- ---- one line of many

abbrev Answer : Type 0
Answer = Result Draft (ℕ × AsmKind)

pub drafted_on : (labels : List Label) (d new : Draft) (p : Placed) (more : List Placed) → added labels d p ≡ Ok new → drafted labels d (p ∷ more) ≡ drafted labels new more
drafted_on labels d new p more e = by (fault_of labels (length (labelled labels)) d p p.line.kind) e
  where
    by : (o : Option AsmKind) → either {B = Answer} o (λ kind. Err (p.at.line, kind)) (Ok (with_line labels d p)) ≡ Ok new → either {B = Answer} o (λ kind. Err (p.at.line, kind)) (drafted labels (with_line labels d p) more) ≡ drafted labels new more
    by (Some kind) e = absurd cc
    by None e = (let same : with_line labels d p ≡ new = cc in ap (λ (x : Draft). drafted labels x more) same)

pub drafted_stops : (labels : List Label) (d : Draft) (p : Placed) (more : List Placed) (e : AsmFault) → Refuses e (added labels d p) → Refuses e (drafted labels d (p ∷ more))
drafted_stops labels d p more OutOfMemory r = tt
drafted_stops labels d p more (AtLine line kind) r = by (fault_of labels (length (labelled labels)) d p p.line.kind) r
  where
    by : (o : Option AsmKind) → either {B = Answer} o (λ kind. Err (p.at.line, kind)) (Ok (with_line labels d p)) ≡ Err (line, kind) → either {B = Answer} o (λ kind. Err (p.at.line, kind)) (drafted labels (with_line labels d p) more) ≡ Err (line, kind)
    by (Some other) r = cc
    by None r = absurd cc

-- what a function told of the line
pub accepted_by : (labels : List Label) (d : Draft) (p : Placed) (n : ℕ) (told : Option AsmKind) → n ≡ length (labelled labels) → told ≡ fault_of labels n d p p.line.kind → told ≡ None → IsAccepted labels d p
accepted_by labels d p n told count is none = accepted labels d p (ap (λ (m : ℕ). fault_of labels m d p p.line.kind) (sym count) ∙ (sym is ∙ none))
