-- Listings are read back.
use Rattle.std.proofs.Common.{◌≡◌, ℕ, zero, suc, ◌+◌, ◌<◌, ◌≤◌, Bool, true, false, true≢false, cond, not, List, [], ◌∷◌, ◌++◌, length, take, drop, Some, None, Ok, Err, refl, sym, ap, subst, ◌∙◌, arith, nat_eq, nat_lt, append_assoc}
use Rattle.std.specs.Prelude.{◌||◌, codes, fold, map, slice_index, ℤ, pos}
use Rattle.std.specs.List.{All, list_all, onto_first}
use Rattle.std.proofs.lemmas.Bool.{and_parts}
use Rattle.std.proofs.lemmas.Bool.Decides.{nat_tests}
use Rattle.std.proofs.lemmas.List.{length-append, take-append-drop}
use Rattle.x86_forms.specs.declared.instr.Instr.{Instr}
use Rattle.x86_forms.specs.Spelling.{spelling}
use Rattle.disasm.specs.Written.{text_of, written_of}
use Rattle.disasm.specs.Listing.{LineOf, Instruction, Byte, Lists, Empty, Line as OneLine, byte_text}
use Rattle.asm_text.specs.declared.fault.AsmKind.TheVariants as fault
use Rattle.asm_text.specs.declared.parts.Cursor.{Cursor}
use Rattle.asm_text.specs.declared.parts.Kind.TheVariants as k
use Rattle.asm_text.specs.Cuts.{is}
use Rattle.asm_text.specs.Lexical.{either, ended, skip, is_local}
use Rattle.asm_text.specs.Lines.{Line, line, parts_of, parsed, line_of}
use Rattle.asm_text.specs.Assembly.{texts_of, size_of, after, Placed, placed, Label, with_label, byte_of, code_of, bytes_of, Draft, uses, fix_of, symbols_after, with_line, unsuited, is_far, passes, again, lacks, fault_of, nothing, drafted, object_from, assembled}
use Rattle.listing_laws.specs.Read.{IsCode, code_object}
use Rattle.listing_laws.proofs.Texts.{is_line_byte}
use Rattle.listing_laws.proofs.Lines.{form_read, form_quiet}
use Rattle.listing_laws.proofs.Forms.{form}
use Rattle.listing_laws.proofs.Bytes.{byte_rest, byte_value, byte_quiet, byte_is}

-- ---- lines and what they add

-- the line adds these bytes to code, and nothing else to an object
data Adds : Line → List ℕ → Type 0 where
  OfCode : (i : Instr) (z : ℤ) (text : List ℕ) → Adds (record { kind = k.Code i; name = []; addend = z; text = text }) (spelling i)
  OfBytes : (text bytes : List ℕ) → map byte_of (parts_of text) ≡ bytes → Adds (record { kind = k.Bytes (length bytes); name = []; addend = pos 0; text = text }) bytes

code_adds : (i : Instr) (l : Line) → IsCode i l → Adds l (spelling i)
code_adds i l c = subst (λ (l : Line). Adds l (spelling i)) same (OfCode i l.addend l.text)
  where
    same : record { kind = k.Code i; name = []; addend = l.addend; text = l.text } ≡ l
    same = λ j. record { kind = sym c.kind j; name = sym c.name j; addend = l.addend; text = l.text }

-- a line of a listing: no mark ends it early, and it adds the bytes at the front
record IsPiece (line bytes : List ℕ) : Type 0 where
  quiet : list_all is_line_byte line ≡ true
  adds : Adds (line_of false line) bytes

first_byte : (code : List ℕ) → 0 < length code → take 1 code ≡ slice_index code 0 ∷ []
first_byte [] h = absurd (omega arith)
first_byte (b ∷ code) h = refl

piece : (code line : List ℕ) (n : ℕ) → All (λ b. b < 256) code → LineOf code line n → IsPiece line (take n code)
piece code line n all (Instruction i h e) =
    let f = form i h.spells.valid in
    let adds : Adds (line_of false (text_of i)) (take n code) = subst (λ (bs : List ℕ). Adds (line_of false (text_of i)) bs) (sym h.spells.bytes) (code_adds i (line_of false (text_of i)) (form_read i (written_of i) h.spells.valid f)) in
    subst (λ (t : List ℕ). IsPiece t (take n code)) (sym e) (record { quiet = form_quiet i (written_of i) f; adds = adds })
piece code line n all (Byte some none e one) =
    let b = slice_index code 0 in
    let small : b < 256 = all 0 0 some in
    let adds : Adds (line_of false (byte_text b)) (b ∷ []) = subst (λ (l : Line). Adds l (b ∷ [])) (sym (byte_is b small)) (OfBytes (byte_rest b) (b ∷ []) (byte_value b small)) in
    let bytes : b ∷ [] ≡ take n code = sym (first_byte code some) ∙ ap (λ k. take k code) (sym one) in
    subst (λ (t : List ℕ). IsPiece t (take n code)) (sym e) (record { quiet = byte_quiet b small; adds = subst (λ (bs : List ℕ). Adds (line_of false (byte_text b)) bs) bytes adds })

-- ---- one line

-- behind so many bytes and lines, in code
abbrev cursor : ℕ → ℕ → Cursor
cursor n m = record { in_data = false; code = n; stored = 0; line = m }

-- code alone
abbrev draft_of : List ℕ → Draft
draft_of code = record { code = code; stored = []; labels = 0; symbols = []; code_fixes = []; stored_fixes = [] }

abbrev here : ℕ → ℕ → Line → Placed
here n m l = record { at = cursor n m; line = l }

-- what follows of a line
record Goes (l : Line) (bytes : List ℕ) : Type 0 where
  label : (n m : ℕ) (ls : List Label) → with_label ls (here n m l) ≡ ls
  accepted : (n m : ℕ) (xs : List ℕ) → n + length bytes ≤ 16_777_216 → fault_of [] 0 (draft_of xs) (here n m l) l.kind ≡ None
  draft : (n m : ℕ) (xs : List ℕ) → with_line [] (draft_of xs) (here n m l) ≡ draft_of (xs ++ bytes)
  behind : (n m : ℕ) → after (cursor n m) l.kind ≡ cursor (n + length bytes) (m + 1)

fits : (n : ℕ) → n ≤ 16_777_216 → nat_lt 16_777_216 n ≡ false
fits n h = grind (arith, nat_tests)

goes : (l : Line) (bytes : List ℕ) → Adds l bytes → Goes l bytes
unfolding fault_of unsuited is_far passes again lacks after size_of with_line bytes_of code_of fix_of symbols_after uses is_local
goes _ _ (OfCode i z text) = record {
  label = λ n m ls. refl;
  accepted = λ n m xs h. ap (λ b. cond (b || false || false || false) (Some fault.Range) None) (fits (n + length (spelling i)) h);
  draft = λ n m xs. refl;
  behind = λ n m. refl;
}
goes _ _ (OfBytes text bytes e) = record {
  label = λ n m ls. refl;
  accepted = λ n m xs h. ap (λ b. cond (b || false || false || false) (Some fault.Range) None) (fits (n + length bytes) h);
  draft = λ n m xs. ap (λ (bs : List ℕ). draft_of (xs ++ bs)) e;
  behind = λ n m. refl;
}

-- ---- all lines

cut_line : (line rest : List ℕ) → list_all is_line_byte line ≡ true → texts_of (line ++ 10 ∷ rest) ≡ line ∷ texts_of rest
cut_line [] rest q = refl
cut_line (b ∷ line) rest q =
    let p = and_parts (is_line_byte b) (list_all is_line_byte line) q in
    by (is 10 b) (and_parts (not (nat_eq b 59)) (not (nat_eq b 10)) p.0).1 (cut_line line rest p.1)
  where
    by : (x : Bool) → not x ≡ true → texts_of (line ++ 10 ∷ rest) ≡ line ∷ texts_of rest
        → cond x ([] ∷ texts_of (line ++ 10 ∷ rest)) (onto_first b (texts_of (line ++ 10 ∷ rest))) ≡ (b ∷ line) ∷ texts_of rest
    by true other e = absurd (true≢false (sym other))
    by false other e = ap (onto_first b) e

all_dropped : (n : ℕ) (code : List ℕ) → All (λ b. b < 256) code → All (λ b. b < 256) (drop n code)
all_dropped zero code all = all
all_dropped (suc n) [] all = all
all_dropped (suc n) (b ∷ code) all = all_dropped n code (λ k d l. all (suc k) d (omega arith))

-- what follows of the lines of a text, behind so many bytes and lines
record Reads (code text : List ℕ) : Type 0 where
  labels : (n m : ℕ) (ls : List Label) → fold with_label ls (placed (cursor n m) (texts_of text)) ≡ ls
  draft : (n m : ℕ) (xs : List ℕ) → n + length code ≤ 16_777_216 → drafted [] (draft_of xs) (placed (cursor n m) (texts_of text)) ≡ Ok (draft_of (xs ++ code))

none_read : Reads [] []
unfolding line_of parsed ended skip fault_of unsuited is_far passes again lacks after size_of with_line bytes_of fix_of symbols_after uses
none_read = record {
  labels = λ n m ls. refl;
  draft = λ n m xs h. ap (λ b. either (cond (b || false || false || false) (Some fault.Range) None) (λ kind. Err (m, kind)) (Ok (draft_of (xs ++ [])))) (fits (n + 0) h);
}

more_read : (bytes code line rest : List ℕ) → IsPiece line bytes → Reads code rest → Reads (bytes ++ code) (line ++ 10 ∷ rest)
more_read bytes code line rest p r =
    let l = line_of false line in
    let g = goes l bytes p.adds in
    record {
      labels = λ n m ls.
          ap (λ (ts : List (List ℕ)). fold with_label ls (placed (cursor n m) ts)) (cut_line line rest p.quiet)
          ∙ (λ i. fold with_label (g.label n m ls i) (placed (g.behind n m i) (texts_of rest)))
          ∙ r.labels (n + length bytes) (m + 1) ls;
      draft = λ n m xs h.
          let here_fits : n + length bytes ≤ 16_777_216 = omega (arith, h, length-append bytes code) in
          let rest_fits : (n + length bytes) + length code ≤ 16_777_216 = omega (arith, h, length-append bytes code) in
          ap (λ (ts : List (List ℕ)). drafted [] (draft_of xs) (placed (cursor n m) ts)) (cut_line line rest p.quiet)
          ∙ (λ i. either (g.accepted n m xs here_fits i) (λ kind. Err (m, kind)) (drafted [] (g.draft n m xs i) (placed (g.behind n m i) (texts_of rest))))
          ∙ r.draft (n + length bytes) (m + 1) (xs ++ bytes) rest_fits
          ∙ ap (λ (c : List ℕ). Ok (draft_of c)) (append_assoc xs bytes code);
    }

listed : (code text : List ℕ) → All (λ b. b < 256) code → Lists code text → Reads code text
listed _ _ all Empty = none_read
listed _ _ all (OneLine code line rest n here more) =
    let p = piece code line n all here in
    let r = listed (drop n code) rest (all_dropped n code all) more in
    let whole = more_read (take n code) (drop n code) line rest p r in
    let text : (line ++ codes "\n") ++ rest ≡ line ++ 10 ∷ rest = append_assoc line (codes "\n") rest in
    subst (λ (t : List ℕ). Reads code t) (sym text) (subst (λ (c : List ℕ). Reads c (line ++ 10 ∷ rest)) (take-append-drop n code) whole)

-- the object of a listing is the code alone
pub listing_read : (code text : List ℕ) → length code ≤ 16_777_216 → All (λ b. b < 256) code → Lists code text → assembled text ≡ Ok (code_object code)
unfolding assembled
listing_read code text few all lists =
    let r = listed code text all lists in
    let lines = placed (cursor 0 1) (texts_of text) in
    ap (λ (ls : List Label). object_from (drafted ls (nothing ls) lines)) (r.labels 0 1 [])
    ∙ ap object_from (r.draft 0 1 [] (omega arith))
