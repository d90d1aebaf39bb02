-- Lines of instructions are read back.
use Rattle.std.proofs.Common.{◌≡◌, ℕ, zero, suc, ◌^◌, ◌≤◌, Bool, true, false, true≢false, cond, not, IsTrue, List, [], ◌∷◌, ◌++◌, length, Option, Some, None, refl, sym, ap, subst, ◌∙◌, arith, nat_eq, nat_lt, append-nil, append_assoc}
use Rattle.std.specs.Prelude.{codes, slice_index, pos, ◌-ℤ◌}
use Rattle.std.specs.List.{list_all, take_while}
use Rattle.std.specs.Str.{bytes_eq}
use Rattle.std.specs.Char.{is_ascii_alphabetic}
use Rattle.std.proofs.lemmas.Bool.{and_parts}
use Rattle.std.proofs.lemmas.Bool.Decides.{nat_tests}
use Rattle.x86_forms.specs.declared.instr.Instr.{Instr}
use Rattle.x86_forms.specs.declared.layout.Operands.{Operands}
use Rattle.x86_forms.specs.declared.layout.Operands.TheVariants.{Bare, InOpcode, InModrm}
use Rattle.x86_forms.specs.declared.instr.Base.{Base}
use Rattle.x86_forms.specs.declared.instr.Base.TheVariants.{None as NoBase, Reg as BaseReg, Rip}
use Rattle.x86_forms.specs.declared.instr.Rm.TheVariants.{Reg as InReg, Mem as InMem}
use Rattle.x86_forms.specs.Fits.{fits_64}
use Rattle.x86_forms.specs.Layout.{layout_of}
use Rattle.x86_forms.specs.Validity.{valid_of}
use Rattle.x86_forms.proofs.Writable.{layout_of-IsWritable}
use Rattle.asm_names.specs.Mnemonics.{mnemonic_text, mnemonic_of}
use Rattle.asm_names.specs.declared.mnemonic.Mnemonic.{Mnemonic}
use Rattle.disasm.specs.Operands.{operand_text, behind}
use Rattle.disasm.specs.declared.operand.Operand.{Operand as Shown}
use Rattle.disasm.specs.declared.operand.Operand.TheVariants.{Nothing, Register, Bounds, Memory, Sized, Signed, Relative}
use Rattle.disasm.specs.declared.operand.Written.{Written}
use Rattle.disasm.specs.Written.{text_of_written}
use Rattle.asm_text.specs.declared.parts.Operand.TheVariants as o
use Rattle.asm_text.specs.declared.parts.Choice.{Choice}
use Rattle.asm_text.specs.declared.parts.Kind.TheVariants as k
use Rattle.asm_text.specs.Cuts.{is}
use Rattle.asm_text.specs.Lexical.{either, is_blank, is_word_byte, ended, skip, word_at, after_word, mark_at}
use Rattle.asm_text.specs.Operands.{Named, bare, operand_of}
use Rattle.asm_text.specs.Instructions.{fit, built}
use Rattle.asm_text.specs.Lines.{Line, line, behind_rip, taken_operands, taken_off, is_no_comma, first_text, other_text, second_of, first_of, naming, fix_addend, coded, code_line, with_operands, operands_line, instruction, directive, label_line, code_only, statement, is_no_comment, parsed, line_of}
use Rattle.listing_laws.specs.Read.{IsCode}
use Rattle.listing_laws.proofs.Spans.{stops, span_taken, span_dropped}
use Rattle.listing_laws.proofs.Marks.{mark_here, mark_none, mark_space, not_ended, ended_space}
use Rattle.listing_laws.proofs.Words.{IsWord, IsMnemonic}
use Rattle.listing_laws.proofs.Signed.{minus_is}
use Rattle.listing_laws.proofs.Places.{word_of, after_of}
use Rattle.listing_laws.proofs.Texts.{is_quiet, is_line_byte, weaker, both, quiet_line, word_quiet}
use Rattle.listing_laws.proofs.Operands.{starts, word_starts, IsOperand, meant, is_operand, operand_read, word_space, after_space, operand_space}

-- ---- what stands behind a mnemonic

pub record IsRest (rest : List ℕ) (a b : Named) : Type 0 where
  pub word : stops is_word_byte rest ≡ true
  pub colon : mark_at 58 rest ≡ None
  pub first : first_of rest ≡ Some a
  pub second : second_of rest ≡ Some b
  pub quiet : list_all is_line_byte rest ≡ true

start_blank : (t : List ℕ) → starts t ≡ true → stops is_blank t ≡ true
start_blank [] s = refl
start_blank (b ∷ t) s = (and_parts (not (is_blank b)) (not (is 58 b)) s).0

start_colon : (t : List ℕ) → starts t ≡ true → stops (is 58) t ≡ true
start_colon [] s = refl
start_colon (b ∷ t) s = (and_parts (not (is_blank b)) (not (is 58 b)) s).1

start_ended : (t : List ℕ) → starts t ≡ true → ended t ≡ false
start_ended [] s = absurd (true≢false (sym s))
start_ended (b ∷ t) s = not_ended b t (and_parts (not (is_blank b)) (not (is 58 b)) s).0

starts_on : (t more : List ℕ) → starts t ≡ true → starts (t ++ more) ≡ true
starts_on [] more s = absurd (true≢false (sym s))
starts_on (b ∷ t) more s = s

no_colon : (t : List ℕ) → starts t ≡ true → mark_at 58 (32 ∷ t) ≡ None
no_colon t s = mark_space 58 t ∙ mark_none 58 t (start_blank t s) (start_colon t s)

quiet_comma : (b : ℕ) → is_quiet b ≡ true → is_no_comma b ≡ true
quiet_comma b h = grind (arith, nat_tests)

no_commas : (t : List ℕ) (x : Named) → IsOperand t x → list_all is_no_comma (32 ∷ t) ≡ true
no_commas t x r = weaker is_quiet is_no_comma quiet_comma t r.quiet

first_read : (t more : List ℕ) (x : Named) → IsOperand t x → stops is_no_comma more ≡ true → first_of ((32 ∷ t) ++ more) ≡ Some x
unfolding first_of
first_read t more x r s =
    let text : List ℕ = (32 ∷ t) ++ more in
    ap (λ b. cond b (Some (bare o.Nothing)) (operand_of (first_text text))) (ended_space (t ++ more) ∙ start_ended (t ++ more) (starts_on t more r.starts))
    ∙ ap operand_of (span_taken is_no_comma (32 ∷ t) more (no_commas t x r) s)
    ∙ operand_space t
    ∙ r.read

other_read : (t more : List ℕ) (x : Named) → IsOperand t x → stops is_no_comma more ≡ true → other_text ((32 ∷ t) ++ more) ≡ more
other_read t more x r s = span_dropped is_no_comma (32 ∷ t) more (no_commas t x r) s

quiet_one : (t : List ℕ) (x : Named) → IsOperand t x → list_all is_line_byte (32 ∷ t) ≡ true
quiet_one t x r = weaker is_quiet is_line_byte quiet_line t r.quiet

rest_none : IsRest [] (bare o.Nothing) (bare o.Nothing)
unfolding first_of second_of ended skip mark_at
rest_none = record { word = refl; colon = refl; first = refl; second = refl; quiet = refl }

no_second : either (mark_at 44 []) (λ behind. operand_of behind) (Some (bare o.Nothing)) ≡ Some (bare o.Nothing)
unfolding mark_at skip
no_second = refl

rest_one : (t : List ℕ) (x : Named) → IsOperand t x → IsRest ((32 ∷ t) ++ []) x (bare o.Nothing)
unfolding second_of
rest_one t x r = record {
  word = refl;
  colon = no_colon (t ++ []) (starts_on t [] r.starts);
  first = first_read t [] x r refl;
  second = ap (λ (l : List ℕ). either (mark_at 44 l) (λ behind. operand_of behind) (Some (bare o.Nothing))) (other_read t [] x r refl) ∙ no_second;
  quiet = both is_line_byte (32 ∷ t) [] (quiet_one t x r) refl;
}

rest_two : (t u : List ℕ) (x y : Named) → IsOperand t x → IsOperand u y → IsRest ((32 ∷ t) ++ (44 ∷ 32 ∷ u)) x y
unfolding second_of
rest_two t u x y r q =
    let more : List ℕ = 44 ∷ 32 ∷ u in
    record {
      word = refl;
      colon = no_colon (t ++ more) (starts_on t more r.starts);
      first = first_read t more x r refl;
      second =
          ap (λ (l : List ℕ). either (mark_at 44 l) (λ behind. operand_of behind) (Some (bare o.Nothing))) (other_read t more x r refl)
          ∙ ap (λ (l : Option (List ℕ)). either l (λ behind. operand_of behind) (Some (bare o.Nothing))) (mark_here 44 (32 ∷ u) refl)
          ∙ operand_space u
          ∙ q.read;
      quiet = both is_line_byte (32 ∷ t) more (quiet_one t x r) (quiet_one u y q);
    }

-- the operands that a line may have
pub data AreOperands : Shown → Shown → Type 0 where
  NoOperands : AreOperands Nothing Nothing
  OneOperand : (x : Shown) → is_operand x ≡ true → AreOperands x Nothing
  TwoOperands : (x y : Shown) → is_operand x ≡ true → is_operand y ≡ true → AreOperands x y

behind_is : (mark : List ℕ) (x : Shown) → is_operand x ≡ true → behind mark x ≡ mark ++ operand_text x
unfolding behind
behind_is mark Nothing ok = absurd (true≢false (sym ok))
behind_is mark (Register w r) ok = refl
behind_is mark (Bounds b) ok = refl
behind_is mark (Memory m) ok = refl
behind_is mark (Sized w m) ok = refl
behind_is mark (Signed z) ok = refl
behind_is mark (Relative z) ok = refl

nothing_behind : (mark : List ℕ) → behind mark Nothing ≡ []
unfolding behind
nothing_behind mark = refl

rest_of : (a b : Shown) → AreOperands a b → IsRest (behind (codes " ") a ++ behind (codes ", ") b) (meant a) (meant b)
rest_of _ _ NoOperands = subst (λ (l : List ℕ). IsRest l (bare o.Nothing) (bare o.Nothing)) (λ i. sym (nothing_behind (codes " ")) i ++ sym (nothing_behind (codes ", ")) i) rest_none
rest_of _ _ (OneOperand x ok) =
    subst (λ (l : List ℕ). IsRest l (meant x) (bare o.Nothing)) (λ i. sym (behind_is (codes " ") x ok) i ++ sym (nothing_behind (codes ", ")) i) (rest_one (operand_text x) (meant x) (operand_read x ok))
rest_of _ _ (TwoOperands x y ok also) =
    subst (λ (l : List ℕ). IsRest l (meant x) (meant y)) (λ i. sym (behind_is (codes " ") x ok) i ++ sym (behind_is (codes ", ") y also) i)
    (rest_two (operand_text x) (operand_text y) (meant x) (meant y) (operand_read x ok) (operand_read y also))

-- ---- lines

shape : Line
shape = line k.Shape

instruction_read : (p : Bool) (x : Mnemonic) (rest : List ℕ) (a b : Named) → IsMnemonic x → IsRest rest a b → instruction p (mnemonic_text x ++ rest) ≡ with_operands p x a b
unfolding instruction operands_line
instruction_read p x rest a b m r =
    let t = mnemonic_text x in
    let text = t ++ rest in
    ap (λ (l : List ℕ). either (mnemonic_of l) (λ m. operands_line p m (after_word text)) (line k.Shape)) (word_of t rest m.word r.word)
    ∙ ap (λ (l : Option Mnemonic). either l (λ m. operands_line p m (after_word text)) (line k.Shape)) m.found
    ∙ ap (operands_line p x) (after_of t rest m.word r.word)
    ∙ ap (λ (l : Option Named). either l (λ a. either (second_of rest) (λ b. with_operands p x a b) (line k.Shape)) (line k.Shape)) r.first
    ∙ ap (λ (l : Option Named). either l (λ b. with_operands p x a b) (line k.Shape)) r.second

instruction_space : (p : Bool) (text : List ℕ) → instruction p (32 ∷ text) ≡ instruction p text
unfolding instruction
instruction_space p text = λ i. either (mnemonic_of (word_space text i)) (λ m. operands_line p m (after_space text i)) (line k.Shape)

letter_no_dot : (b : ℕ) → is_ascii_alphabetic b ≡ true → nat_eq b 46 ≡ false
letter_no_dot b h = grind (arith, nat_tests)

-- a line that begins with a word, which is no label
parsed_is : (text t rest : List ℕ) → text ≡ t ++ rest → IsWord t → stops is_word_byte rest ≡ true → mark_at 58 rest ≡ None → parsed false text ≡ code_only false text
unfolding parsed statement
parsed_is text t rest same w s colon =
    let word : word_at text ≡ t = ap word_at same ∙ word_of t rest w s in
    let behind : after_word text ≡ rest = ap after_word same ∙ after_of t rest w s in
    let some : ended text ≡ false = ap ended same ∙ start_ended (t ++ rest) (word_starts t rest w) in
    ap (λ b. cond b (line k.Empty) (either (mark_at 58 (after_word text)) (label_line (word_at text)) (statement false text))) some
    ∙ ap (λ (l : Option (List ℕ)). either l (label_line (word_at text)) (statement false text)) (ap (mark_at 58) behind ∙ colon)
    ∙ ap (λ b. cond b (directive false (word_at text) (after_word text)) (code_only false text)) (ap (λ (l : List ℕ). nat_eq (slice_index l 0) 46) word ∙ letter_no_dot (slice_index t 0) w.letter)

plain_read : (x : Mnemonic) (rest : List ℕ) (a b : Named) → IsMnemonic x → IsRest rest a b → parsed false (mnemonic_text x ++ rest) ≡ with_operands false x a b
unfolding code_only
plain_read x rest a b m r =
    let text = mnemonic_text x ++ rest in
    parsed_is text (mnemonic_text x) rest refl m.word r.word r.colon
    ∙ ap (λ c. cond c (instruction true (after_word text)) (instruction false text)) (ap (λ (l : List ℕ). bytes_eq l (codes "bnd")) (word_of (mnemonic_text x) rest m.word r.word) ∙ m.no_prefix)
    ∙ instruction_read false x rest a b m r

prefix_word : IsWord (codes "bnd")
prefix_word = record { bytes = refl; letter = refl }

prefixed_read : (x : Mnemonic) (rest : List ℕ) (a b : Named) → IsMnemonic x → IsRest rest a b → parsed false (codes "bnd " ++ (mnemonic_text x ++ rest)) ≡ with_operands true x a b
unfolding code_only
prefixed_read x rest a b m r =
    let text = mnemonic_text x ++ rest in
    let whole : List ℕ = codes "bnd" ++ (32 ∷ text) in
    parsed_is whole (codes "bnd") (32 ∷ text) refl prefix_word refl (no_colon text (word_starts (mnemonic_text x) rest m.word))
    ∙ ap (λ (l : List ℕ). cond (bytes_eq l (codes "bnd")) (instruction true (after_word whole)) (instruction false whole)) (word_of (codes "bnd") (32 ∷ text) prefix_word refl)
    ∙ ap (instruction true) (after_of (codes "bnd") (32 ∷ text) prefix_word refl)
    ∙ instruction_space true text
    ∙ instruction_read true x rest a b m r

line_byte_no_comment : (b : ℕ) → is_line_byte b ≡ true → is_no_comment b ≡ true
line_byte_no_comment b h = grind (arith, nat_tests)

pub uncommented : (in_data : Bool) (text : List ℕ) → list_all is_line_byte text ≡ true → line_of in_data text ≡ parsed in_data text
unfolding line_of
uncommented in_data text q =
    let e = append-nil text in
    ap (parsed in_data) (ap (take_while is_no_comment) (sym e) ∙ span_taken is_no_comment text [] (weaker is_line_byte is_no_comment line_byte_no_comment text q) refl)

word_line : (b : ℕ) → is_word_byte b ≡ true → is_line_byte b ≡ true
word_line b h = quiet_line b (word_quiet b h)

quiet_text : (x : Mnemonic) (rest : List ℕ) (a b : Named) → IsMnemonic x → IsRest rest a b → list_all is_line_byte (mnemonic_text x ++ rest) ≡ true
quiet_text x rest a b m r = both is_line_byte (mnemonic_text x) rest (weaker is_word_byte is_line_byte word_line (mnemonic_text x) m.word.bytes) r.quiet

-- the text of a line, but for its operands
abbrev head_text : Bool → Mnemonic → List ℕ
head_text p x = (cond p (codes "bnd ") []) ++ mnemonic_text x

pub quiet_line_text : (p : Bool) (x : Mnemonic) (rest : List ℕ) (a b : Named) → IsMnemonic x → IsRest rest a b → list_all is_line_byte (head_text p x ++ rest) ≡ true
quiet_line_text true x rest a b m r = quiet_text x rest a b m r
quiet_line_text false x rest a b m r = quiet_text x rest a b m r

head_read : (p : Bool) (x : Mnemonic) (rest : List ℕ) (a b : Named) → IsMnemonic x → IsRest rest a b → parsed false (head_text p x ++ rest) ≡ with_operands p x a b
head_read true x rest a b m r = prefixed_read x rest a b m r
head_read false x rest a b m r = plain_read x rest a b m r

-- ---- instructions

small_behind : (b : Base) (n : ℕ) → behind_rip b n ≤ n
small_behind Rip n = omega arith
small_behind NoBase n = omega arith
small_behind (BaseReg r) n = omega arith

small_taken : (x : Operands) (n : ℕ) → taken_operands x n ≤ n
small_taken (InModrm reg low (InMem m) low_rm) n = small_behind m.base n
small_taken (InModrm reg low (InReg r) low_rm) n = omega arith
small_taken (InOpcode r) n = omega arith
small_taken Bare n = omega arith

less_fits : (n : ℕ) → n ≤ 8 → fits_64 (pos 0 -ℤ pos n) ≡ true
less_fits zero h = refl
less_fits (suc n) h = let e : nat_lt n (2 ^ 63) ≡ true = grind (arith, nat_tests) in ap fits_64 (minus_is n) ∙ e

addend_is : (n : ℕ) → n ≤ 8 → fix_addend (Some (pos 0)) n ≡ Some (pos 0 -ℤ pos n)
addend_is n h = ap (λ b. cond b (Some (pos 0 -ℤ pos n)) None) (less_fits n h)

code_read : (i : Instr) → IsTrue (valid_of i) → (a b : Named) → a.name ≡ [] → b.name ≡ [] → b.addend ≡ Some (pos 0)
    → code_line (fit i true) (naming a b) ≡ record { kind = k.Code i; name = []; addend = pos 0 -ℤ pos (taken_off (layout_of i)); text = [] }
unfolding code_line
code_read i valid a b none also zero_added =
    let n = taken_off (layout_of i) in
    let room = layout_of-IsWritable i valid in
    let small : n ≤ 8 = omega (arith, small_taken (layout_of i).operands (layout_of i).imm_len, room.imm) in
    ap (λ (l : List ℕ). code_line (fit i true) (cond (nat_eq (length l) 0) b a)) none
    ∙ ap (λ c. cond (not c) (line k.Shape) (coded i b.name (fix_addend b.addend n))) valid
    ∙ (λ j. coded i (also j) (fix_addend (zero_added j) n))
    ∙ ap (coded i []) (addend_is n small)

plain_name : (x : Shown) → (meant x).name ≡ []
plain_name Nothing = refl
plain_name (Register w r) = refl
plain_name (Bounds b) = refl
plain_name (Memory m) = refl
plain_name (Sized w m) = refl
plain_name (Signed z) = refl
plain_name (Relative z) = refl

plain_addend : (x : Shown) → (meant x).addend ≡ Some (pos 0)
plain_addend Nothing = refl
plain_addend (Register w r) = refl
plain_addend (Bounds b) = refl
plain_addend (Memory m) = refl
plain_addend (Sized w m) = refl
plain_addend (Signed z) = refl
plain_addend (Relative z) = refl

-- what is written of an instruction is built of what its parts are read as
pub record IsForm (i : Instr) (w : Written) : Type 0 where
  pub mnemonic : IsMnemonic w.mnemonic
  pub operands : AreOperands w.first w.second
  pub built : built w.prefixed w.mnemonic (meant w.first).operand (meant w.second).operand ≡ Some (fit i true)

pub form_read : (i : Instr) (w : Written) → IsTrue (valid_of i) → IsForm i w → IsCode i (line_of false (text_of_written w))
unfolding with_operands
form_read i w valid f =
    let a = meant w.first in
    let b = meant w.second in
    let rest = behind (codes " ") w.first ++ behind (codes ", ") w.second in
    let r = rest_of w.first w.second f.operands in
    let whole = append_assoc (head_text w.prefixed w.mnemonic) (behind (codes " ") w.first) (behind (codes ", ") w.second) in
    let read =
    ap (line_of false) whole
    ∙ uncommented false (head_text w.prefixed w.mnemonic ++ rest) (quiet_line_text w.prefixed w.mnemonic rest a b f.mnemonic r)
    ∙ head_read w.prefixed w.mnemonic rest a b f.mnemonic r
    ∙ ap (λ (l : Option Choice). either l (λ c. code_line c (naming a b)) (line k.Shape)) f.built
    ∙ code_read i valid a b (plain_name w.first) (plain_name w.second) (plain_addend w.second) in
    record { kind = ap (λ (l : Line). l.kind) read; name = ap (λ (l : Line). l.name) read }

pub form_quiet : (i : Instr) (w : Written) → IsForm i w → list_all is_line_byte (text_of_written w) ≡ true
form_quiet i w f =
    let rest = behind (codes " ") w.first ++ behind (codes ", ") w.second in
    ap (list_all is_line_byte) (append_assoc (head_text w.prefixed w.mnemonic) (behind (codes " ") w.first) (behind (codes ", ") w.second))
    ∙ quiet_line_text w.prefixed w.mnemonic rest (meant w.first) (meant w.second) f.mnemonic (rest_of w.first w.second f.operands)
