-- Lines, and the lines of code.
use Rattle.std.proofs.Common.{◌≡◌, ℕ, ◌==◌, true, ◌≤◌, ◌<◌, List, [], ◌∷◌, ◌++◌, length, drop, codes, refl, sym, ap, subst, ◌∙◌, append_assoc, append-nil, arith, Ok}
use Rattle.std.proofs.lemmas.List.{length-take-le}
use Rattle.x86_forms.specs.declared.instr.Instr.{Instr}
use Rattle.x86_forms.specs.Spelling.{spelling}
use Rattle.x86_forms.proofs.ShortCode.{spelling-short}
use Rattle.x86_decode.specs.Reading.{BeginsWith}
use Rattle.x86_decode.specs.Run.{Answer}
use Rattle.x86_decode.proofs.Again.{BeginsWith-run}
use Rattle.disasm.specs.Written.{text_of}
use Rattle.disasm.specs.Listing.{LineOf, Instruction, Byte, Lists, Empty, Line}

some_bytes : (bytes : List ℕ) (i : Instr) (n : ℕ) → BeginsWith bytes i n → 1 ≤ n
some_bytes bytes i n h =
    let s = spelling-short i h.spells.valid in
    let within : n ≤ length bytes = h.within in
    let l : n ≡ length (spelling i) = sym (length-take-le n bytes within) ∙ ap length h.spells.bytes in
    let some : 1 ≤ length (spelling i) = s.some in
    omega arith

pub line_has_bytes : (bytes text : List ℕ) (n : ℕ) → 0 < length bytes → LineOf bytes text n → (1 ≤ n) × (n ≤ length bytes)
line_has_bytes bytes text n some (Instruction i h e) = (some_bytes bytes i n h, h.within)
line_has_bytes bytes text n some (Byte h none e one) = (omega (arith, one), omega (arith, one))

-- one more line
pub listed_more : (code rest out line out' rest' : List ℕ) (n : ℕ) → ((lines : List ℕ) → Lists rest lines → Lists code (out ++ lines)) → LineOf rest line n
    → out' ≡ (out ++ line) ++ codes "\n" → rest' ≡ drop n rest → (lines : List ℕ) → Lists rest' lines → Lists code (out' ++ lines)
listed_more code rest out line out' rest' n before here o r lines h =
    let more = before _ (Line rest line lines n here (subst (λ (xs : List ℕ). Lists xs lines) r h)) in
    let same : out ++ ((line ++ codes "\n") ++ lines) ≡ out' ++ lines =
    sym (append_assoc out (line ++ codes "\n") lines) ∙ ap (λ (xs : List ℕ). xs ++ lines) (sym (append_assoc out line (codes "\n")) ∙ sym o) in
    subst (Lists code) same more

none_left : (bytes : List ℕ) → true ≡ (length bytes == 0) → bytes ≡ []
none_left [] e = refl
none_left (b ∷ bytes) e = grind (arith, e)

-- no bytes are left
pub listed_all : (code rest out : List ℕ) → ((lines : List ℕ) → Lists rest lines → Lists code (out ++ lines)) → true ≡ (length rest == 0) → Lists code out
listed_all code rest out before e = subst (Lists code) (append-nil out) (before [] (subst (λ (xs : List ℕ). Lists xs []) (sym (none_left rest e)) Empty))

-- ---- the only lines

one_answer : (a : Answer) (i j : Instr) (n m : ℕ) → a ≡ Ok (i, n) → a ≡ Ok (j, m) → (i ≡ j) × (n ≡ m)
one_answer a i j n m h k =
    let same = sym h ∙ k in
    let pair : (i, n) ≡ (j, m) = cc in
    (ap (λ (p : Instr × ℕ). p.0) pair, ap (λ (p : Instr × ℕ). p.1) pair)

same_front : (bytes : List ℕ) (i j : Instr) (n m : ℕ) → BeginsWith bytes i n → BeginsWith bytes j m → (i ≡ j) × (n ≡ m)
same_front bytes i j n m h k = one_answer _ i j n m (BeginsWith-run bytes i n h) (BeginsWith-run bytes j m k)

same_line : (bytes a b : List ℕ) (n m : ℕ) → LineOf bytes a n → LineOf bytes b m → (a ≡ b) × (n ≡ m)
same_line bytes a b n m (Instruction i h e) (Instruction j k f) = let s = same_front bytes i j n m h k in (e ∙ ap text_of s.0 ∙ sym f, s.1)
same_line bytes a b n m (Instruction i h e) (Byte some none f one) = absurd (none i n h)
same_line bytes a b n m (Byte some none f one) (Instruction j k e) = absurd (none j m k)
same_line bytes a b n m (Byte some none e one) (Byte some' none' f one') = (e ∙ sym f, one ∙ sym one')

no_line : (a : List ℕ) (n : ℕ) → LineOf [] a n → ⊥
no_line a n (Instruction i h e) = let within : n ≤ 0 = h.within in omega (arith, some_bytes [] i n h)
no_line a n (Byte some none e one) = let none : 0 < 0 = some in omega arith

pub one_listing : (code a b : List ℕ) → Lists code a → Lists code b → a ≡ b
one_listing _ _ _ Empty Empty = refl
one_listing _ _ _ Empty (Line code line rest n h l) = absurd (no_line line n h)
one_listing _ _ _ (Line code line rest n h l) Empty = absurd (no_line line n h)
one_listing _ _ _ (Line code line rest n h l) (Line code' line' rest' n' h' l') =
    let s = same_line code line line' n n' h h' in
    let after = one_listing (drop n code) rest rest' l (subst (λ (k : ℕ). Lists (drop k code) rest') (sym s.1) l') in
    ap (λ (x : List ℕ). x ++ codes "\n" ++ rest) s.0 ∙ ap (λ (x : List ℕ). line' ++ codes "\n" ++ x) after
