-- Operands are read back.
use Rattle.std.proofs.Common.{◌≡◌, ℕ, suc, ◌^◌, ◌<◌, Bool, true, false, true≢false, cond, not, List, [], ◌∷◌, ◌++◌, length, drop, Option, Some, None, is_some, refl, sym, ap, subst, ◌∙◌, arith, nat_eq, append-nil, append_assoc}
use Rattle.std.specs.Prelude.{◌&&◌, ◌||◌, codes, decimal, slice_index, ℤ, pos, negsuc, option_and_then, option_map}
use Rattle.std.specs.List.{list_all, prefix_len, take_while}
use Rattle.std.specs.Fmt.{signed_decimal}
use Rattle.std.specs.Char.{is_ascii_digit, is_ascii_alphabetic}
use Rattle.std.proofs.lemmas.Bool.{and_parts}
use Rattle.std.proofs.lemmas.Bool.Decides.{nat_tests}
use Rattle.x86_forms.specs.declared.instr.Mem.{Mem}
use Rattle.x86_forms.specs.Fits.{fits_32, fits_64}
use Rattle.x86_forms.specs.Validity.{mem_ok, width_ok, reg_ok, bnd_ok}
use Rattle.asm_names.specs.First.{first_from}
use Rattle.asm_names.specs.Registers.{register_text, register_of, bounds_text, bounds_of, size_text, size_of, text_8, text_16, text_32, text_64}
use Rattle.disasm.specs.Operands.{address_text, memory_text, operand_text}
use Rattle.disasm.specs.declared.operand.Operand.{Operand as Written}
use Rattle.disasm.specs.declared.operand.Operand.TheVariants.{Nothing, Register, Bounds, Memory, Sized, Signed, Relative}
use Rattle.asm_text.specs.Lexical.{either, is_blank, is_word_byte, ended, skip, word_at, after_word, mark_at, magnitude, number_of, numeral_at, number_at, alone, number_alone}
use Rattle.asm_text.specs.Cuts.{is}
use Rattle.asm_text.specs.declared.parts.Operand.{Operand}
use Rattle.asm_text.specs.declared.parts.Operand.TheVariants as o
use Rattle.asm_text.specs.Operands.{Named, bare, place_of, is_inside, bracketed, memory, sized_memory, sized, register, named, worded, plain_operand, operand_of}
use Rattle.listing_laws.proofs.Spans.{stops, span_taken, span_dropped, skip_space}
use Rattle.listing_laws.proofs.Marks.{mark_here, mark_none, mark_space}
use Rattle.listing_laws.proofs.Words.{IsWord, IsRegister, IsSize, register_8, register_16, register_32, register_64, bounds_register, size_8, size_16, size_32, size_64}
use Rattle.listing_laws.proofs.Signed.{fits_wide, decimal_front, digit_no_bracket, digit_no_colon, decimal_alone, decimal_digit, number_whole}
use Rattle.listing_laws.proofs.Numbers.{reads, digit_no_blank}
use Rattle.listing_laws.proofs.Places.{place, place_read, word_of, after_of, signed_no_word, letter_no_blank}
use Rattle.listing_laws.proofs.Texts.{is_inner, is_quiet, weaker, both, word_quiet, inner_quiet, inner_inside, inner_signed, inner_address}

-- ---- widths

pub by_width : (P : ℕ → Type 0) → P 8 → P 16 → P 32 → P 64 → (w : ℕ) → width_ok w ≡ true → P w
by_width P a b c d w ok = first (nat_eq w 8) refl
  where
    last : (x : Bool) → nat_eq w 32 ≡ x → nat_eq w 8 ≡ false → nat_eq w 16 ≡ false → P w
    last true e f g = let same : 32 ≡ w = grind (arith, nat_tests, e) in subst P same c
    last false e f g = let same : 64 ≡ w = grind (arith, nat_tests, ok, e, f, g) in subst P same d

    second : (x : Bool) → nat_eq w 16 ≡ x → nat_eq w 8 ≡ false → P w
    second true e f = let same : 16 ≡ w = grind (arith, nat_tests, e) in subst P same b
    second false e f = last (nat_eq w 32) refl f e

    first : (x : Bool) → nat_eq w 8 ≡ x → P w
    first true e = let same : 8 ≡ w = grind (arith, nat_tests, e) in subst P same a
    first false e = second (nat_eq w 16) refl e

-- ---- a space before an operand

pub word_space : (text : List ℕ) → word_at (32 ∷ text) ≡ word_at text
unfolding word_at
word_space text = ap (take_while is_word_byte) (skip_space text)

pub after_space : (text : List ℕ) → after_word (32 ∷ text) ≡ after_word text
unfolding after_word
after_space text = ap (λ l. drop (prefix_len is_word_byte l) l) (skip_space text)

numeral_space : (negative : Bool) (text : List ℕ) → numeral_at negative (32 ∷ text) ≡ numeral_at negative text
unfolding numeral_at
numeral_space negative text = λ i. option_map (λ n. (number_of negative n, after_space text i)) (magnitude (word_space text i))

pub number_space : (text : List ℕ) → number_alone (32 ∷ text) ≡ number_alone text
unfolding number_alone number_at
number_space text = λ i. option_and_then alone (either (mark_space 45 text i) (λ behind. numeral_at true behind) (numeral_space false text i))

plain_space : (text : List ℕ) → plain_operand (32 ∷ text) ≡ plain_operand text
unfolding plain_operand
plain_space text = λ i.
    cond (is_ascii_digit (slice_index (word_space text i) 0) || is_some (mark_space 45 text i)) (option_map (λ n. bare (o.Number n)) (number_space text i)) (worded (word_space text i) (after_space text i))

pub operand_space : (text : List ℕ) → operand_of (32 ∷ text) ≡ operand_of text
unfolding operand_of
operand_space text = λ i.
    either (mark_space 91 text i) (λ behind. option_map memory (bracketed behind)) (either (size_of (word_space text i)) (λ w. sized w (after_space text i)) (plain_space text i))

-- ---- what is read

-- the text begins, and neither with a blank nor with a colon
abbrev pub starts : List ℕ → Bool
starts [] = false
starts (b ∷ rest) = not (is_blank b) && not (is 58 b)

-- a text is read as an operand, and neither ends nor cuts a line
pub record IsOperand (text : List ℕ) (x : Named) : Type 0 where
  pub read : operand_of text ≡ Some x
  pub quiet : list_all is_quiet text ≡ true
  pub starts : starts text ≡ true

-- ---- words

letter_tests : (b : ℕ) → is_ascii_alphabetic b ≡ true → (not (is_blank b) && not (is 58 b)) ≡ true
letter_tests b h = grind (arith, nat_tests)

letter_no_bracket : (b : ℕ) → is_ascii_alphabetic b ≡ true → not (is 91 b) ≡ true
letter_no_bracket b h = grind (arith, nat_tests)

letter_no_minus : (b : ℕ) → is_ascii_alphabetic b ≡ true → not (is 45 b) ≡ true
letter_no_minus b h = grind (arith, nat_tests)

letter_no_digit : (b : ℕ) → is_ascii_alphabetic b ≡ true → is_ascii_digit b ≡ false
letter_no_digit b h = grind (arith, nat_tests)

pub word_starts : (t rest : List ℕ) → IsWord t → starts (t ++ rest) ≡ true
word_starts [] rest w = absurd (true≢false (sym w.letter))
word_starts (b ∷ t) rest w = letter_tests b w.letter

pub word_stops : (q : ℕ → Bool) → ((b : ℕ) → is_ascii_alphabetic b ≡ true → not (q b) ≡ true) → (t rest : List ℕ) → IsWord t → stops q (t ++ rest) ≡ true
word_stops q other [] rest w = absurd (true≢false (sym w.letter))
word_stops q other (b ∷ t) rest w = other b w.letter

-- no bracket stands before a word
word_first : (t rest : List ℕ) → IsWord t → mark_at 91 (t ++ rest) ≡ None
word_first t rest w = mark_none 91 (t ++ rest) (word_stops is_blank letter_no_blank t rest w) (word_stops (is 91) letter_no_bracket t rest w)

word_operand : (t rest : List ℕ) → IsWord t → size_of t ≡ None → stops is_word_byte rest ≡ true → operand_of (t ++ rest) ≡ worded t rest
unfolding operand_of plain_operand
word_operand t rest w unsized s =
    let text = t ++ rest in
    let word = word_of t rest w s in
    ap (λ (x : Option (List ℕ)). either x (λ behind. option_map memory (bracketed behind)) (either (size_of (word_at text)) (λ w. sized w (after_word text)) (plain_operand text))) (word_first t rest w)
    ∙ ap (λ (x : Option ℕ). either x (λ w. sized w (after_word text)) (plain_operand text)) (ap size_of word ∙ unsized)
    ∙ (λ i. cond (digit i || minus i) (option_map (λ n. bare (o.Number n)) (number_alone text)) (worded (word i) (after_of t rest w s i)))
  where
    digit : is_ascii_digit (slice_index (word_at (t ++ rest)) 0) ≡ false
    digit = ap (λ (l : List ℕ). is_ascii_digit (slice_index l 0)) (word_of t rest w s) ∙ letter_no_digit (slice_index t 0) w.letter

    minus : is_some (mark_at 45 (t ++ rest)) ≡ false
    minus = ap is_some (mark_none 45 (t ++ rest) (word_stops is_blank letter_no_blank t rest w) (word_stops (is 45) letter_no_minus t rest w))

quiet_word : (t : List ℕ) → IsWord t → list_all is_quiet t ≡ true
quiet_word t w = weaker is_word_byte is_quiet word_quiet t w.bytes

starts_word : (t : List ℕ) → IsWord t → starts t ≡ true
starts_word [] w = absurd (true≢false (sym w.letter))
starts_word (b ∷ t) w = letter_tests b w.letter

register_operand : (t : List ℕ) (x : Operand) → IsRegister t x → IsOperand t (bare x)
unfolding worded ended skip
register_operand t x r = record {
  read = ap operand_of (sym (append-nil t)) ∙ word_operand t [] r.word r.no_size refl ∙ ap (λ (y : Option Operand). either y (λ x. Some (bare x)) (named t [])) r.found;
  quiet = quiet_word t r.word;
  starts = starts_word t r.word;
}

-- ---- numbers

minus_or : (b : Bool) → (b || true) ≡ true
minus_or true = refl
minus_or false = refl

signed_first : (z : ℤ) → fits_64 z ≡ true → mark_at 91 (signed_decimal z) ≡ None
signed_first (pos n) f =
    let h : n < 2 ^ 64 = grind (arith, nat_tests) in
    let e = append-nil (decimal n) in
    mark_none 91 (decimal n) (subst (λ (l : List ℕ). stops is_blank l ≡ true) e (decimal_front is_blank digit_no_blank n [] h)) (subst (λ (l : List ℕ). stops (is 91) l ≡ true) e (decimal_front (is 91) digit_no_bracket n [] h))
signed_first (negsuc n) f = mark_none 91 (45 ∷ decimal (suc n)) refl refl

signed_test : (z : ℤ) → fits_64 z ≡ true → (is_ascii_digit (slice_index (word_at (signed_decimal z)) 0) || is_some (mark_at 45 (signed_decimal z))) ≡ true
signed_test (pos n) f =
    let h : n < 2 ^ 64 = grind (arith, nat_tests) in
    ap (λ b. b || is_some (mark_at 45 (decimal n))) (ap (λ (l : List ℕ). is_ascii_digit (slice_index l 0)) (decimal_alone n h) ∙ decimal_digit n h)
signed_test (negsuc n) f =
    let text : List ℕ = 45 ∷ decimal (suc n) in
    ap (λ x. is_ascii_digit (slice_index (word_at text) 0) || is_some x) (mark_here 45 (decimal (suc n)) refl) ∙ minus_or (is_ascii_digit (slice_index (word_at text) 0))

digit_starts : (ds : List ℕ) → stops is_blank ds ≡ true → stops (is 58) ds ≡ true → 0 < length ds → starts ds ≡ true
digit_starts [] b c s = absurd (omega arith)
digit_starts (d ∷ ds) b c s = λ i. b i && c i

signed_starts : (z : ℤ) → fits_64 z ≡ true → starts (signed_decimal z) ≡ true
signed_starts (pos n) f =
    let h : n < 2 ^ 64 = grind (arith, nat_tests) in
    let e = append-nil (decimal n) in
    digit_starts (decimal n) (subst (λ (l : List ℕ). stops is_blank l ≡ true) e (decimal_front is_blank digit_no_blank n [] h)) (subst (λ (l : List ℕ). stops (is 58) l ≡ true) e (decimal_front (is 58) digit_no_colon n [] h))
    (reads n h).some
signed_starts (negsuc n) f = refl

signed_operand : (z : ℤ) → fits_64 z ≡ true → IsOperand (signed_decimal z) (bare (o.Number (Some z)))
unfolding operand_of plain_operand
signed_operand z f =
    let text = signed_decimal z in
    record {
      read =
          ap (λ (x : Option (List ℕ)). either x (λ behind. option_map memory (bracketed behind)) (either (size_of (word_at text)) (λ w. sized w (after_word text)) (plain_operand text))) (signed_first z f)
          ∙ ap (λ (x : Option ℕ). either x (λ w. sized w (after_word text)) (plain_operand text)) (signed_no_word z f).size
          ∙ ap (λ b. cond b (option_map (λ n. bare (o.Number n)) (number_alone text)) (worded (word_at text) (after_word text))) (signed_test z f)
          ∙ ap (option_map (λ n. bare (o.Number n))) (number_whole z f);
      quiet = weaker is_inner is_quiet inner_quiet text (inner_signed z f);
      starts = signed_starts z f;
    }

rel_word : IsWord (codes "rel")
rel_word = record { bytes = refl; letter = refl }

rel_no_size : size_of (codes "rel") ≡ None
unfolding size_of first_from size_text
rel_no_size = refl

rel_no_register : register (codes "rel") ≡ None
unfolding register register_of bounds_of register_text first_from text_8 text_16 text_32 text_64 bounds_text
rel_no_register = refl

relative_operand : (z : ℤ) → fits_32 z ≡ true → IsOperand (codes "rel " ++ signed_decimal z) (bare (o.Relative (Some z)))
unfolding worded named
relative_operand z f =
    let text = signed_decimal z in
    record {
      read =
          word_operand (codes "rel") (32 ∷ text) rel_word rel_no_size refl
          ∙ ap (λ (y : Option Operand). either y (λ x. cond (ended (32 ∷ text)) (Some (bare x)) None) (named (codes "rel") (32 ∷ text))) rel_no_register
          ∙ ap (option_map (λ n. bare (o.Relative n))) (number_space text ∙ number_whole z (fits_wide z f));
      quiet = weaker is_inner is_quiet inner_quiet text (inner_signed z (fits_wide z f));
      starts = refl;
    }

-- ---- memory

bracketed_read : (m : Mem) → mem_ok m ≡ true → bracketed (address_text m.base m.index m.disp ++ 93 ∷ []) ≡ Some (place m)
unfolding bracketed ended skip
bracketed_read m ok =
    let inside = address_text m.base m.index m.disp in
    let text = inside ++ 93 ∷ [] in
    let all : list_all is_inside inside ≡ true = weaker is_inner is_inside inner_inside inside (inner_address m ok) in
    ap (λ (l : List ℕ). either (mark_at 93 l) (λ behind. cond (ended behind) (place_of (take_while is_inside text)) None) None) (span_dropped is_inside inside (93 ∷ []) all refl)
    ∙ ap (λ (x : Option (List ℕ)). either x (λ behind. cond (ended behind) (place_of (take_while is_inside text)) None) None) (mark_here 93 [] refl)
    ∙ ap place_of (span_taken is_inside inside (93 ∷ []) all refl)
    ∙ place_read m ok

quiet_memory : (m : Mem) → mem_ok m ≡ true → list_all is_quiet (memory_text m) ≡ true
unfolding memory_text
quiet_memory m ok =
    let inside = address_text m.base m.index m.disp in
    both is_quiet inside (93 ∷ []) (weaker is_inner is_quiet inner_quiet inside (inner_address m ok)) refl

memory_operand : (m : Mem) → mem_ok m ≡ true → IsOperand (memory_text m) (memory (place m))
unfolding memory_text operand_of
memory_operand m ok =
    let behind = address_text m.base m.index m.disp ++ 93 ∷ [] in
    let text : List ℕ = 91 ∷ behind in
    record {
      read =
          ap (λ (x : Option (List ℕ)). either x (λ behind. option_map memory (bracketed behind)) (either (size_of (word_at text)) (λ w. sized w (after_word text)) (plain_operand text))) (mark_here 91 behind refl)
          ∙ ap (option_map memory) (bracketed_read m ok);
      quiet = quiet_memory m ok;
      starts = refl;
    }

sized_read : (w : ℕ) (m : Mem) → mem_ok m ≡ true → sized w (32 ∷ memory_text m) ≡ Some (sized_memory w (place m))
unfolding memory_text sized
sized_read w m ok =
    let behind = address_text m.base m.index m.disp ++ 93 ∷ [] in
    ap (λ (x : Option (List ℕ)). either x (λ behind. option_map (sized_memory w) (bracketed behind)) None) (mark_space 91 (91 ∷ behind) ∙ mark_here 91 behind refl)
    ∙ ap (option_map (sized_memory w)) (bracketed_read m ok)

sized_operand : (w : ℕ) (m : Mem) → IsSize w (size_text w) → mem_ok m ≡ true → IsOperand (size_text w ++ codes " " ++ memory_text m) (sized_memory w (place m))
unfolding operand_of
sized_operand w m s ok =
    let rest : List ℕ = 32 ∷ memory_text m in
    let text = size_text w ++ rest in
    let same : size_text w ++ codes " " ++ memory_text m ≡ text = append_assoc (size_text w) (32 ∷ []) (memory_text m) in
    record {
      read =
          ap operand_of same
          ∙ ap (λ (x : Option (List ℕ)). either x (λ behind. option_map memory (bracketed behind)) (either (size_of (word_at text)) (λ w. sized w (after_word text)) (plain_operand text))) (word_first (size_text w) rest s.word)
          ∙ ap (λ (x : Option ℕ). either x (λ w. sized w (after_word text)) (plain_operand text)) (ap size_of (word_of (size_text w) rest s.word refl) ∙ s.found)
          ∙ ap (sized w) (after_of (size_text w) rest s.word refl)
          ∙ sized_read w m ok;
      quiet = ap (list_all is_quiet) same ∙ both is_quiet (size_text w) rest (quiet_word (size_text w) s.word) (quiet_memory m ok);
      starts = ap starts same ∙ word_starts (size_text w) rest s.word;
    }

-- ---- every operand

-- what an operand is read as
abbrev pub meant : Written → Named
meant Nothing = bare o.Nothing
meant (Register w r) = bare (o.Register w r)
meant (Bounds b) = bare (o.Bounds b)
meant (Memory m) = memory (place m)
meant (Sized w m) = sized_memory w (place m)
meant (Signed z) = bare (o.Number (Some z))
meant (Relative z) = bare (o.Relative (Some z))

-- there is one, and its registers and numbers are such
abbrev pub is_operand : Written → Bool
is_operand Nothing = false
is_operand (Register w r) = width_ok w && reg_ok r
is_operand (Bounds b) = bnd_ok b
is_operand (Memory m) = mem_ok m
is_operand (Sized w m) = width_ok w && mem_ok m
is_operand (Signed z) = fits_64 z
is_operand (Relative z) = fits_32 z

pub operand_read : (x : Written) → is_operand x ≡ true → IsOperand (operand_text x) (meant x)
unfolding operand_text
operand_read Nothing ok = absurd (true≢false (sym ok))
operand_read (Register w r) ok =
    let p = and_parts (width_ok w) (reg_ok r) ok in
    let below : r.0 < 16 = grind (arith, nat_tests, p.1) in
    by_width (λ (w : ℕ). IsOperand (register_text w r.0) (bare (o.Register w r)))
    (register_operand (register_text 8 r.0) (o.Register 8 r) (register_8 r.0 below))
    (register_operand (register_text 16 r.0) (o.Register 16 r) (register_16 r.0 below))
    (register_operand (register_text 32 r.0) (o.Register 32 r) (register_32 r.0 below))
    (register_operand (register_text 64 r.0) (o.Register 64 r) (register_64 r.0 below))
    w p.0
operand_read (Bounds b) ok = let below : b < 4 = grind (arith, nat_tests, ok) in register_operand (bounds_text b) (o.Bounds b) (bounds_register b below)
operand_read (Memory m) ok = memory_operand m ok
operand_read (Sized w m) ok =
    let p = and_parts (width_ok w) (mem_ok m) ok in
    sized_operand w m (by_width (λ (w : ℕ). IsSize w (size_text w)) size_8 size_16 size_32 size_64 w p.0) p.1
operand_read (Signed z) ok = signed_operand z ok
operand_read (Relative z) ok = relative_operand z ok
