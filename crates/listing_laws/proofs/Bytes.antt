-- Lines of bytes are read back.
use Rattle.std.proofs.Common.{◌≡◌, ℕ, ◌/◌, ◌%◌, ◌<◌, Bool, true, false, true≢false, cond, not, List, [], ◌∷◌, length, drop, Option, Some, None, is_some, refl, sym, ap, ◌∙◌, arith, nat_eq, nat_lt}
use Rattle.std.specs.Prelude.{◌&&◌, codes, map, slice_index, ℤ, pos, option_map, option_and_then}
use Rattle.std.specs.List.{list_all, slice_split, onto_first}
use Rattle.std.specs.Fmt.{digit_glyph}
use Rattle.std.specs.Char.{is_ascii_hexdigit}
use Rattle.std.proofs.lemmas.Bool.{and_parts}
use Rattle.std.proofs.lemmas.Bool.Decides.{nat_tests}
use Rattle.mx_base.specs.Numbers.{residue}
use Rattle.disasm.specs.Listing.{byte_text}
use Rattle.asm_text.specs.declared.parts.Kind.TheVariants as k
use Rattle.asm_text.specs.Cuts.{is}
use Rattle.asm_text.specs.Lexical.{either, is_word_byte, ended, skip, word_at, after_word, mark_at, digit_of, with_digit, value_of, is_decimal, magnitude, number_of, numeral_at, number_at, alone, number_alone}
use Rattle.asm_text.specs.Lines.{Line, line, parts_of, is_byte_number, is_number_text, is_byte_text, byte_line, directive, label_line, code_only, statement, parsed, line_of}
use Rattle.asm_text.specs.Assembly.{byte_of}
use Rattle.listing_laws.proofs.Spans.{front_word, behind_word}
use Rattle.listing_laws.proofs.Marks.{mark_none, mark_space, not_ended}
use Rattle.listing_laws.proofs.Words.{all_below, from_all}
use Rattle.listing_laws.proofs.Numbers.{step_of}
use Rattle.listing_laws.proofs.Texts.{is_line_byte}
use Rattle.listing_laws.proofs.Operands.{number_space}
use Rattle.listing_laws.proofs.Lines.{uncommented}

-- ---- hexadecimal digits

glyph_test : ℕ → Bool
glyph_test x = is_word_byte (digit_glyph false x) && is_ascii_hexdigit (digit_glyph false x) && nat_eq (digit_of (digit_glyph false x)) x && is_line_byte (digit_glyph false x) && not (is 44 (digit_glyph false x))

glyphs_tried : all_below glyph_test 16 ≡ true
unfolding glyph_test digit_of
glyphs_tried = refl

record IsGlyph (x : ℕ) : Type 0 where
  word : is_word_byte (digit_glyph false x) ≡ true
  hexadecimal : is_ascii_hexdigit (digit_glyph false x) ≡ true
  value : digit_of (digit_glyph false x) ≡ x
  line : is_line_byte (digit_glyph false x) ≡ true
  comma : not (is 44 (digit_glyph false x)) ≡ true

glyph : (x : ℕ) → x < 16 → IsGlyph x
unfolding glyph_test
glyph x h =
    let g = digit_glyph false x in
    let t = from_all glyph_test 16 glyphs_tried x h in
    let a = and_parts (is_word_byte g && is_ascii_hexdigit g && nat_eq (digit_of g) x && is_line_byte g) (not (is 44 g)) t in
    let b = and_parts (is_word_byte g && is_ascii_hexdigit g && nat_eq (digit_of g) x) (is_line_byte g) a.0 in
    let c = and_parts (is_word_byte g && is_ascii_hexdigit g) (nat_eq (digit_of g) x) b.0 in
    let d = and_parts (is_word_byte g) (is_ascii_hexdigit g) c.0 in
    let same : digit_of g ≡ x = grind (arith, nat_tests, c.1) in
    record { word = d.0; hexadecimal = d.1; value = same; line = b.1; comma = a.1 }

-- ---- a byte in two of them

-- the digits of a byte, behind `0x`
abbrev pub byte_word : ℕ → List ℕ
byte_word b = 48 ∷ 120 ∷ digit_glyph false (b / 16) ∷ digit_glyph false (b % 16) ∷ []

high : (b : ℕ) → b < 256 → IsGlyph (b / 16)
high b h = glyph (b / 16) (omega arith)

low : (b : ℕ) → IsGlyph (b % 16)
low b = glyph (b % 16) (omega arith)

value_read : (b : ℕ) → b < 256 → value_of 16 (digit_glyph false (b / 16) ∷ digit_glyph false (b % 16) ∷ []) ≡ Some b
value_read b h =
    ap (λ (x : Option ℕ). with_digit 16 x (digit_glyph false (b % 16))) (step_of 16 0 (digit_glyph false (b / 16)) (b / 16) (b / 16) (high b h).value (omega arith) (omega arith))
    ∙ step_of 16 (b / 16) (digit_glyph false (b % 16)) (b % 16) b (low b).value (omega arith) (omega arith)

word_whole : (b : ℕ) → b < 256 → list_all is_word_byte (byte_word b) ≡ true
word_whole b h = λ i. (high b h).word i && ((low b).word i && true)

magnitude_read : (b : ℕ) → b < 256 → magnitude (byte_word b) ≡ Some (Some b)
unfolding magnitude
magnitude_read b h =
    (λ i. cond ((high b h).hexadecimal i && ((low b).hexadecimal i && true)) (Some (value_of 16 (digit_glyph false (b / 16) ∷ digit_glyph false (b % 16) ∷ []))) (cond (is_decimal (byte_word b)) (Some (value_of 10 (byte_word b))) None))
    ∙ ap Some (value_read b h)

number_read : (b : ℕ) → b < 256 → number_alone (32 ∷ byte_word b) ≡ Some (Some (pos b))
unfolding number_alone number_at numeral_at number_of ended skip
number_read b h =
    let text = byte_word b in
    number_space text
    ∙ ap (λ (x : Option (List ℕ)). option_and_then alone (either x (λ behind. numeral_at true behind) (numeral_at false text))) (mark_none 45 text refl refl)
    ∙ (λ i. option_and_then alone (option_map (λ n. (number_of false n, behind_word text [] (word_whole b h) refl refl i)) (magnitude (front_word text [] (word_whole b h) refl refl i))))
    ∙ ap (λ (x : Option (Option ℕ)). option_and_then alone (option_map (λ n. (number_of false n, [])) x)) (magnitude_read b h)

-- ---- the line

abbrev pub byte_rest : ℕ → List ℕ
byte_rest b = 32 ∷ byte_word b

uncut : (xs : List ℕ) → list_all (λ x. not (is 44 x)) xs ≡ true → slice_split (is 44) xs ≡ xs ∷ []
uncut [] h = refl
uncut (x ∷ xs) h = let p = and_parts (not (is 44 x)) (list_all (λ x. not (is 44 x)) xs) h in by (is 44 x) p.0 (uncut xs p.1)
  where
    by : (b : Bool) → not b ≡ true → slice_split (is 44) xs ≡ xs ∷ [] → cond b ([] ∷ slice_split (is 44) xs) (onto_first x (slice_split (is 44) xs)) ≡ (x ∷ xs) ∷ []
    by true other e = absurd (true≢false (sym other))
    by false other e = ap (onto_first x) e

one_part : (b : ℕ) → b < 256 → parts_of (byte_rest b) ≡ byte_rest b ∷ []
one_part b h = uncut (byte_rest b) (λ i. (high b h).comma i && ((low b).comma i && true))

abbrev pub byte_read : ℕ → Line
byte_read b = record { kind = k.Bytes 1; name = []; addend = pos 0; text = byte_rest b }

-- the line of some parts of a text
abbrev parts_line : List ℕ → List (List ℕ) → Line
parts_line text ps =
    cond (not (list_all is_number_text ps)) (line k.Shape) (cond (not (list_all is_byte_text ps)) (line k.Range) (record { kind = k.Bytes (length ps); name = []; addend = pos 0; text = text }))

rest_read : (b : ℕ) → b < 256 → byte_line (byte_rest b) ≡ byte_read b
unfolding byte_line
rest_read b h =
    let text = byte_rest b in
    let small : nat_lt b 256 ≡ true = grind (arith, nat_tests) in
    ap (parts_line text) (one_part b h)
    ∙ ap (λ (x : Option (Option ℤ)). cond (not (is_some x && true)) (line k.Shape) (cond (not (either x is_byte_number false && true)) (line k.Range) (byte_read b))) (number_read b h)
    ∙ ap (λ c. cond (not (c && true)) (line k.Range) (byte_read b)) small

pub byte_value : (b : ℕ) → b < 256 → map byte_of (parts_of (byte_rest b)) ≡ b ∷ []
unfolding residue
byte_value b h =
    let same : b % 256 ≡ b = omega arith in
    ap (map byte_of) (one_part b h)
    ∙ ap (λ (x : Option (Option ℤ)). either x (λ n. either n (λ z. residue 256 z) 0) 0 ∷ []) (number_read b h)
    ∙ ap (λ n. n ∷ []) same

pub byte_quiet : (b : ℕ) → b < 256 → list_all is_line_byte (byte_text b) ≡ true
byte_quiet b h = λ i. (high b h).line i && ((low b).line i && true)

byte_parsed : (b : ℕ) → b < 256 → parsed false (byte_text b) ≡ byte_read b
unfolding parsed statement directive
byte_parsed b h =
    let text = byte_text b in
    let word : word_at text ≡ codes ".byte" = front_word (codes ".byte") (byte_rest b) refl refl refl in
    let behind : after_word text ≡ byte_rest b = behind_word (codes ".byte") (byte_rest b) refl refl refl in
    ap (λ c. cond c (line k.Empty) (either (mark_at 58 (after_word text)) (label_line (word_at text)) (statement false text))) (not_ended 46 (drop 1 text) refl)
    ∙ ap (λ (x : Option (List ℕ)). either x (label_line (word_at text)) (statement false text)) (ap (mark_at 58) behind ∙ (mark_space 58 (byte_word b) ∙ mark_none 58 (byte_word b) refl refl))
    ∙ (λ i. cond (nat_eq (slice_index (word i) 0) 46) (directive false (word i) (behind i)) (code_only false text))
    ∙ rest_read b h

-- a line of a byte is this byte
pub byte_is : (b : ℕ) → b < 256 → line_of false (byte_text b) ≡ byte_read b
byte_is b h = uncommented false (byte_text b) (byte_quiet b h) ∙ byte_parsed b h
