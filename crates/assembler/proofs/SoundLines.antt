-- Every line is sound.
use Rattle.std.proofs.Common.{◌≡◌, refl, subst, ℕ, ◌≤◌, Bool, true, false, cond, not, List, [], ◌∷◌, length, drop, take, Option, Some, None, inl, inr, arith, suc}
use Rattle.std.specs.Prelude.{◌&&◌, ◌||◌, nat_eq, nat_le, if◌then◌else◌, codes, ℤ, pos, negsuc, ◌-ℤ◌, count_by, slice_index, filter}
use Rattle.std.specs.List.{prefix_len, take_while, list_all}
use Rattle.std.specs.Str.{bytes_eq}
use Rattle.std.proofs.lemmas.Bool.{and_parts, leb-true, not-false}
use Rattle.std.proofs.lemmas.Bool.Decides.{nat_tests}
use Rattle.std.proofs.lemmas.List.{length-take, length-drop}
use Rattle.std.proofs.lemmas.List.Splits.{length-slice_split}
use Rattle.std.proofs.lemmas.List.Sums.{length-filter}
use Rattle.x86_forms.specs.declared.instr.Instr.{Instr}
use Rattle.x86_forms.specs.Fits.{fits_64}
use Rattle.x86_forms.specs.Layout.{layout_of}
use Rattle.x86_forms.specs.Validity.{valid_of}
use Rattle.asm_names.specs.declared.mnemonic.Mnemonic.{Mnemonic}
use Rattle.asm_names.specs.Mnemonics.{mnemonic_of}
use Rattle.asm_text.specs.declared.parts.Operand.TheVariants.{Nothing}
use Rattle.asm_text.specs.declared.parts.Choice.{Choice}
use Rattle.asm_text.specs.declared.parts.Kind.{Kind}
use Rattle.asm_text.specs.declared.parts.Kind.TheVariants as k
use Rattle.asm_text.specs.Cuts.{is}
use Rattle.asm_text.specs.Lexical.{either, is_blank, is_word_byte, skip, ended, word_at, after_word, mark_at, number_alone, addend_at, is_name, is_local}
use Rattle.asm_text.specs.Operands.{Named, bare, operand_of}
use Rattle.asm_text.specs.Instructions.{built}
use Rattle.asm_text.specs.Lines.{Line, line, taken_off, first_text, other_text, second_of, first_of, naming, fix_addend, coded, code_line, with_operands, operands_line, instruction, parts_of, is_number_text, is_byte_text, byte_line, address_line, quad_number, quad_name, quad_line, zero_number, zero_line, is_alignment, align_number, align_line, begins_with_blank, is_signature, sig_text, after_sig, signs, sig_line, word_alone, data_directive, directive, label_line, code_only, statement, is_no_comment, parsed, line_of}
use Rattle.assembler.specs.Sound.{most_text, is_word, NamesField, IsSound}
use Rattle.assembler.proofs.Fields.{Fielded, built_fields}
use Rattle.assembler.proofs.SoundOperands.{of_some, IsSoundOperand, OnNamed, operand_of_ok, holds_if, holds_either}

-- ---- choices

sound_if : (sd : Bool) (t : Bool) (x y : Line) → (t ≡ true → IsSound sd x) → (t ≡ false → IsSound sd y) → IsSound sd (cond t x y)
sound_if sd true x y f g = f refl
sound_if sd false x y f g = g refl

sound_either : {A : Type 0} (sd : Bool) (o : Option A) (f : A → Line) (y : Line) → ((a : A) → o ≡ Some a → IsSound sd (f a)) → IsSound sd y → IsSound sd (either o f y)
sound_either sd (Some a) f y all h = all a refl
sound_either sd None f y all h = h

shape : (sd : Bool) → IsSound sd (line k.Shape)
unfolding IsSound
shape sd = tt

range : (sd : Bool) → IsSound sd (line k.Range)
unfolding IsSound
range sd = tt

-- ---- instructions

add_fits : (o : Option ℤ) (behind : ℕ) (z : ℤ) → fix_addend o behind ≡ Some z → fits_64 z ≡ true
add_fits None behind z e = absurd cc
add_fits (Some n) behind z e = by (fits_64 n && fits_64 (n -ℤ pos behind)) refl e
  where
    by : (b : Bool) → (fits_64 n && fits_64 (n -ℤ pos behind)) ≡ b → cond b (Some (n -ℤ pos behind)) None ≡ Some z → fits_64 z ≡ true
    by true h e = (let same : n -ℤ pos behind ≡ z = cc in subst (λ (x : ℤ). fits_64 x ≡ true) same (and_parts (fits_64 n) (fits_64 (n -ℤ pos behind)) h).1)
    by false h e = absurd cc

coded_sound : (sd : Bool) → sd ≡ false → (i : Instr) (name : List ℕ) (o : Option ℤ) → valid_of i ≡ true → NamesField name i → ((z : ℤ) → o ≡ Some z → fits_64 z ≡ true) → IsSound sd (coded i name o)
unfolding IsSound
coded_sound sd sec i name (Some z) v n f = (sec, (v, (n, f z refl)))
coded_sound sd sec i name None v n f = tt

code_line_sound : (sd : Bool) → sd ≡ false → (c : Choice) (x : Named) → NamesField x.name c.instr → IsSound sd (code_line c x)
unfolding code_line
code_line_sound sd sec c x n =
    sound_if sd (not (valid_of c.instr)) (line k.Shape) (if not c.fits then line k.Range else coded c.instr x.name (fix_addend x.addend (taken_off (layout_of c.instr)))) (λ _. shape sd)
    (λ e. sound_if sd (not c.fits) (line k.Range) (coded c.instr x.name (fix_addend x.addend (taken_off (layout_of c.instr)))) (λ _. range sd)
    (λ _. coded_sound sd sec c.instr x.name (fix_addend x.addend (taken_off (layout_of c.instr))) (not-false (valid_of c.instr) e) n (add_fits x.addend (taken_off (layout_of c.instr)))))

names_field : (p : Bool) (m : Mnemonic) (a b : Named) (c : Choice) → IsSoundOperand a → IsSoundOperand b → built p m a.operand b.operand ≡ Some c → NamesField (naming a b).name c.instr
names_field p m a b c sa sb e = by (nat_eq (length a.name) 0) refl sa sb
  where
    by : (t : Bool) → nat_eq (length a.name) 0 ≡ t → IsSoundOperand a → IsSoundOperand b → NamesField (cond t b a).name c.instr
    by true h sa (inl none) = inl none
    by true h sa (inr some) = inr (some.0, of_some Fielded (built p m a.operand b.operand) c e (built_fields p m a.operand b.operand (inr some.1)))
    by false h (inl none) sb = inl none
    by false h (inr some) sb = inr (some.0, of_some Fielded (built p m a.operand b.operand) c e (built_fields p m a.operand b.operand (inl some.1)))

with_operands_sound : (sd : Bool) → sd ≡ false → (p : Bool) (m : Mnemonic) (a b : Named) → IsSoundOperand a → IsSoundOperand b → IsSound sd (with_operands p m a b)
unfolding with_operands
with_operands_sound sd sec p m a b sa sb =
    sound_either sd (built p m a.operand b.operand) (λ c. code_line c (naming a b)) (line k.Shape) (λ c e. code_line_sound sd sec c (naming a b) (names_field p m a b c sa sb e)) (shape sd)

first_of_ok : (text : List ℕ) → OnNamed (first_of text)
unfolding first_of
first_of_ok text = holds_if IsSoundOperand (ended text) (Some (bare Nothing)) (operand_of (first_text text)) (λ _. inl refl) (λ _. operand_of_ok (first_text text))

second_of_ok : (text : List ℕ) → OnNamed (second_of text)
unfolding second_of
second_of_ok text = holds_either IsSoundOperand (mark_at 44 (other_text text)) (λ behind. operand_of behind) (Some (bare Nothing)) (λ behind. operand_of_ok behind) (inl refl)

operands_line_sound : (sd : Bool) → sd ≡ false → (p : Bool) (m : Mnemonic) (text : List ℕ) → IsSound sd (operands_line p m text)
unfolding operands_line
operands_line_sound sd sec p m text =
    sound_either sd (first_of text) (λ a. either (second_of text) (λ b. with_operands p m a b) (line k.Shape)) (line k.Shape)
    (λ a ea. sound_either sd (second_of text) (λ b. with_operands p m a b) (line k.Shape)
    (λ b eb. with_operands_sound sd sec p m a b (of_some IsSoundOperand (first_of text) a ea (first_of_ok text)) (of_some IsSoundOperand (second_of text) b eb (second_of_ok text))) (shape sd)) (shape sd)

instruction_sound : (sd : Bool) → sd ≡ false → (p : Bool) (text : List ℕ) → IsSound sd (instruction p text)
unfolding instruction
instruction_sound sd sec p text = sound_either sd (mnemonic_of (word_at text)) (λ m. operands_line p m (after_word text)) (line k.Shape) (λ m _. operands_line_sound sd sec p m (after_word text)) (shape sd)

-- ---- directives

filter_le : (p : ℕ → Bool) (xs : List ℕ) → length (filter p xs) ≤ length xs
filter_le p [] = omega arith
filter_le p (x ∷ xs) = by (filter_le p xs) (p x)
  where
    by : length (filter p xs) ≤ length xs → (b : Bool) → length (cond b (x ∷ filter p xs) (filter p xs)) ≤ suc (length xs)
    by more true = omega (arith, more)
    by more false = omega (arith, more)

pub count_le : (p : ℕ → Bool) (xs : List ℕ) → count_by p xs ≤ length xs
count_le p xs = omega (arith, length-filter p xs, filter_le p xs)

bytes_sound : (sd : Bool) → (text : List ℕ) → length text ≤ most_text → IsSound sd (record { kind = k.Bytes (length (parts_of text)); name = []; addend = pos 0; text = text })
unfolding IsSound
bytes_sound sd text few = (refl, omega (arith, few, length-slice_split (is 44) text, count_le (is 44) text))

byte_line_sound : (sd : Bool) → (text : List ℕ) → length text ≤ most_text → IsSound sd (byte_line text)
unfolding byte_line
byte_line_sound sd text few =
    sound_if sd (not (list_all is_number_text (parts_of text))) (line k.Shape) (if not (list_all is_byte_text (parts_of text)) then line k.Range else numbers) (λ _. shape sd)
    (λ _. sound_if sd (not (list_all is_byte_text (parts_of text))) (line k.Range) numbers (λ _. range sd) (λ _. bytes_sound sd text few))
  where
    numbers : Line
    numbers = record { kind = k.Bytes (length (parts_of text)); name = []; addend = pos 0; text = text }

address_sound : (sd : Bool) → sd ≡ true → (name : List ℕ) (z : ℤ) → is_name name ≡ true → fits_64 z ≡ true → IsSound sd (record { kind = k.Address; name = name; addend = z; text = [] })
unfolding IsSound
address_sound sd sec name z n f = (sec, (n, f))

address_line_sound : (sd : Bool) → sd ≡ true → (name : List ℕ) (o : Option ℤ) → is_name name ≡ true → IsSound sd (address_line name o)
address_line_sound sd sec name (Some z) n = sound_if sd (fits_64 z) (record { kind = k.Address; name = name; addend = z; text = [] }) (line k.Range) (λ f. address_sound sd sec name z n f) (λ _. range sd)
address_line_sound sd sec name None n = range sd

quad_sound : (sd : Bool) → (o : Option ℤ) → IsSound sd (quad_number o)
unfolding IsSound
quad_sound sd (Some z) = tt
quad_sound sd None = tt

quad_name_sound : (sd : Bool) → sd ≡ true → (name text : List ℕ) → is_name name ≡ true → IsSound sd (quad_name name text)
unfolding quad_name
quad_name_sound sd sec name text n =
    sound_either sd (addend_at text) (λ x. if ended x.1 then address_line name x.0 else line k.Shape) (line k.Shape)
    (λ x _. sound_if sd (ended x.1) (address_line name x.0) (line k.Shape) (λ _. address_line_sound sd sec name x.0 n) (λ _. shape sd)) (shape sd)

quad_line_sound : (sd : Bool) → sd ≡ true → (text : List ℕ) → IsSound sd (quad_line text)
unfolding quad_line
quad_line_sound sd sec text =
    sound_if sd (is_name (word_at text)) (quad_name (word_at text) (after_word text)) (either (number_alone text) quad_number (line k.Shape)) (λ e. quad_name_sound sd sec (word_at text) (after_word text) e)
    (λ _. sound_either sd (number_alone text) quad_number (line k.Shape) (λ n _. quad_sound sd n) (shape sd))

zero_kind : (sd : Bool) → (n : ℕ) → n ≤ 16_777_216 → IsSound sd (line (k.Zero n))
unfolding IsSound
zero_kind sd n h = h

zero_number_sound : (sd : Bool) → (o : Option ℤ) → IsSound sd (zero_number o)
zero_number_sound sd (Some (pos n)) = sound_if sd (nat_le n 16_777_216) (line (k.Zero n)) (line k.Range) (λ e. zero_kind sd n (leb-true n 16_777_216 e)) (λ _. range sd)
zero_number_sound sd (Some (negsuc n)) = range sd
zero_number_sound sd None = range sd

zero_line_sound : (sd : Bool) → (text : List ℕ) → IsSound sd (zero_line text)
unfolding zero_line
zero_line_sound sd text = sound_either sd (number_alone text) zero_number (line k.Shape) (λ n _. zero_number_sound sd n) (shape sd)

align_kind : (sd : Bool) → (n : ℕ) → is_alignment n ≡ true → IsSound sd (line (k.Align n))
unfolding IsSound
align_kind sd n e = grind (arith, nat_tests)

align_number_sound : (sd : Bool) → (o : Option ℤ) → IsSound sd (align_number o)
align_number_sound sd (Some (pos n)) = sound_if sd (is_alignment n) (line (k.Align n)) (line k.Range) (λ e. align_kind sd n e) (λ _. range sd)
align_number_sound sd (Some (negsuc n)) = range sd
align_number_sound sd None = range sd

align_line_sound : (sd : Bool) → (text : List ℕ) → IsSound sd (align_line text)
unfolding align_line
align_line_sound sd text = sound_either sd (number_alone text) align_number (line k.Shape) (λ n _. align_number_sound sd n) (shape sd)

sig_sound : (sd : Bool) → (name sig : List ℕ) → is_name name ≡ true → is_signature sig ≡ true → IsSound sd (record { kind = k.Sig; name = name; addend = pos 0; text = sig })
unfolding IsSound
sig_sound sd name sig n s = (n, s)

signs_sound : (sd : Bool) → (name rest : List ℕ) → IsSound sd (signs name rest)
unfolding signs
signs_sound sd name rest =
    sound_if sd (is_name name && begins_with_blank rest && is_signature (sig_text rest) && ended (after_sig rest)) (record { kind = k.Sig; name = name; addend = pos 0; text = sig_text rest }) (line k.Shape)
    (λ e. let c = and_parts (is_name name && begins_with_blank rest && is_signature (sig_text rest)) (ended (after_sig rest)) e in
    let d = and_parts (is_name name && begins_with_blank rest) (is_signature (sig_text rest)) c.0 in
    sig_sound sd name (sig_text rest) (and_parts (is_name name) (begins_with_blank rest) d.0).0 d.1)
    (λ _. shape sd)

word_alone_sound : (sd : Bool) → (kind : Kind) (text : List ℕ) → IsSound sd (line kind) → IsSound sd (word_alone kind text)
word_alone_sound sd kind text h = sound_if sd (ended text) (line kind) (line k.Shape) (λ _. h) (λ _. shape sd)

data_directive_sound : (sd : Bool) → sd ≡ true → (word text : List ℕ) → IsSound sd (data_directive word text)
unfolding data_directive
data_directive_sound sd sec word text =
    sound_if sd (bytes_eq word (codes ".quad")) (quad_line text) _ (λ _. quad_line_sound sd sec text)
    (λ _. sound_if sd (bytes_eq word (codes ".zero")) (zero_line text) _ (λ _. zero_line_sound sd text)
    (λ _. sound_if sd (bytes_eq word (codes ".align")) (align_line text) (line k.Shape) (λ _. align_line_sound sd text) (λ _. shape sd)))

text_kind : (sd : Bool) → IsSound sd (line k.Text)
unfolding IsSound
text_kind sd = tt

data_kind : (sd : Bool) → IsSound sd (line k.Data)
unfolding IsSound
data_kind sd = tt

empty_kind : (sd : Bool) → IsSound sd (line k.Empty)
unfolding IsSound
empty_kind sd = tt

directive_sound : (in_data : Bool) (word text : List ℕ) → length text ≤ most_text → IsSound in_data (directive in_data word text)
unfolding directive
directive_sound in_data word text few =
    sound_if in_data (bytes_eq word (codes ".text")) (word_alone k.Text text) _ (λ _. word_alone_sound in_data k.Text text (text_kind in_data))
    (λ _. sound_if in_data (bytes_eq word (codes ".data")) (word_alone k.Data text) _ (λ _. word_alone_sound in_data k.Data text (data_kind in_data))
    (λ _. sound_if in_data (bytes_eq word (codes ".byte")) (byte_line text) _ (λ _. byte_line_sound in_data text few)
    (λ _. sound_if in_data (bytes_eq word (codes ".sig")) (sig_line text) _ (λ _. signs_sound in_data (word_at text) (after_word text))
    (λ _. sound_if in_data in_data (data_directive word text) (line k.Shape) (λ e. data_directive_sound in_data e word text) (λ _. shape in_data)))))

-- ---- lines

label_sound : (sd : Bool) → (name : List ℕ) → is_word name ≡ true → IsSound sd (record { kind = k.Label; name = name; addend = pos 0; text = [] })
unfolding IsSound
label_sound sd name h = h

label_line_sound : (sd : Bool) → (name text : List ℕ) → IsSound sd (label_line name text)
label_line_sound sd name text =
    sound_if sd ((is_name name || is_local name) && ended text) (record { kind = k.Label; name = name; addend = pos 0; text = [] }) (line k.Shape)
    (λ e. label_sound sd name (and_parts (is_name name || is_local name) (ended text) e).0) (λ _. shape sd)

code_only_sound : (in_data : Bool) (text : List ℕ) → IsSound in_data (code_only in_data text)
unfolding code_only
code_only_sound in_data text =
    sound_if in_data in_data (line k.Shape) _ (λ _. shape in_data)
    (λ e. sound_if in_data (bytes_eq (word_at text) (codes "bnd")) (instruction true (after_word text)) (instruction false text) (λ _. instruction_sound in_data e true (after_word text)) (λ _. instruction_sound in_data e false text))

drop_le : (n : ℕ) (xs : List ℕ) → length (drop n xs) ≤ length xs
drop_le n xs = omega (arith, length-drop n xs)

after_word_le : (text : List ℕ) → length (after_word text) ≤ length text
unfolding after_word skip
after_word_le text = omega (arith, drop_le (prefix_len is_word_byte (skip text)) (skip text), drop_le (prefix_len is_blank text) text)

statement_sound : (in_data : Bool) (text : List ℕ) → length text ≤ most_text → IsSound in_data (statement in_data text)
unfolding statement
statement_sound in_data text few =
    sound_if in_data (nat_eq (slice_index (word_at text) 0) 46) (directive in_data (word_at text) (after_word text)) (code_only in_data text)
    (λ _. directive_sound in_data (word_at text) (after_word text) (omega (arith, after_word_le text, few))) (λ _. code_only_sound in_data text)

parsed_sound : (in_data : Bool) (text : List ℕ) → length text ≤ most_text → IsSound in_data (parsed in_data text)
unfolding parsed
parsed_sound in_data text few =
    sound_if in_data (ended text) (line k.Empty) _ (λ _. empty_kind in_data)
    (λ _. sound_either in_data (mark_at 58 (after_word text)) (label_line (word_at text)) (statement in_data text) (λ behind _. label_line_sound in_data (word_at text) behind) (statement_sound in_data text few))

take_le : (n : ℕ) (xs : List ℕ) → length (take n xs) ≤ length xs
take_le n xs = omega (arith, length-take n xs)

-- a line of a text that is not too long
pub line_of_sound : (in_data : Bool) (bytes : List ℕ) → length bytes ≤ most_text → IsSound in_data (line_of in_data bytes)
unfolding line_of
line_of_sound in_data bytes few = parsed_sound in_data (take_while is_no_comment bytes) (omega (arith, take_le (prefix_len is_no_comment bytes) bytes, few))
