-- What a line is: empty, a label, a directive or an instruction, all in lower case. `;` begins a comment.
use Rattle.std.specs.Prelude.{ℕ, ◌+◌, ◌-◌, ◌^◌, Bool, true, false, ◌&&◌, ◌||◌, not, nat_eq, nat_lt, nat_le, ◌==◌, if◌then◌else◌, List, [], ◌∷◌, length, drop, slice_index, Option, Some, None, is_some, option_map, option_and_then, codes, ℤ, pos, negsuc, ◌-ℤ◌}
use Rattle.std.specs.List.{prefix_len, take_while, list_all, slice_split}
use Rattle.std.specs.Str.{bytes_eq}
use Rattle.mx_base.specs.declared.numbers.IntKind.TheVariants.{U64}
use Rattle.mx_base.specs.Numbers.{residue, modulus}
use Rattle.x86_forms.specs.declared.instr.Instr.{Instr}
use Rattle.x86_forms.specs.declared.layout.Layout.{Layout}
use Rattle.x86_forms.specs.declared.layout.Operands.{Operands}
use Rattle.x86_forms.specs.declared.layout.Operands.TheVariants.{Bare, InOpcode, InModrm}
use Rattle.x86_forms.specs.declared.instr.Base.{Base}
use Rattle.x86_forms.specs.declared.instr.Base.TheVariants.{None as NoBase, Reg as BaseReg, Rip}
use Rattle.x86_forms.specs.declared.instr.Rm.{Rm}
use Rattle.x86_forms.specs.declared.instr.Rm.TheVariants.{Reg as InReg, Mem as InMem}
use Rattle.x86_forms.specs.Fits.{fits_64}
use Rattle.x86_forms.specs.Layout.{layout_of}
use Rattle.x86_forms.specs.Validity.{valid_of}
use Rattle.obj_file.specs.Names.{is_function_sig, is_data_sig}
use Rattle.asm_names.specs.declared.mnemonic.Mnemonic.{Mnemonic}
use Rattle.asm_names.specs.Mnemonics.{mnemonic_of}
use Rattle.asm_text.specs.declared.parts.Operand.{Operand}
use Rattle.asm_text.specs.declared.parts.Operand.TheVariants.{Nothing}
use Rattle.asm_text.specs.declared.parts.Choice.{Choice}
use Rattle.asm_text.specs.declared.parts.Kind.{Kind}
use Rattle.asm_text.specs.declared.parts.Kind.TheVariants as k
use Rattle.asm_text.specs.Cuts.{is}
use Rattle.asm_text.specs.Lexical.{either, skip, ended, word_at, after_word, mark_at, number_at, number_alone, addend_at, alone, is_name, is_local}
use Rattle.asm_text.specs.Operands.{Named, bare, operand_of, is_numeral}
use Rattle.asm_text.specs.Instructions.{built}

-- a line: what it is; the name that it defines, uses or signs, which is empty where there is none; the number added to the name; and the numbers
-- of `.byte` or the signature of `.sig`, as text
pub record Line : Type 0 where
  pub kind : Kind
  pub name : List ℕ
  pub addend : ℤ
  pub text : List ℕ

abbrev pub line : Kind → Line
line kind = record { kind = kind; name = []; addend = pos 0; text = [] }

-- ---- instructions

-- the bytes of an instruction behind the field that takes a name's address: an immediate stands behind a displacement
abbrev pub behind_operands : Operands → ℕ → ℕ
behind_operands (InModrm reg low (InMem m) low_rm) n = n
behind_operands (InModrm reg low (InReg r) low_rm) n = 0
behind_operands (InOpcode r) n = 0
behind_operands Bare n = 0

abbrev pub behind_field : Layout → ℕ
behind_field l = behind_operands l.operands l.imm_len

-- those of them that are taken off the addend: the value behind `rip` is reckoned from the end of the field, and that of the instruction is
-- meant; an absolute one is the address itself
abbrev pub behind_rip : Base → ℕ → ℕ
behind_rip Rip n = n
behind_rip NoBase n = 0
behind_rip (BaseReg r) n = 0

abbrev pub taken_operands : Operands → ℕ → ℕ
taken_operands (InModrm reg low (InMem m) low_rm) n = behind_rip m.base n
taken_operands (InModrm reg low (InReg r) low_rm) n = 0
taken_operands (InOpcode r) n = 0
taken_operands Bare n = 0

abbrev pub taken_off : Layout → ℕ
taken_off l = taken_operands l.operands l.imm_len

-- the operands of an instruction, one or two, are cut at the first comma
abbrev pub is_no_comma : ℕ → Bool
is_no_comma b = not (nat_eq b 44)

abbrev pub first_text : List ℕ → List ℕ
first_text text = take_while is_no_comma text

-- behind the first comma
abbrev pub other_text : List ℕ → List ℕ
other_text text = drop (prefix_len is_no_comma text) text

-- the second operand: none where no comma stands
unfoldable pub second_of : List ℕ → Option Named
second_of text = either (mark_at 44 (other_text text)) (λ behind. operand_of behind) (Some (bare Nothing))

unfoldable pub first_of : List ℕ → Option Named
first_of text = if ended text then Some (bare Nothing) else operand_of (first_text text)

-- the operand with a name, if one has it
abbrev pub naming : Named → Named → Named
naming a b = if nat_eq (length a.name) 0 then b else a

-- a number added to a name of a fix-up, off which some bytes are taken
abbrev pub fix_addend : Option ℤ → ℕ → Option ℤ
fix_addend (Some z) taken = if fits_64 z && fits_64 (z -ℤ pos taken) then Some (z -ℤ pos taken) else None
fix_addend None taken = None

abbrev pub coded : Instr → List ℕ → Option ℤ → Line
coded instr name (Some z) = record { kind = k.Code instr; name = name; addend = z; text = [] }
coded instr name None = line k.Range

-- a valid instruction whose numbers fit
unfoldable pub code_line : Choice → Named → Line
code_line c x =
    if not (valid_of c.instr) then line k.Shape
    else (if not c.fits then line k.Range
    else coded c.instr x.name (fix_addend x.addend (taken_off (layout_of c.instr))))

unfoldable pub with_operands : Bool → Mnemonic → Named → Named → Line
with_operands prefixed m a b = either (built prefixed m a.operand b.operand) (λ c. code_line c (naming a b)) (line k.Shape)

-- behind the mnemonic
unfoldable pub operands_line : Bool → Mnemonic → List ℕ → Line
operands_line prefixed m text = either (first_of text) (λ a. either (second_of text) (λ b. with_operands prefixed m a b) (line k.Shape)) (line k.Shape)

unfoldable pub instruction : Bool → List ℕ → Line
instruction prefixed text = either (mnemonic_of (word_at text)) (λ m. operands_line prefixed m (after_word text)) (line k.Shape)

-- ---- directives

-- numbers, one or more, between commas
abbrev pub parts_of : List ℕ → List (List ℕ)
parts_of text = slice_split (is 44) text

abbrev pub is_byte_number : Option ℤ → Bool
is_byte_number (Some (pos n)) = nat_lt n 256
is_byte_number (Some (negsuc n)) = nat_lt n 128
is_byte_number None = false

abbrev pub is_number_text : List ℕ → Bool
is_number_text part = is_some (number_alone part)

abbrev pub is_byte_text : List ℕ → Bool
is_byte_text part = either (number_alone part) is_byte_number false

unfoldable pub byte_line : List ℕ → Line
byte_line text =
    if not (list_all is_number_text (parts_of text)) then line k.Shape
    else (if not (list_all is_byte_text (parts_of text)) then line k.Range
    else record { kind = k.Bytes (length (parts_of text)); name = []; addend = pos 0; text = text })

abbrev pub address_line : List ℕ → Option ℤ → Line
address_line name (Some z) = if fits_64 z then record { kind = k.Address; name = name; addend = z; text = [] } else line k.Range
address_line name None = line k.Range

abbrev pub quad_number : Option ℤ → Line
quad_number (Some z) = line (k.Quad (residue (modulus U64) z))
quad_number None = line k.Range

-- a name, and a number added
unfoldable pub quad_name : List ℕ → List ℕ → Line
quad_name name text = either (addend_at text) (λ x. if ended x.1 then address_line name x.0 else line k.Shape) (line k.Shape)

unfoldable pub quad_line : List ℕ → Line
quad_line text = if is_name (word_at text) then quad_name (word_at text) (after_word text) else either (number_alone text) quad_number (line k.Shape)

abbrev pub zero_number : Option ℤ → Line
zero_number (Some (pos n)) = if nat_le n 16_777_216 then line (k.Zero n) else line k.Range
zero_number n = line k.Range

unfoldable pub zero_line : List ℕ → Line
zero_line text = either (number_alone text) zero_number (line k.Shape)

abbrev pub is_alignment : ℕ → Bool
is_alignment n = nat_eq n 1 || nat_eq n 2 || nat_eq n 4 || nat_eq n 8 || nat_eq n 16

abbrev pub align_number : Option ℤ → Line
align_number (Some (pos n)) = if is_alignment n then line (k.Align n) else line k.Range
align_number n = line k.Range

unfoldable pub align_line : List ℕ → Line
align_line text = either (number_alone text) align_number (line k.Shape)

abbrev pub is_blank_no : ℕ → Bool
is_blank_no b = not (nat_eq b 32 || nat_eq b 9 || nat_eq b 13)

-- a signature is one word: all up to a blank
abbrev pub is_signature : List ℕ → Bool
is_signature sig = nat_le (length sig) 63 && (is_function_sig sig || is_data_sig sig)

unfoldable pub sig_text : List ℕ → List ℕ
sig_text text = take_while is_blank_no (skip text)

unfoldable pub after_sig : List ℕ → List ℕ
after_sig text = drop (prefix_len is_blank_no (skip text)) (skip text)

abbrev pub begins_with_blank : List ℕ → Bool
begins_with_blank text = nat_lt 0 (length text) && not (is_blank_no (slice_index text 0))

-- a name and a signature with a blank between them, and nothing more
unfoldable pub signs : List ℕ → List ℕ → Line
signs name rest =
    if is_name name && begins_with_blank rest && is_signature (sig_text rest) && ended (after_sig rest)
    then record { kind = k.Sig; name = name; addend = pos 0; text = sig_text rest }
    else line k.Shape

-- behind `.sig`
abbrev pub sig_line : List ℕ → Line
sig_line text = signs (word_at text) (after_word text)

abbrev pub word_alone : Kind → List ℕ → Line
word_alone kind text = if ended text then line kind else line k.Shape

-- the directives that stand in data alone
unfoldable pub data_directive : List ℕ → List ℕ → Line
data_directive word text =
    if bytes_eq word (codes ".quad") then quad_line text
    else (if bytes_eq word (codes ".zero") then zero_line text
    else (if bytes_eq word (codes ".align") then align_line text
    else line k.Shape))

unfoldable pub directive : Bool → List ℕ → List ℕ → Line
directive in_data word text =
    if bytes_eq word (codes ".text") then word_alone k.Text text
    else (if bytes_eq word (codes ".data") then word_alone k.Data text
    else (if bytes_eq word (codes ".byte") then byte_line text
    else (if bytes_eq word (codes ".sig") then sig_line text
    else (if in_data then data_directive word text
    else line k.Shape))))

-- ---- lines

abbrev pub label_line : List ℕ → List ℕ → Line
label_line name text = if (is_name name || is_local name) && ended text then record { kind = k.Label; name = name; addend = pos 0; text = [] } else line k.Shape

-- an instruction, which stands in code alone
unfoldable pub code_only : Bool → List ℕ → Line
code_only in_data text =
    if in_data then line k.Shape
    else (if bytes_eq (word_at text) (codes "bnd") then instruction true (after_word text)
    else instruction false text)

-- a line that is no label
unfoldable pub statement : Bool → List ℕ → Line
statement in_data text =
    if nat_eq (slice_index (word_at text) 0) 46 then directive in_data (word_at text) (after_word text)
    else code_only in_data text

abbrev pub is_no_comment : ℕ → Bool
is_no_comment b = not (nat_eq b 59)

-- a line without its comment
unfoldable pub parsed : Bool → List ℕ → Line
parsed in_data text =
    if ended text then line k.Empty
    else either (mark_at 58 (after_word text)) (label_line (word_at text)) (statement in_data text)

-- what a line is, by its bytes and by whether it stands in data
unfoldable pub line_of : Bool → List ℕ → Line
line_of in_data bytes = parsed in_data (take_while is_no_comment bytes)
