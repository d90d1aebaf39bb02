-- What holds of each line of a text of at most 536,870,912 bytes.
use Rattle.std.specs.Prelude.{◌≡◌, ℕ, ◌+◌, ◌≤◌, ◌⊎◌, Bool, true, false, ◌||◌, List, length}
use Rattle.x86_forms.specs.declared.instr.Instr.{Instr}
use Rattle.x86_forms.specs.Fits.{fits_64}
use Rattle.x86_forms.specs.Layout.{layout_of}
use Rattle.x86_forms.specs.Spelling.{spelling}
use Rattle.x86_forms.specs.Validity.{valid_of}
use Rattle.asm_text.specs.declared.parts.Kind.{Kind}
use Rattle.asm_text.specs.declared.parts.Kind.TheVariants as k
use Rattle.asm_text.specs.Lexical.{is_name, is_local}
use Rattle.asm_text.specs.Lines.{Line, behind_field, parts_of, is_signature}

-- the most bytes of a text
abbrev pub most_text : ℕ
most_text = 536_870_912

-- four bytes of an instruction are a field for the linker, with those of an immediate behind it
abbrev pub HasField : Instr → Type 0
HasField i = behind_field (layout_of i) + 4 ≤ length (spelling i)

abbrev pub is_word : List ℕ → Bool
is_word name = is_name name || is_local name

-- no name, or one that the field is for
abbrev pub NamesField : List ℕ → Instr → Type 0
NamesField name i = (length name ≡ 0) ⊎ ((is_word name ≡ true) × HasField i)

-- instructions stand in code alone, addresses in data alone
abbrev pub IsSoundKind : (in_data : Bool) → Line → Kind → Type 0
IsSoundKind in_data l (k.Code i) = (in_data ≡ false) × ((valid_of i ≡ true) × (NamesField l.name i × (fits_64 l.addend ≡ true)))
IsSoundKind in_data l k.Label = is_word l.name ≡ true
IsSoundKind in_data l (k.Bytes n) = (n ≡ length (parts_of l.text)) × (n ≤ most_text + 1)
IsSoundKind in_data l k.Address = (in_data ≡ true) × ((is_name l.name ≡ true) × (fits_64 l.addend ≡ true))
IsSoundKind in_data l (k.Zero n) = n ≤ 16_777_216
IsSoundKind in_data l (k.Align n) = (1 ≤ n) × (n ≤ 16)
IsSoundKind in_data l k.Sig = (is_name l.name ≡ true) × (is_signature l.text ≡ true)
IsSoundKind in_data l x = Unit {0}

-- what a line is, its name and its numbers belong together
unfoldable pub IsSound : (in_data : Bool) → Line → Type 0
IsSound in_data l = IsSoundKind in_data l l.kind
