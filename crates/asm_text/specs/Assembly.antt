-- The object of a text, or its first refused line: what each line adds to the object, line by line.
use Rattle.std.specs.Prelude.{ℕ, ◌+◌, ◌-◌, ◌*◌, ◌%◌, ◌^◌, Bool, true, false, ◌&&◌, ◌||◌, not, nat_eq, nat_lt, nat_le, if◌then◌else◌, List, [], ◌∷◌, ◌++◌, length, take, drop, map, filter, find, fold, replicate, Option, Some, None, is_some, is_none, option_map, option_and_then, Result, Ok, Err, ℤ, pos, ◌+ℤ◌, ◌-ℤ◌}
use Rattle.std.specs.List.{list_any, slice_split}
use Rattle.std.specs.Int.{to_le_bytes, w64}
use Rattle.std.specs.Str.{bytes_eq}
use Rattle.mx_base.specs.Numbers.{residue}
use Rattle.x86_forms.specs.declared.instr.Instr.{Instr}
use Rattle.x86_forms.specs.declared.instr.Instr.TheVariants.{CallRel, JmpRel, Jcc}
use Rattle.x86_forms.specs.declared.instr.Base.{Base}
use Rattle.x86_forms.specs.declared.instr.Base.TheVariants.{None as NoBase, Reg as BaseReg, Rip}
use Rattle.x86_forms.specs.declared.instr.Rm.{Rm}
use Rattle.x86_forms.specs.declared.instr.Rm.TheVariants.{Reg as InReg, Mem as InMem}
use Rattle.x86_forms.specs.declared.layout.Operands.{Operands}
use Rattle.x86_forms.specs.declared.layout.Operands.TheVariants.{Bare, InOpcode, InModrm}
use Rattle.x86_forms.specs.Fits.{fits_32}
use Rattle.x86_forms.specs.Layout.{layout_of}
use Rattle.x86_forms.specs.Spelling.{spelling}
use Rattle.obj_file.specs.declared.object.Object.{Object}
use Rattle.obj_file.specs.declared.object.Symbol.{Symbol}
use Rattle.obj_file.specs.declared.object.Fix.{Fix}
use Rattle.obj_file.specs.Object.{suits, most_code}
use Rattle.asm_text.specs.declared.fault.AsmKind.{AsmKind}
use Rattle.asm_text.specs.declared.fault.AsmKind.TheVariants as fault
use Rattle.asm_text.specs.declared.parts.Kind.{Kind}
use Rattle.asm_text.specs.declared.parts.Kind.TheVariants as k
use Rattle.asm_text.specs.declared.parts.Cursor.{Cursor}
use Rattle.asm_text.specs.Cuts.{is}
use Rattle.asm_text.specs.Lexical.{either, is_local, number_alone}
use Rattle.asm_text.specs.Lines.{Line, line_of, behind_field, parts_of}

-- ---- lines in their places

-- the lines of a text, which LF ends
abbrev pub texts_of : List ℕ → List (List ℕ)
texts_of bytes = slice_split (is 10) bytes

-- the zero bytes up to the next multiple of n
abbrev pub padding : ℕ → ℕ → ℕ
padding n at = (n - at % n) % n

-- the bytes that a line adds to its part. They don't depend on addresses
unfoldable pub size_of : Cursor → Kind → ℕ
size_of at (k.Code i) = length (spelling i)
size_of at (k.Bytes n) = n
size_of at (k.Quad n) = 8
size_of at k.Address = 8
size_of at (k.Zero n) = n
size_of at (k.Align n) = padding n at.stored
size_of at x = 0

abbrev pub section_after : Bool → Kind → Bool
section_after in_data k.Text = false
section_after in_data k.Data = true
section_after in_data x = in_data

-- where the next line stands
unfoldable pub after : Cursor → Kind → Cursor
after at x = record {
  in_data = section_after at.in_data x;
  code = if at.in_data then at.code else at.code + size_of at x;
  stored = if at.in_data then at.stored + size_of at x else at.stored;
  line = at.line + 1;
}

-- a line, and where it stands
pub record Placed : Type 0 where
  pub at : Cursor
  pub line : Line

abbrev pub placed : Cursor → List (List ℕ) → List Placed
placed at [] = []
placed at (text ∷ texts) = record { at = at; line = line_of at.in_data text } ∷ placed (after at (line_of at.in_data text).kind) texts

abbrev pub start : Cursor
start = record { in_data = false; code = 0; stored = 0; line = 1 }

-- ---- labels

-- a label: its name, its part and offset, and its line
pub record Label : Type 0 where
  pub name : List ℕ
  pub in_data : Bool
  pub offset : ℕ
  pub line : ℕ

abbrev pub offset_of : Cursor → ℕ
offset_of at = if at.in_data then at.stored else at.code

abbrev pub is_label : Kind → Bool
is_label k.Label = true
is_label x = false

abbrev pub is_of : List ℕ → Label → Bool
is_of name l = bytes_eq l.name name

abbrev pub label_of : List Label → List ℕ → Option Label
label_of labels name = find (is_of name) labels

-- the first label of each name counts
abbrev pub with_label : List Label → Placed → List Label
with_label labels p =
    if is_label p.line.kind && is_none (label_of labels p.line.name)
    then labels ++ record { name = p.line.name; in_data = p.at.in_data; offset = offset_of p.at; line = p.at.line } ∷ []
    else labels

abbrev pub labels_of : List Placed → List Label
labels_of lines = fold with_label [] lines

-- the label, if it stands before a line
abbrev pub is_before : ℕ → Label → Bool
is_before line l = nat_lt l.line line

unfoldable pub earlier_label : List Label → Placed → Option Label
earlier_label labels p = find (λ l. is_of p.line.name l && is_before p.at.line l) labels

-- the offset in the code of a local label
unfoldable pub local_target : List Label → List ℕ → Option ℕ
local_target labels name = option_and_then (λ l. if l.in_data then None else Some l.offset) (label_of labels name)

-- ---- branches to local labels

-- a branch whose target is counted from its end
unfoldable pub with_target : Instr → ℤ → Instr
with_target (CallRel prefixed rel) z = CallRel prefixed z
with_target (JmpRel prefixed rel) z = JmpRel prefixed z
with_target (Jcc prefixed op rel) z = Jcc prefixed op z
with_target i z = i

-- the way from the end of the instruction to its target
abbrev pub way : Placed → Instr → ℕ → ℤ
way p i target = (pos target +ℤ p.line.addend) -ℤ pos (p.at.code + length (spelling i))

-- ---- fields that the linker fills

abbrev pub form_over : Base → ℕ
form_over Rip = 2
form_over NoBase = 1
form_over (BaseReg r) = 1

-- relative to the field's end in a branch and behind `rip`, else absolute
abbrev pub form_of : Operands → ℕ
form_of Bare = 2
form_of (InModrm reg low (InMem m) low_rm) = form_over m.base
form_of (InModrm reg low (InReg r) low_rm) = 1
form_of (InOpcode r) = 1

-- the field has 4 bytes, with so many behind it
abbrev pub field_at : List ℕ → ℕ → ℕ
field_at code behind = length code - (behind + 4)

unfoldable pub blanked : List ℕ → ℕ → List ℕ
blanked code behind = take (field_at code behind) code ++ (0 ∷ 0 ∷ 0 ∷ 0 ∷ []) ++ drop (field_at code behind + 4) code

-- ---- bytes

abbrev pub local_code : List Label → Placed → Instr → List ℕ
local_code labels p i = either (local_target labels p.line.name) (λ target. spelling (with_target i (way p i target))) []

-- the bytes of an instruction: with the way to a local label, with a field for the linker, or as they are
unfoldable pub code_of : List Label → Placed → Instr → List ℕ
code_of labels p i =
    if nat_eq (length p.line.name) 0 then spelling i
    else (if is_local p.line.name then local_code labels p i
    else blanked (spelling i) (behind_field (layout_of i)))

abbrev pub byte_of : List ℕ → ℕ
byte_of part = either (number_alone part) (λ n. either n (λ z. residue 256 z) 0) 0

unfoldable pub bytes_of : List Label → Placed → Kind → List ℕ
bytes_of labels p (k.Code i) = code_of labels p i
bytes_of labels p (k.Bytes n) = map byte_of (parts_of p.line.text)
bytes_of labels p (k.Quad n) = to_le_bytes w64 n
bytes_of labels p k.Address = replicate 8 0
bytes_of labels p (k.Zero n) = replicate n 0
bytes_of labels p (k.Align n) = replicate (padding n p.at.stored) 0
bytes_of labels p x = []

-- ---- the object so far

pub record Draft : Type 0 where
  pub code : List ℕ
  pub stored : List ℕ
  -- how many of the labels that are symbols stand in lines so far
  pub labels : ℕ
  pub symbols : List Symbol
  pub code_fixes : List Fix
  pub stored_fixes : List Fix

abbrev pub is_named : List ℕ → Symbol → Bool
is_named name s = bytes_eq s.name name

abbrev pub number_from : List ℕ → ℕ → List Symbol → Option ℕ
number_from name n [] = None
number_from name n (s ∷ more) = if is_named name s then Some n else number_from name (n + 1) more

abbrev pub import : List ℕ → Symbol
import name = record { part = 0; offset = 0; name = name; sig = [] }

-- a name that is used: a symbol, or else one more import
abbrev pub with_use : List Symbol → List ℕ → List Symbol
with_use symbols name = if list_any (is_named name) symbols then symbols else symbols ++ import name ∷ []

abbrev pub number_of : List Symbol → List ℕ → ℕ
number_of symbols name = either (number_from name 0 symbols) (λ n. n) (length symbols)

-- a line uses a symbol
unfoldable pub uses : Line → Kind → Bool
uses l k.Address = true
uses l (k.Code i) = nat_lt 0 (length l.name) && not (is_local l.name)
uses l x = false

unfoldable pub fix_of : Draft → Placed → Kind → List Fix
fix_of d p (k.Code i) =
    if uses p.line (k.Code i)
    then record { part = 1; offset = p.at.code + field_at (spelling i) (behind_field (layout_of i)); form = form_of (layout_of i).operands; symbol = number_of d.symbols p.line.name; addend = p.line.addend } ∷ []
    else []
fix_of d p k.Address = record { part = 2; offset = p.at.stored; form = 0; symbol = number_of d.symbols p.line.name; addend = p.line.addend } ∷ []
fix_of d p x = []

-- a signature is given to the symbol of its name
abbrev pub signed : List ℕ → List ℕ → Symbol → Symbol
signed name sig s = if is_named name s then record s { sig = sig } else s

unfoldable pub symbols_after : Draft → Line → Kind → List Symbol
symbols_after d l k.Sig = map (signed l.name l.text) d.symbols
symbols_after d l x = if uses l x then with_use d.symbols l.name else d.symbols

abbrev pub labels_after : Draft → Line → Kind → ℕ
labels_after d l k.Label = if is_local l.name then d.labels else d.labels + 1
labels_after d l x = d.labels

-- what a line adds to the object
unfoldable pub with_line : List Label → Draft → Placed → Draft
with_line labels d p = record {
  code = if p.at.in_data then d.code else d.code ++ bytes_of labels p p.line.kind;
  stored = if p.at.in_data then d.stored ++ bytes_of labels p p.line.kind else d.stored;
  labels = labels_after d p.line p.line.kind;
  symbols = symbols_after d p.line p.line.kind;
  code_fixes = if p.at.in_data then d.code_fixes else d.code_fixes ++ fix_of d p p.line.kind;
  stored_fixes = if p.at.in_data then d.stored_fixes ++ fix_of d p p.line.kind else d.stored_fixes;
}

-- ---- refused lines

abbrev pub sig_of : List Symbol → List ℕ → List ℕ
sig_of symbols name = either (find (is_named name) symbols) (λ s. s.sig) []

abbrev pub part_of : Label → ℕ
part_of l = if l.in_data then 2 else 1

-- a signature of a function on data, or of data on a function
unfoldable pub unsuited : List Label → Placed → Kind → Bool
unsuited labels p k.Sig = either (earlier_label labels p) (λ l. not (suits (part_of l) p.line.text)) false
unsuited labels p x = false

-- a local label too far away
unfoldable pub is_far : List Label → Placed → Kind → Bool
is_far labels p (k.Code i) = is_local p.line.name && either (local_target labels p.line.name) (λ target. not (fits_32 (way p i target))) false
is_far labels p x = false

-- the line passes a limit of objects; of the symbols those count that were labelled or imported so far
unfoldable pub passes : (defined : ℕ) → Draft → Placed → Kind → Bool
passes defined d p x =
    nat_lt (most_code true) (after p.at x).code || nat_lt 16_777_216 (after p.at x).stored
    || nat_lt 65_536 (labels_after d p.line x + (length (symbols_after d p.line x) - defined))
    || nat_lt 1_048_576 (length d.code_fixes + length d.stored_fixes + length (fix_of d p x))

-- a label or a signature again
unfoldable pub again : List Label → Draft → Placed → Kind → Bool
again labels d p k.Label = is_some (earlier_label labels p)
again labels d p k.Sig = nat_lt 0 (length (sig_of d.symbols p.line.name))
again labels d p x = false

-- a local label, or the name of a signature, that isn't defined
unfoldable pub lacks : List Label → Placed → Kind → Bool
lacks labels p (k.Code i) = is_local p.line.name && is_none (local_target labels p.line.name)
lacks labels p k.Sig = is_none (earlier_label labels p)
lacks labels p x = false

abbrev pub is_shapeless : Kind → Bool
is_shapeless k.Shape = true
is_shapeless x = false

abbrev pub is_outside : Kind → Bool
is_outside k.Range = true
is_outside x = false

-- a line is refused by the first of these
unfoldable pub fault_of : List Label → (defined : ℕ) → Draft → Placed → Kind → Option AsmKind
fault_of labels defined d p x =
    if is_shapeless x || unsuited labels p x then Some fault.Shape
    else (if is_outside x || is_far labels p x || passes defined d p x then Some fault.Range
    else (if again labels d p x then Some fault.Twice
    else (if lacks labels p x then Some fault.NoLocal
    else None)))

-- ---- objects

abbrev pub is_symbol : Label → Bool
is_symbol l = not (is_local l.name)

abbrev pub symbol_of : Label → Symbol
symbol_of l = record { part = part_of l; offset = l.offset; name = l.name; sig = [] }

-- the labels are the first symbols
abbrev pub labelled : List Label → List Symbol
labelled labels = map symbol_of (filter is_symbol labels)

abbrev pub nothing : List Label → Draft
nothing labels = record { code = []; stored = []; labels = 0; symbols = labelled labels; code_fixes = []; stored_fixes = [] }

abbrev pub object_of : Draft → Object
object_of d = record { legacy = true; file = []; code = d.code; stored = d.stored; symbols = d.symbols; fixes = d.code_fixes ++ d.stored_fixes; places = [] }

-- the object of lines behind a draft, or the first refused line
abbrev pub drafted : List Label → Draft → List Placed → Result Draft (ℕ × AsmKind)
drafted labels d [] = Ok d
drafted labels d (p ∷ more) = either (fault_of labels (length (labelled labels)) d p p.line.kind) (λ kind. Err (p.at.line, kind)) (drafted labels (with_line labels d p) more)

abbrev pub object_from : Result Draft (ℕ × AsmKind) → Result Object (ℕ × AsmKind)
object_from (Ok d) = Ok (object_of d)
object_from (Err e) = Err e

abbrev pub of_lines : List Placed → Result Object (ℕ × AsmKind)
of_lines lines = object_from (drafted (labels_of lines) (nothing (labels_of lines)) lines)

-- the object of a text, or its first refused line and why
unfoldable pub assembled : List ℕ → Result Object (ℕ × AsmKind)
assembled text = of_lines (placed start (texts_of text))
