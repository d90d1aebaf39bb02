-- What the parts that the code keeps show: labels, symbols and drafts.
use Rattle.std.specs.Prelude.{◌≡◌, ℕ, ◌+◌, ◌*◌, ◌≤◌, ◌<◌, IsTrue, ◌&&◌, is_some, is_none, Bool, true, false, if◌then◌else◌, List, [], ◌∷◌, map, None}
use Rattle.std.specs.List.{list_any}
use Rattle.std.specs.Map.{lookup}
use Rattle.std.specs.Str.{bytes_eq, is_utf8}
use Rattle.std.specs.Global.{Global}
use Rattle.std.specs.declared.vec.Vec.{Vec}
use Rattle.x86_forms.specs.declared.instr.Instr.{Instr}
use Rattle.x86_forms.specs.Layout.{layout_of}
use Rattle.x86_forms.specs.Spelling.{spelling}
use Rattle.x86_forms.specs.Validity.{valid_of}
use Rattle.obj_file.specs.declared.object.Fix.{Fix}
use Rattle.obj_file.specs.declared.object.Symbol.{Symbol}
use Rattle.asm_text.specs.declared.parts.Kind.{Kind}
use Rattle.asm_text.specs.declared.parts.Kind.TheVariants as k
use Rattle.asm_text.specs.declared.parts.Cursor.{Cursor}
use Rattle.asm_text.specs.declared.lines.Line.{Line as HeldLine}
use Rattle.asm_text.specs.Lexical.{either}
use Rattle.asm_text.specs.Lines.{Line, behind_field}
use Rattle.asm_text.specs.Seen.{seen_line}
use Rattle.asm_text.specs.Assembly.{Label, Placed, Draft, is_of, number_from, number_of, field_at, form_of, uses, with_use, with_target, way}
use Rattle.assembler.specs.declared.labels.Mark.{Mark}
use Rattle.assembler.specs.declared.symbols.Spot.{Spot}

-- ---- lines

abbrev pub placed_at : Cursor → HeldLine → Placed
placed_at at l = record { at = at; line = seen_line l }

-- the cursor is small: no line has more than 2^30 bytes
abbrev pub IsSmall : Cursor → Type 0
IsSmall at = (at.code ≤ 1_073_741_824 * at.line) × (at.stored ≤ 1_073_741_824 * at.line)

abbrev pub most_lines : ℕ
most_lines = 536_870_914

-- ---- labels

abbrev pub label : List ℕ → Mark → Label
label name m = record { name = name; in_data = m.in_data; offset = m.offset; line = m.line }

abbrev pub mark_of : Label → Mark
mark_of l = record { in_data = l.in_data; offset = l.offset; line = l.line }

abbrev pub labels_in : List (Vec ℕ Global × Mark) → List Label
labels_in es = map (λ (e : Vec ℕ Global × Mark). label e.0.items e.1) es

-- no name has two labels
abbrev pub AreDistinct : List Label → Type 0
AreDistinct [] = Unit {0}
AreDistinct (l ∷ ls) = (list_any (is_of l.name) ls ≡ false) × AreDistinct ls

-- ---- symbols

-- the signatures that names were given
abbrev pub Signs : Type 0
Signs = List (Vec ℕ Global × Vec ℕ Global)

abbrev pub has_name : List ℕ → Vec ℕ Global → Bool
has_name name key = bytes_eq name key.items

abbrev pub items_of : Vec ℕ Global → List ℕ
items_of v = v.items

abbrev pub sign_in : Signs → List ℕ → List ℕ
sign_in signs name = either (lookup (has_name name) signs) items_of []

abbrev pub symbol : List ℕ → Spot → List ℕ → Symbol
symbol name s sig = record { part = s.part; offset = s.offset; name = name; sig = sig }

abbrev pub symbols_in : Signs → List (Vec ℕ Global × Spot) → List Symbol
symbols_in signs es = map (λ (e : Vec ℕ Global × Spot). symbol e.0.items e.1 (sign_in signs e.0.items)) es

-- a name that is no symbol has no signature
abbrev pub AreKnown : Signs → List Symbol → Type 0
AreKnown signs symbols = (name : List ℕ) → number_from name 0 symbols ≡ None → sign_in signs name ≡ []

-- nothing but symbols
abbrev pub bare_draft : List Symbol → Draft
bare_draft symbols = record { code = []; stored = []; labels = 0; symbols = symbols; code_fixes = []; stored_fixes = [] }

abbrev pub IsValid : Instr → Type 0
IsValid i = IsTrue (valid_of i)

-- the bytes of a branch to a target in the code
abbrev pub branch_bytes : Placed → Instr → ℕ → List ℕ
branch_bytes p i target = spelling (with_target i (way p i target))

-- a signature is given to a symbol that is there
abbrev pub MaySign : List Symbol → Line → Kind → Type 0
MaySign symbols l k.Sig = is_some (number_from l.name 0 symbols) ≡ true
MaySign symbols l x = Unit {0}

abbrev pub code_fix : List Symbol → Placed → Instr → Fix
code_fix symbols p i = record {
  part = 1;
  offset = p.at.code + field_at (spelling i) (behind_field (layout_of i));
  form = form_of (layout_of i).operands;
  symbol = number_of symbols p.line.name;
  addend = p.line.addend;
}

abbrev pub stored_fix : List Symbol → Placed → Fix
stored_fix symbols p = record { part = 2; offset = p.at.stored; form = 0; symbol = number_of symbols p.line.name; addend = p.line.addend }

-- a symbol whose offset fits its field and whose texts are UTF-8
abbrev pub IsWritten : Symbol → Type 0
IsWritten s = (s.offset < 4_294_967_296) × ((is_utf8 s.name ≡ true) × (is_utf8 s.sig ≡ true))

abbrev pub AreWritten : List Symbol → Type 0
AreWritten [] = Unit {0}
AreWritten (s ∷ ss) = IsWritten s × AreWritten ss

-- the line uses a name that is no symbol yet
abbrev pub imports : List Symbol → Line → Kind → Bool
imports symbols l x = uses l x && is_none (number_from l.name 0 symbols)

-- the symbols with what a line uses
abbrev pub used : List Symbol → Line → Kind → List Symbol
used symbols l x = if uses l x then with_use symbols l.name else symbols
