-- What the assembler reads of the lines that are written of code.
use Rattle.std.specs.Prelude.{◌≡◌, ℕ, ◌≤◌, ◌<◌, IsTrue, true, false, List, [], length, Ok}
use Rattle.std.specs.List.{All}
use Rattle.x86_forms.specs.declared.instr.Instr.{Instr}
use Rattle.x86_forms.specs.Validity.{valid_of}
use Rattle.disasm.specs.Written.{text_of}
use Rattle.disasm.specs.Listing.{Lists}
use Rattle.obj_file.specs.declared.object.Object.{Object}
use Rattle.obj_file.specs.Object.{most_code}
use Rattle.asm_text.specs.declared.parts.Kind.TheVariants as k
use Rattle.asm_text.specs.Lines.{Line, line_of}
use Rattle.asm_text.specs.Assembly.{assembled}
use Rattle.assembler.specs.Sound.{most_text}

-- the line is the instruction, and no name stands in it
pub record IsCode (i : Instr) (l : Line) : Type 0 where
  pub kind : l.kind ≡ k.Code i
  pub name : l.name ≡ []

-- the line of every valid instruction is that instruction, where it stands in code
abbrev pub LinesAreRead : Type 0
LinesAreRead = (i : Instr) → IsTrue (valid_of i) → IsCode i (line_of false (text_of i))

-- an object of code alone
abbrev pub code_object : List ℕ → Object
code_object code = record { legacy = true; file = []; code = code; stored = []; symbols = []; fixes = []; places = [] }

-- the text of code is short enough to be assembled, and its object is the code alone
pub record IsReadBack (code text : List ℕ) : Type 0 where
  pub short : length text ≤ most_text
  pub object : assembled text ≡ Ok (code_object code)

-- the text of bytes that legacy code may have is read back as these bytes
abbrev pub ListingsAreRead : Type 0
ListingsAreRead = (code text : List ℕ) → length code ≤ most_code true → All (λ b. b < 256) code → Lists code text → IsReadBack code text
