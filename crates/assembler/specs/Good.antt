-- What holds of a draft behind accepted lines.
use Rattle.std.specs.Prelude.{◌≡◌, ℕ, ◌+◌, ◌-◌, ◌≤◌, true, false, List, length, is_some, Result, Ok, Err}
use Rattle.obj_file.specs.declared.object.Symbol.{Symbol}
use Rattle.asm_text.specs.declared.fault.AsmKind.{AsmKind}
use Rattle.asm_text.specs.declared.parts.Cursor.{Cursor}
use Rattle.asm_text.specs.Lexical.{either, is_local}
use Rattle.asm_text.specs.Assembly.{Label, Placed, Draft, label_of, labelled, number_from, with_line, fault_of, placed, start, texts_of, labels_of, nothing, drafted}

-- each label that is no local one is a symbol
abbrev pub HasSymbols : List Label → List Symbol → Type 0
HasSymbols labels symbols =
    (name : List ℕ) → is_some (label_of labels name) ≡ true → is_local name ≡ false → is_some (number_from name 0 symbols) ≡ true

-- a draft within the limits of objects, before a line
pub record IsWithin (labels : List Label) (at : Cursor) (d : Draft) : Type 0 where
  pub code : at.code ≤ 16_777_216
  pub stored : at.stored ≤ 16_777_216
  pub symbols : d.labels + (length d.symbols - length (labelled labels)) ≤ 65_536
  pub fixes : length d.code_fixes + length d.stored_fixes ≤ 1_048_576
  pub present : HasSymbols labels d.symbols

-- a draft with one line more, or why that is refused
abbrev pub added : List Label → Draft → Placed → Result Draft (ℕ × AsmKind)
added labels d p =
    either (fault_of labels (length (labelled labels)) d p p.line.kind) (λ kind. Err (p.at.line, kind)) (Ok (with_line labels d p))

-- the lines of a text in their places
abbrev pub lines_of : List ℕ → List Placed
lines_of text = placed start (texts_of text)

-- the draft of all lines of a text
abbrev pub drafted_text : List ℕ → Result Draft (ℕ × AsmKind)
drafted_text text = drafted (labels_of (lines_of text)) (nothing (labels_of (lines_of text))) (lines_of text)
