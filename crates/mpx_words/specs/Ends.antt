-- How a command ends that runs no image: the status, and the line on standard error.
use Rattle.std.specs.Prelude.{ℕ, Bool, true, List, ◌++◌, false, codes}
use Rattle.std.specs.Fmt.{decimal}
use Rattle.std.specs.declared.io.ErrorKind.{ErrorKind}
use Rattle.std.specs.declared.io.ErrorKind.TheVariants.{OutOfMemory}
use Rattle.asm_text.specs.declared.fault.AsmKind.{AsmKind}
use Rattle.asm_text.specs.declared.fault.AsmKind.TheVariants as asm
use Rattle.fault_text.specs.Explain.{hex}
use Rattle.mpx_words.specs.declared.end.End.{End}
use Rattle.mpx_words.specs.declared.end.End.TheVariants.{Exit, Bounds, Missing, Unbuilt, FileLarge, BadForm, BadLine, WordsRefused, ReadFault, WriteFault, NoMemory}

-- how a command ends whose words can't be had
abbrev pub refusal_of : ErrorKind → End
refusal_of OutOfMemory = NoMemory
refusal_of kind = WordsRefused

-- the ends that come before there are words
abbrev pub ends_words : End → Bool
ends_words NoMemory = true
ends_words WordsRefused = true
ends_words end = false

abbrev pub status_of : End → ℕ
status_of (Exit code) = 0
status_of Missing = 1
status_of Unbuilt = 1
status_of FileLarge = 1
status_of (BadForm at) = 1
status_of (BadLine line kind) = 1
status_of WordsRefused = 2
status_of ReadFault = 3
status_of WriteFault = 4
status_of NoMemory = 5
status_of (Bounds value lb ub) = 10

-- why a line of assembly is refused, in a word
abbrev pub word_of_kind : AsmKind → List ℕ
word_of_kind asm.Shape = codes "Shape"
word_of_kind asm.Range = codes "Range"
word_of_kind asm.Twice = codes "Twice"
word_of_kind asm.NoLocal = codes "NoLocal"

-- the line without its line feed; `file` is the name as it was given
abbrev pub text_of : List ℕ → End → List ℕ
text_of file (Exit code) = codes "exit " ++ decimal code
text_of file (Bounds value lb ub) = codes "bounds: 0x" ++ hex value ++ codes " outside [0x" ++ hex lb ++ codes ", 0x" ++ hex ub ++ codes "]"
text_of file Missing = file ++ codes ": Missing"
text_of file Unbuilt = file ++ codes ": Unbuilt"
text_of file FileLarge = file ++ codes ": FileLarge"
text_of file (BadForm at) = file ++ codes ": BadForm at " ++ decimal at
text_of file (BadLine line kind) = file ++ codes ":" ++ decimal line ++ codes ": " ++ word_of_kind kind
text_of file WordsRefused = codes "words refused"
text_of file ReadFault = codes "read fault"
text_of file WriteFault = codes "write fault"
text_of file NoMemory = codes "no memory"

abbrev pub line_of : List ℕ → End → List ℕ
line_of file end = text_of file end ++ codes "\n"
