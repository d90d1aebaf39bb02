-- What the refusals of the reader say.
use Rattle.std.specs.Prelude.{◌≡◌, ◌⊎◌, List, Result, Ok, Err}
use Rattle.mx_base.specs.declared.places.Place.{Place}
use Rattle.c_tree.specs.declared.tree.Tree.{Tree}
use Rattle.c_grammar.specs.Lexemes.{Lexeme}
use Rattle.c_grammar.specs.Nesting.{TooDeep}
use Rattle.c_grammar.specs.Program.{FirstBad}
use Rattle.c_reader.specs.declared.fault.ReadFault.{ReadFault}
use Rattle.c_reader.specs.declared.fault.ReadFault.TheVariants.{Expected, Deep, OutOfMemory}

-- no token opens one nesting too many
abbrev pub Shallow : List Lexeme → Type 0
Shallow ts = (place : Place) → TooDeep ts place → ⊥

-- A refusal names the first token that does not fit, or the place after the last byte of the text, where no token opens one nesting too many; or the
-- first token that does. Want of memory says nothing.
abbrev pub Told : List Lexeme → Place → ReadFault → Type 0
Told ts end (Expected place) = FirstBad ts end place × Shallow ts
Told ts end (Deep place) = TooDeep ts place
Told ts end OutOfMemory = Unit {0}

-- a result is this refusal, unless memory is wanting
abbrev pub Refused : ReadFault → Result Tree ReadFault → Type 0
Refused fault (Ok tree) = ⊥
Refused fault (Err other) = (other ≡ fault) ⊎ (other ≡ OutOfMemory)

-- a result for tokens that are a program: its tree, or the first token that opens one nesting too many, unless memory is wanting
abbrev pub ReadOf : List Lexeme → Tree → Result Tree ReadFault → Type 0
ReadOf ts tree (Ok found) = found ≡ tree
ReadOf ts tree (Err (Expected place)) = ⊥
ReadOf ts tree (Err (Deep place)) = TooDeep ts place
ReadOf ts tree (Err OutOfMemory) = Unit {0}
