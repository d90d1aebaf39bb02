-- What a text without tokens is told for, and where that stands.
use Rattle.std.specs.Prelude.{ℕ, List, ◌++◌, codes}
use Rattle.std.specs.Fmt.{decimal}
use Rattle.mx_base.specs.declared.places.Place.{Place}
use Rattle.c_tokens.specs.declared.fault.TokenFault.{TokenFault}
use Rattle.c_tokens.specs.declared.fault.TokenFault.TheVariants.{BadByte, BadNumber, LongName, OpenText, OutOfMemory}

-- a kind, with the line and column of a place
abbrev pub told_at : List ℕ → Place → List ℕ
told_at kind place = kind ++ codes " " ++ decimal place.line ++ codes ":" ++ decimal place.col

abbrev pub text_of : TokenFault → List ℕ
text_of (BadByte place) = told_at (codes "BadByte") place
text_of (BadNumber place) = told_at (codes "BadNumber") place
text_of (LongName place) = told_at (codes "LongName") place
text_of (OpenText place) = told_at (codes "OpenText") place
text_of OutOfMemory = codes "no memory"
