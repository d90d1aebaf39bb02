-- What a refusal of tokens is called, and where it stands.
use Rattle.std.specs.Prelude.{ℕ, List, ◌++◌, codes}
use Rattle.std.specs.Fmt.{decimal}
use Rattle.mx_base.specs.declared.places.Place.{Place}
use Rattle.c_reader.specs.declared.fault.ReadFault.{ReadFault}
use Rattle.c_reader.specs.declared.fault.ReadFault.TheVariants.{Expected, Deep, OutOfMemory}

-- a kind, with the line and column of a place
abbrev pub told_at : List ℕ → Place → List ℕ
told_at kind place = kind ++ codes " " ++ decimal place.line ++ codes ":" ++ decimal place.col

abbrev pub text_of : ReadFault → List ℕ
text_of (Expected place) = told_at (codes "Expected") place
text_of (Deep place) = told_at (codes "Deep") place
text_of OutOfMemory = codes "no memory"
