-- What a refusal of the early form is called.
use Rattle.std.specs.Prelude.{ℕ, List, codes}
use Rattle.c_reader.specs.declared.early.EarlyFault.{EarlyFault}
use Rattle.c_reader.specs.declared.early.EarlyFault.TheVariants.{Unbuilt, OutOfMemory}

abbrev pub text_of : EarlyFault → List ℕ
text_of Unbuilt = codes "not of the early form"
text_of OutOfMemory = codes "no memory"
