-- What a command works on: what is told of it, and how many of its calls have failed.
use Rattle.std.specs.Prelude.{ℕ, Option, List}
use Rattle.mx_base.specs.Outside.{FileFacts}

-- what is told of the files, by name, and how many reads and writes of them have failed
pub record Shelf : Type 0 where
  pub told : List ℕ → FileFacts
  pub reads : ℕ
  pub writes : ℕ

-- what is told of the bytes that a source has left, or of those that a sink holds, and how many of its calls have failed
pub record Stream : Type 0 where
  pub told : Option (List ℕ)
  pub faults : ℕ

-- the files, the input, standard output and standard error
pub record Outside : Type 0 where
  pub files : Shelf
  pub input : Stream
  pub out : Stream
  pub err : Stream

abbrev pub shelf : (List ℕ → FileFacts) → ℕ → ℕ → Shelf
shelf told reads writes = record { told = told; reads = reads; writes = writes }

abbrev pub stream : Option (List ℕ) → ℕ → Stream
stream told faults = record { told = told; faults = faults }

abbrev pub outside : Shelf → Stream → Stream → Stream → Outside
outside files input out err = record { files = files; input = input; out = out; err = err }
