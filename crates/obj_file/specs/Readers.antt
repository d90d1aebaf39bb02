-- The machine with another reader of instructions.
use Rattle.std.specs.Prelude.{ℕ, List}
use Rattle.obj_file.specs.Machine.{Reading, Ground}

abbrev pub read_by : {X : Type 0} → Ground X → (List ℕ → Reading) → Ground X
read_by g reads = record g { reads = reads }
