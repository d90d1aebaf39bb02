-- The scalars of types, where they are few.
use Rattle.std.specs.Prelude.{ℕ, ◌+◌, nat_le, if◌then◌else◌, Option, None, Some, List, map, length}
use Rattle.bounds_plan.specs.meaning.Core.{Scalar}
use Rattle.steps_facts.specs.declared.knows.ScalarAt.{ScalarAt}

-- the most scalars of a struct that is copied, and of a variable that is initialised
abbrev pub most : ℕ
most = 64

abbrev pub held : Scalar → ScalarAt
held x = record { offset = x.offset; kind = x.kind }

-- scalars as they are kept, or none where they are too many to be copied one by one
abbrev pub few : List Scalar → Option (List ScalarAt)
few all = if nat_le (length all) most then Some (map held all) else None

-- a scalar so many bytes further on
abbrev pub moved : ℕ → ScalarAt → ScalarAt
moved offset x = record { offset = offset + x.offset; kind = x.kind }
