-- What a program of the early form does, apart from any code that carries it out.
use Rattle.std.specs.Prelude.{ℕ, ◌+◌, ◌-◌, cond, nat_lt, List, [], ◌∷◌, length, slice_index, slice_set, replicate}
use Rattle.c_reader.specs.declared.early.Act.{Act}
use Rattle.c_reader.specs.declared.early.Act.TheVariants.{Write, PutAt, Put}

-- where the array begins
abbrev pub array_at : ℕ
array_at = 0x2000_0000

-- how a program ends: with the value that it returns, or at the first access that leaves the array's bounds
pub data EarlyEnd : Type 0 where
  Returns : ℕ → EarlyEnd
  Leaves : (value lb ub : ℕ) → EarlyEnd

-- the bytes that a program puts, in order, and its end
pub record EarlyRun : Type 0 where
  pub out : List ℕ
  pub ends : EarlyEnd

abbrev pub puts_first : ℕ → EarlyRun → EarlyRun
puts_first b r = record { out = b ∷ r.out; ends = r.ends }

-- an access at this index leaves the bounds of an array of this size
abbrev pub leaves : ℕ → ℕ → EarlyRun
leaves size index = record { out = []; ends = Leaves (array_at + index) array_at (array_at + size - 1) }

-- the acts in order, on the array's bytes
abbrev pub acts_from : List ℕ → List Act → ℕ → EarlyRun
acts_from array [] code = record { out = []; ends = Returns code }
acts_from array (Write index value ∷ acts) code =
    cond (nat_lt index (length array)) (acts_from (slice_set array index value) acts code) (leaves (length array) index)
acts_from array (PutAt index ∷ acts) code =
    cond (nat_lt index (length array)) (puts_first (slice_index array index) (acts_from array acts code)) (leaves (length array) index)
acts_from array (Put value ∷ acts) code = puts_first value (acts_from array acts code)

-- The meaning of the early form: the array's bytes are 0 at first.
abbrev pub early_run : ℕ → List Act → ℕ → EarlyRun
early_run size acts code = acts_from (replicate size 0) acts code
