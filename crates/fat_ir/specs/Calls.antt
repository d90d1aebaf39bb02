-- The meaning of calls, and what all calls of C functions have in common: turns, and the data stack.
use Rattle.std.specs.Prelude.{ℕ, zero, suc, ◌+◌, ◌-◌, nat_lt, if◌then◌else◌, List}
use Rattle.mx_base.specs.Regions.{data_stack}
use Rattle.mx_base.specs.StopOfC.{StopOfC, OutOfTurns, StackOver}
use Rattle.mx_base.specs.World.{World}
use Rattle.fat_ir.specs.Values.{Value}

-- how the run of a function ends: it comes back with a value, the program stops, or a step names a value that is not there
pub data Outcome : Type 0 where
  Comes : (value : Value) → (w : World) → Outcome
  Stops : (why : StopOfC) → (w : World) → Outcome
  Stuck : Outcome

-- the meaning of functions, by some numbering of them: what a call with these arguments in this world comes to
abbrev pub Callee : Type 0
Callee = ℕ → List Value → World → Outcome

-- ---- turns

abbrev pub with_turns : ℕ → World → World
with_turns n w = record w { turns = n }

-- goes on with one turn less, if one is left
abbrev pub turn_from : ℕ → World → (World → Outcome) → Outcome
turn_from zero w go = Stops OutOfTurns w
turn_from (suc n) w go = go (with_turns n w)

abbrev pub taking_turn : World → (World → Outcome) → Outcome
taking_turn w go = turn_from w.turns w go

-- ---- the data stack

abbrev pub with_data_sp : ℕ → World → World
with_data_sp sp w = record w { data_sp = sp }

-- goes on with a data frame of so many bytes below the stack pointer, if the stack has room for it
abbrev pub entering : ℕ → World → (World → Outcome) → Outcome
entering frame w go = if nat_lt w.data_sp (data_stack.from + frame) then Stops StackOver w else go (with_data_sp (w.data_sp - frame) w)

-- the return to a caller with this stack pointer, which takes a turn
abbrev pub returning : ℕ → Outcome → Outcome
returning sp (Comes v w) = taking_turn w (λ u. Comes v (with_data_sp sp u))
returning sp (Stops why w) = Stops why w
returning sp Stuck = Stuck
