-- What the functions of a program do, made of the steps of each.
use Rattle.std.specs.Prelude.{ℕ, zero, suc, ◌+◌, ◌%◌, nat_lt, Bool, false, if◌then◌else◌, List, [], ◌∷◌, slice_index_or}
use Rattle.mx_base.specs.Bounds.{full_bounds}
use Rattle.mx_base.specs.StopOfC.{Exit, StackOver}
use Rattle.mx_base.specs.World.{World}
use Rattle.fat_ir.specs.declared.program.FatFun.{FatFun}
use Rattle.fat_ir.specs.Values.{Held, Nothing, Number, Pair, Values, with_held, Value}
use Rattle.fat_ir.specs.Calls.{Outcome, Comes, Stops, Stuck, Callee, taking_turn, entering, returning}
use Rattle.fat_ir.specs.Step.{Located, Symbols, Next}
use Rattle.fat_ir.specs.Run.{steps_run}

-- ---- entry

-- a parameter: whether it is a private variable, and whether it is a pointer
pub record Parameter : Type 0 where
  pub private : Bool
  pub pointer : Bool

-- how many values it has
abbrev pub width : Parameter → ℕ
width p = if p.pointer then 2 else 1

abbrev pub with_argument : Parameter → ℕ → Value → Values → Values
with_argument p v a values = if p.pointer then with_held (v + 1) (Pair a.bounds) (with_held v (Number a.number) values) else with_held v (Number a.number) values

-- the values with the arguments in them: those of the private parameters from `home` on, in order, and the others from `temp` on
abbrev pub arrived_in : (home temp : ℕ) → List Parameter → List Value → Values → Values
arrived_in home temp [] args values = values
arrived_in home temp (p ∷ ps) [] values = values
arrived_in home temp (p ∷ ps) (a ∷ args) values =
    if p.private then arrived_in (home + width p) temp ps args (with_argument p home a values)
    else arrived_in home (temp + width p) ps args (with_argument p temp a values)

-- a private variable that nothing was written to: 0, or full bounds
abbrev pub unset : (bounds : Bool) → Held
unset bounds = if bounds then Pair full_bounds else Number 0

-- the values at the entry of a function
abbrev pub values_at_entry : FatFun → List Parameter → List Value → Values
values_at_entry f parameters args = arrived_in 0 f.private parameters args
    (λ v. if nat_lt v f.private then unset (slice_index_or f.bounds v false) else Nothing)

-- ---- programs

-- what a symbol calls: a C function of the program, or something outside of it; each kind has a numbering
pub data Target : Type 0 where
  OfC : (f : ℕ) → Target
  Outside : (g : ℕ) → Target

-- a C function in its program: its parameters, what its unit's symbols call, and where they stand
pub record Linked : Type 0 where
  pub fun : FatFun
  pub parameters : List Parameter
  pub targets : ℕ → Target
  pub located : ℕ → Located

abbrev pub call_of : Target → (own other : Callee) → List Value → World → Outcome
call_of (OfC f) own other args w = own f args w
call_of (Outside g) own other args w = other g args w

-- what the symbols of a function's unit mean, by the meaning of the C functions and of those outside
abbrev pub symbols_of : Linked → (own other : Callee) → Symbols
symbols_of l own other = record { call = λ symbol args w. call_of (l.targets symbol) own other args w; located = l.located }

abbrev pub body_run : Linked → (own other : Callee) → List Value → World → Outcome
body_run l own other args w = steps_run (symbols_of l own other) l.fun.private l.fun.steps Next record { values = values_at_entry l.fun l.parameters args; world = w }

-- the C functions of a program where `depth` more calls may be entered; `outside` gives the meaning of what is outside by that of
-- the C functions, which it may call. A call takes a turn, then counts for the depth, then makes its frame.
abbrev pub calls : (ℕ → Linked) → (outside : Callee → Callee) → (depth : ℕ) → Callee
calls program outside zero f args w = taking_turn w (λ u. Stops StackOver u)
calls program outside (suc depth) f args w = taking_turn w (λ u. entering (program f).fun.frame u (λ x.
    returning u.data_sp (body_run (program f) (calls program outside depth) (outside (calls program outside depth)) args x)))

-- how many calls of C functions may be entered at once
abbrev pub most_depth : ℕ
most_depth = 4096

-- how a program ends whose `main` is f: by the low 8 bits of its result
abbrev pub exited : Outcome → Outcome
exited (Comes v w) = Stops (Exit (v.number % 256)) w
exited (Stops why w) = Stops why w
exited Stuck = Stuck

abbrev pub program_run : (ℕ → Linked) → (outside : Callee → Callee) → (main : ℕ) → World → Outcome
program_run program outside main w = exited (calls program outside most_depth main [] w)
