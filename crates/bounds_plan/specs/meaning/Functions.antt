-- What calls of C functions do.
use Rattle.std.specs.Prelude.{ℕ, zero, suc, ◌+◌, ◌-◌, ◌%◌, max, nat_lt, Bool, true, if◌then◌else◌, Option, None, Some, List, [], ◌∷◌}
use Rattle.std.specs.List.{list_any}
use Rattle.mx_base.specs.declared.numbers.IntKind.{IntKind}
use Rattle.mx_base.specs.Numbers.{size_of}
use Rattle.mx_base.specs.Bounds.{full_bounds, moved, bounds_at}
use Rattle.mx_base.specs.Regions.{data_stack}
use Rattle.mx_base.specs.StopOfC.{Exit, OutOfTurns, StackOver}
use Rattle.mx_base.specs.World.{World, Log, FullBy, UnsetPointer, NoReturn}
use Rattle.fat_ir.specs.Calls.{with_turns, with_data_sp}
use Rattle.fat_ir.specs.Step.{Located}
use Rattle.fat_ir.specs.Functions.{Target, OfC, Outside, most_depth}
use Rattle.bounds_plan.specs.meaning.Core.{Statement}
use Rattle.bounds_plan.specs.meaning.State.{Passed, OfNumber, OfPointer, State, Ended, Done, Stopped, M, ◌>>=◌, ◌>>◌, pure, full_by, with_made, with_cause, set_variable, set_variable_ptr}
use Rattle.bounds_plan.specs.meaning.Accesses.{allow, write_number, write_pointer}
use Rattle.bounds_plan.specs.meaning.Expressions.{Answer, Comes, Stops, CalleeOfC, Names, number_passed, pointer_passed, in_frame}
use Rattle.bounds_plan.specs.meaning.Statements.{Flow, Returned, Left, statement}

-- where a parameter stands: in a private variable, or at an offset of the data frame; and its type, a pointer where none is given
pub data Parameter : Type 0 where
  Private : (x : ℕ) → (kind : Option IntKind) → Parameter
  Framed : (offset : ℕ) → (kind : Option IntKind) → Parameter

-- a variable in the data frame
pub record Framed_variable : Type 0 where
  pub offset : ℕ
  pub size : ℕ

-- a C function: its parameters; for each value of its private variables, whether it is bounds; the variables in its data frame in order
-- of declaration, with the parameters there; the size of the frame; and its body
pub record FunctionOfC : Type 0 where
  pub parameters : List Parameter
  pub privates : List Bool
  pub variables : List Framed_variable
  pub frame : ℕ
  pub body : Statement

-- ---- entry

-- a parameter of the frame is written as an access with its own bounds
abbrev pub arrive : Parameter → Passed → M (Unit {0})
arrive (Private x (Some kind)) v = set_variable x (number_passed v)
arrive (Private x None) v = pointer_passed v >>= set_variable_ptr x
arrive (Framed offset (Some kind)) v = do
  p ← in_frame offset (size_of kind)
  allow true (size_of kind) p
  write_number kind p (number_passed v)
arrive (Framed offset None) v = do
  p ← in_frame offset 8
  q ← pointer_passed v
  allow true 8 p
  write_pointer p q

abbrev pub arrive_all : List Parameter → List Passed → M (Unit {0})
arrive_all [] args = pure tt
arrive_all (p ∷ ps) [] = pure tt
arrive_all (p ∷ ps) (v ∷ args) = arrive p v >> arrive_all ps args

-- the bounds of the variables in the data frame are made
abbrev pub made_in_frame : ℕ → List Framed_variable → Log → Log
made_in_frame sp [] log = log
made_in_frame sp (v ∷ rest) log = made_in_frame sp rest (with_made (bounds_at (moved sp v.offset) v.size) log)

-- private pointers are unset, if there are any
abbrev pub unset : List Bool → Log → Log
unset privates log = if list_any (λ b. b) privates then with_cause UnsetPointer log else log

-- a private variable that nothing was written to is 0, with full bounds
abbrev pub state_at_entry : FunctionOfC → World → Log → State
state_at_entry f w log = record {
  numbers = λ x. 0;
  pairs = λ x. record { bounds = full_bounds; root = FullBy UnsetPointer };
  world = w;
  log = unset f.privates (made_in_frame w.data_sp f.variables log);
}

-- ---- the end

-- `return` without a value gives 0, and a function that ends without `return` 0 with full bounds
abbrev pub result_of : Flow → M Passed
result_of (Returned v) = pure v
result_of Left = pure (OfNumber 0)
result_of _ = full_by NoReturn 0 >>= (λ p. pure (OfPointer p))

abbrev pub answer_of : Ended Passed → Answer
answer_of (Done v s) = Comes v s.world s.log
answer_of (Stopped why s) = Stops why s.world s.log

abbrev pub body_run : Names → FunctionOfC → List Passed → World → Log → Answer
body_run names f args w log = answer_of ((arrive_all f.parameters args >> (statement names f.body >>= result_of)) (state_at_entry f w log))

-- ---- calls

-- goes on with one turn less, if one is left
abbrev pub turn_from : ℕ → World → Log → (World → Answer) → Answer
turn_from zero w log go = Stops OutOfTurns w log
turn_from (suc n) w log go = go (with_turns n w)

abbrev pub taking_turn : World → Log → (World → Answer) → Answer
taking_turn w log go = turn_from w.turns w log go

-- goes on with a data frame of so many bytes, if the data stack has room for it
abbrev pub entering : ℕ → World → Log → (World → Answer) → Answer
entering frame w log go = if nat_lt w.data_sp (data_stack.from + frame) then Stops StackOver w log else go (with_data_sp (w.data_sp - frame) w)

-- the return takes a turn, and the stack pointer is as before the call
abbrev pub returning : ℕ → Answer → Answer
returning sp (Comes v w log) = taking_turn w log (λ u. Comes v (with_data_sp sp u) log)
returning sp (Stops why w log) = Stops why w log

-- a C function in its program: what its unit's symbols call, and where they stand
pub record Linked : Type 0 where
  pub fun : FunctionOfC
  pub targets : ℕ → Target
  pub located : ℕ → Located

abbrev pub call_of : Target → (own other : CalleeOfC) → List Passed → World → Log → Answer
call_of (OfC f) own other args w log = own f args w log
call_of (Outside g) own other args w log = other g args w log

abbrev pub names_of : Linked → (own other : CalleeOfC) → Names
names_of l own other = record { call = λ symbol args w log. call_of (l.targets symbol) own other args w log; located = l.located }

-- how deep calls are nested once this one is entered
abbrev pub entered_at : (depth : ℕ) → Log → Log
entered_at depth log = record log { deepest = max log.deepest (most_depth - depth) }

-- the C functions of a program where `depth` more calls may be entered; `outside` gives the meaning of what is outside by that of
-- the C functions, which it may call. A call takes a turn, then counts for the depth, then makes its frame.
abbrev pub calls : (ℕ → Linked) → (outside : CalleeOfC → CalleeOfC) → (depth : ℕ) → CalleeOfC
calls program outside zero f args w log = taking_turn w log (λ u. Stops StackOver u log)
calls program outside (suc depth) f args w log = taking_turn w log (λ u. entering (program f).fun.frame u (entered_at depth log) (λ x.
    returning u.data_sp (body_run (names_of (program f) (calls program outside depth) (outside (calls program outside depth))) (program f).fun args x (entered_at depth log))))

-- how a program ends whose `main` is f: by the low 8 bits of its result
abbrev pub exited : Answer → Answer
exited (Comes v w log) = Stops (Exit (number_passed v % 256)) w log
exited (Stops why w log) = Stops why w log

abbrev pub program_run : (ℕ → Linked) → (outside : CalleeOfC → CalleeOfC) → (main : ℕ) → World → Log → Answer
program_run program outside main w log = exited (calls program outside most_depth main [] w log)
