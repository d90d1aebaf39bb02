-- What one step does.
use Rattle.std.specs.Prelude.{ℕ, zero, suc, true, false, if◌then◌else◌, Option, None, Some, Result, Ok, Err, List, [], ◌∷◌}
use Rattle.mx_base.specs.declared.limits.Bounds.{Bounds as BoundsPair}
use Rattle.mx_base.specs.declared.numbers.IntKind.{IntKind}
use Rattle.mx_base.specs.Numbers.{size_of, extended}
use Rattle.mx_base.specs.declared.services.CService.{CService}
use Rattle.mx_base.specs.Operators.{word_arithmetic, word_compares}
use Rattle.mx_base.specs.Bounds.{full_bounds, met, moved, bounds_at, leaving_value}
use Rattle.mx_base.specs.Memory.{number_at}
use Rattle.mx_base.specs.Access.{Refusal, Strays, Misses, refusal}
use Rattle.mx_base.specs.Services.{Served, Answers, Exits, Overflows, Refused, served, c_service}
use Rattle.mx_base.specs.StopOfC.{StopOfC, Exit, Bounds, Unmapped, Divide, StackOver, Strayed, NoTable, AccessOfC, AtAccess}
use Rattle.mx_base.specs.World.{World, read_noted, number_written, pointer_read, pointer_written}
use Rattle.fat_ir.specs.declared.step.FatStep.{FatStep}
use Rattle.fat_ir.specs.declared.step.FatStep.TheVariants.{Const, Copy, Arith, Compare, Extend, Place, Make, Meet, Bound, Judge, Load, Store, LoadPtr, StorePtr, Label, Jump, JumpIf, Call, Service, Give}
use Rattle.fat_ir.specs.Values.{Held, Nothing, Number, Pair, Values, with_held, Value}
use Rattle.fat_ir.specs.Calls.{Outcome, Comes, Stops, Stuck, Callee}

-- where a symbol of a unit stands
pub data Located : Type 0 where
  ObjectAt : (address : ℕ) → Located
  FunctionAt : (address : ℕ) → Located

-- what the symbols of a unit mean: what a call of each comes to, and where each stands
pub record Symbols : Type 0 where
  pub call : Callee
  pub located : ℕ → Located

-- a function that runs: its values, and the world
pub record State : Type 0 where
  pub values : Values
  pub world : World

-- how steps go on: with the next one, or on the way to a label
pub data Going : Type 0 where
  Next : Going
  To : (label : ℕ) → Going

-- what a step leads to: steps go on, or the run of the function is over
pub data Reached : Type 0 where
  On : (going : Going) → (s : State) → Reached
  Over : (outcome : Outcome) → Reached

-- ---- reading values: without the value that is named the step is stuck

abbrev pub held_then : Held → (Held → Reached) → Reached
held_then Nothing go = Over Stuck
held_then (Number n) go = go (Number n)
held_then (Pair b) go = go (Pair b)

abbrev pub number_then : Held → (ℕ → Reached) → Reached
number_then Nothing go = Over Stuck
number_then (Number n) go = go n
number_then (Pair b) go = Over Stuck

abbrev pub bounds_then : Held → (BoundsPair → Reached) → Reached
bounds_then Nothing go = Over Stuck
bounds_then (Number n) go = Over Stuck
bounds_then (Pair b) go = go b

-- a value that need not be named: 0, and full bounds, without it
abbrev pub number_or_0_then : Values → Option ℕ → (ℕ → Reached) → Reached
number_or_0_then values None go = go 0
number_or_0_then values (Some v) go = number_then (values v) go

abbrev pub bounds_or_full_then : Values → Option ℕ → (BoundsPair → Reached) → Reached
bounds_or_full_then values None go = go full_bounds
bounds_or_full_then values (Some v) go = bounds_then (values v) go

-- arguments: each a number, with the bounds of a pointer
abbrev pub arguments_then : Values → List (ℕ × Option ℕ) → (List Value → Reached) → Reached
arguments_then values [] go = go []
arguments_then values (a ∷ rest) go = number_then (values a.0) (λ n. bounds_or_full_then values a.1 (λ b. arguments_then values rest (λ vs. go (record { number = n; bounds = b } ∷ vs))))

-- ---- writing values

abbrev pub with_value : ℕ → Held → State → State
with_value v h s = record s { values = with_held v h s.values }

abbrev pub with_number : ℕ → ℕ → State → State
with_number v n s = with_value v (Number n) s

abbrev pub with_pair : ℕ → BoundsPair → State → State
with_pair v b s = with_value v (Pair b) s

abbrev pub with_pointer : (to bounds : ℕ) → Value → State → State
with_pointer to bounds v s = with_pair bounds v.bounds (with_number to v.number s)

-- a result that need not go anywhere
abbrev pub with_number_at : Option ℕ → ℕ → State → State
with_number_at None n s = s
with_number_at (Some v) n s = with_number v n s

abbrev pub with_pair_at : Option ℕ → BoundsPair → State → State
with_pair_at None b s = s
with_pair_at (Some v) b s = with_pair v b s

abbrev pub with_world : World → State → State
with_world w s = record s { world = w }

-- ---- how steps go on

abbrev pub goes : State → Reached
goes s = On Next s

abbrev pub stops : StopOfC → State → Reached
stops why s = Over (Stops why s.world)

-- the result of an operator: Divide where it has none
abbrev pub computed : ℕ → Option ℕ → State → Reached
computed to None s = stops Divide s
computed to (Some n) s = goes (with_number to n s)

-- the address behind a symbol or behind the data frame, with the bounds of so many bytes there, or full ones for a function
abbrev pub pointer_into : Located → (offset size : ℕ) → Value
pointer_into (ObjectAt a) offset size = record { number = moved a offset; bounds = bounds_at (moved a offset) size }
pointer_into (FunctionAt a) offset size = record { number = moved a offset; bounds = full_bounds }

abbrev pub place_of : Symbols → Option ℕ → World → Located
place_of symbols None w = ObjectAt w.data_sp
place_of symbols (Some symbol) w = symbols.located symbol

-- an access that leaves its bounds by a value, or doesn't
abbrev pub judged : Option ℕ → BoundsPair → AccessOfC → State → Reached
judged None b access s = goes s
judged (Some value) b access s = stops (Bounds value b (AtAccess access)) s

abbrev pub stop_by : Refusal → StopOfC
stop_by (Strays at) = Strayed at
stop_by (Misses at) = Unmapped at

-- an access that is refused for its bytes, or done
abbrev pub unless_refused : Option Refusal → State → Reached → Reached
unless_refused None s done = done
unless_refused (Some why) s done = stops (stop_by why) s

-- a number of a type is read from an address
abbrev pub number_loaded : (p to : ℕ) → IntKind → State → Reached
number_loaded p to kind s = goes (with_number to (extended kind (number_at (size_of kind) s.world.bytes p)) (with_world (read_noted (size_of kind) s.world p) s))

abbrev pub number_stored : (p n : ℕ) → IntKind → State → Reached
number_stored p n kind s = goes (with_world (number_written (size_of kind) s.world p n) s)

-- a pointer is read or written, unless a table for its bounds is wanting
abbrev pub pointer_came : (to bounds : ℕ) → Result (ℕ × BoundsPair × World) World → State → Reached
pointer_came to bounds (Ok p) s = goes (with_pointer to bounds record { number = p.0; bounds = p.1 } (with_world p.2 s))
pointer_came to bounds (Err w) s = Over (Stops NoTable w)

abbrev pub pointer_went : Result World World → State → Reached
pointer_went (Ok w) s = goes (with_world w s)
pointer_went (Err w) s = Over (Stops NoTable w)

-- a jump where the number is not 0
abbrev pub jumps_unless_0 : ℕ → (label : ℕ) → State → Reached
jumps_unless_0 zero label s = goes s
jumps_unless_0 (suc n) label s = On (To label) s

-- after a call
abbrev pub came_back : (to bounds : Option ℕ) → Outcome → State → Reached
came_back to bounds (Comes v w) s = goes (with_pair_at bounds v.bounds (with_number_at to v.number (with_world w s)))
came_back to bounds (Stops why w) s = Over (Stops why w)
came_back to bounds Stuck s = Over Stuck

-- after a service
abbrev pub answered : (to : Option ℕ) → Served Refusal → State → Reached
answered to (Answers word g) s = goes (with_number_at to word (with_world record s.world { guest = g } s))
answered to (Exits code) s = stops (Exit code) s
answered to Overflows s = stops StackOver s
answered to (Refused why) s = stops (stop_by why) s

-- a service that C knows by name, with its word
abbrev pub served_in_c : CService → (word : ℕ) → World → Served Refusal
served_in_c service word w = served w.bytes (λ from n. refusal false n from) (c_service service) word 0 0 w.guest

-- ---- what a step does
abbrev pub does : Symbols → FatStep → State → Reached
does symbols (Const to n) s = goes (with_number to n s)
does symbols (Copy to from) s = held_then (s.values from) (λ h. goes (with_value to h s))
does symbols (Arith to op kind a b) s = number_then (s.values a) (λ x. number_then (s.values b) (λ y. computed to (word_arithmetic op kind x y) s))
does symbols (Compare to op kind a b) s = number_then (s.values a) (λ x. number_then (s.values b) (λ y. goes (with_number to (word_compares op kind x y) s)))
does symbols (Extend to from kind) s = number_then (s.values from) (λ x. goes (with_number to (extended kind x) s))
does symbols (Place to bounds symbol offset size) s = goes (with_pointer to bounds (pointer_into (place_of symbols symbol s.world) offset size) s)
does symbols (Make to p n) s = number_then (s.values p) (λ x. number_then (s.values n) (λ y. goes (with_pair to (bounds_at x y) s)))
does symbols (Meet to a b) s = bounds_then (s.values a) (λ x. bounds_then (s.values b) (λ y. goes (with_pair to (met x y) s)))
does symbols (Bound to from upper) s = bounds_then (s.values from) (λ b. goes (with_number to (if upper then b.ub else b.lb) s))
does symbols (Judge value size bounds write place) s = number_then (s.values value) (λ p. bounds_then (s.values bounds) (λ b. judged (leaving_value p size b) b record { place = place; write = write; size = size } s))
does symbols (Load p to kind) s = number_then (s.values p) (λ a. unless_refused (refusal false (size_of kind) a) s (number_loaded a to kind s))
does symbols (Store p from kind) s = number_then (s.values p) (λ a. number_then (s.values from) (λ n. unless_refused (refusal true (size_of kind) a) s (number_stored a n kind s)))
does symbols (LoadPtr p to bounds) s = number_then (s.values p) (λ a. unless_refused (refusal false 8 a) s (pointer_came to bounds (pointer_read s.world a) s))
does symbols (StorePtr p from bounds) s = number_then (s.values p) (λ a. number_then (s.values from) (λ n. bounds_then (s.values bounds) (λ b. unless_refused (refusal true 8 a) s (pointer_went (pointer_written s.world a n b) s))))
does symbols (Label n) s = goes s
does symbols (Jump n) s = On (To n) s
does symbols (JumpIf from n) s = number_then (s.values from) (λ x. jumps_unless_0 x n s)
does symbols (Call symbol args to bounds) s = arguments_then s.values args (λ vs. came_back to bounds (symbols.call symbol vs s.world) s)
does symbols (Service service arg to) s = number_or_0_then s.values arg (λ word. answered to (served_in_c service word s.world) s)
does symbols (Give from bounds) s = number_or_0_then s.values from (λ n. bounds_or_full_then s.values bounds (λ b. Over (Comes record { number = n; bounds = b } s.world)))
