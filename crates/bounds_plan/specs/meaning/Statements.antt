-- What statements do.
use Rattle.std.specs.Prelude.{ℕ, zero, suc, true, false, Option, None, Some, List, [], ◌∷◌}
use Rattle.mx_base.specs.declared.numbers.IntKind.{IntKind}
use Rattle.mx_base.specs.Numbers.{size_of}
use Rattle.mx_base.specs.Bounds.{moved}
use Rattle.mx_base.specs.StopOfC.{OutOfTurns}
use Rattle.fat_ir.specs.Calls.{with_turns}
use Rattle.bounds_plan.specs.meaning.Core.{Scalar, Effect, Nothing, OfNumber as ForNumber, OfPointer as ForPointer, CopyStruct, Statement, Skip, Do, Then, If, While, DoWhile, For, Break, Continue, Return, ReturnNumber, ReturnPtr}
use Rattle.bounds_plan.specs.meaning.State.{Pointer, Passed, OfNumber, OfPointer, Done, M, ◌>>=◌, ◌>>◌, pure, stop}
use Rattle.bounds_plan.specs.meaning.Accesses.{judge, allow, read_number, write_number, read_pointer, write_pointer}
use Rattle.bounds_plan.specs.meaning.Expressions.{Names, number, pointer, choose, with_address}

-- ---- effects

abbrev pub part : ℕ → Pointer → Pointer
part offset p = with_address (moved p.address offset) p

-- a scalar is copied; the bounds of the whole structs were judged before
abbrev pub copy_scalar : Option IntKind → (to from : Pointer) → M (Unit {0})
copy_scalar (Some kind) to from = do
  allow false (size_of kind) from
  n ← read_number kind from
  allow true (size_of kind) to
  write_number kind to n
copy_scalar None to from = do
  allow false 8 from
  v ← read_pointer from
  allow true 8 to
  write_pointer to v

abbrev pub copy_scalars : List Scalar → (to from : Pointer) → M (Unit {0})
copy_scalars [] to from = pure tt
copy_scalars (x ∷ rest) to from = do
  copy_scalar x.kind (part x.offset to) (part x.offset from)
  copy_scalars rest to from

abbrev pub effect : Names → Effect → M (Unit {0})
effect names Nothing = pure tt
effect names (ForNumber e) = number names e >> pure tt
effect names (ForPointer p) = pointer names p >> pure tt
effect names (CopyStruct size scalars to_place to from_place from) = do
  t ← pointer names to
  f ← pointer names from
  judge false size from_place (part 0 f)
  judge true size to_place (part 0 t)
  copy_scalars scalars t f

-- ---- turns and loops

-- a turn, if one is left
abbrev pub turn_from : ℕ → M (Unit {0})
turn_from zero = stop OutOfTurns
turn_from (suc n) = λ s. Done tt record s { world = with_turns n s.world }

abbrev pub turn : M (Unit {0})
turn = λ s. turn_from s.world.turns s

-- how a statement ends
pub data Flow : Type 0 where
  Normal : Flow
  Broke : Flow
  Continued : Flow
  Returned : (v : Passed) → Flow
  -- without a value
  Left : Flow

-- after the body of a loop: on, or the end of the loop
abbrev pub after_body : Flow → M Flow → M Flow
after_body Normal go = go
after_body Continued go = go
after_body Broke go = pure Normal
after_body (Returned v) go = pure (Returned v)
after_body Left go = pure Left

-- the test and the body, then the step, and then what comes after a way back
abbrev pub round : (test : M ℕ) → (body : M Flow) → (step : M (Unit {0})) → (again : M Flow) → M Flow
round test body step again = do
  x ← test
  choose x (body >>= (λ f. after_body f (step >> again))) (pure Normal)

-- a loop that tests before its body, with room for so many ways back; a way back takes a turn
abbrev pub loop : (room : ℕ) → (test : M ℕ) → (body : M Flow) → (step : M (Unit {0})) → M Flow
loop zero test body step = round test body step (stop OutOfTurns)
loop (suc room) test body step = round test body step (turn >> loop room test body step)

-- the body and the test, and then what comes after a way back
abbrev pub round_once : (body : M Flow) → (test : M ℕ) → (again : M Flow) → M Flow
round_once body test again = body >>= (λ f. after_body f (test >>= (λ x. choose x again (pure Normal))))

-- a loop that tests after its body
abbrev pub loop_once : (room : ℕ) → (body : M Flow) → (test : M ℕ) → M Flow
loop_once zero body test = round_once body test (stop OutOfTurns)
loop_once (suc room) body test = round_once body test (turn >> loop_once room body test)

-- with room for as many ways back as turns are left
abbrev pub looped : (ℕ → M Flow) → M Flow
looped loop_in = λ s. loop_in s.world.turns s

-- ---- statements

abbrev pub after_first : Flow → M Flow → M Flow
after_first Normal go = go
after_first Broke go = pure Broke
after_first Continued go = pure Continued
after_first (Returned v) go = pure (Returned v)
after_first Left go = pure Left

abbrev pub statement : Names → Statement → M Flow
statement names Skip = pure Normal
statement names (Do e) = effect names e >> pure Normal
statement names (Then a b) = do
  f ← statement names a
  after_first f (statement names b)
statement names (If test a b) = do
  x ← number names test
  choose x (statement names a) (statement names b)
statement names (While test body) = looped (λ room. loop room (number names test) (statement names body) (pure tt))
statement names (DoWhile body test) = looped (λ room. loop_once room (statement names body) (number names test))
statement names (For test step body) = looped (λ room. loop room (number names test) (statement names body) (effect names step))
statement names Break = pure Broke
statement names Continue = pure Continued
statement names Return = pure Left
statement names (ReturnNumber e) = do
  n ← number names e
  pure (Returned (OfNumber n))
statement names (ReturnPtr e) = do
  p ← pointer names e
  pure (Returned (OfPointer p))
