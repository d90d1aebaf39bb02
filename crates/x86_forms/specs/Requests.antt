-- What an instruction does, as requests to a memory and a store of bounds: each row of the instruction table is such a program.
use Rattle.std.specs.Prelude.{ℕ, Bool, Result, Ok, Err}
use Rattle.mx_base.specs.declared.limits.Bounds.{Bounds}
use Rattle.x86_forms.specs.Processor.{Processor}

-- why an instruction isn't done, apart from its requests: #DE, #UD, or #BR for a value outside the bounds
pub data Fault : Type 0 where
  Divides : Fault
  Undefines : Fault
  Violates : (value : ℕ) → (b : Bounds) → Fault

-- a request, and how it goes on with the answer: it ends with the processor after it, or fails with the processor that it leaves,
-- reads or writes `size` bytes at an address, or loads or keeps the bounds of a pointer of this value at an address;
-- `implicit` marks the access of push, pop, call and ret to the stack
pub data Program : Type 0 where
  Ends : (after : Processor) → Program
  Fails : (fault : Fault) → (left : Processor) → Program
  Reads : (at size : ℕ) → (implicit : Bool) → (next : ℕ → Program) → Program
  Writes : (at size value : ℕ) → (implicit : Bool) → (next : Program) → Program
  Loads : (at value : ℕ) → (next : Bounds → Program) → Program
  Keeps : (at value : ℕ) → (b : Bounds) → (next : Program) → Program

-- a memory with a store of bounds, which refuses a request by an O
pub record Store (X O : Type 0) : Type 0 where
  pub read : X → ℕ → ℕ → Result ℕ O
  pub write : X → ℕ → ℕ → ℕ → Result X O
  pub load : X → ℕ → ℕ → Result (Bounds × X) O
  pub keep : X → ℕ → ℕ → Bounds → Result X O
  -- what BNDSTATUS holds after a refusal, from what it held
  pub status : O → ℕ → ℕ

-- how an instruction ended, with the processor and the memory that it left
pub data Outcome (X O : Type 0) : Type 0 where
  Done : (after : Processor) → (memory : X) → Outcome X O
  Failed : (fault : Fault) → (left : Processor) → (memory : X) → Outcome X O
  Refused : (by : O) → (left : Processor) → (memory : X) → Outcome X O

-- the processor after a refusal
abbrev pub refused_with : ℕ → Processor → Processor
refused_with status before = record before { status = status }

abbrev pub either_way : {A B O : Type 0} → Result A O → (A → B) → (O → B) → B
either_way (Ok a) f g = f a
either_way (Err o) f g = g o

-- a program run on a memory, `before` being the processor before it
unfoldable pub run : {X O : Type 0} → Store X O → Processor → Program → X → Outcome X O
run s before (Ends after) x = Done after x
run s before (Fails fault left) x = Failed fault left x
run s before (Reads at size implicit next) x = either_way (s.read x at size) (λ v. run s before (next v) x) (λ o. Refused o (refused_with (s.status o before.status) before) x)
run s before (Writes at size value implicit next) x = either_way (s.write x at size value) (λ y. run s before next y) (λ o. Refused o (refused_with (s.status o before.status) before) x)
run s before (Loads at value next) x = either_way (s.load x at value) (λ p. run s before (next p.0) p.1) (λ o. Refused o (refused_with (s.status o before.status) before) x)
run s before (Keeps at value b next) x = either_way (s.keep x at value b) (λ y. run s before next y) (λ o. Refused o (refused_with (s.status o before.status) before) x)
