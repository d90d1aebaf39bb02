-- The state of a C function that runs, and computations on it.
use Rattle.std.specs.Prelude.{ℕ, ◌+◌, ◌-◌, ◌/◌, ◌==◌, ◌&&◌, if◌then◌else◌, Option, None, Some, List, [], ◌∷◌, ◌++◌, length}
use Rattle.std.specs.List.{position_or_len, list_any}
use Rattle.mx_base.specs.declared.limits.Bounds.{Bounds}
use Rattle.mx_base.specs.Bounds.{full_bounds}
use Rattle.mx_base.specs.StopOfC.{StopOfC}
use Rattle.mx_base.specs.World.{World, Access, Cause, MadeAt, FullBy, Rooted, Log}

infixl 1 ◌>>=◌
infixl 1 ◌>>◌
-- a pointer: its address, with its bounds and where they come from
pub record Pointer : Type 0 where
  pub address : ℕ
  pub rooted : Rooted

-- what passes between functions
pub data Passed : Type 0 where
  OfNumber : (n : ℕ) → Passed
  OfPointer : (p : Pointer) → Passed

-- the private variables of the function, the world, and beside it what decides nothing. The number of a private variable stands at its
-- value, and a pointer's bounds at the next one.
pub record State : Type 0 where
  pub numbers : ℕ → ℕ
  pub pairs : ℕ → Rooted
  pub world : World
  pub log : Log

-- how a computation ends: with a value, or with a stop of the program
pub data Ended (A : Type 0) : Type 0 where
  Done : (v : A) → (s : State) → Ended A
  Stopped : (why : StopOfC) → (s : State) → Ended A

abbrev pub M : Type 0 → Type 0
M A = State → Ended A

abbrev pub bind : {A B : Type 0} → Ended A → (A → M B) → Ended B
bind (Done v s) go = go v s
bind (Stopped why s) go = Stopped why s

abbrev pub ◌>>=◌ : {A B : Type 0} → M A → (A → M B) → M B
m >>= go = λ s. bind (m s) go

abbrev pub ◌>>◌ : {A B : Type 0} → M A → M B → M B
m >> n = λ s. bind (m s) (λ v. n)

abbrev pub pure : {A : Type 0} → A → M A
pure v = λ s. Done v s

abbrev pub stop : {A : Type 0} → StopOfC → M A
stop why = λ s. Stopped why s

abbrev pub unless : Option StopOfC → M (Unit {0})
unless None = pure tt
unless (Some why) = stop why

-- ---- the world and the log

abbrev pub the_state : M State
the_state = λ s. Done s s

abbrev pub set_world : World → M (Unit {0})
set_world w = λ s. Done tt record s { world = w }

abbrev pub set_log : Log → M (Unit {0})
set_log l = λ s. Done tt record s { log = l }

-- bounds that were made, which are their own root
abbrev pub with_made : Bounds → Log → Log
with_made b l = record l { made = l.made ++ b ∷ [] }

abbrev pub making : ℕ → Bounds → M Pointer
making address b = λ s. Done record { address = address; rooted = record { bounds = b; root = MadeAt (length s.log.made) } } record s { log = with_made b s.log }

-- a cause of full bounds that happened
abbrev pub with_cause : Cause → Log → Log
with_cause cause l = record l { causes = l.causes ++ cause ∷ [] }

abbrev pub full_by : Cause → ℕ → M Pointer
full_by cause address = λ s. Done record { address = address; rooted = record { bounds = full_bounds; root = FullBy cause } } record s { log = with_cause cause s.log }

-- bounds that were made before: their place among those
abbrev pub place_of : Bounds → List Bounds → ℕ
place_of b made = position_or_len (λ (d : Bounds). d.lb == b.lb && d.ub == b.ub) made

abbrev pub made_before : ℕ → Bounds → M Pointer
made_before address b = λ s. Done record { address = address; rooted = record { bounds = b; root = MadeAt (place_of b s.log.made) } } s

-- a list with a number that stands in it once
abbrev pub listed : ℕ → List ℕ → List ℕ
listed n list = if list_any (λ m. m == n) list then list else list ++ n ∷ []

-- the pages written once an access is done, which has bytes of two at most
abbrev pub pages_with : Access → List ℕ → List ℕ
pages_with a pages = if a.write then listed ((a.at + a.size - 1) / 4096) (listed (a.at / 4096) pages) else pages

-- an access through a pointer
abbrev pub with_access : Rooted → Access → Log → Log
with_access r a l = record l {
  trace = l.trace ++ record { access = a; bounds = Some r; made = length l.made; causes = length l.causes } ∷ [];
  pages = pages_with a l.pages;
}

-- ---- private variables

abbrev pub stored : {A : Type 0} → (ℕ → A) → ℕ → A → ℕ → A
stored f x v = λ y. if y == x then v else f y

abbrev pub variable : ℕ → M ℕ
variable x = λ s. Done (s.numbers x) s

abbrev pub set_variable : ℕ → ℕ → M (Unit {0})
set_variable x n = λ s. Done tt record s { numbers = stored s.numbers x n }

abbrev pub variable_ptr : ℕ → M Pointer
variable_ptr x = λ s. Done record { address = s.numbers x; rooted = s.pairs (x + 1) } s

abbrev pub set_variable_ptr : ℕ → Pointer → M (Unit {0})
set_variable_ptr x p = λ s. Done tt record s { numbers = stored s.numbers x p.address; pairs = stored s.pairs (x + 1) p.rooted }
