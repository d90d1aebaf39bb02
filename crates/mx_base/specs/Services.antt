-- The services that a guest may ask for, by number, with up to three words.
use Rattle.std.specs.Prelude.{ℕ, ◌-◌, ◌%◌, ◌==◌, not, if◌then◌else◌, Option, None, Some, List, [], ◌∷◌, ◌++◌}
use Rattle.std.specs.Fmt.{signed_decimal}
use Rattle.mx_base.specs.declared.numbers.IntKind.TheVariants.{I64}
use Rattle.mx_base.specs.declared.services.CService.{CService}
use Rattle.mx_base.specs.declared.services.CService.TheVariants as in_c
use Rattle.mx_base.specs.Numbers.{value_of}
use Rattle.mx_base.specs.Bounds.{addresses}
use Rattle.mx_base.specs.Memory.{Bytes, list_at}
use Rattle.mx_base.specs.Heap.{Heap, whole_heap, allocated, freed}

pub data Service : Type 0 where
  Write : Service
  Exit : Service
  Alloc : Service
  Free : Service
  Print : Service
  Put : Service
  Get : Service
  StackOver : Service
  NoService : Service

unfoldable pub service_of : ℕ → Service
service_of n = if n == 1 then Write else if n == 60 then Exit else if n == 0x1000 then Alloc else if n == 0x1001 then Free
    else if n == 0x1002 then Print else if n == 0x1003 then Put else if n == 0x1004 then Get else if n == 0x1005 then StackOver
    else NoService

-- what services change: the heap, the input left, and the output
pub record Guest : Type 0 where
  pub heap : Heap
  pub input : List ℕ
  pub out : List ℕ

abbrev pub guest_with : List ℕ → Guest
guest_with input = record { heap = whole_heap; input = input; out = [] }

-- how a service ends: with a word, with the end of the run by exit or by want of stack, or with its bytes refused
pub data Served (R : Type 0) : Type 0 where
  Answers : (word : ℕ) → (g : Guest) → Served R
  Exits : (code : ℕ) → Served R
  Overflows : Served R
  Refused : (why : R) → Served R

-- the word of a number below 0
abbrev pub minus : ℕ → ℕ
minus n = addresses - n

-- these bytes more in the output
abbrev pub put_out : Guest → List ℕ → Guest
put_out g bytes = record { heap = g.heap; input = g.input; out = g.out ++ bytes }

-- the bytes that a write takes, once they were judged
abbrev pub written : {R : Type 0} → Bytes → ℕ → ℕ → Guest → Option R → Served R
written m from n g None = Answers n (put_out g (list_at n m from))
written m from n g (Some why) = Refused why

-- a byte taken from the input, or -1 at its end
abbrev pub gotten : {R : Type 0} → Guest → List ℕ → Served R
gotten g [] = Answers (minus 1) g
gotten g (b ∷ rest) = Answers b record { heap = g.heap; input = rest; out = g.out }

abbrev pub alloc_answer : {R : Type 0} → Guest → ℕ × Heap → Served R
alloc_answer g p = Answers p.0 record { heap = p.1; input = g.input; out = g.out }

abbrev pub free_answer : {R : Type 0} → Guest → Option Heap → Served R
free_answer g None = Answers (minus 1) g
free_answer g (Some h) = Answers 0 record { heap = h; input = g.input; out = g.out }

-- what a service answers and leaves. Its words are those of rdi, rsi and rdx; `refused` judges the reading of some bytes, from
-- an address on (first the address, then how many), by the caller's rules: all of a write's bytes at once and before any is
-- written, and none where there is none.
unfoldable pub served : {R : Type 0} → Bytes → (ℕ → ℕ → Option R) → Service → (rdi rsi rdx : ℕ) → Guest → Served R
served m refused Write rdi rsi rdx g = if not (rdi == 1) then Answers (minus 9) g
    else if rdx == 0 then Answers 0 g else written m rsi rdx g (refused rsi rdx)
served m refused Exit rdi rsi rdx g = Exits (rdi % 256)
served m refused Alloc rdi rsi rdx g = alloc_answer g (allocated g.heap rdi)
served m refused Free rdi rsi rdx g = free_answer g (freed g.heap rdi)
served m refused Print rdi rsi rdx g = Answers 0 (put_out g (signed_decimal (value_of I64 rdi) ++ 10 ∷ []))
served m refused Put rdi rsi rdx g = Answers 0 (put_out g (rdi % 256 ∷ []))
served m refused Get rdi rsi rdx g = gotten g g.input
served m refused StackOver rdi rsi rdx g = Overflows
served m refused NoService rdi rsi rdx g = Answers (minus 38) g

-- the services that C knows by name
unfoldable pub c_service : CService → Service
c_service in_c.Print = Print
c_service in_c.Put = Put
c_service in_c.Get = Get
c_service in_c.Alloc = Alloc
c_service in_c.Free = Free
c_service in_c.Exit = Exit
