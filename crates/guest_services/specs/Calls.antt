-- What a call of a service answers and leaves.
use Rattle.std.specs.Prelude.{◌≡◌, ℕ, ◌<◌, length, Option, List, [], Result, Ok, Err}
use Rattle.mx_base.specs.Regions.{is_readable}
use Rattle.mx_base.specs.Memory.{Bytes, first_refused_around}
use Rattle.mx_base.specs.Heap.{Heap}
use Rattle.mx_base.specs.Services.{Guest, Served, Answers, Exits, Overflows, Refused, service_of, served}
use Rattle.mx_base.specs.Outside.{Adds, AddsFront, HasRisen}
use Rattle.guest_services.specs.declared.services.Served.{Served as Answer}
use Rattle.guest_services.specs.declared.services.Served.TheVariants.{Value, Exit, StackOver, Unmapped, ReadFault, WriteFault}
use Rattle.guest_services.specs.Streams.{MayTell, Leaves}

-- what services change, as far as it is told
pub record Around : Type 0 where
  pub heap : Heap
  pub left : Option (List ℕ)
  pub held : Option (List ℕ)

-- what a service means for a guest with this heap and this input, where its bytes are judged by the regions alone
abbrev pub meant : Bytes → ℕ → ℕ → ℕ → ℕ → Heap → List ℕ → Served ℕ
meant m number rdi rsi rdx heap input =
    served m (λ from n. first_refused_around is_readable n from) (service_of number) rdi rsi rdx record { heap = heap; input = input; out = [] }

-- what is there is as the guest has it now: its heap, its input, and its output more than before
pub record Becomes (old new : Around) (g : Guest) : Type 0 where
  pub heap : new.heap ≡ g.heap
  pub input : Leaves old.left new.left g.input
  pub out : Adds old.held new.held g.out

-- nothing was changed
pub record Stays (old new : Around) : Type 0 where
  pub heap : new.heap ≡ old.heap
  pub input : new.left ≡ old.left
  pub out : Adds old.held new.held []

-- the guest has bytes to put, and a front of them was put
pub record PutsFront (old new : Around) (g : Guest) : Type 0 where
  pub some : 0 < length g.out
  pub heap : new.heap ≡ old.heap
  pub input : new.left ≡ old.left
  pub out : AddsFront old.held new.held g.out

-- the answer is what is meant. A fault of the output comes after a front of it; a fault of the input changes nothing.
abbrev pub Ends : Served ℕ → Around → Around → Answer → Type 0
Ends (Answers word g) old new (Value v) = (v ≡ word) × Becomes old new g
Ends (Answers word g) old new WriteFault = PutsFront old new g
Ends (Answers word g) old new ReadFault = Stays old new
Ends (Exits code) old new (Exit c) = (c ≡ code) × Stays old new
Ends Overflows old new StackOver = Stays old new
Ends (Refused x) old new (Unmapped a) = (a ≡ x) × Stays old new
Ends want old new answer = ⊥

-- a call of a service by some input that agrees with what is told of it
abbrev pub Calls : (List ℕ → Served ℕ) → Around → Around → Answer → Type 0
Calls meaning old new answer = (input : List ℕ) × MayTell old.left input × Ends (meaning input) old new answer

-- the counts of faults: one rises exactly where the answer is its fault
abbrev pub CountsReads : Answer → ℕ → ℕ → Type 0
CountsReads ReadFault old new = HasRisen old new
CountsReads answer old new = new ≡ old

abbrev pub CountsWrites : Answer → ℕ → ℕ → Type 0
CountsWrites WriteFault old new = HasRisen old new
CountsWrites answer old new = new ≡ old

-- the answer of a service that puts something
abbrev pub put_served : {E : Type 0} → Result (Unit {0}) E → Answer
put_served (Ok done) = Value 0
put_served (Err e) = WriteFault
