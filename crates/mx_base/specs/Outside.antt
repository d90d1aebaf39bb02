-- The outside: what is told of files, sources and sinks, and what each call makes of it.
use Rattle.std.specs.Prelude.{◌≡◌, ℕ, ◌+◌, ◌<◌, ◌≤◌, min, Option, None, Some, Result, Ok, Err, List, [], ◌++◌, length, take, drop}

-- what is told of a name: nothing, that no file has it, or the bytes of its file
pub data FileFacts : Type 0 where
  Untold : FileFacts
  Absent : FileFacts
  Holds : List ℕ → FileFacts

-- the first n of these bytes stand in the front of the buffer; none only at the end, or for an empty buffer
pub record Gives (bytes : List ℕ) (n : ℕ) (buf : List ℕ) : Type 0 where
  pub within : n ≤ length bytes
  pub same : take n buf ≡ take n bytes
  pub ends : n ≡ 0 → 0 < length buf → bytes ≡ []

-- a file's bytes from an offset on, where they are told
abbrev pub GivesFrom : FileFacts → ℕ → ℕ → List ℕ → Type 0
GivesFrom Untold at n buf = Unit {0}
GivesFrom Absent at n buf = ⊥
GivesFrom (Holds bytes) at n buf = Gives (drop at bytes) n buf

-- nothing that is told speaks against there being no file
abbrev pub MayLack : FileFacts → Type 0
MayLack Untold = Unit {0}
MayLack Absent = Unit {0}
MayLack (Holds bytes) = ⊥

-- what `read_at` answers for a file, with the buffer after it
abbrev pub Reads : {E : Type 0} → FileFacts → ℕ → List ℕ → Result (Option ℕ) E → Type 0
Reads facts at buf (Ok None) = MayLack facts
Reads facts at buf (Ok (Some n)) = (n ≤ length buf) × GivesFrom facts at n buf
Reads facts at buf (Err e) = Unit {0}

-- the file has these bytes, where it is told
abbrev pub HoldsWhereTold : FileFacts → List ℕ → Type 0
HoldsWhereTold Untold bytes = Unit {0}
HoldsWhereTold Absent bytes = ⊥
HoldsWhereTold (Holds held) bytes = held ≡ bytes

-- what is told of a file afterwards was told of it before
abbrev pub KeepsWhereTold : FileFacts → FileFacts → Type 0
KeepsWhereTold old Untold = Unit {0}
KeepsWhereTold old Absent = old ≡ Absent
KeepsWhereTold old (Holds bytes) = old ≡ Holds bytes

-- what `take` answers, with the bytes left before and after it and the buffer after it
abbrev pub Takes : {E : Type 0} → Option (List ℕ) → Option (List ℕ) → List ℕ → Result ℕ E → Type 0
Takes None new buf (Ok n) = (n ≤ length buf) × (new ≡ None)
Takes (Some bytes) new buf (Ok n) = (n ≤ length buf) × Gives bytes n buf × (new ≡ Some (drop n bytes))
Takes old new buf (Err e) = new ≡ old

-- a sink has these bytes more, where it tells what it holds; it does not begin to tell
abbrev pub Adds : Option (List ℕ) → Option (List ℕ) → List ℕ → Type 0
Adds old None bytes = Unit {0}
Adds None (Some new) bytes = ⊥
Adds (Some old) (Some new) bytes = new ≡ old ++ bytes

-- a sink has a front of these bytes more, where it tells what it holds
pub record AddsFront (old new : Option (List ℕ)) (bytes : List ℕ) : Type 0 where
  pub front : List ℕ
  pub rest : List ℕ
  pub splits : bytes ≡ front ++ rest
  pub adds : Adds old new front

-- what `put` answers for a piece, with the bytes held before and after it
abbrev pub Puts : {E : Type 0} → Option (List ℕ) → Option (List ℕ) → List ℕ → Result ℕ E → Type 0
Puts old new piece (Ok n) = (n ≤ length piece) × (0 < length piece → 0 < n) × Adds old new (take n piece)
Puts old new piece (Err e) = Adds old new []

-- a count of faults rose: it is greater than before, or stands at 2^64 - 1, where it cannot grow
pub record HasRisen (old new : ℕ) : Type 0 where
  pub grows : old ≤ new
  pub unless_full : new < 0xffff_ffff_ffff_ffff → old < new

-- a count of faults rises exactly in a call that fails
abbrev pub Counts : {T E : Type 0} → Result T E → ℕ → ℕ → Type 0
Counts (Ok v) old new = new ≡ old
Counts (Err e) old new = HasRisen old new

-- a count one higher, as far as a u64 counts
abbrev pub one_more : ℕ → ℕ
one_more n = min (n + 1) 0xffff_ffff_ffff_ffff
