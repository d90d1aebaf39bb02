-- What reading a source file gives, by what is told of the file.
use Rattle.std.specs.Prelude.{◌≡◌, ℕ, ◌≤◌, Option, None, Some, Result, Ok, Err, List, [], length, take}
use Rattle.std.specs.declared.vec.Vec.{Vec}
use Rattle.std.specs.Global.{Global}
use Rattle.mx_base.specs.Outside.{FileFacts, Untold, Absent, Holds, MayLack, HasRisen}
use Rattle.mpx_words.specs.declared.source_file.SourceFault.{SourceFault}
use Rattle.mpx_words.specs.declared.source_file.SourceFault.TheVariants.{Failed, OutOfMemory}

-- the first `most` bytes of a file, or all of them if it has fewer
abbrev pub IsFrontOf : ℕ → FileFacts → List ℕ → Type 0
IsFrontOf most Untold bytes = length bytes ≤ most
IsFrontOf most Absent bytes = ⊥
IsFrontOf most (Holds held) bytes = bytes ≡ take most held

-- a file of these bytes begins so; what is told of no file says nothing yet
abbrev pub IsReadFrom : FileFacts → List ℕ → Type 0
IsReadFrom Untold bytes = Unit {0}
IsReadFrom Absent bytes = bytes ≡ []
IsReadFrom (Holds held) bytes = bytes ≡ take (length bytes) held

-- what reading answers: no file, its front, or why not
abbrev pub ReadsFront : ℕ → FileFacts → Result (Option (Vec ℕ Global)) SourceFault → Type 0
ReadsFront most facts (Ok None) = MayLack facts
ReadsFront most facts (Ok (Some bytes)) = IsFrontOf most facts bytes.items
ReadsFront most facts (Err fault) = Unit {0}

-- the count of read faults rises exactly where a read failed
abbrev pub ReadCounts : {T : Type 0} → Result T SourceFault → ℕ → ℕ → Type 0
ReadCounts (Ok v) old new = new ≡ old
ReadCounts (Err Failed) old new = HasRisen old new
ReadCounts (Err OutOfMemory) old new = new ≡ old
