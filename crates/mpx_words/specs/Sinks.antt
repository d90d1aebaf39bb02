-- What putting a whole text does to a sink.
use Rattle.std.specs.Prelude.{◌≡◌, ℕ, Option, Result, Ok, Err, List, [], ◌⊎◌}
use Rattle.mx_base.specs.Outside.{Adds, AddsFront, HasRisen}
use Rattle.obj_linker.specs.declared.fault.LinkFault.{LinkFault}
use Rattle.obj_linker.specs.declared.fault.LinkFault.TheVariants as fault
use Rattle.mpx_words.specs.declared.end.End.TheVariants.{WriteFault, NoMemory}
use Rattle.mpx_words.specs.Answers.{Reports}
use Rattle.mpx_words.specs.Ends.{line_of}
use Rattle.mpx_words.specs.Linking.{line_of_fault}
use Rattle.mpx_words.specs.Outside.{Stream}

-- all the bytes were put, or a front of them and then the sink refused
abbrev pub PutsAll : {T E : Type 0} → Option (List ℕ) → Option (List ℕ) → List ℕ → Result T E → Type 0
PutsAll old new bytes (Ok v) = Adds old new bytes
PutsAll old new bytes (Err e) = AddsFront old new bytes

-- all of a text was put, which is status 0 without a line; or a front of it, and then came the line of the fault
pub data Prints (text : List ℕ) (status : ℕ) (out out' err err' : Stream) : Type 0 where
  All : status ≡ 0 → Adds out.told out'.told text → out'.faults ≡ out.faults → err' ≡ err
      → Prints text status out out' err err'
  Part : AddsFront out.told out'.told text → HasRisen out.faults out'.faults → Reports (line_of [] WriteFault) 4 status err err'
      → Prints text status out out' err err'

-- the line of a fault is put, with status 1, or that memory is wanting
abbrev pub ReportsFault : LinkFault → ℕ → Stream → Stream → Type 0
ReportsFault fault.OutOfMemory status before after = Reports (line_of [] NoMemory) 5 status before after
ReportsFault f status before after = Reports (line_of_fault f) 1 status before after ⊎ Reports (line_of [] NoMemory) 5 status before after
