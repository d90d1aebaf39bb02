-- How a command answers, by what is due of it.
use Rattle.std.specs.Prelude.{◌≡◌, ◌≢◌, ℕ, Bool, true, false, Option, None, Some, List, []}
use Rattle.fault_text.specs.Explain as explain
use Rattle.mx_base.specs.declared.stops.Stop.TheVariants.{NoFrames}
use Rattle.mx_base.specs.Outside.{Untold, HoldsWhereTold, KeepsWhereTold, Adds, AddsFront, HasRisen}
use Rattle.obj_file.specs.Machine.{Reading}
use Rattle.mpx_words.specs.declared.end.End.TheVariants.{WordsRefused, ReadFault, WriteFault, NoMemory}
use Rattle.mpx_words.specs.Commands.{Command, Exec, files_of}
use Rattle.mpx_words.specs.Due.{Due, Flow, Written, IsDue}
use Rattle.mpx_words.specs.Ends.{line_of}
use Rattle.mpx_words.specs.Files.{Content, MayEachBe}
use Rattle.mpx_words.specs.Outside.{Stream, Outside}

-- ---- how the work ended

pub data Ending : Type 0 where
  -- what is due was done, and this line and status are due
  Whole : (line : Option (List ℕ)) → (status : ℕ) → Ending
  -- a call of the outside failed: a read of a file, one of the input, a write to standard output, one of a file
  FileUnread : Ending
  InputUnread : Ending
  OutputUnwritten : Ending
  FileUnwritten : Ending
  -- memory of the host is not to be had
  LacksMemory : Ending
  -- the machine has too few frames: how many are in use, and how many there are
  LacksFrames : (in_use capacity : ℕ) → Ending

-- the line on standard error, and the status
abbrev pub line_at : Ending → Option (List ℕ)
line_at (Whole line status) = line
line_at FileUnread = Some (line_of [] ReadFault)
line_at InputUnread = Some (line_of [] ReadFault)
line_at OutputUnwritten = Some (line_of [] WriteFault)
line_at FileUnwritten = Some (line_of [] WriteFault)
line_at LacksMemory = Some (line_of [] NoMemory)
line_at (LacksFrames in_use capacity) =
    Some (explain.line_of (NoFrames in_use capacity) (record { outers = 0; segments = []; files = []; places = [] }))

abbrev pub status_at : Ending → ℕ
status_at (Whole line status) = status
status_at FileUnread = 3
status_at InputUnread = 3
status_at OutputUnwritten = 4
status_at FileUnwritten = 4
status_at LacksMemory = 5
status_at (LacksFrames in_use capacity) = 14

-- ---- counts of faults

abbrev pub unread : Ending → Bool
unread FileUnread = true
unread end = false

abbrev pub unread_input : Ending → Bool
unread_input InputUnread = true
unread_input end = false

abbrev pub unwritten_output : Ending → Bool
unwritten_output OutputUnwritten = true
unwritten_output end = false

abbrev pub unwritten : Ending → Bool
unwritten FileUnwritten = true
unwritten end = false

abbrev pub RisesIf : Bool → ℕ → ℕ → Type 0
RisesIf true old new = HasRisen old new
RisesIf false old new = new ≡ old

-- each count rises exactly where such a call failed
pub record Counts (end : Ending) (before after : Outside) : Type 0 where
  pub reads : RisesIf (unread end) before.files.reads after.files.reads
  pub writes : RisesIf (unwritten end) before.files.writes after.files.writes
  pub input : RisesIf (unread_input end) before.input.faults after.input.faults
  pub out : RisesIf (unwritten_output end) before.out.faults after.out.faults

-- ---- the work

-- all of the output was put, and this input is left
abbrev pub Flows : Option Flow → Outside → Outside → Type 0
Flows (Some flow) before after = Adds before.out.told after.out.told flow.out × (after.input.told ≡ flow.left)
Flows None before after = Unit {0}

-- a front of the output was put
abbrev pub FlowsInPart : Option Flow → Outside → Outside → Type 0
FlowsInPart (Some flow) before after = AddsFront before.out.told after.out.told flow.out
FlowsInPart None before after = Unit {0}

-- no file changes
abbrev pub KeepsFiles : Outside → Outside → Type 0
KeepsFiles before after = (n : List ℕ) → after.files.told n ≡ before.files.told n

-- no other file than that of a name changes
abbrev pub KeepsOthers : List ℕ → Outside → Outside → Type 0
KeepsOthers name before after = (n : List ℕ) → n ≢ name → KeepsWhereTold (before.files.told n) (after.files.told n)

-- the file was written, and no other changes
abbrev pub Writes : Option Written → Outside → Outside → Type 0
Writes None before after = KeepsFiles before after
Writes (Some w) before after = HoldsWhereTold (after.files.told w.name) w.bytes × KeepsOthers w.name before after

-- nothing was put, taken and written
pub record Untouched (before after : Outside) : Type 0 where
  pub out : Adds before.out.told after.out.told []
  pub input : after.input.told ≡ before.input.told
  pub files : KeepsFiles before after

-- no status that tells of refused words or of a fault
pub record IsPlain (status : ℕ) : Type 0 where
  pub not_refused : status ≢ 2
  pub not_unread : status ≢ 3
  pub not_unwritten : status ≢ 4

-- all was done, and there were frames enough
pub record IsDone (due : Due) (line : Option (List ℕ)) (status : ℕ) (before after : Outside) : Type 0 where
  pub line_due : line ≡ due.line
  pub status_due : status ≡ due.status
  pub plain : IsPlain status
  pub enough : due.lack ≡ None
  pub flows : Flows due.flow before after
  pub writes : Writes due.written before after

-- a front of the output was put, and no file was written
pub record IsCut (due : Due) (before after : Outside) : Type 0 where
  pub flows : FlowsInPart due.flow before after
  pub files : KeepsFiles before after

-- the file that is due was not written, after all else was done
pub record IsUnwritten (due : Due) (before after : Outside) : Type 0 where
  pub written : Written
  pub is : due.written ≡ Some written
  pub flows : Flows due.flow before after
  pub lost : after.files.told written.name ≡ Untold
  pub others : KeepsOthers written.name before after

-- a claim on what is due of a command by what the files that it reads may be
pub record Serves (reads : List ℕ → Reading) (c : Command) (before : Outside) (Claim : Due → Type 0) : Type 0 where
  pub contents : List Content
  pub may : MayEachBe before.files.told (files_of c) contents
  pub due : Due
  pub is : IsDue reads c contents before.input.told due
  pub claim : Claim due

-- what the work of a command did that ended so
abbrev pub Works : (List ℕ → Reading) → Command → Outside → Outside → Ending → Type 0
Works reads c before after (Whole line status) = Serves reads c before (λ due. IsDone due line status before after)
Works reads c before after FileUnread = Untouched before after
Works reads c before after InputUnread = Serves reads c before (λ due. IsCut due before after)
Works reads c before after OutputUnwritten = Serves reads c before (λ due. IsCut due before after)
Works reads c before after FileUnwritten = Serves reads c before (λ due. IsUnwritten due before after)
Works reads c before after LacksMemory = Untouched before after
Works reads c before after (LacksFrames in_use capacity) =
    Serves reads c before (λ due. (due.lack ≡ Some (in_use, capacity)) × IsCut due before after)

-- only `exec` takes from the input
abbrev pub LeavesInput : Command → Outside → Outside → Type 0
LeavesInput (Exec settings file) before after = Unit {0}
LeavesInput c before after = after.input ≡ before.input

-- ---- the report

-- the last line is put on standard error, or standard error fails after a front of it, which is status 4
pub data Reports (line : List ℕ) (due status : ℕ) (before after : Stream) : Type 0 where
  Put : status ≡ due → Adds before.told after.told line → after.faults ≡ before.faults → Reports line due status before after
  Failed : status ≡ 4 → AddsFront before.told after.told line → HasRisen before.faults after.faults
      → Reports line due status before after

abbrev pub ReportsIfDue : Option (List ℕ) → ℕ → ℕ → Stream → Stream → Type 0
ReportsIfDue (Some line) due status before after = Reports line due status before after
ReportsIfDue None due status before after = (status ≡ due) × Adds before.told after.told [] × (after.faults ≡ before.faults)

-- ---- the answer

-- A command answers so: its work ended as is due, by a fault, for want of memory or for want of frames; the counts of faults tell
-- which; and the last act is the line of how it ended, if one is due.
pub record Answers (reads : List ℕ → Reading) (c : Command) (before after : Outside) (status : ℕ) : Type 0 where
  pub end : Ending
  pub works : Works reads c before after end
  pub counts : Counts end before after
  pub input : LeavesInput c before after
  pub reports : ReportsIfDue (line_at end) (status_at end) status before.err after.err

-- words that mean no command are refused
pub record Refuses (before after : Outside) (status : ℕ) : Type 0 where
  pub untouched : Untouched before after
  pub counts : Counts LacksMemory before after
  pub reports : Reports (line_of [] WordsRefused) 2 status before.err after.err
