-- The run of an image by a reader of instructions, with settings: the run that is due, and what the run of a machine leaves.
use Rattle.std.specs.Prelude.{◌≡◌, ℕ, Option, Some, None, Result, Ok, Err, List, []}
use Rattle.mx_base.specs.declared.memory.OutOfMemory.{OutOfMemory}
use Rattle.mx_base.specs.declared.stops.Stop.{Stop}
use Rattle.mx_base.specs.declared.stops.Stop.TheVariants as stop
use Rattle.mx_base.specs.Outside.{Adds, AddsFront}
use Rattle.obj_file.specs.declared.image.Image.{Image}
use Rattle.obj_file.specs.Machine.{Reading, State}
use Rattle.obj_file.specs.Readers.{read_by}
use Rattle.obj_file.specs.Runs as runs
use Rattle.obj_file.specs.Loaded.{Tabled, Mode, configuration, state_at_start, image_run}
use Rattle.mx_run.specs.declared.config.Config.{Config}
use Rattle.mx_run.specs.Backed.{Backed, ground, over_frames}
use Rattle.mx_run.specs.Events.{out_of, CountsReads, CountsWrites}
use Rattle.mx_run.specs.Machines.{lacks_frames}
use Rattle.mx_run.specs.Placing.{used_before, touched_after}
use Rattle.mpx_words.specs.declared.options.Settings.{Settings}

abbrev pub mode_of : Settings → Mode
mode_of s = record { preserve = s.preserve; bare = s.bare }

-- how a machine is made for these settings
abbrev pub config_of : Settings → Config
config_of s = record { frames = s.frames; preserve = s.preserve; bare = s.bare }

-- the run of an image, which needs no frames
abbrev pub run_by : (List ℕ → Reading) → Settings → Image → List ℕ → runs.End Tabled
run_by reads s v input = image_run reads v (mode_of s) s.turns input

-- its run in a memory of so many frames, which may end for want of them
unfoldable pub framed_run_by : (List ℕ → Reading) → Settings → Image → List ℕ → runs.End Backed
framed_run_by reads s v input =
    runs.run_of (read_by (ground (configuration s.preserve) v.outers s.bare) reads) s.turns
    (over_frames (state_at_start v.segments s.preserve input) (touched_after [] v.segments) s.frames)

-- the frames in use, and how many there are, where these are too few: for the segments of the image, or else for a write of its run
abbrev pub lack_of : Option ℕ → ℕ → runs.End Backed → Option (ℕ × ℕ)
lack_of (Some in_use) frames run = Some (in_use, frames)
lack_of None frames run = lacks_frames run

abbrev pub lack_by : (List ℕ → Reading) → Settings → Image → List ℕ → Option (ℕ × ℕ)
lack_by reads s v input = lack_of (used_before s.frames [] v.segments) s.frames (framed_run_by reads s v input)

-- ---- how a run ended

abbrev pub stop_of : runs.End Tabled → Stop
stop_of (runs.Out last) = stop.OutOfTurns
stop_of (runs.Stopped why last) = why

-- the input that it left
abbrev pub rest_of : runs.End Tabled → List ℕ
rest_of (runs.Out last) = last.guest.input
rest_of (runs.Stopped why last) = last.guest.input

-- ---- as a machine does it

-- a state's output was put, and its input is left
pub record Leaves (t : State Tabled) (held held' left' : Option (List ℕ)) : Type 0 where
  pub puts : Adds held held' t.guest.out
  pub left : left' ≡ Some t.guest.input

-- a run stopped so; for want of frames, or by a fault of the outside, it was given up, and a front of its output was put
abbrev pub Comes : runs.End Tabled → Stop → Option (List ℕ) → Option (List ℕ) → Option (List ℕ) → Type 0
Comes e stop.OutOfTurns held held' left' = (t : State Tabled) × (e ≡ runs.Out t) × Leaves t held held' left'
Comes e (stop.NoFrames in_use capacity) held held' left' = AddsFront held held' (out_of e)
Comes e stop.ReadFault held held' left' = AddsFront held held' (out_of e)
Comes e stop.WriteFault held held' left' = AddsFront held held' (out_of e)
Comes e why held held' left' = (t : State Tabled) × (e ≡ runs.Stopped why t) × Leaves t held held' left'

-- it stopped for want of frames exactly where they are too few, with these numbers; a fault of the outside came before that
abbrev pub TellsLack : Option (ℕ × ℕ) → Stop → Type 0
TellsLack lack (stop.NoFrames in_use capacity) = lack ≡ Some (in_use, capacity)
TellsLack lack stop.ReadFault = Unit {0}
TellsLack lack stop.WriteFault = Unit {0}
TellsLack lack why = lack ≡ None

-- the run of an image, or want of memory before it
abbrev pub RunsImage : (List ℕ → Reading) → Settings → Image → Option (List ℕ) → Result Stop OutOfMemory
    → Option (List ℕ) → Option (List ℕ) → Option (List ℕ) → Type 0
RunsImage reads s v left (Ok why) held held' left' =
    (input : List ℕ) → left ≡ Some input
    → TellsLack (lack_by reads s v input) why × Comes (run_by reads s v input) why held held' left'
RunsImage reads s v left (Err lack) held held' left' = (held' ≡ held) × (left' ≡ left)

-- the counts of the source and of the sink rise exactly where their fault ends the run
abbrev pub RunCounts : Result Stop OutOfMemory → ℕ → ℕ → ℕ → ℕ → Type 0
RunCounts (Ok why) ins ins' outs outs' = CountsReads (Some why) ins ins' × CountsWrites (Some why) outs outs'
RunCounts (Err lack) ins ins' outs outs' = (ins' ≡ ins) × (outs' ≡ outs)
