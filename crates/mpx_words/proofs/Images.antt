-- What the run of a machine at an image's start leaves.
use Rattle.std.proofs.Common.{◌≡◌, ℕ, Option, None, Some, Ok, List, [], refl, sym, ap, ◌∙◌, subst}
use Rattle.mx_base.specs.declared.stops.Stop.{Stop}
use Rattle.mx_base.specs.declared.stops.Stop.TheVariants as stop
use Rattle.mx_base.specs.Outside.{Adds, AddsFront}
use Rattle.obj_file.specs.declared.image.Image.{Image}
use Rattle.obj_file.specs.Machine.{Reading, IsReader, State}
use Rattle.obj_file.specs.StoreLaw.{HaveBytes}
use Rattle.obj_file.proofs.Readers.{same_run}
use Rattle.mx_run.specs.Placing.{used_before}
use Rattle.mx_run.specs.Reads.{reader}
use Rattle.mx_run.proofs.ReaderLaws.{reader_reads}
use Rattle.obj_file.specs.Runs as runs
use Rattle.obj_file.specs.Loaded.{Tabled, image_run}
use Rattle.mx_run.specs.declared.machine.Machine.{Machine}
use Rattle.mx_run.specs.declared.parts.Parts.{Parts}
use Rattle.mx_run.specs.Backed.{Backed, ground, image_ground, in_bytes, over_frames}
use Rattle.mx_run.specs.Events.{Around, IsNow, IsCut, Ends, EndsInBytes, out_of}
use Rattle.mx_run.specs.Machines.{ground_of, machine_state, framed_ground_of, framed_state, framed_run, lacks_frames, Runs, RunsInBytes, IsAtStart}
use Rattle.mpx_words.specs.declared.options.Settings.{Settings}
use Rattle.mpx_words.specs.Running.{config_of, mode_of, run_by, framed_run_by, Leaves, Comes, lack_of, TellsLack, RunsImage}
use Rattle.mpx_words.proofs.Puts.{adds_nothing}
use Rattle.mpx_words.proofs.Readers.{framed_same}

-- ---- the run

-- the run of a machine that stands at an image's start is the run of the image
run_of_machine : (v : Image) (s : Settings) (m : Machine) (input : List ℕ) → IsAtStart v (config_of s) m → runs.run_of (ground_of m) s.turns (machine_state m input []) ≡ image_run reader v (mode_of s) s.turns input
unfolding image_run
run_of_machine v s m input start = λ i. runs.run_of (image_ground (start.cfg i) (start.outers i) (start.bare i)) s.turns (start.state input i)

framed_of : (v : Image) (s : Settings) (m : Machine) (input : List ℕ) → IsAtStart v (config_of s) m → runs.run_of (framed_ground_of m) s.turns (framed_state m input []) ≡ framed_run v (mode_of s) s.frames s.turns input
unfolding framed_run
framed_of v s m input start = λ i. runs.run_of (ground (start.cfg i) (start.outers i) (start.bare i)) s.turns (over_frames (start.state input i) (start.touched i) (start.frames i))

leaves : (held : Option (List ℕ)) (new : Around) (t : State Backed) → IsNow held [] new t → Leaves (in_bytes t) held new.held new.left
leaves held new t n = record {
  puts = subst (Adds held new.held) (sym (ap (λ (x : State Backed). x.guest.out) n.is)) n.adds;
  left = n.left ∙ ap Some (sym (ap (λ (x : State Backed). x.guest.input) n.is));
}

cut : (held held' : Option (List ℕ)) (out : List ℕ) → IsCut held [] held' out → AddsFront held held' out
cut held held' out h = record { front = h.front; rest = h.rest; splits = h.splits; adds = h.adds }

comes : (e : runs.End Tabled) (held : Option (List ℕ)) (new : Around) (why : Stop) → EndsInBytes e held [] new why → Comes e why held new.held new.left
comes e held new (stop.Exit code) (t, is, now) = (in_bytes t, is, leaves held new t now)
comes e held new (stop.Bounds breach) (t, is, now) = (in_bytes t, is, leaves held new t now)
comes e held new (stop.Unmapped a) (t, is, now) = (in_bytes t, is, leaves held new t now)
comes e held new stop.Divide (t, is, now) = (in_bytes t, is, leaves held new t now)
comes e held new (stop.Undefined a) (t, is, now) = (in_bytes t, is, leaves held new t now)
comes e held new stop.StackOver (t, is, now) = (in_bytes t, is, leaves held new t now)
comes e held new stop.OutOfTurns (t, is, now) = (in_bytes t, is, leaves held new t now)
comes e held new (stop.Strayed a) (t, is, now) = (in_bytes t, is, leaves held new t now)
comes e held new stop.NoTable (t, is, now) = (in_bytes t, is, leaves held new t now)
comes e held new (stop.NoFrames in_use capacity) h = cut held new.held (out_of e) h
comes e held new stop.ReadFault h = cut held new.held (out_of e) h
comes e held new stop.WriteFault h = cut held new.held (out_of e) h

-- whether frames were too few, by how the run over them ended
tells : (e : runs.End Backed) (held : Option (List ℕ)) (new : Around) (why : Stop) → Ends e held [] new why → TellsLack (lacks_frames e) why
tells e held new (stop.Exit code) h = ap lacks_frames h.1
tells e held new (stop.Bounds breach) h = ap lacks_frames h.1
tells e held new (stop.Unmapped a) h = ap lacks_frames h.1
tells e held new stop.Divide h = ap lacks_frames h.1
tells e held new (stop.Undefined a) h = ap lacks_frames h.1
tells e held new stop.StackOver h = ap lacks_frames h.1
tells e held new stop.OutOfTurns h = ap lacks_frames h.1
tells e held new (stop.Strayed a) h = ap lacks_frames h.1
tells e held new stop.NoTable h = ap lacks_frames h.1
tells e held new (stop.NoFrames in_use capacity) h = ap lacks_frames h.1
tells e held new stop.ReadFault h = tt
tells e held new stop.WriteFault h = tt

-- the run of a machine at an image's start, as a run of the image by any exact reader
module _ (reads : List ℕ → Reading) (exact : IsReader reads) (v : Image) (bytes : HaveBytes v.segments) (s : Settings) where
  run_here : (input : List ℕ) → image_run reader v (mode_of s) s.turns input ≡ run_by reads s v input
  run_here input = same_run reader reads reader_reads exact v bytes (mode_of s) s.turns input

  pub ran : (m : Machine) → IsAtStart v (config_of s) m
      → (parts : Parts) (why : Stop) (held held' left left' : Option (List ℕ))
      → (m.kept ≡ None → RunsInBytes m s.turns left held (record { parts = parts; left = left'; held = held' }) why) → (m.kept ≡ None → Runs m s.turns left held (record { parts = parts; left = left'; held = held' }) why)
      → RunsImage reads s v left (Ok why) held held' left'
  ran m start parts why held held' left left' ends framed = λ input e.
      let new : Around = record { parts = parts; left = left'; held = held' } in
      let over : Ends (framed_run_by reads s v input) held [] new why = subst (λ (r : runs.End Backed). Ends r held [] new why) (framed_of v s m input start ∙ framed_same reads exact s v bytes input) (framed start.kept input [] e) in (
        subst (λ (lack : Option (ℕ × ℕ)). TellsLack lack why) (sym (ap (λ used. lack_of used s.frames (framed_run_by reads s v input)) start.fits)) (tells _ held new why over),
        comes (run_by reads s v input) held new why (subst (λ (r : runs.End Tabled). EndsInBytes r held [] new why) (run_of_machine v s m input start ∙ run_here input) (ends start.kept input [] e)),
      )

-- too few frames for the segments
pub lacking : (reads : List ℕ → Reading) (s : Settings) (v : Image) (in_use capacity : ℕ) (held left : Option (List ℕ)) → used_before s.frames [] v.segments ≡ Some in_use → capacity ≡ s.frames → RunsImage reads s v left (Ok (stop.NoFrames in_use capacity)) held held left
lacking reads s v in_use capacity held left used e = λ input is. (
  ap (λ o. lack_of o s.frames (framed_run_by reads s v input)) used ∙ ap (λ (n : ℕ). Some (in_use, n)) (sym e),
  record { front = []; rest = out_of (run_by reads s v input); splits = refl; adds = adds_nothing held },
)
