-- The run of an image ends as its program does, where its functions' code stands with homes that fit and steps that are what code asks.
use Rattle.std.proofs.Common.{◌≡◌, ℕ, zero, suc, ◌<◌, List, Option, refl, length}
use Rattle.mx_base.specs.Guests.{InputFits}
use Rattle.mx_base.specs.Memory.{Bytes}
use Rattle.mx_base.specs.StopOfC.{StackOver, AccessOfC}
use Rattle.mx_base.specs.World.{World, Log, world_at_start}
use Rattle.obj_file.specs.Machine.{Reading, IsReader}
use Rattle.obj_file.specs.Stored.{Stored}
use Rattle.obj_file.specs.StoreLaw.{ReadsValid}
use Rattle.fat_ir.specs.Values.{Value}
use Rattle.fat_ir.specs.Calls.{Callee, Stops, turn_from}
use Rattle.fat_ir.specs.Step.{Next}
use Rattle.fat_ir.specs.Functions.{Linked, Target, OfC, Outside, call_of, symbols_of, values_at_entry, program_run}
use Rattle.fat_ir.specs.Laws.{Leads, FramesGivenBack, SameFrame, Anywhere}
use Rattle.fat_ir.proofs.Runs.{led-steps_run}
use Rattle.fat_ir.proofs.Worlds.{same_frame}
use Rattle.bounds_plan.specs.steps.Compiled.{FitsProgram, all_compiled, parameters_of}
use Rattle.bounds_plan.specs.steps.Follows.{outcome_of}
use Rattle.bounds_plan.specs.meaning.Functions.{Linked as LinkedInC, program_run as program_run_in_c}
use Rattle.legacy_calls.specs.Legacy.{Linkage, outside}
use Rattle.legacy_calls.specs.OfC.{outside_of_c}
use Rattle.gate_laws.specs.Crossings.{ProgramEnds}
use Rattle.gate_laws.specs.Moments.{moment_at_start}
use Rattle.gate_laws.specs.Owed.{Layers, IsLinked, IsLoaded}
use Rattle.gate_laws.specs.Standing.{AtCall, CallEnds}
use Rattle.gate_laws.proofs.Whole.{image_ends}
use Rattle.gate_laws.proofs.Images.{image_means}
use Rattle.program_laws.specs.Functions.{HasFunctions}
use Rattle.program_laws.specs.Levels.{DoDeeper, StopDeepest}
use Rattle.program_laws.proofs.Functions.{KeepsFrame, one_level}
use Rattle.program_laws.specs.Entering.{EntersFunction}
use Rattle.gate_laws.specs.Moments.{Moment}
use Rattle.program_laws.proofs.Written.{parts, call_enters}
use Rattle.program_laws.proofs.Enter as enter

-- the data stack stays while a body runs
keeps_frame : (l : Linked) (own other : Callee) → FramesGivenBack own → FramesGivenBack other → KeepsFrame l own other
keeps_frame l own other gives_own gives_other args w =
    led-steps_run SameFrame Anywhere same_frame (symbols_of l own other) (λ symbol xs u. by_target (l.targets symbol) xs u) l.fun.private l.fun.steps Next record { values = values_at_entry l.fun l.parameters args; world = w }
  where
    by_target : (t : Target) (xs : List Value) (u : World) → Leads (SameFrame u) (Anywhere u) (call_of t own other xs u)
    by_target (OfC f) xs u = gives_own f xs u
    by_target (Outside g) xs u = gives_other g xs u

-- an exact reader reads valid instructions
reads_valid : (reads : List ℕ → Reading) → IsReader reads → ReadsValid reads
reads_valid reads reader bytes i size are is = (((reader.whole bytes i size are).0 is).1).valid

module _ (k : Linkage) (image : Bytes) (places : ℕ → Option AccessOfC) (program : ℕ → Linked) (inner stub : ℕ → ℕ) (has : HasFunctions k image places inner stub program) where
  -- how a call of a function begins
  pub enters_so : (d f : ℕ) (few : f < k.outers) (args : List Value) (w : World) (m : Moment) → AtCall k image (suc d) 64 (inner f) (k.own f) args w m
      → EntersFunction k image places inner stub (program f) f (has.each f few) m args w
  enters_so d f few args w m call = call_enters k image places has.reader has.few inner stub (program f) f (has.each f few) d args w m call

  -- the code of functions does their steps, one level deeper
  pub do_deeper : DoDeeper k image places inner stub program
  do_deeper d own other h f args w m few call =
      one_level k image places has.reader inner stub (program f) f (parts k image places has.reader has.few inner stub (program f) f (has.each f few)) d args w m call
      own other h.calls_own h.calls_other h.left_own h.left_other (keeps_frame (program f) own other h.frames_own h.frames_other)

  -- and where no more may be entered, it stops
  pub stop_deepest : StopDeepest k image places inner stub program
  stop_deepest f args w m few call = by_turn w.turns refl
    where
      by_turn : (t : ℕ) → w.turns ≡ t → CallEnds k image places 0 (k.own f).result m (turn_from t w (λ u. Stops StackOver u))
      by_turn zero e = let fn = parts k image places has.reader has.few inner stub (program f) f (has.each f few) in enter.no_turn k image places (inner f) fn.small (k.own f) args w m 0 call e
      by_turn (suc j) e = let fn = parts k image places has.reader has.few inner stub (program f) f (has.each f few) in enter.full k image places (inner f) fn.small (k.own f) args w m 0 call fn.sizes fn.sized fn.counts_placed refl j e

  -- so all is met that the gates ask of the code of functions
  pub layers : Layers k image places program inner stub
  layers = record {
    lowered = λ d own other calls_own calls_other left_own left_other frames_own frames_other.
        do_deeper d own other record { calls_own = calls_own; calls_other = calls_other; left_own = left_own; left_other = left_other; frames_own = frames_own; frames_other = frames_other };
    full = stop_deepest;
    valid = reads_valid k.reads has.reader;
    placed = has.placed;
  }

-- the run of an image from its start ends as its program does: for every input of bytes, number of turns, and value of BNDPRESERVE
pub program_does : (k : Linkage) (image : Bytes) (places : ℕ → Option AccessOfC) (program : ℕ → Linked) (inner stub : ℕ → ℕ) → HasFunctions k image places inner stub program → IsLinked k image inner stub
    → (main : ℕ) (bytes : Bytes) (y : Stored) → IsLoaded k image inner main bytes y → (input : List ℕ) → InputFits input → (turns : ℕ)
    → ProgramEnds k image places (moment_at_start k y input turns) (program_run program (outside k) main (world_at_start bytes input turns))
program_does k image places program inner stub has = image_ends k image places program inner stub (layers k image places program inner stub has)

-- and so it ends as the program means in C
pub program_means : (k : Linkage) (image : Bytes) (places : ℕ → Option AccessOfC) (takes_outside : ℕ → ℕ) (program : ℕ → LinkedInC) (name inner stub : ℕ → ℕ)
    → FitsProgram takes_outside program → ((f : ℕ) → parameters_of program f ≡ length (k.own f).parameters) → HasFunctions k image places inner stub (all_compiled name program) → IsLinked k image inner stub
    → (main : ℕ) (bytes : Bytes) (y : Stored) → IsLoaded k image inner main bytes y → (input : List ℕ) → InputFits input → (turns : ℕ) (log : Log)
    → ProgramEnds k image places (moment_at_start k y input turns) (outcome_of (program_run_in_c program (outside_of_c k) main (world_at_start bytes input turns) log))
program_means k image places takes_outside program name inner stub fits counts has =
    image_means k image places takes_outside program name inner stub fits counts (layers k image places (all_compiled name program) inner stub has)
