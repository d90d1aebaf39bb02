-- A whole program: the run of the image ends as the program does, with stub and landing proved, over what the other layers owe.
use Rattle.mx_base.specs.StopOfC.{AccessOfC}
use Rattle.mx_base.specs.Guests.{InputFits}
use Rattle.std.specs.Prelude.{true, List}
use Rattle.std.proofs.Common.{◌≡◌, ℕ}
use Rattle.mx_base.specs.Memory.{Bytes}
use Rattle.mx_base.specs.World.{world_at_start}
use Rattle.obj_file.specs.Stored.{Stored}
use Rattle.std.specs.Prelude.{Option, None}
use Rattle.fat_ir.specs.Calls.{Callee}
use Rattle.fat_ir.specs.Functions.{Linked, calls, program_run}
use Rattle.fat_ir.specs.Laws.{LeftByCalls, NoMoreTurns}
use Rattle.gate_laws.specs.Moments.{moment_at_start}
use Rattle.legacy_calls.specs.Legacy.{Linkage, outside}
use Rattle.legacy_calls.specs.Laws.{KeepsStacks}
use Rattle.gate_laws.specs.Standing.{Calls}
use Rattle.gate_laws.proofs.Knot.{outside_ends, program_ends}
use Rattle.x86_forms.specs.Watch.{is_legacy}
use Rattle.obj_file.specs.StoreLaw.{ReadsValid}
use Rattle.gate_laws.proofs.Doorway.{all_admitted}
use Rattle.gate_laws.proofs.Each.{each_event}
use Rattle.gate_laws.proofs.Outers.{each_door}
use Rattle.gate_laws.proofs.Sizes.{outer_inside}
use Rattle.gate_laws.proofs.Start.{starts}
use Rattle.gate_laws.proofs.Stubs.{each_stub}
use Rattle.legacy_calls.proofs.Fewer.{outside_takes_none}
use Rattle.legacy_calls.proofs.Layers.{stacks, left}
use Rattle.gate_laws.specs.Crossings.{EachEvent, EachDoor, EachStub, ProgramEnds}
use Rattle.gate_laws.specs.Owed.{HasRoomAndCode, Layers, IsLinked, IsLoaded}

-- ---- the gates of an image

pub linked_stubs : (k : Linkage) (image : Bytes) (places : ℕ → Option AccessOfC) (inner stub : ℕ → ℕ) → IsLinked k image inner stub → (depth : ℕ) → EachStub k image places (HasRoomAndCode image depth) depth stub
linked_stubs k image places inner stub linked depth = each_stub k image places linked.few_outers linked.landing depth stub linked.stubs

pub linked_doors : (k : Linkage) (image : Bytes) (places : ℕ → Option AccessOfC) (inner stub : ℕ → ℕ) → IsLinked k image inner stub
    → (depth : ℕ) (own : Callee) → Calls k image places depth 64 k.outers inner k.own own → KeepsStacks own → EachDoor k image places (HasRoomAndCode image depth) own
linked_doors k image places inner stub linked depth own calls stacks =
    each_door k image places depth inner linked.outers (λ f few. outer_inside (k.own f) k.outers f (linked.outers f few).few few linked.few_outers) own calls stacks

pub legacy_events : (k : Linkage) (image : Bytes) (places : ℕ → Option AccessOfC) → ReadsValid k.reads → ((a : ℕ) → is_legacy a ≡ true → places a ≡ None) → EachEvent k image places
legacy_events k image places valid placed = each_event k image places valid placed (all_admitted k valid)

pub linked_calls : (k : Linkage) (image : Bytes) (places : ℕ → Option AccessOfC) (inner stub : ℕ → ℕ) → IsLinked k image inner stub
    → ReadsValid k.reads → ((a : ℕ) → is_legacy a ≡ true → places a ≡ None)
    → (depth : ℕ) (own : Callee) → Calls k image places depth 64 k.outers inner k.own own → KeepsStacks own → LeftByCalls NoMoreTurns own
    → Calls k image places depth 112 k.stubs stub k.legacy (outside k own)
linked_calls k image places inner stub linked valid placed depth own calls stacks left =
    outside_ends k image places (legacy_events k image places valid placed) depth (HasRoomAndCode image depth) stub (linked_stubs k image places inner stub linked depth)
    own (linked_doors k image places inner stub linked depth own calls stacks) left

-- the run of an image from its start ends as the program of steps does: for every input, number of turns, and value of BNDPRESERVE
pub image_ends : (k : Linkage) (image : Bytes) (places : ℕ → Option AccessOfC) (program : ℕ → Linked) (inner stub : ℕ → ℕ)
    → Layers k image places program inner stub → IsLinked k image inner stub
    → (main : ℕ) (bytes : Bytes) (y : Stored) → IsLoaded k image inner main bytes y → (input : List ℕ) → InputFits input → (turns : ℕ)
    → ProgramEnds k image places (moment_at_start k y input turns)
    (program_run program (outside k) main (world_at_start bytes input turns))
image_ends k image places program inner stub h linked main bytes y loaded input fits turns =
    program_ends k image places program inner stub (HasRoomAndCode image) h.lowered h.full (legacy_events k image places h.valid h.placed)
    (linked_stubs k image places inner stub linked)
    (linked_doors k image places inner stub linked)
    (stacks k program) (left k program) (outside_takes_none k) main (world_at_start bytes input turns)
    (moment_at_start k y input turns)
    loaded.few (starts k image places inner main loaded.is_main loaded.start input fits turns bytes y loaded.code loaded.unsealed loaded.empty)
