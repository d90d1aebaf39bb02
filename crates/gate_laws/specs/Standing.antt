-- When the machine stands for the world: at a call, at its end, in legacy code, and at the end of a run.
use Rattle.mx_base.specs.Guests.{GuestFits}
use Rattle.std.specs.Prelude.{◌≡◌, ◌≢◌, ◌≤◌, ◌<◌, ℕ, ◌+◌, ◌*◌, not, true, false, Option, None, Some, List, [], ◌∷◌}
use Rattle.mx_base.specs.declared.numbers.IntKind.{IntKind}
use Rattle.mx_base.specs.Memory.{Bytes, AreBytes, number_at, first_refused, first_refused_around}
use Rattle.mx_base.specs.Regions.{instrumented_code, control_stack, region_end, is_in, is_sealed, is_readable}
use Rattle.mx_base.specs.StopOfC.{StopOfC, OutOfTurns, stop_in_c, AccessOfC}
use Rattle.mx_base.specs.World.{World}
use Rattle.x86_forms.specs.Processor.{Processor}
use Rattle.x86_forms.specs.declared.instr.Instr.TheVariants.{CallRel}
use Rattle.x86_forms.specs.Watch.{is_legacy, landing, outer_entry}
use Rattle.obj_file.specs.Machine.{State}
use Rattle.obj_file.specs.StoreLaw.{HoldsWords, KeepsWords}
use Rattle.obj_file.specs.Runs.{End, Out, Stopped}
use Rattle.obj_file.specs.Stored.{Stored}
use Rattle.obj_file.specs.LegacyEvents.{Like}
use Rattle.fat_ir.specs.Values.{Value}
use Rattle.fat_ir.specs.Calls.{Callee, Outcome, Comes, Stops, Stuck}
use Rattle.call_sigs.specs.Signatures.{Signature, Result, Nothing, Pointer, Of, parameter_register}
use Rattle.call_gates.specs.Gates.{control_cell, legacy_cell, data_cell, depth_cell, way}
use Rattle.obj_file.specs.Finals.{final}
use Rattle.gate_laws.specs.Moments.{Moment, Final}
use Rattle.gate_laws.specs.Placed.{StandsAt}
use Rattle.legacy_calls.specs.Legacy.{Linkage, Foreign, ground, far_of}

-- ---- the end of a run

pub record EndsAlike (w : World) (last : State Stored) : Type 0 where
  pub guest : last.guest ≡ w.guest
  pub store : last.memory.bounds ≡ w.store

abbrev pub EndIs : (ℕ → Option AccessOfC) → StopOfC → World → End Stored → Type 0
EndIs places why w (Out last) = (why ≡ OutOfTurns) × EndsAlike w last
EndIs places why w (Stopped by last) = (stop_in_c places by ≡ Some why) × EndsAlike w last

-- the machine's run ends as C stops, with the same output, input left, bounds kept and accesses
abbrev pub EndsAs : (ℕ → Option AccessOfC) → StopOfC → World → Final → Type 0
EndsAs places why w f = (f.accesses ≡ w.accesses) × (f.clean ≡ true) × EndIs places why w f.end

-- ---- what the machine has of the world

-- memory, bounds, services, turns and accesses
pub record Shares (w : World) (m : Moment) : Type 0 where
  pub unsealed : (a : ℕ) → is_sealed a ≡ false → m.state.memory.bytes a ≡ w.bytes a
  pub each_byte : AreBytes m.state.memory.bytes
  pub store : m.state.memory.bounds ≡ w.store
  pub kept_words : (g : ℕ) → KeepsWords (m.state.memory.bounds.kept g)
  pub guest : m.state.guest ≡ w.guest
  pub guest_fits : GuestFits m.state.guest
  pub turns : m.turns ≡ w.turns
  pub accesses : m.accesses ≡ w.accesses

abbrev pub cell_of : Moment → ℕ → ℕ
cell_of m a = number_at 8 m.state.memory.bytes a

-- instrumented code at a border, where `depth` more C functions may be entered; every reading of code is that of the image
pub record Stands (k : Linkage) (image : Bytes) (depth : ℕ) (w : World) (m : Moment) : Type 0 where
  pub shares : Shares w m
  pub far : far_of m.state.processor.regs ≡ w.far
  pub legacy_sp : cell_of m legacy_cell ≡ w.legacy_sp
  pub data_sp : cell_of m data_cell ≡ w.data_sp
  pub depth_left : cell_of m depth_cell + depth ≡ 4096
  pub code : (a : ℕ) → is_in instrumented_code a ≡ true → m.state.memory.bytes a ≡ image a
  pub preserve : m.state.processor.preserve ≡ k.preserve
  pub words : HoldsWords m.state.processor

-- ---- calls

-- an argument in each register, and a pointer's bounds in the next bounds register
abbrev pub Arrive : (k b : ℕ) → List (Option IntKind) → List Value → Processor → Type 0
Arrive k b [] [] c = Unit {0}
Arrive k b [] (a ∷ args) c = ⊥
Arrive k b (p ∷ ps) [] c = ⊥
Arrive k b (None ∷ ps) (a ∷ args) c = (c.regs (parameter_register k) ≡ a.number) × (c.bounds b ≡ a.bounds) × Arrive (k + 1) (b + 1) ps args c
Arrive k b (Some kind ∷ ps) (a ∷ args) c = (c.regs (parameter_register k) ≡ a.number) × Arrive (k + 1) b ps args c

-- how much of the control stack is left where `depth` more functions may be entered: 4,088 bytes for each, and `more`
abbrev pub HasRoom : (depth more : ℕ) → (sp : ℕ) → Type 0
HasRoom depth more sp = (control_stack.from + 4088 * depth + more ≤ sp) × (sp ≤ region_end control_stack)

-- about to do the prefixed CALL of an address, whose instruction ends at `next`
pub record AtCall (k : Linkage) (image : Bytes) (depth more target : ℕ) (sig : Signature) (args : List Value) (w : World) (m : Moment) : Type 0 where
  pub stands : Stands k image depth w m
  pub here : StandsAt k image m.state.processor.rip (CallRel true (way target (m.state.processor.rip + 6))) 6
  pub arrive : Arrive 0 0 sig.parameters args m.state.processor
  pub room : HasRoom depth more (m.state.processor.regs 4)

-- the result where a pointer is one
abbrev pub Holds : Result → Value → Processor → Type 0
Holds Nothing v c = c.regs 0 ≡ v.number
Holds Pointer v c = (c.regs 0 ≡ v.number) × (c.bounds 0 ≡ v.bounds)
Holds (Of kind) v c = c.regs 0 ≡ v.number

-- behind the CALL, with what is on the control stack from its pointer on as it was
pub record Back (k : Linkage) (image : Bytes) (depth : ℕ) (result : Result) (m : Moment) (v : Value) (w : World) (n : Moment) : Type 0 where
  pub stands : Stands k image depth w n
  pub next : n.state.processor.rip ≡ m.state.processor.rip + 6
  pub sp : n.state.processor.regs 4 ≡ m.state.processor.regs 4
  pub kept : (a : ℕ) → m.state.processor.regs 4 ≤ a → a < region_end control_stack → n.state.memory.bytes a ≡ m.state.memory.bytes a
  pub holds : Holds result v n.state.processor

abbrev pub CallEnds : Linkage → Bytes → (ℕ → Option AccessOfC) → (depth : ℕ) → Result → Moment → Outcome → Type 0
CallEnds k image places depth result m (Comes v w) = (n : Moment) × (final (ground k) m ≡ final (ground k) n) × Back k image depth result m v w n
CallEnds k image places depth result m (Stops why w) = EndsAs places why w (final (ground k) m)
CallEnds k image places depth result m Stuck = Unit {0}

-- each call of one of so many functions does what it means, where these addresses are the functions'
abbrev pub Calls : Linkage → Bytes → (ℕ → Option AccessOfC) → (depth more count : ℕ) → (at : ℕ → ℕ) → (sig : ℕ → Signature) → Callee → Type 0
Calls k image places depth more count at sig meaning = (f : ℕ) (args : List Value) (w : World) (m : Moment) → f < count
    → AtCall k image depth more (at f) (sig f) args w m → CallEnds k image places depth (sig f).result m (meaning f args w)

-- ---- legacy code

-- at the outer entry of the C function f, by a CALL, whose return address stands where it can be read
pub record AtDoor (k : Linkage) (l : Foreign) (f : ℕ) : Type 0 where
  pub few : f < k.outers
  pub here : l.processor.rip ≡ outer_entry f
  pub readable : first_refused is_readable 8 (l.processor.regs 4) ≡ None
  pub unsealed : first_refused_around (λ a. not (is_sealed a)) 8 (l.processor.regs 4) ≡ None

-- where legacy code has come to: it goes on, or it is at a door
abbrev pub IsAdmitted : Linkage → Foreign → Type 0
IsAdmitted k l = is_legacy l.processor.rip ≡ false → l.processor.rip ≢ landing → (f : ℕ) × AtDoor k l f

-- what is sealed and matters is as it was at the entry of legacy code, z: code, the four cells, and the control stack from its kept pointer on
pub record IsFrozen (z : Bytes) (m : Moment) : Type 0 where
  pub code : (a : ℕ) → is_in instrumented_code a ≡ true → m.state.memory.bytes a ≡ z a
  pub control : cell_of m control_cell ≡ number_at 8 z control_cell
  pub legacy : cell_of m legacy_cell ≡ number_at 8 z legacy_cell
  pub data_word : cell_of m data_cell ≡ number_at 8 z data_cell
  pub depth : cell_of m depth_cell ≡ number_at 8 z depth_cell
  pub pointer : control_stack.from ≤ number_at 8 z control_cell
  pub stack : (a : ℕ) → number_at 8 z control_cell ≤ a → a < region_end control_stack → m.state.memory.bytes a ≡ z a

-- legacy code on both sides
pub record Alongside (k : Linkage) (z : Bytes) (l : Foreign) (m : Moment) : Type 0 where
  pub shares : Shares l.world m
  pub like : Like l.processor m.state.processor
  pub admitted : IsAdmitted k l
  pub words : HoldsWords m.state.processor
  pub preserve : m.state.processor.preserve ≡ k.preserve
  pub data_sp : number_at 8 z data_cell ≡ l.world.data_sp
  pub legacy_sp : number_at 8 z legacy_cell ≡ l.world.legacy_sp
  pub frozen : IsFrozen z m

-- how legacy code ends: at the landing, or with a stop
abbrev pub LegacyEnds : Linkage → (ℕ → Option AccessOfC) → Bytes → Moment → Outcome → Type 0
LegacyEnds k places z m (Comes v w) = (n : Moment) × (l : Foreign) × (final (ground k) m ≡ final (ground k) n) × Alongside k z l n
    × (l.processor.rip ≡ landing) × (v ≡ record { number = l.processor.regs 0; bounds = l.processor.bounds 0 }) × (w ≡ record l.world { far = far_of l.processor.regs })
LegacyEnds k places z m (Stops why w) = EndsAs places why w (final (ground k) m)
LegacyEnds k places z m Stuck = Unit {0}
