-- What a call of a legacy function does: the meaning of code outside of a program, over the world that it shares with C.
use Rattle.std.specs.Prelude.{ℕ, zero, suc, ◌+◌, ◌-◌, ◌/◌, ◌==◌, ◌&&◌, not, Bool, true, false, if◌then◌else◌, Option, None, Some, List, [], ◌∷◌, unwrap_or}
use Rattle.mx_base.specs.declared.limits.Bounds.{Bounds}
use Rattle.mx_base.specs.declared.numbers.IntKind.{IntKind}
use Rattle.mx_base.specs.declared.stops.Stop.{Stop}
use Rattle.mx_base.specs.Numbers.{extended}
use Rattle.mx_base.specs.Bounds.{full_bounds}
use Rattle.mx_base.specs.Memory.{number_at}
use Rattle.mx_base.specs.Regions.{instrumented_code, is_in}
use Rattle.mx_base.specs.Access.{Refusal, refusal}
use Rattle.mx_base.specs.StopOfC.{StopOfC, OutOfTurns, Strayed, NoTable, stop_in_c}
use Rattle.mx_base.specs.World.{World, FarRegisters, number_written}
use Rattle.x86_forms.specs.Arithmetic.{Flags}
use Rattle.x86_forms.specs.Processor.{Processor, with_reg, with_bounds, below_stack, above_stack}
use Rattle.x86_forms.specs.Table.{init_bounds}
use Rattle.x86_forms.specs.Watch.{is_legacy, landing, first_outer, outer_size}
use Rattle.obj_file.specs.Machine.{Reading, Ground, State, Event, Goes, Stops as Halts, event}
use Rattle.obj_file.specs.Stored.{Stored, stored_ground}
use Rattle.fat_ir.specs.Values.{Value}
use Rattle.fat_ir.specs.Calls.{Callee, Outcome, Comes, Stops, Stuck, taking_turn}
use Rattle.fat_ir.specs.Step.{stop_by}
use Rattle.call_sigs.specs.Signatures.{Signature, Result, Nothing, Pointer, Of, parameter_register}
use Rattle.x86_forms.specs.Processor.{rax, rsp}

-- what an image says of the two kinds of functions: how bytes are read, whether BNDPRESERVE is set, how many C functions there are, what
-- each takes and gives, how many legacy functions C calls, what each of these takes and gives, and where it begins
pub record Linkage : Type 0 where
  pub reads : List ℕ → Reading
  pub preserve : Bool
  pub outers : ℕ
  pub own : ℕ → Signature
  pub stubs : ℕ
  pub legacy : ℕ → Signature
  pub begins : ℕ → ℕ

-- legacy code at work
pub record Foreign : Type 0 where
  pub processor : Processor
  pub world : World

-- the machine with the watch on, over the store of bounds
abbrev pub ground : Linkage → Ground Stored
ground k = stored_ground k.reads k.outers record { preserve = k.preserve; bare = false }

-- as a state of the machine over the store of bounds, and back
abbrev pub as_state : Foreign → State Stored
as_state l = record { processor = l.processor; memory = record { bytes = l.world.bytes; bounds = l.world.store }; guest = l.world.guest; steps = 0 }

abbrev pub from_state : World → State Stored → Foreign
from_state w t = record { processor = t.processor; world = record w { bytes = t.memory.bytes; store = t.memory.bounds; guest = t.guest } }

-- ---- registers at the border

abbrev pub zero_flags : Flags
zero_flags = record { cf = false; zf = true; sf = false; of = false }

abbrev pub far_of : (ℕ → ℕ) → FarRegisters
far_of regs = record { rbx = regs 3; rbp = regs 5; r12 = regs 12; r13 = regs 13; r14 = regs 14; r15 = regs 15 }

-- the far registers and the stack pointer; all others are 0
abbrev pub bare_regs : FarRegisters → (sp : ℕ) → ℕ → ℕ
bare_regs far sp = λ k. if k == 4 then sp else if k == 3 then far.rbx else if k == 5 then far.rbp else if k == 12 then far.r12 else if k == 13 then far.r13
    else if k == 14 then far.r14 else if k == 15 then far.r15 else 0

-- the word of a value by its kind; a pointer's is its address
abbrev pub word_as : Option IntKind → ℕ → ℕ
word_as None n = n
word_as (Some kind) n = extended kind n

abbrev pub with_arguments : (k : ℕ) → List (Option IntKind) → List Value → (ℕ → ℕ) → ℕ → ℕ
with_arguments k [] args regs = regs
with_arguments k (p ∷ ps) [] regs = regs
with_arguments k (p ∷ ps) (a ∷ args) regs = with_arguments (k + 1) ps args (with_reg regs (parameter_register k) (word_as p a.number))

abbrev pub with_pointers : (b : ℕ) → List (Option IntKind) → List Value → (ℕ → Bounds) → ℕ → Bounds
with_pointers b [] args bounds = bounds
with_pointers b (p ∷ ps) [] bounds = bounds
with_pointers b (None ∷ ps) (a ∷ args) bounds = with_pointers (b + 1) ps args (with_bounds bounds b a.bounds)
with_pointers b (Some kind ∷ ps) (a ∷ args) bounds = with_pointers b ps args bounds

-- the arguments in the registers, as a C function takes them
abbrev pub arguments_from : (k b : ℕ) → List (Option IntKind) → Processor → List Value
arguments_from k b [] c = []
arguments_from k b (None ∷ ps) c = record { number = c.regs (parameter_register k); bounds = c.bounds b } ∷ arguments_from (k + 1) (b + 1) ps c
arguments_from k b (Some kind ∷ ps) c = record { number = extended kind (c.regs (parameter_register k)); bounds = full_bounds } ∷ arguments_from (k + 1) b ps c

-- a result as a word with bounds
abbrev pub given : Result → Value → Value
given Nothing v = record { number = 0; bounds = full_bounds }
given Pointer v = v
given (Of kind) v = record { number = extended kind v.number; bounds = full_bounds }

-- ---- the entry of a legacy function, and what comes back from a C function

abbrev pub at_entry : Linkage → (g : ℕ) → List Value → World → Foreign
at_entry k g args w = record {
  processor = record {
    regs = with_arguments 0 (k.legacy g).parameters args (bare_regs w.far (below_stack w.legacy_sp));
    flags = zero_flags;
    rip = k.begins g;
    bounds = with_pointers 0 (k.legacy g).parameters args init_bounds;
    preserve = k.preserve;
    status = 0;
  };
  world = w;
}

-- legacy code after the return of an outer entry: the address that stands at its stack pointer, the result, and nothing else but what is far
abbrev pub after_outer : Linkage → Result → Foreign → Value → World → Foreign
after_outer k result l v w = let sp = l.processor.regs rsp in record {
  processor = record {
    regs = with_reg (bare_regs w.far (above_stack sp)) rax (given result v).number;
    flags = zero_flags;
    rip = number_at 8 w.bytes sp;
    bounds = with_bounds init_bounds 0 (given result v).bounds;
    preserve = k.preserve;
    status = l.processor.status;
  };
  world = record w { legacy_sp = l.world.legacy_sp };
}

-- ---- the run of legacy code

abbrev pub stop_of : Stop → StopOfC
stop_of why = unwrap_or (stop_in_c (λ a. None) why) NoTable

-- an event of legacy code, whose turn was taken
abbrev pub stepped : World → (Foreign → Outcome) → Event Stored → Outcome
stepped u go (Goes turn t) = go (from_state u t)
stepped u go (Halts turn why t) = Stops (stop_of why) (from_state u t).world

-- the return of an outer entry counts as legacy control
abbrev pub judged_return : (Foreign → Outcome) → Foreign → Outcome
judged_return go l = if is_in instrumented_code l.processor.rip && not (l.processor.rip == landing) then Stops (Strayed l.processor.rip) l.world else go l

abbrev pub came_back : Linkage → Result → (Foreign → Outcome) → Foreign → Outcome → Outcome
came_back k result go l (Comes v w) = taking_turn w (λ u. judged_return go (after_outer k result l v u))
came_back k result go l (Stops why w) = Stops why w
came_back k result go l Stuck = Stuck

-- the C function whose outer entry an address is
abbrev pub entered_at : ℕ → ℕ
entered_at rip = (rip - first_outer) / outer_size

-- the world in which a C function is called from legacy code
abbrev pub lent : Foreign → World
lent l = record l.world { far = far_of l.processor.regs; legacy_sp = l.processor.regs rsp }

abbrev pub landed : Foreign → Outcome
landed l = Comes record { number = l.processor.regs rax; bounds = l.processor.bounds 0 } (record l.world { far = far_of l.processor.regs })

-- legacy code until it comes to the landing, with room for so many events and calls
abbrev pub legacy_run : Linkage → Callee → (room : ℕ) → Foreign → Outcome
legacy_run k own zero l = Stops OutOfTurns l.world
legacy_run k own (suc n) l =
    if is_legacy l.processor.rip then taking_turn l.world (λ u. stepped u (legacy_run k own n) (event (ground k) (as_state l)))
    else if l.processor.rip == landing then landed l
    else came_back k (k.own (entered_at l.processor.rip)).result (legacy_run k own n) l
    (own (entered_at l.processor.rip) (arguments_from 0 0 (k.own (entered_at l.processor.rip)).parameters l.processor) (lent l))

-- at the landing a turn is taken, and the stack of legacy code is as before the call
abbrev pub finished : Result → (sp : ℕ) → Outcome → Outcome
finished result sp (Comes v w) = taking_turn w (λ u. Comes (given result v) (record u { legacy_sp = sp }))
finished result sp (Stops why w) = Stops why w
finished result sp Stuck = Stuck

abbrev pub unless_refused : Option Refusal → World → Outcome → Outcome
unless_refused None w done = done
unless_refused (Some why) w done = Stops (stop_by why) w

-- a call of a legacy function takes a turn; the return address is written below the legacy stack, which may stop; and legacy code runs
abbrev pub called_in : Linkage → Callee → (g : ℕ) → List Value → World → Outcome
called_in k own g args u = let sp = below_stack u.legacy_sp in let x = number_written 8 u sp landing in
    unless_refused (refusal true 8 sp) u (finished (k.legacy g).result u.legacy_sp (legacy_run k own (suc x.turns) (at_entry k g args x)))

-- the meaning of what is outside, by that of the C functions
abbrev pub outside : Linkage → Callee → Callee
outside k own g args w = taking_turn w (called_in k own g args)
