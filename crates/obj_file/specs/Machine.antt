-- The machine: its state, and what one event makes of it (Intel SDM, volume 1, basic execution environment and Intel MPX). An event
-- is one instruction, with the table that the runtime makes for it and the instruction's restart counted as the same event. It stands
-- over any memory with a store of bounds; the one of an image is in Loaded.
use Rattle.std.specs.Prelude.{◌≡◌, ◌↔◌, ◌<◌, ℕ, ◌+◌, ◌-◌, ◌%◌, ◌^◌, ◌≤◌, min, nat_le, Bool, true, false, ◌||◌, if◌then◌else◌, Option, None, Some, Result, Ok, Err, List, ◌∷◌, ◌++◌, length, take}
use Rattle.std.specs.List.{All}
use Rattle.std.specs.Option.{option_or}
use Rattle.mx_base.specs.declared.stops.Stop.{Stop}
use Rattle.mx_base.specs.declared.stops.Stop.TheVariants as stop
use Rattle.mx_base.specs.Regions.{instrumented_code, legacy_code, region_end, is_in, is_readable, is_executable}
use Rattle.mx_base.specs.Memory.{Bytes, list_at, first_refused_around}
use Rattle.mx_base.specs.Outside.{one_more}
use Rattle.mx_base.specs.Services.{Guest, Served, Answers, Exits, Overflows, Refused as Denied, service_of, served}
use Rattle.x86_forms.specs.declared.instr.Instr.{Instr}
use Rattle.x86_forms.specs.declared.instr.Instr.TheVariants.{CallRel, CallRm, Ret, Syscall}
use Rattle.x86_forms.specs.declared.spans.Span.{Span}
use Rattle.x86_forms.specs.declared.spans.Reach.{Reach}
use Rattle.x86_forms.specs.Spelling.{Spells}
use Rattle.x86_forms.specs.Processor.{Processor, rax, rdx}
use Rattle.x86_forms.specs.Requests.{Fault, Divides, Undefines, Violates, Store, Outcome, Done, Failed, Refused, run}
use Rattle.x86_forms.specs.Table.{row, with_result}
use Rattle.x86_forms.specs.Accesses.{accesses, reach_of}
use Rattle.x86_forms.specs.Watch.{is_legacy, access_strays, control_strays}

-- ---- instructions in bytes

-- what bytes begin with: an instruction, of so many bytes; a part of one, and no whole one; or neither
pub data Reading : Type 0 where
  Is : (i : Instr) → (size : ℕ) → Reading
  Part : Reading
  Neither : Reading

-- the first bytes spell the instruction
abbrev pub Begins : List ℕ → Instr → ℕ → Type 0
Begins bytes i size = (size ≤ length bytes) × Spells (take size bytes) i

-- with more bytes behind them they spell an instruction
abbrev pub BeginsPart : List ℕ → Type 0
BeginsPart bytes = (i : Instr) × (b : ℕ) × (rest : List ℕ) × Spells (bytes ++ b ∷ rest) i

-- a function that tells of bytes what they begin with
pub record IsReader (reads : List ℕ → Reading) : Type 0 where
  pub whole : (bytes : List ℕ) (i : Instr) (size : ℕ) → All (λ b. b < 256) bytes → (reads bytes ≡ Is i size) ↔ Begins bytes i size
  pub part : (bytes : List ℕ) → All (λ b. b < 256) bytes → (reads bytes ≡ Part) ↔ BeginsPart bytes

-- ---- state

-- why memory refuses a request of an instruction: no region allows an access of this address, or it has no bounds; the directory
-- entry at this address names no table; or, where pages have frames, too few of this many frames are free, and so many are in use
pub data Refusal : Type 0 where
  Misses : (at : ℕ) → Refusal
  Invalid : (entry_at : ℕ) → Refusal
  Lacks : (in_use capacity : ℕ) → Refusal

-- what a run stands on: how bytes are read as instructions; a memory with a store of bounds, the byte at each address of it, and
-- what the runtime makes of it for a directory entry that names no table, or why it can't; how many outer entries the image has; and
-- whether the watch is off
pub record Ground (X : Type 0) : Type 0 where
  pub reads : List ℕ → Reading
  pub store : Store X Refusal
  pub bytes : X → Bytes
  pub serve : X → ℕ → Result X Refusal
  pub outers : ℕ
  pub bare : Bool

-- what is served for a directory entry, if anything is: else it still names no table
abbrev pub served_or_invalid : {X : Type 0} → ℕ → Option X → Result X Refusal
served_or_invalid entry_at None = Err (Invalid entry_at)
served_or_invalid entry_at (Some x) = Ok x

-- the processor, the memory, what services change, and how many events didn't end in a stop, as far as 64 bits count
pub record State (X : Type 0) : Type 0 where
  pub processor : Processor
  pub memory : X
  pub guest : Guest
  pub steps : ℕ

-- what an instruction makes of a state, before turns: the next state, or a stop with the state that it leaves
pub data Deed (X : Type 0) : Type 0 where
  Does : (next : State X) → Deed X
  Halts : (why : Stop) → (last : State X) → Deed X

-- ---- the instruction's row

abbrev pub fault_stop : ℕ → Fault → Stop
fault_stop from Divides = stop.Divide
fault_stop from Undefines = stop.Undefined from
fault_stop from (Violates value b) = stop.Bounds (record { value = value; lb = b.lb; ub = b.ub; rip = from })

-- an entry that names no table is served before; where it still names none, there is no table for it
abbrev pub refusal_stop : Refusal → Stop
refusal_stop (Misses at) = stop.Unmapped at
refusal_stop (Invalid entry_at) = stop.NoTable
refusal_stop (Lacks in_use capacity) = stop.NoFrames in_use capacity

abbrev pub left_by : {X : Type 0} → State X → Processor → X → State X
left_by s p x = record s { processor = p; memory = x }

abbrev pub ended : {X : Type 0} → State X → Outcome X Refusal → Deed X
ended s (Done p x) = Does (left_by s p x)
ended s (Failed fault p x) = Halts (fault_stop s.processor.rip fault) (left_by s p x)
ended s (Refused o p x) = Halts (refusal_stop o) (left_by s p x)

-- the instruction once more over the memory that the runtime served; BNDSTATUS keeps what the fault set
abbrev pub restarted : {X : Type 0} → Ground X → Instr → ℕ → State X → Processor → X → Result X Refusal → Deed X
restarted g i next s p x (Err o) = Halts (refusal_stop o) (left_by s p x)
restarted g i next s p x (Ok y) = ended s (run g.store p (row i next p) y)

-- #BR with an invalid directory entry is served
abbrev pub served_or_ended : {X : Type 0} → Ground X → Instr → ℕ → State X → Outcome X Refusal → Deed X
served_or_ended g i next s (Refused (Invalid entry_at) p x) = restarted g i next s p x (g.serve x entry_at)
served_or_ended g i next s (Refused (Misses at) p x) = ended s (Refused (Misses at) p x)
served_or_ended g i next s (Refused (Lacks in_use capacity) p x) = ended s (Refused (Lacks in_use capacity) p x)
served_or_ended g i next s (Done p x) = ended s (Done p x)
served_or_ended g i next s (Failed fault p x) = ended s (Failed fault p x)

unfoldable pub executed : {X : Type 0} → Ground X → Instr → ℕ → State X → Deed X
executed g i next s = served_or_ended g i next s (run g.store s.processor (row i next s.processor) s.memory)

-- ---- the watch

-- nothing strays where the watch is off
abbrev pub unless_bare : Bool → Option ℕ → Option ℕ
unless_bare true strays = None
unless_bare false strays = strays

abbrev pub span_strays : Instr → ℕ → Option Span → Option ℕ
span_strays i from None = None
span_strays i from (Some s) = access_strays i from s

-- a region has each byte of a read
abbrev pub is_all : Option ℕ → Bool
is_all None = true
is_all (Some at) = false

abbrev pub is_read : Option Span → Bool
is_read None = true
is_read (Some s) = is_all (first_refused_around is_readable s.size s.at)

-- where the accesses of an instruction stray. They are judged one by one, so the second, before which a read comes, is judged only
-- if that read is done
unfoldable pub reach_strays : Instr → ℕ → Reach → Option ℕ
reach_strays i from r = option_or (span_strays i from r.first) (if is_read r.first then span_strays i from r.second else None)

abbrev pub unless_strayed : {X : Type 0} → Option ℕ → State X → Deed X → Deed X
unless_strayed None s d = d
unless_strayed (Some x) s d = Halts (stop.Strayed x) s

-- ---- services

-- the reading of a write: an implicit access
abbrev pub service_span : ℕ → ℕ → Span
service_span at size = record { at = at; size = size; write = false; implicit = true }

abbrev pub as_unmapped : Option ℕ → Option Stop
as_unmapped None = None
as_unmapped (Some x) = Some (stop.Unmapped x)

abbrev pub strayed_or : Option ℕ → Option Stop → Option Stop
strayed_or None other = other
strayed_or (Some x) other = Some (stop.Strayed x)

-- how the watch and the regions judge the bytes of a write, all of them at once
abbrev pub bytes_judged : Bool → ℕ → ℕ → ℕ → Option Stop
bytes_judged bare from at size = strayed_or (unless_bare bare (access_strays Syscall from (service_span at size))) (as_unmapped (first_refused_around is_readable size at))

-- a service answers in rax; a stop leaves the state before the instruction
abbrev pub answered : {X : Type 0} → State X → State X → Served Stop → Deed X
answered s t (Answers word g) = Does (record t { processor = with_result t.processor 64 rax word; guest = g })
answered s t (Exits code) = Halts (stop.Exit code) s
answered s t Overflows = Halts stop.StackOver s
answered s t (Denied why) = Halts why s

abbrev pub rsi : ℕ
rsi = 6

abbrev pub rdi : ℕ
rdi = 7

-- what the service does that the registers name
unfoldable pub asked : {X : Type 0} → Ground X → State X → Served Stop
asked g s = served (g.bytes s.memory) (bytes_judged g.bare s.processor.rip) (service_of (s.processor.regs rax)) (s.processor.regs rdi) (s.processor.regs rsi) (s.processor.regs rdx) s.guest

abbrev pub with_service : {X : Type 0} → Ground X → State X → Deed X → Deed X
with_service g s (Does t) = answered s t (asked g s)
with_service g s (Halts why last) = Halts why last

abbrev pub is_service : Instr → Bool
is_service Syscall = true
is_service i = false

-- ---- control

abbrev pub is_call : Instr → Bool
is_call (CallRel prefixed rel) = true
is_call (CallRm prefixed rm) = true
is_call i = false

abbrev pub is_return : Instr → Bool
is_return (Ret prefixed) = true
is_return i = false

-- control that strays stops after all that the instruction does
abbrev pub control_judged : {X : Type 0} → Ground X → Instr → ℕ → Deed X → Deed X
control_judged g i from (Does t) = unless_strayed (unless_bare g.bare (control_strays from t.processor.rip (is_call i) (is_return i) g.outers)) t (Does t)
control_judged g i from (Halts why last) = Halts why last

-- ---- an instruction

abbrev pub with_service_of : {X : Type 0} → Ground X → Instr → State X → Deed X → Deed X
with_service_of g i s d = if is_service i then with_service g s d else d

-- all that an instruction does: its accesses are judged, it is executed, its service is done, and then control is judged
unfoldable pub deed_of : {X : Type 0} → Ground X → Instr → ℕ → State X → Deed X
deed_of g i next s =
    unless_strayed (unless_bare g.bare (reach_strays i s.processor.rip (reach_of (accesses i next s.processor.regs)))) s
    (control_judged g i s.processor.rip (with_service_of g i s (executed g i next s)))

-- ---- fetching

-- the address after the code region that an address lies in
abbrev pub code_end : ℕ → ℕ
code_end a = if is_in instrumented_code a then region_end instrumented_code else if is_in legacy_code a then region_end legacy_code else a

-- how many bytes are fetched from an address of code: those to the region's end, at most 15
abbrev pub fetched_size : ℕ → ℕ
fetched_size a = min (code_end a - a) 15

-- what the bytes at the address of the next instruction begin with
unfoldable pub reading_at : {X : Type 0} → Ground X → State X → Reading
reading_at g s = g.reads (list_at (fetched_size s.processor.rip) (g.bytes s.memory) s.processor.rip)

abbrev pub next_address : ℕ → ℕ → ℕ
next_address from size = (from + size) % 2 ^ 64

-- an instruction has no more than 15 bytes, so that one of which there is only a part is cut by the region's end
abbrev pub deed_by : {X : Type 0} → Ground X → State X → Reading → Deed X
deed_by g s (Is i size) = deed_of g i (next_address s.processor.rip size) s
deed_by g s Part = Halts (stop.Unmapped (s.processor.rip + fetched_size s.processor.rip)) s
deed_by g s Neither = Halts (stop.Undefined s.processor.rip) s

-- ---- turns

-- a call and a return take a turn, whatever they lead to
abbrev pub owes : Reading → Bool
owes (Is i size) = is_call i || is_return i
owes Part = false
owes Neither = false

-- one event: whether it takes a turn, and then the state after it, or the stop with the state that it leaves
pub data Event (X : Type 0) : Type 0 where
  Goes : (turn : Bool) → (next : State X) → Event X
  Stops : (turn : Bool) → (why : Stop) → (last : State X) → Event X

abbrev pub counted : {X : Type 0} → State X → State X
counted t = record t { steps = one_more t.steps }

-- legacy code takes a turn for each event; other code for each call and return, and for each event that doesn't lead forward, which
-- only jumps are
abbrev pub event_of : {X : Type 0} → State X → Bool → Deed X → Event X
event_of s owed (Does t) = Goes ((is_legacy s.processor.rip || owed) || nat_le t.processor.rip s.processor.rip) (counted t)
event_of s owed (Halts why last) = Stops (is_legacy s.processor.rip || owed) why last

abbrev pub event_by : {X : Type 0} → Ground X → State X → Reading → Event X
event_by g s r = event_of s (owes r) (deed_by g s r)

-- a fetch outside of code stops
unfoldable pub event : {X : Type 0} → Ground X → State X → Event X
event g s = if is_executable s.processor.rip then event_by g s (reading_at g s) else event_of s false (Halts (stop.Unmapped s.processor.rip) s)
