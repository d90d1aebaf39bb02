-- A plain instruction of the code, as a row of the instruction table over the memory that its memory stands for.
use Rattle.std.specs.Prelude.{◌≡◌, ℕ, Bool, true, false, ◌||◌, ◌&&◌, nat_eq, if◌then◌else◌, Option, Result, Ok, Err, slice_index}
use Rattle.mx_base.specs.declared.limits.Bounds.{Bounds}
use Rattle.paged_memory.specs.declared.stops.MemStop.{MemStop}
use Rattle.paged_memory.specs.Answers.{load_answer}
use Rattle.paged_memory.specs.Paged.{Paged}
use Rattle.mx_base.specs.Memory.{Bytes}
use Rattle.x86_forms.specs.declared.instr.Instr.{Instr}
use Rattle.x86_forms.specs.declared.instr.Instr.TheVariants.{CallRel, JmpRel, CallRm, JmpRm, Jcc, Ret, Syscall, Bndmk, Bndcl, Bndcu, Bndcn, BndmovTo, BndmovFrom, Bndldx, Bndstx}
use Rattle.x86_forms.specs.declared.instr.Rm.{Rm}
use Rattle.x86_forms.specs.declared.instr.Rm.TheVariants.{Reg as InReg, Mem as InMem}
use Rattle.x86_forms.specs.Arithmetic.{Flags, low, holds, divided, divided_signed}
use Rattle.x86_forms.specs.Validity.{narrow_ok}
use Rattle.x86_forms.specs.Processor.{Processor, address, bytes_in}
use Rattle.x86_forms.specs.Requests.{Program, Outcome, Done as IsDone, Failed, Refused, Divides, Undefines, run}
use Rattle.x86_forms.specs.Table.{init_bounds, at_next, branched}
use Rattle.x86_alu.specs.Alu.{flags_in}
use Rattle.x86_core.specs.declared.cpu.Cpu.{Cpu}
use Rattle.x86_core.specs.declared.cpu.Done.{Done}
use Rattle.x86_core.specs.declared.cpu.Done.TheVariants.{Next, Branch, Service}
use Rattle.x86_core.specs.declared.cpu.CoreStop.{CoreStop}
use Rattle.x86_core.specs.declared.cpu.CoreStop.TheVariants.{Mem, Divide, Undefined}
use Rattle.paged_memory.specs.Framed.{Framed, framed_of}
use Rattle.x86_core.specs.Framed.{framed}

-- what a processor has beside registers, flags and rip
pub record BoundsState : Type 0 where
  pub bounds : ℕ → Bounds
  pub preserve : Bool
  pub status : ℕ

abbrev pub seen : BoundsState → Cpu → Processor
seen b cpu = record { regs = slice_index cpu.regs; flags = flags_in cpu.flags; rip = cpu.rip; bounds = b.bounds; preserve = b.preserve; status = b.status }

-- no MPX instruction
abbrev pub is_plain : Instr → Bool
is_plain (Bndmk b m) = false
is_plain (Bndcl b rm) = false
is_plain (Bndcu b rm) = false
is_plain (Bndcn b rm) = false
is_plain (BndmovTo b m) = false
is_plain (BndmovFrom b rm) = false
is_plain (Bndldx b m) = false
is_plain (Bndstx b m) = false
is_plain i = true

-- what kind of step an instruction is
abbrev pub done_by : Instr → Flags → Done
done_by (CallRel prefixed rel) f = Branch true false true prefixed
done_by (CallRm prefixed rm) f = Branch true false true prefixed
done_by (JmpRel prefixed rel) f = Branch false false true prefixed
done_by (JmpRm prefixed rm) f = Branch false false true prefixed
done_by (Jcc prefixed op rel) f = Branch false false (holds op f) prefixed
done_by (Ret prefixed) f = Branch false true true prefixed
done_by Syscall f = Service
done_by i f = Next

-- the bounds after a step: a branch without the BND prefix sets BND0 to BND3 to INIT, unless BNDPRESERVE is set
abbrev pub bounds_after : Done → BoundsState → BoundsState
bounds_after Next b = b
bounds_after (Branch call ret taken prefixed) b = record b { bounds = if prefixed || b.preserve then b.bounds else init_bounds }
bounds_after Service b = b

-- the processor once a step of a kind leads to an address
abbrev pub moved : Done → Processor → ℕ → Processor
moved Next c to = at_next c to
moved (Branch call ret taken prefixed) c to = branched c prefixed to
moved Service c to = at_next c to

-- how a row ends, by what a step answers and leaves
abbrev pub outcome_of : BoundsState → Cpu → Paged → Result Done CoreStop → Outcome Framed MemStop
outcome_of b cpu m (Ok done) = IsDone (seen (bounds_after done b) cpu) (framed_of m)
outcome_of b cpu m (Err (Mem stop)) = Refused stop (seen b cpu) (framed_of m)
outcome_of b cpu m (Err Divide) = Failed Divides (seen b cpu) (framed_of m)
outcome_of b cpu m (Err Undefined) = Failed Undefines (seen b cpu) (framed_of m)

-- a step from one processor and memory to others does a program of requests
abbrev pub Does : BoundsState → Cpu → Paged → Program → Cpu → Paged → Result Done CoreStop → Type 0
Does b cpu m program cpu' m' answer = run framed (seen b cpu) program (framed_of m) ≡ outcome_of b cpu' m' answer

-- ---- accesses

-- an answer of memory, with its refusal as a stop
abbrev pub core_answer : Result ℕ MemStop → Result ℕ CoreStop
core_answer (Ok v) = Ok v
core_answer (Err stop) = Err (Mem stop)

-- the value of a register or memory operand
abbrev pub low_answer : ℕ → Result ℕ MemStop → Result ℕ MemStop
low_answer w (Ok v) = Ok (low w v)
low_answer w (Err stop) = Err stop

abbrev pub operand_value : (ℕ → ℕ) → ℕ → Bytes → ℕ → Rm → Result ℕ MemStop
operand_value regs next bytes w (InReg r) = Ok (low w (regs r.0))
operand_value regs next bytes w (InMem m) = low_answer w (load_answer (bytes_in w) bytes (address regs next m))

-- a store that memory answers as `want` leaves x
abbrev pub StoresAs : Result Framed MemStop → Framed → Result (Unit {0}) CoreStop → Type 0
StoresAs want x (Ok done) = want ≡ Ok x
StoresAs want x (Err (Mem stop)) = want ≡ Err stop
StoresAs want x (Err Divide) = ⊥
StoresAs want x (Err Undefined) = ⊥

-- ---- operations

-- 8, 16 or 32 bits
abbrev pub less_than_64 : ℕ → Bool
less_than_64 from = narrow_ok from || nat_eq from 32

-- w bits hold more than the `from` bits that are spread over them
abbrev pub spreads : ℕ → ℕ → Bool
spreads w from = narrow_ok from || nat_eq from 32 && nat_eq w 64

-- the signed or the unsigned quotient, with its rest
abbrev pub quotient : Bool → ℕ → ℕ → ℕ → ℕ → Option (ℕ × ℕ)
quotient is_signed w hi lo by = if is_signed then divided_signed w hi lo by else divided w hi lo by
