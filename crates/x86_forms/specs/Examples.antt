-- Small examples of instructions: what stands before one, and what differs after it. The rest of the processor is as before,
-- and memory is looked at where an example names a place.
use Rattle.std.specs.Prelude.{◌≡◌, ℕ, ◌+◌, ◌*◌, ◌==◌, Bool, true, false, if◌then◌else◌, Option, None, Some, Ok, List, [], ◌∷◌, ◌++◌, ℤ}
use Rattle.std.specs.List.{flat_map}
use Rattle.mx_base.specs.declared.limits.Bounds.{Bounds}
use Rattle.mx_base.specs.BoundsStore.{Kept, bounds_for, granule}
use Rattle.mx_base.specs.Memory.{Bytes, no_bytes, number_at, with_number}
use Rattle.x86_forms.specs.declared.instr.Instr.{Instr}
use Rattle.x86_forms.specs.declared.instr.Reg.{Reg}
use Rattle.x86_forms.specs.declared.instr.Mem.{Mem}
use Rattle.x86_forms.specs.declared.instr.Base.TheVariants.{None as NoBase, Reg as BaseReg, Rip}
use Rattle.x86_forms.specs.declared.instr.Rm.{Rm}
use Rattle.x86_forms.specs.declared.instr.Rm.TheVariants.{Reg as InReg}
use Rattle.x86_forms.specs.Arithmetic.{Flags}
use Rattle.x86_forms.specs.Processor.{Processor, with_reg, with_bounds}
use Rattle.x86_forms.specs.Requests.{Store, Outcome, Done, Failed, Refused, Fault, run}
use Rattle.x86_forms.specs.Table.{row, init_bounds}

-- ---- operands

abbrev pub reg : ℕ → Reg
reg n = record { 0 = n }

abbrev pub in_reg : ℕ → Rm
in_reg n = InReg (reg n)

-- `[base+disp]`, `[base+index*scale+disp]`, the latter without base, and `[rip+disp]`
abbrev pub based : ℕ → ℤ → Mem
based base disp = record { base = BaseReg (reg base); index = None; disp = disp }

abbrev pub indexed : ℕ → ℕ → ℕ → ℤ → Mem
indexed base index scale disp = record { base = BaseReg (reg base); index = Some (reg index, scale); disp = disp }

abbrev pub scaled : ℕ → ℕ → ℤ → Mem
scaled index scale disp = record { base = NoBase; index = Some (reg index, scale); disp = disp }

abbrev pub by_rip : ℤ → Mem
by_rip disp = record { base = Rip; index = None; disp = disp }

-- ---- a small machine: a processor with bytes that can all be read and written, and bounds kept for granules

pub record Small : Type 0 where
  pub bytes : Bytes
  pub kept : ℕ → Option Kept

abbrev pub small_store : Store Small ⊥
small_store = record {
  read = λ x at size. Ok (number_at size x.bytes at);
  write = λ x at size value. Ok record { bytes = with_number size x.bytes at value; kept = x.kept };
  load = λ x at value. Ok (bounds_for value (x.kept (granule at)), x);
  keep = λ x at value b. Ok record { bytes = x.bytes; kept = λ g. if g == granule at then Some record { value = value; bounds = b } else x.kept g };
  status = λ o before. before;
}

-- a part of its state: a register holds a value; carry, zero, sign and overflow are 0 or 1; the address of the next instruction;
-- the bounds of BND0 to BND3, and INIT in all of them; BNDPRESERVE is set; BNDSTATUS; a number of so many bytes lies at an
-- address; and bounds are kept at an address for a pointer of a value
pub data Fact : Type 0 where
  Holds : (r v : ℕ) → Fact
  Flagged : (c z s o : ℕ) → Fact
  Next : (a : ℕ) → Fact
  Bounded : (b lb ub : ℕ) → Fact
  Init : Fact
  Preserving : Fact
  Status : (v : ℕ) → Fact
  Lies : (size a v : ℕ) → Fact
  KeptAt : (a value lb ub : ℕ) → Fact

pub record State : Type 0 where
  pub processor : Processor
  pub memory : Small

abbrev pub flags_made : ℕ → ℕ → ℕ → ℕ → Flags
flags_made c z s o = record { cf = c == 1; zf = z == 1; sf = s == 1; of = o == 1 }

abbrev pub with_fact : State → Fact → State
with_fact s (Holds r v) = record s { processor = record s.processor { regs = with_reg s.processor.regs r v } }
with_fact s (Flagged c z n o) = record s { processor = record s.processor { flags = flags_made c z n o } }
with_fact s (Next a) = record s { processor = record s.processor { rip = a } }
with_fact s (Bounded b lb ub) = record s { processor = record s.processor { bounds = with_bounds s.processor.bounds b (record { lb = lb; ub = ub }) } }
with_fact s Init = record s { processor = record s.processor { bounds = init_bounds } }
with_fact s Preserving = record s { processor = record s.processor { preserve = true } }
with_fact s (Status v) = record s { processor = record s.processor { status = v } }
with_fact s (Lies size a v) = record s { memory = record s.memory { bytes = with_number size s.memory.bytes a v } }
with_fact s (KeptAt a value lb ub) = record s { memory = record s.memory { kept = λ g. if g == granule a then Some record { value = value; bounds = record { lb = lb; ub = ub } } else s.memory.kept g } }

abbrev pub with_facts : State → List Fact → State
with_facts s [] = s
with_facts s (f ∷ fs) = with_facts (with_fact s f) fs

-- the instruction stands at 0x1000 and has five bytes. Before it all registers, flags and bounds are marked, so that what
-- changes is seen
abbrev pub next_instruction : ℕ
next_instruction = 0x1005

abbrev pub marked : State
marked = record {
  processor = record {
    regs = λ k. 0xaa00_0000_0000_0000 + k;
    flags = flags_made 1 1 1 1;
    rip = 0x1000;
    bounds = λ k. record { lb = 0x10_0000 * k; ub = 0x10_0000 * k + 0xffff };
    preserve = false;
    status = 0;
  };
  memory = record { bytes = no_bytes; kept = λ g. None };
}

-- ---- what is seen of a state

abbrev pub bit : Bool → ℕ
bit b = if b then 1 else 0

abbrev pub flags_seen : Flags → List ℕ
flags_seen f = bit f.cf ∷ bit f.zf ∷ bit f.sf ∷ bit f.of ∷ []

abbrev pub bounds_seen : Bounds → List ℕ
bounds_seen b = b.lb ∷ b.ub ∷ []

abbrev pub processor_seen : Processor → List ℕ
processor_seen c = flat_map (λ k. c.regs k ∷ []) (0 ∷ 1 ∷ 2 ∷ 3 ∷ 4 ∷ 5 ∷ 6 ∷ 7 ∷ 8 ∷ 9 ∷ 10 ∷ 11 ∷ 12 ∷ 13 ∷ 14 ∷ 15 ∷ [])
    ++ flat_map (λ k. bounds_seen (c.bounds k)) (0 ∷ 1 ∷ 2 ∷ 3 ∷ [])
    ++ flags_seen c.flags ++ (c.rip ∷ bit c.preserve ∷ c.status ∷ [])

-- of memory the places that facts name
abbrev pub place_seen : Small → Fact → List ℕ
place_seen x (Lies size a v) = number_at size x.bytes a ∷ []
place_seen x (KeptAt a value lb ub) = bounds_seen (bounds_for value (x.kept (granule a)))
place_seen x f = []

abbrev pub seen : List Fact → Processor → Small → List ℕ
seen facts c x = processor_seen c ++ flat_map (place_seen x) facts

-- ---- examples

-- facts before an instruction, facts after it, and why it isn't done, where it isn't
pub record Example : Type 0 where
  pub before : List Fact
  pub instr : Instr
  pub after : List Fact
  pub fault : Option Fault

abbrev pub done : List Fact → Instr → List Fact → Example
done before i after = record { before = before; instr = i; after = Next next_instruction ∷ after; fault = None }

abbrev pub fails : List Fact → Instr → Fault → List Fact → Example
fails before i fault after = record { before = before; instr = i; after = after; fault = Some fault }

abbrev pub outcome_seen : List Fact → Outcome Small ⊥ → Option Fault × List ℕ
outcome_seen facts (Done after x) = (None, seen facts after x)
outcome_seen facts (Failed fault left x) = (Some fault, seen facts left x)
outcome_seen facts (Refused o left x) = absurd o

abbrev pub outcome_of : State → Instr → Outcome Small ⊥
outcome_of s i = run small_store s.processor (row i next_instruction s.processor) s.memory

abbrev pub expected : List Fact → State → Option Fault → Option Fault × List ℕ
expected facts s fault = (fault, seen facts s.processor s.memory)

-- the table does what an example says
unfoldable pub Does : Example → Type 0
Does e = outcome_seen (e.before ++ e.after) (outcome_of (with_facts marked e.before) e.instr)
    ≡ expected (e.before ++ e.after) (with_facts marked (e.before ++ e.after)) e.fault
