-- What each instruction of the first path does: its row of the instruction table, over memory that is one array of bytes.
use Rattle.std.specs.Prelude.{ℕ, ◌+◌, ◌-◌, ◌%◌, Bool, true, false, ◌&&◌, nat_lt, nat_le, ◌==◌, if◌then◌else◌, Ok, Err, List, length, slice_index, slice_set}
use Rattle.x86_forms.specs.declared.instr.Instr.{Instr}
use Rattle.x86_forms.specs.declared.instr.Instr.TheVariants.{MovImm, MovMemImm, Movzx, Bndmk, Bndcl, Bndcu, Syscall}
use Rattle.x86_forms.specs.declared.instr.Rm.TheVariants.{Reg as InReg, Mem as InMem}
use Rattle.x86_forms.specs.Processor.{Processor, rax, with_reg}
use Rattle.x86_forms.specs.Requests.{Store, Outcome, Done, Failed, Refused, Fault, Violates as Leaves, run}
use Rattle.x86_forms.specs.Table.{row}

-- the address of the first byte of memory; the bytes of the array stand from there, and no other byte is mapped
abbrev pub memory_start : ℕ
memory_start = 0x2000_0000

pub record EarlyState : Type 0 where
  pub processor : Processor
  -- the bytes of memory
  pub array : List ℕ

-- how the run of code ends
pub data CodeEnd : Type 0 where
  -- by the service exit, with this status
  Exits : ℕ → CodeEnd
  -- by #BR, as the value is not within the bounds
  Violates : (value lb ub : ℕ) → CodeEnd
  -- at an access to a byte that is not mapped
  Unmapped : CodeEnd
  -- at bytes that begin none of these instructions, or at a service that is neither put nor exit
  Undefined : CodeEnd

-- what one instruction does: it leads on, puts a byte and leads on, or ends the run
pub data EarlyEffect : Type 0 where
  Goes : EarlyState → EarlyEffect
  Sends : ℕ → EarlyState → EarlyEffect
  Ends : CodeEnd → EarlyEffect

abbrev pub is_mapped : ℕ → List ℕ → Bool
is_mapped a array = nat_le memory_start a && nat_lt a (memory_start + length array)

-- The array as the memory of the instruction table. Each access of the first path is of one byte, and none of its
-- instructions loads or keeps bounds.
abbrev pub array_memory : Store (List ℕ) (Unit {0})
array_memory = record {
  read = λ array at size. if is_mapped at array then Ok (slice_index array (at - memory_start)) else Err tt;
  write = λ array at size value. if is_mapped at array then Ok (slice_set array (at - memory_start) value) else Err tt;
  load = λ array at value. Err tt;
  keep = λ array at value b. Err tt;
  status = λ o before. before;
}

-- the forms of the first path
abbrev pub is_early : Instr → Bool
is_early (MovImm w r imm) = w == 32
is_early (MovMemImm w m imm) = w == 8
is_early (Movzx from r (InMem m)) = from == 8
is_early (Bndmk b m) = true
is_early (Bndcl b (InReg r)) = true
is_early (Bndcu b (InReg r)) = true
is_early Syscall = true
is_early i = false

abbrev pub end_of_fault : Fault → CodeEnd
end_of_fault (Leaves value b) = Violates value b.lb b.ub
end_of_fault fault = Undefined

abbrev pub effect_of : Outcome (List ℕ) (Unit {0}) → EarlyEffect
effect_of (Done after array) = Goes (record { processor = after; array = array })
effect_of (Failed fault left array) = Ends (end_of_fault fault)
effect_of (Refused by left array) = Ends Unmapped

-- what the row of an instruction does, with the address of the next one
unfoldable pub row_effect : Instr → ℕ → EarlyState → EarlyEffect
row_effect i next s = effect_of (run array_memory s.processor (row i next s.processor) s.array)

-- The service whose number is in rax, with its argument in rdi: 0x1003 puts the low byte and answers 0, 60 ends the run.
unfoldable pub served : EarlyEffect → EarlyEffect
served (Goes s) =
    if s.processor.regs rax == 0x1003
    then Sends (s.processor.regs 7 % 0x100) (record { processor = record s.processor { regs = with_reg s.processor.regs rax 0 }; array = s.array })
    else if s.processor.regs rax == 60 then Ends (Exits (s.processor.regs 7 % 0x100))
    else Ends Undefined
served e = e

-- the effect of an instruction, with the address of the next one
unfoldable pub effect : Instr → ℕ → EarlyState → EarlyEffect
effect Syscall next s = served (row_effect Syscall next s)
effect i next s = if is_early i then row_effect i next s else Ends Undefined
