-- The instructions for a program of the early form.
use Rattle.std.specs.Prelude.{ℕ, ◌+◌, ◌-◌, pos, None, List, [], ◌∷◌, ◌++◌}
use Rattle.std.specs.Int.{w8, cast_signed}
use Rattle.std.specs.List.{flat_map}
use Rattle.c_reader.specs.declared.early.Act.{Act}
use Rattle.c_reader.specs.declared.early.Act.TheVariants.{Write, PutAt, Put}
use Rattle.c_reader.specs.EarlyMeaning.{array_at, EarlyEnd, Returns, Leaves, EarlyRun}
use Rattle.x86_forms.specs.declared.instr.Reg.{Reg}
use Rattle.x86_forms.specs.declared.instr.Mem.{Mem}
use Rattle.x86_forms.specs.declared.instr.Base.TheVariants.{Reg as BaseReg}
use Rattle.x86_forms.specs.declared.instr.Rm.TheVariants.{Reg as InReg, Mem as InMem}
use Rattle.x86_forms.specs.declared.instr.Instr.{Instr}
use Rattle.x86_forms.specs.declared.instr.Instr.TheVariants.{MovImm, MovMemImm, Movzx, Bndmk, Bndcl, Bndcu, Syscall}
use Rattle.x86_forms.specs.EarlyEffects.{CodeEnd, Exits, Violates}
use Rattle.x86_forms.specs.EarlyCode.{CodeRun}
use Rattle.x86_forms.specs.Spelling.{spelling}

abbrev pub rax : Reg
rax = record { 0 = 0 }

abbrev pub rcx : Reg
rcx = record { 0 = 1 }

abbrev pub rbx : Reg
rbx = record { 0 = 3 }

abbrev pub rdi : Reg
rdi = record { 0 = 7 }

-- [r+disp]
abbrev pub behind : Reg → ℕ → Mem
behind r disp = record { base = BaseReg r; index = None; disp = pos disp }

-- mov r32, n
abbrev pub load_number : Reg → ℕ → Instr
load_number r n = MovImm 32 r (pos n)

-- mov ebx, the array; bndmk bnd0, [rbx+size-1]
abbrev pub bounds_code : ℕ → List Instr
bounds_code size = load_number rbx array_at ∷ Bndmk 0 (behind rbx (size - 1)) ∷ []

-- mov ecx, the element; bndcl bnd0, rcx; bndcu bnd0, rcx
abbrev pub pointer_code : ℕ → List Instr
pointer_code index = load_number rcx (array_at + index) ∷ Bndcl 0 (InReg rcx) ∷ Bndcu 0 (InReg rcx) ∷ []

-- [rcx]
abbrev pub element : Mem
element = behind rcx 0

-- mov eax, the service's number; syscall
abbrev pub service_code : ℕ → List Instr
service_code number = load_number rax number ∷ Syscall ∷ []

abbrev pub act_code : Act → List Instr
act_code (Write index value) = pointer_code index ++ MovMemImm 8 element (cast_signed w8 value) ∷ []
act_code (PutAt index) = pointer_code index ++ Movzx 8 rdi (InMem element) ∷ service_code 0x1003
act_code (Put value) = load_number rdi value ∷ service_code 0x1003

abbrev pub end_code : ℕ → List Instr
end_code code = load_number rdi code ∷ service_code 60

-- the whole program
abbrev pub program_of : ℕ → List Act → ℕ → List Instr
program_of size acts code = bounds_code size ++ (flat_map act_code acts ++ end_code code)

-- its bytes
abbrev pub bytes_of : ℕ → List Act → ℕ → List ℕ
bytes_of size acts code = flat_map spelling (program_of size acts code)

-- how code ends that does what a program means
abbrev pub as_code_end : EarlyEnd → CodeEnd
as_code_end (Returns code) = Exits code
as_code_end (Leaves value lb ub) = Violates value lb ub

-- what code does that does what a program means
abbrev pub as_code_run : EarlyRun → CodeRun
as_code_run r = record { out = r.out; ends = as_code_end r.ends }
