-- The gates between C and legacy code, as instructions.
use Rattle.std.specs.Prelude.{◌≡◌, ℕ, ◌≤◌, ◌+◌, Bool, true, false, ◌&&◌, nat_lt, ◌==◌, if◌then◌else◌, Option, None, Some, ℤ, pos, negsuc, ◌-ℤ◌, List, [], ◌∷◌, ◌++◌, length}
use Rattle.mx_base.specs.declared.numbers.IntKind.{IntKind}
use Rattle.mx_base.specs.declared.numbers.IntKind.TheVariants.{I8, U8, I16, U16, I32, U32, I64, U64}
use Rattle.x86_forms.specs.declared.instr.Instr.{Instr}
use Rattle.x86_forms.specs.declared.instr.Reg.{Reg}
use Rattle.x86_forms.specs.declared.instr.Mem.{Mem}
use Rattle.x86_forms.specs.declared.instr.Base.TheVariants.{None as NoBase, Reg as BaseReg}
use Rattle.x86_forms.specs.declared.instr.Rm.{Rm}
use Rattle.x86_forms.specs.declared.instr.Rm.TheVariants.{Reg as InReg, Mem as InMem}
use Rattle.x86_forms.specs.declared.instr.Instr.TheVariants.{MovTo, MovFrom, MovMemImm, MovImm, Movsxd, Movzx, Movsx, Lea, AluTo, Push, Pop, CallRel, JmpRel, JmpRm, Jcc, Ret, Syscall, Bndmk, BndmovFrom}
use Rattle.x86_forms.specs.Spelling.{spelling}
use Rattle.x86_forms.specs.Validity.{valid_of}
use Rattle.call_sigs.specs.Signatures.{Signature, Result, Nothing, Pointer, Of, parameter_register, pointers, result_pointers}

-- ---- registers, cells and places

abbrev pub rax : ℕ
rax = 0

abbrev pub rcx : ℕ
rcx = 1

abbrev pub rdx : ℕ
rdx = 2

abbrev pub rsp : ℕ
rsp = 4

abbrev pub rsi : ℕ
rsi = 6

abbrev pub rdi : ℕ
rdi = 7

abbrev pub r10 : ℕ
r10 = 10

abbrev pub r11 : ℕ
r11 = 11

abbrev pub reg : ℕ → Reg
reg n = record { 0 = n }

abbrev pub in_reg : ℕ → Rm
in_reg n = InReg (reg n)

-- the four cells: the control stack pointer while legacy code runs, the legacy stack pointer, the data stack pointer, the depth
abbrev pub control_cell : ℕ
control_cell = 0x7000_0000

abbrev pub legacy_cell : ℕ
legacy_cell = 0x7000_0008

abbrev pub data_cell : ℕ
data_cell = 0x7000_0010

abbrev pub depth_cell : ℕ
depth_cell = 0x7000_0018

-- a place without base register, and one behind a register
abbrev pub at_cell : ℕ → Mem
at_cell a = record { base = NoBase; index = None; disp = pos a }

abbrev pub behind : ℕ → ℤ → Mem
behind r n = record { base = BaseReg (reg r); index = None; disp = n }

abbrev pub start_at : ℕ
start_at = 0x0100_0000

abbrev pub landing_at : ℕ
landing_at = 0x0100_0400

-- ---- code: instructions with their sizes

abbrev pub Code : Type 0
Code = List (Instr × ℕ)

abbrev pub size_of_code : Code → ℕ
size_of_code [] = 0
size_of_code (x ∷ rest) = x.1 + size_of_code rest

abbrev pub instructions : Code → List Instr
instructions [] = []
instructions (x ∷ rest) = x.0 ∷ instructions rest

-- instructions in bytes
abbrev pub spelled : List Instr → List ℕ
spelled [] = []
spelled (i ∷ rest) = spelling i ++ spelled rest

abbrev pub bytes_of_code : Code → List ℕ
bytes_of_code code = spelled (instructions code)

-- each instruction is valid, and has the size that is told
abbrev pub is_sound : Code → Bool
is_sound [] = true
is_sound (x ∷ rest) = (valid_of x.0 && (length (spelling x.0) == x.1)) && is_sound rest

abbrev pub load_cell : ℕ → ℕ → Instr × ℕ
load_cell r a = (MovFrom 64 (reg r) (at_cell a), 8)

abbrev pub store_cell : ℕ → ℕ → Instr × ℕ
store_cell a r = (MovTo 64 (reg r) (InMem (at_cell a)), 8)

-- push and pop of one of the first eight registers, and of one of the others
abbrev pub pushes : ℕ → Instr × ℕ
pushes r = (Push (reg r), if nat_lt r 8 then 1 else 2)

abbrev pub pops : ℕ → Instr × ℕ
pops r = (Pop (reg r), if nat_lt r 8 then 1 else 2)

abbrev pub copies : (to from : ℕ) → Instr × ℕ
copies to from = (MovTo 64 (reg from) (in_reg to), 3)

abbrev pub zero_cell : ℕ → Instr × ℕ
zero_cell a = (MovMemImm 64 (at_cell a) (pos 0), 12)

-- a number below 2^31 into a register
abbrev pub sets : (r n : ℕ) → Instr × ℕ
sets r n = (MovImm 32 (reg r) (pos n), if nat_lt r 8 then 5 else 6)

-- a register of 0, which sets the flags of 0
abbrev pub clears : ℕ → Instr × ℕ
clears r = (AluTo 4 32 (reg r) (in_reg r), if nat_lt r 8 then 2 else 3)

abbrev pub clear_all : List ℕ → Code
clear_all [] = []
clear_all (r ∷ rs) = clears r ∷ clear_all rs

-- ---- words of a kind

-- what makes the word of a kind in a register a word of 64 bits
abbrev pub extension : IntKind → ℕ → Option (Instr × ℕ)
extension I8 r = Some (Movsx 64 8 (reg r) (in_reg r), 4)
extension U8 r = Some (Movzx 8 (reg r) (in_reg r), if nat_lt r 4 then 3 else 4)
extension I16 r = Some (Movsx 64 16 (reg r) (in_reg r), 4)
extension U16 r = Some (Movzx 16 (reg r) (in_reg r), if nat_lt r 8 then 3 else 4)
extension I32 r = Some (Movsxd (reg r) (in_reg r), 3)
extension U32 r = Some (MovTo 32 (reg r) (in_reg r), if nat_lt r 8 then 2 else 3)
extension I64 r = None
extension U64 r = None

abbrev pub word_extension : Option IntKind → ℕ → Option (Instr × ℕ)
word_extension None r = None
word_extension (Some kind) r = extension kind r

-- the instruction without its size
abbrev pub only_instr : Instr × ℕ → Instr
only_instr x = x.0

abbrev pub if_any : Option (Instr × ℕ) → Code
if_any None = []
if_any (Some x) = x ∷ []

abbrev pub extends : IntKind → ℕ → Code
extends kind r = if_any (extension kind r)

abbrev pub extends_parameter : Option IntKind → ℕ → Code
extends_parameter p r = if_any (word_extension p r)

abbrev pub extend_parameters : ℕ → List (Option IntKind) → Code
extend_parameters k [] = []
extend_parameters k (p ∷ ps) = extends_parameter p (parameter_register k) ++ extend_parameters (k + 1) ps

abbrev pub extends_result : Result → Code
extends_result Nothing = clears rax ∷ []
extends_result Pointer = []
extends_result (Of kind) = extends kind rax

-- ---- bounds registers from one on made INIT, by a register that is 0
abbrev pub widens : (b from : ℕ) → Instr × ℕ
widens b from = (BndmovFrom b (in_reg from), 4)

abbrev pub init_first : (none b : ℕ) → Instr × ℕ
init_first none b = (Bndmk b (behind none (negsuc 0)), 5)

abbrev pub init_from : (none b : ℕ) → Code
init_from none b =
    if b == 0 then init_first none 0 ∷ widens 1 0 ∷ widens 2 0 ∷ widens 3 0 ∷ []
    else if b == 1 then init_first none 1 ∷ widens 2 1 ∷ widens 3 1 ∷ []
    else if b == 2 then init_first none 2 ∷ widens 3 2 ∷ []
    else if b == 3 then init_first none 3 ∷ []
    else []

-- ---- the gates

-- the way of a relative branch from the end of its instruction
abbrev pub way : (target next : ℕ) → ℤ
way target next = pos target -ℤ pos next

abbrev pub calls : ℕ → ℕ → Instr × ℕ
calls target next = (CallRel true (way target next), 6)

abbrev pub jumps : ℕ → ℕ → Instr × ℕ
jumps target next = (JmpRel true (way target next), 6)

abbrev pub returns : Instr × ℕ
returns = (Ret true, 2)

abbrev pub start_head : Code
start_head =
    zero_cell control_cell
    ∷ sets rax 0x6080_0000 ∷ store_cell legacy_cell rax
    ∷ sets rax 0x5400_0000 ∷ store_cell data_cell rax
    ∷ zero_cell depth_cell
    ∷ []

abbrev pub start_tail : Code
start_tail = copies rdi rax ∷ sets rax 60 ∷ (Syscall, 2) ∷ []

abbrev pub start_gate : (main : ℕ) → Code
start_gate main = start_head ++ calls main (start_at + size_of_code start_head + 6) ∷ start_tail

-- at the landing: rsp from its cell, both cells as they were, and on to the stub, by the address on the stack
abbrev pub landing_gate : Code
landing_gate =
    load_cell rsp control_cell
    ∷ pops r11 ∷ pops rcx ∷ store_cell legacy_cell rcx
    ∷ pops rcx ∷ store_cell control_cell rcx
    ∷ (JmpRm true (in_reg r11), 4)
    ∷ []

-- the registers that carry no parameter, of those that do for 6
abbrev pub not_carrying : ℕ → List ℕ
not_carrying n = if n == 0 then 7 ∷ 6 ∷ 2 ∷ 1 ∷ 8 ∷ 9 ∷ [] else if n == 1 then 6 ∷ 2 ∷ 1 ∷ 8 ∷ 9 ∷ [] else if n == 2 then 2 ∷ 1 ∷ 8 ∷ 9 ∷ []
    else if n == 3 then 1 ∷ 8 ∷ 9 ∷ [] else if n == 4 then 8 ∷ 9 ∷ [] else if n == 5 then 9 ∷ [] else []

-- the stub keeps both cells and the address of its tail on the control stack
abbrev pub stub_keeps : (tail : ℕ) → Code
stub_keeps tail =
    load_cell rax control_cell ∷ pushes rax
    ∷ load_cell rax legacy_cell ∷ pushes rax
    ∷ sets r10 tail ∷ pushes r10
    ∷ store_cell control_cell rsp
    ∷ (Lea (reg rax) (behind rax (negsuc 7)), 4)
    ∷ []

-- the return address of legacy code is written below its stack, through a general register: this may stop
abbrev pub stub_writes : Code
stub_writes = sets r10 landing_at ∷ (MovTo 64 (reg r10) (InMem (behind rax (pos 0))), 3) ∷ []

-- what stands between the writing and the jump: the stack of legacy code, the arguments, and all that carries nothing
abbrev pub stub_clears : Signature → Code
stub_clears sig =
    copies rsp rax
    ∷ extend_parameters 0 sig.parameters
    ++ (clear_all (rax ∷ r10 ∷ r11 ∷ not_carrying (length sig.parameters)) ++ init_from rax (pointers sig.parameters))

-- the tail: what legacy code gave is made a word of 64 bits, and the stub returns
abbrev pub stub_tail : Signature → Code
stub_tail sig = extends_result sig.result ++ (returns ∷ [])

-- sizes of the parts do not depend on addresses
abbrev pub stub_body_size : Signature → ℕ
stub_body_size sig = size_of_code (stub_keeps 0) + size_of_code stub_writes + size_of_code (stub_clears sig) + 6

abbrev pub stub_gate : Signature → (target at : ℕ) → Code
stub_gate sig target at =
    stub_keeps (at + stub_body_size sig) ++ (stub_writes ++ (stub_clears sig ++ (jumps target (at + stub_body_size sig) ∷ stub_tail sig)))

-- the outer entry keeps both cells on the control stack, which it takes from its cell
abbrev pub outer_keeps : Code
outer_keeps =
    copies r10 rsp
    ∷ sets rsp control_cell ∷ pops rax ∷ pops r11
    ∷ copies rsp rax
    ∷ pushes rax ∷ pushes r11
    ∷ store_cell legacy_cell r10
    ∷ []

abbrev pub outer_restores : Code
outer_restores =
    pops rcx ∷ pops rdx
    ∷ load_cell r10 legacy_cell
    ∷ store_cell legacy_cell rcx ∷ store_cell control_cell rdx
    ∷ copies rsp r10
    ∷ []

-- the registers that C may touch and that carry no result
abbrev pub others : List ℕ
others = rcx ∷ rdx ∷ rsi ∷ rdi ∷ 8 ∷ 9 ∷ r10 ∷ r11 ∷ []

abbrev pub outer_clears : Signature → Code
outer_clears sig = extends_result sig.result ++ (clear_all others ++ init_from rcx (result_pointers sig.result))

abbrev pub outer_head : Signature → Code
outer_head sig = outer_keeps ++ extend_parameters 0 sig.parameters

abbrev pub outer_gate : Signature → (inner at : ℕ) → Code
outer_gate sig inner at =
    outer_head sig ++ (calls inner (at + size_of_code (outer_head sig) + 6) ∷ (outer_restores ++ (outer_clears sig ++ (returns ∷ []))))

-- ---- where gates and their targets may lie

-- instrumented code, or its end
abbrev pub InCode : ℕ → Type 0
InCode a = (0x0100_0000 ≤ a) × (a ≤ 0x1100_0000)

-- legacy code, or its end
abbrev pub InLegacyCode : ℕ → Type 0
InLegacyCode a = (0x1200_0000 ≤ a) × (a ≤ 0x1300_0000)

-- ---- what holds of each gate

-- a relative jump leads to a higher address
abbrev pub is_onward : Instr → Bool
is_onward (JmpRel prefixed (pos n)) = true
is_onward (JmpRel prefixed (negsuc n)) = false
is_onward (Jcc prefixed op (pos n)) = true
is_onward (Jcc prefixed op (negsuc n)) = false
is_onward i = true

abbrev pub all_onward : Code → Bool
all_onward [] = true
all_onward (x ∷ rest) = is_onward x.0 && all_onward rest

-- each instruction is valid and of its size, none jumps back, and there are no more than so many bytes
pub record IsGate (code : Code) (most : ℕ) : Type 0 where
  pub sound : is_sound code ≡ true
  pub onward : all_onward code ≡ true
  pub fits : size_of_code code ≤ most
