-- What an instruction works on beside memory, and where its operands are (Intel SDM, volume 1, basic execution environment).
use Rattle.std.specs.Prelude.{ℕ, ◌+◌, ◌*◌, ◌/◌, ◌%◌, ◌^◌, Bool, nat_eq, ◌==◌, if◌then◌else◌, Option, None, Some, ℤ}
use Rattle.std.specs.Int.{cast_unsigned, w64}
use Rattle.mx_base.specs.declared.limits.Bounds.{Bounds}
use Rattle.x86_forms.specs.declared.instr.Reg.{Reg}
use Rattle.x86_forms.specs.declared.instr.Mem.{Mem}
use Rattle.x86_forms.specs.declared.instr.Base.{Base}
use Rattle.x86_forms.specs.declared.instr.Base.TheVariants.{None as NoBase, Reg as BaseReg, Rip}
use Rattle.x86_forms.specs.Arithmetic.{Flags, low}

-- the registers by number, the flags, the address of the next instruction, BND0 to BND3 with their upper bounds as addresses, whether BNDPRESERVE is set, and BNDSTATUS
pub record Processor : Type 0 where
  pub regs : ℕ → ℕ
  pub flags : Flags
  pub rip : ℕ
  pub bounds : ℕ → Bounds
  pub preserve : Bool
  pub status : ℕ

-- ---- registers

abbrev pub rax : ℕ
rax = 0

abbrev pub rcx : ℕ
rcx = 1

abbrev pub rdx : ℕ
rdx = 2

abbrev pub rsp : ℕ
rsp = 4

abbrev pub r11 : ℕ
r11 = 11

-- one register replaced
abbrev pub with_reg : (ℕ → ℕ) → ℕ → ℕ → ℕ → ℕ
with_reg regs r v = λ k. if nat_eq k r then v else regs k

-- what a register holds once w bits are written to it: 32 bits clear the upper half, and 8 or 16 leave the rest
unfoldable pub part_written : ℕ → ℕ → ℕ → ℕ
part_written w old v = if w == 64 then low 64 v else if w == 32 then low 32 v else old / 2 ^ w * 2 ^ w + low w v

abbrev pub with_part : ℕ → (ℕ → ℕ) → ℕ → ℕ → ℕ → ℕ
with_part w regs r v = with_reg regs r (part_written w (regs r) v)

-- one bounds register replaced
abbrev pub with_bounds : (ℕ → Bounds) → ℕ → Bounds → ℕ → Bounds
with_bounds bounds b x = λ k. if nat_eq k b then x else bounds k

-- ---- addresses

-- how many bytes w bits take
abbrev pub bytes_in : ℕ → ℕ
bytes_in w = w / 8

abbrev pub base_value : (ℕ → ℕ) → ℕ → Base → ℕ
base_value regs next NoBase = 0
base_value regs next (BaseReg r) = regs r.0
base_value regs next Rip = next

abbrev pub index_value : (ℕ → ℕ) → Option (Reg × ℕ) → ℕ
index_value regs None = 0
index_value regs (Some x) = regs x.0.0 * x.1

-- the address of a memory operand, `next` being the address of the next instruction
unfoldable pub address : (ℕ → ℕ) → ℕ → Mem → ℕ
address regs next m = (base_value regs next m.base + index_value regs m.index + cast_unsigned w64 m.disp) % 2 ^ 64

-- the pointer's address and its value in the operand of BNDLDX and BNDSTX: the index register isn't part of the address, and its scale is ignored
unfoldable pub pointer_address : (ℕ → ℕ) → ℕ → Mem → ℕ
pointer_address regs next m = (base_value regs next m.base + cast_unsigned w64 m.disp) % 2 ^ 64

abbrev pub index_register : (ℕ → ℕ) → Option (Reg × ℕ) → ℕ
index_register regs None = 0
index_register regs (Some x) = regs x.0.0

-- the address below a stack pointer and the one above it, 8 bytes away
abbrev pub below_stack : ℕ → ℕ
below_stack sp = (sp + 0xffff_ffff_ffff_fff8) % 2 ^ 64

abbrev pub above_stack : ℕ → ℕ
above_stack sp = (sp + 8) % 2 ^ 64

-- the target of a relative branch
abbrev pub branch_target : ℕ → ℤ → ℕ
branch_target next rel = (next + cast_unsigned w64 rel) % 2 ^ 64
