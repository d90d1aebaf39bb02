-- The one spelling of each instruction: prefix, REX, 0F, opcode, ModRM, SIB, displacement and immediate (SDM volume 2,
-- chapter 2, in 64-bit mode). Where the processor knows several forms of a part, exactly one is a spelling.
use Rattle.std.specs.Prelude.{◌≡◌, ℕ, IsTrue, Bool, false, nat_eq, nat_lt, nat_le, if◌then◌else◌, ℤ, pos, negsuc, ◌&&◌, ◌||◌, not, ◌+◌, ◌*◌, ◌/◌, ◌%◌, Option, Some, None, List, [], ◌∷◌, ◌++◌, take}
use Rattle.std.specs.Int.{to_le_bytes, cast_unsigned, w64}
use Rattle.x86_forms.specs.declared.instr.Instr.{Instr}
use Rattle.x86_forms.specs.declared.instr.Reg.{Reg}
use Rattle.x86_forms.specs.declared.instr.Base.{Base}
use Rattle.x86_forms.specs.declared.instr.Base.TheVariants.{None as NoBase, Reg as BaseReg, Rip}
use Rattle.x86_forms.specs.declared.instr.Rm.{Rm}
use Rattle.x86_forms.specs.declared.instr.Rm.TheVariants.{Reg as InReg, Mem as InMem}
use Rattle.x86_forms.specs.declared.layout.Layout.{Layout}
use Rattle.x86_forms.specs.declared.layout.Operands.{Operands}
use Rattle.x86_forms.specs.declared.layout.Operands.TheVariants.{Bare, InOpcode, InModrm}
use Rattle.x86_forms.specs.Fits.{fits_8}
use Rattle.x86_forms.specs.Layout.{layout_of}
use Rattle.x86_forms.specs.Validity.{valid_of}

-- the lowest n bytes of z in two's complement, the lowest first
unfoldable pub low_bytes : ℕ → ℤ → List ℕ
low_bytes n z = take n (to_le_bytes w64 (cast_unsigned w64 z))

abbrev pub is_zero : ℤ → Bool
is_zero (pos n) = nat_eq n 0
is_zero (negsuc n) = false

-- the mod field over a base register: no displacement if it is 0 and the base's low three bits aren't 5, else 8 bits
-- where it fits, else 32
unfoldable pub mod_of : ℕ → ℤ → ℕ
mod_of r disp = if is_zero disp && not (nat_eq (r % 8) 5) then 0 else if fits_8 disp then 1 else 2

unfoldable pub disp_bytes : ℕ → ℤ → List ℕ
disp_bytes mode disp = if nat_eq mode 0 then [] else if nat_eq mode 1 then low_bytes 1 disp else low_bytes 4 disp

unfoldable pub scale_code : ℕ → ℕ
scale_code s = if nat_eq s 1 then 0 else if nat_eq s 2 then 1 else if nat_eq s 4 then 2 else 3

unfoldable pub modrm : ℕ → ℕ → ℕ → ℕ
modrm mode reg rm = 64 * mode + 8 * (reg % 8) + rm % 8

-- without index the index field is 4 and the scale field 0
unfoldable pub sib : Option (Reg × ℕ) → ℕ → ℕ
sib None base = 8 * 4 + base % 8
sib (Some x) base = 64 * scale_code x.1 + 8 * (x.0.0 % 8) + base % 8

-- over a base register SIB stands where there is an index or the base's low three bits are 4
unfoldable pub over_base : ℕ → ℕ → Option (Reg × ℕ) → ℤ → List ℕ
over_base reg r None disp =
    if nat_eq (r % 8) 4 then modrm (mod_of r disp) reg 4 ∷ sib None r ∷ disp_bytes (mod_of r disp) disp
    else modrm (mod_of r disp) reg r ∷ disp_bytes (mod_of r disp) disp
over_base reg r (Some x) disp = modrm (mod_of r disp) reg 4 ∷ sib (Some x) r ∷ disp_bytes (mod_of r disp) disp

-- without a base register the displacement has 32 bits; SIB stands unless rip is the base
unfoldable pub mem_bytes : ℕ → Base → Option (Reg × ℕ) → ℤ → List ℕ
mem_bytes reg NoBase index disp = modrm 0 reg 4 ∷ sib index 5 ∷ low_bytes 4 disp
mem_bytes reg Rip index disp = modrm 0 reg 5 ∷ low_bytes 4 disp
mem_bytes reg (BaseReg r) index disp = over_base reg r.0 index disp

-- ModRM, SIB and the displacement
unfoldable pub rm_bytes : ℕ → Rm → List ℕ
rm_bytes reg (InReg r) = modrm 3 reg r.0 ∷ []
rm_bytes reg (InMem m) = mem_bytes reg m.base m.index m.disp

unfoldable pub index_high : Option (Reg × ℕ) → ℕ
index_high None = 0
index_high (Some x) = x.0.0 / 8

unfoldable pub base_high : Base → ℕ
base_high NoBase = 0
base_high (BaseReg r) = r.0 / 8
base_high Rip = 0

-- the bits X and B of REX
unfoldable pub rm_high : Rm → ℕ
rm_high (InReg r) = r.0 / 8
rm_high (InMem m) = 2 * index_high m.index + base_high m.base

-- the bits R, X and B
unfoldable pub high_bits : Operands → ℕ
high_bits Bare = 0
high_bits (InOpcode r) = r / 8
high_bits (InModrm reg low_reg rm low_rm) = 4 * (reg / 8) + rm_high rm

-- spl, bpl, sil and dil, as registers of 8 bits
unfoldable pub is_low : ℕ → Bool
is_low r = nat_le 4 r && nat_lt r 8

unfoldable pub rm_is_low : Rm → Bool
rm_is_low (InReg r) = is_low r.0
rm_is_low (InMem m) = false

-- a REX byte is needed even with no bit set
unfoldable pub forces_rex : Operands → Bool
forces_rex Bare = false
forces_rex (InOpcode r) = false
forces_rex (InModrm reg low_reg rm low_rm) = (low_reg && is_low reg) || (low_rm && rm_is_low rm)

unfoldable pub rex_bits : Bool → Operands → ℕ
rex_bits wide ops = (if wide then 8 else 0) + high_bits ops

unfoldable pub rex_bytes : Bool → ℕ → List ℕ
rex_bytes forced bits = if nat_eq bits 0 && not forced then [] else (0x40 + bits) ∷ []

unfoldable pub prefix_bytes : ℕ → List ℕ
prefix_bytes p = if nat_eq p 0 then [] else p ∷ []

unfoldable pub escape_bytes : Bool → List ℕ
escape_bytes escape = if escape then 0x0F ∷ [] else []

-- the opcode and the operands in registers and memory
unfoldable pub operand_bytes : ℕ → Operands → List ℕ
operand_bytes opcode Bare = opcode ∷ []
operand_bytes opcode (InOpcode r) = (opcode + r % 8) ∷ []
operand_bytes opcode (InModrm reg low_reg rm low_rm) = opcode ∷ rm_bytes reg rm

abbrev pub bytes_of : Layout → List ℕ
bytes_of l =
    prefix_bytes l.prefix ++ (rex_bytes (forces_rex l.operands) (rex_bits l.wide l.operands) ++ (escape_bytes l.escape
    ++ (operand_bytes l.opcode l.operands ++ low_bytes l.imm_len l.imm)))

-- the one spelling of an instruction
abbrev pub spelling : Instr → List ℕ
spelling i = bytes_of (layout_of i)

-- the bytes are the spelling of a valid instruction
pub record Spells (read : List ℕ) (i : Instr) : Type 0 where
  pub valid : IsTrue (valid_of i)
  pub bytes : read ≡ spelling i
