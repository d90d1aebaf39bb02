-- Which instructions are valid: each has a spelling, and no other has.
use Rattle.std.specs.Prelude.{ℕ, Bool, true, false, nat_eq, nat_lt, if◌then◌else◌, ℤ, ◌&&◌, ◌||◌, not, Option, Some, None}
use Rattle.x86_forms.specs.declared.instr.Instr.{Instr}
use Rattle.x86_forms.specs.declared.instr.Reg.{Reg}
use Rattle.x86_forms.specs.declared.instr.Mem.{Mem}
use Rattle.x86_forms.specs.declared.instr.Base.{Base}
use Rattle.x86_forms.specs.declared.instr.Base.TheVariants.{None as NoBase, Reg as BaseReg, Rip}
use Rattle.x86_forms.specs.declared.instr.Rm.{Rm}
use Rattle.x86_forms.specs.declared.instr.Rm.TheVariants.{Reg as InReg, Mem as InMem}
use Rattle.x86_forms.specs.declared.instr.Instr.TheVariants.{MovTo, MovFrom, MovMemImm, MovImm, Movsxd, Movzx, Movsx, Lea, AluTo, AluFrom, AluImm, Test, Imul, One, Wide, ShiftCl, ShiftImm, Set, Push, Pop, CallRel, JmpRel, CallRm, JmpRm, Jcc, Ret, Syscall, Ud2, Nop, Bndmk, Bndcl, Bndcu, Bndcn, BndmovTo, BndmovFrom, Bndldx, Bndstx}
use Rattle.x86_forms.specs.Fits.{fits_8, fits_16, fits_32, fits_64, fits_count}

abbrev pub reg_ok : Reg → Bool
reg_ok r = nat_lt r.0 16

abbrev pub scale_ok : ℕ → Bool
scale_ok s = nat_eq s 1 || nat_eq s 2 || nat_eq s 4 || nat_eq s 8

-- rsp is never an index
abbrev pub index_ok : Option (Reg × ℕ) → Bool
index_ok None = true
index_ok (Some x) = nat_lt x.0.0 16 && not (nat_eq x.0.0 4) && scale_ok x.1

-- rip takes no index
abbrev pub base_ok : Base → Option (Reg × ℕ) → Bool
base_ok NoBase x = true
base_ok (BaseReg r) x = nat_lt r.0 16
base_ok Rip None = true
base_ok Rip (Some x) = false

abbrev pub mem_ok : Mem → Bool
mem_ok m = base_ok m.base m.index && index_ok m.index && fits_32 m.disp

abbrev pub rm_ok : Rm → Bool
rm_ok (InReg r) = nat_lt r.0 16
rm_ok (InMem m) = mem_ok m

-- the register is a bounds register's number
abbrev pub bnd_rm_ok : Rm → Bool
bnd_rm_ok (InReg r) = nat_lt r.0 4
bnd_rm_ok (InMem m) = mem_ok m

abbrev pub bnd_ok : ℕ → Bool
bnd_ok b = nat_lt b 4

-- RIP-relative addressing is #UD for BNDMK, BNDLDX and BNDSTX (SDM volume 2, their pages)
abbrev pub is_not_rip : Base → Bool
is_not_rip NoBase = true
is_not_rip (BaseReg r) = true
is_not_rip Rip = false

-- BNDLDX and BNDSTX have a base register here
abbrev pub has_base_reg : Base → Bool
has_base_reg NoBase = false
has_base_reg (BaseReg r) = true
has_base_reg Rip = false

-- 32 or 64 bits
abbrev pub word_ok : ℕ → Bool
word_ok w = nat_eq w 32 || nat_eq w 64

-- 8, 16, 32 or 64 bits
abbrev pub width_ok : ℕ → Bool
width_ok w = nat_eq w 8 || nat_eq w 16 || nat_eq w 32 || nat_eq w 64

-- 8 or 16 bits
abbrev pub narrow_ok : ℕ → Bool
narrow_ok w = nat_eq w 8 || nat_eq w 16

-- a condition's code; 10 and 11 ask for the parity flag, which isn't kept
abbrev pub condition_ok : ℕ → Bool
condition_ok n = nat_lt n 16 && not (nat_eq n 10) && not (nat_eq n 11)

abbrev pub imm_ok : ℕ → ℤ → Bool
imm_ok w imm = if nat_eq w 8 then fits_8 imm else if nat_eq w 16 then fits_16 imm else fits_32 imm

abbrev pub mov_imm_ok : ℕ → ℤ → Bool
mov_imm_ok w imm = if nat_eq w 32 then fits_32 imm else fits_64 imm

abbrev pub valid_of : Instr → Bool
valid_of (MovTo w r rm) = width_ok w && reg_ok r && rm_ok rm
valid_of (MovFrom w r m) = width_ok w && reg_ok r && mem_ok m
valid_of (MovMemImm w m imm) = width_ok w && mem_ok m && imm_ok w imm
valid_of (MovImm w r imm) = word_ok w && reg_ok r && mov_imm_ok w imm
valid_of (Movsxd r rm) = reg_ok r && rm_ok rm
valid_of (Movzx from r rm) = narrow_ok from && reg_ok r && rm_ok rm
valid_of (Movsx w from r rm) = word_ok w && narrow_ok from && reg_ok r && rm_ok rm
valid_of (Lea r m) = reg_ok r && mem_ok m
valid_of (AluTo op w r rm) = nat_lt op 6 && word_ok w && reg_ok r && rm_ok rm
valid_of (AluFrom op w r m) = nat_lt op 6 && word_ok w && reg_ok r && mem_ok m
valid_of (AluImm op w rm imm) = nat_lt op 6 && word_ok w && rm_ok rm && fits_32 imm
valid_of (Test w r rm) = word_ok w && reg_ok r && rm_ok rm
valid_of (Imul w r rm) = word_ok w && reg_ok r && rm_ok rm
valid_of (One op w rm) = nat_lt op 4 && word_ok w && rm_ok rm
valid_of (Wide w) = word_ok w
valid_of (ShiftCl op w rm) = nat_lt op 3 && word_ok w && rm_ok rm
valid_of (ShiftImm op w rm imm) = nat_lt op 3 && word_ok w && rm_ok rm && fits_count imm
valid_of (Set op rm) = condition_ok op && rm_ok rm
valid_of (Push r) = reg_ok r
valid_of (Pop r) = reg_ok r
valid_of (CallRel prefixed rel) = fits_32 rel
valid_of (JmpRel prefixed rel) = fits_32 rel
valid_of (CallRm prefixed rm) = rm_ok rm
valid_of (JmpRm prefixed rm) = rm_ok rm
valid_of (Jcc prefixed op rel) = condition_ok op && fits_32 rel
valid_of (Ret prefixed) = true
valid_of Syscall = true
valid_of Ud2 = true
valid_of Nop = true
valid_of (Bndmk b m) = bnd_ok b && mem_ok m && is_not_rip m.base
valid_of (Bndcl b rm) = bnd_ok b && rm_ok rm
valid_of (Bndcu b rm) = bnd_ok b && rm_ok rm
valid_of (Bndcn b rm) = bnd_ok b && rm_ok rm
valid_of (BndmovTo b m) = bnd_ok b && mem_ok m
valid_of (BndmovFrom b rm) = bnd_ok b && bnd_rm_ok rm
valid_of (Bndldx b m) = bnd_ok b && mem_ok m && has_base_reg m.base
valid_of (Bndstx b m) = bnd_ok b && mem_ok m && has_base_reg m.base
