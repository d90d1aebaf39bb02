-- The parts of a valid instruction can be written: they need at most fifteen bytes, and no byte wraps.
use Rattle.std.proofs.Common.{rules, ◌≤◌, ◌<◌, IsTrue, true, false, Bool, ℕ, arith, ℤ}
use Rattle.std.proofs.lemmas.Bool.{cond_both}
use Rattle.std.proofs.lemmas.Grind.{common_steps}
use Rattle.x86_forms.specs.declared.instr.Instr.{Instr}
use Rattle.x86_forms.specs.declared.instr.Rm.{Rm}
use Rattle.x86_forms.specs.declared.instr.Rm.TheVariants.{Reg as InReg, Mem as InMem}
use Rattle.x86_forms.specs.declared.layout.Operands.TheVariants.{Bare, InOpcode, InModrm}
use Rattle.x86_forms.specs.declared.instr.Instr.TheVariants.{MovTo, MovFrom, MovMemImm, MovImm, Movsxd, Movzx, Movsx, Lea, AluTo, AluFrom, AluImm, Test, Imul, One, Wide, ShiftCl, ShiftImm, Set, Push, Pop, CallRel, JmpRel, CallRm, JmpRm, Jcc, Ret, Syscall, Ud2, Nop, Bndmk, Bndcl, Bndcu, Bndcn, BndmovTo, BndmovFrom, Bndldx, Bndstx}
use Rattle.x86_forms.specs.Fits.{fits_8, fits_32}
use Rattle.x86_forms.specs.Layout.{layout_of, is_wide, alu_digit, mov_imm_len}
use Rattle.x86_forms.specs.Spelling.{rex_bits, high_bits}
use Rattle.x86_forms.specs.Validity.{valid_of, bnd_rm_ok, rm_ok}
use Rattle.x86_forms.proofs.RexBits.{rex_bits-lt}
use Rattle.x86_forms.specs.Room.{IsWritable}

pub writable_in_modrm : (p : ℕ) (w t : Bool) (op reg : ℕ) (a : Bool) (rm : Rm) (b : Bool) (n : ℕ) (imm : ℤ) → n ≤ 4 → reg < 16 → IsTrue (rm_ok rm) → IsWritable (record { prefix = p; wide = w; escape = t; opcode = op; operands = InModrm reg a rm b; imm = imm; imm_len = n })
writable_in_modrm p w t op reg a rm b n imm small h k = record { room = omega arith; opcode = search rules; rex = rex_bits-lt w reg a rm b h k; imm = omega arith }

pub writable_in_opcode : (p : ℕ) (w t : Bool) (op r : ℕ) (n : ℕ) (imm : ℤ) → n ≤ 8 → op < 249 → r < 16 → IsWritable (record { prefix = p; wide = w; escape = t; opcode = op; operands = InOpcode r; imm = imm; imm_len = n })
unfolding rex_bits high_bits
writable_in_opcode p true t op r n imm small o h = record { room = omega arith; opcode = grind (arith, common_steps); rex = omega arith; imm = omega arith }
writable_in_opcode p false t op r n imm small o h = record { room = omega arith; opcode = grind (arith, common_steps); rex = omega arith; imm = omega arith }

pub writable_bare : (p : ℕ) (w t : Bool) (op : ℕ) (n : ℕ) (imm : ℤ) → n ≤ 8 → IsWritable (record { prefix = p; wide = w; escape = t; opcode = op; operands = Bare; imm = imm; imm_len = n })
unfolding rex_bits high_bits
writable_bare p true t op n imm h = record { room = omega arith; opcode = search rules; rex = omega arith; imm = omega arith }
writable_bare p false t op n imm h = record { room = omega arith; opcode = search rules; rex = omega arith; imm = omega arith }

mov_imm_len-le : (w : ℕ) → mov_imm_len w ≤ 4
mov_imm_len-le w = grind (arith, common_steps)

alu_digit-lt : (op : ℕ) → alu_digit op < 8
alu_digit-lt op = grind (arith, common_steps)

bnd_rm_ok-rm_ok : (rm : Rm) → IsTrue (bnd_rm_ok rm) → IsTrue (rm_ok rm)
bnd_rm_ok-rm_ok (InReg r) h = grind (arith, common_steps)
bnd_rm_ok-rm_ok (InMem m) h = h

pub layout_of-IsWritable : (i : Instr) → IsTrue (valid_of i) → IsWritable (layout_of i)
layout_of-IsWritable (MovTo w r rm) h = writable_in_modrm _ _ _ _ _ _ _ _ _ _ (omega arith) (grind (arith, common_steps)) (grind (arith, common_steps))
layout_of-IsWritable (MovFrom w r m) h = writable_in_modrm _ _ _ _ _ _ _ _ _ _ (omega arith) (grind (arith, common_steps)) (grind (arith, common_steps))
layout_of-IsWritable (Movsxd r rm) h = writable_in_modrm _ _ _ _ _ _ _ _ _ _ (omega arith) (grind (arith, common_steps)) (grind (arith, common_steps))
layout_of-IsWritable (Movzx from r rm) h = writable_in_modrm _ _ _ _ _ _ _ _ _ _ (omega arith) (grind (arith, common_steps)) (grind (arith, common_steps))
layout_of-IsWritable (Movsx w from r rm) h = writable_in_modrm _ _ _ _ _ _ _ _ _ _ (omega arith) (grind (arith, common_steps)) (grind (arith, common_steps))
layout_of-IsWritable (Lea r m) h = writable_in_modrm _ _ _ _ _ _ _ _ _ _ (omega arith) (grind (arith, common_steps)) (grind (arith, common_steps))
layout_of-IsWritable (AluTo op w r rm) h = writable_in_modrm _ _ _ _ _ _ _ _ _ _ (omega arith) (grind (arith, common_steps)) (grind (arith, common_steps))
layout_of-IsWritable (AluFrom op w r m) h = writable_in_modrm _ _ _ _ _ _ _ _ _ _ (omega arith) (grind (arith, common_steps)) (grind (arith, common_steps))
layout_of-IsWritable (Test w r rm) h = writable_in_modrm _ _ _ _ _ _ _ _ _ _ (omega arith) (grind (arith, common_steps)) (grind (arith, common_steps))
layout_of-IsWritable (Imul w r rm) h = writable_in_modrm _ _ _ _ _ _ _ _ _ _ (omega arith) (grind (arith, common_steps)) (grind (arith, common_steps))
layout_of-IsWritable (CallRm b rm) h = writable_in_modrm _ _ _ _ _ _ _ _ _ _ (omega arith) (grind (arith, common_steps)) (grind (arith, common_steps))
layout_of-IsWritable (JmpRm b rm) h = writable_in_modrm _ _ _ _ _ _ _ _ _ _ (omega arith) (grind (arith, common_steps)) (grind (arith, common_steps))
layout_of-IsWritable (Set c rm) h = writable_in_modrm _ _ _ _ _ _ _ _ _ _ (omega arith) (grind (arith, common_steps)) (grind (arith, common_steps))
layout_of-IsWritable (Bndmk b m) h = writable_in_modrm _ _ _ _ _ _ _ _ _ _ (omega arith) (grind (arith, common_steps)) (grind (arith, common_steps))
layout_of-IsWritable (Bndcl b rm) h = writable_in_modrm _ _ _ _ _ _ _ _ _ _ (omega arith) (grind (arith, common_steps)) (grind (arith, common_steps))
layout_of-IsWritable (Bndcu b rm) h = writable_in_modrm _ _ _ _ _ _ _ _ _ _ (omega arith) (grind (arith, common_steps)) (grind (arith, common_steps))
layout_of-IsWritable (Bndcn b rm) h = writable_in_modrm _ _ _ _ _ _ _ _ _ _ (omega arith) (grind (arith, common_steps)) (grind (arith, common_steps))
layout_of-IsWritable (BndmovTo b m) h = writable_in_modrm _ _ _ _ _ _ _ _ _ _ (omega arith) (grind (arith, common_steps)) (grind (arith, common_steps))
layout_of-IsWritable (Bndldx b m) h = writable_in_modrm _ _ _ _ _ _ _ _ _ _ (omega arith) (grind (arith, common_steps)) (grind (arith, common_steps))
layout_of-IsWritable (Bndstx b m) h = writable_in_modrm _ _ _ _ _ _ _ _ _ _ (omega arith) (grind (arith, common_steps)) (grind (arith, common_steps))
layout_of-IsWritable (One op w rm) h = writable_in_modrm _ _ _ _ _ _ _ _ _ _ (omega arith) (grind (arith, common_steps)) (grind (arith, common_steps))
layout_of-IsWritable (ShiftCl op w rm) h = writable_in_modrm _ _ _ _ _ _ _ _ _ _ (omega arith) (grind (arith, common_steps)) (grind (arith, common_steps))
layout_of-IsWritable (ShiftImm op w rm imm) h = writable_in_modrm _ _ _ _ _ _ _ _ _ _ (omega arith) (grind (arith, common_steps)) (grind (arith, common_steps))
layout_of-IsWritable (BndmovFrom b rm) h = writable_in_modrm _ _ _ _ _ _ rm _ _ _ (omega arith) (grind (arith, common_steps)) (bnd_rm_ok-rm_ok rm (grind (arith, common_steps)))
layout_of-IsWritable (MovMemImm w m imm) h = writable_in_modrm _ _ _ _ _ _ _ _ _ _ (mov_imm_len-le w) (grind (arith, common_steps)) (grind (arith, common_steps))
layout_of-IsWritable (MovImm w r imm) h =
    cond_both (is_wide w) _ _ (λ l. IsWritable l)
    (λ e. cond_both (fits_32 imm) _ _ (λ l. IsWritable l)
    (λ f. writable_in_modrm _ _ _ _ _ _ (InReg r) _ _ _ (omega arith) (omega arith) (grind (arith, common_steps)))
    (λ f. writable_in_opcode _ _ _ _ _ _ _ (omega arith) (omega arith) (grind (arith, common_steps))))
    (λ e. writable_in_opcode _ _ _ _ _ _ _ (omega arith) (omega arith) (grind (arith, common_steps)))
layout_of-IsWritable (AluImm op w rm imm) h =
    cond_both (fits_8 imm) _ _ (λ l. IsWritable l)
    (λ f. writable_in_modrm _ _ _ _ _ _ _ _ _ _ (omega arith) (omega (arith, alu_digit-lt op)) (grind (arith, common_steps)))
    (λ f. writable_in_modrm _ _ _ _ _ _ _ _ _ _ (omega arith) (omega (arith, alu_digit-lt op)) (grind (arith, common_steps)))
layout_of-IsWritable (Push r) h = writable_in_opcode _ _ _ _ _ _ _ (omega arith) (omega arith) (grind (arith, common_steps))
layout_of-IsWritable (Pop r) h = writable_in_opcode _ _ _ _ _ _ _ (omega arith) (omega arith) (grind (arith, common_steps))
layout_of-IsWritable (Wide w) h = writable_bare _ _ _ _ _ _ (omega arith)
layout_of-IsWritable (CallRel b rel) h = writable_bare _ _ _ _ _ _ (omega arith)
layout_of-IsWritable (JmpRel b rel) h = writable_bare _ _ _ _ _ _ (omega arith)
layout_of-IsWritable (Jcc b c rel) h = writable_bare _ _ _ _ _ _ (omega arith)
layout_of-IsWritable (Ret b) h = writable_bare _ _ _ _ _ _ (omega arith)
layout_of-IsWritable Syscall h = writable_bare _ _ _ _ _ _ (omega arith)
layout_of-IsWritable Ud2 h = writable_bare _ _ _ _ _ _ (omega arith)
layout_of-IsWritable Nop h = writable_bare _ _ _ _ _ _ (omega arith)
