-- Calls and jumps through an operand, and the instructions on bounds, are read again from their spellings.
use Rattle.std.proofs.Common.{◌≡◌, ◌<◌, IsTrue, true, false, Bool, ℕ, arith, nat_eq, pos, refl}
use Rattle.std.specs.Prelude.{◌&&◌, ◌||◌}
use Rattle.std.proofs.lemmas.Bool.{and_parts, ltb-true}
use Rattle.std.proofs.lemmas.Grind.{common_steps}
use Rattle.x86_forms.specs.declared.instr.Instr.TheVariants as i
use Rattle.x86_forms.specs.declared.instr.Mem.{Mem}
use Rattle.x86_forms.specs.declared.instr.Base.{Base}
use Rattle.x86_forms.specs.declared.instr.Base.TheVariants.{None as NoBase, Reg as BaseReg, Rip}
use Rattle.x86_forms.specs.declared.instr.Rm.{Rm}
use Rattle.x86_forms.specs.declared.instr.Rm.TheVariants.{Reg as InReg, Mem as InMem}
use Rattle.x86_forms.specs.Validity.{valid_of, rm_ok, mem_ok, bnd_ok, bnd_rm_ok, is_not_rip, has_base_reg}
use Rattle.x86_decode.specs.declared.rows.Row.{Row}
use Rattle.x86_decode.specs.declared.rows.Row.TheVariants.{Ff, Bndmk, Bndcl, Bndcu, Bndcn, BndmovTo, BndmovFrom, Bndldx, Bndstx}
use Rattle.x86_decode.specs.Rows.{row_of, one_plain, two_plain, one_f2, two_f2, two_f3, two_66, build, imm_len, is_bare, is_in_opcode, takes, takes_reg, low_in_reg, low_in_rm, allows_rip, allows_no_base}
use Rattle.x86_decode.proofs.ReadForms.{ReadsAgain, read_plain, read_f2, read_f3, read_66_bnd, any_rm, any_base, takes_digit}
use Rattle.x86_decode.proofs.ReadImm.{imm_0}
use Rattle.x86_decode.proofs.ReadOperands.{rm_form, base_form}
use Rattle.x86_decode.proofs.ReadRex.{Takes}

takes-Ff : (b : Bool) (g : ℕ) (rm : Rm) → (nat_eq g 2 || nat_eq g 4) ≡ true → IsTrue (rm_ok rm) → Takes (Ff b) g rm
unfolding is_bare is_in_opcode takes takes_reg allows_rip allows_no_base
takes-Ff b g rm h k = takes_digit (Ff b) g rm refl refl (grind (arith, common_steps)) (any_rm (Ff b) rm (λ r. refl) refl refl) (grind (arith, common_steps)) k

call_rm : (b : Bool) (rm : Rm) → IsTrue (rm_ok rm) → ReadsAgain (i.CallRm b rm)
unfolding row_of one_plain one_f2 build imm_len low_in_reg low_in_rm
call_rm true rm k = read_f2 false 0xFF (Ff true) 2 rm 0 (pos 0) refl refl (takes-Ff true 2 rm refl k) refl (omega arith) (λ d. imm_0 d (Ff true) 2 rm refl)
call_rm false rm k = read_plain false false 0xFF (Ff false) 2 rm 0 (pos 0) refl refl (takes-Ff false 2 rm refl k) (λ d. imm_0 d (Ff false) 2 rm refl)

pub again-CallRm : (b : Bool) (rm : Rm) → IsTrue (valid_of (i.CallRm b rm)) → ReadsAgain (i.CallRm b rm)
again-CallRm b rm v = call_rm b rm v

jmp_rm : (b : Bool) (rm : Rm) → IsTrue (rm_ok rm) → ReadsAgain (i.JmpRm b rm)
unfolding row_of one_plain one_f2 build imm_len low_in_reg low_in_rm
jmp_rm true rm k = read_f2 false 0xFF (Ff true) 4 rm 0 (pos 0) refl refl (takes-Ff true 4 rm refl k) refl (omega arith) (λ d. imm_0 d (Ff true) 4 rm refl)
jmp_rm false rm k = read_plain false false 0xFF (Ff false) 4 rm 0 (pos 0) refl refl (takes-Ff false 4 rm refl k) (λ d. imm_0 d (Ff false) 4 rm refl)

pub again-JmpRm : (b : Bool) (rm : Rm) → IsTrue (valid_of (i.JmpRm b rm)) → ReadsAgain (i.JmpRm b rm)
again-JmpRm b rm v = jmp_rm b rm v

-- BNDMK takes memory that is not relative to rip
base-Bndmk : (b : Base) → IsTrue (is_not_rip b) → base_form Bndmk b ≡ true
unfolding allows_rip allows_no_base
base-Bndmk NoBase h = refl
base-Bndmk (BaseReg r) h = refl
base-Bndmk Rip h = absurd (cc)

takes-Bndmk : (b : ℕ) (m : Mem) → b < 4 → IsTrue (mem_ok m) → IsTrue (is_not_rip m.base) → Takes Bndmk b (InMem m)
unfolding is_bare is_in_opcode takes
takes-Bndmk b m h k n = takes_digit Bndmk b (InMem m) refl refl (grind (arith, common_steps)) (base-Bndmk m.base n) (omega arith) k

bndmk : (b : ℕ) (m : Mem) → b < 4 → IsTrue (mem_ok m) → IsTrue (is_not_rip m.base) → ReadsAgain (i.Bndmk b m)
unfolding row_of two_f3 build imm_len low_in_reg low_in_rm
bndmk b m h k n = read_f3 0x1B Bndmk b (InMem m) 0 (pos 0) refl (takes-Bndmk b m h k n) refl (omega arith) (λ d. imm_0 d Bndmk b (InMem m) refl)

pub again-Bndmk : (b : ℕ) (m : Mem) → IsTrue (valid_of (i.Bndmk b m)) → ReadsAgain (i.Bndmk b m)
again-Bndmk b m v =
    let k = and_parts (bnd_ok b && mem_ok m) (is_not_rip m.base) v in let l = and_parts (bnd_ok b) (mem_ok m) k.0 in bndmk b m (ltb-true _ _ l.0) l.1 k.1

takes-Bndcl : (b : ℕ) (rm : Rm) → b < 4 → IsTrue (rm_ok rm) → Takes Bndcl b rm
unfolding is_bare is_in_opcode takes takes_reg allows_rip allows_no_base
takes-Bndcl b rm h k = takes_digit Bndcl b rm refl refl (grind (arith, common_steps)) (any_rm Bndcl rm (λ r. refl) refl refl) (omega arith) k

bndcl : (b : ℕ) (rm : Rm) → b < 4 → IsTrue (rm_ok rm) → ReadsAgain (i.Bndcl b rm)
unfolding row_of two_f3 build imm_len low_in_reg low_in_rm
bndcl b rm h k = read_f3 0x1A Bndcl b rm 0 (pos 0) refl (takes-Bndcl b rm h k) refl (omega arith) (λ d. imm_0 d Bndcl b rm refl)

pub again-Bndcl : (b : ℕ) (rm : Rm) → IsTrue (valid_of (i.Bndcl b rm)) → ReadsAgain (i.Bndcl b rm)
again-Bndcl b rm v = let l = and_parts (bnd_ok b) (rm_ok rm) v in bndcl b rm (ltb-true _ _ l.0) l.1

takes-Bndcu : (b : ℕ) (rm : Rm) → b < 4 → IsTrue (rm_ok rm) → Takes Bndcu b rm
unfolding is_bare is_in_opcode takes takes_reg allows_rip allows_no_base
takes-Bndcu b rm h k = takes_digit Bndcu b rm refl refl (grind (arith, common_steps)) (any_rm Bndcu rm (λ r. refl) refl refl) (omega arith) k

bndcu : (b : ℕ) (rm : Rm) → b < 4 → IsTrue (rm_ok rm) → ReadsAgain (i.Bndcu b rm)
unfolding row_of two_f2 build imm_len low_in_reg low_in_rm
bndcu b rm h k = read_f2 true 0x1A Bndcu b rm 0 (pos 0) refl refl (takes-Bndcu b rm h k) refl (omega arith) (λ d. imm_0 d Bndcu b rm refl)

pub again-Bndcu : (b : ℕ) (rm : Rm) → IsTrue (valid_of (i.Bndcu b rm)) → ReadsAgain (i.Bndcu b rm)
again-Bndcu b rm v = let l = and_parts (bnd_ok b) (rm_ok rm) v in bndcu b rm (ltb-true _ _ l.0) l.1

takes-Bndcn : (b : ℕ) (rm : Rm) → b < 4 → IsTrue (rm_ok rm) → Takes Bndcn b rm
unfolding is_bare is_in_opcode takes takes_reg allows_rip allows_no_base
takes-Bndcn b rm h k = takes_digit Bndcn b rm refl refl (grind (arith, common_steps)) (any_rm Bndcn rm (λ r. refl) refl refl) (omega arith) k

bndcn : (b : ℕ) (rm : Rm) → b < 4 → IsTrue (rm_ok rm) → ReadsAgain (i.Bndcn b rm)
unfolding row_of two_f2 build imm_len low_in_reg low_in_rm
bndcn b rm h k = read_f2 true 0x1B Bndcn b rm 0 (pos 0) refl refl (takes-Bndcn b rm h k) refl (omega arith) (λ d. imm_0 d Bndcn b rm refl)

pub again-Bndcn : (b : ℕ) (rm : Rm) → IsTrue (valid_of (i.Bndcn b rm)) → ReadsAgain (i.Bndcn b rm)
again-Bndcn b rm v = let l = and_parts (bnd_ok b) (rm_ok rm) v in bndcn b rm (ltb-true _ _ l.0) l.1

-- BNDMOV to memory
takes-BndmovTo : (b : ℕ) (m : Mem) → b < 4 → IsTrue (mem_ok m) → Takes BndmovTo b (InMem m)
unfolding is_bare is_in_opcode takes allows_rip allows_no_base
takes-BndmovTo b m h k = takes_digit BndmovTo b (InMem m) refl refl (grind (arith, common_steps)) (any_base BndmovTo m.base refl refl) (omega arith) k

bndmov_to : (b : ℕ) (m : Mem) → b < 4 → IsTrue (mem_ok m) → ReadsAgain (i.BndmovTo b m)
unfolding row_of two_66 build imm_len low_in_reg low_in_rm
bndmov_to b m h k = read_66_bnd 0x1B BndmovTo b (InMem m) 0 (pos 0) refl (takes-BndmovTo b m h k) refl (omega arith) (λ d. imm_0 d BndmovTo b (InMem m) refl)

pub again-BndmovTo : (b : ℕ) (m : Mem) → IsTrue (valid_of (i.BndmovTo b m)) → ReadsAgain (i.BndmovTo b m)
again-BndmovTo b m v = let l = and_parts (bnd_ok b) (mem_ok m) v in bndmov_to b m (ltb-true _ _ l.0) l.1

-- BNDMOV from memory or from a bounds register
rm-BndmovFrom : (rm : Rm) → IsTrue (bnd_rm_ok rm) → rm_form BndmovFrom rm ≡ true
unfolding takes_reg allows_rip allows_no_base
rm-BndmovFrom (InReg r) h = h
rm-BndmovFrom (InMem m) h = any_base BndmovFrom m.base refl refl

bnd_rm_ok-rm_ok : (rm : Rm) → IsTrue (bnd_rm_ok rm) → IsTrue (rm_ok rm)
bnd_rm_ok-rm_ok (InReg r) h = grind (arith, common_steps)
bnd_rm_ok-rm_ok (InMem m) h = h

takes-BndmovFrom : (b : ℕ) (rm : Rm) → b < 4 → IsTrue (bnd_rm_ok rm) → Takes BndmovFrom b rm
unfolding is_bare is_in_opcode takes
takes-BndmovFrom b rm h k = takes_digit BndmovFrom b rm refl refl (grind (arith, common_steps)) (rm-BndmovFrom rm k) (omega arith) (bnd_rm_ok-rm_ok rm k)

bndmov_from : (b : ℕ) (rm : Rm) → b < 4 → IsTrue (bnd_rm_ok rm) → ReadsAgain (i.BndmovFrom b rm)
unfolding row_of two_66 build imm_len low_in_reg low_in_rm
bndmov_from b rm h k = read_66_bnd 0x1A BndmovFrom b rm 0 (pos 0) refl (takes-BndmovFrom b rm h k) refl (omega arith) (λ d. imm_0 d BndmovFrom b rm refl)

pub again-BndmovFrom : (b : ℕ) (rm : Rm) → IsTrue (valid_of (i.BndmovFrom b rm)) → ReadsAgain (i.BndmovFrom b rm)
again-BndmovFrom b rm v = let l = and_parts (bnd_ok b) (bnd_rm_ok rm) v in bndmov_from b rm (ltb-true _ _ l.0) l.1

-- BNDLDX and BNDSTX take memory over a base register
base_reg : (row : Row) (b : Base) → IsTrue (has_base_reg b) → base_form row b ≡ true
base_reg row NoBase h = absurd (cc)
base_reg row (BaseReg r) h = refl
base_reg row Rip h = absurd (cc)

takes-Bndldx : (b : ℕ) (m : Mem) → b < 4 → IsTrue (mem_ok m) → IsTrue (has_base_reg m.base) → Takes Bndldx b (InMem m)
unfolding is_bare is_in_opcode takes
takes-Bndldx b m h k n = takes_digit Bndldx b (InMem m) refl refl (grind (arith, common_steps)) (base_reg Bndldx m.base n) (omega arith) k

bndldx : (b : ℕ) (m : Mem) → b < 4 → IsTrue (mem_ok m) → IsTrue (has_base_reg m.base) → ReadsAgain (i.Bndldx b m)
unfolding row_of two_plain build imm_len low_in_reg low_in_rm
bndldx b m h k n = read_plain false true 0x1A Bndldx b (InMem m) 0 (pos 0) refl refl (takes-Bndldx b m h k n) (λ d. imm_0 d Bndldx b (InMem m) refl)

pub again-Bndldx : (b : ℕ) (m : Mem) → IsTrue (valid_of (i.Bndldx b m)) → ReadsAgain (i.Bndldx b m)
again-Bndldx b m v =
    let k = and_parts (bnd_ok b && mem_ok m) (has_base_reg m.base) v in let l = and_parts (bnd_ok b) (mem_ok m) k.0 in bndldx b m (ltb-true _ _ l.0) l.1 k.1

takes-Bndstx : (b : ℕ) (m : Mem) → b < 4 → IsTrue (mem_ok m) → IsTrue (has_base_reg m.base) → Takes Bndstx b (InMem m)
unfolding is_bare is_in_opcode takes
takes-Bndstx b m h k n = takes_digit Bndstx b (InMem m) refl refl (grind (arith, common_steps)) (base_reg Bndstx m.base n) (omega arith) k

bndstx : (b : ℕ) (m : Mem) → b < 4 → IsTrue (mem_ok m) → IsTrue (has_base_reg m.base) → ReadsAgain (i.Bndstx b m)
unfolding row_of two_plain build imm_len low_in_reg low_in_rm
bndstx b m h k n = read_plain false true 0x1B Bndstx b (InMem m) 0 (pos 0) refl refl (takes-Bndstx b m h k n) (λ d. imm_0 d Bndstx b (InMem m) refl)

pub again-Bndstx : (b : ℕ) (m : Mem) → IsTrue (valid_of (i.Bndstx b m)) → ReadsAgain (i.Bndstx b m)
again-Bndstx b m v =
    let k = and_parts (bnd_ok b && mem_ok m) (has_base_reg m.base) v in let l = and_parts (bnd_ok b) (mem_ok m) k.0 in bndstx b m (ltb-true _ _ l.0) l.1 k.1
