use Rattle.std.proofs.Common.{◌≡◌, ◌+◌, ◌*◌, ◌/◌, ◌%◌, IsTrue, true, false, ℕ, arith, nat_eq, refl}
use Rattle.std.specs.Prelude.{Option, Some, None, ◌&&◌, ◌||◌}
use Rattle.std.proofs.lemmas.Grind.{common_steps}
use Rattle.std.proofs.lemmas.Bool.{and_right}
use Rattle.x86_forms.specs.declared.instr.Reg.{Reg}
use Rattle.x86_forms.specs.declared.instr.Base.TheVariants.{None as NoBase, Rip}
use Rattle.x86_forms.specs.declared.instr.Rm.TheVariants.{Reg as InReg}
use Rattle.x86_forms.specs.Spelling.{scale_code, modrm, sib, is_low, index_high}
use Rattle.x86_forms.specs.Validity.{scale_ok, index_ok}
use Rattle.x86_decode.specs.declared.rows.Row.{Row}
use Rattle.x86_decode.specs.declared.states.Head.{Head}
use Rattle.x86_decode.specs.declared.states.State.TheVariants.{Sib}
use Rattle.x86_decode.specs.declared.states.Next.TheVariants.{Go}
use Rattle.x86_decode.specs.Rows.{takes, takes_reg, low_in_reg, low_in_rm, allows_rip, allows_no_base}
use Rattle.x86_decode.specs.Steps.{rex_r, rex_x, rex_b, low_agrees, done, over, modrm_reg, modrm_mem, modrm_step, sib_step, no_base, scale_of, sib_base, register}

-- the fields of a byte
pub modrm_mode : (m g r : ℕ) → modrm m g r / 64 ≡ m
unfolding modrm
modrm_mode m g r = omega arith

pub modrm_code : (m g r : ℕ) → modrm m g r / 8 % 8 ≡ g % 8
unfolding modrm
modrm_code m g r = omega arith

pub modrm_low : (m g r : ℕ) → modrm m g r % 8 ≡ r % 8
unfolding modrm
modrm_low m g r = omega arith

-- the REX bits and the row fit a register operand
pub record FitsReg (h : Head) (row : Row) (reg r : ℕ) : Type 0 where
  pub high : rex_r h.rex ≡ reg / 8
  pub index : rex_x h.rex ≡ 0
  pub base : rex_b h.rex ≡ r / 8
  pub code : takes row (reg % 8) ≡ true
  pub form : takes_reg row r ≡ true
  pub low : low_agrees h.rex ((low_in_reg row && is_low reg) || (low_in_rm row && is_low r)) ≡ true

field_back : (n b : ℕ) → b ≡ n / 8 → n % 8 + 8 * b ≡ n
field_back n b e = omega arith

pub step_reg : (h : Head) (row : Row) (reg r : ℕ) → FitsReg h row reg r → modrm_step h row (modrm 3 reg r) ≡ done h row reg (InReg (register r))
unfolding modrm_step modrm_reg
step_reg h row reg r f =
    simp (modrm_mode, modrm_code, modrm_low, f.code, f.index, f.form, field_back reg (rex_r h.rex) f.high, field_back r (rex_b h.rex) f.base, f.low)

-- the REX bits and the row fit a memory operand
pub record FitsMem (h : Head) (row : Row) (reg : ℕ) : Type 0 where
  pub high : rex_r h.rex ≡ reg / 8
  pub code : takes row (reg % 8) ≡ true
  pub low : low_agrees h.rex (low_in_reg row && is_low reg) ≡ true

-- over a base register, without SIB
pub step_plain : (h : Head) (row : Row) (reg m r : ℕ) → FitsMem h row reg → rex_x h.rex ≡ 0 → rex_b h.rex ≡ r / 8
    → nat_eq m 3 ≡ false → nat_eq (r % 8) 4 ≡ false → (nat_eq m 0 && nat_eq (r % 8) 5) ≡ false
    → modrm_step h row (modrm m reg r) ≡ over h row reg m r None
unfolding modrm_step modrm_mem
step_plain h row reg m r f x b n3 n4 n5 =
    simp (modrm_mode, modrm_code, modrm_low, f.code, n3, n4, n5, x, field_back reg (rex_r h.rex) f.high, field_back r (rex_b h.rex) b, f.low)

-- with SIB
pub step_to_sib : (h : Head) (row : Row) (reg m : ℕ) → FitsMem h row reg → nat_eq m 3 ≡ false
    → modrm_step h row (modrm m reg 4) ≡ Go (Sib h row (modrm m reg 4))
unfolding modrm_step modrm_mem
step_to_sib h row reg m f n3 =
    simp (modrm_mode, modrm_code, modrm_low, f.code, n3, field_back reg (rex_r h.rex) f.high, f.low)

-- rip
pub step_rip : (h : Head) (row : Row) (reg : ℕ) → FitsMem h row reg → rex_x h.rex ≡ 0 → rex_b h.rex ≡ 0 → allows_rip row ≡ true
    → modrm_step h row (modrm 0 reg 5) ≡ no_base h row reg Rip None
unfolding modrm_step modrm_mem
step_rip h row reg f x b a =
    simp (modrm_mode, modrm_code, modrm_low, f.code, x, b, a, field_back reg (rex_r h.rex) f.high, f.low)

sib_none_scale : (r : ℕ) → sib None r / 64 ≡ 0
unfolding sib
sib_none_scale r = omega arith

sib_none_index : (r : ℕ) → sib None r / 8 % 8 ≡ 4
unfolding sib
sib_none_index r = omega arith

sib_base_low : (x : Option (Reg × ℕ)) (r : ℕ) → sib x r % 8 ≡ r % 8
unfolding sib scale_code
sib_base_low None r = omega arith
sib_base_low (Some x) r = omega arith

sib_scale : (x : Reg × ℕ) (r : ℕ) → sib (Some x) r / 64 ≡ scale_code x.1
unfolding sib
sib_scale x r = omega arith

sib_index : (x : Reg × ℕ) (r : ℕ) → sib (Some x) r / 8 % 8 ≡ x.0.0 % 8
unfolding sib
sib_index x r = omega arith

scale_back : (s : ℕ) → IsTrue (scale_ok s) → scale_of (scale_code s) ≡ s
unfolding scale_code
scale_back s h = grind (arith, common_steps)

-- no index: SIB stands for a base whose low bits are 4
pub step_sib_none : (h : Head) (row : Row) (reg m r : ℕ) → rex_r h.rex ≡ reg / 8 → rex_x h.rex ≡ 0 → rex_b h.rex ≡ r / 8 → nat_eq (r % 8) 4 ≡ true → nat_eq (r % 8) 5 ≡ false
    → sib_step h row (modrm m reg 4) (sib None r) ≡ over h row reg m r None
unfolding sib_step sib_base
step_sib_none h row reg m r e x b n4 n5 =
    simp (sib_none_scale, sib_none_index, sib_base_low, modrm_mode, modrm_code, x, n4, n5, and_right (nat_eq m 0) false refl, field_back reg (rex_r h.rex) e, field_back r (rex_b h.rex) b)

-- an index over a base
pub step_sib_some : (h : Head) (row : Row) (reg m r : ℕ) (x : Reg × ℕ) → rex_r h.rex ≡ reg / 8 → rex_x h.rex ≡ x.0.0 / 8 → rex_b h.rex ≡ r / 8
    → nat_eq x.0.0 4 ≡ false → IsTrue (scale_ok x.1) → (nat_eq m 0 && nat_eq (r % 8) 5) ≡ false
    → sib_step h row (modrm m reg 4) (sib (Some x) r) ≡ over h row reg m r (Some x)
unfolding sib_step sib_base
step_sib_some h row reg m r x e i b n4 s n5 =
    simp (sib_scale, sib_index, sib_base_low, modrm_mode, modrm_code, n4, n5, field_back reg (rex_r h.rex) e, field_back x.0.0 (rex_x h.rex) i, field_back r (rex_b h.rex) b, scale_back x.1 s)

sib_no_base : (x : Option (Reg × ℕ)) → sib x 5 % 8 ≡ 5
sib_no_base x = sib_base_low x 5

-- no base
pub step_sib_no_base : (h : Head) (row : Row) (reg : ℕ) (x : Option (Reg × ℕ)) → rex_r h.rex ≡ reg / 8 → rex_x h.rex ≡ index_high x → rex_b h.rex ≡ 0 → allows_no_base row ≡ true → IsTrue (index_ok x)
    → sib_step h row (modrm 0 reg 4) (sib x 5) ≡ no_base h row reg NoBase x
unfolding sib_step sib_base index_high
step_sib_no_base h row reg None e i b a v =
    simp (sib_none_scale, sib_none_index, sib_no_base, modrm_mode, modrm_code, i, b, a, field_back reg (rex_r h.rex) e)
step_sib_no_base h row reg (Some x) e i b a v =
    let n4 : nat_eq x.0.0 4 ≡ false = grind (arith, common_steps) in
    let s : IsTrue (scale_ok x.1) = grind (arith, common_steps) in
    simp (sib_scale, sib_index, sib_no_base, modrm_mode, modrm_code, n4, b, a, field_back reg (rex_r h.rex) e, field_back x.0.0 (rex_x h.rex) i, scale_back x.1 s)
