-- The bits of REX fit it, where the operands are valid.
use Rattle.std.proofs.Common.{◌<◌, IsTrue, true, false, Bool, ℕ, arith}
use Rattle.std.specs.Prelude.{Option, Some, None}
use Rattle.std.proofs.lemmas.Grind.{common_steps}
use Rattle.x86_forms.specs.declared.instr.Reg.{Reg}
use Rattle.x86_forms.specs.declared.instr.Base.{Base}
use Rattle.x86_forms.specs.declared.instr.Base.TheVariants.{None as NoBase, Reg as BaseReg, Rip}
use Rattle.x86_forms.specs.declared.instr.Rm.{Rm}
use Rattle.x86_forms.specs.declared.instr.Rm.TheVariants.{Reg as InReg, Mem as InMem}
use Rattle.x86_forms.specs.declared.layout.Operands.TheVariants.{InModrm}
use Rattle.x86_forms.specs.Spelling.{rex_bits, high_bits, rm_high, index_high, base_high}
use Rattle.x86_forms.specs.Validity.{rm_ok, index_ok, base_ok}

pub index_high-lt : (x : Option (Reg × ℕ)) → IsTrue (index_ok x) → index_high x < 2
unfolding index_high
index_high-lt None h = omega arith
index_high-lt (Some x) h = grind (arith, common_steps)

pub base_high-lt : (b : Base) (x : Option (Reg × ℕ)) → IsTrue (base_ok b x) → base_high b < 2
unfolding base_high
base_high-lt NoBase x h = omega arith
base_high-lt (BaseReg r) x h = grind (arith, common_steps)
base_high-lt Rip x h = omega arith

pub rm_high-lt : (rm : Rm) → IsTrue (rm_ok rm) → rm_high rm < 4
unfolding rm_high
rm_high-lt (InReg r) h = grind (arith, common_steps)
rm_high-lt (InMem m) h = grind (arith, common_steps, index_high-lt, base_high-lt)

pub rex_bits-lt : (w : Bool) (reg : ℕ) (a : Bool) (rm : Rm) (b : Bool) → reg < 16 → IsTrue (rm_ok rm) → rex_bits w (InModrm reg a rm b) < 16
unfolding rex_bits high_bits
rex_bits-lt true reg a rm b h k = omega (arith, rm_high-lt rm k)
rex_bits-lt false reg a rm b h k = omega (arith, rm_high-lt rm k)
