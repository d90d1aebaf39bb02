-- Small functions of fat steps, and the wishes of their parameters.
use Rattle.std.specs.Prelude.{false, true, None, Some, [], ◌∷◌}
use Rattle.mx_base.specs.declared.numbers.IntKind.TheVariants.{I32}
use Rattle.mx_base.specs.declared.operators.Arithmetic.TheVariants.{Add}
use Rattle.fat_ir.specs.declared.program.FatFun.{FatFun}
use Rattle.fat_ir.specs.declared.step.FatStep.TheVariants as s
use Rattle.reg_assign.specs.declared.wishes.Wishes.{Wishes}

abbrev pub calling : FatFun
calling = record {
  name = 0;
  private = 3;
  arrived = 0;
  temps = 0;
  bounds = false ∷ false ∷ false ∷ [];
  frame = 0;
  steps = s.Copy 2 1 ∷ s.Call 0 [] None None ∷ s.Give (Some 0) None ∷ [];
}

abbrev pub adding : FatFun
adding = record {
  name = 0;
  private = 4;
  arrived = 0;
  temps = 1;
  bounds = false ∷ true ∷ false ∷ false ∷ false ∷ [];
  frame = 0;
  steps = s.Label 1 ∷ s.Judge 0 4 1 false record { file = 0; line = 1; col = 1 } ∷ s.Load 0 4 I32 ∷ s.Arith 3 Add I32 3 4 ∷ s.JumpIf 3 1
      ∷ s.Give (Some 3) None ∷ [];
}

abbrev pub first_one : Wishes
first_one = record { numbers = 0 ∷ []; bounds = [] }

abbrev pub first_two : Wishes
first_two = record { numbers = 0 ∷ 1 ∷ []; bounds = [] }
