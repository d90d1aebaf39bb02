-- A plan with homes that are assigned, in a frame with four words more than homes have.
use Rattle.std.specs.Prelude.{◌≡◌, ◌+◌}
use Rattle.fat_ir.specs.declared.program.FatFun.{FatFun}
use Rattle.step_code.specs.Steps.{Plan}
use Rattle.reg_assign.specs.declared.homes.Homes.{Homes}
use Rattle.reg_assign.specs.Laws.{HasHomes}

pub record HasSpare (f : FatFun) (h : Homes) (p : Plan) : Type 0 where
  pub has : HasHomes f h (h.words + 4) p
  pub spare : p.spare ≡ h.words
