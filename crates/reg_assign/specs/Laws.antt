-- What the law of homes says.
use Rattle.std.specs.Prelude.{◌≡◌, ℕ, ◌≤◌}
use Rattle.fat_ir.specs.declared.program.FatFun.{FatFun}
use Rattle.step_code.specs.Steps.{Plan}
use Rattle.reg_assign.specs.declared.homes.Homes.{Homes}
use Rattle.reg_assign.specs.Homes.{is_bounds_in, home_in}

-- a plan has these homes, in a frame with room for them
pub record HasHomes (f : FatFun) (h : Homes) (units : ℕ) (p : Plan) : Type 0 where
  pub room : h.words ≤ units
  pub home : (v : ℕ) → p.home v ≡ home_in h.homes v
  pub is_bounds : (v : ℕ) → p.is_bounds v ≡ is_bounds_in f v
