-- Values in their homes.
use Rattle.gate_laws.specs.Moments.{Final}
use Rattle.code_laws.specs.Views.{View}
use Rattle.code_laws.specs.Seen.{Setting}
use Rattle.step_code.specs.Steps.{Plan}
use Rattle.step_code.specs.Homes.{Assigned}
use Rattle.code_laws.specs.Runs.{In, Leads}
use Rattle.std.specs.Prelude.{◌≡◌, ℕ, List}
use Rattle.fat_ir.specs.declared.step.FatStep.{FatStep}
use Rattle.fat_ir.specs.Values.{Values}
use Rattle.mx_base.specs.World.{World}

-- values in their homes where the steps begin
pub record Homed (S : Setting) (units private : ℕ) (fun_values : Values) (steps : List FatStep) (plan : Plan) (first last : ℕ → ℕ) (assigned : Assigned units private steps plan first last) (base : ℕ) (out : Final) (w : World) : Type 0 where
  pub view : View
  pub leads : Leads S out view
  pub at : view.processor.rip ≡ base
  pub world : view.world ≡ w
  pub values : In units private steps plan first last assigned 0 fun_values view
