-- Fix-ups whose values fit their fields.
use Rattle.std.specs.Prelude.{ℕ, IsTrue, List}
use Rattle.std.specs.List.{All}
use Rattle.obj_file.specs.declared.object.Object.{Object}
use Rattle.obj_linker.specs.declared.plan.Plan.{Plan}
use Rattle.obj_linker.specs.Fixing.{fits, fix_value}

-- the values of all fix-ups of an object fit
pub record FixesFit (os : List Object) (plan : Plan) (object : ℕ) (o : Object) : Type 0 where
  pub each : All (λ f. IsTrue (fits f.form (fix_value os plan object o f))) o.fixes
