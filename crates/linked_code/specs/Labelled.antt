-- What is asked of the labels of a function, and of the accesses that an image tells, so that all stand where the code has them.
use Rattle.std.specs.Prelude.{◌≡◌, ℕ, ◌<◌, Option, Some, List, [], ◌∷◌}
use Rattle.mx_base.specs.StopOfC.{AccessOfC}
use Rattle.fat_ir.specs.declared.step.FatStep.{FatStep}
use Rattle.fat_ir.specs.declared.step.FatStep.TheVariants.{Label}
use Rattle.fat_ir.specs.Laws.{LacksLabel}

-- each label stands among the steps once, and has a number below a limit
abbrev pub EachOnce : (limit : ℕ) → List FatStep → Type 0
EachOnce limit [] = Unit {0}
EachOnce limit (Label n ∷ steps) = (n < limit) × LacksLabel n steps × EachOnce limit steps
EachOnce limit (step ∷ steps) = EachOnce limit steps

-- and the end has a label of its own
pub record LabelsFit (exit limit : ℕ) (steps : List FatStep) : Type 0 where
  pub low : exit < limit
  pub own : LacksLabel exit steps
  pub once : EachOnce limit steps

-- an image tells the access of a check at its address
abbrev pub Tells : (ℕ → Option AccessOfC) → ℕ × AccessOfC → Type 0
Tells access_of check = access_of check.0 ≡ Some check.1
