-- The least number behind all labels of steps.
use Rattle.std.specs.Prelude.{ℕ, ◌+◌, max, List, [], ◌∷◌}
use Rattle.fat_ir.specs.declared.step.FatStep.{FatStep}
use Rattle.fat_ir.specs.declared.step.FatStep.TheVariants.{Label}

abbrev pub label_past : FatStep → ℕ
label_past (Label n) = n + 1
label_past _ = 0

abbrev pub past_labels : List FatStep → ℕ
past_labels [] = 0
past_labels (step ∷ steps) = max (label_past step) (past_labels steps)
