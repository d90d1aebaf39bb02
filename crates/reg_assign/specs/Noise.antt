-- Ranges without calls and services.
use Rattle.std.specs.Prelude.{ℕ, ◌+◌, nat_eq, Bool, true, false, if◌then◌else◌, List, [], ◌∷◌, slice_index}
use Rattle.fat_ir.specs.declared.step.FatStep.{FatStep}
use Rattle.fat_ir.specs.declared.step.FatStep.TheVariants.{Call, Service}
use Rattle.reg_assign.specs.declared.lives.LiveRange.{LiveRange}

abbrev pub is_call : FatStep → Bool
is_call (Call symbol args to bounds) = true
is_call (Service number arg to) = true
is_call _ = false

-- how many calls and services stand before each step, and before the end
abbrev pub counts_from : ℕ → List FatStep → List ℕ
counts_from n [] = n ∷ []
counts_from n (step ∷ steps) = n ∷ counts_from (if is_call step then n + 1 else n) steps

abbrev pub quiet_by : (counts : List ℕ) → LiveRange → Bool
quiet_by counts r = nat_eq (slice_index counts r.from) (slice_index counts r.past)
