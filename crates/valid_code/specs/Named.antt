-- What makes the pieces of a function's code instructions, beside the limits of its steps: homes that instructions can name, addresses
-- below 2^31, and at most four pointers where there are bounds registers for them.
use Rattle.std.specs.Prelude.{ℕ, ◌+◌, ◌^◌, ◌<◌, ◌≤◌, if◌then◌else◌, Option, None, Some, List, [], ◌∷◌}
use Rattle.std.specs.List.{AllByRecursion}
use Rattle.fat_ir.specs.declared.step.FatStep.{FatStep}
use Rattle.fat_ir.specs.declared.step.FatStep.TheVariants as s
use Rattle.fat_ir.specs.Functions.{Parameter}
use Rattle.step_code.specs.Steps.{Plan}
use Rattle.reg_assign.specs.Homes.{IsNamed}

pub record HomesAreNamed (p : Plan) : Type 0 where
  pub homes : (v : ℕ) → IsNamed (p.home v)
  pub spare : p.spare + 3 < 504

-- how many arguments of a call are pointers, and how many parameters
abbrev pub pointers_in : List (ℕ × Option ℕ) → ℕ
pointers_in [] = 0
pointers_in ((a, None) ∷ rest) = pointers_in rest
pointers_in ((a, Some b) ∷ rest) = 1 + pointers_in rest

abbrev pub pointers_of : List Parameter → ℕ
pointers_of [] = 0
pointers_of (q ∷ qs) = (if q.pointer then 1 else 0) + pointers_of qs

-- a call leads to an address below 2^31, and at most four of its arguments are pointers
abbrev pub CallIsNear : (entry_at : ℕ → ℕ) → FatStep → Type 0
CallIsNear entry_at (s.Call symbol args to bounds) = (entry_at symbol < 2 ^ 31) × (pointers_in args ≤ 4)
CallIsNear entry_at step = Unit {0}

abbrev pub CallsAreNear : (entry_at : ℕ → ℕ) → List FatStep → Type 0
CallsAreNear entry_at steps = AllByRecursion (CallIsNear entry_at) steps
