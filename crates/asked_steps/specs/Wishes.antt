-- For which registers the values wish in which a function's arguments arrive: each number for the register at its place among the
-- arguments, and bounds that arrive in BND2 and BND3 for those.
use Rattle.std.specs.Prelude.{ℕ, ◌+◌, Bool, true, false, if◌then◌else◌, List, [], ◌∷◌, length}
use Rattle.fat_ir.specs.Functions.{Parameter}
use Rattle.step_code.specs.Homing.{width_of}
use Rattle.reg_assign.specs.declared.wishes.Wishes.{Wishes}
use Rattle.bounds_plan.specs.steps.Code.{fat_parameters}
use Rattle.bounds_plan.specs.meaning.Functions.{FunctionOfC}

-- the values in which the arguments' numbers arrive, those of private parameters from `home` on, in order, and the others from `temp` on
abbrev pub numbers_in : (home temp : ℕ) → List Parameter → List ℕ
numbers_in home temp [] = []
numbers_in home temp (q ∷ qs) =
    if q.private then home ∷ numbers_in (home + width_of q.pointer) temp qs else temp ∷ numbers_in home (temp + width_of q.pointer) qs

-- a pointer's bounds arrive in the value behind its number
abbrev pub bounds_behind : (pointer : Bool) → (number : ℕ) → List ℕ → List ℕ
bounds_behind true number rest = (number + 1) ∷ rest
bounds_behind false number rest = rest

abbrev pub bounds_in : (home temp : ℕ) → List Parameter → List ℕ
bounds_in home temp [] = []
bounds_in home temp (q ∷ qs) =
    if q.private then bounds_behind q.pointer home (bounds_in (home + width_of q.pointer) temp qs)
    else bounds_behind q.pointer temp (bounds_in home (temp + width_of q.pointer) qs)

-- those of the first two pointers arrive in BND0 and BND1, which are no homes
abbrev pub behind_two : List ℕ → List ℕ
behind_two (x ∷ y ∷ rest) = rest
behind_two _ = []

abbrev pub wishes_of : (private : ℕ) → List Parameter → Wishes
wishes_of private parameters = record { numbers = numbers_in 0 private parameters; bounds = behind_two (bounds_in 0 private parameters) }

-- the wishes of a C function's parameters
abbrev pub parameters_wish : FunctionOfC → Wishes
parameters_wish f = wishes_of (length f.privates) (fat_parameters f.parameters)
