-- What code asks of steps, as far as it concerns numbers, sizes, places and calls alone: neither homes nor spans.
use Rattle.std.specs.Prelude.{◌≡◌, ℕ, ◌^◌, ◌<◌, ◌≤◌, Bool, true, false, Option, None, Some, List, [], ◌∷◌, length}
use Rattle.fat_ir.specs.declared.step.FatStep.{FatStep}
use Rattle.fat_ir.specs.declared.step.FatStep.TheVariants as s
use Rattle.fat_ir.specs.Step.{Located}
use Rattle.step_code.specs.Asked.{IsLow, IsSome}

-- where symbols stand, whether the function gives a pointer, whether a symbol gives one, and whether it takes a call's arguments
module _ (located : ℕ → Located) (pointer : Bool) (returns : ℕ → Bool) (takes : ℕ → List (ℕ × Option ℕ) → Bool) where
  -- a symbol that is named stands low
  abbrev pub StandsLow : Option ℕ → Type 0
  StandsLow None = Unit {0}
  StandsLow (Some symbol) = IsLow (located symbol)

  abbrev pub IsLimited : FatStep → Type 0
  IsLimited (s.Const to n) = n < 2 ^ 64
  IsLimited (s.Judge value size bounds write place) = (1 ≤ size) × (size < 2 ^ 31)
  IsLimited (s.Place to bounds symbol offset size) = (size < 2 ^ 31) × (offset < 2 ^ 31) × StandsLow symbol
  IsLimited (s.Call symbol args to bounds) = (length args ≤ 6) × (IsSome bounds → returns symbol ≡ true) × (takes symbol args ≡ true)
  IsLimited (s.Give (Some from) None) = pointer ≡ false
  IsLimited (s.Give None (Some b)) = ⊥
  IsLimited step = Unit {0}

  abbrev pub AllLimited : List FatStep → Type 0
  AllLimited [] = Unit {0}
  AllLimited (step ∷ rest) = IsLimited step × AllLimited rest
