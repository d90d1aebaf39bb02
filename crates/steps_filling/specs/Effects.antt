-- What was put down, and how it goes on by effects.
use Rattle.std.specs.Prelude.{ℕ, List, [], ◌∷◌}
use Rattle.bounds_plan.specs.meaning.Core.{Effect}
use Rattle.bounds_plan.specs.steps.Code.{labels_effect, code_effect}
use Rattle.steps_pieces.specs.Put.{Put, goes}

-- an effect, whose values go into d and what is behind it
unfoldable pub went_effect : Effect → (d : ℕ) → Put → Put
went_effect e d s = goes (λ l. code_effect e d l) (labels_effect e) s

-- effects one after another
abbrev pub went_effects : List Effect → (d : ℕ) → Put → Put
went_effects [] d s = s
went_effects (e ∷ more) d s = went_effects more d (went_effect e d s)
