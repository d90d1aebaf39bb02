-- What is asked of a function for its steps to do what it means, for homes to be given to their values, and for the laws of its accesses.
use Rattle.std.specs.Prelude.{◌≡◌, ℕ, ◌≤◌, List, [], ◌∷◌, length, slice_index_or}
use Rattle.fat_ir.specs.Spans.{IsAssignable}
use Rattle.bounds_plan.specs.steps.Code.{fat_function, most_pairs}
use Rattle.bounds_plan.specs.steps.Compiled.{FitsFunction}
use Rattle.bounds_plan.specs.laws.Laws.{LieInside, OfCopies}
use Rattle.bounds_plan.specs.laws.Roots.{ParametersFramed}
use Rattle.bounds_plan.specs.steps.Sorts.{pairs_of}
use Rattle.bounds_plan.specs.elaboration.Source.{SourceLayout}
use Rattle.bounds_plan.specs.elaboration.Functions.{Defined}

pub record Meets (takes : ℕ → ℕ) (layout : SourceLayout) (d : Defined) : Type 0 where
  pub fits : FitsFunction takes d.function
  pub called : takes (slice_index_or layout.functions d.number 0) ≡ length d.function.parameters
  pub pairs : pairs_of d.function.body ≤ most_pairs
  pub homes : (name : ℕ) → IsAssignable (fat_function name d.function)
  pub copies : OfCopies LieInside d.function.body
  pub parameters : ParametersFramed d.function.variables d.function.parameters

abbrev pub AllMeet : (takes : ℕ → ℕ) → SourceLayout → List Defined → Type 0
AllMeet takes layout [] = Unit {0}
AllMeet takes layout (d ∷ more) = Meets takes layout d × AllMeet takes layout more
