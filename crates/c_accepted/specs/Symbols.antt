-- How many arguments the symbols of a layout take, by the functions of its source.
use Rattle.std.specs.Prelude.{◌≡◌, ◌≢◌, ℕ, ◌≤◌, ◌==◌, if◌then◌else◌, List, [], ◌∷◌, length, slice_index_or}
use Rattle.bounds_plan.specs.elaboration.Source.{SourceLayout, Signature}
use Rattle.bounds_plan.specs.elaboration.Functions.{Defined}

-- as many as the function of the symbol has parameters
abbrev pub arguments_of : (symbols : List ℕ) → List Signature → (symbol : ℕ) → ℕ
arguments_of [] signatures symbol = 0
arguments_of (f ∷ fs) [] symbol = 0
arguments_of (f ∷ fs) (s ∷ more) symbol = if f == symbol then length s.parameters else arguments_of fs more symbol

abbrev pub Lacks : ℕ → List ℕ → Type 0
Lacks symbol [] = Unit {0}
Lacks symbol (f ∷ fs) = (symbol ≢ f) × Lacks symbol fs

-- no symbol stands twice
abbrev pub AllDiffer : List ℕ → Type 0
AllDiffer [] = Unit {0}
AllDiffer (f ∷ fs) = Lacks f fs × AllDiffer fs

-- each function has a symbol of its own
pub record HaveSymbols (layout : SourceLayout) (signatures : List Signature) : Type 0 where
  pub enough : length signatures ≤ length layout.functions
  pub differ : AllDiffer layout.functions

-- each function that is defined takes as many arguments by its symbol as it has parameters
abbrev pub AllTakeBySymbol : (takes : ℕ → ℕ) → SourceLayout → List Defined → Type 0
AllTakeBySymbol takes layout [] = Unit {0}
AllTakeBySymbol takes layout (d ∷ more) = (takes (slice_index_or layout.functions d.number 0) ≡ length d.function.parameters) × AllTakeBySymbol takes layout more
