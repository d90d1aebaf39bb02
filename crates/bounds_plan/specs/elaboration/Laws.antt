-- What the functions that a source is elaborated to must be for their fat steps to do what they mean.
use Rattle.std.specs.Prelude.{◌≡◌, ◌⊎◌, ℕ, ◌+◌, ◌≤◌, true, false, Some, List, [], ◌∷◌, length, slice_get, slice_index, slice_index_or}
use Rattle.c_tree.specs.declared.tree.Item.{Item}
use Rattle.c_tree.specs.declared.tree.ItemKind.{ItemKind}
use Rattle.c_tree.specs.declared.tree.ItemKind.TheVariants as k
use Rattle.fat_ir.specs.Spans.{IsAssignable}
use Rattle.bounds_plan.specs.steps.Code.{fat_function}
use Rattle.bounds_plan.specs.steps.Compiled.{FitsFunction, sorts_of}
use Rattle.bounds_plan.specs.meaning.Functions.{FunctionOfC}
use Rattle.bounds_plan.specs.laws.Roots.{NamesStatement, IsFramed}
use Rattle.bounds_plan.specs.laws.Laws.{AllInside, OfCopies}
use Rattle.bounds_plan.specs.steps.Sorts.{pairs_of, how_many}
use Rattle.bounds_plan.specs.elaboration.Source.{Stand, Private, Frame, SourceLayout, Signature}
use Rattle.bounds_plan.specs.elaboration.Functions.{Defined, no_frame}

-- each symbol of a function takes as many arguments as the function has parameters
abbrev pub TakesParameters : (takes : ℕ → ℕ) → SourceLayout → List Signature → Type 0
TakesParameters takes layout signatures = (number : ℕ) (s : Signature) → slice_get signatures number ≡ Some s → takes (slice_index_or layout.functions number 0) ≡ length s.parameters

-- each function is as its steps have it
abbrev pub AllFit : (takes : ℕ → ℕ) → List Defined → Type 0
AllFit takes [] = Unit {0}
AllFit takes (d ∷ more) = FitsFunction takes d.function × AllFit takes more

-- no function has more than six parameters
abbrev pub HaveFewParameters : List Signature → Type 0
HaveFewParameters signatures = (number : ℕ) (s : Signature) → slice_get signatures number ≡ Some s → length s.parameters ≤ 6

-- the body of each function needs at most so many pairs of temporaries
abbrev pub AllNeed : (pairs : ℕ) → List Defined → Type 0
AllNeed n [] = Unit {0}
AllNeed n (d ∷ more) = (pairs_of d.function.body ≤ n) × AllNeed n more

-- in the body of each function the scalars of each struct that is copied lie inside it
abbrev pub AllCopyInside : List Defined → Type 0
AllCopyInside [] = Unit {0}
AllCopyInside (d ∷ more) = OfCopies AllInside d.function.body × AllCopyInside more

-- no function of a source is declared with more than six parameters
abbrev pub TakesFew : ItemKind → Type 0
TakesFew (k.Struct tag members) = Unit {0}
TakesFew (k.Var external d init) = Unit {0}
TakesFew (k.Fun d params body) = length params ≤ 6

abbrev pub AllTakeFew : List Item → Type 0
AllTakeFew [] = Unit {0}
AllTakeFew (x ∷ more) = TakesFew x.kind × AllTakeFew more

-- how many variables are private
abbrev pub is_private : Stand → ℕ
is_private Private = 1
is_private (Frame offset) = 0

abbrev pub privates_in : List Stand → ℕ
privates_in [] = 0
privates_in (s ∷ more) = is_private s + privates_in more

-- no function has more than 64 private variables
abbrev pub HaveFewPrivates : SourceLayout → Type 0
HaveFewPrivates layout = (body : ℕ) → privates_in (slice_index_or layout.frames body no_frame).stands ≤ 64

-- no function has more than six parameters or 64 private variables: each of these has a number, and a pointer has bounds too
abbrev pub HaveFewVariables : List Defined → Type 0
HaveFewVariables [] = Unit {0}
HaveFewVariables (d ∷ more) = ((length d.function.parameters ≤ 6) × (how_many false d.function.privates ≤ 64) × (how_many true d.function.privates ≤ 64)) × HaveFewVariables more

-- homes can be given to the values of each function's steps
abbrev pub AllAssignable : List Defined → Type 0
AllAssignable [] = Unit {0}
AllAssignable (d ∷ more) = ((name : ℕ) → IsAssignable (fat_function name d.function)) × AllAssignable more

-- the beginning of a global, the beginning of a function, and a literal, as a layout has them
pub record IsGlobal (layout : SourceLayout) (symbol offset : ℕ) : Type 0 where
  pub number : ℕ
  pub at : symbol ≡ slice_index_or layout.globals number 0
  pub begins : offset ≡ 0

pub record IsFunction (layout : SourceLayout) (symbol offset size : ℕ) : Type 0 where
  pub number : ℕ
  pub at : symbol ≡ slice_index_or layout.functions number 0
  pub begins : offset ≡ 0
  pub has : size ≡ 1

pub record IsLiteral (layout : SourceLayout) (symbol offset : ℕ) : Type 0 where
  pub number : ℕ
  pub at : symbol ≡ layout.texts
  pub begins : offset ≡ slice_index layout.literals number

abbrev pub IsPlaced : SourceLayout → (symbol offset size : ℕ) → Type 0
IsPlaced layout symbol offset size = IsGlobal layout symbol offset ⊎ IsFunction layout symbol offset size ⊎ IsLiteral layout symbol offset

-- a function names objects and functions that the layout has, variables that stand in its data frame, and private pointers, each with its bounds
pub record NamesItsOwn (layout : SourceLayout) (f : FunctionOfC) : Type 0 where
  pub body : NamesStatement (IsPlaced layout) (IsFramed f.variables) (λ x. sorts_of f (x + 1) ≡ true) f.body

abbrev pub AllNameTheirOwn : SourceLayout → List Defined → Type 0
AllNameTheirOwn layout [] = Unit {0}
AllNameTheirOwn layout (d ∷ more) = NamesItsOwn layout d.function × AllNameTheirOwn layout more
