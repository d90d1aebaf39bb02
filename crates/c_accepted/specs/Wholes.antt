-- Expressions that name each global with its size, by the type that the checker knows it by.
use Rattle.std.specs.Prelude.{◌≡◌, ◌⊎◌, ℕ, Some, List, [], ◌∷◌, ◌++◌, slice_get, slice_index_or}
use Rattle.c_tree.specs.declared.tree.Tree.{Tree}
use Rattle.c_tree.specs.declared.tree.Item.{Item}
use Rattle.c_types.specs.Types.{CType, StructType}
use Rattle.c_check_rules.specs.declared.names.Scope.{Scope}
use Rattle.c_check_rules.specs.declared.names.Variable.{Variable}
use Rattle.c_check_rules.specs.declared.predeclared.Found.{Found}
use Rattle.c_check_rules.specs.declared.predeclared.Found.TheVariants as f
use Rattle.c_check_statements.specs.Sources.{items, at_start}
use Rattle.c_check.specs.Standing.{structs_seen}
use Rattle.bounds_plan.specs.meaning.Core.{Effect}
use Rattle.bounds_plan.specs.laws.Roots.{NamesEffect, NamesStatement}
use Rattle.bounds_plan.specs.elaboration.Types.{size_in}
use Rattle.bounds_plan.specs.elaboration.Source.{SourceLayout, Around}
use Rattle.bounds_plan.specs.elaboration.Functions.{Defined}
use Rattle.bounds_plan.specs.elaboration.Laws.{IsFunction, IsLiteral}

-- a name of a variable has the variable's type
abbrev pub HasItsType : Found → CType → Type 0
HasItsType f.Missing type = ⊥
HasItsType (f.Variable bind kind) type = type ≡ kind
HasItsType (f.Callable bind result params) type = Unit {0}

-- a variable of this number has this type
pub record HasNumber (variables : List Variable) (number : ℕ) (type : CType) : Type 0 where
  pub variable : Variable
  pub known : slice_get variables number ≡ Some variable
  pub has : variable.kind ≡ type

-- the first variables are among the second, with their numbers and types
abbrev pub StayGlobals : List Variable → List Variable → Type 0
StayGlobals old new = (number : ℕ) (type : CType) → HasNumber old number type → HasNumber new number type

-- the whole of a global that is one of these variables
pub record IsWholeGlobal (variables : List Variable) (structs : List StructType) (layout : SourceLayout) (symbol offset size : ℕ) : Type 0 where
  pub number : ℕ
  pub variable : Variable
  pub known : slice_get variables number ≡ Some variable
  pub at : symbol ≡ slice_index_or layout.globals number 0
  pub begins : offset ≡ 0
  pub has : size ≡ size_in structs variable.kind

-- it, the beginning of a function, or a literal, of whose size nothing is said
abbrev pub IsWhole : List Variable → List StructType → SourceLayout → (symbol offset size : ℕ) → Type 0
IsWhole variables structs layout symbol offset size = IsWholeGlobal variables structs layout symbol offset size ⊎ IsFunction layout symbol offset size ⊎ IsLiteral layout symbol offset

-- what an expression does names no objects but these; of the variables of the function around it nothing is said
abbrev pub NamesWholes : List Variable → Around → Effect → Type 0
NamesWholes variables around effect = NamesEffect (IsWhole variables around.structs around.layout) (λ offset size. Unit {0}) (λ x. Unit {0}) effect

-- ---- functions

-- what the checker knows behind these items
abbrev pub known_behind : List Item → Scope
known_behind before = (items before at_start).state.scope

-- a function that names each global whole, as it is known behind the items before the function
pub record NamesWholeGlobals (tree : Tree) (layout : SourceLayout) (d : Defined) : Type 0 where
  pub before : List Item
  pub others : List Item
  pub is : tree.items ≡ before ++ others
  pub body : NamesStatement (IsWhole (known_behind before).variables (structs_seen (known_behind before).structs) layout) (λ offset size. Unit {0}) (λ x. Unit {0}) d.function.body

abbrev pub AllNameWholeGlobals : Tree → SourceLayout → List Defined → Type 0
AllNameWholeGlobals tree layout [] = Unit {0}
AllNameWholeGlobals tree layout (d ∷ more) = NamesWholeGlobals tree layout d × AllNameWholeGlobals tree layout more
