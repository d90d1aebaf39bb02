-- Expressions that name each literal with the size of its text.
use Rattle.std.specs.Prelude.{◌≡◌, ◌⊎◌, ℕ, ◌+◌, Some, List, [], ◌∷◌, ◌++◌, length, slice_get, slice_index}
use Rattle.c_tree.specs.declared.tree.Expr.{Expr, fold-Expr}
use Rattle.c_tree.specs.declared.tree.ExprKind.{ExprKind-F}
use Rattle.c_tree.specs.declared.tree.ExprKind.TheOpen as e
use Rattle.bounds_plan.specs.meaning.Core.{Effect}
use Rattle.bounds_plan.specs.laws.Roots.{NamesEffect}
use Rattle.bounds_plan.specs.elaboration.Source.{SourceLayout}
use Rattle.bounds_plan.specs.elaboration.Laws.{IsGlobal, IsFunction}

-- ---- the sizes of texts

abbrev pub joined : List (List ℕ) → List ℕ
joined [] = []
joined (sizes ∷ more) = sizes ++ joined more

-- a text has its bytes and one of 0; what stands under `sizeof` isn't evaluated, and its texts are no literals
abbrev pub sizes_step : ExprKind-F (List ℕ) (List ℕ) → List ℕ
sizes_step (e.Number n kind) = []
sizes_step (e.Text bytes) = (length bytes + 1) ∷ []
sizes_step (e.Var name) = []
sizes_step (e.Unary op a) = a
sizes_step (e.Binary op a c) = a ++ c
sizes_step (e.Assign op a c) = a ++ c
sizes_step (e.StepBy up before a) = a
sizes_step (e.Cond c a d) = c ++ (a ++ d)
sizes_step (e.Call name all) = joined all
sizes_step (e.Index a i) = a ++ i
sizes_step (e.Member a name) = a
sizes_step (e.Arrow a name) = a
sizes_step (e.Cast base stars a) = a
sizes_step (e.SizeOfKind base stars) = []
sizes_step (e.SizeOfValue a) = []

-- the sizes of the texts that stand in an expression as literals, in tree order
abbrev pub text_sizes : Expr → List ℕ
text_sizes = fold-Expr (List ℕ) (List ℕ) sizes_step (λ x. x.kind)

-- ---- the literals that are named

-- the literal of this number has this size, where the literals from the first number on have these sizes
pub record HasSize (first : ℕ) (sizes : List ℕ) (number size : ℕ) : Type 0 where
  pub place : ℕ
  pub at : number ≡ first + place
  pub known : slice_get sizes place ≡ Some size

-- the whole of a literal, with a number and size of which this fact holds
pub record IsWholeLiteral (so : ℕ → ℕ → Type 0) (layout : SourceLayout) (symbol offset size : ℕ) : Type 0 where
  pub number : ℕ
  pub at : symbol ≡ layout.texts
  pub begins : offset ≡ slice_index layout.literals number
  pub has : so number size

-- it, or the beginning of a global, of whose size nothing is said, or of a function
abbrev pub IsWholeText : (ℕ → ℕ → Type 0) → SourceLayout → (symbol offset size : ℕ) → Type 0
IsWholeText so layout symbol offset size = IsGlobal layout symbol offset ⊎ IsFunction layout symbol offset size ⊎ IsWholeLiteral so layout symbol offset size

-- what an expression does names no objects but these; of the variables of the function around it nothing is said
abbrev pub NamesTexts : (first : ℕ) (sizes : List ℕ) → SourceLayout → Effect → Type 0
NamesTexts first sizes layout effect = NamesEffect (IsWholeText (HasSize first sizes) layout) (λ offset size. Unit {0}) (λ x. Unit {0}) effect
