-- Statements as they are elaborated, and how what was put down goes on by one.
use Rattle.std.specs.Prelude.{◌≡◌, ℕ, Bool, true, false, None, Some, List, [], ◌∷◌, ◌+◌}
use Rattle.c_tree.specs.declared.tree.Expr.{Expr}
use Rattle.c_tree.specs.declared.tree.Stmt.{Stmt}
use Rattle.fat_ir.specs.declared.step.FatStep.{FatStep}
use Rattle.fat_ir.specs.declared.step.FatStep.TheVariants as s
use Rattle.bounds_plan.specs.meaning.Core.{NumberExpr, Statement}
use Rattle.bounds_plan.specs.steps.Code.{labels, code, labels_of, code_of}
use Rattle.bounds_plan.specs.elaboration.Source.{Reached, Around}
use Rattle.bounds_plan.specs.elaboration.Expressions.{effect_of, expression}
use Rattle.bounds_plan.specs.elaboration.Initialisers.{initialiser}
use Rattle.bounds_plan.specs.elaboration.Statements.{Stating, statement_by}
use Rattle.steps_facts.specs.declared.seen.Sorted.{Sorted}
use Rattle.steps_facts.specs.declared.seen.Sorted.TheVariants as o
use Rattle.steps_pieces.specs.Put.{Put, goes}

abbrev pub statement : Stmt → Stating
statement = statement_by expression (initialiser expression)

-- a statement, whose values go into d and what is behind it; `break` goes to the label lb, and `continue` to lc
unfoldable pub went_statement : Statement → (d lb lc : ℕ) → Put → Put
went_statement x d lb lc s = goes (λ l. code_of x d l lb lc) (labels_of x) s

-- one that goes to neither: a `return`, and a declaration
abbrev pub went_returned : Statement → (d : ℕ) → Put → Put
went_returned x d s = went_statement x d 0 0 s

abbrev pub went_declared : Statement → (d : ℕ) → Put → Put
went_declared x d s = went_statement x d 0 0 s

-- a number that is tested
unfoldable pub went_number : NumberExpr → (d : ℕ) → Put → Put
went_number e d s = goes (λ l. code e d l) (labels e) s

-- whether values of a sort are arrays or structs
abbrev pub whole_sort : Sorted → Bool
whole_sort (o.Number kind) = false
whole_sort o.Pointer = false
whole_sort o.Whole = true
whole_sort o.Nothing = false

-- as a whole statement an expression is evaluated
abbrev pub IsEvaluated : Expr → Type 0
IsEvaluated e = (around : Around) (r : Reached) → (expression e around r).effect ≡ effect_of (expression e around r).value

-- ---- own steps

abbrev pub label : (n : ℕ) → List FatStep
label n = s.Label n ∷ []

-- on from the label `on` if d is not 0, and else at `end`
abbrev pub parting : (on end d : ℕ) → List FatStep
parting on end d = s.JumpIf d on ∷ s.Jump end ∷ s.Label on ∷ []

-- back to the label `start`, and on from `end`
abbrev pub turning : (start end : ℕ) → List FatStep
turning start end = s.Jump start ∷ s.Label end ∷ []

-- back to `start` if d is not 0, and on from `end`
abbrev pub turning_if : (start end d : ℕ) → List FatStep
turning_if start end d = s.JumpIf d start ∷ s.Label end ∷ []

-- what is in d is given, with its bounds
abbrev pub giving : (number : Bool) → (d : ℕ) → List FatStep
giving true d = s.Give (Some d) None ∷ []
giving false d = s.Give (Some d) (Some (d + 1)) ∷ []
