-- Literals laid one behind another.
use Rattle.std.specs.Prelude.{ℕ, ◌+◌, Option, List, [], ◌∷◌, ◌++◌, map}
use Rattle.c_tree.specs.declared.tree.Decl.{Decl}
use Rattle.c_tree.specs.declared.tree.Init.{Init}
use Rattle.c_tree.specs.declared.tree.Stmt.{Stmt}
use Rattle.bounds_plan.specs.elaboration.Source.{Around, Reached}
use Rattle.bounds_plan.specs.elaboration.Expressions.{expression}
use Rattle.bounds_plan.specs.elaboration.Statements.{Stating, past_counts}
use Rattle.c_accepted.specs.SourceLiterals.{counts_sizes, declared_sizes, Listed, listed}
use Rattle.c_literals.specs.declared.literals.Literals.{Literals}

abbrev pub none : Literals
none = record { offsets = []; end = 0 }

-- one more of this size
abbrev pub with_literal : Literals → (size : ℕ) → Literals
with_literal l size = record { offsets = l.offsets ++ l.end ∷ []; end = l.end + size }

-- more of these sizes
abbrev pub with_literals : Literals → (sizes : List ℕ) → Literals
with_literals l [] = l
with_literals l (size ∷ more) = with_literals (with_literal l size) more

-- the sizes of the literals of a variable that is declared: in its counts, and then in its initialiser
abbrev pub variable_sizes : Decl → Option Init → Around → Reached → List ℕ
variable_sizes d init around r = counts_sizes d.counts ++ declared_sizes init around (past_counts expression d around r)

-- what statements are elaborated to
abbrev pub statings : List Stmt → List Stating
statings all = map (λ (b : Listed). b.1) (map listed all)
