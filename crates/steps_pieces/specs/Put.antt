-- What was put down so far, and how it goes on by steps, by new labels, and by the parts of an expression.
use Rattle.std.specs.Prelude.{ℕ, ◌+◌, Bool, List, [], ◌∷◌, ◌++◌}
use Rattle.c_tree.specs.declared.tree.Expr.{Expr}
use Rattle.fat_ir.specs.declared.step.FatStep.{FatStep}
use Rattle.bounds_plan.specs.elaboration.Types.{kind_of}
use Rattle.bounds_plan.specs.elaboration.Source.{Reached, Around}
use Rattle.bounds_plan.specs.elaboration.Expressions.{Found, expression, nothing_found}
use Rattle.steps_facts.specs.declared.seen.Sorted.{Sorted}
use Rattle.steps_pieces.specs.declared.emitter.Emitter.{Emitter}
use Rattle.steps_pieces.specs.Wanted.{code_wanted, labels_wanted, code_given, labels_given}

-- the steps so far, and the first label that none of them has
pub record Put : Type 0 where
  pub steps : List FatStep
  pub label : ℕ

abbrev pub put_of : Emitter → Put
put_of out = record { steps = out.steps; label = out.label }

-- steps without new labels
unfoldable pub added : List FatStep → Put → Put
added more s = record { steps = s.steps ++ more; label = s.label }

-- labels that are taken
unfoldable pub skipped : (n : ℕ) → Put → Put
skipped n s = record { steps = s.steps; label = s.label + n }

-- steps that take labels from the first free one on
abbrev pub goes : (code : ℕ → List FatStep) → (labels : ℕ) → Put → Put
goes code labels s = record { steps = s.steps ++ code s.label; label = s.label + labels }

-- an expression: its value, or the address of its place, into d
unfoldable pub went : (place : Bool) → Found → (d : ℕ) → Put → Put
went place f d s = goes (λ l. code_wanted place f d l) (labels_wanted place f) s

-- its value where one of a sort is wanted
unfoldable pub went_given : (to : Sorted) → Found → (d : ℕ) → Put → Put
went_given to f d s = goes (λ l. code_given to (kind_of f.type) f.value d l) (labels_given to f.value) s

-- arguments where values of these sorts are wanted, each with a pair of values from d on; where none is given, which `check` refuses, it
-- is 0
abbrev pub went_all : (to : List Sorted) → List Expr → Around → Reached → (d : ℕ) → Put → Put
went_all [] es around r d s = s
went_all (t ∷ ts) [] around r d s = went_all ts [] around r (d + 2) (went_given t nothing_found d s)
went_all (t ∷ ts) (e ∷ es) around r d s =
    went_all ts es around (expression e around r).after (d + 2) (went_given t (expression e around r) d s)
