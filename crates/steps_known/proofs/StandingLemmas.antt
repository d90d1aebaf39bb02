-- Where variables stand is where the elaboration has them; and sizes of named types.
use Rattle.std.proofs.Common.{◌≡◌, ℕ, zero, suc, ◌+◌, ◌<◌, refl, ap, ◌∙◌, List, [], ◌∷◌, length, slice_index_or, arith}
use Rattle.c_types.specs.Types.{CType, StructType}
use Rattle.bounds_plan.specs.elaboration.Types.{Sort, ANumber, APointer, AWhole, NoValue, sort_of, size_in}
use Rattle.bounds_plan.specs.elaboration.Source.{Stand, Private, Frame}
use Rattle.bounds_plan.specs.elaboration.Places.{private_values_of, variable_at, variable_of}
use Rattle.bounds_plan.specs.elaboration.Expressions.{starred}
use Rattle.steps_facts.specs.declared.knows.Standing.TheVariants as t
use Rattle.steps_facts.specs.Seen.{sorted}
use Rattle.steps_facts.specs.Around.{standing_at}
use Rattle.steps_known.specs.Standings.{standing, values, standings_from}

stands_so : (sort : Sort) (s : Stand) (x size : ℕ) → standing_at (standing (sorted sort) s x size) ≡ variable_at sort s x size
stands_so (ANumber kind) Private x size = refl
stands_so APointer Private x size = refl
stands_so AWhole Private x size = refl
stands_so NoValue Private x size = refl
stands_so (ANumber kind) (Frame offset) x size = refl
stands_so APointer (Frame offset) x size = refl
stands_so AWhole (Frame offset) x size = refl
stands_so NoValue (Frame offset) x size = refl

as_many : (sort : Sort) (s : Stand) → values (sorted sort) s ≡ length (private_values_of sort s)
as_many (ANumber kind) Private = refl
as_many APointer Private = refl
as_many AWhole Private = refl
as_many NoValue Private = refl
as_many (ANumber kind) (Frame offset) = refl
as_many APointer (Frame offset) = refl
as_many AWhole (Frame offset) = refl
as_many NoValue (Frame offset) = refl

module _ (structs : List StructType) where
  pub variable_known : (ts : List CType) (ss : List Stand) (x n : ℕ) → standing_at (slice_index_or (standings_from structs x ts ss) n t.Nowhere) ≡ variable_of structs ts ss x n
  variable_known [] ss x n = refl
  variable_known (t ∷ ts) [] x n = refl
  variable_known (t ∷ ts) (s ∷ ss) x zero = stands_so (sort_of t) s x (size_in structs t)
  variable_known (t ∷ ts) (s ∷ ss) x (suc n) = variable_known ts ss (x + values (sorted (sort_of t)) s) n ∙ ap (λ m. variable_of structs ts ss (x + m) n) (as_many (sort_of t) s)

  -- a pointer has eight bytes
  pub pointed : (stars : ℕ) (t : CType) → 0 < stars → size_in structs (starred stars t) ≡ 8
  pointed zero t h = absurd (omega arith)
  pointed (suc n) t h = refl

  pub none_left : (x : ℕ) (ts : List CType) → standings_from structs x ts [] ≡ []
  none_left x [] = refl
  none_left x (t ∷ ts) = refl
