-- Parameters and private values, by where variables stand, are those of the elaboration.
use Rattle.std.proofs.Common.{◌≡◌, ℕ, ◌+◌, refl, ap, ◌∙◌, List, [], ◌∷◌, ◌++◌, length}
use Rattle.c_types.specs.Types.{CType, StructType}
use Rattle.bounds_plan.specs.meaning.Functions.{Framed}
use Rattle.bounds_plan.specs.elaboration.Types.{Sort, ANumber, APointer, AWhole, NoValue, sort_of, size_in}
use Rattle.bounds_plan.specs.elaboration.Source.{Stand, Private, Frame}
use Rattle.bounds_plan.specs.elaboration.Places.{private_values_of, private_values}
use Rattle.bounds_plan.specs.elaboration.Functions.{kind_in, parameter_at, parameters_from}
use Rattle.steps_facts.specs.Seen.{sorted}
use Rattle.steps_facts.specs.Around.{sorts_of}
use Rattle.steps_known.specs.Standings.{standing, values, standings_from}
use Rattle.c_emit_functions.specs.Parameters.{kind_of, parameter_standing, parameters_standing, values_standing, privates_standing}

kinds_agree : (sort : Sort) → kind_of (sorted sort) ≡ kind_in sort
kinds_agree (ANumber kind) = refl
kinds_agree APointer = refl
kinds_agree AWhole = refl
kinds_agree NoValue = refl

one_stands : (sort : Sort) (s : Stand) (x size : ℕ)
    → parameter_standing (sorted sort) (standing (sorted sort) s x size) ≡ parameter_at sort s x
one_stands (ANumber kind) Private x size = refl
one_stands APointer Private x size = refl
one_stands AWhole Private x size = refl
one_stands NoValue Private x size = refl
one_stands (ANumber kind) (Frame offset) x size = refl
one_stands APointer (Frame offset) x size = refl
one_stands AWhole (Frame offset) x size = refl
one_stands NoValue (Frame offset) x size = refl

its_values : (sort : Sort) (s : Stand) (x size : ℕ) → values_standing (standing (sorted sort) s x size) ≡ private_values_of sort s
its_values (ANumber kind) Private x size = refl
its_values APointer Private x size = refl
its_values AWhole Private x size = refl
its_values NoValue Private x size = refl
its_values (ANumber kind) (Frame offset) x size = refl
its_values APointer (Frame offset) x size = refl
its_values AWhole (Frame offset) x size = refl
its_values NoValue (Frame offset) x size = refl

as_many : (sort : Sort) (s : Stand) → values (sorted sort) s ≡ length (private_values_of sort s)
as_many (ANumber kind) Private = refl
as_many APointer Private = refl
as_many AWhole Private = refl
as_many NoValue Private = refl
as_many (ANumber kind) (Frame offset) = refl
as_many APointer (Frame offset) = refl
as_many AWhole (Frame offset) = refl
as_many NoValue (Frame offset) = refl

module _ (structs : List StructType) where
  -- those without a place
  nowhere : (ts : List CType) (x : ℕ) → parameters_standing (sorts_of ts) [] ≡ parameters_from x ts []
  nowhere [] x = refl
  nowhere (t ∷ ts) x = ap (λ k. Framed 0 k ∷ parameters_standing (sorts_of ts) []) (kinds_agree (sort_of t))
      ∙ ap (λ ps. Framed 0 (kind_in (sort_of t)) ∷ ps) (nowhere ts x)

  pub parameters_stand : (ts more : List CType) (ss : List Stand) (x : ℕ)
      → parameters_standing (sorts_of ts) (standings_from structs x (ts ++ more) ss) ≡ parameters_from x ts ss
  parameters_stand [] more ss x = refl
  parameters_stand (t ∷ ts) more [] x = nowhere (t ∷ ts) x
  parameters_stand (t ∷ ts) more (s ∷ ss) x =
      let sort = sort_of t in
      let n = values (sorted sort) s in
      ap (λ p. p ∷ parameters_standing (sorts_of ts) (standings_from structs (x + n) (ts ++ more) ss))
      (one_stands sort s x (size_in structs t))
      ∙ ap (λ ps. parameter_at sort s x ∷ ps) (parameters_stand ts more ss (x + n)
      ∙ ap (λ m. parameters_from (x + m) ts ss) (as_many sort s))

  pub privates_stand : (ts : List CType) (ss : List Stand) (x : ℕ)
      → privates_standing (standings_from structs x ts ss) ≡ private_values ts ss
  privates_stand [] ss x = refl
  privates_stand (t ∷ ts) [] x = refl
  privates_stand (t ∷ ts) (s ∷ ss) x =
      let sort = sort_of t in
      let n = values (sorted sort) s in
      ap (λ v. v ++ privates_standing (standings_from structs (x + n) ts ss)) (its_values sort s x (size_in structs t))
      ∙ ap (λ vs. private_values_of sort s ++ vs) (privates_stand ts ss (x + n))
