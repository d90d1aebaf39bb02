-- The parameters and private values of a function, by the sorts of its parameters and by where its variables stand.
use Rattle.std.specs.Prelude.{Bool, true, false, Option, None, Some, List, [], ◌∷◌, ◌++◌, map}
use Rattle.mx_base.specs.declared.numbers.IntKind.{IntKind}
use Rattle.bounds_plan.specs.meaning.Functions.{Parameter, Private, Framed}
use Rattle.steps_facts.specs.declared.knows.Standing.{Standing}
use Rattle.steps_facts.specs.declared.knows.Standing.TheVariants as t
use Rattle.steps_facts.specs.declared.seen.Sorted.{Sorted}
use Rattle.steps_facts.specs.declared.seen.Sorted.TheVariants as o
use Rattle.c_emit_functions.specs.declared.parameters.ParameterAt.{ParameterAt}
use Rattle.c_emit_functions.specs.declared.parameters.ParameterAt.TheVariants as a

abbrev pub parameter_of : ParameterAt → Parameter
parameter_of (a.Private first kind) = Private first kind
parameter_of (a.Framed offset kind) = Framed offset kind

abbrev pub parameters_of : List ParameterAt → List Parameter
parameters_of ps = map parameter_of ps

-- what is no number has no integer type
abbrev pub kind_of : Sorted → Option IntKind
kind_of (o.Number kind) = Some kind
kind_of o.Pointer = None
kind_of o.Whole = None
kind_of o.Nothing = None

-- a parameter of a sort that stands here
abbrev pub parameter_standing : Sorted → Standing → Parameter
parameter_standing sort (t.Number x) = Private x (kind_of sort)
parameter_standing sort (t.Pointer x) = Private x None
parameter_standing sort (t.Frame offset size) = Framed offset (kind_of sort)
parameter_standing sort t.Nowhere = Framed 0 (kind_of sort)

-- the first variables are the parameters
abbrev pub parameters_standing : List Sorted → List Standing → List Parameter
parameters_standing [] standings = []
parameters_standing (sort ∷ sorts) [] = parameter_standing sort t.Nowhere ∷ parameters_standing sorts []
parameters_standing (sort ∷ sorts) (s ∷ ss) = parameter_standing sort s ∷ parameters_standing sorts ss

-- of each private value of a variable that stands here, whether it is bounds
abbrev pub values_standing : Standing → List Bool
values_standing (t.Number x) = false ∷ []
values_standing (t.Pointer x) = false ∷ true ∷ []
values_standing (t.Frame offset size) = []
values_standing t.Nowhere = []

abbrev pub privates_standing : List Standing → List Bool
privates_standing [] = []
privates_standing (s ∷ ss) = values_standing s ++ privates_standing ss
