-- The functions that are declared so far, by the numbers of types.
use Rattle.std.specs.Prelude.{◌≡◌, List, map, All}
use Rattle.c_types.specs.declared.shape.TypeId.{TypeId}
use Rattle.c_types.specs.Types.{Types, type_at}
use Rattle.bounds_plan.specs.elaboration.Source.{Signature}
use Rattle.steps_facts.specs.Around.{sorts_of}
use Rattle.steps_known.specs.declared.functions.KnownFunction.{KnownFunction}

abbrev pub signature_of : Types → KnownFunction → Signature
signature_of table f = record { result = type_at table f.result; parameters = map (type_at table) f.parameters }

abbrev pub signatures_known : Types → List KnownFunction → List Signature
signatures_known table functions = map (signature_of table) functions

-- the sorts are those of the parameters
abbrev pub IsSorted : Types → KnownFunction → Type 0
IsSorted table f = f.sorts ≡ sorts_of (map (type_at table) f.parameters)

abbrev pub AreSorted : Types → List KnownFunction → Type 0
AreSorted table functions = All (IsSorted table) functions

abbrev pub function_of : Types → (result : TypeId) → (parameters : List TypeId) → KnownFunction
function_of table result parameters = record { result = result; parameters = parameters; sorts = sorts_of (map (type_at table) parameters) }
