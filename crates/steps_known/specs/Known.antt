-- What is known at a function of a source, by the numbers of types.
use Rattle.std.specs.Prelude.{◌≡◌, ℕ, List, map, All}
use Rattle.mx_base.specs.declared.settings.Flags.{Flags}
use Rattle.c_types.specs.declared.shape.TypeId.{TypeId}
use Rattle.c_types.specs.declared.shape.Shape.{Shape}
use Rattle.c_types.specs.Types.{Types, type_at, built, IsIn}
use Rattle.c_check_rules.specs.declared.predeclared.Bind.{Bind}
use Rattle.place_plan.specs.declared.plans.Spot.{Spot}
use Rattle.place_plan.specs.declared.plans.FramePlan.{FramePlan}
use Rattle.bounds_plan.specs.elaboration.Source.{Around}
use Rattle.c_accepted.specs.Planned.{stand_of, layout_frame}
use Rattle.steps_structs.specs.declared.known.KnownStruct.{KnownStruct}
use Rattle.steps_structs.specs.Structs.{structs_known, tags_known, names_known, AreKnown}
use Rattle.steps_known.specs.declared.functions.KnownFunction.{KnownFunction}
use Rattle.steps_facts.specs.declared.knows.Standing.{Standing}
use Rattle.steps_known.specs.Standings.{standings_from}
use Rattle.steps_known.specs.Functions.{signatures_known, AreSorted}

-- the types that its numbers mean; the types and meanings of nodes in tree order; the structs and functions that are declared so far; the symbols of
-- globals, functions and literals, and where each literal stands; the frames; the flags; and of the function its variables, where they stand, also by
-- private values, and the type of what it gives
pub record KnownAt : Type 0 where
  pub table : Types
  pub kinds : List TypeId
  pub binds : List Bind
  pub declared : List TypeId
  pub structs : List KnownStruct
  pub functions : List KnownFunction
  pub globals : List ℕ
  pub symbols : List ℕ
  pub texts : ℕ
  pub literals : List ℕ
  pub frames : List FramePlan
  pub flags : Flags
  pub variables : List TypeId
  pub spots : List Spot
  pub result : Shape
  pub standings : List Standing

-- what is around, to the elaboration
abbrev pub around_of : KnownAt → Around
around_of k = record {
  structs = structs_known k.table k.structs;
  tags = tags_known k.structs;
  members = names_known k.structs;
  signatures = signatures_known k.table k.functions;
  meanings = record { kinds = map (type_at k.table) k.kinds; binds = k.binds; declared = map (type_at k.table) k.declared };
  layout = record { globals = k.globals; functions = k.symbols; texts = k.texts; literals = k.literals; frames = map layout_frame k.frames };
  flags = k.flags;
  variables = map (type_at k.table) k.variables;
  stands = map stand_of k.spots;
  result = built (type_at k.table) k.result;
}

-- all numbers of types are in the table, and structs and functions are kept with what is asked of them
pub record IsKnown (k : KnownAt) : Type 0 where
  pub kinds : All (IsIn k.table) k.kinds
  pub declared : All (IsIn k.table) k.declared
  pub structs : AreKnown k.table k.structs
  pub functions : AreSorted k.table k.functions
  pub standings : k.standings ≡ standings_from (structs_known k.table k.structs) 0 (map (type_at k.table) k.variables) (map stand_of k.spots)
