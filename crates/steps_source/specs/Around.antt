-- What is around a place of a planned source, by what was declared in front of it.
use Rattle.std.specs.Prelude.{◌≡◌, List, [], ℕ, length}
use Rattle.mx_base.specs.declared.settings.Flags.{Flags}
use Rattle.c_tree.specs.declared.tree.Tree.{Tree}
use Rattle.c_types.specs.Types.{Void, Types}
use Rattle.c_check.specs.Accepted.{after}
use Rattle.c_check.specs.declared.checked.Checked.{Checked}
use Rattle.c_check.specs.Checked.{IsChecked}
use Rattle.c_check.specs.Symbols.{named}
use Rattle.place_plan.specs.declared.plans.Plan.{Plan}
use Rattle.place_plan.specs.Source.{plan_of}
use Rattle.bounds_plan.specs.elaboration.Source.{Around}
use Rattle.c_accepted.specs.Alike.{meanings_of}
use Rattle.c_accepted.specs.Planned.{layout_of_plan}
use Rattle.steps_structs.specs.declared.known.KnownStruct.{KnownStruct}
use Rattle.steps_structs.specs.Structs.{structs_known, tags_known, names_known}
use Rattle.steps_known.specs.declared.functions.KnownFunction.{KnownFunction}
use Rattle.steps_known.specs.Functions.{signatures_known}
use Rattle.steps_source.specs.declared.symbols.SymbolNumbers.{SymbolNumbers}
use Rattle.steps_source.specs.Symbols.{numbered}

-- what is said of a tree and of its plan, and the numbers of its symbols
pub record IsPlanned (tree : Tree) (checked : Checked) (plan : Plan) (symbols : SymbolNumbers) : Type 0 where
  pub said : IsChecked tree checked
  pub placed : plan ≡ plan_of tree
  pub numbers : symbols ≡ numbered (named tree) (length (after tree).scope.variables) (length (after tree).scope.functions)

-- outside of functions, where these structs and functions are declared and the literals stand at these offsets behind their symbol
abbrev pub around_in : Tree → Types → (literals : List ℕ) → Flags → List KnownStruct → List KnownFunction → Around
around_in tree table literals flags structs functions = record {
  structs = structs_known table structs;
  tags = tags_known structs;
  members = names_known structs;
  signatures = signatures_known table functions;
  meanings = meanings_of (after tree).notes;
  layout = layout_of_plan tree literals;
  flags = flags;
  variables = [];
  stands = [];
  result = Void;
}
