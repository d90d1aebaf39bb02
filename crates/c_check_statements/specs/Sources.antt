-- A whole source: its structs, global variables and functions from the front on.
use Rattle.std.specs.Prelude.{Bool, false, not, ◌||◌, is_some, List, [], map, Option, None}
use Rattle.mx_base.specs.declared.places.Place.{Place}
use Rattle.c_tree.specs.declared.tree.Decl.{Decl}
use Rattle.c_tree.specs.declared.tree.Init.{Init}
use Rattle.c_tree.specs.declared.tree.Item.{Item}
use Rattle.c_tree.specs.declared.tree.ItemKind.{ItemKind}
use Rattle.c_tree.specs.declared.tree.ItemKind.TheVariants as k
use Rattle.c_check_typing.specs.Notes.{no_notes}
use Rattle.c_check_statements.specs.declared.initialisers.Filled.TheVariants as f
use Rattle.c_check_statements.specs.declared.state.State.{State}
use Rattle.c_check_statements.specs.Declarations.{and_then, global_declared}
use Rattle.c_check_statements.specs.Initialisers.{maybe_fills}
use Rattle.c_check_statements.specs.Structs.{struct_walk}
use Rattle.c_check_statements.specs.Functions.{function_walk}
use Rattle.c_check_statements.specs.Walks.{Walk, walk_all}

-- a global that isn't `extern`, or has an initialiser, is defined; it is known before its initialiser
abbrev pub is_definition : (external : Bool) → Option Init → Bool
is_definition external init = not external || is_some init

abbrev pub global_walk : (external : Bool) → Decl → Option Init → Walk
global_walk external d init state = and_then (global_declared (is_definition external init) d state) (maybe_fills init f.Global)

abbrev pub item_kind : ItemKind → Place → Walk
item_kind (k.Struct tag members) place = struct_walk tag members place
item_kind (k.Var external d init) place = global_walk external d init
item_kind (k.Fun d params body) place = function_walk d params body place

abbrev pub item : Item → Walk
item x = item_kind x.kind x.place

abbrev pub items : List Item → Walk
items all = walk_all (map item all)

-- nothing is declared before a source
abbrev pub at_start : State
at_start = record {
  scope = record { structs = []; variables = []; functions = []; locals = []; from = 0; made = []; result = None; in_loop = false; at_body = false };
  notes = no_notes;
  bodies = [];
  global_items = [];
  order = [];
}
