-- Functions: their declaration, their parameters, their body, and at the end the rules of the whole.
use Rattle.std.specs.Prelude.{ℕ, ◌+◌, ◌==◌, nat_lt, Bool, true, false, not, ◌&&◌, ◌||◌, if◌then◌else◌, is_some, List, [], ◌∷◌, ◌++◌, length, map, Option, None, Some}
use Rattle.mx_base.specs.declared.places.Place.{Place}
use Rattle.mx_base.specs.declared.numbers.IntKind.TheVariants.{I32}
use Rattle.c_tree.specs.declared.tree.Base.{Base}
use Rattle.c_tree.specs.declared.tree.Base.TheVariants as b
use Rattle.c_tree.specs.declared.tree.Decl.{Decl}
use Rattle.c_tree.specs.declared.tree.Stmt.{Stmt}
use Rattle.c_types.specs.Types.{CType}
use Rattle.c_check_rules.specs.Kinds.{same_integers}
use Rattle.c_check_typing.specs.declared.fault.CheckKind.{CheckKind}
use Rattle.c_check_typing.specs.declared.fault.CheckKind.TheVariants.{BadType, ManyParams, ManyPointers, FrameLarge}
use Rattle.c_check_typing.specs.Refusals.{breaks}
use Rattle.c_check_statements.specs.declared.state.State.{State}
use Rattle.c_check_statements.specs.declared.state.BodyVariable.{BodyVariable}
use Rattle.c_check_statements.specs.Declarations.{and_then, parameter_declared, function_declared, function_number, is_main}
use Rattle.c_check_statements.specs.Frames.{no_room, room_of, is_large, variables_from}
use Rattle.c_check_statements.specs.Statements.{maybe_statement}
use Rattle.c_check_statements.specs.Waits.{waits_stmt}
use Rattle.c_check_statements.specs.Walks.{Walk, ◌then◌, walk_all, at_node, inside}

-- ---- parameters

abbrev pub parameter : Decl → Walk
parameter d state = record { state = (parameter_declared d state).state; broken = (parameter_declared d state).broken }

-- ---- the rules of a function

abbrev pub is_int : Base → Bool
is_int b.Void = false
is_int (b.Int kind) = same_integers kind I32
is_int (b.Struct tag) = false

abbrev pub has_none : List Decl → Bool
has_none [] = true
has_none (d ∷ more) = false

-- `int main(void)`
abbrev pub is_main_form : Decl → List Decl → Bool
is_main_form d params = is_int d.base && (d.stars == 0 && has_none params)

abbrev pub pointers_in : List Decl → ℕ
pointers_in [] = 0
pointers_in (d ∷ more) = (if d.stars == 0 then 0 else 1) + pointers_in more

-- the parameters and locals of the function
abbrev pub variables_of : State → List BodyVariable
variables_of state = variables_from 0 state.notes.taken state.scope.made

-- more than 80 values wait at one place of the body, or its variables have no room
abbrev pub is_frame_large : Option Stmt → State → Bool
is_frame_large None state = false
is_frame_large (Some body) state = nat_lt 80 (waits_stmt body) || is_large (room_of state.scope.structs no_room (variables_of state))

abbrev pub function_kinds : Decl → List Decl → Option Stmt → State → List CheckKind
function_kinds d params body state = breaks BadType (is_main d.name && not (is_main_form d params)) ++ (breaks ManyParams (nat_lt 6 (length params))
    ++ (breaks ManyPointers (nat_lt 4 (pointers_in params)) ++ breaks FrameLarge (is_frame_large body state)))

abbrev pub ends_function : Decl → List Decl → Option Stmt → Place → Walk
ends_function d params body place state = at_node place (function_kinds d params body state) state

-- ---- functions

-- a function begins without names of its own, and gives this, if it is known
abbrev pub enter_function : Option CType → State → State
enter_function result state = record state {
  scope = record state.scope { locals = []; from = 0; made = []; result = result; in_loop = false; at_body = true };
  notes = record state.notes { taken = [] };
}

-- a function with a body is noted with its variables
abbrev pub with_body : (number : ℕ) → Option Stmt → State → State
with_body number None state = state
with_body number (Some body) state = record state { bodies = state.bodies ++ record { number = number; variables = variables_of state } ∷ [] }

-- behind a function its names are gone
abbrev pub without_names : State → State
without_names state = record state {
  scope = record state.scope { locals = []; from = 0; made = []; result = None; in_loop = false; at_body = false };
  notes = record state.notes { taken = [] };
}

abbrev pub leave_function : (number : ℕ) → Option Stmt → (old new : State) → State
leave_function number body old new = without_names (with_body number body new)

abbrev pub function_inner : Decl → List Decl → Option Stmt → Place → Walk
function_inner d params body place = walk_all (map parameter params) then (maybe_statement body then ends_function d params body place)

abbrev pub function_after : (number : ℕ) → Decl → List Decl → Option Stmt → Place → Option CType → Walk
function_after number d params body place result = inside (enter_function result) (function_inner d params body place) (leave_function number body)

-- a function is known from its declaration on, so also in its own body
abbrev pub function_walk : Decl → List Decl → Option Stmt → Place → Walk
function_walk d params body place state = and_then (function_declared (is_some body) params d state)
    (function_after (function_number d.name state.scope) d params body place)
