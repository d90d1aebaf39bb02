-- The plan of an accepted source, by what is known of it.
use Rattle.std.specs.Prelude.{ℕ, ◌+◌, List, map, length}
use Rattle.c_tree.specs.declared.tree.Tree.{Tree}
use Rattle.c_tree.specs.declared.tree.Item.{Item}
use Rattle.c_check_rules.specs.declared.names.Variable.{Variable as Known}
use Rattle.c_check_statements.specs.declared.state.State.{State}
use Rattle.c_check_statements.specs.declared.state.Body.{Body}
use Rattle.c_check_statements.specs.declared.state.BodyVariable.{BodyVariable}
use Rattle.c_check.specs.Accepted.{after}
use Rattle.c_check.specs.Standing.{structs_seen}
use Rattle.place_plan.specs.declared.plans.Plan.{Plan}
use Rattle.place_plan.specs.Data.{Global, global, globals_end}
use Rattle.place_plan.specs.Frames.{Variable, variable}
use Rattle.place_plan.specs.Plans.{planned}

abbrev pub global_known : Known → Global
global_known v = global v.kind v.defined

abbrev pub variable_known : BodyVariable → Variable
variable_known v = variable v.kind v.taken

abbrev pub body_known : Body → List Variable
body_known b = map variable_known b.variables

-- where the globals stand in order of their first declarations, the bytes of the data, and the frames of the functions with a body
abbrev pub plan_by : State → List Item → Plan
plan_by state items = planned (structs_seen state.scope.structs) (map global_known state.scope.variables) state.global_items state.notes.constants state.notes.literals (map body_known state.bodies) items

unfoldable pub plan_of : Tree → Plan
plan_of tree = plan_by (after tree) tree.items

-- the first byte behind the globals, where the literals stand, and the bytes of all
abbrev pub globals_size : State → ℕ
globals_size state = globals_end (structs_seen state.scope.structs) 0 (map global_known state.scope.variables)

unfoldable pub image_size : Tree → ℕ
image_size tree = globals_size (after tree) + length (after tree).notes.literals
