-- A function with a body, as it is elaborated.
use Rattle.std.specs.Prelude.{ℕ, Bool, List, ◌++◌}
use Rattle.c_tree.specs.declared.tree.Stmt.{Stmt}
use Rattle.bounds_plan.specs.meaning.Core.{Statement}
use Rattle.bounds_plan.specs.meaning.Functions.{Parameter, Framed_variable, FunctionOfC}
use Rattle.bounds_plan.specs.elaboration.Statements.{Stated, declarations}
use Rattle.bounds_plan.specs.elaboration.Functions.{next_types, function_with}
use Rattle.steps_facts.specs.Seen.{reached_of}
use Rattle.steps_source.specs.declared.source.PlannedSource.{PlannedSource}
use Rattle.steps_items.specs.declared.gone.Gone.{Gone}
use Rattle.steps_items.specs.declared.gone.FunctionHead.{FunctionHead}
use Rattle.steps_items.specs.Around.{around_at, signature_at}
use Rattle.steps_items.specs.Bodies.{frame_at, around_inside}
use Rattle.c_emit_statements.specs.Bodies.{statement}

-- a function by its parts; the variables in its data frame have no part in its steps
abbrev pub function_of : (parameters : List Parameter) (privates : List Bool) (frame : ℕ) → Statement
    → (variables : List Framed_variable) → FunctionOfC
function_of parameters privates frame body variables =
    record { parameters = parameters; privates = privates; variables = variables; frame = frame; body = body }

-- the body of a function with this head, which stands next in a planned source
abbrev pub stated_inside : PlannedSource → Gone → FunctionHead → Stmt → Stated
stated_inside source gone head body = statement body (around_inside source gone head body) (reached_of gone.after)

-- and that function
abbrev pub function_inside : PlannedSource → Gone → FunctionHead → Stmt → FunctionOfC
function_inside source gone head body = let around = around_at source gone in
    let parameters = (signature_at source head).parameters in
    function_with around.structs parameters (parameters ++ next_types around (reached_of gone.after) (declarations body))
    (frame_at source gone) (stated_inside source gone head body).statement
