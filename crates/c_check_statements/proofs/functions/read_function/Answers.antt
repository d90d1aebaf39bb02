use Rattle.std.proofs.Common.{ℕ, List, Bool, ap, ◌∙◌, rules}
use Rattle.std.specs.Prelude.{Some}
use Rattle.c_check_statements.specs.Declarations.{function_declared, function_number}
use Rattle.c_check_statements.specs.Functions.{enter_function, function_inner, leave_function, with_body, without_names}
use Rattle.c_check_statements.proofs.Steps.{declared_by, declared_stops, declared_ends, inside_ends, inside_stops}
use Rattle.c_check_statements.proofs.Blocks.{in_state}
use Rattle.c_check_statements.proofs.functions.read_function.Goals as goal

pub returns-in_err-kind : goal.returns-in_err-kind
returns-in_err-kind c = declared_stops _ (declared_by (ap (λ (b : Bool). function_declared b c.args.params.now c.args.decl.now c.args.state.now) c.is_some.ensures) c.in_err-kind.ensures) (search rules)

pub returns-in_err-read_inner : goal.returns-in_err-read_inner
returns-in_err-read_inner c = declared_ends _ (declared_by (ap (λ (b : Bool). function_declared b c.args.params.now c.args.decl.now c.args.state.now) c.is_some.ensures) c.in_ok-kind.ensures)
    (inside_stops (enter_function (Some c.in_ok-kind.kind)) (function_inner c.args.decl.now c.args.params.now c.args.body.now c.args.place) (leave_function (function_number c.args.decl.now.name c.args.state.now.scope) c.args.body.now)
    (in_state (function_inner c.args.decl.now c.args.params.now c.args.body.now c.args.place) c.enter_function.ensures c.in_err-read_inner.ensures) (search rules))

pub returns : goal.returns
returns c = declared_ends _ (declared_by (ap (λ (b : Bool). function_declared b c.args.params.now c.args.decl.now c.args.state.now) c.is_some.ensures) c.in_ok-kind.ensures)
    (inside_ends (enter_function (Some c.in_ok-kind.kind)) (function_inner c.args.decl.now c.args.params.now c.args.body.now c.args.place) (leave_function (function_number c.args.decl.now.name c.args.state.now.scope) c.args.body.now)
    (in_state (function_inner c.args.decl.now c.args.params.now c.args.body.now c.args.place) c.enter_function.ensures c.in_ok-read_inner.ensures)
    (c.leave_function.ensures ∙ ap without_names (c.in_ok-note_body.ensures ∙ ap (λ (n : ℕ). with_body n c.args.body.now c.read_inner.new.state) (c.function_number-number.ensures ∙ ap (λ (n : List ℕ). function_number n c.args.state.now.scope) c.as_slice.ensures))))
