use Rattle.std.proofs.Common.{Bool, ap, rules}
use Rattle.c_check_statements.specs.Declarations.{global_declared}
use Rattle.c_check_statements.proofs.Steps.{declared_by, declared_stops, declared_ends}
use Rattle.c_check_statements.proofs.items.read_global.Goals as goal

pub returns-in_err-kind : goal.returns-in_err-kind
returns-in_err-kind c = declared_stops _ (declared_by (ap (λ (b : Bool). global_declared b c.args.decl.now c.args.state.now) c.is_definition-defined.ensures) c.in_err-kind.ensures) (search rules)

pub returns : goal.returns
returns c = declared_ends _ (declared_by (ap (λ (b : Bool). global_declared b c.args.decl.now c.args.state.now) c.is_definition-defined.ensures) c.in_ok-kind.ensures) c.read_maybe_init.ensures
