use Rattle.std.proofs.Common.{Bool, subst, not, rules}
use Rattle.std.specs.Prelude.{Option, Some}
use Rattle.c_check_typing.specs.declared.typed.Typed.{Typed}
use Rattle.c_check_typing.specs.declared.fault.CheckKind.TheVariants.{BadType}
use Rattle.c_check_typing.specs.Refusals.{breaks}
use Rattle.c_check_statements.specs.Walks.{stay, Judges}
use Rattle.c_check_statements.specs.Statements.{return_kinds}
use Rattle.c_check_statements.proofs.Steps.{then_stops, then_ends, value_stops, value_ends, value_is, node_of, node_ends}
use Rattle.c_check_statements.proofs.Blocks.{stay_ends, return_as}
use Rattle.c_check_statements.proofs.statements.read_return.Goals as goal

pub returns-in_err-t-in-Some : goal.returns-in_err-t-in-Some
returns-in_err-t-in-Some c = return_as _ _ c.in-Some.is (then_stops _ _ (value_stops c.in_err-t-in-Some.ensures) (search rules))

pub returns-in_ok-t-in-Some : goal.returns-in_ok-t-in-Some
returns-in_ok-t-in-Some c = return_as _ _ c.in-Some.is (then_ends _ _ (value_ends c.in_ok-t-in-Some.ensures)
    (node_of (λ (t : Option Typed). return_kinds c.read_value.new.state.scope.result (Some c.in-Some.expr) t) (value_is c.in_ok-t-in-Some.ensures) c.judge_value.ensures))

pub returns-in-None : goal.returns-in-None
returns-in-None c = return_as _ _ c.in-None.is (then_ends stay _ stay_ends (node_ends c.judge_no_value.ensures))
