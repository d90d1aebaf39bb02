use Rattle.std.proofs.Common.{List, subst, rules}
use Rattle.std.specs.Prelude.{Some}
use Rattle.c_check_rules.specs.declared.names.StructInfo.{StructInfo}
use Rattle.c_check_statements.specs.Walks.{Judges}
use Rattle.c_check_statements.specs.Statements.{local_kinds}
use Rattle.c_check_statements.proofs.Steps.{then_stops, then_ends, node_ends, declared_stops, declared_ends}
use Rattle.c_check_statements.proofs.statements.read_local.Goals as goal

pub returns-in_err-kind : goal.returns-in_err-kind
returns-in_err-kind c = declared_stops _ c.in_err-kind.ensures (search rules)

pub returns-in_err-read_maybe_init : goal.returns-in_err-read_maybe_init
returns-in_err-read_maybe_init c = declared_ends _ c.in_ok-kind.ensures (then_stops _ _ c.in_err-read_maybe_init.ensures (search rules))

pub returns : goal.returns
returns c = declared_ends _ c.in_ok-kind.ensures (then_ends _ _ c.in_ok-read_maybe_init.ensures
    (node_ends (subst (λ (s : List StructInfo). Judges (local_kinds s c.args.init.now (Some c.in_ok-kind.kind)) c.args.place c.judge_local.result) c.as_slice.ensures c.judge_local.ensures)))
