use Rattle.c_check_expressions.proofs.Forms.{reads_as, stops_as, number_is, size_of_kind_is, unary_is, step_by_is, member_is, arrow_is, cast_is, size_of_value_is, binary_is, assign_is, index_is, cond_is, call_is}
use Rattle.std.proofs.Common.{refl, rules}
use Rattle.c_tree.specs.declared.tree.Expr.{the_lemmas}
use Rattle.c_check_expressions.proofs.Nodes.{arguments_stop, arguments_go, arguments_end, next_argument, no_argument, leaf_ends, one_ends, one_stops, two_ends, two_stops, two_stops_late, three_ends, three_stops, three_stops_late, three_stops_last, call_ends, call_stops, unevaluated_reads, unevaluated_stops}
use Rattle.c_check_expressions.proofs.walk.+walk.Goals as goal

-- src/walk.rt:107:5
pub read_args-args-2-init : goal.read_args-args-2-init
read_args-args-2-init t c = record { broken = refl; fit = refl; after = refl }

-- src/walk.rt:108:17
pub read_args-returns-in_err-t : goal.read_args-returns-in_err-t
read_args-returns-in_err-t t c = arguments_stop _ _ _ _ _ _ _ c.args-2.invariant (next_argument c.args.args.now c.args-2.arg-index c.arg-item.result c.args-2-test.true c.arg-item.is) c.takes_function.ensures c.in_err-t.ensures (search rules)

-- src/walk.rt:107:5
pub read_args-args-2-preserved : goal.read_args-args-2-preserved
read_args-args-2-preserved t c = arguments_go _ _ _ _ _ _ _ _ _ _ c.args-2.invariant (next_argument c.args.args.now c.args-2.arg-index c.arg-item.result c.args-2-test.true c.arg-item.is) c.takes_function.ensures c.in_ok-t.ensures c.in_ok-fits.ensures c.both-fit.ensures c.params_after-left.ensures

pub read_args-returns : goal.read_args-returns
read_args-returns t c = arguments_end _ _ _ _ _ _ c.args-2.invariant (no_argument c.args.args.now c.args-2.arg-index c.args-2-test.false) c.is_empty.ensures c.both.ensures

-- src/walk.rt:37:21
pub read_expr-returns-in_err-t-in-Unary : goal.read_expr-returns-in_err-t-in-Unary
read_expr-returns-in_err-t-in-Unary t c = stops_as (unary_is c.args.expr.now _ _ _ _ _ c.in-Unary.is c.get.ensures) (one_stops _ _ c.in_err-t-in-Unary.ensures) (search rules)

-- src/walk.rt:41:21
pub read_expr-returns-in_err-t-in-Binary : goal.read_expr-returns-in_err-t-in-Binary
read_expr-returns-in_err-t-in-Binary t c = stops_as (binary_is c.args.expr.now _ _ _ _ c.in-Binary.b _ _ c.in-Binary.is c.get-in-Binary.ensures refl) (two_stops _ _ _ c.in_err-t-in-Binary.ensures) (search rules)

-- src/walk.rt:42:21
pub read_expr-returns-in_err-u-in-Binary : goal.read_expr-returns-in_err-u-in-Binary
read_expr-returns-in_err-u-in-Binary t c = stops_as (binary_is c.args.expr.now _ _ _ _ _ _ _ c.in-Binary.is c.get-in-Binary.ensures c.get-in-Binary-2.ensures) (two_stops_late _ _ c.in_ok-t-in-Binary.ensures c.in_err-u-in-Binary.ensures) (search rules)

-- src/walk.rt:46:21
pub read_expr-returns-in_err-t-in-Assign : goal.read_expr-returns-in_err-t-in-Assign
read_expr-returns-in_err-t-in-Assign t c = stops_as (assign_is c.args.expr.now _ _ _ _ c.in-Assign.b _ _ c.in-Assign.is c.get-in-Assign.ensures refl) (two_stops _ _ _ c.in_err-t-in-Assign.ensures) (search rules)

-- src/walk.rt:47:21
pub read_expr-returns-in_err-u-in-Assign : goal.read_expr-returns-in_err-u-in-Assign
read_expr-returns-in_err-u-in-Assign t c = stops_as (assign_is c.args.expr.now _ _ _ _ _ _ _ c.in-Assign.is c.get-in-Assign.ensures c.get-in-Assign-2.ensures) (two_stops_late _ _ c.in_ok-t-in-Assign.ensures c.in_err-u-in-Assign.ensures) (search rules)

-- src/walk.rt:51:21
pub read_expr-returns-in_err-t-in-StepBy : goal.read_expr-returns-in_err-t-in-StepBy
read_expr-returns-in_err-t-in-StepBy t c = stops_as (step_by_is c.args.expr.now _ _ _ _ _ _ c.in-StepBy.is c.get-in-StepBy.ensures) (one_stops _ _ c.in_err-t-in-StepBy.ensures) (search rules)

-- src/walk.rt:55:21
pub read_expr-returns-in_err-s-in-Cond : goal.read_expr-returns-in_err-s-in-Cond
read_expr-returns-in_err-s-in-Cond t c = stops_as (cond_is c.args.expr.now _ _ _ _ c.in-Cond.a c.in-Cond.b _ _ c.in-Cond.is c.get-in-Cond.ensures refl refl) (three_stops _ _ _ _ c.in_err-s-in-Cond.ensures) (search rules)

-- src/walk.rt:56:21
pub read_expr-returns-in_err-t-in-Cond : goal.read_expr-returns-in_err-t-in-Cond
read_expr-returns-in_err-t-in-Cond t c = stops_as (cond_is c.args.expr.now _ _ _ _ _ c.in-Cond.b _ _ c.in-Cond.is c.get-in-Cond.ensures c.get-in-Cond-2.ensures refl) (three_stops_late _ _ _ c.in_ok-s-in-Cond.ensures c.in_err-t-in-Cond.ensures) (search rules)

-- src/walk.rt:57:21
pub read_expr-returns-in_err-u-in-Cond : goal.read_expr-returns-in_err-u-in-Cond
read_expr-returns-in_err-u-in-Cond t c = stops_as (cond_is c.args.expr.now _ _ _ _ _ _ _ _ c.in-Cond.is c.get-in-Cond.ensures c.get-in-Cond-2.ensures c.get-in-Cond-3.ensures) (three_stops_last _ _ c.in_ok-s-in-Cond.ensures c.in_ok-t-in-Cond.ensures c.in_err-u-in-Cond.ensures) (search rules)

-- src/walk.rt:62:23
pub read_expr-returns-in_err-fit-in-Call : goal.read_expr-returns-in_err-fit-in-Call
read_expr-returns-in_err-fit-in-Call t c = stops_as (call_is c.args.expr.now _ _ _ _ _ _ _ c.in-Call.is c.as_slice-in-Call.ensures c.as_slice-in-Call-2.ensures c.in_ok-found-in-Call.ensures) (call_stops _ _ _ _ _ c.params_of.ensures c.in_err-fit-in-Call.ensures) (search rules)

-- src/walk.rt:66:21
pub read_expr-returns-in_err-t-in-Index : goal.read_expr-returns-in_err-t-in-Index
read_expr-returns-in_err-t-in-Index t c = stops_as (index_is c.args.expr.now _ _ _ c.in-Index.i _ _ c.in-Index.is c.get-in-Index.ensures refl) (two_stops _ _ _ c.in_err-t-in-Index.ensures) (search rules)

-- src/walk.rt:67:21
pub read_expr-returns-in_err-u-in-Index : goal.read_expr-returns-in_err-u-in-Index
read_expr-returns-in_err-u-in-Index t c = stops_as (index_is c.args.expr.now _ _ _ _ _ _ c.in-Index.is c.get-in-Index.ensures c.get-in-Index-2.ensures) (two_stops_late _ _ c.in_ok-t-in-Index.ensures c.in_err-u-in-Index.ensures) (search rules)

-- src/walk.rt:71:21
pub read_expr-returns-in_err-t-in-Member : goal.read_expr-returns-in_err-t-in-Member
read_expr-returns-in_err-t-in-Member t c = stops_as (member_is c.args.expr.now _ _ _ c.in-Member.name _ _ c.in-Member.is c.get-in-Member.ensures refl) (one_stops _ _ c.in_err-t-in-Member.ensures) (search rules)

-- src/walk.rt:75:21
pub read_expr-returns-in_err-t-in-Arrow : goal.read_expr-returns-in_err-t-in-Arrow
read_expr-returns-in_err-t-in-Arrow t c = stops_as (arrow_is c.args.expr.now _ _ _ c.in-Arrow.name _ _ c.in-Arrow.is c.get-in-Arrow.ensures refl) (one_stops _ _ c.in_err-t-in-Arrow.ensures) (search rules)

-- src/walk.rt:79:21
pub read_expr-returns-in_err-t-in-Cast : goal.read_expr-returns-in_err-t-in-Cast
read_expr-returns-in_err-t-in-Cast t c = stops_as (cast_is c.args.expr.now _ _ _ _ _ _ c.in-Cast.is c.get-in-Cast.ensures) (one_stops _ _ c.in_err-t-in-Cast.ensures) (search rules)

-- src/walk.rt:87:21
pub read_expr-returns-in_err-t-in-SizeOfValue : goal.read_expr-returns-in_err-t-in-SizeOfValue
read_expr-returns-in_err-t-in-SizeOfValue t c = stops_as (size_of_value_is c.args.expr.now _ _ _ _ c.in-SizeOfValue.is c.get-in-SizeOfValue.ensures) (one_stops _ _ (unevaluated_stops c.in_err-t-in-SizeOfValue.ensures)) (search rules)

-- src/walk.rt:18:1
pub read_expr-returns-in-Number : goal.read_expr-returns-in-Number
read_expr-returns-in-Number t c = reads_as (number_is c.args.expr.now _ _ _ _ c.in-Number.is) (leaf_ends c.end_number.ensures)

-- src/walk.rt:18:1
pub read_expr-returns-in-Text : goal.read_expr-returns-in-Text
read_expr-returns-in-Text t c = search (rules, the_lemmas, leaf_ends)

-- src/walk.rt:18:1
pub read_expr-returns-in_ok-found-in-Var : goal.read_expr-returns-in_ok-found-in-Var
read_expr-returns-in_ok-found-in-Var t c = search (rules, the_lemmas, leaf_ends)

-- src/walk.rt:18:1
pub read_expr-returns-in_ok-t-in-Unary : goal.read_expr-returns-in_ok-t-in-Unary
read_expr-returns-in_ok-t-in-Unary t c = reads_as (unary_is c.args.expr.now _ _ _ _ _ c.in-Unary.is c.get.ensures) (one_ends _ c.in_ok-t-in-Unary.ensures c.end_unary.ensures)

-- src/walk.rt:18:1
pub read_expr-returns-in_ok-u-in-Binary : goal.read_expr-returns-in_ok-u-in-Binary
read_expr-returns-in_ok-u-in-Binary t c = reads_as (binary_is c.args.expr.now _ _ _ _ _ _ _ c.in-Binary.is c.get-in-Binary.ensures c.get-in-Binary-2.ensures) (two_ends _ c.in_ok-t-in-Binary.ensures c.in_ok-u-in-Binary.ensures c.end_binary.ensures)

-- src/walk.rt:18:1
pub read_expr-returns-in_ok-u-in-Assign : goal.read_expr-returns-in_ok-u-in-Assign
read_expr-returns-in_ok-u-in-Assign t c = reads_as (assign_is c.args.expr.now _ _ _ _ _ _ _ c.in-Assign.is c.get-in-Assign.ensures c.get-in-Assign-2.ensures) (two_ends _ c.in_ok-t-in-Assign.ensures c.in_ok-u-in-Assign.ensures c.end_assign.ensures)

-- src/walk.rt:18:1
pub read_expr-returns-in_ok-t-in-StepBy : goal.read_expr-returns-in_ok-t-in-StepBy
read_expr-returns-in_ok-t-in-StepBy t c = reads_as (step_by_is c.args.expr.now _ _ _ _ _ _ c.in-StepBy.is c.get-in-StepBy.ensures) (one_ends _ c.in_ok-t-in-StepBy.ensures c.end_step.ensures)

-- src/walk.rt:18:1
pub read_expr-returns-in_ok-u-in-Cond : goal.read_expr-returns-in_ok-u-in-Cond
read_expr-returns-in_ok-u-in-Cond t c = reads_as (cond_is c.args.expr.now _ _ _ _ _ _ _ _ c.in-Cond.is c.get-in-Cond.ensures c.get-in-Cond-2.ensures c.get-in-Cond-3.ensures) (three_ends _ c.in_ok-s-in-Cond.ensures c.in_ok-t-in-Cond.ensures c.in_ok-u-in-Cond.ensures c.end_choice.ensures)

-- src/walk.rt:18:1
pub read_expr-returns-in_ok-fit-in-Call : goal.read_expr-returns-in_ok-fit-in-Call
read_expr-returns-in_ok-fit-in-Call t c = reads_as (call_is c.args.expr.now _ _ _ _ _ _ _ c.in-Call.is c.as_slice-in-Call.ensures c.as_slice-in-Call-2.ensures c.in_ok-found-in-Call.ensures) (call_ends _ _ _ _ c.params_of.ensures c.in_ok-fit-in-Call.ensures c.end_call.ensures)

-- src/walk.rt:18:1
pub read_expr-returns-in_ok-u-in-Index : goal.read_expr-returns-in_ok-u-in-Index
read_expr-returns-in_ok-u-in-Index t c = reads_as (index_is c.args.expr.now _ _ _ _ _ _ c.in-Index.is c.get-in-Index.ensures c.get-in-Index-2.ensures) (two_ends _ c.in_ok-t-in-Index.ensures c.in_ok-u-in-Index.ensures c.end_index.ensures)

-- src/walk.rt:18:1
pub read_expr-returns-in_ok-t-in-Member : goal.read_expr-returns-in_ok-t-in-Member
read_expr-returns-in_ok-t-in-Member t c = reads_as (member_is c.args.expr.now _ _ _ _ _ _ c.in-Member.is c.get-in-Member.ensures c.as_slice-in-Member.ensures) (one_ends _ c.in_ok-t-in-Member.ensures c.end_member.ensures)

-- src/walk.rt:18:1
pub read_expr-returns-in_ok-t-in-Arrow : goal.read_expr-returns-in_ok-t-in-Arrow
read_expr-returns-in_ok-t-in-Arrow t c = reads_as (arrow_is c.args.expr.now _ _ _ _ _ _ c.in-Arrow.is c.get-in-Arrow.ensures c.as_slice-in-Arrow.ensures) (one_ends _ c.in_ok-t-in-Arrow.ensures c.end_arrow.ensures)

-- src/walk.rt:18:1
pub read_expr-returns-in_ok-t-in-Cast : goal.read_expr-returns-in_ok-t-in-Cast
read_expr-returns-in_ok-t-in-Cast t c = reads_as (cast_is c.args.expr.now _ _ _ _ _ _ c.in-Cast.is c.get-in-Cast.ensures) (one_ends _ c.in_ok-t-in-Cast.ensures c.end_cast.ensures)

-- src/walk.rt:18:1
pub read_expr-returns-in-SizeOfKind : goal.read_expr-returns-in-SizeOfKind
read_expr-returns-in-SizeOfKind t c = reads_as (size_of_kind_is c.args.expr.now _ _ _ _ c.in-SizeOfKind.is) (leaf_ends c.end_size_of_kind.ensures)

-- src/walk.rt:18:1
pub read_expr-returns-in_ok-t-in-SizeOfValue : goal.read_expr-returns-in_ok-t-in-SizeOfValue
read_expr-returns-in_ok-t-in-SizeOfValue t c = reads_as (size_of_value_is c.args.expr.now _ _ _ _ c.in-SizeOfValue.is c.get-in-SizeOfValue.ensures) (one_ends _ (unevaluated_reads c.len-literals.ensures c.len-used.ensures c.truncate.ensures c.truncate-in-SizeOfValue.ensures c.in_ok-t-in-SizeOfValue.ensures) c.end_size.ensures)
