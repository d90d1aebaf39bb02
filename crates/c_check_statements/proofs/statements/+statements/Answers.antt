use Rattle.std.proofs.Common.{refl, rules, map}
use Rattle.c_check_statements.specs.Walks.{stay, walk_all}
use Rattle.c_check_statements.specs.Statements.{statement, test_kinds, enter_loop, leave_loop}
use Rattle.c_check_statements.proofs.Steps.{then_stops, then_ends, value_stops, value_ends, value_is, node_of, node_ends, list_stops, list_goes, inside_ends, inside_stops}
use Rattle.c_check_statements.proofs.Forms.{walks_by, if_form, while_form, do_form, for_form, break_form, continue_form}
use Rattle.c_check_statements.proofs.Blocks.{stay_ends, then_nothing, block_stops, block_ends, for_as}
use Rattle.c_check_statements.proofs.statements.+statements.Goals as goal

pub read_all-returns-in_err-read_stmt : goal.read_all-returns-in_err-read_stmt
read_all-returns-in_err-read_stmt t c = list_stops statement c.args.all.now c.all.stmt-index c.stmt-item.result c.all.invariant c.all-test.true c.stmt-item.is c.in_err-read_stmt.ensures (search rules)

pub read_all-all-preserved : goal.read_all-all-preserved
read_all-all-preserved t c = list_goes statement c.args.all.now c.all.stmt-index c.stmt-item.result c.all.invariant c.all-test.true c.stmt-item.is c.in_ok-read_stmt.ensures

pub read_block-returns-in_err-read_all : goal.read_block-returns-in_err-read_all
read_block-returns-in_err-read_all t c = block_stops (walk_all (map statement c.args.all.now)) c.args.state.now (search rules) c.in_err-read_all.ensures (search rules) (search rules)

pub read_block-returns : goal.read_block-returns
read_block-returns t c = block_ends (walk_all (map statement c.args.all.now)) c.args.state.now (search rules) c.in_ok-read_all.ensures (search rules) (search rules)

pub read_body-returns-in_err-read_stmt : goal.read_body-returns-in_err-read_stmt
read_body-returns-in_err-read_stmt t c = inside_stops enter_loop (statement c.args.body.now) leave_loop c.in_err-read_stmt.ensures (search rules)

pub read_body-returns : goal.read_body-returns
read_body-returns t c = inside_ends enter_loop (statement c.args.body.now) leave_loop c.in_ok-read_stmt.ensures refl

pub read_for-returns-in_err-t-in-Some : goal.read_for-returns-in_err-t-in-Some
read_for-returns-in_err-t-in-Some t c = for_as _ _ _ _ c.in-Some.is (then_stops _ _ (value_stops c.in_err-t-in-Some.ensures) (search rules))

pub read_for-returns-in_err-read_maybe-in-Some : goal.read_for-returns-in_err-read_maybe-in-Some
read_for-returns-in_err-read_maybe-in-Some t c = for_as _ _ _ _ c.in-Some.is (then_ends _ _ (value_ends c.in_ok-t-in-Some.ensures) (then_stops _ _ c.in_err-read_maybe-in-Some.ensures (search rules)))

pub read_for-returns-in_err-read_body-in-Some : goal.read_for-returns-in_err-read_body-in-Some
read_for-returns-in_err-read_body-in-Some t c = for_as _ _ _ _ c.in-Some.is (then_ends _ _ (value_ends c.in_ok-t-in-Some.ensures) (then_ends _ _ c.in_ok-read_maybe-in-Some.ensures (then_stops _ _ c.in_err-read_body-in-Some.ensures (search rules))))

pub read_for-returns-in_err-read_maybe-in-None : goal.read_for-returns-in_err-read_maybe-in-None
read_for-returns-in_err-read_maybe-in-None t c = for_as _ _ _ _ c.in-None.is (then_ends stay _ stay_ends (then_stops _ _ c.in_err-read_maybe-in-None.ensures (search rules)))

pub read_for-returns-in_ok-read_body-in-Some : goal.read_for-returns-in_ok-read_body-in-Some
read_for-returns-in_ok-read_body-in-Some t c = for_as _ _ _ _ c.in-Some.is (then_ends _ _ (value_ends c.in_ok-t-in-Some.ensures) (then_ends _ _ c.in_ok-read_maybe-in-Some.ensures
    (then_ends _ _ c.in_ok-read_body-in-Some.ensures (node_of test_kinds (value_is c.in_ok-t-in-Some.ensures) c.judge_test.ensures))))

pub read_for-returns-in_ok-read_maybe-in-None : goal.read_for-returns-in_ok-read_maybe-in-None
read_for-returns-in_ok-read_maybe-in-None t c = for_as _ _ _ _ c.in-None.is (then_ends stay _ stay_ends (then_ends _ _ c.in_ok-read_maybe-in-None.ensures (then_nothing _ _ _ c.read_body-in-None.ensures)))

pub read_stmt-returns-in_err-t-in-If : goal.read_stmt-returns-in_err-t-in-If
read_stmt-returns-in_err-t-in-If t c = walks_by (if_form c.args.stmt.now _ _ c.in-If.then _ _ c.in-If.is refl) (then_stops _ _ (value_stops c.in_err-t-in-If.ensures) (search rules))

pub read_stmt-returns-in_err-read_stmt-in-If : goal.read_stmt-returns-in_err-read_stmt-in-If
read_stmt-returns-in_err-read_stmt-in-If t c = walks_by (if_form c.args.stmt.now _ _ _ _ _ c.in-If.is c.get.ensures) (then_ends _ _ (value_ends c.in_ok-t-in-If.ensures) (then_stops _ _ c.in_err-read_stmt-in-If.ensures (search rules)))

pub read_stmt-returns-in_err-read_other-in-If : goal.read_stmt-returns-in_err-read_other-in-If
read_stmt-returns-in_err-read_other-in-If t c = walks_by (if_form c.args.stmt.now _ _ _ _ _ c.in-If.is c.get.ensures) (then_ends _ _ (value_ends c.in_ok-t-in-If.ensures) (then_ends _ _ c.in_ok-read_stmt-in-If.ensures (then_stops _ _ c.in_err-read_other-in-If.ensures (search rules))))

pub read_stmt-returns-in_err-t-in-While : goal.read_stmt-returns-in_err-t-in-While
read_stmt-returns-in_err-t-in-While t c = walks_by (while_form c.args.stmt.now _ _ c.in-While.body _ c.in-While.is refl) (then_stops _ _ (value_stops c.in_err-t-in-While.ensures) (search rules))

pub read_stmt-returns-in_err-read_body-in-While : goal.read_stmt-returns-in_err-read_body-in-While
read_stmt-returns-in_err-read_body-in-While t c = walks_by (while_form c.args.stmt.now _ _ _ _ c.in-While.is c.get-in-While.ensures) (then_ends _ _ (value_ends c.in_ok-t-in-While.ensures) (then_stops _ _ c.in_err-read_body-in-While.ensures (search rules)))

pub read_stmt-returns-in_err-read_body-in-DoWhile : goal.read_stmt-returns-in_err-read_body-in-DoWhile
read_stmt-returns-in_err-read_body-in-DoWhile t c = walks_by (do_form c.args.stmt.now _ _ _ _ c.in-DoWhile.is c.get-in-DoWhile.ensures) (then_stops _ _ c.in_err-read_body-in-DoWhile.ensures (search rules))

pub read_stmt-returns-in_err-read_maybe-in-For : goal.read_stmt-returns-in_err-read_maybe-in-For
read_stmt-returns-in_err-read_maybe-in-For t c = walks_by (for_form c.args.stmt.now _ _ _ _ c.in-For.body _ c.in-For.is refl) (then_stops _ _ c.in_err-read_maybe-in-For.ensures (search rules))

pub read_stmt-returns-in_ok-read_other-in-If : goal.read_stmt-returns-in_ok-read_other-in-If
read_stmt-returns-in_ok-read_other-in-If t c = walks_by (if_form c.args.stmt.now _ _ _ _ _ c.in-If.is c.get.ensures) (then_ends _ _ (value_ends c.in_ok-t-in-If.ensures) (then_ends _ _ c.in_ok-read_stmt-in-If.ensures
    (then_ends _ _ c.in_ok-read_other-in-If.ensures (node_of test_kinds (value_is c.in_ok-t-in-If.ensures) c.judge_test.ensures))))

pub read_stmt-returns-in_ok-read_body-in-While : goal.read_stmt-returns-in_ok-read_body-in-While
read_stmt-returns-in_ok-read_body-in-While t c = walks_by (while_form c.args.stmt.now _ _ _ _ c.in-While.is c.get-in-While.ensures) (then_ends _ _ (value_ends c.in_ok-t-in-While.ensures)
    (then_ends _ _ c.in_ok-read_body-in-While.ensures (node_of test_kinds (value_is c.in_ok-t-in-While.ensures) c.judge_test-in-While.ensures)))

pub read_stmt-returns-in_ok-read_body-in-DoWhile : goal.read_stmt-returns-in_ok-read_body-in-DoWhile
read_stmt-returns-in_ok-read_body-in-DoWhile t c = walks_by (do_form c.args.stmt.now _ _ _ _ c.in-DoWhile.is c.get-in-DoWhile.ensures) (then_ends _ _ c.in_ok-read_body-in-DoWhile.ensures c.read_test.ensures)

pub read_stmt-returns-in_ok-read_maybe-in-For : goal.read_stmt-returns-in_ok-read_maybe-in-For
read_stmt-returns-in_ok-read_maybe-in-For t c = walks_by (for_form c.args.stmt.now _ _ _ _ _ _ c.in-For.is c.get-in-For.ensures) (then_ends _ _ c.in_ok-read_maybe-in-For.ensures c.read_for.ensures)

pub read_stmt-returns-in-Break : goal.read_stmt-returns-in-Break
read_stmt-returns-in-Break t c = walks_by (break_form c.args.stmt.now _ c.in-Break.is) (node_ends c.read_jump.ensures)

pub read_stmt-returns-in-Continue : goal.read_stmt-returns-in-Continue
read_stmt-returns-in-Continue t c = walks_by (continue_form c.args.stmt.now _ c.in-Continue.is) (node_ends c.read_jump-in-Continue.ensures)
