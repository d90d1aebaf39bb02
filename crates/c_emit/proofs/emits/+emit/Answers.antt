use Rattle.std.proofs.Common.{◌∙◌, Some, sym, ap}
use Rattle.c_tree.specs.declared.tree.ExprKind.TheVariants as v
use Rattle.bounds_plan.specs.elaboration.Expressions.{expression}
use Rattle.steps_facts.specs.Seen.{view_of, reached_of}
use Rattle.steps_pieces.specs.Put.{put_of}
use Rattle.c_look.proofs.Looked.{word_law, text_law, name_law, single_law, joint_law, assign_law, step_law, choice_law, call_law, index_law, member_law, arrow_law, cast_law, size_law, sizeof_law}
use Rattle.c_emit.proofs.Walks.{on_ok, word_walk, text_walk, name_walk, single_walk, binary_walk, assign_walk, copy_walk, step_walk, choice_walk, call_walk, index_walk, member_walk, arrow_walk, cast_walk, size_walk, sizeof_walk, given_number_walk, given_null_walk, given_pointer_walk, given_whole_walk, given_nothing_walk}
use Rattle.c_emit.proofs.emits.+emit.Goals as goal

pub emit-returns-in_ok-put_word-in-Number-clause-put : goal.emit-returns-in_ok-put_word-in-Number-clause-put
emit-returns-in_ok-put_word-in-Number-clause-put g t c = word_walk c.args.e.now _ _ (g.K.Knows.around c.args.known.now) (reached_of c.args.r) c.args.place c.args.d (put_of c.args.out.now) _ c.in-Number.is c.in_ok-put_word-in-Number.ensures

pub emit-returns-in_ok-put_word-in-Number-clause-seen : goal.emit-returns-in_ok-put_word-in-Number-clause-seen
emit-returns-in_ok-put_word-in-Number-clause-seen g t c = word_law c.args.e.now _ _ (g.K.Knows.around c.args.known.now) (reached_of c.args.r) (view_of c.in_ok-own-in-Number.own) c.in-Number.is c.in_ok-own-in-Number.ensures

pub emit-returns-in_ok-put_text-in-Text-clause-put : goal.emit-returns-in_ok-put_text-in-Text-clause-put
emit-returns-in_ok-put_text-in-Text-clause-put g t c = text_walk c.args.e.now _ _ (g.K.Knows.around c.args.known.now) (reached_of c.args.r) c.args.place c.args.d _ _ _ (put_of c.args.out.now) _ c.in-Text.is c.as_slice-text.ensures c.text_size-size.ensures c.texts-symbol.ensures c.in_ok-at-in-Text.ensures.offset c.in_ok-put_text-in-Text.ensures

pub emit-returns-in_ok-put_text-in-Text-clause-seen : goal.emit-returns-in_ok-put_text-in-Text-clause-seen
emit-returns-in_ok-put_text-in-Text-clause-seen g t c = text_law c.args.e.now _ (g.K.Knows.around c.args.known.now) (reached_of c.args.r) (view_of c.in_ok-own-in-Text.own) c.in-Text.is c.in_ok-own-in-Text.ensures

pub emit-returns-in_ok-put_name-in-Var-clause-put : goal.emit-returns-in_ok-put_name-in-Var-clause-put
emit-returns-in_ok-put_name-in-Var-clause-put g t c = name_walk c.args.e.now _ (g.K.Knows.around c.args.known.now) (reached_of c.args.r) c.args.place c.args.d _ _ (put_of c.args.out.now) _ c.in-Var.is c.in_ok-here-in-Var.ensures.facts c.in_ok-meant-in-Var.ensures.bind c.in_ok-put_name-in-Var.ensures

pub emit-returns-in_ok-put_name-in-Var-clause-seen : goal.emit-returns-in_ok-put_name-in-Var-clause-seen
emit-returns-in_ok-put_name-in-Var-clause-seen g t c = name_law c.args.e.now _ (g.K.Knows.around c.args.known.now) (reached_of c.args.r) (view_of c.in_ok-own-in-Var.own) c.in-Var.is c.in_ok-own-in-Var.ensures

pub emit-returns-in_ok-put_single-in-Unary-clause-put : goal.emit-returns-in_ok-put_single-in-Unary-clause-put
emit-returns-in_ok-put_single-in-Unary-clause-put g t c = single_walk c.args.e.now c.in-Unary.op c.get-operand.result.now (g.K.Knows.around c.args.known.now) (reached_of c.args.r) c.args.place _ c.args.d (view_of c.in_ok-x-in-Unary.x) (view_of c.in_ok-own-in-Unary.own) (put_of c.args.out.now) _ _
    (c.in-Unary.is ∙ ap (λ x. v.Unary c.in-Unary.op x) (sym c.get-operand.ensures)) c.takes_place.ensures c.in_ok-x-in-Unary.ensures.seen c.in_ok-own-in-Unary.ensures c.in_ok-x-in-Unary.ensures.put c.in_ok-put_single-in-Unary.ensures

pub emit-returns-in_ok-put_single-in-Unary-clause-seen : goal.emit-returns-in_ok-put_single-in-Unary-clause-seen
emit-returns-in_ok-put_single-in-Unary-clause-seen g t c = single_law c.args.e.now c.in-Unary.op c.get-operand.result.now (g.K.Knows.around c.args.known.now) (reached_of c.args.r) (view_of c.in_ok-x-in-Unary.x) (view_of c.in_ok-own-in-Unary.own) (c.in-Unary.is ∙ ap (λ x. v.Unary c.in-Unary.op x) (sym c.get-operand.ensures)) c.in_ok-x-in-Unary.ensures.seen c.in_ok-own-in-Unary.ensures

pub emit-returns-in_ok-put_joined-in-Binary-clause-put : goal.emit-returns-in_ok-put_joined-in-Binary-clause-put
emit-returns-in_ok-put_joined-in-Binary-clause-put g t c = binary_walk c.args.e.now c.in-Binary.op c.get-left.result.now c.get-right.result.now (g.K.Knows.around c.args.known.now) (reached_of c.args.r) c.args.place c.args.d _ _ _ (view_of c.in_ok-x-in-Binary.x) (view_of c.in_ok-y-in-Binary.y) (view_of c.in_ok-own-in-Binary.own) (put_of c.args.out.now) _ _ _ _ _
    (c.in-Binary.is ∙ ap (λ x. v.Binary c.in-Binary.op x c.in-Binary.b) (sym c.get-left.ensures) ∙ ap (λ x. v.Binary c.in-Binary.op c.get-left.result.now x) (sym c.get-right.ensures)) c.joint_labels.ensures.labels c.second_at.ensures c.in_ok-first-in-Binary.ensures.first
    c.in_ok-x-in-Binary.ensures.seen c.in_ok-y-in-Binary.ensures
    (joint_law c.args.e.now c.in-Binary.op c.get-left.result.now c.get-right.result.now (g.K.Knows.around c.args.known.now) (reached_of c.args.r) (view_of c.in_ok-x-in-Binary.x) (view_of c.in_ok-y-in-Binary.y) (view_of c.in_ok-own-in-Binary.own)
    (c.in-Binary.is ∙ ap (λ x. v.Binary c.in-Binary.op x c.in-Binary.b) (sym c.get-left.ensures) ∙ ap (λ x. v.Binary c.in-Binary.op c.get-left.result.now x) (sym c.get-right.ensures)) c.in_ok-x-in-Binary.ensures.seen c.in_ok-y-in-Binary.ensures c.in_ok-own-in-Binary.ensures)
    c.in_ok-first-in-Binary.ensures.put c.in_ok-x-in-Binary.ensures.put c.in_ok-put_joint-in-Binary.ensures c.in_ok-emit-in-Binary.ensures.put c.in_ok-put_joined-in-Binary.ensures

pub emit-returns-in_ok-put_joined-in-Binary-clause-seen : goal.emit-returns-in_ok-put_joined-in-Binary-clause-seen
emit-returns-in_ok-put_joined-in-Binary-clause-seen g t c = joint_law c.args.e.now c.in-Binary.op c.get-left.result.now c.get-right.result.now (g.K.Knows.around c.args.known.now) (reached_of c.args.r) (view_of c.in_ok-x-in-Binary.x) (view_of c.in_ok-y-in-Binary.y) (view_of c.in_ok-own-in-Binary.own)
    (c.in-Binary.is ∙ ap (λ x. v.Binary c.in-Binary.op x c.in-Binary.b) (sym c.get-left.ensures) ∙ ap (λ x. v.Binary c.in-Binary.op c.get-left.result.now x) (sym c.get-right.ensures)) c.in_ok-x-in-Binary.ensures.seen c.in_ok-y-in-Binary.ensures c.in_ok-own-in-Binary.ensures

pub emit-returns-in_ok-left-in-Assign-clause-put : goal.emit-returns-in_ok-left-in-Assign-clause-put
emit-returns-in_ok-left-in-Assign-clause-put g t c = copy_walk c.args.e.now c.in-Assign.op c.get-target.result.now c.get-source.result.now (g.K.Knows.around c.args.known.now) (reached_of c.args.r) c.args.place c.args.d (view_of c.in_ok-x-in-Assign.x) (put_of c.args.out.now) _
    (c.in-Assign.is ∙ ap (λ x. v.Assign c.in-Assign.op x c.in-Assign.b) (sym c.get-target.ensures) ∙ ap (λ x. v.Assign c.in-Assign.op c.get-target.result.now x) (sym c.get-source.ensures)) c.in_ok-x-in-Assign.ensures.seen (sym c.is_copied-copied.ensures ∙ c.if-copied.true) c.in_ok-x-in-Assign.ensures.put

pub emit-returns-in_ok-left-in-Assign-clause-seen : goal.emit-returns-in_ok-left-in-Assign-clause-seen
emit-returns-in_ok-left-in-Assign-clause-seen g t c = assign_law c.args.e.now c.in-Assign.op c.get-target.result.now c.get-source.result.now (g.K.Knows.around c.args.known.now) (reached_of c.args.r) (view_of c.in_ok-x-in-Assign.x) (view_of c.in_ok-z-in-Assign.z) (view_of c.in_ok-left-in-Assign.left)
    (c.in-Assign.is ∙ ap (λ x. v.Assign c.in-Assign.op x c.in-Assign.b) (sym c.get-target.ensures) ∙ ap (λ x. v.Assign c.in-Assign.op c.get-target.result.now x) (sym c.get-source.ensures)) c.in_ok-x-in-Assign.ensures.seen c.in_ok-z-in-Assign.ensures c.in_ok-left-in-Assign.ensures

pub emit-returns-in_ok-put_assigned-in-Assign-clause-put : goal.emit-returns-in_ok-put_assigned-in-Assign-clause-put
emit-returns-in_ok-put_assigned-in-Assign-clause-put g t c = assign_walk c.args.e.now c.in-Assign.op c.get-target.result.now c.get-source.result.now (g.K.Knows.around c.args.known.now) (reached_of c.args.r) c.args.place c.args.d _ _ (view_of c.in_ok-x-in-Assign.x) (view_of c.in_ok-y-in-Assign.y) (put_of c.args.out.now) _ _ _
    (c.in-Assign.is ∙ ap (λ x. v.Assign c.in-Assign.op x c.in-Assign.b) (sym c.get-target.ensures) ∙ ap (λ x. v.Assign c.in-Assign.op c.get-target.result.now x) (sym c.get-source.ensures)) c.in_ok-x-in-Assign.ensures.seen c.in_ok-y-in-Assign.ensures.seen (sym c.is_copied-copied.ensures ∙ c.if-copied.false)
    c.assigned_sort-to.ensures c.value_at.ensures c.in_ok-x-in-Assign.ensures.put c.in_ok-y-in-Assign.ensures.put c.in_ok-put_assigned-in-Assign.ensures

pub emit-returns-in_ok-put_assigned-in-Assign-clause-seen : goal.emit-returns-in_ok-put_assigned-in-Assign-clause-seen
emit-returns-in_ok-put_assigned-in-Assign-clause-seen g t c = assign_law c.args.e.now c.in-Assign.op c.get-target.result.now c.get-source.result.now (g.K.Knows.around c.args.known.now) (reached_of c.args.r) (view_of c.in_ok-x-in-Assign.x) (view_of c.in_ok-y-in-Assign.y) (view_of c.in_ok-own-in-Assign.own)
    (c.in-Assign.is ∙ ap (λ x. v.Assign c.in-Assign.op x c.in-Assign.b) (sym c.get-target.ensures) ∙ ap (λ x. v.Assign c.in-Assign.op c.get-target.result.now x) (sym c.get-source.ensures)) c.in_ok-x-in-Assign.ensures.seen c.in_ok-y-in-Assign.ensures.seen c.in_ok-own-in-Assign.ensures

pub emit-returns-in_ok-put_stepped-in-StepBy-clause-put : goal.emit-returns-in_ok-put_stepped-in-StepBy-clause-put
emit-returns-in_ok-put_stepped-in-StepBy-clause-put g t c = step_walk c.args.e.now c.in-StepBy.up c.in-StepBy.before c.get-stepped.result.now (g.K.Knows.around c.args.known.now) (reached_of c.args.r) c.args.place c.args.d (view_of c.in_ok-x-in-StepBy.x) (put_of c.args.out.now) _ _
    (c.in-StepBy.is ∙ ap (λ x. v.StepBy c.in-StepBy.up c.in-StepBy.before x) (sym c.get-stepped.ensures)) c.in_ok-x-in-StepBy.ensures.seen c.in_ok-x-in-StepBy.ensures.put c.in_ok-put_stepped-in-StepBy.ensures

pub emit-returns-in_ok-put_stepped-in-StepBy-clause-seen : goal.emit-returns-in_ok-put_stepped-in-StepBy-clause-seen
emit-returns-in_ok-put_stepped-in-StepBy-clause-seen g t c = step_law c.args.e.now c.in-StepBy.up c.in-StepBy.before c.get-stepped.result.now (g.K.Knows.around c.args.known.now) (reached_of c.args.r) (view_of c.in_ok-x-in-StepBy.x) (view_of c.in_ok-own-in-StepBy.own) (c.in-StepBy.is ∙ ap (λ x. v.StepBy c.in-StepBy.up c.in-StepBy.before x) (sym c.get-stepped.ensures)) c.in_ok-x-in-StepBy.ensures.seen c.in_ok-own-in-StepBy.ensures

pub emit-returns-in_ok-put_choice_end-in-Cond-clause-put : goal.emit-returns-in_ok-put_choice_end-in-Cond-clause-put
emit-returns-in_ok-put_choice_end-in-Cond-clause-put g t c = choice_walk c.args.e.now c.get-test.result.now c.get-one.result.now c.get-other.result.now (g.K.Knows.around c.args.known.now) (reached_of c.args.r) c.args.place c.args.d _ _ (view_of c.in_ok-x-in-Cond.x) (view_of c.in_ok-y-in-Cond.y) (view_of c.in_ok-own-in-Cond.own) (put_of c.args.out.now) _ _ _ _ _ _ _
    (c.in-Cond.is ∙ ap (λ x. v.Cond x c.in-Cond.a c.in-Cond.b) (sym c.get-test.ensures) ∙ ap (λ x. v.Cond c.get-test.result.now x c.in-Cond.b) (sym c.get-one.ensures)
    ∙ ap (λ x. v.Cond c.get-test.result.now c.get-one.result.now x) (sym c.get-other.ensures))
    c.in_ok-x-in-Cond.ensures.seen c.in_ok-y-in-Cond.ensures
    (choice_law c.args.e.now c.get-test.result.now c.get-one.result.now c.get-other.result.now (g.K.Knows.around c.args.known.now) (reached_of c.args.r) (view_of c.in_ok-x-in-Cond.x) (view_of c.in_ok-y-in-Cond.y) (view_of c.in_ok-z-in-Cond.z) (view_of c.in_ok-own-in-Cond.own)
    (c.in-Cond.is ∙ ap (λ x. v.Cond x c.in-Cond.a c.in-Cond.b) (sym c.get-test.ensures) ∙ ap (λ x. v.Cond c.get-test.result.now x c.in-Cond.b) (sym c.get-one.ensures)
    ∙ ap (λ x. v.Cond c.get-test.result.now c.get-one.result.now x) (sym c.get-other.ensures))
    c.in_ok-x-in-Cond.ensures.seen c.in_ok-y-in-Cond.ensures c.in_ok-z-in-Cond.ensures c.in_ok-own-in-Cond.ensures)
    c.choice_of-to.ensures c.in_ok-first-in-Cond.ensures.first c.in_ok-first-in-Cond.ensures.put c.in_ok-x-in-Cond.ensures.put c.in_ok-put_jump_if-in-Cond.ensures c.in_ok-emit_given-in-Cond.ensures.put
    c.in_ok-put_crossing-in-Cond.ensures c.in_ok-emit_given-in-Cond-2.ensures.put c.in_ok-put_choice_end-in-Cond.ensures

pub emit-returns-in_ok-put_choice_end-in-Cond-clause-seen : goal.emit-returns-in_ok-put_choice_end-in-Cond-clause-seen
emit-returns-in_ok-put_choice_end-in-Cond-clause-seen g t c = choice_law c.args.e.now c.get-test.result.now c.get-one.result.now c.get-other.result.now (g.K.Knows.around c.args.known.now) (reached_of c.args.r) (view_of c.in_ok-x-in-Cond.x) (view_of c.in_ok-y-in-Cond.y) (view_of c.in_ok-z-in-Cond.z) (view_of c.in_ok-own-in-Cond.own)
    (c.in-Cond.is ∙ ap (λ x. v.Cond x c.in-Cond.a c.in-Cond.b) (sym c.get-test.ensures) ∙ ap (λ x. v.Cond c.get-test.result.now x c.in-Cond.b) (sym c.get-one.ensures)
    ∙ ap (λ x. v.Cond c.get-test.result.now c.get-one.result.now x) (sym c.get-other.ensures))
    c.in_ok-x-in-Cond.ensures.seen c.in_ok-y-in-Cond.ensures c.in_ok-z-in-Cond.ensures c.in_ok-own-in-Cond.ensures

pub emit-returns-in_ok-put_call-in-Call-clause-put : goal.emit-returns-in_ok-put_call-in-Call-clause-put
emit-returns-in_ok-put_call-in-Call-clause-put g t c = call_walk c.args.e.now c.in-Call.field-0 c.as_slice-all.result.now (g.K.Knows.around c.args.known.now) (reached_of c.args.r) (reached_of c.in_ok-behind-in-Call.behind) c.args.place c.args.d _ _ _ _ _ (view_of c.in_ok-own-in-Call.own) (put_of c.args.out.now) _ _ _
    (c.in-Call.is ∙ ap (λ x. v.Call c.in-Call.field-0 x) (sym c.as_slice-all.ensures)) c.in_ok-behind-in-Call.ensures c.in_ok-meant-in-Call.ensures.bind (ap (λ x. Some x) c.as_slice-wanted.ensures ∙ c.in_ok-sorts-in-Call.ensures) c.call_labels.ensures.labels
    c.in_ok-first-in-Call.ensures.first (call_law c.args.e.now c.in-Call.field-0 c.as_slice-all.result.now (g.K.Knows.around c.args.known.now) (reached_of c.args.r) (reached_of c.in_ok-behind-in-Call.behind) (view_of c.in_ok-own-in-Call.own) (c.in-Call.is ∙ ap (λ x. v.Call c.in-Call.field-0 x) (sym c.as_slice-all.ensures)) c.in_ok-behind-in-Call.ensures c.in_ok-own-in-Call.ensures)
    c.in_ok-first-in-Call.ensures.put c.in_ok-places-in-Call.ensures.put c.in_ok-places-in-Call.ensures.places c.in_ok-put_call-in-Call.ensures

pub emit-returns-in_ok-put_call-in-Call-clause-seen : goal.emit-returns-in_ok-put_call-in-Call-clause-seen
emit-returns-in_ok-put_call-in-Call-clause-seen g t c = call_law c.args.e.now c.in-Call.field-0 c.as_slice-all.result.now (g.K.Knows.around c.args.known.now) (reached_of c.args.r) (reached_of c.in_ok-behind-in-Call.behind) (view_of c.in_ok-own-in-Call.own) (c.in-Call.is ∙ ap (λ x. v.Call c.in-Call.field-0 x) (sym c.as_slice-all.ensures)) c.in_ok-behind-in-Call.ensures c.in_ok-own-in-Call.ensures

pub emit-returns-in_ok-put_element-in-Index-clause-put : goal.emit-returns-in_ok-put_element-in-Index-clause-put
emit-returns-in_ok-put_element-in-Index-clause-put g t c = index_walk c.args.e.now c.get-array.result.now c.get-number.result.now (g.K.Knows.around c.args.known.now) (reached_of c.args.r) c.args.place c.args.d _ _ _ (view_of c.in_ok-x-in-Index.x) (view_of c.in_ok-y-in-Index.y) (view_of c.in_ok-own-in-Index.own) (put_of c.args.out.now) _ _ _ _
    (c.in-Index.is ∙ ap (λ x. v.Index x c.in-Index.i) (sym c.get-array.ensures) ∙ ap (λ x. v.Index c.get-array.result.now x) (sym c.get-number.ensures)) c.in_ok-x-in-Index.ensures.seen c.in_ok-y-in-Index.ensures.seen c.in_ok-own-in-Index.ensures
    c.of_element-rule.ensures.rule c.flags-flags.ensures c.is_nested-nested.ensures
    c.in_ok-x-in-Index.ensures.put c.in_ok-put_addressed-in-Index.ensures c.in_ok-y-in-Index.ensures.put c.in_ok-put_element-in-Index.ensures

pub emit-returns-in_ok-put_element-in-Index-clause-seen : goal.emit-returns-in_ok-put_element-in-Index-clause-seen
emit-returns-in_ok-put_element-in-Index-clause-seen g t c = index_law c.args.e.now c.get-array.result.now c.get-number.result.now (g.K.Knows.around c.args.known.now) (reached_of c.args.r) (view_of c.in_ok-x-in-Index.x) (view_of c.in_ok-y-in-Index.y) (view_of c.in_ok-own-in-Index.own)
    (c.in-Index.is ∙ ap (λ x. v.Index x c.in-Index.i) (sym c.get-array.ensures) ∙ ap (λ x. v.Index c.get-array.result.now x) (sym c.get-number.ensures)) c.in_ok-x-in-Index.ensures.seen c.in_ok-y-in-Index.ensures.seen c.in_ok-own-in-Index.ensures

pub emit-returns-in_ok-put_member-in-Member-clause-put : goal.emit-returns-in_ok-put_member-in-Member-clause-put
emit-returns-in_ok-put_member-in-Member-clause-put g t c = member_walk c.args.e.now c.get-base.result.now c.in-Member.name (g.K.Knows.around c.args.known.now) (reached_of c.args.r) c.args.place c.args.d _ _ (view_of c.in_ok-x-in-Member.x) (view_of c.in_ok-own-in-Member.own) (put_of c.args.out.now) _ _
    (c.in-Member.is ∙ ap (λ x. v.Member x c.in-Member.name) (sym c.get-base.ensures)) c.in_ok-x-in-Member.ensures.seen c.in_ok-own-in-Member.ensures c.in_ok-at-in-Member.ensures.offset c.in_ok-at-in-Member.ensures.rule
    c.in_ok-x-in-Member.ensures.put c.in_ok-put_member-in-Member.ensures

pub emit-returns-in_ok-put_member-in-Member-clause-seen : goal.emit-returns-in_ok-put_member-in-Member-clause-seen
emit-returns-in_ok-put_member-in-Member-clause-seen g t c = member_law c.args.e.now c.get-base.result.now c.in-Member.name (g.K.Knows.around c.args.known.now) (reached_of c.args.r) (view_of c.in_ok-x-in-Member.x) (view_of c.in_ok-own-in-Member.own) (c.in-Member.is ∙ ap (λ x. v.Member x c.in-Member.name) (sym c.get-base.ensures)) c.in_ok-x-in-Member.ensures.seen c.in_ok-own-in-Member.ensures

pub emit-returns-in_ok-put_member-in-Arrow-clause-put : goal.emit-returns-in_ok-put_member-in-Arrow-clause-put
emit-returns-in_ok-put_member-in-Arrow-clause-put g t c = arrow_walk c.args.e.now c.get-pointer.result.now c.in-Arrow.name (g.K.Knows.around c.args.known.now) (reached_of c.args.r) c.args.place c.args.d _ _ (view_of c.in_ok-x-in-Arrow.x) (view_of c.in_ok-own-in-Arrow.own) (put_of c.args.out.now) _ _
    (c.in-Arrow.is ∙ ap (λ x. v.Arrow x c.in-Arrow.name) (sym c.get-pointer.ensures)) c.in_ok-x-in-Arrow.ensures.seen c.in_ok-own-in-Arrow.ensures c.in_ok-at-in-Arrow.ensures.offset c.in_ok-at-in-Arrow.ensures.rule
    c.in_ok-x-in-Arrow.ensures.put c.in_ok-put_member-in-Arrow.ensures

pub emit-returns-in_ok-put_member-in-Arrow-clause-seen : goal.emit-returns-in_ok-put_member-in-Arrow-clause-seen
emit-returns-in_ok-put_member-in-Arrow-clause-seen g t c = arrow_law c.args.e.now c.get-pointer.result.now c.in-Arrow.name (g.K.Knows.around c.args.known.now) (reached_of c.args.r) (view_of c.in_ok-x-in-Arrow.x) (view_of c.in_ok-own-in-Arrow.own) (c.in-Arrow.is ∙ ap (λ x. v.Arrow x c.in-Arrow.name) (sym c.get-pointer.ensures)) c.in_ok-x-in-Arrow.ensures.seen c.in_ok-own-in-Arrow.ensures

pub emit-returns-in_ok-put_cast-in-Cast-clause-put : goal.emit-returns-in_ok-put_cast-in-Cast-clause-put
emit-returns-in_ok-put_cast-in-Cast-clause-put g t c = cast_walk c.args.e.now c.in-Cast.field-0 c.in-Cast.field-1 c.get-inner.result.now (g.K.Knows.around c.args.known.now) (reached_of c.args.r) c.args.place c.args.d (view_of c.in_ok-x-in-Cast.x) (view_of c.in_ok-own-in-Cast.own) (put_of c.args.out.now) _ _
    (c.in-Cast.is ∙ ap (λ x. v.Cast c.in-Cast.field-0 c.in-Cast.field-1 x) (sym c.get-inner.ensures)) c.in_ok-x-in-Cast.ensures.seen c.in_ok-own-in-Cast.ensures c.in_ok-x-in-Cast.ensures.put c.in_ok-put_cast-in-Cast.ensures

pub emit-returns-in_ok-put_cast-in-Cast-clause-seen : goal.emit-returns-in_ok-put_cast-in-Cast-clause-seen
emit-returns-in_ok-put_cast-in-Cast-clause-seen g t c = cast_law c.args.e.now c.in-Cast.field-0 c.in-Cast.field-1 c.get-inner.result.now (g.K.Knows.around c.args.known.now) (reached_of c.args.r) (view_of c.in_ok-x-in-Cast.x) (view_of c.in_ok-own-in-Cast.own) (c.in-Cast.is ∙ ap (λ x. v.Cast c.in-Cast.field-0 c.in-Cast.field-1 x) (sym c.get-inner.ensures)) c.in_ok-x-in-Cast.ensures.seen c.in_ok-own-in-Cast.ensures

pub emit-returns-in_ok-put_word-in-SizeOfKind-clause-put : goal.emit-returns-in_ok-put_word-in-SizeOfKind-clause-put
emit-returns-in_ok-put_word-in-SizeOfKind-clause-put g t c = size_walk c.args.e.now c.in-SizeOfKind.base c.in-SizeOfKind.stars (g.K.Knows.around c.args.known.now) (reached_of c.args.r) c.args.place c.args.d _ (put_of c.args.out.now) _ c.in-SizeOfKind.is c.size_named-size.ensures c.in_ok-put_word-in-SizeOfKind.ensures

pub emit-returns-in_ok-put_word-in-SizeOfKind-clause-seen : goal.emit-returns-in_ok-put_word-in-SizeOfKind-clause-seen
emit-returns-in_ok-put_word-in-SizeOfKind-clause-seen g t c = size_law c.args.e.now c.in-SizeOfKind.base c.in-SizeOfKind.stars (g.K.Knows.around c.args.known.now) (reached_of c.args.r) (view_of c.in_ok-own-in-SizeOfKind.own) c.in-SizeOfKind.is c.in_ok-own-in-SizeOfKind.ensures

pub emit-returns-in_ok-put_word-in-SizeOfValue-clause-put : goal.emit-returns-in_ok-put_word-in-SizeOfValue-clause-put
emit-returns-in_ok-put_word-in-SizeOfValue-clause-put g t c = sizeof_walk c.args.e.now c.get-measured.result.now (g.K.Knows.around c.args.known.now) (reached_of c.args.r) c.args.place c.args.d (view_of c.in_ok-x-in-SizeOfValue.x) (put_of c.args.out.now) _ (c.in-SizeOfValue.is ∙ ap (λ x. v.SizeOfValue x) (sym c.get-measured.ensures)) c.in_ok-x-in-SizeOfValue.ensures c.in_ok-put_word-in-SizeOfValue.ensures

pub emit-returns-in_ok-put_word-in-SizeOfValue-clause-seen : goal.emit-returns-in_ok-put_word-in-SizeOfValue-clause-seen
emit-returns-in_ok-put_word-in-SizeOfValue-clause-seen g t c = sizeof_law c.args.e.now c.get-measured.result.now (g.K.Knows.around c.args.known.now) (reached_of c.args.r) (view_of c.in_ok-x-in-SizeOfValue.x) (view_of c.in_ok-own-in-SizeOfValue.own) (c.in-SizeOfValue.is ∙ ap (λ x. v.SizeOfValue x) (sym c.get-measured.ensures)) c.in_ok-x-in-SizeOfValue.ensures c.in_ok-own-in-SizeOfValue.ensures

pub emit_given-returns-in_ok-put_converted-in-Number-clause-put : goal.emit_given-returns-in_ok-put_converted-in-Number-clause-put
emit_given-returns-in_ok-put_converted-in-Number-clause-put g t c = given_number_walk (g.K.Knows.around c.args.known.now) (expression c.args.e.now (g.K.Knows.around c.args.known.now) (reached_of c.args.r)) c.args.to c.in-Number.kind c.args.d (view_of c.in_ok-x-in-Number.x) (put_of c.args.out.now) _ _ c.in-Number.is c.in_ok-x-in-Number.ensures.seen c.in_ok-x-in-Number.ensures.put c.in_ok-put_converted-in-Number.ensures

pub emit_given-returns-in_ok-put_no_pointer-in-Pointer-clause-put : goal.emit_given-returns-in_ok-put_no_pointer-in-Pointer-clause-put
emit_given-returns-in_ok-put_no_pointer-in-Pointer-clause-put g t c = given_null_walk (g.K.Knows.around c.args.known.now) (expression c.args.e.now (g.K.Knows.around c.args.known.now) (reached_of c.args.r)) c.args.to c.args.d (view_of c.in_ok-x-in-Pointer.x) (put_of c.args.out.now) _ c.in-Pointer.is c.in_ok-x-in-Pointer.ensures c.if-null.true c.in_ok-put_no_pointer-in-Pointer.ensures

pub emit_given-returns-else-null-clause-put : goal.emit_given-returns-else-null-clause-put
emit_given-returns-else-null-clause-put g t c = on_ok c.emit-else-null.result _ _
    (given_pointer_walk (g.K.Knows.around c.args.known.now) (expression c.args.e.now (g.K.Knows.around c.args.known.now) (reached_of c.args.r)) c.args.to c.args.d (view_of c.in_ok-x-in-Pointer.x) (put_of c.args.out.now) _ c.in-Pointer.is c.in_ok-x-in-Pointer.ensures c.if-null.false) c.emit-else-null.ensures.put

pub emit_given-returns-in-Whole-clause-put : goal.emit_given-returns-in-Whole-clause-put
emit_given-returns-in-Whole-clause-put g t c = on_ok c.emit-in-Whole.result _ _ (given_whole_walk (expression c.args.e.now (g.K.Knows.around c.args.known.now) (reached_of c.args.r)) c.args.to c.args.d (put_of c.args.out.now) _ c.in-Whole.is) c.emit-in-Whole.ensures.put

pub emit_given-returns-in-Nothing-clause-put : goal.emit_given-returns-in-Nothing-clause-put
emit_given-returns-in-Nothing-clause-put g t c = on_ok c.emit-in-Nothing.result _ _ (given_nothing_walk (expression c.args.e.now (g.K.Knows.around c.args.known.now) (reached_of c.args.r)) c.args.to c.args.d (put_of c.args.out.now) _ c.in-Nothing.is) c.emit-in-Nothing.ensures.put
