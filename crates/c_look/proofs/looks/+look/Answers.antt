use Rattle.std.proofs.Common.{◌∙◌, sym, ap}
use Rattle.c_tree.specs.declared.tree.ExprKind.TheVariants as v
use Rattle.steps_facts.specs.Seen.{view_of, reached_of}
use Rattle.c_look.proofs.Looked.{if_ok, word_law, text_law, name_law, single_law, joint_law, assign_law, step_law, choice_law, call_law, index_law, member_law, arrow_law, cast_law, size_law, sizeof_law}
use Rattle.c_look.proofs.looks.+look.Goals as goal

pub look-returns-in-Number : goal.look-returns-in-Number
look-returns-in-Number g t c = if_ok c.word_seen.result _ _
    (λ s h. word_law c.args.e.now _ _ (g.K.Knows.around c.args.known.now) (reached_of c.args.r) (view_of s) c.in-Number.is h) c.word_seen.ensures

pub look-returns-in-Text : goal.look-returns-in-Text
look-returns-in-Text g t c = if_ok c.text_seen.result _ _
    (λ s h. text_law c.args.e.now _ (g.K.Knows.around c.args.known.now) (reached_of c.args.r) (view_of s) c.in-Text.is h) c.text_seen.ensures

pub look-returns-in-Var : goal.look-returns-in-Var
look-returns-in-Var g t c = if_ok c.name_seen.result _ _
    (λ s h. name_law c.args.e.now _ (g.K.Knows.around c.args.known.now) (reached_of c.args.r) (view_of s) c.in-Var.is h) c.name_seen.ensures

pub look-returns-in_ok-x-in-Unary : goal.look-returns-in_ok-x-in-Unary
look-returns-in_ok-x-in-Unary g t c = if_ok c.single_seen.result _ _
    (λ s h. single_law c.args.e.now c.in-Unary.op c.get-operand.result.now (g.K.Knows.around c.args.known.now) (reached_of c.args.r) (view_of c.in_ok-x-in-Unary.x) (view_of s)
    (c.in-Unary.is ∙ ap (λ x. v.Unary c.in-Unary.op x) (sym c.get-operand.ensures)) c.in_ok-x-in-Unary.ensures h) c.single_seen.ensures

pub look-returns-in_ok-y-in-Binary : goal.look-returns-in_ok-y-in-Binary
look-returns-in_ok-y-in-Binary g t c = if_ok c.joint_seen.result _ _
    (λ s h. joint_law c.args.e.now c.in-Binary.op c.get-left.result.now c.get-right.result.now (g.K.Knows.around c.args.known.now) (reached_of c.args.r) (view_of c.in_ok-x-in-Binary.x) (view_of c.in_ok-y-in-Binary.y) (view_of s)
    (c.in-Binary.is ∙ ap (λ x. v.Binary c.in-Binary.op x c.in-Binary.b) (sym c.get-left.ensures) ∙ ap (λ x. v.Binary c.in-Binary.op c.get-left.result.now x) (sym c.get-right.ensures)) c.in_ok-x-in-Binary.ensures c.in_ok-y-in-Binary.ensures h) c.joint_seen.ensures

pub look-returns-in_ok-y-in-Assign : goal.look-returns-in_ok-y-in-Assign
look-returns-in_ok-y-in-Assign g t c = if_ok c.assigned_seen.result _ _
    (λ s h. assign_law c.args.e.now c.in-Assign.field-0 c.get-target.result.now c.get-source.result.now (g.K.Knows.around c.args.known.now) (reached_of c.args.r) (view_of c.in_ok-x-in-Assign.x) (view_of c.in_ok-y-in-Assign.y) (view_of s)
    (c.in-Assign.is ∙ ap (λ x. v.Assign c.in-Assign.field-0 x c.in-Assign.b) (sym c.get-target.ensures) ∙ ap (λ x. v.Assign c.in-Assign.field-0 c.get-target.result.now x) (sym c.get-source.ensures)) c.in_ok-x-in-Assign.ensures c.in_ok-y-in-Assign.ensures h) c.assigned_seen.ensures

pub look-returns-in_ok-x-in-StepBy : goal.look-returns-in_ok-x-in-StepBy
look-returns-in_ok-x-in-StepBy g t c = if_ok c.stepped_seen.result _ _
    (λ s h. step_law c.args.e.now c.in-StepBy.field-0 c.in-StepBy.field-1 c.get-stepped.result.now (g.K.Knows.around c.args.known.now) (reached_of c.args.r) (view_of c.in_ok-x-in-StepBy.x) (view_of s)
    (c.in-StepBy.is ∙ ap (λ x. v.StepBy c.in-StepBy.field-0 c.in-StepBy.field-1 x) (sym c.get-stepped.ensures)) c.in_ok-x-in-StepBy.ensures h) c.stepped_seen.ensures

pub look-returns-in_ok-z-in-Cond : goal.look-returns-in_ok-z-in-Cond
look-returns-in_ok-z-in-Cond g t c = if_ok c.choice_seen.result _ _
    (λ s h. choice_law c.args.e.now c.get-test.result.now c.get-one.result.now c.get-other.result.now (g.K.Knows.around c.args.known.now) (reached_of c.args.r) (view_of c.in_ok-x-in-Cond.x) (view_of c.in_ok-y-in-Cond.y) (view_of c.in_ok-z-in-Cond.z) (view_of s)
    (c.in-Cond.is ∙ ap (λ x. v.Cond x c.in-Cond.a c.in-Cond.b) (sym c.get-test.ensures) ∙ ap (λ x. v.Cond c.get-test.result.now x c.in-Cond.b) (sym c.get-one.ensures) ∙ ap (λ x. v.Cond c.get-test.result.now c.get-one.result.now x) (sym c.get-other.ensures))
    c.in_ok-x-in-Cond.ensures c.in_ok-y-in-Cond.ensures c.in_ok-z-in-Cond.ensures h) c.choice_seen.ensures

pub look-returns-in_ok-behind-in-Call : goal.look-returns-in_ok-behind-in-Call
look-returns-in_ok-behind-in-Call g t c = if_ok c.call_seen.result _ _
    (λ s h. call_law c.args.e.now c.in-Call.field-0 c.as_slice-all.result.now (g.K.Knows.around c.args.known.now) (reached_of c.args.r) (reached_of c.in_ok-behind-in-Call.behind) (view_of s)
    (c.in-Call.is ∙ ap (λ x. v.Call c.in-Call.field-0 x) (sym c.as_slice-all.ensures)) c.in_ok-behind-in-Call.ensures h) c.call_seen.ensures

pub look-returns-in_ok-y-in-Index : goal.look-returns-in_ok-y-in-Index
look-returns-in_ok-y-in-Index g t c = if_ok c.part_seen.result _ _
    (λ s h. index_law c.args.e.now c.get-array.result.now c.get-number.result.now (g.K.Knows.around c.args.known.now) (reached_of c.args.r) (view_of c.in_ok-x-in-Index.x) (view_of c.in_ok-y-in-Index.y) (view_of s)
    (c.in-Index.is ∙ ap (λ x. v.Index x c.in-Index.i) (sym c.get-array.ensures) ∙ ap (λ x. v.Index c.get-array.result.now x) (sym c.get-number.ensures)) c.in_ok-x-in-Index.ensures c.in_ok-y-in-Index.ensures h) c.part_seen.ensures

pub look-returns-in_ok-x-in-Member : goal.look-returns-in_ok-x-in-Member
look-returns-in_ok-x-in-Member g t c = if_ok c.part_seen-in-Member.result _ _
    (λ s h. member_law c.args.e.now c.get-base.result.now c.in-Member.field-1 (g.K.Knows.around c.args.known.now) (reached_of c.args.r) (view_of c.in_ok-x-in-Member.x) (view_of s)
    (c.in-Member.is ∙ ap (λ x. v.Member x c.in-Member.field-1) (sym c.get-base.ensures)) c.in_ok-x-in-Member.ensures h) c.part_seen-in-Member.ensures

pub look-returns-in_ok-x-in-Arrow : goal.look-returns-in_ok-x-in-Arrow
look-returns-in_ok-x-in-Arrow g t c = if_ok c.part_seen-in-Arrow.result _ _
    (λ s h. arrow_law c.args.e.now c.get-pointer.result.now c.in-Arrow.field-1 (g.K.Knows.around c.args.known.now) (reached_of c.args.r) (view_of c.in_ok-x-in-Arrow.x) (view_of s)
    (c.in-Arrow.is ∙ ap (λ x. v.Arrow x c.in-Arrow.field-1) (sym c.get-pointer.ensures)) c.in_ok-x-in-Arrow.ensures h) c.part_seen-in-Arrow.ensures

pub look-returns-in_ok-x-in-Cast : goal.look-returns-in_ok-x-in-Cast
look-returns-in_ok-x-in-Cast g t c = if_ok c.cast_seen.result _ _
    (λ s h. cast_law c.args.e.now c.in-Cast.field-0 c.in-Cast.field-1 c.get-inner.result.now (g.K.Knows.around c.args.known.now) (reached_of c.args.r) (view_of c.in_ok-x-in-Cast.x) (view_of s)
    (c.in-Cast.is ∙ ap (λ x. v.Cast c.in-Cast.field-0 c.in-Cast.field-1 x) (sym c.get-inner.ensures)) c.in_ok-x-in-Cast.ensures h) c.cast_seen.ensures

pub look-returns-in-SizeOfKind : goal.look-returns-in-SizeOfKind
look-returns-in-SizeOfKind g t c = if_ok c.word_seen-in-SizeOfKind.result _ _
    (λ s h. size_law c.args.e.now _ _ (g.K.Knows.around c.args.known.now) (reached_of c.args.r) (view_of s) c.in-SizeOfKind.is h) c.word_seen-in-SizeOfKind.ensures

pub look-returns-in_ok-x-in-SizeOfValue : goal.look-returns-in_ok-x-in-SizeOfValue
look-returns-in_ok-x-in-SizeOfValue g t c = if_ok c.size_seen.result _ _
    (λ s h. sizeof_law c.args.e.now c.get-measured.result.now (g.K.Knows.around c.args.known.now) (reached_of c.args.r) (view_of c.in_ok-x-in-SizeOfValue.x) (view_of s)
    (c.in-SizeOfValue.is ∙ ap (λ x. v.SizeOfValue x) (sym c.get-measured.ensures)) c.in_ok-x-in-SizeOfValue.ensures h) c.size_seen.ensures
