use Rattle.std.proofs.Common.{sym, ap, ◌∙◌}
use Rattle.std.proofs.lemmas.Result.{on_ok_weaker}
use Rattle.c_tree.specs.declared.tree.ExprKind.TheVariants as v
use Rattle.c_accepted.specs.Literals.{text_sizes}
use Rattle.c_literals.proofs.LaidLemmas.{binary_sizes, assign_sizes, cond_sizes, index_sizes, two_laid, three_laid, next_laid}
use Rattle.c_literals.proofs.literals.+put.Goals as goal

pub put_literals-returns-in_ok-put_literals-in-Binary : goal.put_literals-returns-in_ok-put_literals-in-Binary
put_literals-returns-in_ok-put_literals-in-Binary t c = on_ok_weaker c.put_literals-in-Binary-2.result
    (two_laid (text_sizes c.args.e.now) (text_sizes c.get-in-Binary.result.now) (text_sizes c.get-in-Binary-2.result.now) c.args.literals.now c.put_literals-in-Binary.new.literals c.put_literals-in-Binary-2.new.literals
    (binary_sizes c.args.e.now c.in-Binary.field-0 c.get-in-Binary.result.now c.get-in-Binary-2.result.now
    (c.in-Binary.is ∙ ap (λ x. v.Binary c.in-Binary.field-0 x c.in-Binary.b) (sym c.get-in-Binary.ensures) ∙ ap (λ x. v.Binary c.in-Binary.field-0 c.get-in-Binary.result.now x) (sym c.get-in-Binary-2.ensures)))
    c.in_ok-put_literals-in-Binary.ensures) c.put_literals-in-Binary-2.ensures

pub put_literals-returns-in_ok-put_literals-in-Assign : goal.put_literals-returns-in_ok-put_literals-in-Assign
put_literals-returns-in_ok-put_literals-in-Assign t c = on_ok_weaker c.put_literals-in-Assign-2.result
    (two_laid (text_sizes c.args.e.now) (text_sizes c.get-in-Assign.result.now) (text_sizes c.get-in-Assign-2.result.now) c.args.literals.now c.put_literals-in-Assign.new.literals c.put_literals-in-Assign-2.new.literals
    (assign_sizes c.args.e.now c.in-Assign.field-0 c.get-in-Assign.result.now c.get-in-Assign-2.result.now
    (c.in-Assign.is ∙ ap (λ x. v.Assign c.in-Assign.field-0 x c.in-Assign.b) (sym c.get-in-Assign.ensures) ∙ ap (λ x. v.Assign c.in-Assign.field-0 c.get-in-Assign.result.now x) (sym c.get-in-Assign-2.ensures)))
    c.in_ok-put_literals-in-Assign.ensures) c.put_literals-in-Assign-2.ensures

pub put_literals-returns-in_ok-put_literals-in-Cond-2 : goal.put_literals-returns-in_ok-put_literals-in-Cond-2
put_literals-returns-in_ok-put_literals-in-Cond-2 t c = on_ok_weaker c.put_literals-in-Cond-3.result
    (three_laid (text_sizes c.args.e.now) (text_sizes c.get-in-Cond.result.now) (text_sizes c.get-in-Cond-2.result.now) (text_sizes c.get-in-Cond-3.result.now) c.args.literals.now c.put_literals-in-Cond.new.literals c.put_literals-in-Cond-2.new.literals c.put_literals-in-Cond-3.new.literals
    (cond_sizes c.args.e.now c.get-in-Cond.result.now c.get-in-Cond-2.result.now c.get-in-Cond-3.result.now
    (c.in-Cond.is ∙ ap (λ x. v.Cond x c.in-Cond.a c.in-Cond.b) (sym c.get-in-Cond.ensures) ∙ ap (λ x. v.Cond c.get-in-Cond.result.now x c.in-Cond.b) (sym c.get-in-Cond-2.ensures)
    ∙ ap (λ x. v.Cond c.get-in-Cond.result.now c.get-in-Cond-2.result.now x) (sym c.get-in-Cond-3.ensures)))
    c.in_ok-put_literals-in-Cond.ensures c.in_ok-put_literals-in-Cond-2.ensures) c.put_literals-in-Cond-3.ensures

pub put_literals-returns-in_ok-put_literals-in-Index : goal.put_literals-returns-in_ok-put_literals-in-Index
put_literals-returns-in_ok-put_literals-in-Index t c = on_ok_weaker c.put_literals-in-Index-2.result
    (two_laid (text_sizes c.args.e.now) (text_sizes c.get-in-Index.result.now) (text_sizes c.get-in-Index-2.result.now) c.args.literals.now c.put_literals-in-Index.new.literals c.put_literals-in-Index-2.new.literals
    (index_sizes c.args.e.now c.get-in-Index.result.now c.get-in-Index-2.result.now
    (c.in-Index.is ∙ ap (λ x. v.Index x c.in-Index.i) (sym c.get-in-Index.ensures) ∙ ap (λ x. v.Index c.get-in-Index.result.now x) (sym c.get-in-Index-2.ensures)))
    c.in_ok-put_literals-in-Index.ensures) c.put_literals-in-Index-2.ensures

pub put_literals_of_all-loop-one-preserved : goal.put_literals_of_all-loop-one-preserved
put_literals_of_all-loop-one-preserved t c = next_laid c.args.all.now c.one-item.result c.loop-one.one-index c.loop-one.literals c.put_literals.new.literals _
    c.loop-one-test.true c.one-item.is c.in_ok-put_literals.ensures c.loop-one.invariant
