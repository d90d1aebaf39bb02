use Rattle.std.proofs.Common.{Some, refl, sym, ap, ◌∙◌, map}
use Rattle.std.proofs.lemmas.Result.{on_ok_weaker}
use Rattle.c_tree.specs.declared.tree.StmtKind.TheVariants as v
use Rattle.bounds_plan.specs.elaboration.Expressions.{expression}
use Rattle.c_accepted.specs.SourceLiterals.{all_sizes, listed}
use Rattle.steps_facts.specs.Seen.{reached_of}
use Rattle.c_literals.specs.Laid.{with_literals}
use Rattle.c_literals.proofs.StatementLemmas.{if_ok, left_next, alone_passed, else_passed, while_passed, do_passed, for_passed, block_passed}
use Rattle.c_literals.proofs.statements.+statements.Goals as goal

pub put_literals_of_block-loop-s-preserved : goal.put_literals_of_block-loop-s-preserved
put_literals_of_block-loop-s-preserved g t c = left_next c.args.all.now c.s-item.result c.loop-s.s-index (g.K.Knows.around c.args.known.now) (reached_of c.loop-s.at) (reached_of c.in_ok-at.at) _
    c.loop-s.literals c.put_literals_of_statement.new.literals _ c.loop-s-test.true c.s-item.is c.in_ok-at.ensures.put c.in_ok-at.ensures.after c.loop-s.invariant

pub put_literals_of_statement-returns-in-None-clause-put : goal.put_literals_of_statement-returns-in-None-clause-put
put_literals_of_statement-returns-in-None-clause-put g t c =
    let at = reached_of c.in_ok-x-in-If.x in let end = reached_of c.in_ok-y-in-If.y in
    (alone_passed c.args.s.now c.in-If.test c.get-one.result.now (g.K.Knows.around c.args.known.now) (reached_of c.args.r) at end
    c.args.literals.now c.put_literals_on.new.literals c.put_literals_of_statement.new.literals
    (c.in-If.is ∙ ap (λ x. v.If c.in-If.test x c.in-If.other) (sym c.get-one.ensures) ∙ ap (λ o. v.If c.in-If.test c.get-one.result.now o) c.in-None.is)
    c.in_ok-x-in-If.ensures.put c.in_ok-x-in-If.ensures.after record { put = c.in_ok-y-in-If.ensures.put; after = c.in_ok-y-in-If.ensures.after }).put

pub put_literals_of_statement-returns-in-Some-clause-put : goal.put_literals_of_statement-returns-in-Some-clause-put
put_literals_of_statement-returns-in-Some-clause-put g t c =
    let around = g.K.Knows.around c.args.known.now in
    let at = reached_of c.in_ok-x-in-If.x in let mid = reached_of c.in_ok-y-in-If.y in
    on_ok_weaker c.put_literals_of_statement-in-Some.result
    (λ h. (else_passed c.args.s.now c.in-If.test c.get-one.result.now c.get-second.result.now around (reached_of c.args.r) at mid ((listed c.get-second.result.now).1 around mid).after
    c.args.literals.now c.put_literals_on.new.literals c.put_literals_of_statement.new.literals c.put_literals_of_statement-in-Some.new.literals
    (c.in-If.is ∙ ap (λ x. v.If c.in-If.test x c.in-If.other) (sym c.get-one.ensures) ∙ ap (λ o. v.If c.in-If.test c.get-one.result.now o) c.in-Some.is
    ∙ ap (λ x. v.If c.in-If.test c.get-one.result.now (Some x)) (sym c.get-second.ensures))
    c.in_ok-x-in-If.ensures.put c.in_ok-x-in-If.ensures.after record { put = c.in_ok-y-in-If.ensures.put; after = c.in_ok-y-in-If.ensures.after } record { put = h; after = refl }).put)
    c.put_literals_of_statement-in-Some.ensures.put

pub put_literals_of_statement-returns-in_ok-x-in-While-clause-put : goal.put_literals_of_statement-returns-in_ok-x-in-While-clause-put
put_literals_of_statement-returns-in_ok-x-in-While-clause-put g t c =
    let around = g.K.Knows.around c.args.known.now in let at = reached_of c.in_ok-x-in-While.x in
    on_ok_weaker c.put_literals_of_statement-in-While.result
    (λ h. (while_passed c.args.s.now c.in-While.test c.get-inner.result.now around (reached_of c.args.r) at ((listed c.get-inner.result.now).1 around at).after
    c.args.literals.now c.put_literals_on-in-While.new.literals c.put_literals_of_statement-in-While.new.literals
    (c.in-While.is ∙ ap (λ x. v.While c.in-While.test x) (sym c.get-inner.ensures))
    c.in_ok-x-in-While.ensures.put c.in_ok-x-in-While.ensures.after record { put = h; after = refl }).put)
    c.put_literals_of_statement-in-While.ensures.put

pub put_literals_of_statement-returns-in_ok-y-in-DoWhile-clause-put : goal.put_literals_of_statement-returns-in_ok-y-in-DoWhile-clause-put
put_literals_of_statement-returns-in_ok-y-in-DoWhile-clause-put g t c =
    let around = g.K.Knows.around c.args.known.now in let mid = reached_of c.in_ok-y-in-DoWhile.y in
    on_ok_weaker c.put_literals_on-in-DoWhile.result
    (λ h. (do_passed c.args.s.now c.get-turned.result.now c.in-DoWhile.test around (reached_of c.args.r) mid (expression c.in-DoWhile.test around mid).after
    c.args.literals.now c.put_literals_of_statement-in-DoWhile.new.literals c.put_literals_on-in-DoWhile.new.literals
    (c.in-DoWhile.is ∙ ap (λ x. v.DoWhile x c.in-DoWhile.test) (sym c.get-turned.ensures))
    record { put = c.in_ok-y-in-DoWhile.ensures.put; after = c.in_ok-y-in-DoWhile.ensures.after } h refl).put)
    c.put_literals_on-in-DoWhile.ensures.put

pub put_literals_of_statement-returns-in_ok-n-in-For-clause-put : goal.put_literals_of_statement-returns-in_ok-n-in-For-clause-put
put_literals_of_statement-returns-in_ok-n-in-For-clause-put g t c =
    let around = g.K.Knows.around c.args.known.now in
    let f = reached_of c.in_ok-f-in-For.f in let test = reached_of c.in_ok-t-in-For.t in let n = reached_of c.in_ok-n-in-For.n in
    on_ok_weaker c.put_literals_of_statement-in-For.result
    (λ h. (for_passed c.args.s.now c.in-For.first c.in-For.test c.in-For.next c.get-looped.result.now around (reached_of c.args.r) f test n ((listed c.get-looped.result.now).1 around n).after
    c.args.literals.now c.put_literals_of_value-in-For.new.literals c.put_literals_of_value-in-For-2.new.literals c.put_literals_of_value-in-For-3.new.literals c.put_literals_of_statement-in-For.new.literals
    (c.in-For.is ∙ ap (λ x. v.For c.in-For.first c.in-For.test c.in-For.next x) (sym c.get-looped.ensures))
    c.in_ok-f-in-For.ensures.put c.in_ok-f-in-For.ensures.after c.in_ok-t-in-For.ensures.put c.in_ok-t-in-For.ensures.after c.in_ok-n-in-For.ensures.put c.in_ok-n-in-For.ensures.after
    record { put = h; after = refl }).put)
    c.put_literals_of_statement-in-For.ensures.put

pub put_literals_of_statement-returns-in_ok-n-in-For-clause-after : goal.put_literals_of_statement-returns-in_ok-n-in-For-clause-after
put_literals_of_statement-returns-in_ok-n-in-For-clause-after g t c =
    let around = g.K.Knows.around c.args.known.now in
    let f = reached_of c.in_ok-f-in-For.f in let test = reached_of c.in_ok-t-in-For.t in let n = reached_of c.in_ok-n-in-For.n in
    if_ok c.put_literals_of_statement-in-For.result _ _
    (λ q h. (for_passed c.args.s.now c.in-For.first c.in-For.test c.in-For.next c.get-looped.result.now around (reached_of c.args.r) f test n (reached_of q)
    c.args.literals.now c.put_literals_of_value-in-For.new.literals c.put_literals_of_value-in-For-2.new.literals c.put_literals_of_value-in-For-3.new.literals
    (with_literals c.put_literals_of_value-in-For-3.new.literals ((listed c.get-looped.result.now).0 around n))
    (c.in-For.is ∙ ap (λ x. v.For c.in-For.first c.in-For.test c.in-For.next x) (sym c.get-looped.ensures))
    c.in_ok-f-in-For.ensures.put c.in_ok-f-in-For.ensures.after c.in_ok-t-in-For.ensures.put c.in_ok-t-in-For.ensures.after c.in_ok-n-in-For.ensures.put c.in_ok-n-in-For.ensures.after
    record { put = refl; after = h }).after)
    c.put_literals_of_statement-in-For.ensures.after

pub put_literals_of_statement-returns-in-Block-clause-after : goal.put_literals_of_statement-returns-in-Block-clause-after
put_literals_of_statement-returns-in-Block-clause-after g t c = let around = g.K.Knows.around c.args.known.now in
    if_ok c.put_literals_of_block.result _ _
    (λ q h. (block_passed c.args.s.now c.as_slice-all.result.now around (reached_of c.args.r) (reached_of q) c.args.literals.now (with_literals c.args.literals.now (all_sizes (map listed c.as_slice-all.result.now) around (reached_of c.args.r)))
    (c.in-Block.is ∙ ap v.Block (sym c.as_slice-all.ensures)) refl h).after)
    c.put_literals_of_block.ensures.after
