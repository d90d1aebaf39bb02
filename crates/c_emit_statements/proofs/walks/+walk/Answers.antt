use Rattle.std.proofs.Common.{◌∙◌, Some, sym, ap, refl, arith}
use Rattle.std.proofs.lemmas.List.{drop_all}
use Rattle.c_tree.specs.declared.tree.StmtKind.TheVariants as v
use Rattle.steps_facts.specs.Seen.{reached_of}
use Rattle.steps_pieces.specs.Put.{put_of}
use Rattle.c_emit.proofs.Walks.{on_ok}
use Rattle.c_emit_initialisers.proofs.ZeroLemmas.{drop_item}
use Rattle.c_emit_statements.proofs.WalkLemmas.{value_walk, local_walk, alone_walk, else_walk, while_walk, do_walk, for_walk, break_walk, continue_walk, return_walk, block_walk, one_more, one_further, all_done, fresh}
use Rattle.c_emit_statements.proofs.walks.+walk.Goals as goal

pub emit_statement-returns-in-Value-clause-put : goal.emit_statement-returns-in-Value-clause-put
emit_statement-returns-in-Value-clause-put g t c = on_ok c.emit_done.result _ _ (value_walk c.args.s.now c.in-Value.value (g.K.Knows.around c.args.known.now) (reached_of c.args.r) c.args.d c.args.end c.args.next (put_of c.args.out.now) _ c.in-Value.is) c.emit_done.ensures.put

pub emit_statement-returns-in_ok-put_label-in-None-clause-put : goal.emit_statement-returns-in_ok-put_label-in-None-clause-put
emit_statement-returns-in_ok-put_label-in-None-clause-put g t c = alone_walk c.args.s.now c.in-If.test c.get-one.result.now (g.K.Knows.around c.args.known.now) (reached_of c.args.r) (reached_of c.in_ok-x-in-If.x) c.args.d c.args.end c.args.next _ (put_of c.args.out.now) _ _ _ _ _ _
    (c.in-If.is ∙ ap (λ x. v.If c.in-If.test x c.in-If.other) (sym c.get-one.ensures) ∙ ap (λ x. v.If c.in-If.test c.get-one.result.now x) c.in-None.is)
    c.in_ok-x-in-If.ensures.after c.in_ok-first-in-If.ensures.first c.in_ok-first-in-If.ensures.put c.in_ok-x-in-If.ensures.put c.in_ok-put_jump_if-in-If.ensures c.in_ok-put_crossing-in-None.ensures c.in_ok-alone-in-None.ensures.put c.in_ok-put_label-in-None.ensures

pub emit_statement-returns-in_ok-put_label-in-Some-clause-put : goal.emit_statement-returns-in_ok-put_label-in-Some-clause-put
emit_statement-returns-in_ok-put_label-in-Some-clause-put g t c = else_walk c.args.s.now c.in-If.test c.get-one.result.now c.get-second.result.now c.in-If.other (g.K.Knows.around c.args.known.now) (reached_of c.args.r) (reached_of c.in_ok-x-in-If.x) (reached_of c.in_ok-y-in-Some.y) c.args.d c.args.end c.args.next _ (put_of c.args.out.now) _ _ _ _ _ _ _
    (c.in-If.is ∙ ap (λ x. v.If c.in-If.test x c.in-If.other) (sym c.get-one.ensures)) (c.in-Some.is ∙ ap (λ x. Some x) (sym c.get-second.ensures))
    c.in_ok-x-in-If.ensures.after c.in_ok-y-in-Some.ensures c.in_ok-first-in-If.ensures.first c.in_ok-first-in-If.ensures.put c.in_ok-x-in-If.ensures.put c.in_ok-put_jump_if-in-If.ensures c.in_ok-after-in-Some.ensures.put
    c.in_ok-put_crossing-in-Some.ensures c.in_ok-emit_statement-in-Some.ensures.put c.in_ok-put_label-in-Some.ensures

pub emit_statement-returns-in_ok-put_turning-in-While-clause-put : goal.emit_statement-returns-in_ok-put_turning-in-While-clause-put
emit_statement-returns-in_ok-put_turning-in-While-clause-put g t c = while_walk c.args.s.now c.in-While.test c.get-inner.result.now (g.K.Knows.around c.args.known.now) (reached_of c.args.r) (reached_of c.in_ok-x-in-While.x) c.args.d c.args.end c.args.next _ (put_of c.args.out.now) _ _ _ _ _ _
    (c.in-While.is ∙ ap (λ x. v.While c.in-While.test x) (sym c.get-inner.ensures))
    c.in_ok-x-in-While.ensures.after c.in_ok-start-in-While.ensures.first c.in_ok-start-in-While.ensures.put c.in_ok-put_label-in-While.ensures c.in_ok-x-in-While.ensures.put c.in_ok-put_parting-in-While.ensures
    c.in_ok-after-in-While.ensures.put c.in_ok-put_turning-in-While.ensures

pub emit_statement-returns-in_ok-put_turning_if-in-DoWhile-clause-put : goal.emit_statement-returns-in_ok-put_turning_if-in-DoWhile-clause-put
emit_statement-returns-in_ok-put_turning_if-in-DoWhile-clause-put g t c = do_walk c.args.s.now c.get-turned.result.now c.in-DoWhile.test (g.K.Knows.around c.args.known.now) (reached_of c.args.r) (reached_of c.in_ok-y-in-DoWhile.y) c.args.d c.args.end c.args.next _ (put_of c.args.out.now) _ _ _ _ _ _ _ _ _
    (c.in-DoWhile.is ∙ ap (λ x. v.DoWhile x c.in-DoWhile.test) (sym c.get-turned.ensures))
    c.in_ok-y-in-DoWhile.ensures c.in_ok-start-in-DoWhile.ensures.first c.in_ok-start-in-DoWhile.ensures.put (fresh _ _ c.new.ensures) c.in_ok-after-in-DoWhile.ensures.put refl c.in_ok-put_label-in-DoWhile.ensures
    c.in_ok-emit_statement-in-DoWhile.ensures.put c.in_ok-put_label-in-DoWhile-2.ensures c.in_ok-put_all-in-DoWhile.ensures c.in_ok-put_turning_if-in-DoWhile.ensures

pub emit_statement-returns-in_ok-put_turning-in-For-clause-put : goal.emit_statement-returns-in_ok-put_turning-in-For-clause-put
emit_statement-returns-in_ok-put_turning-in-For-clause-put g t c = for_walk c.args.s.now c.in-For.first c.in-For.test c.in-For.step c.get-looped.result.now (g.K.Knows.around c.args.known.now) (reached_of c.args.r) (reached_of c.in_ok-f-in-For.f) (reached_of c.in_ok-t-in-For.t) (reached_of c.in_ok-n-in-For.n) c.args.d c.args.end c.args.next _ (put_of c.args.out.now) _ _ _ _ _ _ _ _ _
    (c.in-For.is ∙ ap (λ x. v.For c.in-For.first c.in-For.test c.in-For.step x) (sym c.get-looped.ensures))
    c.in_ok-f-in-For.ensures.after c.in_ok-t-in-For.ensures.after c.in_ok-n-in-For.ensures c.in_ok-f-in-For.ensures.put c.in_ok-start-in-For.ensures.first c.in_ok-start-in-For.ensures.put c.in_ok-put_label-in-For.ensures c.in_ok-t-in-For.ensures.put
    c.in_ok-put_parting-in-For.ensures c.in_ok-after-in-For.ensures.put c.in_ok-put_label-in-For-2.ensures c.in_ok-emit_done-in-For.ensures.put c.in_ok-put_turning-in-For.ensures

pub emit_statement-returns-in-Local-clause-put : goal.emit_statement-returns-in-Local-clause-put
emit_statement-returns-in-Local-clause-put g t c = on_ok c.emit_local.result _ _ (local_walk c.args.s.now c.in-Local.decl c.in-Local.init (g.K.Knows.around c.args.known.now) (reached_of c.args.r) c.args.d c.args.end c.args.next (put_of c.args.out.now) _ c.in-Local.is) c.emit_local.ensures.put

pub emit_statement-returns-in_ok-put_jump-in-Break-clause-put : goal.emit_statement-returns-in_ok-put_jump-in-Break-clause-put
emit_statement-returns-in_ok-put_jump-in-Break-clause-put g t c = break_walk c.args.s.now (g.K.Knows.around c.args.known.now) (reached_of c.args.r) c.args.d c.args.end c.args.next (put_of c.args.out.now) _ c.in-Break.is c.in_ok-put_jump-in-Break.ensures

pub emit_statement-returns-in_ok-put_jump-in-Continue-clause-put : goal.emit_statement-returns-in_ok-put_jump-in-Continue-clause-put
emit_statement-returns-in_ok-put_jump-in-Continue-clause-put g t c = continue_walk c.args.s.now (g.K.Knows.around c.args.known.now) (reached_of c.args.r) c.args.d c.args.end c.args.next (put_of c.args.out.now) _ c.in-Continue.is c.in_ok-put_jump-in-Continue.ensures

pub emit_statement-returns-in-Return-clause-put : goal.emit_statement-returns-in-Return-clause-put
emit_statement-returns-in-Return-clause-put g t c = on_ok c.emit_returned.result _ _ (return_walk c.args.s.now c.in-Return.given (g.K.Knows.around c.args.known.now) (reached_of c.args.r) c.args.d c.args.end c.args.next (put_of c.args.out.now) _ c.in-Return.is) c.emit_returned.ensures.put

pub emit_statement-returns-in-Block-clause-put : goal.emit_statement-returns-in-Block-clause-put
emit_statement-returns-in-Block-clause-put g t c = on_ok c.emit_block.result _ _ (block_walk c.args.s.now c.as_slice-all.result.now (g.K.Knows.around c.args.known.now) (reached_of c.args.r) c.args.d c.args.end c.args.next (put_of c.args.out.now) _
    (c.in-Block.is ∙ ap (λ x. v.Block x) (sym c.as_slice-all.ensures))) c.emit_block.ensures.put

pub emit_block-loop-s-preserved : goal.emit_block-loop-s-preserved
emit_block-loop-s-preserved g t c = record {
  put = one_more _ c.s-item.result _ (g.K.Knows.around c.args.known.now) (reached_of c.loop-s.at) _ c.args.d c.args.end c.args.next (put_of c.loop-s.out) _ (drop_item c.args.all.now c.loop-s.s-index _ c.s-item.result c.loop-s-test.true (omega arith) c.s-item.is)
      c.in_ok-on.ensures.after c.in_ok-on.ensures.put ∙ c.loop-s.invariant.put;
  after = one_further _ c.s-item.result _ (g.K.Knows.around c.args.known.now) (reached_of c.loop-s.at) _ (drop_item c.args.all.now c.loop-s.s-index _ c.s-item.result c.loop-s-test.true (omega arith) c.s-item.is)
      c.in_ok-on.ensures.after ∙ c.loop-s.invariant.after;
}

pub emit_block-returns-clause-put : goal.emit_block-returns-clause-put
emit_block-returns-clause-put g t c = all_done _ (g.K.Knows.around c.args.known.now) (reached_of c.loop-s.at) c.args.d c.args.end c.args.next (put_of c.loop-s.out) _ (drop_all c.loop-s.s-index c.args.all.now c.loop-s-test.false) c.loop-s.invariant.put
