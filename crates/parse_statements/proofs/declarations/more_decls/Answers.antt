use Rattle.std.proofs.Common.{◌≡◌, ◌≤◌, ◌∙◌, ◌++◌, [], ◌∷◌, true, sym, ap, arith}
use Rattle.parse_statements.specs.Names.{decls_after}
use Rattle.parse_statements.proofs.Lists.{decls_more}
use Rattle.parse_statements.proofs.declarations.more_decls.Goals as goal

pub loop-at-preserved : goal.loop-at-preserved
loop-at-preserved c = record {
  reads =
      c.loop-at.invariant.reads
      ∙ decls_more c.args.typed.now.base c.loop-at.all _ _ _ _ _ _ c.in_ok-mark.field-0 c.in_ok-next.next (sym c.loop-at-test.ensures) c.in_ok-mark.ensures.gives c.in_ok-next.ensures.gives
      ∙ sym (ap (λ z. decls_after c.args.typed.now.base z c.declared.new.at.depth c.declared.new.at.left) (c.in_ok-push-2.ensures.ok ∙ ap (λ w. c.loop-at.all ++ w ∷ []) c.in_ok-later_decl.ensures));
  shorter = omega (arith, c.in_ok-mark.ensures.fewer, c.in_ok-next.ensures.fewer, c.loop-at.invariant.shorter);
}
