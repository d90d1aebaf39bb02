use Rattle.std.proofs.Common.{◌≡◌, ◌≤◌, ◌∙◌, ◌++◌, [], ◌∷◌, true, sym, ap, arith}
use Rattle.parse_statements.specs.Names.{globals_after}
use Rattle.parse_statements.proofs.Lists.{globals_more}
use Rattle.parse_statements.proofs.declarations.more_globals.Goals as goal

pub loop-at-preserved : goal.loop-at-preserved
loop-at-preserved c = record {
  reads =
      c.loop-at.invariant.reads
      ∙ globals_more c.args.external c.args.typed.now.base c.loop-at.all _ _ _ _ _ _ c.in_ok-mark.field-0 c.in_ok-next.next (sym c.loop-at-test.ensures) c.in_ok-mark.ensures.gives c.in_ok-next.ensures.gives
      ∙ sym (ap (λ z. globals_after c.args.external c.args.typed.now.base z c.initialised.new.at.depth c.initialised.new.at.left) (c.in_ok-push-2.ensures.ok ∙ ap (λ w. c.loop-at.all ++ w ∷ []) c.in_ok-later_global.ensures));
  shorter = omega (arith, c.in_ok-mark.ensures.fewer, c.in_ok-next.ensures.fewer, c.loop-at.invariant.shorter);
}
