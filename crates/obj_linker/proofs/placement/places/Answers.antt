use Rattle.std.proofs.Common.{◌≡◌, ◌∙◌, ◌++◌, ◌∷◌, [], ◌+◌, ◌*◌, ◌^◌, ◌≤◌, ap, sym, subst}
use Rattle.obj_linker.specs.declared.parts.Ends.{Ends}
use Rattle.obj_linker.specs.Limits.{HasSmallParts}
use Rattle.obj_linker.specs.Placement.{ends_with, ends_after}
use Rattle.obj_linker.proofs.Standing.{placed_more, ends_more, within_more}
use Rattle.obj_linker.proofs.placement.places.Goals as goal

pub all-preserved : goal.all-preserved
all-preserved c =
    let os = c.args.objects.now in
    let o = c.index-objects-k.result in
    let is = c.index-objects-k.is in
    let less = c.all-test.true in
    let spot = c.spot_after-spot.ensures.place in
    let now : c.ends_with-ends.result ≡ ends_after c.all.ends o = c.ends_with-ends.ensures ∙ ap (λ s. ends_with s c.all.ends o) spot in
    let small = subst HasSmallParts (sym is) (c.requires.small c.all.k o less) in
    let within = within_more o small c.all.ends c.all.k c.all.invariant.code c.all.invariant.legacy c.all.invariant.stored in
    record {
      ends = now ∙ ends_more os c.all.k o c.all.ends less is c.all.invariant.ends;
      spots = c.in_ok-push.ensures.items ∙ (ap (λ s. c.all.items.items ++ s ∷ []) spot ∙ placed_more os c.all.k o c.all.ends c.all.items.items less is c.all.invariant.ends c.all.invariant.spots);
      code = subst (λ (x : Ends). x.code ≤ 2 ^ 30 + (c.all.k + 1) * 2 ^ 29) (sym now) within.code;
      legacy = subst (λ (x : Ends). x.legacy ≤ 2 ^ 30 + (c.all.k + 1) * 2 ^ 29) (sym now) within.legacy;
      stored = subst (λ (x : Ends). x.stored ≤ 2 ^ 30 + (c.all.k + 1) * 2 ^ 29) (sym now) within.stored;
    }
