use Rattle.std.proofs.Common.{◌∙◌, ◌+◌, ap, refl, subst, arith}
use Rattle.std.specs.Prelude.{All}
use Rattle.std.proofs.lemmas.List.Elements.{All-tail}
use Rattle.c_types.specs.Types.{type_at}
use Rattle.bounds_plan.specs.elaboration.Types.{size_in}
use Rattle.steps_facts.specs.declared.seen.Facts.{Facts}
use Rattle.steps_facts.specs.Seen.{reached_of}
use Rattle.steps_facts.specs.Around.{standing_at, IsPart}
use Rattle.steps_pieces.specs.Put.{put_of}
use Rattle.c_emit_initialisers.proofs.ZeroLemmas.{drop_item}
use Rattle.c_emit_initialisers.proofs.FillLemmas.{elements_put, elements_go, members_put, members_go}
use Rattle.c_emit_initialisers.proofs.fills.+fill.Goals as goal

pub fill_elements-loop-init-preserved : goal.fill_elements-loop-init-preserved
fill_elements-loop-init-preserved g t c = let around = g.K.Knows.around c.args.known.now in let u = type_at (g.K.Knows.table c.args.known.now) c.args.element in
    record {
      put = elements_put around u c.args.place (size_in around.structs u) (standing_at c.args.at) _ _ _ c.loop-init.left _ c.loop-init.to _ (reached_of c.loop-init.after) _ c.args.d (put_of c.loop-init.out) _
          (drop_item c.args.all.now c.loop-init.init-index _ c.init-item.result c.loop-init-test.true (omega arith) c.init-item.is) c.if-left-eq0.false refl
          (c.in_ok-behind.ensures ∙ ap (λ (z : Facts). c.loop-init.to + z.size) c.in_ok-facts.ensures) c.in_ok-filled.ensures.after c.in_ok-filled.ensures.put ∙ c.loop-init.invariant.put;
      after = elements_go around u c.args.place (size_in around.structs u) (standing_at c.args.at) _ _ _ c.loop-init.left _ c.loop-init.to _ (reached_of c.loop-init.after) _
          (drop_item c.args.all.now c.loop-init.init-index _ c.init-item.result c.loop-init-test.true (omega arith) c.init-item.is) c.if-left-eq0.false refl
          (c.in_ok-behind.ensures ∙ ap (λ (z : Facts). c.loop-init.to + z.size) c.in_ok-facts.ensures) c.in_ok-filled.ensures.after ∙ c.loop-init.invariant.after;
    }

pub fill_members-loop-init-preserved : goal.fill_members-loop-init-preserved
fill_members-loop-init-preserved g t c = let around = g.K.Knows.around c.args.known.now in let table = g.K.Knows.table c.args.known.now in
    record {
      put = members_put around table c.args.place (standing_at c.args.at) c.args.offset _ _ _ c.loop-init.left.now c.in-Some.part.now c.in-Some.more.now _ (reached_of c.loop-init.after) _ c.args.d (put_of c.loop-init.out) _
          (drop_item c.args.all.now c.loop-init.init-index _ c.init-item.result c.loop-init-test.true (omega arith) c.init-item.is) c.in-Some.ensures.cases.0 c.in_ok-to.ensures c.in_ok-filled.ensures.after c.in_ok-filled.ensures.put
          ∙ c.loop-init.invariant.put;
      after = members_go around table c.args.place (standing_at c.args.at) c.args.offset _ _ _ c.loop-init.left.now c.in-Some.part.now c.in-Some.more.now _ (reached_of c.loop-init.after) _
          (drop_item c.args.all.now c.loop-init.init-index _ c.init-item.result c.loop-init-test.true (omega arith) c.init-item.is) c.in-Some.ensures.cases.0 c.in_ok-to.ensures c.in_ok-filled.ensures.after
          ∙ c.loop-init.invariant.after;
      known = All-tail (IsPart table) c.in-Some.part.now c.in-Some.more.now (subst (All (IsPart table)) c.in-Some.ensures.cases.0 c.loop-init.invariant.known);
    }
