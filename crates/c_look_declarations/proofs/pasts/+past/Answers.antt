use Rattle.std.proofs.Common.{◌+◌, drop, sym, ap, ◌∙◌, subst}
use Rattle.std.specs.Prelude.{All}
use Rattle.std.proofs.lemmas.Result.{IfOk-weaker}
use Rattle.std.proofs.lemmas.List.Elements.{All-tail}
use Rattle.c_tree.specs.declared.tree.InitKind.TheVariants as v
use Rattle.c_types.specs.Types.{type_at, built}
use Rattle.steps_facts.specs.Seen.{reached_of}
use Rattle.steps_facts.specs.Around.{IsPart}
use Rattle.c_look_declarations.proofs.PastLemmas.{many_go, members_go, from_on}
use Rattle.c_look_declarations.proofs.pasts.+past.Goals as goal

pub past_init-returns-in-Many : goal.past_init-returns-in-Many
past_init-returns-in-Many g t c = let around = g.K.Knows.around c.args.known.now in let table = g.K.Knows.table c.args.known.now in
    IfOk-weaker c.past_many.result _ _ (λ q h l offset. many_go c.args.init.now c.as_slice-all.result.now around (type_at table c.args.kind) (built (type_at table) c.shape-shape.result) l offset (reached_of c.args.r) (reached_of q)
    (c.in-Many.is ∙ ap v.Many (sym c.as_slice-all.ensures)) c.shape-shape.ensures.means (h c.args.init.now.place l offset)) c.past_many.ensures

pub past_members-loop-init-preserved : goal.past_members-loop-init-preserved
past_members-loop-init-preserved g t c = let around = g.K.Knows.around c.args.known.now in let table = g.K.Knows.table c.args.known.now in
    let i = c.loop-init.init-index in let part = c.in-Some.part.now in let more = c.in-Some.more.now in record {
      goes = λ place at offset. members_go around table place at offset (drop i c.args.all.now) c.init-item.result (drop (i + 1) c.args.all.now) c.loop-init.left.now part more (reached_of c.loop-init.after) (reached_of c.in_ok-after.after)
          (from_on c.args.all.now c.init-item.result i c.loop-init-test.true c.init-item.is) c.in-Some.ensures.cases.0 (c.in_ok-after.ensures at (offset + part.offset)) ∙ c.loop-init.invariant.goes place at offset;
      known = All-tail (IsPart table) part more (subst (All (IsPart table)) c.in-Some.ensures.cases.0 c.loop-init.invariant.known);
    }
