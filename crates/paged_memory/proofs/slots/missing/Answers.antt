use Rattle.std.specs.Prelude.{length}
use Rattle.std.proofs.Common.{◌≡◌, ◌∙◌, ap, arith, ◌+◌, ◌%◌, ◌/◌, ◌<◌, inl, inr, true, false, not}
use Rattle.paged_memory.specs.Frames.{pages_in}
use Rattle.paged_memory.specs.Touched.{has_page}
use Rattle.paged_memory.proofs.PageLists.{touched_by-none, piece_adds}
use Rattle.paged_memory.proofs.SlotLists.{has_by_none}
use Rattle.paged_memory.proofs.slots.missing.Goals as goal
use Rattle.paged_memory.proofs.slots.missing.Goals.{then-is_none, else-is_none}

pub loop-at-init : goal.loop-at-init
loop-at-init c =
    let none = ap length (touched_by-none c.args.a (pages_in c.args.slots.now)) in
    record {
      within = omega arith;
      few = omega arith;
      counted = omega (arith, none);
      edge = λ _. inl (omega arith);
    }

pub loop-at-preserved : goal.loop-at-preserved
loop-at-preserved c =
    let edge = c.loop-at.invariant.edge c.loop-at-test.true in
    let some = c.piece-at.ensures.some in
    let most = c.piece-at.ensures.most in
    let inside = c.piece-at.ensures.inside in
    let whole = c.piece-at.ensures.whole in
    let there = has_by_none c.args.slots.now ((c.args.a + c.loop-at.at) / 4096) c.frame_of.result c.is_none.result c.frame_of.ensures c.is_none.ensures in
    let left : c.loop-at.at + c.piece-at.result < c.args.n → (c.args.a + (c.loop-at.at + c.piece-at.result)) % 4096 ≡ 0 =
    (λ below. let ends = whole (omega arith) in omega (arith, ends)) in
    elim c.if-is_none.branch [
      | then-is_none w ↦
          let has : has_page (pages_in c.args.slots.now) ((c.args.a + c.loop-at.at) / 4096) ≡ false = there ∙ ap not w.if-is_none.true in
          let adds = piece_adds c.loop-at.at c.piece-at.result c.args.a (pages_in c.args.slots.now) false some inside edge has in
          record { within = omega arith; few = omega arith; counted = omega (arith, adds); edge = λ below. inr (left below) }
      | else-is_none w ↦
          let has : has_page (pages_in c.args.slots.now) ((c.args.a + c.loop-at.at) / 4096) ≡ true = there ∙ ap not w.if-is_none.false in
          let adds = piece_adds c.loop-at.at c.piece-at.result c.args.a (pages_in c.args.slots.now) true some inside edge has in
          record { within = omega arith; few = omega arith; counted = omega (arith, adds); edge = λ below. inr (left below) }
    ]
