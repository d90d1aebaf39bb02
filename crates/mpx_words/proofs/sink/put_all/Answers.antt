use Rattle.std.proofs.Common.{arith, ◌∙◌}
use Rattle.std.proofs.lemmas.List.{length-drop}
use Rattle.mpx_words.proofs.Puts.{adds_more}
use Rattle.mpx_words.proofs.sink.put_all.Goals as goal

pub loop-done-preserved : goal.loop-done-preserved
loop-done-preserved g c =
    let h = rw c.split_at.ensures.back at c.in-Ok.ensures.answer in
    record {
      within = omega (arith, length-drop c.loop-done.done c.args.bytes.now, h.0);
      put = adds_more _ _ _ c.loop-done.done c.in-Ok.n c.args.bytes.now c.loop-done.invariant.put h.2;
      kept = c.in-Ok.ensures.faults ∙ c.loop-done.invariant.kept;
    }
