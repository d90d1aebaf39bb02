use Rattle.std.proofs.Common.{arith, refl, sym, ◌∙◌, ap, length, ◌+◌}
use Rattle.std.specs.Prelude.{Err}
use Rattle.x86_decode.specs.declared.reader.Undecoded.TheVariants.{Short}
use Rattle.x86_decode.proofs.Length.{most_of, most_of-go, most_of-end, least_of-most_of}
use Rattle.x86_decode.proofs.Partial.{is_partial_next}
use Rattle.x86_decode.proofs.Loop.{run_at, run_end}
use Rattle.x86_decode.proofs.reader.answer.Goals as goal

pub overflow_cast-result : goal.overflow_cast-result
overflow_cast-result c = let k = most_of-end _ _ _ _ c.loop-i.invariant.partial c.step.ensures c.in-End.is in omega (arith, c.loop-i.invariant.short, k)

pub overflow_add-result : goal.overflow_add-result
overflow_add-result c = let k = most_of-end _ _ _ _ c.loop-i.invariant.partial c.step.ensures c.in-End.is in omega (arith, c.loop-i.invariant.short, k)

pub overflow_cast-result-2 : goal.overflow_cast-result-2
overflow_cast-result-2 c = omega (arith, c.loop-i.invariant.short)

pub overflow_add-result-2 : goal.overflow_add-result-2
overflow_add-result-2 c = omega (arith, c.loop-i.invariant.short, least_of-most_of c.loop-i.state)

pub loop-i-init : goal.loop-i-init
unfolding most_of
loop-i-init c = record { partial = refl; short = omega arith; same = refl }

pub returns-in-Dead : goal.returns-in-Dead
returns-in-Dead c = sym (run_at _ _ _ _ c.loop-i-test.true (sym c.in-Dead.is ∙ c.step.ensures)) ∙ c.loop-i.invariant.same

pub returns-in-End : goal.returns-in-End
returns-in-End c = sym (run_at _ _ _ _ c.loop-i-test.true (sym c.in-End.is ∙ c.step.ensures)) ∙ c.loop-i.invariant.same

pub loop-i-preserved : goal.loop-i-preserved
loop-i-preserved c = record {
  partial = is_partial_next _ _ _ _ c.loop-i.invariant.partial c.step.ensures c.in-Go.is;
  short = let k = most_of-go _ _ _ _ c.loop-i.invariant.partial c.step.ensures c.in-Go.is in omega (arith, c.loop-i.invariant.short, k);
  same = sym (run_at _ _ _ _ c.loop-i-test.true (sym c.in-Go.is ∙ c.step.ensures)) ∙ c.loop-i.invariant.same;
}

pub returns : goal.returns
returns c = ap (λ n. Err (Short (length c.args.bytes.now + n))) c.least.ensures.value ∙ sym (run_end _ _ _ c.loop-i-test.false c.loop-i.auto.i-end) ∙ c.loop-i.invariant.same
