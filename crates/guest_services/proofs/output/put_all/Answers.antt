use Rattle.std.specs.Prelude.{length}
use Rattle.std.proofs.Common.{◌∙◌, ap, arith, subst, ℕ, take, List}
use Rattle.std.proofs.lemmas.List.{take_rest}
use Rattle.mx_base.specs.Outside.{Adds}
use Rattle.guest_services.proofs.Sinks.{piece_more, front_more, risen_from}
use Rattle.guest_services.proofs.output.put_all.Goals as goal

pub returns-in-Err : goal.returns-in-Err
returns-in-Err g c = (
  (let below = c.loop-at-test.true in omega (arith, below)),
  front_more (g.O.Sink.held c.args.out.now) (g.O.Sink.held c.loop-at.out) (g.O.Sink.held c.put.new.self) c.args.bytes.now c.loop-at.at c.loop-at.invariant.sent c.in-Err.ensures.answer,
  risen_from (g.O.Sink.faults c.args.out.now) (g.O.Sink.faults c.loop-at.out) (g.O.Sink.faults c.put.new.self) c.loop-at.invariant.no_fault c.in-Err.ensures.faults,
)

pub loop-at-preserved : goal.loop-at-preserved
loop-at-preserved g c =
    let rest = take_rest c.args.bytes.now c.loop-at.at in
    let put = c.in-Ok.ensures.answer in
    let most = put.0 in
    let long = ap length rest in
    record {
      within = omega arith;
      sent = piece_more (g.O.Sink.held c.args.out.now) (g.O.Sink.held c.loop-at.out) (g.O.Sink.held c.put.new.self) c.args.bytes.now c.loop-at.at c.in-Ok.n c.loop-at.invariant.sent
          (subst (λ (xs : List ℕ). Adds (g.O.Sink.held c.loop-at.out) (g.O.Sink.held c.put.new.self) (take c.in-Ok.n xs)) rest put.2);
      no_fault = c.in-Ok.ensures.faults ∙ c.loop-at.invariant.no_fault;
    }
