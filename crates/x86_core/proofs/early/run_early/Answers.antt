use Rattle.std.proofs.Common.{refl, ◌∙◌}
use Rattle.x86_forms.specs.EarlyEffects.{effect}
use Rattle.x86_core.specs.EarlyMachine.{seen}
use Rattle.x86_core.proofs.EarlyRunning.{reading, after_less, goes_on, sends_on, fault, ends_here, nothing_left, no_front, stopped, runs_code}
use Rattle.x86_core.proofs.early.run_early.Goals as goal

pub slice_bounds-rest-count : goal.slice_bounds-rest-count
slice_bounds-rest-count g c = ((c.in-Ok.ensures.found c.in-Ok.instr c.in-Ok.length).0 refl).within

pub slice_bounds-rest-start : goal.slice_bounds-rest-start
slice_bounds-rest-start g c = ((c.in-Ok.ensures.found c.in-Ok.instr c.in-Ok.length).0 refl).within

pub step-requires : goal.step-requires
step-requires g c = ((c.in-Ok.ensures.found c.in-Ok.instr c.in-Ok.length).0 refl).spells.valid

pub loop-instr-smaller-in-On : goal.loop-instr-smaller-in-On
loop-instr-smaller-in-On g c = after_less c.loop-instr.rest.now c.in-Ok.instr c.in-Ok.length ((c.in-Ok.ensures.found c.in-Ok.instr c.in-Ok.length).0 refl)

pub loop-instr-smaller : goal.loop-instr-smaller
loop-instr-smaller g c = after_less c.loop-instr.rest.now c.in-Ok.instr c.in-Ok.length ((c.in-Ok.ensures.found c.in-Ok.instr c.in-Ok.length).0 refl)

pub loop-instr-preserved-in-On : goal.loop-instr-preserved-in-On
loop-instr-preserved-in-On g c =
    let now = c.loop-instr.invariant in
    let r = reading c.loop-instr.rest.now c.in-Ok.instr c.in-Ok.length c.address_after-next.result (seen c.loop-instr.machine) c.in-Ok.ensures.found c.address_after-next.ensures in
    record {
      runs = λ run k. goes_on run (g.O.Sink.held c.args.out.now) (g.O.Sink.held c.loop-instr.out) c.loop-instr.rest.now c.in-Ok.instr c.in-Ok.length c.address_after-next.result (seen c.loop-instr.machine) r (now.runs run k) (seen c.step.new.self) c.in-On.ensures;
      no_fault = now.no_fault;
    }

pub loop-instr-preserved : goal.loop-instr-preserved
loop-instr-preserved g c =
    let now = c.loop-instr.invariant in
    let r = reading c.loop-instr.rest.now c.in-Ok.instr c.in-Ok.length c.address_after-next.result (seen c.loop-instr.machine) c.in-Ok.ensures.found c.address_after-next.ensures in
    let put = c.in_default-put_byte.ensures in
    record {
      runs = λ run k. sends_on run (g.O.Sink.held c.args.out.now) (g.O.Sink.held c.loop-instr.out) c.loop-instr.rest.now c.in-Ok.instr c.in-Ok.length c.address_after-next.result (seen c.loop-instr.machine) r (now.runs run k) c.in-Put.byte (seen c.step.new.self) (g.O.Sink.held c.put_byte.new.out) c.in-Put.ensures put.0;
      no_fault = put.1 ∙ now.no_fault;
    }

pub returns-in-Err-clause-runs : goal.returns-in-Err-clause-runs
returns-in-Err-clause-runs g c = λ run k.
    let now = c.loop-instr.invariant in
    let r = reading c.loop-instr.rest.now c.in-Ok.instr c.in-Ok.length c.address_after-next.result (seen c.loop-instr.machine) c.in-Ok.ensures.found c.address_after-next.ensures in
    let put = c.in-Err.ensures in
    fault run (g.O.Sink.held c.args.out.now) (g.O.Sink.held c.loop-instr.out) c.loop-instr.rest.now c.in-Ok.instr c.in-Ok.length c.address_after-next.result (seen c.loop-instr.machine) r (now.runs run k) c.in-Put.byte (seen c.step.new.self) (g.O.Sink.held c.put_byte.new.out) c.in-Put.ensures put.0

pub returns-in-End-clause-runs : goal.returns-in-End-clause-runs
returns-in-End-clause-runs g c = λ run k.
    let now = c.loop-instr.invariant in
    let r = reading c.loop-instr.rest.now c.in-Ok.instr c.in-Ok.length c.address_after-next.result (seen c.loop-instr.machine) c.in-Ok.ensures.found c.address_after-next.ensures in
    let d = stopped (effect c.in-Ok.instr c.address_after-next.result (seen c.loop-instr.machine)) c.in-End.stop (seen c.step.new.self) c.in-End.ensures in
    runs_code run (g.O.Sink.held c.args.out.now) (g.O.Sink.held c.loop-instr.out) c.in-End.stop d.end d.tells
    (ends_here run (g.O.Sink.held c.args.out.now) (g.O.Sink.held c.loop-instr.out) c.loop-instr.rest.now c.in-Ok.instr c.in-Ok.length c.address_after-next.result (seen c.loop-instr.machine) r (now.runs run k) d.end d.is)

pub returns-clause-runs : goal.returns-clause-runs
returns-clause-runs g c = λ run k.
    let now = c.loop-instr.invariant in
    nothing_left run (g.O.Sink.held c.args.out.now) (g.O.Sink.held c.loop-instr.out) c.loop-instr.rest.now (seen c.loop-instr.machine) (no_front c.loop-instr.rest.now c.in_default.field-0 c.in_default.ensures.found) (now.runs run k)
