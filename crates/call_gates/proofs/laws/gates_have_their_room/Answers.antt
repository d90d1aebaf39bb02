use Rattle.call_gates.proofs.Onward.{start_gates, landing_gates, stub_gates, outer_gates}
use Rattle.call_gates.proofs.laws.gates_have_their_room.Goals as goal

pub returns-clause-start : goal.returns-clause-start
returns-clause-start c = start_gates

pub returns-clause-landing : goal.returns-clause-landing
returns-clause-landing c = landing_gates

pub returns-clause-stub : goal.returns-clause-stub
returns-clause-stub c = stub_gates

pub returns-clause-outer : goal.returns-clause-outer
returns-clause-outer c = outer_gates
