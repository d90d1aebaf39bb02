use Rattle.bounds_plan.specs.steps.Code.{arrivals}
use Rattle.steps_facts.specs.Seen.{reached_of}
use Rattle.steps_pieces.specs.Put.{put_of}
use Rattle.c_emit_statements.specs.Bodies.{statement}
use Rattle.c_emit_functions.specs.Parameters.{parameters_of}
use Rattle.c_emit_functions.proofs.FunctionLemmas.{steps_stand}
use Rattle.c_emit_functions.proofs.functions.emit_steps.Goals as goal

pub returns-clause-steps : goal.returns-clause-steps
returns-clause-steps g c = steps_stand (arrivals (parameters_of c.args.parameters.now) c.args.private c.args.d)
    c.new-steps.result c.put_arrivals.new.steps c.push.new.self (put_of c.emit_statement.new.out)
    (statement c.args.body.now (g.K.Knows.around c.args.known.now) (reached_of c.args.r)).statement c.args.d
    c.new-steps.ensures c.in_ok-put_arrivals.ensures c.in_ok-after.ensures.put c.in_ok-push.ensures.ok
