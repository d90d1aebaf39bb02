use Rattle.std.proofs.Common.{rules}
use Rattle.c_check_statements.specs.Functions.{parameter}
use Rattle.c_check_statements.proofs.Steps.{list_stops, list_goes, list_ends}
use Rattle.c_check_statements.proofs.functions.read_parameters.Goals as goal

pub returns-in_err-read_parameter : goal.returns-in_err-read_parameter
returns-in_err-read_parameter c = list_stops parameter c.args.params.now c.params.param-index c.param-item.result c.params.invariant c.params-test.true c.param-item.is c.in_err-read_parameter.ensures (search rules)

pub params-preserved : goal.params-preserved
params-preserved c = list_goes parameter c.args.params.now c.params.param-index c.param-item.result c.params.invariant c.params-test.true c.param-item.is c.in_ok-read_parameter.ensures

pub returns : goal.returns
returns c = list_ends parameter c.args.params.now c.params.param-index c.params.invariant c.params-test.false
