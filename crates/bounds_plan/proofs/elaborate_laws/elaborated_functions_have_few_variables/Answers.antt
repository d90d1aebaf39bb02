use Rattle.bounds_plan.proofs.Few.{few_parameters, few_variables}
use Rattle.bounds_plan.proofs.elaborate_laws.elaborated_functions_have_few_variables.Goals as goal

pub returns-clause-called : goal.returns-clause-called
returns-clause-called c = few_parameters

pub returns-clause-defined : goal.returns-clause-defined
returns-clause-defined c = few_variables
