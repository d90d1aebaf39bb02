use Rattle.c_tokens.specs.declared.fault.Flaw.TheVariants.{LongName}
use Rattle.c_tokens.proofs.Refusals.{first_bad}
use Rattle.c_tokens.proofs.Recut.{bad_refuses}
use Rattle.c_tokens.proofs.laws.long_names_are_runs.Goals as goal

pub returns : goal.returns
returns c = λ file bytes place. (first_bad file bytes LongName place, bad_refuses file bytes LongName place)
