use Rattle.c_tokens.specs.declared.fault.Flaw.TheVariants.{OpenText}
use Rattle.c_tokens.proofs.Refusals.{first_bad}
use Rattle.c_tokens.proofs.Recut.{bad_refuses}
use Rattle.c_tokens.proofs.laws.open_texts_are_unended.Goals as goal

pub returns : goal.returns
returns c = λ file bytes place. (first_bad file bytes OpenText place, bad_refuses file bytes OpenText place)
