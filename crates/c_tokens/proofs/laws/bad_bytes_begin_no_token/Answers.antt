use Rattle.c_tokens.specs.declared.fault.Flaw.TheVariants.{BadByte}
use Rattle.c_tokens.proofs.Refusals.{first_bad}
use Rattle.c_tokens.proofs.Recut.{bad_refuses}
use Rattle.c_tokens.proofs.laws.bad_bytes_begin_no_token.Goals as goal

pub returns : goal.returns
returns c = λ file bytes place. (first_bad file bytes BadByte place, bad_refuses file bytes BadByte place)
