use Rattle.x86_decode.proofs.Again.{one_form as one_form_law}
use Rattle.x86_decode.proofs.laws.one_form.Goals as goal

pub returns : goal.returns
returns c = one_form_law
