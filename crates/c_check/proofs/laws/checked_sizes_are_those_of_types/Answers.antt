use Rattle.c_check.proofs.Agreeing.{sizes_agree}
use Rattle.c_check.proofs.laws.checked_sizes_are_those_of_types.Goals as goal

pub returns : goal.returns
returns c = λ structs kind laid h. sizes_agree structs kind laid h
