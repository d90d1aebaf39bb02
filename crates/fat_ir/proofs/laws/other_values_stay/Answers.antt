use Rattle.fat_ir.proofs.Quiet.{others-stay}
use Rattle.fat_ir.proofs.laws.other_values_stay.Goals as goal

pub returns : goal.returns
returns c = λ symbols step s v none. others-stay v symbols step s none
