use Rattle.valid_code.proofs.Steps.{steps_valid}
use Rattle.valid_code.proofs.Homing.{homing_valid}
use Rattle.valid_code.proofs.laws.code_of_named_homes_is_valid.Goals as goal

pub returns-clause-steps : goal.returns-clause-steps
returns-clause-steps c = λ p named label_at entry_at labels returns takes at steps limited calls low. steps_valid label_at entry_at labels p named returns takes at steps limited calls low

pub returns-clause-homing : goal.returns-clause-homing
returns-clause-homing c = λ p named label_at entry_at at private parameters few low. homing_valid label_at entry_at p named at private parameters few low
