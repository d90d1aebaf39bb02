use Rattle.x86_forms.proofs.Conditions.{compare_32, compare_64}
use Rattle.x86_forms.proofs.condition_laws.conditions_compare.Goals as goal

pub returns-clause-word : goal.returns-clause-word
returns-clause-word c = compare_32

pub returns-clause-quad : goal.returns-clause-quad
returns-clause-quad c = compare_64
