use Rattle.x86_core.proofs.EarlyPrograms.{runs_once}
use Rattle.x86_core.proofs.laws.code_runs_once.Goals as goal

pub returns : goal.returns
returns c = runs_once
