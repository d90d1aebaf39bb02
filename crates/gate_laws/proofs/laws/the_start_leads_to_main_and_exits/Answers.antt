use Rattle.gate_laws.proofs.Start.{starts}
use Rattle.gate_laws.proofs.laws.the_start_leads_to_main_and_exits.Goals as goal

pub returns : goal.returns
returns c = λ k image places inner main bytes y loaded input fits turns. starts k image places inner main loaded.is_main loaded.start input fits turns bytes y loaded.code loaded.unsealed loaded.empty
