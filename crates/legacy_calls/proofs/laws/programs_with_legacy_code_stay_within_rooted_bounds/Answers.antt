use Rattle.legacy_calls.proofs.Relations.{accesses_judged_outside}
use Rattle.legacy_calls.proofs.Rooted.{outside_rooted}
use Rattle.legacy_calls.proofs.laws.programs_with_legacy_code_stay_within_rooted_bounds.Goals as goal

pub returns : goal.returns
returns c = λ start program whole made k. c.runs_stay_within_rooted_bounds.ensures start program whole made _ (accesses_judged_outside k) (outside_rooted start k)
