use Rattle.asked_steps.proofs.Fine.{compiled_is_fine}
use Rattle.asked_steps.proofs.laws.compiled_functions_are_what_code_asks.Goals as goal

pub returns : goal.returns
returns c = compiled_is_fine c.steps_name_values_of_their_sort.ensures.sorts c.jumps_find_their_labels.ensures
