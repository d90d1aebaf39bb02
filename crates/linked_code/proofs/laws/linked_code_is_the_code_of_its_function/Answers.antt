use Rattle.linked_code.proofs.Going.{linked_function}
use Rattle.linked_code.proofs.laws.linked_code_is_the_code_of_its_function.Goals as goal

pub returns : goal.returns
returns c p is_function f parameters units first last labels code entry_at address before behind all =
    linked_function p is_function labels code entry_at address f parameters units first last before behind all
