use Rattle.linked_code.proofs.Labels.{function_here, exit_here}
use Rattle.linked_code.proofs.laws.linked_labels_are_where_they_stand.Goals as goal

pub returns-clause-steps : goal.returns-clause-steps
returns-clause-steps c p is_function f parameters units first last labels code entry_at address access_of at labelled fits tells =
    function_here p is_function code entry_at address f parameters units first last labels access_of at labelled fits tells

pub returns-clause-end : goal.returns-clause-end
returns-clause-end c p is_function f parameters units first last labels code entry_at address at labelled fits =
    exit_here p is_function code entry_at address f parameters units first last labels at labelled fits
