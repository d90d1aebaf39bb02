use Rattle.linked_programs.proofs.Compiled.{is_compiled}
use Rattle.linked_programs.proofs.laws.linked_functions_are_compiled.Goals as goal

pub returns : goal.returns
returns c = λ reads reader preserve os v linked number count name l fits f few is.
    is_compiled reads reader preserve os v linked c.assigned_homes_serve.ensures c.assigned_homes_hold_no_argument_to_come.ensures number count name l fits f few is
