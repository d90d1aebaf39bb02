use Rattle.unit_object.proofs.Unit.{object_linked}
use Rattle.unit_object.proofs.laws.linked_objects_have_the_code_of_their_functions.Goals as goal

pub returns : goal.returns
returns c os link object o is_function unit stored instrumented is_code is_fixes of_data fit =
    object_linked os link object o is_function unit stored instrumented is_code is_fixes of_data fit
