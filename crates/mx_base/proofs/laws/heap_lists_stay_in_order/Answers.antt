use Rattle.mx_base.proofs.HeapOrder.{IsOrdered-heap_after, few_free}
use Rattle.mx_base.proofs.laws.heap_lists_stay_in_order.Goals as goal

pub returns-clause-free : goal.returns-clause-free
returns-clause-free c calls = (IsOrdered-heap_after calls).free

pub returns-clause-live : goal.returns-clause-live
returns-clause-live c calls = (IsOrdered-heap_after calls).live

pub returns-clause-few : goal.returns-clause-few
returns-clause-few c = few_free
