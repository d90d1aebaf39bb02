use Rattle.mx_base.proofs.HeapLemmas.{never_overlap, lie_in_heap, owners-heap_after}
use Rattle.mx_base.proofs.laws.live_blocks_never_overlap.Goals as goal

pub returns-clause-apart : goal.returns-clause-apart
returns-clause-apart c = never_overlap

pub returns-clause-within : goal.returns-clause-within
returns-clause-within c = lie_in_heap

pub returns-clause-once : goal.returns-clause-once
returns-clause-once c calls a = owners-heap_after a calls
