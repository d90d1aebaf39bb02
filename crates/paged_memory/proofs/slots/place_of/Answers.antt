use Rattle.std.proofs.Common.{arith, rules, nat_le}
use Rattle.std.proofs.lemmas.List.Sorted.{IsPartitionPoint-from_clause, IsPartitionedBy-leb}
use Rattle.paged_memory.proofs.SlotLists.{not_before, is_before}
use Rattle.paged_memory.proofs.slots.place_of.Goals as goal

pub returns-clause-before : goal.returns-clause-before
returns-clause-before c = λ k d below.
    let sorted = IsPartitionedBy-leb (λ s. s.page) _ c.args.page c.requires in
    let point = IsPartitionPoint-from_clause (λ s. nat_le s.page c.args.page) _ _ c.partition_point.ensures.partitioned sorted (λ a r q k. search rules) in
    not_before _ _ (point.0 k d (omega arith) below)

pub returns-clause-here : goal.returns-clause-here
returns-clause-here c = λ d within.
    let sorted = IsPartitionedBy-leb (λ s. s.page) _ c.args.page c.requires in
    let point = IsPartitionPoint-from_clause (λ s. nat_le s.page c.args.page) _ _ c.partition_point.ensures.partitioned sorted (λ a r q k. search rules) in
    is_before _ _ (point.1 c.partition_point.result d (omega arith) within)
