use Rattle.std.proofs.Common.{◌≢◌, sym, subst, arith, rules, nat_lt}
use Rattle.std.proofs.lemmas.List.{get_or_default}
use Rattle.std.proofs.lemmas.List.Sorted.{IsPartitionPoint-from_clause, IsPartitionedBy-ltb}
use Rattle.paged_memory.specs.declared.slots.Slot.{Slot}
use Rattle.paged_memory.proofs.SlotLists.{frame_found, no_frame_found}
use Rattle.paged_memory.proofs.slots.frame_of.Goals as goal
use Rattle.paged_memory.proofs.slots.frame_of.Goals.{else-at-slots-via-then-at-slots+else-slots-at, else-at-slots-via-else-at-slots}

abbrev no_slot : Slot
no_slot = record { page = 0; frame = 0 }

pub returns-then-slots-at : goal.returns-then-slots-at
returns-then-slots-at c =
    let sorted = IsPartitionedBy-ltb (λ s. s.page) _ c.args.page c.requires in
    let point = IsPartitionPoint-from_clause (λ s. nat_lt s.page c.args.page) _ _ c.partition_point-at.ensures.partitioned sorted (λ a r q k. search rules) in
    sym (frame_found c.args.slots.now c.args.page c.partition_point-at.result no_slot point c.if-at-slots.true c.if-slots-at.true)

pub returns : goal.returns
returns c =
    let sorted = IsPartitionedBy-ltb (λ s. s.page) _ c.args.page c.requires in
    let point = IsPartitionPoint-from_clause (λ s. nat_lt s.page c.args.page) _ _ c.partition_point-at.ensures.partitioned sorted (λ a r q k. search rules) in
    sym (no_frame_found c.args.slots.now c.args.page c.partition_point-at.result c.requires point (λ d within.
    elim c.else-at-slots.branch [
      | else-at-slots-via-then-at-slots+else-slots-at w ↦
          subst (λ (s : Slot). s.page ≢ c.args.page) (get_or_default c.args.slots.now c.partition_point-at.result no_slot d within) w.if-slots-at.false
      | else-at-slots-via-else-at-slots w ↦ (let past = w.if-at-slots.false in absurd (omega (arith, past)))
    ]))
