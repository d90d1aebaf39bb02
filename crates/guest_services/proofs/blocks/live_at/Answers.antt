use Rattle.std.proofs.Common.{◌≡◌, subst, arith, rules, nat_lt, false, get_or}
use Rattle.std.proofs.lemmas.List.{get_or_default}
use Rattle.std.proofs.lemmas.List.Sorted.{IsPartitionPoint-from_clause, IsPartitionedBy-ltb}
use Rattle.guest_services.specs.declared.blocks.Block.{Block}
use Rattle.guest_services.specs.Blocks.{is_live_at}
use Rattle.guest_services.proofs.BlockLists.{tiled_sorted, none_live_before, none_live, other_start, free_here}
use Rattle.guest_services.proofs.blocks.live_at.Goals as goal
use Rattle.guest_services.proofs.blocks.live_at.Goals.{else-at-blocks-via-then-at-blocks+then-blocks-at+else-blocks-at-2, else-at-blocks-via-then-at-blocks+else-blocks-at, else-at-blocks-via-else-at-blocks}

abbrev no_block_yet : Block
no_block_yet = record { live = false; at = 0; size = 0 }

pub returns-then-blocks-at-2-clause-before : goal.returns-then-blocks-at-2-clause-before
returns-then-blocks-at-2-clause-before c = λ k d below.
    let sorted = IsPartitionedBy-ltb (λ b. b.at) _ c.args.a (tiled_sorted 0x3000_0000 c.args.blocks.now c.requires) in
    let point = IsPartitionPoint-from_clause (λ b. nat_lt b.at c.args.a) _ _ c.partition_point-at.ensures.partitioned sorted (λ a r q k. search rules) in
    none_live_before c.args.blocks.now c.args.a c.partition_point-at.result k d point below

pub returns-clause-before : goal.returns-clause-before
returns-clause-before c =
    let sorted = IsPartitionedBy-ltb (λ b. b.at) _ c.args.a (tiled_sorted 0x3000_0000 c.args.blocks.now c.requires) in
    let point = IsPartitionPoint-from_clause (λ b. nat_lt b.at c.args.a) _ _ c.partition_point-at.ensures.partitioned sorted (λ a r q k. search rules) in
    none_live 0x3000_0000 c.args.blocks.now c.args.a c.partition_point-at.result c.requires point (λ d within.
    subst (λ (b : Block). is_live_at c.args.a b ≡ false) (get_or_default c.args.blocks.now c.partition_point-at.result no_block_yet d within)
    (elim c.else-at-blocks.branch [
      | else-at-blocks-via-then-at-blocks+then-blocks-at+else-blocks-at-2 w ↦ other_start c.args.a (get_or c.args.blocks.now c.partition_point-at.result no_block_yet) w.if-blocks-at-2.false
      | else-at-blocks-via-then-at-blocks+else-blocks-at w ↦ free_here c.args.a (get_or c.args.blocks.now c.partition_point-at.result no_block_yet) w.if-blocks-at.false
      | else-at-blocks-via-else-at-blocks w ↦ (let past = w.if-at-blocks.false in absurd (omega (arith, past)))
    ]))
