use Rattle.std.specs.Prelude.{length}
use Rattle.std.proofs.Common.{◌≡◌, ◌∙◌, sym, ap, arith, subst, true, false, ℕ, suc, ◌-◌, set, get_or, length-set}
use Rattle.guest_services.specs.declared.blocks.Block.{Block}
use Rattle.guest_services.specs.Blocks.{free_block, joined_at, is_live_at, total_size}
use Rattle.guest_services.proofs.BlockLists.{total-set, total-tiled, total-joined_at, length-joined_at, given_up_later}
use Rattle.guest_services.proofs.blocks.give_up.Goals as goal

pub join-requires-clause-small : goal.join-requires-clause-small
join-requires-clause-small c =
    let total = total-set c.args.blocks.now.items c.args.i c.index-b.result.now false c.index-b.ensures in
    let sum = total-tiled 0x3000_0000 c.args.blocks.now.items c.requires.tiled in
    omega (arith, total, sum)

pub join-requires-then-i-gt0-clause-within : goal.join-requires-then-i-gt0-clause-within
join-requires-then-i-gt0-clause-within c =
    let after = ap length c.join.ensures.items in
    let low = length-joined_at c.args.i (set c.args.blocks.now.items c.args.i (free_block c.index-b.result.now.at c.index-b.result.now.size)) in
    let long = length-set c.args.blocks.now.items c.args.i (free_block c.index-b.result.now.at c.index-b.result.now.size) in
    let within = c.requires.within in
    let some = c.if-i-gt0.true in
    omega (arith, after, low, long, within, some)

pub join-requires-then-i-gt0-clause-small : goal.join-requires-then-i-gt0-clause-small
join-requires-then-i-gt0-clause-small c =
    let after = ap total_size c.join.ensures.items in
    let same = total-joined_at c.args.i (set c.args.blocks.now.items c.args.i (free_block c.index-b.result.now.at c.index-b.result.now.size)) in
    let total = total-set c.args.blocks.now.items c.args.i c.index-b.result.now false c.index-b.ensures in
    let sum = total-tiled 0x3000_0000 c.args.blocks.now.items c.requires.tiled in
    omega (arith, after, same, total, sum)

pub returns-then-i-gt0-clause-items : goal.returns-then-i-gt0-clause-items
returns-then-i-gt0-clause-items c =
    let here = subst (λ (x : Block). is_live_at c.args.a x ≡ true) (sym c.index-b.ensures) (c.requires.here c.index-b.result.now) in
    let some = c.if-i-gt0.true in
    let within = c.requires.within in
    let same : c.args.i ≡ suc (c.args.i - 1) = omega (arith, some) in
    c.join-then-i-gt0.ensures.items ∙ ap (joined_at (c.args.i - 1)) c.join.ensures.items
    ∙ ap (λ k. joined_at (c.args.i - 1) (joined_at k (set c.args.blocks.now.items k (free_block c.index-b.result.now.at c.index-b.result.now.size)))) same
    ∙ given_up_later c.args.a 0x3000_0000 c.args.blocks.now.items (c.args.i - 1) c.index-b.result.now c.requires.tiled
    (λ k d below. c.requires.before k d (omega (arith, some))) (omega (arith, some, within))
    (subst (λ (k : ℕ). c.index-b.result.now ≡ get_or c.args.blocks.now.items k c.index-b.result.now) same c.index-b.ensures) here
