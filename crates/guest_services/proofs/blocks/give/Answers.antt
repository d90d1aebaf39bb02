use Rattle.std.proofs.Common.{◌≡◌, ◌∙◌, sym, ap, arith, subst, true}
use Rattle.guest_services.specs.declared.blocks.Block.{Block}
use Rattle.guest_services.specs.Blocks.{is_fit}
use Rattle.guest_services.proofs.BlockLists.{given_whole, given_part, fit_size, one_size}
use Rattle.guest_services.proofs.blocks.give.Goals as goal

pub overflow_add-rest : goal.overflow_add-rest
overflow_add-rest c =
    let fits = subst (λ (x : Block). is_fit c.args.n x ≡ true) (sym c.index-b.ensures) (c.requires.here c.index-b.result.now) in
    let most = fit_size c.args.n c.index-b.result.now fits in
    let size = one_size c.args.blocks.now.items c.args.i c.index-b.result.now c.requires.within c.index-b.ensures in
    let small = c.requires.small in
    let low = c.requires.low c.index-b.result.now in
    let start = ap (λ (x : Block). x.at) c.index-b.ensures in
    omega (arith, most, size, small, low, start)

pub returns-in-Ok-clause-items : goal.returns-in-Ok-clause-items
returns-in-Ok-clause-items c =
    let fits = subst (λ (x : Block). is_fit c.args.n x ≡ true) (sym c.index-b.ensures) (c.requires.here c.index-b.result.now) in
    c.in-Ok.ensures.items ∙ given_part c.args.n c.args.blocks.now.items c.args.i c.index-b.result.now c.requires.before c.requires.within c.index-b.ensures fits c.if-b-n.true

pub returns-else-b-n-clause-items : goal.returns-else-b-n-clause-items
returns-else-b-n-clause-items c =
    let fits = subst (λ (x : Block). is_fit c.args.n x ≡ true) (sym c.index-b.ensures) (c.requires.here c.index-b.result.now) in
    given_whole c.args.n c.args.blocks.now.items c.args.i c.index-b.result.now c.requires.before c.requires.within c.index-b.ensures fits c.if-b-n.false
