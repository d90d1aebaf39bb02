use Rattle.std.specs.Prelude.{length}
use Rattle.std.proofs.Common.{◌≡◌, ◌∙◌, sym, ap, arith, subst, true, false, ℕ, ◌<◌, refl, List, Some, get_or}
use Rattle.mx_base.specs.Heap.{Range, freed, block_at}
use Rattle.std.proofs.lemmas.List.{get_or_default}
use Rattle.guest_services.specs.declared.blocks.Block.{Block}
use Rattle.guest_services.specs.Blocks.{heap_of, free_among, live_among, is_live_at, range_of, IsTiled, IsFront}
use Rattle.guest_services.proofs.BlockLists.{no_block, block_found, free-given_up, live-given_up, tiled-given_up, length-without, front-given_up, front_least}
use Rattle.guest_services.proofs.Heaps.{freed_none, freed_some}
use Rattle.guest_services.proofs.heap.Heap.free.Goals as goal

abbrev no_block_yet : Block
no_block_yet = record { live = false; at = 0; size = 0 }

found_by : (a : ℕ) (bs : List Block) (i : ℕ) → ((k : ℕ) (d : Block) → k < i → is_live_at a (get_or bs k d) ≡ false) → i < length bs
    → ((d : Block) → i < length bs → is_live_at a (get_or bs i d) ≡ true) → (r : Range) × (block_at (live_among bs) a ≡ Some r)
found_by a bs i before within here =
    let b : Block = get_or bs i no_block_yet in
    let at : get_or bs i no_block_yet ≡ get_or bs i (get_or bs i no_block_yet) = get_or_default bs i no_block_yet (get_or bs i no_block_yet) within in
    (range_of (get_or bs i no_block_yet), block_found a bs i (get_or bs i no_block_yet) before within at (here no_block_yet within))

pub returns-then-i-as_slice : goal.returns-then-i-as_slice
returns-then-i-as_slice c =
    let count = ap length c.as_slice.ensures.value in
    let last = c.if-i-as_slice.true in
    let before = subst (λ (xs : List Block). (k : ℕ) (d : Block) → k < c.live_at-i.result → is_live_at c.args.a (get_or xs k d) ≡ false) c.deref.ensures.value c.live_at-i.ensures.before in
    let none = no_block c.args.a c.self.inside.blocks.items (λ k d below. before k d (omega (arith, count, last))) in
    (ap (λ h. freed h c.args.a) (sym c.self.view_is) ∙ freed_none (heap_of c.self.inside.blocks.items) c.args.a none, refl)

pub overflow_sub-self : goal.overflow_sub-self
overflow_sub-self c =
    let many = ap length c.as_slice.ensures.value in
    let more = c.if-i-as_slice.false in
    let before = subst (λ (xs : List Block). (k : ℕ) (d : Block) → k < c.live_at-i.result → is_live_at c.args.a (get_or xs k d) ≡ false) c.deref.ensures.value c.live_at-i.ensures.before in
    let here = subst (λ (xs : List Block). (d : Block) → c.live_at-i.result < length xs → is_live_at c.args.a (get_or xs c.live_at-i.result d) ≡ true) c.deref.ensures.value c.live_at-i.ensures.here in
    let within : c.live_at-i.result < length c.self.inside.blocks.items = omega (arith, many, more) in
    let found = found_by c.args.a c.self.inside.blocks.items c.live_at-i.result before within here in
    let gone = length-without (live_among c.self.inside.blocks.items) c.args.a found.0 found.1 in
    let count = c.self.invariant.0.count in
    omega (arith, gone, count)

pub invariant_of-self : goal.invariant_of-self
invariant_of-self c =
    let many = ap length c.as_slice.ensures.value in
    let more = c.if-i-as_slice.false in
    let before = subst (λ (xs : List Block). (k : ℕ) (d : Block) → k < c.live_at-i.result → is_live_at c.args.a (get_or xs k d) ≡ false) c.deref.ensures.value c.live_at-i.ensures.before in
    let here = subst (λ (xs : List Block). (d : Block) → c.live_at-i.result < length xs → is_live_at c.args.a (get_or xs c.live_at-i.result d) ≡ true) c.deref.ensures.value c.live_at-i.ensures.here in
    let within : c.live_at-i.result < length c.self.inside.blocks.items = omega (arith, many, more) in
    let found = found_by c.args.a c.self.inside.blocks.items c.live_at-i.result before within here in
    let gone = length-without (live_among c.self.inside.blocks.items) c.args.a found.0 found.1 in
    let sound = c.self.invariant.0 in
    let count = sound.count in
    let less = sound.few in
    let live = ap length (ap live_among c.give_up.ensures.items ∙ live-given_up c.args.a c.self.inside.blocks.items) in
    let reserved = c.self.invariant.1 in
    let kept = c.give_up.ensures.reserved in
    let least = c.min-self-inside.ensures in
    let back = c.saturating_sub.ensures in (
      record {
        tiled = subst (λ (xs : List Block). IsTiled 0x3000_0000 xs) (sym c.give_up.ensures.items) (tiled-given_up 0x3000_0000 c.args.a c.self.inside.blocks.items sound.tiled);
        count = omega (arith, live, gone, count);
        few = omega (arith, less);
      },
      omega (arith, reserved, kept),
      subst (λ (xs : List Block). IsFront c.min-self-inside.result xs) (sym c.give_up.ensures.items)
          (front-given_up c.args.a c.min-self-inside.result c.live_at-i.result c.self.inside.blocks.items
          (front_least c.min-self-inside.result c.self.inside.front c.self.inside.blocks.items c.self.invariant.2 (omega (arith, least)))
          before (omega (arith, least, back))),
    )

pub returns : goal.returns
returns c =
    let many = ap length c.as_slice.ensures.value in
    let more = c.if-i-as_slice.false in
    let before = subst (λ (xs : List Block). (k : ℕ) (d : Block) → k < c.live_at-i.result → is_live_at c.args.a (get_or xs k d) ≡ false) c.deref.ensures.value c.live_at-i.ensures.before in
    let here = subst (λ (xs : List Block). (d : Block) → c.live_at-i.result < length xs → is_live_at c.args.a (get_or xs c.live_at-i.result d) ≡ true) c.deref.ensures.value c.live_at-i.ensures.here in
    let within : c.live_at-i.result < length c.self.inside.blocks.items = omega (arith, many, more) in
    let found = found_by c.args.a c.self.inside.blocks.items c.live_at-i.result before within here in
    let free = ap free_among c.give_up.ensures.items ∙ free-given_up 0x3000_0000 c.args.a c.self.inside.blocks.items found.0 c.self.invariant.0.tiled found.1 in
    let live = ap live_among c.give_up.ensures.items ∙ live-given_up c.args.a c.self.inside.blocks.items in
    ap (λ h. freed h c.args.a) (sym c.self.view_is) ∙ freed_some (heap_of c.self.inside.blocks.items) c.args.a found.0 found.1
    ∙ ap Some (λ i. record { free = sym free i; live = sym live i })
