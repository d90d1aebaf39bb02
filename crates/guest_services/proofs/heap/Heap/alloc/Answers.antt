use Rattle.std.specs.Prelude.{length}
use Rattle.std.proofs.Common.{◌≡◌, ◌≢◌, ◌∙◌, sym, ap, arith, subst, true, false, ℕ, ◌+◌, ◌*◌, ◌/◌, ◌<◌, List, get_or}
use Rattle.mx_base.specs.Heap.{Heap, allocated, rounded, first_fit, taken_from, placed}
use Rattle.guest_services.specs.declared.blocks.Block.{Block}
use Rattle.guest_services.specs.Blocks.{heap_of, free_among, live_among, is_fit, range_of, IsTiled, IsFront}
use Rattle.guest_services.proofs.BlockLists.{no_fit, fit_found, too_large, free-given, live-given, tiled-given, few, front-given, total-tiled, tiled_low, length-placed}
use Rattle.guest_services.proofs.Heaps.{rounded_is, rounded_least, none_asked, none_more, none_fits, one_fits}
use Rattle.guest_services.proofs.heap.Heap.alloc.Goals as goal
use Rattle.guest_services.proofs.heap.Heap.alloc.Goals.{then-n-eq0-via-then-n-eq0, then-n-eq0-via-else-n-eq0+then-self-ge-MOST_BLOCKS, then-n-eq0-via-else-n-eq0+else-self-ge-MOST_BLOCKS+then-n-gt-HEAP_SIZE}

pub returns-then-n-eq0 : goal.returns-then-n-eq0
returns-then-n-eq0 c =
    let sound = c.self.invariant.0 in
    subst (λ (h : Heap). ◌≡◌ {A = ℕ × Heap} (0, h) (allocated h c.args.n)) c.self.view_is
    (elim c.then-n-eq0.branch [
      | then-n-eq0-via-then-n-eq0 w ↦ none_asked (heap_of c.self.inside.blocks.items) c.args.n w.if-n-eq0.true
      | then-n-eq0-via-else-n-eq0+then-self-ge-MOST_BLOCKS w ↦
          let full = w.if-self-ge-MOST_BLOCKS.true in
          let count = sound.count in
          none_more (heap_of c.self.inside.blocks.items) c.args.n (omega (arith, full, count))
      | then-n-eq0-via-else-n-eq0+else-self-ge-MOST_BLOCKS+then-n-gt-HEAP_SIZE w ↦
          let large = w.if-n-gt-HEAP_SIZE.true in
          let least = rounded_least c.args.n in
          none_fits (heap_of c.self.inside.blocks.items) c.args.n (too_large 0x3000_0000 (rounded c.args.n) c.self.inside.blocks.items sound.tiled (omega (arith, large, least)))
    ])

pub returns-then-i-as_slice : goal.returns-then-i-as_slice
returns-then-i-as_slice c =
    let count = ap length c.as_slice.ensures.value in
    let last = c.if-i-as_slice.true in
    let before = subst (λ (xs : List Block). (k : ℕ) (d : Block) → k < c.first_fit-i.result → is_fit ((c.args.n + 15) / 16 * 16) (get_or xs k d) ≡ false) c.deref-2.ensures.value c.first_fit-i.ensures.before in
    let none = no_fit ((c.args.n + 15) / 16 * 16) c.self.inside.blocks.items (λ k d below. before k d (omega (arith, count, last))) in
    subst (λ (h : Heap). ◌≡◌ {A = ℕ × Heap} (0, h) (allocated h c.args.n)) c.self.view_is
    (none_fits (heap_of c.self.inside.blocks.items) c.args.n (ap (first_fit (free_among c.self.inside.blocks.items)) (sym (rounded_is c.args.n)) ∙ none))

pub give-requires-clause-small : goal.give-requires-clause-small
give-requires-clause-small c = let sum = total-tiled 0x3000_0000 c.self.inside.blocks.items c.self.invariant.0.tiled in omega (arith, sum)

pub give-requires-clause-low : goal.give-requires-clause-low
give-requires-clause-low c = λ d.
    let count = ap length c.as_slice.ensures.value in
    let more = c.if-i-as_slice.false in
    tiled_low 0x3000_0000 c.self.inside.blocks.items c.first_fit-i.result d c.self.invariant.0.tiled (omega (arith, count, more))

pub give-requires-clause-room : goal.give-requires-clause-room
give-requires-clause-room c =
    let most = few 0x3000_0000 c.self.inside.blocks.items c.self.invariant.0.tiled in
    let count = c.self.invariant.0.count in
    let less = c.if-self-ge-MOST_BLOCKS.false in
    let reserved = c.self.invariant.1 in
    omega (arith, most, count, less, reserved)

pub invariant_of-self : goal.invariant_of-self
invariant_of-self c =
    let sound = c.self.invariant.0 in
    let many = ap length c.as_slice.ensures.value in
    let more = c.if-i-as_slice.false in
    let some : 0 < (c.args.n + 15) / 16 * 16 = (let asked : c.args.n ≢ 0 = c.if-n-eq0.false in omega arith) in
    let before = subst (λ (xs : List Block). (k : ℕ) (d : Block) → k < c.first_fit-i.result → is_fit ((c.args.n + 15) / 16 * 16) (get_or xs k d) ≡ false) c.deref-2.ensures.value c.first_fit-i.ensures.before in
    let here = subst (λ (xs : List Block). (d : Block) → c.first_fit-i.result < length xs → is_fit ((c.args.n + 15) / 16 * 16) (get_or xs c.first_fit-i.result d) ≡ true) c.deref-2.ensures.value c.first_fit-i.ensures.here in
    let within : c.first_fit-i.result < length c.self.inside.blocks.items = omega (arith, many, more) in
    let fits = subst (λ (x : Block). is_fit ((c.args.n + 15) / 16 * 16) x ≡ true) (sym c.index.ensures) (here c.index.result.now within) in
    let found = fit_found ((c.args.n + 15) / 16 * 16) c.self.inside.blocks.items c.first_fit-i.result c.index.result.now before within c.index.ensures fits in
    let live = ap length (ap live_among c.give.ensures.items ∙ live-given 0x3000_0000 ((c.args.n + 15) / 16 * 16) c.self.inside.blocks.items (range_of c.index.result.now) sound.tiled found) in
    let grown = length-placed record { from = c.index.result.now.at; size = (c.args.n + 15) / 16 * 16 } (live_among c.self.inside.blocks.items) in
    let count = sound.count in
    let less = c.if-self-ge-MOST_BLOCKS.false in
    let reserved = c.self.invariant.1 in
    let kept = c.give.ensures.reserved in (
      record {
        tiled = subst (λ (xs : List Block). IsTiled 0x3000_0000 xs) (sym c.give.ensures.items) (tiled-given 0x3000_0000 ((c.args.n + 15) / 16 * 16) c.self.inside.blocks.items some sound.tiled);
        count = omega (arith, live, grown, count);
        few = omega (arith, less);
      },
      omega (arith, reserved, kept),
      subst (λ (xs : List Block). IsFront c.first_free-front.result xs) (sym c.give.ensures.items)
          (front-given ((c.args.n + 15) / 16 * 16) c.first_free-front.result c.self.inside.blocks.items (subst (λ (xs : List Block). IsFront c.first_free-front.result xs) c.deref.ensures.value c.first_free-front.ensures.before)),
    )

pub returns : goal.returns
returns c =
    let sound = c.self.invariant.0 in
    let many = ap length c.as_slice.ensures.value in
    let more = c.if-i-as_slice.false in
    let asked : c.args.n ≢ 0 = c.if-n-eq0.false in
    let before = subst (λ (xs : List Block). (k : ℕ) (d : Block) → k < c.first_fit-i.result → is_fit ((c.args.n + 15) / 16 * 16) (get_or xs k d) ≡ false) c.deref-2.ensures.value c.first_fit-i.ensures.before in
    let here = subst (λ (xs : List Block). (d : Block) → c.first_fit-i.result < length xs → is_fit ((c.args.n + 15) / 16 * 16) (get_or xs c.first_fit-i.result d) ≡ true) c.deref-2.ensures.value c.first_fit-i.ensures.here in
    let within : c.first_fit-i.result < length c.self.inside.blocks.items = omega (arith, many, more) in
    let fits = subst (λ (x : Block). is_fit ((c.args.n + 15) / 16 * 16) x ≡ true) (sym c.index.ensures) (here c.index.result.now within) in
    let found = fit_found ((c.args.n + 15) / 16 * 16) c.self.inside.blocks.items c.first_fit-i.result c.index.result.now before within c.index.ensures fits in
    let size = rounded_is c.args.n in
    let free = ap free_among c.give.ensures.items ∙ free-given ((c.args.n + 15) / 16 * 16) c.self.inside.blocks.items in
    let live = ap live_among c.give.ensures.items ∙ live-given 0x3000_0000 ((c.args.n + 15) / 16 * 16) c.self.inside.blocks.items (range_of c.index.result.now) sound.tiled found in
    let count = sound.count in
    let less = c.if-self-ge-MOST_BLOCKS.false in
    let both : ◌≡◌ {A = Heap} (heap_of c.give.new.blocks.items) record { free = taken_from (free_among c.self.inside.blocks.items) (rounded c.args.n); live = placed record { from = c.index.result.now.at; size = rounded c.args.n } (live_among c.self.inside.blocks.items) } =
    (λ i. record { free = free i; live = live i }) ∙ (λ i. record { free = taken_from (free_among c.self.inside.blocks.items) (size i); live = placed record { from = c.index.result.now.at; size = size i } (live_among c.self.inside.blocks.items) }) in
    (λ i. (c.index.result.now.at, both i))
    ∙ one_fits (heap_of c.self.inside.blocks.items) c.args.n (range_of c.index.result.now) asked (omega (arith, count, less)) (ap (first_fit (free_among c.self.inside.blocks.items)) (sym size) ∙ found)
    ∙ ap (λ h. allocated h c.args.n) c.self.view_is
