-- The blocks of the heap, and the two lists that callers see.
use Rattle.std.proofs.Common.{◌≡◌, ◌≢◌, ℕ, zero, suc, ◌+◌, ◌-◌, ◌*◌, ◌<◌, ◌≤◌, nat_lt, nat_le, Bool, true, false, cond, not, ◌&&◌, ◌==◌, None, Some, List, [], ◌∷◌, length, get_or, refl, sym, ap, ◌∙◌, subst, arith, inl, inr}
use Rattle.std.proofs.lemmas.Bool.Decides.{eqb_tells, nat_tests}
use Rattle.mx_base.specs.Heap.{Range, range_end, first_fit, behind, taken_from, placed, block_at, without_block, joined_to, freed_into}
use Rattle.guest_services.specs.declared.blocks.Block.{Block}
use Rattle.guest_services.specs.Blocks.{range_of, free_among, live_among, starts_live, IsTiled, live_block, free_block, is_fit, split, given, is_live_at, joined, given_up, joined_at, total_size, IsFront}
use Rattle.std.specs.List.{insert, remove}
use Rattle.std.specs.List.Sorted.{IsNonDecreasingBy, IsPartitionPoint}
use Rattle.std.proofs.Common.{set}
use Rattle.mx_base.specs.Regions.{heap_region}

abbrev block : Bool → ℕ → ℕ → Block
block live at size = record { live = live; at = at; size = size }

abbrev range : ℕ → ℕ → Range
range from size = record { from = from; size = size }

below : (a b : ℕ) → a < b → nat_lt a b ≡ true
below a b h = grind (arith, nat_tests)

not_below : (a b : ℕ) → b ≤ a → nat_lt a b ≡ false
not_below a b h = grind (arith, nat_tests)

same : (a b : ℕ) → a ≡ b → (a == b) ≡ true
same a b e = grind (arith, nat_tests)

differs : (a b : ℕ) → a ≢ b → (a == b) ≡ false
differs a b e = elim (eqb_tells a b) [ inl p ↦ absurd (e p.1) | inr p ↦ p.0 ]

-- ---- blocks that are given

free-split : (at size n : ℕ) (bs : List Block) → free_among (split (free_block at size) n bs) ≡ behind (range at size) n (free_among bs)
free-split at size n bs = elim (size == n) as (λ b. free_among (cond b (live_block at n ∷ bs) (live_block at n ∷ free_block (at + n) (size - n) ∷ bs)) ≡ cond b (free_among bs) (range (at + n) (size - n) ∷ free_among bs)) [
  | true ↦ refl
  | false ↦ refl
]

free-given-step : (live : Bool) (at size n : ℕ) (bs : List Block) → free_among (given n bs) ≡ taken_from (free_among bs) n
    → free_among (given n (block live at size ∷ bs)) ≡ taken_from (free_among (block live at size ∷ bs)) n
free-given-step true at size n bs rest = rest
free-given-step false at size n bs rest = elim (nat_le n size) as (λ b. free_among (cond b (split (free_block at size) n bs) (free_block at size ∷ given n bs)) ≡ cond b (behind (range at size) n (free_among bs)) (range at size ∷ taken_from (free_among bs) n)) [
  | true ↦ free-split at size n bs
  | false ↦ ap (λ t. range at size ∷ t) rest
]

pub free-given : (n : ℕ) (bs : List Block) → free_among (given n bs) ≡ taken_from (free_among bs) n
free-given n [] = refl
free-given n (b ∷ bs) = free-given-step b.live b.at b.size n bs (free-given n bs)

fit_after-step : (live : Bool) (from size at n : ℕ) (bs : List Block) (f : Range) → from ≡ at → 0 < size → (first_fit (free_among bs) n ≡ Some f → at + size ≤ f.from)
    → first_fit (free_among (block live from size ∷ bs)) n ≡ Some f → at ≤ f.from
fit_after-step true from size at n bs f e some rest found = let low = rest found in omega (arith, low)
fit_after-step false from size at n bs f e some rest found = elim (nat_le n size) as (λ b. cond b (Some (range from size)) (first_fit (free_among bs) n) ≡ Some f → at ≤ f.from) [
  | true ↦ λ h. let is : range from size ≡ f = cc in let start = ap (λ (r : Range). r.from) is in omega (arith, start, e)
  | false ↦ λ h. let low = rest h in omega (arith, low)
] found

pub fit_after : (at n : ℕ) (bs : List Block) (f : Range) → IsTiled at bs → first_fit (free_among bs) n ≡ Some f → at ≤ f.from
fit_after at n [] f tiled found = absurd (cc)
fit_after at n (b ∷ bs) f tiled found = fit_after-step b.live b.at b.size at n bs f tiled.0 tiled.1 (λ h. fit_after (at + b.size) n bs f tiled.3 h) found

placed_front-step : (live : Bool) (from size x n at : ℕ) (bs : List Block) → from ≡ at → x < at → placed (range x n) (live_among bs) ≡ range x n ∷ live_among bs
    → placed (range x n) (live_among (block live from size ∷ bs)) ≡ range x n ∷ live_among (block live from size ∷ bs)
placed_front-step true from size x n at bs e low rest = rw (below x from (omega (arith, e))) refl
placed_front-step false from size x n at bs e low rest = rest

placed_front : (x n at : ℕ) (bs : List Block) → IsTiled at bs → x < at → placed (range x n) (live_among bs) ≡ range x n ∷ live_among bs
placed_front x n at [] tiled low = refl
placed_front x n at (b ∷ bs) tiled low = placed_front-step b.live b.at b.size x n at bs tiled.0 low (placed_front x n (at + b.size) bs tiled.3 (omega arith))

live-split : (at size n : ℕ) (bs : List Block) → live_among (split (free_block at size) n bs) ≡ range at n ∷ live_among bs
live-split at size n bs = elim (size == n) as (λ b. live_among (cond b (live_block at n ∷ bs) (live_block at n ∷ free_block (at + n) (size - n) ∷ bs)) ≡ range at n ∷ live_among bs) [ true ↦ refl | false ↦ refl ]

live-given-step : (live : Bool) (from size at n : ℕ) (bs : List Block) (f : Range) → from ≡ at → 0 < size → IsTiled (at + size) bs
    → (first_fit (free_among bs) n ≡ Some f → live_among (given n bs) ≡ placed (range f.from n) (live_among bs)) → first_fit (free_among (block live from size ∷ bs)) n ≡ Some f
    → live_among (given n (block live from size ∷ bs)) ≡ placed (range f.from n) (live_among (block live from size ∷ bs))
live-given-step true from size at n bs f e some tiled rest found =
    let low = fit_after (at + size) n bs f tiled found in
    rw (not_below f.from from (omega (arith, low, e))) (ap (λ t. range from size ∷ t) (rest found))
live-given-step false from size at n bs f e some tiled rest found = elim (nat_le n size) as (λ b. cond b (Some (range from size)) (first_fit (free_among bs) n) ≡ Some f → live_among (cond b (split (free_block from size) n bs) (free_block from size ∷ given n bs)) ≡ placed (range f.from n) (live_among bs)) [
  | true ↦ λ h. let is : range from size ≡ f = cc in
      let start : from ≡ f.from = ap (λ (r : Range). r.from) is in
      live-split from size n bs ∙ sym (placed_front from n (at + size) bs tiled (omega (arith, e))) ∙ ap (λ x. placed (range x n) (live_among bs)) start
  | false ↦ λ h. rest h
] found

pub live-given : (at n : ℕ) (bs : List Block) (f : Range) → IsTiled at bs → first_fit (free_among bs) n ≡ Some f → live_among (given n bs) ≡ placed (range f.from n) (live_among bs)
live-given at n [] f tiled found = absurd (cc)
live-given at n (b ∷ bs) f tiled found = live-given-step b.live b.at b.size at n bs f tiled.0 tiled.1 tiled.3 (λ h. live-given (at + b.size) n bs f tiled.3 h) found

starts-given-step : (live : Bool) (at size n : ℕ) (bs : List Block) → live ≡ true → starts_live (given n (block live at size ∷ bs)) ≡ true
starts-given-step true at size n bs e = refl
starts-given-step false at size n bs e = absurd (cc)

starts-given : (n : ℕ) (bs : List Block) → starts_live bs ≡ true → starts_live (given n bs) ≡ true
starts-given n [] e = refl
starts-given n (b ∷ bs) e = starts-given-step b.live b.at b.size n bs e

tiled-given-step : (live : Bool) (from size at n : ℕ) (bs : List Block) → 0 < n → IsTiled at (block live from size ∷ bs) → IsTiled (at + size) (given n bs) → IsTiled at (given n (block live from size ∷ bs))
tiled-given-step true from size at n bs some tiled rest = (tiled.0, tiled.1, λ e. absurd (cc), rest)
tiled-given-step false from size at n bs some tiled rest = elim (nat_le n size) as (λ b. nat_le n size ≡ b → IsTiled at (cond b (split (free_block from size) n bs) (free_block from size ∷ given n bs))) [
  | true ↦ λ e. let fits : n ≤ size = grind (arith, nat_tests) in elim (size == n) as (λ b. (size == n) ≡ b → IsTiled at (cond b (live_block from n ∷ bs) (live_block from n ∷ free_block (from + n) (size - n) ∷ bs))) [
    | true ↦ λ h. let whole : size ≡ n = grind (arith, nat_tests) in (tiled.0, some, λ k. absurd (cc), subst (λ (s : ℕ). IsTiled (at + s) bs) whole tiled.3)
    | false ↦ λ h. let part : size ≢ n = (λ k. absurd (let clash : true ≡ false = sym (same size n k) ∙ h in cc)) in
        let more : 0 < size - n = omega arith in
        let start : from + n ≡ at + n = omega (arith, tiled.0) in
        let ends : at + size ≡ at + n + (size - n) = omega arith in
        (tiled.0, some, λ k. absurd (cc), (start, more, λ k. tiled.2 refl, subst (λ (x : ℕ). IsTiled x bs) ends tiled.3))
  ] refl
  | false ↦ λ e. (tiled.0, tiled.1, λ k. starts-given n bs (tiled.2 refl), rest)
] refl

pub tiled-given : (at n : ℕ) (bs : List Block) → 0 < n → IsTiled at bs → IsTiled at (given n bs)
tiled-given at n [] some tiled = tiled
tiled-given at n (b ∷ bs) some tiled = tiled-given-step b.live b.at b.size at n bs some tiled (tiled-given (at + b.size) n bs some tiled.3)

-- ---- blocks that are given up

live-joined-step : (live next : Bool) (at size nat nsize : ℕ) (bs : List Block) → live_among (joined (block live at size) (block next nat nsize ∷ bs)) ≡ live_among (block live at size ∷ block next nat nsize ∷ bs)
live-joined-step true next at size nat nsize bs = refl
live-joined-step false true at size nat nsize bs = refl
live-joined-step false false at size nat nsize bs = refl

live-joined : (b : Block) (bs : List Block) → live_among (joined b bs) ≡ live_among (b ∷ bs)
live-joined b [] = refl
live-joined b (c ∷ cs) = live-joined-step b.live c.live b.at b.size c.at c.size cs

live-given_up-step : (live : Bool) (at size a : ℕ) (bs : List Block) → live_among (given_up a bs) ≡ without_block (live_among bs) a
    → live_among (given_up a (block live at size ∷ bs)) ≡ without_block (live_among (block live at size ∷ bs)) a
live-given_up-step true at size a bs rest = elim (at == a) as (λ b. live_among (cond b (joined (free_block at size) bs) (joined (live_block at size) (given_up a bs))) ≡ cond b (live_among bs) (range at size ∷ without_block (live_among bs) a)) [
  | true ↦ live-joined (free_block at size) bs
  | false ↦ live-joined (live_block at size) (given_up a bs) ∙ ap (λ t. range at size ∷ t) rest
]
live-given_up-step false at size a bs rest = live-joined (free_block at size) (given_up a bs) ∙ rest

pub live-given_up : (a : ℕ) (bs : List Block) → live_among (given_up a bs) ≡ without_block (live_among bs) a
live-given_up a [] = refl
live-given_up a (b ∷ bs) = live-given_up-step b.live b.at b.size a bs (live-given_up a bs)

freed_front-step : (live : Bool) (from size at : ℕ) (r : Range) (bs : List Block) → from ≡ at → range_end r < at → freed_into r (free_among bs) ≡ r ∷ free_among bs
    → freed_into r (free_among (block live from size ∷ bs)) ≡ r ∷ free_among (block live from size ∷ bs)
freed_front-step true from size at r bs e low rest = rest
freed_front-step false from size at r bs e low rest = rw (below r.from from (omega (arith, e)), differs (r.from + r.size) from (λ h. absurd (omega (arith, e, h, low)))) refl

freed_front : (r : Range) (at : ℕ) (bs : List Block) → IsTiled at bs → range_end r < at → freed_into r (free_among bs) ≡ r ∷ free_among bs
freed_front r at [] tiled low = refl
freed_front r at (b ∷ bs) tiled low = freed_front-step b.live b.at b.size at r bs tiled.0 low (freed_front r (at + b.size) bs tiled.3 (omega arith))

joined_front-step : (live : Bool) (from size at : ℕ) (r : Range) (bs : List Block) → from ≡ at → range_end r < at → joined_to r (free_among bs) ≡ r ∷ free_among bs
    → joined_to r (free_among (block live from size ∷ bs)) ≡ r ∷ free_among (block live from size ∷ bs)
joined_front-step true from size at r bs e low rest = rest
joined_front-step false from size at r bs e low rest = rw (differs (r.from + r.size) from (λ h. absurd (omega (arith, e, h, low)))) refl

joined_front : (r : Range) (at : ℕ) (bs : List Block) → IsTiled at bs → range_end r < at → joined_to r (free_among bs) ≡ r ∷ free_among bs
joined_front r at [] tiled low = refl
joined_front r at (b ∷ bs) tiled low = joined_front-step b.live b.at b.size at r bs tiled.0 low (joined_front r (at + b.size) bs tiled.3 (omega arith))

-- the block itself, with the one behind it
free-here-step : (live : Bool) (from fsize at size : ℕ) (bs : List Block) → 0 < size → IsTiled (at + size) (block live from fsize ∷ bs)
    → free_among (joined (free_block at size) (block live from fsize ∷ bs)) ≡ freed_into (range at size) (free_among (block live from fsize ∷ bs))
free-here-step true from fsize at size bs some tiled = sym (freed_front (range at size) (at + size + fsize) bs tiled.3 (let more = tiled.1 in omega (arith, more)))
free-here-step false from fsize at size bs some tiled =
    let start = tiled.0 in
    rw (below at from (omega (arith, start)), same (at + size) from (sym start)) refl

free-here : (at size : ℕ) (bs : List Block) → 0 < size → IsTiled (at + size) bs → free_among (joined (free_block at size) bs) ≡ freed_into (range at size) (free_among bs)
free-here at size [] some tiled = refl
free-here at size (c ∷ cs) some tiled = free-here-step c.live c.at c.size at size cs some tiled

-- the block with the one before it and the one behind it
free-between-step : (live : Bool) (from fsize at size middle msize : ℕ) (bs : List Block) → IsTiled (at + (size + msize)) (block live from fsize ∷ bs)
    → free_among (joined (free_block at size) (joined (free_block middle msize) (block live from fsize ∷ bs))) ≡ joined_to (range at (size + msize)) (free_among (block live from fsize ∷ bs))
free-between-step true from fsize at size middle msize bs tiled = sym (joined_front (range at (size + msize)) (at + (size + msize) + fsize) bs tiled.3 (let more = tiled.1 in omega (arith, more)))
free-between-step false from fsize at size middle msize bs tiled =
    let start = tiled.0 in
    let sum : size + (msize + fsize) ≡ size + msize + fsize = omega arith in
    rw (same (at + (size + msize)) from (sym start)) (ap (λ s. range at s ∷ free_among bs) sum)

free-between : (at size middle msize : ℕ) (bs : List Block) → IsTiled (at + (size + msize)) bs
    → free_among (joined (free_block at size) (joined (free_block middle msize) bs)) ≡ joined_to (range at (size + msize)) (free_among bs)
free-between at size middle msize [] tiled = refl
free-between at size middle msize (c ∷ cs) tiled = free-between-step c.live c.at c.size at size middle msize cs tiled

joined-live : (at size : ℕ) (bs : List Block) → joined (live_block at size) bs ≡ live_block at size ∷ bs
joined-live at size [] = refl
joined-live at size (c ∷ cs) = refl

-- where a live block starts
block_from : (rs : List Range) (a : ℕ) (r : Range) → block_at rs a ≡ Some r → r.from ≡ a
block_from [] a r found = absurd (cc)
block_from (s ∷ rs) a r found = elim (eqb_tells s.from a) [
  | inl p ↦ (let h : Some s ≡ Some r = rw p.0 at found in let is : s ≡ r = cc in sym (ap (λ (x : Range). x.from) is) ∙ p.1)
  | inr p ↦ (let h : block_at rs a ≡ Some r = rw p.0 at found in block_from rs a r h)
]

block_after-step : (live : Bool) (from size at a : ℕ) (bs : List Block) (r : Range) → from ≡ at → (block_at (live_among bs) a ≡ Some r → at + size ≤ a) → block_at (live_among (block live from size ∷ bs)) a ≡ Some r → at ≤ a
block_after-step true from size at a bs r e rest found = elim (eqb_tells from a) [
  | inl p ↦ (let here = p.1 in omega (arith, e, here))
  | inr p ↦ (let h : block_at (live_among bs) a ≡ Some r = rw p.0 at found in let low = rest h in omega (arith, low))
]
block_after-step false from size at a bs r e rest found = let low = rest found in omega (arith, low)

block_after : (at a : ℕ) (bs : List Block) (r : Range) → IsTiled at bs → block_at (live_among bs) a ≡ Some r → at ≤ a
block_after at a [] r tiled found = absurd (cc)
block_after at a (b ∷ bs) r tiled found = block_after-step b.live b.at b.size at a bs r tiled.0 (λ h. block_after (at + b.size) a bs r tiled.3 h) found

-- behind a free block that keeps its place
free-behind : (live : Bool) (from fsize at size a : ℕ) (bs : List Block) (r : Range) → live ≡ true → 0 < size → IsTiled (at + size) (block live from fsize ∷ bs) → block_at (live_among (block live from fsize ∷ bs)) a ≡ Some r
    → free_among (given_up a (block live from fsize ∷ bs)) ≡ freed_into r (free_among (block live from fsize ∷ bs))
    → free_among (joined (free_block at size) (given_up a (block live from fsize ∷ bs))) ≡ freed_into r (range at size ∷ free_among (block live from fsize ∷ bs))
free-behind false from fsize at size a bs r e some tiled found rest = absurd (cc)
free-behind true from fsize at size a bs r e some tiled found rest = elim (eqb_tells from a) [
  | inl p ↦
      let h : Some (range from fsize) ≡ Some r = rw p.0 at found in
      let is : range from fsize ≡ r = cc in
      let start = tiled.0 in
      let ends : at + size + fsize ≡ at + (size + fsize) = omega arith in
      rw (p.0, ← is, not_below from at (omega (arith, start)), same (at + size) from (sym start))
      (free-between at size from fsize bs (subst (λ (x : ℕ). IsTiled x bs) ends tiled.3))
  | inr p ↦
      let h : block_at (live_among bs) a ≡ Some r = rw p.0 at found in
      let low = block_after (at + size + fsize) a bs r tiled.3 h in
      let start = block_from (live_among bs) a r h in
      let more = tiled.1 in
      let kept : free_among (joined (live_block from fsize) (given_up a bs)) ≡ freed_into r (free_among bs) = rw p.0 at rest in
      rw (p.0, joined-live from fsize (given_up a bs), not_below r.from at (omega (arith, low, start)), differs (at + size) r.from (λ k. absurd (omega (arith, low, start, more, k))))
      (ap (λ t. range at size ∷ t) (ap free_among (sym (joined-live from fsize (given_up a bs))) ∙ kept))
]

free-given_up-step : (live : Bool) (from size at a : ℕ) (bs : List Block) (r : Range) → IsTiled at (block live from size ∷ bs)
    → (block_at (live_among bs) a ≡ Some r → free_among (given_up a bs) ≡ freed_into r (free_among bs)) → block_at (live_among (block live from size ∷ bs)) a ≡ Some r
    → free_among (given_up a (block live from size ∷ bs)) ≡ freed_into r (free_among (block live from size ∷ bs))
free-given_up-step true from size at a bs r tiled rest found = elim (eqb_tells from a) [
  | inl p ↦
      let h : Some (range from size) ≡ Some r = rw p.0 at found in
      let is : range from size ≡ r = cc in
      rw (p.0, ← is) (free-here from size bs tiled.1 (subst (λ (x : ℕ). IsTiled (x + size) bs) (sym tiled.0) tiled.3))
  | inr p ↦
      let h : block_at (live_among bs) a ≡ Some r = rw p.0 at found in
      rw (p.0, joined-live from size (given_up a bs)) (rest h)
]
free-given_up-step false from size at a [] r tiled rest found = absurd (cc)
free-given_up-step false from size at a (c ∷ cs) r tiled rest found =
    free-behind c.live c.at c.size from size a cs r (tiled.2 refl) tiled.1 (subst (λ (x : ℕ). IsTiled (x + size) (c ∷ cs)) (sym tiled.0) tiled.3) found (rest found)

pub free-given_up : (at a : ℕ) (bs : List Block) (r : Range) → IsTiled at bs → block_at (live_among bs) a ≡ Some r → free_among (given_up a bs) ≡ freed_into r (free_among bs)
free-given_up at a [] r tiled found = absurd (cc)
free-given_up at a (b ∷ bs) r tiled found = free-given_up-step b.live b.at b.size at a bs r tiled (λ h. free-given_up (at + b.size) a bs r tiled.3 h) found

tiled-joined-step : (live next : Bool) (from size at nat nsize : ℕ) (bs : List Block) → from ≡ at → 0 < size → IsTiled (at + size) (block next nat nsize ∷ bs) → IsTiled at (joined (block live from size) (block next nat nsize ∷ bs))
tiled-joined-step true next from size at nat nsize bs e some tiled = (e, some, λ k. absurd (cc), tiled)
tiled-joined-step false true from size at nat nsize bs e some tiled = (e, some, λ k. refl, tiled)
tiled-joined-step false false from size at nat nsize bs e some tiled =
    let ends : at + size + nsize ≡ at + (size + nsize) = omega arith in
    (e, omega arith, λ k. tiled.2 refl, subst (λ (x : ℕ). IsTiled x bs) ends tiled.3)

tiled-joined : (b : Block) (at : ℕ) (bs : List Block) → b.at ≡ at → 0 < b.size → IsTiled (at + b.size) bs → IsTiled at (joined b bs)
tiled-joined b at [] e some tiled = (e, some, λ k. refl, tiled)
tiled-joined b at (c ∷ cs) e some tiled = tiled-joined-step b.live c.live b.at b.size at c.at c.size cs e some tiled

pub tiled-given_up : (at a : ℕ) (bs : List Block) → IsTiled at bs → IsTiled at (given_up a bs)
tiled-given_up at a [] tiled = tiled
tiled-given_up at a (b ∷ bs) tiled = elim (is_live_at a b) as (λ t. IsTiled at (cond t (joined (free_block b.at b.size) bs) (joined b (given_up a bs)))) [
  | true ↦ tiled-joined (free_block b.at b.size) at bs tiled.0 tiled.1 tiled.3
  | false ↦ tiled-joined b at (given_up a bs) tiled.0 tiled.1 (tiled-given_up (at + b.size) a bs tiled.3)
]

-- ---- how many there are

few-step : (live : Bool) (at size : ℕ) (bs : List Block) → (live ≡ false → starts_live bs ≡ true) → length bs ≤ 2 * length (live_among bs) + cond (starts_live bs) 0 1
    → length (block live at size ∷ bs) ≤ 2 * length (live_among (block live at size ∷ bs)) + cond live 0 1
few-step true at size bs next rest = elim (starts_live bs) as (λ b. length bs ≤ 2 * length (live_among bs) + cond b 0 1 → suc (length bs) ≤ 2 * suc (length (live_among bs)) + 0) [ true ↦ λ h. omega (arith, h) | false ↦ λ h. omega (arith, h) ] rest
few-step false at size bs next rest = let h : length bs ≤ 2 * length (live_among bs) + 0 = rw (next refl) at rest in omega (arith, h)

few-blocks : (at : ℕ) (bs : List Block) → IsTiled at bs → length bs ≤ 2 * length (live_among bs) + cond (starts_live bs) 0 1
few-blocks at [] tiled = omega arith
few-blocks at (b ∷ bs) tiled = few-step b.live b.at b.size bs tiled.2 (few-blocks (at + b.size) bs tiled.3)

pub few : (at : ℕ) (bs : List Block) → IsTiled at bs → length bs ≤ 2 * length (live_among bs) + 1
few at bs tiled = elim (starts_live bs) as (λ b. length bs ≤ 2 * length (live_among bs) + cond b 0 1 → length bs ≤ 2 * length (live_among bs) + 1) [ true ↦ λ h. omega (arith, h) | false ↦ λ h. omega (arith, h) ] (few-blocks at bs tiled)

-- ---- the same by places

no_fit-step : (live : Bool) (at size n : ℕ) (bs : List Block) → is_fit n (block live at size) ≡ false → first_fit (free_among bs) n ≡ None → first_fit (free_among (block live at size ∷ bs)) n ≡ None
no_fit-step true at size n bs away rest = rest
no_fit-step false at size n bs away rest = rw away rest

fit_here : (live : Bool) (at size n : ℕ) (bs : List Block) → is_fit n (block live at size) ≡ true → first_fit (free_among (block live at size ∷ bs)) n ≡ Some (range at size)
fit_here true at size n bs fits = absurd (cc)
fit_here false at size n bs fits = rw fits refl

fit_past : (live : Bool) (at size n : ℕ) (bs : List Block) → is_fit n (block live at size) ≡ false → first_fit (free_among (block live at size ∷ bs)) n ≡ first_fit (free_among bs) n
fit_past true at size n bs away = refl
fit_past false at size n bs away = rw away refl

no_block-step : (live : Bool) (at size a : ℕ) (bs : List Block) → is_live_at a (block live at size) ≡ false → block_at (live_among bs) a ≡ None → block_at (live_among (block live at size ∷ bs)) a ≡ None
no_block-step true at size a bs away rest = rw away rest
no_block-step false at size a bs away rest = rest

block_here : (live : Bool) (at size a : ℕ) (bs : List Block) → is_live_at a (block live at size) ≡ true → block_at (live_among (block live at size ∷ bs)) a ≡ Some (range at size)
block_here true at size a bs here = rw here refl
block_here false at size a bs here = absurd (cc)

block_past : (live : Bool) (at size a : ℕ) (bs : List Block) → is_live_at a (block live at size) ≡ false → block_at (live_among (block live at size ∷ bs)) a ≡ block_at (live_among bs) a
block_past true at size a bs away = rw away refl
block_past false at size a bs away = refl

joined-apart-step : (live next : Bool) (at size nat nsize : ℕ) (bs : List Block) → (live ≡ false → next ≡ true) → joined (block live at size) (block next nat nsize ∷ bs) ≡ block live at size ∷ block next nat nsize ∷ bs
joined-apart-step true next at size nat nsize bs apart = refl
joined-apart-step false true at size nat nsize bs apart = refl
joined-apart-step false false at size nat nsize bs apart = absurd (let clash : false ≡ true = apart refl in cc)

joined-same : (b : Block) (bs : List Block) → (b.live ≡ false → starts_live bs ≡ true) → joined b bs ≡ b ∷ bs
joined-same b [] apart = refl
joined-same b (c ∷ cs) apart = joined-apart-step b.live c.live b.at b.size c.at c.size cs apart

joined-by_life : (b : Block) (bs : List Block) → b.live ≡ true → joined b bs ≡ b ∷ bs
joined-by_life b bs live = joined-same b bs (λ free. absurd (let clash : true ≡ false = sym live ∙ free in cc))

pub no_fit : (n : ℕ) (bs : List Block) → ((k : ℕ) (d : Block) → k < length bs → is_fit n (get_or bs k d) ≡ false) → first_fit (free_among bs) n ≡ None
no_fit n [] all = refl
no_fit n (b ∷ bs) all = no_fit-step b.live b.at b.size n bs (all zero b (omega arith)) (no_fit n bs (λ k d below. all (suc k) d (omega arith)))

pub fit_found : (n : ℕ) (bs : List Block) (i : ℕ) (b : Block) → ((k : ℕ) (d : Block) → k < i → is_fit n (get_or bs k d) ≡ false) → i < length bs → b ≡ get_or bs i b → is_fit n b ≡ true
    → first_fit (free_among bs) n ≡ Some (range_of b)
fit_found n [] i b before within at fits = absurd (omega arith)
fit_found n (c ∷ cs) zero b before within at fits = subst (λ (x : Block). first_fit (free_among (x ∷ cs)) n ≡ Some (range_of b)) at (fit_here b.live b.at b.size n cs fits)
fit_found n (c ∷ cs) (suc i) b before within at fits = fit_past c.live c.at c.size n cs (before zero c (omega arith)) ∙ fit_found n cs i b (λ k d below. before (suc k) d (omega arith)) (omega arith) at fits

pub given_whole : (n : ℕ) (bs : List Block) (i : ℕ) (b : Block) → ((k : ℕ) (d : Block) → k < i → is_fit n (get_or bs k d) ≡ false) → i < length bs → b ≡ get_or bs i b → is_fit n b ≡ true
    → b.size ≡ n → set bs i (live_block b.at n) ≡ given n bs
given_whole n [] i b before within at fits whole = absurd (omega arith)
given_whole n (c ∷ cs) zero b before within at fits whole = subst (λ (x : Block). live_block b.at n ∷ cs ≡ given n (x ∷ cs)) at (let tells = same b.size n whole in rw (fits, tells) refl)
given_whole n (c ∷ cs) (suc i) b before within at fits whole =
    rw (before zero c (omega arith)) (ap (λ t. c ∷ t) (given_whole n cs i b (λ k d below. before (suc k) d (omega arith)) (omega arith) at fits whole))

pub given_part : (n : ℕ) (bs : List Block) (i : ℕ) (b : Block) → ((k : ℕ) (d : Block) → k < i → is_fit n (get_or bs k d) ≡ false) → i < length bs → b ≡ get_or bs i b → is_fit n b ≡ true
    → b.size ≢ n → insert (set bs i (live_block b.at n)) (i + 1) (free_block (b.at + n) (b.size - n)) ≡ given n bs
given_part n [] i b before within at fits part = absurd (omega arith)
given_part n (c ∷ cs) zero b before within at fits part = subst (λ (x : Block). live_block b.at n ∷ free_block (b.at + n) (b.size - n) ∷ cs ≡ given n (x ∷ cs)) at (let tells = differs b.size n part in rw (fits, tells) refl)
given_part n (c ∷ cs) (suc i) b before within at fits part =
    let next : suc i + 1 ≡ suc (i + 1) = omega arith in
    rw (next, before zero c (omega arith)) (ap (λ t. c ∷ t) (given_part n cs i b (λ k d below. before (suc k) d (omega arith)) (omega arith) at fits part))

-- ---- all their bytes

pub total-joined : (b : Block) (bs : List Block) → total_size (joined b bs) ≡ b.size + total_size bs
total-joined b [] = refl
total-joined b (c ∷ cs) = elim (not b.live && not c.live) as (λ t. total_size (cond t (free_block b.at (b.size + c.size) ∷ cs) (b ∷ c ∷ cs)) ≡ b.size + (c.size + total_size cs)) [ true ↦ omega arith | false ↦ refl ]

pub total-joined_at : (i : ℕ) (bs : List Block) → total_size (joined_at i bs) ≡ total_size bs
total-joined_at i [] = refl
total-joined_at zero (b ∷ bs) = total-joined b bs
total-joined_at (suc i) (b ∷ bs) = ap (λ t. b.size + t) (total-joined_at i bs)

pub total-set : (bs : List Block) (i : ℕ) (b : Block) (live : Bool) → b ≡ get_or bs i b → total_size (set bs i (block live b.at b.size)) ≡ total_size bs
total-set [] i b live at = refl
total-set (c ∷ cs) zero b live at = ap (λ (x : Block). x.size + total_size cs) at
total-set (c ∷ cs) (suc i) b live at = ap (λ t. c.size + t) (total-set cs i b live at)

pub two_sizes : (bs : List Block) (i : ℕ) (b c : Block) → i + 1 < length bs → b ≡ get_or bs i b → c ≡ get_or bs (i + 1) c → b.size + c.size ≤ total_size bs
two_sizes [] i b c within at next = absurd (omega arith)
two_sizes (x ∷ []) i b c within at next = absurd (omega arith)
two_sizes (x ∷ y ∷ xs) zero b c within at next = let first = ap (λ (z : Block). z.size) at in let second = ap (λ (z : Block). z.size) next in omega (arith, first, second)
two_sizes (x ∷ y ∷ xs) (suc i) b c within at next =
    let there : suc i + 1 ≡ suc (i + 1) = omega arith in
    let low = two_sizes (y ∷ xs) i b c (omega arith) at (next ∙ ap (λ k. get_or (x ∷ y ∷ xs) k c) there) in
    omega (arith, low)

pub total-tiled : (at : ℕ) (bs : List Block) → IsTiled at bs → at + total_size bs ≡ heap_region.from + heap_region.size
total-tiled at [] tiled = let e = tiled in omega (arith, e)
total-tiled at (b ∷ bs) tiled = let rest = total-tiled (at + b.size) bs tiled.3 in omega (arith, rest)

-- ---- joining by place

pub joined_two : (bs : List Block) (i : ℕ) (b c : Block) → i + 1 < length bs → b ≡ get_or bs i b → c ≡ get_or bs (i + 1) c → b.live ≡ false → c.live ≡ false
    → set (remove bs (i + 1)) i (free_block b.at (b.size + c.size)) ≡ joined_at i bs
joined_two [] i b c within at next one two = absurd (omega arith)
joined_two (x ∷ []) i b c within at next one two = absurd (omega arith)
joined_two (x ∷ y ∷ xs) zero b c within at next one two =
    subst (λ (z : Block). free_block b.at (b.size + c.size) ∷ xs ≡ joined z (y ∷ xs)) at
    (subst (λ (z : Block). free_block b.at (b.size + c.size) ∷ xs ≡ joined b (z ∷ xs)) next (rw (one, two) refl))
joined_two (x ∷ y ∷ xs) (suc i) b c within at next one two =
    let there : suc i + 1 ≡ suc (i + 1) = omega arith in
    rw there (ap (λ t. x ∷ t) (joined_two (y ∷ xs) i b c (omega arith) at (next ∙ ap (λ k. get_or (x ∷ y ∷ xs) k c) there) one two))

pub joined_apart : (bs : List Block) (i : ℕ) → ((b c : Block) → i + 1 < length bs → b ≡ get_or bs i b → c ≡ get_or bs (i + 1) c → (not b.live && not c.live) ≡ false) → bs ≡ joined_at i bs
joined_apart [] i apart = refl
joined_apart (x ∷ []) zero apart = refl
joined_apart (x ∷ []) (suc i) apart = refl
joined_apart (x ∷ y ∷ xs) zero apart = rw (apart x y (omega arith) refl refl) refl
joined_apart (x ∷ y ∷ xs) (suc i) apart =
    let there : suc i + 1 ≡ suc (i + 1) = omega arith in
    ap (λ t. x ∷ t) (joined_apart (y ∷ xs) i (λ b c within at next. apart b c (omega arith) at (next ∙ ap (λ k. get_or (x ∷ y ∷ xs) k c) (sym there))))

-- ---- giving up by place

pub no_block : (a : ℕ) (bs : List Block) → ((k : ℕ) (d : Block) → k < length bs → is_live_at a (get_or bs k d) ≡ false) → block_at (live_among bs) a ≡ None
no_block a [] all = refl
no_block a (b ∷ bs) all = no_block-step b.live b.at b.size a bs (all zero b (omega arith)) (no_block a bs (λ k d below. all (suc k) d (omega arith)))

pub block_found : (a : ℕ) (bs : List Block) (i : ℕ) (b : Block) → ((k : ℕ) (d : Block) → k < i → is_live_at a (get_or bs k d) ≡ false) → i < length bs → b ≡ get_or bs i b → is_live_at a b ≡ true
    → block_at (live_among bs) a ≡ Some (range_of b)
block_found a [] i b before within at here = absurd (omega arith)
block_found a (c ∷ cs) zero b before within at here = subst (λ (x : Block). block_at (live_among (x ∷ cs)) a ≡ Some (range_of b)) at (block_here b.live b.at b.size a cs here)
block_found a (c ∷ cs) (suc i) b before within at here = block_past c.live c.at c.size a cs (before zero c (omega arith)) ∙ block_found a cs i b (λ k d below. before (suc k) d (omega arith)) (omega arith) at here

pub given_up_first : (a : ℕ) (bs : List Block) (b : Block) → 0 < length bs → b ≡ get_or bs 0 b → is_live_at a b ≡ true → joined_at 0 (set bs 0 (free_block b.at b.size)) ≡ given_up a bs
given_up_first a [] b within at here = absurd (omega arith)
given_up_first a (c ∷ cs) b within at here = subst (λ (x : Block). joined (free_block b.at b.size) cs ≡ given_up a (x ∷ cs)) at (rw here refl)

starts_given_up : (a : ℕ) (bs : List Block) (d : Block) → 0 < length bs → is_live_at a (get_or bs 0 d) ≡ false → starts_live bs ≡ true → starts_live (given_up a bs) ≡ true
starts_given_up a [] d some away live = refl
starts_given_up a (c ∷ cs) d some away live = rw away (ap starts_live (joined-by_life c (given_up a cs) live) ∙ live)

pub given_up_later : (a at : ℕ) (bs : List Block) (i : ℕ) (b : Block) → IsTiled at bs → ((k : ℕ) (d : Block) → k < suc i → is_live_at a (get_or bs k d) ≡ false) → suc i < length bs → b ≡ get_or bs (suc i) b → is_live_at a b ≡ true
    → joined_at i (joined_at (suc i) (set bs (suc i) (free_block b.at b.size))) ≡ given_up a bs
given_up_later a at [] i b tiled before within is here = absurd (omega arith)
given_up_later a at (c ∷ cs) zero b tiled before within is here = rw (before zero c (omega arith)) (ap (joined c) (given_up_first a cs b (omega arith) is here))
given_up_later a at (c ∷ cs) (suc i) b tiled before within is here =
    let rest = given_up_later a (at + c.size) cs i b tiled.3 (λ k d below. before (suc k) d (omega arith)) (omega arith) is here in
    rw (before zero c (omega arith))
    (ap (λ t. c ∷ t) rest ∙ sym (joined-same c (given_up a cs) (λ free. starts_given_up a cs c (omega arith) (before 1 c (omega arith)) (tiled.2 free))))

-- ---- blocks by address

tiled_from : (at : ℕ) (bs : List Block) (k : ℕ) (d : Block) → IsTiled at bs → k < length bs → at ≤ (get_or bs k d).at
tiled_from at [] k d tiled within = absurd (omega arith)
tiled_from at (b ∷ bs) zero d tiled within = let start = tiled.0 in omega (arith, start)
tiled_from at (b ∷ bs) (suc k) d tiled within = let rest = tiled_from (at + b.size) bs k d tiled.3 (omega arith) in omega (arith, rest)

tiled_rises : (at : ℕ) (bs : List Block) (i j : ℕ) (d : Block) → IsTiled at bs → i < j → j < length bs → (get_or bs i d).at < (get_or bs j d).at
tiled_rises at [] i j d tiled up within = absurd (omega arith)
tiled_rises at (b ∷ bs) i zero d tiled up within = absurd (omega arith)
tiled_rises at (b ∷ bs) zero (suc j) d tiled up within =
    let start = tiled.0 in
    let some = tiled.1 in
    let rest = tiled_from (at + b.size) bs j d tiled.3 (omega arith) in
    omega (arith, start, some, rest)
tiled_rises at (b ∷ bs) (suc i) (suc j) d tiled up within = tiled_rises (at + b.size) bs i j d tiled.3 (omega arith) (omega arith)

pub tiled_sorted : (at : ℕ) (bs : List Block) → IsTiled at bs → IsNonDecreasingBy (λ b. b.at) bs
tiled_sorted at bs tiled = λ i j d up within. elim (nat_lt i j) as (λ b. nat_lt i j ≡ b → (get_or bs i d).at ≤ (get_or bs j d).at) [
  | true ↦ λ e. let before : i < j = grind (arith, nat_tests) in let rises = tiled_rises at bs i j d tiled before within in omega (arith, rises)
  | false ↦ λ e. let from : j ≤ i = grind (arith, nat_tests) in let same : i ≡ j = omega arith in subst (λ (k : ℕ). (get_or bs i d).at ≤ (get_or bs k d).at) same (omega arith)
] refl

not_live_at-step : (live : Bool) (at a : ℕ) → at ≢ a → (live && at == a) ≡ false
not_live_at-step true at a other = differs at a other
not_live_at-step false at a other = refl

pub other_start : (a : ℕ) (b : Block) → b.at ≢ a → is_live_at a b ≡ false
other_start a b other = not_live_at-step b.live b.at a other

pub free_here : (a : ℕ) (b : Block) → b.live ≡ false → is_live_at a b ≡ false
free_here a b free = rw free refl

pub none_live_before : (bs : List Block) (a i k : ℕ) (d : Block) → IsPartitionPoint (λ b. nat_lt b.at a ≡ true) (λ b. nat_lt b.at a ≡ false) bs i → k < i → is_live_at a (get_or bs k d) ≡ false
none_live_before bs a i k d point before =
    let tells = point.0 k d (omega arith) before in
    other_start a (get_or bs k d) (λ e. let low : (get_or bs k d).at < a = grind (arith, nat_tests) in absurd (omega arith))

none_live_behind : (at : ℕ) (bs : List Block) (a i k : ℕ) (d : Block) → IsTiled at bs → nat_lt (get_or bs i d).at a ≡ false → i < k → k < length bs → is_live_at a (get_or bs k d) ≡ false
none_live_behind at bs a i k d tiled least behind within =
    let rises = tiled_rises at bs i k d tiled behind within in
    let from : a ≤ (get_or bs i d).at = grind (arith, nat_tests) in
    other_start a (get_or bs k d) (λ e. absurd (omega (arith, rises, from, e)))

pub none_live : (at : ℕ) (bs : List Block) (a i : ℕ) → IsTiled at bs → IsPartitionPoint (λ b. nat_lt b.at a ≡ true) (λ b. nat_lt b.at a ≡ false) bs i → ((d : Block) → i < length bs → is_live_at a (get_or bs i d) ≡ false)
    → (k : ℕ) (d : Block) → k < length bs → is_live_at a (get_or bs k d) ≡ false
none_live at bs a i tiled point here k d within = elim (nat_lt k i) as (λ b. nat_lt k i ≡ b → is_live_at a (get_or bs k d) ≡ false) [
  | true ↦ λ e. none_live_before bs a i k d point (let before : k < i = grind (arith, nat_tests) in before)
  | false ↦ λ e. let from : i ≤ k = grind (arith, nat_tests) in elim (eqb_tells i k) [
    | inl s ↦ subst (λ (j : ℕ). is_live_at a (get_or bs j d) ≡ false) s.1 (here d (let same = s.1 in omega (arith, same)))
    | inr s ↦ (let other = s.1 in none_live_behind at bs a i k d tiled (point.1 i d (omega arith) (omega (arith, from))) (omega (arith, from, other)) within)
  ]
] refl

-- ---- blocks in front that are live

live_unfit : (n : ℕ) (b : Block) → b.live ≡ true → is_fit n b ≡ false
live_unfit n b live = rw live refl

pub front_none : (bs : List Block) → IsFront 0 bs
front_none bs = record { within = omega arith; live = λ k d below. absurd (omega arith) }

front_tail : (m : ℕ) (b : Block) (bs : List Block) → IsFront (suc m) (b ∷ bs) → IsFront m bs
front_tail m b bs front = let most = front.within in record { within = omega (arith, most); live = λ k d below. front.live (suc k) d (omega arith) }

front_live : (m : ℕ) (b : Block) (bs : List Block) → b.live ≡ true → IsFront m bs → (k : ℕ) (d : Block) → k < suc m → (get_or (b ∷ bs) k d).live ≡ true
front_live m b bs live front zero d below = live
front_live m b bs live front (suc k) d below = front.live k d (omega arith)

front_more : (m : ℕ) (b : Block) (bs : List Block) → b.live ≡ true → IsFront m bs → IsFront (suc m) (b ∷ bs)
front_more m b bs live front = let most = front.within in record { within = omega (arith, most); live = front_live m b bs live front }

pub front-given : (n m : ℕ) (bs : List Block) → IsFront m bs → IsFront m (given n bs)
front-given n m [] front = front
front-given n zero (b ∷ bs) front = front_none (given n (b ∷ bs))
front-given n (suc m) (b ∷ bs) front =
    let live = front.live zero b (omega arith) in
    rw (live_unfit n b live) (front_more m b (given n bs) live (front-given n m bs (front_tail m b bs front)))

pub front-given_up : (a m i : ℕ) (bs : List Block) → IsFront m bs → ((k : ℕ) (d : Block) → k < i → is_live_at a (get_or bs k d) ≡ false) → m ≤ i - 1 → IsFront m (given_up a bs)
front-given_up a m i [] front before few = front
front-given_up a zero i (b ∷ bs) front before few = front_none (given_up a (b ∷ bs))
front-given_up a (suc m) i (b ∷ bs) front before few =
    let live = front.live zero b (omega arith) in
    rw (before zero b (omega arith), joined-by_life b (given_up a bs) live)
    (front_more m b (given_up a bs) live (front-given_up a m (i - 1) bs (front_tail m b bs front) (λ k d below. before (suc k) d (omega arith)) (omega arith)))

pub front_least : (m n : ℕ) (bs : List Block) → IsFront n bs → m ≤ n → IsFront m bs
front_least m n bs front few = let most = front.within in record { within = omega (arith, most, few); live = λ k d below. front.live k d (omega (arith, few)) }

-- ---- sizes and places

pub one_size : (bs : List Block) (i : ℕ) (b : Block) → i < length bs → b ≡ get_or bs i b → b.size ≤ total_size bs
one_size [] i b within at = absurd (omega arith)
one_size (c ∷ cs) zero b within at = let e = ap (λ (z : Block). z.size) at in omega (arith, e)
one_size (c ∷ cs) (suc i) b within at = let low = one_size cs i b (omega arith) at in omega (arith, low)

fit_size-step : (live : Bool) (n size : ℕ) → (not live && nat_le n size) ≡ true → n ≤ size
fit_size-step true n size fits = absurd (cc)
fit_size-step false n size fits = grind (arith, nat_tests)

pub fit_size : (n : ℕ) (b : Block) → is_fit n b ≡ true → n ≤ b.size
fit_size n b fits = fit_size-step b.live n b.size fits

pub joined_last : (bs : List Block) (i : ℕ) → length bs ≤ i + 1 → bs ≡ joined_at i bs
joined_last [] i last = refl
joined_last (x ∷ []) zero last = refl
joined_last (x ∷ []) (suc i) last = refl
joined_last (x ∷ y ∷ xs) zero last = absurd (omega arith)
joined_last (x ∷ y ∷ xs) (suc i) last = ap (λ t. x ∷ t) (joined_last (y ∷ xs) i (omega arith))

pub joined_kept : (bs : List Block) (i : ℕ) (b c : Block) → i + 1 < length bs → b ≡ get_or bs i b → c ≡ get_or bs (i + 1) c → (not b.live && not c.live) ≡ false → bs ≡ joined_at i bs
joined_kept [] i b c within at next apart = refl
joined_kept (x ∷ []) i b c within at next apart = absurd (omega arith)
joined_kept (x ∷ y ∷ xs) zero b c within at next apart =
    let tells : (not x.live && not y.live) ≡ false = (λ i. not (sym at i).live && not (sym next i).live) ∙ apart in
    rw tells refl
joined_kept (x ∷ y ∷ xs) (suc i) b c within at next apart =
    let there : suc i + 1 ≡ suc (i + 1) = omega arith in
    ap (λ t. x ∷ t) (joined_kept (y ∷ xs) i b c (omega arith) at (next ∙ ap (λ k. get_or (x ∷ y ∷ xs) k c) there) apart)

joined_length : (b : Block) (bs : List Block) → length bs ≤ length (joined b bs)
joined_length b [] = omega arith
joined_length b (c ∷ cs) = elim (not b.live && not c.live) as (λ t. length (c ∷ cs) ≤ length (cond t (free_block b.at (b.size + c.size) ∷ cs) (b ∷ c ∷ cs))) [ true ↦ omega arith | false ↦ omega arith ]

pub length-joined_at : (i : ℕ) (bs : List Block) → length bs ≤ length (joined_at i bs) + 1
length-joined_at i [] = omega arith
length-joined_at zero (b ∷ bs) = let low = joined_length b bs in omega (arith, low)
length-joined_at (suc i) (b ∷ bs) = let low = length-joined_at i bs in omega (arith, low)

pub tiled_end : (at : ℕ) (bs : List Block) → IsTiled at bs → at ≤ 0x4000_0000
tiled_end at bs tiled = let sum = total-tiled at bs tiled in omega (arith, sum)

pub tiled_low : (at : ℕ) (bs : List Block) (i : ℕ) (d : Block) → IsTiled at bs → i < length bs → (get_or bs i d).at ≤ 0x4000_0000
tiled_low at [] i d tiled within = absurd (omega arith)
tiled_low at (b ∷ bs) zero d tiled within = let start = tiled.0 in let high = tiled_end (at + b.size) bs tiled.3 in omega (arith, start, high)
tiled_low at (b ∷ bs) (suc i) d tiled within = tiled_low (at + b.size) bs i d tiled.3 (omega arith)

too_large-step : (live : Bool) (from size n : ℕ) (bs : List Block) → size < n → first_fit (free_among bs) n ≡ None → first_fit (free_among (block live from size ∷ bs)) n ≡ None
too_large-step true from size n bs small rest = rest
too_large-step false from size n bs small rest = let tells : nat_le n size ≡ false = grind (arith, nat_tests) in rw tells rest

pub too_large : (at n : ℕ) (bs : List Block) → IsTiled at bs → 0x4000_0000 < at + n → first_fit (free_among bs) n ≡ None
too_large at n [] tiled large = refl
too_large at n (b ∷ bs) tiled large =
    let high = tiled_end (at + b.size) bs tiled.3 in
    too_large-step b.live b.at b.size n bs (omega (arith, high)) (too_large (at + b.size) n bs tiled.3 (omega arith))

pub length-placed : (r : Range) (xs : List Range) → length (placed r xs) ≡ length xs + 1
length-placed r [] = refl
length-placed r (x ∷ xs) = elim (nat_lt r.from x.from) as (λ b. length (cond b (r ∷ x ∷ xs) (x ∷ placed r xs)) ≡ length (x ∷ xs) + 1) [
  | true ↦ omega arith
  | false ↦ let rest = length-placed r xs in omega (arith, rest)
]

pub length-without : (xs : List Range) (a : ℕ) (r : Range) → block_at xs a ≡ Some r → length (without_block xs a) + 1 ≡ length xs
length-without [] a r found = absurd (cc)
length-without (x ∷ xs) a r found = elim (eqb_tells x.from a) [
  | inl p ↦ rw p.0 (omega arith)
  | inr p ↦ (let h : block_at xs a ≡ Some r = rw p.0 at found in let rest = length-without xs a r h in rw p.0 (omega (arith, rest)))
]
