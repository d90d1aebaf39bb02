-- Every byte of the heap is in exactly one free range or live block, whatever was asked of it.
use Rattle.std.proofs.Common.{◌≡◌, ℕ, zero, suc, ◌+◌, ◌-◌, ◌<◌, ◌≤◌, true, false, cond, ◌||◌, nat_lt, nat_le, ◌==◌, Option, None, Some, List, [], ◌∷◌, length, get_or, refl, ap, ◌∙◌, arith}
use Rattle.std.proofs.lemmas.Bool.Decides.{nat_tests}
use Rattle.mx_base.specs.Heap.{Range, range_end, Heap, most_blocks, rounded, first_fit, behind, taken_from, placed, given_block, allocated, block_at, without_block, joined_to, freed_into, given_back, freed, HeapCall, Allocs, Frees, heap_called, heap_after, has_byte, holders, NeverOverlap, LieInHeap}
use Rattle.mx_base.specs.Regions.{heap_region, is_in}

abbrev pub holds_one : ℕ → Range → ℕ
holds_one a r = cond (has_byte a r) 1 0

abbrev pub range : ℕ → ℕ → Range
range from size = record { from = from; size = size }

-- a range and the one behind it, as one
pub holds_joined : (a from m n : ℕ) → holds_one a (range from (m + n)) ≡ holds_one a (range from m) + holds_one a (range (from + m) n)
holds_joined a from m n = grind (arith, nat_tests)

pub holders-placed : (a : ℕ) (r : Range) (xs : List Range) → holders a (placed r xs) ≡ holds_one a r + holders a xs
holders-placed a r [] = refl
holders-placed a r (x ∷ xs) = elim (nat_lt r.from x.from) as (λ b. holders a (cond b (r ∷ x ∷ xs) (x ∷ placed r xs)) ≡ holds_one a r + (holds_one a x + holders a xs)) [
  | true ↦ refl
  | false ↦ let rest = holders-placed a r xs in omega (arith, rest)
]

holders-behind : (a : ℕ) (f : Range) (n : ℕ) (fs : List Range) → n ≤ f.size → holders a (behind f n fs) + holds_one a (range f.from n) ≡ holds_one a f + holders a fs
holders-behind a f n fs fits = elim (f.size == n) as (λ b. f.size == n ≡ b → holders a (cond b fs (range (f.from + n) (f.size - n) ∷ fs)) + holds_one a (range f.from n) ≡ holds_one a f + holders a fs) [
  | true ↦ λ e. let same : f.size ≡ n = grind (arith, nat_tests) in rw same (omega arith)
  | false ↦ λ e. let whole : f.size ≡ n + (f.size - n) = omega arith in
      let parts = holds_joined a f.from n (f.size - n) in
      let sum : holds_one a (range f.from f.size) ≡ holds_one a (range f.from (n + (f.size - n))) = ap (λ s. holds_one a (range f.from s)) whole in
      omega (arith, parts, sum)
] refl

pub holders-taken_from : (a : ℕ) (fs : List Range) (n : ℕ) (f : Range) → first_fit fs n ≡ Some f → holders a (taken_from fs n) + holds_one a (range f.from n) ≡ holders a fs
holders-taken_from a [] n f found = absurd (cc)
holders-taken_from a (g ∷ fs) n f found = elim (nat_le n g.size) as (λ b. nat_le n g.size ≡ b → cond b (Some g) (first_fit fs n) ≡ Some f → holders a (cond b (behind g n fs) (g ∷ taken_from fs n)) + holds_one a (range f.from n) ≡ holds_one a g + holders a fs) [
  | true ↦ λ e h. let same : g ≡ f = cc in let fits : n ≤ g.size = grind (arith, nat_tests) in rw (← same) (holders-behind a g n fs fits)
  | false ↦ λ e h. let rest = holders-taken_from a fs n f h in omega (arith, rest)
] refl found

pub holders-without_block : (a : ℕ) (bs : List Range) (p : ℕ) (b : Range) → block_at bs p ≡ Some b → holders a (without_block bs p) + holds_one a b ≡ holders a bs
holders-without_block a [] p b found = absurd (cc)
holders-without_block a (c ∷ bs) p b found = elim (c.from == p) as (λ t. cond t (Some c) (block_at bs p) ≡ Some b → holders a (cond t bs (c ∷ without_block bs p)) + holds_one a b ≡ holds_one a c + holders a bs) [
  | true ↦ λ h. let same : c ≡ b = cc in rw (← same) (omega arith)
  | false ↦ λ h. let rest = holders-without_block a bs p b h in omega (arith, rest)
] found

pub holders-joined_to : (a : ℕ) (r : Range) (fs : List Range) → holders a (joined_to r fs) ≡ holds_one a r + holders a fs
holders-joined_to a r [] = refl
holders-joined_to a r (f ∷ fs) = elim (range_end r == f.from) as (λ b. range_end r == f.from ≡ b → holders a (cond b (range r.from (r.size + f.size) ∷ fs) (r ∷ f ∷ fs)) ≡ holds_one a r + (holds_one a f + holders a fs)) [
  | true ↦ λ e. let meets : r.from + r.size ≡ f.from = grind (arith, nat_tests) in
      let parts = holds_joined a r.from r.size f.size in
      let second : holds_one a (range (r.from + r.size) f.size) ≡ holds_one a (range f.from f.size) = ap (λ x. holds_one a (range x f.size)) meets in
      omega (arith, parts, second)
  | false ↦ λ e. refl
] refl

pub holders-freed_into : (a : ℕ) (b : Range) (fs : List Range) → holders a (freed_into b fs) ≡ holds_one a b + holders a fs
holders-freed_into a b [] = refl
holders-freed_into a b (f ∷ fs) = elim (nat_lt b.from f.from) as (λ t. holders a (cond t (joined_to b (f ∷ fs)) (cond (range_end f == b.from) (joined_to (range f.from (f.size + b.size)) fs) (f ∷ freed_into b fs))) ≡ holds_one a b + (holds_one a f + holders a fs)) [
  | true ↦ holders-joined_to a b (f ∷ fs)
  | false ↦ elim (range_end f == b.from) as (λ t. range_end f == b.from ≡ t → holders a (cond t (joined_to (range f.from (f.size + b.size)) fs) (f ∷ freed_into b fs)) ≡ holds_one a b + (holds_one a f + holders a fs)) [
    | true ↦ λ e. let meets : f.from + f.size ≡ b.from = grind (arith, nat_tests) in
        let parts = holds_joined a f.from f.size b.size in
        let second : holds_one a (range (f.from + f.size) b.size) ≡ holds_one a (range b.from b.size) = ap (λ x. holds_one a (range x b.size)) meets in
        let joined = holders-joined_to a (range f.from (f.size + b.size)) fs in
        omega (arith, parts, second, joined)
    | false ↦ λ e. let rest = holders-freed_into a b fs in omega (arith, rest)
  ] refl
]

-- ---- what each call keeps

-- how many of the ranges and blocks of a heap have the byte
abbrev pub owners : ℕ → Heap → ℕ
owners a h = holders a h.free + holders a h.live

owners-given_block : (a : ℕ) (h : Heap) (n : ℕ) (f : Option Range) → first_fit h.free n ≡ f → owners a (given_block h n f).1 ≡ owners a h
owners-given_block a h n None found = refl
owners-given_block a h n (Some f) found =
    let free = holders-taken_from a h.free n f found in
    let live = holders-placed a (range f.from n) h.live in
    omega (arith, free, live)

pub owners-allocated : (a : ℕ) (h : Heap) (n : ℕ) → owners a (allocated h n).1 ≡ owners a h
unfolding allocated
owners-allocated a h n = elim (n == 0 || nat_le most_blocks (length h.live)) as (λ b. owners a (cond b (0, h) (given_block h (rounded n) (first_fit h.free (rounded n)))).1 ≡ owners a h) [
  | true ↦ refl
  | false ↦ owners-given_block a h (rounded n) (first_fit h.free (rounded n)) refl
]

abbrev unwrapped : Option Heap → Heap → Heap
unwrapped None h = h
unwrapped (Some g) h = g

owners-given_back : (a : ℕ) (h : Heap) (p : ℕ) (b : Option Range) → block_at h.live p ≡ b → owners a (unwrapped (given_back h p b) h) ≡ owners a h
owners-given_back a h p None found = refl
owners-given_back a h p (Some b) found =
    let live = holders-without_block a h.live p b found in
    let free = holders-freed_into a b h.free in
    omega (arith, free, live)

pub owners-freed : (a : ℕ) (h : Heap) (p : ℕ) → owners a (heap_called h (Frees p)) ≡ owners a h
unfolding freed
owners-freed a h p = owners-given_back a h p (block_at h.live p) refl

pub owners-heap_after : (a : ℕ) (calls : List HeapCall) → owners a (heap_after calls) ≡ cond (is_in heap_region a) 1 0
owners-heap_after a [] = omega arith
owners-heap_after a (Allocs n ∷ earlier) = owners-allocated a (heap_after earlier) n ∙ owners-heap_after a earlier
owners-heap_after a (Frees p ∷ earlier) = owners-freed a (heap_after earlier) p ∙ owners-heap_after a earlier

-- ---- what holds of the places of a list

pub held_once : (a : ℕ) (rs : List Range) (i : ℕ) (d : Range) → i < length rs → has_byte a (get_or rs i d) ≡ true → 1 ≤ holders a rs
held_once a [] i d within has = absurd (omega arith)
held_once a (r ∷ rs) zero d within has = rw has (omega arith)
held_once a (r ∷ rs) (suc i) d within has = let rest = held_once a rs i d (omega arith) has in omega (arith, rest)

pub held_twice : (a : ℕ) (rs : List Range) (i j : ℕ) (d : Range) → i < j → j < length rs → has_byte a (get_or rs i d) ≡ true → has_byte a (get_or rs j d) ≡ true → 2 ≤ holders a rs
held_twice a [] i j d below within has also = absurd (omega arith)
held_twice a (r ∷ rs) i zero d below within has also = absurd (omega arith)
held_twice a (r ∷ rs) zero (suc j) d below within has also = let rest = held_once a rs j d (omega arith) also in rw has (omega (arith, rest))
held_twice a (r ∷ rs) (suc i) (suc j) d below within has also = let rest = held_twice a rs i j d (omega arith) (omega arith) has also in omega (arith, rest)

-- ---- the laws

pub never_overlap : (calls : List HeapCall) → NeverOverlap (heap_after calls).live
never_overlap calls i j a d below within has also =
    let both = held_twice a (heap_after calls).live i j d below within has also in
    let one = owners-heap_after a calls in
    elim (is_in heap_region a) as (λ b. owners a (heap_after calls) ≡ cond b 1 0 → ⊥) [ true ↦ λ e. omega (arith, both) | false ↦ λ e. omega (arith, both) ] one

pub lie_in_heap : (calls : List HeapCall) → LieInHeap (heap_after calls).live
lie_in_heap calls i a d within has =
    let one = held_once a (heap_after calls).live i d within has in
    let owned = owners-heap_after a calls in
    elim (is_in heap_region a) as (λ b. owners a (heap_after calls) ≡ cond b 1 0 → b ≡ true) [ true ↦ λ e. refl | false ↦ λ e. absurd (omega (arith, one)) ] owned
