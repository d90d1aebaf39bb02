-- Both lists of the heap stay in order, and free ranges are few.
use Rattle.std.proofs.Common.{◌≡◌, ℕ, suc, ◌+◌, ◌-◌, ◌<◌, ◌≤◌, true, false, cond, ◌||◌, nat_lt, nat_le, ◌==◌, Option, None, Some, List, [], ◌∷◌, length, refl, ap, ◌∙◌, arith}
use Rattle.std.proofs.lemmas.Bool.Decides.{nat_tests}
use Rattle.mx_base.specs.Heap.{Range, range_end, Heap, most_blocks, rounded, first_fit, behind, taken_from, placed, given_block, allocated, block_at, without_block, joined_to, freed_into, given_back, freed, HeapCall, Allocs, Frees, heap_called, heap_after, has_byte, holders, InOrder}
use Rattle.mx_base.specs.Regions.{heap_region, is_in}
use Rattle.mx_base.proofs.HeapLemmas.{holds_one, range, owners, owners-heap_after, holders-placed, holders-taken_from, holders-without_block, holders-freed_into}

-- ---- order

-- what is in order from some address on is so from an earlier one on
pub InOrder-earlier : (gap from to : ℕ) (rs : List Range) → to ≤ from → InOrder gap from rs → InOrder gap to rs
InOrder-earlier gap from to [] below order = tt
InOrder-earlier gap from to (r ∷ rs) below order = (omega (arith, order.0), order.1, order.2)

-- no byte before the first range is in any
pub holders-before : (gap from a : ℕ) (rs : List Range) → InOrder gap from rs → a < from → holders a rs ≡ 0
holders-before gap from a [] order below = refl
holders-before gap from a (r ∷ rs) order below =
    let rest = holders-before gap (r.from + r.size + gap) a rs order.2 (omega (arith, order.0)) in
    let out : has_byte a r ≡ false = let first = order.0 in grind (arith, nat_tests) in
    rw out (omega (arith, rest))

-- a range has its first byte
has_first : (r : Range) → 0 < r.size → has_byte r.from r ≡ true
has_first r some = grind (arith, nat_tests)

-- a range that shares no byte with the head of others
abbrev Apart : Range → List Range → Type 0
Apart r rs = (a : ℕ) → has_byte a r ≡ true → holders a rs ≡ 0

apart_rest : (r x : Range) (xs : List Range) → Apart r (x ∷ xs) → Apart r xs
apart_rest r x xs apart a has = let none = apart a has in omega (arith, none)

not_both : (r x : Range) (xs : List Range) (a : ℕ) → Apart r (x ∷ xs) → has_byte a r ≡ true → has_byte a x ≡ true → ⊥
not_both r x xs a apart has also = let none = apart a has in let one : holds_one a x ≡ 1 = rw also refl in omega (arith, none, one)

-- the one of two ranges apart that begins first ends before the other begins
ends_before : (r x : Range) (xs : List Range) → Apart r (x ∷ xs) → 0 < x.size → r.from ≤ x.from → r.from + r.size ≤ x.from
ends_before r x xs apart some first = elim (nat_lt x.from (r.from + r.size)) as (λ b. nat_lt x.from (r.from + r.size) ≡ b → r.from + r.size ≤ x.from) [
  | true ↦ λ e. absurd (not_both r x xs x.from apart (grind (arith, nat_tests)) (has_first x some))
  | false ↦ λ e. grind (arith, nat_tests)
] refl

begins_behind : (r x : Range) (xs : List Range) → Apart r (x ∷ xs) → 0 < r.size → x.from ≤ r.from → x.from + x.size ≤ r.from
begins_behind r x xs apart some first = elim (nat_lt r.from (x.from + x.size)) as (λ b. nat_lt r.from (x.from + x.size) ≡ b → x.from + x.size ≤ r.from) [
  | true ↦ λ e. absurd (not_both r x xs r.from apart (has_first r some) (grind (arith, nat_tests)))
  | false ↦ λ e. grind (arith, nat_tests)
] refl

InOrder-behind : (from : ℕ) (f : Range) (n : ℕ) (fs : List Range) → InOrder 1 from (f ∷ fs) → n ≤ f.size → InOrder 1 from (behind f n fs)
InOrder-behind from f n fs order fits = elim (f.size == n) as (λ b. f.size == n ≡ b → InOrder 1 from (cond b fs (range (f.from + n) (f.size - n) ∷ fs))) [
  | true ↦ λ e. InOrder-earlier 1 (f.from + f.size + 1) from fs (omega (arith, order.0)) order.2
  | false ↦ λ e. let more : n < f.size = grind (arith, nat_tests) in
      let end : f.from + n + (f.size - n) + 1 ≡ f.from + f.size + 1 = omega arith in
      (omega (arith, order.0), omega arith, rw end order.2)
] refl

pub InOrder-taken_from : (from : ℕ) (fs : List Range) (n : ℕ) → InOrder 1 from fs → InOrder 1 from (taken_from fs n)
InOrder-taken_from from [] n order = tt
InOrder-taken_from from (f ∷ fs) n order = elim (nat_le n f.size) as (λ b. nat_le n f.size ≡ b → InOrder 1 from (cond b (behind f n fs) (f ∷ taken_from fs n))) [
  | true ↦ λ e. InOrder-behind from f n fs order (grind (arith, nat_tests))
  | false ↦ λ e. (order.0, order.1, InOrder-taken_from (f.from + f.size + 1) fs n order.2)
] refl

pub InOrder-placed : (from : ℕ) (r : Range) (xs : List Range) → InOrder 0 from xs → from ≤ r.from → 0 < r.size → Apart r xs → InOrder 0 from (placed r xs)
InOrder-placed from r [] order first some apart = (first, some, tt)
InOrder-placed from r (x ∷ xs) order first some apart = elim (nat_lt r.from x.from) as (λ b. nat_lt r.from x.from ≡ b → InOrder 0 from (cond b (r ∷ x ∷ xs) (x ∷ placed r xs))) [
  | true ↦ λ e. let before : r.from ≤ x.from = grind (arith, nat_tests) in
      let ends = ends_before r x xs apart order.1 before in
      (first, some, (omega (arith, ends), order.1, order.2))
  | false ↦ λ e. let after : x.from ≤ r.from = grind (arith, nat_tests) in
      let begins = begins_behind r x xs apart some after in
      (order.0, order.1, InOrder-placed (x.from + x.size + 0) r xs order.2 (omega (arith, begins)) some (apart_rest r x xs apart))
] refl

pub InOrder-without_block : (from : ℕ) (bs : List Range) (p : ℕ) → InOrder 0 from bs → InOrder 0 from (without_block bs p)
InOrder-without_block from [] p order = tt
InOrder-without_block from (b ∷ bs) p order = elim (b.from == p) as (λ t. InOrder 0 from (cond t bs (b ∷ without_block bs p))) [
  | true ↦ InOrder-earlier 0 (b.from + b.size + 0) from bs (omega (arith, order.0)) order.2
  | false ↦ (order.0, order.1, InOrder-without_block (b.from + b.size + 0) bs p order.2)
]

InOrder-joined_to : (from : ℕ) (r : Range) (fs : List Range) → from ≤ r.from → 0 < r.size → InOrder 1 (r.from + r.size) fs → InOrder 1 from (joined_to r fs)
InOrder-joined_to from r [] first some order = (first, some, tt)
InOrder-joined_to from r (f ∷ fs) first some order = elim (range_end r == f.from) as (λ b. range_end r == f.from ≡ b → InOrder 1 from (cond b (range r.from (r.size + f.size) ∷ fs) (r ∷ f ∷ fs))) [
  | true ↦ λ e. let meets : r.from + r.size ≡ f.from = grind (arith, nat_tests) in
      let end : r.from + (r.size + f.size) + 1 ≡ f.from + f.size + 1 = omega arith in
      (first, omega arith, rw end order.2)
  | false ↦ λ e. let start = order.0 in let more : r.from + r.size + 1 ≤ f.from = grind (arith, nat_tests) in
      (first, some, (more, order.1, order.2))
] refl

-- what is in order from an address on, and has none of a range's bytes from there on, is so from the range's end on
after_apart : (from : ℕ) (b : Range) (fs : List Range) → InOrder 1 from fs → b.from ≤ from → Apart b fs → InOrder 1 (b.from + b.size) fs
after_apart from b [] order first apart = tt
after_apart from b (g ∷ fs) order first apart =
    let ends = ends_before b g fs apart order.1 (omega (arith, order.0)) in (omega (arith, ends), order.1, order.2)

pub InOrder-freed_into : (from : ℕ) (b : Range) (fs : List Range) → InOrder 1 from fs → from ≤ b.from → 0 < b.size → Apart b fs → InOrder 1 from (freed_into b fs)
InOrder-freed_into from b [] order first some apart = (first, some, tt)
InOrder-freed_into from b (f ∷ fs) order first some apart = elim (nat_lt b.from f.from) as (λ t. nat_lt b.from f.from ≡ t → InOrder 1 from (cond t (joined_to b (f ∷ fs)) (cond (range_end f == b.from) (joined_to (range f.from (f.size + b.size)) fs) (f ∷ freed_into b fs)))) [
  | true ↦ λ e. let before : b.from ≤ f.from = grind (arith, nat_tests) in
      let ends = ends_before b f fs apart order.1 before in
      InOrder-joined_to from b (f ∷ fs) first some (ends, order.1, order.2)
  | false ↦ λ e. let after : f.from ≤ b.from = grind (arith, nat_tests) in
      let begins = begins_behind b f fs apart some after in
      elim (range_end f == b.from) as (λ t. range_end f == b.from ≡ t → InOrder 1 from (cond t (joined_to (range f.from (f.size + b.size)) fs) (f ∷ freed_into b fs))) [
        | true ↦ λ m. let meets : f.from + f.size ≡ b.from = grind (arith, nat_tests) in
            let end : f.from + (f.size + b.size) ≡ b.from + b.size = omega arith in
            let rest = after_apart (f.from + f.size + 1) b fs order.2 (omega arith) (apart_rest b f fs apart) in
            InOrder-joined_to from (range f.from (f.size + b.size)) fs order.0 (omega (arith, order.1)) (rw end rest)
        | false ↦ λ m. let more : f.from + f.size + 1 ≤ b.from = grind (arith, nat_tests) in
            (order.0, order.1, InOrder-freed_into (f.from + f.size + 1) b fs order.2 more some (apart_rest b f fs apart))
      ] refl
] refl

-- ---- the parts of a heap that a call takes or gives back

-- the first range that holds n bytes is one of them
fit_holds : (fs : List Range) (n : ℕ) (f : Range) (a : ℕ) → first_fit fs n ≡ Some f → has_byte a (range f.from n) ≡ true → 1 ≤ holders a fs
fit_holds fs n f a found has = let whole = holders-taken_from a fs n f found in
    let one : holds_one a (range f.from n) ≡ 1 = rw has refl in omega (arith, whole, one)

block_found : (bs : List Range) (p : ℕ) (b : Range) (from : ℕ) → InOrder 0 from bs → block_at bs p ≡ Some b → (0 < b.size) × (from ≤ b.from)
block_found [] p b from order found = absurd (cc)
block_found (c ∷ bs) p b from order found = elim (c.from == p) as (λ t. cond t (Some c) (block_at bs p) ≡ Some b → (0 < b.size) × (from ≤ b.from)) [
  | true ↦ λ h. let same : c ≡ b = cc in rw (← same) (order.1, order.0)
  | false ↦ λ h. let rest = block_found bs p b (c.from + c.size + 0) order.2 h in (rest.0, omega (arith, rest.1, order.0))
] found

-- no byte is owned twice
pub record IsOrdered (h : Heap) : Type 0 where
  pub free : InOrder 1 0 h.free
  pub live : InOrder 0 0 h.live
  pub once : (a : ℕ) → owners a h ≤ 1

rounded_some : (n : ℕ) → 0 < n → 0 < rounded n
unfolding rounded
rounded_some n some = omega arith

IsOrdered-given_block : (h : Heap) (n : ℕ) (f : Option Range) → IsOrdered h → 0 < n → first_fit h.free n ≡ f → IsOrdered (given_block h n f).1
IsOrdered-given_block h n None ordered some found = ordered
IsOrdered-given_block h n (Some f) ordered some found = record {
  free = InOrder-taken_from 0 h.free n ordered.free;
  live = InOrder-placed 0 (range f.from n) h.live ordered.live (omega arith) some (λ a has. let taken = fit_holds h.free n f a found has in let one = ordered.once a in omega (arith, taken, one));
  once = λ a. let one = ordered.once a in let free = holders-taken_from a h.free n f found in let live = holders-placed a (range f.from n) h.live in omega (arith, one, free, live);
}

pub IsOrdered-allocated : (h : Heap) (n : ℕ) → IsOrdered h → IsOrdered (allocated h n).1
unfolding allocated
IsOrdered-allocated h n ordered = elim (n == 0 || nat_le most_blocks (length h.live)) as (λ b. n == 0 || nat_le most_blocks (length h.live) ≡ b → IsOrdered (cond b (0, h) (given_block h (rounded n) (first_fit h.free (rounded n)))).1) [
  | true ↦ λ e. ordered
  | false ↦ λ e. let some : 0 < n = grind (arith, nat_tests) in IsOrdered-given_block h (rounded n) (first_fit h.free (rounded n)) ordered (rounded_some n some) refl
] refl

abbrev unwrapped : Option Heap → Heap → Heap
unwrapped None h = h
unwrapped (Some g) h = g

IsOrdered-given_back : (h : Heap) (p : ℕ) (b : Option Range) → IsOrdered h → block_at h.live p ≡ b → IsOrdered (unwrapped (given_back h p b) h)
IsOrdered-given_back h p None ordered found = ordered
IsOrdered-given_back h p (Some b) ordered found =
    let block = block_found h.live p b 0 ordered.live found in
    record {
      free = InOrder-freed_into 0 b h.free ordered.free block.1 block.0 (λ a has. let whole = holders-without_block a h.live p b found in let one = ordered.once a in let here : holds_one a b ≡ 1 = rw has refl in omega (arith, whole, one, here));
      live = InOrder-without_block 0 h.live p ordered.live;
      once = λ a. let one = ordered.once a in let live = holders-without_block a h.live p b found in let free = holders-freed_into a b h.free in omega (arith, one, live, free);
    }

pub IsOrdered-freed : (h : Heap) (p : ℕ) → IsOrdered h → IsOrdered (heap_called h (Frees p))
unfolding freed
IsOrdered-freed h p ordered = IsOrdered-given_back h p (block_at h.live p) ordered refl

pub IsOrdered-heap_after : (calls : List HeapCall) → IsOrdered (heap_after calls)
IsOrdered-heap_after [] = record {
  free = (omega arith, omega arith, tt);
  live = tt;
  once = λ a. elim (is_in heap_region a) as (λ b. cond b 1 0 + 0 + 0 ≤ 1) [ true ↦ omega arith | false ↦ omega arith ];
}
IsOrdered-heap_after (Allocs n ∷ earlier) = IsOrdered-allocated (heap_after earlier) n (IsOrdered-heap_after earlier)
IsOrdered-heap_after (Frees p ∷ earlier) = IsOrdered-freed (heap_after earlier) p (IsOrdered-heap_after earlier)

-- ---- free ranges are few: between two of them there is a live block

-- how many ranges begin at x or behind it
abbrev beginning : ℕ → List Range → ℕ
beginning x [] = 0
beginning x (r ∷ rs) = cond (nat_le x r.from) 1 0 + beginning x rs

beginning-le : (x : ℕ) (rs : List Range) → beginning x rs ≤ length rs
beginning-le x [] = omega arith
beginning-le x (r ∷ rs) = let rest = beginning-le x rs in elim (nat_le x r.from) as (λ b. cond b 1 0 + beginning x rs ≤ suc (length rs)) [ true ↦ omega (arith, rest) | false ↦ omega (arith, rest) ]

beginning-falls : (x y : ℕ) (rs : List Range) → x ≤ y → beginning y rs ≤ beginning x rs
beginning-falls x y [] below = omega arith
beginning-falls x y (r ∷ rs) below = let rest = beginning-falls x y rs below in grind (arith, nat_tests, rest)

-- a byte of theirs before y, where none of them has the byte before x: one begins between x and y
begins_between : (x y a : ℕ) (rs : List Range) → 1 ≤ x → x ≤ a → a < y → holders (x - 1) rs ≡ 0 → 1 ≤ holders a rs → 1 + beginning y rs ≤ beginning x rs
begins_between x y a [] some low high none one = absurd (omega (arith, one))
begins_between x y a (r ∷ rs) some low high none one =
    let rest_none : holders (x - 1) rs ≡ 0 = omega (arith, none) in
    let head_none : has_byte (x - 1) r ≡ false = elim (has_byte (x - 1) r) as (λ b. cond b 1 0 + holders (x - 1) rs ≡ 0 → b ≡ false) [ true ↦ λ h. absurd (omega arith) | false ↦ λ h. refl ] none in
    elim (has_byte a r) as (λ b. has_byte a r ≡ b → 1 ≤ cond b 1 0 + holders a rs → 1 + beginning y (r ∷ rs) ≤ beginning x (r ∷ rs)) [
      | true ↦ λ e h. let falls = beginning-falls x y rs (omega arith) in
          let starts : x ≤ r.from = grind (arith, nat_tests) in
          let early : r.from < y = grind (arith, nat_tests) in
          let counted : nat_le x r.from ≡ true = grind (arith, nat_tests) in
          let missed : nat_le y r.from ≡ false = grind (arith, nat_tests) in
          rw (counted, missed) (omega (arith, falls))
      | false ↦ λ e h. let rest = begins_between x y a rs some low high rest_none (omega arith) in
          let falls : cond (nat_le y r.from) 1 0 ≤ cond (nat_le x r.from) 1 0 = grind (arith, nat_tests) in
          omega (arith, rest, falls)
    ] refl one

in_heap : (h : Heap) (a : ℕ) → owners a h ≡ cond (is_in heap_region a) 1 0 → 1 ≤ owners a h → is_in heap_region a ≡ true
in_heap h a owned some = elim (is_in heap_region a) as (λ b. owners a h ≡ cond b 1 0 → b ≡ true) [ true ↦ λ e. refl | false ↦ λ e. absurd (omega (arith, some)) ] owned

-- a suffix of the free ranges, which alone has bytes from its first address on
few_behind : (h : Heap) (f : Range) (fs : List Range) (from : ℕ) → InOrder 1 from (f ∷ fs) → ((a : ℕ) → owners a h ≡ cond (is_in heap_region a) 1 0) → ((a : ℕ) → f.from ≤ a → holders a h.free ≡ holders a (f ∷ fs)) → length fs ≤ beginning (f.from + f.size) h.live
few_behind h f [] from order owned alone = omega arith
few_behind h f (g ∷ gs) from order owned alone =
    let some = order.1 in
    let next = order.2.0 in
    let next_some = order.2.1 in
    let fewer = few_behind h g gs (f.from + f.size + 1) order.2 owned (λ a behind. alone a (omega arith) ∙ (let out : has_byte a f ≡ false = grind (arith, nat_tests) in rw out (omega arith))) in
    let x = f.from + f.size in
    let a = g.from - 1 in
    -- the last byte of f is free, so no block has it
    let f_last : has_byte (x - 1) f ≡ true = grind (arith, nat_tests) in
    let f_free : 1 ≤ holders (x - 1) h.free = rw (alone (x - 1) (omega arith)) (rw f_last (omega arith)) in
    let f_in : is_in heap_region (x - 1) ≡ true = in_heap h (x - 1) (owned (x - 1)) (omega (arith, f_free)) in
    let f_none : holders (x - 1) h.live ≡ 0 = let all = owned (x - 1) in let one = rw f_in at all in omega (arith, one, f_free) in
    -- the first byte of g is in the heap, and so is the one before it, which isn't free
    let g_first = has_first g next_some in
    let g_out : has_byte g.from f ≡ false = grind (arith, nat_tests) in
    let g_free : 1 ≤ holders g.from h.free = rw (alone g.from (omega arith)) (rw (g_out, g_first) (omega arith)) in
    let g_in : is_in heap_region g.from ≡ true = in_heap h g.from (owned g.from) (omega (arith, g_free)) in
    let a_in : is_in heap_region a ≡ true = grind (arith, nat_tests) in
    let a_out_f : has_byte a f ≡ false = grind (arith, nat_tests) in
    let a_out_g : has_byte a g ≡ false = grind (arith, nat_tests) in
    let a_rest = holders-before 1 (g.from + g.size + 1) a gs order.2.2 (omega arith) in
    let a_free : holders a h.free ≡ 0 = alone a (omega arith) ∙ rw (a_out_f, a_out_g) (omega (arith, a_rest)) in
    let a_live : 1 ≤ holders a h.live = let all = owned a in let one = rw a_in at all in omega (arith, one, a_free) in
    let between = begins_between x g.from a h.live (omega arith) (omega arith) (omega arith) f_none a_live in
    let falls = beginning-falls g.from (g.from + g.size) h.live (omega arith) in
    omega (arith, fewer, between, falls)

few_of : (h : Heap) (fs : List Range) → InOrder 1 0 fs → ((a : ℕ) → owners a h ≡ cond (is_in heap_region a) 1 0) → h.free ≡ fs → length fs ≤ length h.live + 1
few_of h [] order owned is = omega arith
few_of h (f ∷ fs) order owned is =
    let few = few_behind h f fs 0 order owned (λ a behind. ap (holders a) is) in
    let most = beginning-le (f.from + f.size) h.live in
    omega (arith, few, most)

pub few_free : (calls : List HeapCall) → length (heap_after calls).free ≤ length (heap_after calls).live + 1
few_free calls = few_of (heap_after calls) (heap_after calls).free (IsOrdered-heap_after calls).free (λ a. owners-heap_after a calls) refl
