-- The heap: its free ranges and its live blocks.
use Rattle.std.specs.Prelude.{◌≡◌, ℕ, ◌+◌, ◌-◌, ◌*◌, ◌/◌, nat_le, nat_lt, Bool, ◌==◌, ◌&&◌, ◌||◌, if◌then◌else◌, Option, None, Some, List, [], ◌∷◌, length, unwrap_or, slice_index_or, true, ◌<◌, ◌≤◌}
use Rattle.mx_base.specs.Regions.{heap_region, is_in}

-- some bytes of the heap
pub record Range : Type 0 where
  pub from : ℕ
  pub size : ℕ

abbrev pub range_end : Range → ℕ
range_end r = r.from + r.size

-- both lists by address
pub record Heap : Type 0 where
  pub free : List Range
  pub live : List Range

-- all of it is free
abbrev pub whole_heap : Heap
whole_heap = record { free = record { from = heap_region.from; size = heap_region.size } ∷ []; live = [] }

-- how many blocks may live
abbrev pub most_blocks : ℕ
most_blocks = 65536

-- a size rounded up to a multiple of 16
unfoldable pub rounded : ℕ → ℕ
rounded n = 16 * ((n + 15) / 16)

-- the first free range that holds this many bytes
abbrev pub first_fit : List Range → ℕ → Option Range
first_fit [] n = None
first_fit (f ∷ fs) n = if nat_le n f.size then Some f else first_fit fs n

-- what is left of a range behind its first n bytes, if anything
abbrev pub behind : Range → ℕ → List Range → List Range
behind f n fs = if f.size == n then fs else record { from = f.from + n; size = f.size - n } ∷ fs

-- the free ranges once the first n bytes of the first range that holds them are taken
abbrev pub taken_from : List Range → ℕ → List Range
taken_from [] n = []
taken_from (f ∷ fs) n = if nat_le n f.size then behind f n fs else f ∷ taken_from fs n

-- a range among others by address
abbrev pub placed : Range → List Range → List Range
placed r [] = r ∷ []
placed r (x ∷ xs) = if nat_lt r.from x.from then r ∷ x ∷ xs else x ∷ placed r xs

-- a block of n bytes from the front of a free range, and the heap then; 0 where there is no range
abbrev pub given_block : Heap → ℕ → Option Range → ℕ × Heap
given_block h n None = (0, h)
given_block h n (Some f) = (f.from, record { free = taken_from h.free n; live = placed record { from = f.from; size = n } h.live })

-- the answer to a call for n bytes, and the heap then: the address of a block, or 0 where n is 0, no free range fits, or as
-- many blocks live as may
unfoldable pub allocated : Heap → ℕ → ℕ × Heap
allocated h n = if n == 0 || nat_le most_blocks (length h.live) then (0, h) else given_block h (rounded n) (first_fit h.free (rounded n))

-- the live block that starts at an address
abbrev pub block_at : List Range → ℕ → Option Range
block_at [] a = None
block_at (b ∷ bs) a = if b.from == a then Some b else block_at bs a

-- the live blocks without the one that starts at an address
abbrev pub without_block : List Range → ℕ → List Range
without_block [] a = []
without_block (b ∷ bs) a = if b.from == a then bs else b ∷ without_block bs a

-- a free range in front of others, as one with the first of them if it ends where that begins
abbrev pub joined_to : Range → List Range → List Range
joined_to r [] = r ∷ []
joined_to r (f ∷ fs) = if range_end r == f.from then record { from = r.from; size = r.size + f.size } ∷ fs else r ∷ f ∷ fs

-- the free ranges with a freed block, as one with its free neighbours
abbrev pub freed_into : Range → List Range → List Range
freed_into b [] = b ∷ []
freed_into b (f ∷ fs) = if nat_lt b.from f.from then joined_to b (f ∷ fs)
    else if range_end f == b.from then joined_to record { from = f.from; size = f.size + b.size } fs
    else f ∷ freed_into b fs

abbrev pub given_back : Heap → ℕ → Option Range → Option Heap
given_back h a None = None
given_back h a (Some b) = Some record { free = freed_into b h.free; live = without_block h.live a }

-- the heap once the block that starts at an address is freed; None where no live block starts there
unfoldable pub freed : Heap → ℕ → Option Heap
freed h a = given_back h a (block_at h.live a)

-- ---- a heap and what was asked of it

pub data HeapCall : Type 0 where
  Allocs : (size : ℕ) → HeapCall
  Frees : (at : ℕ) → HeapCall

abbrev pub heap_called : Heap → HeapCall → Heap
heap_called h (Allocs n) = (allocated h n).1
heap_called h (Frees a) = unwrap_or (freed h a) h

-- the heap after these calls, the last one first
abbrev pub heap_after : List HeapCall → Heap
heap_after [] = whole_heap
heap_after (c ∷ earlier) = heap_called (heap_after earlier) c

-- ---- which bytes are whose

abbrev pub has_byte : ℕ → Range → Bool
has_byte a r = nat_le r.from a && nat_lt a (r.from + r.size)

-- how many of the ranges have the byte
abbrev pub holders : ℕ → List Range → ℕ
holders a [] = 0
holders a (r ∷ rs) = (if has_byte a r then 1 else 0) + holders a rs

-- ranges by address from `from` on: each has bytes, and begins at least `gap` bytes behind the end of the one before
abbrev pub InOrder : ℕ → ℕ → List Range → Type 0
InOrder gap from [] = Unit {0}
InOrder gap from (r ∷ rs) = (from ≤ r.from) × (0 < r.size) × InOrder gap (r.from + r.size + gap) rs

-- no byte is in two of the ranges
abbrev pub NeverOverlap : List Range → Type 0
NeverOverlap rs = (i j a : ℕ) (d : Range) → i < j → j < length rs → has_byte a (slice_index_or rs i d) ≡ true → has_byte a (slice_index_or rs j d) ≡ true → ⊥

-- each byte of the ranges is in the heap
abbrev pub LieInHeap : List Range → Type 0
LieInHeap rs = (i a : ℕ) (d : Range) → i < length rs → has_byte a (slice_index_or rs i d) ≡ true → is_in heap_region a ≡ true

-- each byte of the heap is in one free range or live block, and no other byte is in any
abbrev pub OwnsEachByteOnce : Heap → Type 0
OwnsEachByteOnce h = (a : ℕ) → holders a h.free + holders a h.live ≡ (if is_in heap_region a then 1 else 0)
