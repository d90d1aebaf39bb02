-- The heap as one list of blocks by address, live and free ones, which lie end to end.
use Rattle.std.specs.Prelude.{◌≡◌, ℕ, zero, suc, ◌+◌, ◌-◌, ◌<◌, ◌≤◌, nat_le, Bool, true, false, not, ◌&&◌, ◌==◌, if◌then◌else◌, Option, None, Some, List, [], ◌∷◌, length, slice_index_or, refl}
use Rattle.std.specs.Coded.{Coded, code_by, coded×, coded_ℕ, coded_list}
use Rattle.guest_services.specs.declared.blocks.Block.{Block}
use Rattle.mx_base.specs.Regions.{heap_region}
use Rattle.mx_base.specs.Heap.{Range, Heap}

abbrev pub range_of : Block → Range
range_of b = record { from = b.at; size = b.size }

abbrev pub free_among : List Block → List Range
free_among [] = []
free_among (b ∷ bs) = if b.live then free_among bs else range_of b ∷ free_among bs

abbrev pub live_among : List Block → List Range
live_among [] = []
live_among (b ∷ bs) = if b.live then range_of b ∷ live_among bs else live_among bs

-- what callers see
abbrev pub heap_of : List Block → Heap
heap_of bs = record { free = free_among bs; live = live_among bs }

-- no free block is first
abbrev pub starts_live : List Block → Bool
starts_live [] = true
starts_live (b ∷ bs) = b.live

-- the blocks lie end to end from an address to the heap's end, none is empty, and no free one stands behind another
abbrev pub IsTiled : ℕ → List Block → Type 0
IsTiled at [] = at ≡ heap_region.from + heap_region.size
IsTiled at (b ∷ bs) = (b.at ≡ at) × (0 < b.size) × (b.live ≡ false → starts_live bs ≡ true) × IsTiled (at + b.size) bs

-- ---- a block that is given

abbrev pub live_block : ℕ → ℕ → Block
live_block at size = record { live = true; at = at; size = size }

abbrev pub free_block : ℕ → ℕ → Block
free_block at size = record { live = false; at = at; size = size }

-- whether a block is free and holds n bytes
abbrev pub is_fit : ℕ → Block → Bool
is_fit n b = not b.live && nat_le n b.size

-- the first n bytes of a block, live, in front of what is left of it
abbrev pub split : Block → ℕ → List Block → List Block
split b n bs = if b.size == n then live_block b.at n ∷ bs else live_block b.at n ∷ free_block (b.at + n) (b.size - n) ∷ bs

-- the blocks once the first fit gave n bytes
abbrev pub given : ℕ → List Block → List Block
given n [] = []
given n (b ∷ bs) = if is_fit n b then split b n bs else b ∷ given n bs

-- ---- a block that is given up

-- whether a block is live and starts at an address
abbrev pub is_live_at : ℕ → Block → Bool
is_live_at a b = b.live && b.at == a

-- a block in front of others, as one with the first of them if both are free
abbrev pub joined : Block → List Block → List Block
joined b [] = b ∷ []
joined b (c ∷ cs) = if not b.live && not c.live then free_block b.at (b.size + c.size) ∷ cs else b ∷ c ∷ cs

-- the blocks once the live one at an address is free
abbrev pub given_up : ℕ → List Block → List Block
given_up a [] = []
given_up a (b ∷ bs) = if is_live_at a b then joined (free_block b.at b.size) bs else joined b (given_up a bs)

-- the block at a place joined with the next one
abbrev pub joined_at : ℕ → List Block → List Block
joined_at i [] = []
joined_at zero (b ∷ bs) = joined b bs
joined_at (suc i) (b ∷ bs) = b ∷ joined_at i bs

-- how many bytes the blocks have
abbrev pub total_size : List Block → ℕ
total_size [] = 0
total_size (b ∷ bs) = b.size + total_size bs

-- the blocks before a place are live
pub record IsFront (place : ℕ) (bs : List Block) : Type 0 where
  pub within : place ≤ length bs
  pub live : (k : ℕ) (d : Block) → k < place → (slice_index_or bs k d).live ≡ true

-- what is known of the blocks of a heap, and of how many are live
pub record AreBlocks (bs : List Block) (live : ℕ) : Type 0 where
  pub tiled : IsTiled heap_region.from bs
  pub count : live ≡ length (live_among bs)
  pub few : live ≤ 65536

abbrev pub range_code : Coded Range
range_code = code_by (ℕ × ℕ) (coded× coded_ℕ coded_ℕ) (λ r. (r.from, r.size)) (λ p. record { from = p.0; size = p.1 }) (λ _. refl)

abbrev pub heap_code : Coded Heap
heap_code = code_by (List Range × List Range) (coded× (coded_list range_code) (coded_list range_code)) (λ h. (h.free, h.live)) (λ p. record { free = p.0; live = p.1 }) (λ _. refl)

-- what freeing answers and leaves
abbrev pub FreedTo : Option Heap → Heap → Heap → Bool → Type 0
FreedTo want old new true = want ≡ Some new
FreedTo want old new false = (want ≡ None) × (new ≡ old)
