-- What the heap answers and leaves, by what was found.
use Rattle.std.proofs.Common.{◌≡◌, ◌≢◌, ℕ, ◌+◌, ◌*◌, ◌/◌, ◌<◌, ◌≤◌, nat_le, true, false, cond, ◌||◌, ◌==◌, None, Some, length, refl, arith}
use Rattle.std.proofs.lemmas.Bool.Decides.{nat_tests}
use Rattle.mx_base.specs.Heap.{Range, Heap, most_blocks, rounded, first_fit, taken_from, placed, given_block, allocated, block_at, without_block, freed_into, freed}

pub rounded_is : (n : ℕ) → (n + 15) / 16 * 16 ≡ rounded n
unfolding rounded
rounded_is n = omega arith

pub rounded_least : (n : ℕ) → n ≤ rounded n
unfolding rounded
rounded_least n = omega arith

pub none_asked : (h : Heap) (n : ℕ) → n ≡ 0 → ◌≡◌ {A = ℕ × Heap} (0, h) (allocated h n)
unfolding allocated
none_asked h n none = let tells : (n == 0) ≡ true = grind (arith, nat_tests) in rw tells refl

pub none_more : (h : Heap) (n : ℕ) → most_blocks ≤ length h.live → ◌≡◌ {A = ℕ × Heap} (0, h) (allocated h n)
unfolding allocated
none_more h n full = let tells : nat_le most_blocks (length h.live) ≡ true = grind (arith, nat_tests) in elim (n == 0) as (λ b. ◌≡◌ {A = ℕ × Heap} (0, h) (cond (b || nat_le most_blocks (length h.live)) (0, h) (given_block h (rounded n) (first_fit h.free (rounded n))))) [
  | true ↦ refl
  | false ↦ rw tells refl
]

pub none_fits : (h : Heap) (n : ℕ) → first_fit h.free (rounded n) ≡ None → ◌≡◌ {A = ℕ × Heap} (0, h) (allocated h n)
unfolding allocated
none_fits h n none = elim (n == 0 || nat_le most_blocks (length h.live)) as (λ b. ◌≡◌ {A = ℕ × Heap} (0, h) (cond b (0, h) (given_block h (rounded n) (first_fit h.free (rounded n))))) [
  | true ↦ refl
  | false ↦ rw none refl
]

pub one_fits : (h : Heap) (n : ℕ) (f : Range) → n ≢ 0 → length h.live < most_blocks → first_fit h.free (rounded n) ≡ Some f
    → ◌≡◌ {A = ℕ × Heap} (f.from, record { free = taken_from h.free (rounded n); live = placed record { from = f.from; size = rounded n } h.live }) (allocated h n)
unfolding allocated
one_fits h n f some few found =
    let asked : (n == 0) ≡ false = grind (arith, nat_tests) in
    let more : nat_le most_blocks (length h.live) ≡ false = grind (arith, nat_tests) in
    rw (asked, more, found) refl

pub freed_none : (h : Heap) (a : ℕ) → block_at h.live a ≡ None → freed h a ≡ None
unfolding freed
freed_none h a none = rw none refl

pub freed_some : (h : Heap) (a : ℕ) (r : Range) → block_at h.live a ≡ Some r → freed h a ≡ Some record { free = freed_into r h.free; live = without_block h.live a }
unfolding freed
freed_some h a r found = rw found refl
