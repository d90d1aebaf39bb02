-- Services answer words, and leave an input of bytes and a heap in its region.
use Rattle.std.specs.Prelude.{nat_lt, nat_le, if◌then◌else◌, ◌||◌, not}
use Rattle.std.proofs.Common.{◌≡◌, ℕ, ◌+◌, ◌<◌, ◌≤◌, true, false, ◌==◌, Option, None, Some, List, [], ◌∷◌, length, refl, arith, subst}
use Rattle.std.proofs.lemmas.Bool.Decides.{nat_tests}
use Rattle.std.proofs.lemmas.Bool.{cond_both}
use Rattle.mx_base.specs.Bounds.{addresses}
use Rattle.mx_base.specs.Heap.{Range, Heap, first_fit, behind, taken_from, placed, given_block, allocated, block_at, without_block, joined_to, freed_into, given_back, freed, rounded, range_end, most_blocks}
use Rattle.mx_base.specs.Memory.{Bytes}
use Rattle.mx_base.specs.Services.{Service, Write, Exit, Alloc, Free, Print, Put, Get, StackOver, NoService, Guest, guest_with, Served, served, written, alloc_answer, free_answer, gotten}
use Rattle.mx_base.specs.Guests.{RangeFits, RangesFit, InputFits, GuestFits, AnswerFits}

behind_fits : (f : Range) (n : ℕ) (fs : List Range) → RangeFits f → n ≤ f.size → RangesFit fs → RangesFit (behind f n fs)
behind_fits f n fs fits le h = let a = fits.0 in let b = fits.1 in cond_both (f.size == n) _ _ RangesFit (λ e. h) (λ e. ((omega arith, omega arith), h))

taken_fits : (fs : List Range) (n : ℕ) → RangesFit fs → RangesFit (taken_from fs n)
taken_fits [] n h = tt
taken_fits (f ∷ fs) n h = cond_both (nat_le n f.size) _ _ RangesFit (λ e. behind_fits f n fs h.0 (grind (arith, nat_tests)) h.1) (λ e. (h.0, taken_fits fs n h.1))

placed_fits : (r : Range) (xs : List Range) → RangeFits r → RangesFit xs → RangesFit (placed r xs)
placed_fits r [] fits h = (fits, tt)
placed_fits r (x ∷ xs) fits h = cond_both (nat_lt r.from x.from) _ _ RangesFit (λ e. (fits, h)) (λ e. (h.0, placed_fits r xs fits h.1))

without_fits : (bs : List Range) (a : ℕ) → RangesFit bs → RangesFit (without_block bs a)
without_fits [] a h = tt
without_fits (b ∷ bs) a h = cond_both (b.from == a) _ _ RangesFit (λ e. h.1) (λ e. (h.0, without_fits bs a h.1))

-- two ranges, the second behind the first, are one
as_one : (r f : Range) → RangeFits r → RangeFits f → (range_end r == f.from) ≡ true → RangeFits (record { from = r.from; size = r.size + f.size })
as_one r f fits also e = let a = fits.0 in let b = also.1 in let same : r.from + r.size ≡ f.from = grind (arith, nat_tests) in (a, omega arith)

joined_fits : (r : Range) (fs : List Range) → RangeFits r → RangesFit fs → RangesFit (joined_to r fs)
joined_fits r [] fits h = (fits, tt)
joined_fits r (f ∷ fs) fits h = cond_both (range_end r == f.from) _ _ RangesFit (λ e. (as_one r f fits h.0 e, h.1)) (λ e. (fits, h))

freed_fits : (b : Range) (fs : List Range) → RangeFits b → RangesFit fs → RangesFit (freed_into b fs)
freed_fits b [] fits h = (fits, tt)
freed_fits b (f ∷ fs) fits h = cond_both (nat_lt b.from f.from) _ _ RangesFit (λ e. joined_fits b (f ∷ fs) fits h)
    (λ e. cond_both (range_end f == b.from) _ _ RangesFit (λ d. joined_fits (record { from = f.from; size = f.size + b.size }) fs (as_one f b h.0 fits d) h.1) (λ d. (h.0, freed_fits b fs fits h.1)))

block_fits : (bs : List Range) (a : ℕ) (b : Range) → RangesFit bs → block_at bs a ≡ Some b → RangeFits b
block_fits [] a b h is = absurd cc
block_fits (x ∷ bs) a b h is = elim (x.from == a) as (λ t. (if t then Some x else block_at bs a) ≡ Some b → RangeFits b) [
  | true ↦ λ e. let same : x ≡ b = cc in subst (λ (r : Range). RangeFits r) same h.0
  | false ↦ λ e. block_fits bs a b h.1 e
] is

first_fits : (fs : List Range) (n : ℕ) (f : Range) → RangesFit fs → first_fit fs n ≡ Some f → RangeFits f × (n ≤ f.size)
first_fits [] n f h is = absurd cc
first_fits (x ∷ fs) n f h is = elim (nat_le n x.size) as (λ t. nat_le n x.size ≡ t → (if t then Some x else first_fit fs n) ≡ Some f → RangeFits f × (n ≤ f.size)) [
  | true ↦ λ d e. let same : x ≡ f = cc in subst (λ (r : Range). RangeFits r × (n ≤ r.size)) same (h.0, grind (arith, nat_tests))
  | false ↦ λ d e. first_fits fs n f h.1 e
] refl is

module _ (g : Guest) (h : GuestFits g) where
  given_fits : (R : Type 0) (n : ℕ) (o : Option Range) → first_fit g.heap.free n ≡ o → AnswerFits {R = R} (alloc_answer g (given_block g.heap n o))
  given_fits R n None is = (omega arith, record { free = h.free; live = h.live; input = h.input })
  given_fits R n (Some f) is =
      let fits = first_fits g.heap.free n f h.free is in
      let begins = fits.0.0 in
      let ends = fits.0.1 in
      let few = fits.1 in
      (omega arith, record { free = taken_fits g.heap.free n h.free; live = placed_fits (record { from = f.from; size = n }) g.heap.live (begins, omega arith) h.live; input = h.input })

  alloc_fits : (R : Type 0) (n : ℕ) → AnswerFits {R = R} (alloc_answer g (allocated g.heap n))
  unfolding allocated
  alloc_fits R n = cond_both (n == 0 || nat_le most_blocks (length g.heap.live)) _ _ (λ (p : ℕ × Heap). AnswerFits {R = R} (alloc_answer g p)) (λ e. (omega arith, record { free = h.free; live = h.live; input = h.input })) (λ e. given_fits R (rounded n) (first_fit g.heap.free (rounded n)) refl)

  free_by : (R : Type 0) (a : ℕ) (o : Option Range) → block_at g.heap.live a ≡ o → AnswerFits {R = R} (free_answer g (given_back g.heap a o))
  free_by R a None is = (omega arith, h)
  free_by R a (Some b) is = (omega arith, record { free = freed_fits b g.heap.free (block_fits g.heap.live a b h.live is) h.free; live = without_fits g.heap.live a h.live; input = h.input })

  free_fits : (R : Type 0) (a : ℕ) → AnswerFits {R = R} (free_answer g (freed g.heap a))
  unfolding freed
  free_fits R a = free_by R a (block_at g.heap.live a) refl

  get_fits : (R : Type 0) (input : List ℕ) → InputFits input → AnswerFits {R = R} (gotten g input)
  get_fits R [] fits = (omega arith, h)
  get_fits R (b ∷ rest) fits = let first = fits.0 in (omega arith, record { free = h.free; live = h.live; input = fits.1 })

  written_fits : {R : Type 0} (m : Bytes) (at size : ℕ) (o : Option R) → size < addresses → AnswerFits (written m at size g o)
  written_fits m at size None fits = (fits, record { free = h.free; live = h.live; input = h.input })
  written_fits m at size (Some why) fits = tt

  -- whatever is asked, with words
  pub served_fits : {R : Type 0} (service : Service) (m : Bytes) (judge : ℕ → ℕ → Option R) (rdi rsi rdx : ℕ) → rdx < addresses → AnswerFits (served m judge service rdi rsi rdx g)
  unfolding served
  served_fits {R} Write m judge rdi rsi rdx fits = cond_both (not (rdi == 1)) _ _ (λ (z : Served R). AnswerFits z) (λ e. (omega arith, h)) (λ e. cond_both (rdx == 0) _ _ (λ (z : Served R). AnswerFits z) (λ f. (omega arith, h)) (λ f. written_fits m rsi rdx (judge rsi rdx) fits))
  served_fits {R} Exit m judge rdi rsi rdx fits = tt
  served_fits {R} Alloc m judge rdi rsi rdx fits = alloc_fits R rdi
  served_fits {R} Free m judge rdi rsi rdx fits = free_fits R rdi
  served_fits {R} Print m judge rdi rsi rdx fits = (omega arith, record { free = h.free; live = h.live; input = h.input })
  served_fits {R} Put m judge rdi rsi rdx fits = (omega arith, record { free = h.free; live = h.live; input = h.input })
  served_fits {R} Get m judge rdi rsi rdx fits = get_fits R g.input h.input
  served_fits {R} StackOver m judge rdi rsi rdx fits = tt
  served_fits {R} NoService m judge rdi rsi rdx fits = (omega arith, h)

pub guest_starts : (input : List ℕ) → InputFits input → GuestFits (guest_with input)
guest_starts input fits = record { free = ((omega arith, omega arith), tt); live = tt; input = fits }
