-- A value gets its place in the lists of places.
use Rattle.std.proofs.Common.{ℕ, zero, suc, replicate, ◌+◌, ◌≡◌, ◌≢◌, ◌<◌, refl, sym, ap, ◌∙◌, subst, List, length, arith, get_or, Bool, true, false, slice_index_or, slice_set, get_or-set_same, get_or-set_other}
use mathlib.Core.Bool.{beq, not}
use Rattle.std.proofs.lemmas.Bool.{true≢false, false≢true}
use Rattle.std.proofs.lemmas.List.{length-set, length-replicate}
use Rattle.fat_ir.specs.declared.program.FatFun.{FatFun}
use Rattle.fat_ir.specs.Spans.{IsAssignable}
use Rattle.reg_assign.specs.declared.lives.LiveRange.{LiveRange}
use Rattle.reg_assign.specs.declared.lives.Lives.{Lives}
use Rattle.reg_assign.specs.Lives.{range_in, from_of}
use Rattle.reg_assign.specs.Noise.{counts_from, quiet_by}
use Rattle.reg_assign.specs.Ranges.{AreSpans}
use Rattle.reg_assign.specs.Places.{IsPick, is_quiet, ArePlaced}
use Rattle.reg_assign.specs.Wishing.{IsWish, MayWish, StandAhead}
use Rattle.reg_assign.proofs.Placing.{Placed, none_placed, all_placed, fits, one_more, other_kind}

pub kind_is : (a b : Bool) → not (beq a b) ≡ false → a ≡ b
kind_is true true e = refl
kind_is true false e = absurd (true≢false e)
kind_is false true e = absurd (true≢false e)
kind_is false false e = refl

pub kind_differs : (a b : Bool) → not (beq a b) ≡ true → a ≡ b → ⊥
kind_differs true true e h = false≢true e
kind_differs true false e h = true≢false h
kind_differs false true e h = false≢true h
kind_differs false false e h = false≢true e

-- the lists of places while they are given
pub record Given (f : FatFun) (l : Lives) (sort : Bool) (registers : ℕ) (wishes : List ℕ) (k : ℕ) (until places : List ℕ) : Type 0 where
  pub until_length : length until ≡ registers + 152
  pub places_length : length places ≡ length f.bounds
  pub placed : Placed f l sort registers wishes k (λ c. get_or until c 0) (λ v. get_or places v 0)

module _ (f : FatFun) (l : Lives) (sort : Bool) (registers : ℕ) (wishes : List ℕ) (can : IsAssignable f) (are : AreSpans f l) (may : MayWish f sort registers wishes) (ahead : StandAhead f l sort wishes) (k : ℕ) (short : k < length l.order) (until places : List ℕ) (given : Given f l sort registers wishes k until places) (v : ℕ) (this : v ≡ get_or l.order k 0) where
  pub skipped : (slice_index_or f.bounds v false ≡ sort → ⊥) → Given f l sort registers wishes (k + 1) until places
  skipped other = record {
    until_length = given.until_length;
    places_length = given.places_length;
    placed = other_kind f l sort registers wishes can are may ahead k short (λ c. get_or until c 0) (λ u. get_or places u 0) given.placed (subst (λ x. slice_index_or f.bounds x false ≡ sort → ⊥) this other);
  }

  module _ (mine : slice_index_or f.bounds v false ≡ sort) (items counts : List ℕ) (r : LiveRange) (quiet : Bool) (wished chosen : ℕ) (wish : IsWish wishes v wished) (same : items ≡ until) (counted : counts ≡ counts_from 0 f.steps) (ranged : r ≡ range_in l.ranges v) (tested : quiet ≡ quiet_by counts r)
      (pick : IsPick (λ c. get_or items c 0) (length items) r.from quiet wished registers chosen) where
    w : ℕ
    w = get_or l.order k 0

    is_mine : slice_index_or f.bounds w false ≡ sort
    unfolding w
    is_mine = subst (λ x. slice_index_or f.bounds x false ≡ sort) this mine

    range_is : r ≡ range_in l.ranges w
    unfolding w
    range_is = ranged ∙ ap (range_in l.ranges) this

    quiet_is : quiet ≡ is_quiet f l w
    quiet_is = tested ∙ (ap (λ cs. quiet_by cs r) counted ∙ ap (quiet_by (counts_from 0 f.steps)) range_is)

    wish_is : IsWish wishes w wished
    unfolding w
    wish_is = subst (λ x. IsWish wishes x wished) this wish

    picked : IsPick (λ c. get_or until c 0) (registers + 152) (from_of l w) (is_quiet f l w) wished registers chosen
    picked = subst (λ n. IsPick (λ c. get_or until c 0) n (from_of l w) (is_quiet f l w) wished registers chosen) given.until_length
        (subst (λ q. IsPick (λ c. get_or until c 0) (length until) (from_of l w) q wished registers chosen) quiet_is
        (subst (λ x. IsPick (λ c. get_or until c 0) (length until) x.from quiet wished registers chosen) range_is
        (subst (λ xs. IsPick (λ c. get_or xs c 0) (length xs) r.from quiet wished registers chosen) same pick)))

    fits_total : chosen < registers + 152
    unfolding w
    fits_total = fits f l sort registers wishes can are may ahead k short (λ c. get_or until c 0) (λ u. get_or places u 0) given.placed is_mine wished wish_is chosen picked

    pub chosen_fits : chosen < length until
    chosen_fits = let a = fits_total in let e = given.until_length in omega arith

    pub value_fits : v < length places
    value_fits = let a = are.within (get_or l.order k 0) (are.listed k short) in let e = given.places_length in let t = this in omega arith

    pub given_more : Given f l sort registers wishes (k + 1) (slice_set until chosen r.past) (slice_set places v chosen)
    unfolding w
    given_more = record {
      until_length = length-set until chosen r.past ∙ given.until_length;
      places_length = length-set places v chosen ∙ given.places_length;
      placed = one_more f l sort registers wishes can are may ahead k short (λ c. get_or until c 0) (λ u. get_or places u 0) given.placed is_mine wished wish_is chosen picked
          (λ c. get_or (slice_set until chosen r.past) c 0) (λ u. get_or (slice_set places v chosen) u 0)
          (subst (λ x. get_or (slice_set places v chosen) x 0 ≡ chosen) this (get_or-set_same places v chosen 0 value_fits))
          (λ u ne. get_or-set_other places v u chosen 0 (subst (λ x. u ≢ x) (sym this) ne))
          (get_or-set_same until chosen r.past 0 chosen_fits ∙ ap (λ (x : LiveRange). x.past) range_is)
          (λ c ne. get_or-set_other until chosen c r.past 0 ne);
    }

abbrev zeros : ℕ → List ℕ
zeros n = replicate n 0

zero_there : (n i : ℕ) → get_or (zeros n) i 0 ≡ 0
zero_there zero i = refl
zero_there (suc n) zero = refl
zero_there (suc n) (suc i) = zero_there n i

pub given_none : (f : FatFun) (l : Lives) (sort : Bool) (registers : ℕ) (wishes until places : List ℕ) → until ≡ replicate (registers + 152) 0 → places ≡ replicate (length f.bounds) 0 → Given f l sort registers wishes 0 until places
given_none f l sort registers wishes until places e g = record {
  until_length = ap length e ∙ length-replicate (registers + 152) 0;
  places_length = ap length g ∙ length-replicate (length f.bounds) 0;
  placed = none_placed f l sort registers wishes (λ c. get_or until c 0) (λ v. get_or places v 0) (λ c. ap (λ xs. get_or xs c 0) e ∙ zero_there (registers + 152) c) (λ v. ap (λ xs. get_or xs v 0) g ∙ zero_there (length f.bounds) v);
}

pub placed_all : (f : FatFun) (l : Lives) (sort : Bool) (registers : ℕ) (wishes : List ℕ) (k : ℕ) (until places : List ℕ) → k ≡ length l.order → IsAssignable f → AreSpans f l
    → MayWish f sort registers wishes → StandAhead f l sort wishes → Given f l sort registers wishes k until places
    → ArePlaced f l sort registers wishes (λ v. get_or places v 0)
placed_all f l sort registers wishes k until places e can are may ahead given = all_placed f l sort registers wishes can are may ahead (λ c. get_or until c 0) (λ v. get_or places v 0)
    (subst (λ n. Placed f l sort registers wishes n (λ c. get_or until c 0) (λ v. get_or places v 0)) e given.placed)
