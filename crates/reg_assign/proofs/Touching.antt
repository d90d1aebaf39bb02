-- Values that are touched one after another, and what one touch changes.
use Rattle.std.proofs.Common.{ℕ, suc, ◌+◌, ◌-◌, ◌≡◌, ◌≢◌, ◌<◌, refl, sym, ap, ◌∙◌, subst, List, [], ◌∷◌, ◌++◌, length, None, Some, zero, arith, true, false, nat_eq, slice_get, if◌then◌else◌, get_or, get_or-set_same, get_or-set_other}
use Rattle.std.proofs.lemmas.Bool.Decides.{nat_tests}
use Rattle.std.proofs.lemmas.List.{length-set}
use Rattle.std.proofs.lemmas.Option.{slice_get-get_or}
use Rattle.reg_assign.specs.declared.lives.LiveRange.{LiveRange}
use Rattle.reg_assign.specs.declared.lives.Lives.{Lives}
use Rattle.reg_assign.specs.Lives.{up_to, touched_at, touched, all_touched, from_on, range_in, from_of, past_of}

pub all_touched_append : (at : ℕ) (xs ys : List ℕ) (l : Lives) → all_touched at (xs ++ ys) l ≡ all_touched at ys (all_touched at xs l)
all_touched_append at [] ys l = refl
all_touched_append at (x ∷ xs) ys l = all_touched_append at xs ys (touched at x l)

pub from_on_next : (v count : ℕ) → v < count → from_on v (count - v) ≡ v ∷ from_on (v + 1) (count - (v + 1))
from_on_next v count lt = let e : count - v ≡ suc (count - (v + 1)) = omega arith in ap (from_on v) e

pub absent : {X : Type 0} (xs : List X) (i : ℕ) (d : X) → None ≡ slice_get xs i → d ≡ get_or xs i d
absent [] i d e = refl
absent (x ∷ xs) zero d e = cc
absent (x ∷ xs) (suc i) d e = absent xs i d e

-- ---- one touch

-- what a touch of a value changes
pub record Touch (at v : ℕ) (l m : Lives) : Type 0 where
  pub sized : length m.ranges ≡ length l.ranges
  pub other : (u : ℕ) → u ≢ v → range_in m.ranges u ≡ range_in l.ranges u
  pub past : past_of m v ≡ at + 1
  pub again : 0 < past_of l v → (from_of m v ≡ from_of l v) × (m.order ≡ l.order)
  pub fresh : past_of l v ≡ 0 → (from_of m v ≡ at) × (m.order ≡ l.order ++ v ∷ [])

touches_within : (at v : ℕ) (l : Lives) → v < length l.ranges → Touch at v l (touched_at at v (Some (range_in l.ranges v)) l)
touches_within at v l lt = let r = range_in l.ranges v in let same = get_or-set_same l.ranges v (up_to at r) record { from = 0; past = 0 } lt in record {
  sized = length-set l.ranges v (up_to at r);
  other = λ u ne. get_or-set_other l.ranges v u (up_to at r) record { from = 0; past = 0 } ne;
  past = ap (λ (x : LiveRange). x.past) same;
  again = λ some. let e : nat_eq r.past 0 ≡ false = grind (arith, nat_tests) in
      (ap (λ (x : LiveRange). x.from) same ∙ ap (λ b. if b then at else r.from) e, ap (λ b. if b then l.order ++ v ∷ [] else l.order) e);
  fresh = λ none. let e : nat_eq r.past 0 ≡ true = grind (arith, nat_tests) in
      (ap (λ (x : LiveRange). x.from) same ∙ ap (λ b. if b then at else r.from) e, ap (λ b. if b then l.order ++ v ∷ [] else l.order) e);
}

pub touches : (at v : ℕ) (l : Lives) → v < length l.ranges → Touch at v l (touched at v l)
touches at v l lt = subst (λ o. Touch at v l (touched_at at v o l)) (sym (slice_get-get_or l.ranges v record { from = 0; past = 0 } lt)) (touches_within at v l lt)
