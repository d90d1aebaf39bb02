-- Where parts of alike objects stand.
use Rattle.std.proofs.Common.{◌≡◌, refl, sym, ap, ◌∙◌, ℕ, zero, suc, ◌+◌, Bool, true, false, true≢false, if◌then◌else◌, Some, List, [], ◌∷◌, length, slice_get}
use Rattle.std.specs.Option.{unwrap_or}
use Rattle.obj_file.specs.declared.object.Object.{Object}
use Rattle.obj_linker.specs.declared.parts.Ends.{Ends}
use Rattle.obj_linker.specs.declared.parts.Spot.{Spot}
use Rattle.obj_linker.specs.Placement.{aligned, starts, ends_after, spots_after, no_spot, plan_of, spot_of}
use Rattle.linked_laws.specs.Alike.{IsAlike, AreAlike}

abbrev pub spot_at : List Spot → ℕ → Spot
spot_at spots k = unwrap_or (slice_get spots k) no_spot

-- the same ends of legacy code and of data
pub record SameEnds (x y : Ends) : Type 0 where
  pub legacy : y.legacy ≡ x.legacy
  pub stored : y.stored ≡ x.stored

next_ends : (o p : Object) (x y : Ends) → IsAlike o p → SameEnds x y → SameEnds (ends_after x o) (ends_after y p)
next_ends o p x y alike same = record {
  legacy = by o.legacy p.legacy refl alike.legacy;
  stored = (λ i. aligned 16 (same.stored i) + alike.stored i);
}
  where
    by : (a b : Bool) → o.legacy ≡ a → b ≡ a
        → (if b then aligned 16 (if b then y.legacy else y.code) + length p.code else y.legacy) ≡ (if a then aligned 16 (if a then x.legacy else x.code) + length o.code else x.legacy)
    by true true is e = (λ i. aligned 16 (same.legacy i) + alike.code is i)
    by true false is e = absurd (true≢false (sym e))
    by false true is e = absurd (true≢false e)
    by false false is e = same.legacy

pub stored_same : (os ps : List Object) (x y : Ends) → AreAlike os ps → SameEnds x y → (k : ℕ) → (spot_at (spots_after y ps) k).stored ≡ (spot_at (spots_after x os) k).stored
stored_same [] [] x y alike same k = refl
stored_same [] (p ∷ ps) x y alike same k = absurd alike
stored_same (o ∷ os) [] x y alike same k = absurd alike
stored_same (o ∷ os) (p ∷ ps) x y alike same zero = ap (aligned 16) same.stored
stored_same (o ∷ os) (p ∷ ps) x y alike same (suc k) = stored_same os ps (ends_after x o) (ends_after y p) alike.1 (next_ends o p x y alike.0 same) k

pub legacy_same : (os ps : List Object) (x y : Ends) → AreAlike os ps → SameEnds x y → (k : ℕ) (o : Object) → slice_get os k ≡ Some o → o.legacy ≡ true
    → (spot_at (spots_after y ps) k).code ≡ (spot_at (spots_after x os) k).code
legacy_same [] ps x y alike same k o h is = cc
legacy_same (a ∷ os) [] x y alike same k o h is = absurd alike
legacy_same (a ∷ os) (p ∷ ps) x y alike same zero o h is =
    let one : a ≡ o = cc in
    let yes : a.legacy ≡ true = ap (λ (z : Object). z.legacy) one ∙ is in
    ap (λ b. aligned 16 (if b then y.legacy else y.code)) (alike.0.legacy ∙ yes) ∙ (ap (aligned 16) same.legacy ∙ sym (ap (λ b. aligned 16 (if b then x.legacy else x.code)) yes))
legacy_same (a ∷ os) (p ∷ ps) x y alike same (suc k) o h is = legacy_same os ps (ends_after x a) (ends_after y p) alike.1 (next_ends a p x y alike.0 same) k o h is

at_starts : SameEnds starts starts
at_starts = record { legacy = refl; stored = refl }

pub stored_stay : (os ps : List Object) → AreAlike os ps → (k : ℕ) → (spot_of (plan_of ps) k).stored ≡ (spot_of (plan_of os) k).stored
stored_stay os ps alike k = stored_same os ps starts starts alike at_starts k

pub legacy_stays : (os ps : List Object) → AreAlike os ps → (k : ℕ) (o : Object) → slice_get os k ≡ Some o → o.legacy ≡ true
    → (spot_of (plan_of ps) k).code ≡ (spot_of (plan_of os) k).code
legacy_stays os ps alike k o h is = legacy_same os ps starts starts alike at_starts k o h is
