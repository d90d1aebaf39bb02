-- Lists of broken rules that are empty.
use Rattle.std.proofs.Common.{◌≡◌, ℕ, ◌≤◌, refl, nat_lt, Bool, true, false, ◌||◌, List, [], ◌∷◌, ◌++◌, arith}
use Rattle.std.proofs.lemmas.Bool.Decides.{nat_tests}
use Rattle.mx_base.specs.declared.places.Place.{Place}
use Rattle.c_check_typing.specs.declared.fault.CheckKind.{CheckKind}
use Rattle.c_check_typing.specs.Refusals.{breaks, all_at}

pub first_empty : {X : Type 0} (xs ys : List X) → xs ++ ys ≡ [] → xs ≡ []
first_empty [] ys h = refl
first_empty (x ∷ xs) ys h = cc

pub second_empty : {X : Type 0} (xs ys : List X) → xs ++ ys ≡ [] → ys ≡ []
second_empty [] ys h = h
second_empty (x ∷ xs) ys h = cc

pub none_at : (place : Place) (kinds : List CheckKind) → all_at place kinds ≡ [] → kinds ≡ []
none_at place [] h = refl
none_at place (k ∷ ks) h = cc

pub not_broken : (kind : CheckKind) (b : Bool) → breaks kind b ≡ [] → b ≡ false
not_broken kind true h = cc
not_broken kind false h = refl

pub neither : (a b : Bool) → (a || b) ≡ false → (a ≡ false) × (b ≡ false)
neither true b h = cc
neither false b h = (refl, h)

pub not_above : (n m : ℕ) → nat_lt n m ≡ false → m ≤ n
not_above n m h = grind (arith, nat_tests)
