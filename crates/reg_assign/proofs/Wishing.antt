-- Lists of values that wish, put together.
use Rattle.std.proofs.Common.{ℕ, zero, suc, ◌≡◌, ◌<◌, ◌⊎◌, inl, inr, refl, ◌∙◌, List, [], ◌∷◌, ◌++◌, length, arith, get_or}
use Rattle.std.specs.List.{Contains}
use Rattle.reg_assign.specs.Wishing.{WishesFor, IsWishing}

from_front : (x v : ℕ) (xs : List ℕ) → IsWishing xs v → IsWishing (x ∷ xs) v
from_front x v xs w = record { place = suc w.place; wishes = (let a = w.wishes.0 in omega arith, w.wishes.1) }

wishing_either : (xs ys : List ℕ) (v place : ℕ) → WishesFor (xs ++ ys) v place → IsWishing xs v ⊎ IsWishing ys v
wishing_either [] ys v place w = inr (record { place = place; wishes = w })
wishing_either (x ∷ xs) ys v zero w = inl (record { place = zero; wishes = (omega arith, w.1) })
wishing_either (x ∷ xs) ys v (suc place) w = elim (wishing_either xs ys v place (let a = w.0 in omega arith, w.1)) [
  | inl h ↦ inl (from_front x v xs h)
  | inr h ↦ inr h
]

pub wishing_one : (xs ys : List ℕ) (v : ℕ) → IsWishing (xs ++ ys) v → IsWishing xs v ⊎ IsWishing ys v
wishing_one xs ys v w = wishing_either xs ys v w.place w.wishes

pub wishing_right : (xs ys : List ℕ) (v : ℕ) → IsWishing ys v → IsWishing (xs ++ ys) v
wishing_right [] ys v w = w
wishing_right (x ∷ xs) ys v w = from_front x v (xs ++ ys) (wishing_right xs ys v w)

wishing_in_front : (xs ys : List ℕ) (v place : ℕ) → WishesFor xs v place → IsWishing (xs ++ ys) v
wishing_in_front [] ys v place w = absurd (let a = w.0 in omega arith)
wishing_in_front (x ∷ xs) ys v zero w = record { place = zero; wishes = (omega arith, w.1) }
wishing_in_front (x ∷ xs) ys v (suc place) w = from_front x v (xs ++ ys) (wishing_in_front xs ys v place (let a = w.0 in omega arith, w.1))

pub wishing_left : (xs ys : List ℕ) (v : ℕ) → IsWishing xs v → IsWishing (xs ++ ys) v
wishing_left xs ys v w = wishing_in_front xs ys v w.place w.wishes

get_or_any : (xs : List ℕ) (i d e : ℕ) → i < length xs → get_or xs i d ≡ get_or xs i e
get_or_any [] i d e lt = absurd (omega arith)
get_or_any (x ∷ xs) zero d e lt = refl
get_or_any (x ∷ xs) (suc i) d e lt = get_or_any xs i d e (omega arith)

pub wishing_contained : (xs : List ℕ) (v : ℕ) → IsWishing xs v → Contains xs v
wishing_contained xs v w = (w.place, w.wishes.0, get_or_any xs w.place v 0 w.wishes.0 ∙ w.wishes.1)

pub wishing_at : (xs : List ℕ) (i d : ℕ) → i < length xs → IsWishing xs (get_or xs i d)
wishing_at xs i d lt = record { place = i; wishes = (lt, get_or_any xs i 0 d lt) }
