-- The touched megabytes as a list with places.
use Rattle.std.proofs.Common.{◌≡◌, ℕ, suc, ◌<◌, true, false, ◌==◌, ◌||◌, List, [], ◌∷◌, ◌++◌, length, refl, ◌∙◌, sym, arith}
use Rattle.std.specs.Prelude.{slice_index}
use Rattle.std.specs.List.{list_any}
use Rattle.std.proofs.Math.ListN.{get_or-append}
use Rattle.std.proofs.Math.Seq.{get_or-append_seam}
use Rattle.std.proofs.lemmas.List.Folds.{list_any-append, list_any_at}
use Rattle.std.proofs.lemmas.Bool.Decides.{nat_tests}
use Rattle.mx_base.specs.BoundsStore.{BoundsStore}
use Rattle.obj_file.specs.Stored.{is_touched}
use Rattle.obj_file.specs.StoreLaw.{touched_at}

place_in : (ts : List ℕ) (m : ℕ) → list_any (λ t. t == m) ts ≡ true → (k : ℕ) × (k < length ts) × (slice_index ts k ≡ m)
place_in [] m e = absurd (cc)
place_in (t ∷ ts) m e = elim (t == m) as (λ b. (t == m) ≡ b → (b || list_any (λ t. t == m) ts) ≡ true → (k : ℕ) × (k < length (t ∷ ts)) × (slice_index (t ∷ ts) k ≡ m)) [
  | true ↦ λ h r. (0, omega arith, grind (arith, nat_tests))
  | false ↦ λ h r. let later = place_in ts m r in (suc later.0, omega (arith, later.1), later.2)
] refl e

-- a touched megabyte has a place
pub touched_place : (s : BoundsStore) (m : ℕ) → is_touched s m ≡ true → (k : ℕ) × (k < length s.touched) × (touched_at s k ≡ m)
unfolding is_touched
touched_place s m e = place_in s.touched m e

-- and what has a place is touched
pub placed_touched : (s : BoundsStore) (m k : ℕ) → k < length s.touched → touched_at s k ≡ m → is_touched s m ≡ true
unfolding is_touched
placed_touched s m k low e = list_any_at (λ t. t == m) s.touched k 0 low (grind (arith, nat_tests))

pub not_placed : (s : BoundsStore) (m k : ℕ) → is_touched s m ≡ false → k < length s.touched → touched_at s k ≡ m → ⊥
not_placed s m k none low e = let some = placed_touched s m k low e in absurd (cc)

-- ---- one more

pub place_before : (ts : List ℕ) (m k : ℕ) → k < length ts → slice_index (ts ++ m ∷ []) k ≡ slice_index ts k
place_before ts m k low = get_or-append ts (m ∷ []) 0 k low

pub place_last : (ts : List ℕ) (m : ℕ) → slice_index (ts ++ m ∷ []) (length ts) ≡ m
place_last ts m = get_or-append_seam ts m [] 0

pub any_more : (ts : List ℕ) (m n : ℕ) → list_any (λ t. t == n) (ts ++ m ∷ []) ≡ false → (list_any (λ t. t == n) ts ≡ false) × (m ≡ n → ⊥)
any_more ts m n none =
    let both : (list_any (λ t. t == n) ts || ((m == n) || false)) ≡ false = sym (list_any-append (λ t. t == n) ts (m ∷ [])) ∙ none in
    (grind (arith, nat_tests), λ e. grind (arith, nat_tests))
