-- Bytes that were read as a signed number are its low bytes, and it fits their field.
use Rattle.std.proofs.Common.{◌≡◌, ◌≤◌, ◌<◌, ◌+◌, ◌-◌, ◌*◌, ◌/◌, ◌%◌, ◌^◌, true, ℕ, arith, pos, List, [], ◌∷◌, length, ap, inl, inr}
use Rattle.std.specs.Prelude.{◌⊎◌}
use Rattle.std.specs.Int.{cast_signed, cast_unsigned, w8, w16, w32, w64}
use Rattle.std.specs.List.{All}
use Rattle.std.proofs.lemmas.Bool.{cases_lt, lt-ltb, le-ltb}
use Rattle.std.proofs.lemmas.Grind.{common_steps}
use Rattle.std.proofs.lemmas.Int.{ints}
use Rattle.x86_forms.specs.Fits.{fits_8, fits_16, fits_32, fits_64}
use Rattle.x86_forms.specs.Spelling.{low_bytes}

-- the bits of 64 of a number that is seen as signed in fewer
wide_8 : (n : ℕ) → n < 2 ^ 8 → (cast_unsigned w64 (cast_signed w8 n) ≡ 0 * 2 ^ 8 + n) ⊎ (cast_unsigned w64 (cast_signed w8 n) ≡ (2 ^ 56 - 1) * 2 ^ 8 + n)
wide_8 n h = at (cases_lt n (2 ^ 7))
  where
    at : (n < 2 ^ 7) ⊎ (2 ^ 7 ≤ n) → (cast_unsigned w64 (cast_signed w8 n) ≡ 0 * 2 ^ 8 + n) ⊎ (cast_unsigned w64 (cast_signed w8 n) ≡ (2 ^ 56 - 1) * 2 ^ 8 + n)
    at (inl k) = let e = lt-ltb n (2 ^ 7) k in inl (rw e (omega arith))
    at (inr k) = let e = le-ltb n (2 ^ 7) k in inr (rw e (omega arith))

wide_16 : (n : ℕ) → n < 2 ^ 16 → (cast_unsigned w64 (cast_signed w16 n) ≡ 0 * 2 ^ 16 + n) ⊎ (cast_unsigned w64 (cast_signed w16 n) ≡ (2 ^ 48 - 1) * 2 ^ 16 + n)
wide_16 n h = at (cases_lt n (2 ^ 15))
  where
    at : (n < 2 ^ 15) ⊎ (2 ^ 15 ≤ n) → (cast_unsigned w64 (cast_signed w16 n) ≡ 0 * 2 ^ 16 + n) ⊎ (cast_unsigned w64 (cast_signed w16 n) ≡ (2 ^ 48 - 1) * 2 ^ 16 + n)
    at (inl k) = let e = lt-ltb n (2 ^ 15) k in inl (rw e (omega arith))
    at (inr k) = let e = le-ltb n (2 ^ 15) k in inr (rw e (omega arith))

wide_32 : (n : ℕ) → n < 2 ^ 32 → (cast_unsigned w64 (cast_signed w32 n) ≡ 0 * 2 ^ 32 + n) ⊎ (cast_unsigned w64 (cast_signed w32 n) ≡ (2 ^ 32 - 1) * 2 ^ 32 + n)
wide_32 n h = at (cases_lt n (2 ^ 31))
  where
    at : (n < 2 ^ 31) ⊎ (2 ^ 31 ≤ n) → (cast_unsigned w64 (cast_signed w32 n) ≡ 0 * 2 ^ 32 + n) ⊎ (cast_unsigned w64 (cast_signed w32 n) ≡ (2 ^ 32 - 1) * 2 ^ 32 + n)
    at (inl k) = let e = lt-ltb n (2 ^ 31) k in inl (rw e (omega arith))
    at (inr k) = let e = le-ltb n (2 ^ 31) k in inr (rw e (omega arith))

-- one byte
pub low_bytes_8 : (a : ℕ) → a < 256 → low_bytes 1 (cast_signed w8 a) ≡ a ∷ []
unfolding low_bytes
low_bytes_8 a h = by_wide (wide_8 a h)
  where
    by_wide : (cast_unsigned w64 (cast_signed w8 a) ≡ 0 * 2 ^ 8 + a) ⊎ (cast_unsigned w64 (cast_signed w8 a) ≡ (2 ^ 56 - 1) * 2 ^ 8 + a) → low_bytes 1 (cast_signed w8 a) ≡ a ∷ []
    by_wide (inl e) = rw e (ap (λ x. x ∷ []) (omega arith))
    by_wide (inr e) = rw e (ap (λ x. x ∷ []) (omega arith))

pub fits_8-cast : (a : ℕ) → a < 256 → fits_8 (cast_signed w8 a) ≡ true
fits_8-cast a h = at (cases_lt a (2 ^ 7))
  where
    at : (a < 2 ^ 7) ⊎ (2 ^ 7 ≤ a) → fits_8 (cast_signed w8 a) ≡ true
    at (inl k) = let e = lt-ltb a (2 ^ 7) k in rw e (lt-ltb _ _ (omega arith))
    at (inr k) = let e = le-ltb a (2 ^ 7) k in rw e (lt-ltb _ _ (omega arith))

pub low_bytes_count : (a : ℕ) → a < 256 → low_bytes 1 (pos a) ≡ a ∷ []
unfolding low_bytes
low_bytes_count a h = ap (λ x. x ∷ []) (grind (arith, ints, common_steps))

-- two
pub low_bytes_16 : (a b : ℕ) → a < 256 → b < 256 → low_bytes 2 (cast_signed w16 (a + b * 256)) ≡ a ∷ b ∷ []
unfolding low_bytes
low_bytes_16 a b ha hb = by_wide (wide_16 (a + b * 256) (omega arith))
  where
    cells : (x y : ℕ) → x ≡ a → y ≡ b → x ∷ y ∷ [] ≡ a ∷ b ∷ []
    cells x y p q = cc

    by_wide : (cast_unsigned w64 (cast_signed w16 (a + b * 256)) ≡ 0 * 2 ^ 16 + (a + b * 256)) ⊎ (cast_unsigned w64 (cast_signed w16 (a + b * 256)) ≡ (2 ^ 48 - 1) * 2 ^ 16 + (a + b * 256)) → low_bytes 2 (cast_signed w16 (a + b * 256)) ≡ a ∷ b ∷ []
    by_wide (inl e) = rw e (cells _ _ (omega arith) (omega arith))
    by_wide (inr e) = rw e (cells _ _ (omega arith) (omega arith))

pub fits_16-cast : (n : ℕ) → n < 2 ^ 16 → fits_16 (cast_signed w16 n) ≡ true
fits_16-cast n h = at (cases_lt n (2 ^ 15))
  where
    at : (n < 2 ^ 15) ⊎ (2 ^ 15 ≤ n) → fits_16 (cast_signed w16 n) ≡ true
    at (inl k) = let e = lt-ltb n (2 ^ 15) k in rw e (lt-ltb _ _ (omega arith))
    at (inr k) = let e = le-ltb n (2 ^ 15) k in rw e (lt-ltb _ _ (omega arith))

-- four
four_of : (k a b c d : ℕ) → a < 256 → b < 256 → c < 256 → d < 256
    → let n : ℕ = k * 4294967296 + (a + b * 256 + c * 65536 + d * 16777216) in (n % 256 ≡ a) × (n / 256 % 256 ≡ b) × (n / 65536 % 256 ≡ c) × (n / 16777216 % 256 ≡ d)
four_of k a b c d ha hb hc hd = (omega arith, omega arith, omega arith, omega arith)

cells_4 : (x y z w a b c d : ℕ) → x ≡ a → y ≡ b → z ≡ c → w ≡ d → x ∷ y ∷ z ∷ w ∷ [] ≡ a ∷ b ∷ c ∷ d ∷ []
cells_4 x y z w a b c d p q r s = cc

pub low_bytes_32 : (a b c d : ℕ) → a < 256 → b < 256 → c < 256 → d < 256 → low_bytes 4 (cast_signed w32 (a + b * 256 + c * 65536 + d * 16777216)) ≡ a ∷ b ∷ c ∷ d ∷ []
unfolding low_bytes
low_bytes_32 a b c d ha hb hc hd = by_wide (wide_32 (a + b * 256 + c * 65536 + d * 16777216) (omega arith))
  where
    by_wide : (cast_unsigned w64 (cast_signed w32 (a + b * 256 + c * 65536 + d * 16777216)) ≡ 0 * 2 ^ 32 + (a + b * 256 + c * 65536 + d * 16777216)) ⊎ (cast_unsigned w64 (cast_signed w32 (a + b * 256 + c * 65536 + d * 16777216)) ≡ (2 ^ 32 - 1) * 2 ^ 32 + (a + b * 256 + c * 65536 + d * 16777216))
        → low_bytes 4 (cast_signed w32 (a + b * 256 + c * 65536 + d * 16777216)) ≡ a ∷ b ∷ c ∷ d ∷ []
    by_wide (inl e) = let f = four_of 0 a b c d ha hb hc hd in rw e (cells_4 _ _ _ _ _ _ _ _ f.0 f.1 f.2 f.3)
    by_wide (inr e) = let f = four_of (2 ^ 32 - 1) a b c d ha hb hc hd in rw e (cells_4 _ _ _ _ _ _ _ _ f.0 f.1 f.2 f.3)

pub fits_32-cast : (n : ℕ) → n < 2 ^ 32 → fits_32 (cast_signed w32 n) ≡ true
fits_32-cast n h = at (cases_lt n (2 ^ 31))
  where
    at : (n < 2 ^ 31) ⊎ (2 ^ 31 ≤ n) → fits_32 (cast_signed w32 n) ≡ true
    at (inl k) = let e = lt-ltb n (2 ^ 31) k in rw e (lt-ltb _ _ (omega arith))
    at (inr k) = let e = le-ltb n (2 ^ 31) k in rw e (lt-ltb _ _ (omega arith))

-- eight
pub fits_64-cast : (n : ℕ) → n < 2 ^ 64 → fits_64 (cast_signed w64 n) ≡ true
fits_64-cast n h = at (cases_lt n (2 ^ 63))
  where
    at : (n < 2 ^ 63) ⊎ (2 ^ 63 ≤ n) → fits_64 (cast_signed w64 n) ≡ true
    at (inl k) = let e = lt-ltb n (2 ^ 63) k in rw e (lt-ltb _ _ (omega arith))
    at (inr k) = let e = le-ltb n (2 ^ 63) k in rw e (lt-ltb _ _ (omega arith))

pub unsigned_back : (n : ℕ) → n < 2 ^ 64 → cast_unsigned w64 (cast_signed w64 n) ≡ n
unsigned_back n h = at (cases_lt n (2 ^ 63))
  where
    at : (n < 2 ^ 63) ⊎ (2 ^ 63 ≤ n) → cast_unsigned w64 (cast_signed w64 n) ≡ n
    at (inl k) = let e = lt-ltb n (2 ^ 63) k in rw e (omega arith)
    at (inr k) = let e = le-ltb n (2 ^ 63) k in rw e (omega arith)

-- a list of as many bytes, taken apart
pub cells_of_4 : (P : List ℕ → Type 0) → ((a b c d : ℕ) → a < 256 → b < 256 → c < 256 → d < 256 → P (a ∷ b ∷ c ∷ d ∷ [])) → (xs : List ℕ) → length xs ≡ 4 → All (λ b. b < 256) xs → P xs
cells_of_4 P f [] l h = absurd (omega arith)
cells_of_4 P f (a ∷ []) l h = absurd (omega arith)
cells_of_4 P f (a ∷ b ∷ []) l h = absurd (omega arith)
cells_of_4 P f (a ∷ b ∷ c ∷ []) l h = absurd (omega arith)
cells_of_4 P f (a ∷ b ∷ c ∷ d ∷ []) l h = f a b c d (h 0 0 (omega arith)) (h 1 0 (omega arith)) (h 2 0 (omega arith)) (h 3 0 (omega arith))
cells_of_4 P f (a ∷ b ∷ c ∷ d ∷ e ∷ xs) l h = absurd (omega arith)

pub cells_of_8 : (P : List ℕ → Type 0) → ((a b c d e f g i : ℕ) → a < 256 → b < 256 → c < 256 → d < 256 → e < 256 → f < 256 → g < 256 → i < 256 → P (a ∷ b ∷ c ∷ d ∷ e ∷ f ∷ g ∷ i ∷ []))
    → (xs : List ℕ) → length xs ≡ 8 → All (λ b. b < 256) xs → P xs
cells_of_8 P q [] l h = absurd (omega arith)
cells_of_8 P q (a ∷ []) l h = absurd (omega arith)
cells_of_8 P q (a ∷ b ∷ []) l h = absurd (omega arith)
cells_of_8 P q (a ∷ b ∷ c ∷ []) l h = absurd (omega arith)
cells_of_8 P q (a ∷ b ∷ c ∷ d ∷ []) l h = absurd (omega arith)
cells_of_8 P q (a ∷ b ∷ c ∷ d ∷ e ∷ []) l h = absurd (omega arith)
cells_of_8 P q (a ∷ b ∷ c ∷ d ∷ e ∷ f ∷ []) l h = absurd (omega arith)
cells_of_8 P q (a ∷ b ∷ c ∷ d ∷ e ∷ f ∷ g ∷ []) l h = absurd (omega arith)
cells_of_8 P q (a ∷ b ∷ c ∷ d ∷ e ∷ f ∷ g ∷ i ∷ []) l h = q a b c d e f g i (h 0 0 (omega arith)) (h 1 0 (omega arith)) (h 2 0 (omega arith)) (h 3 0 (omega arith)) (h 4 0 (omega arith)) (h 5 0 (omega arith)) (h 6 0 (omega arith)) (h 7 0 (omega arith))
cells_of_8 P q (a ∷ b ∷ c ∷ d ∷ e ∷ f ∷ g ∷ i ∷ j ∷ xs) l h = absurd (omega arith)
