-- An immediate that was read is spelled by its bytes, and fits its field.
use Rattle.std.proofs.Common.{◌≡◌, ◌<◌, ◌+◌, ◌*◌, ◌^◌, true, false, Bool, ℕ, zero, suc, arith, ℤ, pos, refl, List, [], ◌∷◌, length, get_or, take, sym, subst, ◌∙◌}
use Rattle.std.specs.Prelude.{slice_index}
use Rattle.std.specs.Int.{from_le_bytes, w64}
use Rattle.std.specs.List.{All}
use Rattle.std.proofs.Math.Seq.{take-length}
use Rattle.std.proofs.lemmas.Bool.{lt-ltb}
use Rattle.std.proofs.lemmas.Nat.{le_bytes_8}
use Rattle.x86_forms.specs.Fits.{fits_8, fits_16, fits_32, fits_64, fits_count}
use Rattle.x86_forms.specs.Spelling.{low_bytes}
use Rattle.x86_decode.specs.declared.rows.Row.{Row}
use Rattle.x86_decode.specs.declared.rows.Row.TheVariants.{MovMem, MovImm, AluImm, ShiftImm, CallRel, JmpRel, Jcc}
use Rattle.x86_decode.specs.Rows.{imm_len}
use Rattle.x86_decode.specs.Steps.{signed, imm_value, rel_value}
use Rattle.x86_decode.proofs.Builds.{imm_fits}
use Rattle.x86_decode.proofs.Cases.{width_cases, word_cases}
use Rattle.x86_decode.proofs.Keys.{row_ok}
use Rattle.x86_decode.proofs.NumberBytes.{low_bytes_8, fits_8-cast, low_bytes_count, low_bytes_16, fits_16-cast, low_bytes_32, fits_32-cast, fits_64-cast, unsigned_back, cells_of_8}

abbrev AreBytes : List ℕ → Type 0
AreBytes xs = All (λ b. b < 256) xs

pub record Back (n : ℕ) (z : ℤ) (fits : Bool) (xs : List ℕ) : Type 0 where
  pub fits_field : fits ≡ true
  pub bytes : low_bytes n z ≡ take n xs

signed_1 : (xs : List ℕ) → length xs ≡ 8 → AreBytes xs → Back 1 (signed 1 xs) (fits_8 (signed 1 xs)) xs
unfolding signed
signed_1 xs l h = cells_of_8 (λ xs. Back 1 (signed 1 xs) (fits_8 (signed 1 xs)) xs) (λ a b c d e f g i ha hb hc hd he hf hg hi. record { fits_field = fits_8-cast a ha; bytes = low_bytes_8 a ha }) xs l h

count_1 : (xs : List ℕ) → length xs ≡ 8 → AreBytes xs → Back 1 (pos (slice_index xs 0)) (fits_count (pos (slice_index xs 0))) xs
count_1 xs l h = cells_of_8 (λ xs. Back 1 (pos (slice_index xs 0)) (fits_count (pos (slice_index xs 0))) xs) (λ a b c d e f g i ha hb hc hd he hf hg hi. record { fits_field = lt-ltb _ _ ha; bytes = low_bytes_count a ha }) xs l h

signed_2 : (xs : List ℕ) → length xs ≡ 8 → AreBytes xs → Back 2 (signed 2 xs) (fits_16 (signed 2 xs)) xs
unfolding signed
signed_2 xs l h = cells_of_8 (λ xs. Back 2 (signed 2 xs) (fits_16 (signed 2 xs)) xs) (λ a b c d e f g i ha hb hc hd he hf hg hi. record { fits_field = fits_16-cast (a + b * 256) (omega arith); bytes = low_bytes_16 a b ha hb }) xs l h

rel_4 : (xs : List ℕ) → length xs ≡ 8 → AreBytes xs → Back 4 (rel_value xs) (fits_32 (rel_value xs)) xs
rel_4 xs l h =
    cells_of_8 (λ xs. Back 4 (rel_value xs) (fits_32 (rel_value xs)) xs)
    (λ a b c d e f g i ha hb hc hd he hf hg hi. record { fits_field = fits_32-cast (a + b * 256 + c * 65536 + d * 16777216) (omega arith); bytes = low_bytes_32 a b c d ha hb hc hd }) xs l h

signed_4 : (xs : List ℕ) → length xs ≡ 8 → AreBytes xs → Back 4 (signed 4 xs) (fits_32 (signed 4 xs)) xs
unfolding signed
signed_4 xs l h = rel_4 xs l h

below_64 : (xs : List ℕ) → length xs ≡ 8 → AreBytes xs → from_le_bytes w64 xs < 2 ^ 64
below_64 xs l h = cells_of_8 (λ xs. from_le_bytes w64 xs < 2 ^ 64) (λ a b c d e f g i ha hb hc hd he hf hg hi. omega arith) xs l h

bytes_of_get : (xs : List ℕ) → AreBytes xs → (i : ℕ) → get_or xs i 0 < 256
bytes_of_get [] h i = omega arith
bytes_of_get (x ∷ xs) h zero = h 0 0 (omega arith)
bytes_of_get (x ∷ xs) h (suc i) = bytes_of_get xs (λ k d q. h (suc k) d (omega arith)) i

take_8 : (xs : List ℕ) → length xs ≡ 8 → take 8 xs ≡ xs
take_8 xs l = subst (λ n. take n xs ≡ xs) l (take-length xs)

signed_8 : (xs : List ℕ) → length xs ≡ 8 → AreBytes xs → Back 8 (signed 8 xs) (fits_64 (signed 8 xs)) xs
unfolding signed low_bytes
signed_8 xs l h = record {
  fits_field = fits_64-cast (from_le_bytes w64 xs) (below_64 xs l h);
  bytes = rw (unsigned_back (from_le_bytes w64 xs) (below_64 xs l h)) (le_bytes_8 xs (from_le_bytes w64 xs) l (bytes_of_get xs h) refl ∙ sym (take_8 xs l));
}

pub imm_back : (row : Row) (xs : List ℕ) → row_ok row ≡ true → length xs ≡ 8 → AreBytes xs → 0 < imm_len row → Back (imm_len row) (imm_value row xs) (imm_fits row (imm_value row xs)) xs
unfolding imm_len imm_value
imm_back (MovMem w) xs o l h k =
    width_cases w (λ w. Back (imm_len (MovMem w)) (imm_value (MovMem w) xs) (imm_fits (MovMem w) (imm_value (MovMem w) xs)) xs) o (signed_1 xs l h) (signed_2 xs l h) (signed_4 xs l h) (signed_4 xs l h)
imm_back (MovImm w) xs o l h k =
    word_cases w (λ w. Back (imm_len (MovImm w)) (imm_value (MovImm w) xs) (imm_fits (MovImm w) (imm_value (MovImm w) xs)) xs) o (signed_4 xs l h) (signed_8 xs l h)
imm_back (AluImm w true) xs o l h k = signed_4 xs l h
imm_back (AluImm w false) xs o l h k = signed_1 xs l h
imm_back (ShiftImm w) xs o l h k = count_1 xs l h
imm_back (CallRel b) xs o l h k = rel_4 xs l h
imm_back (JmpRel b) xs o l h k = rel_4 xs l h
imm_back (Jcc b c) xs o l h k = rel_4 xs l h
imm_back row xs o l h k = absurd (omega arith)
