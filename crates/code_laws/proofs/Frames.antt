-- Memory behind a view: the frame, and bytes that are not sealed.
use Rattle.std.specs.Prelude.{Result, Ok}
use Rattle.std.proofs.Common.{◌≡◌, ℕ, zero, suc, ◌+◌, ◌*◌, ◌/◌, ◌^◌, ◌%◌, ◌<◌, ◌≤◌, ◌⊎◌, inl, inr, true, false, None, refl, arith, ap, ◌∙◌, sym}
use Rattle.std.proofs.lemmas.Bool.Decides.{nat_tests, eqb_tells}
use Rattle.std.proofs.Math.Nat.{pow-suc}
use Rattle.mx_base.specs.declared.limits.Bounds.{Bounds as BoundsPair}
use Rattle.mx_base.specs.Bounds.{complement}
use Rattle.mx_base.specs.Memory.{Bytes, AreBytes, number_at, with_number, first_refused}
use Rattle.mx_base.specs.Regions.{is_sealed, is_readable, is_writable}
use Rattle.mx_base.specs.World.{World}
use Rattle.mx_base.proofs.MemoryLemmas.{with_number_below, with_number_above, number_at-with_number, number_at-same, number_at-lt, AreBytes-with_number, first_refused-all}
use Rattle.obj_file.proofs.StoredBytes.{with_number_apart, number_apart, word_back}
use Rattle.x86_forms.specs.Processor.{address}
use Rattle.obj_file.specs.Stored.{Stored, stored_read, stored_write}
use Rattle.step_code.specs.Pieces.{of_frame}
use Rattle.code_laws.specs.Views.{with_slot, with_pair_at}
use Rattle.code_laws.specs.Seen.{Setting, IsSetting, Holds}

-- ---- regions

pub stack_readable : (a : ℕ) → 0x7100_0000 ≤ a → a < 0x7200_0000 → is_readable a ≡ true
unfolding is_readable
stack_readable a low high = grind (arith, nat_tests)

pub stack_writable : (a : ℕ) → 0x7100_0000 ≤ a → a < 0x7200_0000 → is_writable a ≡ true
unfolding is_writable
stack_writable a low high = grind (arith, nat_tests)

pub cells_readable : (a : ℕ) → 0x7000_0000 ≤ a → a < 0x7000_1000 → is_readable a ≡ true
unfolding is_readable
cells_readable a low high = grind (arith, nat_tests)

pub stack_sealed : (a : ℕ) → 0x7100_0000 ≤ a → a < 0x7200_0000 → is_sealed a ≡ true
unfolding is_sealed
stack_sealed a low high = grind (arith, nat_tests)

pub code_sealed : (a : ℕ) → 0x0100_0000 ≤ a → a < 0x1100_0000 → is_sealed a ≡ true
unfolding is_sealed
code_sealed a low high = grind (arith, nat_tests)

pub cells_sealed : (a : ℕ) → 0x7000_0000 ≤ a → a < 0x7000_1000 → is_sealed a ≡ true
unfolding is_sealed
cells_sealed a low high = grind (arith, nat_tests)

-- bytes that are not sealed are neither in code, nor in the cells, nor in the control stack
pub record OpenPlace (a : ℕ) : Type 0 where
  pub code : (a < 0x0100_0000) ⊎ (0x1100_0000 ≤ a)
  pub cells : (a < 0x7000_0000) ⊎ (0x7000_1000 ≤ a)
  pub stack : (a < 0x7100_0000) ⊎ (0x7200_0000 ≤ a)

pub open_place : (a : ℕ) → is_sealed a ≡ false → OpenPlace a
unfolding is_sealed
open_place a h = record { code = grind (arith, nat_tests); cells = grind (arith, nat_tests); stack = grind (arith, nat_tests) }

-- ---- addresses

pub frame_address : (regs : ℕ → ℕ) (next sp k : ℕ) → regs 4 ≡ sp → sp + 8 * k < 2 ^ 64 → address regs next (of_frame k) ≡ sp + 8 * k
unfolding address
frame_address regs next sp k is small = omega arith

-- ---- 16 bytes are two words

number-split : (n k : ℕ) (m : Bytes) (a : ℕ) → number_at (n + k) m a ≡ number_at n m a + 256 ^ n * number_at k m (a + n)
unfolding number_at
number-split zero k m a = let e : 0 + k ≡ k = omega arith in let f : a + 0 ≡ a = omega arith in rw (e, f) (omega arith)
number-split (suc n) k m a =
    let rest = number-split n k m (a + 1) in
    let e : suc n + k ≡ suc (n + k) = omega arith in
    let f : a + suc n ≡ a + 1 + n = omega arith in
    ap (λ (j : ℕ). number_at j m a) e ∙ rw (rest, f, pow-suc 256 n) (omega arith)

pub number_16 : (m : Bytes) (a : ℕ) → number_at 16 m a ≡ number_at 8 m a + 2 ^ 64 * number_at 8 m (a + 8)
number_16 m a = number-split 8 8 m a

module _ (S : Setting) (ok : IsSetting S) where
  -- a write of n bytes in the frame
  pub written_in_frame : (slots new : ℕ → ℕ) (w : World) (y : Stored) (at n v : ℕ) → Holds S slots w y → S.sp ≤ at → at + n ≤ S.sp + 8 * S.units
      → ((k : ℕ) → k < S.units → number_at 8 (with_number n y.bytes at v) (S.sp + 8 * k) ≡ new k)
      → Holds S new w (record { bytes = with_number n y.bytes at v; bounds = y.bounds })
  written_in_frame slots new w y at n v h low high same =
      let l = ok.low in
      let u = ok.high in
      record {
        open_bytes = λ a is. let p = open_place a is in with_number_apart n y.bytes at v a (outside a p.stack) ∙ h.open_bytes a is;
        store = h.store;
        frame = same;
        frozen = λ a from to. with_number_above n y.bytes at v a (omega arith) ∙ h.frozen a from to;
        code = λ a from to. with_number_below n y.bytes at v a (omega arith) ∙ h.code a from to;
        data_cell = number_at-same 8 (with_number n y.bytes at v) y.bytes 0x7000_0010 (λ x from to. with_number_below n y.bytes at v x (omega arith)) ∙ h.data_cell;
        legacy_cell = number_at-same 8 (with_number n y.bytes at v) y.bytes 0x7000_0008 (λ x from to. with_number_below n y.bytes at v x (omega arith)) ∙ h.legacy_cell;
        depth_cell = number_at-same 8 (with_number n y.bytes at v) y.bytes 0x7000_0018 (λ x from to. with_number_below n y.bytes at v x (omega arith)) ∙ h.depth_cell;
        each_byte = AreBytes-with_number n y.bytes at v h.each_byte;
        kept_words = h.kept_words;
        guest_fits = h.guest_fits;
      }
    where
      outside : (a : ℕ) → (a < 0x7100_0000) ⊎ (0x7200_0000 ≤ a) → (a < at) ⊎ (at + n ≤ a)
      outside a (inl p) = let l = ok.low in inl (omega arith)
      outside a (inr p) = let u = ok.high in inr (omega arith)

  pub slot_read : (slots : ℕ → ℕ) (w : World) (y : Stored) (k : ℕ) → Holds S slots w y → k < S.units → stored_read y (S.sp + 8 * k) 8 ≡ Ok (slots k)
  unfolding stored_read
  slot_read slots w y k h few =
      let l = ok.low in
      let u = ok.high in
      let fine : first_refused is_readable 8 (S.sp + 8 * k) ≡ None = first_refused-all is_readable 8 (S.sp + 8 * k) (λ x from to. stack_readable x (omega arith) (omega arith)) in
      rw fine (ap (λ (n : ℕ). let r : Result ℕ _ = Ok n in r) (h.frame k few))

  pub slot_small : (slots : ℕ → ℕ) (w : World) (y : Stored) (k : ℕ) → Holds S slots w y → k < S.units → slots k < 2 ^ 64
  slot_small slots w y k h few = let e = number_at-lt 8 y.bytes (S.sp + 8 * k) h.each_byte in let f = h.frame k few in omega arith

  slot_apart : (slots : ℕ → ℕ) (w : World) (y : Stored) (k v j : ℕ) → Holds S slots w y → v < 2 ^ 64 → j < S.units
      → number_at 8 (with_number 8 y.bytes (S.sp + 8 * k) v) (S.sp + 8 * j) ≡ with_slot k v slots j
  slot_apart slots w y k v j h small few = elim (eqb_tells j k) [
    | inl e ↦ let same = e.1 in rw e.0 (ap (λ (i : ℕ). number_at 8 (with_number 8 y.bytes (S.sp + 8 * k) v) (S.sp + 8 * i)) same ∙ word_back y.bytes (S.sp + 8 * k) v small)
    | inr e ↦ let other = e.1 in rw e.0 (number_apart y.bytes (S.sp + 8 * j) (S.sp + 8 * k) v (grind arith) ∙ h.frame j few)
  ]

  pub slot_write : (slots : ℕ → ℕ) (w : World) (y : Stored) (k v : ℕ) → Holds S slots w y → k < S.units → v < 2 ^ 64
      → (stored_write y (S.sp + 8 * k) 8 v ≡ Ok (record { bytes = with_number 8 y.bytes (S.sp + 8 * k) v; bounds = y.bounds }))
      × Holds S (with_slot k v slots) w (record { bytes = with_number 8 y.bytes (S.sp + 8 * k) v; bounds = y.bounds })
  unfolding stored_write
  slot_write slots w y k v h few small =
      let l = ok.low in
      let u = ok.high in
      let fine : first_refused is_writable 8 (S.sp + 8 * k) ≡ None = first_refused-all is_writable 8 (S.sp + 8 * k) (λ x from to. stack_writable x (omega arith) (omega arith)) in
      (rw fine refl, written_in_frame slots (with_slot k v slots) w y (S.sp + 8 * k) 8 v h (omega arith) (omega arith) (λ j low. slot_apart slots w y k v j h small low))

  pub pair_read : (slots : ℕ → ℕ) (w : World) (y : Stored) (k : ℕ) → Holds S slots w y → k + 1 < S.units → stored_read y (S.sp + 8 * k) 16 ≡ Ok (slots k + 2 ^ 64 * slots (k + 1))
  unfolding stored_read
  pair_read slots w y k h few =
      let l = ok.low in
      let u = ok.high in
      let fine : first_refused is_readable 16 (S.sp + 8 * k) ≡ None = first_refused-all is_readable 16 (S.sp + 8 * k) (λ x from to. stack_readable x (omega arith) (omega arith)) in
      let e : S.sp + 8 * (k + 1) ≡ S.sp + 8 * k + 8 = omega arith in
      let second : number_at 8 y.bytes (S.sp + 8 * k + 8) ≡ slots (k + 1) = ap (λ (a : ℕ). number_at 8 y.bytes a) (sym e) ∙ h.frame (k + 1) few in
      let both : number_at 16 y.bytes (S.sp + 8 * k) ≡ slots k + 2 ^ 64 * slots (k + 1) = number_16 y.bytes (S.sp + 8 * k) ∙ (λ i. h.frame k (omega arith) i + 2 ^ 64 * second i) in
      rw fine (ap (λ (n : ℕ). let r : Result ℕ _ = Ok n in r) both)

  -- the two words that are written
  pair_words : (m : Bytes) (a v : ℕ) → AreBytes m → v < 2 ^ 64 * 2 ^ 64 → (number_at 8 (with_number 16 m a v) a ≡ v % 2 ^ 64) × (number_at 8 (with_number 16 m a v) (a + 8) ≡ v / 2 ^ 64)
  pair_words m a v bytes small =
      let all = number_at-with_number 16 m a v in
      let split = number_16 (with_number 16 m a v) a in
      let first = number_at-lt 8 (with_number 16 m a v) a (AreBytes-with_number 16 m a v bytes) in
      (omega arith, omega arith)

  pair_apart : (slots : ℕ → ℕ) (w : World) (y : Stored) (k : ℕ) (b : BoundsPair) (j : ℕ) → Holds S slots w y → b.lb < 2 ^ 64 → b.ub < 2 ^ 64 → j < S.units
      → number_at 8 (with_number 16 y.bytes (S.sp + 8 * k) (b.lb + complement b.ub * 2 ^ 64)) (S.sp + 8 * j) ≡ with_pair_at k b slots j
  pair_apart slots w y k b j h low high few =
      let at = S.sp + 8 * k in
      let v = b.lb + complement b.ub * 2 ^ 64 in
      let words = pair_words y.bytes at v h.each_byte (omega arith) in
      elim (eqb_tells j (k + 1)) [
        | inl e ↦ let same = e.1 in let f : S.sp + 8 * j ≡ at + 8 = omega arith in
            rw e.0 (ap (λ (a : ℕ). number_at 8 (with_number 16 y.bytes at v) a) f ∙ words.1 ∙ omega arith)
        | inr e ↦ let other = e.1 in elim (eqb_tells j k) [
          | inl d ↦ let same = d.1 in let f : S.sp + 8 * j ≡ at = omega arith in
              rw (e.0, d.0) (ap (λ (a : ℕ). number_at 8 (with_number 16 y.bytes at v) a) f ∙ words.0 ∙ omega arith)
          | inr d ↦ let apart = d.1 in
              rw (e.0, d.0) (number_at-same 8 (with_number 16 y.bytes at v) y.bytes (S.sp + 8 * j) (λ x from to. with_number_apart 16 y.bytes at v x (grind arith)) ∙ h.frame j few)
        ]
      ]

  pub pair_write : (slots : ℕ → ℕ) (w : World) (y : Stored) (k : ℕ) (b : BoundsPair) → Holds S slots w y → k + 1 < S.units → b.lb < 2 ^ 64 → b.ub < 2 ^ 64
      → let z : Stored = record { bytes = with_number 16 y.bytes (S.sp + 8 * k) (b.lb + complement b.ub * 2 ^ 64); bounds = y.bounds } in
      (stored_write y (S.sp + 8 * k) 16 (b.lb + complement b.ub * 2 ^ 64) ≡ Ok z) × Holds S (with_pair_at k b slots) w z
  unfolding stored_write
  pair_write slots w y k b h few low high =
      let l = ok.low in
      let u = ok.high in
      let fine : first_refused is_writable 16 (S.sp + 8 * k) ≡ None = first_refused-all is_writable 16 (S.sp + 8 * k) (λ x from to. stack_writable x (omega arith) (omega arith)) in
      (rw fine refl, written_in_frame slots (with_pair_at k b slots) w y (S.sp + 8 * k) 16 (b.lb + complement b.ub * 2 ^ 64) h (omega arith) (omega arith) (λ j few. pair_apart slots w y k b j h low high few))
