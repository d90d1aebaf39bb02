-- Segments that stand in order and apart, from an address up to another.
use Rattle.std.proofs.Common.{◌≡◌, refl, sym, ap, subst, ℕ, ◌+◌, ◌-◌, ◌<◌, ◌≤◌, ◌==◌, Bool, true, false, if◌then◌else◌, List, [], ◌∷◌, ◌++◌, length, arith}
use Rattle.std.proofs.lemmas.Bool.Decides.{nat_tests}
use Rattle.mx_base.specs.Regions.{is_in, instrumented_code, legacy_code, data_region}
use Rattle.obj_file.specs.declared.image.Segment.{Segment}
use Rattle.obj_file.specs.InTurn.{InTurn}
use Rattle.obj_file.specs.Image.{room_at, segment_end, IsSegment}
use Rattle.obj_linker.specs.Image.{segment, part_segment}

-- from the first address on, and none ends behind the second one
abbrev pub Between : (from to : ℕ) → List Segment → Type 0
Between from to [] = from ≤ to
Between from to (s ∷ rest) = IsSegment from s × Between (segment_end from s) to rest

lower_segment : (a b : ℕ) (s : Segment) → a ≤ b → IsSegment b s → IsSegment a s
lower_segment a b s h is = (let after = is.after in record { after = omega arith; some = is.some; within = is.within })

pub lower : (a b to : ℕ) (xs : List Segment) → a ≤ b → Between b to xs → Between a to xs
lower a b to [] h all = omega arith
lower a b to (s ∷ rest) h all = (lower_segment a b s h all.0, all.1)

pub behind : (a b c : ℕ) (xs ys : List Segment) → Between a b xs → Between b c ys → Between a c (xs ++ ys)
behind a b c [] ys h k = lower a b c ys h k
behind a b c (s ∷ xs) ys h k = (h.0, behind (segment_end a s) b c xs ys h.1 k)

pub in_turn : (a b : ℕ) (xs : List Segment) → Between a b xs → InTurn IsSegment segment_end a xs
in_turn a b [] h = tt
in_turn a b (s ∷ xs) h = (h.0, in_turn (segment_end a s) b xs h.1)

-- ---- regions

pub room_of_code : (at : ℕ) → 0x0100_0000 ≤ at → at < 0x1100_0000 → room_at at ≡ 0x1100_0000 - at
unfolding room_at
room_of_code at low high =
    let yes : is_in instrumented_code at ≡ true = grind (arith, nat_tests) in
    ap (λ b. if b then 0x1100_0000 - at else if is_in legacy_code at then 0x1300_0000 - at else if is_in data_region at then 0x2100_0000 - at else 0) yes

pub room_of_legacy : (at : ℕ) → 0x1200_0000 ≤ at → at < 0x1300_0000 → room_at at ≡ 0x1300_0000 - at
unfolding room_at
room_of_legacy at low high =
    let no : is_in instrumented_code at ≡ false = grind (arith, nat_tests) in
    let yes : is_in legacy_code at ≡ true = grind (arith, nat_tests) in
    (λ i. if no i then 0x1100_0000 - at else if yes i then 0x1300_0000 - at else if is_in data_region at then 0x2100_0000 - at else 0)

pub room_of_data : (at : ℕ) → 0x2000_0000 ≤ at → at < 0x2100_0000 → room_at at ≡ 0x2100_0000 - at
unfolding room_at
room_of_data at low high =
    let no : is_in instrumented_code at ≡ false = grind (arith, nat_tests) in
    let not_legacy : is_in legacy_code at ≡ false = grind (arith, nat_tests) in
    let yes : is_in data_region at ≡ true = grind (arith, nat_tests) in
    (λ i. if no i then 0x1100_0000 - at else if not_legacy i then 0x1300_0000 - at else if yes i then 0x2100_0000 - at else 0)

-- a region by its first address and the one behind it
pub record IsRegion (low high : ℕ) : Type 0 where
  pub room : (at : ℕ) → low ≤ at → at < high → room_at at ≡ high - at

pub code_region : IsRegion 0x0100_0000 0x1100_0000
code_region = record { room = room_of_code }

pub legacy_region : IsRegion 0x1200_0000 0x1300_0000
legacy_region = record { room = room_of_legacy }

pub stored_region : IsRegion 0x2000_0000 0x2100_0000
stored_region = record { room = room_of_data }

module _ (low high : ℕ) (region : IsRegion low high) where
  -- bytes of a region, up to an address in it
  pub one_between : (from to at : ℕ) (bytes : List ℕ) → low ≤ at → from ≤ at → 1 ≤ length bytes → at + length bytes ≤ to → to ≤ high
      → Between from to (segment at bytes ∷ [])
  one_between from to at bytes inside after some end within =
      let room : room_at at ≡ high - at = region.room at inside (omega arith) in
      (record { after = after; some = some; within = (let enough : length bytes ≤ high - at = omega arith in subst (λ n. length bytes ≤ n) (sym room) enough) }, end)

  -- the same of a part, which may be empty
  pub part_between : (from to at : ℕ) (bytes : List ℕ) → low ≤ at → from ≤ at → at + length bytes ≤ to → to ≤ high → Between from to (part_segment at bytes)
  part_between from to at bytes inside after end within = by (length bytes == 0) refl
    where
      by : (b : Bool) → (length bytes == 0) ≡ b → Between from to (if b then [] else segment at bytes ∷ [])
      by true e = omega arith
      by false e = (let some : 1 ≤ length bytes = grind (arith, nat_tests) in one_between from to at bytes inside after some end within)

pub in_order : (a b : ℕ) (xs : List Segment) → Between a b xs → a ≤ b
in_order a b [] h = h
in_order a b (s ∷ xs) h =
    let after = h.0.after in
    let more = in_order (segment_end a s) b xs h.1 in
    omega arith

pub raised : (a b c : ℕ) (xs : List Segment) → b ≤ c → Between a b xs → Between a c xs
raised a b c [] h all = omega arith
raised a b c (s ∷ xs) h all = (all.0, raised (segment_end a s) b c xs h all.1)
