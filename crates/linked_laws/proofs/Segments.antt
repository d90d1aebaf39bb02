-- The segments of an image stand in order and apart, each within its region.
use Rattle.std.proofs.Common.{◌≡◌, sym, ap, ◌∙◌, subst, ℕ, zero, suc, ◌+◌, ◌<◌, ◌≤◌, Bool, true, false, if◌then◌else◌, List, [], ◌∷◌, length, slice_get, arith, add-zero}
use Rattle.std.specs.List.{AllByRecursion, fold}
use Rattle.std.specs.Option.{unwrap_or}
use Rattle.call_gates.specs.Gates.{InCode, InLegacyCode}
use Rattle.obj_file.specs.declared.object.Object.{Object}
use Rattle.obj_linker.specs.declared.parts.Ends.{Ends}
use Rattle.obj_linker.specs.declared.parts.Spot.{Spot}
use Rattle.obj_linker.specs.declared.parts.SymbolId.{SymbolId}
use Rattle.obj_linker.specs.declared.plan.Plan.{Plan}
use Rattle.obj_linker.specs.Symbols.{numbered, sig_at}
use Rattle.obj_linker.specs.Placement.{aligned, spot_after, ends_after, spots_after, no_spot, spot_of, own_address, outer_at, stub_at}
use Rattle.obj_linker.specs.Fixing.{meant_by, fixed_part}
use Rattle.obj_linker.specs.Gating.{mpx_gates}
use Rattle.obj_linker.specs.Image.{part_segment, outer_segment, stub_segment, code_segment, legacy_segment, data_segment}
use Rattle.obj_linker.proofs.Standing.{aligned_up}
use Rattle.linked_laws.proofs.Between.{Between, behind, code_region, legacy_region, stored_region, one_between, part_between}
use Rattle.linked_laws.proofs.Parts.{code_length, stored_length}
use Rattle.linked_laws.proofs.GateSizes.{outer_size, stub_size}

-- ---- ends

pub code_up : (ends : Ends) (o : Object) → ends.code ≤ (ends_after ends o).code
code_up ends o =
    elim (o.legacy) as (λ b. ends.code ≤ (if b then ends.code else aligned 16 (if b then ends.legacy else ends.code) + length o.code)) [
      | true ↦ omega arith
      | false ↦ (let up = aligned_up ends.code in omega arith)
    ]

legacy_up : (ends : Ends) (o : Object) → ends.legacy ≤ (ends_after ends o).legacy
legacy_up ends o =
    elim (o.legacy) as (λ b. ends.legacy ≤ (if b then aligned 16 (if b then ends.legacy else ends.code) + length o.code else ends.legacy)) [
      | true ↦ (let up = aligned_up ends.legacy in omega arith)
      | false ↦ omega arith
    ]

stored_up : (ends : Ends) (o : Object) → ends.stored ≤ (ends_after ends o).stored
stored_up ends o = (let up = aligned_up ends.stored in omega arith)

pub chain : (a b c : ℕ) → a ≤ b → b ≤ c → a ≤ c
chain a b c p q = omega arith

pub code_grows : (xs : List Object) (ends : Ends) → ends.code ≤ (fold ends_after ends xs).code
code_grows [] ends = omega arith
code_grows (o ∷ xs) ends = chain ends.code (ends_after ends o).code (fold ends_after (ends_after ends o) xs).code (code_up ends o) (code_grows xs (ends_after ends o))

pub legacy_grows : (xs : List Object) (ends : Ends) → ends.legacy ≤ (fold ends_after ends xs).legacy
legacy_grows [] ends = omega arith
legacy_grows (o ∷ xs) ends = chain ends.legacy (ends_after ends o).legacy (fold ends_after (ends_after ends o) xs).legacy (legacy_up ends o) (legacy_grows xs (ends_after ends o))

pub stored_grows : (xs : List Object) (ends : Ends) → ends.stored ≤ (fold ends_after ends xs).stored
stored_grows [] ends = omega arith
stored_grows (o ∷ xs) ends = chain ends.stored (ends_after ends o).stored (fold ends_after (ends_after ends o) xs).stored (stored_up ends o) (stored_grows xs (ends_after ends o))

-- ---- parts

module _ (os : List Object) (plan : Plan) where
  -- the places of objects from the n-th on
  abbrev pub PlacedFrom : ℕ → List Spot → Type 0
  PlacedFrom n spots = (j : ℕ) → slice_get plan.spots (n + j) ≡ slice_get spots j

  pub later : (n : ℕ) (s : Spot) (spots : List Spot) → PlacedFrom n (s ∷ spots) → PlacedFrom (n + 1) spots
  later n s spots placed j = ap (λ m. slice_get plan.spots m) (let e : n + 1 + j ≡ n + suc j = omega arith in e) ∙ placed (suc j)

  pub own_spot : (n : ℕ) (s : Spot) (spots : List Spot) → PlacedFrom n (s ∷ spots) → spot_of plan n ≡ s
  own_spot n s spots placed = ap (λ m. unwrap_or (slice_get plan.spots m) no_spot) (sym (add-zero n)) ∙ ap (λ x. unwrap_or x no_spot) (placed zero)

  code_once : (n : ℕ) (o : Object) (ends : Ends) (s : Spot) → s ≡ spot_after ends o → 0x0200_0000 ≤ ends.code → (ends_after ends o).code ≤ 0x1100_0000
      → Between ends.code (ends_after ends o).code (if o.legacy then [] else part_segment s.code (fixed_part os plan n o 1))
  code_once n o ends s is low high = by o.legacy (ap (λ (x : Spot). x.code) is) high
    where
      by : (b : Bool) → s.code ≡ aligned 16 (if b then ends.legacy else ends.code) → (if b then ends.code else aligned 16 (if b then ends.legacy else ends.code) + length o.code) ≤ 0x1100_0000
          → Between ends.code (if b then ends.code else aligned 16 (if b then ends.legacy else ends.code) + length o.code) (if b then [] else part_segment s.code (fixed_part os plan n o 1))
      by true e end = omega arith
      by false e end =
          let up = aligned_up ends.code in
          let size = code_length os plan n o in
          part_between 0x0100_0000 0x1100_0000 code_region ends.code (aligned 16 ends.code + length o.code) s.code (fixed_part os plan n o 1) (omega arith) (omega arith) (omega arith) end

  pub codes_between : (n : ℕ) (xs : List Object) (ends : Ends) → PlacedFrom n (spots_after ends xs) → 0x0200_0000 ≤ ends.code → (fold ends_after ends xs).code ≤ 0x1100_0000
      → Between ends.code (fold ends_after ends xs).code (numbered (code_segment os plan) n xs)
  codes_between n [] ends placed low high = omega arith
  codes_between n (o ∷ xs) ends placed low high =
      let next = ends_after ends o in
      let up = code_up ends o in
      let more = code_grows xs next in
      behind ends.code next.code (fold ends_after next xs).code (code_segment os plan n o) (numbered (code_segment os plan) (n + 1) xs)
      (code_once n o ends (spot_of plan n) (own_spot n (spot_after ends o) (spots_after next xs) placed) low (chain next.code (fold ends_after next xs).code 0x1100_0000 more high))
      (codes_between (n + 1) xs next (later n (spot_after ends o) (spots_after next xs) placed) (chain 0x0200_0000 ends.code next.code low up) high)

  legacy_once : (n : ℕ) (o : Object) (ends : Ends) (s : Spot) → s ≡ spot_after ends o → 0x1200_0000 ≤ ends.legacy → (ends_after ends o).legacy ≤ 0x1300_0000
      → Between ends.legacy (ends_after ends o).legacy (if o.legacy then part_segment s.code (fixed_part os plan n o 1) else [])
  legacy_once n o ends s is low high = by o.legacy (ap (λ (x : Spot). x.code) is) high
    where
      by : (b : Bool) → s.code ≡ aligned 16 (if b then ends.legacy else ends.code) → (if b then aligned 16 (if b then ends.legacy else ends.code) + length o.code else ends.legacy) ≤ 0x1300_0000
          → Between ends.legacy (if b then aligned 16 (if b then ends.legacy else ends.code) + length o.code else ends.legacy) (if b then part_segment s.code (fixed_part os plan n o 1) else [])
      by false e end = omega arith
      by true e end =
          let up = aligned_up ends.legacy in
          let size = code_length os plan n o in
          part_between 0x1200_0000 0x1300_0000 legacy_region ends.legacy (aligned 16 ends.legacy + length o.code) s.code (fixed_part os plan n o 1) (omega arith) (omega arith) (omega arith) end

  pub legacies_between : (n : ℕ) (xs : List Object) (ends : Ends) → PlacedFrom n (spots_after ends xs) → 0x1200_0000 ≤ ends.legacy → (fold ends_after ends xs).legacy ≤ 0x1300_0000
      → Between ends.legacy (fold ends_after ends xs).legacy (numbered (legacy_segment os plan) n xs)
  legacies_between n [] ends placed low high = omega arith
  legacies_between n (o ∷ xs) ends placed low high =
      let next = ends_after ends o in
      let up = legacy_up ends o in
      let more = legacy_grows xs next in
      behind ends.legacy next.legacy (fold ends_after next xs).legacy (legacy_segment os plan n o) (numbered (legacy_segment os plan) (n + 1) xs)
      (legacy_once n o ends (spot_of plan n) (own_spot n (spot_after ends o) (spots_after next xs) placed) low (chain next.legacy (fold ends_after next xs).legacy 0x1300_0000 more high))
      (legacies_between (n + 1) xs next (later n (spot_after ends o) (spots_after next xs) placed) (chain 0x1200_0000 ends.legacy next.legacy low up) high)

  data_once : (n : ℕ) (o : Object) (ends : Ends) (s : Spot) → s ≡ spot_after ends o → 0x2000_0000 ≤ ends.stored → (ends_after ends o).stored ≤ 0x2100_0000
      → Between ends.stored (ends_after ends o).stored (part_segment s.stored (fixed_part os plan n o 2))
  data_once n o ends s is low high =
      let e : s.stored ≡ aligned 16 ends.stored = ap (λ (x : Spot). x.stored) is in
      let up = aligned_up ends.stored in
      let size = stored_length os plan n o in
      part_between 0x2000_0000 0x2100_0000 stored_region ends.stored (aligned 16 ends.stored + length o.stored) s.stored (fixed_part os plan n o 2) (omega arith) (omega arith) (omega arith) high

  pub data_between : (n : ℕ) (xs : List Object) (ends : Ends) → PlacedFrom n (spots_after ends xs) → 0x2000_0000 ≤ ends.stored → (fold ends_after ends xs).stored ≤ 0x2100_0000
      → Between ends.stored (fold ends_after ends xs).stored (numbered (data_segment os plan) n xs)
  data_between n [] ends placed low high = omega arith
  data_between n (o ∷ xs) ends placed low high =
      let next = ends_after ends o in
      let up = stored_up ends o in
      let more = stored_grows xs next in
      behind ends.stored next.stored (fold ends_after next xs).stored (data_segment os plan n o) (numbered (data_segment os plan) (n + 1) xs)
      (data_once n o ends (spot_of plan n) (own_spot n (spot_after ends o) (spots_after next xs) placed) low (chain next.stored (fold ends_after next xs).stored 0x2100_0000 more high))
      (data_between (n + 1) xs next (later n (spot_after ends o) (spots_after next xs) placed) (chain 0x2000_0000 ends.stored next.stored low up) high)

  -- ---- gates

  outer_once : (n : ℕ) (id : SymbolId) → InCode (own_address os plan id) → n < 65_536 → Between (outer_at n) (outer_at (n + 1)) (outer_segment mpx_gates os plan n id)
  outer_once n id there few =
      let size = outer_size (sig_at os id) (own_address os plan id) (outer_at n) there (omega arith, omega arith) in
      let some = size.some in
      let most = size.few in
      one_between 0x0100_0000 0x1100_0000 code_region (outer_at n) (outer_at (n + 1)) (outer_at n) (mpx_gates.outer (sig_at os id) (own_address os plan id) (outer_at n))
      (omega arith) (omega arith) some (omega arith) (omega arith)

  pub outers_between : (n : ℕ) (xs : List SymbolId) → AllByRecursion (λ id. InCode (own_address os plan id)) xs → n + length xs ≤ 65_536
      → Between (outer_at n) (outer_at (n + length xs)) (numbered (outer_segment mpx_gates os plan) n xs)
  outers_between n [] all few = omega arith
  outers_between n (id ∷ xs) all few =
      behind (outer_at n) (outer_at (n + 1)) (outer_at (n + suc (length xs))) (outer_segment mpx_gates os plan n id) (numbered (outer_segment mpx_gates os plan) (n + 1) xs)
      (outer_once n id all.0 (omega arith))
      (subst (λ m. Between (outer_at (n + 1)) (outer_at m) (numbered (outer_segment mpx_gates os plan) (n + 1) xs)) (let e : n + 1 + length xs ≡ n + suc (length xs) = omega arith in e)
      (outers_between (n + 1) xs all.1 (omega arith)))

  stub_once : (n : ℕ) (id : SymbolId) → InLegacyCode (own_address os plan (meant_by os plan id)) → 0x0100_0000 ≤ plan.stubs_at → stub_at plan (n + 1) ≤ 0x1100_0000
      → Between (stub_at plan n) (stub_at plan (n + 1)) (stub_segment mpx_gates os plan n id)
  stub_once n id there low high =
      let size = stub_size (sig_at os id) (own_address os plan (meant_by os plan id)) (stub_at plan n) there (omega arith, omega arith) in
      let some = size.some in
      let most = size.few in
      one_between 0x0100_0000 0x1100_0000 code_region (stub_at plan n) (stub_at plan (n + 1)) (stub_at plan n) (mpx_gates.stub (sig_at os id) (own_address os plan (meant_by os plan id)) (stub_at plan n))
      (omega arith) (omega arith) some (omega arith) high

  pub stubs_between : (n : ℕ) (xs : List SymbolId) → AllByRecursion (λ id. InLegacyCode (own_address os plan (meant_by os plan id))) xs → 0x0100_0000 ≤ plan.stubs_at → stub_at plan (n + length xs) ≤ 0x1100_0000
      → Between (stub_at plan n) (stub_at plan (n + length xs)) (numbered (stub_segment mpx_gates os plan) n xs)
  stubs_between n [] all low high = omega arith
  stubs_between n (id ∷ xs) all low high =
      behind (stub_at plan n) (stub_at plan (n + 1)) (stub_at plan (n + suc (length xs))) (stub_segment mpx_gates os plan n id) (numbered (stub_segment mpx_gates os plan) (n + 1) xs)
      (stub_once n id all.0 low (omega arith))
      (subst (λ m. Between (stub_at plan (n + 1)) (stub_at plan m) (numbered (stub_segment mpx_gates os plan) (n + 1) xs)) (let e : n + 1 + length xs ≡ n + suc (length xs) = omega arith in e)
      (stubs_between (n + 1) xs all.1 low (omega arith)))
