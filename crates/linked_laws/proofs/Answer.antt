-- What the answer of a link says of its objects: there is no fault, and the image is theirs.
use Rattle.std.proofs.Common.{◌≡◌, refl, sym, ap, subst, ℕ, ◌+◌, ◌*◌, ◌-◌, ◌<◌, ◌≤◌, ◌==◌, false, if◌then◌else◌, Ok, List, [], ◌∷◌, ◌++◌, length, slice_get, arith}
use Rattle.std.specs.List.{AllByRecursion}
use Rattle.std.proofs.lemmas.Bool.Decides.{nat_tests}
use Rattle.std.proofs.lemmas.List.{length-map}
use Rattle.call_gates.specs.Gates.{InCode, InLegacyCode}
use Rattle.obj_file.specs.declared.object.Object.{Object}
use Rattle.obj_file.specs.declared.image.Image.{Image}
use Rattle.obj_file.specs.declared.image.Segment.{Segment}
use Rattle.obj_linker.specs.declared.fault.LinkFault.{LinkFault}
use Rattle.obj_linker.specs.declared.parts.SymbolId.{SymbolId}
use Rattle.obj_linker.specs.declared.plan.Plan.{Plan}
use Rattle.obj_linker.specs.Symbols.{numbered, definitions, ids, signed_imports}
use Rattle.obj_linker.specs.Placement.{aligned, starts, ends_of, plan_of, spots_after, own_address, outer_at, stub_at, code_end}
use Rattle.obj_linker.specs.Fixing.{meant_by}
use Rattle.obj_linker.specs.Image.{image_of, segment, segments, start_at, landing_at, main_id, outer_segment, stub_segment, code_segment, legacy_segment, data_segment}
use Rattle.obj_linker.specs.Faults.{unless, faults, faults_of_names, faults_of_sizes, twice, faults_of_imports, no_main, too_large, far_fixes}
use Rattle.obj_linker.specs.Gating.{mpx_gates, GatesReach}
use Rattle.obj_linker.proofs.Passing.{none_before, none_behind}
use Rattle.obj_linker.proofs.Members.{by_recursion}
use Rattle.obj_linker.proofs.Standing.{aligned_gate}
use Rattle.obj_linker.proofs.Reaching.{Sizes, sizes, gates_reach}
use Rattle.linked_laws.specs.Linked.{AreLinked}
use Rattle.linked_laws.proofs.Between.{Between, behind, lower, raised, in_order, code_region, one_between}
use Rattle.linked_laws.proofs.GateSizes.{start_size, landing_size}
use Rattle.linked_laws.proofs.Segments.{PlacedFrom, code_grows, legacy_grows, stored_grows, codes_between, legacies_between, data_between, outers_between, stubs_between}

-- without a fault
pub record Passed (os : List Object) (v : Image) : Type 0 where
  pub image : v ≡ image_of mpx_gates os
  pub twice : twice os ≡ []
  pub imports : faults_of_imports os (definitions os) (signed_imports os) ≡ []
  pub main : no_main os (definitions os) ≡ []
  pub sizes : Sizes os (plan_of os) (ends_of os)
  pub far : far_fixes os (plan_of os) ≡ []
  pub reach : GatesReach os (plan_of os)

record IsAnswer (image v : Image) (all : List LinkFault) : Type 0 where
  none : all ≡ []
  is : v ≡ image

answered : (image v : Image) (all : List LinkFault) → unless image all ≡ Ok v → IsAnswer image v all
answered image v [] h = record { none = refl; is = cc }
answered image v (fault ∷ later) h = cc

pub passed : (os : List Object) (v : Image) → AreLinked os v → Passed os v
passed os v l =
    let a = answered (image_of mpx_gates os) v (faults os) l.image in
    let of_names = none_before (faults_of_names os) (faults_of_sizes os) a.none in
    let of_sizes = none_behind (faults_of_names os) (faults_of_sizes os) a.none in
    let of_definitions = none_before (twice os ++ faults_of_imports os (definitions os) (signed_imports os)) (no_main os (definitions os)) of_names in
    let main = none_behind (twice os ++ faults_of_imports os (definitions os) (signed_imports os)) (no_main os (definitions os)) of_names in
    let fit = sizes os (plan_of os) (ends_of os) (none_before (too_large os (plan_of os) (ends_of os)) (far_fixes os (plan_of os)) of_sizes) in
    record {
      image = a.is;
      twice = none_before (twice os) (faults_of_imports os (definitions os) (signed_imports os)) of_definitions;
      imports = none_behind (twice os) (faults_of_imports os (definitions os) (signed_imports os)) of_definitions;
      main = main;
      sizes = fit;
      far = none_behind (too_large os (plan_of os) (ends_of os)) (far_fixes os (plan_of os)) of_sizes;
      reach = gates_reach os l.objects fit main;
    }

-- ---- segments

stubs_there : (os : List Object) (plan : Plan) (xs : List SymbolId) (ends : ℕ) → AllByRecursion (λ id. InLegacyCode (own_address os plan (meant_by os plan id))) xs
    → plan.stubs_at ≡ aligned 128 ends → 0x0200_0000 ≤ ends → code_end (length xs) ends plan.stubs_at - 0x0200_0000 ≤ 251_658_240
    → Between ends 0x1100_0000 (numbered (stub_segment mpx_gates os plan) 0 xs)
stubs_there os plan [] ends all at low high = omega arith
stubs_there os plan (id ∷ xs) ends all at low high =
    let up = aligned_gate ends in
    let from : ends ≤ plan.stubs_at = subst (λ a. ends ≤ a) (sym at) up.0 in
    let zero : stub_at plan 0 ≡ plan.stubs_at = omega arith in
    let some : (length (id ∷ xs) == 0) ≡ false = grind (arith, nat_tests) in
    let far : (plan.stubs_at + 128 * length (id ∷ xs)) - 0x0200_0000 ≤ 251_658_240 =
    subst (λ b. (if b then ends else plan.stubs_at + 128 * length (id ∷ xs)) - 0x0200_0000 ≤ 251_658_240) some high in
    let room : stub_at plan (0 + length (id ∷ xs)) ≤ 0x1100_0000 = omega (arith, far) in
    raised ends (stub_at plan (0 + length (id ∷ xs))) 0x1100_0000 (numbered (stub_segment mpx_gates os plan) 0 (id ∷ xs)) room
    (lower ends (stub_at plan 0) (stub_at plan (0 + length (id ∷ xs))) (numbered (stub_segment mpx_gates os plan) 0 (id ∷ xs)) (omega arith)
    (stubs_between os plan 0 (id ∷ xs) all (omega arith) room))

pub placed_at_starts : (os : List Object) → PlacedFrom os (plan_of os) 0 (spots_after starts os)
placed_at_starts os j = ap (slice_get (spots_after starts os)) (let e : 0 + j ≡ j = omega arith in e)

pub segments_between : (os : List Object) (v : Image) → AreLinked os v → Between 0 0x2100_0000 (segments mpx_gates os (plan_of os))
segments_between os v l =
    let p = passed os v l in
    let plan = plan_of os in
    let ends = ends_of os in
    let s = p.sizes in
    let inner = by_recursion (λ id. InCode (own_address os plan id)) (ids plan.functions) p.reach.inner in
    let target = by_recursion (λ id. InLegacyCode (own_address os plan (meant_by os plan id))) (ids plan.stubs) p.reach.target in
    let start : List Segment = segment start_at (mpx_gates.start (own_address os plan (main_id plan.definitions))) ∷ [] in
    let landing : List Segment = segment landing_at mpx_gates.landing ∷ [] in
    let outers : List Segment = numbered (outer_segment mpx_gates os plan) 0 (ids plan.functions) in
    let codes : List Segment = numbered (code_segment os plan) 0 os in
    let stubs : List Segment = numbered (stub_segment mpx_gates os plan) 0 (ids plan.stubs) in
    let legacies : List Segment = numbered (legacy_segment os plan) 0 os in
    let stored : List Segment = numbered (data_segment os plan) 0 os in
    let few : length (ids plan.functions) ≤ 65_536 = (let same = length-map plan.functions (λ (e : List ℕ × SymbolId). e.1) in let own = s.functions in omega arith) in
    let same_stubs : length (ids plan.stubs) ≡ length plan.stubs = length-map plan.stubs (λ (e : List ℕ × SymbolId). e.1) in
    let first = start_size (own_address os plan (main_id plan.definitions)) p.reach.main in
    let first_some = first.some in
    let first_few = first.few in
    let second = landing_size in
    let second_some = second.some in
    let second_few = second.few in
    let code_low = code_grows os starts in
    let all_stubs : Between ends.code 0x1100_0000 stubs =
    stubs_there os plan (ids plan.stubs) ends.code target refl code_low (subst (λ n. code_end n ends.code plan.stubs_at - 0x0200_0000 ≤ 251_658_240) (sym same_stubs) s.code) in
    let code_high = in_order ends.code 0x1100_0000 stubs all_stubs in
    let legacy_low = legacy_grows os starts in
    let stored_low = stored_grows os starts in
    let legacy_room = s.legacy in
    let stored_room = s.stored in
    let legacy_high : ends.legacy ≤ 0x1300_0000 = omega arith in
    let stored_high : ends.stored ≤ 0x2100_0000 = omega arith in
    let one : Between 0 0x0100_0400 start = one_between 0x0100_0000 0x1100_0000 code_region 0 0x0100_0400 start_at (mpx_gates.start (own_address os plan (main_id plan.definitions)))
    (omega arith) (omega arith) first_some (omega arith) (omega arith) in
    let two : Between 0x0100_0400 (outer_at 0) landing = one_between 0x0100_0000 0x1100_0000 code_region 0x0100_0400 (outer_at 0) landing_at mpx_gates.landing
    (omega arith) (omega arith) second_some (omega arith) (omega arith) in
    let three : Between (outer_at 0) 0x0200_0000 outers = raised (outer_at 0) (outer_at (0 + length (ids plan.functions))) 0x0200_0000 outers (omega arith) (outers_between os plan 0 (ids plan.functions) inner (omega arith)) in
    let four : Between 0x0200_0000 ends.code codes = codes_between os plan 0 os starts (placed_at_starts os) (omega arith) code_high in
    let six : Between 0x1100_0000 ends.legacy legacies = lower 0x1100_0000 0x1200_0000 ends.legacy legacies (omega arith) (legacies_between os plan 0 os starts (placed_at_starts os) (omega arith) legacy_high) in
    let seven : Between ends.legacy 0x2100_0000 stored = lower ends.legacy 0x2000_0000 0x2100_0000 stored (omega arith)
    (raised 0x2000_0000 ends.stored 0x2100_0000 stored stored_high (data_between os plan 0 os starts (placed_at_starts os) (omega arith) stored_high)) in
    behind 0 ends.legacy 0x2100_0000 (start ++ landing ++ outers ++ codes ++ stubs ++ legacies) stored
    (behind 0 0x1100_0000 ends.legacy (start ++ landing ++ outers ++ codes ++ stubs) legacies
    (behind 0 ends.code 0x1100_0000 (start ++ landing ++ outers ++ codes) stubs
    (behind 0 0x0200_0000 ends.code (start ++ landing ++ outers) codes
    (behind 0 (outer_at 0) 0x0200_0000 (start ++ landing) outers
    (behind 0 0x0100_0400 (outer_at 0) start landing one two) three) four) all_stubs) six) seven

-- instrumented code ends within its region
pub code_room : (os : List Object) (v : Image) → AreLinked os v → (ends_of os).code ≤ 0x1100_0000
code_room os v l =
    let p = passed os v l in
    let plan = plan_of os in
    let s = p.sizes in
    let same_stubs : length (ids plan.stubs) ≡ length plan.stubs = length-map plan.stubs (λ (e : List ℕ × SymbolId). e.1) in
    in_order (ends_of os).code 0x1100_0000 (numbered (stub_segment mpx_gates os plan) 0 (ids plan.stubs))
    (stubs_there os plan (ids plan.stubs) (ends_of os).code (by_recursion (λ id. InLegacyCode (own_address os plan (meant_by os plan id))) (ids plan.stubs) p.reach.target) refl (code_grows os starts)
    (subst (λ n. code_end n (ends_of os).code plan.stubs_at - 0x0200_0000 ≤ 251_658_240) (sym same_stubs) s.code))

-- a stub has its room behind the start of instrumented parts
pub stub_room : (os : List Object) (v : Image) → AreLinked os v → (g : ℕ) → g < length (plan_of os).stubs
    → (0x0200_0000 ≤ stub_at (plan_of os) g) × (stub_at (plan_of os) g + 128 ≤ 0x1100_0000)
stub_room os v l g less =
    let plan = plan_of os in
    let ends : ℕ = (ends_of os).code in
    let n : ℕ = length plan.stubs in
    let up = aligned_gate ends in
    let low = code_grows os starts in
    let some : (n == 0) ≡ false = grind (arith, nat_tests) in
    let far : (plan.stubs_at + 128 * n) - 0x0200_0000 ≤ 251_658_240 =
    subst (λ b. (if b then ends else plan.stubs_at + 128 * n) - 0x0200_0000 ≤ 251_658_240) some (passed os v l).sizes.code in
    (omega arith, omega (arith, far))
