-- What stands in an image at which address.
use Rattle.std.proofs.Common.{◌≡◌, refl, sym, subst, ℕ, zero, suc, ◌+◌, ◌==◌, Bool, true, false, if◌then◌else◌, Some, List, [], ◌∷◌, ◌++◌, length, slice_get, arith, add-zero}
use Rattle.std.specs.List.{AllByRecursion}
use Rattle.std.proofs.lemmas.Bool.Decides.{nat_tests}
use Rattle.mx_base.specs.Memory.{Bytes, list_at}
use Rattle.obj_file.specs.declared.object.Object.{Object}
use Rattle.obj_file.specs.declared.image.Image.{Image}
use Rattle.obj_file.specs.declared.image.Segment.{Segment}
use Rattle.obj_file.specs.Image.{IsImage}
use Rattle.obj_file.specs.Loaded.{Holds, state_at_start}
use Rattle.obj_file.proofs.LoadedLaws.{segments_stand}
use Rattle.obj_linker.specs.Symbols.{numbered, ids}
use Rattle.obj_linker.specs.Placement.{plan_of, spot_of}
use Rattle.obj_linker.specs.Fixing.{fixed_part}
use Rattle.obj_linker.specs.Gating.{mpx_gates}
use Rattle.obj_linker.specs.Image.{segment, segments, part_segment, outer_segment, stub_segment, code_segment, legacy_segment, data_segment}
use Rattle.linked_laws.specs.Linked.{AreLinked, HaveParts, bytes_in}
use Rattle.linked_laws.proofs.Answer.{passed}
use Rattle.linked_laws.proofs.Formed.{formed}

-- ---- elements of lists

all_before : {X : Type 0} (P : X → Type 0) (xs ys : List X) → AllByRecursion P (xs ++ ys) → AllByRecursion P xs
all_before P [] ys all = tt
all_before P (x ∷ xs) ys all = (all.0, all_before P xs ys all.1)

all_behind : {X : Type 0} (P : X → Type 0) (xs ys : List X) → AllByRecursion P (xs ++ ys) → AllByRecursion P ys
all_behind P [] ys all = all
all_behind P (x ∷ xs) ys all = all_behind P xs ys all.1

-- what the k-th element gives
all_of_numbered : {X A : Type 0} (P : A → Type 0) (f : ℕ → X → List A) (n : ℕ) (xs : List X) → AllByRecursion P (numbered f n xs) → (k : ℕ) (x : X) → slice_get xs k ≡ Some x → AllByRecursion P (f (n + k) x)
all_of_numbered P f n [] all k x h = cc
all_of_numbered P f n (y ∷ xs) all zero x h =
    let same : y ≡ x = cc in
    let one = all_before P (f n y) (numbered f (n + 1) xs) all in
    subst (λ m. AllByRecursion P (f m x)) (sym (add-zero n)) (subst (λ z. AllByRecursion P (f n z)) same one)
all_of_numbered P f n (y ∷ xs) all (suc k) x h =
    let more = all_of_numbered P f (n + 1) xs (all_behind P (f n y) (numbered f (n + 1) xs) all) k x h in
    subst (λ m. AllByRecursion P (f m x)) (let e : n + 1 + k ≡ n + suc k = omega arith in e) more

from_zero : {X A : Type 0} (P : A → Type 0) (f : ℕ → X → List A) (xs : List X) → AllByRecursion P (numbered f 0 xs) → (k : ℕ) (x : X) → slice_get xs k ≡ Some x → AllByRecursion P (f k x)
from_zero P f xs all k x h = subst (λ m. AllByRecursion P (f m x)) (let e : 0 + k ≡ k = omega arith in e) (all_of_numbered P f 0 xs all k x h)

-- ---- parts

-- no bytes stand everywhere
empty_holds : (m : Bytes) (at : ℕ) (bytes : List ℕ) → length bytes ≡ 0 → Holds m (segment at bytes)
unfolding list_at
empty_holds m at [] h = refl
empty_holds m at (b ∷ bs) h = absurd (omega arith)

part_holds : (m : Bytes) (at : ℕ) (bytes : List ℕ) → AllByRecursion (Holds m) (part_segment at bytes) → Holds m (segment at bytes)
part_holds m at bytes all = by (length bytes == 0) refl all
  where
    by : (b : Bool) → (length bytes == 0) ≡ b → AllByRecursion (Holds m) (if b then [] else segment at bytes ∷ []) → Holds m (segment at bytes)
    by true e all = empty_holds m at bytes (grind (arith, nat_tests))
    by false e all = all.0

-- the code of an object stands among instrumented code or among legacy code
code_holds : (m : Bytes) (legacy : Bool) (xs : List Segment) → AllByRecursion (Holds m) (if legacy then [] else xs) → AllByRecursion (Holds m) (if legacy then xs else []) → AllByRecursion (Holds m) xs
code_holds m true xs of_c of_legacy = of_legacy
code_holds m false xs of_c of_legacy = of_c

-- ---- the image

loaded : (v : Image) → IsImage v → AllByRecursion (Holds (bytes_in v)) v.segments
unfolding state_at_start
loaded v is = segments_stand v false [] is

all_hold : (os : List Object) (v : Image) → AreLinked os v → AllByRecursion (Holds (bytes_in v)) (segments mpx_gates os (plan_of os))
all_hold os v l = subst (λ (w : Image). AllByRecursion (Holds (bytes_in v)) w.segments) (passed os v l).image (loaded v (formed os v l))

pub parts_stand : (os : List Object) (v : Image) → AreLinked os v → HaveParts os (plan_of os) (bytes_in v)
parts_stand os v l =
    let plan = plan_of os in
    let m = bytes_in v in
    let outers : List Segment = numbered (outer_segment mpx_gates os plan) 0 (ids plan.functions) in
    let codes : List Segment = numbered (code_segment os plan) 0 os in
    let stubs : List Segment = numbered (stub_segment mpx_gates os plan) 0 (ids plan.stubs) in
    let legacies : List Segment = numbered (legacy_segment os plan) 0 os in
    let stored : List Segment = numbered (data_segment os plan) 0 os in
    let all = all_hold os v l in
    let five : AllByRecursion (Holds m) (outers ++ codes ++ stubs ++ legacies ++ stored) = all.1.1 in
    let four = all_before (Holds m) (outers ++ codes ++ stubs ++ legacies) stored five in
    let three = all_before (Holds m) (outers ++ codes ++ stubs) legacies four in
    let two = all_before (Holds m) (outers ++ codes) stubs three in
    let of_outers = all_before (Holds m) outers codes two in
    let of_codes = all_behind (Holds m) outers codes two in
    let of_stubs = all_behind (Holds m) (outers ++ codes) stubs three in
    let of_legacies = all_behind (Holds m) (outers ++ codes ++ stubs) legacies four in
    let of_stored = all_behind (Holds m) (outers ++ codes ++ stubs ++ legacies) stored five in
    record {
      start = all.0;
      landing = all.1.0;
      outer = λ f id h. (from_zero (Holds m) (outer_segment mpx_gates os plan) (ids plan.functions) of_outers f id h).0;
      stub = λ g id h. (from_zero (Holds m) (stub_segment mpx_gates os plan) (ids plan.stubs) of_stubs g id h).0;
      code = λ k o h. part_holds m (spot_of plan k).code (fixed_part os plan k o 1)
          (code_holds m o.legacy (part_segment (spot_of plan k).code (fixed_part os plan k o 1)) (from_zero (Holds m) (code_segment os plan) os of_codes k o h) (from_zero (Holds m) (legacy_segment os plan) os of_legacies k o h));
      stored = λ k o h. part_holds m (spot_of plan k).stored (fixed_part os plan k o 2) (from_zero (Holds m) (data_segment os plan) os of_stored k o h);
    }
