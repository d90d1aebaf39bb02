-- The image of linked objects keeps all rules of images.
use Rattle.std.proofs.Common.{◌≡◌, refl, sym, ap, ◌∙◌, subst, ℕ, ◌+◌, List, [], ◌∷◌, ◌++◌, length, slice_get, arith, length-append}
use Rattle.std.proofs.lemmas.List.{length-map}
use Rattle.obj_file.specs.declared.object.Object.{Object}
use Rattle.obj_file.specs.declared.image.Image.{Image}
use Rattle.obj_file.specs.declared.image.Segment.{Segment}
use Rattle.obj_file.specs.Object.{IsObject}
use Rattle.obj_file.specs.Image.{IsImage}
use Rattle.obj_linker.specs.declared.parts.SymbolId.{SymbolId}
use Rattle.obj_linker.specs.declared.plan.Plan.{Plan}
use Rattle.obj_linker.specs.Symbols.{numbered, ids}
use Rattle.obj_linker.specs.Placement.{starts, ends_of, plan_of}
use Rattle.obj_linker.specs.Gating.{mpx_gates}
use Rattle.obj_linker.specs.Image.{segments, image_of, files, places, outer_segment, stub_segment, code_segment, legacy_segment, data_segment}
use Rattle.obj_linker.specs.Faults.{count_of_segments}
use Rattle.obj_linker.proofs.Members.{by_recursion}
use Rattle.linked_laws.specs.Linked.{AreLinked}
use Rattle.linked_laws.proofs.Between.{in_turn}
use Rattle.linked_laws.proofs.Answer.{passed, segments_between, placed_at_starts, code_room}
use Rattle.linked_laws.proofs.Files.{file_names, count_of_files, places_between, places_in_turn, places_lower, count_places, count_parts}

-- one for each
numbered_once : {A : Type 0} (f : ℕ → SymbolId → List A) → ((n : ℕ) (id : SymbolId) → length (f n id) ≡ 1) → (n : ℕ) (xs : List SymbolId) → length (numbered f n xs) ≡ length xs
numbered_once f one n [] = refl
numbered_once f one n (id ∷ xs) =
    let a = length-append (f n id) (numbered f (n + 1) xs) in
    let b = one n id in
    let c = numbered_once f one (n + 1) xs in
    omega arith

count_segments : (os : List Object) (plan : Plan) → length (segments mpx_gates os plan) ≡ count_of_segments os plan
count_segments os plan =
    let outers : List Segment = numbered (outer_segment mpx_gates os plan) 0 (ids plan.functions) in
    let codes : List Segment = numbered (code_segment os plan) 0 os in
    let stubs : List Segment = numbered (stub_segment mpx_gates os plan) 0 (ids plan.stubs) in
    let legacies : List Segment = numbered (legacy_segment os plan) 0 os in
    let stored : List Segment = numbered (data_segment os plan) 0 os in
    let a = length-append (outers ++ codes ++ stubs ++ legacies) stored in
    let b = length-append (outers ++ codes ++ stubs) legacies in
    let c = length-append (outers ++ codes) stubs in
    let d = length-append outers codes in
    let e = numbered_once (outer_segment mpx_gates os plan) (λ n id. refl) 0 (ids plan.functions) in
    let f = numbered_once (stub_segment mpx_gates os plan) (λ n id. refl) 0 (ids plan.stubs) in
    let g = count_parts os plan 0 os in
    let h = length-map plan.functions (λ (e : List ℕ × SymbolId). e.1) in
    let i = length-map plan.stubs (λ (e : List ℕ × SymbolId). e.1) in
    omega arith

formed_image : (os : List Object) (v : Image) → AreLinked os v → IsImage (image_of mpx_gates os)
formed_image os v l =
    let p = passed os v l in
    let s = p.sizes in
    let plan = plan_of os in
    let objects = by_recursion IsObject os l.objects in
    let few = s.segments in
    let count = count_segments os plan in
    let few_files = s.files in
    let count_files = count_of_files os in
    let few_places = s.places in
    let counted = count_places os plan 0 os in
    record {
      few_outers = s.functions;
      few_segments = omega arith;
      segments = in_turn 0 0x2100_0000 (segments mpx_gates os plan) (segments_between os v l);
      few_files = omega arith;
      files = file_names os objects;
      few_places = omega arith;
      places = places_in_turn (length (files os)) 0 (ends_of os).code (places os plan)
          (places_lower (length (files os)) 0 0x0200_0000 (ends_of os).code (places os plan) (omega arith)
          (places_between os plan 0 os starts objects (λ j o h. ap (slice_get os) (let e : 0 + j ≡ j = omega arith in e) ∙ h) (placed_at_starts os) (omega arith) (code_room os v l)));
    }

pub formed : (os : List Object) (v : Image) → AreLinked os v → IsImage v
formed os v l = subst IsImage (sym (passed os v l).image) (formed_image os v l)
