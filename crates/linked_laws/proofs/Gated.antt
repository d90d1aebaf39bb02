-- The gates of a linked image stand where the laws of gates want them.
use Rattle.std.proofs.Common.{◌≡◌, refl, sym, ap, ◌∙◌, ℕ, zero, suc, ◌+◌, ◌<◌, ◌≤◌, Bool, Some, List, [], ◌∷◌, length, slice_get, arith}
use Rattle.std.specs.List.{AllByRecursion}
use Rattle.std.specs.Option.{unwrap_or}
use Rattle.std.proofs.lemmas.List.{length-map}
use Rattle.mx_base.specs.Memory.{list_at}
use Rattle.obj_file.specs.declared.object.Object.{Object}
use Rattle.obj_file.specs.declared.image.Image.{Image}
use Rattle.obj_file.specs.Loaded.{Holds}
use Rattle.obj_file.specs.Machine.{Reading, IsReader}
use Rattle.call_gates.specs.Gates.{Code, bytes_of_code, landing_gate, landing_at, stub_gate, outer_gate, InCode, InLegacyCode, IsGate}
use Rattle.call_gates.proofs.Sound.{sound_size}
use Rattle.call_gates.proofs.Onward.{landing_gates, stub_gates, outer_gates}
use Rattle.gate_laws.specs.Owed.{IsLinked, IsStub, IsOuter}
use Rattle.gate_laws.specs.Placed.{IsPlaced}
use Rattle.gate_laws.proofs.Placing.{placed_by_bytes}
use Rattle.obj_linker.specs.declared.parts.SymbolId.{SymbolId}
use Rattle.obj_linker.specs.Symbols.{ids, sig_at, symbol_id}
use Rattle.obj_linker.specs.Placement.{plan_of, own_address, outer_at}
use Rattle.obj_linker.specs.Fixing.{meant_by}
use Rattle.obj_linker.specs.Gating.{mpx_gates, told_signature}
use Rattle.obj_linker.specs.Image.{segment}
use Rattle.obj_linker.proofs.Members.{by_recursion}
use Rattle.linked_laws.specs.Linked.{AreLinked, bytes_in}
use Rattle.linked_laws.specs.Linkage.{function_at, called_at, inner_of, stub_of, linkage_of}
use Rattle.linked_laws.proofs.Answer.{passed, stub_room}
use Rattle.linked_laws.proofs.GateSizes.{told_registers}
use Rattle.linked_laws.proofs.Standing.{parts_stand}

pub got_there : {X : Type 0} (xs : List X) (k : ℕ) (d : X) → k < length xs → slice_get xs k ≡ Some (unwrap_or (slice_get xs k) d)
got_there [] k d h = absurd (let no : ⊥ = omega (arith, h) in no)
got_there (x ∷ xs) zero d h = refl
got_there (x ∷ xs) (suc k) d h = got_there xs k d (let less : k < length xs = omega (arith, h) in less)

-- what all keep, one that is got keeps
pub got_keeps : {X : Type 0} (P : X → Type 0) (xs : List X) (k : ℕ) (d : X) → AllByRecursion P xs → k < length xs → P (unwrap_or (slice_get xs k) d)
got_keeps P [] k d all h = absurd (let no : ⊥ = omega (arith, h) in no)
got_keeps P (x ∷ xs) zero d all h = all.0
got_keeps P (x ∷ xs) (suc k) d all h = got_keeps P xs k d all.1 (let less : k < length xs = omega (arith, h) in less)

module _ (reads : List ℕ → Reading) (reader : IsReader reads) (preserve : Bool) (os : List Object) (v : Image) (l : AreLinked os v) where
  pub gate_placed : (code : Code) (most at : ℕ) → IsGate code most → 0x0100_0000 ≤ at → at + most ≤ 0x1100_0000 → Holds (bytes_in v) (segment at (bytes_of_code code))
      → IsPlaced (linkage_of reads preserve os) (bytes_in v) at code
  gate_placed code most at gate low high holds =
      let size = sound_size code gate.sound in
      let few = gate.fits in
      placed_by_bytes (linkage_of reads preserve os) reader (bytes_in v) code at gate.sound low (omega arith) (ap (λ n. list_at n (bytes_in v) at) (sym size) ∙ holds)

  landing_placed : IsPlaced (linkage_of reads preserve os) (bytes_in v) landing_at landing_gate
  unfolding mpx_gates
  landing_placed = gate_placed landing_gate 32 landing_at landing_gates (omega arith) (omega arith) (parts_stand os v l).landing

  few_functions : (f : ℕ) → f < length (plan_of os).functions → f < length (ids (plan_of os).functions)
  few_functions f less = (let same = length-map (plan_of os).functions (λ (e : List ℕ × SymbolId). e.1) in omega arith)

  few_stubs : (g : ℕ) → g < length (plan_of os).stubs → g < length (ids (plan_of os).stubs)
  few_stubs g less = (let same = length-map (plan_of os).stubs (λ (e : List ℕ × SymbolId). e.1) in omega arith)

  inner_there : (f : ℕ) → f < length (plan_of os).functions → InCode (inner_of os f)
  inner_there f less =
      got_keeps (λ id. InCode (own_address os (plan_of os) id)) (ids (plan_of os).functions) f (symbol_id 0 0)
      (by_recursion (λ id. InCode (own_address os (plan_of os) id)) (ids (plan_of os).functions) (passed os v l).reach.inner) (few_functions f less)

  begins_there : (g : ℕ) → g < length (plan_of os).stubs → InLegacyCode (own_address os (plan_of os) (meant_by os (plan_of os) (called_at os g)))
  begins_there g less =
      got_keeps (λ id. InLegacyCode (own_address os (plan_of os) (meant_by os (plan_of os) id))) (ids (plan_of os).stubs) g (symbol_id 0 0)
      (by_recursion (λ id. InLegacyCode (own_address os (plan_of os) (meant_by os (plan_of os) id))) (ids (plan_of os).stubs) (passed os v l).reach.target) (few_stubs g less)

  outer_there : (f : ℕ) → f < length (plan_of os).functions → IsOuter (linkage_of reads preserve os) (bytes_in v) f (inner_of os f)
  unfolding mpx_gates
  outer_there f less =
      let sig = told_signature (sig_at os (function_at os f)) in
      let fits = told_registers (sig_at os (function_at os f)) in
      let there = inner_there f less in
      let most = (passed os v l).sizes.functions in
      let here : InCode (outer_at f) = (omega arith, omega arith) in
      let high = there.1 in
      record {
        few = fits.few;
        few_pointers = fits.pointed;
        near = omega arith;
        placed = gate_placed (outer_gate sig (inner_of os f) (outer_at f)) 127 (outer_at f) (outer_gates sig (inner_of os f) (outer_at f) fits there here) here.0 (omega arith)
            ((parts_stand os v l).outer f (function_at os f) (got_there (ids (plan_of os).functions) f (symbol_id 0 0) (few_functions f less)));
      }

  stub_there : (g : ℕ) → g < length (plan_of os).stubs → IsStub (linkage_of reads preserve os) (bytes_in v) g (stub_of os g)
  unfolding mpx_gates
  stub_there g less =
      let sig = told_signature (sig_at os (called_at os g)) in
      let fits = told_registers (sig_at os (called_at os g)) in
      let there = begins_there g less in
      let room = stub_room os v l g less in
      let here : InCode (stub_of os g) = (omega (arith, room.0), omega (arith, room.1)) in
      let target : ℕ = own_address os (plan_of os) (meant_by os (plan_of os) (called_at os g)) in
      record {
        low = room.0;
        high = room.1;
        target_low = there.0;
        target_high = there.1;
        few = fits.few;
        few_pointers = fits.pointed;
        placed = gate_placed (stub_gate sig target (stub_of os g)) 122 (stub_of os g) (stub_gates sig target (stub_of os g) fits there here) here.0 (omega (arith, room.1))
            ((parts_stand os v l).stub g (called_at os g) (got_there (ids (plan_of os).stubs) g (symbol_id 0 0) (few_stubs g less)));
      }

  pub gates_stand : IsLinked (linkage_of reads preserve os) (bytes_in v) (inner_of os) (stub_of os)
  gates_stand = record {
    few_outers = (passed os v l).sizes.functions;
    landing = landing_placed;
    stubs = stub_there;
    outers = outer_there;
  }
