-- A linked image is loaded as a start wants it.
use Rattle.std.proofs.Common.{◌≡◌, refl, sym, ap, ◌∙◌, subst, ℕ, ◌==◌, not, ◌&&◌, Bool, true, false, if◌then◌else◌, Option, None, Some, List, [], ◌∷◌, eqb-true, arith}
use Rattle.std.specs.List.{All}
use Rattle.std.specs.Option.{unwrap_or}
use Rattle.std.specs.Str.{bytes_eq}
use Rattle.std.proofs.lemmas.Bool.{and_parts}
use Rattle.std.proofs.lemmas.Slice.Eq.{bytes_eq-Decides}
use Rattle.mx_base.specs.declared.numbers.IntKind.TheVariants.{I32}
use Rattle.obj_file.specs.declared.object.Object.{Object}
use Rattle.obj_file.specs.declared.image.Image.{Image}
use Rattle.obj_file.specs.Machine.{Reading, IsReader}
use Rattle.obj_file.specs.Names.{is_function_sig, are_parameters}
use Rattle.obj_file.specs.Stored.{stored_at_start}
use Rattle.call_sigs.specs.Signatures.{Of}
use Rattle.call_gates.specs.Gates.{start_at, start_gate}
use Rattle.call_gates.proofs.Onward.{start_gates}
use Rattle.gate_laws.specs.Owed.{IsLoaded}
use Rattle.gate_laws.specs.Placed.{IsPlaced}
use Rattle.obj_linker.specs.declared.fault.LinkFault.TheVariants.{NoMain}
use Rattle.obj_linker.specs.declared.parts.SymbolId.{SymbolId}
use Rattle.obj_linker.specs.Symbols.{symbols, symbol_at, symbol_id, sig_at, is_import, is_code, is_legacy_at, is_c_function, find, definitions}
use Rattle.obj_linker.specs.Placement.{plan_of, own_address}
use Rattle.obj_linker.specs.Gating.{mpx_gates, told_signature}
use Rattle.obj_linker.specs.Image.{main_name, main_id}
use Rattle.obj_linker.specs.Faults.{no_main, is_main, main_sig}
use Rattle.linked_laws.specs.Linked.{AreLinked, HoldsBytes, bytes_in}
use Rattle.linked_laws.specs.Linkage.{function_at, inner_of, linkage_of, main_of}
use Rattle.linked_laws.proofs.Answer.{passed}
use Rattle.linked_laws.proofs.Bytes.{image_of_bytes}
use Rattle.linked_laws.proofs.Gated.{gate_placed}
use Rattle.linked_laws.proofs.Main.{found_too, IsThere, there}
use Rattle.linked_laws.proofs.Standing.{parts_stand}

-- the symbol that defines `main`
record IsMain (os : List Object) (id : SymbolId) : Type 0 where
  found : find main_name (definitions os) ≡ Some id
  own : is_c_function os id ≡ true
  sig : bytes_eq (sig_at os id) main_sig ≡ true

record HasMain (os : List Object) : Type 0 where
  id : SymbolId
  is : IsMain os id

has_main : (os : List Object) → no_main os (definitions os) ≡ [] → HasMain os
has_main os none = by (find main_name (definitions os)) refl none
  where
    inner : (id : SymbolId) → find main_name (definitions os) ≡ Some id → (b : Bool) → (is_c_function os id && bytes_eq (sig_at os id) main_sig) ≡ b → (if b then [] else NoMain ∷ []) ≡ [] → HasMain os
    inner id found true e h =
        let two = and_parts (is_c_function os id) (bytes_eq (sig_at os id) main_sig) e in
        record { id = id; is = record { found = found; own = two.0; sig = two.1 } }
    inner id found false e h = cc

    by : (x : Option SymbolId) → find main_name (definitions os) ≡ x → (if is_main os x then [] else NoMain ∷ []) ≡ [] → HasMain os
    by None e h = cc
    by (Some id) e h = inner id e (is_c_function os id && bytes_eq (sig_at os id) main_sig) refl h

-- a C function is a definition
pub defined : (os : List Object) (id : SymbolId) → is_c_function os id ≡ true → not (is_import os id) ≡ true
defined os id h =
    let code = and_parts (not (is_legacy_at os id)) (is_code os id) h in
    subst (λ (n : ℕ). not (n == 0) ≡ true) (sym (eqb-true (symbol_at os id).part 1 code.1)) refl

main_there : (os : List Object) (m : HasMain os) → IsThere main_name (plan_of os).functions m.id (main_of os)
main_there os m =
    there main_name (plan_of os).functions m.id
    (found_too os main_name (λ id. not (is_import os id)) (is_c_function os) (defined os) (symbols os) m.id m.is.own m.is.found)

main_signature : told_signature main_sig ≡ record { result = Of I32; parameters = [] }
unfolding told_signature is_function_sig are_parameters
main_signature = refl

module _ (reads : List ℕ → Reading) (reader : IsReader reads) (preserve : Bool) (os : List Object) (v : Image) (l : AreLinked os v) where
  start_placed : (id : SymbolId) → main_id (definitions os) ≡ id → function_at os (main_of os) ≡ id → IsPlaced (linkage_of reads preserve os) (bytes_in v) start_at (start_gate (inner_of os (main_of os)))
  unfolding mpx_gates
  start_placed id is same =
      let placed = gate_placed reads reader preserve os v l (start_gate (own_address os (plan_of os) (main_id (definitions os)))) 66 start_at
      (start_gates (own_address os (plan_of os) (main_id (definitions os))) (passed os v l).reach.main) (omega arith) (omega arith) (parts_stand os v l).start in
      subst (λ i. IsPlaced (linkage_of reads preserve os) (bytes_in v) start_at (start_gate (own_address os (plan_of os) i))) (is ∙ sym same) placed

  pub loaded_so : All HoldsBytes os → (input : List ℕ) → IsLoaded (linkage_of reads preserve os) (bytes_in v) (inner_of os) (main_of os) (bytes_in v) (stored_at_start v.segments preserve input).memory
  unfolding stored_at_start
  loaded_so hold input =
      let m = has_main os (passed os v l).main in
      let at = main_there os m in
      let same : function_at os (main_of os) ≡ m.id = ap (λ x. unwrap_or x (symbol_id 0 0)) at.got in
      record {
        few = at.few;
        is_main = ap (λ id. told_signature (sig_at os id)) same ∙ (ap told_signature ((bytes_eq-Decides (sig_at os m.id) main_sig).0 m.is.sig) ∙ main_signature);
        start = start_placed m.id (ap (λ x. unwrap_or x (symbol_id 0 0)) m.is.found) same;
        code = record { each_byte = image_of_bytes os v l hold; code = λ a h. refl };
        unsealed = λ a h. refl;
        empty = refl;
      }
