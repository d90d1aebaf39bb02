-- The gates of images: their code, by the texts of signatures.
use Rattle.std.specs.Prelude.{ℕ, ◌-◌, ◌<◌, if◌then◌else◌, List, [], length, slice_index, slice_range}
use Rattle.std.specs.List.{All}
use Rattle.obj_file.specs.declared.object.Object.{Object}
use Rattle.obj_file.specs.Names.{is_function_sig}
use Rattle.call_sigs.specs.Signatures.{Signature, signature_of}
use Rattle.call_gates.specs.Gates.{bytes_of_code, start_gate, landing_gate, outer_gate, stub_gate, InCode, InLegacyCode}
use Rattle.obj_linker.specs.declared.plan.Plan.{Plan}
use Rattle.obj_linker.specs.Symbols.{ids}
use Rattle.obj_linker.specs.Placement.{own_address, stub_at}
use Rattle.obj_linker.specs.Fixing.{meant_by}
use Rattle.obj_linker.specs.Image.{Gates, main_id}

-- the signature that a text tells: the letter of the result is the second, those of the parameters stand between the parentheses; a
-- text that is none of a function's tells of one without parameters and result
unfoldable pub told_signature : List ℕ → Signature
told_signature sig =
    if is_function_sig sig then signature_of (slice_index sig 1) (slice_range sig 3 (length sig - 1)) else signature_of 118 []

-- the bytes of the gates
unfoldable pub mpx_gates : Gates
mpx_gates = record {
  start = λ main. bytes_of_code (start_gate main);
  landing = bytes_of_code landing_gate;
  outer = λ sig inner at. bytes_of_code (outer_gate (told_signature sig) inner at);
  stub = λ sig target at. bytes_of_code (stub_gate (told_signature sig) target at);
}

-- each address that a gate knows is one of code of its kind
pub record GatesReach (os : List Object) (plan : Plan) : Type 0 where
  pub main : InCode (own_address os plan (main_id plan.definitions))
  pub inner : All (λ id. InCode (own_address os plan id)) (ids plan.functions)
  pub target : All (λ id. InLegacyCode (own_address os plan (meant_by os plan id))) (ids plan.stubs)
  pub stubs : (number : ℕ) → number < length plan.stubs → InCode (stub_at plan number)
