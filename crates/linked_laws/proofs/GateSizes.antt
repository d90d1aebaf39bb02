-- How many bytes the gates have.
use Rattle.std.proofs.Common.{◌≡◌, refl, sym, subst, ℕ, ◌-◌, ◌≤◌, Bool, true, false, if◌then◌else◌, List, [], length, slice_index, slice_range, arith}
use Rattle.obj_file.specs.Names.{is_function_sig}
use Rattle.call_sigs.specs.Signatures.{HasRegisters, signature_of}
use Rattle.call_gates.specs.Gates.{Code, size_of_code, bytes_of_code, start_gate, landing_gate, outer_gate, stub_gate, IsGate, InCode, InLegacyCode}
use Rattle.call_gates.proofs.Sound.{sound_size}
use Rattle.call_gates.proofs.Onward.{start_gates, landing_gates, stub_gates, outer_gates}
use Rattle.obj_linker.specs.Gating.{told_signature, mpx_gates}
use Rattle.obj_linker.proofs.Filing.{registers_of}

-- parameters that a text of a signature tells have registers
pub told_registers : (sig : List ℕ) → HasRegisters (told_signature sig)
unfolding told_signature
told_registers sig = by (is_function_sig sig) refl
  where
    by : (b : Bool) → is_function_sig sig ≡ b → HasRegisters (told_signature sig)
    by true e = registers_of sig e
    by false e =
        subst (λ b. HasRegisters (if b then signature_of (slice_index sig 1) (slice_range sig 3 (length sig - 1)) else signature_of 118 [])) (sym e)
        (record { few = omega arith; pointed = omega arith })

-- some bytes, and no more than there is room for
pub record HasSize (bytes : List ℕ) (most : ℕ) : Type 0 where
  pub some : 1 ≤ length bytes
  pub few : length bytes ≤ most

has_size : (code : Code) (most : ℕ) → 1 ≤ size_of_code code → IsGate code most → HasSize (bytes_of_code code) most
has_size code most some gate =
    let size = sound_size code gate.sound in
    let few = gate.fits in
    record { some = omega arith; few = omega arith }

pub start_size : (main : ℕ) → InCode main → HasSize (mpx_gates.start main) 66
unfolding mpx_gates
start_size main h = has_size (start_gate main) 66 (omega arith) (start_gates main h)

pub landing_size : HasSize mpx_gates.landing 32
unfolding mpx_gates
landing_size = has_size landing_gate 32 (omega arith) landing_gates

pub outer_size : (sig : List ℕ) (inner at : ℕ) → InCode inner → InCode at → HasSize (mpx_gates.outer sig inner at) 127
unfolding mpx_gates
outer_size sig inner at there here =
    has_size (outer_gate (told_signature sig) inner at) 127 (omega arith) (outer_gates (told_signature sig) inner at (told_registers sig) there here)

pub stub_size : (sig : List ℕ) (target at : ℕ) → InLegacyCode target → InCode at → HasSize (mpx_gates.stub sig target at) 122
unfolding mpx_gates
stub_size sig target at there here =
    has_size (stub_gate (told_signature sig) target at) 122 (omega arith) (stub_gates (told_signature sig) target at (told_registers sig) there here)
