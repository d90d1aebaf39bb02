-- Code that stands in memory: what is read at each of its addresses.
use Rattle.std.specs.Prelude.{◌≡◌, ◌≤◌, ℕ, ◌+◌, true, [], ◌∷◌}
use Rattle.mx_base.specs.Memory.{Bytes, AreBytes}
use Rattle.mx_base.specs.Regions.{instrumented_code, is_in}
use Rattle.x86_forms.specs.declared.instr.Instr.{Instr}
use Rattle.obj_file.specs.Machine.{State, Is, reading_at}
use Rattle.obj_file.specs.Stored.{Stored}
use Rattle.call_gates.specs.Gates.{Code}
use Rattle.legacy_calls.specs.Legacy.{Linkage, ground}

-- a memory whose instrumented code is that of an image
pub record HasCode (image : Bytes) (y : Stored) : Type 0 where
  pub each_byte : AreBytes y.bytes
  pub code : (a : ℕ) → is_in instrumented_code a ≡ true → y.bytes a ≡ image a

-- an instruction that stands at an address of the image
pub record StandsAt (k : Linkage) (image : Bytes) (at : ℕ) (i : Instr) (size : ℕ) : Type 0 where
  pub inside : is_in instrumented_code at ≡ true
  pub small : size ≤ 15
  pub reads : (s : State Stored) → s.processor.rip ≡ at → HasCode image s.memory → reading_at (ground k) s ≡ Is i size

abbrev pub IsPlaced : Linkage → Bytes → ℕ → Code → Type 0
IsPlaced k image at [] = Unit {0}
IsPlaced k image at (x ∷ rest) = StandsAt k image at x.0 x.1 × IsPlaced k image (at + x.1) rest
