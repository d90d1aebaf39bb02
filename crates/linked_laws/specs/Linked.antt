-- Objects that are linked.
use Rattle.std.specs.Prelude.{◌≡◌, ◌<◌, ℕ, Some, Ok, List, slice_get}
use Rattle.std.specs.List.{All}
use Rattle.mx_base.specs.Memory.{Bytes, no_bytes}
use Rattle.obj_file.specs.declared.object.Object.{Object}
use Rattle.obj_file.specs.declared.image.Image.{Image}
use Rattle.obj_file.specs.Loaded.{with_segments, Holds}
use Rattle.obj_file.specs.Object.{IsObject}
use Rattle.obj_linker.specs.declared.parts.SymbolId.{SymbolId}
use Rattle.obj_linker.specs.declared.plan.Plan.{Plan}
use Rattle.obj_linker.specs.Faults.{linked}
use Rattle.obj_linker.specs.Fixing.{meant_by, fixed_part}
use Rattle.obj_linker.specs.Gating.{mpx_gates}
use Rattle.obj_linker.specs.Image.{segment, start_at, landing_at, main_id}
use Rattle.obj_linker.specs.Placement.{spot_of, own_address, outer_at, stub_at}
use Rattle.obj_linker.specs.Symbols.{ids, sig_at}

-- objects that have an image
pub record AreLinked (os : List Object) (v : Image) : Type 0 where
  pub objects : All IsObject os
  pub image : linked mpx_gates os ≡ Ok v

-- what the parts of an object hold are bytes
pub record HoldsBytes (o : Object) : Type 0 where
  pub code : All (λ b. b < 256) o.code
  pub stored : All (λ b. b < 256) o.stored

-- the byte that an image has at each address
abbrev pub bytes_in : Image → Bytes
bytes_in v = with_segments no_bytes v.segments

-- ---- what stands where

-- each gate at its place, with the addresses that it knows, and each part of each object at its, with its fields filled
pub record HaveParts (os : List Object) (plan : Plan) (m : Bytes) : Type 0 where
  pub start : Holds m (segment start_at (mpx_gates.start (own_address os plan (main_id plan.definitions))))
  pub landing : Holds m (segment landing_at mpx_gates.landing)
  pub outer : (f : ℕ) (id : SymbolId) → slice_get (ids plan.functions) f ≡ Some id
      → Holds m (segment (outer_at f) (mpx_gates.outer (sig_at os id) (own_address os plan id) (outer_at f)))
  pub stub : (g : ℕ) (id : SymbolId) → slice_get (ids plan.stubs) g ≡ Some id
      → Holds m (segment (stub_at plan g) (mpx_gates.stub (sig_at os id) (own_address os plan (meant_by os plan id)) (stub_at plan g)))
  pub code : (k : ℕ) (o : Object) → slice_get os k ≡ Some o → Holds m (segment (spot_of plan k).code (fixed_part os plan k o 1))
  pub stored : (k : ℕ) (o : Object) → slice_get os k ≡ Some o → Holds m (segment (spot_of plan k).stored (fixed_part os plan k o 2))
