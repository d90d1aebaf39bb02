-- What is read in a linked image: the fields of fix-ups, and the bytes beside them.
use Rattle.std.specs.Prelude.{◌≡◌, ◌≢◌, ◌≤◌, ◌<◌, ℕ, ◌+◌, ◌%◌, ◌^◌, ℤ, Some, List, length, get_or, slice_get}
use Rattle.std.specs.List.{AllByRecursion}
use Rattle.std.specs.Int.{w32, w64, cast_signed, cast_unsigned}
use Rattle.mx_base.specs.Memory.{Bytes, list_at, number_at}
use Rattle.obj_file.specs.declared.object.Object.{Object}
use Rattle.obj_file.specs.declared.object.Fix.{Fix}
use Rattle.obj_file.specs.Object.{fix_size}
use Rattle.obj_linker.specs.declared.plan.Plan.{Plan}
use Rattle.obj_linker.specs.Fixing.{field_at, field_bytes, fix_value}
use Rattle.obj_linker.specs.Placement.{spot_of}

-- a field holds a value: 8 bytes are the value modulo 2^64, and 4 bytes are the value as a signed number
pub record HoldsValue (m : Bytes) (at form : ℕ) (value : ℤ) : Type 0 where
  pub bytes : list_at (fix_size form) m at ≡ field_bytes form value
  pub long : form ≡ 0 → number_at 8 m at ≡ cast_unsigned w64 value % 2 ^ 64
  pub short : form ≢ 0 → cast_signed w32 (number_at 4 m at) ≡ value

-- a byte of a part that isn't in the field of a fix-up
abbrev pub IsBeside : (part i : ℕ) → Fix → Type 0
IsBeside part i f = f.part ≡ part → f.offset ≤ i → i < f.offset + fix_size f.form → ⊥

-- of each object: its fields hold their values, and all other bytes of its parts are as they were
pub record AreFilled (os : List Object) (plan : Plan) (m : Bytes) : Type 0 where
  pub fields : (k : ℕ) (o : Object) → slice_get os k ≡ Some o → (n : ℕ) (f : Fix) → slice_get o.fixes n ≡ Some f
      → HoldsValue m (field_at plan k f) f.form (fix_value os plan k o f)
  pub code : (k : ℕ) (o : Object) → slice_get os k ≡ Some o → (i : ℕ) → i < length o.code → AllByRecursion (IsBeside 1 i) o.fixes
      → m ((spot_of plan k).code + i) ≡ get_or o.code i 0
  pub stored : (k : ℕ) (o : Object) → slice_get os k ≡ Some o → (i : ℕ) → i < length o.stored → AllByRecursion (IsBeside 2 i) o.fixes
      → m ((spot_of plan k).stored + i) ≡ get_or o.stored i 0
