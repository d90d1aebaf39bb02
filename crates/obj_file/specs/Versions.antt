-- The two versions of the forms of objects and images. The second, which is written, tells at each place the access that is checked
-- there; the first, which is still read, doesn't.
use Rattle.std.specs.Prelude.{◌≡◌, ℕ, ◌+◌, ◌≤◌, ◌==◌, if◌then◌else◌, List, [], ◌++◌, length, Result, Ok, Err}
use Rattle.std.specs.Int.{w8, w32}
use Rattle.obj_file.specs.declared.parts.Version.{Version}
use Rattle.obj_file.specs.declared.parts.Version.TheVariants.{First, Second}
use Rattle.obj_file.specs.declared.parts.Access.{Access}
use Rattle.obj_file.specs.InTurn.{le}
use Rattle.obj_file.specs.Fields.{◌>>=◌, number_at, number_in}

-- ---- accesses

-- of an access of unknown kind the size is 0; one that is known has at least a byte
abbrev pub least_size : ℕ → ℕ
least_size kind = if kind == 0 then 0 else 1

abbrev pub most_size : ℕ → ℕ
most_size kind = if kind == 0 then 0 else 16_777_216

-- kind 0 is unknown, 1 a read, 2 a write
pub record IsAccess (kind size : ℕ) : Type 0 where
  pub known : kind ≤ 2
  pub least : least_size kind ≤ size
  pub most : size ≤ most_size kind

-- the kinds that a version can tell: the first tells none
abbrev pub Shows : Version → ℕ → Type 0
Shows First kind = kind ≡ 0
Shows Second kind = Unit {0}

-- ---- in bytes

unfoldable pub access_text : Version → ℕ → ℕ → List ℕ
access_text First kind size = []
access_text Second kind size = le w8 kind ++ le w32 size

unfoldable pub access_at : Version → List ℕ → Result (Access × List ℕ) ℕ
access_at First bytes = Ok (record { kind = 0; size = 0 }, bytes)
access_at Second bytes = do
  kind ← number_in w8 0 3 bytes
  size ← number_in w32 (least_size kind.0) (most_size kind.0 + 1) kind.1
  Ok (record { kind = kind.0; size = size.0 }, size.1)

-- the version by its magic number, of which there are two
unfoldable pub version_at : ℕ → ℕ → List ℕ → Result (Version × List ℕ) ℕ
version_at first second bytes = do
  magic ← number_at w32 bytes
  if magic.0 == first then Ok (First, magic.1) else if magic.0 == second then Ok (Second, magic.1) else Err (length bytes)
