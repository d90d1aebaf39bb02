-- An object in bytes, a field a line.
use Rattle.std.specs.Prelude.{ℕ, ℤ, ◌+◌, ◌^◌, ◌&&◌, true, nat_eq, nat_le, nat_lt, List, [], length, Result, Ok}
use Rattle.std.specs.Int.{w8, w32, w64, cast_signed}
use Rattle.std.specs.Str.{is_utf8}
use Rattle.obj_file.specs.declared.object.Object.{Object}
use Rattle.obj_file.specs.declared.object.Symbol.{Symbol}
use Rattle.obj_file.specs.declared.object.Fix.{Fix}
use Rattle.obj_file.specs.declared.object.Spot3.{Spot3}
use Rattle.obj_file.specs.declared.parts.Version.{Version}
use Rattle.obj_file.specs.declared.parts.Version.TheVariants.{First, Second}
use Rattle.obj_file.specs.declared.parts.Parts.{Parts}
use Rattle.obj_file.specs.declared.parts.End.{End}
use Rattle.obj_file.specs.declared.parts.Head.{Head}
use Rattle.obj_file.specs.Fields.{◌>>=◌, number_at, number_in, checked, sized_at, counted_at, whole}
use Rattle.obj_file.specs.Versions.{version_at, access_at}
use Rattle.obj_file.specs.Object.{part_len, most_code, is_free_name, suits, least_sig, after_symbol, fix_size, fix_end, free_from, no_fix, most_places, after_spot, object_magic}

unfoldable pub symbol_at : Parts → List Symbol → List ℕ → Result (Symbol × List ℕ) ℕ
symbol_at parts seen bytes = do
  part ← number_in w8 0 3 bytes
  offset ← number_in w32 0 (part_len parts part.0 + 1) part.1
  name ← sized_at w8 1 64 (is_free_name seen) offset.1
  sig ← sized_at w8 (least_sig parts.legacy) 64 (suits part.0) name.1
  Ok (record { part = part.0; offset = offset.0; name = name.0; sig = sig.0 }, sig.1)

unfoldable pub form_at : Parts → ℕ → ℕ → List ℕ → Result (ℕ × List ℕ) ℕ
form_at parts part offset bytes = checked (λ form. nat_lt form 3 && nat_le (offset + fix_size form) (part_len parts part)) (number_at w8) bytes

-- a number in two's complement
unfoldable pub addend_at : List ℕ → Result (ℤ × List ℕ) ℕ
addend_at bytes = do
  n ← number_at w64 bytes
  Ok (cast_signed w64 n.0, n.1)

unfoldable pub fix_at : Parts → ℕ → End → List ℕ → Result (Fix × List ℕ) ℕ
fix_at parts symbols before bytes = do
  part ← number_in w8 before.part 3 bytes
  offset ← number_in w32 (free_from before part.0) (2 ^ 32) part.1
  form ← form_at parts part.0 offset.0 offset.1
  symbol ← number_in w32 0 symbols form.1
  addend ← addend_at symbol.1
  Ok (record { part = part.0; offset = offset.0; form = form.0; symbol = symbol.0; addend = addend.0 }, addend.1)

unfoldable pub spot_at : Version → ℕ → ℕ → List ℕ → Result (Spot3 × List ℕ) ℕ
spot_at version code from bytes = do
  offset ← number_in w32 from code bytes
  line ← number_in w32 1 (2 ^ 32) offset.1
  col ← number_in w32 1 (2 ^ 32) line.1
  access ← access_at version col.1
  Ok (record { offset = offset.0; line = line.0; col = col.0; kind = access.0.kind; size = access.0.size }, access.1)

-- what stands before the symbols
unfoldable pub head_at : List ℕ → Result (Head × List ℕ) ℕ
head_at bytes = do
  version ← version_at (object_magic First) (object_magic Second) bytes
  kind ← number_in w8 0 2 version.1
  file ← sized_at w8 0 256 is_utf8 kind.1
  code ← sized_at w32 0 (most_code (nat_eq kind.0 0) + 1) (λ _. true) file.1
  stored ← sized_at w32 0 (16_777_216 + 1) (λ _. true) code.1
  Ok (record { version = version.0; legacy = nat_eq kind.0 0; file = file.0; code = code.0; stored = stored.0 }, stored.1)

abbrev pub head_parts : Head → Parts
head_parts h = record { legacy = h.legacy; code = length h.code; stored = length h.stored }

unfoldable pub object_at : List ℕ → Result (Object × List ℕ) ℕ
object_at bytes = do
  head ← head_at bytes
  symbols ← counted_at {S = List Symbol} (symbol_at (head_parts head.0)) after_symbol 65_536 [] head.1
  fixes ← counted_at {S = End} (fix_at (head_parts head.0) (length symbols.0)) fix_end 1_048_576 no_fix symbols.1
  places ← counted_at {S = ℕ} (spot_at head.0.version (length head.0.code)) after_spot (most_places head.0.legacy) 0 fixes.1
  Ok (record { legacy = head.0.legacy; file = head.0.file; code = head.0.code; stored = head.0.stored; symbols = symbols.0; fixes = fixes.0; places = places.0 }, places.1)

-- the object that the bytes spell, in either version, or the offset of what is bad
unfoldable pub object_of : List ℕ → Result Object ℕ
object_of bytes = whole object_at bytes
