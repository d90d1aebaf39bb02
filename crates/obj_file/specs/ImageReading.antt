-- An image in bytes, a field a line.
use Rattle.std.specs.Prelude.{ℕ, ◌+◌, ◌^◌, ◌&&◌, true, nat_le, nat_lt, max, List, length, Result, Ok}
use Rattle.std.specs.Int.{w8, w32, w64}
use Rattle.std.specs.Str.{is_utf8}
use Rattle.mx_base.specs.Regions.{instrumented_code, region_end}
use Rattle.obj_file.specs.declared.image.Image.{Image}
use Rattle.obj_file.specs.declared.image.Segment.{Segment}
use Rattle.obj_file.specs.declared.image.Spot4.{Spot4}
use Rattle.obj_file.specs.declared.parts.Version.{Version}
use Rattle.obj_file.specs.declared.parts.Version.TheVariants.{First, Second}
use Rattle.obj_file.specs.Fields.{◌>>=◌, number_at, number_in, checked, sized_at, counted_at, whole}
use Rattle.obj_file.specs.Versions.{version_at, access_at}
use Rattle.obj_file.specs.Image.{room_at, segment_end, after_place, image_magic}

unfoldable pub segment_start_at : ℕ → List ℕ → Result (ℕ × List ℕ) ℕ
segment_start_at from bytes = checked (λ at. nat_le from at && nat_lt 0 (room_at at)) (number_at w64) bytes

unfoldable pub segment_at : ℕ → List ℕ → Result (Segment × List ℕ) ℕ
segment_at from bytes = do
  at ← segment_start_at from bytes
  held ← sized_at w32 1 (room_at at.0 + 1) (λ _. true) at.1
  Ok (record { at = at.0; bytes = held.0 }, held.1)

unfoldable pub file_at : List ℕ → Result (List ℕ × List ℕ) ℕ
file_at bytes = sized_at w8 1 256 is_utf8 bytes

unfoldable pub place_at : Version → ℕ → ℕ → List ℕ → Result (Spot4 × List ℕ) ℕ
place_at version files from bytes = do
  at ← number_in w64 (max from instrumented_code.from) (region_end instrumented_code) bytes
  file ← number_in w32 0 files at.1
  line ← number_in w32 1 (2 ^ 32) file.1
  col ← number_in w32 1 (2 ^ 32) line.1
  access ← access_at version col.1
  Ok (record { at = at.0; file = file.0; line = line.0; col = col.0; kind = access.0.kind; size = access.0.size }, access.1)

unfoldable pub image_at : List ℕ → Result (Image × List ℕ) ℕ
image_at bytes = do
  version ← version_at (image_magic First) (image_magic Second) bytes
  outers ← number_in w32 0 (65_536 + 1) version.1
  segments ← counted_at {S = ℕ} segment_at segment_end 262_144 0 outers.1
  files ← counted_at {S = ℕ} (λ _. file_at) (λ n _. n) 65_536 0 segments.1
  places ← counted_at {S = ℕ} (place_at version.0 (length files.0)) after_place 1_048_576 0 files.1
  Ok (record { outers = outers.0; segments = segments.0; files = files.0; places = places.0 }, places.1)

-- the image that the bytes spell, in either version, or the offset of what is bad
unfoldable pub image_of : List ℕ → Result Image ℕ
image_of bytes = whole image_at bytes
