-- Images: which there are, and the one spelling of each.
use Rattle.std.specs.Prelude.{◌≡◌, ◌⊎◌, ℕ, ◌+◌, ◌-◌, ◌^◌, ◌≤◌, ◌<◌, if◌then◌else◌, IsTrue, List, ◌++◌, length}
use Rattle.std.specs.List.{AllByRecursion}
use Rattle.std.specs.Int.{w8, w32, w64}
use Rattle.std.specs.Str.{IsUtf8}
use Rattle.mx_base.specs.Regions.{is_in, region_end, instrumented_code, legacy_code, data_region}
use Rattle.obj_file.specs.declared.image.Image.{Image}
use Rattle.obj_file.specs.declared.image.Segment.{Segment}
use Rattle.obj_file.specs.declared.image.Spot4.{Spot4}
use Rattle.obj_file.specs.declared.parts.Version.{Version}
use Rattle.obj_file.specs.declared.parts.Version.TheVariants.{First, Second}
use Rattle.obj_file.specs.InTurn.{InTurn, le, sized, counted}
use Rattle.obj_file.specs.Versions.{IsAccess, access_text}

-- how many bytes there are from an address to the end of its region; 0 where no segment may begin
unfoldable pub room_at : ℕ → ℕ
room_at at =
    if is_in instrumented_code at then region_end instrumented_code - at
    else if is_in legacy_code at then region_end legacy_code - at
    else if is_in data_region at then region_end data_region - at
    else 0

-- the address after a segment
abbrev pub segment_end : ℕ → Segment → ℕ
segment_end from s = s.at + length s.bytes

-- a segment at or after an address, of at least one byte, within its region
pub record IsSegment (from : ℕ) (s : Segment) : Type 0 where
  pub after : from ≤ s.at
  pub some : 1 ≤ length s.bytes
  pub within : length s.bytes ≤ room_at s.at

-- the name of a file
pub record IsFileName (name : List ℕ) : Type 0 where
  pub some : 1 ≤ length name
  pub short : length name < 256
  pub text : IsUtf8 name

-- a number of a line or a column, counted from 1
pub record CountsFromOne (n : ℕ) : Type 0 where
  pub some : 1 ≤ n
  pub fits : n < 2 ^ 32

-- the address after a place's
abbrev pub after_place : ℕ → Spot4 → ℕ
after_place from p = p.at + 1

-- a place in instrumented code, from an address on, in one of so many files, with the access that is checked there
pub record IsPlace (files : ℕ) (from : ℕ) (p : Spot4) : Type 0 where
  pub after : from ≤ p.at
  pub in_code : IsTrue (is_in instrumented_code p.at)
  pub file : p.file < files
  pub line : CountsFromOne p.line
  pub col : CountsFromOne p.col
  pub access : IsAccess p.kind p.size

-- segments in order and apart, names of files, and places in order of their addresses
pub record IsImage (v : Image) : Type 0 where
  pub few_outers : v.outers ≤ 65_536
  pub few_segments : length v.segments ≤ 262_144
  pub segments : InTurn IsSegment segment_end 0 v.segments
  pub few_files : length v.files ≤ 65_536
  pub files : AllByRecursion IsFileName v.files
  pub few_places : length v.places ≤ 1_048_576
  pub places : InTurn (IsPlace (length v.files)) after_place 0 v.places

-- ---- spelling

-- the bytes of `MXI1` and of `MXI2`
abbrev pub image_magic : Version → ℕ
image_magic First = 0x3149_584D
image_magic Second = 0x3249_584D

unfoldable pub segment_text : Segment → List ℕ
segment_text s = le w64 s.at ++ sized w32 s.bytes

unfoldable pub file_text : List ℕ → List ℕ
file_text name = sized w8 name

unfoldable pub place_text : Version → Spot4 → List ℕ
place_text version p = le w64 p.at ++ le w32 p.file ++ le w32 p.line ++ le w32 p.col ++ access_text version p.kind p.size

unfoldable pub image_text : Version → Image → List ℕ
image_text version v =
    le w32 (image_magic version)
    ++ le w32 v.outers
    ++ counted segment_text v.segments
    ++ counted file_text v.files
    ++ counted (place_text version) v.places

-- the one spelling of an image
abbrev pub image_spelling : Image → List ℕ
image_spelling v = image_text Second v

-- bytes that are read as an image: its spelling, or that of the first version where all its places are of unknown kind
abbrev pub SpellsImage : List ℕ → Image → Type 0
SpellsImage bytes v = (bytes ≡ image_spelling v) ⊎ ((bytes ≡ image_text First v) × AllByRecursion (λ p. p.kind ≡ 0) v.places)
