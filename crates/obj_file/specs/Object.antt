-- Objects: which there are, and the one spelling of each.
use Rattle.std.specs.Prelude.{◌≡◌, ◌⊎◌, ℕ, ◌+◌, ◌≤◌, ◌<◌, Bool, ◌&&◌, ◌||◌, not, nat_eq, if◌then◌else◌, IsTrue, FitsSigned, List, [], ◌∷◌, ◌++◌, length}
use Rattle.std.specs.List.{list_any, AllByRecursion}
use Rattle.std.specs.Int.{w8, w32, w64, cast_unsigned}
use Rattle.std.specs.Str.{IsUtf8, bytes_eq}
use Rattle.obj_file.specs.declared.object.Object.{Object}
use Rattle.obj_file.specs.declared.object.Symbol.{Symbol}
use Rattle.obj_file.specs.declared.object.Fix.{Fix}
use Rattle.obj_file.specs.declared.object.Spot3.{Spot3}
use Rattle.obj_file.specs.declared.parts.Version.{Version}
use Rattle.obj_file.specs.declared.parts.Version.TheVariants.{First, Second}
use Rattle.obj_file.specs.declared.parts.Parts.{Parts}
use Rattle.obj_file.specs.declared.parts.End.{End}
use Rattle.obj_file.specs.InTurn.{InTurn, le, sized, counted}
use Rattle.obj_file.specs.Versions.{IsAccess, access_text}
use Rattle.obj_file.specs.Names.{is_c_name, is_function_sig, is_data_sig}
use Rattle.obj_file.specs.Image.{CountsFromOne}

-- the lengths of an object's parts
abbrev pub parts_of : Object → Parts
parts_of o = record { legacy = o.legacy; code = length o.code; stored = length o.stored }

-- part 1 is code, part 2 is data; part 0 is that of an import
unfoldable pub part_len : Parts → ℕ → ℕ
part_len parts part = if nat_eq part 1 then parts.code else if nat_eq part 2 then parts.stored else 0

abbrev pub most_code : Bool → ℕ
most_code legacy = if legacy then 16_777_216 else 251_658_240

-- ---- symbols

abbrev pub is_taken : List Symbol → List ℕ → Bool
is_taken seen name = list_any (λ (s : Symbol). bytes_eq s.name name) seen

-- a name of C that no symbol before has
unfoldable pub is_free_name : List Symbol → List ℕ → Bool
is_free_name seen name = is_c_name name && not (is_taken seen name)

-- a signature that may stand on a symbol of a part: that of a function not on data, that of data not on code
unfoldable pub suits : ℕ → List ℕ → Bool
suits part sig = nat_eq (length sig) 0 || (is_function_sig sig && not (nat_eq part 2)) || (is_data_sig sig && not (nat_eq part 1))

abbrev pub least_sig : Bool → ℕ
least_sig legacy = if legacy then 0 else 1

abbrev pub after_symbol : List Symbol → Symbol → List Symbol
after_symbol seen s = seen ++ s ∷ []

-- an import, or a symbol that is defined at an offset of a part
pub record IsSymbol (parts : Parts) (seen : List Symbol) (s : Symbol) : Type 0 where
  pub part : s.part ≤ 2
  pub offset : s.offset ≤ part_len parts s.part
  pub named : 1 ≤ length s.name
  pub short_name : length s.name < 64
  pub name : IsTrue (is_free_name seen s.name)
  pub signed : least_sig parts.legacy ≤ length s.sig
  pub short_sig : length s.sig < 64
  pub sig : IsTrue (suits s.part s.sig)

-- ---- fix-ups

-- form 0 is absolute in 8 bytes; 1 is absolute, 2 relative, signed in 4 bytes
abbrev pub fix_size : ℕ → ℕ
fix_size form = if nat_eq form 0 then 8 else 4

-- the end of a fix-up's field
abbrev pub fix_end : End → Fix → End
fix_end before f = record { part = f.part; at = f.offset + fix_size f.form }

-- the least offset of a field in a part, after the field before
abbrev pub free_from : End → ℕ → ℕ
free_from before part = if nat_eq part before.part then before.at else 0

-- the start of code
abbrev pub no_fix : End
no_fix = record { part = 1; at = 0 }

-- a field in a part, after the one before, that takes the address of one of so many symbols and an addend
pub record IsFix (parts : Parts) (symbols : ℕ) (before : End) (f : Fix) : Type 0 where
  pub from_part : before.part ≤ f.part
  pub part : f.part ≤ 2
  pub after : free_from before f.part ≤ f.offset
  pub form : f.form ≤ 2
  pub within : f.offset + fix_size f.form ≤ part_len parts f.part
  pub symbol : f.symbol < symbols
  pub addend : FitsSigned w64 f.addend

-- ---- places

abbrev pub most_places : Bool → ℕ
most_places legacy = if legacy then 0 else 1_048_576

-- the offset after a place's
abbrev pub after_spot : ℕ → Spot3 → ℕ
after_spot from p = p.offset + 1

-- a place in the code, from an offset on, with the access that is checked there
pub record IsSpot (code : ℕ) (from : ℕ) (p : Spot3) : Type 0 where
  pub after : from ≤ p.offset
  pub within : p.offset < code
  pub line : CountsFromOne p.line
  pub col : CountsFromOne p.col
  pub access : IsAccess p.kind p.size

-- ---- objects

pub record IsObject (o : Object) : Type 0 where
  pub file : IsUtf8 o.file
  pub short_file : length o.file < 256
  pub few_code : length o.code ≤ most_code o.legacy
  pub few_stored : length o.stored ≤ 16_777_216
  pub few_symbols : length o.symbols ≤ 65_536
  pub symbols : InTurn (IsSymbol (parts_of o)) after_symbol [] o.symbols
  pub few_fixes : length o.fixes ≤ 1_048_576
  pub fixes : InTurn (IsFix (parts_of o) (length o.symbols)) fix_end no_fix o.fixes
  pub few_places : length o.places ≤ most_places o.legacy
  pub places : InTurn (IsSpot (length o.code)) after_spot 0 o.places

-- ---- spelling

-- the bytes of `MXO1` and of `MXO2`
abbrev pub object_magic : Version → ℕ
object_magic First = 0x314F_584D
object_magic Second = 0x324F_584D

unfoldable pub symbol_text : Symbol → List ℕ
symbol_text s = le w8 s.part ++ le w32 s.offset ++ sized w8 s.name ++ sized w8 s.sig

unfoldable pub fix_text : Fix → List ℕ
fix_text f = le w8 f.part ++ le w32 f.offset ++ le w8 f.form ++ le w32 f.symbol ++ le w64 (cast_unsigned w64 f.addend)

unfoldable pub spot_text : Version → Spot3 → List ℕ
spot_text version p = le w32 p.offset ++ le w32 p.line ++ le w32 p.col ++ access_text version p.kind p.size

-- 0 is legacy, 1 is instrumented
abbrev pub kind_of : Bool → ℕ
kind_of legacy = if legacy then 0 else 1

unfoldable pub object_text : Version → Object → List ℕ
object_text version o =
    le w32 (object_magic version)
    ++ le w8 (kind_of o.legacy)
    ++ sized w8 o.file
    ++ sized w32 o.code
    ++ sized w32 o.stored
    ++ counted symbol_text o.symbols
    ++ counted fix_text o.fixes
    ++ counted (spot_text version) o.places

-- the one spelling of an object
abbrev pub object_spelling : Object → List ℕ
object_spelling o = object_text Second o

-- bytes that are read as an object: its spelling, or that of the first version where all its places are of unknown kind
abbrev pub SpellsObject : List ℕ → Object → Type 0
SpellsObject bytes o = (bytes ≡ object_spelling o) ⊎ ((bytes ≡ object_text First o) × AllByRecursion (λ p. p.kind ≡ 0) o.places)
