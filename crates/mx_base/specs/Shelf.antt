-- Files in memory: names with their bytes, in the order in which the names came.
use Rattle.std.specs.Prelude.{◌≡◌, ℕ, ◌<◌, ◌≤◌, MatchOption, Bool, true, false, ◌&&◌, ◌||◌, nat_le, nat_lt, Option, None, Some, is_some, if◌then◌else◌, List, [], ◌∷◌, length, drop}
use Rattle.std.specs.List.{find, position_or_len}
use Rattle.std.specs.Str.{bytes_eq}

-- a file, and whether its bytes are told
pub record HeldFile : Type 0 where
  pub name : List ℕ
  pub bytes : List ℕ
  pub told : Bool

-- the files held, how many names may be, and how many bytes each may have
pub record ShelfState : Type 0 where
  pub held : List HeldFile
  pub files : ℕ
  pub each : ℕ

-- with no file
abbrev pub shelf_of : ℕ → ℕ → ShelfState
shelf_of files each = record { held = []; files = files; each = each }

abbrev pub is_named : List ℕ → HeldFile → Bool
is_named name f = bytes_eq f.name name

-- the file of this name, if it is held
abbrev pub file_named : List HeldFile → List ℕ → Option HeldFile
file_named held name = find (is_named name) held

-- a file with these bytes, which are told
abbrev pub new_file : List ℕ → List ℕ → HeldFile
new_file name bytes = record { name = name; bytes = bytes; told = true }

-- the same files, but that this name has these bytes
abbrev pub with_file : List HeldFile → List ℕ → List ℕ → List HeldFile
with_file [] name bytes = new_file name bytes ∷ []
with_file (f ∷ fs) name bytes = if is_named name f then new_file name bytes ∷ fs else f ∷ with_file fs name bytes

-- the same files, but that the bytes of this name are told no more
abbrev pub with_untold : List HeldFile → List ℕ → List HeldFile
with_untold [] name = []
with_untold (f ∷ fs) name = if is_named name f then record f { told = false } ∷ fs else f ∷ with_untold fs name

-- whether these bytes of this name have room: at most 255 bytes of name, few enough bytes, and a place for the name
abbrev pub has_room : ShelfState → List ℕ → List ℕ → Bool
has_room s name bytes = nat_le (length name) 255 && nat_le (length bytes) s.each
    && (is_some (file_named s.held name) || nat_lt (length s.held) s.files)

-- the bytes of a file from an offset on; none where there is no file
abbrev pub bytes_from : Option HeldFile → ℕ → List ℕ
bytes_from None at = []
bytes_from (Some f) at = drop at f.bytes

-- the place of the first file of this name, or None where there is none
abbrev pub IsPlaceOf : List HeldFile → List ℕ → Option ℕ → Type 0
IsPlaceOf held name place = let first = position_or_len (is_named name) held in
    MatchOption place (length held ≤ first) (λ i. (i ≡ first) × (i < length held))
