-- Files over memory that never fail.
use Rattle.std.specs.Prelude.{ℕ, Bool, true, false, min, Option, None, Some, if◌then◌else◌, List, length}
use Rattle.std.specs.Option.{option_map}
use Rattle.mx_base.specs.Outside.{FileFacts, Untold, Absent, Holds}
use Rattle.mx_base.specs.Shelf.{HeldFile, ShelfState, shelf_of, file_named, with_file, has_room, bytes_from}

-- the files, and whether a write was dropped
pub record SureFilesState : Type 0 where
  pub shelf : ShelfState
  pub dropped : Bool

-- without files
abbrev pub sure_files_of : ℕ → ℕ → SureFilesState
sure_files_of files each = record { shelf = shelf_of files each; dropped = false }

abbrev pub facts_of_file : Option HeldFile → FileFacts
facts_of_file None = Absent
facts_of_file (Some f) = Holds f.bytes

-- what it tells of a name, as long as nothing was dropped
abbrev pub files_told : SureFilesState → List ℕ → FileFacts
files_told s name = if s.dropped then Untold else facts_of_file (file_named s.shelf.held name)

-- how many bytes a read gives from an offset on into a buffer of this length: None where no file has the name
abbrev pub sure_read_count : SureFilesState → List ℕ → ℕ → ℕ → Option ℕ
sure_read_count s name at size = option_map (λ f. min (length (bytes_from (Some f) at)) size) (file_named s.shelf.held name)

-- after a write: what has no room is dropped whole
abbrev pub after_sure_write : SureFilesState → List ℕ → List ℕ → SureFilesState
after_sure_write s name bytes = if has_room s.shelf name bytes
    then record s { shelf = record s.shelf { held = with_file s.shelf.held name bytes } }
    else record s { dropped = true }
