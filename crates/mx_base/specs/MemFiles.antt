-- Files over memory.
use Rattle.std.specs.Prelude.{ℕ, Bool, true, not, ◌&&◌, ◌||◌, min, Option, None, Some, is_some, if◌then◌else◌, List, length}
use Rattle.std.specs.Option.{option_map}
use Rattle.mx_base.specs.Outside.{FileFacts, Untold, Absent, Holds, one_more}
use Rattle.mx_base.specs.Calls.{Planned, planned, is_to_fail, after_call}
use Rattle.mx_base.specs.Shelf.{HeldFile, ShelfState, shelf_of, file_named, with_file, with_untold, has_room, bytes_from}

-- the files, whether it tells that no other name has one, the calls, and how many of each kind failed
pub record FilesState : Type 0 where
  pub shelf : ShelfState
  pub others_told : Bool
  pub calls : Planned
  pub read_faults : ℕ
  pub write_faults : ℕ

-- without files, before the first call
abbrev pub files_of : ℕ → ℕ → List ℕ → FilesState
files_of files each fails = record { shelf = shelf_of files each; others_told = true; calls = planned fails; read_faults = 0; write_faults = 0 }

-- what is told of a held file, or of a name that has none
abbrev pub facts_of : Bool → Option HeldFile → FileFacts
facts_of others_told None = if others_told then Absent else Untold
facts_of others_told (Some f) = if f.told then Holds f.bytes else Untold

-- what is told of a name
abbrev pub told_of : FilesState → List ℕ → FileFacts
told_of s name = facts_of s.others_told (file_named s.shelf.held name)

-- how many bytes a read gives from an offset on into a buffer of this length: None where no file has the name
abbrev pub read_count : FilesState → List ℕ → ℕ → ℕ → Option ℕ
read_count s name at size = option_map (λ f. min (length (bytes_from (Some f) at)) size) (file_named s.shelf.held name)

-- after a read that failed
abbrev pub after_refused_read : FilesState → FilesState
after_refused_read s = record s { calls = after_call s.calls; read_faults = one_more s.read_faults }

-- after a read that was done
abbrev pub after_read : FilesState → FilesState
after_read s = record s { calls = after_call s.calls }

-- whether a write of these bytes fails: it is to fail, or there is no room
abbrev pub refuses_write : FilesState → List ℕ → List ℕ → Bool
refuses_write s name bytes = is_to_fail s.calls || not (has_room s.shelf name bytes)

-- after a write that was done
abbrev pub after_write : FilesState → List ℕ → List ℕ → FilesState
after_write s name bytes = record s { shelf = record s.shelf { held = with_file s.shelf.held name bytes }; calls = after_call s.calls }

-- after a write that failed: a held name is untold, and with another name every name that isn't held
abbrev pub after_refused_write : FilesState → List ℕ → FilesState
after_refused_write s name = record s {
  shelf = record s.shelf { held = with_untold s.shelf.held name };
  others_told = s.others_told && is_some (file_named s.shelf.held name);
  calls = after_call s.calls;
  write_faults = one_more s.write_faults;
}
