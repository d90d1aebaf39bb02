-- What is told of a name after a write that had room, where writes never fail.
use Rattle.std.proofs.Common.{◌≡◌, ◌≢◌, ℕ, true, false, cond, List, refl}
use Rattle.mx_base.specs.Outside.{FileFacts, Untold, Absent, Holds, HoldsWhereTold, KeepsWhereTold}
use Rattle.mx_base.specs.Shelf.{with_file}
use Rattle.mx_base.specs.SureFiles.{SureFilesState, files_told}
use Rattle.mx_base.proofs.ShelfLemmas.{file_named-with_file, file_named-with_file_other}

abbrev pub with_room : SureFilesState → List ℕ → List ℕ → SureFilesState
with_room s name bytes = record s { shelf = record s.shelf { held = with_file s.shelf.held name bytes } }

pub sure-written : (old new : SureFilesState) (name bytes : List ℕ) → new ≡ with_room old name bytes → HoldsWhereTold (files_told new name) bytes
sure-written old new name bytes is = rw (is, file_named-with_file old.shelf.held name bytes) (
    elim old.dropped as (λ b. HoldsWhereTold (cond b Untold (Holds bytes)) bytes) [ true ↦ tt | false ↦ refl ])

told_same : (f : FileFacts) → KeepsWhereTold f f
told_same f = elim f as (λ g. KeepsWhereTold g g) [ Untold ↦ tt | Absent ↦ refl | Holds bytes ↦ refl ]

pub sure-written_other : (old new : SureFilesState) (name bytes : List ℕ) → new ≡ with_room old name bytes → (n : List ℕ) → n ≢ name → KeepsWhereTold (files_told old n) (files_told new n)
sure-written_other old new name bytes is n apart = rw (is, file_named-with_file_other old.shelf.held name bytes n apart) (told_same (files_told old n))
