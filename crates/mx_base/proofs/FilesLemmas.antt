-- What is told of a name after a write, done or refused.
use Rattle.std.proofs.Common.{◌≡◌, ◌≢◌, ℕ, Bool, true, false, ◌&&◌, cond, Option, None, Some, List, refl, is_some}
use Rattle.std.specs.Option.{option_map}
use Rattle.mx_base.specs.Outside.{Untold, Holds, HoldsWhereTold, KeepsWhereTold}
use Rattle.mx_base.specs.Shelf.{HeldFile, file_named}
use Rattle.mx_base.specs.MemFiles.{FilesState, facts_of, told_of, after_write, after_refused_write}
use Rattle.mx_base.proofs.ShelfLemmas.{untold, file_named-with_file, file_named-with_file_other, file_named-with_untold, file_named-with_untold_other}

pub told-written : (old new : FilesState) (name bytes : List ℕ) → new ≡ after_write old name bytes → HoldsWhereTold (told_of new name) bytes
told-written old new name bytes is = rw (is, file_named-with_file old.shelf.held name bytes) refl

kept : (others : Bool) (f : Option HeldFile) → KeepsWhereTold (facts_of others f) (facts_of others f)
kept true None = refl
kept false None = tt
kept others (Some f) = elim f.told as (λ b. KeepsWhereTold (cond b (Holds f.bytes) Untold) (cond b (Holds f.bytes) Untold)) [ true ↦ refl | false ↦ tt ]

-- fewer names are told to have no file
kept_and : (others more : Bool) (f : Option HeldFile) → KeepsWhereTold (facts_of others f) (facts_of (others && more) f)
kept_and true true f = kept true f
kept_and true false None = tt
kept_and true false (Some f) = kept true (Some f)
kept_and false more f = kept false f

pub told-written_other : (old new : FilesState) (name bytes : List ℕ) → new ≡ after_write old name bytes → (n : List ℕ) → n ≢ name → KeepsWhereTold (told_of old n) (told_of new n)
told-written_other old new name bytes is n apart = rw (is, file_named-with_file_other old.shelf.held name bytes n apart) (kept old.others_told (file_named old.shelf.held n))

untold_facts : (others : Bool) (f : Option HeldFile) → facts_of (others && is_some f) (option_map untold f) ≡ Untold
untold_facts true None = refl
untold_facts false None = refl
untold_facts others (Some f) = refl

pub told-refused : (old new : FilesState) (name : List ℕ) → new ≡ after_refused_write old name → told_of new name ≡ Untold
told-refused old new name is = rw (is, file_named-with_untold old.shelf.held name) (untold_facts old.others_told (file_named old.shelf.held name))

pub told-refused_other : (old new : FilesState) (name : List ℕ) → new ≡ after_refused_write old name → (n : List ℕ) → n ≢ name → KeepsWhereTold (told_of old n) (told_of new n)
told-refused_other old new name is n apart = rw (is, file_named-with_untold_other old.shelf.held name n apart) (kept_and old.others_told (is_some (file_named old.shelf.held name)) (file_named old.shelf.held n))
