-- The directory entry that a refused walk names.
use Rattle.std.proofs.Common.{◌≡◌, ℕ, ◌^◌, ◌<◌, Bool, true, false, cond, nat_lt, Option, None, Some, Result, Ok, Err, arith, sym}
use Rattle.std.proofs.lemmas.Bool.Decides.{nat_tests}
use Rattle.std.specs.Prelude.{IfErr}
use Rattle.mx_base.specs.Memory.{Bytes, number_at, first_refused}
use Rattle.mx_base.specs.Regions.{is_readable, is_writable}
use Rattle.mx_base.specs.Walk.{Beyond, Invalid as NoTable, Stands, walk, walk_end, is_valid_entry, directory_base, directory_entry_at, table_entry_at, entry_in, with_entry, entry_size}
use Rattle.paged_memory.specs.Paged.{Paged}
use Rattle.bound_tables.specs.declared.entries.Entry.{Entry}
use Rattle.bound_tables.specs.declared.walks.Walk.{Walk}
use Rattle.bound_tables.specs.declared.walks.Walk.TheVariants.{Invalid, Stop}
use Rattle.bound_tables.specs.Walks.{is_configuration, at_place, unless_refused}
use Rattle.bound_tables.specs.Entries.{as_entry, as_table_entry, loaded_at, stored_at, entry_loaded, entry_stored, WritesEntry}
use Rattle.mpx_core.specs.Steps.{IsLow}

base_is : (cfg : ℕ) → is_configuration cfg ≡ true → directory_base cfg ≡ 0x4000_0000_0000
base_is cfg h = grind (arith, nat_tests)

low_entry : (cfg la : ℕ) → is_configuration cfg ≡ true → directory_entry_at cfg la < 2 ^ 63
unfolding directory_entry_at
low_entry cfg la h = let base = base_is cfg h in omega (arith, base)

never_invalid : {X : Type 0} (o : Option ℕ) (v : X) (x : ℕ) → Err (Invalid x) ≡ unless_refused o v → ⊥
never_invalid None v x h = absurd (cc)
never_invalid (Some a) v x h = absurd (cc)

by_valid : {X : Type 0} (valid : Bool) (entry_at place x : ℕ) (f : ℕ → Result X Walk) → ((a : ℕ) → Err (Invalid x) ≡ f a → ⊥) → Err (Invalid x) ≡ at_place (cond valid (Stands place) (NoTable entry_at)) f → x ≡ entry_at
by_valid true entry_at place x f never h = absurd (never place h)
by_valid false entry_at place x f never h = cc

by_low : {X : Type 0} (low valid : Bool) (la entry_at place x : ℕ) (f : ℕ → Result X Walk) → ((a : ℕ) → Err (Invalid x) ≡ f a → ⊥)
    → Err (Invalid x) ≡ at_place (cond low (cond valid (Stands place) (NoTable entry_at)) (Beyond la)) f → x ≡ entry_at
by_low true valid la entry_at place x f never h = by_valid valid entry_at place x f never h
by_low false valid la entry_at place x f never h = absurd (cc)

of_walk : {X : Type 0} (m : Bytes) (cfg la x : ℕ) (f : ℕ → Result X Walk) → ((a : ℕ) → Err (Invalid x) ≡ f a → ⊥) → Err (Invalid x) ≡ at_place (walk m cfg la) f → x ≡ directory_entry_at cfg la
unfolding walk
of_walk m cfg la x f never h =
    by_low (nat_lt la walk_end) (is_valid_entry (number_at 8 m (directory_entry_at cfg la))) la (directory_entry_at cfg la) (table_entry_at (number_at 8 m (directory_entry_at cfg la)) la) x f never h

never_loaded : (m : Bytes) (x a : ℕ) → Err (Invalid x) ≡ loaded_at m a → ⊥
unfolding loaded_at
never_loaded m x a h = never_invalid (first_refused is_readable entry_size a) (as_entry (entry_in m a)) x h

never_stored : (m : Bytes) (e : Entry) (x a : ℕ) → Err (Invalid x) ≡ stored_at m e a → ⊥
unfolding stored_at
never_stored m e x a h = never_invalid (first_refused is_writable entry_size a) (with_entry m a (as_table_entry e)) x h

loaded_entry : (m : Bytes) (cfg la x : ℕ) → Err (Invalid x) ≡ entry_loaded m cfg la → x ≡ directory_entry_at cfg la
unfolding entry_loaded
loaded_entry m cfg la x h = of_walk m cfg la x (loaded_at m) (never_loaded m x) h

stored_entry : (m : Bytes) (cfg la x : ℕ) (e : Entry) → Err (Invalid x) ≡ entry_stored m cfg la e → x ≡ directory_entry_at cfg la
unfolding entry_stored
stored_entry m cfg la x e h = of_walk m cfg la x (stored_at m e) (never_stored m e x) h

pub loaded_low : (m : Bytes) (cfg la : ℕ) (refusal : Walk) → is_configuration cfg ≡ true → Err refusal ≡ entry_loaded m cfg la → IsLow refusal
loaded_low m cfg la (Invalid x) conf h = let low = low_entry cfg la conf in let is = loaded_entry m cfg la x h in omega (arith, low, is)
loaded_low m cfg la (Stop stop) conf h = tt

pub stored_low : (m : Bytes) (cfg la at : ℕ) (e : Entry) (old new : Paged) (r : Result (Unit {0}) Walk) → is_configuration cfg ≡ true → WritesEntry at (entry_stored m cfg la e) old new r → IfErr r IsLow
stored_low m cfg la at e old new (Ok done) conf h = tt
stored_low m cfg la at e old new (Err (Invalid x)) conf h = let low = low_entry cfg la conf in let is = stored_entry m cfg la x e (sym h) in omega (arith, low, is)
stored_low m cfg la at e old new (Err (Stop stop)) conf h = tt
