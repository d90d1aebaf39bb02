-- Events leave code: what is written can be written, and so can't be executed.
use Rattle.std.specs.Prelude.{Result, Ok, Err}
use Rattle.std.specs.Option.{option_map}
use Rattle.std.proofs.Common.{◌≡◌, ℕ, ◌+◌, ◌*◌, ◌<◌, ◌≤◌, ◌⊎◌, inl, inr, nat_lt, Bool, true, false, cond, Option, None, Some, List, refl, arith, ap, ◌∙◌, sym, subst}
use Rattle.std.proofs.lemmas.Bool.{cases_lt, cond_both}
use Rattle.std.proofs.lemmas.Bool.Decides.{nat_tests}
use Rattle.mx_base.specs.declared.limits.Bounds.{Bounds}
use Rattle.mx_base.specs.BoundsStore.{BoundsStore, megabyte, most_tables}
use Rattle.mx_base.specs.Memory.{Bytes, number_at, with_number, first_refused}
use Rattle.mx_base.specs.Regions.{is_readable, is_writable, is_executable, is_in, directory, tables}
use Rattle.mx_base.specs.Services.{Guest}
use Rattle.mx_base.specs.Walk.{Walked, Beyond, Invalid as NoTable, Stands, TableEntry, walk, walk_by, is_valid_entry, walk_end, directory_entry_at, table_entry_at, entry_size, entry_for, with_entry, with_next_table, next_entry}
use Rattle.mx_base.proofs.MemoryLemmas.{first_refused-none}
use Rattle.mx_base.proofs.RegionsLemmas.{code_not_writable}
use Rattle.obj_file.specs.Machine.{Reading, Refusal, Misses, Invalid, Lacks, Ground, State, Event, Goes, Stops, served_or_invalid, event}
use Rattle.obj_file.specs.Runs.{run_of}
use Rattle.obj_file.specs.Loaded.{Tabled, Mode, ground_of, configuration, unless_missing, at_walked, tabled_read, tabled_write, tabled_load, tabled_keep, table_made, with_bytes}
use Rattle.obj_file.specs.Stored.{Stored, stored_ground, stored_read, stored_write, stored_load, stored_keep, unless_untouched, megabyte_touched, is_touched}
use Rattle.obj_file.specs.StoreLaw.{is_of_bounds, megabyte_entry_at, bounded_megabytes}
use Rattle.obj_file.specs.Keeping.{LacksTable, ToRead, ToWrite, ToLoad, ToKeep, KeepsByRequests, KeepsByServices, EventLeaves, EndLeaves}
use Rattle.obj_file.specs.CodeStays.{SameCode}
use Rattle.obj_file.proofs.StoredBytes.{with_number_apart, with_entry_apart}
use Rattle.obj_file.proofs.StoredPlaces.{entry_of_megabyte, megabyte_bounded}
use Rattle.obj_file.proofs.EventsKeep.{event_keeps, runs_keep}

-- where an address isn't among writable ones
apart_from_code : (n at a : ℕ) → first_refused is_writable n at ≡ None → is_executable a ≡ true → (a < at) ⊎ (at + n ≤ a)
apart_from_code n at a none code = elim (cases_lt a at) [
  | inl low ↦ inl low
  | inr from ↦ elim (cases_lt a (at + n)) [
    | inl to ↦ let yes = first_refused-none is_writable n at a none from to in let no = code_not_writable a code in absurd cc
    | inr high ↦ inr high
  ]
]

pub missing_ok : {A : Type 0} (o : Option ℕ) (v w : A) → unless_missing o v ≡ Ok w → (o ≡ None) × (v ≡ w)
missing_ok None v w e = (refl, cc)
missing_ok (Some x) v w e = absurd cc

missing_no : {A : Type 0} (o : Option ℕ) (v : A) (entry_at : ℕ) → unless_missing o v ≡ Err (Invalid entry_at) → ⊥
missing_no None v entry_at e = absurd cc
missing_no (Some x) v entry_at e = absurd cc

pub no_guest : {X : Type 0} (g : Ground X) → KeepsByServices g (λ a b. Unit {0})
no_guest g = record { same = λ h. tt; served = λ s word h e. tt }

-- ---- over the store of bounds

pub untouched_ok : {A : Type 0} (cfg : ℕ) (s : BoundsStore) (la : ℕ) (v w : A) → unless_untouched cfg s la v ≡ Ok w → v ≡ w
untouched_ok cfg s la v w = by (nat_lt la walk_end) (is_touched s (megabyte la)) _ _
  where
    by : (far touched : Bool) (e f : Refusal) → cond far (cond touched (Ok v) (Err e)) (Err f) ≡ Ok w → v ≡ w
    by true true e f h = cc
    by true false e f h = absurd cc
    by false touched e f h = absurd cc

abbrev CodeOfStored : Stored → Stored → Type 0
CodeOfStored y z = SameCode y.bytes z.bytes

pub touched_same : (y z : Stored) (entry_at : ℕ) (o : Option BoundsStore) → served_or_invalid entry_at (option_map (λ s. record { bytes = y.bytes; bounds = s }) o) ≡ Ok z → y.bytes ≡ z.bytes
touched_same y z entry_at None e = absurd cc
touched_same y z entry_at (Some s) e = ap (λ (r : Result Stored Refusal). bytes_of r) e
  where
    bytes_of : Result Stored Refusal → Bytes
    bytes_of (Ok w) = w.bytes
    bytes_of (Err o) = y.bytes

same_bytes : (m k : Bytes) → m ≡ k → SameCode m k
same_bytes m k e a code = ap (λ (n : Bytes). n a) (sym e)

module _ (reads : List ℕ → Reading) (outers : ℕ) (mode : Mode) where
  abbrev GS : Ground Stored
  GS = stored_ground reads outers mode

  stored_write_same : (y z : Stored) (at size v : ℕ) → stored_write y at size v ≡ Ok z → CodeOfStored y z
  unfolding stored_write
  stored_write_same y z at size v e =
      let made : Stored = record { bytes = with_number size y.bytes at v; bounds = y.bounds } in
      let h = missing_ok (first_refused is_writable size at) made z e in
      λ a code. ap (λ (w : Stored). w.bytes a) (sym h.1) ∙ with_number_apart size y.bytes at v a (apart_from_code size at a h.0 code)

  stored_load_same : (y : Stored) (la v : ℕ) (p : Bounds × Stored) → stored_load (configuration mode.preserve) y la v ≡ Ok p → CodeOfStored y p.1
  unfolding stored_load
  stored_load_same y la v p e = let h = untouched_ok (configuration mode.preserve) y.bounds la _ p e in same_bytes y.bytes p.1.bytes (ap (λ (q : Bounds × Stored). q.1.bytes) h)

  stored_keep_same : (y z : Stored) (la v : ℕ) (b : Bounds) → stored_keep (configuration mode.preserve) y la v b ≡ Ok z → CodeOfStored y z
  unfolding stored_keep
  stored_keep_same y z la v b e = let h = untouched_ok (configuration mode.preserve) y.bounds la _ z e in same_bytes y.bytes z.bytes (ap (λ (w : Stored). w.bytes) h)

  stored_serve_same : (y z : Stored) (entry_at : ℕ) → served_or_invalid entry_at (megabyte_touched y entry_at) ≡ Ok z → CodeOfStored y z
  unfolding megabyte_touched
  stored_serve_same y z entry_at e = same_bytes y.bytes z.bytes (touched_same y z entry_at _ e)

  stored_requests : KeepsByRequests GS CodeOfStored
  stored_requests = record {
    same = λ y a code. refl;
    join = λ x y z h k a code. k a code ∙ h a code;
    write = stored_write_same;
    load = stored_load_same;
    keep = stored_keep_same;
    serve = λ y z entry_at lacks e. stored_serve_same y z entry_at e;
  }

  pub stored_event_same : (s : State Stored) → EventLeaves (λ t. SameCode s.memory.bytes t.memory.bytes) (event (stored_ground reads outers mode) s)
  stored_event_same s = first (event GS s) (event_keeps GS CodeOfStored stored_requests (λ a b. Unit {0}) (no_guest GS) s)
    where
      first : (e : Event Stored) → EventLeaves (λ t. CodeOfStored s.memory t.memory × Unit {0}) e → EventLeaves (λ t. SameCode s.memory.bytes t.memory.bytes) e
      first (Goes turn t) h = h.0
      first (Stops turn why t) h = h.0

  pub stored_run_same : (turns : ℕ) (s : State Stored) → EndLeaves (λ t. SameCode s.memory.bytes t.memory.bytes) (run_of (stored_ground reads outers mode) turns s)
  stored_run_same turns s = runs_keep GS (λ a b. SameCode a.memory.bytes b.memory.bytes) (λ a x code. refl) (λ a b d h k x code. k x code ∙ h x code) stored_event_same turns s

-- ---- over the directory and the tables

abbrev CodeOfTabled : Tabled → Tabled → Type 0
CodeOfTabled x y = SameCode x.bytes y.bytes

pub walked_ok : {A : Type 0} (w : Walked) (answer : ℕ → Result A Refusal) (v : A) → at_walked w answer ≡ Ok v → (at : ℕ) × (answer at ≡ Ok v)
walked_ok (Beyond la) answer v e = absurd cc
walked_ok (NoTable entry_at) answer v e = absurd cc
walked_ok (Stands at) answer v e = (at, e)

low_code : (a : ℕ) → is_executable a ≡ true → a < 0x1300_0000
unfolding is_executable
low_code a code = grind (arith, nat_tests)

walk_lacks : {A : Type 0} (m : Bytes) (preserve : Bool) (la entry_at : ℕ) (answer : ℕ → Result A Refusal) → ((at : ℕ) → answer at ≡ Err (Invalid entry_at) → ⊥)
    → at_walked (walk m (configuration preserve) la) answer ≡ Err (Invalid entry_at) → directory.from ≤ entry_at
unfolding walk
walk_lacks m preserve la entry_at answer never e = by_end (nat_lt la walk_end) (is_valid_entry (number_at 8 m (directory_entry_at (configuration preserve) la))) (table_entry_at (number_at 8 m (directory_entry_at (configuration preserve) la)) la) (λ t. grind (arith, nat_tests)) e
  where
    by_end : (b w : Bool) (table : ℕ) → (b ≡ true → la < walk_end) → at_walked (cond b (cond w (Stands table) (NoTable (directory_entry_at (configuration preserve) la))) (Beyond la)) answer ≡ Err (Invalid entry_at) → directory.from ≤ entry_at
    by_end true true table low h = absurd (never table h)
    by_end true false table low h =
        let same : directory_entry_at (configuration preserve) la ≡ entry_at = cc in
        let there = entry_of_megabyte preserve la (low refl) in
        omega (arith, same, there)
    by_end false w table low h = absurd cc

module _ (reads : List ℕ → Reading) (outers : ℕ) (mode : Mode) where
  abbrev GT : Ground Tabled
  GT = ground_of reads outers mode

  tabled_write_same : (x y : Tabled) (at size v : ℕ) → tabled_write x at size v ≡ Ok y → CodeOfTabled x y
  unfolding tabled_write
  tabled_write_same x y at size v e =
      let h = missing_ok (first_refused is_writable size at) (with_bytes x (with_number size x.bytes at v)) y e in
      λ a code. ap (λ (w : Tabled). w.bytes a) (sym h.1) ∙ with_number_apart size x.bytes at v a (apart_from_code size at a h.0 code)

  tabled_load_same : (x : Tabled) (la v : ℕ) (p : Bounds × Tabled) → tabled_load (configuration mode.preserve) x la v ≡ Ok p → CodeOfTabled x p.1
  unfolding tabled_load
  tabled_load_same x la v p e =
      let w = walked_ok (walk x.bytes (configuration mode.preserve) la) _ p e in
      let h = missing_ok (first_refused is_readable entry_size w.0) _ p w.1 in same_bytes x.bytes p.1.bytes (ap (λ (q : Bounds × Tabled). q.1.bytes) h.1)

  tabled_keep_same : (x y : Tabled) (la v : ℕ) (b : Bounds) → tabled_keep (configuration mode.preserve) x la v b ≡ Ok y → CodeOfTabled x y
  unfolding tabled_keep
  tabled_keep_same x y la v b e =
      let w = walked_ok (walk x.bytes (configuration mode.preserve) la) _ y e in
      let h = missing_ok (first_refused is_writable entry_size w.0) (with_bytes x (with_entry x.bytes w.0 (entry_for v b))) y w.1 in
      λ a code. ap (λ (z : Tabled). z.bytes a) (sym h.1) ∙ with_entry_apart x.bytes w.0 a (entry_for v b) (apart_from_code entry_size w.0 a h.0 code)

  lacks_far : (x : Tabled) (entry_at : ℕ) → LacksTable GT x entry_at → directory.from ≤ entry_at
  unfolding tabled_read tabled_write tabled_load tabled_keep
  lacks_far x entry_at (ToRead at size is) = absurd (missing_no (first_refused is_readable size at) _ entry_at is)
  lacks_far x entry_at (ToWrite at size v is) = absurd (missing_no (first_refused is_writable size at) _ entry_at is)
  lacks_far x entry_at (ToLoad la v is) = walk_lacks x.bytes mode.preserve la entry_at _ (λ at e. missing_no (first_refused is_readable entry_size at) _ entry_at e) is
  lacks_far x entry_at (ToKeep la v b is) = walk_lacks x.bytes mode.preserve la entry_at _ (λ at e. missing_no (first_refused is_writable entry_size at) _ entry_at e) is

  tabled_serve_same : (x y : Tabled) (entry_at : ℕ) → directory.from ≤ entry_at → served_or_invalid entry_at (table_made x entry_at) ≡ Ok y → CodeOfTabled x y
  unfolding table_made with_next_table
  tabled_serve_same x y entry_at far e = by_room (nat_lt x.made most_tables) e
    where
      by_room : (b : Bool) → served_or_invalid entry_at (option_map (λ bytes. record { bytes = bytes; made = x.made + 1 }) (cond b (Some (with_number 8 x.bytes entry_at (next_entry x.made))) None)) ≡ Ok y → CodeOfTabled x y
      by_room true h = λ a code.
          let made : Tabled = record { bytes = with_number 8 x.bytes entry_at (next_entry x.made); made = x.made + 1 } in
          let same : made ≡ y = cc in
          let low = low_code a code in
          ap (λ (w : Tabled). w.bytes a) (sym same) ∙ with_number_apart 8 x.bytes entry_at (next_entry x.made) a (inl (omega arith))
      by_room false h = absurd cc

  tabled_requests : KeepsByRequests GT CodeOfTabled
  tabled_requests = record {
    same = λ y a code. refl;
    join = λ x y z h k a code. k a code ∙ h a code;
    write = tabled_write_same;
    load = tabled_load_same;
    keep = tabled_keep_same;
    serve = λ x y entry_at lacks e. tabled_serve_same x y entry_at (lacks_far x entry_at lacks) e;
  }

  pub tabled_event_same : (s : State Tabled) → EventLeaves (λ t. SameCode s.memory.bytes t.memory.bytes) (event (ground_of reads outers mode) s)
  tabled_event_same s = first (event GT s) (event_keeps GT CodeOfTabled tabled_requests (λ a b. Unit {0}) (no_guest GT) s)
    where
      first : (e : Event Tabled) → EventLeaves (λ t. CodeOfTabled s.memory t.memory × Unit {0}) e → EventLeaves (λ t. SameCode s.memory.bytes t.memory.bytes) e
      first (Goes turn t) h = h.0
      first (Stops turn why t) h = h.0

  pub tabled_run_same : (turns : ℕ) (s : State Tabled) → EndLeaves (λ t. SameCode s.memory.bytes t.memory.bytes) (run_of (ground_of reads outers mode) turns s)
  tabled_run_same turns s = runs_keep GT (λ a b. SameCode a.memory.bytes b.memory.bytes) (λ a x code. refl) (λ a b d h k x code. k x code ∙ h x code) tabled_event_same turns s
