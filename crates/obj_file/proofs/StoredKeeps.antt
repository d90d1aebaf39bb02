-- What keeps a memory with the directory and the tables standing for one with a store of bounds: a write elsewhere, an entry that is
-- stored, and one more table.
use Rattle.std.proofs.Common.{◌≡◌, ℕ, ◌+◌, ◌/◌, ◌<◌, ◌≤◌, ◌^◌, ◌⊎◌, true, false, cond, ◌==◌, Some, None, [], ◌∷◌, ◌++◌, length, inl, inr, ap, ◌∙◌, sym, arith, length-append}
use Rattle.std.proofs.lemmas.Bool.{cases_lt}
use Rattle.std.proofs.lemmas.Bool.Decides.{nat_tests}
use Rattle.mx_base.specs.declared.limits.Bounds.{Bounds}
use Rattle.mx_base.specs.BoundsStore.{BoundsStore, granule, with_kept, with_touched, most_tables}
use Rattle.mx_base.specs.Memory.{Bytes, AreBytes, number_at, with_number}
use Rattle.mx_base.specs.Walk.{entry_in, with_entry, entry_for, next_entry}
use Rattle.mx_base.proofs.MemoryLemmas.{number_at-same, AreBytes-with_number}
use Rattle.obj_file.specs.Loaded.{Tabled, with_bytes}
use Rattle.obj_file.specs.Stored.{Stored, with_store, is_touched}
use Rattle.obj_file.specs.StoreLaw.{AreWords, KeepsWords, StandsIn, megabyte_entry_at, bounded_megabytes, table_entries, nth_entry_at, nth_granule, touched_at, is_of_bounds, kept_entry}
use Rattle.obj_file.proofs.StoredPlaces.{directory_of_bounds, tables_of_bounds, entry_in_tables, entries_before, granule_parts, granule_same, apart_or_same}
use Rattle.obj_file.proofs.StoredBytes.{with_number_apart, number_apart, word_back, entry_in-same, entry_of_zeros, with_entry_apart, entry_back, entry_apart, AreBytes-with_entry}
use Rattle.obj_file.proofs.StoredTouched.{not_placed, place_before, place_last, any_more}

pub outside_apart : (low n a : ℕ) → (low ≤ a → a < low + n → ⊥) → (a < low) ⊎ (low + n ≤ a)
outside_apart low n a none = elim (cases_lt a low) [
  | inl h ↦ inl h
  | inr h ↦ elim (cases_lt a (low + n)) [ inl k ↦ absurd (none h k) | inr k ↦ inr k ]
]

-- ---- bytes elsewhere

pub stands_elsewhere : (x : Tabled) (y : Stored) (m n : Bytes) → StandsIn x y → ((z : ℕ) → is_of_bounds z ≡ true → m z ≡ x.bytes z) → ((z : ℕ) → is_of_bounds z ≡ false → m z ≡ n z) → AreBytes m
    → StandsIn (with_bytes x m) (record { bytes = n; bounds = y.bounds })
stands_elsewhere x y m n h inside outside bytes = record {
  made = h.made;
  few = h.few;
  bounded = h.bounded;
  distinct = h.distinct;
  named = λ k low. let few = h.bounded k low in number_at-same 8 m x.bytes (megabyte_entry_at (touched_at y.bounds k)) (λ z from to. inside z (directory_of_bounds (touched_at y.bounds k) z (omega (arith, few)) from to)) ∙ h.named k low;
  unnamed = λ k low none. number_at-same 8 m x.bytes (megabyte_entry_at k) (λ z from to. inside z (directory_of_bounds k z low from to)) ∙ h.unnamed k low none;
  entries = λ k r low slot. let few = h.few in let end = entry_in_tables k r (omega arith) slot in entry_in-same m x.bytes (nth_entry_at k r) (λ z from to. inside z (tables_of_bounds z (omega arith) (omega arith))) ∙ h.entries k r low slot;
  unkept = h.unkept;
  words = h.words;
  unmade = λ a from to. inside a (tables_of_bounds a (omega arith) to) ∙ h.unmade a from to;
  others = outside;
  each_byte = bytes;
}

-- ---- an entry stored

kept_here : (s : BoundsStore) (la value g : ℕ) (b : Bounds) → g ≡ granule la → (with_kept s la value b).kept g ≡ Some record { value = value; bounds = b }
kept_here s la value g b e = grind (arith, nat_tests)

kept_else : (s : BoundsStore) (la value g : ℕ) (b : Bounds) → (g ≡ granule la → ⊥) → (with_kept s la value b).kept g ≡ s.kept g
kept_else s la value g b e = grind (arith, nat_tests)

kept_words : (s : BoundsStore) (la value g : ℕ) (b : Bounds) → value < 2 ^ 64 → AreWords b → KeepsWords (s.kept g) → KeepsWords ((with_kept s la value b).kept g)
kept_words s la value g b small words old = elim (g == granule la) as (λ t. KeepsWords (cond t (Some record { value = value; bounds = b }) (s.kept g))) [ true ↦ (small, words) | false ↦ old ]

module _ (x : Tabled) (y : Stored) (h : StandsIn x y) (la value k r : ℕ) (b : Bounds) (low : k < x.made) (slot : r < table_entries)
    (here : granule la ≡ nth_granule (touched_at y.bounds k) r) (small : value < 2 ^ 64) (words : AreWords b) where
  abbrev stored_bytes : Bytes
  stored_bytes = with_entry x.bytes (nth_entry_at k r) (entry_for value b)

  abbrev stored_bounds : BoundsStore
  stored_bounds = with_kept y.bounds la value b

  stored_before : (z : ℕ) → z < nth_entry_at 0 0 → stored_bytes z ≡ x.bytes z
  stored_before z before = with_entry_apart x.bytes (nth_entry_at k r) z (entry_for value b) (inl (omega arith))

  entry_else : (j s : ℕ) → j < x.made → s < table_entries → (j ≡ k → s ≡ r → ⊥) → (nth_entry_at j s + 32 ≤ nth_entry_at k r) ⊎ (nth_entry_at k r + 32 ≤ nth_entry_at j s)
      → entry_in stored_bytes (nth_entry_at j s) ≡ kept_entry (stored_bounds.kept (nth_granule (touched_at y.bounds j) s))
  entry_else j s lower slots other apart =
      let differ : nth_granule (touched_at y.bounds j) s ≡ granule la → ⊥ = λ e.
      let same = granule_same (touched_at y.bounds j) s (touched_at y.bounds k) r slots slot (e ∙ here) in
      other (h.distinct j k lower low same.0) same.1 in
      entry_apart x.bytes (nth_entry_at j s) (nth_entry_at k r) (entry_for value b) apart ∙ h.entries j s lower slots
      ∙ ap kept_entry (sym (kept_else y.bounds la value (nth_granule (touched_at y.bounds j) s) b differ))

  entry_here : (j s : ℕ) → j ≡ k → s ≡ r → entry_in stored_bytes (nth_entry_at j s) ≡ kept_entry (stored_bounds.kept (nth_granule (touched_at y.bounds j) s))
  entry_here j s e f =
      let place : nth_entry_at j s ≡ nth_entry_at k r = λ i. nth_entry_at (e i) (f i) in
      let granules : nth_granule (touched_at y.bounds j) s ≡ granule la = (λ i. nth_granule (touched_at y.bounds (e i)) (f i)) ∙ sym here in
      ap (entry_in (with_entry x.bytes (nth_entry_at k r) (entry_for value b))) place
      ∙ entry_back x.bytes (nth_entry_at k r) (entry_for value b) (words.0) (omega arith) small
      ∙ ap kept_entry (sym (kept_here y.bounds la value (nth_granule (touched_at y.bounds j) s) b granules))

  entry_each : (j s : ℕ) → j < x.made → s < table_entries → entry_in stored_bytes (nth_entry_at j s) ≡ kept_entry (stored_bounds.kept (nth_granule (touched_at y.bounds j) s))
  entry_each j s lower slots =
      apart_or_same j k
      (λ below. entry_else j s lower slots (λ e f. absurd (omega arith)) (inl (entries_before j s k r slots slot below)))
      (λ e. apart_or_same s r
      (λ below. entry_else j s lower slots (λ g f. absurd (omega arith)) (inl (omega arith)))
      (λ f. entry_here j s e f)
      (λ above. entry_else j s lower slots (λ g f. absurd (omega arith)) (inr (omega arith))))
      (λ above. entry_else j s lower slots (λ e f. absurd (omega arith)) (inr (entries_before k r j s slot slots above)))

  unkept_else : (g : ℕ) → is_touched y.bounds (g / table_entries) ≡ false → stored_bounds.kept g ≡ None
  unkept_else g none = kept_else y.bounds la value g b (λ e.
      let parts : touched_at y.bounds k ≡ g / table_entries = sym (granule_parts (touched_at y.bounds k) r slot) ∙ ap (λ n. n / table_entries) (sym (e ∙ here)) in
      let made = h.made in
      not_placed y.bounds (g / table_entries) k none (omega arith) parts) ∙ h.unkept g none

  others_else : (a : ℕ) → is_of_bounds a ≡ false → stored_bytes a ≡ y.bytes a
  others_else a out =
      let few = h.few in
      let end = entry_in_tables k r (omega arith) slot in
      with_entry_apart x.bytes (nth_entry_at k r) a (entry_for value b) (outside_apart (nth_entry_at k r) 24 a (λ from to.
      let inside = tables_of_bounds a (omega arith) (omega arith) in absurd (cc)))
      ∙ h.others a out

  pub stands_kept : StandsIn (with_bytes x (with_entry x.bytes (nth_entry_at k r) (entry_for value b))) (with_store y (with_kept y.bounds la value b))
  unfolding is_touched
  stands_kept = record {
    made = h.made;
    few = h.few;
    bounded = h.bounded;
    distinct = h.distinct;
    named = λ j lower. let few = h.bounded j lower in number_at-same 8 stored_bytes x.bytes (megabyte_entry_at (touched_at y.bounds j)) (λ z from to. stored_before z (omega arith)) ∙ h.named j lower;
    unnamed = λ j lower none. number_at-same 8 stored_bytes x.bytes (megabyte_entry_at j) (λ z from to. stored_before z (omega arith)) ∙ h.unnamed j lower none;
    entries = entry_each;
    unkept = unkept_else;
    words = λ g. kept_words y.bounds la value g b small words (h.words g);
    unmade = λ a from to. with_entry_apart x.bytes (nth_entry_at k r) a (entry_for value b) (inr (omega arith)) ∙ h.unmade a from to;
    others = others_else;
    each_byte = AreBytes-with_entry x.bytes (nth_entry_at k r) (entry_for value b) h.each_byte;
  }

-- ---- one more table

module _ (x : Tabled) (y : Stored) (h : StandsIn x y) (m : ℕ) (bounded : m < bounded_megabytes) (none : is_touched y.bounds m ≡ false) (room : x.made < most_tables) where
  abbrev more_bytes : Bytes
  more_bytes = with_number 8 x.bytes (megabyte_entry_at m) (next_entry x.made)

  abbrev more_bounds : BoundsStore
  more_bounds = with_touched y.bounds (y.bounds.touched ++ m ∷ [])

  bytes_behind : (z : ℕ) → nth_entry_at 0 0 ≤ z → more_bytes z ≡ x.bytes z
  bytes_behind z behind = with_number_apart 8 x.bytes (megabyte_entry_at m) (next_entry x.made) z (inr (omega arith))

  -- a place is one of those before, or the new one
  each_place : (k : ℕ) {P : Type 0} → k < x.made + 1 → (k < x.made → touched_at more_bounds k ≡ touched_at y.bounds k → P) → (k ≡ x.made → touched_at more_bounds k ≡ m → P) → P
  each_place k {P} low old new =
      let made = h.made in
      apart_or_same k x.made
      (λ below. old below (place_before y.bounds.touched m k (omega arith)))
      (λ e. new e (ap (λ j. touched_at more_bounds j) (e ∙ h.made) ∙ place_last y.bounds.touched m))
      (λ above. absurd (omega arith))

  differs : (k : ℕ) → k < x.made → touched_at y.bounds k ≡ m → ⊥
  differs k low e = let made = h.made in not_placed y.bounds m k none (omega arith) e

  entries_differ : (j : ℕ) → (j ≡ m → ⊥) → number_at 8 more_bytes (megabyte_entry_at j) ≡ number_at 8 x.bytes (megabyte_entry_at j)
  entries_differ j other = number_apart x.bytes (megabyte_entry_at j) (megabyte_entry_at m) (next_entry x.made) (apart_or_same j m (λ below. inl (omega arith)) (λ e. absurd (other e)) (λ above. inr (omega arith)))

  made_more : x.made + 1 ≡ length more_bounds.touched
  made_more = let made = h.made in simp length-append (omega arith)

  bounded_more : (k : ℕ) → k < x.made + 1 → touched_at more_bounds k < bounded_megabytes
  bounded_more k low = each_place k low (λ below e. let old = h.bounded k below in omega arith) (λ same e. omega arith)

  distinct_more : (j k : ℕ) → j < x.made + 1 → k < x.made + 1 → touched_at more_bounds j ≡ touched_at more_bounds k → j ≡ k
  distinct_more j k lower low e =
      each_place j lower
      (λ below same. each_place k low (λ under also. h.distinct j k below under (sym same ∙ e ∙ also)) (λ last also. absurd (differs j below (sym same ∙ e ∙ also))))
      (λ is same. each_place k low (λ under also. absurd (differs k under (sym also ∙ sym e ∙ same))) (λ last also. is ∙ sym last))

  next_small : (k : ℕ) → k < most_tables → next_entry k < 2 ^ 64
  unfolding next_entry
  next_small k low = omega arith

  named_more : (k : ℕ) → k < x.made + 1 → number_at 8 more_bytes (megabyte_entry_at (touched_at more_bounds k)) ≡ next_entry k
  named_more k low = each_place k low
      (λ below e. ap (λ j. number_at 8 more_bytes (megabyte_entry_at j)) e ∙ entries_differ (touched_at y.bounds k) (differs k below) ∙ h.named k below)
      (λ last e. ap (λ j. number_at 8 more_bytes (megabyte_entry_at j)) e ∙ named_last ∙ ap next_entry (sym last))
    where
      named_last : number_at 8 more_bytes (megabyte_entry_at m) ≡ next_entry x.made
      named_last = word_back x.bytes (megabyte_entry_at m) (next_entry x.made) (next_small x.made room)

  untouched_more : (n : ℕ) → is_touched more_bounds n ≡ false → (is_touched y.bounds n ≡ false) × (m ≡ n → ⊥)
  unfolding is_touched
  untouched_more n e = any_more y.bounds.touched m n e

  entries_more : (k r : ℕ) → k < x.made + 1 → r < table_entries → entry_in more_bytes (nth_entry_at k r) ≡ kept_entry (y.bounds.kept (nth_granule (touched_at more_bounds k) r))
  entries_more k r low slot = each_place k low
      (λ below e. entry_in-same more_bytes x.bytes (nth_entry_at k r) (λ z from to. bytes_behind z (omega arith)) ∙ h.entries k r below slot ∙ ap (λ j. kept_entry (y.bounds.kept (nth_granule j r))) (sym e))
      (λ last e.
      let end = entry_in_tables k r (omega arith) slot in
      let empty : y.bounds.kept (nth_granule m r) ≡ None = h.unkept (nth_granule m r) (ap (is_touched y.bounds) (granule_parts m r slot) ∙ none) in
      entry_of_zeros more_bytes (nth_entry_at k r) (λ z from to. bytes_behind z (omega arith) ∙ h.unmade z (omega arith) (omega arith))
      ∙ sym (ap kept_entry (ap (λ j. y.bounds.kept (nth_granule j r)) e ∙ empty)))

  others_more : (a : ℕ) → is_of_bounds a ≡ false → more_bytes a ≡ y.bytes a
  others_more a out = with_number_apart 8 x.bytes (megabyte_entry_at m) (next_entry x.made) a (outside_apart (megabyte_entry_at m) 8 a (λ from to.
      let inside = directory_of_bounds m a (omega arith) from to in absurd (cc))) ∙ h.others a out

  pub stands_more : StandsIn (record { bytes = with_number 8 x.bytes (megabyte_entry_at m) (next_entry x.made); made = x.made + 1 }) (with_store y (with_touched y.bounds (y.bounds.touched ++ m ∷ [])))
  stands_more = record {
    made = made_more;
    few = omega arith;
    bounded = bounded_more;
    distinct = distinct_more;
    named = named_more;
    unnamed = λ n low e. let old = untouched_more n e in entries_differ n (λ f. old.1 (sym f)) ∙ h.unnamed n low old.0;
    entries = entries_more;
    unkept = λ g e. h.unkept g ((untouched_more (g / table_entries) e).0);
    words = h.words;
    unmade = λ a from to. bytes_behind a (omega arith) ∙ h.unmade a (omega arith) to;
    others = others_more;
    each_byte = AreBytes-with_number 8 x.bytes (megabyte_entry_at m) (next_entry x.made) h.each_byte;
  }
