-- Each request is answered alike by a memory with the directory and the tables and by one with a store of bounds, if one stands for the
-- other and reads and writes leave the directory and the tables to walks.
use Rattle.std.proofs.Common.{◌≡◌, ℕ, ◌+◌, ◌-◌, ◌%◌, ◌<◌, ◌≤◌, ◌^◌, Bool, true, false, cond, ◌==◌, Option, Some, None, List, [], ◌∷◌, ◌++◌, length, inl, inr, refl, ap, ◌∙◌, sym, subst, arith}
use Rattle.std.specs.Prelude.{Result, Ok, Err, ⊤}
use Rattle.std.specs.Option.{option_map}
use Rattle.std.proofs.lemmas.Bool.{cases_lt, cases_Bool, lt-ltb, le-ltb}
use Rattle.std.proofs.lemmas.Bool.Decides.{nat_tests}
use Rattle.mx_base.specs.declared.limits.Bounds.{Bounds}
use Rattle.mx_base.specs.Bounds.{moved, complement, full_bounds}
use Rattle.mx_base.specs.BoundsStore.{BoundsStore, Kept, granule, megabyte, with_kept, with_touched, touched_with, most_tables, bounds_for}
use Rattle.mx_base.specs.Memory.{Bytes, number_at, with_number, first_refused}
use Rattle.mx_base.specs.Regions.{is_readable, is_writable}
use Rattle.mx_base.specs.Walk.{Beyond, Invalid as NoTable, Stands, walk, walk_by, walk_end, directory_entry_at, table_entry_at, entry_in, with_entry, entry_for, entry_size, bounds_in, next_entry, with_next_table}
use Rattle.mx_base.proofs.MemoryLemmas.{number_at-same, first_refused-all, AreBytes-with_number}
use Rattle.x86_forms.specs.declared.spans.Span.{Span}
use Rattle.obj_file.specs.Machine.{Refusal, Misses, Invalid, Lacks}
use Rattle.obj_file.specs.Loaded.{Tabled, with_bytes, unless_missing, at_walked, configuration, tabled_read, tabled_load, tabled_keep, table_made}
use Rattle.obj_file.specs.Stored.{Stored, with_store, is_touched, unless_untouched, stored_read, stored_load, stored_keep, address_of_entry, megabyte_touched}
use Rattle.obj_file.specs.StoreLaw.{AreWords, KeepsWords, StandsIn, megabyte_entry_at, bounded_megabytes, table_entries, nth_entry_at, nth_granule, touched_at, is_of_bounds, kept_entry, AvoidsBounds}
use Rattle.obj_file.proofs.StoredPlaces.{megabyte_bounded, entry_of_megabyte, next_entry_valid, slot_of, slot_below, entry_of_slot, granule_of_slot, entry_in_tables, tables_readable, tables_writable, far_not_of_bounds}
use Rattle.obj_file.proofs.StoredBytes.{with_number_apart, with_number_both}
use Rattle.obj_file.proofs.StoredTouched.{touched_place}
use Rattle.obj_file.proofs.StoredKeeps.{stands_elsewhere, stands_kept, stands_more, outside_apart}

-- ---- accesses

-- the bytes of an access that avoids the directory and the tables, without going around
pub avoided : (s : Span) (z : ℕ) → AvoidsBounds s → s.at ≤ z → z < s.at + s.size → is_of_bounds z ≡ false
unfolding moved
avoided s z out low high = elim (cases_lt z 0x1_0000_0000_0000_0000) [
  | inl near ↦ let here : (s.at + (z - s.at)) % 0x1_0000_0000_0000_0000 ≡ z = omega arith in subst (λ (a : ℕ). is_of_bounds a ≡ false) here (out (z - s.at) (omega arith))
  | inr far ↦ far_not_of_bounds z far
]

pub reads_alike : (x : Tabled) (y : Stored) (s : Span) → StandsIn x y → AvoidsBounds s → tabled_read x s.at s.size ≡ stored_read y s.at s.size
unfolding tabled_read stored_read
reads_alike x y s h out = ap (unless_missing (first_refused is_readable s.size s.at)) (number_at-same s.size x.bytes y.bytes s.at (λ z low high. h.others z (avoided s z out low high)))

pub written_stands : (x : Tabled) (y : Stored) (s : Span) (v : ℕ) → StandsIn x y → AvoidsBounds s → StandsIn (with_bytes x (with_number s.size x.bytes s.at v)) (record { bytes = with_number s.size y.bytes s.at v; bounds = y.bounds })
written_stands x y s v h out = stands_elsewhere x y (with_number s.size x.bytes s.at v) (with_number s.size y.bytes s.at v) h
    (λ z inside. with_number_apart s.size x.bytes s.at v z (outside_apart s.at s.size z (λ from to. let here = avoided s z out from to in absurd (cc))))
    (λ z outside. with_number_both s.size x.bytes y.bytes s.at v z (h.others z outside)) (AreBytes-with_number s.size x.bytes s.at v h.each_byte)

-- how two answers agree, where P holds between the memories that they leave
abbrev pub AnswersAlike : {A B : Type 0} → (A → B → Type 0) → (Refusal → Type 0) → Result A Refusal → Result B Refusal → Type 0
AnswersAlike P Q (Ok a) (Ok b) = P a b
AnswersAlike P Q (Ok a) (Err p) = ⊥
AnswersAlike P Q (Err o) (Ok b) = ⊥
AnswersAlike P Q (Err o) (Err p) = (o ≡ p) × Q o

-- why there is no answer: the address has no bounds, or its megabyte is not touched
abbrev pub IsWanting : Stored → Refusal → Type 0
IsWanting y (Misses at) = ⊤
IsWanting y (Lacks in_use capacity) = ⊤
IsWanting y (Invalid entry_at) = (m : ℕ) × (m < bounded_megabytes) × (is_touched y.bounds m ≡ false) × (entry_at ≡ megabyte_entry_at m)

walk_near : (m : Bytes) (cfg la : ℕ) → la < walk_end → walk m cfg la ≡ walk_by (directory_entry_at cfg la) (number_at 8 m (directory_entry_at cfg la)) la
unfolding walk
walk_near m cfg la near = rw (lt-ltb la walk_end near) refl

walk_far : (m : Bytes) (cfg la : ℕ) → walk_end ≤ la → walk m cfg la ≡ Beyond la
unfolding walk
walk_far m cfg la far = rw (le-ltb la walk_end far) refl

-- the walk of an address whose megabyte is not touched, and of one whose megabyte is
walk_untouched : (x : Tabled) (y : Stored) (preserve : Bool) (la : ℕ) → StandsIn x y → la < walk_end → is_touched y.bounds (megabyte la) ≡ false
    → walk x.bytes (configuration preserve) la ≡ NoTable (megabyte_entry_at (megabyte la))
walk_untouched x y preserve la h near none =
    let few = megabyte_bounded la near in
    let at = entry_of_megabyte preserve la near in
    walk_near x.bytes (configuration preserve) la near
    ∙ (λ i. walk_by (at i) (number_at 8 x.bytes (at i)) la)
    ∙ ap (λ e. walk_by (megabyte_entry_at (megabyte la)) e la) (h.unnamed (megabyte la) (omega (arith, few)) none)

pub walk_touched : (x : Tabled) (y : Stored) (preserve : Bool) (la k : ℕ) → StandsIn x y → la < walk_end → k < x.made → touched_at y.bounds k ≡ megabyte la
    → walk x.bytes (configuration preserve) la ≡ Stands (nth_entry_at k (slot_of la))
walk_touched x y preserve la k h near low here =
    let few = h.few in
    let at = entry_of_megabyte preserve la near in
    let named : number_at 8 x.bytes (megabyte_entry_at (megabyte la)) ≡ next_entry k = ap (λ m. number_at 8 x.bytes (megabyte_entry_at m)) (sym here) ∙ h.named k low in
    walk_near x.bytes (configuration preserve) la near
    ∙ (λ i. walk_by (at i) (number_at 8 x.bytes (at i)) la)
    ∙ ap (λ e. walk_by (megabyte_entry_at (megabyte la)) e la) named
    ∙ ap (λ b. cond b (Stands (table_entry_at (next_entry k) la)) (NoTable (megabyte_entry_at (megabyte la)))) (next_entry_valid k)
    ∙ ap Stands (entry_of_slot k la (omega (arith, few)))

entry_readable : (k r : ℕ) → k < most_tables → r < table_entries → first_refused is_readable entry_size (nth_entry_at k r) ≡ None
entry_readable k r low slot = let end = entry_in_tables k r low slot in first_refused-all is_readable entry_size (nth_entry_at k r) (λ z from to. tables_readable z (omega arith) (omega arith))

entry_writable : (k r : ℕ) → k < most_tables → r < table_entries → first_refused is_writable entry_size (nth_entry_at k r) ≡ None
entry_writable k r low slot = let end = entry_in_tables k r low slot in first_refused-all is_writable entry_size (nth_entry_at k r) (λ z from to. tables_writable z (omega arith) (omega arith))

-- ---- what the store answers

pub store_far : {A : Type 0} (cfg la : ℕ) (s : BoundsStore) (v : A) → walk_end ≤ la → unless_untouched cfg s la v ≡ Err (Misses la)
store_far cfg la s v far = rw (le-ltb la walk_end far) refl

pub store_untouched : {A : Type 0} (preserve : Bool) (la : ℕ) (s : BoundsStore) (v : A) → la < walk_end → is_touched s (megabyte la) ≡ false → unless_untouched (configuration preserve) s la v ≡ Err (Invalid (megabyte_entry_at (megabyte la)))
store_untouched {A} preserve la s v near none =
    rw (lt-ltb la walk_end near, none) (let f : ℕ → Result A Refusal = λ e. Err (Invalid e) in ap f (entry_of_megabyte preserve la near))

pub store_touched : {A : Type 0} (cfg la : ℕ) (s : BoundsStore) (v : A) → la < walk_end → is_touched s (megabyte la) ≡ true → unless_untouched cfg s la v ≡ Ok v
store_touched cfg la s v near some = rw (lt-ltb la walk_end near, some) refl

-- ---- the bounds in an entry

bounds_of_entry : (value : ℕ) (o : Option Kept) → KeepsWords o → bounds_in value (kept_entry o) ≡ bounds_for value o
unfolding bounds_in bounds_for
bounds_of_entry value None words = grind (arith, nat_tests)
bounds_of_entry value (Some k) words =
    let back : complement (complement k.bounds.ub) ≡ k.bounds.ub = let small = words.1.1 in omega (arith, small) in
    let same : ◌≡◌ {A = Bounds} (record { lb = k.bounds.lb; ub = complement (complement k.bounds.ub) }) k.bounds = λ i. record { lb = k.bounds.lb; ub = back i } in
    ap (λ b. cond (k.value == value) b full_bounds) same

bounds_for_words : (value : ℕ) (o : Option Kept) → KeepsWords o → AreWords (bounds_for value o)
unfolding bounds_for
bounds_for_words value None words = (omega arith, omega arith)
bounds_for_words value (Some k) words = elim (k.value == value) as (λ t. AreWords (cond t k.bounds full_bounds)) [ true ↦ words.1 | false ↦ (omega arith, omega arith) ]

-- ---- loads and keeps

abbrev pub LoadsAlike : Bounds × Tabled → Bounds × Stored → Type 0
LoadsAlike p q = (p.0 ≡ q.0) × StandsIn p.1 q.1 × AreWords p.0

-- both answers are as those are that they equal
alike_by : {A B : Type 0} (P : A → B → Type 0) (Q : Refusal → Type 0) (a c : Result A Refusal) (b d : Result B Refusal) → a ≡ c → b ≡ d → AnswersAlike P Q c d → AnswersAlike P Q a b
alike_by P Q a c b d e f h = subst (λ z. AnswersAlike P Q z b) (sym e) (subst (λ z. AnswersAlike P Q c z) (sym f) h)

-- both answers for an address, if they agree where its megabyte is the one that was touched after so many
module _ {A B : Type 0} (x : Tabled) (y : Stored) (h : StandsIn x y) (preserve : Bool) (la : ℕ) (P : A → B → Type 0) (answer : ℕ → Result A Refusal) (w : B)
    (at_place : (k : ℕ) → k < x.made → touched_at y.bounds k ≡ megabyte la → (a : A) × (answer (nth_entry_at k (slot_of la)) ≡ Ok a) × P a w) where
  abbrev walked : Result A Refusal
  walked = at_walked (walk x.bytes (configuration preserve) la) answer

  abbrev stored : Result B Refusal
  stored = unless_untouched (configuration preserve) y.bounds la w

  far_alike : walk_end ≤ la → AnswersAlike P (IsWanting y) walked stored
  far_alike far = alike_by P (IsWanting y) walked (Err (Misses la)) stored (Err (Misses la))
      (ap (λ v. at_walked v answer) (walk_far x.bytes (configuration preserve) la far)) (store_far (configuration preserve) la y.bounds w far) (refl, tt)

  untouched_alike : la < walk_end → is_touched y.bounds (megabyte la) ≡ false → AnswersAlike P (IsWanting y) walked stored
  untouched_alike near none = alike_by P (IsWanting y) walked (Err (Invalid (megabyte_entry_at (megabyte la)))) stored (Err (Invalid (megabyte_entry_at (megabyte la))))
      (ap (λ v. at_walked v answer) (walk_untouched x y preserve la h near none)) (store_untouched preserve la y.bounds w near none)
      (refl, (megabyte la, megabyte_bounded la near, none, refl))

  touched_alike : la < walk_end → is_touched y.bounds (megabyte la) ≡ true → AnswersAlike P (IsWanting y) walked stored
  touched_alike near some =
      let place = touched_place y.bounds (megabyte la) some in
      let made = h.made in
      let low : place.0 < x.made = omega (arith, place.1) in
      let here = at_place place.0 low place.2 in
      alike_by P (IsWanting y) walked (Ok here.0) stored (Ok w)
      (ap (λ v. at_walked v answer) (walk_touched x y preserve la place.0 h near low place.2) ∙ here.1) (store_touched (configuration preserve) la y.bounds w near some) here.2

  pub walks_alike : AnswersAlike P (IsWanting y) (at_walked (walk x.bytes (configuration preserve) la) answer) (unless_untouched (configuration preserve) y.bounds la w)
  walks_alike = elim (cases_lt la walk_end) [
    | inl near ↦ elim (cases_Bool (is_touched y.bounds (megabyte la))) [ inl some ↦ touched_alike near some | inr none ↦ untouched_alike near none ]
    | inr far ↦ far_alike far
  ]

pub loads_alike : (x : Tabled) (y : Stored) (preserve : Bool) (la value : ℕ) → StandsIn x y → AnswersAlike LoadsAlike (IsWanting y) (tabled_load (configuration preserve) x la value) (stored_load (configuration preserve) y la value)
unfolding tabled_load stored_load
loads_alike x y preserve la value h = walks_alike x y h preserve la LoadsAlike
    (λ at. unless_missing (first_refused is_readable entry_size at) (bounds_in value (entry_in x.bytes at), x)) (bounds_for value (y.bounds.kept (granule la)), y)
    (λ k low here.
    let few = h.few in
    let granules : y.bounds.kept (nth_granule (touched_at y.bounds k) (slot_of la)) ≡ y.bounds.kept (granule la) = ap y.bounds.kept (ap (λ m. nth_granule m (slot_of la)) here ∙ sym (granule_of_slot la)) in
    let entry : entry_in x.bytes (nth_entry_at k (slot_of la)) ≡ kept_entry (y.bounds.kept (granule la)) = h.entries k (slot_of la) low (slot_below la) ∙ ap kept_entry granules in
    let words = h.words (granule la) in
    let same : bounds_in value (entry_in x.bytes (nth_entry_at k (slot_of la))) ≡ bounds_for value (y.bounds.kept (granule la)) = ap (bounds_in value) entry ∙ bounds_of_entry value (y.bounds.kept (granule la)) words in (
      (bounds_in value (entry_in x.bytes (nth_entry_at k (slot_of la))), x),
      ap (λ o. unless_missing o (bounds_in value (entry_in x.bytes (nth_entry_at k (slot_of la))), x)) (entry_readable k (slot_of la) (omega arith) (slot_below la)),
      (same, h, subst AreWords (sym same) (bounds_for_words value (y.bounds.kept (granule la)) words)),
    ))

pub keeps_alike : (x : Tabled) (y : Stored) (preserve : Bool) (la value : ℕ) (b : Bounds) → StandsIn x y → value < 2 ^ 64 → AreWords b
    → AnswersAlike StandsIn (IsWanting y) (tabled_keep (configuration preserve) x la value b) (stored_keep (configuration preserve) y la value b)
unfolding tabled_keep stored_keep
keeps_alike x y preserve la value b h small words = walks_alike x y h preserve la StandsIn
    (λ at. unless_missing (first_refused is_writable entry_size at) (with_bytes x (with_entry x.bytes at (entry_for value b)))) (with_store y (with_kept y.bounds la value b))
    (λ k low here.
    let few = h.few in
    let place : granule la ≡ nth_granule (touched_at y.bounds k) (slot_of la) = granule_of_slot la ∙ ap (λ m. nth_granule m (slot_of la)) (sym here) in (
      with_bytes x (with_entry x.bytes (nth_entry_at k (slot_of la)) (entry_for value b)),
      ap (λ o. unless_missing o (with_bytes x (with_entry x.bytes (nth_entry_at k (slot_of la)) (entry_for value b)))) (entry_writable k (slot_of la) (omega arith) (slot_below la)),
      stands_kept x y h la value k (slot_of la) b low (slot_below la) place small words,
    ))

-- ---- the runtime

-- both serve alike a directory entry of a megabyte that is not touched
abbrev pub ServedAlike : Option Tabled → Option Stored → Type 0
ServedAlike None None = ⊤
ServedAlike None (Some y) = ⊥
ServedAlike (Some x) None = ⊥
ServedAlike (Some x) (Some y) = StandsIn x y

megabyte_of_entry : (m : ℕ) → megabyte (address_of_entry (megabyte_entry_at m)) ≡ m
megabyte_of_entry m = omega arith

pub touched_new : (s : BoundsStore) (m : ℕ) → is_touched s m ≡ false → length s.touched < most_tables → touched_with s.touched m ≡ Some (s.touched ++ m ∷ [])
unfolding touched_with is_touched
touched_new s m none room = rw (none, lt-ltb (length s.touched) most_tables room) refl

pub touched_full : (s : BoundsStore) (m : ℕ) → is_touched s m ≡ false → most_tables ≤ length s.touched → touched_with s.touched m ≡ None
unfolding touched_with is_touched
touched_full s m none full = rw (none, le-ltb (length s.touched) most_tables full) refl

made_new : (x : Tabled) (e : ℕ) → x.made < most_tables → table_made x e ≡ Some (record { bytes = with_number 8 x.bytes e (next_entry x.made); made = x.made + 1 })
unfolding table_made with_next_table
made_new x e room = rw (lt-ltb x.made most_tables room) refl

made_full : (x : Tabled) (e : ℕ) → most_tables ≤ x.made → table_made x e ≡ None
unfolding table_made with_next_table
made_full x e full = rw (le-ltb x.made most_tables full) refl

served_by : (a c : Option Tabled) (b d : Option Stored) → a ≡ c → b ≡ d → ServedAlike c d → ServedAlike a b
served_by a c b d e f h = subst (λ z. ServedAlike z b) (sym e) (subst (λ z. ServedAlike c z) (sym f) h)

-- what serves a megabyte that is not touched
pub megabyte_served : (y : Stored) (m : ℕ) (o : Option (List ℕ)) → touched_with y.bounds.touched m ≡ o → megabyte_touched y (megabyte_entry_at m) ≡ option_map (with_store y) (option_map (with_touched y.bounds) o)
unfolding megabyte_touched
megabyte_served y m o e = ap (λ a. option_map (with_store y) (option_map (with_touched y.bounds) a)) (ap (touched_with y.bounds.touched) (megabyte_of_entry m) ∙ e)

pub serves_alike : (x : Tabled) (y : Stored) (m : ℕ) → StandsIn x y → m < bounded_megabytes → is_touched y.bounds m ≡ false → ServedAlike (table_made x (megabyte_entry_at m)) (megabyte_touched y (megabyte_entry_at m))
serves_alike x y m h low none = let made = h.made in elim (cases_lt x.made most_tables) [
  | inl room ↦ served_by (table_made x (megabyte_entry_at m)) _ (megabyte_touched y (megabyte_entry_at m)) _ (made_new x (megabyte_entry_at m) room)
      (megabyte_served y m (Some (y.bounds.touched ++ m ∷ [])) (touched_new y.bounds m none (omega arith))) (stands_more x y h m low none room)
  | inr full ↦ served_by (table_made x (megabyte_entry_at m)) _ (megabyte_touched y (megabyte_entry_at m)) _ (made_full x (megabyte_entry_at m) full)
      (megabyte_served y m None (touched_full y.bounds m none (omega arith))) tt
]
