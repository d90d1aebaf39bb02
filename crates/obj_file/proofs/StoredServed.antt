-- Requests to the memory with a store of bounds, with their serving, are the loads and keeps of the store; and what the walk finds.
use Rattle.std.proofs.Common.{◌≡◌, ℕ, ◌/◌, ◌<◌, ◌≤◌, Bool, true, false, Option, Some, None, [], ◌∷◌, ◌++◌, length, inl, inr, refl, ap, ◌∙◌, sym, arith, length-append}
use Rattle.std.specs.Prelude.{Result, Err}
use Rattle.std.specs.Option.{option_map}
use Rattle.std.proofs.lemmas.Bool.{cases_lt, cases_Bool}
use Rattle.mx_base.specs.declared.limits.Bounds.{Bounds}
use Rattle.mx_base.specs.BoundsStore.{BoundsStore, Kept, granule, megabyte, with_kept, with_touched, touched_with, touch, most_tables, bounds_for, load_bounds, keep_bounds}
use Rattle.mx_base.specs.Walk.{Stands, walk, walk_end, entry_in, entry_for}
use Rattle.obj_file.specs.Machine.{Refusal, Misses}
use Rattle.obj_file.specs.Loaded.{Tabled, configuration}
use Rattle.obj_file.specs.Stored.{Stored, with_store, is_touched, unless_untouched, stored_load, stored_keep, done_or, once_more, with_serving}
use Rattle.obj_file.specs.StoreLaw.{StandsIn, table_entries, nth_granule, nth_entry_at, touched_at, kept_entry}
use Rattle.obj_file.proofs.StoredPlaces.{slot_of, slot_below, granule_of_slot, granule_parts}
use Rattle.obj_file.proofs.StoredTouched.{placed_touched, place_last, touched_place}
use Rattle.obj_file.proofs.StoredRequests.{store_far, store_touched, store_untouched, touched_new, touched_full, megabyte_served, walk_touched}

-- ---- requests with their serving

touched_old : (s : BoundsStore) (m : ℕ) → is_touched s m ≡ true → touched_with s.touched m ≡ Some s.touched
unfolding touched_with is_touched
touched_old s m some = rw some refl

pub touched_after : (s : BoundsStore) (m : ℕ) → is_touched (with_touched s (s.touched ++ m ∷ [])) m ≡ true
touched_after s m = placed_touched (with_touched s (s.touched ++ m ∷ [])) m (length s.touched) (simp length-append (omega arith)) (place_last s.touched m)

module _ {A : Type 0} (preserve : Bool) (y : Stored) (la : ℕ) (near : la < walk_end) (answer : Stored → A) where
  abbrev ask : Stored → Result A Refusal
  ask z = unless_untouched (configuration preserve) z.bounds la (answer z)

  asked_touched : is_touched y.bounds (megabyte la) ≡ true → with_serving ask y (ask y) ≡ option_map (λ s. answer (with_store y s)) (touch y.bounds la)
  asked_touched some =
      ap (with_serving ask y) (store_touched (configuration preserve) la y.bounds (answer y) near some)
      ∙ sym (ap (λ o. option_map (λ s. answer (with_store y s)) (option_map (with_touched y.bounds) o)) (touched_old y.bounds (megabyte la) some))

  abbrev served : Stored
  served = with_store y (with_touched y.bounds (y.bounds.touched ++ megabyte la ∷ []))

  asked_new : is_touched y.bounds (megabyte la) ≡ false → length y.bounds.touched < most_tables → with_serving ask y (ask y) ≡ option_map (λ s. answer (with_store y s)) (touch y.bounds la)
  asked_new none room =
      ap (with_serving ask y) (store_untouched preserve la y.bounds (answer y) near none)
      ∙ ap (once_more ask) (megabyte_served y (megabyte la) (Some (y.bounds.touched ++ megabyte la ∷ [])) (touched_new y.bounds (megabyte la) none room))
      ∙ ap (λ r. done_or None r) (store_touched (configuration preserve) la served.bounds (answer served) near (touched_after y.bounds (megabyte la)))
      ∙ sym (ap (λ o. option_map (λ s. answer (with_store y s)) (option_map (with_touched y.bounds) o)) (touched_new y.bounds (megabyte la) none room))

  asked_full : is_touched y.bounds (megabyte la) ≡ false → most_tables ≤ length y.bounds.touched → with_serving ask y (ask y) ≡ option_map (λ s. answer (with_store y s)) (touch y.bounds la)
  asked_full none full =
      ap (with_serving ask y) (store_untouched preserve la y.bounds (answer y) near none)
      ∙ ap (once_more ask) (megabyte_served y (megabyte la) None (touched_full y.bounds (megabyte la) none full))
      ∙ sym (ap (λ o. option_map (λ s. answer (with_store y s)) (option_map (with_touched y.bounds) o)) (touched_full y.bounds (megabyte la) none full))

  asked_served : with_serving ask y (ask y) ≡ option_map (λ s. answer (with_store y s)) (touch y.bounds la)
  asked_served = elim (cases_Bool (is_touched y.bounds (megabyte la))) [
    | inl some ↦ asked_touched some
    | inr none ↦ elim (cases_lt (length y.bounds.touched) most_tables) [ inl room ↦ asked_new none room | inr full ↦ asked_full none full ]
  ]

map_map : {X Y Z : Type 0} (f : X → Y) (g : Y → Z) (o : Option X) → option_map (λ x. g (f x)) o ≡ option_map g (option_map f o)
map_map f g None = refl
map_map f g (Some x) = refl

pub loads_served : (preserve : Bool) (y : Stored) (la value : ℕ) → la < walk_end
    → with_serving (λ z. stored_load (configuration preserve) z la value) y (stored_load (configuration preserve) y la value) ≡ option_map (λ p. (p.0, with_store y p.1)) (load_bounds y.bounds la value)
unfolding stored_load load_bounds
loads_served preserve y la value near =
    asked_served preserve y la near (λ z. (bounds_for value (z.bounds.kept (granule la)), z))
    ∙ map_map (λ (t : BoundsStore). (bounds_for value (t.kept (granule la)), t)) (λ (p : Bounds × BoundsStore). (p.0, with_store y p.1)) (touch y.bounds la)

pub keeps_served : (preserve : Bool) (y : Stored) (la value : ℕ) (b : Bounds) → la < walk_end
    → with_serving (λ z. stored_keep (configuration preserve) z la value b) y (stored_keep (configuration preserve) y la value b) ≡ option_map (with_store y) (keep_bounds y.bounds la value b)
unfolding stored_keep keep_bounds
keeps_served preserve y la value b near =
    asked_served preserve y la near (λ z. with_store z (with_kept z.bounds la value b))
    ∙ map_map (λ (t : BoundsStore). with_kept t la value b) (with_store y) (touch y.bounds la)

pub loads_far : (cfg : ℕ) (y : Stored) (la value : ℕ) → walk_end ≤ la → stored_load cfg y la value ≡ Err (Misses la)
unfolding stored_load
loads_far cfg y la value far = store_far cfg la y.bounds (bounds_for value (y.bounds.kept (granule la)), y) far

pub keeps_far : (cfg : ℕ) (y : Stored) (la value : ℕ) (b : Bounds) → walk_end ≤ la → stored_keep cfg y la value b ≡ Err (Misses la)
unfolding stored_keep
keeps_far cfg y la value b far = store_far cfg la y.bounds (with_store y (with_kept y.bounds la value b)) far

-- ---- what the walk finds

granule_megabyte : (la : ℕ) → granule la / table_entries ≡ megabyte la
granule_megabyte la = ap (λ g. g / table_entries) (granule_of_slot la) ∙ granule_parts (megabyte la) (slot_of la) (slot_below la)

pub kept_stands : (x : Tabled) (y : Stored) (preserve : Bool) (la : ℕ) (k : Kept) → StandsIn x y → la < walk_end → y.bounds.kept (granule la) ≡ Some k
    → (at : ℕ) × (walk x.bytes (configuration preserve) la ≡ Stands at) × (entry_in x.bytes at ≡ entry_for k.value k.bounds)
kept_stands x y preserve la k h near is = elim (cases_Bool (is_touched y.bounds (megabyte la))) [
  | inl some ↦
      let place = touched_place y.bounds (megabyte la) some in
      let made = h.made in
      let low : place.0 < x.made = omega (arith, place.1) in
      let granules : y.bounds.kept (nth_granule (touched_at y.bounds place.0) (slot_of la)) ≡ y.bounds.kept (granule la) = ap y.bounds.kept (ap (λ m. nth_granule m (slot_of la)) place.2 ∙ sym (granule_of_slot la)) in
      (nth_entry_at place.0 (slot_of la), walk_touched x y preserve la place.0 h near low place.2, h.entries place.0 (slot_of la) low (slot_below la) ∙ ap kept_entry (granules ∙ is))
  | inr none ↦ let nothing = h.unkept (granule la) (ap (is_touched y.bounds) (granule_megabyte la) ∙ none) in absurd (cc)
]
