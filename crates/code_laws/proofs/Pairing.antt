-- Bounds loaded and kept for a pointer, with the table that is served.
use Rattle.std.specs.Prelude.{if◌then◌else◌, Result, Ok, Err, pos}
use Rattle.std.proofs.Common.{◌≡◌, ℕ, ◌+◌, ◌^◌, ◌%◌, ◌<◌, Bool, true, false, Option, None, Some, List, [], ◌∷◌, ◌++◌, length, refl, arith, ap, ◌∙◌, sym, subst, inl, inr}
use Rattle.std.specs.Option.{option_map}
use Rattle.std.proofs.lemmas.Bool.{cases_lt, cases_Bool}
use Rattle.mx_base.specs.declared.limits.Bounds.{Bounds as BoundsPair}
use Rattle.mx_base.specs.declared.stops.Stop.TheVariants as stop
use Rattle.mx_base.specs.BoundsStore.{BoundsStore, Kept, granule, megabyte, with_kept, with_touched, touched_with, touch, most_tables, bounds_for, load_bounds, keep_bounds}
use Rattle.mx_base.specs.Walk.{walk_end, invalid_status, directory_entry_at}
use Rattle.mx_base.specs.World.{World, with_store as world_with_store}
use Rattle.x86_forms.specs.declared.instr.Instr.{Instr}
use Rattle.x86_forms.specs.declared.instr.Instr.TheVariants.{Bndldx, Bndstx}
use Rattle.x86_forms.specs.Examples.{indexed}
use Rattle.x86_forms.specs.Processor.{Processor, pointer_address}
use Rattle.x86_forms.specs.Requests.{Ends, Loads, Keeps}
use Rattle.x86_forms.specs.Table.{row, at_next}
use Rattle.obj_file.specs.Loaded.{configuration}
use Rattle.obj_file.specs.Machine.{Refusal, Invalid, served_or_invalid}
use Rattle.obj_file.specs.Stored.{Stored, with_store, is_touched, unless_untouched, stored_load, stored_keep, megabyte_touched}
use Rattle.obj_file.proofs.StoredPlaces.{entry_of_megabyte}
use Rattle.obj_file.proofs.StoredRequests.{store_touched, store_untouched, touched_new, touched_full, megabyte_served}
use Rattle.obj_file.proofs.StoredTouched.{placed_touched, place_last}
use Rattle.std.proofs.Common.{length-append}
use Rattle.code_laws.specs.Views.{View, walked, with_bound, pair_loaded, pair_kept}
use Rattle.code_laws.specs.Seen.{Setting, IsSetting, machine_of, Holds, state_of}
use Rattle.std.proofs.Common.{◌==◌}
use Rattle.mx_base.specs.Bounds.{full_bounds}
use Rattle.obj_file.specs.StoreLaw.{AreWords, KeepsWords}
use Rattle.code_laws.proofs.Leading.{append_none, executed_loads, executed_loads_served, executed_loads_never, executed_keeps, executed_keeps_served, executed_keeps_never, After, goes_on, halts_here}
use Rattle.code_laws.specs.Runs.{whole_of}
use Rattle.code_laws.proofs.Pieces.{forward, none_fine, bound_words}
use Rattle.code_laws.specs.Runs.{Ready}

touched_after : (s : BoundsStore) (m : ℕ) → is_touched (with_touched s (s.touched ++ m ∷ [])) m ≡ true
touched_after s m = placed_touched (with_touched s (s.touched ++ m ∷ [])) m (length s.touched) (simp length-append (omega arith)) (place_last s.touched m)

touched_old : (s : BoundsStore) (m : ℕ) → is_touched s m ≡ true → touched_with s.touched m ≡ Some s.touched
unfolding touched_with is_touched
touched_old s m some = rw some refl

-- what touching an address comes to, and what the walk and its serving make of it
module _ (preserve : Bool) (y : Stored) (la : ℕ) (near : la < walk_end) where
  pub data Touching : Option BoundsStore → Type 0 where
    Before : is_touched y.bounds (megabyte la) ≡ true → Touching (Some y.bounds)
    Now : (t : BoundsStore) → t.kept ≡ y.bounds.kept → is_touched y.bounds (megabyte la) ≡ false → is_touched t (megabyte la) ≡ true → megabyte_touched y (directory_entry_at (configuration preserve) la) ≡ Some (with_store y t) → Touching (Some t)
    Never : is_touched y.bounds (megabyte la) ≡ false → megabyte_touched y (directory_entry_at (configuration preserve) la) ≡ None → Touching None

  served_by : (o : Option (List ℕ)) → touched_with y.bounds.touched (megabyte la) ≡ o → megabyte_touched y (directory_entry_at (configuration preserve) la) ≡ option_map (with_store y) (option_map (with_touched y.bounds) o)
  served_by o e = ap (megabyte_touched y) (entry_of_megabyte preserve la near) ∙ megabyte_served y (megabyte la) o e

  pub touching : Touching (touch y.bounds la)
  touching = elim (cases_Bool (is_touched y.bounds (megabyte la))) [
    | inl some ↦ subst (λ (o : Option (List ℕ)). Touching (option_map (with_touched y.bounds) o)) (sym (touched_old y.bounds (megabyte la) some)) (Before some)
    | inr none ↦ elim (cases_lt (length y.bounds.touched) most_tables) [
      | inl room ↦
          let t = with_touched y.bounds (y.bounds.touched ++ megabyte la ∷ []) in
          let e = touched_new y.bounds (megabyte la) none room in
          subst (λ (o : Option (List ℕ)). Touching (option_map (with_touched y.bounds) o)) (sym e) (Now t refl none (touched_after y.bounds (megabyte la)) (served_by (Some (y.bounds.touched ++ megabyte la ∷ [])) e))
      | inr full ↦
          let e = touched_full y.bounds (megabyte la) none full in
          subst (λ (o : Option (List ℕ)). Touching (option_map (with_touched y.bounds) o)) (sym e) (Never none (served_by None e))
    ]
  ]

  -- a request, over a store of bounds that was touched and over one that was not
  pub near_touched : {A : Type 0} (s : BoundsStore) (v : A) → is_touched s (megabyte la) ≡ true → unless_untouched (configuration preserve) s la v ≡ Ok v
  near_touched s v some = store_touched (configuration preserve) la s v near some

  pub near_untouched : {A : Type 0} (s : BoundsStore) (v : A) → is_touched s (megabyte la) ≡ false → unless_untouched (configuration preserve) s la v ≡ Err (Invalid (directory_entry_at (configuration preserve) la))
  near_untouched {A} s v none = store_untouched preserve la s v near none ∙ ap (λ (e : ℕ). let r : Result A Refusal = Err (Invalid e) in r) (sym (entry_of_megabyte preserve la near))

kept_fit : (value : ℕ) (o : Option Kept) → KeepsWords o → AreWords (bounds_for value o)
unfolding bounds_for
kept_fit value None h = (omega arith, omega arith)
kept_fit value (Some k) h = elim (k.value == value) as (λ b. AreWords (if b then k.bounds else full_bounds)) [ true ↦ h.1 | false ↦ (omega arith, omega arith) ]

walked_before : (s : BoundsStore) (la : ℕ) (c : Processor) → is_touched s (megabyte la) ≡ true → walked s la c ≡ c
walked_before s la c is = ap (λ (b : Bool). let d : Processor = record c { status = if b then c.status else invalid_status (directory_entry_at (configuration c.preserve) la) } in d) is

walked_now : (s : BoundsStore) (la : ℕ) (c : Processor) (preserve : Bool) → is_touched s (megabyte la) ≡ false → c.preserve ≡ preserve
    → walked s la c ≡ record c { status = invalid_status (directory_entry_at (configuration preserve) la) }
walked_now s la c preserve is same = ap (λ (b : Bool). let d : Processor = record c { status = if b then c.status else invalid_status (directory_entry_at (configuration c.preserve) la) } in d) is
    ∙ ap (λ (p : Bool). let d : Processor = record c { status = invalid_status (directory_entry_at (configuration p) la) } in d) same

module _ (S : Setting) (ok : IsSetting S) where
  holds_store : (slots : ℕ → ℕ) (w : World) (y : Stored) (t : BoundsStore) → Holds S slots w y → ((g : ℕ) → KeepsWords (t.kept g)) → Holds S slots (world_with_store w t) (with_store y t)
  holds_store slots w y t h words = record { open_bytes = h.open_bytes; store = refl; frame = h.frame; frozen = h.frozen; code = h.code; data_cell = h.data_cell; legacy_cell = h.legacy_cell; depth_cell = h.depth_cell; each_byte = h.each_byte; kept_words = words; guest_fits = h.guest_fits }

  load_instr : ℕ → ℕ → ℕ → Instr
  load_instr b p x = Bndldx b (indexed p x 1 (pos 0))

  at_pointer : (v : View) (next p x : ℕ) → v.processor.regs p < 2 ^ 64 → pointer_address v.processor.regs next (indexed p x 1 (pos 0)) ≡ v.processor.regs p
  unfolding pointer_address
  at_pointer v next p x small = omega arith

  loaded_row : (c : Processor) (next b p x : ℕ) → c.regs p < 2 ^ 64 → row (Bndldx b (indexed p x 1 (pos 0))) next c ≡ Loads (c.regs p) (c.regs x) (λ q. Ends (with_bound (at_next c next) b q))
  unfolding row pointer_address
  loaded_row c next b p x small = let e : (c.regs p + 0) % 2 ^ 64 ≡ c.regs p = omega arith in ap (λ (a : ℕ). Loads a (c.regs x) (λ q. Ends (with_bound (at_next c next) b q))) e

  -- what touching gives, as the store then, and the state after the instruction
  load_by : (v : View) (y : Stored) (n next b p x : ℕ) (o : Option BoundsStore) → Ready S ok v y (Bndldx b (indexed p x 1 (pos 0))) next → (near : v.processor.regs p < walk_end) → Touching S.preserve y (v.processor.regs p) near o
      → After S (whole_of S v y n) (pair_loaded v b (v.processor.regs p) (walked y.bounds (v.processor.regs p) (at_next v.processor next)) (option_map (λ t. (bounds_for (v.processor.regs x) (t.kept (granule (v.processor.regs p))), t)) o))
  unfolding stored_load
  load_by v y n next b p x o h near (Before some) =
      let i = Bndldx b (indexed p x 1 (pos 0)) in
      let la = v.processor.regs p in
      let value = v.processor.regs x in
      let bounds = bounds_for value (y.bounds.kept (granule la)) in
      let c : Processor = with_bound (walked y.bounds la (at_next v.processor next)) b bounds in
      let u : View = record v { processor = c; world = world_with_store v.world y.bounds } in
      goes_on S ok v u y y n next i [] (record { seen = h.seen; stands = h.stands; ordinary = record { call = refl; return = refl; service = refl }; out = refl })
      (none_fine S ok i v.processor.rip _ refl) refl
      (executed_loads (machine_of S) i next (state_of v y n) la value _ bounds y c (loaded_row v.processor next b p x (omega arith)) (near_touched S.preserve y la near y.bounds (bounds, y) some)
      (ap (λ (d : Processor). Ends (with_bound d b bounds)) (sym (walked_before y.bounds la (at_next v.processor next) some))))
      (forward S ok v y i next h) refl (sym (append_none v.world.accesses))
      (record {
        memory = holds_store v.slots v.world y y.bounds h.seen.memory h.seen.memory.kept_words;
        words = bound_words (walked y.bounds la (at_next v.processor next)) b bounds (kept_fit value (y.bounds.kept (granule la)) (h.seen.memory.kept_words (granule la))) (record { regs_fit = h.seen.words.regs_fit; bounds_fit = h.seen.words.bounds_fit });
        stack = h.seen.stack;
        preserve = h.seen.preserve;
        far = h.seen.far;
      })
  load_by v y n next b p x o h near (Now t kept none some served) =
      let i = Bndldx b (indexed p x 1 (pos 0)) in
      let la = v.processor.regs p in
      let value = v.processor.regs x in
      let e = directory_entry_at (configuration S.preserve) la in
      let words : (g : ℕ) → KeepsWords (t.kept g) = λ g. subst (λ (k : ℕ → Option Kept). KeepsWords (k g)) (sym kept) (h.seen.memory.kept_words g) in
      let bounds = bounds_for value (t.kept (granule la)) in
      let c : Processor = with_bound (walked y.bounds la (at_next v.processor next)) b bounds in
      let u : View = record v { processor = c; world = world_with_store v.world t } in
      let z : Stored = with_store y t in
      goes_on S ok v u y z n next i [] (record { seen = h.seen; stands = h.stands; ordinary = record { call = refl; return = refl; service = refl }; out = refl })
      (none_fine S ok i v.processor.rip _ refl) refl
      (executed_loads_served (machine_of S) i next (state_of v y n) la value e _ _ z bounds z c (loaded_row v.processor next b p x (omega arith)) (near_untouched S.preserve y la near y.bounds _ none)
      (ap (served_or_invalid e) served) (loaded_row (record v.processor { status = invalid_status e }) next b p x (omega arith)) (near_touched S.preserve y la near t (bounds, z) some)
      (ap (λ (d : Processor). Ends (with_bound d b bounds)) (sym (walked_now y.bounds la (at_next v.processor next) S.preserve none h.seen.preserve))))
      (forward S ok v y i next h) refl (sym (append_none v.world.accesses))
      (record {
        memory = holds_store v.slots v.world y t h.seen.memory words;
        words = bound_words (walked y.bounds la (at_next v.processor next)) b bounds (kept_fit value (t.kept (granule la)) (words (granule la))) (record { regs_fit = h.seen.words.regs_fit; bounds_fit = h.seen.words.bounds_fit });
        stack = h.seen.stack;
        preserve = h.seen.preserve;
        far = h.seen.far;
      })
  load_by v y n next b p x o h near (Never none served) =
      let i = Bndldx b (indexed p x 1 (pos 0)) in
      let la = v.processor.regs p in
      let e = directory_entry_at (configuration S.preserve) la in
      halts_here S ok v y n next i stop.NoTable _ (record { seen = h.seen; stands = h.stands; ordinary = record { call = refl; return = refl; service = refl }; out = refl })
      (none_fine S ok i v.processor.rip _ refl)
      (executed_loads_never (machine_of S) i next (state_of v y n) la (v.processor.regs x) e _ (loaded_row v.processor next b p x (omega arith)) (near_untouched S.preserve y la near y.bounds _ none) (ap (served_or_invalid e) served))
      refl h.seen.memory.store

  pub load_pair : (v : View) (y : Stored) (n next b p x : ℕ) → Ready S ok v y (Bndldx b (indexed p x 1 (pos 0))) next → v.processor.regs p < walk_end
      → After S (whole_of S v y n) (pair_loaded v b (v.processor.regs p) (walked v.world.store (v.processor.regs p) (at_next v.processor next)) (load_bounds v.world.store (v.processor.regs p) (v.processor.regs x)))
  unfolding load_bounds
  load_pair v y n next b p x h near =
      subst (λ (s : BoundsStore). After S (whole_of S v y n) (pair_loaded v b (v.processor.regs p) (walked s (v.processor.regs p) (at_next v.processor next)) (option_map (λ t. (bounds_for (v.processor.regs x) (t.kept (granule (v.processor.regs p))), t)) (touch s (v.processor.regs p)))))
      h.seen.memory.store (load_by v y n next b p x (touch y.bounds (v.processor.regs p)) h near (touching S.preserve y (v.processor.regs p) near))

  -- ---- keeping

  kept_row : (c : Processor) (next p x b : ℕ) → c.regs p < 2 ^ 64 → row (Bndstx b (indexed p x 1 (pos 0))) next c ≡ Keeps (c.regs p) (c.regs x) (c.bounds b) (Ends (at_next c next))
  unfolding row pointer_address
  kept_row c next p x b small = let e : (c.regs p + 0) % 2 ^ 64 ≡ c.regs p = omega arith in ap (λ (a : ℕ). Keeps a (c.regs x) (c.bounds b) (Ends (at_next c next))) e

  with_kept_words : (t : BoundsStore) (la value : ℕ) (b : BoundsPair) → value < 2 ^ 64 → AreWords b → ((g : ℕ) → KeepsWords (t.kept g)) → (g : ℕ) → KeepsWords ((with_kept t la value b).kept g)
  with_kept_words t la value b small words h g = elim (g == granule la) as (λ d. KeepsWords (if d then Some (record { value = value; bounds = b }) else t.kept g)) [ true ↦ (small, words) | false ↦ h g ]

  keep_by : (v : View) (y : Stored) (n next p x b : ℕ) (o : Option BoundsStore) → Ready S ok v y (Bndstx b (indexed p x 1 (pos 0))) next → (near : v.processor.regs p < walk_end) → Touching S.preserve y (v.processor.regs p) near o
      → After S (whole_of S v y n) (pair_kept v (walked y.bounds (v.processor.regs p) (at_next v.processor next)) (option_map (λ t. with_kept t (v.processor.regs p) (v.processor.regs x) (v.processor.bounds b)) o))
  unfolding stored_keep
  keep_by v y n next p x b o h near (Before some) =
      let i = Bndstx b (indexed p x 1 (pos 0)) in
      let la = v.processor.regs p in
      let t = with_kept y.bounds la (v.processor.regs x) (v.processor.bounds b) in
      let c : Processor = walked y.bounds la (at_next v.processor next) in
      let u : View = record v { processor = c; world = world_with_store v.world t } in
      goes_on S ok v u y (with_store y t) n next i [] (record { seen = h.seen; stands = h.stands; ordinary = record { call = refl; return = refl; service = refl }; out = refl })
      (none_fine S ok i v.processor.rip _ refl) refl
      (executed_keeps (machine_of S) i next (state_of v y n) la (v.processor.regs x) (v.processor.bounds b) _ (with_store y t) c (kept_row v.processor next p x b (omega arith)) (near_touched S.preserve y la near y.bounds (with_store y t) some)
      (ap (λ (d : Processor). Ends d) (sym (walked_before y.bounds la (at_next v.processor next) some))))
      (forward S ok v y i next h) refl (sym (append_none v.world.accesses))
      (record {
        memory = holds_store v.slots v.world y t h.seen.memory (with_kept_words y.bounds la (v.processor.regs x) (v.processor.bounds b) (h.seen.words.regs_fit x) (h.seen.words.bounds_fit b) h.seen.memory.kept_words);
        words = record { regs_fit = h.seen.words.regs_fit; bounds_fit = h.seen.words.bounds_fit };
        stack = h.seen.stack;
        preserve = h.seen.preserve;
        far = h.seen.far;
      })
  keep_by v y n next p x b o h near (Now t kept none some served) =
      let i = Bndstx b (indexed p x 1 (pos 0)) in
      let la = v.processor.regs p in
      let e = directory_entry_at (configuration S.preserve) la in
      let words : (g : ℕ) → KeepsWords (t.kept g) = λ g. subst (λ (k : ℕ → Option Kept). KeepsWords (k g)) (sym kept) (h.seen.memory.kept_words g) in
      let q = with_kept t la (v.processor.regs x) (v.processor.bounds b) in
      let c : Processor = walked y.bounds la (at_next v.processor next) in
      let u : View = record v { processor = c; world = world_with_store v.world q } in
      goes_on S ok v u y (with_store y q) n next i [] (record { seen = h.seen; stands = h.stands; ordinary = record { call = refl; return = refl; service = refl }; out = refl })
      (none_fine S ok i v.processor.rip _ refl) refl
      (executed_keeps_served (machine_of S) i next (state_of v y n) la (v.processor.regs x) e (v.processor.bounds b) _ _ (with_store y t) (with_store y q) c (kept_row v.processor next p x b (omega arith)) (near_untouched S.preserve y la near y.bounds _ none)
      (ap (served_or_invalid e) served) (kept_row (record v.processor { status = invalid_status e }) next p x b (omega arith)) (near_touched S.preserve y la near t (with_store y q) some)
      (ap (λ (d : Processor). Ends d) (sym (walked_now y.bounds la (at_next v.processor next) S.preserve none h.seen.preserve))))
      (forward S ok v y i next h) refl (sym (append_none v.world.accesses))
      (record {
        memory = holds_store v.slots v.world y q h.seen.memory (with_kept_words t la (v.processor.regs x) (v.processor.bounds b) (h.seen.words.regs_fit x) (h.seen.words.bounds_fit b) words);
        words = record { regs_fit = h.seen.words.regs_fit; bounds_fit = h.seen.words.bounds_fit };
        stack = h.seen.stack;
        preserve = h.seen.preserve;
        far = h.seen.far;
      })
  keep_by v y n next p x b o h near (Never none served) =
      let i = Bndstx b (indexed p x 1 (pos 0)) in
      let la = v.processor.regs p in
      let e = directory_entry_at (configuration S.preserve) la in
      halts_here S ok v y n next i stop.NoTable _ (record { seen = h.seen; stands = h.stands; ordinary = record { call = refl; return = refl; service = refl }; out = refl })
      (none_fine S ok i v.processor.rip _ refl)
      (executed_keeps_never (machine_of S) i next (state_of v y n) la (v.processor.regs x) e (v.processor.bounds b) _ (kept_row v.processor next p x b (omega arith)) (near_untouched S.preserve y la near y.bounds _ none) (ap (served_or_invalid e) served))
      refl h.seen.memory.store

  pub keep_pair : (v : View) (y : Stored) (n next p x b : ℕ) → Ready S ok v y (Bndstx b (indexed p x 1 (pos 0))) next → v.processor.regs p < walk_end
      → After S (whole_of S v y n) (pair_kept v (walked v.world.store (v.processor.regs p) (at_next v.processor next)) (keep_bounds v.world.store (v.processor.regs p) (v.processor.regs x) (v.processor.bounds b)))
  unfolding keep_bounds
  keep_pair v y n next p x b h near =
      subst (λ (s : BoundsStore). After S (whole_of S v y n) (pair_kept v (walked s (v.processor.regs p) (at_next v.processor next)) (option_map (λ t. with_kept t (v.processor.regs p) (v.processor.regs x) (v.processor.bounds b)) (touch s (v.processor.regs p)))))
      h.seen.memory.store (keep_by v y n next p x b (touch y.bounds (v.processor.regs p)) h near (touching S.preserve y (v.processor.regs p) near))
