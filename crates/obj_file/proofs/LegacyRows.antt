-- An instruction whose accesses are not sealed does alike over memories with the same bytes that are not sealed, and leaves those that are.
use Rattle.std.specs.Prelude.{Result, Ok, Err, ⊤}
use Rattle.std.proofs.Common.{◌≡◌, ℕ, zero, suc, ◌+◌, ◌-◌, ◌*◌, ◌%◌, ◌^◌, ◌<◌, ◌≤◌, ◌⊎◌, inl, inr, Bool, true, false, cond, not, ◌==◌, Option, None, Some, List, [], ◌∷◌, refl, ap, ◌∙◌, sym, subst, arith}
use Rattle.std.proofs.lemmas.Bool.{cond_both, cases_lt}
use Rattle.std.proofs.lemmas.Bool.Decides.{nat_tests}
use Rattle.mx_base.specs.declared.limits.Bounds.{Bounds}
use Rattle.mx_base.specs.Bounds.{addresses, moved, full_bounds}
use Rattle.mx_base.specs.BoundsStore.{BoundsStore, Kept, bounds_for, granule, with_kept}
use Rattle.mx_base.specs.Memory.{AreBytes, number_at, with_number, first_refused}
use Rattle.mx_base.specs.Regions.{is_readable, is_writable, is_sealed}
use Rattle.mx_base.proofs.MemoryLemmas.{AreBytes-with_number, number_at-same, first_refused-all, first_refused-none}
use Rattle.obj_file.proofs.StoredPlaces.{writable_readable, near_readable}
use Rattle.obj_file.proofs.StoredBytes.{with_number_apart, with_number_both}
use Rattle.x86_forms.specs.declared.spans.Span.{Span}
use Rattle.x86_forms.specs.Processor.{Processor}
use Rattle.x86_forms.specs.Requests.{Program, Ends, Fails, Reads, Writes, Loads, Keeps, Outcome, Done, Failed, Refused, run, refused_with, either_way}
use Rattle.x86_forms.specs.TableLaws.{AsksFor, read_span, write_span}
use Rattle.obj_file.specs.Loaded.{unless_missing, status_after}
use Rattle.obj_file.specs.Machine.{Refusal}
use Rattle.obj_file.specs.StoreLaw.{AreWords, HoldsWords, KeepsWords}
use Rattle.obj_file.proofs.StoredWords.{KeepWords}
use Rattle.obj_file.specs.Stored.{Stored, with_store, stored_read, stored_write, stored_load, stored_keep, stored_store, unless_untouched}
use Rattle.obj_file.specs.LegacyEvents.{Like, SameUnsealed, SameSealed}
use Rattle.obj_file.proofs.LegacyPrograms.{LikeProgram}

no_both : {A : Type 0} (b : Bool) → b ≡ true → b ≡ false → A
no_both true h e = absurd cc
no_both false h e = absurd cc

-- no byte of an access is sealed
abbrev pub IsOpen : Span → Type 0
IsOpen s = (s.at < addresses) × (s.size < addresses) × ((k : ℕ) → k < s.size → is_sealed (moved s.at k) ≡ false)

-- each access, as far as those before it are done
abbrev pub Clear : List Span → Type 0
Clear [] = ⊤
Clear (s ∷ rest) = IsOpen s × (first_refused is_readable s.size s.at ≡ None → Clear rest)

-- a refused instruction has the registers that it had
abbrev pub Alike : (ℕ → ℕ) → Stored → Outcome Stored Refusal → Outcome Stored Refusal → Type 0
Alike regs x (Done a y) (Done b z) = Like a b × SameUnsealed y z × SameSealed x z × HoldsWords b
Alike regs x (Failed f a y) (Failed g b z) = (f ≡ g) × Like a b × SameUnsealed y z × SameSealed x z × HoldsWords b
Alike regs x (Refused o a y) (Refused p b z) = (o ≡ p) × Like a b × SameUnsealed y z × SameSealed x z × HoldsWords b × (b.regs ≡ regs)
Alike regs x _ _ = ⊥

pub read_where_written : (size at : ℕ) → first_refused is_writable size at ≡ None → first_refused is_readable size at ≡ None
read_where_written size at none = first_refused-all is_readable size at (λ a from to. writable_readable a (first_refused-none is_writable size at a none from to))

-- what can be read ends before the last address
ends_low : (size at : ℕ) → at < addresses → first_refused is_readable size at ≡ None → at + size ≤ addresses
ends_low zero at low none = omega arith
ends_low (suc n) at low none = let last = near_readable (at + n) (first_refused-none is_readable (suc n) at (at + n) none (omega arith) (omega arith)) in omega arith

-- the bytes of an access that does not go round
inside_span : (at size a : ℕ) → ((k : ℕ) → k < size → is_sealed (moved at k) ≡ false) → at + size ≤ addresses → a < addresses → at ≤ a → a < at + size → is_sealed a ≡ false
unfolding moved
inside_span at size a h within low from to = let e : (at + (a - at)) % addresses ≡ a = omega arith in subst (λ (x : ℕ). is_sealed x ≡ false) e (h (a - at) (omega arith))

module _ (cfg : ℕ) (c d : Processor) (like : Like c d) (words : HoldsWords d) (x : Stored) where
  refused_alike : (o p : Refusal) (y z : Stored) → o ≡ p → SameUnsealed y z → SameSealed x z → Alike d.regs x (Refused o (refused_with (status_after o c.status) c) y) (Refused p (refused_with (status_after p d.status) d) z)
  refused_alike o p y z e same sealed = (e, record { regs = like.regs; flags = like.flags; rip = like.rip; bounds = like.bounds; preserve = like.preserve }, same, sealed, record { regs_fit = words.regs_fit; bounds_fit = words.bounds_fit }, refl)

  abbrev Run : Processor → Program → Stored → Outcome Stored Refusal
  Run e p y = run (stored_store cfg) e p y

  after_read : (y z : Stored) (o : Option ℕ) (v u : ℕ) (f g : ℕ → Program) → (o ≡ None → u ≡ v) → SameUnsealed y z → SameSealed x z → ((n : ℕ) → o ≡ None → Alike d.regs x (Run c (f n) y) (Run d (g n) z))
      → Alike d.regs x (either_way (unless_missing o v) (λ n. Run c (f n) y) (λ e. Refused e (refused_with (status_after e c.status) c) y)) (either_way (unless_missing o u) (λ n. Run d (g n) z) (λ e. Refused e (refused_with (status_after e d.status) d) z))
  after_read y z None v u f g e same sealed k = subst (λ (n : ℕ). Alike d.regs x (Run c (f v) y) (Run d (g n) z)) (sym (e refl)) (k v refl)
  after_read y z (Some at) v u f g e same sealed k = refused_alike _ _ y z refl same sealed

  after_write : (y z y' z' : Stored) (o : Option ℕ) (p q : Program) → SameUnsealed y z → SameSealed x z → (o ≡ None → Alike d.regs x (Run c p y') (Run d q z'))
      → Alike d.regs x (either_way (unless_missing o y') (λ t. Run c p t) (λ e. Refused e (refused_with (status_after e c.status) c) y)) (either_way (unless_missing o z') (λ t. Run d q t) (λ e. Refused e (refused_with (status_after e d.status) d) z))
  after_write y z y' z' None p q same sealed k = k refl
  after_write y z y' z' (Some at) p q same sealed k = refused_alike _ _ y z refl same sealed

  -- loads and keeps are answered by the bounds alone
  untouched_alike : {A : Type 0} (s : BoundsStore) (la : ℕ) (v u : A) (P : Result A Refusal → Result A Refusal → Type 0) → P (Ok v) (Ok u) → ((e : Refusal) → P (Err e) (Err e))
      → P (unless_untouched cfg s la v) (unless_untouched cfg s la u)
  untouched_alike s la v u P ok err = by _ _ _ _
    where
      by : (far touched : Bool) (e f : Refusal) → P (cond far (cond touched (Ok v) (Err e)) (Err f)) (cond far (cond touched (Ok u) (Err e)) (Err f))
      by true true e f = ok
      by true false e f = err e
      by false touched e f = err f

  number_same : (y z : Stored) (at size : ℕ) → SameUnsealed y z → IsOpen (read_span at size false) → first_refused is_readable size at ≡ None → number_at size z.bytes at ≡ number_at size y.bytes at
  number_same y z at size same o none =
      let within = ends_low size at o.0 none in
      number_at-same size z.bytes y.bytes at (λ a from to. same.unsealed a (inside_span at size a o.2 within (omega arith) from to))

  written_same : (y z : Stored) (at size v : ℕ) → SameUnsealed y z → SameUnsealed (record { bytes = with_number size y.bytes at v; bounds = y.bounds }) (record { bytes = with_number size z.bytes at v; bounds = z.bounds })
  written_same y z at size v same = record { unsealed = λ a free. with_number_both size z.bytes y.bytes at v a (same.unsealed a free); bounds = same.bounds }

  written_sealed : (z : Stored) (at size v : ℕ) → IsOpen (write_span at size false) → first_refused is_writable size at ≡ None → SameSealed x z → SameSealed x (record { bytes = with_number size z.bytes at v; bounds = z.bounds })
  written_sealed z at size v o none left = record { sealed = λ a closed. with_number_apart size z.bytes at v a (apart a closed) ∙ left.sealed a closed; each_byte = AreBytes-with_number size z.bytes at v left.each_byte; kept_words = left.kept_words }
    where
      apart : (a : ℕ) → is_sealed a ≡ true → (a < at) ⊎ (at + size ≤ a)
      apart a closed = let within = ends_low size at o.0 (read_where_written size at none) in elim (cases_lt a at) [
        | inl low ↦ inl low
        | inr from ↦ elim (cases_lt a (at + size)) [ inl to ↦ no_both (is_sealed a) closed (inside_span at size a o.2 within (omega arith) from to) | inr high ↦ inr high ]
      ]

  abbrev Goal : Program → Program → Stored → Stored → Type 0
  Goal p q y z = Alike d.regs x (Run c p y) (Run d q z)

  loaded_words : (v : ℕ) (o : Option Kept) → KeepsWords o → AreWords (bounds_for v o)
  unfolding bounds_for
  loaded_words v None h = (omega arith, omega arith)
  loaded_words v (Some e) h = cond_both (e.value == v) e.bounds full_bounds AreWords (λ _. h.1) (λ _. (omega arith, omega arith))

  kept_left : (z : Stored) (la v : ℕ) (b : Bounds) → v < 2 ^ 64 → AreWords b → SameSealed x z → SameSealed x (with_store z (with_kept z.bounds la v b))
  kept_left z la v b small fits left = record {
    sealed = left.sealed;
    each_byte = left.each_byte;
    kept_words = λ g. cond_both (g == granule la) (Some (record { value = v; bounds = b })) (z.bounds.kept g) KeepsWords (λ _. (small, fits)) (λ _. left.kept_words g);
  }

  -- both do alike
  pub runs_blind : (p q : Program) (spans : List Span) (y z : Stored) → LikeProgram p q → KeepWords q → AsksFor q spans → Clear spans → SameUnsealed y z → SameSealed x z → Goal p q y z
  unfolding run stored_read stored_write stored_load stored_keep
  runs_blind (Ends a) (Ends b) spans y z l fits asks clear same sealed = (l, same, sealed, fits)
  runs_blind (Fails f a) (Fails g b) spans y z l fits asks clear same sealed = (l.0, l.1, same, sealed, fits)
  runs_blind (Reads at size im f) (Reads at' size' im' g) [] y z l fits asks clear same sealed = absurd asks
  runs_blind (Reads at size im f) (Reads at' size' im' g) (s ∷ rest) y z l fits asks clear same sealed =
      let there : IsOpen (read_span at' size' false) = subst (λ (t : Span). IsOpen t) asks.0 clear.0 in
      let later : first_refused is_readable size' at' ≡ None → Clear rest = subst (λ (t : Span). first_refused is_readable t.size t.at ≡ None → Clear rest) asks.0 clear.1 in
      subst (λ (a : ℕ). Goal (Reads a size im f) (Reads at' size' im' g) y z) (sym l.0) (subst (λ (n : ℕ). Goal (Reads at' n im f) (Reads at' size' im' g) y z) (sym l.1)
      (after_read y z (first_refused is_readable size' at') _ _ f g (number_same y z at' size' same there) same sealed
      (λ n none. runs_blind (f n) (g n) rest y z (l.3 n) (fits n) (asks.1 n) (later none) same sealed)))
  runs_blind (Writes at size v im p) (Writes at' size' v' im' q) [] y z l fits asks clear same sealed = absurd asks
  runs_blind (Writes at size v im p) (Writes at' size' v' im' q) (s ∷ rest) y z l fits asks clear same sealed =
      let there : IsOpen (write_span at' size' false) = subst (λ (t : Span). IsOpen t) asks.0 clear.0 in
      let later : first_refused is_readable size' at' ≡ None → Clear rest = subst (λ (t : Span). first_refused is_readable t.size t.at ≡ None → Clear rest) asks.0 clear.1 in
      subst (λ (a : ℕ). Goal (Writes a size v im p) (Writes at' size' v' im' q) y z) (sym l.0) (subst (λ (n : ℕ). Goal (Writes at' n v im p) (Writes at' size' v' im' q) y z) (sym l.1)
      (subst (λ (n : ℕ). Goal (Writes at' size' n im p) (Writes at' size' v' im' q) y z) (sym l.2)
      (after_write y z _ _ (first_refused is_writable size' at') p q same sealed
      (λ none. runs_blind p q rest _ _ l.4 fits asks.1 (later (read_where_written size' at' none)) (written_same y z at' size' v' same) (written_sealed z at' size' v' there none sealed)))))
  runs_blind (Loads at v f) (Loads at' v' g) spans y z l fits asks clear same sealed =
      subst (λ (a : ℕ). Goal (Loads a v f) (Loads at' v' g) y z) (sym l.0) (subst (λ (n : ℕ). Goal (Loads at' n f) (Loads at' v' g) y z) (sym l.1)
      (subst (λ (s : BoundsStore). Goal (Loads at' v' f) (Loads at' v' g) (record { bytes = y.bytes; bounds = s }) z) same.bounds
      (untouched_alike z.bounds at' _ _ (λ a b. Alike d.regs x (either_way a (λ t. Run c (f t.0) t.1) (λ e. Refused e (refused_with (status_after e c.status) c) (record { bytes = y.bytes; bounds = z.bounds }))) (either_way b (λ t. Run d (g t.0) t.1) (λ e. Refused e (refused_with (status_after e d.status) d) z)))
      (runs_blind (f _) (g _) spans (record { bytes = y.bytes; bounds = z.bounds }) z (l.2 _) (fits _ (loaded_words v' _ (sealed.kept_words (granule at')))) (asks _) clear (record { unsealed = same.unsealed; bounds = refl }) sealed)
      (λ e. refused_alike e e (record { bytes = y.bytes; bounds = z.bounds }) z refl (record { unsealed = same.unsealed; bounds = refl }) sealed))))
  runs_blind (Keeps at v b p) (Keeps at' v' b' q) spans y z l fits asks clear same sealed =
      subst (λ (a : ℕ). Goal (Keeps a v b p) (Keeps at' v' b' q) y z) (sym l.0) (subst (λ (n : ℕ). Goal (Keeps at' n b p) (Keeps at' v' b' q) y z) (sym l.1) (subst (λ (n : Bounds). Goal (Keeps at' v' n p) (Keeps at' v' b' q) y z) (sym l.2)
      (subst (λ (s : BoundsStore). Goal (Keeps at' v' b' p) (Keeps at' v' b' q) (record { bytes = y.bytes; bounds = s }) z) same.bounds
      (untouched_alike z.bounds at' _ _ (λ a t. Alike d.regs x (either_way a (λ n. Run c p n) (λ e. Refused e (refused_with (status_after e c.status) c) (record { bytes = y.bytes; bounds = z.bounds }))) (either_way t (λ n. Run d q n) (λ e. Refused e (refused_with (status_after e d.status) d) z)))
      (runs_blind p q spans _ _ l.3 fits.2 asks clear (record { unsealed = same.unsealed; bounds = refl }) (kept_left z at' v' b' fits.0 fits.1 sealed))
      (λ e. refused_alike e e (record { bytes = y.bytes; bounds = z.bounds }) z refl (record { unsealed = same.unsealed; bounds = refl }) sealed)))))
  runs_blind p q spans y z l fits asks clear same sealed = absurd l
