-- Legacy code changes no byte outside of the pages that are listed, and nothing that is kept outside of the granules that are.
use Rattle.std.proofs.Common.{◌≡◌, ◌≤◌, ◌<◌, ◌⊎◌, inl, inr, ℕ, zero, suc, ◌+◌, ◌-◌, ◌/◌, ◌==◌, ◌||◌, Bool, true, false, cond, Some, List, [], ◌∷◌, ◌++◌, refl, sym, ap, ◌∙◌, subst, arith}
use Rattle.std.specs.Prelude.{Ok}
use Rattle.std.proofs.lemmas.Bool.{cases_lt}
use Rattle.std.proofs.lemmas.Bool.Decides.{nat_tests}
use Rattle.mx_base.specs.declared.limits.Bounds.{Bounds}
use Rattle.mx_base.specs.BoundsStore.{granule, touch}
use Rattle.mx_base.specs.Memory.{with_number}
use Rattle.mx_base.specs.World.{World, Log, LegacyInit}
use Rattle.x86_forms.specs.Watch.{landing}
use Rattle.obj_file.specs.Machine.{event}
use Rattle.obj_file.specs.Loaded.{configuration}
use Rattle.obj_file.specs.Stored.{Stored, with_store, address_of_entry, megabyte_touched, stored_write, stored_load, stored_keep}
use Rattle.obj_file.proofs.StoredBytes.{with_number_apart}
use Rattle.bounds_plan.specs.meaning.State.{listed, with_made, with_cause}
use Rattle.bounds_plan.specs.meaning.Outside.{made_and_kept}
use Rattle.bounds_plan.specs.laws.Laws.{LeftOutside}
use Rattle.legacy_calls.specs.Legacy.{Linkage, ground}
use Rattle.obj_file.specs.Beside.{Beside}
use Rattle.legacy_calls.specs.Laws.{is_listed, Counted}
use Rattle.obj_file.specs.Keeping.{KeepsByRequests}
use Rattle.legacy_calls.specs.OfC.{is_init, handed, pages_through, with_pages, legacy_notes, ground_of_c, as_noted, outside_of_c}
use Rattle.obj_file.proofs.EventsKeep.{After, event_keeps}
use Rattle.legacy_calls.proofs.Kept.{KeepsLegacy, outside_keeps}
use Rattle.legacy_calls.proofs.Requests.{from_result, from_missing, from_served, keep_leaves, load_leaves, any_service, then_leaves}
use Rattle.legacy_calls.proofs.Rooted.{touched_keeps}

-- ---- lists

or_false : (a b : Bool) → (a || b) ≡ false → (a ≡ false) × (b ≡ false)
or_false true b h = absurd (cc)
or_false false b h = (refl, h)

any_front : (p n : ℕ) (xs : List ℕ) → is_listed p (xs ++ n ∷ []) ≡ false → (is_listed p xs ≡ false) × ((n == p) ≡ false)
any_front p n [] h = (refl, (or_false (n == p) false h).0)
any_front p n (x ∷ xs) h = let both = or_false (x == p) (is_listed p (xs ++ n ∷ [])) h in let rest = any_front p n xs both.1 in (ap (λ b. b || is_listed p xs) both.0 ∙ rest.0, rest.1)

one_of : (x p n : ℕ) (rest : Bool) → ((x == n) || rest) ≡ true → (x == p) ≡ false → (rest ≡ true → (n == p) ≡ false) → (n == p) ≡ false
one_of x p n true e a h = h refl
one_of x p n false e a h = grind (arith, nat_tests)

other_than : (p n : ℕ) (xs : List ℕ) → is_listed n xs ≡ true → is_listed p xs ≡ false → (n == p) ≡ false
other_than p n [] e h = absurd (cc)
other_than p n (x ∷ xs) e h = let both = or_false (x == p) (is_listed p xs) h in one_of x p n (is_listed n xs) e both.0 (λ k. other_than p n xs k both.1)

-- a number is listed once it was
listed_apart : (p n : ℕ) (xs : List ℕ) → is_listed p (listed n xs) ≡ false → (is_listed p xs ≡ false) × ((n == p) ≡ false)
listed_apart p n xs h = by (is_listed n xs) refl h
  where
    by : (b : Bool) → is_listed n xs ≡ b → is_listed p (cond b xs (xs ++ n ∷ [])) ≡ false → (is_listed p xs ≡ false) × ((n == p) ≡ false)
    by true e k = (k, other_than p n xs e k)
    by false e k = any_front p n xs k

through_apart : (n page p : ℕ) (xs : List ℕ) → is_listed p (pages_through n page xs) ≡ false → (is_listed p xs ≡ false) × ((p < page) ⊎ (page + n ≤ p))
through_apart zero page p xs h = (h, by (page == p) refl)
  where
    by : (b : Bool) → (page == p) ≡ b → (p < page) ⊎ (page + 0 ≤ p)
    by b e = elim (cases_lt p page) [ inl low ↦ inl low | inr high ↦ inr (omega arith) ]
through_apart (suc n) page p xs h =
    let rest = through_apart n (page + 1) p (listed page xs) h in
    let here = listed_apart p page xs rest.0 in
    (here.0, elim rest.1 [ inl low ↦ inl (below page p here.1 low) | inr high ↦ inr (omega (arith, high)) ])
  where
    below : (page p : ℕ) → (page == p) ≡ false → p < page + 1 → p < page
    below page p e low = grind (arith, nat_tests)

outside_pages : (at size x : ℕ) → (x / 4096 < at / 4096) ⊎ (at / 4096 + ((at + size - 1) / 4096 + 1 - at / 4096) ≤ x / 4096) → (x < at) ⊎ (at + size ≤ x)
outside_pages at size x (inl low) = inl (omega (arith, low))
outside_pages at size x (inr high) = inr (omega (arith, high))

-- ---- requests

abbrev pub CountedOn : Beside Stored Log → Beside Stored Log → Type 0
CountedOn y z = ((p : ℕ) → is_listed p z.notes.pages ≡ false → is_listed p y.notes.pages ≡ false)
    × ((g : ℕ) → is_listed g z.notes.granules ≡ false → is_listed g y.notes.granules ≡ false)
    × ((x : ℕ) → is_listed (x / 4096) z.notes.pages ≡ false → z.memory.bytes x ≡ y.memory.bytes x)
    × ((g : ℕ) → is_listed g z.notes.granules ≡ false → z.memory.bounds.kept g ≡ y.memory.bounds.kept g)

write_is : (y x : Stored) (at size v : ℕ) → stored_write y at size v ≡ Ok x → x ≡ record { bytes = with_number size y.bytes at v; bounds = y.bounds }
unfolding stored_write
write_is y x at size v e = from_missing _ _ x e

not_there : (g a : ℕ) → (granule a == g) ≡ false → (g == granule a) ≡ false
not_there g a e = grind (arith, nat_tests)

touched_bytes : (k : Linkage) (y x : Stored) (e : ℕ) → (ground k).serve y e ≡ Ok x → x.bytes ≡ y.bytes
unfolding megabyte_touched
touched_bytes k y x e h = ap (λ (s : Stored). s.bytes) (from_served e (with_store y) (touch y.bounds (address_of_entry e)) x h).2

requests_counted : (k : Linkage) → KeepsByRequests (ground_of_c k) CountedOn
requests_counted k = record {
  same = λ y. (λ p h. h, λ g h. h, λ x h. refl, λ g h. refl);
  join = λ x y z h j. (λ p n. h.0 p (j.0 p n), λ g n. h.1 g (j.1 g n), λ a n. j.2 a n ∙ h.2 a (j.0 (a / 4096) n), λ g n. j.3 g n ∙ h.3 g (j.1 g n));
  write = λ y z at size v e.
      let from = from_result (λ x. record { memory = x; notes = with_pages at size y.notes }) (stored_write y.memory at size v) z e in
      subst (CountedOn y) (sym from.2) (subst (λ (x : Stored). CountedOn y record { memory = x; notes = with_pages at size y.notes }) (sym (write_is y.memory from.0 at size v from.1)) (
        λ p n. (through_apart ((at + size - 1) / 4096 + 1 - at / 4096) (at / 4096) p y.notes.pages n).0,
        λ g n. n,
        λ x n. with_number_apart size y.memory.bytes at v x (outside_pages at size x (through_apart ((at + size - 1) / 4096 + 1 - at / 4096) (at / 4096) (x / 4096) y.notes.pages n).1),
        λ g n. refl,
      ));
  load = λ y la v p e.
      let m = legacy_notes.loaded la y.notes in
      let from = from_result (λ (q : Bounds × Stored). (q.0, record { memory = q.1; notes = m })) (stored_load (configuration k.preserve) y.memory la v) p e in
      subst (λ (q : Bounds × Beside Stored Log). CountedOn y q.1) (sym from.2) (subst (λ (x : Stored). CountedOn y record { memory = x; notes = m }) (sym (load_leaves (configuration k.preserve) y.memory la v from.0 from.1))
      (λ p n. n, λ g n. (listed_apart g (granule la) y.notes.granules n).0, λ x n. refl, λ g n. refl));
  keep = λ y z la v b e.
      let from = from_result (λ x. record { memory = x; notes = made_and_kept la b y.notes }) (stored_keep (configuration k.preserve) y.memory la v b) z e in
      subst (CountedOn y) (sym from.2) (subst (λ (x : Stored). CountedOn y record { memory = x; notes = made_and_kept la b y.notes }) (sym (keep_leaves (configuration k.preserve) y.memory from.0 la v b from.1)) (
        λ p n. n,
        λ g n. (listed_apart g (granule la) y.notes.granules n).0,
        λ x n. refl,
        λ g n. ap (λ c. cond c (Some record { value = v; bounds = b }) (y.memory.bounds.kept g)) (not_there g la (listed_apart g (granule la) y.notes.granules n).1),
      ));
  serve = λ y z entry_at lacks e.
      let from = from_result (λ x. record { memory = x; notes = y.notes }) ((ground k).serve y.memory entry_at) z e in
      subst (CountedOn y) (sym from.2) (λ p n. n, λ g n. n, λ x n i. touched_bytes k y.memory from.0 entry_at from.1 i x, λ g n. touched_keeps k y.memory from.0 entry_at from.1 g);
}

-- ---- the call

handed_counts : (b : Bounds) (l : Log) → ((handed b l).pages ≡ l.pages) × ((handed b l).granules ≡ l.granules)
handed_counts b l = by (is_init b)
  where
    by : (t : Bool) → ((cond t (with_cause LegacyInit l) (with_made b l)).pages ≡ l.pages) × ((cond t (with_cause LegacyInit l) (with_made b l)).granules ≡ l.granules)
    by true = (refl, refl)
    by false = (refl, refl)

unlisted : (p : ℕ) (xs ys : List ℕ) → ys ≡ xs → is_listed p ys ≡ false → is_listed p xs ≡ false
unlisted p xs ys e h = subst (λ (zs : List ℕ). is_listed p zs ≡ false) e h

still : (w : World) (l : Log) (u : World) → u.bytes ≡ w.bytes → u.store ≡ w.store → Counted w l u l
still w l u b s = record { pages = λ p h. h; granules = λ g h. h; bytes = λ x h i. b i x; kept = λ g h i. (s i).kept g }

outside_two : (sp x : ℕ) → (sp / 4096 == x / 4096) ≡ false → ((sp + 8 - 1) / 4096 == x / 4096) ≡ false → (x < sp) ⊎ (sp + 8 ≤ x)
outside_two sp x a b = elim (cases_lt x sp) [ inl low ↦ inl low | inr high ↦ inr (grind (arith, nat_tests)) ]

legacy_counted : (k : Linkage) → KeepsLegacy k Counted
legacy_counted k = record {
  same = λ w l. still w l w refl refl;
  join = λ w l u m v n h j. record { pages = λ p x. h.pages p (j.pages p x); granules = λ g x. h.granules g (j.granules g x); bytes = λ a x. j.bytes a x ∙ h.bytes a (j.pages (a / 4096) x); kept = λ g x. j.kept g x ∙ h.kept g (j.granules g x) };
  turned = λ w l n e. still w l _ refl refl;
  handed_over = λ w l b. record { pages = λ p x. unlisted p l.pages (handed b l).pages (handed_counts b l).0 x; granules = λ g x. unlisted g l.granules (handed b l).granules (handed_counts b l).1 x; bytes = λ x h. refl; kept = λ g h. refl };
  moved = λ w l far sp. still w l _ refl refl;
  returned = λ w l sp e. record {
    pages = λ p x. (listed_apart p (sp / 4096) l.pages (listed_apart p ((sp + 8 - 1) / 4096) (listed (sp / 4096) l.pages) x).0).0;
    granules = λ g x. x;
    bytes = λ a x. let last = listed_apart (a / 4096) ((sp + 8 - 1) / 4096) (listed (sp / 4096) l.pages) x in
        with_number_apart 8 w.bytes sp landing a (outside_two sp a (listed_apart (a / 4096) (sp / 4096) l.pages last.0).1 last.1);
    kept = λ g x. refl;
  };
  event = λ z l. let g = ground_of_c k in let s = as_noted z l in
      then_leaves (After g CountedOn (requests_counted k) (λ a b. Unit {0}) (any_service g) s) _ (λ t h. record { pages = h.0.0; granules = h.0.1; bytes = h.0.2; kept = h.0.3 }) (event g s)
      (event_keeps g CountedOn (requests_counted k) (λ a b. Unit {0}) (any_service g) s);
}

pub outside_counted : (k : Linkage) → LeftOutside Counted (outside_of_c k)
outside_counted k = outside_keeps k Counted (legacy_counted k)
