-- Roots in logs that grow.
use Rattle.std.proofs.Common.{ℕ, ◌+◌, ◌≡◌, ◌≤◌, ◌<◌, refl, sym, ap, ◌∙◌, subst, length, List, [], ◌∷◌, ◌++◌, append_assoc, Option, Some, None, Bool, true, false, cond, not, ◌==◌, ◌&&◌, arith}
use Rattle.std.proofs.lemmas.List.{append-nil, length-append}
use Rattle.std.proofs.lemmas.Bool.Decides.{nat_tests}
use Rattle.mx_base.specs.declared.limits.Bounds.{Bounds}
use Rattle.mx_base.specs.Bounds.{full_bounds, met}
use Rattle.mx_base.specs.BoundsStore.{Kept, BoundsStore, granule, bounds_for, touch, touched_with, with_touched, with_kept, keep_bounds, load_bounds, megabyte}
use Rattle.mx_base.proofs.StoreLemmas.{some-from-map}
use Rattle.mx_base.specs.World.{World, Cause, Root, MadeAt, FullBy, Rooted, Traced, Log}
use Rattle.bounds_plan.specs.meaning.State.{Pointer, Passed, OfNumber, OfPointer, place_of, with_made, with_cause}
use Rattle.bounds_plan.specs.meaning.Accesses.{access, with_kept_root, with_granule}
use Rattle.bounds_plan.specs.laws.Roots.{LiesIn, MadeBy, RootStands, HasRoot, HadRoot, AllHadRoots, KeptHasRoot, Begins, AllRooted, LogGrows, PassedHasRoot, AllHaveRoots, StandsIn}

-- ---- lists

pub begins-same : {A : Type 0} (xs : List A) → Begins xs xs
begins-same xs = record { more = []; is = sym (append-nil xs) }

pub begins-one : {A : Type 0} (xs : List A) (x : A) → Begins xs (xs ++ x ∷ [])
begins-one xs x = record { more = x ∷ []; is = refl }

pub begins-join : {A : Type 0} (x y z : List A) → Begins x y → Begins y z → Begins x z
begins-join x y z h g = record { more = h.more ++ g.more; is = g.is ∙ ap (λ u. u ++ g.more) h.is ∙ append_assoc x h.more g.more }

begins-length : {A : Type 0} (x y : List A) → Begins x y → length x ≤ length y
begins-length x y h = let e : length y ≡ length x + length h.more = ap length h.is ∙ length-append x h.more in omega (arith, e)

pub stands-later : {A : Type 0} (x : A) (xs ys : List A) → Begins xs ys → StandsIn x xs → StandsIn x ys
stands-later x xs ys g h = record { before = h.before; after = h.after ++ g.more; is = g.is ∙ ap (λ u. u ++ g.more) h.is ∙ append_assoc h.before (x ∷ h.after) g.more }

pub stands-last : {A : Type 0} (x : A) (xs : List A) → StandsIn x (xs ++ x ∷ [])
stands-last x xs = record { before = xs; after = []; is = refl }

pub longer-by-one : {A : Type 0} (xs : List A) (x : A) → length xs < length (xs ++ x ∷ [])
longer-by-one xs x = let e = length-append xs (x ∷ []) in omega (arith, e)

-- ---- logs

pub grows-same : (l : Log) → LogGrows l l
grows-same l = record { made = begins-same l.made; causes = begins-same l.causes }

pub grows-join : (l m n : Log) → LogGrows l m → LogGrows m n → LogGrows l n
grows-join l m n h g = record { made = begins-join l.made m.made n.made h.made g.made; causes = begins-join l.causes m.causes n.causes h.causes g.causes }

pub root-grows : (l m : Log) → LogGrows l m → (n k i j : ℕ) → n ≤ i → k ≤ j → (root : Root) (b : Bounds) → RootStands l.made l.causes n k root b → RootStands m.made m.causes i j root b
root-grows l m g n k i j le lo (MadeAt place) b h =
    let low = h.by_then in
    record { before = h.before; root = h.root; after = h.after ++ g.made.more; is = g.made.is ∙ ap (λ u. u ++ g.made.more) h.is ∙ append_assoc h.before (h.root ∷ h.after) g.made.more; at = h.at; by_then = omega (arith, low, le); inside = h.inside }
root-grows l m g n k i j le lo (FullBy cause) b h =
    let low = h.0.by_then in
    (record { before = h.0.before; after = h.0.after ++ g.causes.more; is = g.causes.is ∙ ap (λ u. u ++ g.causes.more) h.0.is ∙ append_assoc h.0.before (cause ∷ h.0.after) g.causes.more; by_then = omega (arith, low, lo) }, h.1)

pub has-later : (l m : Log) → LogGrows l m → (r : Rooted) → HasRoot l r → HasRoot m r
has-later l m g r h = root-grows l m g (length l.made) (length l.causes) (length m.made) (length m.causes) (begins-length l.made m.made g.made) (begins-length l.causes m.causes g.causes) r.root r.bounds h

had-later : (l m : Log) → LogGrows l m → (t : Traced) (o : Option Rooted) → HadRoot l t o → HadRoot m t o
had-later l m g t None h = tt
had-later l m g t (Some r) h = root-grows l m g t.made t.causes t.made t.causes (omega arith) (omega arith) r.root r.bounds h

pub all-had-later : (l m : Log) → LogGrows l m → (ts : List Traced) → AllHadRoots l ts → AllHadRoots m ts
all-had-later l m g [] h = tt
all-had-later l m g (t ∷ ts) h = (had-later l m g t t.bounds h.0, all-had-later l m g ts h.1)

had-append : (l : Log) (xs ys : List Traced) → AllHadRoots l xs → AllHadRoots l ys → AllHadRoots l (xs ++ ys)
had-append l [] ys h g = g
had-append l (x ∷ xs) ys h g = (h.0, had-append l xs ys h.1 g)

pub kept-has-later : (l m : Log) → LogGrows l m → (k : Kept) (o : Option Root) → KeptHasRoot l k o → KeptHasRoot m k o
kept-has-later l m g k None h = h
kept-has-later l m g k (Some root) h = has-later l m g record { bounds = k.bounds; root = root } h

pub passed-later : (l m : Log) → LogGrows l m → (v : Passed) → PassedHasRoot l v → PassedHasRoot m v
passed-later l m g (OfNumber n) h = tt
passed-later l m g (OfPointer p) h = has-later l m g p.rooted h

pub all-passed-later : (l m : Log) → LogGrows l m → (vs : List Passed) → AllHaveRoots l vs → AllHaveRoots m vs
all-passed-later l m g [] h = tt
all-passed-later l m g (v ∷ vs) h = (passed-later l m g v h.0, all-passed-later l m g vs h.1)

-- ---- new roots

pub lies-same : (b : Bounds) → LiesIn b b
lies-same b = (omega arith, omega arith)

pub cause-stands : (l : Log) (cause : Cause) → HasRoot (with_cause cause l) record { bounds = full_bounds; root = FullBy cause }
cause-stands l cause = (record { before = l.causes; after = []; is = refl; by_then = longer-by-one l.causes cause }, lies-same full_bounds)

pub cause-grows : (l : Log) (cause : Cause) → LogGrows l (with_cause cause l)
cause-grows l cause = record { made = begins-same l.made; causes = begins-one l.causes cause }

pub made-stands : (l : Log) (b : Bounds) → HasRoot (with_made b l) record { bounds = b; root = MadeAt (length l.made) }
made-stands l b = record { before = l.made; root = b; after = []; is = refl; at = refl; by_then = longer-by-one l.made b; inside = lies-same b }

pub made-grows : (l : Log) (b : Bounds) → LogGrows l (with_made b l)
made-grows l b = record { made = begins-one l.made b; causes = begins-same l.causes }

-- bounds that were made before are found
alike : (a : ℕ) → (a == a) ≡ true
alike a = grind (arith, nat_tests)

self : (b : Bounds) → (b.lb == b.lb && b.ub == b.ub) ≡ true
self b = ap (λ x. x && (b.ub == b.ub)) (alike b.lb) ∙ ap (λ x. true && x) (alike b.ub)

equal-lies : (b d : Bounds) → (d.lb == b.lb && d.ub == b.ub) ≡ true → LiesIn b d
equal-lies b d h = (grind (arith, nat_tests, h), grind (arith, nat_tests, h))

place-found : (b : Bounds) (before after : List Bounds) → MadeBy (before ++ b ∷ after) (length (before ++ b ∷ after)) (place_of b (before ++ b ∷ after)) b
place-found b [] after = record { before = []; root = b; after = after; is = refl; at = sym (ap (λ x. cond (not x) (1 + place_of b after) 0) (self b)); by_then = let e : place_of b (b ∷ after) ≡ 0 = ap (λ x. cond (not x) (1 + place_of b after) 0) (self b) in omega (arith, e); inside = lies-same b }
place-found b (x ∷ xs) after = by_cases (place-found b xs after) (x.lb == b.lb && x.ub == b.ub) refl
  where
    rest : List Bounds
    rest = xs ++ b ∷ after

    by_cases : MadeBy rest (length rest) (place_of b rest) b → (c : Bool) → (x.lb == b.lb && x.ub == b.ub) ≡ c → MadeBy (x ∷ rest) (length (x ∷ rest)) (place_of b (x ∷ rest)) b
    by_cases h true e =
        let at : place_of b (x ∷ rest) ≡ 0 = ap (λ c. cond (not c) (1 + place_of b rest) 0) e in
        record { before = []; root = x; after = rest; is = refl; at = sym at; by_then = omega (arith, at); inside = equal-lies b x e }
    by_cases h false e =
        let at : place_of b (x ∷ rest) ≡ 1 + place_of b rest = ap (λ c. cond (not c) (1 + place_of b rest) 0) e in
        let low = h.by_then in
        let here = h.at in
        record { before = x ∷ h.before; root = h.root; after = h.after; is = ap (λ u. x ∷ u) h.is; at = omega (arith, at, here); by_then = omega (arith, at, low); inside = h.inside }

pub made-before-stands : (l : Log) (b : Bounds) → StandsIn b l.made → HasRoot l record { bounds = b; root = MadeAt (place_of b l.made) }
made-before-stands l b h = let P : List Bounds → Type 0 = λ made. MadeBy made (length made) (place_of b made) b in subst P (sym h.is) (place-found b h.before h.after)

-- bounds of the same root that lie within
lies-join : (a b c : Bounds) → LiesIn a b → LiesIn b c → LiesIn a c
lies-join a b c h g = let h0 = h.0 in let h1 = h.1 in let g0 = g.0 in let g1 = g.1 in (omega (arith, h0, g0), omega (arith, h1, g1))

pub narrower : (l : Log) (root : Root) (b c : Bounds) → LiesIn c b → HasRoot l record { bounds = b; root = root } → HasRoot l record { bounds = c; root = root }
narrower l (MadeAt place) b c e h = record { before = h.before; root = h.root; after = h.after; is = h.is; at = h.at; by_then = h.by_then; inside = lies-join c b h.root e h.inside }
narrower l (FullBy cause) b c e h = (h.0, lies-join c b full_bounds e h.1)

pub met-lies : (a b : Bounds) → LiesIn (met a b) a
met-lies a b = (omega arith, omega arith)

-- ---- what is kept, and the trace

-- the log grew, and nothing was kept or accessed
pub rooted-later : (start : List Bounds) (w u : World) (l m : Log) → LogGrows l m → m.trace ≡ l.trace → m.roots ≡ l.roots → ((g : ℕ) → u.store.kept g ≡ w.store.kept g) → AllRooted start w l → AllRooted start u m
rooted-later start w u l m g same_trace same_roots same_kept a =
    let T : List Traced → Type 0 = λ ts. AllHadRoots m ts in
    record {
      begun = begins-join start l.made m.made a.begun g.made;
      kept = λ i k e. let K : Option Root → Type 0 = λ o. KeptHasRoot m k o in subst K (sym (ap (λ (f : ℕ → Option Root). f i) same_roots)) (kept-has-later l m g k (l.roots i) (a.kept i k (sym (same_kept i) ∙ e)));
      traced = subst T (sym same_trace) (all-had-later l m g l.trace a.traced);
    }

-- an access was done
pub access-grows : (write : Bool) (n : ℕ) (p : Pointer) (l : Log) → LogGrows l (access write n p l)
access-grows write n p l = record { made = begins-same l.made; causes = begins-same l.causes }

pub rooted-access : (start : List Bounds) (w u : World) (l : Log) (write : Bool) (n : ℕ) (p : Pointer) → HasRoot l p.rooted → ((g : ℕ) → u.store.kept g ≡ w.store.kept g) → AllRooted start w l → AllRooted start u (access write n p l)
rooted-access start w u l write n p h same_kept a =
    let m = access write n p l in
    let g = access-grows write n p l in
    record {
      begun = a.begun;
      kept = λ i k e. kept-has-later l m g k (l.roots i) (a.kept i k (sym (same_kept i) ∙ e));
      traced = had-append m l.trace (_ ∷ []) (all-had-later l m g l.trace a.traced) (has-later l m g p.rooted h, tt);
    }

-- ---- the store

kept-touch : (s t : BoundsStore) (a g : ℕ) → touch s a ≡ Some t → t.kept g ≡ s.kept g
kept-touch s t a g e = let some = some-from-map (with_touched s) (touched_with s.touched (megabyte a)) t e in ap (λ (u : BoundsStore). u.kept g) some.2

pub kept-keep : (s t : BoundsStore) (a value g : ℕ) (b : Bounds) → keep_bounds s a value b ≡ Some t → t.kept g ≡ cond (g == granule a) (Some record { value = value; bounds = b }) (s.kept g)
unfolding keep_bounds
kept-keep s t a value g b e =
    let some = some-from-map (λ u. with_kept u a value b) (touch s a) t e in
    let old = kept-touch s some.0 a g some.1 in
    ap (λ (u : BoundsStore). u.kept g) some.2 ∙ ap (λ o. cond (g == granule a) (Some record { value = value; bounds = b }) o) old

pub load-some : (s : BoundsStore) (a value : ℕ) (q : Bounds × BoundsStore) → load_bounds s a value ≡ Some q → (q.0 ≡ bounds_for value (s.kept (granule a))) × ((g : ℕ) → q.1.kept g ≡ s.kept g)
unfolding load_bounds
load-some s a value q e =
    let some = some-from-map (λ u. (bounds_for value (u.kept (granule a)), u)) (touch s a) q e in
    let same : q.1 ≡ some.0 = ap (λ (p : Bounds × BoundsStore). p.1) some.2 in (
      ap (λ (p : Bounds × BoundsStore). p.0) some.2 ∙ ap (bounds_for value) (kept-touch s some.0 a (granule a) some.1),
      λ g. ap (λ (u : BoundsStore). u.kept g) same ∙ kept-touch s some.0 a g some.1,
    )

-- bounds were kept, with their root
pub rooted-kept : (start : List Bounds) (w u : World) (l : Log) (a value : ℕ) (b : Bounds) (root : Root) → HasRoot l record { bounds = b; root = root }
    → ((g : ℕ) → u.store.kept g ≡ cond (g == granule a) (Some record { value = value; bounds = b }) (w.store.kept g)) → AllRooted start w l → AllRooted start u (with_kept_root a root (with_granule a l))
rooted-kept start w u l a value b root h keeps r =
    let m = with_kept_root a root (with_granule a l) in
    let g : LogGrows l m = record { made = begins-same l.made; causes = begins-same l.causes } in
    record {
      begun = r.begun;
      kept = λ i k e. by_cases i k (i == granule a) (sym (keeps i) ∙ e);
      traced = all-had-later l m g l.trace r.traced;
    }
  where
    some-same : (x y : Kept) → Some x ≡ Some y → y ≡ x
    some-same x y e = cc

    by_cases : (i : ℕ) (k : Kept) (c : Bool) → cond c (Some record { value = value; bounds = b }) (w.store.kept i) ≡ Some k → KeptHasRoot (with_kept_root a root (with_granule a l)) k (cond c (Some root) (l.roots i))
    by_cases i k true e =
        let m = with_kept_root a root (with_granule a l) in
        let same = some-same record { value = value; bounds = b } k e in
        let K : Kept → Type 0 = λ x. HasRoot m record { bounds = x.bounds; root = root } in
        subst K (sym same) (has-later l m record { made = begins-same l.made; causes = begins-same l.causes } record { bounds = b; root = root } h)
    by_cases i k false e = let m = with_kept_root a root (with_granule a l) in kept-has-later l m record { made = begins-same l.made; causes = begins-same l.causes } k (l.roots i) (r.kept i k e)
