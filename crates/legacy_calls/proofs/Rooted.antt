-- All bounds keep their roots where legacy code runs: those that it keeps or hands over are made by that, or full by its own cause.
use Rattle.std.specs.Prelude.{Ok, if◌then◌else◌, not, ◌==◌, ◌&&◌}
use Rattle.std.proofs.Common.{◌≡◌, ℕ, zero, suc, ◌+◌, Bool, true, false, Option, None, Some, List, [], ◌∷◌, ◌++◌, length, refl, sym, ap, ◌∙◌, subst, arith}
use Rattle.std.proofs.lemmas.Bool.Decides.{nat_tests}
use Rattle.mx_base.specs.declared.limits.Bounds.{Bounds}
use Rattle.mx_base.specs.declared.numbers.IntKind.{IntKind}
use Rattle.mx_base.specs.Access.{Refusal, refusal}
use Rattle.mx_base.specs.Bounds.{full_bounds}
use Rattle.mx_base.specs.BoundsStore.{BoundsStore, touch, touched_with, with_touched, with_kept, megabyte}
use Rattle.mx_base.proofs.StoreLemmas.{some-from-map}
use Rattle.mx_base.specs.Regions.{instrumented_code, is_in}
use Rattle.mx_base.specs.World.{World, Log, Traced, MadeAt, FullBy, LegacyInit, number_written}
use Rattle.x86_forms.specs.Processor.{Processor, below_stack}
use Rattle.x86_forms.specs.Watch.{is_legacy, landing}
use Rattle.obj_file.specs.Machine.{Event, Goes, Stops as Halts, event}
use Rattle.obj_file.specs.Stored.{Stored, with_store, address_of_entry, megabyte_touched, stored_write, stored_load, stored_keep}
use Rattle.obj_file.specs.Loaded.{configuration}
use Rattle.fat_ir.specs.Values.{Value}
use Rattle.fat_ir.specs.Calls.{with_turns}
use Rattle.bounds_plan.specs.meaning.State.{with_made, with_cause}
use Rattle.bounds_plan.specs.meaning.Expressions.{Answer, Comes, Stops, CalleeOfC}
use Rattle.bounds_plan.specs.meaning.Functions.{turn_from}
use Rattle.bounds_plan.specs.steps.Follows.{value_of, values_of}
use Rattle.bounds_plan.specs.meaning.Outside.{made_and_kept}
use Rattle.bounds_plan.specs.laws.Roots.{LiesIn, HasRoot, AllHadRoots, AllRooted, LogGrows, AllHaveRoots, LeavesRooted, RootedCalls, RootedOutside}
use Rattle.call_sigs.specs.Signatures.{Result, Nothing, Pointer, Of}
use Rattle.legacy_calls.specs.Legacy.{Linkage, Foreign, ground, from_state, at_entry, after_outer, entered_at, lent}
use Rattle.obj_file.specs.Beside.{Beside, alone}
use Rattle.obj_file.specs.Keeping.{KeepsByRequests, EventLeaves}
use Rattle.legacy_calls.specs.OfC.{legacy_notes, ground_of_c, as_noted, is_init, root_handed, handed, passed_from, all_handed, passed_back, with_pages, stepped_of_c, came_back_of_c, landed_of_c, legacy_run_of_c, finished_of_c, with_return, unless_refused_of_c, outside_of_c}
use Rattle.obj_file.proofs.EventsKeep.{After, event_keeps}
use Rattle.legacy_calls.proofs.Kept.{one-trace}
use Rattle.legacy_calls.proofs.Requests.{from_result, from_served, write_leaves, load_leaves, keep_leaves, any_service, then_leaves}
use Rattle.bounds_plan.proofs.Roots.{all-had-later, kept-has-later, grows-same, grows-join, has-later, cause-stands, cause-grows, made-stands, made-grows, rooted-later, rooted-kept}

had-append : (l : Log) (xs ys : List Traced) → AllHadRoots l xs → AllHadRoots l ys → AllHadRoots l (xs ++ ys)
had-append l [] ys h g = g
had-append l (x ∷ xs) ys h g = (h.0, had-append l xs ys h.1 g)

kept-touch : (s t : BoundsStore) (a g : ℕ) → touch s a ≡ Some t → t.kept g ≡ s.kept g
kept-touch s t a g e = let some = some-from-map (with_touched s) (touched_with s.touched (megabyte a)) t e in ap (λ (u : BoundsStore). u.kept g) some.2

-- ---- pairs that are handed over

init_full : (b : Bounds) → is_init b ≡ true → LiesIn b full_bounds
init_full b e = (omega arith, grind (arith, nat_tests, e))

pub handed_stands : (b : Bounds) (l : Log) → HasRoot (handed b l) record { bounds = b; root = root_handed b l }
handed_stands b l = by (is_init b) (init_full b)
  where
    by : (t : Bool) → (t ≡ true → LiesIn b full_bounds) → HasRoot (if t then with_cause LegacyInit l else with_made b l) record { bounds = b; root = if t then FullBy LegacyInit else MadeAt (length l.made) }
    by true h = ((cause-stands l LegacyInit).0, h refl)
    by false h = made-stands l b

pub handed_grows : (b : Bounds) (l : Log) → LogGrows l (handed b l)
handed_grows b l = by (is_init b)
  where
    by : (t : Bool) → LogGrows l (if t then with_cause LegacyInit l else with_made b l)
    by true = cause-grows l LegacyInit
    by false = made-grows l b

handed_roots : (b : Bounds) (l : Log) → (handed b l).roots ≡ l.roots
handed_roots b l = by (is_init b)
  where
    by : (t : Bool) → (if t then with_cause LegacyInit l else with_made b l).roots ≡ l.roots
    by true = refl
    by false = refl

-- a megabyte that is touched keeps nothing
pub touched_keeps : (k : Linkage) (y x : Stored) (e : ℕ) → (ground k).serve y e ≡ Ok x → (g : ℕ) → x.bounds.kept g ≡ y.bounds.kept g
unfolding megabyte_touched
touched_keeps k y x e h g =
    let from = from_served e (with_store y) (touch y.bounds (address_of_entry e)) x h in
    ap (λ (s : Stored). s.bounds.kept g) from.2 ∙ kept-touch y.bounds from.0 (address_of_entry e) g from.1

module _ (start : List Bounds) where
  -- the store alone counts of a world
  stored_in : (w u : World) (l : Log) → ((g : ℕ) → u.store.kept g ≡ w.store.kept g) → AllRooted start w l → AllRooted start u l
  stored_in w u l e r = rooted-later start w u l l (grows-same l) refl refl e r

  handed_rooted : (b : Bounds) (w : World) (l : Log) → AllRooted start w l → AllRooted start w (handed b l)
  handed_rooted b w l r = rooted-later start w w l (handed b l) (handed_grows b l) (one-trace b l) (handed_roots b l) (λ g. refl) r

  all_grow : (b : ℕ) (ps : List (Option IntKind)) (c : Processor) (l : Log) → LogGrows l (all_handed b ps c l)
  all_grow b [] c l = grows-same l
  all_grow b (None ∷ ps) c l = let m = handed (c.bounds b) l in grows-join l m (all_handed (b + 1) ps c m) (handed_grows (c.bounds b) l) (all_grow (b + 1) ps c m)
  all_grow b (Some kind ∷ ps) c l = all_grow b ps c l

  all_rooted : (b : ℕ) (ps : List (Option IntKind)) (c : Processor) (w : World) (l : Log) → AllRooted start w l → AllRooted start w (all_handed b ps c l)
  all_rooted b [] c w l r = r
  all_rooted b (None ∷ ps) c w l r = all_rooted (b + 1) ps c w (handed (c.bounds b) l) (handed_rooted (c.bounds b) w l r)
  all_rooted b (Some kind ∷ ps) c w l r = all_rooted b ps c w l r

  passed_rooted : (j b : ℕ) (ps : List (Option IntKind)) (c : Processor) (l : Log) → AllHaveRoots (all_handed b ps c l) (passed_from j b ps c l)
  passed_rooted j b [] c l = tt
  passed_rooted j b (None ∷ ps) c l =
      let m = handed (c.bounds b) l in
      (has-later m (all_handed (b + 1) ps c m) (all_grow (b + 1) ps c m) record { bounds = c.bounds b; root = root_handed (c.bounds b) l } (handed_stands (c.bounds b) l), passed_rooted (j + 1) (b + 1) ps c m)
  passed_rooted j b (Some kind ∷ ps) c l = (tt, passed_rooted (j + 1) b ps c l)

  -- ---- events

  abbrev over : World → Beside Stored Log → World
  over w y = record w { store = y.memory.bounds }

  abbrev RootedOn : World → Beside Stored Log → Beside Stored Log → Type 0
  RootedOn w y z = AllRooted start (over w y) y.notes → AllRooted start (over w z) z.notes × LogGrows y.notes z.notes

  written_on : (w : World) (y : Beside Stored Log) (x : Stored) (m : Log) → LogGrows y.notes m → m.trace ≡ y.notes.trace → m.roots ≡ y.notes.roots → ((g : ℕ) → x.bounds.kept g ≡ y.memory.bounds.kept g) → RootedOn w y record { memory = x; notes = m }
  written_on w y x m g t o e r = (rooted-later start (over w y) (over w record { memory = x; notes = m }) y.notes m g t o e r, g)

  requests_rooted : (k : Linkage) (w : World) → KeepsByRequests (ground_of_c k) (RootedOn w)
  requests_rooted k w = record {
    same = λ y r. (r, grows-same y.notes);
    join = λ x y z h g r. let a = h r in let b = g a.0 in (b.0, grows-join x.notes y.notes z.notes a.1 b.1);
    write = λ y z at size v e.
        let from = from_result (λ x. record { memory = x; notes = with_pages at size y.notes }) (stored_write y.memory at size v) z e in
        subst (RootedOn w y) (sym from.2) (written_on w y from.0 (with_pages at size y.notes) record { made = (grows-same y.notes).made; causes = (grows-same y.notes).causes } refl refl
        (λ g. ap (λ (s : BoundsStore). s.kept g) (write_leaves y.memory from.0 at size v from.1)));
    load = λ y la v p e.
        let m = legacy_notes.loaded la y.notes in
        let from = from_result (λ (q : Bounds × Stored). (q.0, record { memory = q.1; notes = m })) (stored_load (configuration k.preserve) y.memory la v) p e in
        subst (λ (q : Bounds × Beside Stored Log). RootedOn w y q.1) (sym from.2) (written_on w y from.0.1 m record { made = (grows-same y.notes).made; causes = (grows-same y.notes).causes } refl refl
        (λ g. ap (λ (s : Stored). s.bounds.kept g) (load_leaves (configuration k.preserve) y.memory la v from.0 from.1)));
    keep = λ y z la v b e.
        let from = from_result (λ x. record { memory = x; notes = made_and_kept la b y.notes }) (stored_keep (configuration k.preserve) y.memory la v b) z e in
        subst (RootedOn w y) (sym from.2) (subst (λ (x : Stored). RootedOn w y record { memory = x; notes = made_and_kept la b y.notes }) (sym (keep_leaves (configuration k.preserve) y.memory from.0 la v b from.1)) (kept_on y la v b));
    serve = λ y z entry_at lacks e.
        let from = from_result (λ x. record { memory = x; notes = y.notes }) ((ground k).serve y.memory entry_at) z e in
        subst (RootedOn w y) (sym from.2) (written_on w y from.0 y.notes (grows-same y.notes) refl refl (touched_keeps k y.memory from.0 entry_at from.1));
  }
    where
      kept_on : (y : Beside Stored Log) (la v : ℕ) (b : Bounds) → RootedOn w y record { memory = with_store y.memory (with_kept y.memory.bounds la v b); notes = made_and_kept la b y.notes }
      kept_on y la v b r =
          let l = y.notes in
          let m = with_made b l in
          let g = made-grows l b in
          let u = over w y in
          let x = over w record { memory = with_store y.memory (with_kept y.memory.bounds la v b); notes = made_and_kept la b y.notes } in
          (rooted-kept start u x m la v b (MadeAt (length l.made)) (made-stands l b) (λ i. refl) (rooted-later start u u l m g refl refl (λ i. refl) r), record { made = g.made; causes = g.causes })

  event_rooted : (k : Linkage) (z : Foreign) (l : Log) → AllRooted start z.world l
      → EventLeaves (λ t. AllRooted start (from_state z.world (alone t)).world t.memory.notes × LogGrows l t.memory.notes) (event (ground_of_c k) (as_noted z l))
  event_rooted k z l r =
      let g = ground_of_c k in
      let s = as_noted z l in
      then_leaves (After g (RootedOn z.world) (requests_rooted k z.world) (λ a b. Unit {0}) (any_service g) s) _
      (λ t h. let both = h.0 (stored_in z.world (over z.world s.memory) l (λ g. refl) r) in
      (stored_in (over z.world t.memory) (from_state z.world (alone t)).world t.memory.notes (λ g. refl) both.0, both.1))
      (event g s) (event_keeps g (RootedOn z.world) (requests_rooted k z.world) (λ a b. Unit {0}) (any_service g) s)

  -- ---- the run

  -- what a run of legacy code leaves; what it gives back has its root once it is handed over
  abbrev Left : World → Log → Answer → Type 0
  Left w l (Comes v u m) = AllRooted start u m × LogGrows l m × (u.data_sp ≡ w.data_sp)
  Left w l (Stops why u m) = AllRooted start u m × LogGrows l m

  further : (w : World) (l : Log) (u : World) (m : Log) (a : Answer) → LogGrows l m → u.data_sp ≡ w.data_sp → Left u m a → Left w l a
  further w l u m (Comes v x n) g e h = (h.0, grows-join l m n g h.1, h.2 ∙ e)
  further w l u m (Stops why x n) g e h = (h.0, grows-join l m n g h.1)

  if_left : (b : Bool) (w : World) (l : Log) (x y : Answer) → Left w l x → Left w l y → Left w l (if b then x else y)
  if_left true w l x y h g = h
  if_left false w l x y h g = g

  by_turn : (n : ℕ) (w : World) (l : Log) (go : World → Answer) → AllRooted start w l → ((j : ℕ) → AllRooted start (with_turns j w) l → Left w l (go (with_turns j w))) → Left w l (turn_from n w l go)
  by_turn zero w l go r h = (r, grows-same l)
  by_turn (suc n) w l go r h = h n (stored_in w (with_turns n w) l (λ g. refl) r)

  by_event : (u : World) (l : Log) (go : Foreign → Log → Answer) (e : Event (Beside Stored Log)) → EventLeaves (λ t. AllRooted start (from_state u (alone t)).world t.memory.notes × LogGrows l t.memory.notes) e
      → ((z : Foreign) (m : Log) → AllRooted start z.world m → Left z.world m (go z m)) → Left u l (stepped_of_c u go e)
  by_event u l go (Goes turn t) h g = let z = from_state u (alone t) in further u l z.world t.memory.notes (go z t.memory.notes) h.1 refl (g z t.memory.notes h.0)
  by_event u l go (Halts turn why t) h g = h

  module _ (k : Linkage) (own : CalleeOfC) (roots : RootedCalls start own) where
    by_door : (result : Result) (go : Foreign → Log → Answer) (z : Foreign) (w : World) (l : Log) (a : Answer) → ((z : Foreign) (m : Log) → AllRooted start z.world m → Left z.world m (go z m)) → LeavesRooted start w l a
        → Left w l (came_back_of_c k result go z a)
    by_door result go z w l (Comes v x m) g h = further w l x m _ h.1 h.3 (by_turn x.turns x m _ h.0 (λ j r.
        let u = with_turns j x in
        let y = after_outer k result z (value_of v) u in
        let back = stored_in u y.world m (λ g. refl) r in
        if_left (is_in instrumented_code y.processor.rip && not (y.processor.rip == landing)) x m _ _ (back, grows-same m) (further x m y.world m (go y m) (grows-same m) refl (g y m back))))
    by_door result go z w l (Stops why x m) g h = h

    run_rooted : (n : ℕ) (z : Foreign) (l : Log) → AllRooted start z.world l → Left z.world l (legacy_run_of_c k own n z l)
    run_rooted zero z l r = (r, grows-same l)
    run_rooted (suc n) z l r =
        let f = entered_at z.processor.rip in
        let ps = (k.own f).parameters in
        let m = all_handed 0 ps z.processor l in
        let x = lent z in
        if_left (is_legacy z.processor.rip) z.world l _ _
        (by_turn z.world.turns z.world l _ r (λ j rj. let u = with_turns j z.world in further z.world l u l _ (grows-same l) refl
        (by_event u l (legacy_run_of_c k own n) (event (ground_of_c k) (as_noted (record z { world = u }) l)) (event_rooted k (record z { world = u }) l rj) (run_rooted n))))
        (if_left (z.processor.rip == landing) z.world l (landed_of_c z l) _ (stored_in z.world _ l (λ g. refl) r, grows-same l, refl)
        (further z.world l x m _ (all_grow 0 ps z.processor l) refl
        (by_door (k.own f).result (legacy_run_of_c k own n) z x m _ (run_rooted n) (roots f (passed_from 0 0 ps z.processor l) x m (stored_in z.world x m (λ g. refl) (all_rooted 0 ps z.processor z.world l r)) (passed_rooted 0 0 ps z.processor l)))))

    -- ---- the call

    abbrev Ends : World → Log → Answer → Type 0
    Ends w l a = LeavesRooted start w l a

    ends_later : (w : World) (l : Log) (u : World) (m : Log) (a : Answer) → LogGrows l m → u.data_sp ≡ w.data_sp → Ends u m a → Ends w l a
    ends_later w l u m (Comes v x n) g e h = (h.0, grows-join l m n g h.1, h.2, h.3 ∙ e)
    ends_later w l u m (Stops why x n) g e h = (h.0, grows-join l m n g h.1)

    ends_turn : (n : ℕ) (w : World) (l : Log) (go : World → Answer) → AllRooted start w l → ((j : ℕ) → AllRooted start (with_turns j w) l → Ends w l (go (with_turns j w))) → Ends w l (turn_from n w l go)
    ends_turn zero w l go r h = (r, grows-same l)
    ends_turn (suc n) w l go r h = h n (stored_in w (with_turns n w) l (λ g. refl) r)

    back_rooted : (result : Result) (v : Value) (w : World) (l : Log) → AllRooted start w l → Ends w l (passed_back result v w l)
    back_rooted Nothing v w l r = (r, grows-same l, tt, refl)
    back_rooted Pointer v w l r = (handed_rooted v.bounds w l r, handed_grows v.bounds l, handed_stands v.bounds l, refl)
    back_rooted (Of kind) v w l r = (r, grows-same l, tt, refl)

    finish_rooted : (result : Result) (sp : ℕ) (w : World) (l : Log) (a : Answer) → Left w l a → Ends w l (finished_of_c result sp a)
    finish_rooted result sp w l (Comes v x m) h = ends_later w l x m _ h.1 h.2 (ends_turn x.turns x m _ h.0 (λ j r.
        let u = with_turns j x in
        let y : World = record u { legacy_sp = sp } in
        ends_later x m y m _ (grows-same m) refl (back_rooted result (value_of v) y m (stored_in u y m (λ g. refl) r))))
    finish_rooted result sp w l (Stops why x m) h = h

    refused_rooted : (o : Option Refusal) (w : World) (l : Log) (a : Answer) → AllRooted start w l → Ends w l a → Ends w l (unless_refused_of_c o w l a)
    refused_rooted None w l a r h = h
    refused_rooted (Some why) w l a r h = (r, grows-same l)

    return_grows : (sp : ℕ) (l : Log) → LogGrows l (with_return sp l)
    return_grows sp l = record { made = (grows-same l).made; causes = (grows-same l).causes }

    return_rooted : (sp : ℕ) (w u : World) (l : Log) → ((g : ℕ) → u.store.kept g ≡ w.store.kept g) → AllRooted start w l → AllRooted start u (with_return sp l)
    return_rooted sp w u l e r =
        let m = with_return sp l in
        let g = return_grows sp l in
        record {
          begun = r.begun;
          kept = λ i x is. kept-has-later l m g x (l.roots i) (r.kept i x (sym (e i) ∙ is));
          traced = had-append m l.trace (_ ∷ []) (all-had-later l m g l.trace r.traced) (tt, tt);
        }

    calls_rooted : RootedCalls start (outside_of_c k own)
    calls_rooted g args w l r a = ends_turn w.turns w l _ r (λ j rj.
        let u = with_turns j w in
        let sp = below_stack u.legacy_sp in
        let x = number_written 8 u sp landing in
        let m = with_return sp l in
        ends_later w l u l _ (grows-same l) refl (refused_rooted (refusal true 8 sp) u l _ rj
        (ends_later u l x m _ (return_grows sp l) refl (finish_rooted (k.legacy g).result u.legacy_sp x m _ (run_rooted (suc x.turns) (at_entry k g (values_of args) x) m (return_rooted sp u x l (λ g. refl) rj))))))

  pub outside_rooted : (k : Linkage) → RootedOutside start (outside_of_c k)
  outside_rooted k own roots = calls_rooted k own roots
