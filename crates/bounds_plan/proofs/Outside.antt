-- The example of code outside keeps to all that is asked of it.
use Rattle.std.proofs.Common.{ℕ, ◌≡◌, refl, sym, ap, ◌∙◌, length, List, [], ◌∷◌, Option, Some, None, arith}
use Rattle.mx_base.specs.declared.limits.Bounds.{Bounds}
use Rattle.mx_base.specs.BoundsStore.{BoundsStore, keep_bounds}
use Rattle.mx_base.specs.World.{World, MadeAt, LegacyInit, Log, with_store}
use Rattle.fat_ir.specs.Calls.{Outcome, with_turns}
use Rattle.bounds_plan.specs.meaning.State.{Passed, OfNumber, OfPointer, with_made, with_cause}
use Rattle.bounds_plan.specs.meaning.Expressions.{Answer, Comes, Stops, CalleeOfC}
use Rattle.bounds_plan.specs.laws.Laws.{Relation, OutputGrows, Judged, Leaves, LeftOutside, NoMoreTurns, InPieces, EventOutside}
use Rattle.bounds_plan.specs.steps.Follows.{outcome_of}
use Rattle.bounds_plan.specs.steps.Compiled.{OutsideSame}
use Rattle.bounds_plan.specs.laws.Roots.{AllRooted, LogGrows, LeavesRooted, RootedCalls, RootedOutside}
use Rattle.bounds_plan.specs.meaning.Outside.{made_and_kept, once_kept, widened, lends, once_kept_by_steps, widened_by_steps, lends_by_steps, kept_or_same, lending}
use Rattle.bounds_plan.proofs.Roots.{grows-same, grows-join, made-grows, made-stands, cause-grows, cause-stands, rooted-later, rooted-kept, kept-keep}
use Rattle.bounds_plan.proofs.Runs.{Keeps, kept-taking_turn}
use Rattle.bounds_plan.proofs.Worlds.{fewer, longer, longer-by-none, judged, no_access, pieces}
use Rattle.bounds_plan.proofs.Calls.{taking_same}
use Rattle.bounds_plan.proofs.RootedCalls.{turn-taken, same-store}

abbrev lent : (value : ℕ) → Bounds → Log → List Passed
lent value b log = OfPointer record { address = value; rooted = record { bounds = b; root = MadeAt (length log.made) } } ∷ []

-- ---- it does the same with steps

widened-same : (a : Answer) (o : Outcome) → o ≡ outcome_of a → widened_by_steps o ≡ outcome_of (widened a)
widened-same (Comes (OfNumber n) w log) o e = ap widened_by_steps e
widened-same (Comes (OfPointer p) w log) o e = ap widened_by_steps e
widened-same (Stops why w log) o e = ap widened_by_steps e

once-same : (at : ℕ) (b : Bounds) (w : World) (log : Log) (o : Option BoundsStore) (go : World → Log → Answer) (fat : World → Outcome) → ((x : World) (after : Log) → fat x ≡ outcome_of (go x after)) → once_kept_by_steps w o fat ≡ outcome_of (once_kept at b w log o go)
once-same at b w log None go fat h = refl
once-same at b w log (Some s) go fat h = h (with_store w s) (made_and_kept at b log)

pub lends-same : (takes takes_outside : ℕ → ℕ) → ((f : ℕ) → takes f ≡ 1) → (at value : ℕ) (b : Bounds) → OutsideSame takes takes_outside (lends at value b) (lends_by_steps at value b)
lends-same takes takes_outside one at value b own fat same few g args w log count = taking_same w log _ _
    (λ u. once-same at b u log (keep_bounds u.store at value b) (λ x after. widened (own g (lent value b log) x after)) _
    (λ x after. widened-same (own g (lent value b log) x after) _ (same g (lent value b log) x after (sym (one g)))))

-- ---- it leaves what events leave, and its keeping of bounds

module _ (R : Relation) (k : Keeps R) (at value : ℕ) (b : Bounds) (keeps : (w : World) (log : Log) (s : BoundsStore) → keep_bounds w.store at value b ≡ Some s → R w log (with_store w s) (made_and_kept at b log)) where
  on-from : (w : World) (l : Log) (x : World) (m : Log) (a : Answer) → R w l x m → Leaves (R x m) a → Leaves (R w l) a
  on-from w l x m (Comes v u n) h g = k.join w l x m u n h g
  on-from w l x m (Stops why u n) h g = k.join w l x m u n h g

  widening : (w : World) (l : Log) (a : Answer) → Leaves (R w l) a → Leaves (R w l) (widened a)
  widening w l (Comes v u m) h = k.join w l u m u (with_cause LegacyInit m) h (k.logged u m (with_cause LegacyInit m) refl)
  widening w l (Stops why u m) h = h

  kept-once : (w : World) (log : Log) (o : Option BoundsStore) (go : World → Log → Answer) → keep_bounds w.store at value b ≡ o → ((x : World) (after : Log) → R w log x after → Leaves (R w log) (go x after)) → Leaves (R w log) (once_kept at b w log o go)
  kept-once w log None go e h = k.same w log
  kept-once w log (Some s) go e h = h (with_store w s) (made_and_kept at b log) (keeps w log s e)

  lends-keeps : LeftOutside R (lends at value b)
  lends-keeps own h g args w log = kept-taking_turn R k w log _
      (λ u. kept-once u log (keep_bounds u.store at value b) (λ x after. widened (own g (lent value b log) x after)) refl
      (λ x after e. widening u log (own g (lent value b log) x after) (on-from u log x after (own g (lent value b log) x after) e (h g (lent value b log) x after))))

pub lends-fewer : (at value : ℕ) (b : Bounds) → LeftOutside NoMoreTurns (lends at value b)
lends-fewer at value b = lends-keeps NoMoreTurns fewer at value b (λ w log s e. omega arith)

pub lends-longer : (at value : ℕ) (b : Bounds) → LeftOutside OutputGrows (lends at value b)
lends-longer at value b = lends-keeps OutputGrows longer at value b (λ w log s e. longer-by-none w log (with_store w s) (made_and_kept at b log) refl)

pub lends-judged : (at value : ℕ) (b : Bounds) → LeftOutside Judged (lends at value b)
lends-judged at value b = lends-keeps Judged judged at value b (λ w log s e. no_access w log (with_store w s) (made_and_kept at b log) refl refl)

pub lends-pieces : (at value : ℕ) (b : Bounds) → LeftOutside (InPieces (lending at value b)) (lends at value b)
lends-pieces at value b = lends-keeps (InPieces (lending at value b)) (pieces (lending at value b)) at value b
    (λ w log s e. EventOutside w log (with_store w s) (made_and_kept at b log) [] (ap (λ o. kept_or_same at b w log o) e))

-- ---- roots

widened-rooted : (start : List Bounds) (w base : World) (l before : Log) (a : Answer) → LogGrows before l → w.data_sp ≡ base.data_sp → LeavesRooted start w l a → LeavesRooted start base before (widened a)
widened-rooted start w base l before (Comes v u m) g e h =
    let c = cause-grows m LegacyInit in
    (rooted-later start u u m (with_cause LegacyInit m) c refl refl (λ g. refl) h.0, grows-join before m (with_cause LegacyInit m) (grows-join before l m g h.1) c, cause-stands m LegacyInit, h.3 ∙ e)
widened-rooted start w base l before (Stops why u m) g e h = (h.0, grows-join before l m g h.1)

once-rooted : (start : List Bounds) (at value : ℕ) (b : Bounds) (own : CalleeOfC) → RootedCalls start own → (g : ℕ) (w base : World) (log : Log) (o : Option BoundsStore) → keep_bounds w.store at value b ≡ o → w.data_sp ≡ base.data_sp → AllRooted start w log
    → LeavesRooted start base log (once_kept at b w log o (λ x after. widened (own g (lent value b log) x after)))
once-rooted start at value b own h g w base log None is e r = (r, grows-same log)
once-rooted start at value b own h g w base log (Some s) is e r =
    let l1 = with_made b log in
    let g1 = made-grows log b in
    let x = with_store w s in
    let after = made_and_kept at b log in
    let g2 : LogGrows log after = record { made = g1.made; causes = g1.causes } in
    let r1 = rooted-later start w w log l1 g1 refl refl (λ g. refl) r in
    let r2 = rooted-kept start w x l1 at value b (MadeAt (length log.made)) (made-stands log b) (λ i. kept-keep w.store s at value i b is) r1 in
    widened-rooted start x base after log (own g (lent value b log) x after) g2 e (h g (lent value b log) x after r2 (made-stands log b, tt))

pub lends-rooted : (start : List Bounds) (at value : ℕ) (b : Bounds) → RootedOutside start (lends at value b)
lends-rooted start at value b own h g args w log r a = turn-taken start w.turns w w log log _ (grows-same log) r
    (λ n. once-rooted start at value b own h g (with_turns n w) w log (keep_bounds w.store at value b) refl refl (same-store start w (with_turns n w) log (λ g. refl) r))
