-- An example of code outside of a program that deals in pointers, as code with Intel's instructions on bounds may.
use Rattle.std.specs.Prelude.{ℕ, Option, None, Some, [], ◌∷◌, length}
use Rattle.mx_base.specs.declared.limits.Bounds.{Bounds}
use Rattle.mx_base.specs.Bounds.{full_bounds}
use Rattle.mx_base.specs.BoundsStore.{BoundsStore, keep_bounds}
use Rattle.mx_base.specs.StopOfC.{NoTable}
use Rattle.mx_base.specs.World.{World, MadeAt, FullBy, LegacyInit, Log, with_store}
use Rattle.fat_ir.specs.Calls.{Callee, Outcome, Comes as ComesBack, Stops as StopsAt, Stuck, taking_turn as fat_taking_turn}
use Rattle.bounds_plan.specs.meaning.State.{OfPointer, with_made, with_cause}
use Rattle.bounds_plan.specs.meaning.Accesses.{with_granule, with_kept_root}
use Rattle.bounds_plan.specs.meaning.Expressions.{Answer, Comes, Stops, CalleeOfC, number_passed}
use Rattle.bounds_plan.specs.meaning.Functions.{taking_turn}
use Rattle.bounds_plan.specs.laws.Laws.{Events}

-- bounds that nothing made before are kept at an address: they are made by that
abbrev pub made_and_kept : (at : ℕ) → Bounds → Log → Log
made_and_kept at b log = with_kept_root at (MadeAt (length log.made)) (with_granule at (with_made b log))

abbrev pub once_kept : (at : ℕ) → Bounds → World → Log → Option BoundsStore → (World → Log → Answer) → Answer
once_kept at b w log None go = Stops NoTable w log
once_kept at b w log (Some s) go = go (with_store w s) (made_and_kept at b log)

-- the pointer that comes back has full bounds, as from a bounds register at its start
abbrev pub widened : Answer → Answer
widened (Comes v w log) = Comes (OfPointer record { address = number_passed v; rooted = record { bounds = full_bounds; root = FullBy LegacyInit } }) w (with_cause LegacyInit log)
widened (Stops why w log) = Stops why w log

-- one that is outside: it takes a turn, keeps bounds at an address for a pointer of this value, calls the C function of its own number with
-- this pointer, and gives back what comes from there as a pointer with full bounds
abbrev pub lends : (at value : ℕ) → Bounds → CalleeOfC → CalleeOfC
lends at value b own g args w log = taking_turn w log (λ u. once_kept at b u log (keep_bounds u.store at value b) (λ x after.
    widened (own g (OfPointer record { address = value; rooted = record { bounds = b; root = MadeAt (length log.made) } } ∷ []) x after)))

-- ---- the same with the steps of C functions

abbrev pub once_kept_by_steps : World → Option BoundsStore → (World → Outcome) → Outcome
once_kept_by_steps w None go = StopsAt NoTable w
once_kept_by_steps w (Some s) go = go (with_store w s)

abbrev pub widened_by_steps : Outcome → Outcome
widened_by_steps (ComesBack v w) = ComesBack record { number = v.number; bounds = full_bounds } w
widened_by_steps (StopsAt why w) = StopsAt why w
widened_by_steps Stuck = Stuck

abbrev pub lends_by_steps : (at value : ℕ) → Bounds → Callee → Callee
lends_by_steps at value b own g args w = fat_taking_turn w (λ u. once_kept_by_steps u (keep_bounds u.store at value b) (λ x. widened_by_steps (own g (record { number = value; bounds = b } ∷ []) x)))

-- ---- its events: all but its turn and its call

abbrev pub kept_or_same : (at : ℕ) → Bounds → World → Log → Option BoundsStore → World × Log
kept_or_same at b w log None = (w, log)
kept_or_same at b w log (Some s) = (with_store w s, made_and_kept at b log)

abbrev pub lending : (at value : ℕ) → Bounds → Events
lending at value b numbers w log = kept_or_same at b w log (keep_bounds w.store at value b)
