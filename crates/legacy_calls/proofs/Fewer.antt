-- Legacy code takes no turns back.
use Rattle.std.specs.Prelude.{true, ◌&&◌, not, ◌==◌, Option, None, Some}
use Rattle.std.proofs.Common.{◌≡◌, ℕ, zero, suc, ◌≤◌, refl, arith}
use Rattle.std.proofs.lemmas.Bool.{cond_both}
use Rattle.mx_base.specs.Access.{Refusal, refusal}
use Rattle.mx_base.specs.Regions.{instrumented_code, is_in}
use Rattle.mx_base.specs.World.{World, number_written}
use Rattle.x86_forms.specs.Processor.{below_stack}
use Rattle.x86_forms.specs.Watch.{is_legacy, landing}
use Rattle.obj_file.specs.Machine.{Event, Goes, Stops as Halts, event}
use Rattle.obj_file.specs.Stored.{Stored}
use Rattle.fat_ir.specs.Calls.{Callee, Outcome, Comes, Stops, Stuck, turn_from, with_turns}
use Rattle.fat_ir.specs.Laws.{Leaves, LeftByCalls, LeftOutside, NoMoreTurns}
use Rattle.call_sigs.specs.Signatures.{Result}
use Rattle.legacy_calls.specs.Legacy.{Linkage, Foreign, ground, as_state, from_state, at_entry, after_outer, stepped, judged_return, came_back, entered_at, lent, legacy_run, finished, unless_refused, called_in, outside}

abbrev Fewer : ℕ → Outcome → Type 0
Fewer n r = Leaves (λ u. u.turns ≤ n) r

more : (n j : ℕ) (r : Outcome) → n ≤ j → Fewer n r → Fewer j r
more n j (Comes v w) few h = omega arith
more n j (Stops why w) few h = omega arith
more n j Stuck few h = tt

by_turn : (w : World) (go : World → Outcome) → ((u : World) → u.turns ≤ w.turns → Fewer u.turns (go u)) → (t : ℕ) → w.turns ≡ t → Fewer w.turns (turn_from t w go)
by_turn w go h zero e = let z : w.turns ≤ w.turns = omega arith in z
by_turn w go h (suc j) e = more j w.turns (go (with_turns j w)) (omega arith) (h (with_turns j w) (omega arith))

module _ (k : Linkage) (own : Callee) (left : LeftByCalls NoMoreTurns own) where
  by_event : (u : World) (go : Foreign → Outcome) (e : Event Stored) → ((l : Foreign) → Fewer l.world.turns (go l)) → Fewer u.turns (stepped u go e)
  by_event u go (Goes turn t) h = h (from_state u t)
  by_event u go (Halts turn why t) h = let z : u.turns ≤ u.turns = omega arith in z

  by_return : (go : Foreign → Outcome) (l : Foreign) → ((l : Foreign) → Fewer l.world.turns (go l)) → Fewer l.world.turns (judged_return go l)
  by_return go l h = cond_both (is_in instrumented_code l.processor.rip && not (l.processor.rip == landing)) _ _ (λ r. Fewer l.world.turns r) (λ _. let z : l.world.turns ≤ l.world.turns = omega arith in z) (λ _. h l)

  by_door : (result : Result) (go : Foreign → Outcome) (l : Foreign) (n : ℕ) (r : Outcome) → ((l : Foreign) → Fewer l.world.turns (go l)) → Fewer n r → Fewer n (came_back k result go l r)
  by_door result go l n (Comes v w) h few = more w.turns n _ few (by_turn w _ (λ u less. by_return go (after_outer k result l v u) h) w.turns refl)
  by_door result go l n (Stops why w) h few = few
  by_door result go l n Stuck h few = tt

  legacy_fewer : (n : ℕ) (l : Foreign) → Fewer l.world.turns (legacy_run k own n l)
  legacy_fewer zero l = let z : l.world.turns ≤ l.world.turns = omega arith in z
  legacy_fewer (suc n) l =
      cond_both (is_legacy l.processor.rip) _ _ (λ r. Fewer l.world.turns r)
      (λ _. by_turn l.world (λ u. stepped u (legacy_run k own n) (event (ground k) (as_state l))) (λ u less. by_event u (legacy_run k own n) (event (ground k) (as_state l)) (legacy_fewer n)) l.world.turns refl)
      (λ _. cond_both (l.processor.rip == landing) _ _ (λ r. Fewer l.world.turns r) (λ _. let z : l.world.turns ≤ l.world.turns = omega arith in z)
      (λ _. by_door _ (legacy_run k own n) l l.world.turns _ (legacy_fewer n) (left (entered_at l.processor.rip) _ (lent l))))

  by_finish : (result : Result) (sp n : ℕ) (r : Outcome) → Fewer n r → Fewer n (finished result sp r)
  by_finish result sp n (Comes v w) few = more w.turns n _ few (by_turn w _ (λ u less. let z : u.turns ≤ u.turns = omega arith in z) w.turns refl)
  by_finish result sp n (Stops why w) few = few
  by_finish result sp n Stuck few = tt

  by_refusal : (o : Option Refusal) (w : World) (r : Outcome) → Fewer w.turns r → Fewer w.turns (unless_refused o w r)
  by_refusal None w r few = few
  by_refusal (Some why) w r few = let z : w.turns ≤ w.turns = omega arith in z

  pub outside_fewer : LeftByCalls NoMoreTurns (outside k own)
  outside_fewer g args w = by_turn w (called_in k own g args) (λ u less. by_refusal (refusal true 8 (below_stack u.legacy_sp)) u _ (by_finish (k.legacy g).result u.legacy_sp u.turns _ (legacy_fewer (suc u.turns) (at_entry k g args (number_written 8 u (below_stack u.legacy_sp) landing))))) w.turns refl

-- the meaning of legacy code takes no turns back where the C functions take none
pub outside_takes_none : (k : Linkage) → LeftOutside NoMoreTurns (outside k)
outside_takes_none k own left = outside_fewer k own left
