-- Legacy code leaves the data stack of C where it stood.
use Rattle.std.specs.Prelude.{true, ◌&&◌, not, ◌==◌, Option, None, Some}
use Rattle.std.proofs.Common.{◌≡◌, ℕ, zero, suc, refl, subst}
use Rattle.std.proofs.lemmas.Bool.{cond_both}
use Rattle.mx_base.specs.Access.{Refusal, refusal}
use Rattle.mx_base.specs.Regions.{instrumented_code, is_in}
use Rattle.mx_base.specs.World.{World, number_written}
use Rattle.x86_forms.specs.Processor.{below_stack}
use Rattle.x86_forms.specs.Watch.{is_legacy, landing}
use Rattle.obj_file.specs.Machine.{Event, Goes, Stops as Halts, event}
use Rattle.obj_file.specs.Stored.{Stored}
use Rattle.fat_ir.specs.Calls.{Callee, Outcome, Comes, Stops, Stuck, turn_from, with_turns}
use Rattle.fat_ir.specs.Laws.{Leads, FramesGivenBack}
use Rattle.call_sigs.specs.Signatures.{Result}
use Rattle.legacy_calls.specs.Legacy.{Linkage, Foreign, ground, as_state, from_state, at_entry, after_outer, stepped, judged_return, came_back, entered_at, lent, legacy_run, finished, unless_refused, called_in, outside}
use Rattle.legacy_calls.specs.Laws.{KeepsStacks}

abbrev Gives : ℕ → Outcome → Type 0
Gives n r = Leads (λ u. u.data_sp ≡ n) (λ u. Unit {0}) r

moved : (n j : ℕ) (r : Outcome) → n ≡ j → Gives n r → Gives j r
moved n j r e h = subst (λ (x : ℕ). Gives x r) e h

by_turn : (w : World) (go : World → Outcome) → ((u : World) → u.data_sp ≡ w.data_sp → Gives w.data_sp (go u)) → (t : ℕ) → Gives w.data_sp (turn_from t w go)
by_turn w go h zero = tt
by_turn w go h (suc j) = h (with_turns j w) refl

pub frames_of : (own : Callee) → KeepsStacks own → FramesGivenBack own
frames_of own keeps f args w = second (own f args w) (keeps f args w)
  where
    second : (r : Outcome) → Leads (λ u. (u.legacy_sp ≡ w.legacy_sp) × (u.data_sp ≡ w.data_sp)) (λ u. Unit {0}) r → Gives w.data_sp r
    second (Comes v u) h = h.1
    second (Stops why u) h = tt
    second Stuck h = tt

module _ (k : Linkage) (own : Callee) (gives : FramesGivenBack own) where
  by_event : (u : World) (go : Foreign → Outcome) (e : Event Stored) → ((l : Foreign) → Gives l.world.data_sp (go l)) → Gives u.data_sp (stepped u go e)
  by_event u go (Goes turn t) h = h (from_state u t)
  by_event u go (Halts turn why t) h = tt

  by_return : (go : Foreign → Outcome) (l : Foreign) → ((l : Foreign) → Gives l.world.data_sp (go l)) → Gives l.world.data_sp (judged_return go l)
  by_return go l h = cond_both (is_in instrumented_code l.processor.rip && not (l.processor.rip == landing)) _ _ (λ r. Gives l.world.data_sp r) (λ _. tt) (λ _. h l)

  by_door : (result : Result) (go : Foreign → Outcome) (l : Foreign) (n : ℕ) (r : Outcome) → ((l : Foreign) → Gives l.world.data_sp (go l)) → Gives n r → Gives n (came_back k result go l r)
  by_door result go l n (Comes v w) h same = moved w.data_sp n _ same (by_turn w _ (λ u e. moved u.data_sp w.data_sp _ e (by_return go (after_outer k result l v u) h)) w.turns)
  by_door result go l n (Stops why w) h same = tt
  by_door result go l n Stuck h same = tt

  legacy_gives : (n : ℕ) (l : Foreign) → Gives l.world.data_sp (legacy_run k own n l)
  legacy_gives zero l = tt
  legacy_gives (suc n) l =
      cond_both (is_legacy l.processor.rip) _ _ (λ r. Gives l.world.data_sp r)
      (λ _. by_turn l.world (λ u. stepped u (legacy_run k own n) (event (ground k) (as_state l))) (λ u e. moved u.data_sp l.world.data_sp _ e (by_event u (legacy_run k own n) (event (ground k) (as_state l)) (legacy_gives n))) l.world.turns)
      (λ _. cond_both (l.processor.rip == landing) _ _ (λ r. Gives l.world.data_sp r) (λ _. refl)
      (λ _. by_door _ (legacy_run k own n) l l.world.data_sp _ (legacy_gives n) (gives (entered_at l.processor.rip) _ (lent l))))

  by_finish : (result : Result) (sp n : ℕ) (r : Outcome) → Gives n r → Gives n (finished result sp r)
  by_finish result sp n (Comes v w) same = moved w.data_sp n _ same (by_turn w _ (λ u e. e) w.turns)
  by_finish result sp n (Stops why w) same = tt
  by_finish result sp n Stuck same = tt

  by_refusal : (o : Option Refusal) (w : World) (n : ℕ) (r : Outcome) → Gives n r → Gives n (unless_refused o w r)
  by_refusal None w n r same = same
  by_refusal (Some why) w n r same = tt

  -- the meaning of legacy code gives data frames back where the C functions do
  pub outside_gives : FramesGivenBack (outside k own)
  outside_gives g args w = by_turn w (called_in k own g args) (λ u e. by_refusal (refusal true 8 (below_stack u.legacy_sp)) u w.data_sp _ (moved u.data_sp w.data_sp _ e (by_finish (k.legacy g).result u.legacy_sp u.data_sp _ (legacy_gives (suc u.turns) (at_entry k g args (number_written 8 u (below_stack u.legacy_sp) landing)))))) w.turns
