-- What the run of legacy code keeps between world and log before and after, by what each of its small events keeps.
use Rattle.std.specs.Prelude.{if◌then◌else◌, not, ◌==◌, ◌&&◌}
use Rattle.std.proofs.Common.{◌≡◌, ℕ, zero, suc, ◌+◌, Bool, true, false, Option, None, Some, List, [], ◌∷◌, refl}
use Rattle.mx_base.specs.declared.limits.Bounds.{Bounds}
use Rattle.mx_base.specs.declared.numbers.IntKind.{IntKind}
use Rattle.mx_base.specs.Access.{Refusal, refusal}
use Rattle.mx_base.specs.Regions.{instrumented_code, is_in}
use Rattle.mx_base.specs.World.{World, Log, LegacyInit, FarRegisters, number_written}
use Rattle.x86_forms.specs.Processor.{Processor, below_stack, rsp}
use Rattle.x86_forms.specs.Watch.{is_legacy, landing}
use Rattle.obj_file.specs.Machine.{Event, Goes, Stops as Halts, event}
use Rattle.obj_file.specs.Stored.{Stored}
use Rattle.fat_ir.specs.Values.{Value}
use Rattle.fat_ir.specs.Calls.{with_turns}
use Rattle.bounds_plan.specs.meaning.State.{with_made, with_cause}
use Rattle.bounds_plan.specs.meaning.Expressions.{Answer, Comes, Stops, CalleeOfC}
use Rattle.bounds_plan.specs.meaning.Functions.{turn_from}
use Rattle.bounds_plan.specs.steps.Follows.{value_of, values_of}
use Rattle.bounds_plan.specs.laws.Laws.{Relation, Leaves, LeftByCalls, LeftOutside}
use Rattle.call_sigs.specs.Signatures.{Result, Nothing, Pointer, Of}
use Rattle.legacy_calls.specs.Legacy.{Linkage, Foreign, from_state, at_entry, after_outer, far_of, entered_at, lent}
use Rattle.obj_file.specs.Beside.{Beside, alone}
use Rattle.obj_file.specs.Keeping.{EventLeaves}
use Rattle.legacy_calls.specs.OfC.{ground_of_c, as_noted, is_init, passed_from, all_handed, handed, passed_back, stepped_of_c, came_back_of_c, landed_of_c, legacy_run_of_c, finished_of_c, with_return, unless_refused_of_c, outside_of_c}

-- what each small event keeps
pub record KeepsLegacy (k : Linkage) (R : Relation) : Type 0 where
  pub same : (w : World) (l : Log) → R w l w l
  pub join : (w : World) (l : Log) (u : World) (m : Log) (v : World) (n : Log) → R w l u m → R u m v n → R w l v n
  pub turned : (w : World) (l : Log) (n : ℕ) → w.turns ≡ suc n → R w l (with_turns n w) l
  pub handed_over : (w : World) (l : Log) (b : Bounds) → R w l w (handed b l)
  pub moved : (w : World) (l : Log) (far : FarRegisters) (sp : ℕ) → R w l (record w { far = far; legacy_sp = sp }) l
  pub returned : (w : World) (l : Log) (sp : ℕ) → refusal true 8 sp ≡ None → R w l (number_written 8 w sp landing) (with_return sp l)
  pub event : (l : Foreign) (log : Log) → EventLeaves (λ t. R l.world log (from_state l.world (alone t)).world t.memory.notes) (event (ground_of_c k) (as_noted l log))

handed-trace : (b : Bool) (l m log : Log) → l.trace ≡ log.trace → m.trace ≡ log.trace → (if b then l else m).trace ≡ log.trace
handed-trace true l m log h g = h
handed-trace false l m log h g = g

pub one-trace : (b : Bounds) (log : Log) → (handed b log).trace ≡ log.trace
one-trace b log = handed-trace (is_init b) (with_cause LegacyInit log) (with_made b log) log refl refl

module _ (k : Linkage) (R : Relation) (keeps : KeepsLegacy k R) where
  further : (w : World) (l : Log) (u : World) (m : Log) (a : Answer) → R w l u m → Leaves (R u m) a → Leaves (R w l) a
  further w l u m (Comes v x n) h g = keeps.join w l u m x n h g
  further w l u m (Stops why x n) h g = keeps.join w l u m x n h g

  if_keeps : (b : Bool) (w : World) (l : Log) (x y : Answer) → Leaves (R w l) x → Leaves (R w l) y → Leaves (R w l) (if b then x else y)
  if_keeps true w l x y h g = h
  if_keeps false w l x y h g = g

  by_turn : (n : ℕ) (w : World) (l : Log) (go : World → Answer) → w.turns ≡ n → ((j : ℕ) → R w l (with_turns j w) l → Leaves (R w l) (go (with_turns j w))) → Leaves (R w l) (turn_from n w l go)
  by_turn zero w l go e h = keeps.same w l
  by_turn (suc n) w l go e h = h n (keeps.turned w l n e)

  by_event : (u : World) (l : Log) (go : Foreign → Log → Answer) (e : Event (Beside Stored Log)) → EventLeaves (λ t. R u l (from_state u (alone t)).world t.memory.notes) e
      → ((z : Foreign) (m : Log) → Leaves (R z.world m) (go z m)) → Leaves (R u l) (stepped_of_c u go e)
  by_event u l go (Goes turn t) h g = further u l (from_state u (alone t)).world t.memory.notes (go (from_state u (alone t)) t.memory.notes) h (g (from_state u (alone t)) t.memory.notes)
  by_event u l go (Halts turn why t) h g = h

  by_door : (result : Result) (go : Foreign → Log → Answer) (z : Foreign) (w : World) (l : Log) (a : Answer) → ((z : Foreign) (m : Log) → Leaves (R z.world m) (go z m)) → Leaves (R w l) a
      → Leaves (R w l) (came_back_of_c k result go z a)
  by_door result go z w l (Comes v x m) g h = further w l x m _ h (by_turn x.turns x m _ refl (λ j t.
      let u = with_turns j x in
      let y = after_outer k result z (value_of v) u in
      let back : R x m y.world m = keeps.join x m u m y.world m t (keeps.moved u m u.far z.world.legacy_sp) in
      if_keeps (is_in instrumented_code y.processor.rip && not (y.processor.rip == landing)) x m _ _ back (further x m y.world m (go y m) back (g y m))))
  by_door result go z w l (Stops why x m) g h = h

  all_keep : (b : ℕ) (ps : List (Option IntKind)) (c : Processor) (w : World) (l : Log) → R w l w (all_handed b ps c l)
  all_keep b [] c w l = keeps.same w l
  all_keep b (None ∷ ps) c w l = let m = handed (c.bounds b) l in keeps.join w l w m w (all_handed (b + 1) ps c m) (keeps.handed_over w l (c.bounds b)) (all_keep (b + 1) ps c w m)
  all_keep b (Some kind ∷ ps) c w l = all_keep b ps c w l

  module _ (own : CalleeOfC) (left : LeftByCalls R own) where
    run_keeps : (n : ℕ) (z : Foreign) (l : Log) → Leaves (R z.world l) (legacy_run_of_c k own n z l)
    run_keeps zero z l = keeps.same z.world l
    run_keeps (suc n) z l =
        let f = entered_at z.processor.rip in
        let ps = (k.own f).parameters in
        let m = all_handed 0 ps z.processor l in
        let x = lent z in
        let start : R z.world l x m = keeps.join z.world l z.world m x m (all_keep 0 ps z.processor z.world l) (keeps.moved z.world m (far_of z.processor.regs) (z.processor.regs rsp)) in
        if_keeps (is_legacy z.processor.rip) z.world l _ _
        (by_turn z.world.turns z.world l _ refl (λ j t. let u = with_turns j z.world in further z.world l u l _ t
        (by_event u l (legacy_run_of_c k own n) (event (ground_of_c k) (as_noted (record z { world = u }) l)) (keeps.event (record z { world = u }) l) (run_keeps n))))
        (if_keeps (z.processor.rip == landing) z.world l (landed_of_c z l) _ (keeps.moved z.world l (far_of z.processor.regs) z.world.legacy_sp)
        (by_door (k.own f).result (legacy_run_of_c k own n) z z.world l _ (run_keeps n) (further z.world l x m _ start (left f (passed_from 0 0 ps z.processor l) x m))))

    back_keeps : (result : Result) (v : Value) (w : World) (l : Log) → Leaves (R w l) (passed_back result v w l)
    back_keeps Nothing v w l = keeps.same w l
    back_keeps Pointer v w l = keeps.handed_over w l v.bounds
    back_keeps (Of kind) v w l = keeps.same w l

    finish_keeps : (result : Result) (sp : ℕ) (w : World) (l : Log) (a : Answer) → Leaves (R w l) a → Leaves (R w l) (finished_of_c result sp a)
    finish_keeps result sp w l (Comes v x m) h = further w l x m _ h (by_turn x.turns x m _ refl (λ j t.
        let u = with_turns j x in
        let y : World = record u { legacy_sp = sp } in
        further x m y m _ (keeps.join x m u m y m t (keeps.moved u m u.far sp)) (back_keeps result (value_of v) y m)))
    finish_keeps result sp w l (Stops why x m) h = h

    refused_keeps : (o : Option Refusal) (w : World) (l : Log) (a : Answer) → (o ≡ None → Leaves (R w l) a) → Leaves (R w l) (unless_refused_of_c o w l a)
    refused_keeps None w l a h = h refl
    refused_keeps (Some why) w l a h = keeps.same w l

    calls_keep : LeftByCalls R (outside_of_c k own)
    calls_keep g args w l = by_turn w.turns w l _ refl (λ j t. let u = with_turns j w in further w l u l _ t
        (let sp = below_stack u.legacy_sp in
        let x = number_written 8 u sp landing in
        let m = with_return sp l in
        refused_keeps (refusal true 8 sp) u l _ (λ none. finish_keeps (k.legacy g).result u.legacy_sp u l _
        (further u l x m _ (keeps.returned u l sp none) (run_keeps (suc x.turns) (at_entry k g (values_of args) x) m)))))

  pub outside_keeps : LeftOutside R (outside_of_c k)
  outside_keeps own left = calls_keep own left
