-- The meaning of a legacy call beside the log is that over the world alone, once the log is forgotten.
use Rattle.std.specs.Prelude.{◌≢◌, if◌then◌else◌, not, ◌==◌, ◌&&◌}
use Rattle.std.proofs.Common.{◌≡◌, ℕ, zero, suc, ◌+◌, Bool, true, false, Option, None, Some, List, [], ◌∷◌, length, refl, ap, ◌∙◌, sym}
use Rattle.mx_base.specs.declared.numbers.IntKind.{IntKind}
use Rattle.mx_base.specs.Access.{Refusal, refusal}
use Rattle.mx_base.specs.Bounds.{full_bounds}
use Rattle.mx_base.specs.Numbers.{extended}
use Rattle.mx_base.specs.Regions.{instrumented_code, is_in}
use Rattle.mx_base.specs.World.{World, Log, FullBy, LegacyInit, empty_log, number_written}
use Rattle.x86_forms.specs.Processor.{Processor, below_stack}
use Rattle.x86_forms.specs.Watch.{is_legacy, landing}
use Rattle.obj_file.specs.Machine.{Event, Goes, Stops as Halts, event}
use Rattle.obj_file.specs.Stored.{Stored}
use Rattle.fat_ir.specs.Values.{Value}
use Rattle.fat_ir.specs.Calls.{Callee, Outcome, Comes as ComesBack, Stuck}
use Rattle.bounds_plan.specs.meaning.State.{Passed, OfPointer}
use Rattle.bounds_plan.specs.meaning.Expressions.{Answer, Comes, Stops, CalleeOfC}
use Rattle.bounds_plan.specs.steps.Follows.{value_of, values_of, outcome_of, DoesSame}
use Rattle.bounds_plan.specs.steps.Compiled.{OutsideSame}
use Rattle.bounds_plan.proofs.Calls.{taking_same}
use Rattle.call_sigs.specs.Signatures.{Result, Nothing, Pointer, Of, parameter_register}
use Rattle.legacy_calls.specs.Legacy.{Linkage, Foreign, ground, from_state, at_entry, after_outer, arguments_from, given, stepped, came_back, entered_at, lent, legacy_run, finished, unless_refused, outside}
use Rattle.obj_file.specs.Beside.{Beside, alone, event_alone}
use Rattle.legacy_calls.specs.OfC.{legacy_notes, ground_of_c, as_noted, passed_from, all_handed, handed, passed_back, stepped_of_c, came_back_of_c, legacy_run_of_c, finished_of_c, with_return, unless_refused_of_c, outside_of_c}
use Rattle.obj_file.proofs.EventsAlone.{event_is_alone}

values_from : (j b : ℕ) (ps : List (Option IntKind)) (c : Processor) (log : Log) → values_of (passed_from j b ps c log) ≡ arguments_from j b ps c
values_from j b [] c log = refl
values_from j b (None ∷ ps) c log = let v : Value = record { number = c.regs (parameter_register j); bounds = c.bounds b } in ap (λ (vs : List Value). v ∷ vs) (values_from (j + 1) (b + 1) ps c (handed (c.bounds b) log))
values_from j b (Some kind ∷ ps) c log = let v : Value = record { number = extended kind (c.regs (parameter_register j)); bounds = full_bounds } in ap (λ (vs : List Value). v ∷ vs) (values_from (j + 1) b ps c log)

length_from : (j b : ℕ) (ps : List (Option IntKind)) (c : Processor) (log : Log) → length (passed_from j b ps c log) ≡ length ps
length_from j b [] c log = refl
length_from j b (None ∷ ps) c log = ap suc (length_from (j + 1) (b + 1) ps c (handed (c.bounds b) log))
length_from j b (Some kind ∷ ps) c log = ap suc (length_from (j + 1) b ps c log)

if_same : (b : Bool) (x y : Outcome) (a d : Answer) → x ≡ outcome_of a → y ≡ outcome_of d → (if b then x else y) ≡ outcome_of (if b then a else d)
if_same true x y a d p q = p
if_same false x y a d p q = q

stepped_same : (u : World) (go : Foreign → Log → Answer) (fat : Foreign → Outcome) (e : Event (Beside Stored Log)) → ((l : Foreign) (log : Log) → fat l ≡ outcome_of (go l log)) → stepped u fat (event_alone e) ≡ outcome_of (stepped_of_c u go e)
stepped_same u go fat (Goes turn t) h = h (from_state u (alone t)) t.memory.notes
stepped_same u go fat (Halts turn why t) h = refl

back_same : (result : Result) (v : Value) (w : World) (log : Log) → ComesBack (given result v) w ≡ outcome_of (passed_back result v w log)
back_same Nothing v w log = refl
back_same Pointer v w log = refl
back_same (Of kind) v w log = refl

finish_same : (result : Result) (sp : ℕ) (a : Answer) → finished result sp (outcome_of a) ≡ outcome_of (finished_of_c result sp a)
finish_same result sp (Comes v w log) = taking_same w log _ _ (λ u. back_same result (value_of v) (record u { legacy_sp = sp }) log)
finish_same result sp (Stops why w log) = refl

refused_same : (o : Option Refusal) (w : World) (log : Log) (x : Outcome) (a : Answer) → x ≡ outcome_of a → unless_refused o w x ≡ outcome_of (unless_refused_of_c o w log a)
refused_same None w log x a h = h
refused_same (Some why) w log x a h = refl

module _ (k : Linkage) (takes : ℕ → ℕ) (counts : (f : ℕ) → takes f ≡ length (k.own f).parameters) (own : CalleeOfC) (fat : Callee) (same : DoesSame takes own fat) where
  module _ (result : Result) (go : Foreign → Log → Answer) (by : Foreign → Outcome) (h : (l : Foreign) (log : Log) → by l ≡ outcome_of (go l log)) where
    door_same : (l : Foreign) (a : Answer) → came_back k result by l (outcome_of a) ≡ outcome_of (came_back_of_c k result go l a)
    door_same l (Comes v w log) = taking_same w log _ _ (λ u. let z = after_outer k result l (value_of v) u in
        if_same (is_in instrumented_code z.processor.rip && not (z.processor.rip == landing)) _ _ _ _ refl (h z log))
    door_same l (Stops why w log) = refl

  run_same : (n : ℕ) (l : Foreign) (log : Log) → legacy_run k fat n l ≡ outcome_of (legacy_run_of_c k own n l log)
  run_same zero l log = refl
  run_same (suc n) l log =
      let f = entered_at l.processor.rip in
      let ps = (k.own f).parameters in
      let result = (k.own f).result in
      let args = passed_from 0 0 ps l.processor log in
      let later = all_handed 0 ps l.processor log in
      if_same (is_legacy l.processor.rip) _ _ _ _
      (taking_same l.world log _ _ (λ u. ap (stepped u (legacy_run k fat n)) (sym (event_is_alone (ground k) legacy_notes (as_noted l log)))
      ∙ stepped_same u (legacy_run_of_c k own n) (legacy_run k fat n) (event (ground_of_c k) (as_noted l log)) (run_same n)))
      (if_same (l.processor.rip == landing) _ _ _ _ refl
      (ap (λ (vs : List Value). came_back k result (legacy_run k fat n) l (fat f vs (lent l))) (sym (values_from 0 0 ps l.processor log))
      ∙ ap (came_back k result (legacy_run k fat n) l) (same f args (lent l) later (length_from 0 0 ps l.processor log ∙ sym (counts f)))
      ∙ door_same result (legacy_run_of_c k own n) (legacy_run k fat n) (run_same n) l (own f args (lent l) later)))

  pub calls_same : (g : ℕ) (args : List Passed) (w : World) (log : Log) → outside k fat g (values_of args) w ≡ outcome_of (outside_of_c k own g args w log)
  calls_same g args w log = taking_same w log _ _ (λ u.
      let sp = below_stack u.legacy_sp in
      let x = number_written 8 u sp landing in
      refused_same (refusal true 8 sp) u log _ _
      (ap (finished (k.legacy g).result u.legacy_sp) (run_same (suc x.turns) (at_entry k g (values_of args) x) (with_return sp log)) ∙ finish_same (k.legacy g).result u.legacy_sp (legacy_run_of_c k own (suc x.turns) (at_entry k g (values_of args) x) (with_return sp log))))

-- it is what the steps' outside is, whatever number of arguments each legacy function takes, if those of C functions are as the image has them
pub outside_does_same : (k : Linkage) (takes takes_outside : ℕ → ℕ) → ((f : ℕ) → takes f ≡ length (k.own f).parameters) → OutsideSame takes takes_outside (outside_of_c k) (outside k)
outside_does_same k takes takes_outside counts own fat same few g args w log count = calls_same k takes counts own fat same g args w log

-- ---- it never is stuck

abbrev as_passed : List Value → List Passed
as_passed [] = []
as_passed (v ∷ vs) = OfPointer record { address = v.number; rooted = record { bounds = v.bounds; root = FullBy LegacyInit } } ∷ as_passed vs

passed-values : (vs : List Value) → values_of (as_passed vs) ≡ vs
passed-values [] = refl
passed-values (v ∷ vs) = ap (λ (us : List Value). v ∷ us) (passed-values vs)

not_stuck : (a : Answer) → outcome_of a ≢ Stuck
not_stuck (Comes v w log) e = cc
not_stuck (Stops why w log) e = cc

pub outside_never_stuck : (k : Linkage) (takes : ℕ → ℕ) → ((f : ℕ) → takes f ≡ length (k.own f).parameters) → (own : CalleeOfC) (fat : Callee) → DoesSame takes own fat → (g : ℕ) (args : List Value) (w : World) → outside k fat g args w ≢ Stuck
outside_never_stuck k takes counts own fat same g args w e =
    not_stuck (outside_of_c k own g (as_passed args) w empty_log) (sym (calls_same k takes counts own fat same g (as_passed args) w empty_log) ∙ ap (λ (vs : List Value). outside k fat g vs w) (passed-values args) ∙ e)
