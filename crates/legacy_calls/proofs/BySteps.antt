-- The laws of what is outside on the steps' side: output, accesses, and the two stacks.
use Rattle.std.specs.Prelude.{if◌then◌else◌, not, ◌==◌, ◌&&◌}
use Rattle.std.proofs.Common.{◌≡◌, ℕ, zero, suc, Bool, true, false, Option, None, Some, List, refl, ◌∙◌}
use Rattle.mx_base.specs.Access.{Refusal, refusal}
use Rattle.mx_base.specs.Regions.{instrumented_code, is_in}
use Rattle.mx_base.specs.World.{World, FarRegisters, number_written}
use Rattle.x86_forms.specs.Processor.{below_stack, rsp}
use Rattle.x86_forms.specs.Watch.{is_legacy, landing}
use Rattle.obj_file.specs.Machine.{Event, Goes, Stops as Halts, event}
use Rattle.obj_file.specs.Stored.{Stored}
use Rattle.fat_ir.specs.Values.{Value}
use Rattle.fat_ir.specs.Calls.{Callee, Outcome, Comes, Stops, Stuck, turn_from, with_turns}
use Rattle.fat_ir.specs.Laws.{Leads, LeftOutside, OutputGrows, AccessesAllowed, SameFrame, Anywhere, FramesGivenBack}
use Rattle.fat_ir.proofs.Worlds.{longer_output, all_allowed, Begins}
use Rattle.call_sigs.specs.Signatures.{Result}
use Rattle.legacy_calls.specs.Legacy.{Linkage, Foreign, ground, as_state, from_state, at_entry, after_outer, far_of, stepped, came_back, entered_at, arguments_from, given, lent, landed, legacy_run, finished, unless_refused, called_in, outside}
use Rattle.legacy_calls.specs.Laws.{KeepsStacks}
use Rattle.obj_file.specs.Keeping.{EventLeaves}
use Rattle.obj_file.proofs.EventsKeep.{After, event_keeps}
use Rattle.legacy_calls.proofs.Requests.{any_request, each_leaves, then_leaves}
use Rattle.legacy_calls.proofs.Relations.{grows_by_services}

-- what each small event keeps: R where the run goes on or comes back, Q up to a stop
pub record KeepsBySteps (k : Linkage) (R Q : World → World → Type 0) : Type 0 where
  pub same : (w : World) → R w w
  pub join : (w u v : World) → R w u → R u v → R w v
  pub ends : (w : World) → Q w w
  pub last : (w u v : World) → R w u → Q u v → Q w v
  pub turned : (w : World) (n : ℕ) → w.turns ≡ suc n → R w (with_turns n w)
  pub moved : (w : World) (far : FarRegisters) (sp : ℕ) → R w (record w { far = far; legacy_sp = sp })
  pub returned : (w : World) (sp : ℕ) → refusal true 8 sp ≡ None → R w (number_written 8 w sp landing)
  pub went : (l : Foreign) → EventLeaves (λ t. R l.world (from_state l.world t).world) (event (ground k) (as_state l))
  pub stopped : (w u : World) → R w u → Q w u

module _ (k : Linkage) (R Q : World → World → Type 0) (keeps : KeepsBySteps k R Q) where
  abbrev From : World → Outcome → Type 0
  From w o = Leads (R w) (Q w) o

  further : (w u : World) (o : Outcome) → R w u → From u o → From w o
  further w u (Comes v x) h g = keeps.join w u x h g
  further w u (Stops why x) h g = keeps.last w u x h g
  further w u Stuck h g = tt

  if_keeps : (b : Bool) (w : World) (x y : Outcome) → From w x → From w y → From w (if b then x else y)
  if_keeps true w x y h g = h
  if_keeps false w x y h g = g

  by_turn : (n : ℕ) (w : World) (go : World → Outcome) → w.turns ≡ n → ((j : ℕ) → R w (with_turns j w) → From w (go (with_turns j w))) → From w (turn_from n w go)
  by_turn zero w go e h = keeps.ends w
  by_turn (suc n) w go e h = h n (keeps.turned w n e)

  by_event : (u : World) (go : Foreign → Outcome) (e : Event Stored) → EventLeaves (λ t. R u (from_state u t).world) e → ((z : Foreign) → From z.world (go z)) → From u (stepped u go e)
  by_event u go (Goes turn t) h g = further u (from_state u t).world (go (from_state u t)) h (g (from_state u t))
  by_event u go (Halts turn why t) h g = keeps.stopped u _ h

  by_door : (result : Result) (go : Foreign → Outcome) (z : Foreign) (w : World) (o : Outcome) → ((z : Foreign) → From z.world (go z)) → From w o → From w (came_back k result go z o)
  by_door result go z w (Comes v x) g h = further w x _ h (by_turn x.turns x _ refl (λ j t.
      let u = with_turns j x in
      let y = after_outer k result z v u in
      let back : R x y.world = keeps.join x u y.world t (keeps.moved u u.far z.world.legacy_sp) in
      if_keeps (is_in instrumented_code y.processor.rip && not (y.processor.rip == landing)) x _ _ (keeps.stopped x y.world back) (further x y.world (go y) back (g y))))
  by_door result go z w (Stops why x) g h = h
  by_door result go z w Stuck g h = tt

  module _ (own : Callee) (left : (f : ℕ) (args : List Value) (w : World) → From w (own f args w)) where
    run_keeps : (n : ℕ) (z : Foreign) → From z.world (legacy_run k own n z)
    run_keeps zero z = keeps.ends z.world
    run_keeps (suc n) z =
        let f = entered_at z.processor.rip in
        let x = lent z in
        if_keeps (is_legacy z.processor.rip) z.world _ _
        (by_turn z.world.turns z.world _ refl (λ j t. let u = with_turns j z.world in further z.world u _ t
        (by_event u (legacy_run k own n) (event (ground k) (as_state z)) (keeps.went (record z { world = u })) (run_keeps n))))
        (if_keeps (z.processor.rip == landing) z.world (landed z) _ (keeps.moved z.world (far_of z.processor.regs) z.world.legacy_sp)
        (by_door (k.own f).result (legacy_run k own n) z z.world _ (run_keeps n)
        (further z.world x _ (keeps.moved z.world (far_of z.processor.regs) (z.processor.regs rsp)) (left f (arguments_from 0 0 (k.own f).parameters z.processor) x))))

    finish_keeps : (result : Result) (sp : ℕ) (w : World) (o : Outcome) → From w o → From w (finished result sp o)
    finish_keeps result sp w (Comes v x) h = further w x _ h (by_turn x.turns x _ refl (λ j t. let u = with_turns j x in keeps.join x u (record u { legacy_sp = sp }) t (keeps.moved u u.far sp)))
    finish_keeps result sp w (Stops why x) h = h
    finish_keeps result sp w Stuck h = tt

    refused_keeps : (o : Option Refusal) (w : World) (r : Outcome) → (o ≡ None → From w r) → From w (unless_refused o w r)
    refused_keeps None w r h = h refl
    refused_keeps (Some why) w r h = keeps.ends w

    pub steps_keep : (g : ℕ) (args : List Value) (w : World) → From w (outside k own g args w)
    steps_keep g args w = by_turn w.turns w _ refl (λ j t. let u = with_turns j w in further w u _ t
        (let sp = below_stack u.legacy_sp in
        let x = number_written 8 u sp landing in
        refused_keeps (refusal true 8 sp) u _ (λ none. finish_keeps (k.legacy g).result u.legacy_sp u _
        (further u x _ (keeps.returned u sp none) (run_keeps (suc x.turns) (at_entry k g args x))))))

-- ---- output and accesses

longer_by_steps : (k : Linkage) → KeepsBySteps k OutputGrows OutputGrows
longer_by_steps k = record {
  same = longer_output.same;
  join = longer_output.join;
  ends = longer_output.same;
  last = longer_output.join;
  turned = longer_output.turned;
  moved = λ w far sp. let h = longer_output.same w in record { more = h.more; is = h.is };
  returned = λ w sp e. longer_output.wrote w 8 sp landing e;
  went = λ l. let g = ground k in
      then_leaves (After g (λ a b. Unit {0}) (any_request g) (λ a b. Begins a.out b.out) (grows_by_services g) (as_state l)) _ (λ t h. record { more = h.1.more; is = h.1.is }) (event g (as_state l))
      (event_keeps g (λ a b. Unit {0}) (any_request g) (λ a b. Begins a.out b.out) (grows_by_services g) (as_state l));
  stopped = λ w u h. h;
}

pub output_grows_by_steps : (k : Linkage) → LeftOutside OutputGrows (outside k)
output_grows_by_steps k own left = steps_keep k OutputGrows OutputGrows (longer_by_steps k) own left

same_accesses : (w u : World) → u.accesses ≡ w.accesses → AccessesAllowed w u
same_accesses w u e = let h = all_allowed.same w in record { more = h.more; is = e ∙ h.is; allowed = h.allowed }

allowed_by_steps : (k : Linkage) → KeepsBySteps k AccessesAllowed AccessesAllowed
allowed_by_steps k = record {
  same = all_allowed.same;
  join = all_allowed.join;
  ends = all_allowed.same;
  last = all_allowed.join;
  turned = all_allowed.turned;
  moved = λ w far sp. same_accesses w _ refl;
  returned = λ w sp e. all_allowed.wrote w 8 sp landing e;
  went = λ l. each_leaves _ (λ t. same_accesses l.world _ refl) (event (ground k) (as_state l));
  stopped = λ w u h. h;
}

pub accesses_allowed_by_steps : (k : Linkage) → LeftOutside AccessesAllowed (outside k)
accesses_allowed_by_steps k own left = steps_keep k AccessesAllowed AccessesAllowed (allowed_by_steps k) own left

-- ---- the stacks

frames_by_steps : (k : Linkage) → KeepsBySteps k SameFrame Anywhere
frames_by_steps k = record {
  same = λ w. refl;
  join = λ w u v h g. g ∙ h;
  ends = λ w. tt;
  last = λ w u v h g. tt;
  turned = λ w n e. refl;
  moved = λ w far sp. refl;
  returned = λ w sp e. refl;
  went = λ l. each_leaves _ (λ t. refl) (event (ground k) (as_state l));
  stopped = λ w u h. tt;
}

pub frames_given_back_outside : (k : Linkage) (own : Callee) → FramesGivenBack own → FramesGivenBack (outside k own)
frames_given_back_outside k own left = steps_keep k SameFrame Anywhere (frames_by_steps k) own left

-- the legacy stack pointer is given back whatever the C functions do
finish_stack : (result : Result) (sp n : ℕ) (o : Outcome) → Leads (λ u. u.legacy_sp ≡ sp) (λ u. Unit {0}) (finished result sp o)
finish_stack result sp n (Comes v x) = by x.turns
  where
    by : (j : ℕ) → Leads (λ u. u.legacy_sp ≡ sp) (λ u. Unit {0}) (turn_from j x (λ u. Comes (given result v) (record u { legacy_sp = sp })))
    by zero = tt
    by (suc j) = refl
finish_stack result sp n (Stops why x) = tt
finish_stack result sp n Stuck = tt

refused_stack : (r : Option Refusal) (sp : ℕ) (w : World) (o : Outcome) → Leads (λ u. u.legacy_sp ≡ sp) (λ u. Unit {0}) o → Leads (λ u. u.legacy_sp ≡ sp) (λ u. Unit {0}) (unless_refused r w o)
refused_stack None sp w o h = h
refused_stack (Some why) sp w o h = tt

pub legacy_stack_given_back : (k : Linkage) (own : Callee) (g : ℕ) (args : List Value) (w : World) → Leads (λ u. u.legacy_sp ≡ w.legacy_sp) (λ u. Unit {0}) (outside k own g args w)
legacy_stack_given_back k own g args w = by w.turns
  where
    by : (n : ℕ) → Leads (λ u. u.legacy_sp ≡ w.legacy_sp) (λ u. Unit {0}) (turn_from n w (called_in k own g args))
    by zero = tt
    by (suc n) =
        let u = with_turns n w in
        let sp = below_stack u.legacy_sp in
        let x = number_written 8 u sp landing in
        let o = legacy_run k own (suc x.turns) (at_entry k g args x) in
        refused_stack (refusal true 8 sp) w.legacy_sp u (finished (k.legacy g).result u.legacy_sp o) (finish_stack (k.legacy g).result w.legacy_sp n o)

pub both_led : (o : Outcome) (P Q : World → Type 0) → Leads P (λ u. Unit {0}) o → Leads Q (λ u. Unit {0}) o → Leads (λ u. P u × Q u) (λ u. Unit {0}) o
both_led (Comes v u) P Q h g = (h, g)
both_led (Stops why u) P Q h g = tt
both_led Stuck P Q h g = tt

second_led : (o : Outcome) (P Q : World → Type 0) → Leads (λ u. P u × Q u) (λ u. Unit {0}) o → Leads Q (λ u. Unit {0}) o
second_led (Comes v u) P Q h = h.1
second_led (Stops why u) P Q h = tt
second_led Stuck P Q h = tt

pub stacks_kept_outside : (k : Linkage) (own : Callee) → KeepsStacks own → KeepsStacks (outside k own)
stacks_kept_outside k own stacks g args w = both_led (outside k own g args w) (λ u. u.legacy_sp ≡ w.legacy_sp) (λ u. u.data_sp ≡ w.data_sp) (legacy_stack_given_back k own g args w)
    (frames_given_back_outside k own (λ f args w. second_led (own f args w) _ _ (stacks f args w)) g args w)
