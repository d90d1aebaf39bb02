-- What each request and each service keeps, every event keeps, and every run.
use Rattle.std.specs.Prelude.{Result, Ok, Err, if◌then◌else◌}
use Rattle.std.proofs.Common.{◌≡◌, ℕ, zero, suc, Bool, true, false, Option, None, Some, refl, subst}
use Rattle.mx_base.specs.declared.stops.Stop.{Stop}
use Rattle.mx_base.specs.Regions.{is_executable}
use Rattle.mx_base.specs.Services.{Guest, Served, Answers, Exits, Overflows, Refused as Denied}
use Rattle.x86_forms.specs.declared.instr.Instr.{Instr}
use Rattle.x86_forms.specs.Processor.{Processor}
use Rattle.x86_forms.specs.Requests.{Program, Ends, Fails, Reads, Writes, Loads, Keeps, Outcome, Done, Failed, Refused, run, either_way}
use Rattle.x86_forms.specs.Table.{row}
use Rattle.obj_file.specs.Machine.{Reading, Is, Part, Neither, Refusal, Misses, Invalid, Lacks, Ground, State, Deed, Does, Halts, Event, Goes, Stops, ended, restarted, served_or_ended, executed, unless_strayed, answered, asked, with_service, with_service_of, is_service, control_judged, deed_of, reading_at, deed_by, event_of, event}
use Rattle.obj_file.specs.Runs.{End, Out, Stopped, after, run_within, run_of, room}
use Rattle.obj_file.specs.Keeping.{LacksTable, ToRead, ToWrite, ToLoad, ToKeep, KeepsByRequests, KeepsByServices, EventLeaves, EndLeaves}

abbrev pub DeedLeaves : {X : Type 0} → (State X → Type 0) → Deed X → Type 0
DeedLeaves P (Does t) = P t
DeedLeaves P (Halts why t) = P t

abbrev LacksIt : {X : Type 0} → Ground X → X → Refusal → Type 0
LacksIt g x (Misses at) = Unit {0}
LacksIt g x (Invalid entry_at) = LacksTable g x entry_at
LacksIt g x (Lacks in_use capacity) = Unit {0}

-- and what is refused lacks its table in the memory that is left
abbrev OutcomeLeaves : {X : Type 0} → Ground X → (X → Type 0) → Outcome X Refusal → Type 0
OutcomeLeaves g P (Done c x) = P x
OutcomeLeaves g P (Failed f c x) = P x
OutcomeLeaves g P (Refused o c x) = P x × LacksIt g x o

module _ {X : Type 0} (g : Ground X) (R : X → X → Type 0) (keeps : KeepsByRequests g R) (Q : Guest → Guest → Type 0) (serves : KeepsByServices g Q) where
  either_leaves : {A : Type 0} (P : X → Type 0) (r : Result A Refusal) (f : A → Outcome X Refusal) (e : Refusal → Outcome X Refusal)
      → ((a : A) → r ≡ Ok a → OutcomeLeaves g P (f a)) → ((o : Refusal) → r ≡ Err o → OutcomeLeaves g P (e o)) → OutcomeLeaves g P (either_way r f e)
  either_leaves P (Ok a) f e p q = p a refl
  either_leaves P (Err o) f e p q = q o refl

  lacks_it : (x : X) (o : Refusal) → ((entry_at : ℕ) → o ≡ Invalid entry_at → LacksTable g x entry_at) → LacksIt g x o
  lacks_it x (Misses at) h = tt
  lacks_it x (Invalid entry_at) h = h entry_at refl
  lacks_it x (Lacks in_use capacity) h = tt

  run_keeps : (x : X) (c : Processor) (p : Program) (y : X) → R x y → OutcomeLeaves g (R x) (run g.store c p y)
  unfolding run
  run_keeps x c (Ends a) y h = h
  run_keeps x c (Fails f a) y h = h
  run_keeps x c (Reads at size im f) y h = either_leaves (R x) (g.store.read y at size) _ _ (λ v e. run_keeps x c (f v) y h) (λ o is. (h, lacks_it y o (λ n e. ToRead at size (subst (λ (r : Refusal). g.store.read y at size ≡ Err r) e is))))
  run_keeps x c (Writes at size v im p) y h = either_leaves (R x) (g.store.write y at size v) _ _ (λ z e. run_keeps x c p z (keeps.join x y z h (keeps.write y z at size v e))) (λ o is. (h, lacks_it y o (λ n e. ToWrite at size v (subst (λ (r : Refusal). g.store.write y at size v ≡ Err r) e is))))
  run_keeps x c (Loads at v f) y h = either_leaves (R x) (g.store.load y at v) _ _ (λ q e. run_keeps x c (f q.0) q.1 (keeps.join x y q.1 h (keeps.load y at v q e))) (λ o is. (h, lacks_it y o (λ n e. ToLoad at v (subst (λ (r : Refusal). g.store.load y at v ≡ Err r) e is))))
  run_keeps x c (Keeps at v b p) y h = either_leaves (R x) (g.store.keep y at v b) _ _ (λ z e. run_keeps x c p z (keeps.join x y z h (keeps.keep y z at v b e))) (λ o is. (h, lacks_it y o (λ n e. ToKeep at v b (subst (λ (r : Refusal). g.store.keep y at v b ≡ Err r) e is))))

  -- what is asked of a state after another one
  abbrev pub After : State X → State X → Type 0
  After s t = R s.memory t.memory × Q s.guest t.guest

  as_before : (s : State X) → After s s
  as_before s = (keeps.same s.memory, serves.same s.guest)

  module _ (s : State X) where
    ended_keeps : (o : Outcome X Refusal) → OutcomeLeaves g (R s.memory) o → DeedLeaves (After s) (ended s o)
    ended_keeps (Done p y) h = (h, serves.same s.guest)
    ended_keeps (Failed f p y) h = (h, serves.same s.guest)
    ended_keeps (Refused o p y) h = (h.0, serves.same s.guest)

    restarted_keeps : (i : Instr) (next : ℕ) (p : Processor) (y : X) (r : Result X Refusal) → R s.memory y → ((z : X) → r ≡ Ok z → R y z) → DeedLeaves (After s) (restarted g i next s p y r)
    restarted_keeps i next p y (Err o) h k = (h, serves.same s.guest)
    restarted_keeps i next p y (Ok z) h k = ended_keeps (run g.store p (row i next p) z) (run_keeps s.memory p (row i next p) z (keeps.join s.memory y z h (k z refl)))

    served_keeps : (i : Instr) (next : ℕ) (o : Outcome X Refusal) → OutcomeLeaves g (R s.memory) o → DeedLeaves (After s) (served_or_ended g i next s o)
    served_keeps i next (Refused (Invalid e) p y) h = restarted_keeps i next p y (g.serve y e) h.0 (λ z k. keeps.serve y z e h.1 k)
    served_keeps i next (Refused (Misses m) p y) h = ended_keeps (Refused (Misses m) p y) h
    served_keeps i next (Refused (Lacks u m) p y) h = ended_keeps (Refused (Lacks u m) p y) h
    served_keeps i next (Done p y) h = ended_keeps (Done p y) h
    served_keeps i next (Failed f p y) h = ended_keeps (Failed f p y) h

    executed_keeps : (i : Instr) (next : ℕ) → DeedLeaves (After s) (executed g i next s)
    unfolding executed
    executed_keeps i next = served_keeps i next _ (run_keeps s.memory s.processor (row i next s.processor) s.memory (keeps.same s.memory))

    strayed_keeps : (o : Option ℕ) (t : State X) (d : Deed X) → After s t → DeedLeaves (After s) d → DeedLeaves (After s) (unless_strayed o t d)
    strayed_keeps None t d b h = h
    strayed_keeps (Some x) t d b h = b

    control_keeps : (i : Instr) (from : ℕ) (d : Deed X) → DeedLeaves (After s) d → DeedLeaves (After s) (control_judged g i from d)
    control_keeps i from (Does t) h = strayed_keeps _ t (Does t) h h
    control_keeps i from (Halts why t) h = h

    answer_keeps : (t : State X) (a : Served Stop) → asked g s ≡ a → After s t → DeedLeaves (After s) (answered s t a)
    answer_keeps t (Answers word h) e b = (b.0, serves.served s word h e)
    answer_keeps t (Exits code) e b = as_before s
    answer_keeps t Overflows e b = as_before s
    answer_keeps t (Denied why) e b = as_before s

    service_keeps : (d : Deed X) → DeedLeaves (After s) d → DeedLeaves (After s) (with_service g s d)
    service_keeps (Does t) h = answer_keeps t (asked g s) refl h
    service_keeps (Halts why t) h = h

    if_keeps : (b : Bool) (d : Deed X) → DeedLeaves (After s) d → DeedLeaves (After s) (if b then with_service g s d else d)
    if_keeps true d h = service_keeps d h
    if_keeps false d h = h

    deed_keeps : (i : Instr) (next : ℕ) → DeedLeaves (After s) (deed_of g i next s)
    unfolding deed_of
    deed_keeps i next = strayed_keeps _ s _ (as_before s) (control_keeps i s.processor.rip (with_service_of g i s (executed g i next s)) (if_keeps (is_service i) (executed g i next s) (executed_keeps i next)))

    by_keeps : (r : Reading) → DeedLeaves (After s) (deed_by g s r)
    by_keeps (Is i size) = deed_keeps i _
    by_keeps Part = as_before s
    by_keeps Neither = as_before s

    of_keeps : (owed : Bool) (d : Deed X) → DeedLeaves (After s) d → EventLeaves (After s) (event_of s owed d)
    of_keeps owed (Does t) h = h
    of_keeps owed (Halts why t) h = h

    if_event : (b : Bool) (e d : Event X) → EventLeaves (After s) e → EventLeaves (After s) d → EventLeaves (After s) (if b then e else d)
    if_event true e d h q = h
    if_event false e d h q = q

    pub event_keeps : EventLeaves (After s) (event g s)
    unfolding event
    event_keeps = if_event (is_executable s.processor.rip) _ _ (of_keeps _ (deed_by g s (reading_at g s)) (by_keeps (reading_at g s))) (as_before s)

-- what each event keeps, every run keeps
module _ {X : Type 0} (g : Ground X) (P : State X → State X → Type 0) (same : (s : State X) → P s s) (join : (s t u : State X) → P s t → P t u → P s u)
    (each : (s : State X) → EventLeaves (P s) (event g s)) where
  further : (s t : State X) (e : End X) → P s t → EndLeaves (P t) e → EndLeaves (P s) e
  further s t (Out u) h k = join s t u h k
  further s t (Stopped why u) h k = join s t u h k

  after_keeps : (go : ℕ → State X → End X) (turns : ℕ) (s : State X) (e : Event X) → ((u : ℕ) (t : State X) → EndLeaves (P t) (go u t)) → EventLeaves (P s) e → EndLeaves (P s) (after go turns s e)
  after_keeps go turns s (Goes false t) k h = further s t (go turns t) h (k turns t)
  after_keeps go zero s (Goes true t) k h = same s
  after_keeps go (suc turns) s (Goes true t) k h = further s t (go turns t) h (k turns t)
  after_keeps go turns s (Stops false why t) k h = h
  after_keeps go zero s (Stops true why t) k h = same s
  after_keeps go (suc turns) s (Stops true why t) k h = h

  pub within_keeps : (n turns : ℕ) (s : State X) → EndLeaves (P s) (run_within g n turns s)
  unfolding run_within
  within_keeps zero turns s = same s
  within_keeps (suc n) turns s = after_keeps (run_within g n) turns s (event g s) (within_keeps n) (each s)

  pub runs_keep : (turns : ℕ) (s : State X) → EndLeaves (P s) (run_of g turns s)
  unfolding run_of
  runs_keep turns s = within_keeps (room turns s) turns s
