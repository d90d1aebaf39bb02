-- What stands beside a memory decides nothing: an event does the same without it.
use Rattle.std.specs.Prelude.{Result, Ok, Err, if◌then◌else◌}
use Rattle.std.proofs.Common.{◌≡◌, ℕ, Bool, true, false, Option, None, Some, refl, ap, ◌∙◌}
use Rattle.mx_base.specs.declared.stops.Stop.{Stop}
use Rattle.mx_base.specs.Regions.{is_executable}
use Rattle.mx_base.specs.Services.{Served, Answers, Exits, Overflows, Refused as Denied}
use Rattle.x86_forms.specs.declared.instr.Instr.{Instr}
use Rattle.x86_forms.specs.Processor.{Processor}
use Rattle.x86_forms.specs.Requests.{Program, Ends, Fails, Reads, Writes, Loads, Keeps, Store, Outcome, Done, Failed, Refused, run, either_way}
use Rattle.x86_forms.specs.Table.{row}
use Rattle.obj_file.specs.Machine.{Reading, Is, Part, Neither, Refusal, Misses, Invalid, Lacks, Ground, State, Deed, Does, Halts, Event, ended, restarted, served_or_ended, executed, unless_strayed, answered, asked, with_service, with_service_of, is_service, control_judged, deed_of, reading_at, deed_by, event_of, event_by, event}
use Rattle.obj_file.specs.Beside.{Beside, Noting, result_with, noted_store, noted_ground, alone, outcome_alone, deed_alone, event_alone}

module _ {X L : Type 0} where
  answered_alone : {A B O : Type 0} (h : A → B) (r : Result A O) (f : B → Outcome (Beside X L) O) (e : O → Outcome (Beside X L) O) (f' : A → Outcome X O) (e' : O → Outcome X O)
      → ((a : A) → outcome_alone (f (h a)) ≡ f' a) → ((o : O) → outcome_alone (e o) ≡ e' o) → outcome_alone (either_way (result_with h r) f e) ≡ either_way r f' e'
  answered_alone h (Ok a) f e f' e' p q = p a
  answered_alone h (Err o) f e f' e' p q = q o

  read_alone : {O : Type 0} (r : Result ℕ O) (f : ℕ → Outcome (Beside X L) O) (e : O → Outcome (Beside X L) O) (f' : ℕ → Outcome X O) (e' : O → Outcome X O)
      → ((a : ℕ) → outcome_alone (f a) ≡ f' a) → ((o : O) → outcome_alone (e o) ≡ e' o) → outcome_alone (either_way r f e) ≡ either_way r f' e'
  read_alone (Ok a) f e f' e' p q = p a
  read_alone (Err o) f e f' e' p q = q o

  module _ (s : Store X Refusal) (n : Noting L) (c : Processor) where
    pub run_alone : (p : Program) (y : Beside X L) → outcome_alone (run (noted_store s n) c p y) ≡ run s c p y.memory
    unfolding run
    run_alone (Ends a) y = refl
    run_alone (Fails f a) y = refl
    run_alone (Reads at size im f) y = read_alone (s.read y.memory at size) _ _ _ _ (λ v. run_alone (f v) y) (λ o. refl)
    run_alone (Writes at size v im p) y = answered_alone _ (s.write y.memory at size v) _ _ _ _ (λ x. run_alone p (record { memory = x; notes = n.wrote at size y.notes })) (λ o. refl)
    run_alone (Loads at v f) y = answered_alone _ (s.load y.memory at v) _ _ _ _ (λ q. run_alone (f q.0) (record { memory = q.1; notes = n.loaded at y.notes })) (λ o. refl)
    run_alone (Keeps at v b p) y = answered_alone _ (s.keep y.memory at v b) _ _ _ _ (λ x. run_alone p (record { memory = x; notes = n.kept at b y.notes })) (λ o. refl)

  module _ (g : Ground X) (n : Noting L) where
    abbrev G : Ground (Beside X L)
    G = noted_ground g n

    ended_alone : (s : State (Beside X L)) (o : Outcome (Beside X L) Refusal) → deed_alone (ended s o) ≡ ended (alone s) (outcome_alone o)
    ended_alone s (Done p y) = refl
    ended_alone s (Failed f p y) = refl
    ended_alone s (Refused o p y) = refl

    module _ (i : Instr) (next : ℕ) (s : State (Beside X L)) where
      restarted_alone : (p : Processor) (y : Beside X L) (r : Result X Refusal)
          → deed_alone (restarted G i next s p y (result_with (λ x. record { memory = x; notes = y.notes }) r)) ≡ restarted g i next (alone s) p y.memory r
      restarted_alone p y (Err o) = refl
      restarted_alone p y (Ok x) = let z : Beside X L = record { memory = x; notes = y.notes } in ended_alone s (run G.store p (row i next p) z) ∙ ap (ended (alone s)) (run_alone g.store n p (row i next p) z)

      served_alone : (o : Outcome (Beside X L) Refusal) → deed_alone (served_or_ended G i next s o) ≡ served_or_ended g i next (alone s) (outcome_alone o)
      served_alone (Refused (Invalid e) p y) = restarted_alone p y (g.serve y.memory e)
      served_alone (Refused (Misses m) p y) = refl
      served_alone (Refused (Lacks u m) p y) = refl
      served_alone (Done p y) = refl
      served_alone (Failed f p y) = refl

      executed_alone : deed_alone (executed G i next s) ≡ executed g i next (alone s)
      unfolding executed
      executed_alone = served_alone (run G.store s.processor (row i next s.processor) s.memory) ∙ ap (served_or_ended g i next (alone s)) (run_alone g.store n s.processor (row i next s.processor) s.memory)

    strayed_alone : (o : Option ℕ) (s : State (Beside X L)) (d : Deed (Beside X L)) → deed_alone (unless_strayed o s d) ≡ unless_strayed o (alone s) (deed_alone d)
    strayed_alone None s d = refl
    strayed_alone (Some x) s d = refl

    control_alone : (i : Instr) (from : ℕ) (d : Deed (Beside X L)) → deed_alone (control_judged G i from d) ≡ control_judged g i from (deed_alone d)
    control_alone i from (Does t) = strayed_alone _ t (Does t)
    control_alone i from (Halts why t) = refl

    asked_alone : (s : State (Beside X L)) → asked G s ≡ asked g (alone s)
    unfolding asked
    asked_alone s = refl

    answer_alone : (s t : State (Beside X L)) (a : Served Stop) → deed_alone (answered s t a) ≡ answered (alone s) (alone t) a
    answer_alone s t (Answers word h) = refl
    answer_alone s t (Exits code) = refl
    answer_alone s t Overflows = refl
    answer_alone s t (Denied why) = refl

    service_alone : (s : State (Beside X L)) (d : Deed (Beside X L)) → deed_alone (with_service G s d) ≡ with_service g (alone s) (deed_alone d)
    service_alone s (Does t) = answer_alone s t (asked G s) ∙ ap (answered (alone s) (alone t)) (asked_alone s)
    service_alone s (Halts why t) = refl

    if_alone : (b : Bool) (s : State (Beside X L)) (d : Deed (Beside X L)) → deed_alone (if b then with_service G s d else d) ≡ (if b then with_service g (alone s) (deed_alone d) else deed_alone d)
    if_alone true s d = service_alone s d
    if_alone false s d = refl

    deed_of_alone : (i : Instr) (next : ℕ) (s : State (Beside X L)) → deed_alone (deed_of G i next s) ≡ deed_of g i next (alone s)
    unfolding deed_of
    deed_of_alone i next s =
        strayed_alone _ s _
        ∙ ap (unless_strayed _ (alone s)) (control_alone i s.processor.rip (with_service_of G i s (executed G i next s))
        ∙ ap (control_judged g i s.processor.rip) (if_alone (is_service i) s (executed G i next s) ∙ ap (with_service_of g i (alone s)) (executed_alone i next s)))

    by_alone : (s : State (Beside X L)) (r : Reading) → deed_alone (deed_by G s r) ≡ deed_by g (alone s) r
    by_alone s (Is i size) = deed_of_alone i _ s
    by_alone s Part = refl
    by_alone s Neither = refl

    of_alone : (s : State (Beside X L)) (owed : Bool) (d : Deed (Beside X L)) → event_alone (event_of s owed d) ≡ event_of (alone s) owed (deed_alone d)
    of_alone s owed (Does t) = refl
    of_alone s owed (Halts why t) = refl

    reading_alone : (s : State (Beside X L)) → reading_at G s ≡ reading_at g (alone s)
    unfolding reading_at
    reading_alone s = refl

    event_by_alone : (s : State (Beside X L)) (r : Reading) → event_alone (event_by G s r) ≡ event_by g (alone s) r
    event_by_alone s r = of_alone s _ (deed_by G s r) ∙ ap (event_of (alone s) _) (by_alone s r)

    if_event : (b : Bool) (s : State (Beside X L)) (e d : Event (Beside X L)) (e' d' : Event X) → event_alone e ≡ e' → event_alone d ≡ d' → event_alone (if b then e else d) ≡ (if b then e' else d')
    if_event true s e d e' d' p q = p
    if_event false s e d e' d' p q = q

    pub event_is_alone : (s : State (Beside X L)) → event_alone (event G s) ≡ event g (alone s)
    unfolding event
    event_is_alone s = if_event (is_executable s.processor.rip) s _ _ _ _ (event_by_alone s (reading_at G s) ∙ ap (event_by g (alone s)) (reading_alone s)) refl
