-- Runs end alike over the walk and over the store of bounds, and make the same accesses for C.
use Rattle.std.proofs.Common.{◌≡◌, ℕ, zero, suc, Bool, true, false, cond, List, ◌++◌, refl, ap, ◌∙◌, sym, subst}
use Rattle.mx_base.specs.declared.stops.Stop.{Stop}
use Rattle.mx_base.specs.declared.stops.Stop.TheVariants as stop
use Rattle.mx_base.specs.Regions.{is_executable}
use Rattle.mx_base.specs.World.{Access}
use Rattle.x86_forms.specs.Processor.{Processor}
use Rattle.obj_file.specs.Machine.{Reading, Ground, State, Halts, Event, Goes, Stops, event, event_of, event_by, reading_at}
use Rattle.obj_file.specs.Runs.{End, after, run_within, room, run_of, c_accesses_by, and_later, accesses_within, accesses_of}
use Rattle.obj_file.specs.Loaded.{Tabled, Mode, ground_of}
use Rattle.obj_file.specs.Stored.{Stored, stored_ground}
use Rattle.obj_file.specs.StoreLaw.{StandsIn, StatesAlike, EventsAlike, EndsAlike, ReadsValid, ReadingStaysOut, EventStaysOut, Later, StaysOutWithin, RunStaysOut}
use Rattle.obj_file.proofs.StoredEvents.{over, from_over, reading_same, event_alike}

-- ---- after an event

module _ (go : ℕ → State Tabled → End Tabled) (also : ℕ → State Stored → End Stored) (claim : ℕ → State Tabled → Type 0)
    (alike : (turns : ℕ) (s : State Tabled) (t : State Stored) → StatesAlike s t → claim turns s → EndsAlike (go turns s) (also turns t)) where
  after_going : (turns : ℕ) (a : Bool) (s p : State Tabled) (t q : State Stored) → StatesAlike s t → StatesAlike p q → Later claim turns (Goes a p) → EndsAlike (after go turns s (Goes a p)) (after also turns t (Goes a q))
  after_going turns false s p t q old new later = alike turns p q new later
  after_going zero true s p t q old new later = old
  after_going (suc turns) true s p t q old new later = alike turns p q new later

  after_stop : (turns : ℕ) (a : Bool) (why same : Stop) (s p : State Tabled) (t q : State Stored) → StatesAlike s t → StatesAlike p q → why ≡ same → EndsAlike (after go turns s (Stops a why p)) (after also turns t (Stops a same q))
  after_stop turns false why same s p t q old new e = (e, new)
  after_stop zero true why same s p t q old new e = old
  after_stop (suc turns) true why same s p t q old new e = (e, new)

  after_alike : (turns : ℕ) (s : State Tabled) (t : State Stored) (e : Event Tabled) (f : Event Stored) → StatesAlike s t → EventsAlike e f → Later claim turns e → EndsAlike (after go turns s e) (after also turns t f)
  after_alike turns s t (Goes a p) (Goes b q) old both later = subst (λ (c : Bool). EndsAlike (after go turns s (Goes a p)) (after also turns t (Goes c q))) both.0 (after_going turns a s p t q old both.1 later)
  after_alike turns s t (Stops a why p) (Stops b same q) old both later = subst (λ (c : Bool). EndsAlike (after go turns s (Stops a why p)) (after also turns t (Stops c same q))) both.0 (after_stop turns a why same s p t q old both.2 both.1)
  after_alike turns s t (Goes a p) (Stops b same q) old both later = absurd both
  after_alike turns s t (Stops a why p) (Goes b q) old both later = absurd both

-- ---- a claim on the events after one, on both sides

module _ {X Y : Type 0} (Alike : State X → State Y → Type 0) (claim : ℕ → State X → Type 0) (other : ℕ → State Y → Type 0)
    (carried : (turns : ℕ) (s : State X) (t : State Y) → Alike s t → claim turns s → other turns t) where
  later_going : (turns : ℕ) (a : Bool) (p : State X) (q : State Y) → Alike p q → Later claim turns (Goes a p) → Later other turns (Goes a q)
  later_going turns false p q new h = carried turns p q new h
  later_going zero true p q new h = tt
  later_going (suc turns) true p q new h = carried turns p q new h

  pub later_carried : (turns : ℕ) (a b : Bool) (p : State X) (q : State Y) → a ≡ b → Alike p q → Later claim turns (Goes a p) → Later other turns (Goes b q)
  later_carried turns a b p q e new h = subst (λ (c : Bool). Later other turns (Goes c q)) e (later_going turns a p q new h)

module _ (reads : List ℕ → Reading) (outers : ℕ) (mode : Mode) (valid : ReadsValid reads) where
  abbrev gt : Ground Tabled
  gt = ground_of reads outers mode

  abbrev gs : Ground Stored
  gs = stored_ground reads outers mode

  -- ---- runs

  pub ends_within : (n turns : ℕ) (s : State Tabled) (t : State Stored) → StatesAlike s t → StaysOutWithin (ground_of reads outers mode) n turns s
      → EndsAlike (run_within (ground_of reads outers mode) n turns s) (run_within (stored_ground reads outers mode) n turns t)
  unfolding run_within StaysOutWithin
  ends_within zero turns s t h out = h
  ends_within (suc n) turns s t h out = after_alike (run_within gt n) (run_within gs n) (StaysOutWithin gt n) (λ left p q alike more. ends_within n left p q alike more)
      turns s t (event gt s) (event gs t) h (event_alike reads outers mode s t valid h out.0) out.1

  room_same : (turns : ℕ) (s : State Tabled) (t : State Stored) → StatesAlike s t → room turns s ≡ room turns t
  unfolding room
  room_same turns s t h = ap (λ (c : Processor). room turns (record s { processor = c })) h.processor

  pub runs_end_alike : (turns : ℕ) (s : State Tabled) (t : State Stored) → StatesAlike s t → RunStaysOut (ground_of reads outers mode) turns s
      → EndsAlike (run_of (ground_of reads outers mode) turns s) (run_of (stored_ground reads outers mode) turns t)
  unfolding run_of RunStaysOut
  runs_end_alike turns s t h out = subst (λ (n : ℕ). EndsAlike (run_within gt (room turns s) turns s) (run_within gs n turns t)) (room_same turns s t h) (ends_within (room turns s) turns s t h out)

  -- ---- the premise on the other side

  pub event_stays_out : (s : State Tabled) (t : State Stored) → StatesAlike s t → EventStaysOut (ground_of reads outers mode) s → EventStaysOut (stored_ground reads outers mode) t
  unfolding EventStaysOut
  event_stays_out s t h out = from_over (λ u. is_executable u.processor.rip ≡ true → ReadingStaysOut mode.bare u.processor (reading_at gs u)) s t h
      (λ code. subst (λ (r : Reading). ReadingStaysOut mode.bare s.processor r) (reading_same reads outers mode s t.memory h.memory code) (out code))

  pub event_stayed_out : (s : State Tabled) (t : State Stored) → StatesAlike s t → EventStaysOut (stored_ground reads outers mode) t → EventStaysOut (ground_of reads outers mode) s
  unfolding EventStaysOut
  event_stayed_out s t h = from_over (λ u. (is_executable u.processor.rip ≡ true → ReadingStaysOut mode.bare u.processor (reading_at gs u)) → is_executable s.processor.rip ≡ true → ReadingStaysOut mode.bare s.processor (reading_at gt s)) s t h
      (λ out code. subst (λ (r : Reading). ReadingStaysOut mode.bare s.processor r) (sym (reading_same reads outers mode s t.memory h.memory code)) (out code))

  later_out : (n turns : ℕ) (e : Event Tabled) (f : Event Stored) → ((left : ℕ) (s : State Tabled) (t : State Stored) → StatesAlike s t → StaysOutWithin gt n left s → StaysOutWithin gs n left t)
      → EventsAlike e f → Later (StaysOutWithin gt n) turns e → Later (StaysOutWithin gs n) turns f
  later_out n turns (Goes a p) (Goes b q) carried both h = later_carried StatesAlike (StaysOutWithin gt n) (StaysOutWithin gs n) carried turns a b p q both.0 both.1 h
  later_out n turns (Stops a why p) (Stops b same q) carried both h = tt
  later_out n turns (Goes a p) (Stops b same q) carried both h = absurd both
  later_out n turns (Stops a why p) (Goes b q) carried both h = absurd both

  stays_within : (n turns : ℕ) (s : State Tabled) (t : State Stored) → StatesAlike s t → StaysOutWithin gt n turns s → StaysOutWithin gs n turns t
  unfolding StaysOutWithin
  stays_within zero turns s t h out = tt
  stays_within (suc n) turns s t h out = (event_stays_out s t h out.0, later_out n turns (event gt s) (event gs t) (λ left p q alike more. stays_within n left p q alike more) (event_alike reads outers mode s t valid h out.0) out.1)

  later_stayed : (n turns : ℕ) (e : Event Tabled) (f : Event Stored) → ((left : ℕ) (t : State Stored) (s : State Tabled) → StatesAlike s t → StaysOutWithin gs n left t → StaysOutWithin gt n left s)
      → EventsAlike e f → Later (StaysOutWithin gs n) turns f → Later (StaysOutWithin gt n) turns e
  later_stayed n turns (Goes a p) (Goes b q) carried both h = later_carried (λ t s. StatesAlike s t) (StaysOutWithin gs n) (StaysOutWithin gt n) carried turns b a q p (sym both.0) both.1 h
  later_stayed n turns (Stops a why p) (Stops b same q) carried both h = tt
  later_stayed n turns (Goes a p) (Stops b same q) carried both h = absurd both
  later_stayed n turns (Stops a why p) (Goes b q) carried both h = absurd both

  stayed_within : (n turns : ℕ) (s : State Tabled) (t : State Stored) → StatesAlike s t → StaysOutWithin gs n turns t → StaysOutWithin gt n turns s
  unfolding StaysOutWithin
  stayed_within zero turns s t h out = tt
  stayed_within (suc n) turns s t h out =
      let first = event_stayed_out s t h out.0 in
      (first, later_stayed n turns (event gt s) (event gs t) (λ left q p alike more. stayed_within n left p q alike more) (event_alike reads outers mode s t valid h first) out.1)

  pub run_stays_out : (turns : ℕ) (s : State Tabled) (t : State Stored) → StatesAlike s t → RunStaysOut (ground_of reads outers mode) turns s → RunStaysOut (stored_ground reads outers mode) turns t
  unfolding RunStaysOut
  run_stays_out turns s t h out = subst (λ (n : ℕ). StaysOutWithin gs n turns t) (room_same turns s t h) (stays_within (room turns s) turns s t h out)

  pub run_stayed_out : (turns : ℕ) (s : State Tabled) (t : State Stored) → StatesAlike s t → RunStaysOut (stored_ground reads outers mode) turns t → RunStaysOut (ground_of reads outers mode) turns s
  unfolding RunStaysOut
  run_stayed_out turns s t h out = stayed_within (room turns s) turns s t h (subst (λ (n : ℕ). StaysOutWithin gs n turns t) (sym (room_same turns s t h)) out)

  -- ---- accesses of C

  and_later_same : (n turns : ℕ) (now : List Access) (e : Event Tabled) (f : Event Stored)
      → ((left : ℕ) (s : State Tabled) (t : State Stored) → StatesAlike s t → StaysOutWithin gt n left s → accesses_within gt n left s ≡ accesses_within gs n left t)
      → EventsAlike e f → Later (StaysOutWithin gt n) turns e → and_later (accesses_within gt n) turns now e ≡ and_later (accesses_within gs n) turns now f
  and_later_same n turns now (Goes a p) (Goes b q) same both later = subst (λ (c : Bool). and_later (accesses_within gt n) turns now (Goes a p) ≡ and_later (accesses_within gs n) turns now (Goes c q)) both.0 (going turns a p q both.1 later)
    where
      going : (turns : ℕ) (a : Bool) (p : State Tabled) (q : State Stored) → StatesAlike p q → Later (StaysOutWithin gt n) turns (Goes a p) → and_later (accesses_within gt n) turns now (Goes a p) ≡ and_later (accesses_within gs n) turns now (Goes a q)
      going turns false p q new later = ap (λ (more : List Access). now ++ more) (same turns p q new later)
      going zero true p q new later = refl
      going (suc turns) true p q new later = ap (λ (more : List Access). now ++ more) (same turns p q new later)
  and_later_same n turns now (Stops a why p) (Stops b also q) same both later = refl
  and_later_same n turns now (Goes a p) (Stops b also q) same both later = absurd both
  and_later_same n turns now (Stops a why p) (Goes b q) same both later = absurd both

  -- the accesses of the instruction that is fetched; where none is fetched the event is a stop
  fetched_same : (turns n : ℕ) (s : State Tabled) (y : Stored) → StandsIn s.memory y
      → and_later (accesses_within gs n) turns (c_accesses_by s (reading_at gt s)) (event gs (over s y)) ≡ and_later (accesses_within gs n) turns (c_accesses_by (over s y) (reading_at gs (over s y))) (event gs (over s y))
  unfolding event
  fetched_same turns n s y h = elim (is_executable s.processor.rip) as (λ b. is_executable s.processor.rip ≡ b
      → and_later (accesses_within gs n) turns (c_accesses_by s (reading_at gt s)) (cond b (event_by gs (over s y) (reading_at gs (over s y))) (event_of (over s y) false (Halts (stop.Unmapped s.processor.rip) (over s y))))
      ≡ and_later (accesses_within gs n) turns (c_accesses_by (over s y) (reading_at gs (over s y))) (cond b (event_by gs (over s y) (reading_at gs (over s y))) (event_of (over s y) false (Halts (stop.Unmapped s.processor.rip) (over s y))))) [
        | true ↦ λ code. ap (λ (r : Reading). and_later (accesses_within gs n) turns (c_accesses_by s r) (event_by gs (over s y) (reading_at gs (over s y)))) (reading_same reads outers mode s y h code)
        | false ↦ λ code. refl
      ] refl

  accesses_same : (n turns : ℕ) (s : State Tabled) (t : State Stored) → StatesAlike s t → StaysOutWithin gt n turns s → accesses_within gt n turns s ≡ accesses_within gs n turns t
  unfolding accesses_within StaysOutWithin
  accesses_same zero turns s t h out = refl
  accesses_same (suc n) turns s t h out = from_over (λ u. EventsAlike (event gt s) (event gs u) → accesses_within gt (suc n) turns s ≡ accesses_within gs (suc n) turns u) s t h
      (λ both. and_later_same n turns (c_accesses_by s (reading_at gt s)) (event gt s) (event gs (over s t.memory)) (λ left p q alike more. accesses_same n left p q alike more) both out.1
      ∙ fetched_same turns n s t.memory h.memory) (event_alike reads outers mode s t valid h out.0)

  pub same_accesses : (turns : ℕ) (s : State Tabled) (t : State Stored) → StatesAlike s t → RunStaysOut (ground_of reads outers mode) turns s
      → accesses_of (ground_of reads outers mode) turns s ≡ accesses_of (stored_ground reads outers mode) turns t
  unfolding accesses_of RunStaysOut
  same_accesses turns s t h out = accesses_same (room turns s) turns s t h out ∙ ap (λ (n : ℕ). accesses_within gs n turns t) (room_same turns s t h)
