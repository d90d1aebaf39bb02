-- Laws of runs, over the definitions alone.
use Rattle.std.specs.Prelude.{Bool, true, false, ◌||◌, nat_le}
use Rattle.std.proofs.Common.{◌≡◌, ℕ, zero, suc, ◌+◌, ◌-◌, ◌<◌, ◌≤◌, refl, arith, ap, ◌∙◌, sym}
use Rattle.std.proofs.lemmas.Bool.{cond_both}
use Rattle.std.proofs.lemmas.Bool.Decides.{nat_tests}
use Rattle.mx_base.specs.declared.stops.Stop.{Stop}
use Rattle.mx_base.specs.Regions.{is_executable}
use Rattle.x86_forms.specs.Watch.{is_legacy}
use Rattle.obj_file.specs.Machine.{Ground, State, Deed, Does, Halts, Event, Goes, Stops, event, event_of}
use Rattle.obj_file.specs.Runs.{End, Out, Stopped, after, run_within, run_of, room}

-- an event that takes no turn leads forward in instrumented code
abbrev pub IsForward : {X : Type 0} → State X → Event X → Type 0
IsForward s (Goes true t) = Unit {0}
IsForward s (Goes false t) = (s.processor.rip < 0x1100_0000) × (s.processor.rip < t.processor.rip)
IsForward s (Stops turn why last) = Unit {0}

quiet_forward : (a b : ℕ) (owed : Bool) → ((is_legacy a || owed) || nat_le b a) ≡ false → (a < 0x1100_0000) × (a < b)
quiet_forward a b true e = grind (arith, nat_tests)
quiet_forward a b false e = grind (arith, nat_tests)

module _ {X : Type 0} (g : Ground X) where
  flagged : (b : Bool) (s t : State X) → (b ≡ false → (s.processor.rip < 0x1100_0000) × (s.processor.rip < t.processor.rip)) → IsForward s (Goes b t)
  flagged true s t h = tt
  flagged false s t h = h refl

  pub forward_of : (s : State X) (owed : Bool) (d : Deed X) → IsForward s (event_of s owed d)
  forward_of s owed (Does t) = flagged _ s _ (quiet_forward s.processor.rip t.processor.rip owed)
  forward_of s owed (Halts why last) = tt

  pub event_forward : (s : State X) → IsForward s (event g s)
  unfolding event
  event_forward s = cond_both (is_executable s.processor.rip) _ _ (λ e. IsForward s e) (λ _. forward_of s _ _) (λ _. tt)

  pub room_falls : (turns : ℕ) (s t : State X) → s.processor.rip < 0x1100_0000 → s.processor.rip < t.processor.rip → room turns t < room turns s
  unfolding room
  room_falls turns s t h k = omega arith

  pub room_falls_turn : (turns : ℕ) (s t : State X) → room turns t < room (suc turns) s
  unfolding room
  room_falls_turn turns s t = omega arith

  some_room : (turns : ℕ) (s : State X) → 0 < room turns s
  unfolding room
  some_room turns s = omega arith

  after_same : (f k : ℕ → State X → End X) (turns : ℕ) (s : State X) (e : Event X) → IsForward s e
      → ((u : ℕ) (t : State X) → room u t < room turns s → f u t ≡ k u t) → after f turns s e ≡ after k turns s e
  after_same f k turns s (Goes false t) fw ih = ih turns t (room_falls turns s t fw.0 fw.1)
  after_same f k zero s (Goes true t) fw ih = refl
  after_same f k (suc u) s (Goes true t) fw ih = ih u t (room_falls_turn u s t)
  after_same f k zero s (Stops false e last) fw ih = refl
  after_same f k (suc u) s (Stops false e last) fw ih = refl
  after_same f k zero s (Stops true e last) fw ih = refl
  after_same f k (suc u) s (Stops true e last) fw ih = refl

  -- more events than there is room for change nothing
  run_same : (n k turns : ℕ) (s : State X) → room turns s ≤ n → room turns s ≤ k → run_within g n turns s ≡ run_within g k turns s
  unfolding run_within
  run_same zero k turns s h l = let p = some_room turns s in absurd (omega arith)
  run_same (suc n) zero turns s h l = let p = some_room turns s in absurd (omega arith)
  run_same (suc n) (suc k) turns s h l =
      after_same (run_within g n) (run_within g k) turns s (event g s) (event_forward s) (λ u t m. run_same n k u t (omega arith) (omega arith))

  within_step : (n turns : ℕ) (s : State X) → run_within g (suc n) turns s ≡ after (run_within g n) turns s (event g s)
  unfolding run_within
  within_step n turns s = refl

  -- a run is its first event and the run from there
  pub run_step : (turns : ℕ) (s : State X) → run_of g turns s ≡ after (run_of g) turns s (event g s)
  unfolding run_of
  run_step turns s =
      let p = some_room turns s in
      let e : room turns s ≡ suc (room turns s - 1) = omega arith in
      ap (λ n. run_within g n turns s) e ∙ within_step _ turns s
      ∙ after_same (run_within g (room turns s - 1)) (λ u t. run_within g (room u t) u t) turns s (event g s) (event_forward s)
      (λ u t l. run_same (room turns s - 1) (room u t) u t (omega arith) (omega arith))

  pub run_quiet : (turns : ℕ) (s t : State X) → event g s ≡ Goes false t → run_of g turns s ≡ run_of g turns t
  run_quiet turns s t e = run_step turns s ∙ ap (after (run_of g) turns s) e

  pub run_turn : (turns : ℕ) (s t : State X) → event g s ≡ Goes true t → run_of g (suc turns) s ≡ run_of g turns t
  run_turn turns s t e = run_step (suc turns) s ∙ ap (after (run_of g) (suc turns) s) e

  more_after : (turns extra : ℕ) (s last : State X) (e : Event X) → event g s ≡ e → IsForward s e
      → ((u : ℕ) (t : State X) → room u t < room turns s → run_of g u t ≡ Out last → run_of g (u + extra) t ≡ run_of g extra last)
      → after (run_of g) turns s e ≡ Out last → after (run_of g) (turns + extra) s e ≡ run_of g extra last
  more_after turns extra s last (Goes false t) is fw ih h = ih turns t (room_falls turns s t fw.0 fw.1) h
  more_after zero extra s last (Goes true t) is fw ih h =
      let same : s ≡ last = cc in
      ap (λ n. after (run_of g) n s (Goes true t)) (omega arith) ∙ ap (after (run_of g) extra s) (sym is) ∙ sym (run_step extra s) ∙ ap (run_of g extra) same
  more_after (suc u) extra s last (Goes true t) is fw ih h =
      ap (λ n. after (run_of g) n s (Goes true t)) (let e : suc u + extra ≡ suc (u + extra) = omega arith in e) ∙ ih u t (room_falls_turn u s t) h
  more_after zero extra s last (Stops false e left) is fw ih h = cc
  more_after (suc u) extra s last (Stops false e left) is fw ih h = cc
  more_after zero extra s last (Stops true e left) is fw ih h =
      let same : s ≡ last = cc in
      ap (λ n. after (run_of g) n s (Stops true e left)) (omega arith) ∙ ap (after (run_of g) extra s) (sym is) ∙ sym (run_step extra s) ∙ ap (run_of g extra) same
  more_after (suc u) extra s last (Stops true e left) is fw ih h = cc

  more_within : (n turns extra : ℕ) (s last : State X) → room turns s ≤ n → run_of g turns s ≡ Out last → run_of g (turns + extra) s ≡ run_of g extra last
  more_within zero turns extra s last l h = let p = some_room turns s in absurd (omega arith)
  more_within (suc n) turns extra s last l h =
      run_step (turns + extra) s
      ∙ more_after turns extra s last (event g s) refl (event_forward s) (λ u t m. more_within n u extra t last (omega arith)) (sym (run_step turns s) ∙ h)

  -- a run that is out of turns and goes on with more is the run with all of them
  pub run_more : (turns extra : ℕ) (s last : State X) → run_of g turns s ≡ Out last → run_of g (turns + extra) s ≡ run_of g extra last
  run_more turns extra s last h = more_within (room turns s) turns extra s last (omega arith) h

  ends_after : (turns extra : ℕ) (s last : State X) (why : Stop) (e : Event X) → IsForward s e
      → ((u : ℕ) (t : State X) → room u t < room turns s → run_of g u t ≡ Stopped why last → run_of g (u + extra) t ≡ Stopped why last)
      → after (run_of g) turns s e ≡ Stopped why last → after (run_of g) (turns + extra) s e ≡ Stopped why last
  ends_after turns extra s last why (Goes false t) fw ih h = ih turns t (room_falls turns s t fw.0 fw.1) h
  ends_after zero extra s last why (Goes true t) fw ih h = cc
  ends_after (suc u) extra s last why (Goes true t) fw ih h =
      ap (λ n. after (run_of g) n s (Goes true t)) (let e : suc u + extra ≡ suc (u + extra) = omega arith in e) ∙ ih u t (room_falls_turn u s t) h
  ends_after zero zero s last why (Stops false e left) fw ih h = h
  ends_after zero (suc k) s last why (Stops false e left) fw ih h = h
  ends_after (suc u) extra s last why (Stops false e left) fw ih h =
      ap (λ n. after (run_of g) n s (Stops false e left)) (let e : suc u + extra ≡ suc (u + extra) = omega arith in e) ∙ h
  ends_after zero extra s last why (Stops true e left) fw ih h = cc
  ends_after (suc u) extra s last why (Stops true e left) fw ih h =
      ap (λ n. after (run_of g) n s (Stops true e left)) (let e : suc u + extra ≡ suc (u + extra) = omega arith in e) ∙ h

  ends_within : (n turns extra : ℕ) (s last : State X) (why : Stop) → room turns s ≤ n → run_of g turns s ≡ Stopped why last → run_of g (turns + extra) s ≡ Stopped why last
  ends_within zero turns extra s last why l h = let p = some_room turns s in absurd (omega arith)
  ends_within (suc n) turns extra s last why l h =
      run_step (turns + extra) s
      ∙ ends_after turns extra s last why (event g s) (event_forward s) (λ u t m. ends_within n u extra t last why (omega arith)) (sym (run_step turns s) ∙ h)

  -- a run that stopped stops so with more turns too
  pub run_ended : (turns extra : ℕ) (s last : State X) (why : Stop) → run_of g turns s ≡ Stopped why last → run_of g (turns + extra) s ≡ Stopped why last
  run_ended turns extra s last why h = ends_within (room turns s) turns extra s last why (omega arith) h
