-- Laws of runs with their accesses and of whether they are clean, over the definitions alone.
use Rattle.std.specs.Prelude.{if◌then◌else◌, ◌||◌, ◌&&◌, not, ⊤}
use Rattle.std.specs.List.{AllByRecursion}
use Rattle.std.proofs.Common.{◌≡◌, ℕ, zero, suc, ◌+◌, ◌-◌, ◌<◌, ◌≤◌, inl, inr, Bool, true, false, cond, List, [], ◌∷◌, ◌++◌, refl, arith, ap, ◌∙◌, sym, subst, append_assoc}
use Rattle.std.proofs.lemmas.Bool.{and_parts, cases_lt}
use Rattle.mx_base.specs.declared.stops.Stop.{Stop}
use Rattle.mx_base.specs.Bounds.{moved}
use Rattle.mx_base.specs.Regions.{is_executable}
use Rattle.mx_base.specs.World.{Access}
use Rattle.x86_forms.specs.declared.instr.Instr.{Instr}
use Rattle.x86_forms.specs.declared.spans.Span.{Span}
use Rattle.x86_forms.specs.Processor.{Processor}
use Rattle.x86_forms.specs.Watch.{is_watched}
use Rattle.obj_file.specs.Machine.{Reading, Is, Part, Neither, Ground, State, Event, Goes, Stops, event, reading_at}
use Rattle.obj_file.specs.Runs.{End, Out, Stopped, after, run_of, room, c_accesses_by, and_later, accesses_within, accesses_of}
use Rattle.obj_file.specs.StoreLaw.{is_of_bounds, AvoidsBounds, StaysOut, ReadingStaysOut, EventStaysOut, Later, StaysOutWithin, RunStaysOut}
use Rattle.obj_file.specs.Finals.{all_below, avoids_bounds, keeps_out, all_keep_out, clean_by, clean_now, and_clean, clean_within, clean_of, Moment, Final, final, behind, accesses_now, gone_on, ended_there, if_turns, final_after}
use Rattle.obj_file.proofs.RunLaws.{IsForward, event_forward, room_falls, room_falls_turn, run_step, run_quiet, run_turn, run_more, run_ended}

-- ---- tests say what they test

pub all_below_each : (n : ℕ) (test : ℕ → Bool) (k : ℕ) → all_below n test ≡ true → k < n → test k ≡ true
unfolding all_below
all_below_each zero test k h l = absurd (omega arith)
all_below_each (suc n) test k h l =
    let parts = and_parts (test n) (all_below n test) h in
    elim (cases_lt k n) [
      | inl lower ↦ all_below_each n test k parts.1 lower
      | inr upper ↦ let same : n ≡ k = omega arith in subst (λ (j : ℕ). test j ≡ true) same parts.0
    ]

both_true : (a b : Bool) → a ≡ true → b ≡ true → (a && b) ≡ true
both_true true b h k = k
both_true false b h k = h

pub each_below : (n : ℕ) (test : ℕ → Bool) → ((k : ℕ) → k < n → test k ≡ true) → all_below n test ≡ true
unfolding all_below
each_below zero test h = refl
each_below (suc n) test h = both_true (test n) (all_below n test) (h n (omega arith)) (each_below n test (λ k l. h k (omega arith)))

not_true : (b : Bool) → not b ≡ true → b ≡ false
not_true true h = absurd cc
not_true false h = refl

not_false : (b : Bool) → b ≡ false → not b ≡ true
not_false true h = absurd cc
not_false false h = refl

pub avoids_them : (s : Span) → avoids_bounds s ≡ true → AvoidsBounds s
avoids_them s h k l = not_true (is_of_bounds (moved s.at k)) (all_below_each s.size (λ j. not (is_of_bounds (moved s.at j))) k h l)

pub them_avoided : (s : Span) → AvoidsBounds s → avoids_bounds s ≡ true
them_avoided s h = each_below s.size (λ j. not (is_of_bounds (moved s.at j))) (λ k l. not_false (is_of_bounds (moved s.at k)) (h k l))

or_second : (a b : Bool) → (a || b) ≡ true → a ≡ false → b ≡ true
or_second true b h e = absurd cc
or_second false b h e = h

either_true : (a b : Bool) → (a ≡ false → b ≡ true) → (a || b) ≡ true
either_true true b h = refl
either_true false b h = h refl

pub span_stays : (bare : Bool) (i : Instr) (from : ℕ) (s : Span) → keeps_out bare i from s ≡ true → StaysOut bare i from s
unfolding keeps_out
span_stays bare i from s h unwatched = avoids_them s (or_second (not bare && is_watched i from s) _ h unwatched)

pub span_stayed : (bare : Bool) (i : Instr) (from : ℕ) (s : Span) → StaysOut bare i from s → keeps_out bare i from s ≡ true
unfolding keeps_out
span_stayed bare i from s h = either_true (not bare && is_watched i from s) _ (λ e. them_avoided s (h e))

all_stay : (bare : Bool) (i : Instr) (from : ℕ) (l : List Span) → all_keep_out bare i from l ≡ true → AllByRecursion (StaysOut bare i from) l
all_stay bare i from [] h = tt
all_stay bare i from (s ∷ rest) h = let parts = and_parts (keeps_out bare i from s) (all_keep_out bare i from rest) h in (span_stays bare i from s parts.0, all_stay bare i from rest parts.1)

all_stayed : (bare : Bool) (i : Instr) (from : ℕ) (l : List Span) → AllByRecursion (StaysOut bare i from) l → all_keep_out bare i from l ≡ true
all_stayed bare i from [] h = refl
all_stayed bare i from (s ∷ rest) h = both_true (keeps_out bare i from s) (all_keep_out bare i from rest) (span_stayed bare i from s h.0) (all_stayed bare i from rest h.1)

reading_stays : (bare : Bool) (c : Processor) (r : Reading) → clean_by bare c r ≡ true → ReadingStaysOut bare c r
reading_stays bare c (Is i size) h = all_stay bare i c.rip _ h
reading_stays bare c Part h = tt
reading_stays bare c Neither h = tt

reading_stayed : (bare : Bool) (c : Processor) (r : Reading) → ReadingStaysOut bare c r → clean_by bare c r ≡ true
reading_stayed bare c (Is i size) h = all_stayed bare i c.rip _ h
reading_stayed bare c Part h = refl
reading_stayed bare c Neither h = refl

module _ {X : Type 0} (g : Ground X) where
  event_stays : (s : State X) → clean_now g s ≡ true → EventStaysOut g s
  unfolding EventStaysOut
  event_stays s h code = reading_stays g.bare s.processor (reading_at g s) (subst (λ (b : Bool). cond b (clean_by g.bare s.processor (reading_at g s)) true ≡ true) code h)

  event_stayed : (s : State X) → EventStaysOut g s → clean_now g s ≡ true
  unfolding EventStaysOut
  event_stayed s = by_code (is_executable s.processor.rip)
    where
      by_code : (b : Bool) → (b ≡ true → ReadingStaysOut g.bare s.processor (reading_at g s)) → cond b (clean_by g.bare s.processor (reading_at g s)) true ≡ true
      by_code true h = reading_stayed g.bare s.processor (reading_at g s) (h refl)
      by_code false h = refl

  later_stays : (go : ℕ → State X → Bool) (claim : ℕ → State X → Type 0) (turns : ℕ) (now : Bool) (e : Event X) → ((u : ℕ) (t : State X) → go u t ≡ true → claim u t) → and_clean go turns now e ≡ true → (now ≡ true) × Later claim turns e
  later_stays go claim turns now (Goes false t) k h = let parts = and_parts now (go turns t) h in (parts.0, k turns t parts.1)
  later_stays go claim zero now (Goes true t) k h = (h, tt)
  later_stays go claim (suc turns) now (Goes true t) k h = let parts = and_parts now (go turns t) h in (parts.0, k turns t parts.1)
  later_stays go claim turns now (Stops turn why last) k h = (h, tt)

  later_stayed : (go : ℕ → State X → Bool) (claim : ℕ → State X → Type 0) (turns : ℕ) (now : Bool) (e : Event X) → ((u : ℕ) (t : State X) → claim u t → go u t ≡ true) → now ≡ true → Later claim turns e → and_clean go turns now e ≡ true
  later_stayed go claim turns now (Goes false t) k c h = both_true now (go turns t) c (k turns t h)
  later_stayed go claim zero now (Goes true t) k c h = c
  later_stayed go claim (suc turns) now (Goes true t) k c h = both_true now (go turns t) c (k turns t h)
  later_stayed go claim turns now (Stops turn why last) k c h = c

  within_stays : (n turns : ℕ) (s : State X) → clean_within g n turns s ≡ true → StaysOutWithin g n turns s
  unfolding clean_within StaysOutWithin
  within_stays zero turns s h = tt
  within_stays (suc n) turns s h =
      let parts = later_stays (clean_within g n) (StaysOutWithin g n) turns (clean_now g s) (event g s) (λ u t c. within_stays n u t c) h in
      (event_stays s parts.0, parts.1)

  within_stayed : (n turns : ℕ) (s : State X) → StaysOutWithin g n turns s → clean_within g n turns s ≡ true
  unfolding clean_within StaysOutWithin
  within_stayed zero turns s h = refl
  within_stayed (suc n) turns s h = later_stayed (clean_within g n) (StaysOutWithin g n) turns (clean_now g s) (event g s) (λ u t c. within_stayed n u t c) (event_stayed s h.0) h.1

  pub clean_stays : (turns : ℕ) (s : State X) → clean_of g turns s ≡ true → RunStaysOut g turns s
  unfolding clean_of RunStaysOut
  clean_stays turns s h = within_stays (room turns s) turns s h

  pub stays_clean : (turns : ℕ) (s : State X) → RunStaysOut g turns s → clean_of g turns s ≡ true
  unfolding clean_of RunStaysOut
  stays_clean turns s h = within_stayed (room turns s) turns s h

-- ---- accesses, and whether events are clean, by first event and rest

module _ {X : Type 0} (g : Ground X) where
  some_room : (turns : ℕ) (s : State X) → 0 < room turns s
  unfolding room
  some_room turns s = omega arith

  later_same : (f k : ℕ → State X → List Access) (turns : ℕ) (s : State X) (now : List Access) (e : Event X) → IsForward s e
      → ((u : ℕ) (t : State X) → room u t < room turns s → f u t ≡ k u t) → and_later f turns now e ≡ and_later k turns now e
  later_same f k turns s now (Goes false t) fw ih = ap (λ l. now ++ l) (ih turns t (room_falls g turns s t fw.0 fw.1))
  later_same f k zero s now (Goes true t) fw ih = refl
  later_same f k (suc u) s now (Goes true t) fw ih = ap (λ l. now ++ l) (ih u t (room_falls_turn g u s t))
  later_same f k turns s now (Stops b e last) fw ih = refl

  accesses_same : (n k turns : ℕ) (s : State X) → room turns s ≤ n → room turns s ≤ k → accesses_within g n turns s ≡ accesses_within g k turns s
  unfolding accesses_within
  accesses_same zero k turns s h l = let p = some_room turns s in absurd (omega arith)
  accesses_same (suc n) zero turns s h l = let p = some_room turns s in absurd (omega arith)
  accesses_same (suc n) (suc k) turns s h l =
      later_same (accesses_within g n) (accesses_within g k) turns s _ (event g s) (event_forward g s) (λ u t m. accesses_same n k u t (omega arith) (omega arith))

  accesses_within_step : (n turns : ℕ) (s : State X) → accesses_within g (suc n) turns s ≡ and_later (accesses_within g n) turns (accesses_now g s) (event g s)
  unfolding accesses_within
  accesses_within_step n turns s = refl

  -- the accesses of a run are those of its first event, and then those of the run from there
  pub accesses_step : (turns : ℕ) (s : State X) → accesses_of g turns s ≡ and_later (accesses_of g) turns (accesses_now g s) (event g s)
  unfolding accesses_of
  accesses_step turns s =
      let p = some_room turns s in
      let e : room turns s ≡ suc (room turns s - 1) = omega arith in
      ap (λ n. accesses_within g n turns s) e ∙ accesses_within_step _ turns s
      ∙ later_same (accesses_within g (room turns s - 1)) (λ u t. accesses_within g (room u t) u t) turns s _ (event g s) (event_forward g s)
      (λ u t l. accesses_same (room turns s - 1) (room u t) u t (omega arith) (omega arith))

  clean_later_same : (f k : ℕ → State X → Bool) (turns : ℕ) (s : State X) (now : Bool) (e : Event X) → IsForward s e
      → ((u : ℕ) (t : State X) → room u t < room turns s → f u t ≡ k u t) → and_clean f turns now e ≡ and_clean k turns now e
  clean_later_same f k turns s now (Goes false t) fw ih = ap (λ b. now && b) (ih turns t (room_falls g turns s t fw.0 fw.1))
  clean_later_same f k zero s now (Goes true t) fw ih = refl
  clean_later_same f k (suc u) s now (Goes true t) fw ih = ap (λ b. now && b) (ih u t (room_falls_turn g u s t))
  clean_later_same f k turns s now (Stops b e last) fw ih = refl

  clean_same : (n k turns : ℕ) (s : State X) → room turns s ≤ n → room turns s ≤ k → clean_within g n turns s ≡ clean_within g k turns s
  unfolding clean_within
  clean_same zero k turns s h l = let p = some_room turns s in absurd (omega arith)
  clean_same (suc n) zero turns s h l = let p = some_room turns s in absurd (omega arith)
  clean_same (suc n) (suc k) turns s h l =
      clean_later_same (clean_within g n) (clean_within g k) turns s (clean_now g s) (event g s) (event_forward g s) (λ u t m. clean_same n k u t (omega arith) (omega arith))

  clean_within_step : (n turns : ℕ) (s : State X) → clean_within g (suc n) turns s ≡ and_clean (clean_within g n) turns (clean_now g s) (event g s)
  unfolding clean_within
  clean_within_step n turns s = refl

  -- a run is clean if its first event is, and the run from there
  pub clean_step : (turns : ℕ) (s : State X) → clean_of g turns s ≡ and_clean (clean_of g) turns (clean_now g s) (event g s)
  unfolding clean_of
  clean_step turns s =
      let p = some_room turns s in
      let e : room turns s ≡ suc (room turns s - 1) = omega arith in
      ap (λ n. clean_within g n turns s) e ∙ clean_within_step _ turns s
      ∙ clean_later_same (clean_within g (room turns s - 1)) (λ u t. clean_within g (room u t) u t) turns s (clean_now g s) (event g s) (event_forward g s)
      (λ u t l. clean_same (room turns s - 1) (room u t) u t (omega arith) (omega arith))

-- ---- the three as one

append_none : (l : List Access) → l ++ [] ≡ l
append_none [] = refl
append_none (x ∷ l) = ap (λ (r : List Access). x ∷ r) (append_none l)

abbrev three : {X : Type 0} → End X → List Access → Bool → Final X
three end made clean = record { end = end; accesses = made; clean = clean }

three_same : {X : Type 0} (a b : End X) (l k : List Access) (c d : Bool) → a ≡ b → l ≡ k → c ≡ d → three a l c ≡ three b k d
three_same a b l k c d e made clean = λ i. record { end = e i; accesses = made i; clean = clean i }

module _ {X : Type 0} (g : Ground X) where
  -- what each of the three makes of an event is what the one value makes of it
  joined : (m : Moment X) (e : Event X)
      → three (after (run_of g) m.turns m.state e) (m.accesses ++ and_later (accesses_of g) m.turns (accesses_now g m.state) e) (and_clean (clean_of g) m.turns (clean_now g m.state) e) ≡ final_after g m e
  joined m (Goes false t) = let made = accesses_now g m.state in three_same _ _ _ _ _ _ refl (sym (append_assoc m.accesses made (accesses_of g m.turns t))) refl
  joined m (Goes true t) = by_turns m.turns
    where
      by_turns : (turns : ℕ) → three (after (run_of g) turns m.state (Goes true t)) (m.accesses ++ and_later (accesses_of g) turns (accesses_now g m.state) (Goes true t)) (and_clean (clean_of g) turns (clean_now g m.state) (Goes true t)) ≡ if_turns g m turns (λ left. gone_on g m left t)
      by_turns zero = three_same _ _ _ _ _ _ refl (append_none m.accesses) refl
      by_turns (suc left) = let made = accesses_now g m.state in three_same _ _ _ _ _ _ refl (sym (append_assoc m.accesses made (accesses_of g left t))) refl
  joined m (Stops false why last) = three_same _ _ _ _ _ _ refl (append_none m.accesses) refl
  joined m (Stops true why last) = by_turns m.turns
    where
      by_turns : (turns : ℕ) → three (after (run_of g) turns m.state (Stops true why last)) (m.accesses ++ and_later (accesses_of g) turns (accesses_now g m.state) (Stops true why last)) (and_clean (clean_of g) turns (clean_now g m.state) (Stops true why last)) ≡ if_turns g m turns (λ left. ended_there g m (Stopped why last))
      by_turns zero = three_same _ _ _ _ _ _ refl (append_none m.accesses) refl
      by_turns (suc left) = three_same _ _ _ _ _ _ refl (append_none m.accesses) refl

  -- a run with its accesses is its first event and the run from there
  pub final_step : (m : Moment X) → final g m ≡ final_after g m (event g m.state)
  final_step m = three_same _ _ _ _ _ _ (run_step g m.turns m.state) (ap (λ l. m.accesses ++ l) (accesses_step g m.turns m.state)) (clean_step g m.turns m.state) ∙ joined m (event g m.state)

  clean_behind : (f : Final X) (c : Bool) → c ≡ true → behind c f ≡ f
  clean_behind f c e = ap (λ (b : Bool). behind b f) e

  -- an event that takes no turn and is clean may be left out, its accesses put before
  pub final_quiet : (m : Moment X) (t : State X) → event g m.state ≡ Goes false t → clean_now g m.state ≡ true
      → final g m ≡ final g record { state = t; turns = m.turns; accesses = m.accesses ++ accesses_now g m.state }
  final_quiet m t e c = final_step m ∙ ap (final_after g m) e ∙ clean_behind _ _ c

  -- one that takes a turn, with one turn less
  pub final_turn : (m : Moment X) (turns : ℕ) (t : State X) → m.turns ≡ suc turns → event g m.state ≡ Goes true t → clean_now g m.state ≡ true
      → final g m ≡ final g record { state = t; turns = turns; accesses = m.accesses ++ accesses_now g m.state }
  final_turn m turns t left e c = final_step m ∙ ap (final_after g m) e ∙ ap (λ (n : ℕ). if_turns g m n (λ u. gone_on g m u t)) left ∙ clean_behind _ _ c

-- ---- more turns

both_assoc : (a b c : Bool) → ((a && b) && c) ≡ (a && (b && c))
both_assoc true b c = refl
both_assoc false b c = refl

both_again : (a b : Bool) → (a && (a && b)) ≡ (a && b)
both_again true b = refl
both_again false b = refl

module _ {X : Type 0} (g : Ground X) where
  -- the accesses, and whether the run is clean, with `extra` turns more
  abbrev Goes_on : ℕ → ℕ → State X → State X → Type 0
  Goes_on turns extra s last = (accesses_of g (turns + extra) s ≡ accesses_of g turns s ++ accesses_of g extra last) × (clean_of g (turns + extra) s ≡ (clean_of g turns s && clean_of g extra last))

  -- the same of what stands behind an event
  abbrev On_after : ℕ → ℕ → State X → State X → Event X → Type 0
  On_after turns extra s last e = (and_later (accesses_of g) (turns + extra) (accesses_now g s) e ≡ and_later (accesses_of g) turns (accesses_now g s) e ++ accesses_of g extra last)
      × (and_clean (clean_of g) (turns + extra) (clean_now g s) e ≡ (and_clean (clean_of g) turns (clean_now g s) e && clean_of g extra last))

  -- a clean run has a clean first event
  first_clean : (turns : ℕ) (s : State X) (e : Event X) → (clean_now g s && and_clean (clean_of g) turns (clean_now g s) e) ≡ and_clean (clean_of g) turns (clean_now g s) e
  first_clean turns s (Goes false t) = both_again (clean_now g s) (clean_of g turns t)
  first_clean zero s (Goes true t) = same (clean_now g s)
    where
      same : (b : Bool) → (b && b) ≡ b
      same true = refl
      same false = refl
  first_clean (suc turns) s (Goes true t) = both_again (clean_now g s) (clean_of g turns t)
  first_clean turns s (Stops turn why t) = same (clean_now g s)
    where
      same : (b : Bool) → (b && b) ≡ b
      same true = refl
      same false = refl

  out_of_turns : (extra : ℕ) (s last : State X) (e : Event X) → event g s ≡ e → s ≡ last
      → (accesses_of g extra s ≡ accesses_of g extra last) × (and_clean (clean_of g) extra (clean_now g s) e ≡ (clean_now g s && clean_of g extra last))
  out_of_turns extra s last e is same =
      (ap (accesses_of g extra) same, sym (first_clean extra s e) ∙ ap (λ (b : Bool). clean_now g s && b) (ap (and_clean (clean_of g) extra (clean_now g s)) (sym is) ∙ sym (clean_step g extra s) ∙ ap (clean_of g extra) same))

  more_after : (turns extra : ℕ) (s last : State X) (e : Event X) → event g s ≡ e → IsForward s e
      → ((u : ℕ) (t : State X) → room u t < room turns s → run_of g u t ≡ Out last → Goes_on u extra t last)
      → after (run_of g) turns s e ≡ Out last → On_after turns extra s last e
  more_after turns extra s last (Goes false t) is fw ih h =
      let on = ih turns t (room_falls g turns s t fw.0 fw.1) h in (
        ap (λ (l : List Access). accesses_now g s ++ l) on.0 ∙ sym (append_assoc (accesses_now g s) (accesses_of g turns t) (accesses_of g extra last)),
        ap (λ (b : Bool). clean_now g s && b) on.1 ∙ sym (both_assoc (clean_now g s) (clean_of g turns t) (clean_of g extra last)),
      )
  more_after zero extra s last (Goes true t) is fw ih h =
      let same : s ≡ last = cc in
      let e : Event X = Goes true t in
      let out = out_of_turns extra s last e is same in
      let start : zero + extra ≡ extra = omega arith in (
        ap (λ (n : ℕ). and_later (accesses_of g) n (accesses_now g s) e) start ∙ ap (and_later (accesses_of g) extra (accesses_now g s)) (sym is) ∙ sym (accesses_step g extra s) ∙ out.0,
        ap (λ (n : ℕ). and_clean (clean_of g) n (clean_now g s) e) start ∙ out.1,
      )
  more_after (suc u) extra s last (Goes true t) is fw ih h =
      let on = ih u t (room_falls_turn g u s t) h in
      let e : Event X = Goes true t in
      let left : suc u + extra ≡ suc (u + extra) = omega arith in (
        ap (λ (n : ℕ). and_later (accesses_of g) n (accesses_now g s) e) left ∙ ap (λ (l : List Access). accesses_now g s ++ l) on.0 ∙ sym (append_assoc (accesses_now g s) (accesses_of g u t) (accesses_of g extra last)),
        ap (λ (n : ℕ). and_clean (clean_of g) n (clean_now g s) e) left ∙ ap (λ (b : Bool). clean_now g s && b) on.1 ∙ sym (both_assoc (clean_now g s) (clean_of g u t) (clean_of g extra last)),
      )
  more_after zero extra s last (Stops false e left) is fw ih h = absurd cc
  more_after (suc u) extra s last (Stops false e left) is fw ih h = absurd cc
  more_after zero extra s last (Stops true why left) is fw ih h =
      let same : s ≡ last = cc in
      let e : Event X = Stops true why left in
      let out = out_of_turns extra s last e is same in
      let start : zero + extra ≡ extra = omega arith in (
        ap (λ (n : ℕ). and_later (accesses_of g) n (accesses_now g s) e) start ∙ ap (and_later (accesses_of g) extra (accesses_now g s)) (sym is) ∙ sym (accesses_step g extra s) ∙ out.0,
        ap (λ (n : ℕ). and_clean (clean_of g) n (clean_now g s) e) start ∙ out.1,
      )
  more_after (suc u) extra s last (Stops true e left) is fw ih h = absurd cc

  more_within : (n turns extra : ℕ) (s last : State X) → room turns s ≤ n → run_of g turns s ≡ Out last → Goes_on turns extra s last
  more_within zero turns extra s last l h = let p = some_room g turns s in absurd (omega arith)
  more_within (suc n) turns extra s last l h =
      let on = more_after turns extra s last (event g s) refl (event_forward g s) (λ u t m. more_within n u extra t last (omega arith)) (sym (run_step g turns s) ∙ h) in (
        accesses_step g (turns + extra) s ∙ on.0 ∙ ap (λ (l : List Access). l ++ accesses_of g extra last) (sym (accesses_step g turns s)),
        clean_step g (turns + extra) s ∙ on.1 ∙ ap (λ (b : Bool). b && clean_of g extra last) (sym (clean_step g turns s)),
      )

  -- a run that is out of turns and goes on with more
  pub final_more : (turns extra : ℕ) (s last : State X) (made : List Access) → run_of g turns s ≡ Out last
      → final g record { state = s; turns = turns + extra; accesses = made } ≡ behind (clean_of g turns s) (final g record { state = last; turns = extra; accesses = made ++ accesses_of g turns s })
  final_more turns extra s last made h =
      let on = more_within (room turns s) turns extra s last (omega arith) h in
      three_same _ _ _ _ _ _ (run_more g turns extra s last h) (ap (λ (l : List Access). made ++ l) on.0 ∙ sym (append_assoc made (accesses_of g turns s) (accesses_of g extra last))) on.1

  -- ---- a run that stopped

  abbrev Stays_so : ℕ → ℕ → State X → Type 0
  Stays_so turns extra s = (accesses_of g (turns + extra) s ≡ accesses_of g turns s) × (clean_of g (turns + extra) s ≡ clean_of g turns s)

  abbrev So_after : ℕ → ℕ → State X → Event X → Type 0
  So_after turns extra s e = (and_later (accesses_of g) (turns + extra) (accesses_now g s) e ≡ and_later (accesses_of g) turns (accesses_now g s) e)
      × (and_clean (clean_of g) (turns + extra) (clean_now g s) e ≡ and_clean (clean_of g) turns (clean_now g s) e)

  stop_after : (turns extra : ℕ) (s last : State X) (why : Stop) (e : Event X) → IsForward s e
      → ((u : ℕ) (t : State X) → room u t < room turns s → run_of g u t ≡ Stopped why last → Stays_so u extra t)
      → after (run_of g) turns s e ≡ Stopped why last → So_after turns extra s e
  stop_after turns extra s last why (Goes false t) fw ih h =
      let so = ih turns t (room_falls g turns s t fw.0 fw.1) h in
      (ap (λ (l : List Access). accesses_now g s ++ l) so.0, ap (λ (b : Bool). clean_now g s && b) so.1)
  stop_after zero extra s last why (Goes true t) fw ih h = absurd cc
  stop_after (suc u) extra s last why (Goes true t) fw ih h =
      let so = ih u t (room_falls_turn g u s t) h in
      let e : Event X = Goes true t in
      let left : suc u + extra ≡ suc (u + extra) = omega arith in (
        ap (λ (n : ℕ). and_later (accesses_of g) n (accesses_now g s) e) left ∙ ap (λ (l : List Access). accesses_now g s ++ l) so.0,
        ap (λ (n : ℕ). and_clean (clean_of g) n (clean_now g s) e) left ∙ ap (λ (b : Bool). clean_now g s && b) so.1,
      )
  stop_after turns extra s last why (Stops b also left) fw ih h = (refl, refl)

  stop_within : (n turns extra : ℕ) (s last : State X) (why : Stop) → room turns s ≤ n → run_of g turns s ≡ Stopped why last → Stays_so turns extra s
  stop_within zero turns extra s last why l h = let p = some_room g turns s in absurd (omega arith)
  stop_within (suc n) turns extra s last why l h =
      let so = stop_after turns extra s last why (event g s) (event_forward g s) (λ u t m. stop_within n u extra t last why (omega arith)) (sym (run_step g turns s) ∙ h) in
      (accesses_step g (turns + extra) s ∙ so.0 ∙ sym (accesses_step g turns s), clean_step g (turns + extra) s ∙ so.1 ∙ sym (clean_step g turns s))

  pub final_stopped : (turns extra : ℕ) (s last : State X) (why : Stop) (made : List Access) → run_of g turns s ≡ Stopped why last
      → final g record { state = s; turns = turns + extra; accesses = made } ≡ final g record { state = s; turns = turns; accesses = made }
  final_stopped turns extra s last why made h =
      let so = stop_within (room turns s) turns extra s last why (omega arith) h in
      three_same _ _ _ _ _ _ (run_ended g turns extra s last why h ∙ sym h) (ap (λ (l : List Access). made ++ l) so.0) so.1
