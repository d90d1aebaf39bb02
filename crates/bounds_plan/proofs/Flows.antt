-- The steps of statements do what the statements do.
use Rattle.std.proofs.Common.{ℕ, zero, suc, ◌+◌, ◌≡◌, ◌≤◌, ◌<◌, refl, sym, ap, ◌∙◌, subst, List, [], ◌∷◌, ◌++◌, append_assoc, Some, None, Bool, true, cond, nat_lt, arith}
use Rattle.std.specs.Prelude.{◌≢◌}
use Rattle.std.proofs.lemmas.Bool.Decides.{nat_tests}
use Rattle.mx_base.specs.StopOfC.{OutOfTurns}
use Rattle.mx_base.specs.World.{World, Log, Rooted}
use Rattle.fat_ir.specs.declared.step.FatStep.{FatStep}
use Rattle.fat_ir.specs.declared.step.FatStep.TheVariants as s
use Rattle.fat_ir.specs.Values.{Number, Pair, Nothing as NoHeld}
use Rattle.fat_ir.specs.Calls.{Outcome, Comes as ComesBack, Stops as StopsAt, with_turns, turn_from as fat_turn_from}
use Rattle.fat_ir.specs.Step.{Symbols, State as T, Going, Next, To, Reached, On, jumps_unless_0}
use Rattle.fat_ir.specs.Run.{pass, and_then, followed, run_to, back, no_value}
use Rattle.fat_ir.specs.Laws.{LacksLabel}
use Rattle.fat_ir.proofs.Lists.{pass-append, pass-over, pass-here}
use Rattle.bounds_plan.specs.meaning.Core.{NumberExpr, PointerExpr, Effect, Statement, Skip, Do, Then, If, While, DoWhile, For, Break, Continue, Return, ReturnNumber, ReturnPtr}
use Rattle.bounds_plan.specs.meaning.State.{Pointer, OfNumber, OfPointer, State, Ended, Done, Stopped, M, bind, ◌>>=◌, ◌>>◌, pure, stop}
use Rattle.bounds_plan.specs.meaning.Expressions.{Names, number, pointer, choose}
use Rattle.bounds_plan.specs.meaning.Statements.{effect, Flow, Normal, Broke, Continued, Returned, Left, turn_from, turn, after_body, round, loop, round_once, loop_once, after_first, statement}
use Rattle.bounds_plan.specs.steps.Code.{labels, labels_effect, labels_of, code, code_ptr, code_effect, code_of}
use Rattle.bounds_plan.specs.laws.Laws.{IsOutside, LeftByCalls, NoMoreTurns}
use Rattle.bounds_plan.specs.steps.Follows.{Fits, FitsPtr, FitsEffect, FitsStatement, value_of, DoesSame}
use Rattle.bounds_plan.proofs.Fresh.{part, own, lacks-append, fresh, fresh_effect, fresh_statement}
use Rattle.bounds_plan.proofs.Worlds.{Fewer, fewer-number, fewer-pointer, fewer-effect, fewer-statement}
use Rattle.bounds_plan.proofs.Sim.{read_number, read_bounds, Agree, Sim, beside, NumberIn, PointerIn}
use Rattle.bounds_plan.proofs.Exprs.{runs, runs_ptr}
use Rattle.bounds_plan.proofs.Effects.{Anything, effect_runs}

-- none of n labels from l on stands in the list
pub record Clear (l n : ℕ) (c : List FatStep) : Type 0 where
  pub is : (k : ℕ) → l ≤ k → k < l + n → LacksLabel k c

module _ (private : ℕ) (sorts : ℕ → Bool) (symbols : Symbols) (names : Names) (takes : ℕ → ℕ) (same_place : (x : ℕ) → symbols.located x ≡ names.located x) (same : DoesSame takes names.call symbols.call) (few : LeftByCalls NoMoreTurns names.call) (d : ℕ) (above : private ≤ d) (body : List FatStep) where
  -- how the function ends from here, with room for n passes
  abbrev pub Fin : ℕ → Reached → Outcome
  Fin n r = followed private (run_to symbols private body n) r

  -- from the start of the function the way to n labels from l on comes by here
  pub record Reach (l n : ℕ) (rest : List FatStep) : Type 0 where
    pub is : (k : ℕ) (t : T) → l ≤ k → k < l + n → pass symbols body (To k) t ≡ pass symbols rest (To k) t

  -- the function's end r is its end from the list p on
  pub record At (z : State) (g : Going) (p : List FatStep) (r : Outcome) : Type 0 where
    pub u : T
    pub n : ℕ
    pub is : r ≡ Fin n (pass symbols p g u)
    pub w : u.world ≡ z.world
    pub agree : Agree private sorts z.numbers z.pairs u
    pub left : u.world.turns ≤ n

  abbrev pub Goes : List FatStep → ℕ → ℕ → Ended Flow → Outcome → Type 0
  Goes p lb lc (Done Normal z) r = At z Next p r
  Goes p lb lc (Done Broke z) r = At z (To lb) p r
  Goes p lb lc (Done Continued z) r = At z (To lc) p r
  Goes p lb lc (Done (Returned v) z) r = r ≡ ComesBack (value_of v) z.world
  Goes p lb lc (Done Left z) r = r ≡ ComesBack no_value z.world
  Goes p lb lc (Stopped why z) r = r ≡ StopsAt why z.world

  at_other : (z : State) (m k : Going) (p q : List FatStep) (r : Outcome) → ((u : T) → pass symbols p m u ≡ pass symbols q k u) → At z m p r → At z k q r
  at_other z m k p q r e a = record { u = a.u; n = a.n; is = a.is ∙ ap (Fin a.n) (e a.u); w = a.w; agree = a.agree; left = a.left }

  rename : (p q : List FatStep) (lb lc : ℕ) (res : Ended Flow) (r : Outcome) → ((u : T) → pass symbols p Next u ≡ pass symbols q Next u) → ((u : T) → pass symbols p (To lb) u ≡ pass symbols q (To lb) u) → ((u : T) → pass symbols p (To lc) u ≡ pass symbols q (To lc) u) → Goes p lb lc res r → Goes q lb lc res r
  rename p q lb lc (Done Normal z) r e f g h = at_other z Next Next p q r e h
  rename p q lb lc (Done Broke z) r e f g h = at_other z (To lb) (To lb) p q r f h
  rename p q lb lc (Done Continued z) r e f g h = at_other z (To lc) (To lc) p q r g h
  rename p q lb lc (Done (Returned v) z) r e f g h = h
  rename p q lb lc (Done Left z) r e f g h = h
  rename p q lb lc (Stopped why z) r e f g h = h

  by_way : (p : List FatStep) (lb lc : ℕ) (res : Ended Flow) (r x : Outcome) → r ≡ x → Goes p lb lc res x → Goes p lb lc res r
  by_way p lb lc res r x e h = subst (λ (o : Outcome). Goes p lb lc res o) (sym e) h

  use_at : (p : List FatStep) (lb lc : ℕ) (z : State) (m : Going) (q : List FatStep) (r : Outcome) (go : M Flow) → At z m q r → ((u : T) (n : ℕ) → Agree private sorts z.numbers z.pairs u → u.world.turns ≤ n → u.world ≡ z.world → Goes p lb lc (go (beside private sorts z.numbers z.pairs z.log u)) (Fin n (pass symbols q m u))) → Goes p lb lc (go z) r
  use_at p lb lc z m q r go a h =
      by_way p lb lc (go z) r _ a.is
      (subst (λ (w : World). Goes p lb lc (go record { numbers = z.numbers; pairs = z.pairs; world = w; log = z.log }) (Fin a.n (pass symbols q m a.u))) a.w (h a.u a.n a.agree a.left a.w))

  seek_over : (label : ℕ) (a b : List FatStep) (u : T) → LacksLabel label a → pass symbols (a ++ b) (To label) u ≡ pass symbols b (To label) u
  seek_over label a b u lacks = pass-append symbols a b (To label) u ∙ ap (λ r. and_then r (pass symbols b)) (pass-over symbols a label u lacks)

  seek_here : (label : ℕ) (a : List FatStep) (u : T) → pass symbols (s.Label label ∷ a) (To label) u ≡ pass symbols a Next u
  seek_here label a u = pass-here symbols a label u

  seek_past : (label : ℕ) (a : List FatStep) (u : T) → LacksLabel label a → pass symbols a (To label) u ≡ On (To label) u
  seek_past label a u lacks = pass-over symbols a label u lacks

  -- a computation, and then what goes on
  step_from : {A : Type 0} (Q : A → T → Type 0) (p : List FatStep) (lb lc n : ℕ) (t : T) (c rest : List FatStep) (st : State) (res : Ended A) (go : A → M Flow) → t.world.turns ≤ n → st.world ≡ t.world → Fewer st res → Sim private sorts Q res (pass symbols c Next t)
      → ((v : A) (numbers : ℕ → ℕ) (pairs : ℕ → Rooted) (log : Log) (u : T) → Agree private sorts numbers pairs u → Q v u → u.world.turns ≤ n → u.world.turns ≤ t.world.turns → Goes p lb lc (go v (beside private sorts numbers pairs log u)) (Fin n (pass symbols rest Next u)))
      → Goes p lb lc (bind res go) (Fin n (pass symbols (c ++ rest) Next t))
  step_from Q p lb lc n t c rest st (Done v z) go le sw kept h all =
      let u = h.0 in
      let e1 : u.world.turns ≡ z.world.turns = ap (λ (x : World). x.turns) h.2 in
      let e2 : st.world.turns ≡ t.world.turns = ap (λ (x : World). x.turns) sw in
      let k : z.world.turns ≤ st.world.turns = kept in
      let a : Goes p lb lc (go v (beside private sorts z.numbers z.pairs z.log u)) (Fin n (pass symbols rest Next u)) = all v z.numbers z.pairs z.log u h.3 h.4 (omega (arith, e1, e2, k, le)) (omega (arith, e1, e2, k)) in
      let f : Goes p lb lc (go v z) (Fin n (pass symbols rest Next u)) = subst (λ (x : World). Goes p lb lc (go v record { numbers = z.numbers; pairs = z.pairs; world = x; log = z.log }) (Fin n (pass symbols rest Next u))) h.2 a in
      by_way p lb lc (go v z) _ _ (ap (Fin n) (pass-append symbols c rest Next t ∙ ap (λ r. and_then r (pass symbols rest)) h.1)) f
  step_from Q p lb lc n t c rest st (Stopped why z) go le sw kept h all = ap (Fin n) (pass-append symbols c rest Next t ∙ ap (λ r. and_then r (pass symbols rest)) h)

  number_goes : (p : List FatStep) (lb lc n l : ℕ) (e : NumberExpr) (rest : List FatStep) (go : ℕ → M Flow) → Fits private sorts takes e → (numbers : ℕ → ℕ) (pairs : ℕ → Rooted) (log : Log) (t : T) → Agree private sorts numbers pairs t → t.world.turns ≤ n
      → ((x : ℕ) (numbers : ℕ → ℕ) (pairs : ℕ → Rooted) (log : Log) (u : T) → Agree private sorts numbers pairs u → u.values d ≡ Number x → u.world.turns ≤ n → u.world.turns ≤ t.world.turns → Goes p lb lc (go x (beside private sorts numbers pairs log u)) (Fin n (pass symbols rest Next u)))
      → Goes p lb lc (bind (number names e (beside private sorts numbers pairs log t)) go) (Fin n (pass symbols (code e d l ++ rest) Next t))
  number_goes p lb lc n l e rest go fits numbers pairs log t a le h =
      step_from (NumberIn private sorts d t) p lb lc n t (code e d l) rest (beside private sorts numbers pairs log t) (number names e (beside private sorts numbers pairs log t)) go le refl (fewer-number names few e (beside private sorts numbers pairs log t))
      (runs private sorts symbols names takes same_place same e d l above fits numbers pairs log t a) (λ x numbers pairs log u a at ln lt. h x numbers pairs log u a at.0 ln lt)

  pointer_goes : (p : List FatStep) (lb lc n l : ℕ) (e : PointerExpr) (rest : List FatStep) (go : Pointer → M Flow) → FitsPtr private sorts takes e → (numbers : ℕ → ℕ) (pairs : ℕ → Rooted) (log : Log) (t : T) → Agree private sorts numbers pairs t → t.world.turns ≤ n
      → ((x : Pointer) (numbers : ℕ → ℕ) (pairs : ℕ → Rooted) (log : Log) (u : T) → Agree private sorts numbers pairs u → u.values d ≡ Number x.address → u.values (d + 1) ≡ Pair x.rooted.bounds → u.world.turns ≤ n → Goes p lb lc (go x (beside private sorts numbers pairs log u)) (Fin n (pass symbols rest Next u)))
      → Goes p lb lc (bind (pointer names e (beside private sorts numbers pairs log t)) go) (Fin n (pass symbols (code_ptr e d l ++ rest) Next t))
  pointer_goes p lb lc n l e rest go fits numbers pairs log t a le h =
      step_from (PointerIn private sorts d t) p lb lc n t (code_ptr e d l) rest (beside private sorts numbers pairs log t) (pointer names e (beside private sorts numbers pairs log t)) go le refl (fewer-pointer names few e (beside private sorts numbers pairs log t))
      (runs_ptr private sorts symbols names takes same_place same e d l above fits numbers pairs log t a) (λ x numbers pairs log u a at ln lt. h x numbers pairs log u a at.0 at.1 ln)

  effect_goes : (p : List FatStep) (lb lc n l : ℕ) (e : Effect) (rest : List FatStep) (go : M Flow) → FitsEffect private sorts takes e → (numbers : ℕ → ℕ) (pairs : ℕ → Rooted) (log : Log) (t : T) → Agree private sorts numbers pairs t → t.world.turns ≤ n
      → ((numbers : ℕ → ℕ) (pairs : ℕ → Rooted) (log : Log) (u : T) → Agree private sorts numbers pairs u → u.world.turns ≤ n → u.world.turns ≤ t.world.turns → Goes p lb lc (go (beside private sorts numbers pairs log u)) (Fin n (pass symbols rest Next u)))
      → Goes p lb lc (bind (effect names e (beside private sorts numbers pairs log t)) (λ x. go)) (Fin n (pass symbols (code_effect e d l ++ rest) Next t))
  effect_goes p lb lc n l e rest go fits numbers pairs log t a le h =
      step_from Anything p lb lc n t (code_effect e d l) rest (beside private sorts numbers pairs log t) (effect names e (beside private sorts numbers pairs log t)) (λ x. go) le refl (fewer-effect names few e (beside private sorts numbers pairs log t))
      (effect_runs private sorts symbols names takes same_place same d above e l fits numbers pairs log t a) (λ x numbers pairs log u a at ln lt. h numbers pairs log u a ln lt)

  choose_cases : (p : List FatStep) (lb lc k n l : ℕ) (a b : M Flow) (z : State) (u : T) (e : List FatStep) → Goes p lb lc (a z) (Fin n (pass symbols e (To l) u)) → Goes p lb lc (b z) (Fin n (pass symbols e Next u)) → Goes p lb lc (choose k a b z) (Fin n (and_then (jumps_unless_0 k l u) (pass symbols e)))
  choose_cases p lb lc zero n l a b z u e g h = h
  choose_cases p lb lc (suc k) n l a b z u e g h = g

  choose_goes : (p : List FatStep) (lb lc k n l : ℕ) (a b : M Flow) (z : State) (u : T) (e : List FatStep) → u.values d ≡ Number k → Goes p lb lc (a z) (Fin n (pass symbols e (To l) u)) → Goes p lb lc (b z) (Fin n (pass symbols e Next u)) → Goes p lb lc (choose k a b z) (Fin n (pass symbols (s.JumpIf d l ∷ e) Next u))
  choose_goes p lb lc k n l a b z u e at g h = by_way p lb lc (choose k a b z) _ _ (ap (λ r. Fin n (and_then r (pass symbols e))) (read_number _ at)) (choose_cases p lb lc k n l a b z u e g h)

  -- ---- ways back

  low_test : (x : ℕ) → x < private → nat_lt x private ≡ true
  low_test x h = grind (arith, nat_tests, h)

  -- the private variables stay on a way back
  agree_back : (numbers : ℕ → ℕ) (pairs : ℕ → Rooted) (u : T) (w : World) → Agree private sorts numbers pairs u → Agree private sorts numbers pairs (back private record u { world = w })
  agree_back numbers pairs u w a = λ v low. ap (λ b. cond b (u.values v) NoHeld) (low_test v low) ∙ a v low

  module _ (p : List FatStep) (lb lc l : ℕ) (head : List FatStep) (top : (t : T) → pass symbols body (To l) t ≡ pass symbols head Next t) where
    -- the way back, and what comes after it
    abbrev Back : ℕ → M Flow → Type 0
    Back m go = (numbers : ℕ → ℕ) (pairs : ℕ → Rooted) (log : Log) (u : T) (n : ℕ) → Agree private sorts numbers pairs u → u.world.turns ≤ m → u.world.turns ≤ n → Goes p lb lc (go (beside private sorts numbers pairs log u)) (Fin n (On (To l) u))

    out_of_turns : Back 0 (stop OutOfTurns)
    out_of_turns numbers pairs log u n a le ln = let e : u.world.turns ≡ 0 = omega (arith, le) in ap (λ k. fat_turn_from k u.world (λ w. run_to symbols private body n l (back private record u { world = w }))) e

    turn_back : (m : ℕ) (go : M Flow) → ((numbers : ℕ → ℕ) (pairs : ℕ → Rooted) (log : Log) (u : T) (n : ℕ) → Agree private sorts numbers pairs u → u.world.turns ≤ m → u.world.turns ≤ n → Goes p lb lc (go (beside private sorts numbers pairs log u)) (Fin n (pass symbols head Next u))) → Back (suc m) (turn >> go)
    turn_back m go h numbers pairs log u n a le ln = by_turns u.world.turns n le ln
      where
        by_turns : (k n : ℕ) → k ≤ suc m → k ≤ n → Goes p lb lc (bind (turn_from k (beside private sorts numbers pairs log u)) (λ x. go)) (fat_turn_from k u.world (λ w. run_to symbols private body n l (back private record u { world = w })))
        by_turns zero n le ln = refl
        by_turns (suc k) zero le ln = absurd (omega (arith, ln))
        by_turns (suc k) (suc n) le ln =
            let v : T = back private record u { world = with_turns k u.world } in
            by_way p lb lc (go (beside private sorts numbers pairs log v)) _ _ (ap (Fin n) (top v))
            (h numbers pairs log v n (agree_back numbers pairs u (with_turns k u.world) a) (omega (arith, le)) (omega (arith, ln)))

  -- ---- loops that test before the body

  module _ (p : List FatStep) (lb lc l cl : ℕ) (c : NumberExpr) (cs tail : List FatStep) (top : (t : T) → pass symbols body (To l) t ≡ pass symbols (code c d cl ++ (s.JumpIf d (l + 2) ∷ s.Jump (l + 1) ∷ s.Label (l + 2) ∷ (cs ++ tail))) Next t)
      (fits : Fits private sorts takes c) (once : M Flow) (step : M (Unit {0})) (lc' : ℕ)
      (skip : (u : T) → pass symbols (s.Jump (l + 1) ∷ s.Label (l + 2) ∷ (cs ++ tail)) Next u ≡ pass symbols p Next u)
      (enter : (u : T) → pass symbols (s.Jump (l + 1) ∷ s.Label (l + 2) ∷ (cs ++ tail)) (To (l + 2)) u ≡ pass symbols (cs ++ tail) Next u)
      (leave : (u : T) → pass symbols tail (To (l + 1)) u ≡ pass symbols p Next u)
      (cont : (u : T) → pass symbols tail (To lc') u ≡ pass symbols tail Next u)
      (once_kept : (st : State) → Fewer st (once st))
      (once_goes : (numbers : ℕ → ℕ) (pairs : ℕ → Rooted) (log : Log) (t : T) (n : ℕ) → Agree private sorts numbers pairs t → t.world.turns ≤ n → Goes tail (l + 1) lc' (once (beside private sorts numbers pairs log t)) (Fin n (pass symbols (cs ++ tail) Next t)))
      (tail_goes : (m : ℕ) (go : M Flow) → ((numbers : ℕ → ℕ) (pairs : ℕ → Rooted) (log : Log) (u : T) (n : ℕ) → Agree private sorts numbers pairs u → u.world.turns ≤ m → u.world.turns ≤ n → Goes p lb lc (go (beside private sorts numbers pairs log u)) (Fin n (On (To l) u)))
      → (numbers : ℕ → ℕ) (pairs : ℕ → Rooted) (log : Log) (u : T) (n : ℕ) → Agree private sorts numbers pairs u → u.world.turns ≤ m → u.world.turns ≤ n → Goes p lb lc ((step >> go) (beside private sorts numbers pairs log u)) (Fin n (pass symbols tail Next u)))
    where
      abbrev Head : List FatStep
      Head = code c d cl ++ (s.JumpIf d (l + 2) ∷ s.Jump (l + 1) ∷ s.Label (l + 2) ∷ (cs ++ tail))

      abbrev Again : ℕ → M Flow → Type 0
      Again m go = (numbers : ℕ → ℕ) (pairs : ℕ → Rooted) (log : Log) (u : T) (n : ℕ) → Agree private sorts numbers pairs u → u.world.turns ≤ m → u.world.turns ≤ n → Goes p lb lc (go (beside private sorts numbers pairs log u)) (Fin n (On (To l) u))

      body_case : (m : ℕ) (go : M Flow) (st : State) (res : Ended Flow) (r : Outcome) → Again m go → st.world.turns ≤ m → Fewer st res → Goes tail (l + 1) lc' res r → Goes p lb lc (bind res (λ f. after_body f (step >> go))) r
      body_case m go st (Done Normal z) r again le k h =
          let kept : z.world.turns ≤ st.world.turns = k in
          use_at p lb lc z Next tail r (step >> go) h (λ u n a ln w. let e : u.world.turns ≡ z.world.turns = ap (λ (x : World). x.turns) w in tail_goes m go again z.numbers z.pairs z.log u n a (omega (arith, e, kept, le)) ln)
      body_case m go st (Done Continued z) r again le k h =
          let kept : z.world.turns ≤ st.world.turns = k in
          use_at p lb lc z (To lc') tail r (step >> go) h (λ u n a ln w. let e : u.world.turns ≡ z.world.turns = ap (λ (x : World). x.turns) w in by_way p lb lc ((step >> go) (beside private sorts z.numbers z.pairs z.log u)) _ _ (ap (Fin n) (cont u)) (tail_goes m go again z.numbers z.pairs z.log u n a (omega (arith, e, kept, le)) ln))
      body_case m go st (Done Broke z) r again le k h = at_other z (To (l + 1)) Next tail p r leave h
      body_case m go st (Done (Returned v) z) r again le k h = h
      body_case m go st (Done Left z) r again le k h = h
      body_case m go st (Stopped why z) r again le k h = h

      round_goes : (m : ℕ) (go : M Flow) → Again m go → (numbers : ℕ → ℕ) (pairs : ℕ → Rooted) (log : Log) (t : T) (n : ℕ) → Agree private sorts numbers pairs t → t.world.turns ≤ m → t.world.turns ≤ n → Goes p lb lc (round (number names c) once step go (beside private sorts numbers pairs log t)) (Fin n (pass symbols Head Next t))
      round_goes m go again numbers pairs log t n a le ln =
          number_goes p lb lc n cl c (s.JumpIf d (l + 2) ∷ s.Jump (l + 1) ∷ s.Label (l + 2) ∷ (cs ++ tail)) (λ x. choose x (once >>= (λ f. after_body f (step >> go))) (pure Normal)) fits numbers pairs log t a ln
          (λ x numbers pairs log u a at lu lt.
          choose_goes p lb lc x n (l + 2) (once >>= (λ f. after_body f (step >> go))) (pure Normal) (beside private sorts numbers pairs log u) u (s.Jump (l + 1) ∷ s.Label (l + 2) ∷ (cs ++ tail)) at
          (by_way p lb lc ((once >>= (λ f. after_body f (step >> go))) (beside private sorts numbers pairs log u)) _ _ (ap (Fin n) (enter u)) (body_case m go (beside private sorts numbers pairs log u) (once (beside private sorts numbers pairs log u)) _ again (omega (arith, lt, le)) (once_kept (beside private sorts numbers pairs log u)) (once_goes numbers pairs log u n a lu)))
          record { u = u; n = n; is = ap (Fin n) (skip u); w = refl; agree = a; left = lu })

      loop_goes : (m : ℕ) (numbers : ℕ → ℕ) (pairs : ℕ → Rooted) (log : Log) (t : T) (n : ℕ) → Agree private sorts numbers pairs t → t.world.turns ≤ m → t.world.turns ≤ n → Goes p lb lc (loop m (number names c) once step (beside private sorts numbers pairs log t)) (Fin n (pass symbols Head Next t))
      loop_goes zero = round_goes 0 (stop OutOfTurns) (out_of_turns p lb lc l Head top)
      loop_goes (suc m) = round_goes (suc m) (turn >> loop m (number names c) once step) (turn_back p lb lc l Head top m (loop m (number names c) once step) (loop_goes m))

  -- ---- loops that test after the body

  module _ (p : List FatStep) (lb lc l cl : ℕ) (c : NumberExpr) (cs : List FatStep) (top : (t : T) → pass symbols body (To l) t ≡ pass symbols (cs ++ (s.Label (l + 2) ∷ (code c d cl ++ (s.JumpIf d l ∷ s.Label (l + 1) ∷ p)))) Next t)
      (fits : Fits private sorts takes c) (once : M Flow)
      (gone : (u : T) → pass symbols (s.Label (l + 1) ∷ p) (To l) u ≡ On (To l) u)
      (leave : (u : T) → pass symbols (s.Label (l + 2) ∷ (code c d cl ++ (s.JumpIf d l ∷ s.Label (l + 1) ∷ p))) (To (l + 1)) u ≡ pass symbols p Next u)
      (once_kept : (st : State) → Fewer st (once st))
      (once_goes : (numbers : ℕ → ℕ) (pairs : ℕ → Rooted) (log : Log) (t : T) (n : ℕ) → Agree private sorts numbers pairs t → t.world.turns ≤ n → Goes (s.Label (l + 2) ∷ (code c d cl ++ (s.JumpIf d l ∷ s.Label (l + 1) ∷ p))) (l + 1) (l + 2) (once (beside private sorts numbers pairs log t)) (Fin n (pass symbols (cs ++ (s.Label (l + 2) ∷ (code c d cl ++ (s.JumpIf d l ∷ s.Label (l + 1) ∷ p)))) Next t)))
    where
      abbrev Tail : List FatStep
      Tail = s.Label (l + 2) ∷ (code c d cl ++ (s.JumpIf d l ∷ s.Label (l + 1) ∷ p))

      abbrev BackOnce : ℕ → M Flow → Type 0
      BackOnce m go = (numbers : ℕ → ℕ) (pairs : ℕ → Rooted) (log : Log) (u : T) (n : ℕ) → Agree private sorts numbers pairs u → u.world.turns ≤ m → u.world.turns ≤ n → Goes p lb lc (go (beside private sorts numbers pairs log u)) (Fin n (On (To l) u))

      abbrev test_then : M Flow → M Flow
      test_then go = number names c >>= (λ x. choose x go (pure Normal))

      test_goes : (m : ℕ) (go : M Flow) → BackOnce m go → (numbers : ℕ → ℕ) (pairs : ℕ → Rooted) (log : Log) (t : T) (n : ℕ) → Agree private sorts numbers pairs t → t.world.turns ≤ m → t.world.turns ≤ n → Goes p lb lc (test_then go (beside private sorts numbers pairs log t)) (Fin n (pass symbols Tail Next t))
      test_goes m go again numbers pairs log t n a le ln =
          number_goes p lb lc n cl c (s.JumpIf d l ∷ s.Label (l + 1) ∷ p) (λ x. choose x go (pure Normal)) fits numbers pairs log t a ln
          (λ x numbers pairs log u a at lu lt.
          choose_goes p lb lc x n l go (pure Normal) (beside private sorts numbers pairs log u) u (s.Label (l + 1) ∷ p) at
          (by_way p lb lc (go (beside private sorts numbers pairs log u)) _ _ (ap (Fin n) (gone u)) (again numbers pairs log u n a (omega (arith, lt, le)) lu))
          record { u = u; n = n; is = refl; w = refl; agree = a; left = lu })

      once_case : (m : ℕ) (go : M Flow) (st : State) (res : Ended Flow) (r : Outcome) → BackOnce m go → st.world.turns ≤ m → Fewer st res → Goes Tail (l + 1) (l + 2) res r → Goes p lb lc (bind res (λ f. after_body f (test_then go))) r
      once_case m go st (Done Normal z) r again le k h =
          let kept : z.world.turns ≤ st.world.turns = k in
          use_at p lb lc z Next Tail r (test_then go) h (λ u n a ln w. let e : u.world.turns ≡ z.world.turns = ap (λ (x : World). x.turns) w in test_goes m go again z.numbers z.pairs z.log u n a (omega (arith, e, kept, le)) ln)
      once_case m go st (Done Continued z) r again le k h =
          let kept : z.world.turns ≤ st.world.turns = k in
          use_at p lb lc z (To (l + 2)) Tail r (test_then go) h (λ u n a ln w. let e : u.world.turns ≡ z.world.turns = ap (λ (x : World). x.turns) w in by_way p lb lc (test_then go (beside private sorts z.numbers z.pairs z.log u)) _ _ (ap (Fin n) (seek_here (l + 2) (code c d cl ++ (s.JumpIf d l ∷ s.Label (l + 1) ∷ p)) u)) (test_goes m go again z.numbers z.pairs z.log u n a (omega (arith, e, kept, le)) ln))
      once_case m go st (Done Broke z) r again le k h = at_other z (To (l + 1)) Next Tail p r leave h
      once_case m go st (Done (Returned v) z) r again le k h = h
      once_case m go st (Done Left z) r again le k h = h
      once_case m go st (Stopped why z) r again le k h = h

      once_round : (m : ℕ) (go : M Flow) → BackOnce m go → (numbers : ℕ → ℕ) (pairs : ℕ → Rooted) (log : Log) (t : T) (n : ℕ) → Agree private sorts numbers pairs t → t.world.turns ≤ m → t.world.turns ≤ n → Goes p lb lc (round_once once (number names c) go (beside private sorts numbers pairs log t)) (Fin n (pass symbols (cs ++ Tail) Next t))
      once_round m go again numbers pairs log t n a le ln = once_case m go (beside private sorts numbers pairs log t) (once (beside private sorts numbers pairs log t)) _ again le (once_kept (beside private sorts numbers pairs log t)) (once_goes numbers pairs log t n a ln)

      loop_once_goes : (m : ℕ) (numbers : ℕ → ℕ) (pairs : ℕ → Rooted) (log : Log) (t : T) (n : ℕ) → Agree private sorts numbers pairs t → t.world.turns ≤ m → t.world.turns ≤ n → Goes p lb lc (loop_once m once (number names c) (beside private sorts numbers pairs log t)) (Fin n (pass symbols (cs ++ Tail) Next t))
      loop_once_goes zero = once_round 0 (stop OutOfTurns) (out_of_turns p lb lc l (cs ++ Tail) top)
      loop_once_goes (suc m) = once_round (suc m) (turn >> loop_once m once (number names c)) (turn_back p lb lc l (cs ++ Tail) top m (loop_once m once (number names c)) (loop_once_goes m))

  -- ---- statements

  abbrev pub Does : Statement → ℕ → ℕ → ℕ → List FatStep → Type 0
  Does st l lb lc p = (numbers : ℕ → ℕ) (pairs : ℕ → Rooted) (log : Log) (t : T) (n : ℕ) → Agree private sorts numbers pairs t → t.world.turns ≤ n → Goes p lb lc (statement names st (beside private sorts numbers pairs log t)) (Fin n (pass symbols (code_of st d l lb lc ++ p) Next t))

  next_goes : (b : Statement) (l lb lc : ℕ) (p : List FatStep) → LacksLabel lb (code_of b d l lb lc) → LacksLabel lc (code_of b d l lb lc) → Does b l lb lc p → (res : Ended Flow) (r : Outcome) → Goes (code_of b d l lb lc ++ p) lb lc res r → Goes p lb lc (bind res (λ f. after_first f (statement names b))) r
  next_goes b l lb lc p nb nc h (Done Normal z) r g = use_at p lb lc z Next (code_of b d l lb lc ++ p) r (statement names b) g (λ u n a ln w. h z.numbers z.pairs z.log u n a ln)
  next_goes b l lb lc p nb nc h (Done Broke z) r g = at_other z (To lb) (To lb) (code_of b d l lb lc ++ p) p r (λ u. seek_over lb (code_of b d l lb lc) p u nb) g
  next_goes b l lb lc p nb nc h (Done Continued z) r g = at_other z (To lc) (To lc) (code_of b d l lb lc ++ p) p r (λ u. seek_over lc (code_of b d l lb lc) p u nc) g
  next_goes b l lb lc p nb nc h (Done (Returned v) z) r g = g
  next_goes b l lb lc p nb nc h (Done Left z) r g = g
  next_goes b l lb lc p nb nc h (Stopped why z) r g = g

  -- the same steps, written another way
  spelled : (p : List FatStep) (lb lc n : ℕ) (c e : List FatStep) (t : T) (res : Ended Flow) → c ≡ e → Goes p lb lc res (Fin n (pass symbols e Next t)) → Goes p lb lc res (Fin n (pass symbols c Next t))
  spelled p lb lc n c e t res h g = by_way p lb lc res _ _ (ap (λ (x : List FatStep). Fin n (pass symbols x Next t)) h) g

  seek_spelled : (k : ℕ) (c e : List FatStep) (t : T) → c ≡ e → pass symbols c (To k) t ≡ pass symbols e (To k) t
  seek_spelled k c e t h = ap (λ (x : List FatStep). pass symbols x (To k) t) h

  -- labels before or behind
  before : (k l n : ℕ) → k < l → IsOutside k l n
  before k l n h = record { is = λ q. absurd (omega (arith, q, h)) }

  behind : (k l n : ℕ) → l + n ≤ k → IsOutside k l n
  behind k l n h = record { is = λ q. h }

  unlike : (k m : ℕ) → m < k → k ≢ m
  unlike k m h = λ e. omega (arith, e, h)

  unlike_below : (k m : ℕ) → k < m → k ≢ m
  unlike_below k m h = λ e. omega (arith, e, h)

  pub statement_goes : (st : Statement) (l lb lc : ℕ) (p : List FatStep) → FitsStatement private sorts takes st → IsOutside lb l (labels_of st) → IsOutside lc l (labels_of st) → Clear l (labels_of st) p → Reach l (labels_of st) (code_of st d l lb lc ++ p) → Does st l lb lc p
  statement_goes Skip l lb lc p f ob oc clear reach = λ numbers pairs log t n a ln. record { u = t; n = n; is = refl; w = refl; agree = a; left = ln }
  statement_goes (Do e) l lb lc p f ob oc clear reach = λ numbers pairs log t n a ln.
      effect_goes p lb lc n l e p (pure Normal) f numbers pairs log t a ln (λ numbers pairs log u a lu lt. record { u = u; n = n; is = refl; w = refl; agree = a; left = lu })
  statement_goes (Then x y) l lb lc p f ob oc clear reach =
      let lx = labels_of x in
      let ly = labels_of y in
      let cx = code_of x d l lb lc in
      let cy = code_of y d (l + lx) lb lc in
      let e : (cx ++ cy) ++ p ≡ cx ++ (cy ++ p) = append_assoc cx cy p in
      λ numbers pairs log t n a ln.
      spelled p lb lc n ((cx ++ cy) ++ p) (cx ++ (cy ++ p)) t _ e
      (next_goes y (l + lx) lb lc p (fresh_statement y d (l + lx) lb lc lb (part (l + lx) ly (omega arith) (omega arith) ob)) (fresh_statement y d (l + lx) lb lc lc (part (l + lx) ly (omega arith) (omega arith) oc))
      (statement_goes y (l + lx) lb lc p f.1 (part (l + lx) ly (omega arith) (omega arith) ob) (part (l + lx) ly (omega arith) (omega arith) oc) record { is = λ k lo hi. clear.is k (omega (arith, lo)) (omega (arith, hi)) }
      record { is = λ k t lo hi. reach.is k t (omega (arith, lo)) (omega (arith, hi)) ∙ seek_spelled k ((cx ++ cy) ++ p) (cx ++ (cy ++ p)) t e ∙ seek_over k cx (cy ++ p) t (fresh_statement x d l lb lc k (behind k l lx lo)) })
      (statement names x (beside private sorts numbers pairs log t)) _
      (statement_goes x l lb lc (cy ++ p) f.0 (part l lx (omega arith) (omega arith) ob) (part l lx (omega arith) (omega arith) oc) record { is = λ k lo hi. lacks-append k cy p (fresh_statement y d (l + lx) lb lc k (before k (l + lx) ly hi)) (clear.is k lo (omega (arith, hi))) }
      record { is = λ k t lo hi. reach.is k t lo (omega (arith, hi)) ∙ seek_spelled k ((cx ++ cy) ++ p) (cx ++ (cy ++ p)) t e }
      numbers pairs log t n a ln))
  statement_goes (If c x y) l lb lc p f ob oc clear reach =
      let cc = code c d (l + 2) in
      let ly = l + 2 + labels c in
      let lx = l + 2 + labels c + labels_of y in
      let nx = labels_of x in
      let ny = labels_of y in
      let cy = code_of y d ly lb lc in
      let cx = code_of x d lx lb lc in
      let px = s.Label (l + 1) ∷ p in
      let py = s.Jump (l + 1) ∷ s.Label l ∷ (cx ++ px) in
      let from = (cc ++ (s.JumpIf d l ∷ (cy ++ (s.Jump (l + 1) ∷ s.Label l ∷ (cx ++ (s.Label (l + 1) ∷ [])))))) ++ p in
      let to = cc ++ (s.JumpIf d l ∷ (cy ++ py)) in
      let e : from ≡ to = simp append_assoc in
      let bb : lb ≢ l + 1 = own (l + 1) (omega arith) (omega arith) ob in
      let bc : lc ≢ l + 1 = own (l + 1) (omega arith) (omega arith) oc in
      let bb0 : lb ≢ l = own l (omega arith) (omega arith) ob in
      let bc0 : lc ≢ l = own l (omega arith) (omega arith) oc in
      let past = λ (k : ℕ) (u : T) (h0 : k ≢ l) (h1 : k ≢ l + 1) (h : IsOutside k lx nx). seek_over k (s.Label l ∷ cx) px u (h0, fresh_statement x d lx lb lc k h) ∙ seek_over k (s.Label (l + 1) ∷ []) p u (h1, tt) in
      λ numbers pairs log t n a ln.
      spelled p lb lc n from to t _ e
      (number_goes p lb lc n (l + 2) c (s.JumpIf d l ∷ (cy ++ py)) (λ v. choose v (statement names x) (statement names y)) f.0 numbers pairs log t a ln
      (λ v numbers pairs log u a at lu lt.
      choose_goes p lb lc v n l (statement names x) (statement names y) (beside private sorts numbers pairs log u) u (cy ++ py) at
      (by_way p lb lc (statement names x (beside private sorts numbers pairs log u)) _ _ (ap (Fin n) (seek_over l cy py u (fresh_statement y d ly lb lc l (before l ly ny (omega arith))) ∙ seek_here l (cx ++ px) u))
      (rename px p lb lc (statement names x (beside private sorts numbers pairs log u)) _ (λ v. refl) (λ v. seek_over lb (s.Label (l + 1) ∷ []) p v (bb, tt)) (λ v. seek_over lc (s.Label (l + 1) ∷ []) p v (bc, tt))
      (statement_goes x lx lb lc px f.1 (part lx nx (omega arith) (omega arith) ob) (part lx nx (omega arith) (omega arith) oc) record { is = λ k lo hi. (unlike k (l + 1) (omega (arith, lo)), clear.is k (omega (arith, lo)) (omega (arith, hi))) }
      record { is = λ k t lo hi. reach.is k t (omega (arith, lo)) (omega (arith, hi)) ∙ seek_spelled k from to t e ∙ seek_over k cc (s.JumpIf d l ∷ (cy ++ py)) t (fresh c d (l + 2) k (behind k (l + 2) (labels c) (omega (arith, lo)))) ∙ seek_over k cy py t (fresh_statement y d ly lb lc k (behind k ly ny lo)) ∙ seek_over k (s.Label l ∷ []) (cx ++ px) t (unlike k l (omega (arith, lo)), tt) }
      numbers pairs log u n a lu)))
      (rename py p lb lc (statement names y (beside private sorts numbers pairs log u)) _
      (λ v. seek_over (l + 1) (s.Label l ∷ cx) px v (unlike (l + 1) l (omega arith), fresh_statement x d lx lb lc (l + 1) (before (l + 1) lx nx (omega arith))) ∙ seek_here (l + 1) p v)
      (λ v. past lb v bb0 bb (part lx nx (omega arith) (omega arith) ob)) (λ v. past lc v bc0 bc (part lx nx (omega arith) (omega arith) oc))
      (statement_goes y ly lb lc py f.2 (part ly ny (omega arith) (omega arith) ob) (part ly ny (omega arith) (omega arith) oc)
      record { is = λ k lo hi. (unlike k l (omega (arith, lo)), lacks-append k cx px (fresh_statement x d lx lb lc k (before k lx nx hi)) (unlike k (l + 1) (omega (arith, lo)), clear.is k (omega (arith, lo)) (omega (arith, hi)))) }
      record { is = λ k t lo hi. reach.is k t (omega (arith, lo)) (omega (arith, hi)) ∙ seek_spelled k from to t e ∙ seek_over k cc (s.JumpIf d l ∷ (cy ++ py)) t (fresh c d (l + 2) k (behind k (l + 2) (labels c) lo)) }
      numbers pairs log u n a lu))))
  statement_goes (While c x) l lb lc p f ob oc clear reach =
      let cl = l + 3 in
      let sl = l + 3 + labels c in
      let nx = labels_of x in
      let cc = code c d cl in
      let cs = code_of x d sl (l + 1) l in
      let tail = s.Jump l ∷ s.Label (l + 1) ∷ p in
      let inner = s.JumpIf d (l + 2) ∷ s.Jump (l + 1) ∷ s.Label (l + 2) ∷ (cs ++ tail) in
      let from = (s.Label l ∷ (cc ++ (s.JumpIf d (l + 2) ∷ s.Jump (l + 1) ∷ s.Label (l + 2) ∷ (cs ++ (s.Jump l ∷ s.Label (l + 1) ∷ []))))) ++ p in
      let to = s.Label l ∷ (cc ++ inner) in
      let e : from ≡ to = simp append_assoc in
      let top = λ (t : T). reach.is l t (omega arith) (omega arith) ∙ seek_spelled l from to t e ∙ seek_here l (cc ++ inner) t in
      let gone = λ (u : T). seek_past l (s.Label (l + 1) ∷ p) u (unlike_below l (l + 1) (omega arith), clear.is l (omega arith) (omega arith)) in
      λ numbers pairs log t n a ln.
      spelled p lb lc n from to t _ e
      (loop_goes p lb lc l cl c cs tail top f.0 (statement names x) (pure tt) l
      (λ u. seek_over (l + 1) (s.Label (l + 2) ∷ cs) tail u (unlike_below (l + 1) (l + 2) (omega arith), fresh_statement x d sl (l + 1) l (l + 1) (before (l + 1) sl nx (omega arith))) ∙ seek_here (l + 1) p u)
      (λ u. seek_here (l + 2) (cs ++ tail) u)
      (λ u. seek_here (l + 1) p u)
      (λ u. refl)
      (fewer-statement names few x)
      (statement_goes x sl (l + 1) l tail f.1 (before (l + 1) sl nx (omega arith)) (before l sl nx (omega arith)) record { is = λ k lo hi. (unlike k (l + 1) (omega (arith, lo)), clear.is k (omega (arith, lo)) (omega (arith, hi))) }
      record { is = λ k t lo hi. reach.is k t (omega (arith, lo)) (omega (arith, hi)) ∙ seek_spelled k from to t e ∙ seek_over k (s.Label l ∷ cc) inner t (unlike k l (omega (arith, lo)), fresh c d cl k (behind k cl (labels c) lo)) ∙ seek_over k (s.Label (l + 2) ∷ []) (cs ++ tail) t (unlike k (l + 2) (omega (arith, lo)), tt) })
      (λ m go again numbers pairs log u n a le ln. by_way p lb lc (go (beside private sorts numbers pairs log u)) _ _ (ap (Fin n) (gone u)) (again numbers pairs log u n a le ln))
      t.world.turns numbers pairs log t n a (omega arith) ln)
  statement_goes (DoWhile x c) l lb lc p f ob oc clear reach =
      let cl = l + 3 in
      let sl = l + 3 + labels c in
      let nx = labels_of x in
      let cc = code c d cl in
      let cs = code_of x d sl (l + 1) (l + 2) in
      let end = s.JumpIf d l ∷ s.Label (l + 1) ∷ p in
      let tail = s.Label (l + 2) ∷ (cc ++ end) in
      let from = (s.Label l ∷ (cs ++ (s.Label (l + 2) ∷ (cc ++ (s.JumpIf d l ∷ s.Label (l + 1) ∷ []))))) ++ p in
      let to = s.Label l ∷ (cs ++ tail) in
      let e : from ≡ to = simp append_assoc in
      let top = λ (t : T). reach.is l t (omega arith) (omega arith) ∙ seek_spelled l from to t e ∙ seek_here l (cs ++ tail) t in
      λ numbers pairs log t n a ln.
      spelled p lb lc n from to t _ e
      (loop_once_goes p lb lc l cl c cs top f.1 (statement names x)
      (λ u. seek_past l (s.Label (l + 1) ∷ p) u (unlike_below l (l + 1) (omega arith), clear.is l (omega arith) (omega arith)))
      (λ u. seek_over (l + 1) (s.Label (l + 2) ∷ cc) end u (unlike_below (l + 1) (l + 2) (omega arith), fresh c d cl (l + 1) (before (l + 1) cl (labels c) (omega arith))) ∙ seek_here (l + 1) p u)
      (fewer-statement names few x)
      (statement_goes x sl (l + 1) (l + 2) tail f.0 (before (l + 1) sl nx (omega arith)) (before (l + 2) sl nx (omega arith))
      record { is = λ k lo hi. (unlike k (l + 2) (omega (arith, lo)), lacks-append k cc end (fresh c d cl k (behind k cl (labels c) lo)) (unlike k (l + 1) (omega (arith, lo)), clear.is k (omega (arith, lo)) (omega (arith, hi)))) }
      record { is = λ k t lo hi. reach.is k t (omega (arith, lo)) (omega (arith, hi)) ∙ seek_spelled k from to t e ∙ seek_over k (s.Label l ∷ []) (cs ++ tail) t (unlike k l (omega (arith, lo)), tt) })
      t.world.turns numbers pairs log t n a (omega arith) ln)
  statement_goes (For c w x) l lb lc p f ob oc clear reach =
      let cl = l + 4 in
      let sl = l + 4 + labels c in
      let wl = l + 4 + labels c + labels_of x in
      let nx = labels_of x in
      let nw = labels_effect w in
      let cc = code c d cl in
      let cw = code_effect w d wl in
      let cs = code_of x d sl (l + 1) (l + 3) in
      let end = s.Jump l ∷ s.Label (l + 1) ∷ p in
      let tail = s.Label (l + 3) ∷ (cw ++ end) in
      let inner = s.JumpIf d (l + 2) ∷ s.Jump (l + 1) ∷ s.Label (l + 2) ∷ (cs ++ tail) in
      let from = (s.Label l ∷ (cc ++ (s.JumpIf d (l + 2) ∷ s.Jump (l + 1) ∷ s.Label (l + 2) ∷ (cs ++ (s.Label (l + 3) ∷ (cw ++ (s.Jump l ∷ s.Label (l + 1) ∷ []))))))) ++ p in
      let to = s.Label l ∷ (cc ++ inner) in
      let e : from ≡ to = simp append_assoc in
      let top = λ (t : T). reach.is l t (omega arith) (omega arith) ∙ seek_spelled l from to t e ∙ seek_here l (cc ++ inner) t in
      let gone = λ (u : T). seek_past l (s.Label (l + 1) ∷ p) u (unlike_below l (l + 1) (omega arith), clear.is l (omega arith) (omega arith)) in
      let out = λ (u : T). seek_over (l + 1) (s.Label (l + 3) ∷ cw) end u (unlike_below (l + 1) (l + 3) (omega arith), fresh_effect w d wl (l + 1) (before (l + 1) wl nw (omega arith))) ∙ seek_here (l + 1) p u in
      λ numbers pairs log t n a ln.
      spelled p lb lc n from to t _ e
      (loop_goes p lb lc l cl c cs tail top f.0 (statement names x) (effect names w) (l + 3)
      (λ u. seek_over (l + 1) (s.Label (l + 2) ∷ cs) tail u (unlike_below (l + 1) (l + 2) (omega arith), fresh_statement x d sl (l + 1) (l + 3) (l + 1) (before (l + 1) sl nx (omega arith))) ∙ out u)
      (λ u. seek_here (l + 2) (cs ++ tail) u)
      out
      (λ u. seek_here (l + 3) (cw ++ end) u)
      (fewer-statement names few x)
      (statement_goes x sl (l + 1) (l + 3) tail f.2 (before (l + 1) sl nx (omega arith)) (before (l + 3) sl nx (omega arith))
      record { is = λ k lo hi. (unlike k (l + 3) (omega (arith, lo)), lacks-append k cw end (fresh_effect w d wl k (before k wl nw hi)) (unlike k (l + 1) (omega (arith, lo)), clear.is k (omega (arith, lo)) (omega (arith, hi)))) }
      record { is = λ k t lo hi. reach.is k t (omega (arith, lo)) (omega (arith, hi)) ∙ seek_spelled k from to t e ∙ seek_over k (s.Label l ∷ cc) inner t (unlike k l (omega (arith, lo)), fresh c d cl k (behind k cl (labels c) lo)) ∙ seek_over k (s.Label (l + 2) ∷ []) (cs ++ tail) t (unlike k (l + 2) (omega (arith, lo)), tt) })
      (λ m go again numbers pairs log u n a le ln.
      effect_goes p lb lc n wl w end go f.1 numbers pairs log u a ln
      (λ numbers pairs log u a lu lt. by_way p lb lc (go (beside private sorts numbers pairs log u)) _ _ (ap (Fin n) (gone u)) (again numbers pairs log u n a (omega (arith, lt, le)) lu)))
      t.world.turns numbers pairs log t n a (omega arith) ln)
  statement_goes Break l lb lc p f ob oc clear reach = λ numbers pairs log t n a ln. record { u = t; n = n; is = refl; w = refl; agree = a; left = ln }
  statement_goes Continue l lb lc p f ob oc clear reach = λ numbers pairs log t n a ln. record { u = t; n = n; is = refl; w = refl; agree = a; left = ln }
  statement_goes Return l lb lc p f ob oc clear reach = λ numbers pairs log t n a ln. refl
  statement_goes (ReturnNumber e) l lb lc p f ob oc clear reach = λ numbers pairs log t n a ln.
      spelled p lb lc n ((code e d l ++ (s.Give (Some d) None ∷ [])) ++ p) (code e d l ++ (s.Give (Some d) None ∷ p)) t _ (append_assoc (code e d l) (s.Give (Some d) None ∷ []) p)
      (number_goes p lb lc n l e (s.Give (Some d) None ∷ p) (λ v. pure (Returned (OfNumber v))) f numbers pairs log t a ln (λ v numbers pairs log u a at lu lt. ap (λ r. Fin n (and_then r (pass symbols p))) (read_number _ at)))
  statement_goes (ReturnPtr e) l lb lc p f ob oc clear reach = λ numbers pairs log t n a ln.
      spelled p lb lc n ((code_ptr e d l ++ (s.Give (Some d) (Some (d + 1)) ∷ [])) ++ p) (code_ptr e d l ++ (s.Give (Some d) (Some (d + 1)) ∷ p)) t _ (append_assoc (code_ptr e d l) (s.Give (Some d) (Some (d + 1)) ∷ []) p)
      (pointer_goes p lb lc n l e (s.Give (Some d) (Some (d + 1)) ∷ p) (λ v. pure (Returned (OfPointer v))) f numbers pairs log t a ln (λ v numbers pairs log u a at at_b lu. ap (λ r. Fin n (and_then r (pass symbols p))) (read_number _ at ∙ read_bounds _ at_b)))
