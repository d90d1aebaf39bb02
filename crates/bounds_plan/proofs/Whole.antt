-- The steps of a body do what the body does.
use Rattle.std.proofs.Common.{ℕ, ◌≡◌, ◌≤◌, refl, ap, ◌∙◌, List, [], ◌∷◌, ◌++◌, Bool, arith}
use Rattle.mx_base.specs.World.{World}
use Rattle.fat_ir.specs.declared.step.FatStep.{FatStep}
use Rattle.fat_ir.specs.declared.step.FatStep.TheVariants as s
use Rattle.fat_ir.specs.Calls.{Outcome, Comes as ComesBack}
use Rattle.fat_ir.specs.Values.{Values}
use Rattle.fat_ir.specs.Step.{Symbols, State as T, Next}
use Rattle.fat_ir.specs.Run.{followed, run_to, steps_run, no_value}
use Rattle.fat_ir.proofs.Lists.{pass-here}
use Rattle.bounds_plan.specs.meaning.Core.{Statement}
use Rattle.bounds_plan.specs.meaning.State.{State, Ended, Done, Stopped, bind, ◌>>=◌}
use Rattle.bounds_plan.specs.meaning.Expressions.{Names}
use Rattle.bounds_plan.specs.meaning.Statements.{Flow, Normal, Broke, Continued, Returned, Left, statement}
use Rattle.bounds_plan.specs.meaning.Functions.{result_of, answer_of}
use Rattle.bounds_plan.specs.steps.Code.{code_of}
use Rattle.bounds_plan.specs.laws.Laws.{LeftByCalls, NoMoreTurns}
use Rattle.bounds_plan.specs.steps.Follows.{FitsStatement, outcome_of, DoesSame, Holds, StandsSame, body_run_by_steps, body_run_in_c}
use Rattle.bounds_plan.proofs.Flows.{Goes, statement_goes}

pub body_ends : (private : ℕ) (sorts : ℕ → Bool) (symbols : Symbols) (names : Names) (takes : ℕ → ℕ) (same_place : (x : ℕ) → symbols.located x ≡ names.located x) (same : DoesSame takes names.call symbols.call) (few : LeftByCalls NoMoreTurns names.call) (d : ℕ) (above : private ≤ d) (body : List FatStep) (res : Ended Flow) (r : Outcome)
    → Goes private sorts symbols names takes same_place same few d above body (s.Label 0 ∷ []) 0 0 res r → r ≡ outcome_of (answer_of (bind res result_of))
body_ends private sorts symbols names takes same_place same few d above body (Done Normal z) r h = h.is ∙ ap (λ (w : World). ComesBack no_value w) h.w
body_ends private sorts symbols names takes same_place same few d above body (Done Broke z) r h = h.is ∙ ap (followed private (run_to symbols private body h.n)) (pass-here symbols [] 0 h.u) ∙ ap (λ (w : World). ComesBack no_value w) h.w
body_ends private sorts symbols names takes same_place same few d above body (Done Continued z) r h = h.is ∙ ap (followed private (run_to symbols private body h.n)) (pass-here symbols [] 0 h.u) ∙ ap (λ (w : World). ComesBack no_value w) h.w
body_ends private sorts symbols names takes same_place same few d above body (Done (Returned v) z) r h = h
body_ends private sorts symbols names takes same_place same few d above body (Done Left z) r h = h
body_ends private sorts symbols names takes same_place same few d above body (Stopped why z) r h = h

-- the body of a function, over any meaning of the functions that it calls
body_does : (private : ℕ) (sorts : ℕ → Bool) (takes : ℕ → ℕ) (symbols : Symbols) (names : Names) → ((x : ℕ) → symbols.located x ≡ names.located x) → DoesSame takes names.call symbols.call → LeftByCalls NoMoreTurns names.call
    → (d : ℕ) → private ≤ d → (st : Statement) → FitsStatement private sorts takes st → (z : State) (values : Values) → Holds private sorts z values
    → steps_run symbols private (code_of st d 1 0 0 ++ (s.Label 0 ∷ [])) Next record { values = values; world = z.world } ≡ outcome_of (answer_of ((statement names st >>= result_of) z))
body_does private sorts takes symbols names same_place same few d above st fits z values holds =
    let body = code_of st d 1 0 0 ++ (s.Label 0 ∷ []) in
    let t : T = record { values = values; world = z.world } in
    body_ends private sorts symbols names takes same_place same few d above body (statement names st z) _
    (statement_goes private sorts symbols names takes same_place same few d above body st 1 0 0 (s.Label 0 ∷ []) fits record { is = λ h. absurd (omega (arith, h)) } record { is = λ h. absurd (omega (arith, h)) }
    record { is = λ k lo hi. (λ e. omega (arith, e, lo), tt) } record { is = λ k u lo hi. refl } z.numbers z.pairs z.log t z.world.turns holds (omega arith))

pub bodies_follow : (names : Names) (symbols : Symbols) (takes : ℕ → ℕ) → StandsSame names symbols → DoesSame takes names.call symbols.call → LeftByCalls NoMoreTurns names.call
    → (private : ℕ) (is_bounds : ℕ → Bool) (body : Statement) → FitsStatement private is_bounds takes body → (temp : ℕ) → private ≤ temp → (state : State) (values : Values) → Holds private is_bounds state values
    → body_run_by_steps symbols private body temp values state.world ≡ outcome_of (body_run_in_c names body state)
bodies_follow names symbols takes same_place same few private is_bounds body fits temp above state values holds = body_does private is_bounds takes symbols names same_place same few temp above body fits state values holds
