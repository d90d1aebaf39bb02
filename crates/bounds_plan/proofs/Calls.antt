-- The steps of a function do what the function does, and those of a program what the program does.
use Rattle.std.proofs.Common.{ℕ, zero, suc, ◌+◌, ◌-◌, ◌%◌, ◌≡◌, ◌≤◌, ◌<◌, refl, sym, ap, ◌∙◌, subst, length, List, [], ◌∷◌, ◌++◌, append_assoc, Bool, true, false, cond, nat_lt, arith}
use Rattle.std.specs.Prelude.{◌≢◌, slice_index_or}
use Rattle.std.proofs.lemmas.Bool.Decides.{nat_tests}
use Rattle.std.proofs.lemmas.List.{get_or_append_left}
use Rattle.mx_base.specs.Bounds.{full_bounds}
use Rattle.mx_base.specs.Regions.{data_stack}
use Rattle.mx_base.specs.StopOfC.{StackOver, Exit}
use Rattle.mx_base.specs.World.{World, Log, empty_log, FullBy, UnsetPointer}
use Rattle.fat_ir.specs.declared.step.FatStep.TheVariants as s
use Rattle.fat_ir.specs.Values.{Nothing, Values}
use Rattle.fat_ir.specs.Calls.{Callee, Outcome, Comes as ComesBack, Stops as StopsAt, Stuck, with_turns, with_data_sp, turn_from as fat_turn_from, taking_turn as fat_taking_turn, entering as fat_entering, returning as fat_returning}
use Rattle.fat_ir.specs.Step.{Symbols, State as T, Next, To, Reached}
use Rattle.fat_ir.specs.Run.{pass, and_then, followed, run_to}
use Rattle.fat_ir.specs.Functions.{Target, OfC, Outside, unset as unset_value, values_at_entry, call_of as fat_call_of, symbols_of, calls as fat_calls, exited as fat_exited, program_run as fat_program_run, most_depth}
use Rattle.fat_ir.specs.Laws.{passes_on as fat_passes_on}
use Rattle.fat_ir.proofs.Lists.{pass-append, pass-over}
use Rattle.bounds_plan.specs.meaning.State.{Passed, State, Ended, Done, Stopped, bind}
use Rattle.bounds_plan.specs.meaning.Expressions.{Answer, Comes, Stops, CalleeOfC, Names}
use Rattle.bounds_plan.specs.meaning.Statements.{statement}
use Rattle.bounds_plan.specs.meaning.Functions.{FunctionOfC, arrive_all, state_at_entry, result_of, answer_of, body_run, turn_from, taking_turn, entering, returning, Linked, call_of, names_of, entered_at, calls, exited, program_run}
use Rattle.bounds_plan.specs.steps.Code.{code_of, arrivals, arrived, in_turn, most_pairs, fat_parameters, fat_function}
use Rattle.bounds_plan.specs.laws.Laws.{LeftByCalls, LeftOutside, NoMoreTurns, passes_on}
use Rattle.bounds_plan.specs.steps.Follows.{outcome_of, values_of, value_of, DoesSame, StandsSame}
use Rattle.bounds_plan.specs.steps.Compiled.{sorts_of, FitsFunction, function_run_by_steps, compiled, all_compiled, parameters_of, taken_by, FitsProgram, OutsideSame}
use Rattle.bounds_plan.proofs.Worlds.{Fewer, fewer-calls, fewer-arrive}
use Rattle.bounds_plan.proofs.Sim.{Agree, Sim, beside}
use Rattle.bounds_plan.proofs.Effects.{Anything}
use Rattle.bounds_plan.proofs.Flows.{statement_goes}
use Rattle.bounds_plan.proofs.Entry.{unlabelled, arrivals_follow, agree_in, waits_in, passed-number}
use Rattle.bounds_plan.proofs.Whole.{body_ends}

-- ---- a function

low_test : (v n : ℕ) → v < n → nat_lt v n ≡ true
low_test v n h = grind (arith, nat_tests, h)

-- what each value is before the parameters arrive
abbrev before : FunctionOfC → Values
before f = λ v. cond (nat_lt v (length f.privates)) (unset_value (slice_index_or (f.privates ++ arrived f.parameters ++ in_turn most_pairs) v false)) Nothing

unset_agree : (f : FunctionOfC) (w : World) → Agree (length f.privates) (sorts_of f) (λ x. 0) (λ x. record { bounds = full_bounds; root = FullBy UnsetPointer }) record { values = before f; world = w }
unset_agree f w = λ v low. ap (λ b. cond b (unset_value (slice_index_or (f.privates ++ arrived f.parameters ++ in_turn most_pairs) v false)) Nothing) (low_test v (length f.privates) low)
    ∙ ap (λ (xs : List Bool). unset_value (slice_index_or xs v false)) (append_assoc f.privates (arrived f.parameters) (in_turn most_pairs))
    ∙ ap (λ b. unset_value b) (get_or_append_left f.privates (arrived f.parameters ++ in_turn most_pairs) false v low)

-- after the parameters the body runs
body_after : (names : Names) (symbols : Symbols) (takes : ℕ → ℕ) (same_place : (x : ℕ) → symbols.located x ≡ names.located x) (same : DoesSame takes names.call symbols.call) (few : LeftByCalls NoMoreTurns names.call)
    → (f : FunctionOfC) → FitsFunction takes f → (z : State) (res : Ended (Unit {0})) (r : Reached) → Fewer z res → Sim (length f.privates) (sorts_of f) Anything res r
    → let base = length f.privates + length (arrived f.parameters) in
    let code = code_of f.body base 1 0 0 ++ (s.Label 0 ∷ []) in
    followed (length f.privates) (run_to symbols (length f.privates) (arrivals f.parameters (length f.privates) base ++ code) z.world.turns) (and_then r (pass symbols code)) ≡ outcome_of (answer_of (bind res (λ x s. bind (statement names f.body s) result_of)))
body_after names symbols takes same_place same few f fits z (Done v y) r kept h =
    let private = length f.privates in
    let sorts = sorts_of f in
    let base = private + length (arrived f.parameters) in
    let code = code_of f.body base 1 0 0 ++ (s.Label 0 ∷ []) in
    let arr = arrivals f.parameters private base in
    let above : private ≤ base = omega arith in
    let n = z.world.turns in
    let u = h.0 in
    let fin = λ (x : Reached). followed private (run_to symbols private (arr ++ code) n) x in
    let e : u.world.turns ≡ y.world.turns = ap (λ (x : World). x.turns) h.2 in
    let le : y.world.turns ≤ n = kept in
    let W : World → Type 0 = λ x. fin (pass symbols code Next u) ≡ outcome_of (answer_of (bind (statement names f.body record { numbers = y.numbers; pairs = y.pairs; world = x; log = y.log }) result_of)) in
    ap (λ x. fin (and_then x (pass symbols code))) h.1
    ∙ subst W h.2 (body_ends private sorts symbols names takes same_place same few base above (arr ++ code) (statement names f.body (beside private sorts y.numbers y.pairs y.log u)) (fin (pass symbols code Next u))
    (statement_goes private sorts symbols names takes same_place same few base above (arr ++ code) f.body 1 0 0 (s.Label 0 ∷ []) fits.body record { is = λ h. absurd (omega (arith, h)) } record { is = λ h. absurd (omega (arith, h)) }
    record { is = λ k lo hi. (λ e. omega (arith, e, lo), tt) }
    record { is = λ k u lo hi. pass-append symbols arr code (To k) u ∙ ap (λ x. and_then x (pass symbols code)) (pass-over symbols arr k u (unlabelled f.parameters private base k)) }
    y.numbers y.pairs y.log u n h.3 (omega (arith, e, le))))
body_after names symbols takes same_place same few f fits z (Stopped why y) r kept h =
    let private = length f.privates in
    let base = private + length (arrived f.parameters) in
    let code = code_of f.body base 1 0 0 ++ (s.Label 0 ∷ []) in
    ap (λ x. followed private (run_to symbols private (arrivals f.parameters private base ++ code) z.world.turns) (and_then x (pass symbols code))) h

pub functions_follow : (names : Names) (symbols : Symbols) (takes : ℕ → ℕ) → StandsSame names symbols → DoesSame takes names.call symbols.call → LeftByCalls NoMoreTurns names.call
    → (f : FunctionOfC) → FitsFunction takes f → (name : ℕ) (args : List Passed) → length args ≡ length f.parameters → (w : World) (log : Log)
    → function_run_by_steps symbols (fat_function name f) (fat_parameters f.parameters) (values_of args) w ≡ outcome_of (body_run names f args w log)
functions_follow names symbols takes same_place same few f fits name args count w log =
    let private = length f.privates in
    let sorts = sorts_of f in
    let base = private + length (arrived f.parameters) in
    let code = code_of f.body base 1 0 0 ++ (s.Label 0 ∷ []) in
    let arr = arrivals f.parameters private base in
    let z = state_at_entry f w log in
    let t : T = record { values = values_at_entry (fat_function name f) (fat_parameters f.parameters) (values_of args); world = w } in
    let above : private ≤ base = omega arith in
    let first : Sim private sorts Anything (arrive_all f.parameters args z) (pass symbols arr Next t) =
    arrivals_follow private sorts symbols f.parameters args private base above (omega arith) count z.numbers z.pairs z.log t
    (agree_in private sorts symbols w f.parameters args 0 private fits.parameters (omega arith) z.numbers z.pairs (before f) (unset_agree f w))
    (waits_in private sorts symbols w f.parameters args 0 private (before f) fits.parameters (omega arith)) in
    ap (followed private (run_to symbols private (arr ++ code) w.turns)) (pass-append symbols arr code Next t)
    ∙ body_after names symbols takes same_place same few f fits z (arrive_all f.parameters args z) (pass symbols arr Next t) (fewer-arrive f.parameters args z) first

-- ---- calls

turns_same : (n : ℕ) (w : World) (log : Log) (go : World → Answer) (fat : World → Outcome) → ((u : World) → fat u ≡ outcome_of (go u)) → fat_turn_from n w fat ≡ outcome_of (turn_from n w log go)
turns_same zero w log go fat h = refl
turns_same (suc n) w log go fat h = h (with_turns n w)

pub taking_same : (w : World) (log : Log) (go : World → Answer) (fat : World → Outcome) → ((u : World) → fat u ≡ outcome_of (go u)) → fat_taking_turn w fat ≡ outcome_of (taking_turn w log go)
taking_same w log go fat h = turns_same w.turns w log go fat h

full_same : (full : Bool) (w : World) (log : Log) (a : Answer) (o : Outcome) → o ≡ outcome_of a → cond full (StopsAt StackOver w) o ≡ outcome_of (cond full (Stops StackOver w log) a)
full_same true w log a o h = refl
full_same false w log a o h = h

entering_same : (frame : ℕ) (w : World) (log : Log) (go : World → Answer) (fat : World → Outcome) → ((u : World) → fat u ≡ outcome_of (go u)) → fat_entering frame w fat ≡ outcome_of (entering frame w log go)
entering_same frame w log go fat h = full_same (nat_lt w.data_sp (data_stack.from + frame)) w log (go (with_data_sp (w.data_sp - frame) w)) (fat (with_data_sp (w.data_sp - frame) w)) (h (with_data_sp (w.data_sp - frame) w))

returning_cases : (sp : ℕ) (a : Answer) → fat_returning sp (outcome_of a) ≡ outcome_of (returning sp a)
returning_cases sp (Comes v w log) = taking_same w log (λ u. Comes v (with_data_sp sp u) log) (λ u. ComesBack (value_of v) (with_data_sp sp u)) (λ u. refl)
returning_cases sp (Stops why w log) = refl

returning_same : (sp : ℕ) (a : Answer) (o : Outcome) → o ≡ outcome_of a → fat_returning sp o ≡ outcome_of (returning sp a)
returning_same sp a o e = ap (fat_returning sp) e ∙ returning_cases sp a

call_same : (takes other : ℕ → ℕ) (own out : CalleeOfC) (fat by_steps : Callee) → DoesSame takes own fat → DoesSame other out by_steps → (target : Target) (args : List Passed) (w : World) (log : Log) → length args ≡ taken_by takes other target
    → fat_call_of target fat by_steps (values_of args) w ≡ outcome_of (call_of target own out args w log)
call_same takes other own out fat by_steps h g (OfC f) args w log count = h f args w log count
call_same takes other own out fat by_steps h g (Outside f) args w log count = g f args w log count

few_of : (own out : CalleeOfC) → LeftByCalls NoMoreTurns own → LeftByCalls NoMoreTurns out → (target : Target) → LeftByCalls NoMoreTurns (λ symbol. call_of target own out)
few_of own out h g (OfC f) symbol args w log = h f args w log
few_of own out h g (Outside f) symbol args w log = g f args w log

pub calls_follow : (takes_outside : ℕ → ℕ) (program : ℕ → Linked) → FitsProgram takes_outside program → (outside : CalleeOfC → CalleeOfC) (by_steps : Callee → Callee)
    → OutsideSame (parameters_of program) takes_outside outside by_steps → LeftOutside NoMoreTurns outside
    → (name : ℕ → ℕ) (depth : ℕ) → DoesSame (parameters_of program) (calls program outside depth) (fat_calls (all_compiled name program) by_steps depth)
calls_follow takes_outside program fits outside by_steps out few name zero f args w log count = taking_same w log (λ u. Stops StackOver u log) (λ u. StopsAt StackOver u) (λ u. refl)
calls_follow takes_outside program fits outside by_steps out few name (suc depth) f args w log count =
    let own = calls program outside depth in
    let fat = fat_calls (all_compiled name program) by_steps depth in
    let own_few = fewer-calls program outside few depth in
    let own_same = calls_follow takes_outside program fits outside by_steps out few name depth in
    let names = names_of (program f) own (outside own) in
    let symbols = symbols_of (compiled (name f) (program f)) fat (by_steps fat) in
    let takes : ℕ → ℕ = λ symbol. taken_by (parameters_of program) takes_outside ((program f).targets symbol) in
    let same : DoesSame takes names.call symbols.call = λ symbol args w log count. call_same (parameters_of program) takes_outside own (outside own) fat (by_steps fat) own_same (out own fat own_same own_few) ((program f).targets symbol) args w log count in
    let symbols_few : LeftByCalls NoMoreTurns names.call = λ symbol args w log. few_of own (outside own) own_few (few own own_few) ((program f).targets symbol) symbol args w log in
    taking_same w log _ _
    (λ u. entering_same (program f).fun.frame u (entered_at depth log) _ _
    (λ x. returning_same u.data_sp (body_run names (program f).fun args x (entered_at depth log)) _
    (functions_follow names symbols takes (λ symbol. refl) same symbols_few (program f).fun (fits f) (name f) args count x (entered_at depth log))))

exited_cases : (a : Answer) → fat_exited (outcome_of a) ≡ outcome_of (exited a)
exited_cases (Comes v w log) = ap (λ n. StopsAt (Exit (n % 256)) w) (passed-number v)
exited_cases (Stops why w log) = refl

pub programs_follow : (takes_outside : ℕ → ℕ) (program : ℕ → Linked) → FitsProgram takes_outside program → (outside : CalleeOfC → CalleeOfC) (by_steps : Callee → Callee)
    → OutsideSame (parameters_of program) takes_outside outside by_steps → LeftOutside NoMoreTurns outside
    → (name : ℕ → ℕ) (main : ℕ) → parameters_of program main ≡ 0 → (w : World) (log : Log) → fat_program_run (all_compiled name program) by_steps main w ≡ outcome_of (program_run program outside main w log)
programs_follow takes_outside program fits outside by_steps out few name main none w log =
    ap fat_exited (calls_follow takes_outside program fits outside by_steps out few name most_depth main [] w log (sym none)) ∙ exited_cases (calls program outside most_depth main [] w log)

-- ---- what steps never come to, and what decides nothing

never_stuck : (a : Answer) → outcome_of a ≢ Stuck
never_stuck (Comes v w log) e = cc
never_stuck (Stops why w log) e = cc

pub functions_not_stuck : (names : Names) (symbols : Symbols) (takes : ℕ → ℕ) → StandsSame names symbols → DoesSame takes names.call symbols.call → LeftByCalls NoMoreTurns names.call
    → (f : FunctionOfC) → FitsFunction takes f → (name : ℕ) (args : List Passed) → length args ≡ length f.parameters → (w : World)
    → function_run_by_steps symbols (fat_function name f) (fat_parameters f.parameters) (values_of args) w ≢ Stuck
functions_not_stuck names symbols takes same_place same few f fits name args count w e =
    never_stuck (body_run names f args w empty_log) (sym (functions_follow names symbols takes same_place same few f fits name args count w empty_log) ∙ e)

values-length : (vs : List Passed) → length (values_of vs) ≡ length vs
values-length [] = refl
values-length (v ∷ vs) = ap suc (values-length vs)

pub log_apart : (takes_outside : ℕ → ℕ) (program : ℕ → Linked) → FitsProgram takes_outside program → (outside : CalleeOfC → CalleeOfC) (by_steps : Callee → Callee)
    → OutsideSame (parameters_of program) takes_outside outside by_steps → LeftOutside NoMoreTurns outside
    → (depth f : ℕ) (args others : List Passed) → length args ≡ parameters_of program f → values_of args ≡ values_of others → (w : World) (l m : Log) → outcome_of (calls program outside depth f args w l) ≡ outcome_of (calls program outside depth f others w m)
log_apart takes_outside program fits outside by_steps out few depth f args others count same w l m =
    let fat = fat_calls (all_compiled (λ n. n) program) by_steps depth in
    let count_of : length others ≡ parameters_of program f = sym (values-length others) ∙ ap length (sym same) ∙ values-length args ∙ count in
    sym (calls_follow takes_outside program fits outside by_steps out few (λ n. n) depth f args w l count) ∙ ap (λ vs. fat f vs w) same ∙ calls_follow takes_outside program fits outside by_steps out few (λ n. n) depth f others w m count_of

-- ---- what is outside

pub passed_on : (takes : ℕ → ℕ) → OutsideSame takes takes passes_on fat_passes_on
passed_on takes own fat same few g args w log count = taking_same w log (λ u. own g args u log) (λ u. fat g (values_of args) u) (λ u. same g args u log count)
