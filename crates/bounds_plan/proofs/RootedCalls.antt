-- Statements, functions and programs: all bounds keep their roots.
use Rattle.std.proofs.Common.{sym, ap, ℕ, zero, suc, ◌+◌, ◌-◌, ◌≡◌, refl, ◌∙◌, subst, cond, nat_lt, List, [], ◌∷◌, ◌++◌, Option, Some, None, Bool, true, false}
use Rattle.std.specs.Prelude.{slice_index_or}
use Rattle.std.specs.List.{list_any}
use Rattle.mx_base.specs.declared.limits.Bounds.{Bounds as BoundsPair}
use Rattle.mx_base.specs.declared.numbers.IntKind.{IntKind}
use Rattle.mx_base.specs.Numbers.{size_of}
use Rattle.mx_base.specs.Bounds.{full_bounds, moved, bounds_at}
use Rattle.mx_base.specs.Regions.{data_stack}
use Rattle.mx_base.specs.StopOfC.{OutOfTurns, StackOver}
use Rattle.mx_base.specs.Memory.{Bytes}
use Rattle.mx_base.specs.BoundsStore.{Kept}
use Rattle.mx_base.specs.World.{World, Access, Traced, Log, world_at_start, empty_log, FullBy, UnsetPointer, NoReturn}
use Rattle.fat_ir.specs.Calls.{with_turns, with_data_sp}
use Rattle.fat_ir.specs.Functions.{Target, OfC, Outside}
use Rattle.bounds_plan.specs.meaning.Core.{Scalar, Effect, Nothing, OfNumber as ForNumber, OfPointer as ForPointer, CopyStruct, Statement, Skip, Do, Then, If, While, DoWhile, For, Break, Continue, Return, ReturnNumber, ReturnPtr}
use Rattle.bounds_plan.specs.meaning.State.{Pointer, Passed, OfNumber, OfPointer, State, Ended, Done, Stopped, M, bind, ◌>>=◌, ◌>>◌, pure, stop, full_by, with_made, with_cause, set_variable_ptr}
use Rattle.bounds_plan.specs.meaning.Accesses.{judge, allow, read_number, write_number, read_pointer, write_pointer}
use Rattle.bounds_plan.specs.meaning.Expressions.{Answer, Comes, Stops, CalleeOfC, Names as NamesOf, choose, number, pointer, in_frame, pointer_passed, number_passed}
use Rattle.bounds_plan.specs.meaning.Statements.{part, copy_scalar, copy_scalars, effect, turn_from, turn, Flow, Normal, Broke, Continued, Returned, Left, after_body, round, loop, round_once, loop_once, after_first, statement}
use Rattle.bounds_plan.specs.meaning.Functions.{Parameter, Private, Framed, Framed_variable, FunctionOfC, arrive, arrive_all, made_in_frame, unset, state_at_entry, result_of, answer_of, body_run, returning, Linked, call_of, names_of, entered_at, calls, exited, program_run}
use Rattle.bounds_plan.specs.meaning.Functions.{turn_from as world_turn_from}
use Rattle.bounds_plan.specs.laws.Laws.{passes_on, Leaves, LeftOutside, Judged, accesses_of, AllWithin, CopiesWhole}
use Rattle.bounds_plan.proofs.Worlds.{judged-calls}
use Rattle.fat_ir.specs.Laws.{NoneRefused}
use Rattle.fat_ir.specs.Functions.{most_depth}
use Rattle.bounds_plan.specs.steps.Compiled.{sorts_of}
use Rattle.bounds_plan.specs.laws.Roots.{RunsWithin, HasRoot, AllRooted, LogGrows, PassedHasRoot, AllHaveRoots, LeavesRooted, RootedCalls, RootedOutside, StandsIn, NamesEffect, NamesStatement, ObjectMade, IsFramed, ParametersFramed, AllMade}
use Rattle.bounds_plan.proofs.Roots.{stands-later, stands-last, grows-same, grows-join, has-later, passed-later, all-passed-later, cause-stands, cause-grows, made-grows, rooted-later}
use Rattle.bounds_plan.proofs.Rooted.{Numbers, Units, Points, Inv, From, Good, after, world-on, numbers-on, good-full, good-frame, good-judge, good-allow, good-read, good-write, good-read-pointer, good-write-pointer, good-set, good-passed, good-choose, good-number, good-pointer}

abbrev Flows : Log → Flow → Type 0
Flows l Normal = Unit {0}
Flows l Broke = Unit {0}
Flows l Continued = Unit {0}
Flows l (Returned v) = PassedHasRoot l v
Flows l Left = Unit {0}

module _ (start : List BoundsPair) (variables : List Framed_variable) (sorts : ℕ → Bool) (sp : ℕ) where
  abbrev I : State → Type 0
  I s = Inv start variables sorts sp s

  abbrev Fr : {A : Type 0} → (Log → A → Type 0) → State → Ended A → Type 0
  Fr Q s r = From start variables sorts sp Q s r

  abbrev G : {A : Type 0} → (Log → A → Type 0) → M A → Type 0
  G Q m = Good start variables sorts sp Q m

  then : {A B : Type 0} (Q : Log → A → Type 0) (P : Log → B → Type 0) (s : State) (r : Ended A) (go : A → M B) → Fr Q s r → ((v : A) (z : State) → I z → LogGrows s.log z.log → Q z.log v → Fr P z (go v z)) → Fr P s (bind r go)
  then = after start variables sorts sp

  -- ---- structs

  good-scalar : (kind : Option IntKind) (to from : Pointer) (s : State) → I s → Points s.log to → Points s.log from → Fr Units s (copy_scalar kind to from s)
  good-scalar (Some kind) to from s i ht hf = good-allow start variables sorts sp Units false (size_of kind) from (read_number kind from >>= (λ n. allow true (size_of kind) to >> write_number kind to n)) s i
      (then Numbers Units s (read_number kind from s) (λ n. allow true (size_of kind) to >> write_number kind to n) (good-read start variables sorts sp kind from s i hf)
      (λ n z i g q. good-allow start variables sorts sp Units true (size_of kind) to (write_number kind to n) z i (good-write start variables sorts sp kind to n z i (has-later s.log z.log g to.rooted ht))))
  good-scalar None to from s i ht hf = good-allow start variables sorts sp Units false 8 from (read_pointer from >>= (λ v. allow true 8 to >> write_pointer to v)) s i
      (then Points Units s (read_pointer from s) (λ v. allow true 8 to >> write_pointer to v) (good-read-pointer start variables sorts sp from s i hf)
      (λ v z i g q. good-allow start variables sorts sp Units true 8 to (write_pointer to v) z i (good-write-pointer start variables sorts sp to v z i (has-later s.log z.log g to.rooted ht) q)))

  good-scalars : (scalars : List Scalar) (to from : Pointer) (s : State) → I s → Points s.log to → Points s.log from → Fr Units s (copy_scalars scalars to from s)
  good-scalars [] to from s i ht hf = (i, grows-same s.log, tt)
  good-scalars (x ∷ rest) to from s i ht hf = then Units Units s (copy_scalar x.kind (part x.offset to) (part x.offset from) s) (λ u. copy_scalars rest to from) (good-scalar x.kind (part x.offset to) (part x.offset from) s i ht hf)
      (λ u z i g q. good-scalars rest to from z i (has-later s.log z.log g to.rooted ht) (has-later s.log z.log g from.rooted hf))

  -- ---- turns and loops

  turned : (n : ℕ) → G Units (turn_from n)
  turned zero s i = (i.rooted, grows-same s.log)
  turned (suc n) s i = (world-on start variables sorts sp s (with_turns n s.world) (λ g. refl) refl i, grows-same s.log, tt)

  good-turn : G Units turn
  good-turn s i = turned s.world.turns s i

  out-of-turns : G Flows (stop OutOfTurns)
  out-of-turns s i = (i.rooted, grows-same s.log)

  good-after-body : (f : Flow) (go : M Flow) (s : State) → I s → Flows s.log f → Fr Flows s (go s) → Fr Flows s (after_body f go s)
  good-after-body Normal go s i q h = h
  good-after-body Continued go s i q h = h
  good-after-body Broke go s i q h = (i, grows-same s.log, tt)
  good-after-body (Returned v) go s i q h = (i, grows-same s.log, q)
  good-after-body Left go s i q h = (i, grows-same s.log, tt)

  good-round : (test : M ℕ) (body : M Flow) (step : M (Unit {0})) (again : M Flow) → G Numbers test → G Flows body → G Units step → G Flows again → G Flows (round test body step again)
  good-round test body step again ht hb hs ha s i = then Numbers Flows s (test s) (λ x. choose x (body >>= (λ f. after_body f (step >> again))) (pure Normal)) (ht s i) (λ x z i g q.
      good-choose start variables sorts sp Flows x (body >>= (λ f. after_body f (step >> again))) (pure Normal) z
      (then Flows Flows z (body z) (λ f. after_body f (step >> again)) (hb z i) (λ f y i g q. good-after-body f (step >> again) y i q (then Units Flows y (step y) (λ u. again) (hs y i) (λ u k i g q. ha k i))))
      (i, grows-same z.log, tt))

  turn-first : (go : M Flow) → G Flows go → G Flows (turn >> go)
  turn-first go h s i = then Units Flows s (turn s) (λ u. go) (good-turn s i) (λ u z i g q. h z i)

  good-loop : (room : ℕ) (test : M ℕ) (body : M Flow) (step : M (Unit {0})) → G Numbers test → G Flows body → G Units step → G Flows (loop room test body step)
  good-loop zero test body step ht hb hs = good-round test body step (stop OutOfTurns) ht hb hs out-of-turns
  good-loop (suc room) test body step ht hb hs = good-round test body step (turn >> loop room test body step) ht hb hs (turn-first (loop room test body step) (good-loop room test body step ht hb hs))

  good-round-once : (body : M Flow) (test : M ℕ) (again : M Flow) → G Flows body → G Numbers test → G Flows again → G Flows (round_once body test again)
  good-round-once body test again hb ht ha s i = then Flows Flows s (body s) (λ f. after_body f (test >>= (λ x. choose x again (pure Normal)))) (hb s i) (λ f z i g q.
      good-after-body f (test >>= (λ x. choose x again (pure Normal))) z i q
      (then Numbers Flows z (test z) (λ x. choose x again (pure Normal)) (ht z i) (λ x y i g q. good-choose start variables sorts sp Flows x again (pure Normal) y (ha y i) (i, grows-same y.log, tt))))

  good-loop-once : (room : ℕ) (body : M Flow) (test : M ℕ) → G Flows body → G Numbers test → G Flows (loop_once room body test)
  good-loop-once zero body test hb ht = good-round-once body test (stop OutOfTurns) hb ht out-of-turns
  good-loop-once (suc room) body test hb ht = good-round-once body test (turn >> loop_once room body test) hb ht (turn-first (loop_once room body test) (good-loop-once room body test hb ht))

  good-after-first : (f : Flow) (go : M Flow) (s : State) → I s → Flows s.log f → Fr Flows s (go s) → Fr Flows s (after_first f go s)
  good-after-first Normal go s i q h = h
  good-after-first Broke go s i q h = (i, grows-same s.log, tt)
  good-after-first Continued go s i q h = (i, grows-same s.log, tt)
  good-after-first (Returned v) go s i q h = (i, grows-same s.log, q)
  good-after-first Left go s i q h = (i, grows-same s.log, tt)

  -- ---- statements

  module _ (names : NamesOf) (below : RootedCalls start names.call) where
    abbrev S : ℕ → ℕ → ℕ → Type 0
    S symbol offset size = ObjectMade start (names.located symbol) offset size

    abbrev F : ℕ → ℕ → Type 0
    F offset size = IsFramed variables offset size

    abbrev P : ℕ → Type 0
    P x = sorts (x + 1) ≡ true

    good-effect : (e : Effect) → NamesEffect S F P e → G Units (effect names e)
    good-effect Nothing f s i = (i, grows-same s.log, tt)
    good-effect (ForNumber e) f s i = then Numbers Units s (number names e s) (λ n. pure tt) (good-number start variables sorts sp names below e f s i) (λ n z i g q. (i, grows-same z.log, tt))
    good-effect (ForPointer e) f s i = then Points Units s (pointer names e s) (λ p. pure tt) (good-pointer start variables sorts sp names below e f s i) (λ p z i g q. (i, grows-same z.log, tt))
    good-effect (CopyStruct size scalars to_place to from_place from) f s i =
        then Points Units s (pointer names to s) (λ t. pointer names from >>= (λ u. judge false size from_place (part 0 u) >> (judge true size to_place (part 0 t) >> copy_scalars scalars t u))) (good-pointer start variables sorts sp names below to f.0 s i) (λ t z i g q.
        then Points Units z (pointer names from z) (λ u. judge false size from_place (part 0 u) >> (judge true size to_place (part 0 t) >> copy_scalars scalars t u)) (good-pointer start variables sorts sp names below from f.1 z i) (λ u y i g r.
        good-judge start variables sorts sp Units false size from_place (part 0 u) (judge true size to_place (part 0 t) >> copy_scalars scalars t u) y i
        (good-judge start variables sorts sp Units true size to_place (part 0 t) (copy_scalars scalars t u) y i (good-scalars scalars t u y i (has-later z.log y.log g t.rooted q) r))))

    good-statement : (st : Statement) → NamesStatement S F P st → G Flows (statement names st)
    good-statement Skip f s i = (i, grows-same s.log, tt)
    good-statement (Do e) f s i = then Units Flows s (effect names e s) (λ u. pure Normal) (good-effect e f s i) (λ u z i g q. (i, grows-same z.log, tt))
    good-statement (Then a b) f s i = then Flows Flows s (statement names a s) (λ w. after_first w (statement names b)) (good-statement a f.0 s i) (λ w z i g q. good-after-first w (statement names b) z i q (good-statement b f.1 z i))
    good-statement (If test a b) f s i = then Numbers Flows s (number names test s) (λ x. choose x (statement names a) (statement names b)) (good-number start variables sorts sp names below test f.0 s i)
        (λ x z i g q. good-choose start variables sorts sp Flows x (statement names a) (statement names b) z (good-statement a f.1 z i) (good-statement b f.2 z i))
    good-statement (While test body) f s i = good-loop s.world.turns (number names test) (statement names body) (pure tt) (good-number start variables sorts sp names below test f.0) (good-statement body f.1) (λ z i. (i, grows-same z.log, tt)) s i
    good-statement (DoWhile body test) f s i = good-loop-once s.world.turns (statement names body) (number names test) (good-statement body f.0) (good-number start variables sorts sp names below test f.1) s i
    good-statement (For test step body) f s i = good-loop s.world.turns (number names test) (statement names body) (effect names step) (good-number start variables sorts sp names below test f.0) (good-statement body f.2) (good-effect step f.1) s i
    good-statement Break f s i = (i, grows-same s.log, tt)
    good-statement Continue f s i = (i, grows-same s.log, tt)
    good-statement Return f s i = (i, grows-same s.log, tt)
    good-statement (ReturnNumber e) f s i = then Numbers Flows s (number names e s) (λ n. pure (Returned (OfNumber n))) (good-number start variables sorts sp names below e f s i) (λ n z i g q. (i, grows-same z.log, tt))
    good-statement (ReturnPtr e) f s i = then Points Flows s (pointer names e s) (λ p. pure (Returned (OfPointer p))) (good-pointer start variables sorts sp names below e f s i) (λ p z i g q. (i, grows-same z.log, q))

  -- ---- parameters and results

  good-arrive : (p : Parameter) (v : Passed) → ParametersFramed variables (p ∷ []) → (s : State) → I s → PassedHasRoot s.log v → Fr Units s (arrive p v s)
  good-arrive (Private x (Some kind)) v f s i h = (numbers-on start variables sorts sp s _ i, grows-same s.log, tt)
  good-arrive (Private x None) v f s i h = then Points Units s (pointer_passed v s) (λ q. set_variable_ptr x q) (good-passed start variables sorts sp v s i h) (λ q z i g r. good-set start variables sorts sp x q z i r)
  good-arrive (Framed offset (Some kind)) v f s i h =
      then Points Units s (in_frame offset (size_of kind) s) (λ p. allow true (size_of kind) p >> write_number kind p (number_passed v)) (good-frame start variables sorts sp offset (size_of kind) f.0 s i)
      (λ p z i g q. good-allow start variables sorts sp Units true (size_of kind) p (write_number kind p (number_passed v)) z i (good-write start variables sorts sp kind p (number_passed v) z i q))
  good-arrive (Framed offset None) v f s i h =
      then Points Units s (in_frame offset 8 s) (λ p. pointer_passed v >>= (λ q. allow true 8 p >> write_pointer p q)) (good-frame start variables sorts sp offset 8 f.0 s i)
      (λ p z i g r. then Points Units z (pointer_passed v z) (λ q. allow true 8 p >> write_pointer p q) (good-passed start variables sorts sp v z i (passed-later s.log z.log g v h))
      (λ q y i g t. good-allow start variables sorts sp Units true 8 p (write_pointer p q) y i (good-write-pointer start variables sorts sp p q y i (has-later z.log y.log g p.rooted r) t)))

  first-framed : (p : Parameter) (ps : List Parameter) → ParametersFramed variables (p ∷ ps) → ParametersFramed variables (p ∷ []) × ParametersFramed variables ps
  first-framed (Private x kind) ps f = (tt, f)
  first-framed (Framed offset kind) ps f = ((f.0, tt), f.1)

  good-arrive-all : (ps : List Parameter) (args : List Passed) → ParametersFramed variables ps → (s : State) → I s → AllHaveRoots s.log args → Fr Units s (arrive_all ps args s)
  good-arrive-all [] args f s i h = (i, grows-same s.log, tt)
  good-arrive-all (p ∷ ps) [] f s i h = (i, grows-same s.log, tt)
  good-arrive-all (p ∷ ps) (v ∷ args) f s i h = let two = first-framed p ps f in then Units Units s (arrive p v s) (λ u. arrive_all ps args) (good-arrive p v two.0 s i h.0)
      (λ u z i g q. good-arrive-all ps args two.1 z i (all-passed-later s.log z.log g args h.1))

  good-result : (f : Flow) (s : State) → I s → Flows s.log f → Fr PassedHasRoot s (result_of f s)
  good-result (Returned v) s i q = (i, grows-same s.log, q)
  good-result Left s i q = (i, grows-same s.log, tt)
  good-result Normal s i q = then Points PassedHasRoot s (full_by NoReturn 0 s) (λ p. pure (OfPointer p)) (good-full start variables sorts sp NoReturn 0 s i) (λ p z i g q. (i, grows-same z.log, q))
  good-result Broke s i q = then Points PassedHasRoot s (full_by NoReturn 0 s) (λ p. pure (OfPointer p)) (good-full start variables sorts sp NoReturn 0 s i) (λ p z i g q. (i, grows-same z.log, q))
  good-result Continued s i q = then Points PassedHasRoot s (full_by NoReturn 0 s) (λ p. pure (OfPointer p)) (good-full start variables sorts sp NoReturn 0 s i) (λ p z i g q. (i, grows-same z.log, q))

-- ---- the log at the entry of a function

frame-grows : (sp : ℕ) (vs : List Framed_variable) (l : Log) → LogGrows l (made_in_frame sp vs l)
frame-grows sp [] l = grows-same l
frame-grows sp (v ∷ rest) l = let b = bounds_at (moved sp v.offset) v.size in grows-join l (with_made b l) (made_in_frame sp rest (with_made b l)) (made-grows l b) (frame-grows sp rest (with_made b l))

frame-trace : (sp : ℕ) (vs : List Framed_variable) (l : Log) → (made_in_frame sp vs l).trace ≡ l.trace
frame-trace sp [] l = refl
frame-trace sp (v ∷ rest) l = frame-trace sp rest (with_made (bounds_at (moved sp v.offset) v.size) l)

frame-roots : (sp : ℕ) (vs : List Framed_variable) (l : Log) → (made_in_frame sp vs l).roots ≡ l.roots
frame-roots sp [] l = refl
frame-roots sp (v ∷ rest) l = frame-roots sp rest (with_made (bounds_at (moved sp v.offset) v.size) l)

never-nil : {A B : Type 0} (before after : List A) (x : A) → [] ≡ before ++ x ∷ after → B
never-nil [] after x e = cc
never-nil (b ∷ bs) after x e = cc

frame-stands : (sp : ℕ) (vs : List Framed_variable) (l : Log) (x : Framed_variable) (before after : List Framed_variable) → vs ≡ before ++ x ∷ after → StandsIn (bounds_at (moved sp x.offset) x.size) (made_in_frame sp vs l).made
frame-stands sp [] l x before after e = never-nil before after x e
frame-stands sp (v ∷ rest) l x [] after e =
    let same : v ≡ x = cc in
    let b = bounds_at (moved sp v.offset) v.size in
    let P : Framed_variable → Type 0 = λ y. StandsIn (bounds_at (moved sp y.offset) y.size) (made_in_frame sp (v ∷ rest) l).made in
    subst P same (stands-later b (l.made ++ b ∷ []) (made_in_frame sp rest (with_made b l)).made (frame-grows sp rest (with_made b l)).made (stands-last b l.made))
frame-stands sp (v ∷ rest) l x (y ∷ before) after e = let same : rest ≡ before ++ x ∷ after = cc in frame-stands sp rest (with_made (bounds_at (moved sp v.offset) v.size) l) x before after same

either-grows : (any : Bool) (l : Log) → LogGrows l (cond any (with_cause UnsetPointer l) l)
either-grows true l = cause-grows l UnsetPointer
either-grows false l = grows-same l

either-trace : (any : Bool) (l : Log) → (cond any (with_cause UnsetPointer l) l).trace ≡ l.trace
either-trace true l = refl
either-trace false l = refl

either-roots : (any : Bool) (l : Log) → (cond any (with_cause UnsetPointer l) l).roots ≡ l.roots
either-roots true l = refl
either-roots false l = refl

either-stands : (any : Bool) (l : Log) → any ≡ true → HasRoot (cond any (with_cause UnsetPointer l) l) record { bounds = full_bounds; root = FullBy UnsetPointer }
either-stands true l e = cause-stands l UnsetPointer
either-stands false l e = absurd (cc)

any-of : (privates : List Bool) (x : ℕ) → slice_index_or privates x false ≡ true → list_any (λ b. b) privates ≡ true
any-of [] x e = absurd (cc)
any-of (true ∷ rest) x e = refl
any-of (false ∷ rest) zero e = absurd (cc)
any-of (false ∷ rest) (suc x) e = any-of rest x e

entry : (start : List BoundsPair) (f : FunctionOfC) (w : World) (l : Log) → AllRooted start w l → Inv start f.variables (sorts_of f) w.data_sp (state_at_entry f w l)
entry start f w l r =
    let any = list_any (λ b. b) f.privates in
    let m = made_in_frame w.data_sp f.variables l in
    let g = grows-join l m (unset f.privates m) (frame-grows w.data_sp f.variables l) (either-grows any m) in
    record {
      rooted = rooted-later start w w l (unset f.privates m) g (either-trace any m ∙ frame-trace w.data_sp f.variables l) (either-roots any m ∙ frame-roots w.data_sp f.variables l) (λ g. refl) r;
      pairs = λ x t. either-stands any m (any-of f.privates x t);
      frame = λ offset size h. stands-later _ m.made (unset f.privates m).made (either-grows any m).made (frame-stands w.data_sp f.variables l record { offset = offset; size = size } h.before h.after h.is);
      here = refl;
    }

entry-grows : (f : FunctionOfC) (w : World) (l : Log) → LogGrows l (state_at_entry f w l).log
entry-grows f w l = let m = made_in_frame w.data_sp f.variables l in grows-join l m (unset f.privates m) (frame-grows w.data_sp f.variables l) (either-grows (list_any (λ b. b) f.privates) m)

-- ---- functions

answered : (start : List BoundsPair) (f : FunctionOfC) (w : World) (l : Log) (z : State) (r : Ended Passed) → LogGrows l z.log → From start f.variables (sorts_of f) w.data_sp PassedHasRoot z r → LeavesRooted start w l (answer_of r)
answered start f w l z (Done v y) g h = (h.0.rooted, grows-join l z.log y.log g h.1, h.2, h.0.here)
answered start f w l z (Stopped why y) g h = (h.0, grows-join l z.log y.log g h.1)

rooted-body : (start : List BoundsPair) (names : NamesOf) → RootedCalls start names.call → (f : FunctionOfC) → ParametersFramed f.variables f.parameters
    → NamesStatement (λ symbol offset size. ObjectMade start (names.located symbol) offset size) (IsFramed f.variables) (λ x. sorts_of f (x + 1) ≡ true) f.body
    → (args : List Passed) (w : World) (l : Log) → AllRooted start w l → AllHaveRoots l args → LeavesRooted start w l (body_run names f args w l)
rooted-body start names below f framed fits args w l r h =
    let vs = f.variables in
    let sorts = sorts_of f in
    let z = state_at_entry f w l in
    let g = entry-grows f w l in
    let i = entry start f w l r in
    let rest : M Passed = statement names f.body >>= result_of in
    answered start f w l z ((arrive_all f.parameters args >> rest) z) g
    (after start vs sorts w.data_sp Units PassedHasRoot z (arrive_all f.parameters args z) (λ u. rest) (good-arrive-all start vs sorts w.data_sp f.parameters args framed z i (all-passed-later l z.log g args h))
    (λ u y i g q. after start vs sorts w.data_sp Flows PassedHasRoot y (statement names f.body y) result_of (good-statement start vs sorts w.data_sp names below f.body fits y i) (λ f x i g q. good-result start vs sorts w.data_sp f x i q)))

-- ---- calls

pub same-store : (start : List BoundsPair) (w u : World) (l : Log) → ((g : ℕ) → u.store.kept g ≡ w.store.kept g) → AllRooted start w l → AllRooted start u l
same-store start w u l e r = rooted-later start w u l l (grows-same l) refl refl e r

pub turn-taken : (start : List BoundsPair) (n : ℕ) (w base : World) (l before : Log) (go : World → Answer) → LogGrows before l → AllRooted start w l → ((n : ℕ) → LeavesRooted start base before (go (with_turns n w))) → LeavesRooted start base before (world_turn_from n w l go)
turn-taken start zero w base l before go g r h = (r, g)
turn-taken start (suc n) w base l before go g r h = h n

room-or-stop : (start : List BoundsPair) (full : Bool) (w base : World) (l before : Log) (a : Answer) → LogGrows before l → AllRooted start w l → LeavesRooted start base before a → LeavesRooted start base before (cond full (Stops StackOver w l) a)
room-or-stop start true w base l before a g r h = (r, g)
room-or-stop start false w base l before a g r h = h

gives-back : (start : List BoundsPair) (w base : World) (l before : Log) (a : Answer) → LogGrows before l → LeavesRooted start w l a → LeavesRooted start base before (returning base.data_sp a)
gives-back start w base l before (Comes v u m) g h = turn-taken start u.turns u base m before (λ x. Comes v (with_data_sp base.data_sp x) m) (grows-join before l m g h.1) h.0
    (λ n. (same-store start u (with_data_sp base.data_sp (with_turns n u)) m (λ g. refl) h.0, grows-join before l m g h.1, h.2, refl))
gives-back start w base l before (Stops why u m) g h = (h.0, grows-join before l m g h.1)

rooted-of : (start : List BoundsPair) (own other : CalleeOfC) → RootedCalls start own → RootedCalls start other → (target : Target) → RootedCalls start (λ symbol. call_of target own other)
rooted-of start own other h k (OfC f) symbol args w l r a = h f args w l r a
rooted-of start own other h k (Outside f) symbol args w l r a = k f args w l r a

pub rooted-calls : (start : List BoundsPair) (program : ℕ → Linked) → AllMade start program → (outside : CalleeOfC → CalleeOfC) → RootedOutside start outside → (depth : ℕ) → RootedCalls start (calls program outside depth)
rooted-calls start program made outside out zero f args w l r a = turn-taken start w.turns w w l l (λ u. Stops StackOver u l) (grows-same l) r (λ n. (same-store start w (with_turns n w) l (λ g. refl) r, grows-same l))
rooted-calls start program made outside out (suc depth) f args w l r a =
    let own = calls program outside depth in
    let own_rooted = rooted-calls start program made outside out depth in
    let names = names_of (program f) own (outside own) in
    let m = entered_at depth l in
    let g : LogGrows l m = record { made = (grows-same l).made; causes = (grows-same l).causes } in
    let frame = (program f).fun.frame in
    turn-taken start w.turns w w l l _ (grows-same l) r
    (λ n.
    let u = with_turns n w in
    let x = with_data_sp (u.data_sp - frame) u in
    let ru = rooted-later start w u l m g refl refl (λ g. refl) r in
    let rx = rooted-later start w x l m g refl refl (λ g. refl) r in
    room-or-stop start (nat_lt u.data_sp (data_stack.from + frame)) u w m l (returning w.data_sp (body_run names (program f).fun args x m)) g ru
    (gives-back start x w m l (body_run names (program f).fun args x m) g
    (rooted-body start names (λ symbol args w l. rooted-of start own (outside own) own_rooted (out own own_rooted) ((program f).targets symbol) symbol args w l) (program f).fun (made f).parameters (made f).body args x m rx (all-passed-later l m g args a))))

-- ---- the start, and what is outside

no-bounds : (k : Kept) → {A : Type 0} → None ≡ Some k → A
no-bounds k e = cc

pub rooted-start : (start : List BoundsPair) (bytes : Bytes) (input : List ℕ) (turns : ℕ) → AllRooted start (world_at_start bytes input turns) record empty_log { made = start }
rooted-start start bytes input turns = record { begun = (grows-same record empty_log { made = start }).made; kept = λ g k e. no-bounds k e; traced = tt }

pub rooted-passed-on : (start : List BoundsPair) → RootedOutside start passes_on
rooted-passed-on start own h g args w l r a = turn-taken start w.turns w w l l (λ u. own g args u l) (grows-same l) r (λ n. h g args (with_turns n w) l (same-store start w (with_turns n w) l (λ g. refl) r) a)

-- ---- whole runs

of-exited : (fact : World → Log → Type 0) (a : Answer) → Leaves fact a → Leaves fact (exited a)
of-exited fact (Comes v w l) h = h
of-exited fact (Stops why w l) h = h

from-start : (start : List BoundsPair) (bytes : Bytes) (input : List ℕ) (turns : ℕ) (w : World) (l : Log) → Judged (world_at_start bytes input turns) record empty_log { made = start } w l → AllRooted start w l → RunsWithin start w l
from-start start bytes input turns w l j r =
    let W : List Traced → Type 0 = λ ts. AllWithin ts in
    let R : List Access → Type 0 = λ xs. NoneRefused xs in
    let same : w.accesses ≡ accesses_of l.trace = j.accesses ∙ ap accesses_of (sym j.trace) in
    record { accesses = same; allowed = subst R (sym j.accesses) j.allowed; within = subst W (sym j.trace) j.within; rooted = r }

both-leave : (start : List BoundsPair) (bytes : Bytes) (input : List ℕ) (turns : ℕ) (a : Answer)
    → Leaves (Judged (world_at_start bytes input turns) record empty_log { made = start }) a → LeavesRooted start (world_at_start bytes input turns) record empty_log { made = start } a → Leaves (RunsWithin start) a
both-leave start bytes input turns (Comes v w l) j r = from-start start bytes input turns w l j r.0
both-leave start bytes input turns (Stops why w l) j r = from-start start bytes input turns w l j r.0

pub whole-runs : (start : List BoundsPair) (program : ℕ → Linked) → CopiesWhole program → AllMade start program → (outside : CalleeOfC → CalleeOfC) → LeftOutside Judged outside → RootedOutside start outside
    → (main : ℕ) (bytes : Bytes) (input : List ℕ) (turns : ℕ) → Leaves (RunsWithin start) (program_run program outside main (world_at_start bytes input turns) record empty_log { made = start })
whole-runs start program whole made outside judges roots main bytes input turns =
    let w = world_at_start bytes input turns in
    let l : Log = record empty_log { made = start } in
    let a = calls program outside most_depth main [] w l in
    of-exited (RunsWithin start) a (both-leave start bytes input turns a (judged-calls program whole outside judges most_depth main [] w l) (rooted-calls start program made outside roots most_depth main [] w l (rooted-start start bytes input turns) tt))
