-- How the steps of an expression follow its meaning.
use Rattle.std.proofs.Common.{ℕ, ◌+◌, ◌≡◌, ◌≤◌, ◌<◌, sym, ap, ◌∙◌, subst, List, ◌∷◌, ◌++◌, Option, Some, None, Bool, true, false, cond, ◌==◌, arith}
use Rattle.std.specs.Prelude.{◌≢◌}
use Rattle.std.proofs.lemmas.Bool.Decides.{nat_tests}
use Rattle.mx_base.specs.declared.limits.Bounds.{Bounds as BoundsPair}
use Rattle.mx_base.specs.World.{World, Log, Rooted}
use Rattle.fat_ir.specs.declared.step.FatStep.{FatStep}
use Rattle.fat_ir.specs.Values.{Held, Number, Pair, Values, with_held}
use Rattle.fat_ir.specs.Calls.{Outcome, Stops}
use Rattle.fat_ir.specs.Step.{Symbols, State as T, Next, Reached, On, Over, number_then, bounds_then, held_then, with_value, judged, stop_by, unless_refused, does}
use Rattle.fat_ir.specs.declared.step.FatStep.TheVariants.{Judge}
use Rattle.mx_base.specs.declared.places.Place.{Place as PlaceOf}
use Rattle.mx_base.specs.StopOfC.{Bounds, AtAccess}
use Rattle.mx_base.specs.Bounds.{leaving_value}
use Rattle.mx_base.specs.Access.{Refusal, refusal}
use Rattle.std.specs.Option.{option_map}
use Rattle.bounds_plan.specs.meaning.Accesses.{leaves, judge, allow}
use Rattle.fat_ir.specs.Run.{pass, and_then}
use Rattle.fat_ir.proofs.Lists.{pass-append}
use Rattle.bounds_plan.specs.meaning.State.{Pointer, State, Ended, Done, Stopped, M, bind, ◌>>◌, unless}

-- ---- values

differ : (a b : ℕ) → a ≢ b → (a == b) ≡ false
differ a b h = grind (arith, nat_tests)

alike : (a : ℕ) → (a == a) ≡ true
alike a = grind (arith, nat_tests)

pub here : (v : ℕ) (h : Held) (values : Values) → with_held v h values v ≡ h
here v h values = ap (λ b. cond b h (values v)) (alike v)

pub there : (x v : ℕ) (h : Held) (values : Values) → x ≢ v → with_held v h values x ≡ values x
there x v h values other = ap (λ b. cond b h (values x)) (differ x v other)

pub read_number : {h : Held} {n : ℕ} (go : ℕ → Reached) → h ≡ Number n → number_then h go ≡ go n
read_number go e = ap (λ x. number_then x go) e

pub read_bounds : {h : Held} {b : BoundsPair} (go : BoundsPair → Reached) → h ≡ Pair b → bounds_then h go ≡ go b
read_bounds go e = ap (λ x. bounds_then x go) e

pub read_held_number : {h : Held} {n : ℕ} (go : Held → Reached) → h ≡ Number n → held_then h go ≡ go (Number n)
read_held_number go e = ap (λ x. held_then x go) e

pub read_held_pair : {h : Held} {b : BoundsPair} (go : Held → Reached) → h ≡ Pair b → held_then h go ≡ go (Pair b)
read_held_pair go e = ap (λ x. held_then x go) e

-- one step, and then the others
pub first_step : (symbols : Symbols) (i : FatStep) (rest : List FatStep) (s u : T) → does symbols i s ≡ On Next u → pass symbols (i ∷ rest) Next s ≡ pass symbols rest Next u
first_step symbols i rest s u e = ap (λ r. and_then r (pass symbols rest)) e

pub first_stops : (symbols : Symbols) (i : FatStep) (rest : List FatStep) (s : T) (o : Outcome) → does symbols i s ≡ Over o → pass symbols (i ∷ rest) Next s ≡ Over o
first_stops symbols i rest s o e = ap (λ r. and_then r (pass symbols rest)) e

-- ---- the private variables on both sides

module _ (private : ℕ) (sorts : ℕ → Bool) where
  -- what a private variable holds
  abbrev pub home : (ℕ → ℕ) → (ℕ → Rooted) → ℕ → Held
  home numbers pairs v = cond (sorts v) (Pair (pairs v).bounds) (Number (numbers v))

  abbrev pub Agree : (ℕ → ℕ) → (ℕ → Rooted) → T → Type 0
  Agree numbers pairs t = (v : ℕ) → v < private → t.values v ≡ home numbers pairs v

  -- the temporaries below d stay
  abbrev pub Stay : ℕ → T → T → Type 0
  Stay d t u = (v : ℕ) → private ≤ v → v < d → u.values v ≡ t.values v

  -- a computation of the source and what steps reach: both done, with the same world and the same private variables, and Q of the value, or both stopped alike
  abbrev pub Sim : {A : Type 0} → (A → T → Type 0) → Ended A → Reached → Type 0
  Sim Q (Done v z) r = (u : T) × (r ≡ On Next u) × (u.world ≡ z.world) × Agree z.numbers z.pairs u × Q v u
  Sim Q (Stopped why z) r = r ≡ Over (Stops why z.world)

  -- the state of the source beside a state of the steps
  abbrev pub beside : (ℕ → ℕ) → (ℕ → Rooted) → Log → T → State
  beside numbers pairs log t = record { numbers = numbers; pairs = pairs; world = t.world; log = log }

  -- the value stands in d, and the temporaries below are as before
  abbrev pub NumberIn : ℕ → T → ℕ → T → Type 0
  NumberIn d t n u = (u.values d ≡ Number n) × Stay d t u

  abbrev pub PointerIn : ℕ → T → Pointer → T → Type 0
  PointerIn d t p u = (u.values d ≡ Number p.address) × (u.values (d + 1) ≡ Pair p.rooted.bounds) × Stay d t u

  -- a value of a temporary changes nothing that is private, and nothing below it
  pub agree_on : (numbers : ℕ → ℕ) (pairs : ℕ → Rooted) (v : ℕ) (h : Held) (u : T) → private ≤ v → Agree numbers pairs u → Agree numbers pairs (with_value v h u)
  agree_on numbers pairs v h u above a = λ x low. let other : x ≢ v = λ e. omega (arith, e, low, above) in there x v h u.values other ∙ a x low

  pub stay_on : (d : ℕ) (t u : T) (v : ℕ) (h : Held) → d ≤ v → Stay d t u → Stay d t (with_value v h u)
  stay_on d t u v h above a = λ x p low. let other : x ≢ v = λ e. omega (arith, e, low, above) in there x v h u.values other ∙ a x p low

  module _ (symbols : Symbols) where
    abbrev pub RunsTo : {A : Type 0} → (ℕ → T → A → T → Type 0) → ℕ → List FatStep → M A → Type 0
    RunsTo Q d c m = (numbers : ℕ → ℕ) (pairs : ℕ → Rooted) (log : Log) (t : T) → Agree numbers pairs t → Sim (Q d t) (m (beside numbers pairs log t)) (pass symbols c Next t)

    -- a first part, and then the rest beside the world that it left
    pub and_on : {A B : Type 0} (Q : A → T → Type 0) (P : B → T → Type 0) (res : Ended A) (c e : List FatStep) (t : T) (go : A → M B)
        → Sim Q res (pass symbols c Next t)
        → ((v : A) (numbers : ℕ → ℕ) (pairs : ℕ → Rooted) (log : Log) (u : T) → Agree numbers pairs u → Q v u → Sim P (go v (beside numbers pairs log u)) (pass symbols e Next u))
        → Sim P (bind res go) (pass symbols (c ++ e) Next t)
    and_on Q P (Done v z) c e t go h all =
        let u = h.0 in
        let S : Reached → Type 0 = λ r. Sim P (go v z) r in
        let W : World → Type 0 = λ w. Sim P (go v record { numbers = z.numbers; pairs = z.pairs; world = w; log = z.log }) (pass symbols e Next u) in
        subst S (sym (pass-append symbols c e Next t ∙ ap (λ r. and_then r (pass symbols e)) h.1)) (subst W h.2 (all v z.numbers z.pairs z.log u h.3 h.4))
    and_on Q P (Stopped why z) c e t go h all = pass-append symbols c e Next t ∙ ap (λ r. and_then r (pass symbols e)) h

    -- one step after which the rest goes on
    pub on_step : {A : Type 0} (P : A → T → Type 0) (res : Ended A) (i : FatStep) (rest : List FatStep) (s u : T) → does symbols i s ≡ On Next u → Sim P res (pass symbols rest Next u) → Sim P res (pass symbols (i ∷ rest) Next s)
    on_step P res i rest s u e h = let S : Reached → Type 0 = λ r. Sim P res r in subst S (sym (first_step symbols i rest s u e)) h

    -- a judgement on both sides
    pub judge_follows : {A : Type 0} (P : A → T → Type 0) (write : Bool) (size : ℕ) (place : PlaceOf) (p : Pointer) (go : M A) (v b : ℕ) (rest : List FatStep) (st : State) (u : T)
        → st.world ≡ u.world → u.values v ≡ Number p.address → u.values b ≡ Pair p.rooted.bounds → Sim P (go st) (pass symbols rest Next u)
        → Sim P ((judge write size place p >> go) st) (pass symbols (Judge v size b write place ∷ rest) Next u)
    judge_follows P write size place p go v b rest st u same at_v at_b h =
        let S : Reached → Type 0 = λ r. Sim P ((judge write size place p >> go) st) r in
        subst S (sym (ap (λ r. and_then r (pass symbols rest)) (read_number _ at_v ∙ read_bounds _ at_b)))
        (by_cases (leaving_value p.address size p.rooted.bounds) h)
      where
        by_cases : (o : Option ℕ) → Sim P (go st) (pass symbols rest Next u) → Sim P ((unless (leaves p.rooted.bounds record { place = place; write = write; size = size } o) >> go) st) (and_then (judged o p.rooted.bounds record { place = place; write = write; size = size } u) (pass symbols rest))
        by_cases None h = h
        by_cases (Some x) h = ap (λ w. Over (Stops (Bounds x p.rooted.bounds (AtAccess record { place = place; write = write; size = size })) w)) (sym same)

    -- an access on both sides, refused or done
    pub allow_follows : {A : Type 0} (P : A → T → Type 0) (write : Bool) (size : ℕ) (p : Pointer) (go : M A) (i : FatStep) (rest : List FatStep) (st : State) (u : T) (done : Reached)
        → st.world ≡ u.world → does symbols i u ≡ unless_refused (refusal write size p.address) u done → Sim P (go st) (and_then done (pass symbols rest))
        → Sim P ((allow write size p >> go) st) (pass symbols (i ∷ rest) Next u)
    allow_follows P write size p go i rest st u done same e h =
        let S : Reached → Type 0 = λ r. Sim P ((allow write size p >> go) st) r in
        subst S (sym (ap (λ r. and_then r (pass symbols rest)) e)) (by_cases (refusal write size p.address) h)
      where
        by_cases : (o : Option Refusal) → Sim P (go st) (and_then done (pass symbols rest)) → Sim P ((unless (option_map stop_by o) >> go) st) (and_then (unless_refused o u done) (pass symbols rest))
        by_cases None h = h
        by_cases (Some why) h = ap (λ w. Over (Stops (stop_by why) w)) (sym same)
