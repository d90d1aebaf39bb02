-- The parameters of a function arrive alike in steps and in C.
use Rattle.std.proofs.Common.{ℕ, ◌+◌, ◌≡◌, ◌≤◌, ◌<◌, refl, sym, ap, ◌∙◌, subst, length, List, [], ◌∷◌, Some, None, Bool, true, false, arith, Result, Ok, Err}
use Rattle.std.specs.Prelude.{◌≢◌}
use Rattle.mx_base.specs.declared.numbers.IntKind.{IntKind}
use Rattle.mx_base.specs.Numbers.{size_of}
use Rattle.mx_base.specs.Bounds.{full_bounds, moved, bounds_at}
use Rattle.mx_base.specs.World.{World, Log, Rooted, Root, MadeAt, FullBy, FromInteger as WasInteger, pointer_written, number_written}
use Rattle.fat_ir.specs.declared.step.FatStep.{FatStep}
use Rattle.fat_ir.specs.declared.step.FatStep.TheVariants as s
use Rattle.fat_ir.specs.Values.{Held, Number, Pair, Values, with_held}
use Rattle.fat_ir.specs.Step.{Symbols, State as T, Next, Reached, with_number, with_pair, with_world, number_stored, pointer_went}
use Rattle.fat_ir.specs.Run.{pass, and_then}
use Rattle.fat_ir.specs.Functions.{arrived_in}
use Rattle.fat_ir.specs.Laws.{LacksLabel}
use Rattle.bounds_plan.specs.meaning.State.{Pointer, Passed, OfNumber, OfPointer, Ended, Done, Stopped, M, bind, ◌>>◌, stored, with_cause, place_of}
use Rattle.bounds_plan.specs.meaning.Accesses.{allow, access, write_number, went, write_pointer}
use Rattle.bounds_plan.specs.meaning.Expressions.{number_passed}
use Rattle.bounds_plan.specs.meaning.Functions.{Parameter, Private, Framed, arrive_all}
use Rattle.bounds_plan.specs.steps.Code.{arrivals, arrived, fat_parameters}
use Rattle.bounds_plan.specs.steps.Follows.{value_of, values_of}
use Rattle.bounds_plan.specs.steps.Compiled.{ParametersStand}
use Rattle.bounds_plan.proofs.Sim.{here, there, read_number, read_bounds, Agree, Sim, beside, agree_on, on_step, allow_follows}
use Rattle.bounds_plan.proofs.Pieces.{agree_set, agree_set_pair, under}
use Rattle.bounds_plan.proofs.Effects.{Anything}

-- ---- what stands where once all have arrived

abbrev pub rooted_of : Passed → Rooted
rooted_of (OfNumber n) = record { bounds = full_bounds; root = FullBy WasInteger }
rooted_of (OfPointer p) = p.rooted

abbrev pub numbers_in : List Parameter → List Passed → (ℕ → ℕ) → ℕ → ℕ
numbers_in [] args numbers = numbers
numbers_in (p ∷ ps) [] numbers = numbers
numbers_in (Private x kind ∷ ps) (v ∷ args) numbers = numbers_in ps args (stored numbers x (number_passed v))
numbers_in (Framed offset kind ∷ ps) (v ∷ args) numbers = numbers_in ps args numbers

abbrev pub pairs_in : List Parameter → List Passed → (ℕ → Rooted) → ℕ → Rooted
pairs_in [] args pairs = pairs
pairs_in (p ∷ ps) [] pairs = pairs
pairs_in (Private x (Some kind) ∷ ps) (v ∷ args) pairs = pairs_in ps args pairs
pairs_in (Private x None ∷ ps) (v ∷ args) pairs = pairs_in ps args (stored pairs (x + 1) (rooted_of v))
pairs_in (Framed offset kind ∷ ps) (v ∷ args) pairs = pairs_in ps args pairs

-- the arguments that are written to the frame wait in temporaries
abbrev pub Waits : List Parameter → List Passed → (temp : ℕ) → Values → Type 0
Waits [] args temp values = Unit {0}
Waits (p ∷ ps) [] temp values = Unit {0}
Waits (Private x kind ∷ ps) (v ∷ args) temp values = Waits ps args temp values
Waits (Framed offset (Some kind) ∷ ps) (v ∷ args) temp values = (values temp ≡ Number (number_passed v)) × Waits ps args (temp + 1) values
Waits (Framed offset None ∷ ps) (v ∷ args) temp values = (values temp ≡ Number (number_passed v)) × (values (temp + 1) ≡ Pair (rooted_of v).bounds) × Waits ps args (temp + 2) values

waits_on : (ps : List Parameter) (args : List Passed) (temp v : ℕ) (h : Held) (values : Values) → temp + length (arrived ps) ≤ v → Waits ps args temp values → Waits ps args temp (with_held v h values)
waits_on [] args temp v h values le w = tt
waits_on (p ∷ ps) [] temp v h values le w = tt
waits_on (Private x kind ∷ ps) (a ∷ args) temp v h values le w = waits_on ps args temp v h values le w
waits_on (Framed offset (Some kind) ∷ ps) (a ∷ args) temp v h values le w =
    let other : temp ≢ v = λ e. omega (arith, e, le) in
    (there temp v h values other ∙ w.0, waits_on ps args (temp + 1) v h values (omega (arith, le)) w.1)
waits_on (Framed offset None ∷ ps) (a ∷ args) temp v h values le w =
    let other : temp ≢ v = λ e. omega (arith, e, le) in
    let other_1 : temp + 1 ≢ v = λ e. omega (arith, e, le) in
    (there temp v h values other ∙ w.0, there (temp + 1) v h values other_1 ∙ w.1, waits_on ps args (temp + 2) v h values (omega (arith, le)) w.2)

pub unlabelled : (ps : List Parameter) (t d k : ℕ) → LacksLabel k (arrivals ps t d)
unlabelled [] t d k = tt
unlabelled (Private x kind ∷ ps) t d k = unlabelled ps t d k
unlabelled (Framed offset (Some kind) ∷ ps) t d k = unlabelled ps (t + 1) d k
unlabelled (Framed offset None ∷ ps) t d k = unlabelled ps (t + 2) d k

-- a computation in three parts
bound_twice : {A B C : Type 0} (r : Ended A) (f : A → M B) (g : B → M C) → bind (bind r f) g ≡ bind r (λ v s. bind (f v s) g)
bound_twice (Done v s) f g = refl
bound_twice (Stopped why s) f g = refl

module _ (private : ℕ) (sorts : ℕ → Bool) (symbols : Symbols) where
  abbrev Ends : Ended (Unit {0}) → Reached → Type 0
  Ends res r = Sim private sorts Anything res r

  went_on : (p : Pointer) (root : Root) (r : Result World World) (go : M (Unit {0})) (rest : List FatStep) (numbers : ℕ → ℕ) (pairs : ℕ → Rooted) (w : World) (log : Log) (u : T)
      → ((x : World) (after : Log) → Ends (go record { numbers = numbers; pairs = pairs; world = x; log = after }) (pass symbols rest Next (with_world x u)))
      → Ends (bind (went p root r record { numbers = numbers; pairs = pairs; world = w; log = log }) (λ x. go)) (and_then (pointer_went r u) (pass symbols rest))
  went_on p root (Ok x) go rest numbers pairs w log u h = h x _
  went_on p root (Err x) go rest numbers pairs w log u h = refl

  abbrev Follows : List Parameter → List Passed → (temp d : ℕ) → Type 0
  Follows ps args temp d = (numbers : ℕ → ℕ) (pairs : ℕ → Rooted) (log : Log) (t : T) → Agree private sorts (numbers_in ps args numbers) (pairs_in ps args pairs) t → Waits ps args temp t.values
      → Ends (arrive_all ps args (beside private sorts numbers pairs log t)) (pass symbols (arrivals ps temp d) Next t)

  -- a number is written to the frame, and then the rest
  number_arrives : (offset : ℕ) (kind : IntKind) (v : Passed) (ps : List Parameter) (args : List Passed) (temp d : ℕ) → private ≤ d → temp + 1 + length (arrived ps) ≤ d → Follows ps args (temp + 1) d → Follows (Framed offset (Some kind) ∷ ps) (v ∷ args) temp d
  number_arrives offset kind v ps args temp d above le all numbers pairs log t a w =
      let at = moved t.world.data_sp offset in
      let b = bounds_at at (size_of kind) in
      let p : Pointer = record { address = at; rooted = record { bounds = b; root = MadeAt (place_of b log.made) } } in
      let n = number_passed v in
      let u1 = with_number d at t in
      let u2 = with_pair (d + 1) b u1 in
      let st = beside private sorts numbers pairs log t in
      let rest = arrivals ps (temp + 1) d in
      let goes : M (Unit {0}) = write_number kind p n >> arrive_all ps args in
      let S : Ended (Unit {0}) → Type 0 = λ x. Ends x (pass symbols (s.Place d (d + 1) None offset (size_of kind) ∷ s.Store d temp kind ∷ rest) Next t) in
      let at_d : u2.values d ≡ Number at = under private sorts symbols d (d + 1) (Pair b) (Number at) u1 (omega arith) (here d (Number at) t.values) in
      let at_t : u2.values temp ≡ Number n = under private sorts symbols temp (d + 1) (Pair b) (Number n) u1 (omega (arith, le)) (under private sorts symbols temp d (Number at) (Number n) t (omega (arith, le)) w.0) in
      subst S (sym (bound_twice (allow true (size_of kind) p st) (λ x. write_number kind p n) (λ x. arrive_all ps args)))
      (on_step private sorts symbols Anything ((allow true (size_of kind) p >> goes) st) (s.Place d (d + 1) None offset (size_of kind)) (s.Store d temp kind ∷ rest) t u2 refl
      (allow_follows private sorts symbols Anything true (size_of kind) p goes (s.Store d temp kind) rest st u2 (number_stored at n kind u2) refl (read_number _ at_d ∙ read_number _ at_t)
      (all numbers pairs _ (with_world (number_written (size_of kind) u2.world at n) u2)
      (agree_on private sorts (numbers_in ps args numbers) (pairs_in ps args pairs) (d + 1) (Pair b) u1 (omega (arith, above)) (agree_on private sorts (numbers_in ps args numbers) (pairs_in ps args pairs) d (Number at) t above a))
      (waits_on ps args (temp + 1) (d + 1) (Pair b) u1.values (omega (arith, le)) (waits_on ps args (temp + 1) d (Number at) t.values le w.1)))))

  -- a pointer is written to the frame, and then the rest; `log` has what its conversion left
  pointer_arrives : (offset : ℕ) (q : Pointer) (ps : List Parameter) (args : List Passed) (temp d : ℕ) → private ≤ d → temp + 2 + length (arrived ps) ≤ d → Follows ps args (temp + 2) d
      → (numbers : ℕ → ℕ) (pairs : ℕ → Rooted) (log before : Log) (t : T) → Agree private sorts (numbers_in ps args numbers) (pairs_in ps args pairs) t
      → t.values temp ≡ Number q.address → t.values (temp + 1) ≡ Pair q.rooted.bounds → Waits ps args (temp + 2) t.values
      → let at = moved t.world.data_sp offset in let p : Pointer = record { address = at; rooted = record { bounds = bounds_at at 8; root = MadeAt (place_of (bounds_at at 8) before.made) } } in
      Ends (bind ((allow true 8 p >> write_pointer p q) (beside private sorts numbers pairs log t)) (λ x. arrive_all ps args)) (pass symbols (s.Place d (d + 1) None offset 8 ∷ s.StorePtr d temp (temp + 1) ∷ arrivals ps (temp + 2) d) Next t)
  pointer_arrives offset q ps args temp d above le all numbers pairs log before t a at_n at_b w =
      let at = moved t.world.data_sp offset in
      let b = bounds_at at 8 in
      let p : Pointer = record { address = at; rooted = record { bounds = b; root = MadeAt (place_of b before.made) } } in
      let u1 = with_number d at t in
      let u2 = with_pair (d + 1) b u1 in
      let st = beside private sorts numbers pairs log t in
      let rest = arrivals ps (temp + 2) d in
      let goes : M (Unit {0}) = write_pointer p q >> arrive_all ps args in
      let S : Ended (Unit {0}) → Type 0 = λ x. Ends x (pass symbols (s.Place d (d + 1) None offset 8 ∷ s.StorePtr d temp (temp + 1) ∷ rest) Next t) in
      let at_d : u2.values d ≡ Number at = under private sorts symbols d (d + 1) (Pair b) (Number at) u1 (omega arith) (here d (Number at) t.values) in
      let at_t : u2.values temp ≡ Number q.address = under private sorts symbols temp (d + 1) (Pair b) (Number q.address) u1 (omega (arith, le)) (under private sorts symbols temp d (Number at) (Number q.address) t (omega (arith, le)) at_n) in
      let at_u : u2.values (temp + 1) ≡ Pair q.rooted.bounds = under private sorts symbols (temp + 1) (d + 1) (Pair b) (Pair q.rooted.bounds) u1 (omega (arith, le)) (under private sorts symbols (temp + 1) d (Number at) (Pair q.rooted.bounds) t (omega (arith, le)) at_b) in
      subst S (sym (bound_twice (allow true 8 p st) (λ x. write_pointer p q) (λ x. arrive_all ps args)))
      (on_step private sorts symbols Anything ((allow true 8 p >> goes) st) (s.Place d (d + 1) None offset 8) (s.StorePtr d temp (temp + 1) ∷ rest) t u2 refl
      (allow_follows private sorts symbols Anything true 8 p goes (s.StorePtr d temp (temp + 1)) rest st u2 (pointer_went (pointer_written u2.world at q.address q.rooted.bounds) u2) refl (read_number _ at_d ∙ read_number _ at_t ∙ read_bounds _ at_u)
      (went_on p q.rooted.root (pointer_written u2.world at q.address q.rooted.bounds) (arrive_all ps args) rest numbers pairs u2.world (access true 8 p log) u2
      (λ x after. all numbers pairs after (with_world x u2)
      (agree_on private sorts (numbers_in ps args numbers) (pairs_in ps args pairs) (d + 1) (Pair b) u1 (omega (arith, above)) (agree_on private sorts (numbers_in ps args numbers) (pairs_in ps args pairs) d (Number at) t above a))
      (waits_on ps args (temp + 2) (d + 1) (Pair b) u1.values (omega (arith, le)) (waits_on ps args (temp + 2) d (Number at) t.values le w))))))

  -- the steps at the entry of a function do what the arrival of its parameters does
  pub arrivals_follow : (ps : List Parameter) (args : List Passed) (temp d : ℕ) → private ≤ d → temp + length (arrived ps) ≤ d → length args ≡ length ps → Follows ps args temp d
  arrivals_follow [] args temp d above le count = λ numbers pairs log t a w. (t, refl, refl, a, tt)
  arrivals_follow (p ∷ ps) [] temp d above le count = λ numbers pairs log t a w. absurd (omega (arith, count))
  arrivals_follow (Private x (Some kind) ∷ ps) (v ∷ args) temp d above le count = λ numbers pairs log t a w. arrivals_follow ps args temp d above le (omega (arith, count)) (stored numbers x (number_passed v)) pairs log t a w
  arrivals_follow (Private x None ∷ ps) (OfNumber n ∷ args) temp d above le count = λ numbers pairs log t a w.
      arrivals_follow ps args temp d above le (omega (arith, count)) (stored numbers x n) (stored pairs (x + 1) (rooted_of (OfNumber n))) (with_cause WasInteger log) t a w
  arrivals_follow (Private x None ∷ ps) (OfPointer q ∷ args) temp d above le count = λ numbers pairs log t a w.
      arrivals_follow ps args temp d above le (omega (arith, count)) (stored numbers x q.address) (stored pairs (x + 1) q.rooted) log t a w
  arrivals_follow (Framed offset (Some kind) ∷ ps) (v ∷ args) temp d above le count =
      number_arrives offset kind v ps args temp d above (omega (arith, le)) (arrivals_follow ps args (temp + 1) d above (omega (arith, le)) (omega (arith, count)))
  arrivals_follow (Framed offset None ∷ ps) (OfNumber n ∷ args) temp d above le count = λ numbers pairs log t a w.
      pointer_arrives offset record { address = n; rooted = rooted_of (OfNumber n) } ps args temp d above (omega (arith, le)) (arrivals_follow ps args (temp + 2) d above (omega (arith, le)) (omega (arith, count)))
      numbers pairs (with_cause WasInteger log) log t a w.0 w.1 w.2
  arrivals_follow (Framed offset None ∷ ps) (OfPointer q ∷ args) temp d above le count = λ numbers pairs log t a w.
      pointer_arrives offset q ps args temp d above (omega (arith, le)) (arrivals_follow ps args (temp + 2) d above (omega (arith, le)) (omega (arith, count))) numbers pairs log log t a w.0 w.1 w.2

-- ---- the values at the entry

pub passed-number : (v : Passed) → (value_of v).number ≡ number_passed v
passed-number (OfNumber n) = refl
passed-number (OfPointer p) = refl

passed-bounds : (v : Passed) → (value_of v).bounds ≡ (rooted_of v).bounds
passed-bounds (OfNumber n) = refl
passed-bounds (OfPointer p) = refl

module _ (private : ℕ) (sorts : ℕ → Bool) (symbols : Symbols) (w : World) where
  abbrev In : Values → T
  In values = record { values = values; world = w }

  abbrev After : (home temp : ℕ) → List Parameter → List Passed → Values → Values
  After home temp ps args values = arrived_in home temp (fat_parameters ps) (values_of args) values

  -- a private number, and a private pointer, is set
  one_set : (numbers : ℕ → ℕ) (pairs : ℕ → Rooted) (x home : ℕ) (v : Passed) (values : Values) → x ≡ home → sorts x ≡ false → Agree private sorts numbers pairs (In values)
      → Agree private sorts (stored numbers x (number_passed v)) pairs (In (with_held home (Number (value_of v).number) values))
  one_set numbers pairs x home v values e sort a =
      let A : ℕ → ℕ → Type 0 = λ k n. Agree private sorts (stored numbers x (number_passed v)) pairs (In (with_held k (Number n) values)) in
      subst (λ n. A home n) (sym (passed-number v)) (subst (λ k. A k (number_passed v)) e (agree_set private sorts symbols numbers pairs x (number_passed v) (In values) sort a))

  two_set : (numbers : ℕ → ℕ) (pairs : ℕ → Rooted) (x home : ℕ) (v : Passed) (values : Values) → x ≡ home → sorts x ≡ false → sorts (x + 1) ≡ true → Agree private sorts numbers pairs (In values)
      → Agree private sorts (stored numbers x (number_passed v)) (stored pairs (x + 1) (rooted_of v)) (In (with_held (home + 1) (Pair (value_of v).bounds) (with_held home (Number (value_of v).number) values)))
  two_set numbers pairs x home v values e sort sort_1 a =
      let first = with_held home (Number (value_of v).number) values in
      let A : ℕ → _ → Type 0 = λ k b. Agree private sorts (stored numbers x (number_passed v)) (stored pairs (x + 1) (rooted_of v)) (In (with_held (k + 1) (Pair b) first)) in
      subst (λ b. A home b) (sym (passed-bounds v)) (subst (λ k. A k (rooted_of v).bounds) e (agree_set_pair private sorts symbols (stored numbers x (number_passed v)) pairs (x + 1) (rooted_of v) (In first) sort_1 (one_set numbers pairs x home v values e sort a)))

  -- the private variables are as in C
  pub agree_in : (ps : List Parameter) (args : List Passed) (home temp : ℕ) → ParametersStand private sorts home ps → private ≤ temp → (numbers : ℕ → ℕ) (pairs : ℕ → Rooted) (values : Values) → Agree private sorts numbers pairs (In values)
      → Agree private sorts (numbers_in ps args numbers) (pairs_in ps args pairs) (In (After home temp ps args values))
  agree_in [] args home temp h above numbers pairs values a = a
  agree_in (Private x (Some kind) ∷ ps) [] home temp h above numbers pairs values a = a
  agree_in (Private x None ∷ ps) [] home temp h above numbers pairs values a = a
  agree_in (Framed offset kind ∷ ps) [] home temp h above numbers pairs values a = a
  agree_in (Private x (Some kind) ∷ ps) (v ∷ args) home temp h above numbers pairs values a = agree_in ps args (home + 1) temp h.2 above (stored numbers x (number_passed v)) pairs _ (one_set numbers pairs x home v values h.0 h.1.1 a)
  agree_in (Private x None ∷ ps) (v ∷ args) home temp h above numbers pairs values a = agree_in ps args (home + 2) temp h.2 above (stored numbers x (number_passed v)) (stored pairs (x + 1) (rooted_of v)) _ (two_set numbers pairs x home v values h.0 h.1.1 h.1.2 a)
  agree_in (Framed offset (Some kind) ∷ ps) (v ∷ args) home temp h above numbers pairs values a = agree_in ps args home (temp + 1) h (omega (arith, above)) numbers pairs _ (agree_on private sorts numbers pairs temp (Number (value_of v).number) (In values) above a)
  agree_in (Framed offset None ∷ ps) (v ∷ args) home temp h above numbers pairs values a = agree_in ps args home (temp + 2) h (omega (arith, above)) numbers pairs _
      (agree_on private sorts numbers pairs (temp + 1) (Pair (value_of v).bounds) (In (with_held temp (Number (value_of v).number) values)) (omega (arith, above)) (agree_on private sorts numbers pairs temp (Number (value_of v).number) (In values) above a))

  -- temporaries of parameters that arrived before stay
  kept_in : (ps : List Parameter) (args : List Passed) (home temp v : ℕ) (values : Values) → ParametersStand private sorts home ps → private ≤ v → v < temp → After home temp ps args values v ≡ values v
  kept_in [] args home temp v values h above low = refl
  kept_in (Private x (Some kind) ∷ ps) [] home temp v values h above low = refl
  kept_in (Private x None ∷ ps) [] home temp v values h above low = refl
  kept_in (Framed offset kind ∷ ps) [] home temp v values h above low = refl
  kept_in (Private x (Some kind) ∷ ps) (a ∷ args) home temp v values h above low =
      let e = h.0 in
      let lt = h.1.0 in
      let other : v ≢ home = λ f. omega (arith, e, f, lt, above) in
      kept_in ps args (home + 1) temp v _ h.2 above low ∙ there v home (Number (value_of a).number) values other
  kept_in (Private x None ∷ ps) (a ∷ args) home temp v values h above low =
      let e = h.0 in
      let lt = h.1.0 in
      let other : v ≢ home = λ f. omega (arith, e, f, lt, above) in
      let other_1 : v ≢ home + 1 = λ f. omega (arith, e, f, lt, above) in
      kept_in ps args (home + 2) temp v _ h.2 above low ∙ there v (home + 1) (Pair (value_of a).bounds) (with_held home (Number (value_of a).number) values) other_1 ∙ there v home (Number (value_of a).number) values other
  kept_in (Framed offset (Some kind) ∷ ps) (a ∷ args) home temp v values h above low =
      let other : v ≢ temp = λ f. omega (arith, f, low) in
      kept_in ps args home (temp + 1) v _ h above (omega (arith, low)) ∙ there v temp (Number (value_of a).number) values other
  kept_in (Framed offset None ∷ ps) (a ∷ args) home temp v values h above low =
      let other : v ≢ temp = λ f. omega (arith, f, low) in
      let other_1 : v ≢ temp + 1 = λ f. omega (arith, f, low) in
      kept_in ps args home (temp + 2) v _ h above (omega (arith, low)) ∙ there v (temp + 1) (Pair (value_of a).bounds) (with_held temp (Number (value_of a).number) values) other_1 ∙ there v temp (Number (value_of a).number) values other

  -- and those that are written to the frame wait
  pub waits_in : (ps : List Parameter) (args : List Passed) (home temp : ℕ) (values : Values) → ParametersStand private sorts home ps → private ≤ temp → Waits ps args temp (After home temp ps args values)
  waits_in [] args home temp values h above = tt
  waits_in (p ∷ ps) [] home temp values h above = tt
  waits_in (Private x (Some kind) ∷ ps) (v ∷ args) home temp values h above = waits_in ps args (home + 1) temp _ h.2 above
  waits_in (Private x None ∷ ps) (v ∷ args) home temp values h above = waits_in ps args (home + 2) temp _ h.2 above
  waits_in (Framed offset (Some kind) ∷ ps) (v ∷ args) home temp values h above =
      let n = (value_of v).number in
      (kept_in ps args home (temp + 1) temp (with_held temp (Number n) values) h above (omega arith) ∙ here temp (Number n) values ∙ ap (λ k. Number k) (passed-number v), waits_in ps args home (temp + 1) (with_held temp (Number n) values) h (omega (arith, above)))
  waits_in (Framed offset None ∷ ps) (v ∷ args) home temp values h above =
      let n = (value_of v).number in
      let b = (value_of v).bounds in
      let first = with_held temp (Number n) values in
      let both = with_held (temp + 1) (Pair b) first in
      let other : temp ≢ temp + 1 = λ f. omega (arith, f) in (
        kept_in ps args home (temp + 2) temp both h above (omega arith) ∙ there temp (temp + 1) (Pair b) first other ∙ here temp (Number n) values ∙ ap (λ k. Number k) (passed-number v),
        kept_in ps args home (temp + 2) (temp + 1) both h (omega (arith, above)) (omega arith) ∙ here (temp + 1) (Pair b) first ∙ ap (λ k. Pair k) (passed-bounds v),
        waits_in ps args home (temp + 2) both h (omega (arith, above)),
      )
