-- Steps beside what they mean, as pieces of expressions.
use Rattle.std.proofs.Common.{ℕ, zero, suc, ◌+◌, ◌*◌, ◌%◌, ◌≡◌, ◌≤◌, ◌<◌, refl, sym, ap, ◌∙◌, subst, length, List, [], ◌∷◌, ◌++◌, Option, Some, None, Bool, true, false, cond, ◌==◌, arith, Result, Ok, Err}
use Rattle.std.specs.Prelude.{◌≢◌}
use Rattle.mx_base.specs.declared.services.CService.{CService}
use Rattle.mx_base.specs.declared.limits.Bounds.{Bounds as BoundsPair}
use Rattle.mx_base.specs.declared.numbers.IntKind.{IntKind}
use Rattle.mx_base.specs.declared.places.Place.{Place as PlaceOf}
use Rattle.mx_base.specs.Numbers.{size_of, extended}
use Rattle.mx_base.specs.Memory.{number_at}
use Rattle.mx_base.specs.declared.numbers.IntKind.TheVariants.{U64}
use Rattle.mx_base.specs.declared.operators.Arithmetic.{Arithmetic}
use Rattle.mx_base.specs.declared.operators.Arithmetic.TheVariants.{Mul, Add, Sub}
use Rattle.mx_base.specs.Operators.{word_arithmetic}
use Rattle.mx_base.specs.Bounds.{addresses, full_bounds, met, moved, bounds_at}
use Rattle.mx_base.specs.Access.{Refusal}
use Rattle.mx_base.specs.Services.{Served, Answers, Exits, Overflows, Refused}
use Rattle.mx_base.specs.StopOfC.{Divide}
use Rattle.mx_base.specs.World.{NullBlock, World, Log, Rooted, Root, MadeAt, FullBy, NothingKept, FunctionAddress, FromInteger as WasInteger, pointer_read, pointer_written, read_noted, number_written}
use Rattle.fat_ir.specs.declared.step.FatStep.{FatStep}
use Rattle.fat_ir.specs.declared.step.FatStep.TheVariants as s
use Rattle.fat_ir.specs.Values.{Held, Number, Pair, Value, with_held}
use Rattle.fat_ir.specs.Calls.{Stops as StopsAt}
use Rattle.fat_ir.specs.Step.{Located, ObjectAt, FunctionAt, pointer_into, Symbols, State as T, Next, To, Reached, On, Over, with_value, with_number, with_pair, with_pointer, with_world, arguments_then, does, computed, answered, came_back, served_in_c, pointer_came, pointer_went, number_loaded, number_stored}
use Rattle.fat_ir.specs.Run.{pass, and_then}
use Rattle.fat_ir.specs.Laws.{LacksLabel}
use Rattle.fat_ir.proofs.Lists.{pass-append, pass-over, pass-here}
use Rattle.std.proofs.lemmas.Bool.Decides.{nat_tests}
use Rattle.bounds_plan.specs.meaning.Core.{Arguments}
use Rattle.bounds_plan.specs.meaning.State.{Pointer, Passed, OfNumber, OfPointer, State, Ended, Done, Stopped, M, bind, ◌>>=◌, ◌>>◌, pure, stored, with_cause, with_made, place_of}
use Rattle.bounds_plan.specs.meaning.Accesses.{load, store, load_ptr, store_ptr, read_number as source_read, write_number as source_write, read_pointer, write_pointer, allow, came, went, with_root}
use Rattle.bounds_plan.specs.meaning.Expressions.{Answer, Comes, Stops, operate, divided, object, choose, truth, either, serving, served_with, block, answered_with, number_passed, pointer_passed, step, stepped, with_address, member}
use Rattle.bounds_plan.specs.steps.Code.{full, plus_or_minus, before_or_after, arguments_at, ruled, offset_by, scaled, code}
use Rattle.bounds_plan.specs.steps.Follows.{count, values_of, outcome_of}
use Rattle.narrowing.specs.declared.member.Rule.{Rule}
use Rattle.narrowing.specs.declared.member.Rule.TheVariants.{Keep, Meet as MeetRule}
use Rattle.narrowing.specs.Member.{bounds_by}
use Rattle.bounds_plan.proofs.Words.{plus-word, times-word, less-word, more-word}
use Rattle.bounds_plan.proofs.Sim.{here, there, read_number, read_bounds, read_held_number, read_held_pair, first_step, home, Agree, Stay, Sim, beside, NumberIn, PointerIn, agree_on, stay_on, and_on, on_step, judge_follows, allow_follows}

module _ (private : ℕ) (sorts : ℕ → Bool) where
  module _ (symbols : Symbols) where
    abbrev pub SimN : (d : ℕ) → T → Ended ℕ → Reached → Type 0
    SimN d t res r = Sim private sorts (NumberIn private sorts d t) res r

    abbrev pub SimP : (d : ℕ) → T → Ended Pointer → Reached → Type 0
    SimP d t res r = Sim private sorts (PointerIn private sorts d t) res r

    -- the last step writes a number, in some world
    pub finish_number : (d : ℕ) (t : T) (numbers : ℕ → ℕ) (pairs : ℕ → Rooted) (log : Log) (i : FatStep) (u : T) (n : ℕ) (w : World) → private ≤ d → Agree private sorts numbers pairs u → Stay private sorts d t u
        → does symbols i u ≡ On Next (with_number d n (with_world w u)) → SimN d t (Done n record { numbers = numbers; pairs = pairs; world = w; log = log }) (pass symbols (i ∷ []) Next u)
    finish_number d t numbers pairs log i u n w above a st e =
        (with_number d n (with_world w u), first_step symbols i [] u _ e, refl, agree_on private sorts numbers pairs d (Number n) (with_world w u) above a, (here d (Number n) u.values, stay_on private sorts d t (with_world w u) d (Number n) (omega arith) st))

    -- a number stands below what was evaluated since
    pub kept_number : (d v n : ℕ) (t u : T) → private ≤ v → v < d → t.values v ≡ Number n → Stay private sorts d t u → u.values v ≡ Number n
    kept_number d v n t u above below e st = st v above below ∙ e

    pub kept_pair : (d v : ℕ) (b : BoundsPair) (t u : T) → private ≤ v → v < d → t.values v ≡ Pair b → Stay private sorts d t u → u.values v ≡ Pair b
    kept_pair d v b t u above below e st = st v above below ∙ e

    pub stay_join : (d e : ℕ) (t u x : T) → d ≤ e → Stay private sorts d t u → Stay private sorts e u x → Stay private sorts d t x
    stay_join d e t u x le g h = λ v p low. h v p (omega (arith, low, le)) ∙ g v p low

    pub home_number : (numbers : ℕ → ℕ) (pairs : ℕ → Rooted) (x : ℕ) → sorts x ≡ false → home private sorts numbers pairs x ≡ Number (numbers x)
    home_number numbers pairs x e = ap (λ b. cond b (Pair (pairs x).bounds) (Number (numbers x))) e

    pub home_pair : (numbers : ℕ → ℕ) (pairs : ℕ → Rooted) (x : ℕ) → sorts x ≡ true → home private sorts numbers pairs x ≡ Pair (pairs x).bounds
    home_pair numbers pairs x e = ap (λ b. cond b (Pair (pairs x).bounds) (Number (numbers x))) e

    -- the last step writes bounds, in some world, and the number stands already
    pub finish_pair : (d : ℕ) (t : T) (numbers : ℕ → ℕ) (pairs : ℕ → Rooted) (log : Log) (i : FatStep) (u : T) (p : Pointer) (w : World) → private ≤ d → Agree private sorts numbers pairs u → Stay private sorts d t u → u.values d ≡ Number p.address
        → does symbols i u ≡ On Next (with_pair (d + 1) p.rooted.bounds (with_world w u)) → SimP d t (Done p record { numbers = numbers; pairs = pairs; world = w; log = log }) (pass symbols (i ∷ []) Next u)
    finish_pair d t numbers pairs log i u p w above a st at e =
        let other : d ≢ d + 1 = λ h. omega (arith, h) in (
          with_pair (d + 1) p.rooted.bounds (with_world w u),
          first_step symbols i [] u _ e,
          refl,
          agree_on private sorts numbers pairs (d + 1) (Pair p.rooted.bounds) (with_world w u) (omega (arith, above)) a,
          (there d (d + 1) (Pair p.rooted.bounds) u.values other ∙ at, here (d + 1) (Pair p.rooted.bounds) u.values, stay_on private sorts d t (with_world w u) (d + 1) (Pair p.rooted.bounds) (omega arith) st),
        )

    -- the last step writes both
    pub finish_pointer : (d : ℕ) (t : T) (numbers : ℕ → ℕ) (pairs : ℕ → Rooted) (log : Log) (u : T) (p : Pointer) (w : World) → private ≤ d → Agree private sorts numbers pairs u → Stay private sorts d t u
        → SimP d t (Done p record { numbers = numbers; pairs = pairs; world = w; log = log }) (On Next (with_pointer d (d + 1) record { number = p.address; bounds = p.rooted.bounds } (with_world w u)))
    finish_pointer d t numbers pairs log u p w above a st =
        let other : d ≢ d + 1 = λ h. omega (arith, h) in
        let first = with_number d p.address (with_world w u) in (
          with_pair (d + 1) p.rooted.bounds first,
          refl,
          refl,
          agree_on private sorts numbers pairs (d + 1) (Pair p.rooted.bounds) first (omega (arith, above)) (agree_on private sorts numbers pairs d (Number p.address) (with_world w u) above a),
          (
            there d (d + 1) (Pair p.rooted.bounds) first.values other ∙ here d (Number p.address) u.values,
            here (d + 1) (Pair p.rooted.bounds) first.values,
            stay_on private sorts d t first (d + 1) (Pair p.rooted.bounds) (omega arith) (stay_on private sorts d t (with_world w u) d (Number p.address) (omega arith) st),
          ),
        )

    -- a pointer is read on both sides
    pub finish_root : (d : ℕ) (t : T) (value : ℕ) (b : BoundsPair) (root : Option Root) (w : World) (st : State) (u : T) → private ≤ d → Agree private sorts st.numbers st.pairs u → Stay private sorts d t u
        → SimP d t (with_root value b root w st) (On Next (with_pointer d (d + 1) record { number = value; bounds = b } (with_world w u)))
    finish_root d t value b (Some root) w st u above a stay = finish_pointer d t st.numbers st.pairs st.log u record { address = value; rooted = record { bounds = b; root = root } } w above a stay
    finish_root d t value b None w st u above a stay = finish_pointer d t st.numbers st.pairs (with_cause NothingKept st.log) u record { address = value; rooted = record { bounds = b; root = FullBy NothingKept } } w above a stay

    pub finish_came : (d : ℕ) (t : T) (p : Pointer) (r : Result (ℕ × BoundsPair × World) World) (st : State) (u : T) → private ≤ d → Agree private sorts st.numbers st.pairs u → Stay private sorts d t u
        → SimP d t (came p r st) (and_then (pointer_came d (d + 1) r u) (pass symbols []))
    finish_came d t p (Ok r) st u above a stay = finish_root d t r.0 r.1 _ r.2 _ u above a stay
    finish_came d t p (Err w) st u above a stay = refl

    -- the values are as before
    pub Same : T → Unit {0} → T → Type 0
    Same w x u = (v : ℕ) → u.values v ≡ w.values v

    pub stores_number : (kind : IntKind) (place : PlaceOf) (p : Pointer) (n v b f : ℕ) (numbers : ℕ → ℕ) (pairs : ℕ → Rooted) (log : Log) (w : T) → w.values v ≡ Number p.address → w.values b ≡ Pair p.rooted.bounds → w.values f ≡ Number n → Agree private sorts numbers pairs w
        → Sim private sorts (Same w) (store kind place p n (beside private sorts numbers pairs log w)) (pass symbols (s.Judge v (size_of kind) b true place ∷ s.Store v f kind ∷ []) Next w)
    unfolding Same
    stores_number kind place p n v b f numbers pairs log w at_v at_b at_f a =
        judge_follows private sorts symbols (Same w) true (size_of kind) place p (allow true (size_of kind) p >> source_write kind p n) v b (s.Store v f kind ∷ []) (beside private sorts numbers pairs log w) w refl at_v at_b
        (allow_follows private sorts symbols (Same w) true (size_of kind) p (source_write kind p n) (s.Store v f kind) [] (beside private sorts numbers pairs log w) w (number_stored p.address n kind w) refl (read_number _ at_v ∙ read_number _ at_f)
        (with_world (number_written (size_of kind) w.world p.address n) w, refl, refl, a, λ v. refl))

    pub finish_went : (p : Pointer) (root : Root) (r : Result World World) (st : State) (w : T) → Agree private sorts st.numbers st.pairs w → Sim private sorts (Same w) (went p root r st) (and_then (pointer_went r w) (pass symbols []))
    unfolding Same
    finish_went p root (Ok x) st w a = (with_world x w, refl, refl, a, λ v. refl)
    finish_went p root (Err x) st w a = refl

    pub stores_pointer : (place : PlaceOf) (p q : Pointer) (v b f g : ℕ) (numbers : ℕ → ℕ) (pairs : ℕ → Rooted) (log : Log) (w : T) → w.values v ≡ Number p.address → w.values b ≡ Pair p.rooted.bounds → w.values f ≡ Number q.address → w.values g ≡ Pair q.rooted.bounds → Agree private sorts numbers pairs w
        → Sim private sorts (Same w) (store_ptr place p q (beside private sorts numbers pairs log w)) (pass symbols (s.Judge v 8 b true place ∷ s.StorePtr v f g ∷ []) Next w)
    stores_pointer place p q v b f g numbers pairs log w at_v at_b at_f at_g a =
        judge_follows private sorts symbols (Same w) true 8 place p (allow true 8 p >> write_pointer p q) v b (s.StorePtr v f g ∷ []) (beside private sorts numbers pairs log w) w refl at_v at_b
        (allow_follows private sorts symbols (Same w) true 8 p (write_pointer p q) (s.StorePtr v f g) [] (beside private sorts numbers pairs log w) w (pointer_went (pointer_written w.world p.address q.address q.rooted.bounds) w) refl (read_number _ at_v ∙ read_number _ at_f ∙ read_bounds _ at_g)
        (finish_went p q.rooted.root (pointer_written w.world p.address q.address q.rooted.bounds) _ w a))

    pub same_stay : (d : ℕ) (t w y : T) → Same w tt y → Stay private sorts d t w → Stay private sorts d t y
    unfolding Same
    same_stay d t w y same st = λ v p q. same v ∙ st v p q

    pub of_same : (w y : T) (x : Unit {0}) → Same w x y → (v : ℕ) → y.values v ≡ w.values v
    unfolding Same
    of_same w y x same v = same v

    pub full_at_0 : (v : ℕ) (u : T) → On Next (with_pair v (bounds_at 0 0) u) ≡ On Next (with_pair v full_bounds u)
    unfolding bounds_at
    full_at_0 v u = refl

    -- the last step writes the number, and the bounds stand already
    pub finish_front : (d : ℕ) (t : T) (numbers : ℕ → ℕ) (pairs : ℕ → Rooted) (log : Log) (i : FatStep) (u : T) (p : Pointer) → private ≤ d → Agree private sorts numbers pairs u → Stay private sorts d t u → u.values (d + 1) ≡ Pair p.rooted.bounds
        → does symbols i u ≡ On Next (with_number d p.address u) → SimP d t (Done p (beside private sorts numbers pairs log u)) (pass symbols (i ∷ []) Next u)
    finish_front d t numbers pairs log i u p above a st at e =
        let other : d + 1 ≢ d = λ h. omega (arith, h) in (
          with_number d p.address u,
          first_step symbols i [] u _ e,
          refl,
          agree_on private sorts numbers pairs d (Number p.address) u above a,
          (here d (Number p.address) u.values, there (d + 1) d (Number p.address) u.values other ∙ at, stay_on private sorts d t u d (Number p.address) (omega arith) st),
        )

    -- the last steps make the bounds full
    pub finish_full : (d n : ℕ) (root : Root) (t : T) (numbers : ℕ → ℕ) (pairs : ℕ → Rooted) (log : Log) (u : T) → private ≤ d → Agree private sorts numbers pairs u → Stay private sorts d t u → u.values d ≡ Number n
        → SimP d t (Done record { address = n; rooted = record { bounds = full_bounds; root = root } } (beside private sorts numbers pairs log u)) (pass symbols (full (d + 1) (d + 2)) Next u)
    finish_full d n root t numbers pairs log u above a st at =
        let zeroed = with_number (d + 2) 0 u in
        let other : d ≢ d + 2 = λ h. omega (arith, h) in
        on_step private sorts symbols (PointerIn private sorts d t) (Done record { address = n; rooted = record { bounds = full_bounds; root = root } } (beside private sorts numbers pairs log u)) (s.Const (d + 2) 0) (s.Make (d + 1) (d + 2) (d + 2) ∷ []) u zeroed refl
        (finish_pair d t numbers pairs log (s.Make (d + 1) (d + 2) (d + 2)) zeroed record { address = n; rooted = record { bounds = full_bounds; root = root } } u.world above (agree_on private sorts numbers pairs (d + 2) (Number 0) u (omega (arith, above)) a) (stay_on private sorts d t u (d + 2) (Number 0) (omega arith) st) (there d (d + 2) (Number 0) u.values other ∙ at)
        (read_number _ (here (d + 2) (Number 0) u.values) ∙ read_number _ (here (d + 2) (Number 0) u.values) ∙ full_at_0 (d + 1) zeroed))

    pub finish_object : (d : ℕ) (t : T) (l : Located) (offset size : ℕ) (numbers : ℕ → ℕ) (pairs : ℕ → Rooted) (log : Log) → private ≤ d → Agree private sorts numbers pairs t
        → SimP d t (object l offset size (beside private sorts numbers pairs log t)) (On Next (with_pointer d (d + 1) (pointer_into l offset size) t))
    finish_object d t (ObjectAt x) offset size numbers pairs log above a = finish_pointer d t numbers pairs log t record { address = moved x offset; rooted = record { bounds = bounds_at (moved x offset) size; root = MadeAt (place_of (bounds_at (moved x offset) size) log.made) } } t.world above a (λ v p q. refl)
    finish_object d t (FunctionAt x) offset size numbers pairs log above a = finish_pointer d t numbers pairs (with_cause FunctionAddress log) t record { address = moved x offset; rooted = record { bounds = full_bounds; root = FullBy FunctionAddress } } t.world above a (λ v p q. refl)

    pub weaken : {A : Type 0} (Q P : A → T → Type 0) (res : Ended A) (r : Reached) → Sim private sorts Q res r → ((v : A) (u : T) → Q v u → P v u) → Sim private sorts P res r
    weaken Q P (Done v z) r h g = (h.0, h.1, h.2, h.3, g v h.0 h.4)
    weaken Q P (Stopped why z) r h g = h

    pub seek_over : (a b : List FatStep) (label : ℕ) (u : T) → LacksLabel label a → pass symbols (a ++ b) (To label) u ≡ pass symbols b (To label) u
    seek_over a b label u lacks = pass-append symbols a b (To label) u ∙ ap (λ r. and_then r (pass symbols b)) (pass-over symbols a label u lacks)

    -- steps after which nothing is left to do
    pub then_over : {A : Type 0} (Q : A → T → Type 0) (res : Ended A) (c e : List FatStep) (t : T) → Sim private sorts Q res (pass symbols c Next t) → ((u : T) → pass symbols e Next u ≡ On Next u) → Sim private sorts Q res (pass symbols (c ++ e) Next t)
    then_over Q (Done v z) c e t h over = (h.0, pass-append symbols c e Next t ∙ ap (λ r. and_then r (pass symbols e)) h.1 ∙ over h.0, h.2, h.3, h.4)
    then_over Q (Stopped why z) c e t h over = pass-append symbols c e Next t ∙ ap (λ r. and_then r (pass symbols e)) h

    pub not_next : (l : ℕ) → ((l + 1) == l) ≡ false
    not_next l = grind (arith, nat_tests)

    -- one of two parts, by whether a number is 0
    pub chooses : {A : Type 0} (Q : A → T → Type 0) (d l x : ℕ) (ca cb : List FatStep) (ma mb : M A) (u : T) (st : State) → u.values d ≡ Number x → LacksLabel l cb → LacksLabel (l + 1) ca
        → Sim private sorts Q (ma st) (pass symbols ca Next u) → Sim private sorts Q (mb st) (pass symbols cb Next u)
        → Sim private sorts Q (choose x ma mb st) (pass symbols (s.JumpIf d l ∷ (cb ++ (s.Jump (l + 1) ∷ s.Label l ∷ (ca ++ (s.Label (l + 1) ∷ []))))) Next u)
    chooses Q d l zero ca cb ma mb u st at fresh_b fresh_a ha hb =
        let rest = ca ++ (s.Label (l + 1) ∷ []) in
        on_step private sorts symbols Q (mb st) (s.JumpIf d l) (cb ++ (s.Jump (l + 1) ∷ s.Label l ∷ rest)) u u (read_number _ at)
        (then_over Q (mb st) cb (s.Jump (l + 1) ∷ s.Label l ∷ rest) u hb (λ y. ap (λ b. and_then (cond b (On Next y) (On (To (l + 1)) y)) (pass symbols rest)) (not_next l) ∙ seek_over ca (s.Label (l + 1) ∷ []) (l + 1) y fresh_a ∙ pass-here symbols [] (l + 1) y))
    chooses Q d l (suc n) ca cb ma mb u st at fresh_b fresh_a ha hb =
        let rest = ca ++ (s.Label (l + 1) ∷ []) in
        let S : Reached → Type 0 = λ r. Sim private sorts Q (ma st) r in
        let way : pass symbols (s.JumpIf d l ∷ (cb ++ (s.Jump (l + 1) ∷ s.Label l ∷ rest))) Next u ≡ pass symbols rest Next u =
        ap (λ r. and_then r (pass symbols (cb ++ (s.Jump (l + 1) ∷ s.Label l ∷ rest)))) (read_number _ at) ∙ seek_over cb (s.Jump (l + 1) ∷ s.Label l ∷ rest) l u fresh_b ∙ pass-here symbols rest l u in
        subst S (sym way) (then_over Q (ma st) ca (s.Label (l + 1) ∷ []) u ha (λ y. refl))

    -- a value that is made of another one
    pub made_of : {A B : Type 0} (Q : A → T → Type 0) (P : B → T → Type 0) (f : A → B) (res : Ended A) (r : Reached) → Sim private sorts Q res r → ((v : A) (u : T) → Q v u → P (f v) u) → Sim private sorts P (bind res (λ v. pure (f v))) r
    made_of Q P f (Done v z) r h g = (h.0, h.1, h.2, h.3, g v h.0 h.4)
    made_of Q P f (Stopped why z) r h g = h

    -- the result of an operator, on both sides
    pub finish_operated : (d : ℕ) (t : T) (numbers : ℕ → ℕ) (pairs : ℕ → Rooted) (log : Log) (o : Option ℕ) (u : T) → private ≤ d → Agree private sorts numbers pairs u → Stay private sorts d t u
        → SimN d t (divided o (beside private sorts numbers pairs log u)) (and_then (computed d o u) (pass symbols []))
    finish_operated d t numbers pairs log None u above a st = refl
    finish_operated d t numbers pairs log (Some n) u above a st = (with_number d n u, refl, refl, agree_on private sorts numbers pairs d (Number n) u above a, (here d (Number n) u.values, stay_on private sorts d t u d (Number n) (omega arith) st))

    -- ---- private variables that are written

    pub set_cases : (numbers : ℕ → ℕ) (pairs : ℕ → Rooted) (x n v : ℕ) (u : T) (b : Bool) → sorts x ≡ false → u.values v ≡ home private sorts numbers pairs v → (v == x) ≡ b → with_held x (Number n) u.values v ≡ home private sorts (stored numbers x n) pairs v
    set_cases numbers pairs x n v u true sort at e =
        let same : v ≡ x = grind (arith, nat_tests, e) in
        ap (λ b. cond b (Number n) (u.values v)) e ∙ sym (ap (λ b. cond b (Pair (pairs v).bounds) (Number (cond (v == x) n (numbers v)))) (ap sorts same ∙ sort) ∙ ap (λ b. Number (cond b n (numbers v))) e)
    set_cases numbers pairs x n v u false sort at e = ap (λ b. cond b (Number n) (u.values v)) e ∙ at ∙ sym (ap (λ b. cond (sorts v) (Pair (pairs v).bounds) (Number (cond b n (numbers v)))) e)

    pub agree_set : (numbers : ℕ → ℕ) (pairs : ℕ → Rooted) (x n : ℕ) (u : T) → sorts x ≡ false → Agree private sorts numbers pairs u → Agree private sorts (stored numbers x n) pairs (with_number x n u)
    agree_set numbers pairs x n u sort a = λ v low. set_cases numbers pairs x n v u (v == x) sort (a v low) refl

    pub set_pair_cases : (numbers : ℕ → ℕ) (pairs : ℕ → Rooted) (x : ℕ) (r : Rooted) (v : ℕ) (u : T) (b : Bool) → sorts x ≡ true → u.values v ≡ home private sorts numbers pairs v → (v == x) ≡ b → with_held x (Pair r.bounds) u.values v ≡ home private sorts numbers (stored pairs x r) v
    set_pair_cases numbers pairs x r v u true sort at e =
        let same : v ≡ x = grind (arith, nat_tests, e) in
        ap (λ b. cond b (Pair r.bounds) (u.values v)) e ∙ sym (ap (λ b. cond b (Pair (cond (v == x) r (pairs v)).bounds) (Number (numbers v))) (ap sorts same ∙ sort) ∙ ap (λ b. Pair (cond b r (pairs v)).bounds) e)
    set_pair_cases numbers pairs x r v u false sort at e = ap (λ b. cond b (Pair r.bounds) (u.values v)) e ∙ at ∙ sym (ap (λ b. cond (sorts v) (Pair (cond b r (pairs v)).bounds) (Number (numbers v))) e)

    pub agree_set_pair : (numbers : ℕ → ℕ) (pairs : ℕ → Rooted) (x : ℕ) (r : Rooted) (u : T) → sorts x ≡ true → Agree private sorts numbers pairs u → Agree private sorts numbers (stored pairs x r) (with_pair x r.bounds u)
    agree_set_pair numbers pairs x r u sort a = λ v low. set_pair_cases numbers pairs x r v u (v == x) sort (a v low) refl

    pub stay_low : (d : ℕ) (t u : T) (x : ℕ) (h : Held) → x < private → Stay private sorts d t u → Stay private sorts d t (with_value x h u)
    stay_low d t u x h low st = λ v p q. let other : v ≢ x = λ e. omega (arith, e, low, p) in there v x h u.values other ∙ st v p q

    -- a value that another one is written beside
    pub under : (v to : ℕ) (w h : Held) (u : T) → v < to → u.values v ≡ h → (with_value to w u).values v ≡ h
    under v to w h u low e = let other : v ≢ to = λ p. omega (arith, p, low) in there v to w u.values other ∙ e

    pub over : (v to : ℕ) (w h : Held) (u : T) → to < v → u.values v ≡ h → (with_value to w u).values v ≡ h
    over v to w h u low e = let other : v ≢ to = λ p. omega (arith, p, low) in there v to w u.values other ∙ e

    -- a private variable is set, and its value stands in d
    pub finish_set : (d x n : ℕ) (t : T) (numbers : ℕ → ℕ) (pairs : ℕ → Rooted) (log : Log) (u : T) → private ≤ d → x < private → sorts x ≡ false → Agree private sorts numbers pairs u → Stay private sorts d t u → u.values d ≡ Number n
        → SimN d t (Done n record { numbers = stored numbers x n; pairs = pairs; world = u.world; log = log }) (pass symbols (s.Copy x d ∷ []) Next u)
    finish_set d x n t numbers pairs log u above low sort a st at =
        (with_number x n u, first_step symbols (s.Copy x d) [] u _ (read_held_number _ at), refl, agree_set numbers pairs x n u sort a, (over d x (Number n) (Number n) u (omega (arith, above, low)) at, stay_low d t u x (Number n) low st))

    -- an operator on both sides, and then the rest
    pub operate_follows : {A : Type 0} (P : A → T → Type 0) (op : Arithmetic) (kind : IntKind) (x y to a b : ℕ) (go : ℕ → M A) (rest : List FatStep) (st : State) (u : T) → st.world ≡ u.world → u.values a ≡ Number x → u.values b ≡ Number y
        → ((n : ℕ) → Sim private sorts P (go n st) (pass symbols rest Next (with_number to n u))) → Sim private sorts P (bind (operate op kind x y st) go) (pass symbols (s.Arith to op kind a b ∷ rest) Next u)
    operate_follows P op kind x y to a b go rest st u same at_a at_b h =
        let S : Reached → Type 0 = λ r. Sim private sorts P (bind (operate op kind x y st) go) r in
        subst S (sym (ap (λ r. and_then r (pass symbols rest)) (read_number _ at_a ∙ read_number _ at_b))) (by_cases (word_arithmetic op kind x y) h)
      where
        by_cases : (o : Option ℕ) → ((n : ℕ) → Sim private sorts P (go n st) (pass symbols rest Next (with_number to n u))) → Sim private sorts P (bind (divided o st) go) (and_then (computed to o u) (pass symbols rest))
        by_cases None h = ap (λ w. Over (StopsAt Divide w)) (sym same)
        by_cases (Some n) h = h n

    -- an operator that always has a result
    pub arith_step : (op : Arithmetic) (kind : IntKind) (x y to a b n : ℕ) (u : T) → u.values a ≡ Number x → u.values b ≡ Number y → word_arithmetic op kind x y ≡ Some n → does symbols (s.Arith to op kind a b) u ≡ On Next (with_number to n u)
    arith_step op kind x y to a b n u at_a at_b e = read_number _ at_a ∙ read_number _ at_b ∙ ap (λ o. computed to o u) e

    -- one of two values is copied to the front
    pub copy_either : (old : Bool) (x y d v w : ℕ) (u : T) → u.values v ≡ Number x → u.values w ≡ Number y → does symbols (s.Copy d (before_or_after old v w)) u ≡ On Next (with_number d (either old x y) u)
    copy_either true x y d v w u at_v at_w = read_held_number _ at_v
    copy_either false x y d v w u at_v at_w = read_held_number _ at_w

    pub loads_number : (kind : IntKind) (place : PlaceOf) (p : Pointer) (v b to : ℕ) (numbers : ℕ → ℕ) (pairs : ℕ → Rooted) (log : Log) (w : T) → private ≤ to → w.values v ≡ Number p.address → w.values b ≡ Pair p.rooted.bounds → Agree private sorts numbers pairs w
        → Sim private sorts (NumberIn private sorts to w) (load kind place p (beside private sorts numbers pairs log w)) (pass symbols (s.Judge v (size_of kind) b false place ∷ s.Load v to kind ∷ []) Next w)
    loads_number kind place p v b to numbers pairs log w above at_v at_b a =
        let n = extended kind (number_at (size_of kind) w.world.bytes p.address) in
        let after = with_world (read_noted (size_of kind) w.world p.address) w in
        judge_follows private sorts symbols (NumberIn private sorts to w) false (size_of kind) place p (allow false (size_of kind) p >> source_read kind p) v b (s.Load v to kind ∷ []) (beside private sorts numbers pairs log w) w refl at_v at_b
        (allow_follows private sorts symbols (NumberIn private sorts to w) false (size_of kind) p (source_read kind p) (s.Load v to kind) [] (beside private sorts numbers pairs log w) w (number_loaded p.address to kind w) refl (read_number _ at_v)
        (with_number to n after, refl, refl, agree_on private sorts numbers pairs to (Number n) after above a, (here to (Number n) w.values, stay_on private sorts to w after to (Number n) (omega arith) (λ v p q. refl))))

    -- ---- truth

    pub apart : (a b : ℕ) → a ≢ b → (a == b) ≡ false
    apart a b h = grind (arith, nat_tests)

    -- a number that is not 0 becomes 1
    pub finish_truth : (d hit end y : ℕ) (t : T) (numbers : ℕ → ℕ) (pairs : ℕ → Rooted) (log : Log) (v : T) → private ≤ d → end ≢ hit → Agree private sorts numbers pairs v → v.values d ≡ Number y → Stay private sorts d t v
        → SimN d t (Done (truth y) (beside private sorts numbers pairs log v)) (pass symbols (s.JumpIf d hit ∷ s.Jump end ∷ s.Label hit ∷ s.Const d 1 ∷ s.Label end ∷ []) Next v)
    finish_truth d hit end zero t numbers pairs log v above other a at st =
        (v, ap (λ r. and_then r (pass symbols (s.Jump end ∷ s.Label hit ∷ s.Const d 1 ∷ s.Label end ∷ []))) (read_number _ at) ∙ seek_over (s.Label hit ∷ s.Const d 1 ∷ []) (s.Label end ∷ []) end v (other, tt) ∙ pass-here symbols [] end v, refl, a, (at, st))
    finish_truth d hit end (suc n) t numbers pairs log v above other a at st =
        (with_number d 1 v, ap (λ r. and_then r (pass symbols (s.Jump end ∷ s.Label hit ∷ s.Const d 1 ∷ s.Label end ∷ []))) (read_number _ at) ∙ pass-here symbols (s.Const d 1 ∷ s.Label end ∷ []) hit v, refl, agree_on private sorts numbers pairs d (Number 1) v above a, (here d (Number 1) v.values, stay_on private sorts d t v d (Number 1) (omega arith) st))

    pub both : (d l x : ℕ) (cb : List FatStep) (mb : M ℕ) (t : T) (numbers : ℕ → ℕ) (pairs : ℕ → Rooted) (log : Log) (u : T) → private ≤ d → LacksLabel (l + 1) cb → Agree private sorts numbers pairs u → u.values d ≡ Number x → Stay private sorts d t u
        → SimN d t (mb (beside private sorts numbers pairs log u)) (pass symbols cb Next u)
        → SimN d t (choose x (mb >>= (λ y. pure (truth y))) (pure 0) (beside private sorts numbers pairs log u)) (pass symbols (s.JumpIf d l ∷ s.Jump (l + 1) ∷ s.Label l ∷ (cb ++ (s.JumpIf d (l + 2) ∷ s.Jump (l + 1) ∷ s.Label (l + 2) ∷ s.Const d 1 ∷ s.Label (l + 1) ∷ []))) Next u)
    both d l zero cb mb t numbers pairs log u above lacks a at st hb =
        let tail = s.JumpIf d (l + 2) ∷ s.Jump (l + 1) ∷ s.Label (l + 2) ∷ s.Const d 1 ∷ s.Label (l + 1) ∷ [] in
        let other : l + 1 ≢ l + 2 = λ e. omega (arith, e) in (
          u,
          ap (λ r. and_then r (pass symbols (s.Jump (l + 1) ∷ s.Label l ∷ (cb ++ tail)))) (read_number _ at) ∙ ap (λ b. and_then (cond b (On Next u) (On (To (l + 1)) u)) (pass symbols (cb ++ tail))) (not_next l)
              ∙ seek_over cb tail (l + 1) u lacks ∙ seek_over (s.JumpIf d (l + 2) ∷ s.Jump (l + 1) ∷ s.Label (l + 2) ∷ s.Const d 1 ∷ []) (s.Label (l + 1) ∷ []) (l + 1) u (other, tt) ∙ pass-here symbols [] (l + 1) u,
          refl,
          a,
          (at, st),
        )
    both d l (suc n) cb mb t numbers pairs log u above lacks a at st hb =
        let tail = s.JumpIf d (l + 2) ∷ s.Jump (l + 1) ∷ s.Label (l + 2) ∷ s.Const d 1 ∷ s.Label (l + 1) ∷ [] in
        let other : l + 1 ≢ l + 2 = λ e. omega (arith, e) in
        let S : Reached → Type 0 = λ r. SimN d t (bind (mb (beside private sorts numbers pairs log u)) (λ y. pure (truth y))) r in
        subst S (sym (ap (λ r. and_then r (pass symbols (s.Jump (l + 1) ∷ s.Label l ∷ (cb ++ tail)))) (read_number _ at) ∙ pass-here symbols (cb ++ tail) l u))
        (and_on private sorts symbols (NumberIn private sorts d t) (NumberIn private sorts d t) _ cb tail u (λ y. pure (truth y)) hb
        (λ y numbers pairs log v a got. finish_truth d (l + 2) (l + 1) y t numbers pairs log v above other a got.0 got.1))

    pub one_of : (d l x : ℕ) (cb : List FatStep) (mb : M ℕ) (t : T) (numbers : ℕ → ℕ) (pairs : ℕ → Rooted) (log : Log) (u : T) → private ≤ d → LacksLabel l cb → Agree private sorts numbers pairs u → u.values d ≡ Number x → Stay private sorts d t u
        → SimN d t (mb (beside private sorts numbers pairs log u)) (pass symbols cb Next u)
        → SimN d t (choose x (pure 1) (mb >>= (λ y. pure (truth y))) (beside private sorts numbers pairs log u)) (pass symbols (s.JumpIf d l ∷ (cb ++ (s.JumpIf d l ∷ s.Jump (l + 1) ∷ s.Label l ∷ s.Const d 1 ∷ s.Label (l + 1) ∷ []))) Next u)
    one_of d l zero cb mb t numbers pairs log u above lacks a at st hb =
        let tail = s.JumpIf d l ∷ s.Jump (l + 1) ∷ s.Label l ∷ s.Const d 1 ∷ s.Label (l + 1) ∷ [] in
        let other : l + 1 ≢ l = λ e. omega (arith, e) in
        on_step private sorts symbols (NumberIn private sorts d t) (bind (mb (beside private sorts numbers pairs log u)) (λ y. pure (truth y))) (s.JumpIf d l) (cb ++ tail) u u (read_number _ at)
        (and_on private sorts symbols (NumberIn private sorts d t) (NumberIn private sorts d t) _ cb tail u (λ y. pure (truth y)) hb
        (λ y numbers pairs log v a got. finish_truth d l (l + 1) y t numbers pairs log v above other a got.0 got.1))
    one_of d l (suc n) cb mb t numbers pairs log u above lacks a at st hb =
        let tail = s.JumpIf d l ∷ s.Jump (l + 1) ∷ s.Label l ∷ s.Const d 1 ∷ s.Label (l + 1) ∷ [] in
        (with_number d 1 u, ap (λ r. and_then r (pass symbols (cb ++ tail))) (read_number _ at) ∙ seek_over cb tail l u lacks ∙ pass-here symbols (s.Const d 1 ∷ s.Label (l + 1) ∷ []) l u, refl, agree_on private sorts numbers pairs d (Number 1) u above a, (here d (Number 1) u.values, stay_on private sorts d t u d (Number 1) (omega arith) st))

    -- ---- services

    pub finish_served : (d : ℕ) (t : T) (numbers : ℕ → ℕ) (pairs : ℕ → Rooted) (log : Log) (r : Served Refusal) (u : T) → private ≤ d → Agree private sorts numbers pairs u → Stay private sorts d t u
        → SimN d t (served_with r (beside private sorts numbers pairs log u)) (and_then (answered (Some d) r u) (pass symbols []))
    finish_served d t numbers pairs log (Answers word g) u above a st = let after = with_world record u.world { guest = g } u in (with_number d word after, refl, refl, agree_on private sorts numbers pairs d (Number word) after above a, (here d (Number word) u.values, stay_on private sorts d t after d (Number word) (omega arith) st))
    finish_served d t numbers pairs log (Exits code) u above a st = refl
    finish_served d t numbers pairs log Overflows u above a st = refl
    finish_served d t numbers pairs log (Refused why) u above a st = refl

    pub serves : (service : CService) (word d to : ℕ) (t : T) (numbers : ℕ → ℕ) (pairs : ℕ → Rooted) (log : Log) (u : T) → private ≤ to → Agree private sorts numbers pairs u → Stay private sorts to t u → u.values d ≡ Number word
        → SimN to t (serving service word (beside private sorts numbers pairs log u)) (pass symbols (s.Service service (Some d) (Some to) ∷ []) Next u)
    serves service word d to t numbers pairs log u above a st at =
        let S : Reached → Type 0 = λ r. SimN to t (serving service word (beside private sorts numbers pairs log u)) (and_then r (pass symbols [])) in
        subst S (sym (read_number _ at)) (finish_served to t numbers pairs log (served_in_c service word u.world) u above a st)

    -- the bounds and the address of a new block
    pub finish_block : (d l size x : ℕ) (t : T) (numbers : ℕ → ℕ) (pairs : ℕ → Rooted) (log : Log) (u : T) → private ≤ d → Agree private sorts numbers pairs u → Stay private sorts d t u → u.values d ≡ Number size → u.values (d + 2) ≡ Number x
        → SimP d t (block size x (beside private sorts numbers pairs log u)) (pass symbols (s.JumpIf (d + 2) l ∷ s.Const d 0 ∷ s.Label l ∷ s.Make (d + 1) (d + 2) d ∷ s.Copy d (d + 2) ∷ []) Next u)
    finish_block d l size zero t numbers pairs log u above a st at_d at =
        let q : Pointer = record { address = 0; rooted = record { bounds = full_bounds; root = FullBy NullBlock } } in
        let res : Ended Pointer = Done q (beside private sorts numbers pairs (with_cause NullBlock log) u) in
        let one = with_number d 0 u in
        let two = with_pair (d + 1) full_bounds one in
        let at1 : one.values (d + 2) ≡ Number 0 = over (d + 2) d (Number 0) (Number 0) u (omega arith) at in
        on_step private sorts symbols (PointerIn private sorts d t) res (s.JumpIf (d + 2) l) (s.Const d 0 ∷ s.Label l ∷ s.Make (d + 1) (d + 2) d ∷ s.Copy d (d + 2) ∷ []) u u (read_number _ at)
        (on_step private sorts symbols (PointerIn private sorts d t) res (s.Const d 0) (s.Label l ∷ s.Make (d + 1) (d + 2) d ∷ s.Copy d (d + 2) ∷ []) u one refl
        (on_step private sorts symbols (PointerIn private sorts d t) res (s.Label l) (s.Make (d + 1) (d + 2) d ∷ s.Copy d (d + 2) ∷ []) one one refl
        (on_step private sorts symbols (PointerIn private sorts d t) res (s.Make (d + 1) (d + 2) d) (s.Copy d (d + 2) ∷ []) one two (read_number _ at1 ∙ read_number _ (here d (Number 0) u.values) ∙ full_at_0 (d + 1) one)
        (finish_front d t numbers pairs (with_cause NullBlock log) (s.Copy d (d + 2)) two q above (agree_on private sorts numbers pairs (d + 1) (Pair full_bounds) one (omega (arith, above)) (agree_on private sorts numbers pairs d (Number 0) u above a))
        (stay_on private sorts d t one (d + 1) (Pair full_bounds) (omega arith) (stay_on private sorts d t u d (Number 0) (omega arith) st)) (here (d + 1) (Pair full_bounds) one.values) (read_held_number _ (over (d + 2) (d + 1) (Pair full_bounds) (Number 0) one (omega arith) at1))))))
    finish_block d l size (suc n) t numbers pairs log u above a st at_d at =
        let q : Pointer = record { address = suc n; rooted = record { bounds = bounds_at (suc n) size; root = MadeAt (length log.made) } } in
        let res : Ended Pointer = Done q (beside private sorts numbers pairs (with_made (bounds_at (suc n) size) log) u) in
        let two = with_pair (d + 1) (bounds_at (suc n) size) u in
        let rest = s.Make (d + 1) (d + 2) d ∷ s.Copy d (d + 2) ∷ [] in
        let S : Reached → Type 0 = λ r. SimP d t res r in
        subst S (sym (ap (λ r. and_then r (pass symbols (s.Const d 0 ∷ s.Label l ∷ rest))) (read_number _ at) ∙ pass-here symbols rest l u))
        (on_step private sorts symbols (PointerIn private sorts d t) res (s.Make (d + 1) (d + 2) d) (s.Copy d (d + 2) ∷ []) u two (read_number _ at ∙ read_number _ at_d)
        (finish_front d t numbers pairs (with_made (bounds_at (suc n) size) log) (s.Copy d (d + 2)) two q above (agree_on private sorts numbers pairs (d + 1) (Pair (bounds_at (suc n) size)) u (omega (arith, above)) a)
        (stay_on private sorts d t u (d + 1) (Pair (bounds_at (suc n) size)) (omega arith) st) (here (d + 1) (Pair (bounds_at (suc n) size)) u.values) (read_held_number _ (over (d + 2) (d + 1) (Pair (bounds_at (suc n) size)) (Number (suc n)) u (omega arith) at))))

    -- the last steps of an assignment by an operator
    pub finish_update : (d x : ℕ) (kind : IntKind) (old : Bool) (before r : ℕ) (t : T) (numbers : ℕ → ℕ) (pairs : ℕ → Rooted) (log : Log) (u : T) → private ≤ d → x < private → sorts x ≡ false → Agree private sorts numbers pairs u → Stay private sorts d t u → u.values (d + 2) ≡ Number before
        → SimN d t (Done (either old before (extended kind r)) record { numbers = stored numbers x (extended kind r); pairs = pairs; world = u.world; log = log }) (pass symbols (s.Extend d d kind ∷ s.Copy x d ∷ s.Copy d (before_or_after old (d + 2) d) ∷ []) Next (with_number d r u))
    finish_update d x kind old before r t numbers pairs log u above low sort a st at =
        let n = extended kind r in
        let two = with_number d r u in
        let three = with_number d n two in
        let four = with_number x n three in
        let res : Ended ℕ = Done (either old before n) record { numbers = stored numbers x n; pairs = pairs; world = u.world; log = log } in
        let a3 = agree_on private sorts numbers pairs d (Number n) two above (agree_on private sorts numbers pairs d (Number r) u above a) in
        let st3 = stay_on private sorts d t two d (Number n) (omega arith) (stay_on private sorts d t u d (Number r) (omega arith) st) in
        let at3 : three.values (d + 2) ≡ Number before = over (d + 2) d (Number n) (Number before) two (omega arith) (over (d + 2) d (Number r) (Number before) u (omega arith) at) in
        let at4 : four.values (d + 2) ≡ Number before = over (d + 2) x (Number n) (Number before) three (omega (arith, above, low)) at3 in
        let front : four.values d ≡ Number n = over d x (Number n) (Number n) three (omega (arith, above, low)) (here d (Number n) two.values) in
        on_step private sorts symbols (NumberIn private sorts d t) res (s.Extend d d kind) (s.Copy x d ∷ s.Copy d (before_or_after old (d + 2) d) ∷ []) two three (read_number _ (here d (Number r) u.values))
        (on_step private sorts symbols (NumberIn private sorts d t) res (s.Copy x d) (s.Copy d (before_or_after old (d + 2) d) ∷ []) three four (read_held_number _ (here d (Number n) two.values))
        (finish_number d t (stored numbers x n) pairs log (s.Copy d (before_or_after old (d + 2) d)) four (either old before n) u.world above (agree_set numbers pairs x n three sort a3) (stay_low d t three x (Number n) low st3) (copy_either old before n d (d + 2) d four at4 front)))

    -- ---- addresses that move

    pub pm_step : (minus : Bool) (size x i to a b : ℕ) (u : T) → u.values a ≡ Number x → u.values b ≡ Number (i * size % addresses) → does symbols (s.Arith to (plus_or_minus minus) U64 a b) u ≡ On Next (with_number to (stepped minus size x i) u)
    pm_step true size x i to a b u at_a at_b = arith_step Sub U64 x (i * size % addresses) to a b (stepped true size x i) u at_a at_b (less-word size x i)
    pm_step false size x i to a b u at_a at_b = arith_step Add U64 x (i * size % addresses) to a b (stepped false size x i) u at_a at_b (more-word size x i)

    pub scale_follows : {A : Type 0} (P : A → T → Type 0) (res : Ended A) (size i a free : ℕ) (rest : List FatStep) (u : T) → a < free → u.values a ≡ Number i → Sim private sorts P res (pass symbols rest Next (with_number a (i * size % addresses) (with_number free size u)))
        → Sim private sorts P res (pass symbols (s.Const free size ∷ s.Arith a Mul U64 a free ∷ rest) Next u)
    scale_follows P res size i a free rest u low at h =
        let one = with_number free size u in
        on_step private sorts symbols P res (s.Const free size) (s.Arith a Mul U64 a free ∷ rest) u one refl
        (on_step private sorts symbols P res (s.Arith a Mul U64 a free) rest one (with_number a (i * size % addresses) one)
        (arith_step Mul U64 i size a a free (i * size % addresses) one (under a free (Number size) (Number i) u low at) (here free (Number size) u.values) (times-word i size)) h)

    pub offset_follows : {A : Type 0} (P : A → T → Type 0) (res : Ended A) (n x to a free : ℕ) (rest : List FatStep) (u : T) → a < free → u.values a ≡ Number x → Sim private sorts P res (pass symbols rest Next (with_number to (moved x n) (with_number free n u)))
        → Sim private sorts P res (pass symbols (s.Const free n ∷ s.Arith to Add U64 a free ∷ rest) Next u)
    offset_follows P res n x to a free rest u low at h =
        let one = with_number free n u in
        on_step private sorts symbols P res (s.Const free n) (s.Arith to Add U64 a free ∷ rest) u one refl
        (on_step private sorts symbols P res (s.Arith to Add U64 a free) rest one (with_number to (moved x n) one)
        (arith_step Add U64 x n to a free (moved x n) one (under a free (Number n) (Number x) u low at) (here free (Number n) u.values) (plus-word x n)) h)

    -- the number was written last, and the bounds stand already
    pub front_in : (d : ℕ) (t : T) (numbers : ℕ → ℕ) (pairs : ℕ → Rooted) (log : Log) (u : T) (p : Pointer) → private ≤ d → Agree private sorts numbers pairs u → Stay private sorts d t u → u.values (d + 1) ≡ Pair p.rooted.bounds
        → SimP d t (Done p (beside private sorts numbers pairs log u)) (On Next (with_number d p.address u))
    front_in d t numbers pairs log u p above a st at =
        let other : d + 1 ≢ d = λ h. omega (arith, h) in (
          with_number d p.address u,
          refl,
          refl,
          agree_on private sorts numbers pairs d (Number p.address) u above a,
          (here d (Number p.address) u.values, there (d + 1) d (Number p.address) u.values other ∙ at, stay_on private sorts d t u d (Number p.address) (omega arith) st),
        )

    pub finish_member : (rule : Rule) (d offset : ℕ) (p : Pointer) (t : T) (numbers : ℕ → ℕ) (pairs : ℕ → Rooted) (log : Log) (u : T) → private ≤ d → Agree private sorts numbers pairs u → Stay private sorts d t u → u.values d ≡ Number p.address → u.values (d + 1) ≡ Pair p.rooted.bounds
        → SimP d t (Done (member offset p (bounds_by rule p.address p.rooted.bounds)) (beside private sorts numbers pairs log u)) (pass symbols (ruled rule d ++ offset_by offset d d (d + 2)) Next u)
    finish_member Keep d offset p t numbers pairs log u above a st at_d at =
        let q = member offset p p.rooted.bounds in
        offset_follows (PointerIn private sorts d t) (Done q (beside private sorts numbers pairs log u)) offset p.address d d (d + 2) [] u (omega arith) at_d
        (front_in d t numbers pairs log (with_number (d + 2) offset u) q above (agree_on private sorts numbers pairs (d + 2) (Number offset) u (omega (arith, above)) a) (stay_on private sorts d t u (d + 2) (Number offset) (omega arith) st) (under (d + 1) (d + 2) (Number offset) (Pair p.rooted.bounds) u (omega arith) at))
    finish_member (MeetRule o size) d offset p t numbers pairs log u above a st at_d at =
        let x = p.address in
        let b = p.rooted.bounds in
        let c = bounds_at (moved x o) size in
        let q = member offset p (met b c) in
        let res : Ended Pointer = Done q (beside private sorts numbers pairs log u) in
        let u1 = with_number (d + 2) o u in
        let u2 = with_number (d + 4) (moved x o) u1 in
        let u3 = with_number (d + 2) size u2 in
        let u4 = with_pair (d + 2 + 1) c u3 in
        let u5 = with_pair (d + 1) (met b c) u4 in
        let u6 = with_number (d + 2) offset u5 in
        let d2 : u2.values d ≡ Number x = under d (d + 4) (Number (moved x o)) (Number x) u1 (omega arith) (under d (d + 2) (Number o) (Number x) u (omega arith) at_d) in
        let d4 : u4.values d ≡ Number x = under d (d + 2 + 1) (Pair c) (Number x) u3 (omega arith) (under d (d + 2) (Number size) (Number x) u2 (omega arith) d2) in
        let d5 : u5.values d ≡ Number x = under d (d + 1) (Pair (met b c)) (Number x) u4 (omega arith) d4 in
        let b2 : u2.values (d + 1) ≡ Pair b = under (d + 1) (d + 4) (Number (moved x o)) (Pair b) u1 (omega arith) (under (d + 1) (d + 2) (Number o) (Pair b) u (omega arith) at) in
        let b4 : u4.values (d + 1) ≡ Pair b = under (d + 1) (d + 2 + 1) (Pair c) (Pair b) u3 (omega arith) (under (d + 1) (d + 2) (Number size) (Pair b) u2 (omega arith) b2) in
        let m3 : u3.values (d + 4) ≡ Number (moved x o) = over (d + 4) (d + 2) (Number size) (Number (moved x o)) u2 (omega arith) (here (d + 4) (Number (moved x o)) u1.values) in
        let e1 : private ≤ d + 1 = omega (arith, above) in
        let e2 : private ≤ d + 2 = omega (arith, above) in
        let e3 : private ≤ d + 2 + 1 = omega (arith, above) in
        let e4 : private ≤ d + 4 = omega (arith, above) in
        let a2 = agree_on private sorts numbers pairs (d + 4) (Number (moved x o)) u1 e4 (agree_on private sorts numbers pairs (d + 2) (Number o) u e2 a) in
        let a4 = agree_on private sorts numbers pairs (d + 2 + 1) (Pair c) u3 e3 (agree_on private sorts numbers pairs (d + 2) (Number size) u2 e2 a2) in
        let a6 = agree_on private sorts numbers pairs (d + 2) (Number offset) u5 e2 (agree_on private sorts numbers pairs (d + 1) (Pair (met b c)) u4 e1 a4) in
        let s2 = stay_on private sorts d t u1 (d + 4) (Number (moved x o)) (omega arith) (stay_on private sorts d t u (d + 2) (Number o) (omega arith) st) in
        let s4 = stay_on private sorts d t u3 (d + 2 + 1) (Pair c) (omega arith) (stay_on private sorts d t u2 (d + 2) (Number size) (omega arith) s2) in
        let s6 = stay_on private sorts d t u5 (d + 2) (Number offset) (omega arith) (stay_on private sorts d t u4 (d + 1) (Pair (met b c)) (omega arith) s4) in
        let last = offset_by offset d d (d + 2) in
        let meets = s.Meet (d + 1) (d + 1) (d + 2 + 1) ∷ last in
        let makes = s.Make (d + 2 + 1) (d + 4) (d + 2) ∷ meets in
        offset_follows (PointerIn private sorts d t) res o x (d + 4) d (d + 2) (s.Const (d + 2) size ∷ makes) u (omega arith) at_d
        (on_step private sorts symbols (PointerIn private sorts d t) res (s.Const (d + 2) size) makes u2 u3 refl
        (on_step private sorts symbols (PointerIn private sorts d t) res (s.Make (d + 2 + 1) (d + 4) (d + 2)) meets u3 u4 (read_number _ m3 ∙ read_number _ (here (d + 2) (Number size) u2.values))
        (on_step private sorts symbols (PointerIn private sorts d t) res (s.Meet (d + 1) (d + 1) (d + 2 + 1)) last u4 u5 (read_bounds _ b4 ∙ read_bounds _ (here (d + 2 + 1) (Pair c) u3.values))
        (offset_follows (PointerIn private sorts d t) res offset x d d (d + 2) [] u5 (omega arith) d5
        (front_in d t numbers pairs log u6 q above a6 s6 (under (d + 1) (d + 2) (Number offset) (Pair (met b c)) u5 (omega arith) (here (d + 1) (Pair (met b c)) u4.values)))))))

    -- an element's address
    pub finish_element : (minus : Bool) (size d : ℕ) (p : Pointer) (i : ℕ) (t : T) (numbers : ℕ → ℕ) (pairs : ℕ → Rooted) (log : Log) (u : T) → private ≤ d → Agree private sorts numbers pairs u → Stay private sorts d t u → u.values d ≡ Number p.address → u.values (d + 1) ≡ Pair p.rooted.bounds → u.values (d + 2) ≡ Number i
        → SimP d t (Done (step minus size p i) (beside private sorts numbers pairs log u)) (pass symbols (scaled size (d + 2) (d + 4) ++ (s.Arith d (plus_or_minus minus) U64 d (d + 2) ∷ [])) Next u)
    finish_element minus size d p i t numbers pairs log u above a st at_d at at_i =
        let q = step minus size p i in
        let u1 = with_number (d + 4) size u in
        let k = i * size % addresses in
        let u2 = with_number (d + 2) k u1 in
        let e2 : private ≤ d + 2 = omega (arith, above) in
        let e4 : private ≤ d + 4 = omega (arith, above) in
        scale_follows (PointerIn private sorts d t) (Done q (beside private sorts numbers pairs log u)) size i (d + 2) (d + 4) (s.Arith d (plus_or_minus minus) U64 d (d + 2) ∷ []) u (omega arith) at_i
        (finish_front d t numbers pairs log (s.Arith d (plus_or_minus minus) U64 d (d + 2)) u2 q above (agree_on private sorts numbers pairs (d + 2) (Number k) u1 e2 (agree_on private sorts numbers pairs (d + 4) (Number size) u e4 a))
        (stay_on private sorts d t u1 (d + 2) (Number k) (omega arith) (stay_on private sorts d t u (d + 4) (Number size) (omega arith) st))
        (under (d + 1) (d + 2) (Number k) (Pair p.rooted.bounds) u1 (omega arith) (under (d + 1) (d + 4) (Number size) (Pair p.rooted.bounds) u (omega arith) at))
        (pm_step minus size p.address i d d (d + 2) u2 (under d (d + 2) (Number k) (Number p.address) u1 (omega arith) (under d (d + 4) (Number size) (Number p.address) u (omega arith) at_d)) (here (d + 2) (Number k) u1.values)))

    -- the same where the index was evaluated first
    pub finish_element_after : (size d : ℕ) (p : Pointer) (i : ℕ) (t : T) (numbers : ℕ → ℕ) (pairs : ℕ → Rooted) (log : Log) (u : T) → private ≤ d → Agree private sorts numbers pairs u → Stay private sorts d t u → u.values d ≡ Number i → u.values (d + 2) ≡ Number p.address → u.values (d + 2 + 1) ≡ Pair p.rooted.bounds
        → SimP d t (Done (step false size p i) (beside private sorts numbers pairs log u)) (pass symbols (scaled size d (d + 4) ++ (s.Arith d Add U64 (d + 2) d ∷ s.Copy (d + 1) (d + 2 + 1) ∷ [])) Next u)
    finish_element_after size d p i t numbers pairs log u above a st at_i at_p at_b =
        let q = step false size p i in
        let b = p.rooted.bounds in
        let k = i * size % addresses in
        let u1 = with_number (d + 4) size u in
        let u2 = with_number d k u1 in
        let u3 = with_number d q.address u2 in
        let e4 : private ≤ d + 4 = omega (arith, above) in
        let p2 : u2.values (d + 2) ≡ Number p.address = over (d + 2) d (Number k) (Number p.address) u1 (omega arith) (under (d + 2) (d + 4) (Number size) (Number p.address) u (omega arith) at_p) in
        let b3 : u3.values (d + 2 + 1) ≡ Pair b = over (d + 2 + 1) d (Number q.address) (Pair b) u2 (omega arith) (over (d + 2 + 1) d (Number k) (Pair b) u1 (omega arith) (under (d + 2 + 1) (d + 4) (Number size) (Pair b) u (omega arith) at_b)) in
        scale_follows (PointerIn private sorts d t) (Done q (beside private sorts numbers pairs log u)) size i d (d + 4) (s.Arith d Add U64 (d + 2) d ∷ s.Copy (d + 1) (d + 2 + 1) ∷ []) u (omega arith) at_i
        (on_step private sorts symbols (PointerIn private sorts d t) (Done q (beside private sorts numbers pairs log u)) (s.Arith d Add U64 (d + 2) d) (s.Copy (d + 1) (d + 2 + 1) ∷ []) u2 u3 (pm_step false size p.address i d (d + 2) d u2 p2 (here d (Number k) u1.values))
        (finish_pair d t numbers pairs log (s.Copy (d + 1) (d + 2 + 1)) u3 q u.world above
        (agree_on private sorts numbers pairs d (Number q.address) u2 above (agree_on private sorts numbers pairs d (Number k) u1 above (agree_on private sorts numbers pairs (d + 4) (Number size) u e4 a)))
        (stay_on private sorts d t u2 d (Number q.address) (omega arith) (stay_on private sorts d t u1 d (Number k) (omega arith) (stay_on private sorts d t u (d + 4) (Number size) (omega arith) st)))
        (here d (Number q.address) u2.values) (read_held_pair _ b3)))

    -- an assignment by an operator, of a place in memory
    pub update_at : (kind : IntKind) (place : PlaceOf) (op : Arithmetic) (common : IntKind) (old : Bool) (d : ℕ) (q : Pointer) (n : ℕ) (t : T) (numbers : ℕ → ℕ) (pairs : ℕ → Rooted) (log : Log) (w : T) → private ≤ d → Agree private sorts numbers pairs w → Stay private sorts d t w
        → w.values d ≡ Number q.address → w.values (d + 1) ≡ Pair q.rooted.bounds → w.values (d + 2) ≡ Number n
        → SimN d t ((load kind place q >>= (λ before. operate op common before n >>= (λ after. store kind place q (extended kind after) >> pure (either old before (extended kind after))))) (beside private sorts numbers pairs log w))
        (pass symbols (s.Judge d (size_of kind) (d + 1) false place ∷ s.Load d (d + 4) kind ∷ s.Arith (d + 2) op common (d + 4) (d + 2) ∷ s.Extend (d + 2) (d + 2) kind ∷ s.Judge d (size_of kind) (d + 1) true place ∷ s.Store d (d + 2) kind ∷ s.Copy d (before_or_after old (d + 4) (d + 2)) ∷ []) Next w)
    update_at kind place op common old d q n t numbers pairs log w above a st at_d at_b at_n =
        let last = s.Copy d (before_or_after old (d + 4) (d + 2)) ∷ [] in
        let stores = s.Judge d (size_of kind) (d + 1) true place ∷ s.Store d (d + 2) kind ∷ last in
        let extends = s.Extend (d + 2) (d + 2) kind ∷ stores in
        let e1 : private ≤ d + 1 = omega (arith, above) in
        let e2 : private ≤ d + 2 = omega (arith, above) in
        and_on private sorts symbols (NumberIn private sorts (d + 4) w) (NumberIn private sorts d t) _ (s.Judge d (size_of kind) (d + 1) false place ∷ s.Load d (d + 4) kind ∷ []) (s.Arith (d + 2) op common (d + 4) (d + 2) ∷ extends) w
        (λ before. operate op common before n >>= (λ after. store kind place q (extended kind after) >> pure (either old before (extended kind after))))
        (loads_number kind place q d (d + 1) (d + 4) numbers pairs log w (omega (arith, above)) at_d at_b a)
        (λ before numbers pairs log y a got.
        let yd : y.values d ≡ Number q.address = kept_number (d + 4) d q.address w y above (omega arith) at_d got.1 in
        let yb : y.values (d + 1) ≡ Pair q.rooted.bounds = kept_pair (d + 4) (d + 1) q.rooted.bounds w y e1 (omega arith) at_b got.1 in
        let yn : y.values (d + 2) ≡ Number n = kept_number (d + 4) (d + 2) n w y e2 (omega arith) at_n got.1 in
        let sty = stay_join d (d + 4) t w y (omega arith) st got.1 in
        operate_follows (NumberIn private sorts d t) op common before n (d + 2) (d + 4) (d + 2) (λ after. store kind place q (extended kind after) >> pure (either old before (extended kind after))) extends (beside private sorts numbers pairs log y) y refl got.0 yn
        (λ r.
        let m = extended kind r in
        let y1 = with_number (d + 2) r y in
        let y2 = with_number (d + 2) m y1 in
        let d2 : y2.values d ≡ Number q.address = under d (d + 2) (Number m) (Number q.address) y1 (omega arith) (under d (d + 2) (Number r) (Number q.address) y (omega arith) yd) in
        let b2 : y2.values (d + 1) ≡ Pair q.rooted.bounds = under (d + 1) (d + 2) (Number m) (Pair q.rooted.bounds) y1 (omega arith) (under (d + 1) (d + 2) (Number r) (Pair q.rooted.bounds) y (omega arith) yb) in
        let o2 : y2.values (d + 4) ≡ Number before = over (d + 4) (d + 2) (Number m) (Number before) y1 (omega arith) (over (d + 4) (d + 2) (Number r) (Number before) y (omega arith) got.0) in
        let a2 = agree_on private sorts numbers pairs (d + 2) (Number m) y1 e2 (agree_on private sorts numbers pairs (d + 2) (Number r) y e2 a) in
        let st2 = stay_on private sorts d t y1 (d + 2) (Number m) (omega arith) (stay_on private sorts d t y (d + 2) (Number r) (omega arith) sty) in
        on_step private sorts symbols (NumberIn private sorts d t) (bind (store kind place q m (beside private sorts numbers pairs log y2)) (λ x. pure (either old before m))) (s.Extend (d + 2) (d + 2) kind) stores y1 y2 (read_number _ (here (d + 2) (Number r) y.values))
        (and_on private sorts symbols (Same y2) (NumberIn private sorts d t) _ (s.Judge d (size_of kind) (d + 1) true place ∷ s.Store d (d + 2) kind ∷ []) last y2 (λ x. pure (either old before m))
        (stores_number kind place q m d (d + 1) (d + 2) numbers pairs log y2 d2 b2 (here (d + 2) (Number m) y1.values) a2)
        (λ x numbers pairs log z a same. finish_number d t numbers pairs log (s.Copy d (before_or_after old (d + 4) (d + 2))) z (either old before m) z.world above a (same_stay d t y2 z same st2)
        (copy_either old before m d (d + 4) (d + 2) z (of_same y2 z x same (d + 4) ∙ o2) (of_same y2 z x same (d + 2) ∙ here (d + 2) (Number m) y1.values))))))

    pub loads_pointer : (place : PlaceOf) (p : Pointer) (v b to : ℕ) (numbers : ℕ → ℕ) (pairs : ℕ → Rooted) (log : Log) (w : T) → private ≤ to → w.values v ≡ Number p.address → w.values b ≡ Pair p.rooted.bounds → Agree private sorts numbers pairs w
        → Sim private sorts (PointerIn private sorts to w) (load_ptr place p (beside private sorts numbers pairs log w)) (pass symbols (s.Judge v 8 b false place ∷ s.LoadPtr v to (to + 1) ∷ []) Next w)
    loads_pointer place p v b to numbers pairs log w above at_v at_b a =
        judge_follows private sorts symbols (PointerIn private sorts to w) false 8 place p (allow false 8 p >> read_pointer p) v b (s.LoadPtr v to (to + 1) ∷ []) (beside private sorts numbers pairs log w) w refl at_v at_b
        (allow_follows private sorts symbols (PointerIn private sorts to w) false 8 p (read_pointer p) (s.LoadPtr v to (to + 1)) [] (beside private sorts numbers pairs log w) w (pointer_came to (to + 1) (pointer_read w.world p.address) w) refl (read_number _ at_v)
        (finish_came to w p (pointer_read w.world p.address) _ w above a (λ v p q. refl)))

    pub with_either : (old : Bool) (x y : ℕ) (p : Pointer) → either old (with_address x p) (with_address y p) ≡ with_address (either old x y) p
    with_either true x y p = refl
    with_either false x y p = refl

    -- a pointer in memory that moves
    pub advance_at : (place : PlaceOf) (minus : Bool) (size : ℕ) (old : Bool) (d : ℕ) (q : Pointer) (i : ℕ) (t : T) (numbers : ℕ → ℕ) (pairs : ℕ → Rooted) (log : Log) (w : T) → private ≤ d → Agree private sorts numbers pairs w → Stay private sorts d t w
        → w.values d ≡ Number q.address → w.values (d + 1) ≡ Pair q.rooted.bounds → w.values (d + 2) ≡ Number (i * size % addresses)
        → SimP d t ((load_ptr place q >>= (λ before. store_ptr place q (step minus size before i) >> pure (either old before (step minus size before i)))) (beside private sorts numbers pairs log w))
        (pass symbols (s.Judge d 8 (d + 1) false place ∷ s.LoadPtr d (d + 4) (d + 4 + 1) ∷ s.Arith (d + 2) (plus_or_minus minus) U64 (d + 4) (d + 2) ∷ s.Judge d 8 (d + 1) true place ∷ s.StorePtr d (d + 2) (d + 4 + 1) ∷ s.Copy d (before_or_after old (d + 4) (d + 2)) ∷ s.Copy (d + 1) (d + 4 + 1) ∷ []) Next w)
    advance_at place minus size old d q i t numbers pairs log w above a st at_d at_b at_n =
        let last = s.Copy (d + 1) (d + 4 + 1) ∷ [] in
        let copies = s.Copy d (before_or_after old (d + 4) (d + 2)) ∷ last in
        let stores = s.Judge d 8 (d + 1) true place ∷ s.StorePtr d (d + 2) (d + 4 + 1) ∷ copies in
        let e1 : private ≤ d + 1 = omega (arith, above) in
        let e2 : private ≤ d + 2 = omega (arith, above) in
        and_on private sorts symbols (PointerIn private sorts (d + 4) w) (PointerIn private sorts d t) _ (s.Judge d 8 (d + 1) false place ∷ s.LoadPtr d (d + 4) (d + 4 + 1) ∷ []) (s.Arith (d + 2) (plus_or_minus minus) U64 (d + 4) (d + 2) ∷ stores) w
        (λ before. store_ptr place q (step minus size before i) >> pure (either old before (step minus size before i)))
        (loads_pointer place q d (d + 1) (d + 4) numbers pairs log w (omega (arith, above)) at_d at_b a)
        (λ before numbers pairs log y a got.
        let yd : y.values d ≡ Number q.address = kept_number (d + 4) d q.address w y above (omega arith) at_d got.2 in
        let yb : y.values (d + 1) ≡ Pair q.rooted.bounds = kept_pair (d + 4) (d + 1) q.rooted.bounds w y e1 (omega arith) at_b got.2 in
        let yn : y.values (d + 2) ≡ Number (i * size % addresses) = kept_number (d + 4) (d + 2) (i * size % addresses) w y e2 (omega arith) at_n got.2 in
        let sty = stay_join d (d + 4) t w y (omega arith) st got.2 in
        let m = stepped minus size before.address i in
        let moved_on = step minus size before i in
        let r = either old before moved_on in
        let b = before.rooted.bounds in
        let y1 = with_number (d + 2) m y in
        let d1 : y1.values d ≡ Number q.address = under d (d + 2) (Number m) (Number q.address) y (omega arith) yd in
        let b1 : y1.values (d + 1) ≡ Pair q.rooted.bounds = under (d + 1) (d + 2) (Number m) (Pair q.rooted.bounds) y (omega arith) yb in
        let o1 : y1.values (d + 4) ≡ Number before.address = over (d + 4) (d + 2) (Number m) (Number before.address) y (omega arith) got.0 in
        let p1 : y1.values (d + 4 + 1) ≡ Pair b = over (d + 4 + 1) (d + 2) (Number m) (Pair b) y (omega arith) got.1 in
        let a1 = agree_on private sorts numbers pairs (d + 2) (Number m) y e2 a in
        let st1 = stay_on private sorts d t y (d + 2) (Number m) (omega arith) sty in
        on_step private sorts symbols (PointerIn private sorts d t) (bind (store_ptr place q moved_on (beside private sorts numbers pairs log y1)) (λ x. pure r)) (s.Arith (d + 2) (plus_or_minus minus) U64 (d + 4) (d + 2)) stores y y1 (pm_step minus size before.address i (d + 2) (d + 4) (d + 2) y got.0 yn)
        (and_on private sorts symbols (Same y1) (PointerIn private sorts d t) _ (s.Judge d 8 (d + 1) true place ∷ s.StorePtr d (d + 2) (d + 4 + 1) ∷ []) copies y1 (λ x. pure r)
        (stores_pointer place q moved_on d (d + 1) (d + 2) (d + 4 + 1) numbers pairs log y1 d1 b1 (here (d + 2) (Number m) y.values) p1 a1)
        (λ x numbers pairs log z a same.
        let zo = of_same y1 z x same (d + 4) ∙ o1 in
        let zm = of_same y1 z x same (d + 2) ∙ here (d + 2) (Number m) y.values in
        let zp : z.values (d + 4 + 1) ≡ Pair b = of_same y1 z x same (d + 4 + 1) ∙ p1 in
        let f = either old before.address m in
        let z1 = with_number d f z in
        let S : Pointer → Type 0 = λ r. SimP d t (Done r (beside private sorts numbers pairs log z)) (pass symbols copies Next z) in
        subst S (sym (with_either old before.address m before))
        (on_step private sorts symbols (PointerIn private sorts d t) (Done (with_address f before) (beside private sorts numbers pairs log z)) (s.Copy d (before_or_after old (d + 4) (d + 2))) last z z1 (copy_either old before.address m d (d + 4) (d + 2) z zo zm)
        (finish_pair d t numbers pairs log (s.Copy (d + 1) (d + 4 + 1)) z1 (with_address f before) z.world above (agree_on private sorts numbers pairs d (Number f) z above a) (stay_on private sorts d t z d (Number f) (omega arith) (same_stay d t y1 z same st1)) (here d (Number f) z.values)
        (read_held_pair _ (over (d + 4 + 1) d (Number f) (Pair b) z (omega arith) zp)))))))

    pub same_root : (pairs : ℕ → Rooted) (y v : ℕ) (b : Bool) → (v == y) ≡ b → stored pairs y (pairs y) v ≡ pairs v
    same_root pairs y v true e = let same : v ≡ y = grind (arith, nat_tests, e) in ap (λ b. cond b (pairs y) (pairs v)) e ∙ ap pairs (sym same)
    same_root pairs y v false e = ap (λ b. cond b (pairs y) (pairs v)) e

    pub agree_same : (numbers : ℕ → ℕ) (pairs : ℕ → Rooted) (y : ℕ) (u : T) → Agree private sorts numbers pairs u → Agree private sorts numbers (stored pairs y (pairs y)) u
    agree_same numbers pairs y u a = λ v low. a v low ∙ ap (λ r. cond (sorts v) (Pair r.bounds) (Number (numbers v))) (sym (same_root pairs y v (v == y) refl))

    -- a private pointer that moves
    pub advance : (x : ℕ) (minus : Bool) (size : ℕ) (old : Bool) (d i : ℕ) (t : T) (numbers : ℕ → ℕ) (pairs : ℕ → Rooted) (log : Log) (u : T) → private ≤ d → x + 1 < private → sorts x ≡ false → sorts (x + 1) ≡ true → Agree private sorts numbers pairs u → Stay private sorts d t u → u.values d ≡ Number i
        → SimP d t (Done (either old record { address = numbers x; rooted = pairs (x + 1) } (step minus size record { address = numbers x; rooted = pairs (x + 1) } i)) record { numbers = stored numbers x (stepped minus size (numbers x) i); pairs = stored pairs (x + 1) (pairs (x + 1)); world = u.world; log = log })
        (pass symbols (scaled size d (d + 2) ++ (s.Copy (d + 2) x ∷ s.Arith d (plus_or_minus minus) U64 (d + 2) d ∷ s.Copy x d ∷ s.Copy d (before_or_after old (d + 2) d) ∷ s.Copy (d + 1) (x + 1) ∷ [])) Next u)
    advance x minus size old d i t numbers pairs log u above low sort sort_b a st at =
        let before = numbers x in
        let m = stepped minus size before i in
        let k = i * size % addresses in
        let b = (pairs (x + 1)).bounds in
        let p0 : Pointer = record { address = before; rooted = pairs (x + 1) } in
        let f = either old before m in
        let z : State = record { numbers = stored numbers x m; pairs = stored pairs (x + 1) (pairs (x + 1)); world = u.world; log = log } in
        let res : Ended Pointer = Done (with_address f p0) z in
        let u1 = with_number (d + 2) size u in
        let u2 = with_number d k u1 in
        let u3 = with_number (d + 2) before u2 in
        let u4 = with_number d m u3 in
        let u5 = with_number x m u4 in
        let u6 = with_number d f u5 in
        let e0 : x < private = omega (arith, low) in
        let e2 : private ≤ d + 2 = omega (arith, above) in
        let a2 = agree_on private sorts numbers pairs d (Number k) u1 above (agree_on private sorts numbers pairs (d + 2) (Number size) u e2 a) in
        let a4 = agree_on private sorts numbers pairs d (Number m) u3 above (agree_on private sorts numbers pairs (d + 2) (Number before) u2 e2 a2) in
        let a5 = agree_set numbers pairs x m u4 sort a4 in
        let a6 = agree_on private sorts (stored numbers x m) pairs d (Number f) u5 above a5 in
        let s2 = stay_on private sorts d t u1 d (Number k) (omega arith) (stay_on private sorts d t u (d + 2) (Number size) (omega arith) st) in
        let s4 = stay_on private sorts d t u3 d (Number m) (omega arith) (stay_on private sorts d t u2 (d + 2) (Number before) (omega arith) s2) in
        let s6 = stay_on private sorts d t u5 d (Number f) (omega arith) (stay_low d t u4 x (Number m) e0 s4) in
        let o3 : u3.values (d + 2) ≡ Number before = here (d + 2) (Number before) u2.values in
        let o4 : u4.values (d + 2) ≡ Number before = over (d + 2) d (Number m) (Number before) u3 (omega arith) o3 in
        let o5 : u5.values (d + 2) ≡ Number before = over (d + 2) x (Number m) (Number before) u4 (omega (arith, above, low)) o4 in
        let m5 : u5.values d ≡ Number m = over d x (Number m) (Number m) u4 (omega (arith, above, low)) (here d (Number m) u3.values) in
        let c5 = s.Copy (d + 1) (x + 1) ∷ [] in
        let c4 = s.Copy d (before_or_after old (d + 2) d) ∷ c5 in
        let c3 = s.Copy x d ∷ c4 in
        let c2 = s.Arith d (plus_or_minus minus) U64 (d + 2) d ∷ c3 in
        let S : Pointer → Type 0 = λ r. SimP d t (Done r z) (pass symbols (scaled size d (d + 2) ++ (s.Copy (d + 2) x ∷ c2)) Next u) in
        subst S (sym (with_either old before m p0))
        (scale_follows (PointerIn private sorts d t) res size i d (d + 2) (s.Copy (d + 2) x ∷ c2) u (omega arith) at
        (on_step private sorts symbols (PointerIn private sorts d t) res (s.Copy (d + 2) x) c2 u2 u3 (read_held_number _ (a2 x e0 ∙ home_number numbers pairs x sort))
        (on_step private sorts symbols (PointerIn private sorts d t) res (s.Arith d (plus_or_minus minus) U64 (d + 2) d) c3 u3 u4 (pm_step minus size before i d (d + 2) d u3 o3 (under d (d + 2) (Number before) (Number k) u2 (omega arith) (here d (Number k) u1.values)))
        (on_step private sorts symbols (PointerIn private sorts d t) res (s.Copy x d) c4 u4 u5 (read_held_number _ (here d (Number m) u3.values))
        (on_step private sorts symbols (PointerIn private sorts d t) res (s.Copy d (before_or_after old (d + 2) d)) c5 u5 u6 (copy_either old before m d (d + 2) d u5 o5 m5)
        (finish_pair d t (stored numbers x m) (stored pairs (x + 1) (pairs (x + 1))) log (s.Copy (d + 1) (x + 1)) u6 (with_address f p0) u.world above (agree_same (stored numbers x m) pairs (x + 1) u6 a6) s6 (here d (Number f) u5.values)
        (read_held_pair _ (a6 (x + 1) low ∙ home_pair (stored numbers x m) pairs (x + 1) sort_b))))))))

    pub finish_set_ptr : (d x : ℕ) (p : Pointer) (t : T) (numbers : ℕ → ℕ) (pairs : ℕ → Rooted) (log : Log) (u : T) → private ≤ d → x + 1 < private → sorts x ≡ false → sorts (x + 1) ≡ true → Agree private sorts numbers pairs u → Stay private sorts d t u → u.values d ≡ Number p.address → u.values (d + 1) ≡ Pair p.rooted.bounds
        → SimP d t (Done p record { numbers = stored numbers x p.address; pairs = stored pairs (x + 1) p.rooted; world = u.world; log = log }) (pass symbols (s.Copy x d ∷ s.Copy (x + 1) (d + 1) ∷ []) Next u)
    finish_set_ptr d x p t numbers pairs log u above low sort sort_b a st at at_b =
        let u1 = with_number x p.address u in
        let u2 = with_pair (x + 1) p.rooted.bounds u1 in
        let e0 : x < private = omega (arith, low) in
        let b1 : u1.values (d + 1) ≡ Pair p.rooted.bounds = over (d + 1) x (Number p.address) (Pair p.rooted.bounds) u (omega (arith, above, low)) at_b in
        let d1 : u1.values d ≡ Number p.address = over d x (Number p.address) (Number p.address) u (omega (arith, above, low)) at in (
          u2,
          first_step symbols (s.Copy x d) (s.Copy (x + 1) (d + 1) ∷ []) u u1 (read_held_number _ at) ∙ first_step symbols (s.Copy (x + 1) (d + 1)) [] u1 u2 (read_held_pair _ b1),
          refl,
          agree_set_pair (stored numbers x p.address) pairs (x + 1) p.rooted u1 sort_b (agree_set numbers pairs x p.address u sort a),
          (
            over d (x + 1) (Pair p.rooted.bounds) (Number p.address) u1 (omega (arith, above, low)) d1,
            over (d + 1) (x + 1) (Pair p.rooted.bounds) (Pair p.rooted.bounds) u1 (omega (arith, above, low)) b1,
            stay_low d t u1 (x + 1) (Pair p.rooted.bounds) low (stay_low d t u x (Number p.address) e0 st),
          ),
        )

    -- ---- calls

    -- the arguments stand where a call reads them
    pub Reads : List (ℕ × Option ℕ) → List Passed → T → Type 0
    Reads ids vs u = (go : List Value → Reached) → arguments_then u.values ids go ≡ go (values_of vs)

    abbrev pub ArgumentsIn : Arguments → ℕ → T → List Passed → T → Type 0
    ArgumentsIn args d t vs u = Reads (arguments_at args d) vs u × (length vs ≡ count args) × Stay private sorts d t u

    pub read_none : (d : ℕ) (u : T) → Reads [] [] u
    unfolding Reads
    read_none d u = λ go. refl

    pub read_one : (ids : List (ℕ × Option ℕ)) (vs : List Passed) (d n : ℕ) (u : T) → u.values d ≡ Number n → Reads ids vs u → Reads ((d, None) ∷ ids) (OfNumber n ∷ vs) u
    unfolding Reads
    read_one ids vs d n u at rest = λ go. read_number _ at ∙ rest (λ vs. go (record { number = n; bounds = full_bounds } ∷ vs))

    pub read_two : (ids : List (ℕ × Option ℕ)) (vs : List Passed) (d : ℕ) (p : Pointer) (u : T) → u.values d ≡ Number p.address → u.values (d + 1) ≡ Pair p.rooted.bounds → Reads ids vs u → Reads ((d, Some (d + 1)) ∷ ids) (OfPointer p ∷ vs) u
    unfolding Reads
    read_two ids vs d p u at at_b rest = λ go. read_number _ at ∙ read_bounds _ at_b ∙ rest (λ vs. go (record { number = p.address; bounds = p.rooted.bounds } ∷ vs))

    pub reads : (ids : List (ℕ × Option ℕ)) (vs : List Passed) (u : T) → Reads ids vs u → (go : List Value → Reached) → arguments_then u.values ids go ≡ go (values_of vs)
    unfolding Reads
    reads ids vs u h = h

    pub came_number : (d : ℕ) (t : T) (numbers : ℕ → ℕ) (pairs : ℕ → Rooted) (log : Log) (r : Answer) (u : T) → private ≤ d → Agree private sorts numbers pairs u → Stay private sorts d t u
        → SimN d t (bind (answered_with r (beside private sorts numbers pairs log u)) (λ v. pure (number_passed v))) (and_then (came_back (Some d) None (outcome_of r) u) (pass symbols []))
    came_number d t numbers pairs log (Comes (OfNumber n) w l) u above a st = (with_number d n (with_world w u), refl, refl, agree_on private sorts numbers pairs d (Number n) (with_world w u) above a, (here d (Number n) u.values, stay_on private sorts d t (with_world w u) d (Number n) (omega arith) st))
    came_number d t numbers pairs log (Comes (OfPointer p) w l) u above a st = (with_number d p.address (with_world w u), refl, refl, agree_on private sorts numbers pairs d (Number p.address) (with_world w u) above a, (here d (Number p.address) u.values, stay_on private sorts d t (with_world w u) d (Number p.address) (omega arith) st))
    came_number d t numbers pairs log (Stops why w l) u above a st = refl

    pub came_pointer : (d : ℕ) (t : T) (numbers : ℕ → ℕ) (pairs : ℕ → Rooted) (log : Log) (r : Answer) (u : T) → private ≤ d → Agree private sorts numbers pairs u → Stay private sorts d t u
        → SimP d t (bind (answered_with r (beside private sorts numbers pairs log u)) (λ v. pointer_passed v)) (and_then (came_back (Some d) (Some (d + 1)) (outcome_of r) u) (pass symbols []))
    came_pointer d t numbers pairs log (Comes (OfNumber n) w l) u above a st = finish_pointer d t numbers pairs (with_cause WasInteger l) u record { address = n; rooted = record { bounds = full_bounds; root = FullBy WasInteger } } w above a st
    came_pointer d t numbers pairs log (Comes (OfPointer p) w l) u above a st = finish_pointer d t numbers pairs l u p w above a st
    came_pointer d t numbers pairs log (Stops why w l) u above a st = refl
