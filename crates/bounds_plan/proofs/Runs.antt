-- One induction over the whole meaning: what each small event keeps between world and log before and after, every run keeps.
use Rattle.std.proofs.Common.{is_some, ℕ, zero, suc, ◌+◌, ◌-◌, ◌≡◌, ◌≤◌, refl, ap, ◌∙◌, cond, nat_lt, List, [], ◌∷◌, Option, Some, None, Bool, true, false, arith}
use Rattle.std.specs.Option.{option_map}
use Rattle.std.specs.List.{list_any}
use Rattle.mx_base.specs.declared.services.CService.{CService}
use Rattle.mx_base.specs.declared.services.CService.TheVariants as in_c
use Rattle.mx_base.specs.declared.limits.Bounds.{Bounds as BoundsPair}
use Rattle.mx_base.specs.declared.numbers.IntKind.{IntKind}
use Rattle.mx_base.specs.declared.places.Place.{Place}
use Rattle.mx_base.specs.declared.numbers.IntKind.TheVariants.{I8, U8, I16, U16, I32, U32, I64, U64}
use Rattle.mx_base.specs.Numbers.{size_of}
use Rattle.std.proofs.lemmas.Bool.Decides.{nat_tests}
use Rattle.mx_base.specs.Operators.{word_arithmetic}
use Rattle.mx_base.specs.Regions.{data_stack}
use Rattle.mx_base.specs.Bounds.{is_outside, leaving_value, last_byte, bounds_at, moved}
use Rattle.mx_base.specs.Memory.{number_at}
use Rattle.mx_base.specs.Access.{Refusal, refusal}
use Rattle.mx_base.specs.BoundsStore.{BoundsStore, keep_bounds, load_bounds}
use Rattle.mx_base.specs.Services.{Guest, Served, Answers, Exits, Overflows, Refused}
use Rattle.mx_base.specs.StopOfC.{StopOfC, StackOver, OutOfTurns}
use Rattle.mx_base.specs.World.{World, Log, UnsetPointer, Root, read_noted, number_written, with_store, stored_or_stopped, loaded_or_stopped, pointer_read, pointer_written}
use Rattle.mx_base.proofs.BoundsLemmas.{is_outside-leaving_value}
use Rattle.fat_ir.specs.Calls.{with_turns, with_data_sp}
use Rattle.fat_ir.specs.Step.{Located, ObjectAt, FunctionAt, served_in_c}
use Rattle.fat_ir.specs.Functions.{Target, OfC, Outside}
use Rattle.bounds_plan.specs.meaning.Core.{Scalar, NumberExpr, Word, Variable, Assign, Operate, Compare, Convert, AsNumber, Load, Store, Update, UpdateAt, And, Or, Choose, Call, Serve, Ask, PointerExpr, Null, FromInteger, Function, Object, InFrame, VariablePtr, AssignPtr, Member, Element, ElementAfter, LoadPtr, StorePtr, Advance, AdvanceAt, ChoosePtr, CallPtr, Alloc, SetBounds, NarrowBounds, CopyBounds, InitBounds, BoundOf, Arguments, NoMore, WithNumber, WithPointer, Effect, Nothing, OfNumber as ForNumber, OfPointer as ForPointer, CopyStruct, Statement, Skip, Do, Then, If, While, DoWhile, For, Break, Continue, Return, ReturnNumber, ReturnPtr}
use Rattle.bounds_plan.specs.meaning.State.{Pointer, Passed, OfNumber, OfPointer, State, Ended, Done, Stopped, M, bind, ◌>>=◌, ◌>>◌, pure, stop, unless, with_made, with_cause}
use Rattle.bounds_plan.specs.meaning.Accesses.{leaves, judge, allow, access, read_number, write_number, with_root, came, read_pointer, went, write_pointer, load, store, load_ptr, store_ptr, with_granule}
use Rattle.bounds_plan.specs.meaning.Expressions.{Answer, Comes, Stops, CalleeOfC, Names, answered_with, calling, pointer_passed, number_passed, served_with, serving, block, choose, divided, operate, object, in_frame, number, pointer, arguments, step}
use Rattle.bounds_plan.specs.meaning.Statements.{part, copy_scalar, copy_scalars, effect, turn_from, turn, Flow, Normal, Broke, Continued, Returned, Left, after_body, round, loop, round_once, loop_once, after_first, statement}
use Rattle.bounds_plan.specs.meaning.Functions.{Parameter, Private, Framed, Framed_variable, FunctionOfC, arrive, arrive_all, made_in_frame, unset, state_at_entry, result_of, answer_of, body_run, taking_turn, entering, returning, Linked, call_of, names_of, entered_at, calls}
use Rattle.bounds_plan.specs.meaning.Functions.{turn_from as world_turn_from}
use Rattle.bounds_plan.proofs.Roots.{load-some}
use Rattle.bounds_plan.specs.laws.Laws.{Relation, Leaves, LeftByCalls, scalar_size, CopyFact, OfEffect, OfCopies}

-- what each small event keeps
pub record Keeps (R : Relation) : Type 0 where
  pub same : (w : World) (l : Log) → R w l w l
  pub join : (w : World) (l : Log) (u : World) (m : Log) (v : World) (n : Log) → R w l u m → R u m v n → R w l v n
  pub logged : (w : World) (l m : Log) → m.trace ≡ l.trace → R w l w m
  pub asked : (w : World) (l : Log) (s : BoundsStore) → ((g : ℕ) → s.kept g ≡ w.store.kept g) → R w l (with_store w s) l
  pub served : (w : World) (l : Log) (service : CService) (word answer : ℕ) (g : Guest) → served_in_c service word w ≡ Answers answer g → R w l (record w { guest = g }) l
  pub turned : (w : World) (l : Log) (n : ℕ) → w.turns ≡ suc n → R w l (with_turns n w) l
  pub framed : (w : World) (l : Log) (sp : ℕ) → R w l (with_data_sp sp w) l
  pub read : (w : World) (l : Log) (n : ℕ) (p : Pointer) → refusal false n p.address ≡ None → is_outside p.address n p.rooted.bounds ≡ false → R w l (read_noted n w p.address) (access false n p l)
  pub wrote : (w : World) (l : Log) (n : ℕ) (p : Pointer) (v : ℕ) → refusal true n p.address ≡ None → is_outside p.address n p.rooted.bounds ≡ false → R w l (number_written n w p.address v) (access true n p l)
  pub wrote_pointer : (w : World) (l : Log) (p : Pointer) (v : ℕ) (b : BoundsPair) (s : BoundsStore) → refusal true 8 p.address ≡ None → is_outside p.address 8 p.rooted.bounds ≡ false → keep_bounds w.store p.address v b ≡ Some s
      → R w l (with_store (number_written 8 w p.address v) s) (access true 8 p l)

module _ (R : Relation) (k : Keeps R) where
  abbrev pub From : {A : Type 0} → World → Log → Ended A → Type 0
  From w l (Done v z) = R w l z.world z.log
  From w l (Stopped why z) = R w l z.world z.log

  abbrev pub Kept : {A : Type 0} → State → Ended A → Type 0
  Kept s r = From s.world s.log r

  abbrev pub KeptM : {A : Type 0} → M A → Type 0
  KeptM m = (s : State) → Kept s (m s)

  abbrev KeptC : World → Log → Answer → Type 0
  KeptC w l a = Leaves (R w l) a

  abbrev pub KeptF : CalleeOfC → Type 0
  KeptF call = LeftByCalls R call

  further : {A : Type 0} (s z : State) (r : Ended A) → R s.world s.log z.world z.log → Kept z r → Kept s r
  further s z (Done v y) h g = k.join s.world s.log z.world z.log y.world y.log h g
  further s z (Stopped why y) h g = k.join s.world s.log z.world z.log y.world y.log h g

  after : {A B : Type 0} (s : State) (r : Ended A) (go : A → M B) → Kept s r → ((v : A) → KeptM (go v)) → Kept s (bind r go)
  after s (Done v z) go h g = further s z (go v z) h (g v z)
  after s (Stopped why z) go h g = h

  pub seq : {A B : Type 0} (m : M A) (go : A → M B) → KeptM m → ((v : A) → KeptM (go v)) → KeptM (m >>= go)
  seq m go h g = λ s. after s (m s) go (h s) g

  pub seq_ : {A B : Type 0} (m : M A) (n : M B) → KeptM m → KeptM n → KeptM (m >> n)
  seq_ m n h g = λ s. after s (m s) (λ v. n) (h s) (λ v. g)

  pub kept-pure : {A : Type 0} (v : A) → KeptM (pure v)
  kept-pure v = λ s. k.same s.world s.log

  kept-unless : {B : Type 0} (o : Option StopOfC) (go : M B) → (o ≡ None → KeptM go) → KeptM (unless o >> go)
  kept-unless None go h = h refl
  kept-unless (Some why) go h = λ s. k.same s.world s.log

  -- ---- accesses

  none-mapped : {X Y : Type 0} (f : X → Y) (o : Option X) → option_map f o ≡ None → o ≡ None
  none-mapped f None e = refl
  none-mapped f (Some x) e = absurd (cc)

  inside : (p s : ℕ) (b : BoundsPair) → leaving_value p s b ≡ None → is_outside p s b ≡ false
  inside p s b e = is_outside-leaving_value p s b ∙ ap is_some e

  pub kept-judge : {B : Type 0} (write : Bool) (size : ℕ) (place : Place) (p : Pointer) (go : M B) → (is_outside p.address size p.rooted.bounds ≡ false → KeptM go) → KeptM (judge write size place p >> go)
  kept-judge write size place p go h = kept-unless (leaves p.rooted.bounds record { place = place; write = write; size = size } (leaving_value p.address size p.rooted.bounds)) go (λ e. h (inside p.address size p.rooted.bounds (none-mapped _ (leaving_value p.address size p.rooted.bounds) e)))

  pub kept-allow : {B : Type 0} (write : Bool) (size : ℕ) (p : Pointer) (go : M B) → (refusal write size p.address ≡ None → KeptM go) → KeptM (allow write size p >> go)
  kept-allow write size p go h = kept-unless (option_map _ (refusal write size p.address)) go (λ e. h (none-mapped _ (refusal write size p.address) e))

  -- what the reading and the writing of some bytes through a pointer keep
  abbrev pub Reads : ℕ → Pointer → Type 0
  Reads n p = (w : World) (l : Log) → R w l (read_noted n w p.address) (access false n p l)

  abbrev pub Writes : ℕ → Pointer → Type 0
  Writes n p = (w : World) (l : Log) (v : ℕ) → R w l (number_written n w p.address v) (access true n p l)

  -- and the writing of a pointer, whose bounds are kept
  abbrev pub KeepsAt : Pointer → Type 0
  KeepsAt p = (w : World) (l : Log) (v : ℕ) (b : BoundsPair) (s : BoundsStore) → keep_bounds w.store p.address v b ≡ Some s → R w l (with_store (number_written 8 w p.address v) s) (access true 8 p l)

  kept-read_number : (kind : IntKind) (p : Pointer) → Reads (size_of kind) p → KeptM (read_number kind p)
  kept-read_number kind p h = λ s. h s.world s.log

  kept-write_number : (kind : IntKind) (p : Pointer) (n : ℕ) → Writes (size_of kind) p → KeptM (write_number kind p n)
  kept-write_number kind p n h = λ s. h s.world s.log n

  kept-root : (value : ℕ) (b : BoundsPair) (root : Option Root) (w : World) (l : Log) (u : World) (s : State) → R w l u s.log → From w l (with_root value b root u s)
  kept-root value b (Some root) w l u s h = h
  kept-root value b None w l u s h = k.join w l u s.log u _ h (k.logged u s.log _ refl)

  kept-came : (p : Pointer) (w : World) (l : Log) (t : World) (v : ℕ) (o : Option (BoundsPair × BoundsStore)) (s : State) → load_bounds t.store p.address v ≡ o → R w l t s.log → From w l (came p (loaded_or_stopped t v o) s)
  kept-came p w l t v None s e h = h
  kept-came p w l t v (Some q) s e h = kept-root v q.0 _ w l (with_store t q.1) record s { log = with_granule p.address s.log }
      (k.join w l t s.log (with_store t q.1) (with_granule p.address s.log) h
      (k.join t s.log (with_store t q.1) s.log (with_store t q.1) (with_granule p.address s.log) (k.asked t s.log q.1 (load-some t.store p.address v q e).1) (k.logged (with_store t q.1) s.log _ refl)))

  pub kept-read_pointer : (p : Pointer) → Reads 8 p → KeptM (read_pointer p)
  unfolding pointer_read
  kept-read_pointer p h = λ s. kept-came p s.world s.log (read_noted 8 s.world p.address) (number_at 8 s.world.bytes p.address) (load_bounds s.world.store p.address (number_at 8 s.world.bytes p.address)) record s { log = access false 8 p s.log } refl (h s.world s.log)

  kept-went : (p : Pointer) (root : Root) (v : ℕ) (b : BoundsPair) (o : Option BoundsStore) (s : State) → Writes 8 p → KeepsAt p → keep_bounds s.world.store p.address v b ≡ o
      → From s.world s.log (went p root (stored_or_stopped (number_written 8 s.world p.address v) o) record s { log = access true 8 p s.log })
  kept-went p root v b None s h g e = h s.world s.log v
  kept-went p root v b (Some q) s h g e = let u = with_store (number_written 8 s.world p.address v) q in k.join s.world s.log u (access true 8 p s.log) u _ (g s.world s.log v b q e) (k.logged u (access true 8 p s.log) _ refl)

  pub kept-write_pointer : (p v : Pointer) → Writes 8 p → KeepsAt p → KeptM (write_pointer p v)
  unfolding pointer_written
  kept-write_pointer p v h g = λ s. kept-went p v.rooted.root v.address v.rooted.bounds (keep_bounds s.world.store p.address v.address v.rooted.bounds) s h g refl

  kept-load : (kind : IntKind) (place : Place) (p : Pointer) → KeptM (load kind place p)
  kept-load kind place p = kept-judge false (size_of kind) place p _ (λ in_bounds. kept-allow false (size_of kind) p _ (λ open_bytes. kept-read_number kind p (λ w l. k.read w l (size_of kind) p open_bytes in_bounds)))

  kept-store : (kind : IntKind) (place : Place) (p : Pointer) (n : ℕ) → KeptM (store kind place p n)
  kept-store kind place p n = kept-judge true (size_of kind) place p _ (λ in_bounds. kept-allow true (size_of kind) p _ (λ open_bytes. kept-write_number kind p n (λ w l v. k.wrote w l (size_of kind) p v open_bytes in_bounds)))

  kept-load_ptr : (place : Place) (p : Pointer) → KeptM (load_ptr place p)
  kept-load_ptr place p = kept-judge false 8 place p _ (λ in_bounds. kept-allow false 8 p _ (λ open_bytes. kept-read_pointer p (λ w l. k.read w l 8 p open_bytes in_bounds)))

  kept-store_ptr : (place : Place) (p v : Pointer) → KeptM (store_ptr place p v)
  kept-store_ptr place p v = kept-judge true 8 place p _ (λ in_bounds. kept-allow true 8 p _ (λ open_bytes. kept-write_pointer p v (λ w l n. k.wrote w l 8 p n open_bytes in_bounds) (λ w l n b s e. k.wrote_pointer w l p n b s open_bytes in_bounds e)))

  -- ---- calls and services

  kept-answered : (s : State) (a : Answer) → KeptC s.world s.log a → Kept s (answered_with a s)
  kept-answered s (Comes v w l) h = h
  kept-answered s (Stops why w l) h = h

  kept-calling : (names : Names) → KeptF names.call → (symbol : ℕ) (args : List Passed) → KeptM (calling names symbol args)
  kept-calling names h symbol args = λ s. kept-answered s (names.call symbol args s.world s.log) (h symbol args s.world s.log)

  kept-log : {A : Type 0} (v : A) (s : State) (l : Log) → l.trace ≡ s.log.trace → R s.world s.log s.world l
  kept-log v s l e = k.logged s.world s.log l e

  kept-pointer_passed : (v : Passed) → KeptM (pointer_passed v)
  kept-pointer_passed (OfNumber n) = λ s. k.logged s.world s.log _ refl
  kept-pointer_passed (OfPointer p) = λ s. k.same s.world s.log

  kept-served : (service : CService) (word : ℕ) (s : State) (a : Served Refusal) → served_in_c service word s.world ≡ a → Kept s (served_with a s)
  kept-served service word s (Answers x g) e = k.served s.world s.log service word x g e
  kept-served service word s (Exits code) e = k.same s.world s.log
  kept-served service word s Overflows e = k.same s.world s.log
  kept-served service word s (Refused why) e = k.same s.world s.log

  kept-serving : (service : CService) (word : ℕ) → KeptM (serving service word)
  kept-serving service word = λ s. kept-served service word s (served_in_c service word s.world) refl

  kept-block : (size a : ℕ) → KeptM (block size a)
  kept-block size zero = λ s. k.logged s.world s.log _ refl
  kept-block size (suc a) = λ s. k.logged s.world s.log _ refl

  -- ---- expressions

  kept-choose : {A : Type 0} (n : ℕ) (a b : M A) → KeptM a → KeptM b → KeptM (choose n a b)
  kept-choose zero a b h g = g
  kept-choose (suc n) a b h g = h

  kept-divided : (o : Option ℕ) → KeptM (divided o)
  kept-divided None = λ s. k.same s.world s.log
  kept-divided (Some n) = λ s. k.same s.world s.log

  kept-object : (l : Located) (offset size : ℕ) → KeptM (object l offset size)
  kept-object (ObjectAt a) offset size = λ s. k.same s.world s.log
  kept-object (FunctionAt a) offset size = λ s. k.logged s.world s.log _ refl

  mutual
    pub kept-number : (names : Names) → KeptF names.call → (e : NumberExpr) → KeptM (number names e)
    kept-number names h (Word n) = kept-pure n
    kept-number names h (Variable x) = λ s. k.same s.world s.log
    kept-number names h (Assign x e) = seq (number names e) _ (kept-number names h e) (λ n s. k.same s.world s.log)
    kept-number names h (Operate op kind a b) = seq (number names a) _ (kept-number names h a) (λ x. seq (number names b) _ (kept-number names h b) (λ y. kept-divided (word_arithmetic op kind x y)))
    kept-number names h (Compare op kind a b) = seq (number names a) _ (kept-number names h a) (λ x. seq (number names b) _ (kept-number names h b) (λ y s. k.same s.world s.log))
    kept-number names h (Convert kind e) = seq (number names e) _ (kept-number names h e) (λ n s. k.same s.world s.log)
    kept-number names h (AsNumber p) = seq (pointer names p) _ (kept-pointer names h p) (λ a s. k.same s.world s.log)
    kept-number names h (Load kind place p) = seq (pointer names p) _ (kept-pointer names h p) (λ a. kept-load kind place a)
    kept-number names h (Store kind place p e) = seq (pointer names p) _ (kept-pointer names h p) (λ a. seq (number names e) _ (kept-number names h e) (λ n. seq_ (store kind place a n) _ (kept-store kind place a n) (kept-pure n)))
    kept-number names h (Update x kind op common e old) = seq (number names e) _ (kept-number names h e) (λ n s. after s (operate op common (s.numbers x) n s) _ (kept-divided (word_arithmetic op common (s.numbers x) n) s) (λ m t. k.same t.world t.log))
    kept-number names h (UpdateAt kind place p op common e old) = seq (pointer names p) _ (kept-pointer names h p) (λ a. seq (number names e) _ (kept-number names h e) (λ n. seq (load kind place a) _ (kept-load kind place a) (λ before. seq (operate op common before n) _ (kept-divided (word_arithmetic op common before n)) (λ m. seq_ (store kind place a _) _ (kept-store kind place a _) (λ s. k.same s.world s.log)))))
    kept-number names h (And a b) = seq (number names a) _ (kept-number names h a) (λ x. kept-choose x _ _ (seq (number names b) _ (kept-number names h b) (λ y s. k.same s.world s.log)) (λ s. k.same s.world s.log))
    kept-number names h (Or a b) = seq (number names a) _ (kept-number names h a) (λ x. kept-choose x _ _ (λ s. k.same s.world s.log) (seq (number names b) _ (kept-number names h b) (λ y s. k.same s.world s.log)))
    kept-number names h (Choose test a b) = seq (number names test) _ (kept-number names h test) (λ x. kept-choose x _ _ (kept-number names h a) (kept-number names h b))
    kept-number names h (Call symbol args) = seq (arguments names args) _ (kept-arguments names h args) (λ vs. seq (calling names symbol vs) _ (kept-calling names h symbol vs) (λ v s. k.same s.world s.log))
    kept-number names h (Serve service e) = seq (number names e) _ (kept-number names h e) (λ word. kept-serving service word)
    kept-number names h (Ask service) = kept-serving service 0

    pub kept-pointer : (names : Names) → KeptF names.call → (e : PointerExpr) → KeptM (pointer names e)
    kept-pointer names h Null = λ s. k.logged s.world s.log _ refl
    kept-pointer names h (FromInteger e) = seq (number names e) _ (kept-number names h e) (λ n s. k.logged s.world s.log _ refl)
    kept-pointer names h (Function symbol) = kept-object (names.located symbol) 0 1
    kept-pointer names h (Object symbol offset size) = kept-object (names.located symbol) offset size
    kept-pointer names h (InFrame offset size) = λ s. k.same s.world s.log
    kept-pointer names h (VariablePtr x) = λ s. k.same s.world s.log
    kept-pointer names h (AssignPtr x e) = seq (pointer names e) _ (kept-pointer names h e) (λ p s. k.same s.world s.log)
    kept-pointer names h (Member offset rule e) = seq (pointer names e) _ (kept-pointer names h e) (λ p s. k.same s.world s.log)
    kept-pointer names h (Element minus size e i) = seq (pointer names e) _ (kept-pointer names h e) (λ p. seq (number names i) _ (kept-number names h i) (λ n s. k.same s.world s.log))
    kept-pointer names h (ElementAfter size i e) = seq (number names i) _ (kept-number names h i) (λ n. seq (pointer names e) _ (kept-pointer names h e) (λ p s. k.same s.world s.log))
    kept-pointer names h (LoadPtr place e) = seq (pointer names e) _ (kept-pointer names h e) (λ p. kept-load_ptr place p)
    kept-pointer names h (StorePtr place to e) = seq (pointer names to) _ (kept-pointer names h to) (λ p. seq (pointer names e) _ (kept-pointer names h e) (λ v. seq_ (store_ptr place p v) _ (kept-store_ptr place p v) (kept-pure v)))
    kept-pointer names h (Advance x minus size i old) = seq (number names i) _ (kept-number names h i) (λ n s. k.same s.world s.log)
    kept-pointer names h (AdvanceAt place e minus size i old) = seq (pointer names e) _ (kept-pointer names h e) (λ p. seq (number names i) _ (kept-number names h i) (λ n. seq (load_ptr place p) _ (kept-load_ptr place p) (λ before. seq_ (store_ptr place p _) _ (kept-store_ptr place p _) (λ s. k.same s.world s.log))))
    kept-pointer names h (ChoosePtr test a b) = seq (number names test) _ (kept-number names h test) (λ x. kept-choose x _ _ (kept-pointer names h a) (kept-pointer names h b))
    kept-pointer names h (CallPtr symbol args) = seq (arguments names args) _ (kept-arguments names h args) (λ vs. seq (calling names symbol vs) _ (kept-calling names h symbol vs) (λ v. kept-pointer_passed v))
    kept-pointer names h (Alloc e) = seq (number names e) _ (kept-number names h e) (λ n. seq (serving in_c.Alloc n) _ (kept-serving in_c.Alloc n) (λ a. kept-block n a))
    kept-pointer names h (SetBounds e n) = seq (pointer names e) _ (kept-pointer names h e) (λ q. seq (number names n) _ (kept-number names h n) (λ size s. k.logged s.world s.log _ refl))
    kept-pointer names h (NarrowBounds e f n) = seq (pointer names e) _ (kept-pointer names h e) (λ p. seq (pointer names f) _ (kept-pointer names h f) (λ q. seq (number names n) _ (kept-number names h n) (λ size s. k.same s.world s.log)))
    kept-pointer names h (CopyBounds e f) = seq (pointer names e) _ (kept-pointer names h e) (λ q. seq (pointer names f) _ (kept-pointer names h f) (λ r s. k.same s.world s.log))
    kept-pointer names h (InitBounds e) = seq (pointer names e) _ (kept-pointer names h e) (λ q s. k.logged s.world s.log _ refl)
    kept-pointer names h (BoundOf upper e) = seq (pointer names e) _ (kept-pointer names h e) (λ q s. k.same s.world s.log)

    pub kept-arguments : (names : Names) → KeptF names.call → (args : Arguments) → KeptM (arguments names args)
    kept-arguments names h NoMore = λ s. k.same s.world s.log
    kept-arguments names h (WithNumber e rest) = seq (number names e) _ (kept-number names h e) (λ n. seq (arguments names rest) _ (kept-arguments names h rest) (λ vs s. k.same s.world s.log))
    kept-arguments names h (WithPointer e rest) = seq (pointer names e) _ (kept-pointer names h e) (λ p. seq (arguments names rest) _ (kept-arguments names h rest) (λ vs s. k.same s.world s.log))

  -- ---- turns of calls

  onward : (w : World) (l : Log) (u : World) (m : Log) (a : Answer) → R w l u m → KeptC u m a → KeptC w l a
  onward w l u m (Comes v x n) h g = k.join w l u m x n h g
  onward w l u m (Stops why x n) h g = k.join w l u m x n h g

  kept-world_turn : (n : ℕ) (w : World) (l : Log) (go : World → Answer) → w.turns ≡ n → ((u : World) → KeptC u l (go u)) → KeptC w l (world_turn_from n w l go)
  kept-world_turn zero w l go e all = k.same w l
  kept-world_turn (suc n) w l go e all = onward w l (with_turns n w) l (go (with_turns n w)) (k.turned w l n e) (all (with_turns n w))

  pub kept-taking_turn : (w : World) (l : Log) (go : World → Answer) → ((u : World) → KeptC u l (go u)) → KeptC w l (taking_turn w l go)
  kept-taking_turn w l go all = kept-world_turn w.turns w l go refl all

  -- ---- structs that are copied: what is kept is given by a fact about their sizes and scalars

  -- what the accesses of a scalar keep
  abbrev pub CopiesScalar : (to from : Pointer) → ℕ → ℕ → Type 0
  CopiesScalar to from offset n = (refusal false n (part offset from).address ≡ None → Reads n (part offset from)) × (refusal true n (part offset to).address ≡ None → Writes n (part offset to)) × (n ≡ 8 → refusal true 8 (part offset to).address ≡ None → KeepsAt (part offset to))

  abbrev pub CopiesAll : (to from : Pointer) → List Scalar → Type 0
  CopiesAll to from [] = Unit {0}
  CopiesAll to from (x ∷ rest) = CopiesScalar to from x.offset (scalar_size x.kind) × CopiesAll to from rest

  kept-copy_scalar : (kind : Option IntKind) (offset : ℕ) (to from : Pointer) → CopiesScalar to from offset (scalar_size kind) → KeptM (copy_scalar kind (part offset to) (part offset from))
  kept-copy_scalar None offset to from h = kept-allow false 8 (part offset from) _ (λ e. seq (read_pointer (part offset from)) _ (kept-read_pointer (part offset from) (h.0 e)) (λ v. kept-allow true 8 (part offset to) (write_pointer (part offset to) v) (λ f. kept-write_pointer (part offset to) v (h.1 f) (h.2 refl f))))
  kept-copy_scalar (Some kind) offset to from h = kept-allow false (size_of kind) (part offset from) _ (λ e. seq (read_number kind (part offset from)) _ (kept-read_number kind (part offset from) (h.0 e)) (λ n. kept-allow true (size_of kind) (part offset to) (write_number kind (part offset to) n) (λ f. kept-write_number kind (part offset to) n (h.1 f))))

  kept-copy_scalars : (scalars : List Scalar) (to from : Pointer) → CopiesAll to from scalars → KeptM (copy_scalars scalars to from)
  kept-copy_scalars [] to from h = λ s. k.same s.world s.log
  kept-copy_scalars (x ∷ rest) to from h = seq_ (copy_scalar x.kind (part x.offset to) (part x.offset from)) _ (kept-copy_scalar x.kind x.offset to from h.0) (kept-copy_scalars rest to from h.1)

  -- ---- statements

  module _ (F : CopyFact) (copies : (size : ℕ) (scalars : List Scalar) → F size scalars → (to from : Pointer) → is_outside (part 0 from).address size from.rooted.bounds ≡ false → is_outside (part 0 to).address size to.rooted.bounds ≡ false → CopiesAll to from scalars) where
    pub kept-effect : (names : Names) → KeptF names.call → (e : Effect) → OfEffect F e → KeptM (effect names e)
    kept-effect names h Nothing fit = λ s. k.same s.world s.log
    kept-effect names h (ForNumber e) fit = seq_ (number names e) _ (kept-number names h e) (λ s. k.same s.world s.log)
    kept-effect names h (ForPointer e) fit = seq_ (pointer names e) _ (kept-pointer names h e) (λ s. k.same s.world s.log)
    kept-effect names h (CopyStruct size scalars to_place to from_place from) fit = seq (pointer names to) _ (kept-pointer names h to) (λ t. seq (pointer names from) _ (kept-pointer names h from) (λ f.
        kept-judge false size from_place (part 0 f) _ (λ from_in. kept-judge true size to_place (part 0 t) _ (λ to_in. kept-copy_scalars scalars t f (copies size scalars fit t f from_in to_in)))))

    kept-turn_from : (n : ℕ) (s : State) → s.world.turns ≡ n → Kept s (turn_from n s)
    kept-turn_from zero s e = k.same s.world s.log
    kept-turn_from (suc n) s e = k.turned s.world s.log n e

    kept-turn : KeptM turn
    kept-turn = λ s. kept-turn_from s.world.turns s refl

    kept-after_body : (f : Flow) (go : M Flow) → KeptM go → KeptM (after_body f go)
    kept-after_body Normal go h = h
    kept-after_body Continued go h = h
    kept-after_body Broke go h = kept-pure Normal
    kept-after_body (Returned v) go h = kept-pure (Returned v)
    kept-after_body Left go h = kept-pure Left

    kept-round : (test : M ℕ) (body : M Flow) (step : M (Unit {0})) (again : M Flow) → KeptM test → KeptM body → KeptM step → KeptM again → KeptM (round test body step again)
    kept-round test body step again ht hb hs ha = seq test _ ht (λ x. kept-choose x _ _ (seq body _ hb (λ f. kept-after_body f _ (seq_ step again hs ha))) (kept-pure Normal))

    kept-loop : (room : ℕ) (test : M ℕ) (body : M Flow) (step : M (Unit {0})) → KeptM test → KeptM body → KeptM step → KeptM (loop room test body step)
    kept-loop zero test body step ht hb hs = kept-round test body step (stop OutOfTurns) ht hb hs (λ s. k.same s.world s.log)
    kept-loop (suc room) test body step ht hb hs = kept-round test body step _ ht hb hs (seq_ turn _ kept-turn (kept-loop room test body step ht hb hs))

    kept-round_once : (body : M Flow) (test : M ℕ) (again : M Flow) → KeptM body → KeptM test → KeptM again → KeptM (round_once body test again)
    kept-round_once body test again hb ht ha = seq body _ hb (λ f. kept-after_body f _ (seq test _ ht (λ x. kept-choose x _ _ ha (kept-pure Normal))))

    kept-loop_once : (room : ℕ) (body : M Flow) (test : M ℕ) → KeptM body → KeptM test → KeptM (loop_once room body test)
    kept-loop_once zero body test hb ht = kept-round_once body test (stop OutOfTurns) hb ht (λ s. k.same s.world s.log)
    kept-loop_once (suc room) body test hb ht = kept-round_once body test _ hb ht (seq_ turn _ kept-turn (kept-loop_once room body test hb ht))

    kept-after_first : (f : Flow) (go : M Flow) → KeptM go → KeptM (after_first f go)
    kept-after_first Normal go h = h
    kept-after_first Broke go h = kept-pure Broke
    kept-after_first Continued go h = kept-pure Continued
    kept-after_first (Returned v) go h = kept-pure (Returned v)
    kept-after_first Left go h = kept-pure Left

    pub kept-statement : (names : Names) → KeptF names.call → (st : Statement) → OfCopies F st → KeptM (statement names st)
    kept-statement names h Skip fit = kept-pure Normal
    kept-statement names h (Do e) fit = seq_ (effect names e) _ (kept-effect names h e fit) (kept-pure Normal)
    kept-statement names h (Then a b) fit = seq (statement names a) _ (kept-statement names h a fit.0) (λ f. kept-after_first f _ (kept-statement names h b fit.1))
    kept-statement names h (If test a b) fit = seq (number names test) _ (kept-number names h test) (λ x. kept-choose x _ _ (kept-statement names h a fit.0) (kept-statement names h b fit.1))
    kept-statement names h (While test body) fit = λ s. kept-loop s.world.turns _ _ _ (kept-number names h test) (kept-statement names h body fit) (λ s. k.same s.world s.log) s
    kept-statement names h (DoWhile body test) fit = λ s. kept-loop_once s.world.turns _ _ (kept-statement names h body fit) (kept-number names h test) s
    kept-statement names h (For test step body) fit = λ s. kept-loop s.world.turns _ _ _ (kept-number names h test) (kept-statement names h body fit.1) (kept-effect names h step fit.0) s
    kept-statement names h Break fit = kept-pure Broke
    kept-statement names h Continue fit = kept-pure Continued
    kept-statement names h Return fit = kept-pure Left
    kept-statement names h (ReturnNumber e) fit = seq (number names e) _ (kept-number names h e) (λ n s. k.same s.world s.log)
    kept-statement names h (ReturnPtr e) fit = seq (pointer names e) _ (kept-pointer names h e) (λ p s. k.same s.world s.log)

    -- ---- functions

    own-bounds : (a n : ℕ) → 1 ≤ n → is_outside a n (bounds_at a n) ≡ false
    unfolding is_outside last_byte bounds_at
    own-bounds a n some = grind (arith, nat_tests)

    some-size : (kind : IntKind) → 1 ≤ size_of kind
    some-size I8 = omega arith
    some-size U8 = omega arith
    some-size I16 = omega arith
    some-size U16 = omega arith
    some-size I32 = omega arith
    some-size U32 = omega arith
    some-size I64 = omega arith
    some-size U64 = omega arith

    -- a parameter in the frame is written through its own bounds
    kept-frame : {B : Type 0} (offset size : ℕ) (go : Pointer → M B) → ((p : Pointer) → is_outside p.address size p.rooted.bounds ≡ false → KeptM (go p)) → 1 ≤ size → KeptM (in_frame offset size >>= go)
    kept-frame offset size go h some = λ s. h _ (own-bounds (moved s.world.data_sp offset) size some) s

    kept-arrive : (p : Parameter) (v : Passed) → KeptM (arrive p v)
    kept-arrive (Private x (Some kind)) v = λ s. k.same s.world s.log
    kept-arrive (Private x None) v = seq (pointer_passed v) _ (kept-pointer_passed v) (λ q s. k.same s.world s.log)
    kept-arrive (Framed offset (Some kind)) v = kept-frame {B = Unit {0}} offset (size_of kind) (λ p. allow true (size_of kind) p >> write_number kind p (number_passed v)) (λ p in_bounds. kept-allow true (size_of kind) p (write_number kind p (number_passed v)) (λ open_bytes. kept-write_number kind p (number_passed v) (λ w l n. k.wrote w l (size_of kind) p n open_bytes in_bounds))) (some-size kind)
    kept-arrive (Framed offset None) v = kept-frame {B = Unit {0}} offset 8 (λ p. pointer_passed v >>= (λ q. allow true 8 p >> write_pointer p q)) (λ p in_bounds. seq (pointer_passed v) (λ q. allow true 8 p >> write_pointer p q) (kept-pointer_passed v) (λ q. kept-allow true 8 p (write_pointer p q) (λ open_bytes. kept-write_pointer p q (λ w l n. k.wrote w l 8 p n open_bytes in_bounds) (λ w l n b s e. k.wrote_pointer w l p n b s open_bytes in_bounds e)))) (omega arith)

    pub kept-arrive_all : (ps : List Parameter) (args : List Passed) → KeptM (arrive_all ps args)
    kept-arrive_all [] args = λ s. k.same s.world s.log
    kept-arrive_all (p ∷ ps) [] = λ s. k.same s.world s.log
    kept-arrive_all (p ∷ ps) (v ∷ args) = seq_ (arrive p v) _ (kept-arrive p v) (kept-arrive_all ps args)

    same-trace : (sp : ℕ) (vs : List Framed_variable) (l : Log) → (made_in_frame sp vs l).trace ≡ l.trace
    same-trace sp [] l = refl
    same-trace sp (v ∷ rest) l = same-trace sp rest (with_made (bounds_at (moved sp v.offset) v.size) l)

    same-unset : (privates : List Bool) (l : Log) → (unset privates l).trace ≡ l.trace
    same-unset privates l = either-way (list_any (λ b. b) privates) l
      where
        either-way : (any : Bool) (l : Log) → (cond any (with_cause UnsetPointer l) l).trace ≡ l.trace
        either-way true l = refl
        either-way false l = refl

    kept-result : (f : Flow) → KeptM (result_of f)
    kept-result Normal = λ s. k.logged s.world s.log _ refl
    kept-result Broke = λ s. k.logged s.world s.log _ refl
    kept-result Continued = λ s. k.logged s.world s.log _ refl
    kept-result (Returned v) = λ s. k.same s.world s.log
    kept-result Left = λ s. k.same s.world s.log

    kept-answer : (w : World) (l : Log) (s : State) (r : Ended Passed) → R w l s.world s.log → Kept s r → KeptC w l (answer_of r)
    kept-answer w l s (Done v z) h g = k.join w l s.world s.log z.world z.log h g
    kept-answer w l s (Stopped why z) h g = k.join w l s.world s.log z.world z.log h g

    kept-body_run : (names : Names) → KeptF names.call → (f : FunctionOfC) → OfCopies F f.body → (args : List Passed) (w : World) (l : Log) → KeptC w l (body_run names f args w l)
    kept-body_run names h f fit args w l = kept-answer w l (state_at_entry f w l) _ (k.logged w l _ (same-unset f.privates (made_in_frame w.data_sp f.variables l) ∙ same-trace w.data_sp f.variables l))
        (seq_ (arrive_all f.parameters args) _ (kept-arrive_all f.parameters args) (seq (statement names f.body) _ (kept-statement names h f.body fit) kept-result) (state_at_entry f w l))

    kept-if_full : (full : Bool) (why : StopOfC) (w : World) (l : Log) (a : Answer) → KeptC w l a → KeptC w l (cond full (Stops why w l) a)
    kept-if_full true why w l a h = k.same w l
    kept-if_full false why w l a h = h

    kept-entering : (frame : ℕ) (w : World) (l : Log) (go : World → Answer) → ((u : World) → KeptC u l (go u)) → KeptC w l (entering frame w l go)
    kept-entering frame w l go all = kept-if_full (nat_lt w.data_sp (data_stack.from + frame)) StackOver w l _ (onward w l (with_data_sp (w.data_sp - frame) w) l _ (k.framed w l (w.data_sp - frame)) (all (with_data_sp (w.data_sp - frame) w)))

    kept-returning : (sp : ℕ) (w : World) (l : Log) (a : Answer) → KeptC w l a → KeptC w l (returning sp a)
    kept-returning sp w l (Comes v u m) h = onward w l u m _ h (kept-taking_turn u m _ (λ x. k.framed x m sp))
    kept-returning sp w l (Stops why u m) h = h

    kept-call_of : (target : Target) (own other : CalleeOfC) → KeptF own → KeptF other → (args : List Passed) (w : World) (l : Log) → KeptC w l (call_of target own other args w l)
    kept-call_of (OfC f) own other h g args w l = h f args w l
    kept-call_of (Outside f) own other h g args w l = g f args w l

    pub kept-calls : (program : ℕ → Linked) → ((f : ℕ) → OfCopies F (program f).fun.body) → (outside : CalleeOfC → CalleeOfC) → ((own : CalleeOfC) → KeptF own → KeptF (outside own)) → (depth : ℕ) → KeptF (calls program outside depth)
    kept-calls program fits outside out zero f args w l = kept-taking_turn w l _ (λ u. k.same u l)
    kept-calls program fits outside out (suc depth) f args w l = kept-taking_turn w l _ (λ u. onward u l u (entered_at depth l) _ (k.logged u l _ refl) (kept-entering (program f).fun.frame u (entered_at depth l) _ (λ x.
        kept-returning u.data_sp x (entered_at depth l) _
        (kept-body_run (names_of (program f) (calls program outside depth) (outside (calls program outside depth)))
        (λ symbol args u l. kept-call_of ((program f).targets symbol) (calls program outside depth) (outside (calls program outside depth)) (kept-calls program fits outside out depth) (out (calls program outside depth) (kept-calls program fits outside out depth)) args u l)
        (program f).fun (fits f) args x (entered_at depth l)))))
