-- One induction over the whole meaning: all bounds keep their roots.
use Rattle.std.proofs.Common.{ℕ, zero, suc, ◌+◌, ◌≡◌, refl, sym, ◌∙◌, subst, cond, ◌==◌, List, [], ◌∷◌, Option, Some, None, Bool, true, false}
use Rattle.mx_base.specs.declared.services.CService.{CService}
use Rattle.mx_base.specs.declared.services.CService.TheVariants as in_c
use Rattle.mx_base.specs.declared.limits.Bounds.{Bounds as BoundsPair}
use Rattle.mx_base.specs.declared.numbers.IntKind.{IntKind}
use Rattle.mx_base.specs.declared.places.Place.{Place}
use Rattle.mx_base.specs.Numbers.{size_of, extended}
use Rattle.mx_base.specs.Operators.{word_arithmetic}
use Rattle.mx_base.specs.Bounds.{full_bounds, moved, bounds_at, leaving_value}
use Rattle.mx_base.specs.Memory.{number_at}
use Rattle.mx_base.specs.Access.{Refusal, refusal}
use Rattle.mx_base.specs.BoundsStore.{Kept, BoundsStore, granule, bounds_for, keep_bounds, load_bounds}
use Rattle.mx_base.specs.Services.{Served, Answers, Exits, Overflows, Refused}
use Rattle.mx_base.specs.StopOfC.{StopOfC}
use Rattle.mx_base.specs.World.{World, Log, Cause, Root, FullBy, NothingKept, FunctionAddress, NullConstant, FromInteger as WasInteger, NullBlock, InitBuiltin, Rooted, read_noted, number_written, with_store, stored_or_stopped, loaded_or_stopped, pointer_read, pointer_written}
use Rattle.narrowing.specs.declared.member.Rule.{Rule}
use Rattle.narrowing.specs.declared.member.Rule.TheVariants.{Keep, Meet}
use Rattle.narrowing.specs.Member.{bounds_by}
use Rattle.fat_ir.specs.Step.{Located, ObjectAt, FunctionAt, served_in_c, stop_by}
use Rattle.bounds_plan.specs.meaning.Core.{NumberExpr, Word, Variable, Assign, Operate, Compare, Convert, AsNumber, Load, Store, Update, UpdateAt, And, Or, Choose, Call, Serve, Ask, PointerExpr, Null, FromInteger, Function, Object, InFrame, VariablePtr, AssignPtr, Member, Element, ElementAfter, LoadPtr, StorePtr, Advance, AdvanceAt, ChoosePtr, CallPtr, Alloc, SetBounds, NarrowBounds, CopyBounds, InitBounds, BoundOf, Arguments, NoMore, WithNumber, WithPointer}
use Rattle.bounds_plan.specs.meaning.State.{Pointer, Passed, OfNumber, OfPointer, State, Ended, Done, Stopped, M, bind, ◌>>◌, pure, unless, making, full_by, made_before, with_made, with_cause, stored, set_variable_ptr}
use Rattle.std.specs.Option.{option_map}
use Rattle.bounds_plan.specs.meaning.Accesses.{leaves, judge, allow, access, with_granule, root_for, with_root, came, went, read_number, write_number, read_pointer, write_pointer, load, store, load_ptr, store_ptr}
use Rattle.bounds_plan.specs.meaning.Expressions.{Answer, Comes, Stops, Names as NamesOf, answered_with, calling, pointer_passed, served_with, serving, block, choose, divided, operate, object, in_frame, with_address, step, either, number, pointer, arguments}
use Rattle.bounds_plan.specs.meaning.Functions.{Framed_variable}
use Rattle.bounds_plan.specs.laws.Roots.{HasRoot, KeptHasRoot, AllRooted, LogGrows, PassedHasRoot, AllHaveRoots, LeavesRooted, RootedCalls, StandsIn, Names, NamesPtr, NamesAll, ObjectMade, IsFramed}
use Rattle.bounds_plan.proofs.Roots.{stands-later, grows-same, grows-join, has-later, cause-stands, cause-grows, made-stands, made-grows, made-before-stands, narrower, met-lies, rooted-later, access-grows, rooted-access, kept-keep, load-some, rooted-kept}

-- nothing is asked of a value
abbrev pub Numbers : Log → ℕ → Type 0
Numbers l n = Unit {0}

abbrev pub Units : Log → Unit {0} → Type 0
Units l v = Unit {0}

abbrev pub Points : Log → Pointer → Type 0
Points l p = HasRoot l p.rooted

module _ (start : List BoundsPair) (variables : List Framed_variable) (sorts : ℕ → Bool) (sp : ℕ) where
  -- everything in a state has its root
  pub record Inv (s : State) : Type 0 where
    pub rooted : AllRooted start s.world s.log
    pub pairs : (x : ℕ) → sorts x ≡ true → HasRoot s.log (s.pairs x)
    pub frame : (offset size : ℕ) → IsFramed variables offset size → StandsIn (bounds_at (moved sp offset) size) s.log.made
    pub here : s.world.data_sp ≡ sp

  abbrev pub From : {A : Type 0} → (Log → A → Type 0) → State → Ended A → Type 0
  From Q s (Done v z) = Inv z × LogGrows s.log z.log × Q z.log v
  From Q s (Stopped why z) = AllRooted start z.world z.log × LogGrows s.log z.log

  abbrev pub Good : {A : Type 0} → (Log → A → Type 0) → M A → Type 0
  Good Q m = (s : State) → Inv s → From Q s (m s)

  further : {A : Type 0} (Q : Log → A → Type 0) (s z : State) (r : Ended A) → LogGrows s.log z.log → From Q z r → From Q s r
  further Q s z (Done v y) g h = (h.0, grows-join s.log z.log y.log g h.1, h.2)
  further Q s z (Stopped why y) g h = (h.0, grows-join s.log z.log y.log g h.1)

  pub after : {A B : Type 0} (Q : Log → A → Type 0) (P : Log → B → Type 0) (s : State) (r : Ended A) (go : A → M B) → From Q s r → ((v : A) (z : State) → Inv z → LogGrows s.log z.log → Q z.log v → From P z (go v z)) → From P s (bind r go)
  after Q P s (Done v z) go h all = further P s z (go v z) h.1 (all v z h.0 h.1 h.2)
  after Q P s (Stopped why z) go h all = h

  pub done : {A : Type 0} (Q : Log → A → Type 0) (v : A) (s : State) → Inv s → Q s.log v → From Q s (Done v s)
  done Q v s i q = (i, grows-same s.log, q)

  -- a state whose world and log went on
  pub went-on : (s : State) (u : World) (m : Log) → LogGrows s.log m → AllRooted start u m → u.data_sp ≡ s.world.data_sp → Inv s → Inv record s { world = u; log = m }
  went-on s u m g a e i = record { rooted = a; pairs = λ x t. has-later s.log m g (s.pairs x) (i.pairs x t); frame = λ o n h. stands-later _ s.log.made m.made g.made (i.frame o n h); here = e ∙ i.here }

  -- only what decides nothing went on, without an access and without bounds that are kept
  log-on : (s : State) (m : Log) → LogGrows s.log m → m.trace ≡ s.log.trace → m.roots ≡ s.log.roots → Inv s → Inv record s { log = m }
  log-on s m g t r i = went-on s s.world m g (rooted-later start s.world s.world s.log m g t r (λ x. refl) i.rooted) refl i

  -- only the world went on, and not what is kept
  pub world-on : (s : State) (u : World) → ((g : ℕ) → u.store.kept g ≡ s.world.store.kept g) → u.data_sp ≡ s.world.data_sp → Inv s → Inv record s { world = u }
  world-on s u k e i = went-on s u s.log (grows-same s.log) (rooted-later start s.world u s.log s.log (grows-same s.log) refl refl k i.rooted) e i

  -- ---- bounds that are made, and full ones

  pub good-full : (cause : Cause) (a : ℕ) → Good Points (full_by cause a)
  good-full cause a s i = let g = cause-grows s.log cause in (log-on s (with_cause cause s.log) g refl refl i, g, cause-stands s.log cause)

  good-making : (a : ℕ) (b : BoundsPair) → Good Points (making a b)
  good-making a b s i = let g = made-grows s.log b in (log-on s (with_made b s.log) g refl refl i, g, made-stands s.log b)

  good-before : (a : ℕ) (b : BoundsPair) (s : State) → StandsIn b s.log.made → Inv s → From Points s (made_before a b s)
  good-before a b s h i = (i, grows-same s.log, made-before-stands s.log b h)

  good-object : (l : Located) (offset size : ℕ) → ObjectMade start l offset size → Good Points (object l offset size)
  good-object (ObjectAt a) offset size h s i = good-before (moved a offset) (bounds_at (moved a offset) size) s (stands-later _ start s.log.made i.rooted.begun h) i
  good-object (FunctionAt a) offset size h s i = good-full FunctionAddress (moved a offset) s i

  pub good-frame : (offset size : ℕ) → IsFramed variables offset size → Good Points (in_frame offset size)
  good-frame offset size h s i = let P : ℕ → Type 0 = λ x. StandsIn (bounds_at (moved x offset) size) s.log.made in good-before (moved s.world.data_sp offset) (bounds_at (moved s.world.data_sp offset) size) s (subst P (sym i.here) (i.frame offset size h)) i

  -- ---- accesses

  pub good-unless : {B : Type 0} (P : Log → B → Type 0) (o : Option StopOfC) (go : M B) (s : State) → Inv s → From P s (go s) → From P s ((unless o >> go) s)
  good-unless P None go s i h = h
  good-unless P (Some why) go s i h = (i.rooted, grows-same s.log)

  accessed : (s : State) (u : World) (write : Bool) (n : ℕ) (p : Pointer) → ((g : ℕ) → u.store.kept g ≡ s.world.store.kept g) → u.data_sp ≡ s.world.data_sp → Inv s → Points s.log p → Inv record s { world = u; log = access write n p s.log }
  accessed s u write n p k e i h = went-on s u (access write n p s.log) (access-grows write n p s.log) (rooted-access start s.world u s.log write n p h k i.rooted) e i

  pub good-read : (kind : IntKind) (p : Pointer) (s : State) → Inv s → Points s.log p → From Numbers s (read_number kind p s)
  good-read kind p s i h = (accessed s (read_noted (size_of kind) s.world p.address) false (size_of kind) p (λ g. refl) refl i h, access-grows false (size_of kind) p s.log, tt)

  pub good-write : (kind : IntKind) (p : Pointer) (n : ℕ) (s : State) → Inv s → Points s.log p → From Units s (write_number kind p n s)
  good-write kind p n s i h = (accessed s (number_written (size_of kind) s.world p.address n) true (size_of kind) p (λ g. refl) refl i h, access-grows true (size_of kind) p s.log, tt)

  nothing-kept : (value : ℕ) (b : BoundsPair) (w : World) (s st : State) → b ≡ full_bounds → LogGrows s.log st.log → Inv record st { world = w } → From Points s (with_root value b None w st)
  nothing-kept value b w s st e g i =
      let m = with_cause NothingKept st.log in
      let c = cause-grows st.log NothingKept in
      let H : BoundsPair → Type 0 = λ x. HasRoot m record { bounds = x; root = FullBy NothingKept } in
      (log-on record st { world = w } m c refl refl i, grows-join s.log st.log m g c, subst H (sym e) (cause-stands st.log NothingKept))

  some-kept : (value : ℕ) (b : BoundsPair) (k : Kept) (root : Option Root) (w : World) (s st : State) (c : Bool) → b ≡ cond c k.bounds full_bounds → KeptHasRoot st.log k root → LogGrows s.log st.log → Inv record st { world = w } → From Points s (with_root value b (cond c root None) w st)
  some-kept value b k None w s st true e h g i = absurd h
  some-kept value b k (Some r) w s st true e h g i = let H : BoundsPair → Type 0 = λ x. HasRoot st.log record { bounds = x; root = r } in (i, g, subst H (sym e) h)
  some-kept value b k root w s st false e h g i = nothing-kept value b w s st e g i

  from-kept : (value : ℕ) (b : BoundsPair) (kept : Option Kept) (root : Option Root) (w : World) (s st : State) → b ≡ bounds_for value kept → ((k : Kept) → kept ≡ Some k → KeptHasRoot st.log k root) → LogGrows s.log st.log → Inv record st { world = w } → From Points s (with_root value b (root_for value kept root) w st)
  unfolding bounds_for
  from-kept value b None root w s st e h g i = nothing-kept value b w s st e g i
  from-kept value b (Some k) root w s st e h g i = some-kept value b k root w s st (k.value == value) e (h k refl) g i

  pub good-read-pointer : (p : Pointer) (s : State) → Inv s → Points s.log p → From Points s (read_pointer p s)
  unfolding pointer_read
  good-read-pointer p s i h = by_cases (load_bounds s.world.store p.address v) refl
    where
      v : ℕ
      v = number_at 8 s.world.bytes p.address

      t : World
      t = read_noted 8 s.world p.address

      by_cases : (o : Option (BoundsPair × BoundsStore)) → load_bounds s.world.store p.address v ≡ o → From Points s (came p (loaded_or_stopped t v o) record s { log = access false 8 p s.log })
      by_cases None e = let a = accessed s t false 8 p (λ g. refl) refl i h in (a.rooted, access-grows false 8 p s.log)
      by_cases (Some q) e =
          let l = access false 8 p s.log in
          let m = with_granule p.address l in
          let some = load-some s.world.store p.address v q e in
          let a = accessed s t false 8 p (λ g. refl) refl i h in
          let g = access-grows false 8 p s.log in
          let gm : LogGrows l m = record { made = (grows-same l).made; causes = (grows-same l).causes } in
          let b = log-on record s { world = t; log = l } m gm refl refl a in
          let c = world-on record s { world = t; log = m } (with_store t q.1) some.1 refl b in
          from-kept v q.0 (s.world.store.kept (granule p.address)) (s.log.roots (granule p.address)) (with_store t q.1) s record s { log = m } some.0
          (λ k is. b.rooted.kept (granule p.address) k is) (grows-join s.log l m g gm) c

  pub good-write-pointer : (p v : Pointer) (s : State) → Inv s → Points s.log p → Points s.log v → From Units s (write_pointer p v s)
  unfolding pointer_written
  good-write-pointer p v s i h hv = by_cases (keep_bounds s.world.store p.address v.address v.rooted.bounds) refl
    where
      t : World
      t = number_written 8 s.world p.address v.address

      by_cases : (o : Option BoundsStore) → keep_bounds s.world.store p.address v.address v.rooted.bounds ≡ o → From Units s (went p v.rooted.root (stored_or_stopped t o) record s { log = access true 8 p s.log })
      by_cases None e = let a = accessed s t true 8 p (λ g. refl) refl i h in (a.rooted, access-grows true 8 p s.log)
      by_cases (Some q) e =
          let l = access true 8 p s.log in
          let a = accessed s t true 8 p (λ g. refl) refl i h in
          let g = access-grows true 8 p s.log in
          let r = rooted-kept start t (with_store t q) l p.address v.address v.rooted.bounds v.rooted.root (has-later s.log l g v.rooted hv) (λ x. kept-keep s.world.store q p.address v.address x v.rooted.bounds e) a.rooted in
          let gm : LogGrows s.log _ = record { made = g.made; causes = g.causes } in
          (went-on s (with_store t q) _ gm r refl i, gm, tt)

  pub good-judge : {B : Type 0} (P : Log → B → Type 0) (write : Bool) (size : ℕ) (place : Place) (p : Pointer) (go : M B) (s : State) → Inv s → From P s (go s) → From P s ((judge write size place p >> go) s)
  good-judge P write size place p go s i h = good-unless P (leaves p.rooted.bounds record { place = place; write = write; size = size } (leaving_value p.address size p.rooted.bounds)) go s i h

  pub good-allow : {B : Type 0} (P : Log → B → Type 0) (write : Bool) (size : ℕ) (p : Pointer) (go : M B) (s : State) → Inv s → From P s (go s) → From P s ((allow write size p >> go) s)
  good-allow P write size p go s i h = good-unless P (option_map stop_by (refusal write size p.address)) go s i h

  good-load : (kind : IntKind) (place : Place) (p : Pointer) (s : State) → Inv s → Points s.log p → From Numbers s (load kind place p s)
  good-load kind place p s i h = good-judge Numbers false (size_of kind) place p (allow false (size_of kind) p >> read_number kind p) s i (good-allow Numbers false (size_of kind) p (read_number kind p) s i (good-read kind p s i h))

  good-store : (kind : IntKind) (place : Place) (p : Pointer) (n : ℕ) (s : State) → Inv s → Points s.log p → From Units s (store kind place p n s)
  good-store kind place p n s i h = good-judge Units true (size_of kind) place p (allow true (size_of kind) p >> write_number kind p n) s i (good-allow Units true (size_of kind) p (write_number kind p n) s i (good-write kind p n s i h))

  good-load-pointer : (place : Place) (p : Pointer) (s : State) → Inv s → Points s.log p → From Points s (load_ptr place p s)
  good-load-pointer place p s i h = good-judge Points false 8 place p (allow false 8 p >> read_pointer p) s i (good-allow Points false 8 p (read_pointer p) s i (good-read-pointer p s i h))

  good-store-pointer : (place : Place) (p v : Pointer) (s : State) → Inv s → Points s.log p → Points s.log v → From Units s (store_ptr place p v s)
  good-store-pointer place p v s i h hv = good-judge Units true 8 place p (allow true 8 p >> write_pointer p v) s i (good-allow Units true 8 p (write_pointer p v) s i (good-write-pointer p v s i h hv))

  -- ---- private pointers

  set-cases : (l : Log) (pairs : ℕ → Rooted) (x : ℕ) (r : Rooted) (y : ℕ) (c : Bool) → HasRoot l r → HasRoot l (pairs y) → HasRoot l (cond c r (pairs y))
  set-cases l pairs x r y true h g = h
  set-cases l pairs x r y false h g = g

  pub good-set : (x : ℕ) (p : Pointer) (s : State) → Inv s → Points s.log p → From Units s (set_variable_ptr x p s)
  good-set x p s i h = (record { rooted = i.rooted; pairs = λ y t. set-cases s.log s.pairs (x + 1) p.rooted y (y == x + 1) h (i.pairs y t); frame = i.frame; here = i.here }, grows-same s.log, tt)

  pub numbers-on : (s : State) (numbers : ℕ → ℕ) → Inv s → Inv record s { numbers = numbers }
  numbers-on s numbers i = record { rooted = i.rooted; pairs = i.pairs; frame = i.frame; here = i.here }

  -- ---- calls and services

  good-answered : (s : State) (a : Answer) → Inv s → LeavesRooted start s.world s.log a → From PassedHasRoot s (answered_with a s)
  good-answered s (Comes v u m) i h = (went-on s u m h.1 h.0 h.3 i, h.1, h.2)
  good-answered s (Stops why u m) i h = h

  good-calling : (names : NamesOf) → RootedCalls start names.call → (symbol : ℕ) (args : List Passed) (s : State) → Inv s → AllHaveRoots s.log args → From PassedHasRoot s (calling names symbol args s)
  good-calling names h symbol args s i a = good-answered s (names.call symbol args s.world s.log) i (h symbol args s.world s.log i.rooted a)

  pub good-passed : (v : Passed) (s : State) → Inv s → PassedHasRoot s.log v → From Points s (pointer_passed v s)
  good-passed (OfNumber n) s i h = good-full WasInteger n s i
  good-passed (OfPointer p) s i h = (i, grows-same s.log, h)

  good-served : (a : Served Refusal) (s : State) → Inv s → From Numbers s (served_with a s)
  good-served (Answers x g) s i = (world-on s record s.world { guest = g } (λ g. refl) refl i, grows-same s.log, tt)
  good-served (Exits code) s i = (i.rooted, grows-same s.log)
  good-served Overflows s i = (i.rooted, grows-same s.log)
  good-served (Refused why) s i = (i.rooted, grows-same s.log)

  good-serving : (service : CService) (word : ℕ) → Good Numbers (serving service word)
  good-serving service word s i = good-served (served_in_c service word s.world) s i

  good-block : (size a : ℕ) → Good Points (block size a)
  good-block size zero s i = good-full NullBlock 0 s i
  good-block size (suc a) s i = good-making (suc a) (bounds_at (suc a) size) s i

  pub good-choose : {A : Type 0} (Q : Log → A → Type 0) (n : ℕ) (a b : M A) (s : State) → From Q s (a s) → From Q s (b s) → From Q s (choose n a b s)
  good-choose Q zero a b s h g = g
  good-choose Q (suc n) a b s h g = h

  good-divided : (o : Option ℕ) → Good Numbers (divided o)
  good-divided None s i = (i.rooted, grows-same s.log)
  good-divided (Some n) s i = (i, grows-same s.log, tt)

  ruled : (rule : Rule) (l : Log) (p : Pointer) → Points l p → HasRoot l record { bounds = bounds_by rule p.address p.rooted.bounds; root = p.rooted.root }
  ruled Keep l p h = h
  ruled (Meet offset size) l p h = narrower l p.rooted.root p.rooted.bounds _ (met-lies p.rooted.bounds _) h

  one-of : (l : Log) (old : Bool) (p : Pointer) (x y : ℕ) → Points l p → Points l (either old (with_address x p) (with_address y p))
  one-of l true p x y h = h
  one-of l false p x y h = h

  -- ---- expressions

  module _ (names : NamesOf) (calls : RootedCalls start names.call) where
    abbrev S : ℕ → ℕ → ℕ → Type 0
    S symbol offset size = ObjectMade start (names.located symbol) offset size

    abbrev F : ℕ → ℕ → Type 0
    F offset size = IsFramed variables offset size

    abbrev P : ℕ → Type 0
    P x = sorts (x + 1) ≡ true

    mutual
      pub good-number : (e : NumberExpr) → Names S F P e → Good Numbers (number names e)
      good-number (Word n) f s i = done Numbers n s i tt
      good-number (Variable x) f s i = done Numbers (s.numbers x) s i tt
      good-number (Assign x e) f s i = after Numbers Numbers s (number names e s) _ (good-number e f s i) (λ n z i g q. done Numbers n _ (numbers-on z (stored z.numbers x n) i) tt)
      good-number (Operate op kind a b) f s i = after Numbers Numbers s (number names a s) _ (good-number a f.0 s i) (λ x z i g q. after Numbers Numbers z (number names b z) _ (good-number b f.1 z i) (λ y z i g q. good-divided (word_arithmetic op kind x y) z i))
      good-number (Compare op kind a b) f s i = after Numbers Numbers s (number names a s) _ (good-number a f.0 s i) (λ x z i g q. after Numbers Numbers z (number names b z) _ (good-number b f.1 z i) (λ y z i g q. (i, grows-same z.log, tt)))
      good-number (Convert kind e) f s i = after Numbers Numbers s (number names e s) _ (good-number e f s i) (λ n z i g q. (i, grows-same z.log, tt))
      good-number (AsNumber p) f s i = after Points Numbers s (pointer names p s) _ (good-pointer p f s i) (λ a z i g q. done Numbers a.address z i tt)
      good-number (Load kind place p) f s i = after Points Numbers s (pointer names p s) _ (good-pointer p f s i) (λ a z i g q. good-load kind place a z i q)
      good-number (Store kind place p e) f s i = after Points Numbers s (pointer names p s) _ (good-pointer p f.0 s i) (λ a z i g q. after Numbers Numbers z (number names e z) _ (good-number e f.1 z i)
          (λ n y i g r. after Units Numbers y (store kind place a n y) _ (good-store kind place a n y i (has-later z.log y.log g a.rooted q)) (λ u x i g r. done Numbers n x i tt)))
      good-number (Update x kind op common e old) f s i = after Numbers Numbers s (number names e s) _ (good-number e f s i)
          (λ n z i g q. after Numbers Numbers z (operate op common (z.numbers x) n z) _ (good-divided (word_arithmetic op common (z.numbers x) n) z i) (λ m y i g q. (numbers-on y (stored y.numbers x (extended kind m)) i, grows-same y.log, tt)))
      good-number (UpdateAt kind place p op common e old) f s i = after Points Numbers s (pointer names p s) _ (good-pointer p f.0 s i) (λ a z i g q. after Numbers Numbers z (number names e z) _ (good-number e f.1 z i)
          (λ n y i g r. let qa = has-later z.log y.log g a.rooted q in after Numbers Numbers y (load kind place a y) _ (good-load kind place a y i qa)
          (λ before x i g r. let qb = has-later y.log x.log g a.rooted qa in after Numbers Numbers x (operate op common before n x) _ (good-divided (word_arithmetic op common before n) x i)
          (λ m v i g r. let qc = has-later x.log v.log g a.rooted qb in after Units Numbers v (store kind place a _ v) _ (good-store kind place a _ v i qc) (λ u k i g r. (i, grows-same k.log, tt))))))
      good-number (And a b) f s i = after Numbers Numbers s (number names a s) _ (good-number a f.0 s i) (λ x z i g q. good-choose Numbers x _ _ z (after Numbers Numbers z (number names b z) _ (good-number b f.1 z i) (λ y z i g q. (i, grows-same z.log, tt))) (done Numbers 0 z i tt))
      good-number (Or a b) f s i = after Numbers Numbers s (number names a s) _ (good-number a f.0 s i) (λ x z i g q. good-choose Numbers x _ _ z (done Numbers 1 z i tt) (after Numbers Numbers z (number names b z) _ (good-number b f.1 z i) (λ y z i g q. (i, grows-same z.log, tt))))
      good-number (Choose test a b) f s i = after Numbers Numbers s (number names test s) _ (good-number test f.0 s i) (λ x z i g q. good-choose Numbers x (number names a) (number names b) z (good-number a f.1 z i) (good-number b f.2 z i))
      good-number (Call symbol args) f s i = after AllHaveRoots Numbers s (arguments names args s) _ (good-arguments args f s i) (λ vs z i g q. after PassedHasRoot Numbers z (calling names symbol vs z) _ (good-calling names calls symbol vs z i q) (λ v y i g q. (i, grows-same y.log, tt)))
      good-number (Serve service e) f s i = after Numbers Numbers s (number names e s) _ (good-number e f s i) (λ word z i g q. good-serving service word z i)
      good-number (Ask service) f s i = good-serving service 0 s i

      pub good-pointer : (e : PointerExpr) → NamesPtr S F P e → Good Points (pointer names e)
      good-pointer Null f s i = good-full NullConstant 0 s i
      good-pointer (FromInteger e) f s i = after Numbers Points s (number names e s) _ (good-number e f s i) (λ n z i g q. good-full WasInteger n z i)
      good-pointer (Function symbol) f s i = good-object (names.located symbol) 0 1 f s i
      good-pointer (Object symbol offset size) f s i = good-object (names.located symbol) offset size f s i
      good-pointer (InFrame offset size) f s i = good-frame offset size f s i
      good-pointer (VariablePtr x) f s i = (i, grows-same s.log, i.pairs (x + 1) f)
      good-pointer (AssignPtr x e) f s i = after Points Points s (pointer names e s) _ (good-pointer e f.1 s i) (λ p z i g q. after Units Points z (set_variable_ptr x p z) (λ u. pure p) (good-set x p z i q) (λ u y i g r. done Points p y i (has-later z.log y.log g p.rooted q)))
      good-pointer (Member offset rule e) f s i = after Points Points s (pointer names e s) _ (good-pointer e f s i) (λ p z i g q. (i, grows-same z.log, (ruled rule z.log p q)))
      good-pointer (Element minus size e n) f s i = after Points Points s (pointer names e s) _ (good-pointer e f.0 s i) (λ p z i g q. after Numbers Points z (number names n z) _ (good-number n f.1 z i) (λ k y i g r. (i, grows-same y.log, (has-later z.log y.log g p.rooted q))))
      good-pointer (ElementAfter size n e) f s i = after Numbers Points s (number names n s) _ (good-number n f.0 s i) (λ k z i g q. after Points Points z (pointer names e z) _ (good-pointer e f.1 z i) (λ p y i g r. (i, grows-same y.log, r)))
      good-pointer (LoadPtr place e) f s i = after Points Points s (pointer names e s) _ (good-pointer e f s i) (λ p z i g q. good-load-pointer place p z i q)
      good-pointer (StorePtr place to e) f s i = after Points Points s (pointer names to s) _ (good-pointer to f.0 s i) (λ p z i g q. after Points Points z (pointer names e z) _ (good-pointer e f.1 z i)
          (λ v y i g r. after Units Points y (store_ptr place p v y) _ (good-store-pointer place p v y i (has-later z.log y.log g p.rooted q) r) (λ u x i g t. done Points v x i (has-later y.log x.log g v.rooted r))))
      good-pointer (Advance x minus size n old) f s i = after Numbers Points s (number names n s) _ (good-number n f.1 s i)
          (λ k z i g q. let before : Pointer = record { address = z.numbers x; rooted = z.pairs (x + 1) } in let qb = i.pairs (x + 1) f.0 in
          after Units Points z (set_variable_ptr x (step minus size before k) z) (λ u. pure (either old before (step minus size before k))) (good-set x (step minus size before k) z i qb) (λ u y i g r. (i, grows-same y.log, (one-of y.log old before before.address (step minus size before k).address (has-later z.log y.log g before.rooted qb)))))
      good-pointer (AdvanceAt place e minus size n old) f s i = after Points Points s (pointer names e s) _ (good-pointer e f.0 s i) (λ p z i g q. after Numbers Points z (number names n z) _ (good-number n f.1 z i)
          (λ k y i g r. let qa = has-later z.log y.log g p.rooted q in after Points Points y (load_ptr place p y) _ (good-load-pointer place p y i qa)
          (λ before x i g r. after Units Points x (store_ptr place p (step minus size before k) x) _ (good-store-pointer place p (step minus size before k) x i (has-later y.log x.log g p.rooted qa) r)
          (λ u v i g t. (i, grows-same v.log, (one-of v.log old before before.address (step minus size before k).address (has-later x.log v.log g before.rooted r)))))))
      good-pointer (ChoosePtr test a b) f s i = after Numbers Points s (number names test s) _ (good-number test f.0 s i) (λ x z i g q. good-choose Points x (pointer names a) (pointer names b) z (good-pointer a f.1 z i) (good-pointer b f.2 z i))
      good-pointer (CallPtr symbol args) f s i = after AllHaveRoots Points s (arguments names args s) _ (good-arguments args f s i) (λ vs z i g q. after PassedHasRoot Points z (calling names symbol vs z) _ (good-calling names calls symbol vs z i q) (λ v y i g q. good-passed v y i q))
      good-pointer (Alloc e) f s i = after Numbers Points s (number names e s) _ (good-number e f s i) (λ n z i g q. after Numbers Points z (serving in_c.Alloc n z) _ (good-serving in_c.Alloc n z i) (λ a y i g q. good-block n a y i))
      good-pointer (SetBounds e n) f s i = after Points Points s (pointer names e s) _ (good-pointer e f.0 s i) (λ p z i g q. after Numbers Points z (number names n z) _ (good-number n f.1 z i) (λ k y i g r. good-making p.address (bounds_at p.address k) y i))
      good-pointer (NarrowBounds e d n) f s i = after Points Points s (pointer names e s) _ (good-pointer e f.0 s i) (λ p z i g q. after Points Points z (pointer names d z) _ (good-pointer d f.1 z i)
          (λ r y i g qr. after Numbers Points y (number names n y) _ (good-number n f.2 y i) (λ k x i g t. (i, grows-same x.log, (narrower x.log r.rooted.root r.rooted.bounds _ (met-lies r.rooted.bounds _) (has-later y.log x.log g r.rooted qr))))))
      good-pointer (CopyBounds e d) f s i = after Points Points s (pointer names e s) _ (good-pointer e f.0 s i) (λ p z i g q. after Points Points z (pointer names d z) _ (good-pointer d f.1 z i) (λ r y i g qr. (i, grows-same y.log, qr)))
      good-pointer (InitBounds e) f s i = after Points Points s (pointer names e s) _ (good-pointer e f s i) (λ p z i g q. good-full InitBuiltin p.address z i)
      good-pointer (BoundOf upper e) f s i = after Points Points s (pointer names e s) _ (good-pointer e f s i) (λ p z i g q. (i, grows-same z.log, q))

      pub good-arguments : (args : Arguments) → NamesAll S F P args → Good AllHaveRoots (arguments names args)
      good-arguments NoMore f s i = done AllHaveRoots [] s i tt
      good-arguments (WithNumber e rest) f s i = after Numbers AllHaveRoots s (number names e s) _ (good-number e f.0 s i) (λ n z i g q. after AllHaveRoots AllHaveRoots z (arguments names rest z) _ (good-arguments rest f.1 z i) (λ vs y i g q. done AllHaveRoots (OfNumber n ∷ vs) y i (tt, q)))
      good-arguments (WithPointer e rest) f s i = after Points AllHaveRoots s (pointer names e s) _ (good-pointer e f.0 s i) (λ p z i g q. after AllHaveRoots AllHaveRoots z (arguments names rest z) _ (good-arguments rest f.1 z i) (λ vs y i g r. done AllHaveRoots (OfPointer p ∷ vs) y i (has-later z.log y.log g p.rooted q, r)))
