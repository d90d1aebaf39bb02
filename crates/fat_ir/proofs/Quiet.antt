-- What quiet steps leave, and which values steps leave.
use Rattle.std.proofs.Common.{ℕ, zero, suc, ◌≡◌, ◌≢◌, refl, ap, ◌∙◌, true, false, cond, ◌==◌, List, [], ◌∷◌, ◌++◌, Option, Some, None, Result, Ok, Err, arith}
use Rattle.std.specs.Option.{option_map}
use Rattle.std.proofs.lemmas.Bool.Decides.{nat_tests}
use Rattle.mx_base.specs.declared.limits.Bounds.{Bounds as BoundsPair}
use Rattle.mx_base.specs.declared.numbers.IntKind.{IntKind}
use Rattle.mx_base.specs.StopOfC.{AccessOfC}
use Rattle.mx_base.specs.Operators.{word_arithmetic}
use Rattle.mx_base.specs.Numbers.{size_of}
use Rattle.mx_base.specs.Bounds.{leaving_value}
use Rattle.mx_base.specs.Access.{Refusal, refusal}
use Rattle.mx_base.specs.BoundsStore.{load_bounds, touched_with, with_touched, megabyte, bounds_for, granule}
use Rattle.mx_base.specs.Memory.{number_at}
use Rattle.mx_base.specs.Services.{Served, Answers, Exits, Overflows, Refused}
use Rattle.mx_base.specs.World.{World, read_noted, loaded_or_stopped, pointer_read, pointer_written}
use Rattle.fat_ir.specs.declared.step.FatStep.{FatStep}
use Rattle.fat_ir.specs.declared.step.FatStep.TheVariants.{Const, Copy, Arith, Compare, Extend, Place, Make, Meet, Bound, Judge, Load, Store, LoadPtr, StorePtr, Label, Jump, JumpIf, Call, Service, Give}
use Rattle.fat_ir.specs.Values.{Held, Nothing, Number, Pair, Values, Value, with_held}
use Rattle.fat_ir.specs.Calls.{Outcome, Comes, Stops, Stuck}
use Rattle.fat_ir.specs.Step.{Symbols, State, Reached, Over, held_then, number_then, bounds_then, number_or_0_then, bounds_or_full_then, arguments_then, computed, judged, unless_refused, number_loaded, number_stored, pointer_came, pointer_went, jumps_unless_0, came_back, answered, served_in_c, does}
use Rattle.fat_ir.specs.Named.{maybe, writes}
use Rattle.fat_ir.specs.Laws.{WorldAfter, ValuesAfter, IsNone, is_quiet, LeavesMemory}

-- ---- what is read of the values, for any fact about what is reached

module _ (P : Reached → Type 0) (stuck : P (Over Stuck)) where
  after-held : (h : Held) (go : Held → Reached) → ((x : Held) → P (go x)) → P (held_then h go)
  after-held Nothing go all = stuck
  after-held (Number n) go all = all (Number n)
  after-held (Pair b) go all = all (Pair b)

  after-number : (h : Held) (go : ℕ → Reached) → ((x : ℕ) → P (go x)) → P (number_then h go)
  after-number Nothing go all = stuck
  after-number (Number n) go all = all n
  after-number (Pair b) go all = stuck

  after-bounds : (h : Held) (go : BoundsPair → Reached) → ((x : BoundsPair) → P (go x)) → P (bounds_then h go)
  after-bounds Nothing go all = stuck
  after-bounds (Number n) go all = stuck
  after-bounds (Pair b) go all = all b

  after-number_or_0 : (values : Values) (v : Option ℕ) (go : ℕ → Reached) → ((x : ℕ) → P (go x)) → P (number_or_0_then values v go)
  after-number_or_0 values None go all = all 0
  after-number_or_0 values (Some v) go all = after-number (values v) go all

  after-bounds_or_full : (values : Values) (v : Option ℕ) (go : BoundsPair → Reached) → ((x : BoundsPair) → P (go x)) → P (bounds_or_full_then values v go)
  after-bounds_or_full values None go all = all _
  after-bounds_or_full values (Some v) go all = after-bounds (values v) go all

  after-arguments : (values : Values) (args : List (ℕ × Option ℕ)) (go : List Value → Reached) → ((vs : List Value) → P (go vs)) → P (arguments_then values args go)
  after-arguments values [] go all = all []
  after-arguments values (a ∷ rest) go all = after-number (values a.0) _ (λ n. after-bounds_or_full values a.1 _ (λ b. after-arguments values rest _ (λ vs. all (record { number = n; bounds = b } ∷ vs))))

-- ---- quiet steps

leaves : (w : World) → LeavesMemory w w
leaves w = record { bytes = refl; kept = refl; guest = refl; turns = refl; far = refl; data_sp = refl; legacy_sp = refl }

leaves_read : (w : World) (n a : ℕ) → LeavesMemory w (read_noted n w a)
leaves_read w n a = record { bytes = refl; kept = refl; guest = refl; turns = refl; far = refl; data_sp = refl; legacy_sp = refl }

-- a load of bounds changes only which megabytes were asked for
leaves_touched : (to bounds a v n at : ℕ) (w : World) (s : State) (o : Option (List ℕ)) → WorldAfter (LeavesMemory w) (pointer_came to bounds (loaded_or_stopped (read_noted n w at) v (option_map (λ t. (bounds_for v (t.kept (granule a)), t)) (option_map (with_touched w.store) o))) s)
leaves_touched to bounds a v n at w s None = leaves_read w n at
leaves_touched to bounds a v n at w s (Some touched) = record { bytes = refl; kept = refl; guest = refl; turns = refl; far = refl; data_sp = refl; legacy_sp = refl }

leaves_pointer : (to bounds a : ℕ) (s : State) → WorldAfter (LeavesMemory s.world) (pointer_came to bounds (pointer_read s.world a) s)
unfolding pointer_read load_bounds
leaves_pointer to bounds a s = leaves_touched to bounds a (number_at 8 s.world.bytes a) 8 a s.world s (touched_with s.world.store.touched (megabyte a))

quiet-computed : (to : ℕ) (o : Option ℕ) (s : State) → WorldAfter (LeavesMemory s.world) (computed to o s)
quiet-computed to None s = leaves s.world
quiet-computed to (Some n) s = leaves s.world

quiet-judged : (o : Option ℕ) (b : BoundsPair) (access : AccessOfC) (s : State) → WorldAfter (LeavesMemory s.world) (judged o b access s)
quiet-judged None b access s = leaves s.world
quiet-judged (Some v) b access s = leaves s.world

quiet-unless_refused : (o : Option Refusal) (s : State) (r : Reached) → WorldAfter (LeavesMemory s.world) r → WorldAfter (LeavesMemory s.world) (unless_refused o s r)
quiet-unless_refused None s r h = h
quiet-unless_refused (Some why) s r h = leaves s.world

quiet-jumps : (n label : ℕ) (s : State) → WorldAfter (LeavesMemory s.world) (jumps_unless_0 n label s)
quiet-jumps zero label s = leaves s.world
quiet-jumps (suc n) label s = leaves s.world

pub quiet-does : (symbols : Symbols) (step : FatStep) (s : State) → is_quiet step ≡ true → WorldAfter (LeavesMemory s.world) (does symbols step s)
quiet-does symbols (Const to n) s q = leaves s.world
quiet-does symbols (Copy to from) s q = after-held (WorldAfter (LeavesMemory s.world)) tt (s.values from) _ (λ x. leaves s.world)
quiet-does symbols (Arith to op kind a b) s q = after-number (WorldAfter (LeavesMemory s.world)) tt (s.values a) _ (λ x. after-number (WorldAfter (LeavesMemory s.world)) tt (s.values b) _ (λ y. quiet-computed to (word_arithmetic op kind x y) s))
quiet-does symbols (Compare to op kind a b) s q = after-number (WorldAfter (LeavesMemory s.world)) tt (s.values a) _ (λ x. after-number (WorldAfter (LeavesMemory s.world)) tt (s.values b) _ (λ y. leaves s.world))
quiet-does symbols (Extend to from kind) s q = after-number (WorldAfter (LeavesMemory s.world)) tt (s.values from) _ (λ x. leaves s.world)
quiet-does symbols (Place to bounds symbol offset size) s q = leaves s.world
quiet-does symbols (Make to p n) s q = after-number (WorldAfter (LeavesMemory s.world)) tt (s.values p) _ (λ x. after-number (WorldAfter (LeavesMemory s.world)) tt (s.values n) _ (λ y. leaves s.world))
quiet-does symbols (Meet to a b) s q = after-bounds (WorldAfter (LeavesMemory s.world)) tt (s.values a) _ (λ x. after-bounds (WorldAfter (LeavesMemory s.world)) tt (s.values b) _ (λ y. leaves s.world))
quiet-does symbols (Bound to from upper) s q = after-bounds (WorldAfter (LeavesMemory s.world)) tt (s.values from) _ (λ b. leaves s.world)
quiet-does symbols (Judge value size bounds write place) s q = after-number (WorldAfter (LeavesMemory s.world)) tt (s.values value) _ (λ p. after-bounds (WorldAfter (LeavesMemory s.world)) tt (s.values bounds) _ (λ b. quiet-judged (leaving_value p size b) b record { place = place; write = write; size = size } s))
quiet-does symbols (Load p to kind) s q = after-number (WorldAfter (LeavesMemory s.world)) tt (s.values p) _ (λ a. quiet-unless_refused (refusal false (size_of kind) a) s (number_loaded a to kind s) (leaves_read s.world (size_of kind) a))
quiet-does symbols (Store p from kind) s q = absurd (cc)
quiet-does symbols (LoadPtr p to bounds) s q = after-number (WorldAfter (LeavesMemory s.world)) tt (s.values p) _ (λ a. quiet-unless_refused (refusal false 8 a) s (pointer_came to bounds (pointer_read s.world a) s) (leaves_pointer to bounds a s))
quiet-does symbols (StorePtr p from bounds) s q = absurd (cc)
quiet-does symbols (Label n) s q = leaves s.world
quiet-does symbols (Jump n) s q = leaves s.world
quiet-does symbols (JumpIf from n) s q = after-number (WorldAfter (LeavesMemory s.world)) tt (s.values from) _ (λ x. quiet-jumps x n s)
quiet-does symbols (Call symbol args to bounds) s q = absurd (cc)
quiet-does symbols (Service service arg to) s q = absurd (cc)
quiet-does symbols (Give from bounds) s q = after-number_or_0 (WorldAfter (LeavesMemory s.world)) tt s.values from _ (λ n. after-bounds_or_full (WorldAfter (LeavesMemory s.world)) tt s.values bounds _ (λ b. leaves s.world))

-- ---- other values

module _ (v : ℕ) where
  abbrev Stays : State → Reached → Type 0
  Stays s r = ValuesAfter (λ values. values v ≡ s.values v) r

  not_it : (x : ℕ) (h : Held) (values : Values) → v ≢ x → with_held x h values v ≡ values v
  not_it x h values other = ap (λ b. cond b h (values v)) (differ v x other)
    where
      differ : (a b : ℕ) → a ≢ b → (a == b) ≡ false
      differ a b h = grind (arith, nat_tests)

  not_either : (x y : ℕ) (h g : Held) (values : Values) → v ≢ x → v ≢ y → with_held y g (with_held x h values) v ≡ values v
  not_either x y h g values p q = not_it y g (with_held x h values) q ∙ not_it x h values p

  stays-computed : (to : ℕ) (o : Option ℕ) (s : State) → v ≢ to → Stays s (computed to o s)
  stays-computed to None s other = tt
  stays-computed to (Some n) s other = not_it to (Number n) s.values other

  stays-judged : (o : Option ℕ) (b : BoundsPair) (access : AccessOfC) (s : State) → Stays s (judged o b access s)
  stays-judged None b access s = refl
  stays-judged (Some x) b access s = tt

  stays-unless_refused : (o : Option Refusal) (s : State) (r : Reached) → Stays s r → Stays s (unless_refused o s r)
  stays-unless_refused None s r h = h
  stays-unless_refused (Some why) s r h = tt

  stays-came : (to bounds : ℕ) (r : Result (ℕ × BoundsPair × World) World) (s : State) → v ≢ to → v ≢ bounds → Stays s (pointer_came to bounds r s)
  stays-came to bounds (Ok p) s one two = not_either to bounds (Number p.0) (Pair p.1) s.values one two
  stays-came to bounds (Err w) s one two = tt

  stays-went : (r : Result World World) (s : State) → Stays s (pointer_went r s)
  stays-went (Ok w) s = refl
  stays-went (Err w) s = tt

  stays-jumps : (n label : ℕ) (s : State) → Stays s (jumps_unless_0 n label s)
  stays-jumps zero label s = refl
  stays-jumps (suc n) label s = refl

  stays-came_back : (to bounds : Option ℕ) (o : Outcome) (s : State) → IsNone v (maybe to ++ maybe bounds) → Stays s (came_back to bounds o s)
  stays-came_back None None (Comes x w) s none = refl
  stays-came_back None (Some b) (Comes x w) s none = not_it b _ s.values none.0
  stays-came_back (Some t) None (Comes x w) s none = not_it t _ s.values none.0
  stays-came_back (Some t) (Some b) (Comes x w) s none = not_either t b _ _ s.values none.0 none.1.0
  stays-came_back to bounds (Stops why w) s none = tt
  stays-came_back to bounds Stuck s none = tt

  stays-answered : (to : Option ℕ) (a : Served Refusal) (s : State) → IsNone v (maybe to) → Stays s (answered to a s)
  stays-answered None (Answers x g) s none = refl
  stays-answered (Some t) (Answers x g) s none = not_it t _ s.values none.0
  stays-answered to (Exits code) s none = tt
  stays-answered to Overflows s none = tt
  stays-answered to (Refused why) s none = tt

  pub others-stay : (symbols : Symbols) (step : FatStep) (s : State) → IsNone v (writes step) → Stays s (does symbols step s)
  others-stay symbols (Const to n) s none = not_it to _ s.values none.0
  others-stay symbols (Copy to from) s none = after-held (Stays s) tt (s.values from) _ (λ x. not_it to x s.values none.0)
  others-stay symbols (Arith to op kind a b) s none = after-number (Stays s) tt (s.values a) _ (λ x. after-number (Stays s) tt (s.values b) _ (λ y. stays-computed to (word_arithmetic op kind x y) s none.0))
  others-stay symbols (Compare to op kind a b) s none = after-number (Stays s) tt (s.values a) _ (λ x. after-number (Stays s) tt (s.values b) _ (λ y. not_it to _ s.values none.0))
  others-stay symbols (Extend to from kind) s none = after-number (Stays s) tt (s.values from) _ (λ x. not_it to _ s.values none.0)
  others-stay symbols (Place to bounds symbol offset size) s none = not_either to bounds _ _ s.values none.0 none.1.0
  others-stay symbols (Make to p n) s none = after-number (Stays s) tt (s.values p) _ (λ x. after-number (Stays s) tt (s.values n) _ (λ y. not_it to _ s.values none.0))
  others-stay symbols (Meet to a b) s none = after-bounds (Stays s) tt (s.values a) _ (λ x. after-bounds (Stays s) tt (s.values b) _ (λ y. not_it to _ s.values none.0))
  others-stay symbols (Bound to from upper) s none = after-bounds (Stays s) tt (s.values from) _ (λ b. not_it to _ s.values none.0)
  others-stay symbols (Judge value size bounds write place) s none = after-number (Stays s) tt (s.values value) _ (λ p. after-bounds (Stays s) tt (s.values bounds) _ (λ b. stays-judged (leaving_value p size b) b record { place = place; write = write; size = size } s))
  others-stay symbols (Load p to kind) s none = after-number (Stays s) tt (s.values p) _ (λ a. stays-unless_refused (refusal false (size_of kind) a) s (number_loaded a to kind s) (not_it to _ s.values none.0))
  others-stay symbols (Store p from kind) s none = after-number (Stays s) tt (s.values p) _ (λ a. after-number (Stays s) tt (s.values from) _ (λ n. stays-unless_refused (refusal true (size_of kind) a) s (number_stored a n kind s) refl))
  others-stay symbols (LoadPtr p to bounds) s none = after-number (Stays s) tt (s.values p) _ (λ a. stays-unless_refused (refusal false 8 a) s (pointer_came to bounds (pointer_read s.world a) s) (stays-came to bounds (pointer_read s.world a) s none.0 none.1.0))
  others-stay symbols (StorePtr p from bounds) s none = after-number (Stays s) tt (s.values p) _ (λ a. after-number (Stays s) tt (s.values from) _ (λ n. after-bounds (Stays s) tt (s.values bounds) _ (λ b. stays-unless_refused (refusal true 8 a) s (pointer_went (pointer_written s.world a n b) s) (stays-went (pointer_written s.world a n b) s))))
  others-stay symbols (Label n) s none = refl
  others-stay symbols (Jump n) s none = refl
  others-stay symbols (JumpIf from n) s none = after-number (Stays s) tt (s.values from) _ (λ x. stays-jumps x n s)
  others-stay symbols (Call symbol args to bounds) s none = after-arguments (Stays s) tt s.values args _ (λ vs. stays-came_back to bounds (symbols.call symbol vs s.world) s none)
  others-stay symbols (Service service arg to) s none = after-number_or_0 (Stays s) tt s.values arg _ (λ word. stays-answered to (served_in_c service word s.world) s none)
  others-stay symbols (Give from bounds) s none = after-number_or_0 (Stays s) tt s.values from _ (λ n. after-bounds_or_full (Stays s) tt s.values bounds _ (λ b. tt))
