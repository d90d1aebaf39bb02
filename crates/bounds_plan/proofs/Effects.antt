-- The steps of effects do what the effects do.
use Rattle.std.proofs.Common.{ℕ, ◌+◌, ◌≡◌, ◌≤◌, ◌<◌, refl, sym, ap, ◌∙◌, subst, List, [], ◌∷◌, Option, Some, None, Bool, true, false, arith}
use Rattle.mx_base.specs.declared.operators.Arithmetic.TheVariants.{Add}
use Rattle.mx_base.specs.declared.numbers.IntKind.{IntKind}
use Rattle.mx_base.specs.declared.numbers.IntKind.TheVariants.{U64}
use Rattle.mx_base.specs.declared.places.Place.{Place as PlaceOf}
use Rattle.mx_base.specs.Numbers.{size_of, extended}
use Rattle.mx_base.specs.Bounds.{moved}
use Rattle.mx_base.specs.Memory.{number_at}
use Rattle.mx_base.specs.World.{World, Log, Rooted, pointer_read, pointer_written, read_noted, number_written}
use Rattle.fat_ir.specs.declared.step.FatStep.{FatStep}
use Rattle.fat_ir.specs.declared.step.FatStep.TheVariants as s
use Rattle.fat_ir.specs.Values.{Number, Pair}
use Rattle.fat_ir.specs.Step.{Symbols, State as T, Next, Reached, On, Over, with_number, with_world, number_loaded, number_stored, pointer_came, pointer_went}
use Rattle.fat_ir.specs.Run.{pass, and_then}
use Rattle.bounds_plan.specs.meaning.Core.{PointerExpr, Scalar, Effect, Nothing, OfNumber as ForNumber, OfPointer as ForPointer, CopyStruct}
use Rattle.bounds_plan.specs.meaning.State.{Pointer, State, Ended, Done, Stopped, M, bind, ◌>>=◌, ◌>>◌}
use Rattle.bounds_plan.specs.meaning.Accesses.{access, judge, allow, read_number as source_read, write_number as source_write, read_pointer, write_pointer}
use Rattle.bounds_plan.specs.meaning.Expressions.{Names}
use Rattle.bounds_plan.specs.meaning.Statements.{part, copy_scalar, copy_scalars, effect}
use Rattle.bounds_plan.specs.steps.Code.{copied, copied_all, labels_ptr, code_ptr, code_effect}
use Rattle.bounds_plan.specs.steps.Follows.{FitsEffect, DoesSame}
use Rattle.bounds_plan.proofs.Words.{word-word}
use Rattle.bounds_plan.proofs.Sim.{here, read_number, read_bounds, Agree, Sim, beside, NumberIn, PointerIn, agree_on, and_on, on_step, judge_follows, allow_follows}
use Rattle.bounds_plan.proofs.Exprs.{runs, runs_ptr}
use Rattle.bounds_plan.proofs.Pieces.{made_of, weaken, under, over, offset_follows, finish_came, finish_went, Same, of_same}

-- nothing is asked of a value
abbrev pub Anything : {A : Type 0} → A → T → Type 0
Anything v u = Unit {0}

module _ (private : ℕ) (sorts : ℕ → Bool) (symbols : Symbols) (names : Names) (takes : ℕ → ℕ) (same_place : (x : ℕ) → symbols.located x ≡ names.located x) (same : DoesSame takes names.call symbols.call) (d : ℕ) (above : private ≤ d) where
  moved_twice : (a o : ℕ) → moved (moved a 0) o ≡ moved a o
  unfolding moved
  moved_twice a o = omega arith

  -- the structs stand where they are copied from and to
  abbrev Places : (to from : Pointer) → Unit {0} → T → Type 0
  Places to from x u = (u.values d ≡ Number (moved to.address 0)) × (u.values (d + 2) ≡ Number (moved from.address 0))

  offset_to : {A : Type 0} (P : A → T → Type 0) (res : Ended A) (n x m to a free : ℕ) (rest : List FatStep) (u : T) → a < free → moved x n ≡ m → u.values a ≡ Number x → Sim private sorts P res (pass symbols rest Next (with_number to m (with_number free n u)))
      → Sim private sorts P res (pass symbols (s.Const free n ∷ s.Arith to Add U64 a free ∷ rest) Next u)
  offset_to P res n x m to a free rest u low e at h =
      let S : ℕ → Type 0 = λ k. Sim private sorts P res (pass symbols rest Next (with_number to k (with_number free n u))) in
      offset_follows private sorts symbols P res n x to a free rest u low at (subst S (sym e) h)

  idle : (r : Reached) → and_then r (pass symbols []) ≡ r
  idle (On going u) = refl
  idle (Over outcome) = refl

  -- what was reached by a first step, and then the rest
  then_on : {A B : Type 0} (Q : A → T → Type 0) (P : B → T → Type 0) (res : Ended A) (r : Reached) (e : List FatStep) (go : A → M B) → Sim private sorts Q res (and_then r (pass symbols []))
      → ((v : A) (numbers : ℕ → ℕ) (pairs : ℕ → Rooted) (log : Log) (u : T) → Agree private sorts numbers pairs u → Q v u → Sim private sorts P (go v (beside private sorts numbers pairs log u)) (pass symbols e Next u))
      → Sim private sorts P (bind res go) (and_then r (pass symbols e))
  then_on Q P (Done v z) r e go h all =
      let u = h.0 in
      let S : Reached → Type 0 = λ x. Sim private sorts P (go v z) x in
      let W : World → Type 0 = λ w. Sim private sorts P (go v record { numbers = z.numbers; pairs = z.pairs; world = w; log = z.log }) (pass symbols e Next u) in
      subst S (sym (ap (λ x. and_then x (pass symbols e)) (sym (idle r) ∙ h.1))) (subst W h.2 (all v z.numbers z.pairs z.log u h.3 h.4))
  then_on Q P (Stopped why z) r e go h all = ap (λ x. and_then x (pass symbols e)) (sym (idle r) ∙ h)

  scalar_runs : (kind : Option IntKind) (offset : ℕ) (to from : Pointer) (numbers : ℕ → ℕ) (pairs : ℕ → Rooted) (log : Log) (u : T) → Agree private sorts numbers pairs u → Places to from tt u → Sim private sorts (Places to from) (copy_scalar kind (part offset to) (part offset from) (beside private sorts numbers pairs log u)) (pass symbols (copied offset kind d) Next u)
  scalar_runs (Some kind) offset to from numbers pairs log u a at =
      let p = part offset from in
      let q = part offset to in
      let x = moved to.address 0 in
      let y = moved from.address 0 in
      let u1 = with_number (d + 4) offset u in
      let u2 = with_number (d + 6) p.address u1 in
      let n = extended kind (number_at (size_of kind) u2.world.bytes p.address) in
      let u2' = with_world (read_noted (size_of kind) u2.world p.address) u2 in
      let u3 = with_number (d + 6) n u2' in
      let u4 = with_number (d + 4) offset u3 in
      let u5 = with_number (d + 4) q.address u4 in
      let u6 = with_world (number_written (size_of kind) u5.world q.address n) u5 in
      let e4 : private ≤ d + 4 = omega (arith, above) in
      let e6 : private ≤ d + 6 = omega (arith, above) in
      let a3 = agree_on private sorts numbers pairs (d + 6) (Number n) u2' e6 (agree_on private sorts numbers pairs (d + 6) (Number p.address) u1 e6 (agree_on private sorts numbers pairs (d + 4) (Number offset) u e4 a)) in
      let a5 = agree_on private sorts numbers pairs (d + 4) (Number q.address) u4 e4 (agree_on private sorts numbers pairs (d + 4) (Number offset) u3 e4 a3) in
      let d3 : u3.values d ≡ Number x = under private sorts symbols d (d + 6) (Number n) (Number x) u2' (omega arith) (under private sorts symbols d (d + 6) (Number p.address) (Number x) u1 (omega arith) (under private sorts symbols d (d + 4) (Number offset) (Number x) u (omega arith) at.0)) in
      let f3 : u3.values (d + 2) ≡ Number y = under private sorts symbols (d + 2) (d + 6) (Number n) (Number y) u2' (omega arith) (under private sorts symbols (d + 2) (d + 6) (Number p.address) (Number y) u1 (omega arith) (under private sorts symbols (d + 2) (d + 4) (Number offset) (Number y) u (omega arith) at.1)) in
      let d5 : u5.values d ≡ Number x = under private sorts symbols d (d + 4) (Number q.address) (Number x) u4 (omega arith) (under private sorts symbols d (d + 4) (Number offset) (Number x) u3 (omega arith) d3) in
      let f5 : u5.values (d + 2) ≡ Number y = under private sorts symbols (d + 2) (d + 4) (Number q.address) (Number y) u4 (omega arith) (under private sorts symbols (d + 2) (d + 4) (Number offset) (Number y) u3 (omega arith) f3) in
      let n5 : u5.values (d + 6) ≡ Number n = over private sorts symbols (d + 6) (d + 4) (Number q.address) (Number n) u4 (omega arith) (over private sorts symbols (d + 6) (d + 4) (Number offset) (Number n) u3 (omega arith) (here (d + 6) (Number n) u2'.values)) in
      let writes : ℕ → M (Unit {0}) = λ n. allow true (size_of kind) q >> source_write kind q n in
      let rest = s.Const (d + 4) offset ∷ s.Arith (d + 4) Add U64 d (d + 4) ∷ s.Store (d + 4) (d + 6) kind ∷ [] in
      let st3 : State = record { numbers = numbers; pairs = pairs; world = u5.world; log = access false (size_of kind) p log } in
      offset_to (Places to from) (copy_scalar (Some kind) q p (beside private sorts numbers pairs log u)) offset y p.address (d + 6) (d + 2) (d + 4) (s.Load (d + 6) (d + 6) kind ∷ rest) u (omega arith) (moved_twice from.address offset) at.1
      (allow_follows private sorts symbols (Places to from) false (size_of kind) p (source_read kind p >>= writes) (s.Load (d + 6) (d + 6) kind) rest (beside private sorts numbers pairs log u2) u2 (number_loaded p.address (d + 6) kind u2) refl (read_number _ (here (d + 6) (Number p.address) u1.values))
      (offset_to (Places to from) (writes n st3) offset x q.address (d + 4) d (d + 4) (s.Store (d + 4) (d + 6) kind ∷ []) u3 (omega arith) (moved_twice to.address offset) d3
      (allow_follows private sorts symbols (Places to from) true (size_of kind) q (source_write kind q n) (s.Store (d + 4) (d + 6) kind) [] st3 u5 (number_stored q.address n kind u5) refl (read_number _ (here (d + 4) (Number q.address) u4.values) ∙ read_number _ n5)
      (u6, refl, refl, a5, (d5, f5)))))
  scalar_runs None offset to from numbers pairs log u a at =
      let p = part offset from in
      let q = part offset to in
      let x = moved to.address 0 in
      let y = moved from.address 0 in
      let u1 = with_number (d + 4) offset u in
      let u2 = with_number (d + 6) p.address u1 in
      let e2 : private ≤ d + 2 = omega (arith, above) in
      let e4 : private ≤ d + 4 = omega (arith, above) in
      let e6 : private ≤ d + 6 = omega (arith, above) in
      let a2 = agree_on private sorts numbers pairs (d + 6) (Number p.address) u1 e6 (agree_on private sorts numbers pairs (d + 4) (Number offset) u e4 a) in
      let d2 : u2.values d ≡ Number x = under private sorts symbols d (d + 6) (Number p.address) (Number x) u1 (omega arith) (under private sorts symbols d (d + 4) (Number offset) (Number x) u (omega arith) at.0) in
      let f2 : u2.values (d + 2) ≡ Number y = under private sorts symbols (d + 2) (d + 6) (Number p.address) (Number y) u1 (omega arith) (under private sorts symbols (d + 2) (d + 4) (Number offset) (Number y) u (omega arith) at.1) in
      let writes : Pointer → M (Unit {0}) = λ v. allow true 8 q >> write_pointer q v in
      let rest = s.Const (d + 4) offset ∷ s.Arith (d + 4) Add U64 d (d + 4) ∷ s.StorePtr (d + 4) (d + 6) (d + 6 + 1) ∷ [] in
      offset_to (Places to from) (copy_scalar None q p (beside private sorts numbers pairs log u)) offset y p.address (d + 6) (d + 2) (d + 4) (s.LoadPtr (d + 6) (d + 6) (d + 6 + 1) ∷ rest) u (omega arith) (moved_twice from.address offset) at.1
      (allow_follows private sorts symbols (Places to from) false 8 p (read_pointer p >>= writes) (s.LoadPtr (d + 6) (d + 6) (d + 6 + 1)) rest (beside private sorts numbers pairs log u2) u2 (pointer_came (d + 6) (d + 6 + 1) (pointer_read u2.world p.address) u2) refl (read_number _ (here (d + 6) (Number p.address) u1.values))
      (then_on (PointerIn private sorts (d + 6) u2) (Places to from) (read_pointer p (beside private sorts numbers pairs log u2)) (pointer_came (d + 6) (d + 6 + 1) (pointer_read u2.world p.address) u2) rest writes
      (finish_came private sorts symbols (d + 6) u2 p (pointer_read u2.world p.address) record { numbers = numbers; pairs = pairs; world = u2.world; log = access false 8 p log } u2 e6 a2 (λ v p q. refl))
      (λ v numbers pairs log w a got.
      let w1 = with_number (d + 4) offset w in
      let w2 = with_number (d + 4) q.address w1 in
      let dw : w.values d ≡ Number x = got.2 d above (omega arith) ∙ d2 in
      let fw : w.values (d + 2) ≡ Number y = got.2 (d + 2) e2 (omega arith) ∙ f2 in
      let dw2 : w2.values d ≡ Number x = under private sorts symbols d (d + 4) (Number q.address) (Number x) w1 (omega arith) (under private sorts symbols d (d + 4) (Number offset) (Number x) w (omega arith) dw) in
      let fw2 : w2.values (d + 2) ≡ Number y = under private sorts symbols (d + 2) (d + 4) (Number q.address) (Number y) w1 (omega arith) (under private sorts symbols (d + 2) (d + 4) (Number offset) (Number y) w (omega arith) fw) in
      let vn : w2.values (d + 6) ≡ Number v.address = over private sorts symbols (d + 6) (d + 4) (Number q.address) (Number v.address) w1 (omega arith) (over private sorts symbols (d + 6) (d + 4) (Number offset) (Number v.address) w (omega arith) got.0) in
      let vb : w2.values (d + 6 + 1) ≡ Pair v.rooted.bounds = over private sorts symbols (d + 6 + 1) (d + 4) (Number q.address) (Pair v.rooted.bounds) w1 (omega arith) (over private sorts symbols (d + 6 + 1) (d + 4) (Number offset) (Pair v.rooted.bounds) w (omega arith) got.1) in
      let aw2 = agree_on private sorts numbers pairs (d + 4) (Number q.address) w1 e4 (agree_on private sorts numbers pairs (d + 4) (Number offset) w e4 a) in
      offset_to (Places to from) (writes v (beside private sorts numbers pairs log w)) offset x q.address (d + 4) d (d + 4) (s.StorePtr (d + 4) (d + 6) (d + 6 + 1) ∷ []) w (omega arith) (moved_twice to.address offset) dw
      (allow_follows private sorts symbols (Places to from) true 8 q (write_pointer q v) (s.StorePtr (d + 4) (d + 6) (d + 6 + 1)) [] (beside private sorts numbers pairs log w2) w2 (pointer_went (pointer_written w2.world q.address v.address v.rooted.bounds) w2) refl
      (read_number _ (here (d + 4) (Number q.address) w1.values) ∙ read_number _ vn ∙ read_bounds _ vb)
      (weaken private sorts symbols (Same private sorts symbols w2) (Places to from) _ _ (finish_went private sorts symbols q v.rooted.root (pointer_written w2.world q.address v.address v.rooted.bounds) record { numbers = numbers; pairs = pairs; world = w2.world; log = access true 8 q log } w2 aw2)
      (λ i z same. (of_same private sorts symbols w2 z i same d ∙ dw2, of_same private sorts symbols w2 z i same (d + 2) ∙ fw2)))))))

  scalars_run : (scalars : List Scalar) (to from : Pointer) (numbers : ℕ → ℕ) (pairs : ℕ → Rooted) (log : Log) (u : T) → Agree private sorts numbers pairs u → Places to from tt u → Sim private sorts (Places to from) (copy_scalars scalars to from (beside private sorts numbers pairs log u)) (pass symbols (copied_all scalars d) Next u)
  scalars_run [] to from numbers pairs log u a at = (u, refl, refl, a, at)
  scalars_run (x ∷ rest) to from numbers pairs log u a at = and_on private sorts symbols (Places to from) (Places to from) (copy_scalar x.kind (part x.offset to) (part x.offset from) (beside private sorts numbers pairs log u)) (copied x.offset x.kind d) (copied_all rest d) u (λ i. copy_scalars rest to from)
      (scalar_runs x.kind x.offset to from numbers pairs log u a at) (λ i numbers pairs log w a at. scalars_run rest to from numbers pairs log w a at)

  copy_runs : (size : ℕ) (scalars : List Scalar) (to_place : PlaceOf) (to : PointerExpr) (from_place : PlaceOf) (from : PointerExpr) (l : ℕ) → FitsEffect private sorts takes (CopyStruct size scalars to_place to from_place from) → (numbers : ℕ → ℕ) (pairs : ℕ → Rooted) (log : Log) (t : T) → Agree private sorts numbers pairs t → Sim private sorts Anything (effect names (CopyStruct size scalars to_place to from_place from) (beside private sorts numbers pairs log t)) (pass symbols (code_effect (CopyStruct size scalars to_place to from_place from) d l) Next t)
  copy_runs size scalars to_place to from_place from l fit numbers pairs log t a = and_on private sorts symbols (PointerIn private sorts d t) Anything _ (code_ptr to d l) _ t _ (runs_ptr private sorts symbols names takes same_place same to d l above fit.0 numbers pairs log t a)
      (λ q numbers pairs log u a at. and_on private sorts symbols (PointerIn private sorts (d + 2) u) Anything _ (code_ptr from (d + 2) (l + labels_ptr to)) _ u _ (runs_ptr private sorts symbols names takes same_place same from (d + 2) (l + labels_ptr to) (omega (arith, above)) fit.1 numbers pairs log u a)
      (λ p numbers pairs log w a got.
      let x = moved q.address 0 in
      let y = moved p.address 0 in
      let e1 : private ≤ d + 1 = omega (arith, above) in
      let e2 : private ≤ d + 2 = omega (arith, above) in
      let wd : w.values d ≡ Number q.address = got.2 d above (omega arith) ∙ at.0 in
      let wb : w.values (d + 1) ≡ Pair q.rooted.bounds = got.2 (d + 1) e1 (omega arith) ∙ at.1 in
      let w1 = with_number (d + 2) y w in
      let w2 = with_number d x w1 in
      let copies : M (Unit {0}) = copy_scalars scalars q p in
      let rest3 = s.Judge d size (d + 1) true to_place ∷ copied_all scalars d in
      let rest2 = s.Extend d d U64 ∷ rest3 in
      let rest1 = s.Judge (d + 2) size (d + 2 + 1) false from_place ∷ rest2 in
      on_step private sorts symbols Anything ((judge false size from_place (part 0 p) >> (judge true size to_place (part 0 q) >> copies)) (beside private sorts numbers pairs log w)) (s.Extend (d + 2) (d + 2) U64) rest1 w w1 (read_number _ got.0 ∙ ap (λ n. On Next (with_number (d + 2) n w)) (word-word p.address))
      (judge_follows private sorts symbols Anything false size from_place (part 0 p) (judge true size to_place (part 0 q) >> copies) (d + 2) (d + 2 + 1) rest2 (beside private sorts numbers pairs log w1) w1 refl (here (d + 2) (Number y) w.values) (over private sorts symbols (d + 2 + 1) (d + 2) (Number y) (Pair p.rooted.bounds) w (omega arith) got.1)
      (on_step private sorts symbols Anything ((judge true size to_place (part 0 q) >> copies) (beside private sorts numbers pairs log w1)) (s.Extend d d U64) rest3 w1 w2 (read_number _ (under private sorts symbols d (d + 2) (Number y) (Number q.address) w (omega arith) wd) ∙ ap (λ n. On Next (with_number d n w1)) (word-word q.address))
      (judge_follows private sorts symbols Anything true size to_place (part 0 q) copies d (d + 1) (copied_all scalars d) (beside private sorts numbers pairs log w2) w2 refl (here d (Number x) w1.values) (over private sorts symbols (d + 1) d (Number x) (Pair q.rooted.bounds) w1 (omega arith) (under private sorts symbols (d + 1) (d + 2) (Number y) (Pair q.rooted.bounds) w (omega arith) wb))
      (weaken private sorts symbols (Places q p) Anything _ _ (scalars_run scalars q p numbers pairs log w2 (agree_on private sorts numbers pairs d (Number x) w1 above (agree_on private sorts numbers pairs (d + 2) (Number y) w e2 a)) (here d (Number x) w1.values, over private sorts symbols (d + 2) d (Number x) (Number y) w1 (omega arith) (here (d + 2) (Number y) w.values)))
      (λ i z at. tt)))))))

  pub effect_runs : (e : Effect) (l : ℕ) → FitsEffect private sorts takes e → (numbers : ℕ → ℕ) (pairs : ℕ → Rooted) (log : Log) (t : T) → Agree private sorts numbers pairs t → Sim private sorts Anything (effect names e (beside private sorts numbers pairs log t)) (pass symbols (code_effect e d l) Next t)
  effect_runs Nothing l fit numbers pairs log t a = (t, refl, refl, a, tt)
  effect_runs (ForNumber e) l fit numbers pairs log t a = made_of private sorts symbols (NumberIn private sorts d t) Anything (λ v. tt) _ _ (runs private sorts symbols names takes same_place same e d l above fit numbers pairs log t a) (λ v u at. tt)
  effect_runs (ForPointer e) l fit numbers pairs log t a = made_of private sorts symbols (PointerIn private sorts d t) Anything (λ v. tt) _ _ (runs_ptr private sorts symbols names takes same_place same e d l above fit numbers pairs log t a) (λ v u at. tt)
  effect_runs (CopyStruct size scalars to_place to from_place from) l fit numbers pairs log t a = copy_runs size scalars to_place to from_place from l fit numbers pairs log t a
