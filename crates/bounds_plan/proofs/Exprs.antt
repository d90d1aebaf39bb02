-- The steps of expressions do what the expressions do.
use Rattle.std.proofs.Common.{ℕ, suc, ◌+◌, ◌*◌, ◌%◌, ◌≡◌, ◌≤◌, ◌<◌, refl, sym, ap, ◌∙◌, subst, length, [], ◌∷◌, Some, None, Bool, true, false, cond, arith}
use Rattle.std.specs.Prelude.{◌≢◌}
use Rattle.mx_base.specs.Numbers.{size_of, extended}
use Rattle.mx_base.specs.Memory.{number_at}
use Rattle.mx_base.specs.declared.numbers.IntKind.TheVariants.{U64}
use Rattle.mx_base.specs.declared.services.CService.TheVariants as in_c
use Rattle.mx_base.specs.Operators.{word_arithmetic, word_compares}
use Rattle.mx_base.specs.Bounds.{addresses, full_bounds, met, moved, bounds_at}
use Rattle.mx_base.specs.World.{MadeAt, FullBy, NullConstant, InitBuiltin, FromInteger as WasInteger, pointer_read, read_noted}
use Rattle.fat_ir.specs.declared.step.FatStep.TheVariants as s
use Rattle.fat_ir.specs.Values.{Number, Pair}
use Rattle.fat_ir.specs.Step.{Located, pointer_into, Symbols, Next, Reached, On, with_number, with_pair, with_pointer, with_world, came_back, served_in_c, pointer_came, number_loaded}
use Rattle.fat_ir.specs.Run.{pass, and_then}
use Rattle.bounds_plan.proofs.Fresh.{fresh, fresh_ptr}
use Rattle.bounds_plan.specs.meaning.Core.{NumberExpr, Word, Variable, Assign, Operate, Compare, Convert, AsNumber, Load, Store, Update, UpdateAt, And, Or, Choose, Call, Serve, Ask, PointerExpr, Null, FromInteger, Function, Object, InFrame, VariablePtr, AssignPtr, Member, Element, ElementAfter, LoadPtr, StorePtr, Advance, AdvanceAt, ChoosePtr, CallPtr, Alloc, SetBounds, NarrowBounds, CopyBounds, InitBounds, BoundOf, Arguments, NoMore, WithNumber, WithPointer}
use Rattle.bounds_plan.specs.meaning.State.{Pointer, OfNumber, OfPointer, Done, M, bind, ◌>>=◌, ◌>>◌, pure, set_variable, with_cause, with_made, place_of}
use Rattle.bounds_plan.specs.meaning.Accesses.{load_ptr, store_ptr, read_number as source_read, read_pointer, allow}
use Rattle.bounds_plan.specs.meaning.Expressions.{Names, number, pointer, arguments, operate, object, either, block, calling, number_passed, pointer_passed, step}
use Rattle.bounds_plan.specs.steps.Code.{plus_or_minus, before_or_after, arguments_at, labels, labels_ptr, code, code_ptr, codes}
use Rattle.bounds_plan.specs.steps.Follows.{Fits, FitsPtr, FitsAll, DoesSame}
use Rattle.bounds_plan.proofs.Sim.{here, there, read_number, read_bounds, read_held_number, read_held_pair, beside, NumberIn, PointerIn, agree_on, stay_on, RunsTo, and_on, on_step, judge_follows, allow_follows}
use Rattle.bounds_plan.proofs.Pieces.{SimN, SimP, finish_number, kept_number, kept_pair, stay_join, home_number, home_pair, finish_pair, finish_pointer, finish_came, Same, stores_number, stores_pointer, same_stay, of_same, full_at_0, finish_front, finish_full, finish_object, weaken, chooses, made_of, finish_operated, under, over, finish_set, operate_follows, both, one_of, finish_served, serves, finish_block, finish_update, scale_follows, finish_member, finish_element, finish_element_after, update_at, advance_at, advance, finish_set_ptr, ArgumentsIn, read_none, read_one, read_two, reads, came_number, came_pointer}

module _ (private : ℕ) (sorts : ℕ → Bool) where
  module _ (symbols : Symbols) where
    module _ (names : Names) (takes : ℕ → ℕ) (same_place : (x : ℕ) → symbols.located x ≡ names.located x) (same : DoesSame takes names.call symbols.call) where
      abbrev RunsN : NumberExpr → (d l : ℕ) → Type 0
      RunsN e d l = RunsTo private sorts symbols (NumberIn private sorts) d (code e d l) (number names e)

      abbrev RunsP : PointerExpr → (d l : ℕ) → Type 0
      RunsP e d l = RunsTo private sorts symbols (PointerIn private sorts) d (code_ptr e d l) (pointer names e)

      mutual
        pub runs : (e : NumberExpr) (d l : ℕ) → private ≤ d → Fits private sorts takes e → RunsN e d l
        runs (Word n) d l above fit numbers pairs log t a = finish_number private sorts symbols d t numbers pairs log (s.Const d n) t n t.world above a (λ v p q. refl) refl
        runs (Variable x) d l above fit numbers pairs log t a = finish_number private sorts symbols d t numbers pairs log (s.Copy d x) t (numbers x) t.world above a (λ v p q. refl) (read_held_number _ (a x fit.0 ∙ home_number private sorts symbols numbers pairs x fit.1))
        runs (Operate op kind x y) d l above fit numbers pairs log t a = and_on private sorts symbols (NumberIn private sorts d t) (NumberIn private sorts d t) _ (code x d l) _ t _ (runs x d l above fit.0 numbers pairs log t a)
            (λ m numbers pairs log u a at. and_on private sorts symbols (NumberIn private sorts (d + 2) u) (NumberIn private sorts d t) _ (code y (d + 2) (l + labels x)) _ u _ (runs y (d + 2) (l + labels x) (omega (arith, above)) fit.1 numbers pairs log u a)
            (λ n numbers pairs log w a there_at.
            let one : w.values d ≡ Number m = kept_number private sorts symbols (d + 2) d m u w above (omega arith) at.0 there_at.1 in
            let S : Reached → Type 0 = λ r. SimN private sorts symbols d t (operate op kind m n (beside private sorts numbers pairs log w)) (and_then r (pass symbols [])) in
            subst S (sym (read_number _ one ∙ read_number _ there_at.0))
            (finish_operated private sorts symbols d t numbers pairs log (word_arithmetic op kind m n) w above a (stay_join private sorts symbols d (d + 2) t u w (omega arith) at.1 there_at.1))))
        runs (Compare op kind x y) d l above fit numbers pairs log t a = and_on private sorts symbols (NumberIn private sorts d t) (NumberIn private sorts d t) _ (code x d l) _ t _ (runs x d l above fit.0 numbers pairs log t a)
            (λ m numbers pairs log u a at. and_on private sorts symbols (NumberIn private sorts (d + 2) u) (NumberIn private sorts d t) _ (code y (d + 2) (l + labels x)) _ u _ (runs y (d + 2) (l + labels x) (omega (arith, above)) fit.1 numbers pairs log u a)
            (λ n numbers pairs log w a there_at.
            let one : w.values d ≡ Number m = kept_number private sorts symbols (d + 2) d m u w above (omega arith) at.0 there_at.1 in
            finish_number private sorts symbols d t numbers pairs log (s.Compare d op kind d (d + 2)) w (word_compares op kind m n) w.world above a (stay_join private sorts symbols d (d + 2) t u w (omega arith) at.1 there_at.1)
            (read_number _ one ∙ read_number _ there_at.0)))
        runs (Convert kind e) d l above fit numbers pairs log t a = and_on private sorts symbols (NumberIn private sorts d t) (NumberIn private sorts d t) _ (code e d l) _ t _ (runs e d l above fit numbers pairs log t a)
            (λ n numbers pairs log u a at. finish_number private sorts symbols d t numbers pairs log (s.Extend d d kind) u (extended kind n) u.world above a at.1 (read_number _ at.0))
        runs (AsNumber p) d l above fit numbers pairs log t a = made_of private sorts symbols (PointerIn private sorts d t) (NumberIn private sorts d t) (λ p. p.address) _ _ (runs_ptr p d l above fit numbers pairs log t a) (λ p u at. (at.0, at.2))
        runs (Load kind place p) d l above fit numbers pairs log t a = and_on private sorts symbols (PointerIn private sorts d t) (NumberIn private sorts d t) _ (code_ptr p d l) _ t _ (runs_ptr p d l above fit numbers pairs log t a)
            (λ p numbers pairs log u a at.
            let n = extended kind (number_at (size_of kind) u.world.bytes p.address) in
            let after = with_world (read_noted (size_of kind) u.world p.address) u in
            judge_follows private sorts symbols (NumberIn private sorts d t) false (size_of kind) place p (allow false (size_of kind) p >> source_read kind p) d (d + 1) (s.Load d d kind ∷ []) (beside private sorts numbers pairs log u) u refl at.0 at.1
            (allow_follows private sorts symbols (NumberIn private sorts d t) false (size_of kind) p (source_read kind p) (s.Load d d kind) [] (beside private sorts numbers pairs log u) u (number_loaded p.address d kind u) refl (read_number _ at.0)
            (with_number d n after, refl, refl, agree_on private sorts numbers pairs d (Number n) after above a, (here d (Number n) u.values, stay_on private sorts d t after d (Number n) (omega arith) at.2))))
        runs (Store kind place p e) d l above fit numbers pairs log t a = and_on private sorts symbols (PointerIn private sorts d t) (NumberIn private sorts d t) _ (code_ptr p d l) _ t _ (runs_ptr p d l above fit.0 numbers pairs log t a)
            (λ q numbers pairs log u a at. and_on private sorts symbols (NumberIn private sorts (d + 2) u) (NumberIn private sorts d t) _ (code e (d + 2) (l + labels_ptr p)) _ u _ (runs e (d + 2) (l + labels_ptr p) (omega (arith, above)) fit.1 numbers pairs log u a)
            (λ n numbers pairs log w a there_at.
            let one : w.values d ≡ Number q.address = kept_number private sorts symbols (d + 2) d q.address u w above (omega arith) at.0 there_at.1 in
            let two : w.values (d + 1) ≡ Pair q.rooted.bounds = kept_pair private sorts symbols (d + 2) (d + 1) q.rooted.bounds u w (omega (arith, above)) (omega arith) at.1 there_at.1 in
            and_on private sorts symbols (Same private sorts symbols w) (NumberIn private sorts d t) _ (s.Judge d (size_of kind) (d + 1) true place ∷ s.Store d (d + 2) kind ∷ []) (s.Copy d (d + 2) ∷ []) w _
            (stores_number private sorts symbols kind place q n d (d + 1) (d + 2) numbers pairs log w one two there_at.0 a)
            (λ x numbers pairs log y a same.
            finish_number private sorts symbols d t numbers pairs log (s.Copy d (d + 2)) y n y.world above a (same_stay private sorts symbols d t w y same (stay_join private sorts symbols d (d + 2) t u w (omega arith) at.2 there_at.1)) (read_held_number _ (of_same private sorts symbols w y x same (d + 2) ∙ there_at.0)))))
        runs (Choose test x y) d l above fit numbers pairs log t a = and_on private sorts symbols (NumberIn private sorts d t) (NumberIn private sorts d t) _ (code test d (l + 2)) _ t _ (runs test d (l + 2) above fit.0 numbers pairs log t a)
            (λ n numbers pairs log u a at. chooses private sorts symbols (NumberIn private sorts d t) d l n (code x d (l + 2 + labels test + labels y)) (code y d (l + 2 + labels test)) (number names x) (number names y) u (beside private sorts numbers pairs log u) at.0
            (fresh y d (l + 2 + labels test) l record { is = λ p. absurd (omega (arith, p)) }) (fresh x d (l + 2 + labels test + labels y) (l + 1) record { is = λ p. absurd (omega (arith, p)) })
            (weaken private sorts symbols (NumberIn private sorts d u) (NumberIn private sorts d t) _ _ (runs x d (l + 2 + labels test + labels y) above fit.1 numbers pairs log u a) (λ v w got. (got.0, stay_join private sorts symbols d d t u w (omega arith) at.1 got.1)))
            (weaken private sorts symbols (NumberIn private sorts d u) (NumberIn private sorts d t) _ _ (runs y d (l + 2 + labels test) above fit.2 numbers pairs log u a) (λ v w got. (got.0, stay_join private sorts symbols d d t u w (omega arith) at.1 got.1))))
        runs (Assign x e) d l above fit numbers pairs log t a = and_on private sorts symbols (NumberIn private sorts d t) (NumberIn private sorts d t) _ (code e d l) _ t _ (runs e d l above fit.1 numbers pairs log t a)
            (λ n numbers pairs log u a at. finish_set private sorts symbols d x n t numbers pairs log u above fit.0.0 fit.0.1 a at.1 at.0)
        runs (Update x kind op common e old) d l above fit numbers pairs log t a = and_on private sorts symbols (NumberIn private sorts d t) (NumberIn private sorts d t) _ (code e d l) _ t _ (runs e d l above fit.1 numbers pairs log t a)
            (λ n numbers pairs log u a at.
            let before = numbers x in
            let one = with_number (d + 2) before u in
            let st1 = stay_on private sorts d t u (d + 2) (Number before) (omega arith) at.1 in
            let a1 = agree_on private sorts numbers pairs (d + 2) (Number before) u (omega (arith, above)) a in
            let go = λ (after : ℕ). set_variable x (extended kind after) >> pure (either old before (extended kind after)) in
            let rest = s.Extend d d kind ∷ s.Copy x d ∷ s.Copy d (before_or_after old (d + 2) d) ∷ [] in
            on_step private sorts symbols (NumberIn private sorts d t) (bind (operate op common before n (beside private sorts numbers pairs log u)) go) (s.Copy (d + 2) x) (s.Arith d op common (d + 2) d ∷ rest) u one (read_held_number _ (a x fit.0.0 ∙ home_number private sorts symbols numbers pairs x fit.0.1))
            (operate_follows private sorts symbols (NumberIn private sorts d t) op common before n d (d + 2) d go rest (beside private sorts numbers pairs log u) one refl (here (d + 2) (Number before) u.values) (under private sorts symbols d (d + 2) (Number before) (Number n) u (omega arith) at.0)
            (λ r. finish_update private sorts symbols d x kind old before r t numbers pairs log one above fit.0.0 fit.0.1 a1 st1 (here (d + 2) (Number before) u.values))))
        runs (And x y) d l above fit numbers pairs log t a = and_on private sorts symbols (NumberIn private sorts d t) (NumberIn private sorts d t) _ (code x d (l + 3)) _ t _ (runs x d (l + 3) above fit.0 numbers pairs log t a)
            (λ n numbers pairs log u a at. both private sorts symbols d l n (code y d (l + 3 + labels x)) (number names y) t numbers pairs log u above (fresh y d (l + 3 + labels x) (l + 1) record { is = λ p. absurd (omega (arith, p)) }) a at.0 at.1
            (weaken private sorts symbols (NumberIn private sorts d u) (NumberIn private sorts d t) _ _ (runs y d (l + 3 + labels x) above fit.1 numbers pairs log u a) (λ v w got. (got.0, stay_join private sorts symbols d d t u w (omega arith) at.1 got.1))))
        runs (Or x y) d l above fit numbers pairs log t a = and_on private sorts symbols (NumberIn private sorts d t) (NumberIn private sorts d t) _ (code x d (l + 2)) _ t _ (runs x d (l + 2) above fit.0 numbers pairs log t a)
            (λ n numbers pairs log u a at. one_of private sorts symbols d l n (code y d (l + 2 + labels x)) (number names y) t numbers pairs log u above (fresh y d (l + 2 + labels x) l record { is = λ p. absurd (omega (arith, p)) }) a at.0 at.1
            (weaken private sorts symbols (NumberIn private sorts d u) (NumberIn private sorts d t) _ _ (runs y d (l + 2 + labels x) above fit.1 numbers pairs log u a) (λ v w got. (got.0, stay_join private sorts symbols d d t u w (omega arith) at.1 got.1))))
        runs (Serve service e) d l above fit numbers pairs log t a = and_on private sorts symbols (NumberIn private sorts d t) (NumberIn private sorts d t) _ (code e d l) _ t _ (runs e d l above fit numbers pairs log t a)
            (λ word numbers pairs log u a at. serves private sorts symbols service word d d t numbers pairs log u above a at.1 at.0)
        runs (Ask service) d l above fit numbers pairs log t a = finish_served private sorts symbols d t numbers pairs log (served_in_c service 0 t.world) t above a (λ v p q. refl)
        runs (UpdateAt kind place p op common e old) d l above fit numbers pairs log t a = and_on private sorts symbols (PointerIn private sorts d t) (NumberIn private sorts d t) _ (code_ptr p d l) _ t _ (runs_ptr p d l above fit.0 numbers pairs log t a)
            (λ q numbers pairs log u a at. and_on private sorts symbols (NumberIn private sorts (d + 2) u) (NumberIn private sorts d t) _ (code e (d + 2) (l + labels_ptr p)) _ u _ (runs e (d + 2) (l + labels_ptr p) (omega (arith, above)) fit.1 numbers pairs log u a)
            (λ n numbers pairs log w a there_at. update_at private sorts symbols kind place op common old d q n t numbers pairs log w above a (stay_join private sorts symbols d (d + 2) t u w (omega arith) at.2 there_at.1)
            (kept_number private sorts symbols (d + 2) d q.address u w above (omega arith) at.0 there_at.1) (kept_pair private sorts symbols (d + 2) (d + 1) q.rooted.bounds u w (omega (arith, above)) (omega arith) at.1 there_at.1) there_at.0))
        runs (Call symbol args) d l above fit numbers pairs log t a = and_on private sorts symbols (ArgumentsIn private sorts symbols args d t) (NumberIn private sorts d t) _ (codes args d l) _ t _ (runs_all args d l above fit.1 numbers pairs log t a)
            (λ vs numbers pairs log u a got.
            let S : Reached → Type 0 = λ r. SimN private sorts symbols d t (bind (calling names symbol vs (beside private sorts numbers pairs log u)) (λ v. pure (number_passed v))) (and_then r (pass symbols [])) in
            subst S (sym (reads private sorts symbols (arguments_at args d) vs u got.0 _ ∙ ap (λ r. came_back (Some d) None r u) (same symbol vs u.world log (got.1 ∙ fit.0))))
            (came_number private sorts symbols d t numbers pairs log (names.call symbol vs u.world log) u above a got.2))

        pub runs_ptr : (e : PointerExpr) (d l : ℕ) → private ≤ d → FitsPtr private sorts takes e → RunsP e d l
        runs_ptr (VariablePtr x) d l above fit numbers pairs log t a =
            let copied = with_number d (numbers x) t in
            let other : x + 1 ≢ d = λ h. omega (arith, h, above, fit.0) in
            let low : x < private = omega (arith, fit.0) in
            on_step private sorts symbols (PointerIn private sorts d t) (Done record { address = numbers x; rooted = pairs (x + 1) } (beside private sorts numbers pairs log t)) (s.Copy d x) (s.Copy (d + 1) (x + 1) ∷ []) t copied (read_held_number _ (a x low ∙ home_number private sorts symbols numbers pairs x fit.1))
            (finish_pair private sorts symbols d t numbers pairs log (s.Copy (d + 1) (x + 1)) copied record { address = numbers x; rooted = pairs (x + 1) } t.world above (agree_on private sorts numbers pairs d (Number (numbers x)) t above a) (stay_on private sorts d t t d (Number (numbers x)) (omega arith) (λ v p q. refl)) (here d (Number (numbers x)) t.values)
            (read_held_pair _ (there (x + 1) d (Number (numbers x)) t.values other ∙ a (x + 1) fit.0 ∙ home_pair private sorts symbols numbers pairs (x + 1) fit.2)))
        runs_ptr (LoadPtr place e) d l above fit numbers pairs log t a = and_on private sorts symbols (PointerIn private sorts d t) (PointerIn private sorts d t) _ (code_ptr e d l) _ t _ (runs_ptr e d l above fit numbers pairs log t a)
            (λ p numbers pairs log u a at. judge_follows private sorts symbols (PointerIn private sorts d t) false 8 place p (allow false 8 p >> read_pointer p) d (d + 1) (s.LoadPtr d d (d + 1) ∷ []) (beside private sorts numbers pairs log u) u refl at.0 at.1
            (allow_follows private sorts symbols (PointerIn private sorts d t) false 8 p (read_pointer p) (s.LoadPtr d d (d + 1)) [] (beside private sorts numbers pairs log u) u (pointer_came d (d + 1) (pointer_read u.world p.address) u) refl (read_number _ at.0)
            (finish_came private sorts symbols d t p (pointer_read u.world p.address) _ u above a at.2)))
        runs_ptr (CopyBounds e f) d l above fit numbers pairs log t a = and_on private sorts symbols (PointerIn private sorts d t) (PointerIn private sorts d t) _ (code_ptr e d l) _ t _ (runs_ptr e d l above fit.0 numbers pairs log t a)
            (λ q numbers pairs log u a at. and_on private sorts symbols (PointerIn private sorts (d + 2) u) (PointerIn private sorts d t) _ (code_ptr f (d + 2) (l + labels_ptr e)) _ u _ (runs_ptr f (d + 2) (l + labels_ptr e) (omega (arith, above)) fit.1 numbers pairs log u a)
            (λ r numbers pairs log w a there_at.
            finish_pair private sorts symbols d t numbers pairs log (s.Copy (d + 1) (d + 2 + 1)) w record { address = q.address; rooted = r.rooted } w.world above a (stay_join private sorts symbols d (d + 2) t u w (omega arith) at.2 there_at.2) (kept_number private sorts symbols (d + 2) d q.address u w above (omega arith) at.0 there_at.2)
            (read_held_pair _ there_at.1)))
        runs_ptr Null d l above fit numbers pairs log t a =
            let first = with_number d 0 t in
            on_step private sorts symbols (PointerIn private sorts d t) (Done record { address = 0; rooted = record { bounds = full_bounds; root = FullBy NullConstant } } record { numbers = numbers; pairs = pairs; world = t.world; log = with_cause NullConstant log }) (s.Const d 0) (s.Make (d + 1) d d ∷ []) t first refl
            (finish_pair private sorts symbols d t numbers pairs (with_cause NullConstant log) (s.Make (d + 1) d d) first record { address = 0; rooted = record { bounds = full_bounds; root = FullBy NullConstant } } t.world above (agree_on private sorts numbers pairs d (Number 0) t above a) (stay_on private sorts d t t d (Number 0) (omega arith) (λ v p q. refl)) (here d (Number 0) t.values)
            (read_number _ (here d (Number 0) t.values) ∙ read_number _ (here d (Number 0) t.values) ∙ full_at_0 private sorts symbols (d + 1) first))
        runs_ptr (InFrame offset size) d l above fit numbers pairs log t a = finish_pointer private sorts symbols d t numbers pairs log t record { address = moved t.world.data_sp offset; rooted = record { bounds = bounds_at (moved t.world.data_sp offset) size; root = MadeAt (place_of (bounds_at (moved t.world.data_sp offset) size) log.made) } } t.world above a (λ v p q. refl)
        runs_ptr (SetBounds e n) d l above fit numbers pairs log t a = and_on private sorts symbols (PointerIn private sorts d t) (PointerIn private sorts d t) _ (code_ptr e d l) _ t _ (runs_ptr e d l above fit.0 numbers pairs log t a)
            (λ q numbers pairs log u a at. and_on private sorts symbols (NumberIn private sorts (d + 2) u) (PointerIn private sorts d t) _ (code n (d + 2) (l + labels_ptr e)) _ u _ (runs n (d + 2) (l + labels_ptr e) (omega (arith, above)) fit.1 numbers pairs log u a)
            (λ size numbers pairs log w a there_at.
            let one : w.values d ≡ Number q.address = kept_number private sorts symbols (d + 2) d q.address u w above (omega arith) at.0 there_at.1 in
            finish_pair private sorts symbols d t numbers pairs (with_made (bounds_at q.address size) log) (s.Make (d + 1) d (d + 2)) w record { address = q.address; rooted = record { bounds = bounds_at q.address size; root = MadeAt (length log.made) } } w.world above a (stay_join private sorts symbols d (d + 2) t u w (omega arith) at.2 there_at.1) one
            (read_number _ one ∙ read_number _ there_at.0)))
        runs_ptr (StorePtr place e f) d l above fit numbers pairs log t a = and_on private sorts symbols (PointerIn private sorts d t) (PointerIn private sorts d t) _ (code_ptr e d l) _ t _ (runs_ptr e d l above fit.0 numbers pairs log t a)
            (λ p numbers pairs log u a at. and_on private sorts symbols (PointerIn private sorts (d + 2) u) (PointerIn private sorts d t) _ (code_ptr f (d + 2) (l + labels_ptr e)) _ u _ (runs_ptr f (d + 2) (l + labels_ptr e) (omega (arith, above)) fit.1 numbers pairs log u a)
            (λ q numbers pairs log w a there_at.
            let one : w.values d ≡ Number p.address = kept_number private sorts symbols (d + 2) d p.address u w above (omega arith) at.0 there_at.2 in
            let two : w.values (d + 1) ≡ Pair p.rooted.bounds = kept_pair private sorts symbols (d + 2) (d + 1) p.rooted.bounds u w (omega (arith, above)) (omega arith) at.1 there_at.2 in
            and_on private sorts symbols (Same private sorts symbols w) (PointerIn private sorts d t) _ (s.Judge d 8 (d + 1) true place ∷ s.StorePtr d (d + 2) (d + 2 + 1) ∷ []) (s.Copy d (d + 2) ∷ s.Copy (d + 1) (d + 2 + 1) ∷ []) w _
            (stores_pointer private sorts symbols place p q d (d + 1) (d + 2) (d + 2 + 1) numbers pairs log w one two there_at.0 there_at.1 a)
            (λ x numbers pairs log y a same.
            let stay = same_stay private sorts symbols d t w y same (stay_join private sorts symbols d (d + 2) t u w (omega arith) at.2 there_at.2) in
            let copied = with_number d q.address y in
            let other : d + 2 + 1 ≢ d = λ h. omega (arith, h) in
            on_step private sorts symbols (PointerIn private sorts d t) (Done q (beside private sorts numbers pairs log y)) (s.Copy d (d + 2)) (s.Copy (d + 1) (d + 2 + 1) ∷ []) y copied (read_held_number _ (of_same private sorts symbols w y x same (d + 2) ∙ there_at.0))
            (finish_pair private sorts symbols d t numbers pairs log (s.Copy (d + 1) (d + 2 + 1)) copied q y.world above (agree_on private sorts numbers pairs d (Number q.address) y above a) (stay_on private sorts d t y d (Number q.address) (omega arith) stay) (here d (Number q.address) y.values)
            (read_held_pair _ (there (d + 2 + 1) d (Number q.address) y.values other ∙ of_same private sorts symbols w y x same (d + 2 + 1) ∙ there_at.1))))))
        runs_ptr (FromInteger e) d l above fit numbers pairs log t a = and_on private sorts symbols (NumberIn private sorts d t) (PointerIn private sorts d t) _ (code e d l) _ t _ (runs e d l above fit numbers pairs log t a)
            (λ n numbers pairs log u a at. finish_full private sorts symbols d n (FullBy WasInteger) t numbers pairs (with_cause WasInteger log) u above a at.1 at.0)
        runs_ptr (Function symbol) d l above fit numbers pairs log t a =
            let S : Located → Type 0 = λ x. SimP private sorts symbols d t (object (names.located symbol) 0 1 (beside private sorts numbers pairs log t)) (On Next (with_pointer d (d + 1) (pointer_into x 0 1) t)) in
            subst S (sym (same_place symbol)) (finish_object private sorts symbols d t (names.located symbol) 0 1 numbers pairs log above a)
        runs_ptr (Object symbol offset size) d l above fit numbers pairs log t a =
            let S : Located → Type 0 = λ x. SimP private sorts symbols d t (object (names.located symbol) offset size (beside private sorts numbers pairs log t)) (On Next (with_pointer d (d + 1) (pointer_into x offset size) t)) in
            subst S (sym (same_place symbol)) (finish_object private sorts symbols d t (names.located symbol) offset size numbers pairs log above a)
        runs_ptr (InitBounds e) d l above fit numbers pairs log t a = and_on private sorts symbols (PointerIn private sorts d t) (PointerIn private sorts d t) _ (code_ptr e d l) _ t _ (runs_ptr e d l above fit numbers pairs log t a)
            (λ q numbers pairs log u a at. finish_full private sorts symbols d q.address (FullBy InitBuiltin) t numbers pairs (with_cause InitBuiltin log) u above a at.2 at.0)
        runs_ptr (BoundOf upper e) d l above fit numbers pairs log t a = and_on private sorts symbols (PointerIn private sorts d t) (PointerIn private sorts d t) _ (code_ptr e d l) _ t _ (runs_ptr e d l above fit numbers pairs log t a)
            (λ q numbers pairs log u a at. finish_front private sorts symbols d t numbers pairs log (s.Bound d (d + 1) upper) u record { address = cond upper q.rooted.bounds.ub q.rooted.bounds.lb; rooted = q.rooted } above a at.2 at.1 (read_bounds _ at.1))
        runs_ptr (ChoosePtr test x y) d l above fit numbers pairs log t a = and_on private sorts symbols (NumberIn private sorts d t) (PointerIn private sorts d t) _ (code test d (l + 2)) _ t _ (runs test d (l + 2) above fit.0 numbers pairs log t a)
            (λ n numbers pairs log u a at. chooses private sorts symbols (PointerIn private sorts d t) d l n (code_ptr x d (l + 2 + labels test + labels_ptr y)) (code_ptr y d (l + 2 + labels test)) (pointer names x) (pointer names y) u (beside private sorts numbers pairs log u) at.0
            (fresh_ptr y d (l + 2 + labels test) l record { is = λ p. absurd (omega (arith, p)) }) (fresh_ptr x d (l + 2 + labels test + labels_ptr y) (l + 1) record { is = λ p. absurd (omega (arith, p)) })
            (weaken private sorts symbols (PointerIn private sorts d u) (PointerIn private sorts d t) _ _ (runs_ptr x d (l + 2 + labels test + labels_ptr y) above fit.1 numbers pairs log u a) (λ v w got. (got.0, got.1, stay_join private sorts symbols d d t u w (omega arith) at.1 got.2)))
            (weaken private sorts symbols (PointerIn private sorts d u) (PointerIn private sorts d t) _ _ (runs_ptr y d (l + 2 + labels test) above fit.2 numbers pairs log u a) (λ v w got. (got.0, got.1, stay_join private sorts symbols d d t u w (omega arith) at.1 got.2))))
        runs_ptr (Alloc e) d l above fit numbers pairs log t a = and_on private sorts symbols (NumberIn private sorts d t) (PointerIn private sorts d t) _ (code e d (l + 1)) _ t _ (runs e d (l + 1) above fit numbers pairs log t a)
            (λ n numbers pairs log u a at. and_on private sorts symbols (NumberIn private sorts (d + 2) u) (PointerIn private sorts d t) _ (s.Service in_c.Alloc (Some d) (Some (d + 2)) ∷ []) (s.JumpIf (d + 2) l ∷ s.Const d 0 ∷ s.Label l ∷ s.Make (d + 1) (d + 2) d ∷ s.Copy d (d + 2) ∷ []) u (λ x. block n x) (serves private sorts symbols in_c.Alloc n d (d + 2) u numbers pairs log u (omega (arith, above)) a (λ v p q. refl) at.0)
            (λ x numbers pairs log w a got. finish_block private sorts symbols d l n x t numbers pairs log w above a (stay_join private sorts symbols d (d + 2) t u w (omega arith) at.1 got.1) (kept_number private sorts symbols (d + 2) d n u w above (omega arith) at.0 got.1) got.0))
        runs_ptr (AssignPtr x e) d l above fit numbers pairs log t a = and_on private sorts symbols (PointerIn private sorts d t) (PointerIn private sorts d t) _ (code_ptr e d l) _ t _ (runs_ptr e d l above fit.1 numbers pairs log t a)
            (λ p numbers pairs log u a at. finish_set_ptr private sorts symbols d x p t numbers pairs log u above fit.0.0 fit.0.1 fit.0.2 a at.2 at.0 at.1)
        runs_ptr (Member offset rule e) d l above fit numbers pairs log t a = and_on private sorts symbols (PointerIn private sorts d t) (PointerIn private sorts d t) _ (code_ptr e d l) _ t _ (runs_ptr e d l above fit numbers pairs log t a)
            (λ p numbers pairs log u a at. finish_member private sorts symbols rule d offset p t numbers pairs log u above a at.2 at.0 at.1)
        runs_ptr (Element minus size e i) d l above fit numbers pairs log t a = and_on private sorts symbols (PointerIn private sorts d t) (PointerIn private sorts d t) _ (code_ptr e d l) _ t _ (runs_ptr e d l above fit.0 numbers pairs log t a)
            (λ p numbers pairs log u a at. and_on private sorts symbols (NumberIn private sorts (d + 2) u) (PointerIn private sorts d t) _ (code i (d + 2) (l + labels_ptr e)) _ u _ (runs i (d + 2) (l + labels_ptr e) (omega (arith, above)) fit.1 numbers pairs log u a)
            (λ n numbers pairs log w a there_at. finish_element private sorts symbols minus size d p n t numbers pairs log w above a (stay_join private sorts symbols d (d + 2) t u w (omega arith) at.2 there_at.1)
            (kept_number private sorts symbols (d + 2) d p.address u w above (omega arith) at.0 there_at.1) (kept_pair private sorts symbols (d + 2) (d + 1) p.rooted.bounds u w (omega (arith, above)) (omega arith) at.1 there_at.1) there_at.0))
        runs_ptr (ElementAfter size i e) d l above fit numbers pairs log t a = and_on private sorts symbols (NumberIn private sorts d t) (PointerIn private sorts d t) _ (code i d l) _ t _ (runs i d l above fit.0 numbers pairs log t a)
            (λ n numbers pairs log u a at. and_on private sorts symbols (PointerIn private sorts (d + 2) u) (PointerIn private sorts d t) _ (code_ptr e (d + 2) (l + labels i)) _ u _ (runs_ptr e (d + 2) (l + labels i) (omega (arith, above)) fit.1 numbers pairs log u a)
            (λ p numbers pairs log w a there_at. finish_element_after private sorts symbols size d p n t numbers pairs log w above a (stay_join private sorts symbols d (d + 2) t u w (omega arith) at.1 there_at.2)
            (kept_number private sorts symbols (d + 2) d n u w above (omega arith) at.0 there_at.2) there_at.0 there_at.1))
        runs_ptr (Advance x minus size i old) d l above fit numbers pairs log t a = and_on private sorts symbols (NumberIn private sorts d t) (PointerIn private sorts d t) _ (code i d l) _ t _ (runs i d l above fit.1 numbers pairs log t a)
            (λ n numbers pairs log u a at. advance private sorts symbols x minus size old d n t numbers pairs log u above fit.0.0 fit.0.1 fit.0.2 a at.1 at.0)
        runs_ptr (AdvanceAt place e minus size i old) d l above fit numbers pairs log t a = and_on private sorts symbols (PointerIn private sorts d t) (PointerIn private sorts d t) _ (code_ptr e d l) _ t _ (runs_ptr e d l above fit.0 numbers pairs log t a)
            (λ p numbers pairs log u a at. and_on private sorts symbols (NumberIn private sorts (d + 2) u) (PointerIn private sorts d t) _ (code i (d + 2) (l + labels_ptr e)) _ u _ (runs i (d + 2) (l + labels_ptr e) (omega (arith, above)) fit.1 numbers pairs log u a)
            (λ n numbers pairs log w a there_at.
            let one : w.values d ≡ Number p.address = kept_number private sorts symbols (d + 2) d p.address u w above (omega arith) at.0 there_at.1 in
            let two : w.values (d + 1) ≡ Pair p.rooted.bounds = kept_pair private sorts symbols (d + 2) (d + 1) p.rooted.bounds u w (omega (arith, above)) (omega arith) at.1 there_at.1 in
            let e2 : private ≤ d + 2 = omega (arith, above) in
            let e4 : private ≤ d + 4 = omega (arith, above) in
            let k = n * size % addresses in
            let w1 = with_number (d + 4) size w in
            let w2 = with_number (d + 2) k w1 in
            let moves_on : M Pointer = load_ptr place p >>= (λ before. store_ptr place p (step minus size before n) >> pure (either old before (step minus size before n))) in
            let rest = s.Judge d 8 (d + 1) false place ∷ s.LoadPtr d (d + 4) (d + 4 + 1) ∷ s.Arith (d + 2) (plus_or_minus minus) U64 (d + 4) (d + 2) ∷ s.Judge d 8 (d + 1) true place ∷ s.StorePtr d (d + 2) (d + 4 + 1) ∷ s.Copy d (before_or_after old (d + 4) (d + 2)) ∷ s.Copy (d + 1) (d + 4 + 1) ∷ [] in
            scale_follows private sorts symbols (PointerIn private sorts d t) (moves_on (beside private sorts numbers pairs log w)) size n (d + 2) (d + 4) rest w (omega arith) there_at.0
            (advance_at private sorts symbols place minus size old d p n t numbers pairs log w2 above (agree_on private sorts numbers pairs (d + 2) (Number k) w1 e2 (agree_on private sorts numbers pairs (d + 4) (Number size) w e4 a))
            (stay_on private sorts d t w1 (d + 2) (Number k) (omega arith) (stay_on private sorts d t w (d + 4) (Number size) (omega arith) (stay_join private sorts symbols d (d + 2) t u w (omega arith) at.2 there_at.1)))
            (under private sorts symbols d (d + 2) (Number k) (Number p.address) w1 (omega arith) (under private sorts symbols d (d + 4) (Number size) (Number p.address) w (omega arith) one))
            (under private sorts symbols (d + 1) (d + 2) (Number k) (Pair p.rooted.bounds) w1 (omega arith) (under private sorts symbols (d + 1) (d + 4) (Number size) (Pair p.rooted.bounds) w (omega arith) two))
            (here (d + 2) (Number k) w1.values))))
        runs_ptr (CallPtr symbol args) d l above fit numbers pairs log t a = and_on private sorts symbols (ArgumentsIn private sorts symbols args d t) (PointerIn private sorts d t) _ (codes args d l) _ t _ (runs_all args d l above fit.1 numbers pairs log t a)
            (λ vs numbers pairs log u a got.
            let S : Reached → Type 0 = λ r. SimP private sorts symbols d t (bind (calling names symbol vs (beside private sorts numbers pairs log u)) (λ v. pointer_passed v)) (and_then r (pass symbols [])) in
            subst S (sym (reads private sorts symbols (arguments_at args d) vs u got.0 _ ∙ ap (λ r. came_back (Some d) (Some (d + 1)) r u) (same symbol vs u.world log (got.1 ∙ fit.0))))
            (came_pointer private sorts symbols d t numbers pairs log (names.call symbol vs u.world log) u above a got.2))
        runs_ptr (NarrowBounds e f n) d l above fit numbers pairs log t a = and_on private sorts symbols (PointerIn private sorts d t) (PointerIn private sorts d t) _ (code_ptr e d l) _ t _ (runs_ptr e d l above fit.0 numbers pairs log t a)
            (λ p numbers pairs log u a at. and_on private sorts symbols (PointerIn private sorts (d + 2) u) (PointerIn private sorts d t) _ (code_ptr f (d + 2) (l + labels_ptr e)) _ u _ (runs_ptr f (d + 2) (l + labels_ptr e) (omega (arith, above)) fit.1 numbers pairs log u a)
            (λ q numbers pairs log w a got. and_on private sorts symbols (NumberIn private sorts (d + 4) w) (PointerIn private sorts d t) _ (code n (d + 4) (l + labels_ptr e + labels_ptr f)) _ w _ (runs n (d + 4) (l + labels_ptr e + labels_ptr f) (omega (arith, above)) fit.2 numbers pairs log w a)
            (λ size numbers pairs log y a last.
            let one : y.values d ≡ Number p.address = kept_number private sorts symbols (d + 4) d p.address w y above (omega arith) (kept_number private sorts symbols (d + 2) d p.address u w above (omega arith) at.0 got.2) last.1 in
            let two : y.values (d + 2 + 1) ≡ Pair q.rooted.bounds = kept_pair private sorts symbols (d + 4) (d + 2 + 1) q.rooted.bounds w y (omega (arith, above)) (omega arith) got.1 last.1 in
            let e1 : private ≤ d + 1 = omega (arith, above) in
            let c = bounds_at p.address size in
            let y1 = with_pair (d + 1) c y in
            let r : Pointer = record { address = p.address; rooted = record { bounds = met q.rooted.bounds c; root = q.rooted.root } } in
            on_step private sorts symbols (PointerIn private sorts d t) (Done r (beside private sorts numbers pairs log y)) (s.Make (d + 1) d (d + 4)) (s.Meet (d + 1) (d + 2 + 1) (d + 1) ∷ []) y y1 (read_number _ one ∙ read_number _ last.0)
            (finish_pair private sorts symbols d t numbers pairs log (s.Meet (d + 1) (d + 2 + 1) (d + 1)) y1 r y.world above (agree_on private sorts numbers pairs (d + 1) (Pair c) y e1 a)
            (stay_on private sorts d t y (d + 1) (Pair c) (omega arith) (stay_join private sorts symbols d (d + 4) t w y (omega arith) (stay_join private sorts symbols d (d + 2) t u w (omega arith) at.2 got.2) last.1)) (under private sorts symbols d (d + 1) (Pair c) (Number p.address) y (omega arith) one)
            (read_bounds _ (over private sorts symbols (d + 2 + 1) (d + 1) (Pair c) (Pair q.rooted.bounds) y (omega arith) two) ∙ read_bounds _ (here (d + 1) (Pair c) y.values))))))

        pub runs_all : (args : Arguments) (d l : ℕ) → private ≤ d → FitsAll private sorts takes args → RunsTo private sorts symbols (ArgumentsIn private sorts symbols args) d (codes args d l) (arguments names args)
        runs_all NoMore d l above fit numbers pairs log t a = (t, refl, refl, a, (read_none private sorts symbols d t, refl, λ v p q. refl))
        runs_all (WithNumber e rest) d l above fit numbers pairs log t a = and_on private sorts symbols (NumberIn private sorts d t) (ArgumentsIn private sorts symbols (WithNumber e rest) d t) _ (code e d l) _ t _ (runs e d l above fit.0 numbers pairs log t a)
            (λ n numbers pairs log u a at. made_of private sorts symbols (ArgumentsIn private sorts symbols rest (d + 2) u) (ArgumentsIn private sorts symbols (WithNumber e rest) d t) (λ vs. OfNumber n ∷ vs) _ _ (runs_all rest (d + 2) (l + labels e) (omega (arith, above)) fit.1 numbers pairs log u a)
            (λ vs w got. (read_one private sorts symbols (arguments_at rest (d + 2)) vs d n w (kept_number private sorts symbols (d + 2) d n u w above (omega arith) at.0 got.2) got.0, ap suc got.1, stay_join private sorts symbols d (d + 2) t u w (omega arith) at.1 got.2)))
        runs_all (WithPointer e rest) d l above fit numbers pairs log t a = and_on private sorts symbols (PointerIn private sorts d t) (ArgumentsIn private sorts symbols (WithPointer e rest) d t) _ (code_ptr e d l) _ t _ (runs_ptr e d l above fit.0 numbers pairs log t a)
            (λ p numbers pairs log u a at. made_of private sorts symbols (ArgumentsIn private sorts symbols rest (d + 2) u) (ArgumentsIn private sorts symbols (WithPointer e rest) d t) (λ vs. OfPointer p ∷ vs) _ _ (runs_all rest (d + 2) (l + labels_ptr e) (omega (arith, above)) fit.1 numbers pairs log u a)
            (λ vs w got. (read_two private sorts symbols (arguments_at rest (d + 2)) vs d p w (kept_number private sorts symbols (d + 2) d p.address u w above (omega arith) at.0 got.2) (kept_pair private sorts symbols (d + 2) (d + 1) p.rooted.bounds u w (omega (arith, above)) (omega arith) at.1 got.2) got.0, ap suc got.1, stay_join private sorts symbols d (d + 2) t u w (omega arith) at.2 got.2)))
