-- The code of a tree names values of the right sort alone, among as many temporaries as it needs.
use Rattle.std.proofs.Common.{ℕ, zero, suc, ◌+◌, ◌*◌, ◌≡◌, ◌≤◌, ◌<◌, refl, sym, ap, ◌∙◌, subst, inl, inr, List, [], ◌∷◌, ◌++◌, Option, Some, None, Bool, true, false, arith}
use Rattle.mx_base.specs.declared.numbers.IntKind.{IntKind}
use Rattle.narrowing.specs.declared.member.Rule.{Rule}
use Rattle.narrowing.specs.declared.member.Rule.TheVariants.{Keep, Meet}
use Rattle.fat_ir.specs.declared.step.FatStep.{FatStep}
use Rattle.fat_ir.specs.declared.step.FatStep.TheVariants as s
use Rattle.bounds_plan.specs.meaning.Core.{NumberExpr, Word, Variable, Assign, Operate, Compare, Convert, AsNumber, Load, Store, Update, UpdateAt, And, Or, Choose, Call, Serve, Ask, PointerExpr, Null, FromInteger, Function, Object, InFrame, VariablePtr, AssignPtr, Member, Element, ElementAfter, LoadPtr, StorePtr, Advance, AdvanceAt, ChoosePtr, CallPtr, Alloc, SetBounds, NarrowBounds, CopyBounds, InitBounds, BoundOf, Arguments, NoMore, WithNumber, WithPointer, Scalar, Effect, Nothing, OfNumber as ForNumber, OfPointer as ForPointer, CopyStruct, Statement, Skip, Do, Then, If, While, DoWhile, For, Break, Continue, Return, ReturnNumber, ReturnPtr}
use Rattle.bounds_plan.specs.steps.Code.{labels, labels_ptr, labels_of, before_or_after, arguments_at, ruled, code, code_ptr, codes, copied, copied_all, code_effect, code_of, arrivals, arrived, in_turn, most_pairs, fat_function}
use Rattle.bounds_plan.specs.steps.Follows.{Fits, FitsPtr, FitsAll, FitsEffect, FitsStatement, IsNumber, IsPointer}
use Rattle.std.specs.Prelude.{slice_index_or, get_or, length}
use Rattle.std.proofs.lemmas.List.{length-append, append_assoc, get_or_append_left, get_or-append-add}
use Rattle.std.proofs.Math.Seq.{get_or-append_seam}
use Rattle.bounds_plan.specs.meaning.Functions.{Parameter, Private, Framed, FunctionOfC}
use Rattle.bounds_plan.specs.steps.Compiled.{sorts_of, FitsFunction}
use Rattle.bounds_plan.specs.steps.Sorts.{pairs, pairs_ptr, pairs_all, pairs_effect, pairs_of, OfArguments, AllNameRight, NumberIn, BoundsIn}

module _ (private : ℕ) (sorts : ℕ → Bool) (takes : ℕ → ℕ) (N B : ℕ → Type 0) (numbers : (x : ℕ) → IsNumber private sorts x → N x) (pointers : (x : ℕ) → IsPointer private sorts x → N x × B (x + 1)) where
  abbrev pub All : List FatStep → Type 0
  All c = AllNameRight N B c

  -- n pairs of temporaries from d on
  abbrev pub Temps : ℕ → ℕ → Type 0
  Temps d n = (i : ℕ) → i < n → N (d + 2 * i) × B (d + 2 * i + 1)

  pub both : (a b : List FatStep) → All a → All b → All (a ++ b)
  both [] b h g = g
  both (x ∷ a) b h g = (h.0, both a b h.1 g)

  -- the first, second, third and fourth of them
  first : (d n : ℕ) → 1 ≤ n → Temps d n → N d × B (d + 1)
  first d n le t = let P : ℕ → Type 0 = λ x. N x × B (x + 1) in subst P (omega arith) (t 0 (omega (arith, le)))

  second : (d n : ℕ) → 2 ≤ n → Temps d n → N (d + 2) × B (d + 2 + 1)
  second d n le t = t 1 (omega (arith, le))

  third : (d n : ℕ) → 3 ≤ n → Temps d n → N (d + 4) × B (d + 4 + 1)
  third d n le t = t 2 (omega (arith, le))

  fourth : (d n : ℕ) → 4 ≤ n → Temps d n → N (d + 6) × B (d + 6 + 1)
  fourth d n le t = t 3 (omega (arith, le))

  fewer : (d n m : ℕ) → m ≤ n → Temps d n → Temps d m
  fewer d n m le t = λ i lt. t i (omega (arith, le, lt))

  beyond : (d n m : ℕ) → 1 + m ≤ n → Temps d n → Temps (d + 2) m
  beyond d n m le t = λ i lt. let P : ℕ → Type 0 = λ x. N x × B (x + 1) in subst P (omega arith) (t (1 + i) (omega (arith, le, lt)))

  beyond_two : (d n m : ℕ) → 2 + m ≤ n → Temps d n → Temps (d + 4) m
  beyond_two d n m le t = λ i lt. let P : ℕ → Type 0 = λ x. N x × B (x + 1) in subst P (omega arith) (t (2 + i) (omega (arith, le, lt)))

  -- every tree needs one
  mutual
    some : (e : NumberExpr) → 1 ≤ pairs e
    some (Word n) = omega arith
    some (Variable x) = omega arith
    some (Assign x e) = some e
    some (Operate op kind a b) = let h = some a in omega (arith, h)
    some (Compare op kind a b) = let h = some a in omega (arith, h)
    some (Convert kind e) = some e
    some (AsNumber p) = some_ptr p
    some (Load kind place p) = some_ptr p
    some (Store kind place p e) = let h = some_ptr p in omega (arith, h)
    some (Update x kind op common e old) = omega arith
    some (UpdateAt kind place p op common e old) = omega arith
    some (And a b) = let h = some a in omega (arith, h)
    some (Or a b) = let h = some a in omega (arith, h)
    some (Choose test a b) = let h = some test in omega (arith, h)
    some (Call symbol args) = omega arith
    some (Serve service e) = some e
    some (Ask service) = omega arith

    some_ptr : (e : PointerExpr) → 1 ≤ pairs_ptr e
    some_ptr Null = omega arith
    some_ptr (FromInteger e) = omega arith
    some_ptr (Function symbol) = omega arith
    some_ptr (Object symbol offset size) = omega arith
    some_ptr (InFrame offset size) = omega arith
    some_ptr (VariablePtr x) = omega arith
    some_ptr (AssignPtr x e) = some_ptr e
    some_ptr (Member offset rule p) = omega arith
    some_ptr (Element minus size p i) = omega arith
    some_ptr (ElementAfter size i p) = omega arith
    some_ptr (LoadPtr place p) = some_ptr p
    some_ptr (StorePtr place p e) = let h = some_ptr p in omega (arith, h)
    some_ptr (Advance x minus size i old) = omega arith
    some_ptr (AdvanceAt place p minus size i old) = omega arith
    some_ptr (ChoosePtr test a b) = let h = some test in omega (arith, h)
    some_ptr (CallPtr symbol args) = omega arith
    some_ptr (Alloc e) = omega arith
    some_ptr (SetBounds q n) = let h = some_ptr q in omega (arith, h)
    some_ptr (NarrowBounds p q n) = let h = some_ptr p in omega (arith, h)
    some_ptr (CopyBounds q r) = let h = some_ptr q in omega (arith, h)
    some_ptr (InitBounds q) = omega arith
    some_ptr (BoundOf upper q) = some_ptr q

  one_of : (old : Bool) (a b : ℕ) → N a → N b → N (before_or_after old a b)
  one_of true a b h g = h
  one_of false a b h g = g

  args_right : (args : Arguments) (d : ℕ) → Temps d (pairs_all args) → OfArguments N B (arguments_at args d)
  args_right NoMore d t = tt
  args_right (WithNumber e rest) d t = ((first d (pairs_all (WithNumber e rest)) (omega arith) t).0, tt, args_right rest (d + 2) (beyond d (pairs_all (WithNumber e rest)) (pairs_all rest) (omega arith) t))
  args_right (WithPointer p rest) d t = let f = first d (pairs_all (WithPointer p rest)) (omega arith) t in (f.0, f.1, args_right rest (d + 2) (beyond d (pairs_all (WithPointer p rest)) (pairs_all rest) (omega arith) t))

  rule_right : (rule : Rule) (d : ℕ) → Temps d 3 → All (ruled rule d)
  rule_right Keep d t = tt
  rule_right (Meet offset size) d t =
      let a = first d 3 (omega arith) t in
      let b = second d 3 (omega arith) t in
      let c = third d 3 (omega arith) t in
      (b.0, ((c.0, a.0, b.0), (b.0, ((b.1, c.0, b.0), ((a.1, a.1, b.1), tt)))))

  mutual
    right : (e : NumberExpr) (d l : ℕ) → Fits private sorts takes e → Temps d (pairs e) → All (code e d l)
    right (Word n) d l f t = ((first d 1 (omega arith) t).0, tt)
    right (Variable x) d l f t = (inl ((first d 1 (omega arith) t).0, numbers x f), tt)
    right (Assign x e) d l f t = both (code e d l) _ (right e d l f.1 t) (inl (numbers x f.0, (first d (pairs e) (some e) t).0), tt)
    right (Operate op kind a b) d l f t =
        let n = pairs (Operate op kind a b) in
        let a0 = first d n (let h = some a in omega (arith, h)) t in
        let b0 = second d n (let h = some b in omega (arith, h)) t in
        both (code a d l) _ (right a d l f.0 (fewer d n (pairs a) (omega arith) t)) (both (code b (d + 2) (l + labels a)) _ (right b (d + 2) (l + labels a) f.1 (beyond d n (pairs b) (omega arith) t)) ((a0.0, a0.0, b0.0), tt))
    right (Compare op kind a b) d l f t =
        let n = pairs (Compare op kind a b) in
        let a0 = first d n (let h = some a in omega (arith, h)) t in
        let b0 = second d n (let h = some b in omega (arith, h)) t in
        both (code a d l) _ (right a d l f.0 (fewer d n (pairs a) (omega arith) t)) (both (code b (d + 2) (l + labels a)) _ (right b (d + 2) (l + labels a) f.1 (beyond d n (pairs b) (omega arith) t)) ((a0.0, a0.0, b0.0), tt))
    right (Convert kind e) d l f t = let a = first d (pairs e) (some e) t in both (code e d l) _ (right e d l f t) ((a.0, a.0), tt)
    right (AsNumber p) d l f t = right_ptr p d l f t
    right (Load kind place p) d l f t = let a = first d (pairs_ptr p) (some_ptr p) t in both (code_ptr p d l) _ (right_ptr p d l f t) ((a.0, a.1), ((a.0, a.0), tt))
    right (Store kind place p e) d l f t =
        let n = pairs (Store kind place p e) in
        let a = first d n (let h = some_ptr p in omega (arith, h)) t in
        let b = second d n (let h = some e in omega (arith, h)) t in
        both (code_ptr p d l) _ (right_ptr p d l f.0 (fewer d n (pairs_ptr p) (omega arith) t)) (both (code e (d + 2) (l + labels_ptr p)) _ (right e (d + 2) (l + labels_ptr p) f.1 (beyond d n (pairs e) (omega arith) t)) ((a.0, a.1), ((a.0, b.0), (inl (a.0, b.0), tt))))
    right (Update x kind op common e old) d l f t =
        let n = pairs (Update x kind op common e old) in
        let a = first d n (omega arith) t in
        let b = second d n (omega arith) t in
        let v = numbers x f.0 in
        both (code e d l) _ (right e d l f.1 (fewer d n (pairs e) (omega arith) t)) (inl (b.0, v), ((a.0, b.0, a.0), ((a.0, a.0), (inl (v, a.0), (inl (a.0, one_of old (d + 2) d b.0 a.0), tt)))))
    right (UpdateAt kind place p op common e old) d l f t =
        let n = pairs (UpdateAt kind place p op common e old) in
        let a = first d n (omega arith) t in
        let b = second d n (omega arith) t in
        let c = third d n (omega arith) t in
        both (code_ptr p d l) _ (right_ptr p d l f.0 (fewer d n (pairs_ptr p) (omega arith) t)) (both (code e (d + 2) (l + labels_ptr p)) _ (right e (d + 2) (l + labels_ptr p) f.1 (beyond d n (pairs e) (omega arith) t))
        ((a.0, a.1), ((a.0, c.0), ((b.0, c.0, b.0), ((b.0, b.0), ((a.0, a.1), ((a.0, b.0), (inl (a.0, one_of old (d + 4) (d + 2) c.0 b.0), tt))))))))
    right (And a b) d l f t =
        let n = pairs (And a b) in
        let x = (first d n (let h = some a in omega (arith, h)) t).0 in
        both (code a d (l + 3)) _ (right a d (l + 3) f.0 (fewer d n (pairs a) (omega arith) t)) (x, (tt, (tt, both (code b d (l + 3 + labels a)) _ (right b d (l + 3 + labels a) f.1 (fewer d n (pairs b) (omega arith) t)) (x, (tt, (tt, (x, (tt, tt))))))))
    right (Or a b) d l f t =
        let n = pairs (Or a b) in
        let x = (first d n (let h = some a in omega (arith, h)) t).0 in
        both (code a d (l + 2)) _ (right a d (l + 2) f.0 (fewer d n (pairs a) (omega arith) t)) (x, both (code b d (l + 2 + labels a)) _ (right b d (l + 2 + labels a) f.1 (fewer d n (pairs b) (omega arith) t)) (x, (tt, (tt, (x, (tt, tt))))))
    right (Choose test a b) d l f t =
        let n = pairs (Choose test a b) in
        let x = (first d n (let h = some test in omega (arith, h)) t).0 in
        both (code test d (l + 2)) _ (right test d (l + 2) f.0 (fewer d n (pairs test) (omega arith) t))
        (x, both (code b d (l + 2 + labels test)) _ (right b d (l + 2 + labels test) f.2 (fewer d n (pairs b) (omega arith) t)) (tt, (tt, both (code a d (l + 2 + labels test + labels b)) _ (right a d (l + 2 + labels test + labels b) f.1 (fewer d n (pairs a) (omega arith) t)) (tt, tt))))
    right (Call symbol args) d l f t =
        let n = pairs (Call symbol args) in
        let u = fewer d n (pairs_all args) (omega arith) t in
        both (codes args d l) _ (right_all args d l f.1 u) ((args_right args d u, (first d n (omega arith) t).0, tt), tt)
    right (Serve k e) d l f t = let a = first d (pairs e) (some e) t in both (code e d l) _ (right e d l f t) ((a.0, a.0), tt)
    right (Ask k) d l f t = ((tt, (first d 1 (omega arith) t).0), tt)

    right_ptr : (e : PointerExpr) (d l : ℕ) → FitsPtr private sorts takes e → Temps d (pairs_ptr e) → All (code_ptr e d l)
    right_ptr Null d l f t = let a = first d 1 (omega arith) t in (a.0, ((a.1, a.0, a.0), tt))
    right_ptr (FromInteger e) d l f t =
        let n = pairs_ptr (FromInteger e) in
        let a = first d n (omega arith) t in
        let b = second d n (omega arith) t in
        both (code e d l) _ (right e d l f (fewer d n (pairs e) (omega arith) t)) (b.0, ((a.1, b.0, b.0), tt))
    right_ptr (Function symbol) d l f t = (first d 1 (omega arith) t, tt)
    right_ptr (Object symbol offset size) d l f t = (first d 1 (omega arith) t, tt)
    right_ptr (InFrame offset size) d l f t = (first d 1 (omega arith) t, tt)
    right_ptr (VariablePtr x) d l f t = let a = first d 1 (omega arith) t in let v = pointers x f in (inl (a.0, v.0), (inr (a.1, v.1), tt))
    right_ptr (AssignPtr x e) d l f t = let a = first d (pairs_ptr e) (some_ptr e) t in let v = pointers x f.0 in both (code_ptr e d l) _ (right_ptr e d l f.1 t) (inl (v.0, a.0), (inr (v.1, a.1), tt))
    right_ptr (Member offset rule p) d l f t =
        let n = pairs_ptr (Member offset rule p) in
        let a = first d n (omega arith) t in
        let b = second d n (omega arith) t in
        both (code_ptr p d l) _ (right_ptr p d l f (fewer d n (pairs_ptr p) (omega arith) t)) (both (ruled rule d) _ (rule_right rule d (fewer d n 3 (omega arith) t)) (b.0, ((a.0, a.0, b.0), tt)))
    right_ptr (Element minus size p i) d l f t =
        let n = pairs_ptr (Element minus size p i) in
        let a = first d n (omega arith) t in
        let b = second d n (omega arith) t in
        let c = third d n (omega arith) t in
        both (code_ptr p d l) _ (right_ptr p d l f.0 (fewer d n (pairs_ptr p) (omega arith) t)) (both (code i (d + 2) (l + labels_ptr p)) _ (right i (d + 2) (l + labels_ptr p) f.1 (beyond d n (pairs i) (omega arith) t)) (c.0, ((b.0, b.0, c.0), ((a.0, a.0, b.0), tt))))
    right_ptr (ElementAfter size i p) d l f t =
        let n = pairs_ptr (ElementAfter size i p) in
        let a = first d n (omega arith) t in
        let b = second d n (omega arith) t in
        let c = third d n (omega arith) t in
        both (code i d l) _ (right i d l f.0 (fewer d n (pairs i) (omega arith) t)) (both (code_ptr p (d + 2) (l + labels i)) _ (right_ptr p (d + 2) (l + labels i) f.1 (beyond d n (pairs_ptr p) (omega arith) t)) (c.0, ((a.0, a.0, c.0), ((a.0, b.0, a.0), (inr (a.1, b.1), tt)))))
    right_ptr (LoadPtr place p) d l f t = let a = first d (pairs_ptr p) (some_ptr p) t in both (code_ptr p d l) _ (right_ptr p d l f t) (a, ((a.0, a.0, a.1), tt))
    right_ptr (StorePtr place p e) d l f t =
        let n = pairs_ptr (StorePtr place p e) in
        let a = first d n (let h = some_ptr p in omega (arith, h)) t in
        let b = second d n (let h = some_ptr e in omega (arith, h)) t in
        both (code_ptr p d l) _ (right_ptr p d l f.0 (fewer d n (pairs_ptr p) (omega arith) t)) (both (code_ptr e (d + 2) (l + labels_ptr p)) _ (right_ptr e (d + 2) (l + labels_ptr p) f.1 (beyond d n (pairs_ptr e) (omega arith) t)) (a, ((a.0, b.0, b.1), (inl (a.0, b.0), (inr (a.1, b.1), tt)))))
    right_ptr (Advance x minus size i old) d l f t =
        let n = pairs_ptr (Advance x minus size i old) in
        let a = first d n (omega arith) t in
        let b = second d n (omega arith) t in
        let v = pointers x f.0 in
        both (code i d l) _ (right i d l f.1 (fewer d n (pairs i) (omega arith) t)) (b.0, ((a.0, a.0, b.0), (inl (b.0, v.0), ((a.0, b.0, a.0), (inl (v.0, a.0), (inl (a.0, one_of old (d + 2) d b.0 a.0), (inr (a.1, v.1), tt)))))))
    right_ptr (AdvanceAt place p minus size i old) d l f t =
        let n = pairs_ptr (AdvanceAt place p minus size i old) in
        let a = first d n (omega arith) t in
        let b = second d n (omega arith) t in
        let c = third d n (omega arith) t in
        both (code_ptr p d l) _ (right_ptr p d l f.0 (fewer d n (pairs_ptr p) (omega arith) t)) (both (code i (d + 2) (l + labels_ptr p)) _ (right i (d + 2) (l + labels_ptr p) f.1 (beyond d n (pairs i) (omega arith) t))
        (c.0, ((b.0, b.0, c.0), (a, ((a.0, c.0, c.1), ((b.0, c.0, b.0), (a, ((a.0, b.0, c.1), (inl (a.0, one_of old (d + 4) (d + 2) c.0 b.0), (inr (a.1, c.1), tt))))))))))
    right_ptr (ChoosePtr test a b) d l f t =
        let n = pairs_ptr (ChoosePtr test a b) in
        let x = (first d n (let h = some test in omega (arith, h)) t).0 in
        both (code test d (l + 2)) _ (right test d (l + 2) f.0 (fewer d n (pairs test) (omega arith) t))
        (x, both (code_ptr b d (l + 2 + labels test)) _ (right_ptr b d (l + 2 + labels test) f.2 (fewer d n (pairs_ptr b) (omega arith) t)) (tt, (tt, both (code_ptr a d (l + 2 + labels test + labels_ptr b)) _ (right_ptr a d (l + 2 + labels test + labels_ptr b) f.1 (fewer d n (pairs_ptr a) (omega arith) t)) (tt, tt))))
    right_ptr (CallPtr symbol args) d l f t =
        let n = pairs_ptr (CallPtr symbol args) in
        let u = fewer d n (pairs_all args) (omega arith) t in
        both (codes args d l) _ (right_all args d l f.1 u) ((args_right args d u, (first d n (omega arith) t).0, (first d n (omega arith) t).1), tt)
    right_ptr (Alloc e) d l f t =
        let n = pairs_ptr (Alloc e) in
        let a = first d n (omega arith) t in
        let b = second d n (omega arith) t in
        both (code e d (l + 1)) _ (right e d (l + 1) f (fewer d n (pairs e) (omega arith) t)) ((a.0, b.0), (b.0, (a.0, (tt, ((a.1, b.0, a.0), (inl (a.0, b.0), tt))))))
    right_ptr (SetBounds q k) d l f t =
        let n = pairs_ptr (SetBounds q k) in
        let a = first d n (let h = some_ptr q in omega (arith, h)) t in
        let b = second d n (let h = some k in omega (arith, h)) t in
        both (code_ptr q d l) _ (right_ptr q d l f.0 (fewer d n (pairs_ptr q) (omega arith) t)) (both (code k (d + 2) (l + labels_ptr q)) _ (right k (d + 2) (l + labels_ptr q) f.1 (beyond d n (pairs k) (omega arith) t)) ((a.1, a.0, b.0), tt))
    right_ptr (NarrowBounds p q k) d l f t =
        let n = pairs_ptr (NarrowBounds p q k) in
        let a = first d n (let h = some_ptr p in omega (arith, h)) t in
        let b = second d n (let h = some_ptr q in omega (arith, h)) t in
        let c = third d n (let h = some k in omega (arith, h)) t in
        both (code_ptr p d l) _ (right_ptr p d l f.0 (fewer d n (pairs_ptr p) (omega arith) t)) (both (code_ptr q (d + 2) (l + labels_ptr p)) _ (right_ptr q (d + 2) (l + labels_ptr p) f.1 (beyond d n (pairs_ptr q) (omega arith) t))
        (both (code k (d + 4) (l + labels_ptr p + labels_ptr q)) _ (right k (d + 4) (l + labels_ptr p + labels_ptr q) f.2 (beyond_two d n (pairs k) (omega arith) t)) ((a.1, a.0, c.0), ((a.1, b.1, a.1), tt))))
    right_ptr (CopyBounds q r) d l f t =
        let n = pairs_ptr (CopyBounds q r) in
        let a = first d n (let h = some_ptr q in omega (arith, h)) t in
        let b = second d n (let h = some_ptr r in omega (arith, h)) t in
        both (code_ptr q d l) _ (right_ptr q d l f.0 (fewer d n (pairs_ptr q) (omega arith) t)) (both (code_ptr r (d + 2) (l + labels_ptr q)) _ (right_ptr r (d + 2) (l + labels_ptr q) f.1 (beyond d n (pairs_ptr r) (omega arith) t)) (inr (a.1, b.1), tt))
    right_ptr (InitBounds q) d l f t =
        let n = pairs_ptr (InitBounds q) in
        let a = first d n (omega arith) t in
        let b = second d n (omega arith) t in
        both (code_ptr q d l) _ (right_ptr q d l f (fewer d n (pairs_ptr q) (omega arith) t)) (b.0, ((a.1, b.0, b.0), tt))
    right_ptr (BoundOf upper q) d l f t = let a = first d (pairs_ptr q) (some_ptr q) t in both (code_ptr q d l) _ (right_ptr q d l f t) (a, tt)

    right_all : (args : Arguments) (d l : ℕ) → FitsAll private sorts takes args → Temps d (pairs_all args) → All (codes args d l)
    right_all NoMore d l f t = tt
    right_all (WithNumber e rest) d l f t = let n = pairs_all (WithNumber e rest) in both (code e d l) _ (right e d l f.0 (fewer d n (pairs e) (omega arith) t)) (right_all rest (d + 2) (l + labels e) f.1 (beyond d n (pairs_all rest) (omega arith) t))
    right_all (WithPointer p rest) d l f t = let n = pairs_all (WithPointer p rest) in both (code_ptr p d l) _ (right_ptr p d l f.0 (fewer d n (pairs_ptr p) (omega arith) t)) (right_all rest (d + 2) (l + labels_ptr p) f.1 (beyond d n (pairs_all rest) (omega arith) t))

  -- ---- effects and statements

  copied_right : (kind : Option IntKind) (offset d : ℕ) → Temps d 4 → All (copied offset kind d)
  copied_right None offset d t =
      let a = first d 4 (omega arith) t in
      let b = second d 4 (omega arith) t in
      let c = third d 4 (omega arith) t in
      let e = fourth d 4 (omega arith) t in
      (c.0, ((e.0, b.0, c.0), ((e.0, e.0, e.1), (c.0, ((c.0, a.0, c.0), ((c.0, e.0, e.1), tt))))))
  copied_right (Some kind) offset d t =
      let a = first d 4 (omega arith) t in
      let b = second d 4 (omega arith) t in
      let c = third d 4 (omega arith) t in
      let e = fourth d 4 (omega arith) t in
      (c.0, ((e.0, b.0, c.0), ((e.0, e.0), (c.0, ((c.0, a.0, c.0), ((c.0, e.0), tt))))))

  copied_all_right : (scalars : List Scalar) (d : ℕ) → Temps d 4 → All (copied_all scalars d)
  copied_all_right [] d t = tt
  copied_all_right (x ∷ rest) d t = both (copied x.offset x.kind d) _ (copied_right x.kind x.offset d t) (copied_all_right rest d t)

  right_effect : (e : Effect) (d l : ℕ) → FitsEffect private sorts takes e → Temps d (pairs_effect e) → All (code_effect e d l)
  right_effect Nothing d l f t = tt
  right_effect (ForNumber e) d l f t = right e d l f t
  right_effect (ForPointer p) d l f t = right_ptr p d l f t
  right_effect (CopyStruct size scalars to_place to from_place from) d l f t =
      let n = pairs_effect (CopyStruct size scalars to_place to from_place from) in
      let a = first d n (omega arith) t in
      let b = second d n (omega arith) t in
      both (code_ptr to d l) _ (right_ptr to d l f.0 (fewer d n (pairs_ptr to) (omega arith) t)) (both (code_ptr from (d + 2) (l + labels_ptr to)) _ (right_ptr from (d + 2) (l + labels_ptr to) f.1 (beyond d n (pairs_ptr from) (omega arith) t))
      ((b.0, b.0), (b, ((a.0, a.0), (a, copied_all_right scalars d (fewer d n 4 (omega arith) t))))))

  pub right_of : (st : Statement) (d l lb lc : ℕ) → FitsStatement private sorts takes st → Temps d (pairs_of st) → All (code_of st d l lb lc)
  right_of Skip d l lb lc f t = tt
  right_of (Do e) d l lb lc f t = right_effect e d l f t
  right_of (Then a b) d l lb lc f t = let n = pairs_of (Then a b) in both (code_of a d l lb lc) _ (right_of a d l lb lc f.0 (fewer d n (pairs_of a) (omega arith) t)) (right_of b d (l + labels_of a) lb lc f.1 (fewer d n (pairs_of b) (omega arith) t))
  right_of (If test a b) d l lb lc f t =
      let n = pairs_of (If test a b) in
      let x = (first d n (let h = some test in omega (arith, h)) t).0 in
      let rest = s.Jump (l + 1) ∷ s.Label l ∷ (code_of a d (l + 2 + labels test + labels_of b) lb lc ++ (s.Label (l + 1) ∷ [])) in
      both (code test d (l + 2)) (s.JumpIf d l ∷ (code_of b d (l + 2 + labels test) lb lc ++ rest)) (right test d (l + 2) f.0 (fewer d n (pairs test) (omega arith) t))
      (x, both (code_of b d (l + 2 + labels test) lb lc) rest (right_of b d (l + 2 + labels test) lb lc f.2 (fewer d n (pairs_of b) (omega arith) t)) (tt, (tt, both (code_of a d (l + 2 + labels test + labels_of b) lb lc) _ (right_of a d (l + 2 + labels test + labels_of b) lb lc f.1 (fewer d n (pairs_of a) (omega arith) t)) (tt, tt))))
  right_of (While test body) d l lb lc f t =
      let n = pairs_of (While test body) in
      let x = (first d n (let h = some test in omega (arith, h)) t).0 in
      (tt, both (code test d (l + 3)) _ (right test d (l + 3) f.0 (fewer d n (pairs test) (omega arith) t)) (x, (tt, (tt, both (code_of body d (l + 3 + labels test) (l + 1) l) _ (right_of body d (l + 3 + labels test) (l + 1) l f.1 (fewer d n (pairs_of body) (omega arith) t)) (tt, (tt, tt))))))
  right_of (DoWhile body test) d l lb lc f t =
      let n = pairs_of (DoWhile body test) in
      let x = (first d n (let h = some test in omega (arith, h)) t).0 in
      (tt, both (code_of body d (l + 3 + labels test) (l + 1) (l + 2)) _ (right_of body d (l + 3 + labels test) (l + 1) (l + 2) f.0 (fewer d n (pairs_of body) (omega arith) t)) (tt, both (code test d (l + 3)) _ (right test d (l + 3) f.1 (fewer d n (pairs test) (omega arith) t)) (x, (tt, tt))))
  right_of (For test step body) d l lb lc f t =
      let n = pairs_of (For test step body) in
      let x = (first d n (let h = some test in omega (arith, h)) t).0 in (
        tt,
        both (code test d (l + 4)) _ (right test d (l + 4) f.0 (fewer d n (pairs test) (omega arith) t)) (
          x,
          (
            tt,
            (
              tt,
              both (code_of body d (l + 4 + labels test) (l + 1) (l + 3)) _ (right_of body d (l + 4 + labels test) (l + 1) (l + 3) f.2 (fewer d n (pairs_of body) (omega arith) t))
                  (tt, both (code_effect step d (l + 4 + labels test + labels_of body)) _ (right_effect step d (l + 4 + labels test + labels_of body) f.1 (fewer d n (pairs_effect step) (omega arith) t)) (tt, (tt, tt))),
            ),
          ),
        ),
      )
  right_of Break d l lb lc f t = (tt, tt)
  right_of Continue d l lb lc f t = (tt, tt)
  right_of Return d l lb lc f t = ((tt, tt), tt)
  right_of (ReturnNumber e) d l lb lc f t = both (code e d l) _ (right e d l f t) (((first d (pairs e) (some e) t).0, tt), tt)
  right_of (ReturnPtr p) d l lb lc f t = both (code_ptr p d l) _ (right_ptr p d l f t) (first d (pairs_ptr p) (some_ptr p) t, tt)

  -- ---- parameters of the frame

  unfoldable pub Arrive : List Parameter → ℕ → Type 0
  Arrive [] t = Unit {0}
  Arrive (Private x kind ∷ ps) t = Arrive ps t
  Arrive (Framed offset (Some kind) ∷ ps) t = N t × Arrive ps (t + 1)
  Arrive (Framed offset None ∷ ps) t = (N t × B (t + 1)) × Arrive ps (t + 2)

  pub arrivals_right : (ps : List Parameter) (t d : ℕ) → Arrive ps t → N d × B (d + 1) → All (arrivals ps t d)
  unfolding Arrive
  arrivals_right [] t d w h = tt
  arrivals_right (Private x kind ∷ ps) t d w h = arrivals_right ps t d w h
  arrivals_right (Framed offset (Some kind) ∷ ps) t d w h = (h, ((h.0, w.0), arrivals_right ps (t + 1) d w.1 h))
  arrivals_right (Framed offset None ∷ ps) t d w h = (h, ((h.0, w.0.0, w.0.1), arrivals_right ps (t + 2) d w.1 h))

-- ---- functions

turn-at : (n i : ℕ) → i < n → (get_or (in_turn n) (2 * i) false ≡ false) × (get_or (in_turn n) (2 * i + 1) false ≡ true)
turn-at zero i h = absurd (omega (arith, h))
turn-at (suc n) zero h = (refl, refl)
turn-at (suc n) (suc i) h =
    let rest = turn-at n i (omega (arith, h)) in
    let e : 2 * suc i ≡ suc (suc (2 * i)) = omega arith in
    let e_1 : 2 * suc i + 1 ≡ suc (suc (2 * i + 1)) = omega arith in
    (ap (λ k. get_or (false ∷ true ∷ in_turn n) k false) e ∙ rest.0, ap (λ k. get_or (false ∷ true ∷ in_turn n) k false) e_1 ∙ rest.1)

module _ (total : ℕ) (list : List Bool) where
  abbrev IsNumberAt : ℕ → Type 0
  IsNumberAt v = (v < total) × (slice_index_or list v false ≡ false)

  abbrev IsBoundsAt : ℕ → Type 0
  IsBoundsAt v = (v < total) × (slice_index_or list v false ≡ true)

  read-at : (front back : List Bool) (b : Bool) (t : ℕ) → list ≡ front ++ b ∷ back → t ≡ length front → slice_index_or list t false ≡ b
  read-at front back b t e at = ap (λ (xs : List Bool). slice_index_or xs t false) e ∙ ap (λ k. slice_index_or (front ++ b ∷ back) k false) at ∙ get_or-append_seam front b back false

  grown : (front back : List Bool) (b : Bool) → list ≡ front ++ b ∷ back → list ≡ (front ++ b ∷ []) ++ back
  grown front back b e = e ∙ sym (append_assoc front (b ∷ []) back)

  grown-length : (front : List Bool) (b : Bool) (t : ℕ) → t ≡ length front → t + 1 ≡ length (front ++ b ∷ [])
  grown-length front b t at = let e = length-append front (b ∷ []) in omega (arith, e, at)

  module _ (private : ℕ) (sorts : ℕ → Bool) (takes : ℕ → ℕ) (numbers : (x : ℕ) → IsNumber private sorts x → IsNumberAt x) (pointers : (x : ℕ) → IsPointer private sorts x → IsNumberAt x × IsBoundsAt (x + 1)) where
    arrive-at : (ps : List Parameter) (front back : List Bool) (t : ℕ) → list ≡ front ++ (arrived ps ++ back) → t ≡ length front → t + length (arrived ps) ≤ total → Arrive private sorts takes IsNumberAt IsBoundsAt numbers pointers ps t
    unfolding Arrive
    arrive-at [] front back t e at le = tt
    arrive-at (Private x kind ∷ ps) front back t e at le = arrive-at ps front back t e at le
    arrive-at (Framed offset (Some kind) ∷ ps) front back t e at le =
        ((omega (arith, le), read-at front (arrived ps ++ back) false t e at), arrive-at ps (front ++ false ∷ []) back (t + 1) (grown front (arrived ps ++ back) false e) (grown-length front false t at) (omega (arith, le)))
    arrive-at (Framed offset None ∷ ps) front back t e at le =
        let one = grown front (true ∷ (arrived ps ++ back)) false e in
        let at_1 = grown-length front false t at in
        let two = grown (front ++ false ∷ []) (arrived ps ++ back) true one in
        let at_2 : t + 2 ≡ length ((front ++ false ∷ []) ++ true ∷ []) = let p = grown-length (front ++ false ∷ []) true (t + 1) at_1 in omega (arith, p) in
        (((omega (arith, le), read-at front (true ∷ (arrived ps ++ back)) false t e at), (omega (arith, le), read-at (front ++ false ∷ []) (arrived ps ++ back) true (t + 1) one at_1)), arrive-at ps ((front ++ false ∷ []) ++ true ∷ []) back (t + 2) two at_2 (omega (arith, le)))

pub steps-right : (takes : ℕ → ℕ) (f : FunctionOfC) → FitsFunction takes f → pairs_of f.body ≤ most_pairs → (name : ℕ) → AllNameRight (NumberIn (fat_function name f)) (BoundsIn (fat_function name f)) (fat_function name f).steps
steps-right takes f fits le name =
    let private = length f.privates in
    let here = arrived f.parameters in
    let base = private + length here in
    let total = private + (length here + 2 * most_pairs) in
    let list = f.privates ++ here ++ in_turn most_pairs in
    let sorts = sorts_of f in
    let split : list ≡ f.privates ++ (here ++ in_turn most_pairs) = append_assoc f.privates here (in_turn most_pairs) in
    let low = λ (x : ℕ) (h : x < private). ap (λ (xs : List Bool). slice_index_or xs x false) split ∙ get_or_append_left f.privates (here ++ in_turn most_pairs) false x h in
    let numbers : (x : ℕ) → IsNumber private sorts x → IsNumberAt total list x = λ x h. (let lt = h.0 in omega (arith, lt), low x h.0 ∙ h.1) in
    let pointers : (x : ℕ) → IsPointer private sorts x → IsNumberAt total list x × IsBoundsAt total list (x + 1) = λ x h. let lt = h.0 in
    ((omega (arith, lt), low x (omega (arith, lt)) ∙ h.1), (omega (arith, lt), low (x + 1) lt ∙ h.2)) in
    let size : length (f.privates ++ here) ≡ base = length-append f.privates here in
    let high = λ (k : ℕ). ap (λ j. slice_index_or list (j + k) false) (sym size) ∙ get_or-append-add (f.privates ++ here) (in_turn most_pairs) k false in
    let temps : (i : ℕ) → i < most_pairs → IsNumberAt total list (base + 2 * i) × IsBoundsAt total list (base + 2 * i + 1) = λ i lt.
    let turn = turn-at most_pairs i lt in
    let again : base + 2 * i + 1 ≡ base + (2 * i + 1) = omega arith in
    ((omega (arith, lt), high (2 * i) ∙ turn.0), (omega (arith, lt), ap (λ j. slice_index_or list j false) again ∙ high (2 * i + 1) ∙ turn.1)) in
    both private sorts takes (IsNumberAt total list) (IsBoundsAt total list) numbers pointers (arrivals f.parameters private base) _
    (arrivals_right private sorts takes (IsNumberAt total list) (IsBoundsAt total list) numbers pointers f.parameters private base (arrive-at total list private sorts takes numbers pointers f.parameters f.privates (in_turn most_pairs) private split refl (omega arith))
    (first private sorts takes (IsNumberAt total list) (IsBoundsAt total list) numbers pointers base most_pairs (omega arith) temps))
    (both private sorts takes (IsNumberAt total list) (IsBoundsAt total list) numbers pointers (code_of f.body base 1 0 0) _
    (right_of private sorts takes (IsNumberAt total list) (IsBoundsAt total list) numbers pointers f.body base 1 0 0 fits.body (λ i lt. temps i (omega (arith, lt, le)))) (tt, tt))

turns-length : (n : ℕ) → length (in_turn n) ≡ 2 * n
turns-length zero = refl
turns-length (suc n) = let e = turns-length n in omega (arith, e)

pub all-numbered : (f : FunctionOfC) (name : ℕ) → length (fat_function name f).bounds ≡ (fat_function name f).private + (fat_function name f).temps
all-numbered f name =
    let here = arrived f.parameters in
    let a = length-append (f.privates ++ here) (in_turn most_pairs) in
    let b = length-append f.privates here in
    let c = turns-length most_pairs in
    omega (arith, a, b, c)
