-- Each label to which the code of a tree jumps stands once.
use Rattle.std.proofs.Common.{ℕ, zero, suc, ◌+◌, ◌≡◌, ◌≤◌, ◌<◌, refl, ap, cond, ◌==◌, List, [], ◌∷◌, ◌++◌, Option, Some, None, Bool, true, false, arith}
use Rattle.std.specs.Prelude.{◌≢◌, length}
use Rattle.std.proofs.lemmas.Bool.Decides.{nat_tests}
use Rattle.mx_base.specs.declared.services.CService.TheVariants as in_c
use Rattle.mx_base.specs.declared.numbers.IntKind.{IntKind}
use Rattle.mx_base.specs.declared.numbers.IntKind.TheVariants.{U64}
use Rattle.narrowing.specs.declared.member.Rule.{Rule}
use Rattle.narrowing.specs.declared.member.Rule.TheVariants.{Keep, Meet}
use Rattle.fat_ir.specs.declared.step.FatStep.{FatStep}
use Rattle.fat_ir.specs.declared.step.FatStep.TheVariants as s
use Rattle.bounds_plan.specs.meaning.Core.{NumberExpr, Word, Variable, Assign, Operate, Compare, Convert, AsNumber, Load, Store, Update, UpdateAt, And, Or, Choose, Call, Serve, Ask, PointerExpr, Null, FromInteger, Function, Object, InFrame, VariablePtr, AssignPtr, Member, Element, ElementAfter, LoadPtr, StorePtr, Advance, AdvanceAt, ChoosePtr, CallPtr, Alloc, SetBounds, NarrowBounds, CopyBounds, InitBounds, BoundOf, Arguments, NoMore, WithNumber, WithPointer, Scalar, Effect, Nothing, OfNumber as ForNumber, OfPointer as ForPointer, CopyStruct, Statement, Skip, Do, Then, If, While, DoWhile, For, Break, Continue, Return, ReturnNumber, ReturnPtr}
use Rattle.bounds_plan.specs.meaning.Functions.{Parameter, Private, Framed, FunctionOfC}
use Rattle.bounds_plan.specs.steps.Code.{labels, labels_ptr, labels_all, labels_of, labels_effect, offset_by, ruled, code, code_ptr, codes, copied, copied_all, code_effect, code_of, arrivals, arrived, fat_function}
use Rattle.bounds_plan.specs.laws.Laws.{times, JumpsTo}

-- ---- how often a label stands

abbrev is_label : ℕ → ℕ → ℕ
is_label k n = cond (k == n) 1 0

-- whether k is one of n labels from l on
abbrev inside : ℕ → ℕ → ℕ → ℕ
inside k l zero = 0
inside k l (suc n) = is_label k l + inside k (l + 1) n

shifted : (k l m n : ℕ) → l ≡ m → inside k l n ≡ inside k m n
shifted k l m n e = ap (λ x. inside k x n) e

resized : (k l m n : ℕ) → m ≡ n → inside k l m ≡ inside k l n
resized k l m n e = ap (λ x. inside k l x) e

inside-add : (k l m n : ℕ) → inside k l (m + n) ≡ inside k l m + inside k (l + m) n
inside-add k l zero n = let a = resized k l (0 + n) n (omega arith) in let b = shifted k l (l + 0) n (omega arith) in omega (arith, a, b)
inside-add k l (suc m) n =
    let a = resized k l (suc m + n) (suc (m + n)) (omega arith) in
    let b = inside-add k (l + 1) m n in
    let c = shifted k (l + 1 + m) (l + suc m) n (omega arith) in
    omega (arith, a, b, c)

inside-add_3 : (k l a b c : ℕ) → inside k l (a + b + c) ≡ inside k l a + inside k (l + a) b + inside k (l + a + b) c
inside-add_3 k l a b c =
    let x = inside-add k l (a + b) c in
    let y = inside-add k l a b in
    let z = shifted k (l + (a + b)) (l + a + b) c (omega arith) in
    omega (arith, x, y, z)

inside-add_4 : (k l a b c d : ℕ) → inside k l (a + b + c + d) ≡ inside k l a + inside k (l + a) b + inside k (l + a + b) c + inside k (l + a + b + c) d
inside-add_4 k l a b c d =
    let x = inside-add k l (a + b + c) d in
    let y = inside-add_3 k l a b c in
    let z = shifted k (l + (a + b + c)) (l + a + b + c) d (omega arith) in
    omega (arith, x, y, z)

first-2 : (k l : ℕ) → inside k l 2 ≡ is_label k l + is_label k (l + 1)
first-2 k l = omega arith

first-3 : (k l : ℕ) → inside k l 3 ≡ is_label k l + is_label k (l + 1) + is_label k (l + 2)
first-3 k l = let a : is_label k (l + 1 + 1) ≡ is_label k (l + 2) = ap (λ x. is_label k x) (omega arith) in omega (arith, a)

first-4 : (k l : ℕ) → inside k l 4 ≡ is_label k l + is_label k (l + 1) + is_label k (l + 2) + is_label k (l + 3)
first-4 k l =
    let a : is_label k (l + 1 + 1) ≡ is_label k (l + 2) = ap (λ x. is_label k x) (omega arith) in
    let b : is_label k (l + 1 + 1 + 1) ≡ is_label k (l + 3) = ap (λ x. is_label k x) (omega arith) in
    omega (arith, a, b)

differs : (k l : ℕ) → k ≢ l → is_label k l ≡ 0
differs k l h = let e : (k == l) ≡ false = grind (arith, nat_tests, h) in ap (λ b. cond b 1 0) e

agrees : (k : ℕ) → is_label k k ≡ 1
agrees k = let e : (k == k) ≡ true = grind (arith, nat_tests) in ap (λ b. cond b 1 0) e

inside-none : (k l n : ℕ) → k < l → inside k l n ≡ 0
inside-none k l zero h = refl
inside-none k l (suc n) h =
    let other : k ≢ l = λ e. omega (arith, e, h) in
    let a = differs k l other in
    let b = inside-none k (l + 1) n (omega (arith, h)) in
    omega (arith, a, b)

inside-one : (k l n : ℕ) → l ≤ k → k < l + n → inside k l n ≡ 1
inside-one k l zero low high = absurd (omega (arith, low, high))
inside-one k l (suc n) low high = by_cases (k == l) refl (inside-one k (l + 1) n) (inside-none k (l + 1) n)
  where
    by_cases : (b : Bool) → (k == l) ≡ b → (l + 1 ≤ k → k < l + 1 + n → inside k (l + 1) n ≡ 1) → (k < l + 1 → inside k (l + 1) n ≡ 0) → cond (k == l) 1 0 + inside k (l + 1) n ≡ 1
    by_cases true e more none =
        let same : k ≡ l = grind (arith, nat_tests, e) in
        let a : is_label k l ≡ 1 = ap (λ c. cond c 1 0) e in
        let b = none (omega (arith, same)) in
        omega (arith, a, b)
    by_cases false e more none =
        let other : k ≢ l = λ p. let c : (k == l) ≡ true = grind (arith, nat_tests, p) in cc in
        let above : l + 1 ≤ k = omega (arith, low, other) in
        let a : is_label k l ≡ 0 = ap (λ c. cond c 1 0) e in
        let b = more above (omega (arith, high)) in
        omega (arith, a, b)

times-append : (k : ℕ) (a b : List FatStep) → times k (a ++ b) ≡ times k a + times k b
times-append k [] b = omega arith
times-append k (s.Label n ∷ a) b = let h = times-append k a b in omega (arith, h)
times-append k (_ ∷ a) b = times-append k a b

-- ---- parts in a row

one_part : (k l m : ℕ) (a r : List FatStep) → times k a ≡ inside k l m → times k r ≡ 0 → times k (a ++ r) ≡ inside k l m
one_part k l m a r h g = let e = times-append k a r in omega (arith, e, h, g)

two_parts : (k l m n : ℕ) (a b r : List FatStep) → times k a ≡ inside k l m → times k b ≡ inside k (l + m) n → times k r ≡ 0 → times k (a ++ (b ++ r)) ≡ inside k l (m + n)
two_parts k l m n a b r h g e =
    let x = times-append k a (b ++ r) in
    let y = times-append k b r in
    let z = inside-add k l m n in
    omega (arith, x, y, z, h, g, e)

unlabelled-rule : (k : ℕ) (rule : Rule) (d : ℕ) → times k (ruled rule d) ≡ 0
unlabelled-rule k Keep d = refl
unlabelled-rule k (Meet offset size) d = refl

chosen : (k l n m o : ℕ) (c a b : List FatStep) (d : ℕ) → times k c ≡ inside k (l + 2) n → times k b ≡ inside k (l + 2 + n) m → times k a ≡ inside k (l + 2 + n + m) o
    → times k (c ++ (s.JumpIf d l ∷ (b ++ (s.Jump (l + 1) ∷ s.Label l ∷ (a ++ (s.Label (l + 1) ∷ [])))))) ≡ inside k l (2 + n + o + m)
chosen k l n m o c a b d hc hb ha =
    let x = times-append k c (s.JumpIf d l ∷ (b ++ (s.Jump (l + 1) ∷ s.Label l ∷ (a ++ (s.Label (l + 1) ∷ []))))) in
    let y = times-append k b (s.Jump (l + 1) ∷ s.Label l ∷ (a ++ (s.Label (l + 1) ∷ []))) in
    let z = times-append k a (s.Label (l + 1) ∷ []) in
    let r = resized k l (2 + n + o + m) (2 + n + m + o) (omega arith) in
    let t = inside-add_4 k l 2 n m o in
    let u = first-2 k l in
    omega (arith, x, y, z, r, t, u, hc, hb, ha)

mutual
  counted : (k : ℕ) (e : NumberExpr) (d l : ℕ) → times k (code e d l) ≡ inside k l (labels e)
  counted k (Word n) d l = refl
  counted k (Variable x) d l = refl
  counted k (Assign x e) d l = one_part k l (labels e) (code e d l) _ (counted k e d l) refl
  counted k (Operate op kind a b) d l = two_parts k l (labels a) (labels b) (code a d l) (code b (d + 2) (l + labels a)) _ (counted k a d l) (counted k b (d + 2) (l + labels a)) refl
  counted k (Compare op kind a b) d l = two_parts k l (labels a) (labels b) (code a d l) (code b (d + 2) (l + labels a)) _ (counted k a d l) (counted k b (d + 2) (l + labels a)) refl
  counted k (Convert kind e) d l = one_part k l (labels e) (code e d l) _ (counted k e d l) refl
  counted k (AsNumber p) d l = counted_ptr k p d l
  counted k (Load kind place p) d l = one_part k l (labels_ptr p) (code_ptr p d l) _ (counted_ptr k p d l) refl
  counted k (Store kind place p e) d l = two_parts k l (labels_ptr p) (labels e) (code_ptr p d l) (code e (d + 2) (l + labels_ptr p)) _ (counted_ptr k p d l) (counted k e (d + 2) (l + labels_ptr p)) refl
  counted k (Update x kind op common e old) d l = one_part k l (labels e) (code e d l) _ (counted k e d l) refl
  counted k (UpdateAt kind place p op common e old) d l = two_parts k l (labels_ptr p) (labels e) (code_ptr p d l) (code e (d + 2) (l + labels_ptr p)) _ (counted_ptr k p d l) (counted k e (d + 2) (l + labels_ptr p)) refl
  counted k (And a b) d l =
      let la = labels a in
      let lb = labels b in
      let ca = code a d (l + 3) in
      let cb = code b d (l + 3 + la) in
      let tail = s.JumpIf d (l + 2) ∷ s.Jump (l + 1) ∷ s.Label (l + 2) ∷ s.Const d 1 ∷ s.Label (l + 1) ∷ [] in
      let x = times-append k ca (s.JumpIf d l ∷ s.Jump (l + 1) ∷ s.Label l ∷ (cb ++ tail)) in
      let y = times-append k cb tail in
      let t = inside-add_3 k l 3 la lb in
      let u = first-3 k l in
      let ha = counted k a d (l + 3) in
      let hb = counted k b d (l + 3 + la) in
      omega (arith, x, y, t, u, ha, hb)
  counted k (Or a b) d l =
      let la = labels a in
      let lb = labels b in
      let ca = code a d (l + 2) in
      let cb = code b d (l + 2 + la) in
      let tail = s.JumpIf d l ∷ s.Jump (l + 1) ∷ s.Label l ∷ s.Const d 1 ∷ s.Label (l + 1) ∷ [] in
      let x = times-append k ca (s.JumpIf d l ∷ (cb ++ tail)) in
      let y = times-append k cb tail in
      let t = inside-add_3 k l 2 la lb in
      let u = first-2 k l in
      let ha = counted k a d (l + 2) in
      let hb = counted k b d (l + 2 + la) in
      omega (arith, x, y, t, u, ha, hb)
  counted k (Choose test a b) d l = chosen k l (labels test) (labels b) (labels a) (code test d (l + 2)) (code a d (l + 2 + labels test + labels b)) (code b d (l + 2 + labels test)) d
      (counted k test d (l + 2)) (counted k b d (l + 2 + labels test)) (counted k a d (l + 2 + labels test + labels b))
  counted k (Call symbol args) d l = one_part k l (labels_all args) (codes args d l) _ (counted_all k args d l) refl
  counted k (Serve service e) d l = one_part k l (labels e) (code e d l) _ (counted k e d l) refl
  counted k (Ask service) d l = refl

  counted_ptr : (k : ℕ) (e : PointerExpr) (d l : ℕ) → times k (code_ptr e d l) ≡ inside k l (labels_ptr e)
  counted_ptr k Null d l = refl
  counted_ptr k (FromInteger e) d l = one_part k l (labels e) (code e d l) _ (counted k e d l) refl
  counted_ptr k (Function symbol) d l = refl
  counted_ptr k (Object symbol offset size) d l = refl
  counted_ptr k (InFrame offset size) d l = refl
  counted_ptr k (VariablePtr x) d l = refl
  counted_ptr k (AssignPtr x e) d l = one_part k l (labels_ptr e) (code_ptr e d l) _ (counted_ptr k e d l) refl
  counted_ptr k (Member offset rule p) d l = one_part k l (labels_ptr p) (code_ptr p d l) (ruled rule d ++ offset_by offset d d (d + 2)) (counted_ptr k p d l) (let e = times-append k (ruled rule d) (offset_by offset d d (d + 2)) in let u = unlabelled-rule k rule d in omega (arith, e, u))
  counted_ptr k (Element minus size p i) d l = two_parts k l (labels_ptr p) (labels i) (code_ptr p d l) (code i (d + 2) (l + labels_ptr p)) _ (counted_ptr k p d l) (counted k i (d + 2) (l + labels_ptr p)) refl
  counted_ptr k (ElementAfter size i p) d l = two_parts k l (labels i) (labels_ptr p) (code i d l) (code_ptr p (d + 2) (l + labels i)) _ (counted k i d l) (counted_ptr k p (d + 2) (l + labels i)) refl
  counted_ptr k (LoadPtr place p) d l = one_part k l (labels_ptr p) (code_ptr p d l) _ (counted_ptr k p d l) refl
  counted_ptr k (StorePtr place p e) d l = two_parts k l (labels_ptr p) (labels_ptr e) (code_ptr p d l) (code_ptr e (d + 2) (l + labels_ptr p)) _ (counted_ptr k p d l) (counted_ptr k e (d + 2) (l + labels_ptr p)) refl
  counted_ptr k (Advance x minus size i old) d l = one_part k l (labels i) (code i d l) _ (counted k i d l) refl
  counted_ptr k (AdvanceAt place p minus size i old) d l = two_parts k l (labels_ptr p) (labels i) (code_ptr p d l) (code i (d + 2) (l + labels_ptr p)) _ (counted_ptr k p d l) (counted k i (d + 2) (l + labels_ptr p)) refl
  counted_ptr k (ChoosePtr test a b) d l = chosen k l (labels test) (labels_ptr b) (labels_ptr a) (code test d (l + 2)) (code_ptr a d (l + 2 + labels test + labels_ptr b)) (code_ptr b d (l + 2 + labels test)) d
      (counted k test d (l + 2)) (counted_ptr k b d (l + 2 + labels test)) (counted_ptr k a d (l + 2 + labels test + labels_ptr b))
  counted_ptr k (CallPtr symbol args) d l = one_part k l (labels_all args) (codes args d l) _ (counted_all k args d l) refl
  counted_ptr k (Alloc e) d l =
      let ce = code e d (l + 1) in
      let x = times-append k ce (s.Service in_c.Alloc (Some d) (Some (d + 2)) ∷ s.JumpIf (d + 2) l ∷ s.Const d 0 ∷ s.Label l ∷ s.Make (d + 1) (d + 2) d ∷ s.Copy d (d + 2) ∷ []) in
      let h = counted k e d (l + 1) in
      let t = inside-add k l 1 (labels e) in
      omega (arith, x, h, t)
  counted_ptr k (SetBounds q n) d l = two_parts k l (labels_ptr q) (labels n) (code_ptr q d l) (code n (d + 2) (l + labels_ptr q)) _ (counted_ptr k q d l) (counted k n (d + 2) (l + labels_ptr q)) refl
  counted_ptr k (NarrowBounds p q n) d l =
      let cp = code_ptr p d l in
      let cq = code_ptr q (d + 2) (l + labels_ptr p) in
      let cn = code n (d + 4) (l + labels_ptr p + labels_ptr q) in
      let tail = s.Make (d + 1) d (d + 4) ∷ s.Meet (d + 1) (d + 2 + 1) (d + 1) ∷ [] in
      let x = times-append k cp (cq ++ (cn ++ tail)) in
      let y = times-append k cq (cn ++ tail) in
      let z = times-append k cn tail in
      let t = inside-add_3 k l (labels_ptr p) (labels_ptr q) (labels n) in
      let hp = counted_ptr k p d l in
      let hq = counted_ptr k q (d + 2) (l + labels_ptr p) in
      let hn = counted k n (d + 4) (l + labels_ptr p + labels_ptr q) in
      omega (arith, x, y, z, t, hp, hq, hn)
  counted_ptr k (CopyBounds q r) d l = two_parts k l (labels_ptr q) (labels_ptr r) (code_ptr q d l) (code_ptr r (d + 2) (l + labels_ptr q)) _ (counted_ptr k q d l) (counted_ptr k r (d + 2) (l + labels_ptr q)) refl
  counted_ptr k (InitBounds q) d l = one_part k l (labels_ptr q) (code_ptr q d l) _ (counted_ptr k q d l) refl
  counted_ptr k (BoundOf upper q) d l = one_part k l (labels_ptr q) (code_ptr q d l) _ (counted_ptr k q d l) refl

  counted_all : (k : ℕ) (args : Arguments) (d l : ℕ) → times k (codes args d l) ≡ inside k l (labels_all args)
  counted_all k NoMore d l = refl
  counted_all k (WithNumber e rest) d l =
      let x = times-append k (code e d l) (codes rest (d + 2) (l + labels e)) in
      let h = counted k e d l in
      let g = counted_all k rest (d + 2) (l + labels e) in
      let t = inside-add k l (labels e) (labels_all rest) in
      omega (arith, x, h, g, t)
  counted_all k (WithPointer p rest) d l =
      let x = times-append k (code_ptr p d l) (codes rest (d + 2) (l + labels_ptr p)) in
      let h = counted_ptr k p d l in
      let g = counted_all k rest (d + 2) (l + labels_ptr p) in
      let t = inside-add k l (labels_ptr p) (labels_all rest) in
      omega (arith, x, h, g, t)

unlabelled-copy : (k : ℕ) (kind : Option IntKind) (offset d : ℕ) → times k (copied offset kind d) ≡ 0
unlabelled-copy k None offset d = refl
unlabelled-copy k (Some kind) offset d = refl

unlabelled-copies : (k : ℕ) (scalars : List Scalar) (d : ℕ) → times k (copied_all scalars d) ≡ 0
unlabelled-copies k [] d = refl
unlabelled-copies k (x ∷ rest) d =
    let a = times-append k (copied x.offset x.kind d) (copied_all rest d) in
    let b = unlabelled-copy k x.kind x.offset d in
    let c = unlabelled-copies k rest d in
    omega (arith, a, b, c)

counted_effect : (k : ℕ) (e : Effect) (d l : ℕ) → times k (code_effect e d l) ≡ inside k l (labels_effect e)
counted_effect k Nothing d l = refl
counted_effect k (ForNumber e) d l = counted k e d l
counted_effect k (ForPointer p) d l = counted_ptr k p d l
counted_effect k (CopyStruct size scalars to_place to from_place from) d l = two_parts k l (labels_ptr to) (labels_ptr from) (code_ptr to d l) (code_ptr from (d + 2) (l + labels_ptr to))
    (s.Extend (d + 2) (d + 2) U64 ∷ s.Judge (d + 2) size (d + 2 + 1) false from_place ∷ s.Extend d d U64 ∷ s.Judge d size (d + 1) true to_place ∷ copied_all scalars d)
    (counted_ptr k to d l) (counted_ptr k from (d + 2) (l + labels_ptr to)) (unlabelled-copies k scalars d)

counted_of : (k : ℕ) (st : Statement) (d l lb lc : ℕ) → times k (code_of st d l lb lc) ≡ inside k l (labels_of st)
counted_of k Skip d l lb lc = refl
counted_of k (Do e) d l lb lc = counted_effect k e d l
counted_of k (Then a b) d l lb lc =
    let x = times-append k (code_of a d l lb lc) (code_of b d (l + labels_of a) lb lc) in
    let h = counted_of k a d l lb lc in
    let g = counted_of k b d (l + labels_of a) lb lc in
    let t = inside-add k l (labels_of a) (labels_of b) in
    omega (arith, x, h, g, t)
counted_of k (If test a b) d l lb lc = chosen k l (labels test) (labels_of b) (labels_of a) (code test d (l + 2)) (code_of a d (l + 2 + labels test + labels_of b) lb lc) (code_of b d (l + 2 + labels test) lb lc) d
    (counted k test d (l + 2)) (counted_of k b d (l + 2 + labels test) lb lc) (counted_of k a d (l + 2 + labels test + labels_of b) lb lc)
counted_of k (While test body) d l lb lc =
    let ct = code test d (l + 3) in
    let cb = code_of body d (l + 3 + labels test) (l + 1) l in
    let tail = s.Jump l ∷ s.Label (l + 1) ∷ [] in
    let x = times-append k ct (s.JumpIf d (l + 2) ∷ s.Jump (l + 1) ∷ s.Label (l + 2) ∷ (cb ++ tail)) in
    let y = times-append k cb tail in
    let t = inside-add_3 k l 3 (labels test) (labels_of body) in
    let u = first-3 k l in
    let h = counted k test d (l + 3) in
    let g = counted_of k body d (l + 3 + labels test) (l + 1) l in
    omega (arith, x, y, t, u, h, g)
counted_of k (DoWhile body test) d l lb lc =
    let ct = code test d (l + 3) in
    let cb = code_of body d (l + 3 + labels test) (l + 1) (l + 2) in
    let tail = s.JumpIf d l ∷ s.Label (l + 1) ∷ [] in
    let x = times-append k cb (s.Label (l + 2) ∷ (ct ++ tail)) in
    let y = times-append k ct tail in
    let t = inside-add_3 k l 3 (labels test) (labels_of body) in
    let u = first-3 k l in
    let h = counted k test d (l + 3) in
    let g = counted_of k body d (l + 3 + labels test) (l + 1) (l + 2) in
    omega (arith, x, y, t, u, h, g)
counted_of k (For test step body) d l lb lc =
    let lt = labels test in
    let ls = labels_effect step in
    let ly = labels_of body in
    let ct = code test d (l + 4) in
    let cb = code_of body d (l + 4 + lt) (l + 1) (l + 3) in
    let cs = code_effect step d (l + 4 + lt + ly) in
    let tail = s.Jump l ∷ s.Label (l + 1) ∷ [] in
    let x = times-append k ct (s.JumpIf d (l + 2) ∷ s.Jump (l + 1) ∷ s.Label (l + 2) ∷ (cb ++ (s.Label (l + 3) ∷ (cs ++ tail)))) in
    let y = times-append k cb (s.Label (l + 3) ∷ (cs ++ tail)) in
    let z = times-append k cs tail in
    let r = resized k l (4 + lt + ls + ly) (4 + lt + ly + ls) (omega arith) in
    let t = inside-add_4 k l 4 lt ly ls in
    let u = first-4 k l in
    let h = counted k test d (l + 4) in
    let g = counted_of k body d (l + 4 + lt) (l + 1) (l + 3) in
    let f = counted_effect k step d (l + 4 + lt + ly) in
    omega (arith, x, y, z, r, t, u, h, g, f)
counted_of k Break d l lb lc = refl
counted_of k Continue d l lb lc = refl
counted_of k Return d l lb lc = refl
counted_of k (ReturnNumber e) d l lb lc = one_part k l (labels e) (code e d l) _ (counted k e d l) refl
counted_of k (ReturnPtr p) d l lb lc = one_part k l (labels_ptr p) (code_ptr p d l) _ (counted_ptr k p d l) refl

-- ---- jumps

module _ (J : ℕ → Type 0) where
  -- what holds of n labels from l on
  abbrev In : ℕ → ℕ → Type 0
  In l n = (k : ℕ) → l ≤ k → k < l + n → J k

  some-of : (l n a m : ℕ) → l ≤ a → a + m ≤ l + n → In l n → In a m
  some-of l n a m low high h = λ k lo hi. h k (omega (arith, lo, low)) (omega (arith, hi, high))

  this : (l n k : ℕ) → l ≤ k → k < l + n → In l n → J k
  this l n k low high h = h k low high

  join : (a b : List FatStep) → JumpsTo J a → JumpsTo J b → JumpsTo J (a ++ b)
  join [] b h g = g
  join (s.Jump n ∷ a) b h g = (h.0, join a b h.1 g)
  join (s.JumpIf from n ∷ a) b h g = (h.0, join a b h.1 g)
  join (_ ∷ a) b h g = join a b h g

  jumps-rule : (rule : Rule) (d : ℕ) → JumpsTo J (ruled rule d)
  jumps-rule Keep d = tt
  jumps-rule (Meet offset size) d = tt

  choosing : (l n m o : ℕ) (c a b : List FatStep) (d : ℕ) → In l (2 + n + o + m) → JumpsTo J c → JumpsTo J b → JumpsTo J a → JumpsTo J (c ++ (s.JumpIf d l ∷ (b ++ (s.Jump (l + 1) ∷ s.Label l ∷ (a ++ (s.Label (l + 1) ∷ []))))))
  choosing l n m o c a b d h hc hb ha = join c (s.JumpIf d l ∷ (b ++ (s.Jump (l + 1) ∷ s.Label l ∷ (a ++ (s.Label (l + 1) ∷ []))))) hc
      (this l (2 + n + o + m) l (omega arith) (omega arith) h, join b (s.Jump (l + 1) ∷ s.Label l ∷ (a ++ (s.Label (l + 1) ∷ []))) hb (this l (2 + n + o + m) (l + 1) (omega arith) (omega arith) h, join a (s.Label (l + 1) ∷ []) ha tt))

  mutual
    jumps : (e : NumberExpr) (d l : ℕ) → In l (labels e) → JumpsTo J (code e d l)
    jumps (Word n) d l h = tt
    jumps (Variable x) d l h = tt
    jumps (Assign x e) d l h = join (code e d l) (s.Copy x d ∷ []) (jumps e d l h) tt
    jumps (Operate op kind a b) d l h = let n = labels a + labels b in join (code a d l) _ (jumps a d l (some-of l n l (labels a) (omega arith) (omega arith) h)) (join (code b (d + 2) (l + labels a)) _ (jumps b (d + 2) (l + labels a) (some-of l n (l + labels a) (labels b) (omega arith) (omega arith) h)) tt)
    jumps (Compare op kind a b) d l h = let n = labels a + labels b in join (code a d l) _ (jumps a d l (some-of l n l (labels a) (omega arith) (omega arith) h)) (join (code b (d + 2) (l + labels a)) _ (jumps b (d + 2) (l + labels a) (some-of l n (l + labels a) (labels b) (omega arith) (omega arith) h)) tt)
    jumps (Convert kind e) d l h = join (code e d l) _ (jumps e d l h) tt
    jumps (AsNumber p) d l h = jumps_ptr p d l h
    jumps (Load kind place p) d l h = join (code_ptr p d l) _ (jumps_ptr p d l h) tt
    jumps (Store kind place p e) d l h = let n = labels_ptr p + labels e in join (code_ptr p d l) _ (jumps_ptr p d l (some-of l n l (labels_ptr p) (omega arith) (omega arith) h)) (join (code e (d + 2) (l + labels_ptr p)) _ (jumps e (d + 2) (l + labels_ptr p) (some-of l n (l + labels_ptr p) (labels e) (omega arith) (omega arith) h)) tt)
    jumps (Update x kind op common e old) d l h = join (code e d l) _ (jumps e d l h) tt
    jumps (UpdateAt kind place p op common e old) d l h = let n = labels_ptr p + labels e in join (code_ptr p d l) _ (jumps_ptr p d l (some-of l n l (labels_ptr p) (omega arith) (omega arith) h)) (join (code e (d + 2) (l + labels_ptr p)) _ (jumps e (d + 2) (l + labels_ptr p) (some-of l n (l + labels_ptr p) (labels e) (omega arith) (omega arith) h)) tt)
    jumps (And a b) d l h =
        let n = 3 + labels a + labels b in
        let j0 = this l n l (omega arith) (omega arith) h in
        let j1 = this l n (l + 1) (omega arith) (omega arith) h in
        let j2 = this l n (l + 2) (omega arith) (omega arith) h in
        let tail = s.JumpIf d (l + 2) ∷ s.Jump (l + 1) ∷ s.Label (l + 2) ∷ s.Const d 1 ∷ s.Label (l + 1) ∷ [] in
        join (code a d (l + 3)) (s.JumpIf d l ∷ s.Jump (l + 1) ∷ s.Label l ∷ (code b d (l + 3 + labels a) ++ tail)) (jumps a d (l + 3) (some-of l n (l + 3) (labels a) (omega arith) (omega arith) h)) (j0, (j1, join (code b d (l + 3 + labels a)) tail (jumps b d (l + 3 + labels a) (some-of l n (l + 3 + labels a) (labels b) (omega arith) (omega arith) h)) (j2, (j1, tt))))
    jumps (Or a b) d l h =
        let n = 2 + labels a + labels b in
        let j0 = this l n l (omega arith) (omega arith) h in
        let j1 = this l n (l + 1) (omega arith) (omega arith) h in
        let tail = s.JumpIf d l ∷ s.Jump (l + 1) ∷ s.Label l ∷ s.Const d 1 ∷ s.Label (l + 1) ∷ [] in
        join (code a d (l + 2)) (s.JumpIf d l ∷ (code b d (l + 2 + labels a) ++ tail)) (jumps a d (l + 2) (some-of l n (l + 2) (labels a) (omega arith) (omega arith) h)) (j0, join (code b d (l + 2 + labels a)) tail (jumps b d (l + 2 + labels a) (some-of l n (l + 2 + labels a) (labels b) (omega arith) (omega arith) h)) (j0, (j1, tt)))
    jumps (Choose test a b) d l h =
        let n = 2 + labels test + labels a + labels b in
        choosing l (labels test) (labels b) (labels a) (code test d (l + 2)) (code a d (l + 2 + labels test + labels b)) (code b d (l + 2 + labels test)) d h (jumps test d (l + 2) (some-of l n (l + 2) (labels test) (omega arith) (omega arith) h))
        (jumps b d (l + 2 + labels test) (some-of l n (l + 2 + labels test) (labels b) (omega arith) (omega arith) h)) (jumps a d (l + 2 + labels test + labels b) (some-of l n (l + 2 + labels test + labels b) (labels a) (omega arith) (omega arith) h))
    jumps (Call symbol args) d l h = join (codes args d l) _ (jumps_all args d l h) tt
    jumps (Serve service e) d l h = join (code e d l) _ (jumps e d l h) tt
    jumps (Ask service) d l h = tt

    jumps_ptr : (e : PointerExpr) (d l : ℕ) → In l (labels_ptr e) → JumpsTo J (code_ptr e d l)
    jumps_ptr Null d l h = tt
    jumps_ptr (FromInteger e) d l h = join (code e d l) _ (jumps e d l h) tt
    jumps_ptr (Function symbol) d l h = tt
    jumps_ptr (Object symbol offset size) d l h = tt
    jumps_ptr (InFrame offset size) d l h = tt
    jumps_ptr (VariablePtr x) d l h = tt
    jumps_ptr (AssignPtr x e) d l h = join (code_ptr e d l) _ (jumps_ptr e d l h) tt
    jumps_ptr (Member offset rule p) d l h = join (code_ptr p d l) (ruled rule d ++ offset_by offset d d (d + 2)) (jumps_ptr p d l h) (join (ruled rule d) (offset_by offset d d (d + 2)) (jumps-rule rule d) tt)
    jumps_ptr (Element minus size p i) d l h = let n = labels_ptr p + labels i in join (code_ptr p d l) _ (jumps_ptr p d l (some-of l n l (labels_ptr p) (omega arith) (omega arith) h)) (join (code i (d + 2) (l + labels_ptr p)) _ (jumps i (d + 2) (l + labels_ptr p) (some-of l n (l + labels_ptr p) (labels i) (omega arith) (omega arith) h)) tt)
    jumps_ptr (ElementAfter size i p) d l h = let n = labels i + labels_ptr p in join (code i d l) _ (jumps i d l (some-of l n l (labels i) (omega arith) (omega arith) h)) (join (code_ptr p (d + 2) (l + labels i)) _ (jumps_ptr p (d + 2) (l + labels i) (some-of l n (l + labels i) (labels_ptr p) (omega arith) (omega arith) h)) tt)
    jumps_ptr (LoadPtr place p) d l h = join (code_ptr p d l) _ (jumps_ptr p d l h) tt
    jumps_ptr (StorePtr place p e) d l h = let n = labels_ptr p + labels_ptr e in join (code_ptr p d l) _ (jumps_ptr p d l (some-of l n l (labels_ptr p) (omega arith) (omega arith) h)) (join (code_ptr e (d + 2) (l + labels_ptr p)) _ (jumps_ptr e (d + 2) (l + labels_ptr p) (some-of l n (l + labels_ptr p) (labels_ptr e) (omega arith) (omega arith) h)) tt)
    jumps_ptr (Advance x minus size i old) d l h = join (code i d l) _ (jumps i d l h) tt
    jumps_ptr (AdvanceAt place p minus size i old) d l h = let n = labels_ptr p + labels i in join (code_ptr p d l) _ (jumps_ptr p d l (some-of l n l (labels_ptr p) (omega arith) (omega arith) h)) (join (code i (d + 2) (l + labels_ptr p)) _ (jumps i (d + 2) (l + labels_ptr p) (some-of l n (l + labels_ptr p) (labels i) (omega arith) (omega arith) h)) tt)
    jumps_ptr (ChoosePtr test a b) d l h =
        let n = 2 + labels test + labels_ptr a + labels_ptr b in
        choosing l (labels test) (labels_ptr b) (labels_ptr a) (code test d (l + 2)) (code_ptr a d (l + 2 + labels test + labels_ptr b)) (code_ptr b d (l + 2 + labels test)) d h (jumps test d (l + 2) (some-of l n (l + 2) (labels test) (omega arith) (omega arith) h))
        (jumps_ptr b d (l + 2 + labels test) (some-of l n (l + 2 + labels test) (labels_ptr b) (omega arith) (omega arith) h)) (jumps_ptr a d (l + 2 + labels test + labels_ptr b) (some-of l n (l + 2 + labels test + labels_ptr b) (labels_ptr a) (omega arith) (omega arith) h))
    jumps_ptr (CallPtr symbol args) d l h = join (codes args d l) _ (jumps_all args d l h) tt
    jumps_ptr (Alloc e) d l h = join (code e d (l + 1)) _ (jumps e d (l + 1) (some-of l (1 + labels e) (l + 1) (labels e) (omega arith) (omega arith) h)) (this l (1 + labels e) l (omega arith) (omega arith) h, tt)
    jumps_ptr (SetBounds q k) d l h = let n = labels_ptr q + labels k in join (code_ptr q d l) _ (jumps_ptr q d l (some-of l n l (labels_ptr q) (omega arith) (omega arith) h)) (join (code k (d + 2) (l + labels_ptr q)) _ (jumps k (d + 2) (l + labels_ptr q) (some-of l n (l + labels_ptr q) (labels k) (omega arith) (omega arith) h)) tt)
    jumps_ptr (NarrowBounds p q k) d l h =
        let n = labels_ptr p + labels_ptr q + labels k in
        join (code_ptr p d l) _ (jumps_ptr p d l (some-of l n l (labels_ptr p) (omega arith) (omega arith) h)) (join (code_ptr q (d + 2) (l + labels_ptr p)) _ (jumps_ptr q (d + 2) (l + labels_ptr p) (some-of l n (l + labels_ptr p) (labels_ptr q) (omega arith) (omega arith) h))
        (join (code k (d + 4) (l + labels_ptr p + labels_ptr q)) _ (jumps k (d + 4) (l + labels_ptr p + labels_ptr q) (some-of l n (l + labels_ptr p + labels_ptr q) (labels k) (omega arith) (omega arith) h)) tt))
    jumps_ptr (CopyBounds q r) d l h = let n = labels_ptr q + labels_ptr r in join (code_ptr q d l) _ (jumps_ptr q d l (some-of l n l (labels_ptr q) (omega arith) (omega arith) h)) (join (code_ptr r (d + 2) (l + labels_ptr q)) _ (jumps_ptr r (d + 2) (l + labels_ptr q) (some-of l n (l + labels_ptr q) (labels_ptr r) (omega arith) (omega arith) h)) tt)
    jumps_ptr (InitBounds q) d l h = join (code_ptr q d l) _ (jumps_ptr q d l h) tt
    jumps_ptr (BoundOf upper q) d l h = join (code_ptr q d l) _ (jumps_ptr q d l h) tt

    jumps_all : (args : Arguments) (d l : ℕ) → In l (labels_all args) → JumpsTo J (codes args d l)
    jumps_all NoMore d l h = tt
    jumps_all (WithNumber e rest) d l h = let n = labels e + labels_all rest in join (code e d l) _ (jumps e d l (some-of l n l (labels e) (omega arith) (omega arith) h)) (jumps_all rest (d + 2) (l + labels e) (some-of l n (l + labels e) (labels_all rest) (omega arith) (omega arith) h))
    jumps_all (WithPointer p rest) d l h = let n = labels_ptr p + labels_all rest in join (code_ptr p d l) _ (jumps_ptr p d l (some-of l n l (labels_ptr p) (omega arith) (omega arith) h)) (jumps_all rest (d + 2) (l + labels_ptr p) (some-of l n (l + labels_ptr p) (labels_all rest) (omega arith) (omega arith) h))

  jumps-copy : (kind : Option IntKind) (offset d : ℕ) → JumpsTo J (copied offset kind d)
  jumps-copy None offset d = tt
  jumps-copy (Some kind) offset d = tt

  jumps-copies : (scalars : List Scalar) (d : ℕ) → JumpsTo J (copied_all scalars d)
  jumps-copies [] d = tt
  jumps-copies (x ∷ rest) d = join (copied x.offset x.kind d) (copied_all rest d) (jumps-copy x.kind x.offset d) (jumps-copies rest d)

  jumps_effect : (e : Effect) (d l : ℕ) → In l (labels_effect e) → JumpsTo J (code_effect e d l)
  jumps_effect Nothing d l h = tt
  jumps_effect (ForNumber e) d l h = jumps e d l h
  jumps_effect (ForPointer p) d l h = jumps_ptr p d l h
  jumps_effect (CopyStruct size scalars to_place to from_place from) d l h =
      let n = labels_ptr to + labels_ptr from in
      join (code_ptr to d l) _ (jumps_ptr to d l (some-of l n l (labels_ptr to) (omega arith) (omega arith) h)) (join (code_ptr from (d + 2) (l + labels_ptr to)) _ (jumps_ptr from (d + 2) (l + labels_ptr to) (some-of l n (l + labels_ptr to) (labels_ptr from) (omega arith) (omega arith) h)) (jumps-copies scalars d))

  jumps_of : (st : Statement) (d l lb lc : ℕ) → In l (labels_of st) → J lb → J lc → JumpsTo J (code_of st d l lb lc)
  jumps_of Skip d l lb lc h hb hc = tt
  jumps_of (Do e) d l lb lc h hb hc = jumps_effect e d l h
  jumps_of (Then a b) d l lb lc h hb hc =
      let n = labels_of a + labels_of b in
      join (code_of a d l lb lc) _ (jumps_of a d l lb lc (some-of l n l (labels_of a) (omega arith) (omega arith) h) hb hc) (jumps_of b d (l + labels_of a) lb lc (some-of l n (l + labels_of a) (labels_of b) (omega arith) (omega arith) h) hb hc)
  jumps_of (If test a b) d l lb lc h hb hc =
      let n = 2 + labels test + labels_of a + labels_of b in
      choosing l (labels test) (labels_of b) (labels_of a) (code test d (l + 2)) (code_of a d (l + 2 + labels test + labels_of b) lb lc) (code_of b d (l + 2 + labels test) lb lc) d h (jumps test d (l + 2) (some-of l n (l + 2) (labels test) (omega arith) (omega arith) h))
      (jumps_of b d (l + 2 + labels test) lb lc (some-of l n (l + 2 + labels test) (labels_of b) (omega arith) (omega arith) h) hb hc) (jumps_of a d (l + 2 + labels test + labels_of b) lb lc (some-of l n (l + 2 + labels test + labels_of b) (labels_of a) (omega arith) (omega arith) h) hb hc)
  jumps_of (While test body) d l lb lc h hb hc =
      let n = 3 + labels test + labels_of body in
      let j0 = this l n l (omega arith) (omega arith) h in
      let j1 = this l n (l + 1) (omega arith) (omega arith) h in
      let j2 = this l n (l + 2) (omega arith) (omega arith) h in
      let sl = l + 3 + labels test in
      let cb = code_of body d sl (l + 1) l in
      let tail = s.Jump l ∷ s.Label (l + 1) ∷ [] in
      join (code test d (l + 3)) (s.JumpIf d (l + 2) ∷ s.Jump (l + 1) ∷ s.Label (l + 2) ∷ (cb ++ tail)) (jumps test d (l + 3) (some-of l n (l + 3) (labels test) (omega arith) (omega arith) h))
      (j2, (j1, join cb tail (jumps_of body d sl (l + 1) l (some-of l n sl (labels_of body) (omega arith) (omega arith) h) j1 j0) (j0, tt)))
  jumps_of (DoWhile body test) d l lb lc h hb hc =
      let n = 3 + labels test + labels_of body in
      let j0 = this l n l (omega arith) (omega arith) h in
      let j1 = this l n (l + 1) (omega arith) (omega arith) h in
      let j2 = this l n (l + 2) (omega arith) (omega arith) h in
      let sl = l + 3 + labels test in
      let cb = code_of body d sl (l + 1) (l + 2) in
      let tail = s.JumpIf d l ∷ s.Label (l + 1) ∷ [] in
      join cb (s.Label (l + 2) ∷ (code test d (l + 3) ++ tail)) (jumps_of body d sl (l + 1) (l + 2) (some-of l n sl (labels_of body) (omega arith) (omega arith) h) j1 j2)
      (join (code test d (l + 3)) tail (jumps test d (l + 3) (some-of l n (l + 3) (labels test) (omega arith) (omega arith) h)) (j0, tt))
  jumps_of (For test step body) d l lb lc h hb hc =
      let n = 4 + labels test + labels_effect step + labels_of body in
      let j0 = this l n l (omega arith) (omega arith) h in
      let j1 = this l n (l + 1) (omega arith) (omega arith) h in
      let j2 = this l n (l + 2) (omega arith) (omega arith) h in
      let j3 = this l n (l + 3) (omega arith) (omega arith) h in
      let sl = l + 4 + labels test in
      let wl = l + 4 + labels test + labels_of body in
      let cb = code_of body d sl (l + 1) (l + 3) in
      let cs = code_effect step d wl in
      let tail = s.Jump l ∷ s.Label (l + 1) ∷ [] in
      join (code test d (l + 4)) (s.JumpIf d (l + 2) ∷ s.Jump (l + 1) ∷ s.Label (l + 2) ∷ (cb ++ (s.Label (l + 3) ∷ (cs ++ tail)))) (jumps test d (l + 4) (some-of l n (l + 4) (labels test) (omega arith) (omega arith) h)) (
        j2,
        (
          j1,
          join cb (s.Label (l + 3) ∷ (cs ++ tail)) (jumps_of body d sl (l + 1) (l + 3) (some-of l n sl (labels_of body) (omega arith) (omega arith) h) j1 j3)
              (join cs tail (jumps_effect step d wl (some-of l n wl (labels_effect step) (omega arith) (omega arith) h)) (j0, tt)),
        ),
      )
  jumps_of Break d l lb lc h hb hc = (hb, tt)
  jumps_of Continue d l lb lc h hb hc = (hc, tt)
  jumps_of Return d l lb lc h hb hc = tt
  jumps_of (ReturnNumber e) d l lb lc h hb hc = join (code e d l) _ (jumps e d l h) tt
  jumps_of (ReturnPtr p) d l lb lc h hb hc = join (code_ptr p d l) _ (jumps_ptr p d l h) tt

  jumps-arrivals : (ps : List Parameter) (t d : ℕ) → JumpsTo J (arrivals ps t d)
  jumps-arrivals [] t d = tt
  jumps-arrivals (Private x kind ∷ ps) t d = jumps-arrivals ps t d
  jumps-arrivals (Framed offset (Some kind) ∷ ps) t d = jumps-arrivals ps (t + 1) d
  jumps-arrivals (Framed offset None ∷ ps) t d = jumps-arrivals ps (t + 2) d

-- ---- functions

unlabelled-arrivals : (k : ℕ) (ps : List Parameter) (t d : ℕ) → times k (arrivals ps t d) ≡ 0
unlabelled-arrivals k [] t d = refl
unlabelled-arrivals k (Private x kind ∷ ps) t d = unlabelled-arrivals k ps t d
unlabelled-arrivals k (Framed offset (Some kind) ∷ ps) t d = unlabelled-arrivals k ps (t + 1) d
unlabelled-arrivals k (Framed offset None ∷ ps) t d = unlabelled-arrivals k ps (t + 2) d

pub labels-once : (f : FunctionOfC) (name : ℕ) → JumpsTo (λ k. times k (fat_function name f).steps ≡ 1) (fat_function name f).steps
labels-once f name =
    let private = length f.privates in
    let base = private + length (arrived f.parameters) in
    let arr = arrivals f.parameters private base in
    let body = code_of f.body base 1 0 0 in
    let n = labels_of f.body in
    let last = s.Label 0 ∷ [] in
    let J : ℕ → Type 0 = λ k. times k (arr ++ (body ++ last)) ≡ 1 in
    let whole = λ (k : ℕ). times-append k arr (body ++ last) in
    let inner = λ (k : ℕ). times-append k body last in
    let none = λ (k : ℕ). unlabelled-arrivals k f.parameters private base in
    let count = λ (k : ℕ). counted_of k f.body base 1 0 0 in
    let own : In J 1 n = λ k low high.
    let w = whole k in
    let i = inner k in
    let z = none k in
    let c = count k in
    let one = inside-one k 1 n low high in
    let other : k ≢ 0 = λ e. omega (arith, e, low) in
    let zero_apart = differs k 0 other in
    omega (arith, w, i, z, c, one, zero_apart) in
    let end : J 0 =
    let w = whole 0 in
    let i = inner 0 in
    let z = none 0 in
    let c = count 0 in
    let out = inside-none 0 1 n (omega arith) in
    omega (arith, w, i, z, c, out) in
    join J arr (body ++ last) (jumps-arrivals J f.parameters private base) (join J body last (jumps_of J f.body base 1 0 0 own end end) tt)
