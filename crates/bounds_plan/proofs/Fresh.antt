-- The code of a tree has no labels but its own: as many as it needs, from the first one on.
use Rattle.std.proofs.Common.{ℕ, ◌+◌, ◌≤◌, ◌<◌, Option, None, Some, List, [], ◌∷◌, ◌++◌, arith}
use Rattle.std.specs.Prelude.{◌≢◌}
use Rattle.mx_base.specs.declared.numbers.IntKind.{IntKind}
use Rattle.narrowing.specs.declared.member.Rule.{Rule}
use Rattle.narrowing.specs.declared.member.Rule.TheVariants.{Keep, Meet as MeetRule}
use Rattle.fat_ir.specs.declared.step.FatStep.{FatStep}
use Rattle.fat_ir.specs.declared.step.FatStep.TheVariants.{Label}
use Rattle.fat_ir.specs.Laws.{LacksLabel}
use Rattle.bounds_plan.specs.meaning.Core.{NumberExpr, Word, Variable, Assign, Operate, Compare, Convert, AsNumber, Load, Store, Update, UpdateAt, And, Or, Choose, Call, Serve, Ask, PointerExpr, Null, FromInteger, Function, Object, InFrame, VariablePtr, AssignPtr, Member, Element, ElementAfter, LoadPtr, StorePtr, Advance, AdvanceAt, ChoosePtr, CallPtr, Alloc, SetBounds, NarrowBounds, CopyBounds, InitBounds, BoundOf, Arguments, NoMore, WithNumber, WithPointer, Scalar, Effect, Nothing, OfNumber, OfPointer, CopyStruct, Statement, Skip, Do, Then, If, While, DoWhile, For, Break, Continue, Return, ReturnNumber, ReturnPtr}
use Rattle.bounds_plan.specs.steps.Code.{labels, labels_ptr, labels_all, labels_effect, labels_of, ruled, copied, copied_all, code, code_ptr, codes, code_effect, code_of}
use Rattle.bounds_plan.specs.laws.Laws.{IsOutside}

-- a part of the labels
pub part : {k l n : ℕ} (m i : ℕ) → l ≤ m → m + i ≤ l + n → IsOutside k l n → IsOutside k m i
part m i p q out = record { is = λ h. omega (arith, q, h, out.is (omega (arith, p, h))) }

pub own : {k l n : ℕ} (m : ℕ) → l ≤ m → m < l + n → IsOutside k l n → k ≢ m
own m p q out = λ e. omega (arith, q, e, out.is (omega (arith, p, e)))

pub lacks-append : (k : ℕ) (a b : List FatStep) → LacksLabel k a → LacksLabel k b → LacksLabel k (a ++ b)
lacks-append k [] b h g = g
lacks-append k (Label n ∷ a) b h g = (h.0, lacks-append k a b h.1 g)
lacks-append k (_ ∷ a) b h g = lacks-append k a b h g

lacks-ruled : (k : ℕ) (rule : Rule) (d : ℕ) → LacksLabel k (ruled rule d)
lacks-ruled k Keep d = tt
lacks-ruled k (MeetRule offset size) d = tt

lacks-copied : (k offset : ℕ) (kind : Option IntKind) (d : ℕ) → LacksLabel k (copied offset kind d)
lacks-copied k offset None d = tt
lacks-copied k offset (Some kind) d = tt

lacks-copied_all : (k : ℕ) (scalars : List Scalar) (d : ℕ) → LacksLabel k (copied_all scalars d)
lacks-copied_all k [] d = tt
lacks-copied_all k (x ∷ rest) d = lacks-append k (copied x.offset x.kind d) _ (lacks-copied k x.offset x.kind d) (lacks-copied_all k rest d)

mutual
  pub fresh : (e : NumberExpr) (d l k : ℕ) → IsOutside k l (labels e) → LacksLabel k (code e d l)
  fresh (Word n) d l k out = tt
  fresh (Variable x) d l k out = tt
  fresh (Assign x e) d l k out = lacks-append k (code e d l) _ (fresh e d l k out) tt
  fresh (Operate op kind a b) d l k out = lacks-append k (code a d l) _ (fresh a d l k (part l (labels a) (omega arith) (omega arith) out)) (lacks-append k (code b (d + 2) (l + labels a)) _ (fresh b (d + 2) (l + labels a) k (part (l + labels a) (labels b) (omega arith) (omega arith) out)) tt)
  fresh (Compare op kind a b) d l k out = lacks-append k (code a d l) _ (fresh a d l k (part l (labels a) (omega arith) (omega arith) out)) (lacks-append k (code b (d + 2) (l + labels a)) _ (fresh b (d + 2) (l + labels a) k (part (l + labels a) (labels b) (omega arith) (omega arith) out)) tt)
  fresh (Convert kind e) d l k out = lacks-append k (code e d l) _ (fresh e d l k out) tt
  fresh (AsNumber p) d l k out = fresh_ptr p d l k out
  fresh (Load kind place p) d l k out = lacks-append k (code_ptr p d l) _ (fresh_ptr p d l k out) tt
  fresh (Store kind place p e) d l k out = lacks-append k (code_ptr p d l) _ (fresh_ptr p d l k (part l (labels_ptr p) (omega arith) (omega arith) out)) (lacks-append k (code e (d + 2) (l + labels_ptr p)) _ (fresh e (d + 2) (l + labels_ptr p) k (part (l + labels_ptr p) (labels e) (omega arith) (omega arith) out)) tt)
  fresh (Update x kind op common e old) d l k out = lacks-append k (code e d l) _ (fresh e d l k out) tt
  fresh (UpdateAt kind place p op common e old) d l k out = lacks-append k (code_ptr p d l) _ (fresh_ptr p d l k (part l (labels_ptr p) (omega arith) (omega arith) out)) (lacks-append k (code e (d + 2) (l + labels_ptr p)) _ (fresh e (d + 2) (l + labels_ptr p) k (part (l + labels_ptr p) (labels e) (omega arith) (omega arith) out)) tt)
  fresh (And a b) d l k out = lacks-append k (code a d (l + 3)) _ (fresh a d (l + 3) k (part (l + 3) (labels a) (omega arith) (omega arith) out)) (
    own l (omega arith) (omega arith) out,
    lacks-append k (code b d (l + 3 + labels a)) _ (fresh b d (l + 3 + labels a) k (part (l + 3 + labels a) (labels b) (omega arith) (omega arith) out)) (own (l + 2) (omega arith) (omega arith) out, (own (l + 1) (omega arith) (omega arith) out, tt)),
  )
  fresh (Or a b) d l k out = lacks-append k (code a d (l + 2)) _ (fresh a d (l + 2) k (part (l + 2) (labels a) (omega arith) (omega arith) out))
      (lacks-append k (code b d (l + 2 + labels a)) _ (fresh b d (l + 2 + labels a) k (part (l + 2 + labels a) (labels b) (omega arith) (omega arith) out)) (own l (omega arith) (omega arith) out, (own (l + 1) (omega arith) (omega arith) out, tt)))
  fresh (Choose test a b) d l k out = lacks-append k (code test d (l + 2)) _ (fresh test d (l + 2) k (part (l + 2) (labels test) (omega arith) (omega arith) out))
      (lacks-append k (code b d (l + 2 + labels test)) _ (fresh b d (l + 2 + labels test) k (part (l + 2 + labels test) (labels b) (omega arith) (omega arith) out)) (
        own l (omega arith) (omega arith) out,
        lacks-append k (code a d (l + 2 + labels test + labels b)) _ (fresh a d (l + 2 + labels test + labels b) k (part (l + 2 + labels test + labels b) (labels a) (omega arith) (omega arith) out)) (own (l + 1) (omega arith) (omega arith) out, tt),
      ))
  fresh (Call symbol args) d l k out = lacks-append k (codes args d l) _ (fresh_all args d l k out) tt
  fresh (Serve service e) d l k out = lacks-append k (code e d l) _ (fresh e d l k out) tt
  fresh (Ask service) d l k out = tt

  pub fresh_ptr : (e : PointerExpr) (d l k : ℕ) → IsOutside k l (labels_ptr e) → LacksLabel k (code_ptr e d l)
  fresh_ptr Null d l k out = tt
  fresh_ptr (FromInteger e) d l k out = lacks-append k (code e d l) _ (fresh e d l k out) tt
  fresh_ptr (Function symbol) d l k out = tt
  fresh_ptr (Object symbol offset size) d l k out = tt
  fresh_ptr (InFrame offset size) d l k out = tt
  fresh_ptr (VariablePtr x) d l k out = tt
  fresh_ptr (AssignPtr x e) d l k out = lacks-append k (code_ptr e d l) _ (fresh_ptr e d l k out) tt
  fresh_ptr (Member offset rule p) d l k out = lacks-append k (code_ptr p d l) _ (fresh_ptr p d l k out) (lacks-append k (ruled rule d) _ (lacks-ruled k rule d) tt)
  fresh_ptr (Element minus size p i) d l k out = lacks-append k (code_ptr p d l) _ (fresh_ptr p d l k (part l (labels_ptr p) (omega arith) (omega arith) out)) (lacks-append k (code i (d + 2) (l + labels_ptr p)) _ (fresh i (d + 2) (l + labels_ptr p) k (part (l + labels_ptr p) (labels i) (omega arith) (omega arith) out)) tt)
  fresh_ptr (LoadPtr place p) d l k out = lacks-append k (code_ptr p d l) _ (fresh_ptr p d l k out) tt
  fresh_ptr (StorePtr place p e) d l k out = lacks-append k (code_ptr p d l) _ (fresh_ptr p d l k (part l (labels_ptr p) (omega arith) (omega arith) out)) (lacks-append k (code_ptr e (d + 2) (l + labels_ptr p)) _ (fresh_ptr e (d + 2) (l + labels_ptr p) k (part (l + labels_ptr p) (labels_ptr e) (omega arith) (omega arith) out)) tt)
  fresh_ptr (Advance x minus size i old) d l k out = lacks-append k (code i d l) _ (fresh i d l k out) tt
  fresh_ptr (AdvanceAt place p minus size i old) d l k out = lacks-append k (code_ptr p d l) _ (fresh_ptr p d l k (part l (labels_ptr p) (omega arith) (omega arith) out)) (lacks-append k (code i (d + 2) (l + labels_ptr p)) _ (fresh i (d + 2) (l + labels_ptr p) k (part (l + labels_ptr p) (labels i) (omega arith) (omega arith) out)) tt)
  fresh_ptr (ChoosePtr test a b) d l k out = lacks-append k (code test d (l + 2)) _ (fresh test d (l + 2) k (part (l + 2) (labels test) (omega arith) (omega arith) out))
      (lacks-append k (code_ptr b d (l + 2 + labels test)) _ (fresh_ptr b d (l + 2 + labels test) k (part (l + 2 + labels test) (labels_ptr b) (omega arith) (omega arith) out)) (
        own l (omega arith) (omega arith) out,
        lacks-append k (code_ptr a d (l + 2 + labels test + labels_ptr b)) _ (fresh_ptr a d (l + 2 + labels test + labels_ptr b) k (part (l + 2 + labels test + labels_ptr b) (labels_ptr a) (omega arith) (omega arith) out)) (own (l + 1) (omega arith) (omega arith) out, tt),
      ))
  fresh_ptr (CallPtr symbol args) d l k out = lacks-append k (codes args d l) _ (fresh_all args d l k out) tt
  fresh_ptr (Alloc e) d l k out = lacks-append k (code e d (l + 1)) _ (fresh e d (l + 1) k (part (l + 1) (labels e) (omega arith) (omega arith) out)) (own l (omega arith) (omega arith) out, tt)
  fresh_ptr (SetBounds q n) d l k out = lacks-append k (code_ptr q d l) _ (fresh_ptr q d l k (part l (labels_ptr q) (omega arith) (omega arith) out)) (lacks-append k (code n (d + 2) (l + labels_ptr q)) _ (fresh n (d + 2) (l + labels_ptr q) k (part (l + labels_ptr q) (labels n) (omega arith) (omega arith) out)) tt)
  fresh_ptr (NarrowBounds p q n) d l k out = lacks-append k (code_ptr p d l) _ (fresh_ptr p d l k (part l (labels_ptr p) (omega arith) (omega arith) out)) (lacks-append k (code_ptr q (d + 2) (l + labels_ptr p)) _ (fresh_ptr q (d + 2) (l + labels_ptr p) k (part (l + labels_ptr p) (labels_ptr q) (omega arith) (omega arith) out))
      (lacks-append k (code n (d + 4) (l + labels_ptr p + labels_ptr q)) _ (fresh n (d + 4) (l + labels_ptr p + labels_ptr q) k (part (l + labels_ptr p + labels_ptr q) (labels n) (omega arith) (omega arith) out)) tt))
  fresh_ptr (ElementAfter size i p) d l k out = lacks-append k (code i d l) _ (fresh i d l k (part l (labels i) (omega arith) (omega arith) out)) (lacks-append k (code_ptr p (d + 2) (l + labels i)) _ (fresh_ptr p (d + 2) (l + labels i) k (part (l + labels i) (labels_ptr p) (omega arith) (omega arith) out)) tt)
  fresh_ptr (CopyBounds q r) d l k out = lacks-append k (code_ptr q d l) _ (fresh_ptr q d l k (part l (labels_ptr q) (omega arith) (omega arith) out)) (lacks-append k (code_ptr r (d + 2) (l + labels_ptr q)) _ (fresh_ptr r (d + 2) (l + labels_ptr q) k (part (l + labels_ptr q) (labels_ptr r) (omega arith) (omega arith) out)) tt)
  fresh_ptr (InitBounds q) d l k out = lacks-append k (code_ptr q d l) _ (fresh_ptr q d l k out) tt
  fresh_ptr (BoundOf upper q) d l k out = lacks-append k (code_ptr q d l) _ (fresh_ptr q d l k out) tt

  pub fresh_all : (args : Arguments) (d l k : ℕ) → IsOutside k l (labels_all args) → LacksLabel k (codes args d l)
  fresh_all NoMore d l k out = tt
  fresh_all (WithNumber e rest) d l k out = lacks-append k (code e d l) _ (fresh e d l k (part l (labels e) (omega arith) (omega arith) out)) (fresh_all rest (d + 2) (l + labels e) k (part (l + labels e) (labels_all rest) (omega arith) (omega arith) out))
  fresh_all (WithPointer p rest) d l k out = lacks-append k (code_ptr p d l) _ (fresh_ptr p d l k (part l (labels_ptr p) (omega arith) (omega arith) out)) (fresh_all rest (d + 2) (l + labels_ptr p) k (part (l + labels_ptr p) (labels_all rest) (omega arith) (omega arith) out))

pub fresh_effect : (e : Effect) (d l k : ℕ) → IsOutside k l (labels_effect e) → LacksLabel k (code_effect e d l)
fresh_effect Nothing d l k out = tt
fresh_effect (OfNumber e) d l k out = fresh e d l k out
fresh_effect (OfPointer p) d l k out = fresh_ptr p d l k out
fresh_effect (CopyStruct size scalars to_place to from_place from) d l k out = lacks-append k (code_ptr to d l) _ (fresh_ptr to d l k (part l (labels_ptr to) (omega arith) (omega arith) out)) (lacks-append k (code_ptr from (d + 2) (l + labels_ptr to)) _ (fresh_ptr from (d + 2) (l + labels_ptr to) k (part (l + labels_ptr to) (labels_ptr from) (omega arith) (omega arith) out)) (lacks-copied_all k scalars d))

pub fresh_statement : (s : Statement) (d l lb lc k : ℕ) → IsOutside k l (labels_of s) → LacksLabel k (code_of s d l lb lc)
fresh_statement Skip d l lb lc k out = tt
fresh_statement (Do e) d l lb lc k out = fresh_effect e d l k out
fresh_statement (Then a b) d l lb lc k out = lacks-append k (code_of a d l lb lc) _ (fresh_statement a d l lb lc k (part l (labels_of a) (omega arith) (omega arith) out)) (fresh_statement b d (l + labels_of a) lb lc k (part (l + labels_of a) (labels_of b) (omega arith) (omega arith) out))
fresh_statement (If test a b) d l lb lc k out = lacks-append k (code test d (l + 2)) _ (fresh test d (l + 2) k (part (l + 2) (labels test) (omega arith) (omega arith) out))
    (lacks-append k (code_of b d (l + 2 + labels test) lb lc) _ (fresh_statement b d (l + 2 + labels test) lb lc k (part (l + 2 + labels test) (labels_of b) (omega arith) (omega arith) out)) (
      own l (omega arith) (omega arith) out,
      lacks-append k (code_of a d (l + 2 + labels test + labels_of b) lb lc) _ (fresh_statement a d (l + 2 + labels test + labels_of b) lb lc k (part (l + 2 + labels test + labels_of b) (labels_of a) (omega arith) (omega arith) out)) (own (l + 1) (omega arith) (omega arith) out, tt),
    ))
fresh_statement (While test body) d l lb lc k out = (
  own l (omega arith) (omega arith) out,
  lacks-append k (code test d (l + 3)) _ (fresh test d (l + 3) k (part (l + 3) (labels test) (omega arith) (omega arith) out)) (
    own (l + 2) (omega arith) (omega arith) out,
    lacks-append k (code_of body d (l + 3 + labels test) (l + 1) l) _ (fresh_statement body d (l + 3 + labels test) (l + 1) l k (part (l + 3 + labels test) (labels_of body) (omega arith) (omega arith) out)) (own (l + 1) (omega arith) (omega arith) out, tt),
  ),
)
fresh_statement (DoWhile body test) d l lb lc k out = (
  own l (omega arith) (omega arith) out,
  lacks-append k (code_of body d (l + 3 + labels test) (l + 1) (l + 2)) _ (fresh_statement body d (l + 3 + labels test) (l + 1) (l + 2) k (part (l + 3 + labels test) (labels_of body) (omega arith) (omega arith) out)) (
    own (l + 2) (omega arith) (omega arith) out,
    lacks-append k (code test d (l + 3)) _ (fresh test d (l + 3) k (part (l + 3) (labels test) (omega arith) (omega arith) out)) (own (l + 1) (omega arith) (omega arith) out, tt),
  ),
)
fresh_statement (For test step body) d l lb lc k out = (
  own l (omega arith) (omega arith) out,
  lacks-append k (code test d (l + 4)) _ (fresh test d (l + 4) k (part (l + 4) (labels test) (omega arith) (omega arith) out)) (
    own (l + 2) (omega arith) (omega arith) out,
    lacks-append k (code_of body d (l + 4 + labels test) (l + 1) (l + 3)) _ (fresh_statement body d (l + 4 + labels test) (l + 1) (l + 3) k (part (l + 4 + labels test) (labels_of body) (omega arith) (omega arith) out)) (
      own (l + 3) (omega arith) (omega arith) out,
      lacks-append k (code_effect step d (l + 4 + labels test + labels_of body)) _ (fresh_effect step d (l + 4 + labels test + labels_of body) k (part (l + 4 + labels test + labels_of body) (labels_effect step) (omega arith) (omega arith) out)) (own (l + 1) (omega arith) (omega arith) out, tt),
    ),
  ),
)
fresh_statement Break d l lb lc k out = tt
fresh_statement Continue d l lb lc k out = tt
fresh_statement Return d l lb lc k out = tt
fresh_statement (ReturnNumber e) d l lb lc k out = lacks-append k (code e d l) _ (fresh e d l k out) tt
fresh_statement (ReturnPtr p) d l lb lc k out = lacks-append k (code_ptr p d l) _ (fresh_ptr p d l k out) tt
