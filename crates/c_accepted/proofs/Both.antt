-- Two facts of all that a function names, as one.
use Rattle.std.proofs.Common.{ℕ}
use Rattle.bounds_plan.specs.meaning.Core.{NumberExpr, Word, Variable, Assign, Operate, Compare, Convert, AsNumber, Load, Store, Update, UpdateAt, And, Or, Choose, Call, Serve, Ask, PointerExpr, Null, FromInteger, Function, Object, InFrame, VariablePtr, AssignPtr, Member, Element, ElementAfter, LoadPtr, StorePtr, Advance, AdvanceAt, ChoosePtr, CallPtr, Alloc, SetBounds, NarrowBounds, CopyBounds, InitBounds, BoundOf, Arguments, NoMore, WithNumber, WithPointer, Effect, Nothing, OfNumber as ForNumber, OfPointer as ForPointer, CopyStruct, Statement, Skip, Do, Then, If, While, DoWhile, For, Break, Continue, Return, ReturnNumber, ReturnPtr}
use Rattle.bounds_plan.specs.laws.Roots.{Names, NamesPtr, NamesAll, NamesEffect, NamesStatement}

module _ (S T U : ℕ → ℕ → ℕ → Type 0) (F G H : ℕ → ℕ → Type 0) (P Q R : ℕ → Type 0)
    (join_object : (symbol offset size : ℕ) → S symbol offset size → T symbol offset size → U symbol offset size) (join_framed : (offset size : ℕ) → F offset size → G offset size → H offset size) (join_private : (x : ℕ) → P x → Q x → R x) where
  mutual
    both_number : (x : NumberExpr) → Names S F P x → Names T G Q x → Names U H R x
    both_number (Word n) h k = tt
    both_number (Variable x) h k = tt
    both_number (Assign x e) h k = both_number e h k
    both_number (Operate op kind a b) h k = (both_number a h.0 k.0, both_number b h.1 k.1)
    both_number (Compare op kind a b) h k = (both_number a h.0 k.0, both_number b h.1 k.1)
    both_number (Convert kind e) h k = both_number e h k
    both_number (AsNumber p) h k = both_pointer p h k
    both_number (Load kind place p) h k = both_pointer p h k
    both_number (Store kind place p e) h k = (both_pointer p h.0 k.0, both_number e h.1 k.1)
    both_number (Update x kind op common e old) h k = both_number e h k
    both_number (UpdateAt kind place p op common e old) h k = (both_pointer p h.0 k.0, both_number e h.1 k.1)
    both_number (And a b) h k = (both_number a h.0 k.0, both_number b h.1 k.1)
    both_number (Or a b) h k = (both_number a h.0 k.0, both_number b h.1 k.1)
    both_number (Choose test a b) h k = (both_number test h.0 k.0, both_number a h.1 k.1, both_number b h.2 k.2)
    both_number (Call symbol args) h k = both_arguments args h k
    both_number (Serve service e) h k = both_number e h k
    both_number (Ask service) h k = tt

    both_pointer : (x : PointerExpr) → NamesPtr S F P x → NamesPtr T G Q x → NamesPtr U H R x
    both_pointer Null h k = tt
    both_pointer (FromInteger e) h k = both_number e h k
    both_pointer (Function symbol) h k = join_object symbol 0 1 h k
    both_pointer (Object symbol offset size) h k = join_object symbol offset size h k
    both_pointer (InFrame offset size) h k = join_framed offset size h k
    both_pointer (VariablePtr x) h k = join_private x h k
    both_pointer (AssignPtr x e) h k = (join_private x h.0 k.0, both_pointer e h.1 k.1)
    both_pointer (Member offset rule p) h k = both_pointer p h k
    both_pointer (Element minus size p i) h k = (both_pointer p h.0 k.0, both_number i h.1 k.1)
    both_pointer (ElementAfter size i p) h k = (both_number i h.0 k.0, both_pointer p h.1 k.1)
    both_pointer (LoadPtr place p) h k = both_pointer p h k
    both_pointer (StorePtr place p e) h k = (both_pointer p h.0 k.0, both_pointer e h.1 k.1)
    both_pointer (Advance x minus size i old) h k = (join_private x h.0 k.0, both_number i h.1 k.1)
    both_pointer (AdvanceAt place p minus size i old) h k = (both_pointer p h.0 k.0, both_number i h.1 k.1)
    both_pointer (ChoosePtr test a b) h k = (both_number test h.0 k.0, both_pointer a h.1 k.1, both_pointer b h.2 k.2)
    both_pointer (CallPtr symbol args) h k = both_arguments args h k
    both_pointer (Alloc e) h k = both_number e h k
    both_pointer (SetBounds q n) h k = (both_pointer q h.0 k.0, both_number n h.1 k.1)
    both_pointer (NarrowBounds p q n) h k = (both_pointer p h.0 k.0, both_pointer q h.1 k.1, both_number n h.2 k.2)
    both_pointer (CopyBounds q r) h k = (both_pointer q h.0 k.0, both_pointer r h.1 k.1)
    both_pointer (InitBounds q) h k = both_pointer q h k
    both_pointer (BoundOf upper q) h k = both_pointer q h k

    both_arguments : (x : Arguments) → NamesAll S F P x → NamesAll T G Q x → NamesAll U H R x
    both_arguments NoMore h k = tt
    both_arguments (WithNumber e rest) h k = (both_number e h.0 k.0, both_arguments rest h.1 k.1)
    both_arguments (WithPointer p rest) h k = (both_pointer p h.0 k.0, both_arguments rest h.1 k.1)

  both_effect : (x : Effect) → NamesEffect S F P x → NamesEffect T G Q x → NamesEffect U H R x
  both_effect Nothing h k = tt
  both_effect (ForNumber e) h k = both_number e h k
  both_effect (ForPointer p) h k = both_pointer p h k
  both_effect (CopyStruct size scalars to_place to from_place from) h k = (both_pointer to h.0 k.0, both_pointer from h.1 k.1)

  pub both_statement : (x : Statement) → NamesStatement S F P x → NamesStatement T G Q x → NamesStatement U H R x
  both_statement Skip h k = tt
  both_statement (Do e) h k = both_effect e h k
  both_statement (Then a b) h k = (both_statement a h.0 k.0, both_statement b h.1 k.1)
  both_statement (If test a b) h k = (both_number test h.0 k.0, both_statement a h.1 k.1, both_statement b h.2 k.2)
  both_statement (While test body) h k = (both_number test h.0 k.0, both_statement body h.1 k.1)
  both_statement (DoWhile body test) h k = (both_statement body h.0 k.0, both_number test h.1 k.1)
  both_statement (For test step body) h k = (both_number test h.0 k.0, both_effect step h.1 k.1, both_statement body h.2 k.2)
  both_statement Break h k = tt
  both_statement Continue h k = tt
  both_statement Return h k = tt
  both_statement (ReturnNumber e) h k = both_number e h k
  both_statement (ReturnPtr p) h k = both_pointer p h k
