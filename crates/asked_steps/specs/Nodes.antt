-- How many nodes a core tree has; each scalar of a struct that is copied counts as one, and each parameter of the frame.
use Rattle.std.specs.Prelude.{ℕ, ◌+◌, length}
use Rattle.bounds_plan.specs.meaning.Core.{NumberExpr, Word, Variable, Assign, Operate, Compare, Convert, AsNumber, Load, Store, Update, UpdateAt, And, Or, Choose, Call, Serve, Ask, PointerExpr, Null, FromInteger, Function, Object, InFrame, VariablePtr, AssignPtr, Member, Element, ElementAfter, LoadPtr, StorePtr, Advance, AdvanceAt, ChoosePtr, CallPtr, Alloc, SetBounds, NarrowBounds, CopyBounds, InitBounds, BoundOf, Arguments, NoMore, WithNumber, WithPointer, Effect, Nothing, OfNumber as ForNumber, OfPointer as ForPointer, CopyStruct, Statement, Skip, Do, Then, If, While, DoWhile, For, Break, Continue, Return, ReturnNumber, ReturnPtr}
use Rattle.bounds_plan.specs.meaning.Functions.{FunctionOfC}

abbrev mutual
  pub nodes : NumberExpr → ℕ
  nodes (Word n) = 1
  nodes (Variable x) = 1
  nodes (Assign x e) = 1 + nodes e
  nodes (Operate op kind a b) = 1 + nodes a + nodes b
  nodes (Compare op kind a b) = 1 + nodes a + nodes b
  nodes (Convert kind e) = 1 + nodes e
  nodes (AsNumber p) = 1 + nodes_ptr p
  nodes (Load kind place p) = 1 + nodes_ptr p
  nodes (Store kind place p e) = 1 + nodes_ptr p + nodes e
  nodes (Update x kind op common e old) = 1 + nodes e
  nodes (UpdateAt kind place p op common e old) = 1 + nodes_ptr p + nodes e
  nodes (And a b) = 1 + nodes a + nodes b
  nodes (Or a b) = 1 + nodes a + nodes b
  nodes (Choose test a b) = 1 + nodes test + nodes a + nodes b
  nodes (Call symbol args) = 1 + nodes_all args
  nodes (Serve service e) = 1 + nodes e
  nodes (Ask service) = 1

  pub nodes_ptr : PointerExpr → ℕ
  nodes_ptr Null = 1
  nodes_ptr (FromInteger e) = 1 + nodes e
  nodes_ptr (Function symbol) = 1
  nodes_ptr (Object symbol offset size) = 1
  nodes_ptr (InFrame offset size) = 1
  nodes_ptr (VariablePtr x) = 1
  nodes_ptr (AssignPtr x e) = 1 + nodes_ptr e
  nodes_ptr (Member offset rule p) = 1 + nodes_ptr p
  nodes_ptr (Element minus size p i) = 1 + nodes_ptr p + nodes i
  nodes_ptr (ElementAfter size i p) = 1 + nodes i + nodes_ptr p
  nodes_ptr (LoadPtr place p) = 1 + nodes_ptr p
  nodes_ptr (StorePtr place p e) = 1 + nodes_ptr p + nodes_ptr e
  nodes_ptr (Advance x minus size i old) = 1 + nodes i
  nodes_ptr (AdvanceAt place p minus size i old) = 1 + nodes_ptr p + nodes i
  nodes_ptr (ChoosePtr test a b) = 1 + nodes test + nodes_ptr a + nodes_ptr b
  nodes_ptr (CallPtr symbol args) = 1 + nodes_all args
  nodes_ptr (Alloc e) = 1 + nodes e
  nodes_ptr (SetBounds q n) = 1 + nodes_ptr q + nodes n
  nodes_ptr (NarrowBounds p q n) = 1 + nodes_ptr p + nodes_ptr q + nodes n
  nodes_ptr (CopyBounds q r) = 1 + nodes_ptr q + nodes_ptr r
  nodes_ptr (InitBounds q) = 1 + nodes_ptr q
  nodes_ptr (BoundOf upper q) = 1 + nodes_ptr q

  pub nodes_all : Arguments → ℕ
  nodes_all NoMore = 0
  nodes_all (WithNumber e rest) = nodes e + nodes_all rest
  nodes_all (WithPointer p rest) = nodes_ptr p + nodes_all rest

abbrev pub nodes_effect : Effect → ℕ
nodes_effect Nothing = 0
nodes_effect (ForNumber e) = nodes e
nodes_effect (ForPointer p) = nodes_ptr p
nodes_effect (CopyStruct size scalars to_place to from_place from) = 1 + length scalars + nodes_ptr to + nodes_ptr from

abbrev pub nodes_of : Statement → ℕ
nodes_of Skip = 1
nodes_of (Do e) = 1 + nodes_effect e
nodes_of (Then a b) = 1 + nodes_of a + nodes_of b
nodes_of (If test a b) = 1 + nodes test + nodes_of a + nodes_of b
nodes_of (While test body) = 1 + nodes test + nodes_of body
nodes_of (DoWhile body test) = 1 + nodes_of body + nodes test
nodes_of (For test step body) = 1 + nodes test + nodes_effect step + nodes_of body
nodes_of Break = 1
nodes_of Continue = 1
nodes_of Return = 1
nodes_of (ReturnNumber e) = 1 + nodes e
nodes_of (ReturnPtr p) = 1 + nodes_ptr p

-- a function is a node, beside its parameters and its body
abbrev pub nodes_in : FunctionOfC → ℕ
nodes_in f = 1 + length f.parameters + nodes_of f.body
