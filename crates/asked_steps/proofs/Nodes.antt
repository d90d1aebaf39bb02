-- The steps of a tree are few for each of its nodes.
use Rattle.std.proofs.Common.{ℕ, suc, ◌+◌, ◌*◌, ◌≤◌, Option, None, Some, List, [], ◌∷◌, ◌++◌, length, arith}
use Rattle.std.proofs.lemmas.List.{length-append}
use Rattle.mx_base.specs.declared.numbers.IntKind.{IntKind}
use Rattle.narrowing.specs.declared.member.Rule.{Rule}
use Rattle.fat_ir.specs.declared.step.FatStep.{FatStep}
use Rattle.bounds_plan.specs.meaning.Core.{NumberExpr, Word, Variable, Assign, Operate, Compare, Convert, AsNumber, Load, Store, Update, UpdateAt, And, Or, Choose, Call, Serve, Ask, PointerExpr, Null, FromInteger, Function, Object, InFrame, VariablePtr, AssignPtr, Member, Element, ElementAfter, LoadPtr, StorePtr, Advance, AdvanceAt, ChoosePtr, CallPtr, Alloc, SetBounds, NarrowBounds, CopyBounds, InitBounds, BoundOf, Arguments, NoMore, WithNumber, WithPointer, Scalar, Effect, Nothing, OfNumber as ForNumber, OfPointer as ForPointer, CopyStruct, Statement, Skip, Do, Then, If, While, DoWhile, For, Break, Continue, Return, ReturnNumber, ReturnPtr}
use Rattle.narrowing.specs.declared.member.Rule.TheVariants.{Keep, Meet}
use Rattle.bounds_plan.specs.steps.Code.{labels, labels_ptr, labels_of, ruled, code, code_ptr, codes, copied, copied_all, code_effect, code_of, arrivals, arrived, fat_function}
use Rattle.bounds_plan.specs.meaning.Functions.{Parameter, Private, Framed, FunctionOfC}
use Rattle.asked_steps.specs.Nodes.{nodes, nodes_ptr, nodes_all, nodes_effect, nodes_of, nodes_in}

sum : (a b : List FatStep) (m n k : ℕ) → length a ≤ m → length b ≤ n → m + n ≤ k → length (a ++ b) ≤ k
sum a b m n k h g le = let e = length-append a b in omega arith

one_next : (b : List FatStep) (n k : ℕ) → length b ≤ n → 1 + n ≤ k → suc (length b) ≤ k
one_next b n k h le = omega arith

two_next : (b : List FatStep) (n k : ℕ) → length b ≤ n → 2 + n ≤ k → suc (suc (length b)) ≤ k
two_next b n k h le = omega arith

three_next : (b : List FatStep) (n k : ℕ) → length b ≤ n → 3 + n ≤ k → suc (suc (suc (length b))) ≤ k
three_next b n k h le = omega arith

four_next : (b : List FatStep) (n k : ℕ) → length b ≤ n → 4 + n ≤ k → suc (suc (suc (suc (length b)))) ≤ k
four_next b n k h le = omega arith

rule_few : (rule : Rule) (d : ℕ) → length (ruled rule d) ≤ 5
rule_few Keep d = omega arith
rule_few (Meet offset size) d = omega arith

mutual
  number : (e : NumberExpr) (d l : ℕ) → length (code e d l) ≤ 9 * nodes e
  number (Word n) d l = omega arith
  number (Variable x) d l = omega arith
  number (Assign x e) d l = sum (code e d l) _ (9 * nodes e) (1) (9 * (1 + nodes e)) (number e d l) (omega arith) (omega arith)
  number (Operate op kind a b) d l = sum (code a d l) _ (9 * nodes a) (9 * nodes b + 1) (9 * (1 + nodes a + nodes b)) (number a d l) (sum (code b (d + 2) (l + labels a)) _ (9 * nodes b) (1) (9 * nodes b + 1) (number b (d + 2) (l + labels a)) (omega arith) (omega arith)) (omega arith)
  number (Compare op kind a b) d l = sum (code a d l) _ (9 * nodes a) (9 * nodes b + 1) (9 * (1 + nodes a + nodes b)) (number a d l) (sum (code b (d + 2) (l + labels a)) _ (9 * nodes b) (1) (9 * nodes b + 1) (number b (d + 2) (l + labels a)) (omega arith) (omega arith)) (omega arith)
  number (Convert kind e) d l = sum (code e d l) _ (9 * nodes e) (1) (9 * (1 + nodes e)) (number e d l) (omega arith) (omega arith)
  number (AsNumber p) d l = let h = address p d l in omega arith
  number (Load kind place p) d l = sum (code_ptr p d l) _ (9 * nodes_ptr p) (2) (9 * (1 + nodes_ptr p)) (address p d l) (omega arith) (omega arith)
  number (Store kind place p e) d l = sum (code_ptr p d l) _ (9 * nodes_ptr p) (9 * nodes e + 3) (9 * (1 + nodes_ptr p + nodes e)) (address p d l) (sum (code e (d + 2) (l + labels_ptr p)) _ (9 * nodes e) (3) (9 * nodes e + 3) (number e (d + 2) (l + labels_ptr p)) (omega arith) (omega arith)) (omega arith)
  number (Update x kind op common e old) d l = sum (code e d l) _ (9 * nodes e) (5) (9 * (1 + nodes e)) (number e d l) (omega arith) (omega arith)
  number (UpdateAt kind place p op common e old) d l = sum (code_ptr p d l) _ (9 * nodes_ptr p) (9 * nodes e + 7) (9 * (1 + nodes_ptr p + nodes e)) (address p d l) (sum (code e (d + 2) (l + labels_ptr p)) _ (9 * nodes e) (7) (9 * nodes e + 7) (number e (d + 2) (l + labels_ptr p)) (omega arith) (omega arith)) (omega arith)
  number (And a b) d l = sum (code a d (l + 3)) _ (9 * nodes a) (3 + 9 * nodes b + 5) (9 * (1 + nodes a + nodes b)) (number a d (l + 3)) (three_next _ (9 * nodes b + 5) (3 + 9 * nodes b + 5) (sum (code b d (l + 3 + labels a)) _ (9 * nodes b) (5) (9 * nodes b + 5) (number b d (l + 3 + labels a)) (omega arith) (omega arith)) (omega arith)) (omega arith)
  number (Or a b) d l = sum (code a d (l + 2)) _ (9 * nodes a) (1 + 9 * nodes b + 5) (9 * (1 + nodes a + nodes b)) (number a d (l + 2)) (one_next _ (9 * nodes b + 5) (1 + 9 * nodes b + 5) (sum (code b d (l + 2 + labels a)) _ (9 * nodes b) (5) (9 * nodes b + 5) (number b d (l + 2 + labels a)) (omega arith) (omega arith)) (omega arith)) (omega arith)
  number (Choose test a b) d l = sum (code test d (l + 2)) _ (9 * nodes test) (1 + 9 * nodes b + 2 + 9 * nodes a + 1) (9 * (1 + nodes test + nodes a + nodes b)) (number test d (l + 2)) (one_next _ (9 * nodes b + 2 + 9 * nodes a + 1) (1 + 9 * nodes b + 2 + 9 * nodes a + 1) (sum (code b d (l + 2 + labels test)) _ (9 * nodes b) (2 + 9 * nodes a + 1) (9 * nodes b + 2 + 9 * nodes a + 1) (number b d (l + 2 + labels test)) (two_next _ (9 * nodes a + 1) (2 + 9 * nodes a + 1) (sum (code a d (l + 2 + labels test + labels b)) _ (9 * nodes a) (1) (9 * nodes a + 1) (number a d (l + 2 + labels test + labels b)) (omega arith) (omega arith)) (omega arith)) (omega arith)) (omega arith)) (omega arith)
  number (Call symbol args) d l = sum (codes args d l) _ (9 * nodes_all args) (1) (9 * (1 + nodes_all args)) (arguments args d l) (omega arith) (omega arith)
  number (Serve service e) d l = sum (code e d l) _ (9 * nodes e) (1) (9 * (1 + nodes e)) (number e d l) (omega arith) (omega arith)
  number (Ask service) d l = omega arith

  address : (e : PointerExpr) (d l : ℕ) → length (code_ptr e d l) ≤ 9 * nodes_ptr e
  address Null d l = omega arith
  address (FromInteger e) d l = sum (code e d l) _ (9 * nodes e) (2) (9 * (1 + nodes e)) (number e d l) (omega arith) (omega arith)
  address (Function symbol) d l = omega arith
  address (Object symbol offset size) d l = omega arith
  address (InFrame offset size) d l = omega arith
  address (VariablePtr x) d l = omega arith
  address (AssignPtr x e) d l = sum (code_ptr e d l) _ (9 * nodes_ptr e) (2) (9 * (1 + nodes_ptr e)) (address e d l) (omega arith) (omega arith)
  address (Member offset rule p) d l = sum (code_ptr p d l) _ (9 * nodes_ptr p) (5 + 2) (9 * (1 + nodes_ptr p)) (address p d l) (sum (ruled rule d) _ (5) (2) (5 + 2) (rule_few rule d) (omega arith) (omega arith)) (omega arith)
  address (Element minus size p i) d l = sum (code_ptr p d l) _ (9 * nodes_ptr p) (9 * nodes i + 3) (9 * (1 + nodes_ptr p + nodes i)) (address p d l) (sum (code i (d + 2) (l + labels_ptr p)) _ (9 * nodes i) (3) (9 * nodes i + 3) (number i (d + 2) (l + labels_ptr p)) (omega arith) (omega arith)) (omega arith)
  address (ElementAfter size i p) d l = sum (code i d l) _ (9 * nodes i) (9 * nodes_ptr p + 4) (9 * (1 + nodes i + nodes_ptr p)) (number i d l) (sum (code_ptr p (d + 2) (l + labels i)) _ (9 * nodes_ptr p) (4) (9 * nodes_ptr p + 4) (address p (d + 2) (l + labels i)) (omega arith) (omega arith)) (omega arith)
  address (LoadPtr place p) d l = sum (code_ptr p d l) _ (9 * nodes_ptr p) (2) (9 * (1 + nodes_ptr p)) (address p d l) (omega arith) (omega arith)
  address (StorePtr place p e) d l = sum (code_ptr p d l) _ (9 * nodes_ptr p) (9 * nodes_ptr e + 4) (9 * (1 + nodes_ptr p + nodes_ptr e)) (address p d l) (sum (code_ptr e (d + 2) (l + labels_ptr p)) _ (9 * nodes_ptr e) (4) (9 * nodes_ptr e + 4) (address e (d + 2) (l + labels_ptr p)) (omega arith) (omega arith)) (omega arith)
  address (Advance x minus size i old) d l = sum (code i d l) _ (9 * nodes i) (7) (9 * (1 + nodes i)) (number i d l) (omega arith) (omega arith)
  address (AdvanceAt place p minus size i old) d l = sum (code_ptr p d l) _ (9 * nodes_ptr p) (9 * nodes i + 9) (9 * (1 + nodes_ptr p + nodes i)) (address p d l) (sum (code i (d + 2) (l + labels_ptr p)) _ (9 * nodes i) (9) (9 * nodes i + 9) (number i (d + 2) (l + labels_ptr p)) (omega arith) (omega arith)) (omega arith)
  address (ChoosePtr test a b) d l = sum (code test d (l + 2)) _ (9 * nodes test) (1 + 9 * nodes_ptr b + 2 + 9 * nodes_ptr a + 1) (9 * (1 + nodes test + nodes_ptr a + nodes_ptr b)) (number test d (l + 2)) (one_next _ (9 * nodes_ptr b + 2 + 9 * nodes_ptr a + 1) (1 + 9 * nodes_ptr b + 2 + 9 * nodes_ptr a + 1) (sum (code_ptr b d (l + 2 + labels test)) _ (9 * nodes_ptr b) (2 + 9 * nodes_ptr a + 1) (9 * nodes_ptr b + 2 + 9 * nodes_ptr a + 1) (address b d (l + 2 + labels test)) (two_next _ (9 * nodes_ptr a + 1) (2 + 9 * nodes_ptr a + 1) (sum (code_ptr a d (l + 2 + labels test + labels_ptr b)) _ (9 * nodes_ptr a) (1) (9 * nodes_ptr a + 1) (address a d (l + 2 + labels test + labels_ptr b)) (omega arith) (omega arith)) (omega arith)) (omega arith)) (omega arith)) (omega arith)
  address (CallPtr symbol args) d l = sum (codes args d l) _ (9 * nodes_all args) (1) (9 * (1 + nodes_all args)) (arguments args d l) (omega arith) (omega arith)
  address (Alloc e) d l = sum (code e d (l + 1)) _ (9 * nodes e) (6) (9 * (1 + nodes e)) (number e d (l + 1)) (omega arith) (omega arith)
  address (SetBounds q n) d l = sum (code_ptr q d l) _ (9 * nodes_ptr q) (9 * nodes n + 1) (9 * (1 + nodes_ptr q + nodes n)) (address q d l) (sum (code n (d + 2) (l + labels_ptr q)) _ (9 * nodes n) (1) (9 * nodes n + 1) (number n (d + 2) (l + labels_ptr q)) (omega arith) (omega arith)) (omega arith)
  address (NarrowBounds p q n) d l = sum (code_ptr p d l) _ (9 * nodes_ptr p) (9 * nodes_ptr q + 9 * nodes n + 2) (9 * (1 + nodes_ptr p + nodes_ptr q + nodes n)) (address p d l) (sum (code_ptr q (d + 2) (l + labels_ptr p)) _ (9 * nodes_ptr q) (9 * nodes n + 2) (9 * nodes_ptr q + 9 * nodes n + 2) (address q (d + 2) (l + labels_ptr p)) (sum (code n (d + 4) (l + labels_ptr p + labels_ptr q)) _ (9 * nodes n) (2) (9 * nodes n + 2) (number n (d + 4) (l + labels_ptr p + labels_ptr q)) (omega arith) (omega arith)) (omega arith)) (omega arith)
  address (CopyBounds q r) d l = sum (code_ptr q d l) _ (9 * nodes_ptr q) (9 * nodes_ptr r + 1) (9 * (1 + nodes_ptr q + nodes_ptr r)) (address q d l) (sum (code_ptr r (d + 2) (l + labels_ptr q)) _ (9 * nodes_ptr r) (1) (9 * nodes_ptr r + 1) (address r (d + 2) (l + labels_ptr q)) (omega arith) (omega arith)) (omega arith)
  address (InitBounds q) d l = sum (code_ptr q d l) _ (9 * nodes_ptr q) (2) (9 * (1 + nodes_ptr q)) (address q d l) (omega arith) (omega arith)
  address (BoundOf upper q) d l = sum (code_ptr q d l) _ (9 * nodes_ptr q) (1) (9 * (1 + nodes_ptr q)) (address q d l) (omega arith) (omega arith)

  arguments : (args : Arguments) (d l : ℕ) → length (codes args d l) ≤ 9 * nodes_all args
  arguments NoMore d l = omega arith
  arguments (WithNumber e rest) d l = sum (code e d l) _ (9 * nodes e) (9 * nodes_all rest) (9 * (nodes e + nodes_all rest)) (number e d l) (arguments rest (d + 2) (l + labels e)) (omega arith)
  arguments (WithPointer p rest) d l = sum (code_ptr p d l) _ (9 * nodes_ptr p) (9 * nodes_all rest) (9 * (nodes_ptr p + nodes_all rest)) (address p d l) (arguments rest (d + 2) (l + labels_ptr p)) (omega arith)

scalar_few : (kind : Option IntKind) (offset d : ℕ) → length (copied offset kind d) ≤ 6
scalar_few None offset d = omega arith
scalar_few (Some kind) offset d = omega arith

scalars_few : (scalars : List Scalar) (d : ℕ) → length (copied_all scalars d) ≤ 6 * length scalars
scalars_few [] d = omega arith
scalars_few (x ∷ rest) d = sum (copied x.offset x.kind d) _ 6 (6 * length rest) _ (scalar_few x.kind x.offset d) (scalars_few rest d) (omega arith)

effect : (e : Effect) (d l : ℕ) → length (code_effect e d l) ≤ 9 * nodes_effect e
effect Nothing d l = omega arith
effect (ForNumber e) d l = number e d l
effect (ForPointer p) d l = address p d l
effect (CopyStruct size scalars to_place to from_place from) d l = sum (code_ptr to d l) _ (9 * nodes_ptr to) (9 * nodes_ptr from + 4 + 6 * length scalars) (9 * (1 + length scalars + nodes_ptr to + nodes_ptr from)) (address to d l) (sum (code_ptr from (d + 2) (l + labels_ptr to)) _ (9 * nodes_ptr from) (4 + 6 * length scalars) (9 * nodes_ptr from + 4 + 6 * length scalars) (address from (d + 2) (l + labels_ptr to)) (four_next _ (6 * length scalars) (4 + 6 * length scalars) (scalars_few scalars d) (omega arith)) (omega arith)) (omega arith)

statement : (st : Statement) (d l lb lc : ℕ) → length (code_of st d l lb lc) ≤ 9 * nodes_of st
statement Skip d l lb lc = omega arith
statement (Do e) d l lb lc = let h = effect e d l in omega arith
statement (Then a b) d l lb lc = sum (code_of a d l lb lc) _ (9 * nodes_of a) (9 * nodes_of b) (9 * (1 + nodes_of a + nodes_of b)) (statement a d l lb lc) (statement b d (l + labels_of a) lb lc) (omega arith)
statement (If test a b) d l lb lc = sum (code test d (l + 2)) _ (9 * nodes test) (1 + 9 * nodes_of b + 2 + 9 * nodes_of a + 1) (9 * (1 + nodes test + nodes_of a + nodes_of b)) (number test d (l + 2)) (one_next _ (9 * nodes_of b + 2 + 9 * nodes_of a + 1) (1 + 9 * nodes_of b + 2 + 9 * nodes_of a + 1) (sum (code_of b d (l + 2 + labels test) lb lc) _ (9 * nodes_of b) (2 + 9 * nodes_of a + 1) (9 * nodes_of b + 2 + 9 * nodes_of a + 1) (statement b d (l + 2 + labels test) lb lc) (two_next _ (9 * nodes_of a + 1) (2 + 9 * nodes_of a + 1) (sum (code_of a d (l + 2 + labels test + labels_of b) lb lc) _ (9 * nodes_of a) (1) (9 * nodes_of a + 1) (statement a d (l + 2 + labels test + labels_of b) lb lc) (omega arith) (omega arith)) (omega arith)) (omega arith)) (omega arith)) (omega arith)
statement (While test body) d l lb lc = one_next _ (9 * nodes test + 3 + 9 * nodes_of body + 2) (9 * (1 + nodes test + nodes_of body)) (sum (code test d (l + 3)) _ (9 * nodes test) (3 + 9 * nodes_of body + 2) (9 * nodes test + 3 + 9 * nodes_of body + 2) (number test d (l + 3)) (three_next _ (9 * nodes_of body + 2) (3 + 9 * nodes_of body + 2) (sum (code_of body d (l + 3 + labels test) (l + 1) l) _ (9 * nodes_of body) (2) (9 * nodes_of body + 2) (statement body d (l + 3 + labels test) (l + 1) l) (omega arith) (omega arith)) (omega arith)) (omega arith)) (omega arith)
statement (DoWhile body test) d l lb lc = one_next _ (9 * nodes_of body + 1 + 9 * nodes test + 2) (9 * (1 + nodes_of body + nodes test)) (sum (code_of body d (l + 3 + labels test) (l + 1) (l + 2)) _ (9 * nodes_of body) (1 + 9 * nodes test + 2) (9 * nodes_of body + 1 + 9 * nodes test + 2) (statement body d (l + 3 + labels test) (l + 1) (l + 2)) (one_next _ (9 * nodes test + 2) (1 + 9 * nodes test + 2) (sum (code test d (l + 3)) _ (9 * nodes test) (2) (9 * nodes test + 2) (number test d (l + 3)) (omega arith) (omega arith)) (omega arith)) (omega arith)) (omega arith)
statement (For test step body) d l lb lc = one_next _ (9 * nodes test + 3 + 9 * nodes_of body + 1 + 9 * nodes_effect step + 2) (9 * (1 + nodes test + nodes_effect step + nodes_of body)) (sum (code test d (l + 4)) _ (9 * nodes test) (3 + 9 * nodes_of body + 1 + 9 * nodes_effect step + 2) (9 * nodes test + 3 + 9 * nodes_of body + 1 + 9 * nodes_effect step + 2) (number test d (l + 4)) (three_next _ (9 * nodes_of body + 1 + 9 * nodes_effect step + 2) (3 + 9 * nodes_of body + 1 + 9 * nodes_effect step + 2) (sum (code_of body d (l + 4 + labels test) (l + 1) (l + 3)) _ (9 * nodes_of body) (1 + 9 * nodes_effect step + 2) (9 * nodes_of body + 1 + 9 * nodes_effect step + 2) (statement body d (l + 4 + labels test) (l + 1) (l + 3)) (one_next _ (9 * nodes_effect step + 2) (1 + 9 * nodes_effect step + 2) (sum (code_effect step d (l + 4 + labels test + labels_of body)) _ (9 * nodes_effect step) (2) (9 * nodes_effect step + 2) (effect step d (l + 4 + labels test + labels_of body)) (omega arith) (omega arith)) (omega arith)) (omega arith)) (omega arith)) (omega arith)) (omega arith)
statement Break d l lb lc = omega arith
statement Continue d l lb lc = omega arith
statement Return d l lb lc = omega arith
statement (ReturnNumber e) d l lb lc = sum (code e d l) _ (9 * nodes e) (1) (9 * (1 + nodes e)) (number e d l) (omega arith) (omega arith)
statement (ReturnPtr p) d l lb lc = sum (code_ptr p d l) _ (9 * nodes_ptr p) (1) (9 * (1 + nodes_ptr p)) (address p d l) (omega arith) (omega arith)

arrive : (ps : List Parameter) (t d : ℕ) → length (arrivals ps t d) ≤ 9 * length ps
arrive [] t d = omega arith
arrive (Private x kind ∷ ps) t d = let h = arrive ps t d in omega arith
arrive (Framed offset (Some kind) ∷ ps) t d = let h = arrive ps (t + 1) d in omega arith
arrive (Framed offset None ∷ ps) t d = let h = arrive ps (t + 2) d in omega arith

pub function_few : (f : FunctionOfC) (name : ℕ) → length (fat_function name f).steps ≤ 9 * nodes_in f
function_few f name =
    let private = length f.privates in
    let base = private + length (arrived f.parameters) in
    sum (arrivals f.parameters private base) _ (9 * length f.parameters) (9 * nodes_of f.body + 1) (9 * (1 + length f.parameters + nodes_of f.body)) (arrive f.parameters private base)
    (sum (code_of f.body base 1 0 0) _ (9 * nodes_of f.body) 1 (9 * nodes_of f.body + 1) (statement f.body base 1 0 0) (omega arith) (omega arith)) (omega arith)
