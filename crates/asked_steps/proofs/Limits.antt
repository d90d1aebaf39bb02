-- The steps of a tree within the limits of code are within them.
use Rattle.std.proofs.Common.{◌≡◌, ℕ, suc, ◌+◌, ◌^◌, ◌<◌, ◌≤◌, Bool, Option, None, Some, List, [], ◌∷◌, ◌++◌, length, refl, arith, ap}
use Rattle.mx_base.specs.declared.numbers.IntKind.{IntKind}
use Rattle.mx_base.specs.declared.numbers.IntKind.TheVariants.{I8, U8, I16, U16, I32, U32, I64, U64}
use Rattle.mx_base.specs.Numbers.{size_of}
use Rattle.narrowing.specs.declared.member.Rule.{Rule}
use Rattle.narrowing.specs.declared.member.Rule.TheVariants.{Keep, Meet}
use Rattle.fat_ir.specs.declared.step.FatStep.{FatStep}
use Rattle.fat_ir.specs.declared.step.FatStep.TheVariants as s
use Rattle.fat_ir.specs.Step.{Located}
use Rattle.bounds_plan.specs.meaning.Core.{NumberExpr, Word, Variable, Assign, Operate, Compare, Convert, AsNumber, Load, Store, Update, UpdateAt, And, Or, Choose, Call, Serve, Ask, PointerExpr, Null, FromInteger, Function, Object, InFrame, VariablePtr, AssignPtr, Member, Element, ElementAfter, LoadPtr, StorePtr, Advance, AdvanceAt, ChoosePtr, CallPtr, Alloc, SetBounds, NarrowBounds, CopyBounds, InitBounds, BoundOf, Arguments, NoMore, WithNumber, WithPointer, Scalar, Effect, Nothing, OfNumber as ForNumber, OfPointer as ForPointer, CopyStruct, Statement, Skip, Do, Then, If, While, DoWhile, For, Break, Continue, Return, ReturnNumber, ReturnPtr}
use Rattle.bounds_plan.specs.steps.Code.{labels, labels_ptr, labels_of, arguments_at, ruled, code, code_ptr, codes, copied, copied_all, code_effect, code_of, arrivals, arrived, fat_function}
use Rattle.bounds_plan.specs.steps.Follows.{count}
use Rattle.bounds_plan.specs.meaning.Functions.{Parameter, Private, Framed, FunctionOfC}
use Rattle.asked_steps.specs.Alone.{AllLimited}
use Rattle.asked_steps.specs.Trees.{RuleWithin, ScalarsWithin, ParametersWithin, CallWithin, Within, WithinPtr, WithinAll, EffectWithin, StatementWithin, FunctionWithin}

size_fits : (kind : IntKind) → (1 ≤ size_of kind) × (size_of kind < 2 ^ 31)
size_fits I8 = (omega arith, omega arith)
size_fits U8 = (omega arith, omega arith)
size_fits I16 = (omega arith, omega arith)
size_fits U16 = (omega arith, omega arith)
size_fits I32 = (omega arith, omega arith)
size_fits U32 = (omega arith, omega arith)
size_fits I64 = (omega arith, omega arith)
size_fits U64 = (omega arith, omega arith)

pointer_fits : (1 ≤ 8) × (8 < 2 ^ 31)
pointer_fits = (omega arith, omega arith)

zero_fits : 0 < 2 ^ 64
zero_fits = omega arith

one_fits : 1 < 2 ^ 64
one_fits = omega arith

as_many : (args : Arguments) (d : ℕ) → length (arguments_at args d) ≡ count args
as_many NoMore d = refl
as_many (WithNumber e rest) d = ap (λ (n : ℕ). suc n) (as_many rest (d + 2))
as_many (WithPointer p rest) d = ap (λ (n : ℕ). suc n) (as_many rest (d + 2))

module _ (located : ℕ → Located) (pointer : Bool) (returns : ℕ → Bool) (takes : ℕ → List (ℕ × Option ℕ) → Bool) where
  abbrev All : List FatStep → Type 0
  All c = AllLimited located pointer returns takes c

  both : (a b : List FatStep) → All a → All b → All (a ++ b)
  both [] b h g = g
  both (x ∷ a) b h g = (h.0, both a b h.1 g)

  rule_fits : (rule : Rule) (d : ℕ) → RuleWithin rule → All (ruled rule d)
  rule_fits Keep d h = tt
  rule_fits (Meet offset size) d h = (h.0, (tt, (h.1, (tt, (tt, tt)))))

  few_arguments : (symbol : ℕ) (args : Arguments) (d : ℕ) → CallWithin located pointer returns takes symbol args → length (arguments_at args d) ≤ 6
  few_arguments symbol args d h = let e = as_many args d in let few = h.0 in omega arith

  abbrev N : NumberExpr → Type 0
  N e = Within located pointer returns takes e

  abbrev P : PointerExpr → Type 0
  P e = WithinPtr located pointer returns takes e

  mutual
    number : (e : NumberExpr) (d l : ℕ) → N e → All (code e d l)
    number (Word n) d l h = (h, tt)
    number (Variable x) d l h = (tt, tt)
    number (Assign x e) d l h = both (code e d l) _ (number e d l h) (tt, tt)
    number (Operate op kind a b) d l h = both (code a d l) _ (number a d l h.0) (both (code b (d + 2) (l + labels a)) _ (number b (d + 2) (l + labels a) h.1) (tt, tt))
    number (Compare op kind a b) d l h = both (code a d l) _ (number a d l h.0) (both (code b (d + 2) (l + labels a)) _ (number b (d + 2) (l + labels a) h.1) (tt, tt))
    number (Convert kind e) d l h = both (code e d l) _ (number e d l h) (tt, tt)
    number (AsNumber p) d l h = address p d l h
    number (Load kind place p) d l h = both (code_ptr p d l) _ (address p d l h) (size_fits kind, (tt, tt))
    number (Store kind place p e) d l h = both (code_ptr p d l) _ (address p d l h.0) (both (code e (d + 2) (l + labels_ptr p)) _ (number e (d + 2) (l + labels_ptr p) h.1) (size_fits kind, (tt, (tt, tt))))
    number (Update x kind op common e old) d l h = both (code e d l) _ (number e d l h) (tt, (tt, (tt, (tt, (tt, tt)))))
    number (UpdateAt kind place p op common e old) d l h =
        both (code_ptr p d l) _ (address p d l h.0) (both (code e (d + 2) (l + labels_ptr p)) _ (number e (d + 2) (l + labels_ptr p) h.1) (size_fits kind, (tt, (tt, (tt, (size_fits kind, (tt, (tt, tt))))))))
    number (And a b) d l h = both (code a d (l + 3)) _ (number a d (l + 3) h.0) (tt, (tt, (tt, both (code b d (l + 3 + labels a)) _ (number b d (l + 3 + labels a) h.1) (tt, (tt, (tt, (one_fits, (tt, tt))))))))
    number (Or a b) d l h = both (code a d (l + 2)) _ (number a d (l + 2) h.0) (tt, both (code b d (l + 2 + labels a)) _ (number b d (l + 2 + labels a) h.1) (tt, (tt, (tt, (one_fits, (tt, tt))))))
    number (Choose test a b) d l h =
        both (code test d (l + 2)) _ (number test d (l + 2) h.0)
        (tt, both (code b d (l + 2 + labels test)) _ (number b d (l + 2 + labels test) h.2) (tt, (tt, both (code a d (l + 2 + labels test + labels b)) _ (number a d (l + 2 + labels test + labels b) h.1) (tt, tt))))
    number (Call symbol args) d l h = both (codes args d l) _ (arguments args d l h.1) ((few_arguments symbol args d h.0, (λ none. absurd none), h.0.1 d), tt)
    number (Serve service e) d l h = both (code e d l) _ (number e d l h) (tt, tt)
    number (Ask service) d l h = (tt, tt)

    address : (e : PointerExpr) (d l : ℕ) → P e → All (code_ptr e d l)
    address Null d l h = (zero_fits, (tt, tt))
    address (FromInteger e) d l h = both (code e d l) _ (number e d l h) (zero_fits, (tt, tt))
    address (Function symbol) d l h = ((omega arith, omega arith, h), tt)
    address (Object symbol offset size) d l h = ((h.0.1, h.0.0, h.1), tt)
    address (InFrame offset size) d l h = ((h.1, h.0, tt), tt)
    address (VariablePtr x) d l h = (tt, (tt, tt))
    address (AssignPtr x e) d l h = both (code_ptr e d l) _ (address e d l h) (tt, (tt, tt))
    address (Member offset rule p) d l h = both (code_ptr p d l) _ (address p d l h.2) (both (ruled rule d) _ (rule_fits rule d h.1) (h.0, (tt, tt)))
    address (Element minus size p i) d l h = both (code_ptr p d l) _ (address p d l h.1) (both (code i (d + 2) (l + labels_ptr p)) _ (number i (d + 2) (l + labels_ptr p) h.2) (h.0, (tt, (tt, tt))))
    address (ElementAfter size i p) d l h = both (code i d l) _ (number i d l h.1) (both (code_ptr p (d + 2) (l + labels i)) _ (address p (d + 2) (l + labels i) h.2) (h.0, (tt, (tt, (tt, tt)))))
    address (LoadPtr place p) d l h = both (code_ptr p d l) _ (address p d l h) (pointer_fits, (tt, tt))
    address (StorePtr place p e) d l h = both (code_ptr p d l) _ (address p d l h.0) (both (code_ptr e (d + 2) (l + labels_ptr p)) _ (address e (d + 2) (l + labels_ptr p) h.1) (pointer_fits, (tt, (tt, (tt, tt)))))
    address (Advance x minus size i old) d l h = both (code i d l) _ (number i d l h.1) (h.0, (tt, (tt, (tt, (tt, (tt, (tt, tt)))))))
    address (AdvanceAt place p minus size i old) d l h =
        both (code_ptr p d l) _ (address p d l h.1) (both (code i (d + 2) (l + labels_ptr p)) _ (number i (d + 2) (l + labels_ptr p) h.2)
        (h.0, (tt, (pointer_fits, (tt, (tt, (pointer_fits, (tt, (tt, (tt, tt))))))))))
    address (ChoosePtr test a b) d l h =
        both (code test d (l + 2)) _ (number test d (l + 2) h.0)
        (tt, both (code_ptr b d (l + 2 + labels test)) _ (address b d (l + 2 + labels test) h.2) (tt, (tt, both (code_ptr a d (l + 2 + labels test + labels_ptr b)) _ (address a d (l + 2 + labels test + labels_ptr b) h.1) (tt, tt))))
    address (CallPtr symbol args) d l h = both (codes args d l) _ (arguments args d l h.1) ((few_arguments symbol args d h.0, (λ some. h.2), h.0.1 d), tt)
    address (Alloc e) d l h = both (code e d (l + 1)) _ (number e d (l + 1) h) (tt, (tt, (zero_fits, (tt, (tt, (tt, tt))))))
    address (SetBounds q n) d l h = both (code_ptr q d l) _ (address q d l h.0) (both (code n (d + 2) (l + labels_ptr q)) _ (number n (d + 2) (l + labels_ptr q) h.1) (tt, tt))
    address (NarrowBounds p q n) d l h =
        both (code_ptr p d l) _ (address p d l h.0) (both (code_ptr q (d + 2) (l + labels_ptr p)) _ (address q (d + 2) (l + labels_ptr p) h.1)
        (both (code n (d + 4) (l + labels_ptr p + labels_ptr q)) _ (number n (d + 4) (l + labels_ptr p + labels_ptr q) h.2) (tt, (tt, tt))))
    address (CopyBounds q r) d l h = both (code_ptr q d l) _ (address q d l h.0) (both (code_ptr r (d + 2) (l + labels_ptr q)) _ (address r (d + 2) (l + labels_ptr q) h.1) (tt, tt))
    address (InitBounds q) d l h = both (code_ptr q d l) _ (address q d l h) (zero_fits, (tt, tt))
    address (BoundOf upper q) d l h = both (code_ptr q d l) _ (address q d l h) (tt, tt)

    arguments : (args : Arguments) (d l : ℕ) → WithinAll located pointer returns takes args → All (codes args d l)
    arguments NoMore d l h = tt
    arguments (WithNumber e rest) d l h = both (code e d l) _ (number e d l h.0) (arguments rest (d + 2) (l + labels e) h.1)
    arguments (WithPointer p rest) d l h = both (code_ptr p d l) _ (address p d l h.0) (arguments rest (d + 2) (l + labels_ptr p) h.1)

  -- ---- effects and statements

  scalar_fits : (kind : Option IntKind) (offset d : ℕ) → offset < 2 ^ 64 → All (copied offset kind d)
  scalar_fits None offset d h = (h, (tt, (tt, (h, (tt, (tt, tt))))))
  scalar_fits (Some kind) offset d h = (h, (tt, (tt, (h, (tt, (tt, tt))))))

  scalars_fit : (scalars : List Scalar) (d : ℕ) → ScalarsWithin scalars → All (copied_all scalars d)
  scalars_fit [] d h = tt
  scalars_fit (x ∷ rest) d h = both (copied x.offset x.kind d) _ (scalar_fits x.kind x.offset d h.0) (scalars_fit rest d h.1)

  effect : (e : Effect) (d l : ℕ) → EffectWithin located pointer returns takes e → All (code_effect e d l)
  effect Nothing d l h = tt
  effect (ForNumber e) d l h = number e d l h
  effect (ForPointer p) d l h = address p d l h
  effect (CopyStruct size scalars to_place to from_place from) d l h =
      both (code_ptr to d l) _ (address to d l h.3) (both (code_ptr from (d + 2) (l + labels_ptr to)) _ (address from (d + 2) (l + labels_ptr to) h.4)
      (tt, ((h.0, h.1), (tt, ((h.0, h.1), scalars_fit scalars d h.2)))))

  statement : (st : Statement) (d l lb lc : ℕ) → StatementWithin located pointer returns takes st → All (code_of st d l lb lc)
  statement Skip d l lb lc h = tt
  statement (Do e) d l lb lc h = effect e d l h
  statement (Then a b) d l lb lc h = both (code_of a d l lb lc) _ (statement a d l lb lc h.0) (statement b d (l + labels_of a) lb lc h.1)
  statement (If test a b) d l lb lc h =
      let rest = s.Jump (l + 1) ∷ s.Label l ∷ (code_of a d (l + 2 + labels test + labels_of b) lb lc ++ (s.Label (l + 1) ∷ [])) in
      both (code test d (l + 2)) (s.JumpIf d l ∷ (code_of b d (l + 2 + labels test) lb lc ++ rest)) (number test d (l + 2) h.0)
      (tt, both (code_of b d (l + 2 + labels test) lb lc) rest (statement b d (l + 2 + labels test) lb lc h.2) (tt, (tt, both (code_of a d (l + 2 + labels test + labels_of b) lb lc) _ (statement a d (l + 2 + labels test + labels_of b) lb lc h.1) (tt, tt))))
  statement (While test body) d l lb lc h =
      (tt, both (code test d (l + 3)) _ (number test d (l + 3) h.0) (tt, (tt, (tt, both (code_of body d (l + 3 + labels test) (l + 1) l) _ (statement body d (l + 3 + labels test) (l + 1) l h.1) (tt, (tt, tt))))))
  statement (DoWhile body test) d l lb lc h =
      (tt, both (code_of body d (l + 3 + labels test) (l + 1) (l + 2)) _ (statement body d (l + 3 + labels test) (l + 1) (l + 2) h.0) (tt, both (code test d (l + 3)) _ (number test d (l + 3) h.1) (tt, (tt, tt))))
  statement (For test step body) d l lb lc h = (
    tt,
    both (code test d (l + 4)) _ (number test d (l + 4) h.0) (
      tt,
      (
        tt,
        (
          tt,
          both (code_of body d (l + 4 + labels test) (l + 1) (l + 3)) _ (statement body d (l + 4 + labels test) (l + 1) (l + 3) h.2)
              (tt, both (code_effect step d (l + 4 + labels test + labels_of body)) _ (effect step d (l + 4 + labels test + labels_of body) h.1) (tt, (tt, tt))),
        ),
      ),
    ),
  )
  statement Break d l lb lc h = (tt, tt)
  statement Continue d l lb lc h = (tt, tt)
  statement Return d l lb lc h = (tt, tt)
  statement (ReturnNumber e) d l lb lc h = both (code e d l) _ (number e d l h.1) (h.0, tt)
  statement (ReturnPtr p) d l lb lc h = both (code_ptr p d l) _ (address p d l h) (tt, tt)

  -- ---- functions

  arrive : (ps : List Parameter) (t d : ℕ) → ParametersWithin ps → All (arrivals ps t d)
  arrive [] t d h = tt
  arrive (Private x kind ∷ ps) t d h = arrive ps t d h
  arrive (Framed offset (Some kind) ∷ ps) t d h = (((size_fits kind).1, h.0, tt), (tt, arrive ps (t + 1) d h.1))
  arrive (Framed offset None ∷ ps) t d h = ((omega arith, h.0, tt), (tt, arrive ps (t + 2) d h.1))

  pub function_limited : (f : FunctionOfC) → FunctionWithin located pointer returns takes f → (name : ℕ) → All (fat_function name f).steps
  function_limited f h name =
      let private = length f.privates in
      let base = private + length (arrived f.parameters) in
      both (arrivals f.parameters private base) _ (arrive f.parameters private base h.parameters) (both (code_of f.body base 1 0 0) _ (statement f.body base 1 0 0 h.body) (tt, tt))
