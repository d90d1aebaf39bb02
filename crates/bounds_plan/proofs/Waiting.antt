-- The core tree of an expression needs at most seven pairs of temporaries more than values wait in it.
use Rattle.std.proofs.Common.{◌≡◌, ℕ, zero, suc, ◌+◌, ◌-◌, ◌≤◌, max, not, Bool, true, false, refl, List, [], ◌∷◌, map, length, if◌then◌else◌, subst, arith}
use Rattle.std.specs.Prelude.{Option, None, Some, slice_get}
use Rattle.mx_base.specs.declared.numbers.IntKind.{IntKind}
use Rattle.mx_base.specs.declared.numbers.IntKind.TheVariants.{I32, I64, U64}
use Rattle.mx_base.specs.declared.places.Place.{Place}
use Rattle.mx_base.specs.declared.operators.Arithmetic.{Arithmetic}
use Rattle.mx_base.specs.declared.operators.Arithmetic.TheVariants.{Mul, Div, Rem, Add, Sub, Shl, Shr, BitAnd, BitXor, BitOr}
use Rattle.mx_base.specs.declared.operators.Comparison.{Comparison}
use Rattle.mx_base.specs.declared.services.CService.{CService}
use Rattle.mx_base.specs.declared.services.CService.TheVariants as in_c
use Rattle.narrowing.specs.declared.member.Rule.{Rule}
use Rattle.narrowing.specs.declared.member.Rule.TheVariants.{Keep, Meet}
use Rattle.c_tree.specs.Operators.{is_logical}
use Rattle.c_tree.specs.declared.operators.UnaryOp.{UnaryOp}
use Rattle.c_tree.specs.declared.operators.UnaryOp.TheVariants as u
use Rattle.c_tree.specs.declared.operators.Logical.TheVariants as l
use Rattle.c_tree.specs.declared.operators.BinaryOp.{BinaryOp}
use Rattle.c_tree.specs.declared.operators.BinaryOp.TheVariants as o
use Rattle.c_tree.specs.declared.tree.ExprKind.{ExprKind-F}
use Rattle.c_tree.specs.declared.tree.ExprKind.TheFolds as ef
use Rattle.c_tree.specs.declared.tree.ExprKind.TheOpen as e
use Rattle.c_tree.specs.declared.tree.Expr.{Expr, Expr-F, fold-Expr}
use Rattle.c_types.specs.Types.{CType, Void, StructType}
use Rattle.bounds_plan.specs.meaning.Core.{NumberExpr, Word, Convert, PointerExpr, Arguments}
use Rattle.bounds_plan.specs.steps.Sorts.{pairs, pairs_ptr, pairs_all, pairs_effect}
use Rattle.bounds_plan.specs.elaboration.Types.{Value, Numeric, Address, number_in, pointer_in, Sort, ANumber, APointer, AWhole, NoValue, sort_of, kind_of, size_in, step_in, promoted, common, done_in, keeps, converted, right_operand, wanted_pointer, given_as, given, cast_as}
use Rattle.c_check_rules.specs.declared.predeclared.Bind.{Bind}
use Rattle.c_check_rules.specs.declared.predeclared.Bind.TheVariants.{Global, Local, Fun, Service, Builtin as OfBounds}
use Rattle.c_check_rules.specs.declared.predeclared.Builtin.{Builtin}
use Rattle.c_check_rules.specs.declared.predeclared.Builtin.TheVariants as on_bounds
use Rattle.bounds_plan.specs.elaboration.Source.{Stand, Private, Frame, Reached, Signature, Around, kind_at, bind_at}
use Rattle.bounds_plan.specs.elaboration.Places.{Lvalue, NumberVariable, PointerVariable, InMemory, address_in, loaded_as, read_as, stored_as, written_as, changed_at, changed_as, variable_at, variable_of, private_values_of, element_at, under_rule}
use Rattle.bounds_plan.specs.elaboration.Expressions.{Found, Reading, effect_of, no_place, a_place, symbol_of, named, promoted_number, negative, inverse, is_zero, unary, arithmetic, compared, binary, chosen_as, assigned, struct_copied, assignment_effect, changed, assign_by, stepped_by, find_all, with_argument, arguments_for, called_as, argument_at, number_of_argument, pointer_of_argument, served, built_in, function_called, called, member, arrow, index_rule, index, step, expression}
use Rattle.bounds_plan.specs.elaboration.Waits.{waits_from, expr_waits, waits}
use Rattle.c_tree.proofs.Inductions.{ExprA, ExprB, bare_exprs, every_exprs, exprs_fused}

abbrev pub pairs_value : Value → ℕ
pairs_value (Numeric e) = pairs e
pairs_value (Address p) = pairs_ptr p

abbrev pub pairs_place : Lvalue → ℕ
pairs_place (NumberVariable x) = 1
pairs_place (PointerVariable x) = 1
pairs_place (InMemory p) = pairs_ptr p

-- ---- values and places

pub number_short : (n : ℕ) (v : Value) → pairs_value v ≤ n → pairs (number_in v) ≤ n
number_short n (Numeric e) h = h
number_short n (Address p) h = h

pointer_short : (n : ℕ) (v : Value) → 2 ≤ n → pairs_value v ≤ n → pairs_ptr (pointer_in v) ≤ n
pointer_short n (Numeric e) two h = omega arith
pointer_short n (Address p) two h = h

wanted_short : (n : ℕ) (v : Value) → 1 ≤ n → pairs_value v ≤ n → pairs_ptr (wanted_pointer v) ≤ n
wanted_short n (Numeric e) one h = one
wanted_short n (Address p) one h = h

pub effect_short : (n : ℕ) (v : Value) → pairs_value v ≤ n → pairs_effect (effect_of v) ≤ n
effect_short n (Numeric e) h = h
effect_short n (Address p) h = h

kept_short : (n : ℕ) (b : Bool) (to : IntKind) (e : NumberExpr) → pairs e ≤ n → pairs (if b then e else Convert to e) ≤ n
kept_short n true to e h = h
kept_short n false to e h = h

converted_short : (n : ℕ) (from to : IntKind) (e : NumberExpr) → pairs e ≤ n → pairs (converted from to e) ≤ n
converted_short n from to e h = kept_short n (keeps from to) to e h

right_short : (n : ℕ) (op : Arithmetic) (from to : IntKind) (e : NumberExpr) → pairs e ≤ n → pairs (right_operand op from to e) ≤ n
right_short n Mul from to e h = converted_short n from to e h
right_short n Div from to e h = converted_short n from to e h
right_short n Rem from to e h = converted_short n from to e h
right_short n Add from to e h = converted_short n from to e h
right_short n Sub from to e h = converted_short n from to e h
right_short n Shl from to e h = h
right_short n Shr from to e h = h
right_short n BitAnd from to e h = converted_short n from to e h
right_short n BitXor from to e h = converted_short n from to e h
right_short n BitOr from to e h = converted_short n from to e h

given_as_short : (n : ℕ) (sort : Sort) (from : CType) (v : Value) → 1 ≤ n → pairs_value v ≤ n → pairs_value (given_as sort from v) ≤ n
given_as_short n (ANumber kind) from v one h = converted_short n (kind_of from) kind (number_in v) (number_short n v h)
given_as_short n APointer from v one h = wanted_short n v one h
given_as_short n AWhole from v one h = h
given_as_short n NoValue from v one h = h

pub given_short : (n : ℕ) (to from : CType) (v : Value) → 1 ≤ n → pairs_value v ≤ n → pairs_value (given to from v) ≤ n
given_short n to from v one h = given_as_short n (sort_of to) from v one h

cast_short : (n : ℕ) (sort : Sort) (from : CType) (v : Value) → 2 ≤ n → pairs_value v ≤ n → pairs_value (cast_as sort from v) ≤ n
cast_short n (ANumber kind) from v two h = converted_short n (kind_of from) kind (number_in v) (number_short n v h)
cast_short n APointer from v two h = pointer_short n v two h
cast_short n AWhole from v two h = h
cast_short n NoValue from v two h = h

pub address_short : (n : ℕ) (l : Lvalue) → 1 ≤ n → pairs_place l ≤ n → pairs_ptr (address_in l) ≤ n
address_short n (NumberVariable x) one h = one
address_short n (PointerVariable x) one h = one
address_short n (InMemory p) one h = h

loaded_short : (n : ℕ) (sort : Sort) (place : Place) (p : PointerExpr) → pairs_ptr p ≤ n → pairs_value (loaded_as sort place p) ≤ n
loaded_short n (ANumber kind) place p h = h
loaded_short n APointer place p h = h
loaded_short n AWhole place p h = h
loaded_short n NoValue place p h = h

read_short : (n : ℕ) (sort : Sort) (place : Place) (l : Lvalue) → pairs_place l ≤ n → pairs_value (read_as sort place l) ≤ n
read_short n sort place (NumberVariable x) h = h
read_short n sort place (PointerVariable x) h = h
read_short n sort place (InMemory p) h = loaded_short n sort place p h

stored_short : (n : ℕ) (sort : Sort) (place : Place) (p : PointerExpr) (v : Value) → 2 ≤ n → pairs_ptr p ≤ n + 1 → pairs_value v ≤ n → pairs_value (stored_as sort place p v) ≤ n + 1
stored_short n (ANumber kind) place p v two h k = omega (arith, number_short n v k)
stored_short n APointer place p v two h k = omega (arith, pointer_short n v two k)
stored_short n AWhole place p v two h k = h
stored_short n NoValue place p v two h k = h

pub written_short : (n : ℕ) (sort : Sort) (place : Place) (l : Lvalue) (v : Value) → 2 ≤ n → pairs_place l ≤ n + 1 → pairs_value v ≤ n → pairs_value (written_as sort place l v) ≤ n + 1
written_short n sort place (NumberVariable x) v two h k = omega (arith, number_short n v k)
written_short n sort place (PointerVariable x) v two h k = omega (arith, pointer_short n v two k)
written_short n sort place (InMemory p) v two h k = stored_short n sort place p v two h k

changed_at_short : (n : ℕ) (sort : Sort) (place : Place) (p : PointerExpr) (op : Arithmetic) (from : IntKind) (size : ℕ) (e : NumberExpr) (old : Bool) → 2 ≤ n → pairs_ptr p ≤ n + 1 → pairs e ≤ n → pairs_value (changed_at sort place p op from size e old) ≤ n + 1
changed_at_short n (ANumber kind) place p op from size e old two h k = omega (arith, right_short n op from (done_in op kind from) e k)
changed_at_short n APointer place p op from size e old two h k = omega arith
changed_at_short n AWhole place p op from size e old two h k = h
changed_at_short n NoValue place p op from size e old two h k = h

changed_as_short : (n : ℕ) (kind : IntKind) (sort : Sort) (place : Place) (l : Lvalue) (op : Arithmetic) (from : IntKind) (size : ℕ) (e : NumberExpr) (old : Bool) → 2 ≤ n → pairs_place l ≤ n + 1 → pairs e ≤ n → pairs_value (changed_as kind sort place l op from size e old) ≤ n + 1
changed_as_short n kind sort place (NumberVariable x) op from size e old two h k = omega (arith, right_short n op from (done_in op kind from) e k)
changed_as_short n kind sort place (PointerVariable x) op from size e old two h k = omega arith
changed_as_short n kind sort place (InMemory p) op from size e old two h k = changed_at_short n sort place p op from size e old two h k

variable_short : (sort : Sort) (s : Stand) (x size : ℕ) → pairs_place (variable_at sort s x size) ≤ 1
variable_short (ANumber kind) Private x size = omega arith
variable_short APointer Private x size = omega arith
variable_short AWhole Private x size = omega arith
variable_short NoValue Private x size = omega arith
variable_short (ANumber kind) (Frame offset) x size = omega arith
variable_short APointer (Frame offset) x size = omega arith
variable_short AWhole (Frame offset) x size = omega arith
variable_short NoValue (Frame offset) x size = omega arith

pub variables_short : (structs : List StructType) (ts : List CType) (ss : List Stand) (x number : ℕ) → pairs_place (variable_of structs ts ss x number) ≤ 1
variables_short structs [] ss x number = omega arith
variables_short structs (t ∷ ts) [] x number = omega arith
variables_short structs (t ∷ ts) (s ∷ ss) x zero = variable_short (sort_of t) s x _
variables_short structs (t ∷ ts) (s ∷ ss) x (suc n) = variables_short structs ts ss (x + length (private_values_of (sort_of t) s)) n

-- ---- what is found, where so many values wait in it

pub record Short (w : ℕ) (f : Found) : Type 0 where
  pub value : pairs_value f.value ≤ w + 7
  pub lvalue : pairs_place f.lvalue ≤ w + 7
  pub effect : pairs_effect f.effect ≤ w + 7

-- no function has more than six parameters
abbrev pub Few : Around → Type 0
Few around = (number : ℕ) (s : Signature) → slice_get around.signatures number ≡ Some s → length s.parameters ≤ 6

abbrev pub Brief : Reading × ℕ → Type 0
Brief b = (around : Around) → Few around → (r : Reached) → Short b.1 (b.0 around r)

abbrev pub BriefAt : (Place → Reading) × ℕ → Type 0
BriefAt a = (place : Place) → Brief (a.0 place, a.1)

no_place_short : (w : ℕ) (type : CType) (v : Value) (place : Place) (after : Reached) → pairs_value v ≤ w + 7 → Short w (no_place type v place after)
no_place_short w type v place after h = record { value = h; lvalue = pointer_short (w + 7) v (omega arith) h; effect = effect_short (w + 7) v h }

a_place_short : (w : ℕ) (type : CType) (l : Lvalue) (place : Place) (after : Reached) → pairs_place l ≤ w + 7 → Short w (a_place type l place after)
a_place_short w type l place after h = record { value = read_short (w + 7) (sort_of type) place l h; lvalue = h; effect = effect_short (w + 7) (read_as (sort_of type) place l) (read_short (w + 7) (sort_of type) place l h) }

named_short : (w : ℕ) (around : Around) (type : CType) (m : Bind) (place : Place) (after : Reached) → Short w (named around type m place after)
named_short w around type (Global number) place after = a_place_short w type _ place after (omega arith)
named_short w around type (Local number) place after = a_place_short w type (variable_of around.structs around.variables around.stands 0 number) place after (omega (arith, variables_short around.structs around.variables around.stands 0 number))
named_short w around type (Fun number) place after = no_place_short w type _ place after (omega arith)
named_short w around type (Service service) place after = no_place_short w type _ place after (omega arith)
named_short w around type (OfBounds builtin) place after = no_place_short w type _ place after (omega arith)

-- ---- operators

promoted_short : (n : ℕ) (a : Found) → pairs_value a.value ≤ n → pairs (promoted_number a) ≤ n
promoted_short n a h = converted_short n (kind_of a.type) (promoted (kind_of a.type)) (number_in a.value) (number_short n a.value h)

unary_short : (w : ℕ) (op : UnaryOp) (type : CType) (a : Found) (place : Place) (after : Reached) → Short w a → Short w (unary op type a place after)
unary_short w u.Neg type a place after h = no_place_short w type (Numeric (negative a)) place after (omega (arith, promoted_short (w + 7) a h.value))
unary_short w u.BitNot type a place after h = no_place_short w type (Numeric (inverse a)) place after (omega (arith, promoted_short (w + 7) a h.value))
unary_short w u.Not type a place after h = no_place_short w type (Numeric (is_zero a)) place after (omega (arith, number_short (w + 7) a.value h.value))
unary_short w u.Deref type a place after h = a_place_short w type (InMemory (pointer_in a.value)) place after (pointer_short (w + 7) a.value (omega arith) h.value)
unary_short w u.AddressOf type a place after h = no_place_short w type (Address (address_in a.lvalue)) place after (address_short (w + 7) a.lvalue (omega arith) h.lvalue)

arithmetic_short : (n : ℕ) (structs : List StructType) (op : Arithmetic) (s t : CType) (v u : Value) → 2 ≤ n → pairs_value v ≤ n + 1 → pairs_value u ≤ n → pairs_value (arithmetic structs op s t v u) ≤ n + 1
arithmetic_short n structs op s t (Numeric a) (Numeric b) two h k = omega (arith, converted_short (n + 1) (kind_of s) (done_in op (kind_of s) (kind_of t)) a h, right_short n op (kind_of t) (done_in op (kind_of s) (kind_of t)) b k)
arithmetic_short n structs op s t (Address p) (Numeric i) two h k = omega arith
arithmetic_short n structs op s t (Numeric i) (Address p) two h k = omega arith
arithmetic_short n structs op s t (Address p) (Address q) two h k = omega arith

compared_short : (n : ℕ) (op : Comparison) (ka kb : IntKind) (v u : Value) → pairs_value v ≤ n + 1 → pairs_value u ≤ n → pairs (compared op ka kb v u) ≤ n + 1
compared_short n op ka kb (Numeric a) (Numeric b) h k = omega (arith, converted_short (n + 1) ka (common ka kb) a h, converted_short n kb (common ka kb) b k)
compared_short n op ka kb (Address p) (Numeric b) h k = omega arith
compared_short n op ka kb (Numeric a) (Address q) h k = omega arith
compared_short n op ka kb (Address p) (Address q) h k = omega arith

chosen_short : (n : ℕ) (sort : Sort) (c a b : Found) → 1 ≤ n → pairs_value c.value ≤ n → pairs_value a.value ≤ n → pairs_value b.value ≤ n → pairs_value (chosen_as sort c a b) ≤ n
chosen_short n (ANumber kind) c a b one h k l = omega (arith, number_short n c.value h, converted_short n (kind_of a.type) kind (number_in a.value) (number_short n a.value k), converted_short n (kind_of b.type) kind (number_in b.value) (number_short n b.value l))
chosen_short n APointer c a b one h k l = omega (arith, number_short n c.value h, wanted_short n a.value one k, wanted_short n b.value one l)
chosen_short n AWhole c a b one h k l = omega (arith, number_short n c.value h, wanted_short n a.value one k, wanted_short n b.value one l)
chosen_short n NoValue c a b one h k l = omega (arith, number_short n c.value h, wanted_short n a.value one k, wanted_short n b.value one l)

-- ---- assignments

assigned_short : (n : ℕ) (a b : Found) → 2 ≤ n → pairs_place a.lvalue ≤ n + 1 → pairs_value b.value ≤ n → pairs_value (assigned a b) ≤ n + 1
assigned_short n a b two h k = written_short n (sort_of a.type) a.place a.lvalue (given a.type b.type b.value) two h (given_short n a.type b.type b.value (omega arith) k)

pub copied_short : (n : ℕ) (structs : List StructType) (type : CType) (l : Lvalue) (to : Place) (b : Found) → 3 ≤ n → pairs_place l ≤ n + 1 → pairs_place b.lvalue ≤ n → pairs_effect (struct_copied structs type l to b) ≤ n + 1
copied_short n structs type l to b three h k = omega (arith, address_short (n + 1) l (omega arith) h, address_short n b.lvalue (omega arith) k)

assignment_effect_short : (n : ℕ) (sort : Sort) (structs : List StructType) (a b : Found) → 3 ≤ n → pairs_place a.lvalue ≤ n + 1 → pairs_value b.value ≤ n → pairs_place b.lvalue ≤ n → pairs_effect (assignment_effect sort structs a b) ≤ n + 1
assignment_effect_short n (ANumber kind) structs a b three h k l = effect_short (n + 1) (assigned a b) (assigned_short n a b (omega arith) h k)
assignment_effect_short n APointer structs a b three h k l = effect_short (n + 1) (assigned a b) (assigned_short n a b (omega arith) h k)
assignment_effect_short n AWhole structs a b three h k l = copied_short n structs a.type a.lvalue a.place b three h l
assignment_effect_short n NoValue structs a b three h k l = effect_short (n + 1) (assigned a b) (assigned_short n a b (omega arith) h k)

assign_short : (v u : ℕ) (op : Option Arithmetic) (around : Around) (a b : Found) (place : Place) (after : Reached) → Short v a → Short u b → Short (max v (u + 1)) (assign_by op around a b place after)
assign_short v u None around a b place after h k = let n : ℕ = max v (u + 1) + 6 in let e : n + 1 ≡ max v (u + 1) + 7 = omega arith in
    let x : pairs_value (assigned a b) ≤ max v (u + 1) + 7 = omega (arith, assigned_short n a b (omega arith) (omega (arith, h.lvalue)) (omega (arith, k.value))) in record {
      value = x;
      lvalue = pointer_short (max v (u + 1) + 7) (assigned a b) (omega arith) x;
      effect = omega (arith, assignment_effect_short n (sort_of a.type) around.structs a b (omega arith) (omega (arith, h.lvalue)) (omega (arith, k.value)) (omega (arith, k.lvalue)));
    }
assign_short v u (Some op) around a b place after h k = let n : ℕ = max v (u + 1) + 6 in
    no_place_short (max v (u + 1)) a.type (changed around.structs op a (kind_of b.type) (number_in b.value) false) place after
    (omega (arith, changed_as_short n (kind_of a.type) (sort_of a.type) a.place a.lvalue op (kind_of b.type) (step_in around.structs a.type) (number_in b.value) false (omega arith) (omega (arith, h.lvalue)) (number_short n b.value (omega (arith, k.value)))))

stepped_short : (w : ℕ) (around : Around) (up before : Bool) (a : Found) (place : Place) (after : Reached) → Short w a → Short w (stepped_by around up before a place after)
stepped_short w around up before a place after h = no_place_short w a.type _ place after
    (omega (arith, changed_as_short (w + 6) (kind_of a.type) (sort_of a.type) a.place a.lvalue (if up then Add else Sub) I32 (step_in around.structs a.type) (Word 1) (not before) (omega arith) (omega (arith, h.lvalue)) (omega arith)))

-- ---- operators on two operands

-- an operator that is not `&&` or `||` has its left operand wait
binary_short : (op : BinaryOp) (v u : ℕ) (around : Around) (a b : Found) → Short v a → Short u b
    → pairs_value (binary op around a b) ≤ (if is_logical op then max v u else max v (u + 1)) + 7
binary_short (o.Arithmetic op) v u around a b h k = let n : ℕ = max v (u + 1) + 6 in
    omega (arith, arithmetic_short n around.structs op a.type b.type a.value b.value (omega arith) (omega (arith, h.value)) (omega (arith, k.value)))
binary_short (o.Comparison op) v u around a b h k = let n : ℕ = max v (u + 1) + 6 in
    omega (arith, compared_short n op (kind_of a.type) (kind_of b.type) a.value b.value (omega (arith, h.value)) (omega (arith, k.value)))
binary_short (o.Logical l.And) v u around a b h k = let n : ℕ = max v u + 7 in
    omega (arith, number_short n a.value (omega (arith, h.value)), number_short n b.value (omega (arith, k.value)))
binary_short (o.Logical l.Or) v u around a b h k = let n : ℕ = max v u + 7 in
    omega (arith, number_short n a.value (omega (arith, h.value)), number_short n b.value (omega (arith, k.value)))

-- ---- calls

pub AllShort : (k w : ℕ) → List Found → Type 0
AllShort k w [] = Unit {0}
AllShort k w (f ∷ more) = (pairs_value f.value + k ≤ w + 7) × AllShort (k + 1) w more

more_short : (k w u : ℕ) (all : List Found) → w ≤ u → AllShort k w all → AllShort k u all
unfolding AllShort
more_short k w u [] le h = tt
more_short k w u (f ∷ more) le h = let a = h.0 in (omega arith, more_short (k + 1) w u more le h.1)

found_all_short : (k : ℕ) (all : List ((b : Reading × ℕ) × Brief b)) (around : Around) → Few around → (r : Reached) → AllShort k (waits_from k (map (λ b. b.1) (map (λ y. y.0) all))) (find_all (map (λ b. b.0) (map (λ y. y.0) all)) around r).all
unfolding AllShort
found_all_short k [] around few r = tt
found_all_short k (x ∷ more) around few r = let rest = waits_from (k + 1) (map (λ b. b.1) (map (λ y. y.0) more)) in let h = (x.1 around few r).value in
    (omega arith, more_short (k + 1) rest (max (x.0.1 + k) rest) _ (omega arith) (found_all_short (k + 1) more around few (x.0.0 around r).after))

with_pairs : (v : Value) (rest : Arguments) → pairs_all (with_argument v rest) ≡ max (pairs_value v) (1 + pairs_all rest)
with_pairs (Numeric e) rest = refl
with_pairs (Address p) rest = refl

arguments_short : (types : List CType) (all : List Found) (k w : ℕ) → k + length types ≤ 6 → AllShort k w all → k + pairs_all (arguments_for types all) ≤ w + 7
unfolding AllShort
arguments_short [] all k w few h = omega arith
arguments_short (t ∷ ts) [] k w few h = let rest = arguments_for ts [] in let below : (k + 1) + length ts ≤ 6 = omega arith in
    omega (arith, with_pairs (given t Void (Numeric (Word 0))) rest, given_short 1 t Void (Numeric (Word 0)) (omega arith) (omega arith), arguments_short ts [] (k + 1) w below tt)
arguments_short (t ∷ ts) (a ∷ more) k w few h = let rest = arguments_for ts more in let below : (k + 1) + length ts ≤ 6 = omega arith in let n : ℕ = (w + 7) - k in let a0 = h.0 in let le : pairs_value a.value ≤ n = omega arith in
    omega (arith, with_pairs (given t a.type a.value) rest, given_short n t a.type a.value (omega arith) le, arguments_short ts more (k + 1) w below h.1)

called_as_short : (n : ℕ) (sort : Sort) (symbol : ℕ) (args : Arguments) → 1 ≤ n → pairs_all args ≤ n → pairs_value (called_as sort symbol args) ≤ n
called_as_short n (ANumber kind) symbol args one h = omega arith
called_as_short n APointer symbol args one h = omega arith
called_as_short n AWhole symbol args one h = omega arith
called_as_short n NoValue symbol args one h = omega arith

function_called_short : (w : ℕ) (around : Around) (type : CType) (number : ℕ) (o : Option Signature) (all : List Found) → ((s : Signature) → o ≡ Some s → length s.parameters ≤ 6) → AllShort 0 w all → pairs_value (function_called around type number o all) ≤ w + 7
function_called_short w around type number None all few h = omega arith
function_called_short w around type number (Some s) all few h = called_as_short (w + 7) (sort_of type) (symbol_of around number) (arguments_for s.parameters all) (omega arith)
    (omega (arith, arguments_short s.parameters all 0 w (omega (arith, few s refl)) h))

argument_short : (n : ℕ) (all : List Found) (k w : ℕ) → k + n ≤ 6 → AllShort k w all → pairs_value (argument_at n all).value + (k + n) ≤ w + 7
unfolding AllShort
argument_short n [] k w few h = omega arith
argument_short zero (a ∷ more) k w few h = let a0 = h.0 in omega arith
argument_short (suc n) (a ∷ more) k w few h = omega (arith, argument_short n more (k + 1) w (omega arith) h.1)

number_argument_short : (kind : IntKind) (n : ℕ) (all : List Found) (w : ℕ) → n ≤ 6 → AllShort 0 w all → pairs (number_of_argument kind n all) + n ≤ w + 7
number_argument_short kind n all w few h = let a = argument_short n all 0 w (omega arith) h in let m : ℕ = (w + 7) - n in
    omega (arith, converted_short m (kind_of (argument_at n all).type) kind (number_in (argument_at n all).value) (number_short m (argument_at n all).value (omega arith)))

pointer_argument_short : (n : ℕ) (all : List Found) (w : ℕ) → n ≤ 6 → AllShort 0 w all → pairs_ptr (pointer_of_argument n all) + n ≤ w + 7
pointer_argument_short n all w few h = let a = argument_short n all 0 w (omega arith) h in let m : ℕ = (w + 7) - n in
    omega (arith, wanted_short m (argument_at n all).value (omega arith) (omega arith))

served_short : (w : ℕ) (service : CService) (all : List Found) → AllShort 0 w all → pairs_value (served service all) ≤ w + 7
served_short w in_c.Print all h = omega (arith, number_argument_short I64 0 all w (omega arith) h)
served_short w in_c.Put all h = omega (arith, number_argument_short I32 0 all w (omega arith) h)
served_short w in_c.Get all h = omega arith
served_short w in_c.Alloc all h = omega (arith, number_argument_short U64 0 all w (omega arith) h)
served_short w in_c.Free all h = omega (arith, pointer_argument_short 0 all w (omega arith) h)
served_short w in_c.Exit all h = omega (arith, number_argument_short I32 0 all w (omega arith) h)

built_in_short : (w : ℕ) (builtin : Builtin) (all : List Found) → AllShort 0 w all → pairs_ptr (built_in builtin all) ≤ w + 7
built_in_short w on_bounds.SetBounds all h = omega (arith, pointer_argument_short 0 all w (omega arith) h, number_argument_short U64 1 all w (omega arith) h)
built_in_short w on_bounds.NarrowBounds all h = omega (arith, pointer_argument_short 0 all w (omega arith) h, pointer_argument_short 1 all w (omega arith) h, number_argument_short U64 2 all w (omega arith) h)
built_in_short w on_bounds.CopyBounds all h = omega (arith, pointer_argument_short 0 all w (omega arith) h, pointer_argument_short 1 all w (omega arith) h)
built_in_short w on_bounds.InitBounds all h = omega (arith, pointer_argument_short 0 all w (omega arith) h)
built_in_short w on_bounds.LowerBound all h = omega (arith, pointer_argument_short 0 all w (omega arith) h)
built_in_short w on_bounds.UpperBound all h = omega (arith, pointer_argument_short 0 all w (omega arith) h)

called_short : (w : ℕ) (around : Around) → Few around → (type : CType) (m : Bind) (all : List Found) → AllShort 0 w all → pairs_value (called around type m all) ≤ w + 7
called_short w around few type (Fun number) all h = function_called_short w around type number (slice_get around.signatures number) all (few number) h
called_short w around few type (Service service) all h = served_short w service all h
called_short w around few type (OfBounds builtin) all h = built_in_short w builtin all h
called_short w around few type (Global number) all h = omega arith
called_short w around few type (Local number) all h = omega arith

-- ---- elements

rule_short : (n : ℕ) (rule : Rule) (p : PointerExpr) → 3 ≤ n → pairs_ptr p ≤ n → pairs_ptr (under_rule rule p) ≤ n
rule_short n Keep p three h = h
rule_short n (Meet offset size) p three h = omega arith

-- ---- expressions: what is found of them beside how many values wait
abbrev ReadA : Type 0
ReadA = (Place → Reading) × ℕ

abbrev ReadB : Type 0
ReadB = Reading × ℕ

abbrev step_both : ExprKind-F ReadA ReadB → ReadA
step_both y = (step (ef.map-ExprKind ReadA ReadB (Place → Reading) Reading (λ a. a.0) (λ b. b.0) y), expr_waits (ef.map-ExprKind ReadA ReadB ℕ ℕ (λ a. a.1) (λ b. b.1) y))

abbrev struct_both : Expr-F ReadA ReadB → ReadB
struct_both x = (x.kind.0 x.place, x.kind.1)

abbrev bare : ExprKind-F (ExprA ReadA ReadB step_both struct_both BriefAt Brief) (ExprB ReadA ReadB step_both struct_both BriefAt Brief) → ExprKind-F ReadA ReadB
bare = bare_exprs ReadA ReadB step_both struct_both BriefAt Brief

step_short : (y : ExprKind-F (ExprA ReadA ReadB step_both struct_both BriefAt Brief) (ExprB ReadA ReadB step_both struct_both BriefAt Brief)) → BriefAt (step_both (bare y))
step_short (e.Number n kind) place around few r = no_place_short 0 (kind_at around r) (Numeric (Word n)) place _ (omega arith)
step_short (e.Text bytes) place around few r = record { value = omega arith; lvalue = omega arith; effect = omega arith }
step_short (e.Var name) place around few r = named_short 0 around (kind_at around r) (bind_at around r) place _
step_short (e.Unary op a) place around few r = unary_short a.0.1 op _ (a.0.0 around r) place _ (a.1 around few r)
step_short (e.Binary op a c) place around few r = let x = a.0.0 around r in let y = c.0.0 around x.after in
    no_place_short (if is_logical op then max a.0.1 c.0.1 else max a.0.1 (c.0.1 + 1)) _ (binary op around x y) place _ (binary_short op a.0.1 c.0.1 around x y (a.1 around few r) (c.1 around few x.after))
step_short (e.Assign op a c) place around few r = let x = a.0.0 around r in let y = c.0.0 around x.after in assign_short a.0.1 c.0.1 op around x y place _ (a.1 around few r) (c.1 around few x.after)
step_short (e.StepBy up before a) place around few r = stepped_short a.0.1 around up before (a.0.0 around r) place _ (a.1 around few r)
step_short (e.Cond c a d) place around few r = let x = c.0.0 around r in let y = a.0.0 around x.after in let z = d.0.0 around y.after in let w : ℕ = max c.0.1 (max a.0.1 d.0.1) in
    let h = (c.1 around few r).value in let k = (a.1 around few x.after).value in let l = (d.1 around few y.after).value in
    no_place_short w (kind_at around z.after) (chosen_as (sort_of (kind_at around z.after)) x y z) place _ (chosen_short (w + 7) (sort_of (kind_at around z.after)) x y z (omega arith) (omega arith) (omega arith) (omega arith))
step_short (e.Call name all) place around few r = let xs = find_all (map (λ b. b.0) (map (λ y. y.0) all)) around r in let w = waits_from 0 (map (λ b. b.1) (map (λ y. y.0) all)) in
    no_place_short w (kind_at around xs.after) (called around (kind_at around xs.after) (bind_at around xs.after) xs.all) place _ (called_short w around few (kind_at around xs.after) (bind_at around xs.after) xs.all (found_all_short 0 all around few r))
step_short (e.Index a i) place around few r = let x = a.0.0 around r in let y = i.0.0 around x.after in let w : ℕ = max a.0.1 (i.0.1 + 1) in
    let h = pointer_short (a.0.1 + 7) x.value (omega arith) (a.1 around few r).value in let k = number_short (i.0.1 + 7) y.value (i.1 around few x.after).value in
    let type = kind_at around y.after in
    a_place_short w type (index around type x y) place _
    (rule_short (w + 7) (index_rule around type x) (element_at false (size_in around.structs type) (pointer_in x.value) (number_in y.value)) (omega arith) (omega arith))
step_short (e.Member a name) place around few r = let x = a.0.0 around r in let h = pointer_short (a.0.1 + 7) x.value (omega arith) (a.1 around few r).value in a_place_short a.0.1 (kind_at around x.after) (member around (kind_at around x.after) x name) place _ (omega arith)
step_short (e.Arrow a name) place around few r = let x = a.0.0 around r in let h = pointer_short (a.0.1 + 7) x.value (omega arith) (a.1 around few r).value in a_place_short a.0.1 (kind_at around x.after) (arrow around (kind_at around x.after) x name) place _ (omega arith)
step_short (e.Cast base stars a) place around few r = let x = a.0.0 around r in no_place_short a.0.1 (kind_at around x.after) _ place _ (cast_short (a.0.1 + 7) (sort_of (kind_at around x.after)) x.type x.value (omega arith) (a.1 around few r).value)
step_short (e.SizeOfKind base stars) place around few r = no_place_short 0 _ _ place _ (omega arith)
step_short (e.SizeOfValue a) place around few r = no_place_short a.0.1 _ _ place _ (omega arith)

abbrev both : Expr → ReadB
both = fold-Expr ReadA ReadB step_both struct_both

reads_same : (x : Expr) → (both x).0 ≡ expression x
reads_same x = exprs_fused ReadA ReadB (Place → Reading) Reading step_both struct_both step (λ x. x.kind x.place) (λ a. a.0) (λ b. b.0) (λ y. refl) (λ y. refl) x

waits_same : (x : Expr) → (both x).1 ≡ waits x
waits_same x = exprs_fused ReadA ReadB ℕ ℕ step_both struct_both expr_waits (λ x. x.kind) (λ a. a.1) (λ b. b.1) (λ y. refl) (λ y. refl) x

both_short : (x : Expr) → Brief (both x)
both_short x = every_exprs ReadA ReadB step_both struct_both BriefAt Brief step_short (λ y. y.kind.1 y.place) x

pub expressions_short : (x : Expr) → Brief (expression x, waits x)
expressions_short x = subst (λ read. Brief (read, waits x)) (reads_same x) (subst (λ w. Brief ((both x).0, w)) (waits_same x) (both_short x))
