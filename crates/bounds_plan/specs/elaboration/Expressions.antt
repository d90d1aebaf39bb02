-- What an expression of the tree is in the core tree.
use Rattle.std.specs.Prelude.{ℕ, zero, suc, ◌+◌, ◌&&◌, Bool, true, false, not, if◌then◌else◌, Option, None, Some, List, [], ◌∷◌, length, slice_get, slice_index_or}
use Rattle.mx_base.specs.declared.services.CService.{CService}
use Rattle.mx_base.specs.declared.services.CService.TheVariants as in_c
use Rattle.mx_base.specs.declared.numbers.IntKind.{IntKind}
use Rattle.mx_base.specs.declared.numbers.IntKind.TheVariants.{I32, I64, U64}
use Rattle.mx_base.specs.declared.places.Place.{Place}
use Rattle.mx_base.specs.declared.operators.Arithmetic.{Arithmetic}
use Rattle.mx_base.specs.declared.operators.Arithmetic.TheVariants.{Mul, Div, Add, Sub, BitXor}
use Rattle.mx_base.specs.declared.operators.Comparison.{Comparison}
use Rattle.mx_base.specs.declared.operators.Comparison.TheVariants.{Equal}
use Rattle.narrowing.specs.declared.member.Rule.{Rule}
use Rattle.narrowing.specs.Element.{element_rule}
use Rattle.c_tree.specs.declared.operators.UnaryOp.{UnaryOp}
use Rattle.c_tree.specs.declared.operators.UnaryOp.TheVariants as u
use Rattle.c_tree.specs.declared.operators.Logical.{Logical}
use Rattle.c_tree.specs.declared.operators.Logical.TheVariants as l
use Rattle.c_tree.specs.declared.operators.BinaryOp.{BinaryOp}
use Rattle.c_tree.specs.declared.operators.BinaryOp.TheVariants as o
use Rattle.c_tree.specs.declared.tree.Base.{Base}
use Rattle.c_tree.specs.declared.tree.Base.TheVariants as b
use Rattle.c_tree.specs.declared.tree.Expr.{Expr, fold-Expr}
use Rattle.c_tree.specs.declared.tree.ExprKind.{ExprKind-F}
use Rattle.c_tree.specs.declared.tree.ExprKind.TheOpen as e
use Rattle.c_types.specs.Types.{CType, Void, Int, Pointer, Struct, StructType}
use Rattle.bounds_plan.specs.meaning.Core.{NumberExpr, Word, Operate, Compare, And, Or, Choose, Call, Serve, Ask, AsNumber, PointerExpr, Function, Object, ChoosePtr, CallPtr, Alloc, SetBounds, NarrowBounds, CopyBounds, InitBounds, BoundOf, Arguments, NoMore, WithNumber, WithPointer, Effect, OfNumber, OfPointer, CopyStruct}
use Rattle.bounds_plan.specs.elaboration.Scalars.{scalars_of}
use Rattle.bounds_plan.specs.elaboration.Types.{Value, Numeric, Address, number_in, pointer_in, Sort, ANumber, APointer, AWhole, NoValue, sort_of, is_array, kind_of, target_of, size_in, step_in, promoted, common, done_in, converted, right_operand, wanted_pointer, given, cast_to}
use Rattle.c_check_rules.specs.declared.predeclared.Bind.{Bind}
use Rattle.c_check_rules.specs.declared.predeclared.Bind.TheVariants.{Global, Local, Fun, Service, Builtin as OfBounds}
use Rattle.c_check_rules.specs.declared.predeclared.Builtin.{Builtin}
use Rattle.c_check_rules.specs.declared.predeclared.Builtin.TheVariants as on_bounds
use Rattle.c_check_rules.specs.Operators.{takes_away}
use Rattle.bounds_plan.specs.elaboration.Source.{Reached, Signature, Around, kind_at, bind_at, literal_at, past_kind, past_name, past_literal, start}
use Rattle.bounds_plan.specs.elaboration.Places.{Lvalue, InMemory, address_in, read_as, written_as, changed_as, variable_of, place_among, struct_of, member_at, element_at, element_after, under_rule}

-- what is found of an expression: its type and value, and its place in the sources; the place that it is, if it is one; what it does as a whole
-- statement; the bytes of a text; and how far the tree was gone through after it
pub record Found : Type 0 where
  pub type : CType
  pub value : Value
  pub place : Place
  pub lvalue : Lvalue
  pub effect : Effect
  pub text : Option (List ℕ)
  pub after : Reached

-- an expression by what is around it and how far the tree was gone through before it
abbrev pub Reading : Type 0
Reading = Around → Reached → Found

-- as a whole statement an expression is evaluated; of an array or a struct that is the address alone
abbrev pub effect_of : Value → Effect
effect_of (Numeric e) = OfNumber e
effect_of (Address p) = OfPointer p

-- an expression of this type and value that is no place
abbrev pub no_place : CType → Value → Place → Reached → Found
no_place type value place after = record { type = type; value = value; place = place; lvalue = InMemory (pointer_in value); effect = effect_of value; text = None; after = after }

-- a place of this type, whose value is what is read there
abbrev pub a_place : CType → Lvalue → Place → Reached → Found
a_place type l place after = record { type = type; value = read_as (sort_of type) place l; place = place; lvalue = l; effect = effect_of (read_as (sort_of type) place l); text = None; after = after }

-- ---- names and texts

abbrev pub symbol_of : Around → (number : ℕ) → ℕ
symbol_of around number = slice_index_or around.layout.functions number 0

-- a global stands behind its symbol, a variable of the function in a private variable or its data frame. The name of a function is its address,
-- and no place; a service or builtin has none, and stands only before its arguments
abbrev pub named : Around → CType → Bind → Place → Reached → Found
named around type (Global number) place after = a_place type (InMemory (Object (slice_index_or around.layout.globals number 0) 0 (size_in around.structs type))) place after
named around type (Local number) place after = a_place type (variable_of around.structs around.variables around.stands 0 number) place after
named around type (Fun number) place after = no_place type (Address (Function (symbol_of around number))) place after
named around type (Service service) place after = no_place type (Numeric (Word 0)) place after
named around type (OfBounds builtin) place after = no_place type (Numeric (Word 0)) place after

-- a text is an array of its bytes and one of 0
abbrev pub literal : Around → CType → Place → List ℕ → Reached → Found
literal around type place bytes r = record (no_place type (Address (Object around.layout.texts (literal_at around r) (length bytes + 1))) place (past_literal (past_kind r))) { text = Some bytes }

-- ---- operators on one operand

-- an operand in its promoted type
abbrev pub promoted_number : Found → NumberExpr
promoted_number a = converted (kind_of a.type) (promoted (kind_of a.type)) (number_in a.value)

-- the word of the number -1
abbrev pub minus_one : ℕ
minus_one = 0xffff_ffff_ffff_ffff

-- the number times -1
abbrev pub negative : Found → NumberExpr
negative a = Operate Mul (promoted (kind_of a.type)) (promoted_number a) (Word minus_one)

-- every bit turned
abbrev pub inverse : Found → NumberExpr
inverse a = Operate BitXor (promoted (kind_of a.type)) (promoted_number a) (Word minus_one)

-- whether the number or the address is 0
abbrev pub is_zero : Found → NumberExpr
is_zero a = Compare Equal (kind_of a.type) (number_in a.value) (Word 0)

-- `-`, `~`, `!`, `*`, `&`: `*p` is the place that p points to, and `&l` is the address of a place
abbrev pub unary : UnaryOp → CType → Found → Place → Reached → Found
unary u.Neg type a place after = no_place type (Numeric (negative a)) place after
unary u.BitNot type a place after = no_place type (Numeric (inverse a)) place after
unary u.Not type a place after = no_place type (Numeric (is_zero a)) place after
unary u.Deref type a place after = a_place type (InMemory (pointer_in a.value)) place after
unary u.AddressOf type a place after = no_place type (Address (address_in a.lvalue)) place after

-- ---- operators on two operands

-- two numbers, in the type in which the operator is done
abbrev pub calculated : Arithmetic → (a_kind b_kind : IntKind) → NumberExpr → NumberExpr → NumberExpr
calculated op ka kb a b = Operate op (done_in op ka kb) (converted ka (done_in op ka kb) a) (right_operand op kb (done_in op ka kb) b)

-- the difference of two pointers, in elements of this size
abbrev pub distance : (size : ℕ) → PointerExpr → PointerExpr → NumberExpr
distance size p q = Operate Div I64 (Operate Sub I64 (AsNumber p) (AsNumber q)) (Word size)

-- two numbers; a pointer plus or minus a number, a number plus a pointer, and a pointer minus a pointer
abbrev pub arithmetic : List StructType → Arithmetic → (a_type b_type : CType) → Value → Value → Value
arithmetic structs op s t (Numeric a) (Numeric b) = Numeric (calculated op (kind_of s) (kind_of t) a b)
arithmetic structs op s t (Address p) (Numeric i) = Address (element_at (takes_away op) (step_in structs s) p i)
arithmetic structs op s t (Numeric i) (Address p) = Address (element_after (step_in structs t) i p)
arithmetic structs op s t (Address p) (Address q) = Numeric (distance (step_in structs s) p q)

-- numbers are compared in their common type, and addresses unsigned; a number beside a pointer is 0
abbrev pub compared : Comparison → (a_kind b_kind : IntKind) → Value → Value → NumberExpr
compared op ka kb (Numeric a) (Numeric b) = Compare op (common ka kb) (converted ka (common ka kb) a) (converted kb (common ka kb) b)
compared op ka kb (Address p) (Numeric b) = Compare op U64 (AsNumber p) b
compared op ka kb (Numeric a) (Address q) = Compare op U64 a (AsNumber q)
compared op ka kb (Address p) (Address q) = Compare op U64 (AsNumber p) (AsNumber q)

-- `&&` and `||`
abbrev pub logical : Logical → NumberExpr → NumberExpr → NumberExpr
logical l.And a b = And a b
logical l.Or a b = Or a b

abbrev pub binary : BinaryOp → Around → Found → Found → Value
binary (o.Arithmetic op) around a b = arithmetic around.structs op a.type b.type a.value b.value
binary (o.Comparison op) around a b = Numeric (compared op (kind_of a.type) (kind_of b.type) a.value b.value)
binary (o.Logical op) around a b = Numeric (logical op (number_in a.value) (number_in b.value))

-- `?:` gives two numbers in the type of the whole, or two pointers, of which one may be the number 0
abbrev pub chosen_as : Sort → Found → Found → Found → Value
chosen_as (ANumber kind) c a b = Numeric (Choose (number_in c.value) (converted (kind_of a.type) kind (number_in a.value)) (converted (kind_of b.type) kind (number_in b.value)))
chosen_as APointer c a b = Address (ChoosePtr (number_in c.value) (wanted_pointer a.value) (wanted_pointer b.value))
chosen_as AWhole c a b = Address (ChoosePtr (number_in c.value) (wanted_pointer a.value) (wanted_pointer b.value))
chosen_as NoValue c a b = Address (ChoosePtr (number_in c.value) (wanted_pointer a.value) (wanted_pointer b.value))

-- ---- assignments

-- a scalar is written in the type of its place
abbrev pub assigned : Found → Found → Value
assigned a b = written_as (sort_of a.type) a.place a.lvalue (given a.type b.type b.value)

-- a struct is copied from the place of the right side to that of the left
abbrev pub struct_copied : List StructType → CType → Lvalue → (to : Place) → Found → Effect
struct_copied structs type l to b = CopyStruct (size_in structs type) (scalars_of structs type) to (address_in l) b.place (address_in b.lvalue)

-- the assignment of a struct is an effect alone, and has no value
abbrev pub assignment_effect : Sort → List StructType → Found → Found → Effect
assignment_effect (ANumber kind) structs a b = effect_of (assigned a b)
assignment_effect APointer structs a b = effect_of (assigned a b)
assignment_effect AWhole structs a b = struct_copied structs a.type a.lvalue a.place b
assignment_effect NoValue structs a b = effect_of (assigned a b)

abbrev pub assignment : Around → Found → Found → Place → Reached → Found
assignment around a b place after = record (no_place a.type (assigned a b) place after) { effect = assignment_effect (sort_of a.type) around.structs a b }

-- a place is changed by an operator and a number of this type
abbrev pub changed : List StructType → Arithmetic → Found → (from : IntKind) → NumberExpr → (old : Bool) → Value
changed structs op a from e old = changed_as (kind_of a.type) (sort_of a.type) a.place a.lvalue op from (step_in structs a.type) e old

-- `a op= b`
abbrev pub compound : Around → Arithmetic → Found → Found → Place → Reached → Found
compound around op a b place after = no_place a.type (changed around.structs op a (kind_of b.type) (number_in b.value) false) place after

-- `=`, or the compound assignment of an operator
abbrev pub assign_by : Option Arithmetic → Around → Found → Found → Place → Reached → Found
assign_by None around a b place after = assignment around a b place after
assign_by (Some op) around a b place after = compound around op a b place after

-- `++` and `--` add the `int` 1 or take it away; behind their operand they give the value before
abbrev pub stepped_by : Around → (up before : Bool) → Found → Place → Reached → Found
stepped_by around up before a place after = no_place a.type (changed around.structs (if up then Add else Sub) a I32 (Word 1) (not before)) place after

-- ---- calls

-- expressions one after another, and how far the tree was gone through after them
pub record AllFound : Type 0 where
  pub all : List Found
  pub after : Reached

abbrev pub find_all : List Reading → Around → Reached → AllFound
find_all [] around r = record { all = []; after = r }
find_all (a ∷ more) around r = record { all = a around r ∷ (find_all more around (a around r).after).all; after = (find_all more around (a around r).after).after }

-- arguments are converted to the types of the parameters
abbrev pub with_argument : Value → Arguments → Arguments
with_argument (Numeric e) rest = WithNumber e rest
with_argument (Address p) rest = WithPointer p rest

-- one for each parameter: where none is given, which `check` refuses, it is 0
abbrev pub arguments_for : List CType → List Found → Arguments
arguments_for [] all = NoMore
arguments_for (t ∷ ts) [] = with_argument (given t Void (Numeric (Word 0))) (arguments_for ts [])
arguments_for (t ∷ ts) (a ∷ more) = with_argument (given t a.type a.value) (arguments_for ts more)

abbrev pub called_as : Sort → (symbol : ℕ) → Arguments → Value
called_as (ANumber kind) symbol args = Numeric (Call symbol args)
called_as APointer symbol args = Address (CallPtr symbol args)
called_as AWhole symbol args = Numeric (Call symbol args)
called_as NoValue symbol args = Numeric (Call symbol args)

-- the argument of a number; where none is given, which `check` refuses, it is 0
abbrev pub nothing_found : Found
nothing_found = no_place Void (Numeric (Word 0)) record { file = 0; line = 1; col = 1 } start

abbrev pub argument_at : ℕ → List Found → Found
argument_at n [] = nothing_found
argument_at zero (a ∷ more) = a
argument_at (suc n) (a ∷ more) = argument_at n more

-- an argument of a service or builtin as a number of this type, and as a pointer
abbrev pub number_of_argument : IntKind → ℕ → List Found → NumberExpr
number_of_argument kind n all = converted (kind_of (argument_at n all).type) kind (number_in (argument_at n all).value)

abbrev pub pointer_of_argument : ℕ → List Found → PointerExpr
pointer_of_argument n all = wanted_pointer (argument_at n all).value

-- void print(long), void put(int), int get(void), void *alloc(unsigned long), int free(void *), void exit(int)
abbrev pub served : CService → List Found → Value
served in_c.Print all = Numeric (Serve in_c.Print (number_of_argument I64 0 all))
served in_c.Put all = Numeric (Serve in_c.Put (number_of_argument I32 0 all))
served in_c.Get all = Numeric (Ask in_c.Get)
served in_c.Alloc all = Address (Alloc (number_of_argument U64 0 all))
served in_c.Free all = Numeric (Serve in_c.Free (AsNumber (pointer_of_argument 0 all)))
served in_c.Exit all = Numeric (Serve in_c.Exit (number_of_argument I32 0 all))

-- the builtins whose names go on after `__builtin___bnd_`: set_ptr_bounds(q, n), narrow_ptr_bounds(p, q, n), copy_ptr_bounds(q, r),
-- init_ptr_bounds(q), get_ptr_lbound(q), get_ptr_ubound(q)
abbrev pub built_in : Builtin → List Found → PointerExpr
built_in on_bounds.SetBounds all = SetBounds (pointer_of_argument 0 all) (number_of_argument U64 1 all)
built_in on_bounds.NarrowBounds all = NarrowBounds (pointer_of_argument 0 all) (pointer_of_argument 1 all) (number_of_argument U64 2 all)
built_in on_bounds.CopyBounds all = CopyBounds (pointer_of_argument 0 all) (pointer_of_argument 1 all)
built_in on_bounds.InitBounds all = InitBounds (pointer_of_argument 0 all)
built_in on_bounds.LowerBound all = BoundOf false (pointer_of_argument 0 all)
built_in on_bounds.UpperBound all = BoundOf true (pointer_of_argument 0 all)

-- a call of a function that was declared
abbrev pub function_called : Around → CType → (number : ℕ) → Option Signature → List Found → Value
function_called around type number None all = Numeric (Word 0)
function_called around type number (Some s) all = called_as (sort_of type) (symbol_of around number) (arguments_for s.parameters all)

-- a call of what its name means; a variable is not called
abbrev pub called : Around → CType → Bind → List Found → Value
called around type (Fun number) all = function_called around type number (slice_get around.signatures number) all
called around type (Service service) all = served service all
called around type (OfBounds builtin) all = Address (built_in builtin all)
called around type (Global number) all = Numeric (Word 0)
called around type (Local number) all = Numeric (Word 0)

-- ---- members and elements

-- the member of a name in the struct at p
abbrev pub member_named : Around → (struct : ℕ) → CType → List ℕ → PointerExpr → PointerExpr
member_named around struct type name p = member_at around.flags around.structs struct (place_among (slice_index_or around.members struct []) name) type p

-- `a.m`, where a is a struct
abbrev pub member : Around → CType → Found → List ℕ → Lvalue
member around type a name = InMemory (member_named around (struct_of a.type) type name (pointer_in a.value))

-- `p->m`, where p points to a struct
abbrev pub arrow : Around → CType → Found → List ℕ → Lvalue
arrow around type a name = InMemory (member_named around (struct_of (target_of a.type)) type name (pointer_in a.value))

-- the rule of `a[i]`, which has this type: only where a is an array is that an element of one, which is nested if it is an array itself
abbrev pub index_rule : Around → CType → Found → Rule
index_rule around type a = element_rule around.flags (is_array a.type && is_array type) 0 (size_in around.structs type)

abbrev pub index : Around → CType → Found → Found → Lvalue
index around type a i = InMemory (under_rule (index_rule around type a) (element_at false (size_in around.structs type) (pointer_in a.value) (number_in i.value)))

-- ---- expressions

-- the type of a base and so many stars
abbrev pub based : Around → Base → CType
based around b.Void = Void
based around (b.Int kind) = Int kind
based around (b.Struct tag) = Struct (place_among around.tags tag)

abbrev pub starred : ℕ → CType → CType
starred zero type = type
starred (suc n) type = Pointer (starred n type)

-- `sizeof` is a number; what stands under it isn't evaluated, and its texts are no literals
abbrev pub size_word : Around → CType → Value
size_word around type = Numeric (Word (size_in around.structs type))

abbrev pub without_literals : Reached → Reached → Reached
without_literals before after = record after { literal = before.literal }

abbrev pub step : ExprKind-F (Place → Reading) Reading → Place → Reading
step (e.Number n kind) place around r = no_place (kind_at around r) (Numeric (Word n)) place (past_kind r)
step (e.Text bytes) place around r = literal around (kind_at around r) place bytes r
step (e.Var name) place around r = named around (kind_at around r) (bind_at around r) place (past_name (past_kind r))
step (e.Unary op a) place around r = let x = a around r in unary op (kind_at around x.after) x place (past_kind x.after)
step (e.Binary op a c) place around r = let x = a around r in let y = c around x.after in no_place (kind_at around y.after) (binary op around x y) place (past_kind y.after)
step (e.Assign op a c) place around r = let x = a around r in let y = c around x.after in assign_by op around x y place (past_kind y.after)
step (e.StepBy up before a) place around r = let x = a around r in stepped_by around up before x place (past_kind x.after)
step (e.Cond c a d) place around r = let x = c around r in let y = a around x.after in let z = d around y.after in
    no_place (kind_at around z.after) (chosen_as (sort_of (kind_at around z.after)) x y z) place (past_kind z.after)
step (e.Call name all) place around r = let xs = find_all all around r in no_place (kind_at around xs.after) (called around (kind_at around xs.after) (bind_at around xs.after) xs.all) place (past_name (past_kind xs.after))
step (e.Index a i) place around r = let x = a around r in let y = i around x.after in a_place (kind_at around y.after) (index around (kind_at around y.after) x y) place (past_kind y.after)
step (e.Member a name) place around r = let x = a around r in a_place (kind_at around x.after) (member around (kind_at around x.after) x name) place (past_kind x.after)
step (e.Arrow a name) place around r = let x = a around r in a_place (kind_at around x.after) (arrow around (kind_at around x.after) x name) place (past_kind x.after)
step (e.Cast base stars a) place around r = let x = a around r in no_place (kind_at around x.after) (cast_to (kind_at around x.after) x.type x.value) place (past_kind x.after)
step (e.SizeOfKind base stars) place around r = no_place (kind_at around r) (size_word around (starred stars (based around base))) place (past_kind r)
step (e.SizeOfValue a) place around r = let x = a around r in no_place (kind_at around x.after) (size_word around x.type) place (past_kind (without_literals r x.after))

-- an expression, read from its leaves up
abbrev pub expression : Expr → Reading
expression = fold-Expr (Place → Reading) Reading step (λ x. x.kind x.place)
