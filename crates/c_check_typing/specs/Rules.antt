-- The rules of expressions, each at one node. A value's own type is that before an array has become a pointer to its first element. Where a node
-- breaks several rules, they are listed in the order of their kinds.
use Rattle.std.specs.Prelude.{ℕ, zero, suc, ◌+◌, ◌==◌, nat_lt, Bool, true, false, not, ◌&&◌, ◌||◌, if◌then◌else◌, is_some, List, [], ◌∷◌, ◌++◌, length, Option, None, Some, slice_get}
use Rattle.mx_base.specs.declared.numbers.IntKind.{IntKind}
use Rattle.mx_base.specs.declared.numbers.IntKind.TheVariants.{I8, I32, I64, U64}
use Rattle.mx_base.specs.declared.operators.Arithmetic.{Arithmetic}
use Rattle.mx_base.specs.declared.operators.Arithmetic.TheVariants.{Mul, Div, Sub}
use Rattle.c_tree.specs.declared.operators.UnaryOp.{UnaryOp}
use Rattle.c_tree.specs.declared.operators.UnaryOp.TheVariants as u
use Rattle.c_tree.specs.declared.operators.BinaryOp.{BinaryOp}
use Rattle.c_tree.specs.declared.operators.BinaryOp.TheVariants as p
use Rattle.c_tree.specs.declared.tree.Base.{Base}
use Rattle.c_tree.specs.declared.tree.Base.TheVariants as b
use Rattle.c_types.specs.Types.{CType, Void, Int, Pointer, Array, Struct}
use Rattle.c_check_rules.specs.declared.kinds.Outer.{Outer}
use Rattle.c_check_rules.specs.declared.kinds.Outer.TheVariants as o
use Rattle.c_check_rules.specs.declared.constants.Constant.{Constant}
use Rattle.c_check_rules.specs.declared.constants.Constant.TheVariants as c
use Rattle.c_check_rules.specs.declared.predeclared.Bind.{Bind}
use Rattle.c_check_rules.specs.declared.predeclared.Bind.TheVariants as d
use Rattle.c_check_rules.specs.declared.predeclared.Found.{Found}
use Rattle.c_check_rules.specs.declared.predeclared.Found.TheVariants as f
use Rattle.c_check_rules.specs.declared.names.Scope.{Scope}
use Rattle.c_check_rules.specs.declared.names.Member.{Member}
use Rattle.c_check_rules.specs.declared.names.StructInfo.{StructInfo}
use Rattle.c_check_rules.specs.Kinds.{outer_of, inner_of}
use Rattle.c_check_rules.specs.Sizes.{limit, size_in, is_sized, scalars_in}
use Rattle.c_check_rules.specs.Names.{tag_at, numbered, member_named}
use Rattle.c_check_rules.specs.Operators.{shifts, takes_away, moves}
use Rattle.c_check_rules.specs.Conversions.{promoted, common, is_scalar, is_integer_form, is_void_pointer, converts, fits_struct, cast_fits, binary_kind, choice_kind}
use Rattle.c_check_rules.specs.Constants.{fold_unary, fold_binary, cast_constant, choose}
use Rattle.c_check_typing.specs.declared.typed.Typed.{Typed}
use Rattle.c_check_typing.specs.declared.fault.CheckKind.{CheckKind}
use Rattle.c_check_typing.specs.declared.fault.CheckKind.TheVariants.{Unknown, BadType, BadCount, NotPlace, LargeCopy}
use Rattle.c_check_typing.specs.Refusals.{breaks}
use Rattle.c_check_typing.specs.Notes.{value, place, with_kind, with_use, with_taken, with_text, Own, fine, wrong, nothing, judged, with_typed}

-- ---- types of values

-- an array that is used as a value is a pointer to its first element
abbrev pub decayed_form : Outer → CType → CType
decayed_form o.Void kind = kind
decayed_form (o.Int k) kind = kind
decayed_form o.Pointer kind = kind
decayed_form (o.Array count) kind = Pointer (inner_of kind)
decayed_form (o.Struct number) kind = kind

abbrev pub decayed : CType → CType
decayed kind = decayed_form (outer_of kind) kind

-- arrays and pointers, whose elements and targets are reached through them
abbrev pub is_address : Outer → Bool
is_address o.Void = false
is_address (o.Int k) = false
is_address o.Pointer = true
is_address (o.Array count) = true
is_address (o.Struct number) = false

abbrev pub is_array : Outer → Bool
is_array o.Void = false
is_array (o.Int k) = false
is_array o.Pointer = false
is_array (o.Array count) = true
is_array (o.Struct number) = false

abbrev pub is_struct : Outer → Bool
is_struct o.Void = false
is_struct (o.Int k) = false
is_struct o.Pointer = false
is_struct (o.Array count) = false
is_struct (o.Struct number) = true

-- a value of the type that an operator gives; BadType where it takes no such operands
abbrev pub of_kind : Option CType → Constant → Own
of_kind None constant = wrong (BadType ∷ [])
of_kind (Some kind) constant = fine (value kind constant)

-- ---- numbers and texts

-- a number or character has its own type; the number 0 becomes a pointer
abbrev pub number_own : ℕ → IntKind → Own
number_own n kind = fine (record (value (Int kind) (c.Value n)) { is_zero = n == 0 })

abbrev pub literal : List ℕ → Typed → Own
literal bytes t = record { typed = Some t; noted = λ notes. with_kind t.kind (with_text bytes notes); broken = [] }

-- a text of n bytes
abbrev pub text_typed : (n : ℕ) → Typed
text_typed n = record (value (Array (Int I8) (n + 1)) c.No) { text = Some n }

-- a text of n bytes is an array of n + 1 `char`, and BadCount where that is over the limit
unfoldable pub text_own : List ℕ → Own
text_own bytes = if nat_lt (length bytes) limit then literal bytes (text_typed (length bytes)) else wrong (BadCount ∷ [])

-- ---- names

-- the local that a name is bound to
abbrev pub local_of : Bind → Option ℕ
local_of (d.Global number) = None
local_of (d.Local number) = Some number
local_of (d.Fun number) = None
local_of (d.Service number) = None
local_of (d.Builtin number) = None

abbrev pub named : Bind → Typed → Own
named bind t = record { typed = Some t; noted = λ notes. with_kind t.kind (with_use bind notes); broken = [] }

abbrev pub variable : Bind → CType → Typed
variable bind kind = record (place kind) { local = local_of bind }

-- the name of a function stands for its address where that becomes a `void *` as an argument, and nowhere else; the name of a service or
-- builtin nowhere
abbrev pub function_named : Bool → Bind → Own
function_named true (d.Fun number) = named (d.Fun number) (value (Pointer Void) c.No)
function_named true (d.Global number) = wrong (BadType ∷ [])
function_named true (d.Local number) = wrong (BadType ∷ [])
function_named true (d.Service number) = wrong (BadType ∷ [])
function_named true (d.Builtin number) = wrong (BadType ∷ [])
function_named false bind = wrong (BadType ∷ [])

-- a name that is bound to nothing is Unknown
unfoldable pub name_own : (functions : Bool) → Found → Own
name_own functions f.Missing = wrong (Unknown ∷ [])
name_own functions (f.Variable bind kind) = named bind (variable bind kind)
name_own functions (f.Callable bind result params) = function_named functions bind

-- ---- operators of one operand

-- `-` and `~` take an integer and give its promoted type
abbrev pub sign_own : UnaryOp → Outer → Constant → Own
sign_own op o.Void constant = wrong (BadType ∷ [])
sign_own op (o.Int k) constant = fine (value (Int (promoted k)) (fold_unary op (promoted k) constant))
sign_own op o.Pointer constant = wrong (BadType ∷ [])
sign_own op (o.Array count) constant = wrong (BadType ∷ [])
sign_own op (o.Struct number) constant = wrong (BadType ∷ [])

-- a pointer is taken as its address
abbrev pub not_constant : Outer → Constant → Constant
not_constant o.Void constant = c.No
not_constant (o.Int k) constant = fold_unary u.Not k constant
not_constant o.Pointer constant = fold_unary u.Not U64 constant
not_constant (o.Array count) constant = c.No
not_constant (o.Struct number) constant = c.No

-- `!` takes a scalar and gives an `int`
abbrev pub not_own : Typed → Own
not_own a = if is_scalar (decayed a.kind) then fine (value (Int I32) (not_constant (outer_of a.kind) a.constant)) else wrong (BadType ∷ [])

-- `*` takes a pointer to a type with a size
abbrev pub target_own : List StructInfo → Typed → Own
target_own structs a = if is_address (outer_of a.kind) && is_sized structs (inner_of a.kind) then fine (place (inner_of a.kind)) else wrong (BadType ∷ [])

-- `&` takes a place; of an array it gives a pointer to the array
abbrev pub address_own : Typed → Own
address_own a = if a.is_place then record { typed = Some (value (Pointer a.kind) c.No); noted = λ notes. with_kind (Pointer a.kind) (with_taken a.local notes); broken = [] }
    else wrong (NotPlace ∷ [])

unfoldable pub unary_own : List StructInfo → UnaryOp → Typed → Own
unary_own structs u.Neg a = sign_own u.Neg (outer_of a.kind) a.constant
unary_own structs u.BitNot a = sign_own u.BitNot (outer_of a.kind) a.constant
unary_own structs u.Not a = not_own a
unary_own structs u.Deref a = target_own structs a
unary_own structs u.AddressOf a = address_own a

-- ---- operators of two operands

-- shifts are done in the type of their left operand, the others in the type in which both meet
abbrev pub done_in : BinaryOp → IntKind → IntKind → IntKind
done_in (p.Arithmetic op) k l = if shifts op then promoted k else common k l
done_in (p.Comparison op) k l = common k l
done_in (p.Logical op) k l = common k l

-- the size of what a pointer points to
abbrev pub or_nothing : Option ℕ → ℕ
or_nothing None = 0
or_nothing (Some size) = size

abbrev pub target_size : List StructInfo → CType → ℕ
target_size structs pointer = or_nothing (size_in structs (inner_of pointer))

-- so many targets of a pointer, in bytes
abbrev pub scaled : List StructInfo → (pointer : CType) → Constant → Constant
scaled structs pointer by = fold_binary (p.Arithmetic Mul) U64 by (c.Value (target_size structs pointer))

-- what an operator of a pointer and an integer counts: `+` and `-` targets, and the others the integer as it is
abbrev pub counted : List StructInfo → BinaryOp → (pointer : CType) → (by : Constant) → Constant
counted structs (p.Arithmetic op) pointer by = if moves op then scaled structs pointer by else by
counted structs (p.Comparison op) pointer by = by
counted structs (p.Logical op) pointer by = by

-- the signed difference of two addresses, divided by the size of what they point to
abbrev pub distance : List StructInfo → (pointer : CType) → (a e : Constant) → Constant
distance structs pointer a e = fold_binary (p.Arithmetic Div) I64 (fold_binary (p.Arithmetic Sub) I64 a e) (c.Value (target_size structs pointer))

-- an operator of two addresses
abbrev pub apart_constant : List StructInfo → BinaryOp → (pointer : CType) → (a e : Constant) → Constant
apart_constant structs (p.Arithmetic op) pointer a e = if takes_away op then distance structs pointer a e else fold_binary (p.Arithmetic op) U64 a e
apart_constant structs (p.Comparison op) pointer a e = fold_binary (p.Comparison op) U64 a e
apart_constant structs (p.Logical op) pointer a e = fold_binary (p.Logical op) U64 a e

-- a pointer is taken as its address
abbrev pub constant_by : List StructInfo → BinaryOp → Outer → Outer → (left right : CType) → Constant → Constant → Constant
constant_by structs op (o.Int k) (o.Int l) left right x y = fold_binary op (done_in op k l) x y
constant_by structs op (o.Int k) o.Pointer left right x y = fold_binary op U64 (counted structs op right x) y
constant_by structs op o.Pointer (o.Int l) left right x y = fold_binary op U64 x (counted structs op left y)
constant_by structs op o.Pointer o.Pointer left right x y = apart_constant structs op left x y
constant_by structs op _ _ left right x y = c.No

abbrev pub binary_constant : List StructInfo → BinaryOp → Typed → Typed → Constant
binary_constant structs op a e = constant_by structs op (outer_of a.kind) (outer_of e.kind) a.kind e.kind a.constant e.constant

unfoldable pub binary_own : List StructInfo → BinaryOp → Typed → Typed → Own
binary_own structs op a e = of_kind (binary_kind structs op (decayed a.kind) (decayed e.kind) a.is_zero e.is_zero)
    (binary_constant structs op a e)

-- ---- `?:`

-- the type in which both values are taken; a pointer is taken as its address
abbrev pub choice_in : Outer → Outer → IntKind
choice_in (o.Int k) (o.Int l) = common k l
choice_in _ _ = U64

abbrev pub choice_constant : Typed → Typed → Typed → Constant
choice_constant test a e = choose (choice_in (outer_of a.kind) (outer_of e.kind)) test.constant a.constant e.constant

-- the condition is a scalar
unfoldable pub choice_own : Typed → Typed → Typed → Own
choice_own test a e = if is_scalar (decayed test.kind) then of_kind (choice_kind (decayed a.kind) (decayed e.kind) a.is_zero e.is_zero)
    (choice_constant test a e) else wrong (BadType ∷ [])

-- ---- assignments

-- what is assigned to is a place and no array; a struct is assigned from a place
abbrev pub is_no_target : Typed → Bool
is_no_target a = not a.is_place || is_array (outer_of a.kind)

abbrev pub is_no_source : Typed → Bool
is_no_source e = is_struct (outer_of e.kind) && not e.is_place

-- a value becomes one of the type by conversion; a struct is one of the same struct
abbrev pub is_assigned : CType → Typed → Bool
is_assigned kind e = converts kind (decayed e.kind) e.is_zero || fits_struct kind e.kind

abbrev pub converts_back : CType → Option CType → Bool
converts_back kind None = false
converts_back kind (Some result) = converts kind result false

-- a compound assignment is its operator and then an assignment
abbrev pub fits_assignment : List StructInfo → Option Arithmetic → Typed → Typed → Bool
fits_assignment structs None a e = is_assigned a.kind e
fits_assignment structs (Some op) a e = converts_back a.kind (binary_kind structs (p.Arithmetic op) (decayed a.kind) (decayed e.kind) a.is_zero e.is_zero)

-- a struct of more than 64 scalars is copied
abbrev pub is_large_copy : List StructInfo → Option Arithmetic → Typed → Typed → Bool
is_large_copy structs None a e = fits_struct a.kind e.kind && nat_lt 64 (scalars_in structs a.kind)
is_large_copy structs (Some op) a e = false

unfoldable pub assign_own : List StructInfo → Option Arithmetic → Typed → Typed → Own
assign_own structs op a e = judged (breaks NotPlace (is_no_target a || is_no_source e) ++ (breaks BadType (not (fits_assignment structs op a e)) ++ breaks LargeCopy (is_large_copy structs op a e)))
    (value a.kind c.No)

-- `++` and `--` count integers, and pointers to types with a size
abbrev pub is_counted : List StructInfo → Outer → CType → Bool
is_counted structs o.Void kind = false
is_counted structs (o.Int k) kind = true
is_counted structs o.Pointer kind = is_sized structs (inner_of kind)
is_counted structs (o.Array count) kind = false
is_counted structs (o.Struct number) kind = false

unfoldable pub step_own : List StructInfo → Typed → Own
step_own structs a = judged (breaks NotPlace (is_no_target a) ++ breaks BadType (not (is_counted structs (outer_of a.kind) a.kind))) (value a.kind c.No)

-- ---- elements and members

-- `a[i]`: an array, or a pointer to a type with a size, and an integer
unfoldable pub index_own : List StructInfo → Typed → Typed → Own
index_own structs a i = if is_address (outer_of a.kind) && (is_integer_form (outer_of i.kind) && is_sized structs (inner_of a.kind)) then fine (place (inner_of a.kind)) else wrong (BadType ∷ [])

abbrev pub members_in : Option StructInfo → List Member
members_in None = []
members_in (Some info) = info.members

abbrev pub members_by : List StructInfo → Outer → List Member
members_by structs o.Void = []
members_by structs (o.Int k) = []
members_by structs o.Pointer = []
members_by structs (o.Array count) = []
members_by structs (o.Struct number) = members_in (slice_get structs number)

-- the type of a member of a struct's type
abbrev pub member_in : List StructInfo → CType → List ℕ → Option CType
member_in structs kind name = member_named (members_by structs (outer_of kind)) name

-- a struct that has no such member
abbrev pub lacks_member : Bool → Option CType → Bool
lacks_member is_one found = is_one && not (is_some found)

abbrev pub or_void : Option CType → CType
or_void None = Void
or_void (Some kind) = kind

-- `a.m`: a place that is a struct, with that member
unfoldable pub member_own : List StructInfo → List ℕ → Typed → Own
member_own structs name a = judged (breaks Unknown (lacks_member (is_struct (outer_of a.kind)) (member_in structs a.kind name)) ++ (breaks NotPlace (not a.is_place) ++ breaks BadType (not (is_struct (outer_of a.kind)))))
    (place (or_void (member_in structs a.kind name)))

-- what `a.m` breaks first where there is no such member
abbrev pub without_member : (is_one is_place : Bool) → CheckKind
without_member is_one is_place = if is_one then Unknown else if is_place then BadType else NotPlace

-- whether a value points to a struct
abbrev pub reaches_struct : CType → Bool
reaches_struct kind = is_address (outer_of kind) && is_struct (outer_of (inner_of kind))

-- `p->m`: a pointer to a struct that has its members, with that member
unfoldable pub arrow_own : List StructInfo → List ℕ → Typed → Own
arrow_own structs name a = judged (breaks Unknown (lacks_member (reaches_struct a.kind) (member_in structs (inner_of a.kind) name)) ++ breaks BadType (not (reaches_struct a.kind && is_sized structs (inner_of a.kind))))
    (place (or_void (member_in structs (inner_of a.kind) name)))

-- ---- types that are written out

abbrev pub struct_kind : Option ℕ → Option CType
struct_kind None = None
struct_kind (Some at) = Some (Struct (numbered at))

-- the type of a base; None where its tag is not known
abbrev pub base_kind : Scope → Base → Option CType
base_kind scope b.Void = Some Void
base_kind scope (b.Int kind) = Some (Int kind)
base_kind scope (b.Struct tag) = struct_kind (tag_at scope tag)

abbrev pub starred : ℕ → CType → CType
starred zero kind = kind
starred (suc n) kind = Pointer (starred n kind)

-- a cast goes from a scalar to a scalar
abbrev pub cast_value : CType → Typed → Own
cast_value kind a = if cast_fits kind (decayed a.kind) then fine (value kind (cast_constant (outer_of kind) a.constant)) else wrong (BadType ∷ [])

abbrev pub cast_to : Option CType → (stars : ℕ) → Option Typed → Own
cast_to None stars a = wrong (Unknown ∷ [])
cast_to (Some kind) stars a = with_typed a (cast_value (starred stars kind))

-- an unknown tag is Unknown, whatever is known of the operand
unfoldable pub cast_own : Scope → Base → (stars : ℕ) → Option Typed → Own
cast_own scope base stars a = cast_to (base_kind scope base) stars a

-- ---- `sizeof`

abbrev pub size_by : Option ℕ → Own
size_by None = wrong (BadType ∷ [])
size_by (Some size) = fine (value (Int U64) (c.Value size))

-- `sizeof` is a constant `unsigned long`; the type has a size
unfoldable pub size_own : List StructInfo → CType → Own
size_own structs kind = size_by (size_in structs kind)

abbrev pub size_of_named : List StructInfo → (stars : ℕ) → Option CType → Own
size_of_named structs stars None = wrong (Unknown ∷ [])
size_of_named structs stars (Some kind) = size_own structs (starred stars kind)

unfoldable pub size_of_kind_own : Scope → Base → (stars : ℕ) → Own
size_of_kind_own scope base stars = size_of_named scope.structs stars (base_kind scope base)

-- ---- calls

-- the types of the parameters of what is called
abbrev pub params_of : Found → List CType
params_of f.Missing = []
params_of (f.Variable bind kind) = []
params_of (f.Callable bind result params) = params

-- whether the name of a function may stand as the argument of the first of these parameters
abbrev pub takes_function : List CType → Bool
takes_function [] = false
takes_function (kind ∷ more) = is_void_pointer kind

abbrev pub params_after : List CType → List CType
params_after [] = []
params_after (kind ∷ more) = more

-- an argument is converted to the type of its parameter
abbrev pub argument_fits : List CType → Typed → Bool
argument_fits [] a = false
argument_fits (kind ∷ more) a = converts kind (decayed a.kind) a.is_zero

abbrev pub is_empty : List CType → Bool
is_empty [] = true
is_empty (kind ∷ more) = false

abbrev pub call_with : Bind → CType → Option Bool → Own
call_with bind result None = nothing
call_with bind result (Some true) = named bind (value result c.No)
call_with bind result (Some false) = wrong (BadType ∷ [])

-- what is called is a function, service or builtin, with as many arguments as it has parameters, each of which fits
unfoldable pub call_own : Found → Option Bool → Own
call_own f.Missing fits = wrong (Unknown ∷ [])
call_own (f.Variable bind kind) fits = wrong (BadType ∷ [])
call_own (f.Callable bind result params) fits = call_with bind result fits
