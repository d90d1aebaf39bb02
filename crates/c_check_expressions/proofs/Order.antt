-- The rules of each form are listed in the order of their kinds.
use Rattle.std.proofs.Common.{◌≡◌, ℕ, refl, sym, subst, nat_lt, nat_eq, Bool, true, false, ◌&&◌, ◌||◌, not, List, [], ◌∷◌, ◌++◌, length}
use Rattle.std.specs.Prelude.{Option, None, Some, if◌then◌else◌, ◌==◌}
use Rattle.mx_base.specs.declared.operators.Arithmetic.{Arithmetic}
use Rattle.c_tree.specs.declared.operators.UnaryOp.{UnaryOp}
use Rattle.c_tree.specs.declared.operators.BinaryOp.{BinaryOp}
use Rattle.c_tree.specs.declared.operators.UnaryOp.TheVariants as u
use Rattle.c_tree.specs.declared.tree.Base.{Base}
use Rattle.c_types.specs.Types.{CType, Pointer, Int}
use Rattle.c_check_rules.specs.declared.kinds.Outer.{Outer}
use Rattle.c_check_rules.specs.declared.kinds.Outer.TheVariants as o
use Rattle.c_check_rules.specs.declared.constants.Constant.{Constant}
use Rattle.c_check_rules.specs.declared.constants.Constant.TheVariants as c
use Rattle.c_check_rules.specs.declared.predeclared.Bind.{Bind}
use Rattle.c_check_rules.specs.declared.predeclared.Bind.TheVariants as d
use Rattle.c_check_rules.specs.declared.predeclared.Found.{Found}
use Rattle.c_check_rules.specs.declared.predeclared.Found.TheVariants as f
use Rattle.c_check_rules.specs.declared.names.Scope.{Scope}
use Rattle.c_check_rules.specs.declared.names.StructInfo.{StructInfo}
use Rattle.c_check_rules.specs.Kinds.{outer_of, inner_of}
use Rattle.c_check_rules.specs.Sizes.{limit, size_in, is_sized}
use Rattle.c_check_rules.specs.Conversions.{is_scalar, is_integer_form, binary_kind, choice_kind, cast_fits}
use Rattle.c_check_typing.specs.declared.typed.Typed.{Typed}
use Rattle.c_check_typing.specs.declared.fault.CheckKind.{CheckKind}
use Rattle.c_check_typing.specs.declared.fault.CheckKind.TheVariants.{Unknown, NotPlace, BadType, LargeCopy, BadCount}
use Rattle.c_check_typing.specs.Refusals.{breaks, InOrder}
use Rattle.c_check_typing.specs.Notes.{Own, value, place, fine, wrong, judged, with_typed}
use Rattle.c_check_typing.specs.Rules as r
use Rattle.c_check_typing.specs.Rules.{text_own, name_own, unary_own, binary_own, choice_own, assign_own, step_own, index_own, member_own, arrow_own, cast_own, size_own, size_of_kind_own, call_own}

-- ---- choices and lists

abbrev Ordered : Own → Type 0
Ordered own = InOrder own.broken

either : (b : Bool) (x y : Own) → Ordered x → Ordered y → Ordered (if b then x else y)
either true x y h k = h
either false x y h k = k

judged_as : (kinds : List CheckKind) (t : Typed) → InOrder kinds → Ordered (judged kinds t)
judged_as [] t h = h
judged_as (k ∷ more) t h = h

place_type : (x y : Bool) → InOrder (breaks NotPlace x ++ breaks BadType y)
place_type true true = refl
place_type true false = refl
place_type false true = refl
place_type false false = refl

place_type_copy : (x y z : Bool) → InOrder (breaks NotPlace x ++ (breaks BadType y ++ breaks LargeCopy z))
place_type_copy true true true = refl
place_type_copy true true false = refl
place_type_copy true false true = refl
place_type_copy true false false = refl
place_type_copy false true true = refl
place_type_copy false true false = refl
place_type_copy false false true = refl
place_type_copy false false false = refl

unknown_type : (x y : Bool) → InOrder (breaks Unknown x ++ breaks BadType y)
unknown_type true true = refl
unknown_type true false = refl
unknown_type false true = refl
unknown_type false false = refl

unknown_place_type : (x y z : Bool) → InOrder (breaks Unknown x ++ (breaks NotPlace y ++ breaks BadType z))
unknown_place_type true true true = refl
unknown_place_type true true false = refl
unknown_place_type true false true = refl
unknown_place_type true false false = refl
unknown_place_type false true true = refl
unknown_place_type false true false = refl
unknown_place_type false false true = refl
unknown_place_type false false false = refl

-- ---- forms

pub text_order : (bytes : List ℕ) → InOrder (text_own bytes).broken
unfolding text_own
text_order bytes = either (nat_lt (length bytes) limit) _ _ refl refl

function_order : (functions : Bool) (bind : Bind) → Ordered (r.function_named functions bind)
function_order true (d.Fun number) = refl
function_order true (d.Global number) = refl
function_order true (d.Local number) = refl
function_order true (d.Service number) = refl
function_order true (d.Builtin number) = refl
function_order false bind = refl

pub name_order : (functions : Bool) (found : Found) → InOrder (name_own functions found).broken
unfolding name_own
name_order functions f.Missing = refl
name_order functions (f.Variable bind kind) = refl
name_order functions (f.Callable bind result params) = function_order functions bind

sign_order : (op : UnaryOp) (form : Outer) (constant : Constant) → Ordered (r.sign_own op form constant)
sign_order op o.Void constant = refl
sign_order op (o.Int k) constant = refl
sign_order op o.Pointer constant = refl
sign_order op (o.Array n) constant = refl
sign_order op (o.Struct n) constant = refl

pub unary_order : (structs : List StructInfo) (op : UnaryOp) (a : Typed) → InOrder (unary_own structs op a).broken
unfolding unary_own
unary_order structs u.Neg a = sign_order u.Neg (outer_of a.kind) a.constant
unary_order structs u.BitNot a = sign_order u.BitNot (outer_of a.kind) a.constant
unary_order structs u.Not a = either (is_scalar (r.decayed a.kind)) _ _ refl refl
unary_order structs u.Deref a = either (r.is_address (outer_of a.kind) && is_sized structs (inner_of a.kind)) _ _ refl refl
unary_order structs u.AddressOf a = either a.is_place _ _ refl refl

of_kind_order : (kind : Option CType) (constant : Constant) → Ordered (r.of_kind kind constant)
of_kind_order None constant = refl
of_kind_order (Some kind) constant = refl

pub binary_order : (structs : List StructInfo) (op : BinaryOp) (a e : Typed) → InOrder (binary_own structs op a e).broken
unfolding binary_own
binary_order structs op a e = of_kind_order (binary_kind structs op (r.decayed a.kind) (r.decayed e.kind) a.is_zero e.is_zero)
    (r.binary_constant structs op a e)

pub choice_order : (test a e : Typed) → InOrder (choice_own test a e).broken
unfolding choice_own
choice_order test a e = either (is_scalar (r.decayed test.kind)) _ _ (of_kind_order (choice_kind (r.decayed a.kind) (r.decayed e.kind) a.is_zero e.is_zero)
    (r.choice_constant test a e)) refl

pub assign_order : (structs : List StructInfo) (op : Option Arithmetic) (a e : Typed) → InOrder (assign_own structs op a e).broken
unfolding assign_own
assign_order structs op a e = judged_as (breaks NotPlace (r.is_no_target a || r.is_no_source e) ++ (breaks BadType (not (r.fits_assignment structs op a e)) ++ breaks LargeCopy (r.is_large_copy structs op a e))) (value a.kind c.No)
    (place_type_copy (r.is_no_target a || r.is_no_source e) (not (r.fits_assignment structs op a e)) (r.is_large_copy structs op a e))

pub step_order : (structs : List StructInfo) (a : Typed) → InOrder (step_own structs a).broken
unfolding step_own
step_order structs a = judged_as (breaks NotPlace (r.is_no_target a) ++ breaks BadType (not (r.is_counted structs (outer_of a.kind) a.kind))) (value a.kind c.No)
    (place_type (r.is_no_target a) (not (r.is_counted structs (outer_of a.kind) a.kind)))

pub index_order : (structs : List StructInfo) (a i : Typed) → InOrder (index_own structs a i).broken
unfolding index_own
index_order structs a i = either (r.is_address (outer_of a.kind) && (is_integer_form (outer_of i.kind) && is_sized structs (inner_of a.kind))) _ _ refl refl

pub member_order : (structs : List StructInfo) (name : List ℕ) (a : Typed) → InOrder (member_own structs name a).broken
unfolding member_own
member_order structs name a = judged_as (breaks Unknown (r.lacks_member (r.is_struct (outer_of a.kind)) (r.member_in structs a.kind name)) ++ (breaks NotPlace (not a.is_place) ++ breaks BadType (not (r.is_struct (outer_of a.kind))))) (place (r.or_void (r.member_in structs a.kind name)))
    (unknown_place_type (r.lacks_member (r.is_struct (outer_of a.kind)) (r.member_in structs a.kind name)) (not a.is_place) (not (r.is_struct (outer_of a.kind))))

pub arrow_order : (structs : List StructInfo) (name : List ℕ) (a : Typed) → InOrder (arrow_own structs name a).broken
unfolding arrow_own
arrow_order structs name a = judged_as (breaks Unknown (r.lacks_member (r.reaches_struct a.kind) (r.member_in structs (inner_of a.kind) name)) ++ breaks BadType (not (r.reaches_struct a.kind && is_sized structs (inner_of a.kind)))) (place (r.or_void (r.member_in structs (inner_of a.kind) name)))
    (unknown_type (r.lacks_member (r.reaches_struct a.kind) (r.member_in structs (inner_of a.kind) name)) (not (r.reaches_struct a.kind && is_sized structs (inner_of a.kind))))

cast_to_order : (kind : Option CType) (stars : ℕ) (a : Option Typed) → Ordered (r.cast_to kind stars a)
cast_to_order None stars a = refl
cast_to_order (Some kind) stars None = refl
cast_to_order (Some kind) stars (Some a) = either (cast_fits (r.starred stars kind) (r.decayed a.kind)) _ _ refl refl

pub cast_order : (scope : Scope) (base : Base) (stars : ℕ) (a : Option Typed) → InOrder (cast_own scope base stars a).broken
unfolding cast_own
cast_order scope base stars a = cast_to_order (r.base_kind scope base) stars a

size_by_order : (size : Option ℕ) → Ordered (r.size_by size)
size_by_order None = refl
size_by_order (Some size) = refl

pub size_order : (structs : List StructInfo) (kind : CType) → InOrder (size_own structs kind).broken
unfolding size_own
size_order structs kind = size_by_order (size_in structs kind)

size_named_order : (structs : List StructInfo) (stars : ℕ) (kind : Option CType) → Ordered (r.size_of_named structs stars kind)
size_named_order structs stars None = refl
size_named_order structs stars (Some kind) = size_order structs (r.starred stars kind)

pub size_of_kind_order : (scope : Scope) (base : Base) (stars : ℕ) → InOrder (size_of_kind_own scope base stars).broken
unfolding size_of_kind_own
size_of_kind_order scope base stars = size_named_order scope.structs stars (r.base_kind scope base)

call_with_order : (bind : Bind) (result : CType) (fit : Option Bool) → Ordered (r.call_with bind result fit)
call_with_order bind result None = refl
call_with_order bind result (Some true) = refl
call_with_order bind result (Some false) = refl

pub call_order : (found : Found) (fit : Option Bool) → InOrder (call_own found fit).broken
unfolding call_own
call_order f.Missing fit = refl
call_order (f.Variable bind kind) fit = refl
call_order (f.Callable bind result params) fit = call_with_order bind result fit
