-- What a node without broken rules adds to the notes: its type, and the meaning of its name if it has one.
use Rattle.std.proofs.Common.{◌≡◌, ℕ, ◌==◌, refl, ap, Bool, true, false, nat_lt, if◌then◌else◌, List, [], ◌∷◌, length}
use Rattle.std.specs.Prelude.{Option, None, Some}
use Rattle.mx_base.specs.declared.numbers.IntKind.{IntKind}
use Rattle.c_tree.specs.declared.tree.Base.{Base}
use Rattle.c_types.specs.Types.{CType, Pointer}
use Rattle.mx_base.specs.declared.operators.Arithmetic.{Arithmetic}
use Rattle.c_tree.specs.declared.operators.UnaryOp.{UnaryOp}
use Rattle.c_tree.specs.declared.operators.UnaryOp.TheVariants as u
use Rattle.c_tree.specs.declared.operators.BinaryOp.{BinaryOp}
use Rattle.c_check_rules.specs.declared.kinds.Outer.{Outer}
use Rattle.c_check_rules.specs.declared.kinds.Outer.TheVariants as o
use Rattle.c_check_rules.specs.declared.constants.Constant.{Constant}
use Rattle.c_check_rules.specs.declared.names.Scope.{Scope}
use Rattle.c_check_rules.specs.declared.names.StructInfo.{StructInfo}
use Rattle.c_check_rules.specs.declared.predeclared.Bind.{Bind}
use Rattle.c_check_rules.specs.declared.predeclared.Bind.TheVariants as d
use Rattle.c_check_rules.specs.declared.predeclared.Found.{Found}
use Rattle.c_check_rules.specs.declared.predeclared.Found.TheVariants as f
use Rattle.c_check_rules.specs.Sizes.{limit}
use Rattle.c_check_typing.specs.declared.typed.Typed.{Typed}
use Rattle.c_check_typing.specs.declared.typed.Notes.{Notes}
use Rattle.c_check_typing.specs.declared.fault.CheckKind.{CheckKind}
use Rattle.c_check_typing.specs.Notes.{Own, value, fine, wrong, judged, with_taken}
use Rattle.c_check_typing.specs.Rules.{base_kind, number_own, text_own, literal, named, function_named, name_own, sign_own, address_own, unary_own, of_kind, binary_own, choice_own, assign_own, step_own, index_own, member_own, arrow_own, cast_to, cast_own, starred, size_by, size_own, size_of_named, size_of_kind_own, call_with, call_own}
use Rattle.c_accepted.specs.Alike.{meanings_of}
use Rattle.c_accepted.proofs.Going.{added}

-- ---- nodes without broken rules

-- it has a value of this type, which it notes
pub record IsFine (own : Own) (bind : Option Bind) (kinds : CType → Type 0) : Type 0 where
  pub typed : Typed
  pub is : own.typed ≡ Some typed
  pub notes : (n : Notes) → meanings_of (own.noted n) ≡ added typed.kind bind (meanings_of n)
  pub kind : kinds typed.kind

abbrev pub any : CType → Type 0
any kind = Unit {0}

-- where it breaks no rule
abbrev pub Fine : Own → Type 0
Fine own = own.broken ≡ [] → IsFine own None any

fine_fine : (t : Typed) → Fine (fine t)
fine_fine t h = record { typed = t; is = refl; notes = λ n. refl; kind = tt }

fine_wrong : (kind : CheckKind) → Fine (wrong (kind ∷ []))
fine_wrong kind h = cc

fine_either : (b : Bool) (own other : Own) → Fine own → Fine other → Fine (if b then own else other)
fine_either true own other h k = h
fine_either false own other h k = k

judged_fine : (kinds : List CheckKind) (t : Typed) (good : CType → Type 0) → good t.kind → (judged kinds t).broken ≡ [] → IsFine (judged kinds t) None good
judged_fine [] t good g h = record { typed = t; is = refl; notes = λ n. refl; kind = g }
judged_fine (k ∷ more) t good g h = cc

of_kind_fine : (kind : Option CType) (constant : Constant) → Fine (of_kind kind constant)
of_kind_fine None constant h = cc
of_kind_fine (Some kind) constant h = fine_fine (value kind constant) h

-- ---- numbers and texts

pub number_fine : (n : ℕ) (kind : IntKind) → Fine (number_own n kind)
number_fine n kind = fine_fine _

literal_fine : (bytes : List ℕ) (t : Typed) → Fine (literal bytes t)
literal_fine bytes t h = record { typed = t; is = refl; notes = λ n. refl; kind = tt }

pub text_fine : (bytes : List ℕ) → Fine (text_own bytes)
unfolding text_own
text_fine bytes = fine_either (nat_lt (length bytes) limit) _ _ (literal_fine bytes _) (fine_wrong _)

-- ---- operators of one operand

sign_fine : (op : UnaryOp) (form : Outer) (constant : Constant) → Fine (sign_own op form constant)
sign_fine op o.Void constant = fine_wrong _
sign_fine op (o.Int k) constant = fine_fine _
sign_fine op o.Pointer constant = fine_wrong _
sign_fine op (o.Array count) constant = fine_wrong _
sign_fine op (o.Struct number) constant = fine_wrong _

taken_notes : (local : Option ℕ) (n : Notes) → meanings_of (with_taken local n) ≡ meanings_of n
taken_notes None n = refl
taken_notes (Some local) n = refl

address_fine : (a : Typed) → Fine (address_own a)
address_fine a = fine_either a.is_place _ _ (λ h. record { typed = value (Pointer a.kind) _; is = refl; notes = λ n. ap (added (Pointer a.kind) None) (taken_notes a.local n); kind = tt }) (fine_wrong _)

pub unary_fine : (structs : List StructInfo) (op : UnaryOp) (a : Typed) → Fine (unary_own structs op a)
unfolding unary_own
unary_fine structs u.Neg a = sign_fine u.Neg _ a.constant
unary_fine structs u.BitNot a = sign_fine u.BitNot _ a.constant
unary_fine structs u.Not a = fine_either _ _ _ (fine_fine _) (fine_wrong _)
unary_fine structs u.Deref a = fine_either _ _ _ (fine_fine _) (fine_wrong _)
unary_fine structs u.AddressOf a = address_fine a

-- ---- operators of two and three operands

pub binary_fine : (structs : List StructInfo) (op : BinaryOp) (a e : Typed) → Fine (binary_own structs op a e)
unfolding binary_own
binary_fine structs op a e = of_kind_fine _ _

pub choice_fine : (test a e : Typed) → Fine (choice_own test a e)
unfolding choice_own
choice_fine test a e = fine_either _ _ _ (of_kind_fine _ _) (fine_wrong _)

-- ---- assignments

pub assign_fine : (structs : List StructInfo) (op : Option Arithmetic) (a e : Typed) → (assign_own structs op a e).broken ≡ [] → IsFine (assign_own structs op a e) None (λ kind. a.kind ≡ kind)
unfolding assign_own
assign_fine structs op a e h = judged_fine _ _ (λ kind. a.kind ≡ kind) refl h

pub step_fine : (structs : List StructInfo) (a : Typed) → (step_own structs a).broken ≡ [] → IsFine (step_own structs a) None (λ kind. a.kind ≡ kind)
unfolding step_own
step_fine structs a h = judged_fine _ _ (λ kind. a.kind ≡ kind) refl h

-- ---- elements and members

pub index_fine : (structs : List StructInfo) (a i : Typed) → Fine (index_own structs a i)
unfolding index_own
index_fine structs a i = fine_either _ _ _ (fine_fine _) (fine_wrong _)

pub member_fine : (structs : List StructInfo) (name : List ℕ) (a : Typed) → Fine (member_own structs name a)
unfolding member_own
member_fine structs name a h = judged_fine _ _ any tt h

pub arrow_fine : (structs : List StructInfo) (name : List ℕ) (a : Typed) → Fine (arrow_own structs name a)
unfolding arrow_own
arrow_fine structs name a h = judged_fine _ _ any tt h

-- ---- casts and `sizeof`

cast_to_fine : (kind : Option CType) (stars : ℕ) (a : Typed) → Fine (cast_to kind stars (Some a))
cast_to_fine None stars a = fine_wrong _
cast_to_fine (Some kind) stars a = fine_either _ _ _ (fine_fine _) (fine_wrong _)

pub cast_fine : (scope : Scope) (base : Base) (stars : ℕ) (a : Typed) → Fine (cast_own scope base stars (Some a))
unfolding cast_own
cast_fine scope base stars a = cast_to_fine (base_kind scope base) stars a

size_by_fine : (size : Option ℕ) → Fine (size_by size)
size_by_fine None = fine_wrong _
size_by_fine (Some size) = fine_fine _

pub size_fine : (structs : List StructInfo) (kind : CType) → Fine (size_own structs kind)
unfolding size_own
size_fine structs kind = size_by_fine _

size_named_fine : (structs : List StructInfo) (stars : ℕ) (kind : Option CType) → Fine (size_of_named structs stars kind)
size_named_fine structs stars None = fine_wrong _
size_named_fine structs stars (Some kind) = size_fine structs (starred stars kind)

pub size_of_kind_fine : (scope : Scope) (base : Base) (stars : ℕ) → Fine (size_of_kind_own scope base stars)
unfolding size_of_kind_own
size_of_kind_fine scope base stars = size_named_fine scope.structs stars (base_kind scope base)

-- ---- names and calls

-- a node with a name, which is bound to something
pub record FineName (own : Own) : Type 0 where
  pub bind : Bind
  pub fine : IsFine own (Some bind) any

named_fine : (bind : Bind) (t : Typed) → FineName (named bind t)
named_fine bind t = record { bind = bind; fine = record { typed = t; is = refl; notes = λ n. refl; kind = tt } }

function_fine : (functions : Bool) (bind : Bind) → (function_named functions bind).broken ≡ [] → FineName (function_named functions bind)
function_fine true (d.Fun number) h = named_fine (d.Fun number) _
function_fine true (d.Global number) h = cc
function_fine true (d.Local number) h = cc
function_fine true (d.Service service) h = cc
function_fine true (d.Builtin builtin) h = cc
function_fine false bind h = cc

pub name_fine : (functions : Bool) (found : Found) → (name_own functions found).broken ≡ [] → FineName (name_own functions found)
unfolding name_own
name_fine functions f.Missing h = cc
name_fine functions (f.Variable bind kind) h = named_fine bind _
name_fine functions (f.Callable bind result params) h = function_fine functions bind h

-- of a call nothing is known where nothing is known of its arguments
call_with_fine : (bind : Bind) (result : CType) (fits : Bool) → (call_with bind result (Some fits)).broken ≡ [] → FineName (call_with bind result (Some fits))
call_with_fine bind result true h = named_fine bind _
call_with_fine bind result false h = cc

pub call_fine : (found : Found) (fits : Bool) → (call_own found (Some fits)).broken ≡ [] → FineName (call_own found (Some fits))
unfolding call_own
call_fine f.Missing fits h = cc
call_fine (f.Variable bind kind) fits h = cc
call_fine (f.Callable bind result params) fits h = call_with_fine bind result fits h
