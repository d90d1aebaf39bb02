-- The code of values, places and conversions, by facts of what they are made of.
use Rattle.std.proofs.Common.{◌≡◌, ℕ, Bool, true, false, if◌then◌else◌, List, [], ◌∷◌, ◌++◌, refl, sym, ap, ◌∙◌}
use Rattle.std.proofs.lemmas.List.{append-nil}
use Rattle.mx_base.specs.declared.numbers.IntKind.{IntKind}
use Rattle.mx_base.specs.declared.places.Place.{Place}
use Rattle.mx_base.specs.declared.operators.Arithmetic.{Arithmetic}
use Rattle.mx_base.specs.declared.operators.Arithmetic.TheVariants.{Mul, Div, Rem, Add, Sub, Shl, Shr, BitAnd, BitXor, BitOr}
use Rattle.c_types.specs.Types.{CType, Void, Int, Pointer, Array, Struct}
use Rattle.fat_ir.specs.declared.step.FatStep.{FatStep}
use Rattle.fat_ir.specs.declared.step.FatStep.TheVariants as s
use Rattle.bounds_plan.specs.meaning.Core.{NumberExpr, Convert}
use Rattle.bounds_plan.specs.steps.Code.{labels, labels_ptr, code, code_ptr}
use Rattle.bounds_plan.specs.elaboration.Types.{Value, Numeric, Address, Sort, ANumber, APointer, AWhole, NoValue, sort_of, kind_of, number_in, pointer_in, keeps, converted, right_operand, wanted_pointer, given_as}
use Rattle.bounds_plan.specs.elaboration.Places.{Lvalue, NumberVariable, PointerVariable, InMemory, read_as}
use Rattle.bounds_plan.specs.elaboration.Source.{Reached}
use Rattle.bounds_plan.specs.elaboration.Expressions.{no_place, a_place}
use Rattle.steps_facts.specs.Seen.{sorted, kind_in, is_number, spot_of}
use Rattle.steps_pieces.specs.Wanted.{code_value, labels_value, code_lvalue, labels_lvalue, code_wanted, labels_wanted, ending, addressing, extending, read_unless, reading, code_pointer, labels_pointer, code_given, labels_given}
use Rattle.steps_pieces.specs.Own.{right_extending}

pub kind_by : (t : CType) → kind_of t ≡ kind_in (sorted (sort_of t))
kind_by Void = refl
kind_by (Int kind) = refl
kind_by (Pointer target) = refl
kind_by (Array element count) = refl
kind_by (Struct number) = refl

-- ---- what is wanted

pub ended : (w : Bool) (t : CType) (v : Value) (p : Place) (r : Reached) (d l : ℕ) → code_wanted w (no_place t v p r) d l ≡ code_value v d l ++ ending w (is_number v) d
ended true t (Numeric e) p r d l = refl
ended true t (Address q) p r d l = sym (append-nil (code_ptr q d l))
ended false t v p r d l = sym (append-nil (code_value v d l))

pub ended_labels : (w : Bool) (t : CType) (v : Value) (p : Place) (r : Reached) → labels_wanted w (no_place t v p r) ≡ labels_value v
ended_labels true t (Numeric e) p r = refl
ended_labels true t (Address q) p r = refl
ended_labels false t v p r = refl

read_by : (t : Sort) (lv : Lvalue) (p : Place) (d l : ℕ) → code_value (read_as t p lv) d l ≡ code_lvalue lv d l ++ reading (spot_of lv) (sorted t) p d
read_by t (NumberVariable x) p d l = refl
read_by t (PointerVariable x) p d l = refl
read_by (ANumber kind) (InMemory q) p d l = refl
read_by APointer (InMemory q) p d l = refl
read_by AWhole (InMemory q) p d l = sym (append-nil (code_ptr q d l))
read_by NoValue (InMemory q) p d l = sym (append-nil (code_ptr q d l))

pub read : (w : Bool) (t : CType) (lv : Lvalue) (p : Place) (r : Reached) (d l : ℕ) → code_wanted w (a_place t lv p r) d l ≡ code_lvalue lv d l ++ read_unless w (spot_of lv) (sorted (sort_of t)) p d
read true t lv p r d l = sym (append-nil (code_lvalue lv d l))
read false t lv p r d l = read_by (sort_of t) lv p d l

labels_read : (t : Sort) (lv : Lvalue) (p : Place) → labels_value (read_as t p lv) ≡ labels_lvalue lv
labels_read t (NumberVariable x) p = refl
labels_read t (PointerVariable x) p = refl
labels_read (ANumber kind) (InMemory q) p = refl
labels_read APointer (InMemory q) p = refl
labels_read AWhole (InMemory q) p = refl
labels_read NoValue (InMemory q) p = refl

pub read_labels : (w : Bool) (t : CType) (lv : Lvalue) (p : Place) (r : Reached) → labels_wanted w (a_place t lv p r) ≡ labels_lvalue lv
read_labels true t lv p r = refl
read_labels false t lv p r = labels_read (sort_of t) lv p

-- ---- conversions

pub number_code : (v : Value) (d l : ℕ) → code (number_in v) d l ≡ code_value v d l
number_code (Numeric e) d l = refl
number_code (Address q) d l = refl

pub number_labels : (v : Value) → labels (number_in v) ≡ labels_value v
number_labels (Numeric e) = refl
number_labels (Address q) = refl

pub address_code : (v : Value) (d l : ℕ) → code_ptr (pointer_in v) d l ≡ code_value v d l ++ addressing (is_number v) d
address_code (Numeric e) d l = refl
address_code (Address q) d l = sym (append-nil (code_ptr q d l))

pub address_labels : (v : Value) → labels_ptr (pointer_in v) ≡ labels_value v
address_labels (Numeric e) = refl
address_labels (Address q) = refl

if_code : (b : Bool) (to : IntKind) (e : NumberExpr) (d l : ℕ) → code (if b then e else Convert to e) d l ≡ code e d l ++ (if b then [] else (s.Extend d d to ∷ []))
if_code true to e d l = sym (append-nil (code e d l))
if_code false to e d l = refl

if_labels : (b : Bool) (to : IntKind) (e : NumberExpr) → labels (if b then e else Convert to e) ≡ labels e
if_labels true to e = refl
if_labels false to e = refl

pub converted_code : (from to : IntKind) (e : NumberExpr) (d l : ℕ) → code (converted from to e) d l ≡ code e d l ++ extending from to d
converted_code from to e d l = if_code (keeps from to) to e d l

pub converted_labels : (from to : IntKind) (e : NumberExpr) → labels (converted from to e) ≡ labels e
converted_labels from to e = if_labels (keeps from to) to e

pub right_code : (op : Arithmetic) (from to : IntKind) (e : NumberExpr) (d l : ℕ) → code (right_operand op from to e) d l ≡ code e d l ++ right_extending op from to d
right_code Mul from to e d l = converted_code from to e d l
right_code Div from to e d l = converted_code from to e d l
right_code Rem from to e d l = converted_code from to e d l
right_code Add from to e d l = converted_code from to e d l
right_code Sub from to e d l = converted_code from to e d l
right_code Shl from to e d l = sym (append-nil (code e d l))
right_code Shr from to e d l = sym (append-nil (code e d l))
right_code BitAnd from to e d l = converted_code from to e d l
right_code BitXor from to e d l = converted_code from to e d l
right_code BitOr from to e d l = converted_code from to e d l

pub right_labels : (op : Arithmetic) (from to : IntKind) (e : NumberExpr) → labels (right_operand op from to e) ≡ labels e
right_labels Mul from to e = converted_labels from to e
right_labels Div from to e = converted_labels from to e
right_labels Rem from to e = converted_labels from to e
right_labels Add from to e = converted_labels from to e
right_labels Sub from to e = converted_labels from to e
right_labels Shl from to e = refl
right_labels Shr from to e = refl
right_labels BitAnd from to e = converted_labels from to e
right_labels BitXor from to e = converted_labels from to e
right_labels BitOr from to e = converted_labels from to e

-- the number of any value
pub number_right : (op : Arithmetic) (from to : IntKind) (v : Value) (d l : ℕ) → code (right_operand op from to (number_in v)) d l ≡ code_value v d l ++ right_extending op from to d
number_right op from to v d l = right_code op from to (number_in v) d l ∙ ap (λ (c : List FatStep). c ++ right_extending op from to d) (number_code v d l)

pub number_right_labels : (op : Arithmetic) (from to : IntKind) (v : Value) → labels (right_operand op from to (number_in v)) ≡ labels_value v
number_right_labels op from to v = right_labels op from to (number_in v) ∙ number_labels v

-- ---- a value where one of a sort is wanted

pub pointer_code : (v : Value) (d l : ℕ) → code_ptr (wanted_pointer v) d l ≡ code_pointer v d l
pointer_code (Numeric e) d l = refl
pointer_code (Address q) d l = refl

pub pointer_labels : (v : Value) → labels_ptr (wanted_pointer v) ≡ labels_pointer v
pointer_labels (Numeric e) = refl
pointer_labels (Address q) = refl

pub number_given : (from to : IntKind) (v : Value) (d l : ℕ) → code (converted from to (number_in v)) d l ≡ code_value v d l ++ extending from to d
number_given from to v d l = converted_code from to (number_in v) d l ∙ ap (λ (c : List FatStep). c ++ extending from to d) (number_code v d l)

pub number_given_labels : (from to : IntKind) (v : Value) → labels (converted from to (number_in v)) ≡ labels_value v
number_given_labels from to v = converted_labels from to (number_in v) ∙ number_labels v

pub given_code : (to : Sort) (t : CType) (v : Value) (d l : ℕ) → code_value (given_as to t v) d l ≡ code_given (sorted to) (kind_of t) v d l
given_code (ANumber kind) t v d l = number_given (kind_of t) kind v d l
given_code APointer t v d l = pointer_code v d l
given_code AWhole t v d l = refl
given_code NoValue t v d l = refl

pub given_labels : (to : Sort) (t : CType) (v : Value) → labels_value (given_as to t v) ≡ labels_given (sorted to) v
given_labels (ANumber kind) t v = number_given_labels (kind_of t) kind v
given_labels APointer t v = pointer_labels v
given_labels AWhole t v = refl
given_labels NoValue t v = refl
