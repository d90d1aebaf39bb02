-- Which types conversions, operators and casts take and give. A type is judged by its outermost form; an array that is used as a value has become
-- a pointer to its elements first.
use Rattle.std.specs.Prelude.{Bool, true, false, ◌&&◌, ◌||◌, ◌==◌, if◌then◌else◌, List, Option, None, Some}
use Rattle.mx_base.specs.declared.numbers.IntKind.{IntKind}
use Rattle.mx_base.specs.declared.numbers.IntKind.TheVariants.{I8, U8, I16, U16, I32, U32, I64, U64}
use Rattle.mx_base.specs.declared.operators.Arithmetic.{Arithmetic}
use Rattle.mx_base.specs.declared.operators.Arithmetic.TheVariants.{Mul, Div, Rem, Add, Sub, Shl, Shr, BitAnd, BitXor, BitOr}
use Rattle.c_tree.specs.declared.operators.BinaryOp.{BinaryOp}
use Rattle.c_tree.specs.declared.operators.BinaryOp.TheVariants as op
use Rattle.c_types.specs.Types.{CType, Int}
use Rattle.c_check_rules.specs.declared.kinds.Outer.{Outer}
use Rattle.c_check_rules.specs.declared.kinds.Outer.TheVariants as o
use Rattle.c_check_rules.specs.declared.names.StructInfo.{StructInfo}
use Rattle.c_check_rules.specs.Kinds.{outer_of, inner_of, same_kinds}
use Rattle.c_check_rules.specs.Sizes.{is_sized}

-- `char` and `short` forms become `int` (C: 6.3.1.1)
abbrev pub promoted : IntKind → IntKind
promoted I8 = I32
promoted U8 = I32
promoted I16 = I32
promoted U16 = I32
promoted I32 = I32
promoted U32 = U32
promoted I64 = I64
promoted U64 = U64

-- the wider of two promoted types; at equal width the unsigned one (C: 6.3.1.8)
abbrev pub wider : IntKind → IntKind → IntKind
wider U64 l = U64
wider I64 U64 = U64
wider I64 l = I64
wider U32 U64 = U64
wider U32 I64 = I64
wider U32 l = U32
wider k l = l

-- the type in which two integers meet
abbrev pub common : IntKind → IntKind → IntKind
common k l = wider (promoted k) (promoted l)

abbrev pub is_scalar_form : Outer → Bool
is_scalar_form o.Void = false
is_scalar_form (o.Int kind) = true
is_scalar_form o.Pointer = true
is_scalar_form (o.Array count) = false
is_scalar_form (o.Struct number) = false

abbrev pub is_integer_form : Outer → Bool
is_integer_form o.Void = false
is_integer_form (o.Int kind) = true
is_integer_form o.Pointer = false
is_integer_form (o.Array count) = false
is_integer_form (o.Struct number) = false

-- integers and pointers
abbrev pub is_scalar : CType → Bool
is_scalar t = is_scalar_form (outer_of t)

abbrev pub is_void_form : Outer → Bool
is_void_form o.Void = true
is_void_form (o.Int kind) = false
is_void_form o.Pointer = false
is_void_form (o.Array count) = false
is_void_form (o.Struct number) = false

abbrev pub is_void : CType → Bool
is_void t = is_void_form (outer_of t)

abbrev pub is_void_pointer_form : Outer → CType → Bool
is_void_pointer_form o.Void t = false
is_void_pointer_form (o.Int kind) t = false
is_void_pointer_form o.Pointer t = is_void (inner_of t)
is_void_pointer_form (o.Array count) t = false
is_void_pointer_form (o.Struct number) t = false

-- `void *`
abbrev pub is_void_pointer : CType → Bool
is_void_pointer t = is_void_pointer_form (outer_of t) t

-- two pointers of one type, or one of them to `void`
abbrev pub meet_as_pointers : CType → CType → Bool
meet_as_pointers a b = same_kinds a b || (is_void_pointer a || is_void_pointer b)

-- whether a value of a type becomes one of another by assignment, as an argument or by `return`: integers to integers, a pointer to one of the
-- same type, any pointer to or from `void *`, and the number 0 to a pointer
abbrev pub converts_form : Outer → Outer → (target source : CType) → (zero : Bool) → Bool
converts_form (o.Int k) source_form target source zero = is_integer_form source_form
converts_form o.Pointer (o.Int l) target source zero = zero
converts_form o.Pointer o.Pointer target source zero = meet_as_pointers target source
converts_form _ _ target source zero = false

abbrev pub converts : (target source : CType) → (zero : Bool) → Bool
converts target source zero = converts_form (outer_of target) (outer_of source) target source zero

abbrev pub fits_struct_form : Outer → Outer → Bool
fits_struct_form (o.Struct n) (o.Struct m) = n == m
fits_struct_form _ _ = false

-- a struct becomes one of the same struct
abbrev pub fits_struct : CType → CType → Bool
fits_struct target source = fits_struct_form (outer_of target) (outer_of source)

-- a cast goes from an integer or pointer type to an integer or pointer type
abbrev pub cast_fits : CType → CType → Bool
cast_fits target source = is_scalar target && is_scalar source

-- ---- operators of two operands

abbrev pub product_form : Outer → Outer → Option CType
product_form (o.Int k) (o.Int l) = Some (Int (common k l))
product_form _ _ = None

abbrev pub shift_form : Outer → Outer → Option CType
shift_form (o.Int k) (o.Int l) = Some (Int (promoted k))
shift_form _ _ = None

-- a pointer that numbers are added to: its target has a size
abbrev pub stepped : List StructInfo → CType → Option CType
stepped structs t = if is_sized structs (inner_of t) then Some t else None

abbrev pub sum_form : List StructInfo → Outer → Outer → CType → CType → Option CType
sum_form structs (o.Int k) (o.Int l) a b = Some (Int (common k l))
sum_form structs o.Pointer (o.Int l) a b = stepped structs a
sum_form structs (o.Int k) o.Pointer a b = stepped structs b
sum_form structs _ _ a b = None

abbrev pub difference_form : List StructInfo → Outer → Outer → CType → CType → Option CType
difference_form structs (o.Int k) (o.Int l) a b = Some (Int (common k l))
difference_form structs o.Pointer (o.Int l) a b = stepped structs a
difference_form structs o.Pointer o.Pointer a b = if same_kinds a b && is_sized structs (inner_of a) then Some (Int I64) else None
difference_form structs _ _ a b = None

abbrev pub compared_form : Outer → Outer → (a b : CType) → (zero_a zero_b : Bool) → Bool
compared_form (o.Int k) (o.Int l) a b zero_a zero_b = true
compared_form (o.Int k) o.Pointer a b zero_a zero_b = zero_a
compared_form o.Pointer (o.Int l) a b zero_a zero_b = zero_b
compared_form o.Pointer o.Pointer a b zero_a zero_b = meet_as_pointers a b
compared_form _ _ a b zero_a zero_b = false

abbrev pub answers_int : Bool → Option CType
answers_int true = Some (Int I32)
answers_int false = None

-- the type of an operator that calculates, over operands of which neither is an array; None where it takes no such operands
abbrev pub arithmetic_kind : List StructInfo → Arithmetic → (a b : CType) → Option CType
arithmetic_kind structs Mul a b = product_form (outer_of a) (outer_of b)
arithmetic_kind structs Div a b = product_form (outer_of a) (outer_of b)
arithmetic_kind structs Rem a b = product_form (outer_of a) (outer_of b)
arithmetic_kind structs Add a b = sum_form structs (outer_of a) (outer_of b) a b
arithmetic_kind structs Sub a b = difference_form structs (outer_of a) (outer_of b) a b
arithmetic_kind structs Shl a b = shift_form (outer_of a) (outer_of b)
arithmetic_kind structs Shr a b = shift_form (outer_of a) (outer_of b)
arithmetic_kind structs BitAnd a b = product_form (outer_of a) (outer_of b)
arithmetic_kind structs BitXor a b = product_form (outer_of a) (outer_of b)
arithmetic_kind structs BitOr a b = product_form (outer_of a) (outer_of b)

-- the same of each operator between two operands: one that compares and one of `&&` and `||` gives an `int`
abbrev pub binary_kind : List StructInfo → BinaryOp → (a b : CType) → (zero_a zero_b : Bool) → Option CType
binary_kind structs (op.Arithmetic f) a b zero_a zero_b = arithmetic_kind structs f a b
binary_kind structs (op.Comparison f) a b zero_a zero_b = answers_int (compared_form (outer_of a) (outer_of b) a b zero_a zero_b)
binary_kind structs (op.Logical f) a b zero_a zero_b = answers_int (is_scalar a && is_scalar b)

-- of two pointers of one type that type, and `void *` where one of them is that
abbrev pub joined : CType → CType → Option CType
joined a b = if same_kinds a b then Some a else if is_void_pointer a then Some a else if is_void_pointer b then Some b else None

abbrev pub choice_form : Outer → Outer → (a b : CType) → (zero_a zero_b : Bool) → Option CType
choice_form (o.Int k) (o.Int l) a b zero_a zero_b = Some (Int (common k l))
choice_form (o.Int k) o.Pointer a b zero_a zero_b = if zero_a then Some b else None
choice_form o.Pointer (o.Int l) a b zero_a zero_b = if zero_b then Some a else None
choice_form o.Pointer o.Pointer a b zero_a zero_b = joined a b
choice_form _ _ a b zero_a zero_b = None

-- the type of `?:` over two values
abbrev pub choice_kind : (a b : CType) → (zero_a zero_b : Bool) → Option CType
choice_kind a b zero_a zero_b = choice_form (outer_of a) (outer_of b) a b zero_a zero_b
