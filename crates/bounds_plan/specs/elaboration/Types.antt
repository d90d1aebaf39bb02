-- The values of C by their types, and the conversions between types (C: 6.3, 6.5.3 to 6.5.15).
use Rattle.std.specs.Prelude.{ℕ, nat_le, nat_lt, Bool, true, false, if◌then◌else◌, List}
use Rattle.mx_base.specs.declared.numbers.IntKind.{IntKind}
use Rattle.mx_base.specs.declared.numbers.IntKind.TheVariants.{I8, U8, I16, U16, I32, U32, I64, U64}
use Rattle.mx_base.specs.Numbers.{is_signed}
use Rattle.mx_base.specs.declared.operators.Arithmetic.{Arithmetic}
use Rattle.mx_base.specs.declared.operators.Arithmetic.TheVariants.{Mul, Div, Rem, Add, Sub, Shl, Shr, BitAnd, BitXor, BitOr}
use Rattle.c_types.specs.Types.{CType, Void, Int, Pointer, Array, Struct, StructType}
use Rattle.c_types.specs.Layouts.{width, layout_of}
use Rattle.bounds_plan.specs.meaning.Core.{NumberExpr, Convert, AsNumber, PointerExpr, Null, FromInteger}

-- ---- values

-- the value of an expression. Of an array or a struct that is its address, so an array used as a value is a pointer to its first element;
-- a call without result is a number that nobody asks for
pub data Value : Type 0 where
  Numeric : NumberExpr → Value
  Address : PointerExpr → Value

-- a pointer as a number is its address
abbrev pub number_in : Value → NumberExpr
number_in (Numeric e) = e
number_in (Address p) = AsNumber p

-- an integer as a pointer: its 64-bit word, with full bounds
abbrev pub pointer_in : Value → PointerExpr
pointer_in (Numeric e) = FromInteger e
pointer_in (Address p) = p

-- what the values of a type are
pub data Sort : Type 0 where
  ANumber : IntKind → Sort
  APointer : Sort
  -- an array or a struct
  AWhole : Sort
  -- none
  NoValue : Sort

abbrev pub sort_of : CType → Sort
sort_of Void = NoValue
sort_of (Int kind) = ANumber kind
sort_of (Pointer target) = APointer
sort_of (Array element count) = AWhole
sort_of (Struct number) = AWhole

abbrev pub is_array : CType → Bool
is_array Void = false
is_array (Int kind) = false
is_array (Pointer target) = false
is_array (Array element count) = true
is_array (Struct number) = false

-- the type in which a value is a number: an address is an `unsigned long`
abbrev pub kind_of : CType → IntKind
kind_of Void = U64
kind_of (Int kind) = kind
kind_of (Pointer target) = U64
kind_of (Array element count) = U64
kind_of (Struct number) = U64

-- what a pointer points to, and what an array has
abbrev pub target_of : CType → CType
target_of Void = Void
target_of (Int kind) = Void
target_of (Pointer target) = target
target_of (Array element count) = element
target_of (Struct number) = Void

abbrev pub size_in : List StructType → CType → ℕ
size_in structs type = (layout_of structs type).size

-- the size of what a pointer points to
abbrev pub step_in : List StructType → CType → ℕ
step_in structs type = size_in structs (target_of type)

-- ---- the types of arithmetic

-- `char` and `short` and their unsigned forms become `int`
abbrev pub promoted : IntKind → IntKind
promoted I8 = I32
promoted U8 = I32
promoted I16 = I32
promoted U16 = I32
promoted I32 = I32
promoted U32 = U32
promoted I64 = I64
promoted U64 = U64

-- of two types that arithmetic is done in the wider one, and at equal width the unsigned one
abbrev pub joined : IntKind → IntKind → IntKind
joined a b = if nat_lt (width a) (width b) then b else if nat_lt (width b) (width a) then a else if is_signed a then b else a

abbrev pub common : IntKind → IntKind → IntKind
common a b = joined (promoted a) (promoted b)

-- a shift is done in the type of its left operand
abbrev pub done_in : Arithmetic → IntKind → IntKind → IntKind
done_in Mul a b = common a b
done_in Div a b = common a b
done_in Rem a b = common a b
done_in Add a b = common a b
done_in Sub a b = common a b
done_in Shl a b = promoted a
done_in Shr a b = promoted a
done_in BitAnd a b = common a b
done_in BitXor a b = common a b
done_in BitOr a b = common a b

-- ---- conversions

-- every number of the first type is one of the second
abbrev pub keeps : (from to : IntKind) → Bool
keeps from to = if is_signed from then (if is_signed to then nat_le (width from) (width to) else false)
    else if is_signed to then nat_lt (width from) (width to) else nat_le (width from) (width to)

-- a number of one integer type in another: its word stays where no number is lost, and is wrapped to the type elsewhere
abbrev pub converted : (from to : IntKind) → NumberExpr → NumberExpr
converted from to e = if keeps from to then e else Convert to e

-- the right operand of a shift stays as it is: its count is taken modulo 64 or 32
abbrev pub right_operand : Arithmetic → (from to : IntKind) → NumberExpr → NumberExpr
right_operand Mul from to e = converted from to e
right_operand Div from to e = converted from to e
right_operand Rem from to e = converted from to e
right_operand Add from to e = converted from to e
right_operand Sub from to e = converted from to e
right_operand Shl from to e = e
right_operand Shr from to e = e
right_operand BitAnd from to e = converted from to e
right_operand BitXor from to e = converted from to e
right_operand BitOr from to e = converted from to e

-- a pointer where one is wanted: the only number that may stand there is 0, the null constant
abbrev pub wanted_pointer : Value → PointerExpr
wanted_pointer (Numeric e) = Null
wanted_pointer (Address p) = p

-- the conversion of assignments, initialisers, arguments and `return`
abbrev pub given_as : Sort → (from : CType) → Value → Value
given_as (ANumber kind) from v = Numeric (converted (kind_of from) kind (number_in v))
given_as APointer from v = Address (wanted_pointer v)
given_as AWhole from v = v
given_as NoValue from v = v

abbrev pub given : (to from : CType) → Value → Value
given to from v = given_as (sort_of to) from v

-- the conversion of a cast
abbrev pub cast_as : Sort → (from : CType) → Value → Value
cast_as (ANumber kind) from v = Numeric (converted (kind_of from) kind (number_in v))
cast_as APointer from v = Address (pointer_in v)
cast_as AWhole from v = v
cast_as NoValue from v = v

abbrev pub cast_to : (to from : CType) → Value → Value
cast_to to from v = cast_as (sort_of to) from v
