-- Constants, by their 64-bit words; that of a pointer is its address. Numbers, characters, `sizeof` and the operators over integers and pointers
-- give them, and casts; a division without a quotient stops; everything else is none.
use Rattle.std.specs.Prelude.{ℕ, ◌==◌, Bool, true, false, ◌||◌, if◌then◌else◌, Option, None, Some}
use Rattle.mx_base.specs.declared.numbers.IntKind.{IntKind}
use Rattle.mx_base.specs.declared.numbers.IntKind.TheVariants.{U64}
use Rattle.mx_base.specs.Numbers.{value_of, word_of, extended}
use Rattle.mx_base.specs.Operators.{negated, inverted, is_zero, word_arithmetic, compares}
use Rattle.c_tree.specs.declared.operators.UnaryOp.{UnaryOp}
use Rattle.c_tree.specs.declared.operators.UnaryOp.TheVariants as u
use Rattle.c_tree.specs.declared.operators.Logical.{Logical}
use Rattle.c_tree.specs.declared.operators.Logical.TheVariants as l
use Rattle.c_tree.specs.declared.operators.BinaryOp.{BinaryOp}
use Rattle.c_tree.specs.declared.operators.BinaryOp.TheVariants as op
use Rattle.c_check_rules.specs.declared.kinds.Outer.{Outer}
use Rattle.c_check_rules.specs.declared.kinds.Outer.TheVariants as o
use Rattle.c_check_rules.specs.declared.constants.Constant.{Constant}
use Rattle.c_check_rules.specs.declared.constants.Constant.TheVariants as c

abbrev pub is_unsigned_long : IntKind → Bool
is_unsigned_long U64 = true
is_unsigned_long _ = false

abbrev pub truth_word : Bool → Constant
truth_word holds = if holds then c.Value 1 else c.Value 0

-- `-`, `~` and `!` of a word of a type; `*` and `&` give no constant
abbrev pub unary_word : UnaryOp → IntKind → ℕ → Constant
unary_word u.Neg k w = c.Value (word_of (negated k (value_of k w)))
unary_word u.BitNot k w = c.Value (word_of (inverted k (value_of k w)))
unary_word u.Not k w = truth_word (is_zero (value_of k w))
unary_word u.Deref k w = c.No
unary_word u.AddressOf k w = c.No

abbrev pub fold_unary : UnaryOp → IntKind → Constant → Constant
fold_unary f k (c.Value w) = unary_word f k w
fold_unary f k c.Stops = c.Stops
fold_unary f k c.No = c.No

abbrev pub answered : Option ℕ → Constant
answered None = c.Stops
answered (Some w) = c.Value w

abbrev pub truth : ℕ → Constant
truth w = if w == 0 then c.Value 0 else c.Value 1

abbrev pub truth_of : Constant → Constant
truth_of (c.Value w) = truth w
truth_of c.Stops = c.Stops
truth_of c.No = c.No

-- `&&` and `||`, whose right operand counts only where it is evaluated
abbrev pub both : ℕ → Constant → Constant
both w b = if w == 0 then c.Value 0 else truth_of b

abbrev pub either : ℕ → Constant → Constant
either w b = if w == 0 then truth_of b else c.Value 1

abbrev pub logical : Logical → ℕ → Constant → Constant
logical l.And w b = both w b
logical l.Or w b = either w b

abbrev pub fold_logic : Logical → Constant → Constant → Constant
fold_logic f c.No b = c.No
fold_logic f c.Stops c.No = c.No
fold_logic f c.Stops (c.Value v) = c.Stops
fold_logic f c.Stops c.Stops = c.Stops
fold_logic f (c.Value w) c.No = c.No
fold_logic f (c.Value w) (c.Value v) = logical f w (c.Value v)
fold_logic f (c.Value w) c.Stops = logical f w c.Stops

-- an operator on two words that are taken in the type k
abbrev pub binary_word : BinaryOp → IntKind → ℕ → ℕ → Constant
binary_word (op.Arithmetic f) k a b = answered (word_arithmetic f k a b)
binary_word (op.Comparison f) k a b = truth_word (compares f (value_of k a) (value_of k b))
binary_word (op.Logical f) k a b = logical f a (c.Value b)

abbrev pub fold_strict : BinaryOp → IntKind → Constant → Constant → Constant
fold_strict f k c.No b = c.No
fold_strict f k c.Stops c.No = c.No
fold_strict f k c.Stops (c.Value v) = c.Stops
fold_strict f k c.Stops c.Stops = c.Stops
fold_strict f k (c.Value w) c.No = c.No
fold_strict f k (c.Value w) c.Stops = c.Stops
fold_strict f k (c.Value w) (c.Value v) = binary_word f k w v

-- an operator of two operands, where k is the type in which they are taken
abbrev pub fold_binary : BinaryOp → IntKind → Constant → Constant → Constant
fold_binary (op.Arithmetic f) k a b = fold_strict (op.Arithmetic f) k a b
fold_binary (op.Comparison f) k a b = fold_strict (op.Comparison f) k a b
fold_binary (op.Logical f) k a b = fold_logic f a b

abbrev pub cast_form : Outer → ℕ → Constant
cast_form o.Void w = c.No
cast_form (o.Int k) w = c.Value (extended k w)
cast_form o.Pointer w = c.Value w
cast_form (o.Array n) w = c.No
cast_form (o.Struct n) w = c.No

-- a constant in another type
abbrev pub cast_constant : Outer → Constant → Constant
cast_constant form (c.Value w) = cast_form form w
cast_constant form c.Stops = c.Stops
cast_constant form c.No = c.No

abbrev pub is_no : Constant → Bool
is_no (c.Value w) = false
is_no c.Stops = false
is_no c.No = true

abbrev pub chosen : IntKind → Constant → Constant → Constant → Constant
chosen k (c.Value w) a b = cast_constant (o.Int k) (if w == 0 then b else a)
chosen k c.Stops a b = c.Stops
chosen k c.No a b = c.No

-- `?:` over values that become one of this type, a pointer being taken as a U64: all three are constants, and the one that is evaluated counts
abbrev pub choose : IntKind → Constant → Constant → Constant → Constant
choose k test a b = if is_no test || (is_no a || is_no b) then c.No else chosen k test a b
