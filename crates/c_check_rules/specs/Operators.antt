-- What sets operators that calculate apart in the rules of types.
use Rattle.std.specs.Prelude.{Bool, true, false}
use Rattle.mx_base.specs.declared.operators.Arithmetic.{Arithmetic}
use Rattle.mx_base.specs.declared.operators.Arithmetic.TheVariants.{Mul, Div, Rem, Add, Sub, Shl, Shr, BitAnd, BitXor, BitOr}

-- a shift is done in the type of its left operand
abbrev pub shifts : Arithmetic → Bool
shifts Mul = false
shifts Div = false
shifts Rem = false
shifts Add = false
shifts Sub = false
shifts Shl = true
shifts Shr = true
shifts BitAnd = false
shifts BitXor = false
shifts BitOr = false

-- `-` takes a number away from a pointer, or a pointer from another
abbrev pub takes_away : Arithmetic → Bool
takes_away Mul = false
takes_away Div = false
takes_away Rem = false
takes_away Add = false
takes_away Sub = true
takes_away Shl = false
takes_away Shr = false
takes_away BitAnd = false
takes_away BitXor = false
takes_away BitOr = false

-- `+` and `-` move a pointer by a number of its targets
abbrev pub moves : Arithmetic → Bool
moves Mul = false
moves Div = false
moves Rem = false
moves Add = true
moves Sub = true
moves Shl = false
moves Shr = false
moves BitAnd = false
moves BitXor = false
moves BitOr = false
