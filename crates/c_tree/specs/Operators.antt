-- What the operators of expressions have in common.
use Rattle.std.specs.Prelude.{Bool, true, false}
use Rattle.c_tree.specs.declared.operators.BinaryOp.{BinaryOp}
use Rattle.c_tree.specs.declared.operators.BinaryOp.TheVariants as b

-- whether an operator may leave its right operand out: `&&` and `||`
abbrev pub is_logical : BinaryOp → Bool
is_logical (b.Arithmetic op) = false
is_logical (b.Comparison op) = false
is_logical (b.Logical op) = true
