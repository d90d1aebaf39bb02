-- The operators of expressions by what they do, and what is known of their results.
use Rattle.std.specs.Prelude.{ℕ, Bool, true, false, if◌then◌else◌, ◌+◌}
use Rattle.mx_base.specs.declared.operators.Arithmetic.{Arithmetic}
use Rattle.mx_base.specs.declared.operators.Arithmetic.TheVariants.{Add, Sub}
use Rattle.c_tree.specs.declared.operators.UnaryOp.{UnaryOp}
use Rattle.c_tree.specs.declared.operators.UnaryOp.TheVariants as u
use Rattle.c_tree.specs.declared.operators.Logical.TheVariants as l
use Rattle.c_tree.specs.declared.operators.BinaryOp.{BinaryOp}
use Rattle.c_tree.specs.declared.operators.BinaryOp.TheVariants as j

-- ---- operators on one operand: `-`, `~`, `!`, `*`, `&`

-- `&` wants the place of its operand, and the others its value
abbrev pub takes_place : UnaryOp → Bool
takes_place u.Neg = false
takes_place u.BitNot = false
takes_place u.Not = false
takes_place u.Deref = false
takes_place u.AddressOf = true

-- ---- operators on two operands

abbrev pub same : (a b : Bool) → Bool
same true true = true
same true false = false
same false true = false
same false false = true

-- whether the result is a number: the sum of a pointer and a number is none
abbrev pub gives_number : BinaryOp → (a b : Bool) → Bool
gives_number (j.Arithmetic op) a b = same a b
gives_number (j.Comparison op) a b = true
gives_number (j.Logical op) a b = true

-- how many labels it takes, and where its right operand goes
abbrev pub joint_labels : BinaryOp → ℕ
joint_labels (j.Arithmetic op) = 0
joint_labels (j.Comparison op) = 0
joint_labels (j.Logical l.And) = 3
joint_labels (j.Logical l.Or) = 2

abbrev pub second_at : BinaryOp → (d : ℕ) → ℕ
second_at (j.Arithmetic op) d = d + 2
second_at (j.Comparison op) d = d + 2
second_at (j.Logical op) d = d

-- `++` adds 1, and `--` takes it away
abbrev pub step_operator : (up : Bool) → Arithmetic
step_operator up = if up then Add else Sub
