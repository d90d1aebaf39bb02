-- The operations and the flags of the code, as the instruction table names them.
use Rattle.std.specs.Prelude.{Bool, not, ◌&&◌, if◌then◌else◌}
use Rattle.x86_alu.specs.declared.op.AluOp.{AluOp}
use Rattle.x86_alu.specs.declared.op.AluOp.TheVariants.{Add, Or, And, Sub, Xor, Cmp, Test, Imul, Not, Neg, Shl, Shr, Sar}
use Rattle.x86_alu.specs.declared.op.Four.{Four}
use Rattle.x86_forms.specs.Arithmetic.{Flags, Operation}
use Rattle.x86_forms.specs.Arithmetic as table

abbrev pub operation_of : AluOp → Operation
operation_of Add = table.Add
operation_of Or = table.Or
operation_of And = table.And
operation_of Sub = table.Sub
operation_of Xor = table.Xor
operation_of Cmp = table.Cmp
operation_of Test = table.Test
operation_of Imul = table.Imul
operation_of Not = table.Not
operation_of Neg = table.Neg
operation_of Shl = table.Shl
operation_of Shr = table.Shr
operation_of Sar = table.Sar

abbrev pub flags_in : Four → Flags
flags_in f = record { cf = f.cf; zf = f.zf; sf = f.sf; of = f.of }

-- whether a sum has the wrong sign: both numbers have the same one, and the sum has the other
abbrev pub sign_is_wrong : Bool → Bool → Bool → Bool
sign_is_wrong a b sum = if a then b && not sum else sum && not b
