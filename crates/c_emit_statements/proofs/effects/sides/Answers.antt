use Rattle.c_emit_statements.proofs.EffectLemmas.{does_number, does_text, does_name, does_unary, does_binary, does_step, does_cond, does_call, does_index, does_member, does_arrow, does_cast, does_size, does_sizeof}
use Rattle.c_emit_statements.proofs.effects.sides.Goals as goal

pub returns-in-Number : goal.returns-in-Number
returns-in-Number c = does_number c.args.e.now _ _ c.in-Number.is

pub returns-in-Text : goal.returns-in-Text
returns-in-Text c = does_text c.args.e.now _ c.in-Text.is

pub returns-in-Var : goal.returns-in-Var
returns-in-Var c = does_name c.args.e.now _ c.in-Var.is

pub returns-in-Unary : goal.returns-in-Unary
returns-in-Unary c = does_unary c.args.e.now _ _ c.in-Unary.is

pub returns-in-Binary : goal.returns-in-Binary
returns-in-Binary c = does_binary c.args.e.now _ _ _ c.in-Binary.is

pub returns-in-StepBy : goal.returns-in-StepBy
returns-in-StepBy c = does_step c.args.e.now _ _ _ c.in-StepBy.is

pub returns-in-Cond : goal.returns-in-Cond
returns-in-Cond c = does_cond c.args.e.now _ _ _ c.in-Cond.is

pub returns-in-Call : goal.returns-in-Call
returns-in-Call c = does_call c.args.e.now _ _ c.in-Call.is

pub returns-in-Index : goal.returns-in-Index
returns-in-Index c = does_index c.args.e.now _ _ c.in-Index.is

pub returns-in-Member : goal.returns-in-Member
returns-in-Member c = does_member c.args.e.now _ _ c.in-Member.is

pub returns-in-Arrow : goal.returns-in-Arrow
returns-in-Arrow c = does_arrow c.args.e.now _ _ c.in-Arrow.is

pub returns-in-Cast : goal.returns-in-Cast
returns-in-Cast c = does_cast c.args.e.now _ _ _ c.in-Cast.is

pub returns-in-SizeOfKind : goal.returns-in-SizeOfKind
returns-in-SizeOfKind c = does_size c.args.e.now _ _ c.in-SizeOfKind.is

pub returns-in-SizeOfValue : goal.returns-in-SizeOfValue
returns-in-SizeOfValue c = does_sizeof c.args.e.now _ c.in-SizeOfValue.is
