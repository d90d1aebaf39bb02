use Rattle.std.proofs.Common.{◌∙◌, sym}
use Rattle.c_emit_initialisers.proofs.TextLemmas.{text_number, text_text, text_name, text_unary, text_binary, text_assign, text_step, text_cond, text_call, text_index, text_member, text_arrow, text_cast, text_size, text_sizeof}
use Rattle.c_emit_initialisers.proofs.texts.text_of.Goals as goal

pub returns-in-Number : goal.returns-in-Number
returns-in-Number c = text_number c.args.e.now _ _ c.in-Number.is

pub returns-in-Text : goal.returns-in-Text
returns-in-Text c = λ around r. text_text c.args.e.now _ c.in-Text.is around r ∙ sym c.as_slice.ensures

pub returns-in-Var : goal.returns-in-Var
returns-in-Var c = text_name c.args.e.now _ c.in-Var.is

pub returns-in-Unary : goal.returns-in-Unary
returns-in-Unary c = text_unary c.args.e.now _ _ c.in-Unary.is

pub returns-in-Binary : goal.returns-in-Binary
returns-in-Binary c = text_binary c.args.e.now _ _ _ c.in-Binary.is

pub returns-in-Assign : goal.returns-in-Assign
returns-in-Assign c = text_assign c.args.e.now _ _ _ c.in-Assign.is

pub returns-in-StepBy : goal.returns-in-StepBy
returns-in-StepBy c = text_step c.args.e.now _ _ _ c.in-StepBy.is

pub returns-in-Cond : goal.returns-in-Cond
returns-in-Cond c = text_cond c.args.e.now _ _ _ c.in-Cond.is

pub returns-in-Call : goal.returns-in-Call
returns-in-Call c = text_call c.args.e.now _ _ c.in-Call.is

pub returns-in-Index : goal.returns-in-Index
returns-in-Index c = text_index c.args.e.now _ _ c.in-Index.is

pub returns-in-Member : goal.returns-in-Member
returns-in-Member c = text_member c.args.e.now _ _ c.in-Member.is

pub returns-in-Arrow : goal.returns-in-Arrow
returns-in-Arrow c = text_arrow c.args.e.now _ _ c.in-Arrow.is

pub returns-in-Cast : goal.returns-in-Cast
returns-in-Cast c = text_cast c.args.e.now _ _ _ c.in-Cast.is

pub returns-in-SizeOfKind : goal.returns-in-SizeOfKind
returns-in-SizeOfKind c = text_size c.args.e.now _ _ c.in-SizeOfKind.is

pub returns-in-SizeOfValue : goal.returns-in-SizeOfValue
returns-in-SizeOfValue c = text_sizeof c.args.e.now _ c.in-SizeOfValue.is
