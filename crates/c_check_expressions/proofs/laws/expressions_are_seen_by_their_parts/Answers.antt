use Rattle.c_check_expressions.proofs.Forms.{number_at, text_at, name_at, unary_at, binary_at, assign_at, step_by_at, cond_at, call_at, index_at, member_at, arrow_at, cast_at, size_of_kind_at, size_of_value_at}
use Rattle.c_check_expressions.proofs.laws.expressions_are_seen_by_their_parts.Goals as goal

pub returns-clause-number : goal.returns-clause-number
returns-clause-number c = λ place n kind functions scope. number_at place n kind functions scope

pub returns-clause-text : goal.returns-clause-text
returns-clause-text c = λ place bytes functions scope. text_at place bytes functions scope

pub returns-clause-name : goal.returns-clause-name
returns-clause-name c = λ place name functions scope. name_at place name functions scope

pub returns-clause-unary : goal.returns-clause-unary
returns-clause-unary c = λ place op a functions scope. unary_at place op a functions scope

pub returns-clause-binary : goal.returns-clause-binary
returns-clause-binary c = λ place op a b functions scope. binary_at place op a b functions scope

pub returns-clause-assign : goal.returns-clause-assign
returns-clause-assign c = λ place op a b functions scope. assign_at place op a b functions scope

pub returns-clause-step_by : goal.returns-clause-step_by
returns-clause-step_by c = λ place up before a functions scope. step_by_at place up before a functions scope

pub returns-clause-cond : goal.returns-clause-cond
returns-clause-cond c = λ place a b d functions scope. cond_at place a b d functions scope

pub returns-clause-call : goal.returns-clause-call
returns-clause-call c = λ place name all functions scope. call_at place name all functions scope

pub returns-clause-index : goal.returns-clause-index
returns-clause-index c = λ place a b functions scope. index_at place a b functions scope

pub returns-clause-member : goal.returns-clause-member
returns-clause-member c = λ place a name functions scope. member_at place name a functions scope

pub returns-clause-arrow : goal.returns-clause-arrow
returns-clause-arrow c = λ place a name functions scope. arrow_at place name a functions scope

pub returns-clause-cast : goal.returns-clause-cast
returns-clause-cast c = λ place base stars a functions scope. cast_at place base stars a functions scope

pub returns-clause-size_of_kind : goal.returns-clause-size_of_kind
returns-clause-size_of_kind c = λ place base stars functions scope. size_of_kind_at place base stars functions scope

pub returns-clause-size_of_value : goal.returns-clause-size_of_value
returns-clause-size_of_value c = λ place a functions scope. size_of_value_at place a functions scope
