use Rattle.c_check_expressions.proofs.Order.{text_order, name_order, unary_order, binary_order, choice_order, assign_order, step_order, index_order, member_order, arrow_order, cast_order, size_order, size_of_kind_order, call_order}
use Rattle.c_check_expressions.proofs.laws.rules_of_a_node_are_in_order.Goals as goal

pub returns-clause-text : goal.returns-clause-text
returns-clause-text c = λ bytes. text_order bytes

pub returns-clause-name : goal.returns-clause-name
returns-clause-name c = λ functions found. name_order functions found

pub returns-clause-unary : goal.returns-clause-unary
returns-clause-unary c = λ structs op a. unary_order structs op a

pub returns-clause-binary : goal.returns-clause-binary
returns-clause-binary c = λ structs op a b. binary_order structs op a b

pub returns-clause-choice : goal.returns-clause-choice
returns-clause-choice c = λ a b d. choice_order a b d

pub returns-clause-assign : goal.returns-clause-assign
returns-clause-assign c = λ structs op a b. assign_order structs op a b

pub returns-clause-step : goal.returns-clause-step
returns-clause-step c = λ structs a. step_order structs a

pub returns-clause-index : goal.returns-clause-index
returns-clause-index c = λ structs a i. index_order structs a i

pub returns-clause-member : goal.returns-clause-member
returns-clause-member c = λ structs name a. member_order structs name a

pub returns-clause-arrow : goal.returns-clause-arrow
returns-clause-arrow c = λ structs name a. arrow_order structs name a

pub returns-clause-cast : goal.returns-clause-cast
returns-clause-cast c = λ scope base stars a. cast_order scope base stars a

pub returns-clause-size : goal.returns-clause-size
returns-clause-size c = λ structs kind. size_order structs kind

pub returns-clause-size_of_kind : goal.returns-clause-size_of_kind
returns-clause-size_of_kind c = λ scope base stars. size_of_kind_order scope base stars

pub returns-clause-call : goal.returns-clause-call
returns-clause-call c = λ found fit. call_order found fit
