use Rattle.std.proofs.Common.{rules}
use Rattle.c_tree.specs.declared.tree.Expr.{the_lemmas}
use Rattle.c_tree.proofs.FormedLists.{every_formed_expr}
use Rattle.c_tree.proofs.laws.expressions_have_formed_parts.Goals as goal

pub returns-clause-text : goal.returns-clause-text
returns-clause-text c = λ place bytes. search (rules, the_lemmas)

pub returns-clause-step_by : goal.returns-clause-step_by
returns-clause-step_by c = λ place up before a. search (rules, the_lemmas)

pub returns-clause-cond : goal.returns-clause-cond
returns-clause-cond c = λ place a b d. search (rules, the_lemmas)

pub returns-clause-call : goal.returns-clause-call
returns-clause-call c = λ place name all. search (rules, the_lemmas, every_formed_expr)

pub returns-clause-index : goal.returns-clause-index
returns-clause-index c = λ place a b. search (rules, the_lemmas)

pub returns-clause-arrow : goal.returns-clause-arrow
returns-clause-arrow c = λ place a name. search (rules, the_lemmas)

pub returns-clause-size_of_kind : goal.returns-clause-size_of_kind
returns-clause-size_of_kind c = λ place base stars. search (rules, the_lemmas)

pub returns-clause-size_of_value : goal.returns-clause-size_of_value
returns-clause-size_of_value c = λ place a. search (rules, the_lemmas)
