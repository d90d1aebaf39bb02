use Rattle.std.proofs.Common.{rules}
use Rattle.c_tree.specs.declared.tree.Expr.{the_lemmas}
use Rattle.c_tree.proofs.laws.operators_have_formed_operands.Goals as goal

pub returns-clause-unary : goal.returns-clause-unary
returns-clause-unary c = λ place op a. search (rules, the_lemmas)

pub returns-clause-binary : goal.returns-clause-binary
returns-clause-binary c = λ place op a b. search (rules, the_lemmas)

pub returns-clause-assign : goal.returns-clause-assign
returns-clause-assign c = λ place op a b. search (rules, the_lemmas)
