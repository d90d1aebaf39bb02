use Rattle.std.proofs.Common.{rules}
use Rattle.c_tree.specs.declared.tree.Expr.{the_lemmas}
use Rattle.c_tree.proofs.laws.names_and_numbers_are_of_the_language.Goals as goal

pub returns-clause-variable : goal.returns-clause-variable
returns-clause-variable c = λ place name. search (rules, the_lemmas)

pub returns-clause-number : goal.returns-clause-number
returns-clause-number c = λ place n kind. search (rules, the_lemmas)

pub returns-clause-member : goal.returns-clause-member
returns-clause-member c = λ place a name. search (rules, the_lemmas)

pub returns-clause-cast : goal.returns-clause-cast
returns-clause-cast c = λ place base stars a. search (rules, the_lemmas)
