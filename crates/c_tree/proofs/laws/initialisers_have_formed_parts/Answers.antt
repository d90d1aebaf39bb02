use Rattle.std.proofs.Common.{rules}
use Rattle.c_tree.specs.declared.tree.Init.{the_lemmas}
use Rattle.c_tree.proofs.FormedLists.{every_formed_init, empty_as_found}
use Rattle.c_tree.proofs.laws.initialisers_have_formed_parts.Goals as goal

pub returns-clause-one : goal.returns-clause-one
returns-clause-one c = λ place x. search (rules, the_lemmas)

pub returns-clause-many : goal.returns-clause-many
returns-clause-many c = λ place all. search (rules, the_lemmas, every_formed_init, empty_as_found)
