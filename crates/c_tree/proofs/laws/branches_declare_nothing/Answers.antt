use Rattle.std.proofs.Common.{rules}
use Rattle.c_tree.specs.declared.tree.Stmt.{the_lemmas}
use Rattle.c_tree.proofs.laws.branches_declare_nothing.Goals as goal

pub returns-clause-declaration : goal.returns-clause-declaration
returns-clause-declaration c = λ place d init. search (rules, the_lemmas)

pub returns-clause-block : goal.returns-clause-block
returns-clause-block c = λ place all. search (rules, the_lemmas)
