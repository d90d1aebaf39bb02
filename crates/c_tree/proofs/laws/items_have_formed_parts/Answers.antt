use Rattle.std.proofs.Common.{rules}
use Rattle.c_tree.specs.declared.tree.Stmt.{the_lemmas}
use Rattle.c_tree.proofs.laws.items_have_formed_parts.Goals as goal

pub returns-clause-body : goal.returns-clause-body
returns-clause-body c = λ place value. search (rules, the_lemmas)
