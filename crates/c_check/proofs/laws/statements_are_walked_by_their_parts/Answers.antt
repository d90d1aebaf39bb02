use Rattle.std.proofs.Common.{rules}
use Rattle.std.specs.Prelude.{None, Some}
use Rattle.c_tree.specs.declared.tree.Stmt.{the_lemmas}
use Rattle.c_tree.specs.declared.tree.StmtKind.TheVariants.{outs-If}
use Rattle.c_check.proofs.laws.statements_are_walked_by_their_parts.Goals as goal

pub returns-clause-value : goal.returns-clause-value
returns-clause-value c = λ place value. search (rules, the_lemmas)

pub returns-clause-local : goal.returns-clause-local
returns-clause-local c = λ place d init. search (rules, the_lemmas)

pub returns-clause-while_ : goal.returns-clause-while_
returns-clause-while_ c = λ place test body. search (rules, the_lemmas)

pub returns-clause-do_while : goal.returns-clause-do_while
returns-clause-do_while c = λ place body test. search (rules, the_lemmas)

pub returns-clause-for_ : goal.returns-clause-for_
returns-clause-for_ c = λ place first test next body. search (rules, the_lemmas)

pub returns-clause-return_ : goal.returns-clause-return_
returns-clause-return_ c = λ place value. search (rules, the_lemmas)

pub returns-clause-block : goal.returns-clause-block
returns-clause-block c = λ place all. search (rules, the_lemmas)

pub returns-clause-test : goal.returns-clause-test
returns-clause-test c = λ place test a other. (search (rules, the_lemmas, outs-If test a (Some other)), search (rules, the_lemmas, outs-If test a None))

pub returns-clause-jumps : goal.returns-clause-jumps
returns-clause-jumps c = λ place. (search (rules, the_lemmas), search (rules, the_lemmas))
