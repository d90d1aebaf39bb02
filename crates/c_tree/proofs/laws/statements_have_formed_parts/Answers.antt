use Rattle.std.proofs.Common.{◌≡◌, ◌∙◌, ◌&&◌, ap, rules, map, List}
use Rattle.std.specs.List.{list_all}
use Rattle.mx_base.specs.declared.places.Place.{Place}
use Rattle.c_tree.specs.declared.tree.Stmt.{Stmt}
use Rattle.c_tree.specs.declared.tree.StmtKind.TheVariants as s
use Rattle.c_tree.specs.Formed.{stands, seen_stmt, formed_stmt}
use Rattle.c_tree.specs.declared.tree.Stmt.{the_lemmas}
use Rattle.c_tree.proofs.FormedLists.{all_formed_stmts}
use Rattle.c_tree.proofs.laws.statements_have_formed_parts.Goals as goal

pub returns-clause-value : goal.returns-clause-value
returns-clause-value c = λ place value. search (rules, the_lemmas)

pub returns-clause-local : goal.returns-clause-local
returns-clause-local c = λ place d init. search (rules, the_lemmas)

pub returns-clause-test : goal.returns-clause-test
returns-clause-test c = λ place test then other. search (rules, the_lemmas)

pub returns-clause-while_ : goal.returns-clause-while_
returns-clause-while_ c = λ place test body. search (rules, the_lemmas)

pub returns-clause-do_while : goal.returns-clause-do_while
returns-clause-do_while c = λ place body test. search (rules, the_lemmas)

pub returns-clause-for_ : goal.returns-clause-for_
returns-clause-for_ c = λ place first test next body. search (rules, the_lemmas)

pub returns-clause-jumps : goal.returns-clause-jumps
returns-clause-jumps c = λ place. (search (rules, the_lemmas), search (rules, the_lemmas))

pub returns-clause-return_ : goal.returns-clause-return_
returns-clause-return_ c = λ place value. search (rules, the_lemmas)

block_of_seen : (place : Place) (all : List Stmt) → formed_stmt (record { place = place; kind = s.Block all }) ≡ (stands place && list_all (λ x. x.formed) (map seen_stmt all))
block_of_seen place all = search (rules, the_lemmas)

pub returns-clause-block : goal.returns-clause-block
returns-clause-block c = λ place all. block_of_seen place all ∙ ap (λ t. stands place && t) (all_formed_stmts all)
