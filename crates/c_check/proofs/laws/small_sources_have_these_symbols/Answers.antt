use Rattle.std.proofs.Common.{rules}
use Rattle.std.specs.Fmt.{digits}
use Rattle.c_tree.specs.declared.tree.Expr.{the_lemmas as expr_lemmas}
use Rattle.c_tree.specs.declared.tree.Init.{the_lemmas as init_lemmas}
use Rattle.c_tree.specs.declared.tree.Stmt.{the_lemmas as stmt_lemmas}
use Rattle.c_check_rules.specs.Names.{found_in}
use Rattle.c_check_typing.specs.Notes.{unevaluated, leaf, one, two}
use Rattle.c_check_typing.specs.Rules.{text_own, name_own, unary_own, binary_own, index_own, size_own, call_own}
use Rattle.c_check_typing.specs.Expressions.{call}
use Rattle.c_check_statements.specs.Walks.{◌then◌, at_node, inside, past}
use Rattle.c_check_statements.specs.Declarations.{declares, and_then}
use Rattle.c_check.proofs.laws.small_sources_have_these_symbols.Goals as goal

pub returns-clause-one_import : goal.returns-clause-one_import
unfolding found_in unevaluated leaf one two text_own name_own unary_own binary_own index_own size_own call_own call ◌then◌ at_node inside past declares and_then digits
returns-clause-one_import c = search (rules, expr_lemmas, init_lemmas, stmt_lemmas)

pub returns-clause-text : goal.returns-clause-text
unfolding found_in unevaluated leaf one two text_own name_own unary_own binary_own index_own size_own call_own call ◌then◌ at_node inside past declares and_then digits
returns-clause-text c = search (rules, expr_lemmas, init_lemmas, stmt_lemmas)

pub returns-clause-no_import : goal.returns-clause-no_import
unfolding found_in unevaluated leaf one two text_own name_own unary_own binary_own index_own size_own call_own call ◌then◌ at_node inside past declares and_then digits
returns-clause-no_import c = search (rules, expr_lemmas, init_lemmas, stmt_lemmas)

pub returns-clause-long : goal.returns-clause-long
unfolding found_in unevaluated leaf one two text_own name_own unary_own binary_own index_own size_own call_own call ◌then◌ at_node inside past declares and_then digits
returns-clause-long c = search (rules, expr_lemmas, init_lemmas, stmt_lemmas)

pub returns-clause-accepted : goal.returns-clause-accepted
unfolding found_in unevaluated leaf one two text_own name_own unary_own binary_own index_own size_own call_own call ◌then◌ at_node inside past declares and_then digits
returns-clause-accepted c = (search (rules, expr_lemmas, init_lemmas, stmt_lemmas), search (rules, expr_lemmas, init_lemmas, stmt_lemmas), search (rules, expr_lemmas, init_lemmas, stmt_lemmas), search (rules, expr_lemmas, init_lemmas, stmt_lemmas))
