use Rattle.std.proofs.Common.{◌≡◌, ◌≤◌, ◌<◌, [], ◌∷◌, length}
use Rattle.c_grammar.specs.Nodes as made
use Rattle.c_grammar.specs.Rules as n
use Rattle.c_grammar.specs.Reading.{parse, steps_of, limit}
use Rattle.parse_expressions.specs.Gives.{through}
use Rattle.parse_statements.specs.Pieces as pieces
use Rattle.c_tree.specs.declared.tree.ItemKind.TheVariants as it
use Rattle.c_tree.specs.declared.tree.StmtKind.TheVariants as s
use Rattle.parse_statements.specs.Names.{decls_after}
use Rattle.parse_statements.proofs.declarations.more_decls.Given as goal

abbrev pub invariant-loop-at : goal.invariant-loop-at
invariant-loop-at l = record {
  reads : decls_after l.typed.base (made.decl_from l.typed.start l.typed.base l.fn.first ∷ []) l.fn.at.depth l.fn.at.left ≡ decls_after l.typed.base l.all l.at.depth l.at.left;
  shorter : length l.at.left ≤ length l.fn.at.left;
}

abbrev pub decreases-loop-at : goal.decreases-loop-at
decreases-loop-at l = length l.at.left
