use Rattle.std.proofs.Common.{◌≡◌, drop}
use Rattle.c_accepted.specs.SourceLiterals.{decls_sizes}
use Rattle.c_literals.specs.Laid.{with_literals}
use Rattle.c_literals.proofs.statements.put_literals_of_declarations.Given as goal

-- what is left has what is left of all literals
abbrev pub invariant-loop-d : goal.invariant-loop-d
invariant-loop-d l = with_literals l.literals (decls_sizes (drop l.d-index l.all)) ≡ with_literals l.initial.literals (decls_sizes l.all)
