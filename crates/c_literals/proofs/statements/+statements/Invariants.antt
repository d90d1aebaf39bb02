use Rattle.std.proofs.Common.{drop, map}
use Rattle.bounds_plan.specs.elaboration.Statements.{all_stated}
use Rattle.c_accepted.specs.SourceLiterals.{all_sizes, listed}
use Rattle.steps_facts.specs.Seen.{reached_of}
use Rattle.c_literals.specs.Laid.{with_literals, statings}
use Rattle.c_literals.proofs.StatementLemmas.{Left}
use Rattle.c_literals.proofs.statements.+statements.Given as goal

-- what is left has what is left of all literals, and goes as far
abbrev pub invariant-put_literals_of_block-loop-s : goal.invariant-put_literals_of_block-loop-s
invariant-put_literals_of_block-loop-s g l = let around = g.K.Knows.around l.known in
    Left (drop l.s-index l.all) around (reached_of l.at) (all_stated (statings l.all) around (reached_of l.fn.r)).after l.literals
    (with_literals l.initial.literals (all_sizes (map listed l.all) around (reached_of l.fn.r)))
