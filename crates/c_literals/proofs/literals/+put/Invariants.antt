use Rattle.std.proofs.Common.{◌≡◌, map, drop}
use Rattle.c_accepted.specs.Literals.{text_sizes, joined}
use Rattle.c_literals.specs.Laid.{with_literals}
use Rattle.c_literals.proofs.literals.+put.Given as goal

abbrev pub invariant-put_literals_of_all-loop-one : goal.invariant-put_literals_of_all-loop-one
invariant-put_literals_of_all-loop-one l = with_literals l.literals (joined (map text_sizes (drop l.one-index l.all))) ≡ with_literals l.initial.literals (joined (map text_sizes l.all))
