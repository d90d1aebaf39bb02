use Rattle.std.proofs.Common.{◌≡◌, ◌++◌}
use Rattle.mx_gen.specs.Program.{for_each_below, total_line}
use Rattle.mx_gen.proofs.put_totals.Given as goal

abbrev pub invariant-loop-k : goal.invariant-loop-k
invariant-loop-k l = l.out.items ≡ l.fn.out.items ++ for_each_below l.k total_line
