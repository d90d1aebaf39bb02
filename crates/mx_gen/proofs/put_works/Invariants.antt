use Rattle.std.proofs.Common.{◌≡◌, ◌++◌}
use Rattle.mx_gen.specs.Program.{for_each_below, work_part}
use Rattle.mx_gen.proofs.put_works.Given as goal

abbrev pub invariant-loop-k : goal.invariant-loop-k
invariant-loop-k l = l.out.items ≡ l.fn.out.items ++ for_each_below l.k work_part
