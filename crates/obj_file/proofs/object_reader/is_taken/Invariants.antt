use Rattle.std.proofs.Common.{◌≡◌, drop}
use Rattle.obj_file.specs.Object.{is_taken}
use Rattle.obj_file.proofs.object_reader.is_taken.Given as goal

abbrev pub invariant-loop-symbol : goal.invariant-loop-symbol
invariant-loop-symbol l = is_taken (drop l.symbol-index l.seen) l.name ≡ is_taken l.seen l.name
