use Rattle.std.proofs.Common.{◌≡◌, take, count_by}
use Rattle.obj_file.specs.Names.{is_pointer_letter}
use Rattle.obj_file.proofs.names.pointers.Given as goal

abbrev pub invariant-loop-b : goal.invariant-loop-b
invariant-loop-b l = l.count ≡ count_by is_pointer_letter (take l.b-index l.params)
