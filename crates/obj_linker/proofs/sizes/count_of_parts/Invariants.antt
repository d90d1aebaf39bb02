use Rattle.std.proofs.Common.{◌≡◌, ◌*◌, ◌≤◌, take}
use Rattle.std.specs.Prelude.{sum_by}
use Rattle.obj_linker.specs.Faults.{parts_of}
use Rattle.obj_linker.proofs.sizes.count_of_parts.Given as goal

abbrev pub invariant-all : goal.invariant-all
invariant-all l = record {
  count : l.count ≡ sum_by parts_of (take l.k l.objects);
  few : l.count ≤ l.k * 2;
}
