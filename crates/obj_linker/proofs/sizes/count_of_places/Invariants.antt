use Rattle.std.proofs.Common.{◌≡◌, ◌*◌, ◌^◌, ◌≤◌, take}
use Rattle.obj_linker.specs.Faults.{count_of_places}
use Rattle.obj_linker.proofs.sizes.count_of_places.Given as goal

abbrev pub invariant-all : goal.invariant-all
invariant-all l = record {
  count : l.count ≡ count_of_places (take l.k l.objects);
  few : l.count ≤ l.k * 2 ^ 20;
}
