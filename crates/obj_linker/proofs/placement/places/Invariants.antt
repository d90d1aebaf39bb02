use Rattle.std.proofs.Common.{◌≡◌, ◌+◌, ◌*◌, ◌^◌, ◌≤◌, take}
use Rattle.std.specs.List.{fold}
use Rattle.obj_linker.specs.Placement.{ends_after, spots_after, starts}
use Rattle.obj_linker.proofs.placement.places.Given as goal

abbrev pub invariant-all : goal.invariant-all
invariant-all l = record {
  ends : l.ends ≡ fold ends_after starts (take l.k l.objects);
  spots : l.items.items ≡ spots_after starts (take l.k l.objects);
  code : l.ends.code ≤ 2 ^ 30 + l.k * 2 ^ 29;
  legacy : l.ends.legacy ≤ 2 ^ 30 + l.k * 2 ^ 29;
  stored : l.ends.stored ≤ 2 ^ 30 + l.k * 2 ^ 29;
}
