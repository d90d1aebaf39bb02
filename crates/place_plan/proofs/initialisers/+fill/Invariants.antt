use Rattle.std.proofs.Common.{◌≡◌, drop, map, length}
use Rattle.c_types.specs.Types.{type_at, structs_of}
use Rattle.place_plan.specs.Initialisers.{filled, fills, parts_filled}
use Rattle.place_plan.proofs.initialisers.+fill.Given as goal

abbrev pub invariant-fill_parts-parts : goal.invariant-fill_parts-parts
invariant-fill_parts-parts l = record {
  value : parts_filled (structs_of l.table) (type_at l.table l.kind) l.at l.place (map (fills (structs_of l.table)) (drop l.place l.all)) (filled l.bytes (drop l.after l.constants))
      ≡ parts_filled (structs_of l.table) (type_at l.table l.kind) l.at 0 (map (fills (structs_of l.table)) l.all) (filled l.initial.bytes (drop l.next l.constants));
  length : length l.bytes ≡ length l.initial.bytes;
}
