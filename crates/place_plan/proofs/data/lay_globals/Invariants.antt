use Rattle.std.proofs.Common.{◌≡◌, ◌++◌, drop}
use Rattle.c_types.specs.Types.{structs_of}
use Rattle.place_plan.specs.Data.{offsets_from, globals_end}
use Rattle.place_plan.specs.Globals.{globals_of}
use Rattle.place_plan.proofs.data.lay_globals.Given as goal

abbrev pub invariant-loop-global : goal.invariant-loop-global
invariant-loop-global l = record {
  offsets : l.offsets.items ++ offsets_from (structs_of l.table) l.end (globals_of l.table (drop l.global-index l.globals)) ≡ offsets_from (structs_of l.table) 0 (globals_of l.table l.globals);
  ends : globals_end (structs_of l.table) l.end (globals_of l.table (drop l.global-index l.globals)) ≡ globals_end (structs_of l.table) 0 (globals_of l.table l.globals);
}
