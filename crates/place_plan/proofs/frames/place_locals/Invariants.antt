use Rattle.std.proofs.Common.{◌≡◌, ◌*◌, ◌≤◌, ◌++◌, drop}
use Rattle.c_types.specs.Types.{structs_of}
use Rattle.place_plan.specs.Frames.{spots_from, free_after_all, nothing_taken}
use Rattle.place_plan.specs.Locals.{variables_of}
use Rattle.place_plan.proofs.frames.place_locals.Given as goal

abbrev pub invariant-loop-local : goal.invariant-loop-local
invariant-loop-local l = record {
  spots : l.spots.items ++ spots_from (structs_of l.table) l.free (variables_of l.table (drop l.local-index l.locals)) ≡ spots_from (structs_of l.table) nothing_taken (variables_of l.table l.locals);
  ends : free_after_all (structs_of l.table) l.free (variables_of l.table (drop l.local-index l.locals)) ≡ free_after_all (structs_of l.table) nothing_taken (variables_of l.table l.locals);
  value : l.free.value ≤ 2 * l.local-index;
}
