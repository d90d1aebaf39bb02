use Rattle.std.proofs.Common.{◌≡◌, ◌≤◌, ◌++◌, drop, length, map}
use Rattle.c_types.specs.Types.{type_at}
use Rattle.steps_facts.specs.Around.{scalars_seen}
use Rattle.steps_structs.specs.Structs.{structs_known, scalars_from}
use Rattle.steps_structs.proofs.scalars.scalars_laid.Given as goal

-- the members that are left make up what all of them make
abbrev pub invariant-loop-member : goal.invariant-loop-member
invariant-loop-member l = let structs = structs_known l.types l.structs in record {
  rest : scalars_seen l.all ++ scalars_from structs l.free (map (type_at l.types) (drop l.member-index l.members)) ≡ scalars_from structs 0 (map (type_at l.types) l.members);
  few : length l.all ≤ 64;
}
