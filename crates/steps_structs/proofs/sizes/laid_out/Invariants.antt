use Rattle.std.proofs.Common.{◌≡◌, drop, map, max}
use Rattle.c_types.specs.Types.{type_at}
use Rattle.c_types.specs.Layouts.{layout_of, end_from, widest}
use Rattle.steps_structs.specs.Structs.{structs_known}
use Rattle.steps_structs.proofs.sizes.laid_out.Given as goal

-- the rest of the members makes up what all of them make
abbrev pub invariant-loop-member : goal.invariant-loop-member
invariant-loop-member l =
    let laid = layout_of (structs_known l.types l.structs) in
    let rest = map laid (map (type_at l.types) (drop l.member-index l.members)) in
    let all = map laid (map (type_at l.types) l.members) in record {
      end : end_from l.end rest ≡ end_from 0 all;
      align : max l.align (widest rest) ≡ widest all;
    }
