use Rattle.std.proofs.Common.{◌≡◌, drop, map, slice_index}
use Rattle.c_types.specs.Types.{type_at}
use Rattle.c_types.specs.Layouts.{layout_of, offsets_from}
use Rattle.steps_structs.specs.Structs.{structs_known}
use Rattle.steps_structs.proofs.members.offset_at.Given as goal

abbrev pub invariant-loop-member : goal.invariant-loop-member
invariant-loop-member l =
    let laid = layout_of (structs_known l.types l.structs) in
    let rest = map laid (map (type_at l.types) (drop l.member-index l.members)) in
    let all = map laid (map (type_at l.types) l.members) in
    slice_index (offsets_from l.free rest) l.left ≡ slice_index (offsets_from 0 all) l.index
