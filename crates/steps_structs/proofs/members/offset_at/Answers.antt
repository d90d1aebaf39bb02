use Rattle.std.proofs.Common.{◌∙◌, arith}
use Rattle.steps_structs.specs.Structs.{structs_known}
use Rattle.steps_structs.proofs.PartLemmas.{offset_on}
use Rattle.steps_structs.proofs.members.offset_at.Goals as goal

pub loop-member-preserved : goal.loop-member-preserved
loop-member-preserved c = offset_on c.args.types.now (structs_known c.args.types.now c.args.structs.now) c.args.members.now c.loop-member.member-index _ c.loop-member.free c.loop-member.left
    c.in_ok-offset.offset c.in_ok-free.free c.in_ok-one.one (record { 0 = 0 }) c.loop-member-test.true (omega arith) c.if-left-eq0.false c.in_ok-one.ensures c.in_ok-offset.ensures c.in_ok-free.ensures
    ∙ c.loop-member.invariant
