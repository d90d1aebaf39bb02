use Rattle.std.proofs.Common.{◌+◌, take}
use Rattle.c_types.specs.Types.{structs_of}
use Rattle.c_check_rules.specs.declared.names.Member.{Member}
use Rattle.c_check_statements.specs.Structs.{kinds_in}
use Rattle.c_check.specs.Numbering.{HasNumber}
use Rattle.c_check.proofs.TableGrowth.{knows-still}
use Rattle.c_check.proofs.TableLists.{still, at-mapped, map-next, listed-more}
use Rattle.c_check.proofs.numbers.number_members.Goals as goal

pub number_type-requires-clause-members : goal.number_type-requires-clause-members
number_type-requires-clause-members c = knows-still c.args.table.now c.members.table c.members.invariant.grows c.requires.members

pub number_type-requires-clause-built : goal.number_type-requires-clause-built
number_type-requires-clause-built c =
    still (λ ss b. HasNumber ss b c.member-item.result.kind) c.args.table.now c.members.table c.members.invariant.grows c.requires.members
    (at-mapped (HasNumber (structs_of c.args.table.now) c.args.table.now.begun) (λ (m : Member). m.kind) c.args.members.now c.members.member-index c.member-item.result c.members-test.true c.member-item.is c.requires.built)

pub members-preserved : goal.members-preserved
members-preserved c =
    listed-more c.args.table.now c.members.table c.number_type.new.table c.members.ids c.push.new.self (kinds_in (take c.members.member-index c.args.members.now)) (kinds_in (take (c.members.member-index + 1) c.args.members.now))
    c.members.member-index c.in_ok-id.id c.member-item.result.kind c.members.invariant c.in_ok-id.ensures.grows c.in_ok-id.ensures.number c.in_ok-id.ensures.few c.in_ok-push.ensures.ok
    (map-next (λ (m : Member). m.kind) c.args.members.now c.members.member-index c.member-item.result c.members-test.true c.member-item.is)
