use Rattle.std.proofs.Common.{◌+◌, take}
use Rattle.c_types.specs.Types.{structs_of}
use Rattle.c_check.specs.Numbering.{HasNumber}
use Rattle.c_check.proofs.TableGrowth.{knows-still}
use Rattle.c_check.proofs.TableLists.{still, at-next, take-next, listed-more}
use Rattle.c_check.proofs.numbers.number_types.Goals as goal

pub number_type-requires-clause-members : goal.number_type-requires-clause-members
number_type-requires-clause-members c = knows-still c.args.table.now c.kinds.table c.kinds.invariant.grows c.requires.members

pub number_type-requires-clause-built : goal.number_type-requires-clause-built
number_type-requires-clause-built c =
    still (λ ss b. HasNumber ss b c.kind-item.result) c.args.table.now c.kinds.table c.kinds.invariant.grows c.requires.members
    (at-next (HasNumber (structs_of c.args.table.now) c.args.table.now.begun) c.args.kinds.now c.kinds.kind-index c.kind-item.result c.kinds-test.true c.kind-item.is c.requires.built)

pub kinds-preserved : goal.kinds-preserved
kinds-preserved c =
    listed-more c.args.table.now c.kinds.table c.number_type.new.table c.kinds.ids c.push.new.self (take c.kinds.kind-index c.args.kinds.now) (take (c.kinds.kind-index + 1) c.args.kinds.now)
    c.kinds.kind-index c.in_ok-id.id c.kind-item.result c.kinds.invariant c.in_ok-id.ensures.grows c.in_ok-id.ensures.number c.in_ok-id.ensures.few c.in_ok-push.ensures.ok
    (take-next c.args.kinds.now c.kinds.kind-index c.kind-item.result c.kinds-test.true c.kind-item.is)
