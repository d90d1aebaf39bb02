use Rattle.std.proofs.Common.{refl}
use Rattle.c_types.specs.Types.{structs_of}
use Rattle.c_check_statements.specs.declared.state.BodyVariable.{BodyVariable}
use Rattle.c_check.specs.Numbering.{HasNumber, HoldsNumber}
use Rattle.c_check.proofs.TableGrowth.{knows-still}
use Rattle.c_check.proofs.TableLists.{still, at-mapped, locals-more, locals-end}
use Rattle.c_check.proofs.numbers.number_locals.Goals as goal

pub number_type-requires-clause-members : goal.number_type-requires-clause-members
number_type-requires-clause-members c = knows-still c.args.table.now c.variables.table c.variables.invariant.listed.grows c.requires.members

pub number_type-requires-clause-built : goal.number_type-requires-clause-built
number_type-requires-clause-built c =
    still (λ ss b. HasNumber ss b c.variable-item.result.kind) c.args.table.now c.variables.table c.variables.invariant.listed.grows c.requires.members
    (at-mapped (HoldsNumber (structs_of c.args.table.now) c.args.table.now.begun) (λ (v : BodyVariable). v.kind) c.args.variables.now c.variables.variable-index c.variable-item.result c.variables-test.true c.variable-item.is c.requires.built).0

pub variables-preserved : goal.variables-preserved
variables-preserved c =
    locals-more c.args.table.now c.variables.table c.number_type.new.table c.variables.locals c.push.new.self c.args.variables.now c.variables.variable-index
    (record { kind = c.in_ok-kind.kind; taken = c.variable-item.result.taken }) c.variable-item.result c.variables.invariant c.variables-test.true c.variable-item.is
    c.in_ok-kind.ensures.grows c.in_ok-kind.ensures.number refl c.in_ok-kind.ensures.few c.in_ok-push.ensures.ok

pub returns-clause-numbers : goal.returns-clause-numbers
returns-clause-numbers c =
    locals-end c.args.table.now c.variables.table c.variables.locals c.args.variables.now c.variables.variable-index c.variables.invariant c.variables-test.false c.requires.members c.requires.built
