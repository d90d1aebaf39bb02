use Rattle.std.proofs.Common.{refl}
use Rattle.c_types.specs.Types.{structs_of}
use Rattle.c_check_rules.specs.declared.names.Variable.{Variable}
use Rattle.c_check.specs.Numbering.{HasNumber, HoldsNumber}
use Rattle.c_check.proofs.TableGrowth.{knows-still}
use Rattle.c_check.proofs.TableLists.{still, at-mapped, globals-more, globals-end}
use Rattle.c_check.proofs.numbers.number_globals.Goals as goal

pub number_type-requires-clause-members : goal.number_type-requires-clause-members
number_type-requires-clause-members c = knows-still c.args.table.now c.variables.table c.variables.invariant.listed.grows c.requires.members

pub number_type-requires-clause-built : goal.number_type-requires-clause-built
number_type-requires-clause-built c =
    still (λ ss b. HasNumber ss b c.variable-item.result.kind) c.args.table.now c.variables.table c.variables.invariant.listed.grows c.requires.members
    (at-mapped (HoldsNumber (structs_of c.args.table.now) c.args.table.now.begun) (λ (v : Variable). v.kind) c.args.variables.now c.variables.variable-index c.variable-item.result c.variables-test.true c.variable-item.is c.requires.built).0

pub variables-preserved : goal.variables-preserved
variables-preserved c =
    globals-more c.args.table.now c.variables.table c.number_type.new.table c.variables.globals c.push.new.self c.args.variables.now c.variables.variable-index
    (record { kind = c.in_ok-kind.kind; defined = c.variable-item.result.defined }) c.variable-item.result c.variables.invariant c.variables-test.true c.variable-item.is
    c.in_ok-kind.ensures.grows c.in_ok-kind.ensures.number refl c.in_ok-kind.ensures.few c.in_ok-push.ensures.ok

pub returns-clause-numbers : goal.returns-clause-numbers
returns-clause-numbers c =
    globals-end c.args.table.now c.variables.table c.variables.globals c.args.variables.now c.variables.variable-index c.variables.invariant c.variables-test.false c.requires.members c.requires.built
