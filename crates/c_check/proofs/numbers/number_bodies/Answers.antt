use Rattle.std.proofs.Common.{◌+◌, ◌*◌, ◌≤◌, List, length, sym, subst, refl}
use Rattle.std.specs.List.{All}
use Rattle.c_types.specs.Types.{structs_of}
use Rattle.c_check.specs.declared.checked.CheckedBody.{CheckedBody}
use Rattle.c_check_statements.specs.declared.state.BodyVariable.{BodyVariable}
use Rattle.c_check.specs.Checked.{IsLocals}
use Rattle.c_check.specs.Numbering.{HoldsNumber, BodyHasNumbers, local_types}
use Rattle.c_check.proofs.TableGrowth.{knows-still}
use Rattle.c_check.proofs.TableLists.{BodiesListed, still, at-next, bodies-none, bodies-more}
use Rattle.c_check.proofs.numbers.number_bodies.Goals as goal

pub bodies-init : goal.bodies-init
bodies-init c = subst (λ (all : List CheckedBody). BodiesListed c.args.table.now c.args.table.now all c.args.bodies.now 0) (sym c.new-all.ensures) (bodies-none c.args.table.now c.args.bodies.now)

pub number_locals-requires-clause-members : goal.number_locals-requires-clause-members
number_locals-requires-clause-members c = knows-still c.args.table.now c.bodies.table c.bodies.invariant.grows c.requires.members

pub number_locals-requires-clause-built : goal.number_locals-requires-clause-built
number_locals-requires-clause-built c =
    subst (λ (vs : List BodyVariable). All (HoldsNumber (structs_of c.bodies.table) c.bodies.table.begun) (local_types vs)) (sym c.as_slice.ensures)
    (still (λ ss b. BodyHasNumbers ss b c.body-item.result) c.args.table.now c.bodies.table c.bodies.invariant.grows c.requires.members
    (at-next (BodyHasNumbers (structs_of c.args.table.now) c.args.table.now.begun) c.args.bodies.now c.bodies.body-index c.body-item.result c.bodies-test.true c.body-item.is c.requires.built))

pub bodies-preserved : goal.bodies-preserved
bodies-preserved c =
    bodies-more c.args.table.now c.bodies.table c.number_locals.new.table c.bodies.all c.push.new.self c.args.bodies.now c.bodies.body-index
    (record { number = c.body-item.result.number; variables = c.in_ok-variables.variables }) c.body-item.result c.bodies.invariant c.bodies-test.true c.body-item.is
    c.in_ok-variables.ensures.grows refl (subst (λ (vs : List BodyVariable). IsLocals c.number_locals.new.table c.in_ok-variables.variables vs) c.as_slice.ensures c.in_ok-variables.ensures.numbers)
    (subst (λ (vs : List BodyVariable). length c.number_locals.new.table.shapes ≤ length c.bodies.table.shapes + 33024 * length vs) c.as_slice.ensures c.in_ok-variables.ensures.few) c.in_ok-push.ensures.ok
