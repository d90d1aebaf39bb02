use Rattle.std.proofs.Common.{◌≡◌, ◌++◌, ◌∷◌, []}
use Rattle.std.proofs.lemmas.Result.{err_from_is_err_and}
use Rattle.obj_file.specs.Fields.{many_at}
use Rattle.obj_file.specs.Object.{after_spot}
use Rattle.obj_file.specs.ObjectReading.{spot_at}
use Rattle.obj_file.proofs.Loop.{begins, goes_on, ends, is_done}
use Rattle.obj_file.proofs.object_reader.spots_of.Goals as goal

pub loop-init : goal.loop-init
loop-init c = rw c.new-spots.ensures.items (begins (spot_at c.args.version c.args.code) after_spot c.args.count 0 c.args.bytes.now)

pub returns-in_err-spot : goal.returns-in_err-spot
returns-in_err-spot c =
    let p = err_from_is_err_and c.from_residual.result c.from_residual.ensures.1 in
    rw (p.1, p.2) (ends (spot_at c.args.version c.args.code) after_spot c.in_err-spot.field-0.0 c.loop.spots.items c.args.count c.loop.counter c.loop.from c.loop.rest.now (many_at (spot_at c.args.version c.args.code) after_spot c.args.count 0 c.args.bytes.now) c.loop-test.true c.in_err-spot.ensures.gives c.loop.invariant)

pub loop-preserved : goal.loop-preserved
loop-preserved c =
    let e : c.push.new.self.items ≡ c.loop.spots.items ++ c.in_ok-spot.spot ∷ [] = c.in_ok-push.ensures.items in
    rw e (goes_on (spot_at c.args.version c.args.code) after_spot c.loop.spots.items c.args.count c.loop.counter c.loop.from c.loop.rest.now c.in_ok-spot.spot c.in_ok-spot.after.now (many_at (spot_at c.args.version c.args.code) after_spot c.args.count 0 c.args.bytes.now) c.loop-test.true c.in_ok-spot.ensures.gives c.loop.invariant)

pub returns : goal.returns
returns c = is_done (spot_at c.args.version c.args.code) after_spot c.loop.spots.items c.args.count c.loop.counter c.loop.from c.loop.rest.now (many_at (spot_at c.args.version c.args.code) after_spot c.args.count 0 c.args.bytes.now) c.loop-test.false c.loop.invariant
