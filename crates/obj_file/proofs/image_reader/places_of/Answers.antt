use Rattle.std.proofs.Common.{◌≡◌, ◌++◌, ◌∷◌, []}
use Rattle.std.proofs.lemmas.Result.{err_from_is_err_and}
use Rattle.obj_file.specs.Fields.{many_at}
use Rattle.obj_file.specs.Image.{after_place}
use Rattle.obj_file.specs.ImageReading.{place_at}
use Rattle.obj_file.proofs.Loop.{begins, goes_on, ends, is_done}
use Rattle.obj_file.proofs.image_reader.places_of.Goals as goal

pub loop-init : goal.loop-init
loop-init c = rw c.new-places.ensures.items (begins (place_at c.args.version c.args.files) after_place c.args.count 0 c.args.bytes.now)

pub returns-in_err-place : goal.returns-in_err-place
returns-in_err-place c =
    let p = err_from_is_err_and c.from_residual.result c.from_residual.ensures.1 in
    rw (p.1, p.2) (ends (place_at c.args.version c.args.files) after_place c.in_err-place.field-0.0 c.loop.places.items c.args.count c.loop.counter c.loop.from c.loop.rest.now (many_at (place_at c.args.version c.args.files) after_place c.args.count 0 c.args.bytes.now) c.loop-test.true c.in_err-place.ensures.gives c.loop.invariant)

pub loop-preserved : goal.loop-preserved
loop-preserved c =
    let e : c.push.new.self.items ≡ c.loop.places.items ++ c.in_ok-place.place ∷ [] = c.in_ok-push.ensures.items in
    rw e (goes_on (place_at c.args.version c.args.files) after_place c.loop.places.items c.args.count c.loop.counter c.loop.from c.loop.rest.now c.in_ok-place.place c.in_ok-place.after.now (many_at (place_at c.args.version c.args.files) after_place c.args.count 0 c.args.bytes.now) c.loop-test.true c.in_ok-place.ensures.gives c.loop.invariant)

pub returns : goal.returns
returns c = is_done (place_at c.args.version c.args.files) after_place c.loop.places.items c.args.count c.loop.counter c.loop.from c.loop.rest.now (many_at (place_at c.args.version c.args.files) after_place c.args.count 0 c.args.bytes.now) c.loop-test.false c.loop.invariant
