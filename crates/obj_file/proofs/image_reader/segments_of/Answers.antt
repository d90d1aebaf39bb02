use Rattle.std.proofs.Common.{◌≡◌, ◌++◌, ◌∷◌, []}
use Rattle.std.proofs.lemmas.Result.{err_from_is_err_and}
use Rattle.obj_file.specs.Fields.{many_at}
use Rattle.obj_file.specs.Image.{segment_end}
use Rattle.obj_file.specs.ImageReading.{segment_at}
use Rattle.obj_file.proofs.Loop.{begins, goes_on, ends, is_done}
use Rattle.obj_file.proofs.image_reader.segments_of.Goals as goal

pub loop-init : goal.loop-init
loop-init c = rw c.new-segments.ensures.items (begins segment_at segment_end c.args.count 0 c.args.bytes.now)

pub returns-in_err-segment : goal.returns-in_err-segment
returns-in_err-segment c =
    let p = err_from_is_err_and c.from_residual.result c.from_residual.ensures.1 in
    rw (p.1, p.2) (ends segment_at segment_end c.in_err-segment.field-0.0 c.loop.segments.items c.args.count c.loop.counter c.loop.from c.loop.rest.now (many_at segment_at segment_end c.args.count 0 c.args.bytes.now) c.loop-test.true c.in_err-segment.ensures.gives c.loop.invariant)

pub loop-preserved : goal.loop-preserved
loop-preserved c =
    let e : c.push.new.self.items ≡ c.loop.segments.items ++ c.in_ok-segment.segment ∷ [] = c.in_ok-push.ensures.items in
    rw (e, c.as_slice.ensures) (goes_on segment_at segment_end c.loop.segments.items c.args.count c.loop.counter c.loop.from c.loop.rest.now c.in_ok-segment.segment c.in_ok-segment.after.now (many_at segment_at segment_end c.args.count 0 c.args.bytes.now) c.loop-test.true c.in_ok-segment.ensures.gives c.loop.invariant)

pub returns : goal.returns
returns c = is_done segment_at segment_end c.loop.segments.items c.args.count c.loop.counter c.loop.from c.loop.rest.now (many_at segment_at segment_end c.args.count 0 c.args.bytes.now) c.loop-test.false c.loop.invariant
