use Rattle.mpx_words.proofs.Listings.{ahead_start, ahead_next, ahead_end}
use Rattle.mpx_words.proofs.dis.list_segments.Goals as goal

pub loop-segment-init : goal.loop-segment-init
loop-segment-init c = ahead_start c.args.segments.now c.new-out.result.items c.new-out.ensures.items

pub loop-segment-preserved : goal.loop-segment-preserved
loop-segment-preserved c = ahead_next c.args.segments.now c.loop-segment.rest.now c.in-Some.after.now c.in-Some.segment.now c.loop-segment.out.items _ c.in-Some.ensures.cases.0 c.loop-segment.invariant c.in_ok-list_segment.ensures

pub returns : goal.returns
returns c = ahead_end c.args.segments.now c.loop-segment.rest.now c.loop-segment.out.items c.in_default.ensures.cases c.loop-segment.invariant
