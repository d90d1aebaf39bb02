use Rattle.std.proofs.Common.{length}
use Rattle.mpx_words.proofs.Listings.{IsAhead}
use Rattle.mpx_words.proofs.dis.list_segments.Given as goal

abbrev pub invariant-loop-segment : goal.invariant-loop-segment
invariant-loop-segment l = IsAhead l.segments l.rest l.out.items

abbrev pub decreases-loop-segment : goal.decreases-loop-segment
decreases-loop-segment l = length l.rest
