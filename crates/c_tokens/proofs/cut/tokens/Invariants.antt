use Rattle.std.proofs.Common.{◌≡◌, length}
use Rattle.c_tokens.specs.Tokens.{tokens_of, led_by}
use Rattle.c_tokens.proofs.Turns.{Stands, left_of}
use Rattle.c_tokens.proofs.cut.tokens.Given as goal

abbrev pub invariant-loop-at : goal.invariant-loop-at
invariant-loop-at l = record {
  same : tokens_of l.file l.bytes ≡ led_by l.tokens.items (left_of l.file l.bytes l.at.from);
  stands : Stands l.file l.bytes l.at.from l.at.rest.now l.at.place;
}

abbrev pub decreases-loop-at : goal.decreases-loop-at
decreases-loop-at l = length l.at.rest.now
