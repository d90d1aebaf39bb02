use Rattle.std.proofs.Common.{◌≡◌, drop}
use Rattle.c_tokens.specs.Quotes.{quoted, quoted_from}
use Rattle.c_tokens.proofs.Meanings.{meaning_after}
use Rattle.c_tokens.proofs.quotes.text_after.Given as goal

abbrev pub invariant-loop-at : goal.invariant-loop-at
invariant-loop-at l = quoted 34 l.rest ≡ meaning_after l.at l.bytes.items (quoted_from 34 l.reading (drop l.at l.rest))
