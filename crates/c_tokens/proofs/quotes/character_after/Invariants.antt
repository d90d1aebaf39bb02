use Rattle.std.proofs.Common.{◌≡◌, drop}
use Rattle.std.specs.Option.{option_to_list}
use Rattle.c_tokens.specs.Quotes.{quoted, quoted_from}
use Rattle.c_tokens.proofs.Meanings.{meaning_after}
use Rattle.c_tokens.proofs.quotes.character_after.Given as goal

abbrev pub invariant-loop-at : goal.invariant-loop-at
invariant-loop-at l = quoted 39 l.rest ≡ meaning_after l.at (option_to_list l.found) (quoted_from 39 l.reading (drop l.at l.rest))
