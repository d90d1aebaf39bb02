use Rattle.std.proofs.Common.{◌≡◌, ◌≤◌, drop}
use Rattle.std.specs.Prelude.{option_map}
use Rattle.c_tokens.specs.Quotes.{quoted, quoted_from, extent_of}
use Rattle.c_tokens.proofs.Extents.{extent_after}
use Rattle.c_tokens.proofs.quotes.quoted.Given as goal

abbrev pub invariant-loop-at : goal.invariant-loop-at
invariant-loop-at l = record {
  rest : option_map extent_of (quoted l.quote l.text) ≡ extent_after l.at l.count (quoted_from l.quote l.reading (drop l.at l.text));
  few : l.count ≤ l.at;
}
