use Rattle.std.specs.Prelude.{string_bytes}
use Rattle.mpx_words.proofs.OptionWords.{outer_words}
use Rattle.mpx_words.proofs.options.ends.Goals as goal

pub returns : goal.returns
returns c = let e = outer_words string_bytes _ _ _ _ _ c.in_ok-first.ensures.cases.0 c.in_ok-last.ensures.cases.0 in cc
