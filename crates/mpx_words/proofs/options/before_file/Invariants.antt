use Rattle.std.proofs.Common.{◌≡◌, map, take}
use Rattle.std.specs.Prelude.{fold, string_bytes}
use Rattle.mpx_words.specs.declared.options.Seen.TheVariants.{Options}
use Rattle.mpx_words.specs.declared.options.TheConstants.{NOTHING}
use Rattle.mpx_words.specs.Options.{seen_after}
use Rattle.mpx_words.proofs.options.before_file.Given as goal

abbrev pub invariant-loop-word : goal.invariant-loop-word
invariant-loop-word l = l.seen ≡ fold seen_after (Options NOTHING) (map string_bytes (take l.word-index l.words))
