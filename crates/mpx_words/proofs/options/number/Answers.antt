use Rattle.std.proofs.Common.{◌∙◌}
use Rattle.mpx_words.proofs.OptionWords.{number_parsed}
use Rattle.mpx_words.proofs.options.number.Goals as goal

pub returns : goal.returns
returns c = c.ok.ensures.value ∙ number_parsed c.args.word.now c.parse.result c.parse.ensures.value.0
