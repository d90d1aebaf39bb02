use Rattle.std.specs.Prelude.{map, string_bytes}
use Rattle.mpx_words.specs.Commands.{Link}
use Rattle.mpx_words.proofs.Meanings.{by_command, fits}
use Rattle.mpx_words.proofs.command.command_in.Goals as goal

pub returns-in-None-clause-means : goal.returns-in-None-clause-means
returns-in-None-clause-means c = by_command _ c.in_default.ensures.means c.in_default-run_words.ensures c.in_default-dis_words.ensures c.in_default-gen_words.ensures c.in_default-make_words.ensures c.in-None.ensures

pub returns-in-Some-link_words-clause-fits : goal.returns-in-Some-link_words-clause-fits
returns-in-Some-link_words-clause-fits c = fits _ (Link c.in-Some-link_words.name.now (map string_bytes c.in-Some-link_words.files.now)) c.in-Some-link_words.ensures
