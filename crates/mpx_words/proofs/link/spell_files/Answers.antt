use Rattle.mpx_words.proofs.Linking.{same_counts}
use Rattle.mpx_words.proofs.link.spell_files.Goals as goal

pub returns-in-Ok-clause-counts : goal.returns-in-Ok-clause-counts
returns-in-Ok-clause-counts g c = same_counts c.spell_texts.result _ _ c.spell_texts.ensures.was_read c.in-Ok.ensures.counts
