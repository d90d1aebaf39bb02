use Rattle.std.proofs.Common.{◌∙◌, Ok, sym, ap}
use Rattle.mpx_words.proofs.Linking.{linked_texts, unlinked_texts}
use Rattle.mpx_words.proofs.link.spell_texts.Goals as goal

pub returns-in-Ok-spell_linked-clause-spells : goal.returns-in-Ok-spell_linked-clause-spells
returns-in-Ok-spell_linked-clause-spells c = linked_texts _ _ c.as_slice.result.now (c.in-Ok.ensures.reads ∙ ap Ok (sym c.as_slice.ensures.value)) c.in-Ok-spell_linked.bytes c.in-Ok-spell_linked.ensures

pub returns-clause-spells : goal.returns-clause-spells
returns-clause-spells c = unlinked_texts _ _ c.as_slice.result.now (c.in-Ok.ensures.reads ∙ ap Ok (sym c.as_slice.ensures.value)) _ c.in-Err-spell_linked.ensures
