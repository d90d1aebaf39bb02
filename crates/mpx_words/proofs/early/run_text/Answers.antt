use Rattle.mpx_words.proofs.Sourced.{text_unbuilt, text_ran}
use Rattle.mpx_words.proofs.early.run_text.Goals as goal

pub returns-in-Err-Unbuilt-clause-works : goal.returns-in-Err-Unbuilt-clause-works
returns-in-Err-Unbuilt-clause-works g c = text_unbuilt _ _ (λ size acts code h. let e = c.in-Err-Unbuilt.ensures.only size acts code h in cc)

pub returns-in-Ok-clause-works : goal.returns-in-Ok-clause-works
returns-in-Ok-clause-works g c = text_ran _ _ _ _ _ _ _ c.in-Ok.ensures.ok c.run_program.ensures.works
