use Rattle.mpx_words.proofs.Sourced.{file_ran}
use Rattle.mpx_words.proofs.early.run_file.Goals as goal

pub returns-in-Ok-Some-clause-works : goal.returns-in-Ok-Some-clause-works
returns-in-Ok-Some-clause-works g c = file_ran _ _ _ _ _ _ _ c.as_slice.ensures.value c.in-Ok-Some.field-0-is c.in-Ok-Some.ensures.bytes c.run_text.ensures.works
