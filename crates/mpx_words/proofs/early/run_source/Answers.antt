use Rattle.std.proofs.Common.{refl}
use Rattle.mpx_words.proofs.Sourced.{source_answers}
use Rattle.mpx_words.proofs.early.run_source.Goals as goal

pub returns : goal.returns
returns g c = λ reads input. source_answers reads _ _ _ _ c.run_file-end.ensures.contents c.run_file-end.ensures.write_faults refl _ c.run_file-end.ensures.works c.run_file-end.ensures.counts c.report.ensures
