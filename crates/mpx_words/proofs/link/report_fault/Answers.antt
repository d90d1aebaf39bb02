use Rattle.std.proofs.Common.{◌∙◌}
use Rattle.mpx_words.proofs.Linking.{told_line}
use Rattle.mpx_words.proofs.link.report_fault.Goals as goal

pub returns-in-Ok : goal.returns-in-Ok
returns-in-Ok g c = told_line c.args.fault.now _ _ _ _ c.in_default.not-OutOfMemory (c.as_slice.ensures.value ∙ c.in-Ok.ensures) c.report_line.ensures
