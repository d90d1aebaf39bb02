use Rattle.mpx_words.proofs.Images.{ran}
use Rattle.mpx_words.proofs.exec.run_image.Goals as goal

pub returns-in-Ok-clause-runs : goal.returns-in-Ok-clause-runs
returns-in-Ok-clause-runs g c = λ reads exact. ran reads exact _ c.requires.bytes _ _ c.in-Ok.ensures _ _ _ _ _ _ c.run.ensures.runs c.run.ensures.frames
