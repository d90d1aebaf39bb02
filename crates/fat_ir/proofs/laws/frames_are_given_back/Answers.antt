use Rattle.std.proofs.Common.{subst}
use Rattle.fat_ir.specs.Step.{Reached}
use Rattle.fat_ir.specs.Laws.{SameFrame, Anywhere}
use Rattle.fat_ir.proofs.Runs.{Led, led-pass}
use Rattle.fat_ir.proofs.Worlds.{same_frame, frames_given_back}
use Rattle.fat_ir.proofs.laws.frames_are_given_back.Goals as goal

pub returns-clause-steps : goal.returns-clause-steps
returns-clause-steps c = λ symbols h steps going onward s t e. let P : Reached → Type 0 = Led SameFrame Anywhere same_frame s.world in subst P e (led-pass SameFrame Anywhere same_frame symbols h steps going s)

pub returns-clause-programs : goal.returns-clause-programs
returns-clause-programs c = frames_given_back
