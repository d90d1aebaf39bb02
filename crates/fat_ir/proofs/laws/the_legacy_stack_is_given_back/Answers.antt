use Rattle.std.proofs.Common.{refl, subst}
use Rattle.fat_ir.specs.Step.{Reached}
use Rattle.fat_ir.specs.Laws.{SameLegacyStack, Anywhere}
use Rattle.fat_ir.proofs.Runs.{Led, led-pass, led-calls}
use Rattle.fat_ir.proofs.Worlds.{same_legacy_stack}
use Rattle.fat_ir.proofs.laws.the_legacy_stack_is_given_back.Goals as goal

pub returns-clause-steps : goal.returns-clause-steps
returns-clause-steps c = λ symbols h steps going onward s t e. let P : Reached → Type 0 = Led SameLegacyStack Anywhere same_legacy_stack s.world in subst P e (led-pass SameLegacyStack Anywhere same_legacy_stack symbols h steps going s)

pub returns-clause-programs : goal.returns-clause-programs
returns-clause-programs c = λ program outside h. led-calls SameLegacyStack Anywhere same_legacy_stack (λ w sp. refl) program outside h
