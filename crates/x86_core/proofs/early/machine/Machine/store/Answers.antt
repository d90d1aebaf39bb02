use Rattle.std.proofs.Common.{ap, ◌∙◌, ◌%◌, ℤ}
use Rattle.std.specs.Int.{w64, cast_unsigned}
use Rattle.std.proofs.lemmas.Int.{to_z-of_z}
use Rattle.x86_forms.specs.EarlyEffects.{EarlyState}
use Rattle.x86_core.specs.EarlyMachine.{seen}
use Rattle.x86_core.proofs.EarlySteps.{with_rip, went, store_goes}
use Rattle.x86_core.proofs.early.machine.Machine.store.Goals as goal

pub returns-in-Some : goal.returns-in-Some
returns-in-Some c =
    let there = c.in-Some.ensures in
    went _ _ _ _ (store_goes c.args.m c.args.imm c.args.next (seen c.args.self.now) c.address_of-at.result c.in-Some.k c.low_byte.result c.address_of-at.ensures there.0 there.1 (c.low_byte.ensures ∙ ap (λ (z : ℤ). cast_unsigned w64 z % 0x100) (to_z-of_z w64 c.args.imm c.ranges.imm)))
    c.go.ensures.value (c.go.ensures.state ∙ ap (λ (t : EarlyState). with_rip t c.args.next) c.set_byte.ensures)
