use Rattle.std.proofs.Common.{◌∙◌}
use Rattle.seal_watch.proofs.Runs.{halves-low, halves-high}
use Rattle.seal_watch.proofs.sealed.first_sealed_byte.Goals as goal

pub returns-in-None : goal.returns-in-None
returns-in-None c = c.sealed_from_zero.ensures ∙ halves-high c.args.s c.in-None.ensures

pub returns-in-Some : goal.returns-in-Some
returns-in-Some c = halves-low c.args.s c.in-Some.x c.in-Some.ensures
