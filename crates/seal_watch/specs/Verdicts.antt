-- A verdict of the watch, by where an access or control strays.
use Rattle.std.specs.Prelude.{ℕ, Option, None, Some}
use Rattle.seal_watch.specs.declared.verdicts.Verdict.{Verdict}
use Rattle.seal_watch.specs.declared.verdicts.Verdict.TheVariants.{Fine, Strayed}

abbrev pub verdict_of : Option ℕ → Verdict
verdict_of None = Fine
verdict_of (Some x) = Strayed x
