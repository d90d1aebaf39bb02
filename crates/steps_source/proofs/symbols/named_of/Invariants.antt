use Rattle.std.proofs.Common.{◌≡◌, ◌++◌, drop}
use Rattle.steps_source.specs.Symbols.{named_in}
use Rattle.steps_source.proofs.symbols.named_of.Given as goal

abbrev pub invariant-loop-one : goal.invariant-loop-one
invariant-loop-one l = l.named ++ named_in (drop l.one-index l.symbols) ≡ named_in l.symbols
