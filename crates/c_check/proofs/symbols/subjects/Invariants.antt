use Rattle.std.proofs.Common.{◌≡◌, ◌++◌, drop}
use Rattle.c_check.specs.Symbols.{named_from}
use Rattle.c_check.proofs.symbols.subjects.Given as goal

abbrev pub invariant-order : goal.invariant-order
invariant-order l = l.all ++ named_from l.state (drop l.bind-index l.state.order) ≡ named_from l.state l.state.order
