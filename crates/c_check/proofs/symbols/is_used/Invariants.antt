use Rattle.std.proofs.Common.{◌≡◌, drop}
use Rattle.c_check.specs.Symbols.{is_used}
use Rattle.c_check.proofs.symbols.is_used.Given as goal

abbrev pub invariant-used : goal.invariant-used
invariant-used l = is_used (drop l.bind-index l.used) l.subject ≡ is_used l.used l.subject
