use Rattle.std.proofs.Common.{◌≡◌, ◌++◌, map, drop}
use Rattle.c_check.specs.Symbols.{symbol_of, symbols_by}
use Rattle.c_check.proofs.symbols.source_symbols.Given as goal

abbrev pub invariant-subjects : goal.invariant-subjects
invariant-subjects l = l.all ++ map (symbol_of l.state) (drop l.subject-index l.subject-items) ≡ symbols_by l.state
