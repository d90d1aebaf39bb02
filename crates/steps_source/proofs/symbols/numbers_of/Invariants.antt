use Rattle.std.proofs.Common.{◌≡◌, ◌≤◌, drop, length}
use Rattle.c_check.specs.declared.symbols.Subject.TheVariants.{Global, Function}
use Rattle.steps_source.specs.Symbols.{placed_from}
use Rattle.steps_source.proofs.symbols.numbers_of.Given as goal

abbrev pub decreases-symbols : goal.decreases-symbols
decreases-symbols l = l.at

-- the numbers of what the symbols from one on name
abbrev pub invariant-symbols : goal.invariant-symbols
invariant-symbols l = record {
  within : l.at ≤ length l.named;
  globals : l.of_globals ≡ placed_from Global (drop l.at l.named) l.at l.behind 0 l.globals;
  functions : l.of_functions ≡ placed_from Function (drop l.at l.named) l.at l.last 0 l.functions;
}
