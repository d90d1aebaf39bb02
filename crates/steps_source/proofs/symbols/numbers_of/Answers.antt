use Rattle.std.proofs.Common.{arith}
use Rattle.steps_source.proofs.SymbolLemmas.{all_numbered}
use Rattle.steps_source.proofs.symbols.numbers_of.Goals as goal

pub returns : goal.returns
returns c = all_numbered c.args.named.now c.symbols.at c.args.globals c.args.functions c.in_ok-texts.texts c.in_ok-behind.behind c.in_ok-last.last c.symbols.of_globals c.symbols.of_functions
    (omega (arith, c.symbols-test.false)) c.in_ok-texts.ensures c.in_ok-behind.ensures c.in_ok-last.ensures c.symbols.invariant.globals c.symbols.invariant.functions
