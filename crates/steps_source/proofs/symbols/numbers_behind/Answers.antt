use Rattle.steps_source.proofs.SymbolLemmas.{numbers_on}
use Rattle.steps_source.proofs.symbols.numbers_behind.Goals as goal

pub numbers-preserved : goal.numbers-preserved
numbers-preserved c = λ subject at. numbers_on subject at c.args.behind c.numbers.first c.args.count c.in_ok-plus.field-0 c.numbers.all c.push.new.self _
    c.numbers-test.true c.in_ok-plus.ensures c.in_ok-push.ensures.ok (c.numbers.invariant subject at)
