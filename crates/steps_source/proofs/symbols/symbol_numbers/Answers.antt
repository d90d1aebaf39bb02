use Rattle.std.proofs.Common.{ap, ◌∙◌}
use Rattle.std.proofs.lemmas.Result.{IfOk-weaker}
use Rattle.steps_source.specs.Symbols.{named_in, numbered}
use Rattle.steps_source.proofs.SymbolLemmas.{named_in_source}
use Rattle.steps_source.proofs.symbols.symbol_numbers.Goals as goal

pub returns : goal.returns
returns c = λ tree e. IfOk-weaker c.numbers_of.result _ _
    (λ s is. is ∙ ap (λ xs. numbered xs c.args.globals c.args.functions) (c.as_slice.ensures ∙ c.in_ok-before_literals.ensures ∙ ap named_in e ∙ named_in_source tree)) c.numbers_of.ensures
