use Rattle.std.proofs.Common.{rules}
use Rattle.c_tokens.proofs.Values.{no_kind}
use Rattle.c_tokens.specs.Numbers.{number_of}
use Rattle.c_tokens.proofs.numbers.number_of.Goals as goal
use Rattle.c_tokens.proofs.numbers.number_of.Goals.{then-numeral, else-numeral}

pub returns-in_err-value : goal.returns-in_err-value
unfolding number_of
returns-in_err-value c =
    elim c.if-numeral.branch [ then-numeral w ↦ search (rules, no_kind) | else-numeral w ↦ search (rules, no_kind) ]
