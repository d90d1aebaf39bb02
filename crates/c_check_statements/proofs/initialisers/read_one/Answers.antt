use Rattle.std.proofs.Common.{rules}
use Rattle.std.specs.Prelude.{Option}
use Rattle.std.specs.Option.{option_copied}
use Rattle.c_check_typing.specs.declared.typed.Typed.{Typed}
use Rattle.c_check_statements.specs.Initialisers.{one_kinds, one_word}
use Rattle.c_check_statements.proofs.Steps.{then_stops, then_ends, value_stops, value_ends, value_is, node_of}
use Rattle.c_check_statements.proofs.Filling.{word_noted}
use Rattle.c_check_statements.proofs.initialisers.read_one.Goals as goal

pub returns-in_err-t : goal.returns-in_err-t
returns-in_err-t c = then_stops _ _ (value_stops c.in_err-t.ensures) (search rules)

pub returns-in_err-judge_one : goal.returns-in_err-judge_one
returns-in_err-judge_one c = then_ends _ _ (value_ends c.in_ok-t.ensures)
    (then_stops _ _ (node_of (λ (x : Option Typed). one_kinds c.args.filled (option_copied c.args.target) x) (value_is c.in_ok-t.ensures) c.in_err-judge_one.ensures) (search rules))

pub returns : goal.returns
returns c = then_ends _ _ (value_ends c.in_ok-t.ensures)
    (then_ends _ _ (node_of (λ (x : Option Typed). one_kinds c.args.filled (option_copied c.args.target) x) (value_is c.in_ok-t.ensures) c.in_ok-judge_one.ensures)
    (word_noted (λ (x : Option Typed). one_word c.args.filled (option_copied c.args.target) x) _ (value_is c.in_ok-t.ensures) c.one_word.ensures c.note_word.ensures))
