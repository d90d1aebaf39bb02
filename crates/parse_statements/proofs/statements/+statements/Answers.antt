use Rattle.std.proofs.Common.{◌≡◌, ◌∙◌, ◌||◌, true, sym, subst, Err}
use Rattle.c_grammar.specs.Lexemes.{among}
use Rattle.std.proofs.lemmas.Result.{err_from_is_err_and}
use Rattle.c_grammar.specs.Rules as n
use Rattle.c_grammar.specs.Reading.{parse, limit, base_begins, statement_begins}
use Rattle.parse_statements.specs.Pieces.{entry}
use Rattle.parse_statements.proofs.Blocks.{stop_gives, stmts_stop}
use Rattle.parse_statements.proofs.statements.+statements.Goals as goal

pub statements-returns-in_err-more-clause-gives : goal.statements-returns-in_err-more-clause-gives
statements-returns-in_err-more-clause-gives t c =
    let p = err_from_is_err_and c.from_residual.result c.from_residual.ensures.1 in
    let stops = stop_gives (parse limit n.Statements c.args.at.now.depth c.args.at.now.left) (entry c.loop-at.at.depth c.loop-at.at.left) c.in_err-more.field-0.0 c.entry.new.at c.in_err-more.ensures.gives (λ h e. c.loop-at.invariant.reads ∙ stmts_stop c.loop-at.all c.loop-at.at.depth c.loop-at.at.left h (subst (λ z. (among z base_begins || among z statement_begins) ≡ true) c.peek.ensures (sym c.loop-at-test.ensures)) e) in
    rw (p.1, p.2) stops
