use Rattle.std.proofs.Common.{sym, ap, ◌∙◌, ◌+◌, drop}
use Rattle.std.proofs.lemmas.List.{drop_more, drop_all}
use Rattle.c_check_statements.specs.Frames.{marked}
use Rattle.c_check_statements.proofs.Marking.{next_marked, marked_none}
use Rattle.c_check_statements.proofs.frames.marks_of.Goals as goal

pub numbers-preserved : goal.numbers-preserved
numbers-preserved c =
    let all = c.args.numbers.now in
    let i = c.numbers.number-index in
    ap (marked 0 (drop (i + 1) all)) c.mark.ensures ∙ (sym (next_marked _ (drop (i + 1) all) c.numbers.marks.items) ∙ (ap (λ l. marked 0 l c.numbers.marks.items) (sym (drop_more all i 0 c.numbers-test.true)) ∙ c.numbers.invariant))

pub returns : goal.returns
returns c = sym (marked_none 0 c.numbers.marks.items) ∙ (ap (λ l. marked 0 l c.numbers.marks.items) (sym (drop_all c.numbers.number-index c.args.numbers.now c.numbers-test.false)) ∙ c.numbers.invariant)
