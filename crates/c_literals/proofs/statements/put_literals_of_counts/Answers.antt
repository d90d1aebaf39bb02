use Rattle.std.proofs.Common.{◌∙◌, ap, List, map}
use Rattle.std.proofs.lemmas.Result.{on_ok_weaker}
use Rattle.c_tree.specs.declared.tree.Expr.{Expr}
use Rattle.c_accepted.specs.Literals.{text_sizes, joined}
use Rattle.c_literals.specs.Laid.{with_literals}
use Rattle.c_literals.proofs.StatementLemmas.{counts_joined}
use Rattle.c_literals.proofs.statements.put_literals_of_counts.Goals as goal

pub returns : goal.returns
returns c = on_ok_weaker c.put_literals_of_all.result
    (λ h. h ∙ ap (λ (es : List Expr). with_literals c.args.literals.now (joined (map text_sizes es))) c.as_slice.ensures ∙ ap (with_literals c.args.literals.now) (counts_joined c.args.d.now.counts))
    c.put_literals_of_all.ensures
