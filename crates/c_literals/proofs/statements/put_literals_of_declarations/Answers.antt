use Rattle.c_literals.proofs.StatementLemmas.{decls_laid}
use Rattle.c_literals.proofs.statements.put_literals_of_declarations.Goals as goal

pub loop-d-preserved : goal.loop-d-preserved
loop-d-preserved c = decls_laid c.args.all.now c.d-item.result c.loop-d.d-index c.loop-d.literals c.put_literals_of_counts.new.literals _
    c.loop-d-test.true c.d-item.is c.in_ok-put_literals_of_counts.ensures c.loop-d.invariant
