use Rattle.std.proofs.Common.{refl}
use Rattle.c_types.specs.Types.{type_at}
use Rattle.bounds_plan.specs.elaboration.Expressions.{expression}
use Rattle.bounds_plan.specs.elaboration.Statements.{past_counts}
use Rattle.c_accepted.specs.SourceLiterals.{counts_sizes, declared_sizes}
use Rattle.steps_facts.specs.Seen.{reached_of}
use Rattle.c_literals.proofs.LaidLemmas.{two_laid}
use Rattle.c_literals.proofs.StatementLemmas.{where_ok, filled_sizes}
use Rattle.c_literals.proofs.statements.put_literals_of_variable.Goals as goal

pub returns-in_ok-put_literals_of_init-in-Some-clause-put : goal.returns-in_ok-put_literals_of_init-in-Some-clause-put
returns-in_ok-put_literals_of_init-in-Some-clause-put g c =
    let around = g.K.Knows.around c.args.known.now in
    let here = past_counts expression c.args.d.now around (reached_of c.args.r) in
    where_ok c.past_init.result (two_laid _ (counts_sizes c.args.d.now.counts) (declared_sizes c.args.init.now around here)
    c.args.literals.now c.put_literals_of_counts.new.literals c.put_literals_of_init.new.literals refl c.in_ok-put_literals_of_counts.ensures
    (filled_sizes c.args.init.now c.in-Some.x around (type_at (g.K.Knows.table c.args.known.now) c.in_ok-declared.declared.kind) (reached_of c.in_ok-here.here) here
    c.put_literals_of_counts.new.literals c.put_literals_of_init.new.literals c.in-Some.is c.in_ok-here.ensures c.in_ok-declared.ensures.kind c.in_ok-put_literals_of_init-in-Some.ensures))
