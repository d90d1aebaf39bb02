use Rattle.std.proofs.Common.{subst}
use Rattle.std.specs.Prelude.{All}
use Rattle.std.proofs.lemmas.List.Elements.{All-tail}
use Rattle.c_types.specs.Types.{type_at}
use Rattle.steps_facts.specs.Around.{IsPart}
use Rattle.c_literals.proofs.InitLemmas.{elements_laid, members_laid}
use Rattle.c_literals.proofs.inits.+inits.Goals as goal

pub put_literals_of_elements-loop-init-preserved : goal.put_literals_of_elements-loop-init-preserved
put_literals_of_elements-loop-init-preserved g t c = elements_laid c.args.all.now c.init-item.result c.loop-init.init-index (g.K.Knows.around c.args.known.now)
    (type_at (g.K.Knows.table c.args.known.now) c.args.element) c.loop-init.left c.loop-init.literals c.put_literals_of_init.new.literals _
    c.loop-init-test.true c.init-item.is c.if-left-eq0.false c.in_ok-put_literals_of_init.ensures c.loop-init.invariant

pub put_literals_of_members-loop-init-preserved : goal.put_literals_of_members-loop-init-preserved
put_literals_of_members-loop-init-preserved g t c = let table = g.K.Knows.table c.args.known.now in record {
  laid = members_laid c.args.all.now c.init-item.result c.loop-init.init-index (g.K.Knows.around c.args.known.now) table c.loop-init.left.now c.in-Some.part.now c.in-Some.more.now
      c.loop-init.literals c.put_literals_of_init.new.literals _ c.loop-init-test.true c.init-item.is c.in-Some.ensures.cases.0 c.in_ok-put_literals_of_init.ensures c.loop-init.invariant.laid;
  known = All-tail (IsPart table) c.in-Some.part.now c.in-Some.more.now (subst (All (IsPart table)) c.in-Some.ensures.cases.0 c.loop-init.invariant.known);
}
