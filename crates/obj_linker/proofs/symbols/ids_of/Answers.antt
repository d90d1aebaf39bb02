use Rattle.std.proofs.Common.{◌∙◌}
use Rattle.obj_linker.specs.Symbols.{id_with, no_symbol}
use Rattle.obj_linker.proofs.Steps.{grown}
use Rattle.obj_linker.proofs.symbols.ids_of.Goals as goal

pub all-preserved : goal.all-preserved
all-preserved c =
    c.in_ok-push.ensures.items
    ∙ grown (id_with c.args.object) c.args.o.now.symbols c.all.symbol no_symbol c.args.out.now.items c.all.out.items (rw c.as_slice-symbols.ensures at c.all-test.true) c.all.invariant
