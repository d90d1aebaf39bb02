use Rattle.std.proofs.Common.{◌∙◌, ◌++◌, ap, sym, take}
use Rattle.obj_linker.specs.Symbols.{numbered, ids_of}
use Rattle.obj_linker.proofs.Steps.{numbered_taken}
use Rattle.obj_linker.proofs.symbols.symbols.Goals as goal

pub all-preserved : goal.all-preserved
all-preserved c =
    let objects = c.args.objects.now in
    c.in_ok-ids_of.ensures
    ∙ (ap (λ l. l ++ ids_of c.all.object c.index-objects-object.result) c.all.invariant
    ∙ (ap (λ o. numbered ids_of 0 (take c.all.object objects) ++ ids_of c.all.object o) c.index-objects-object.is
    ∙ sym (numbered_taken ids_of objects c.all.object c.index-objects-object.result c.all-test.true)))
