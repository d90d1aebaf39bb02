use Rattle.std.proofs.Common.{◌∙◌, ◌++◌, ℕ, ap, sym, take, List, []}
use Rattle.std.specs.List.{fold}
use Rattle.std.proofs.lemmas.List.Sums.{fold-append}
use Rattle.obj_file.specs.declared.object.Object.{Object}
use Rattle.obj_linker.specs.declared.parts.SymbolId.{SymbolId}
use Rattle.obj_linker.specs.Symbols.{named_by, numbered, with_name}
use Rattle.obj_linker.specs.Placement.{stub_calls_of}
use Rattle.obj_linker.proofs.Steps.{numbered_taken}
use Rattle.obj_linker.proofs.stubs.stubs.Goals as goal

pub all-preserved : goal.all-preserved
all-preserved c =
    let os = c.args.objects.now in
    let k = c.all.object in
    let o = c.index-objects-object.result in
    let f : ℕ → Object → List SymbolId = stub_calls_of os c.args.defined.now in
    let before : List SymbolId = numbered f 0 (take k os) in
    c.in_ok-add_stubs.ensures
    ∙ (ap (λ s. fold (with_name os) s (f k o)) c.all.invariant
    ∙ (sym (fold-append (with_name os) [] before (f k o))
    ∙ ap (named_by os) (ap (λ x. before ++ f k x) c.index-objects-object.is ∙ sym (numbered_taken f os k o c.all-test.true))))
