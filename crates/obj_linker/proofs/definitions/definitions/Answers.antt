use Rattle.std.proofs.Common.{◌≡◌, ◌∙◌, ap, sym, subst, not, get_or, List, [], Bool, true, false}
use Rattle.std.proofs.lemmas.Result.{err_from_is_err_and}
use Rattle.std.specs.List.{filter}
use Rattle.obj_linker.specs.declared.parts.SymbolId.{SymbolId}
use Rattle.obj_linker.specs.Symbols.{is_import, named_by, symbol_id}
use Rattle.obj_linker.specs.Faults.{repeated}
use Rattle.obj_linker.specs.Told.{IsFirst}
use Rattle.obj_linker.proofs.Named.{first_again, noted, none_again, left_out}
use Rattle.obj_linker.proofs.definitions.definitions.Goals.{then-not-is_import+in_ok-define, else-not-is_import}
use Rattle.obj_linker.proofs.definitions.definitions.Goals as goal

pub returns-in_err-define-clause-fault : goal.returns-in_err-define-clause-fault
returns-in_err-define-clause-fault c =
    let os = c.args.objects.now in
    let ids = c.args.ids.now in
    let p : SymbolId → Bool = λ id. not (is_import os id) in
    let e = err_from_is_err_and c.from_residual.result c.from_residual.ensures.1 in
    let does : p (get_or ids c.all.k (symbol_id 0 0)) ≡ true = ap not (sym c.is_import.ensures ∙ c.if-not-is_import.true) in
    let fault = first_again c.in_err-define.field-0.0 os p ids c.all.k (symbol_id 0 0) c.all.names c.all-test.true does c.all.invariant.names c.all.invariant.none c.in_err-define.ensures.fault in
    rw (e.1, e.2) (subst (λ (l : List SymbolId). IsFirst c.in_err-define.field-0.0 (repeated os [] (filter p l))) c.requires fault)

pub all-preserved : goal.all-preserved
all-preserved c =
    let os = c.args.objects.now in
    let ids = c.args.ids.now in
    let p : SymbolId → Bool = λ id. not (is_import os id) in
    let less = c.all-test.true in
    elim c.if-not-is_import.branch [
      | then-not-is_import+in_ok-define w ↦
          let does : p (get_or ids c.all.k (symbol_id 0 0)) ≡ true = ap not (sym c.is_import.ensures ∙ w.if-not-is_import.true) in
          record {
            names = noted os p ids c.all.k (symbol_id 0 0) c.all.names c.if-not-is_import.names less does c.all.invariant.names (w.names-is ∙ w.in_ok-define.ensures.names);
            none = none_again os p ids c.all.k (symbol_id 0 0) c.all.names less does c.all.invariant.names c.all.invariant.none w.in_ok-define.ensures.fault;
          }
      | else-not-is_import w ↦
          let isnt : p (get_or ids c.all.k (symbol_id 0 0)) ≡ false = ap not (sym c.is_import.ensures ∙ w.if-not-is_import.false) in
          let same = left_out p ids c.all.k (symbol_id 0 0) less isnt in
          record {
            names = w.names-is ∙ (c.all.invariant.names ∙ sym (ap (named_by os) same));
            none = ap (repeated os []) same ∙ c.all.invariant.none;
          }
    ]
