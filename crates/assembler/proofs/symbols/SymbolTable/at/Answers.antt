use Rattle.std.proofs.Common.{◌≡◌, ◌∙◌, ap, sym, subst, slice_get, Some}
use Rattle.std.specs.Prelude.{option_map}
use Rattle.std.specs.Map.Iter.{deref_pair}
use Rattle.assembler.specs.Held.{symbol, sign_in, IsWritten}
use Rattle.assembler.proofs.UseLemmas.{symbol_get, written_at, if_ok}
use Rattle.assembler.proofs.symbols.SymbolTable.at.Goals as goal

pub symbol_of-requires : goal.symbol_of-requires
symbol_of-requires c =
    let signs = c.self.inside.signs.entries in
    let key = c.unwrap.result.0.now.items in
    let spot = c.unwrap.result.1.now in
    let at = symbol_get signs c.self.inside.names.entries c.args.number (c.unwrap.result.0.now, spot) (sym c.get_index.ensures.entry ∙ ap (option_map deref_pair) c.unwrap.ensures) in
    let here = ap (λ ss. slice_get ss c.args.number) (sym c.self.view_is) ∙ at in
    let same : symbol c.as_slice.result.now spot c.sign_in.result.now ≡ symbol key spot (sign_in signs key) = (λ i. symbol (c.as_slice.ensures.value i) spot ((c.sign_in.ensures ∙ ap (sign_in signs) c.as_slice-2.ensures.value) i)) in
    subst IsWritten (sym same) (written_at c.args.self.now c.args.number (symbol key spot (sign_in signs key)) c.requires.written here)

pub returns : goal.returns
returns c =
    let signs = c.self.inside.signs.entries in
    let key = c.unwrap.result.0.now.items in
    let spot = c.unwrap.result.1.now in
    let at = symbol_get signs c.self.inside.names.entries c.args.number (c.unwrap.result.0.now, spot) (sym c.get_index.ensures.entry ∙ ap (option_map deref_pair) c.unwrap.ensures) in
    let here = ap (λ ss. slice_get ss c.args.number) (sym c.self.view_is) ∙ at in
    let same : symbol c.as_slice.result.now spot c.sign_in.result.now ≡ symbol key spot (sign_in signs key) = (λ i. symbol (c.as_slice.ensures.value i) spot ((c.sign_in.ensures ∙ ap (sign_in signs) c.as_slice-2.ensures.value) i)) in
    if_ok c.symbol_of.result (λ s. s ≡ symbol c.as_slice.result.now spot c.sign_in.result.now) (λ s. slice_get c.args.self.now c.args.number ≡ Some s) c.symbol_of.ensures (λ s e. here ∙ ap Some (sym (e ∙ same)))
