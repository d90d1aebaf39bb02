use Rattle.std.proofs.Common.{◌∙◌, ap}
use Rattle.asm_text.specs.Assembly.{sig_of}
use Rattle.assembler.proofs.NamedLemmas.{sig_is}
use Rattle.assembler.proofs.symbols.SymbolTable.sig.Goals as goal

pub returns : goal.returns
returns c = c.sign_in.ensures ∙ (sig_is c.self.inside.signs.entries c.args.name.now c.self.inside.names.entries c.self.invariant ∙ ap (λ ss. sig_of ss c.args.name.now) c.self.view_is)
