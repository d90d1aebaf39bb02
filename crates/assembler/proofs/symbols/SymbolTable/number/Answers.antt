use Rattle.std.proofs.Common.{◌∙◌, ap}
use Rattle.asm_text.specs.Assembly.{number_from}
use Rattle.assembler.proofs.NamedLemmas.{number_is}
use Rattle.assembler.proofs.symbols.SymbolTable.number.Goals as goal

pub returns : goal.returns
returns c = c.get_index_of.ensures.index ∙ (number_is c.args.name.now c.self.inside.signs.entries c.self.inside.names.entries ∙ ap (number_from c.args.name.now 0) c.self.view_is)
