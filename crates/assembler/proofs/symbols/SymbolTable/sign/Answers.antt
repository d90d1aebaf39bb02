use Rattle.assembler.proofs.NamedLemmas.{sign_given, known_signed}
use Rattle.assembler.proofs.symbols.SymbolTable.sign.Goals as goal

pub returns : goal.returns
returns c =
    sign_given c.self.inside.signs.entries c.insert.new.self.entries c.self.inside.names.entries c.in_ok-key.key c.in_ok-text.text c.args.name.now c.args.sig.now c.args.self.now c.self.view_is c.in_ok-key.ensures.items
    c.in_ok-text.ensures.items c.in_ok-insert.ensures.entries

pub invariant_of-self-2 : goal.invariant_of-self-2
invariant_of-self-2 c =
    known_signed c.self.inside.signs.entries c.insert.new.self.entries c.self.inside.names.entries c.in_ok-key.key c.in_ok-text.text c.args.name.now c.args.sig.now c.args.self.now c.self.view_is c.in_ok-key.ensures.items
    c.in_ok-text.ensures.items c.in_ok-insert.ensures.entries c.self.invariant c.requires
