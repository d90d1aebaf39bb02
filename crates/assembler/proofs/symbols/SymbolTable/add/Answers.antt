use Rattle.std.proofs.Common.{[]}
use Rattle.assembler.specs.Held.{symbol}
use Rattle.assembler.proofs.NamedLemmas.{symbol_added, known_after}
use Rattle.assembler.proofs.symbols.SymbolTable.add.Goals as goal

pub returns : goal.returns
returns c =
    symbol_added c.self.inside.signs.entries c.self.inside.names.entries c.insert.new.self.entries c.in_ok-key.key c.args.name.now c.args.spot c.args.self.now c.self.view_is c.self.invariant c.in_ok-key.ensures.items
    c.requires c.in_ok-insert.ensures.entries

pub invariant_of-self-2 : goal.invariant_of-self-2
invariant_of-self-2 c =
    known_after c.self.inside.signs.entries c.self.inside.names.entries c.insert.new.self.entries c.args.self.now (symbol c.args.name.now c.args.spot []) c.self.view_is c.self.invariant
    (symbol_added c.self.inside.signs.entries c.self.inside.names.entries c.insert.new.self.entries c.in_ok-key.key c.args.name.now c.args.spot c.args.self.now c.self.view_is c.self.invariant c.in_ok-key.ensures.items
    c.requires c.in_ok-insert.ensures.entries)
