use Rattle.std.proofs.Common.{◌∙◌, ap, sym, is_some}
use Rattle.obj_linker.proofs.NamedLemmas.{name_added}
use Rattle.obj_linker.proofs.names.Names.add.Goals as goal

pub returns : goal.returns
returns c =
    name_added c.args.self.now c.args.name.now c.self.inside.map.entries c.insert.new.self.entries c.in_ok-key.key c.args.id c.self.view_is c.in_ok-key.ensures.items
    (ap is_some (sym c.find.ensures) ∙ (sym c.is_some.ensures ∙ c.if-is_some.false)) c.in_ok-insert.ensures.entries
