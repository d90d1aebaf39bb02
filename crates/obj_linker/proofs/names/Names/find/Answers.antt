use Rattle.std.proofs.Common.{◌∙◌, ap}
use Rattle.obj_linker.specs.Symbols.{find}
use Rattle.obj_linker.proofs.NamedLemmas.{find_named}
use Rattle.obj_linker.proofs.names.Names.find.Goals as goal

pub returns : goal.returns
returns c = c.copied.ensures ∙ (c.get.ensures.value ∙ (find_named c.args.name.now c.self.inside.map.entries ∙ ap (find c.args.name.now) c.self.view_is))
