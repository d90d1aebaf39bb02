use Rattle.std.proofs.Common.{◌∙◌, ap}
use Rattle.std.specs.Option.{unwrap_or}
use Rattle.obj_linker.specs.Symbols.{place_of}
use Rattle.obj_linker.proofs.NamedLemmas.{place_named}
use Rattle.obj_linker.proofs.names.Names.place.Goals as goal

pub returns : goal.returns
returns c = c.unwrap_or.ensures ∙ (ap (λ o. unwrap_or o 0) (c.get_index_of.ensures.index ∙ place_named c.args.name.now c.self.inside.map.entries) ∙ ap (place_of c.args.name.now) c.self.view_is)
