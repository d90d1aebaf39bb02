use Rattle.std.proofs.Common.{◌∙◌, ap, sym, slice_get}
use Rattle.std.specs.Option.{option_map}
use Rattle.std.specs.Map.Iter.{deref_pair}
use Rattle.obj_linker.specs.Symbols.{ids}
use Rattle.obj_linker.proofs.NamedLemmas.{id_named}
use Rattle.obj_linker.proofs.names.Names.id.Goals as goal

pub returns : goal.returns
returns c =
    ap (λ n. slice_get (ids n) c.args.place) (sym c.self.view_is)
    ∙ id_named c.self.inside.map.entries c.args.place (c.unwrap.result.0.now, c.unwrap.result.1.now) (sym c.get_index.ensures.entry ∙ ap (option_map deref_pair) c.unwrap.ensures)
