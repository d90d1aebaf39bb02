use Rattle.std.proofs.Common.{subst, sym}
use Rattle.c_types.specs.Types.{IsIn}
use Rattle.c_types.proofs.Reading.{entry-at, kept-at}
use Rattle.std.specs.Map.{values_of}
use Rattle.c_types.specs.Sound.{table_of}
use Rattle.c_types.proofs.table.TypeTable.kept.Goals as goal

pub returns : goal.returns
returns c =
    let i = c.self.inside in
    let at = entry-at i.shapes.entries c.args.t.0 c.get_index.result c.unwrap.result c.get_index.ensures.entry c.unwrap.ensures in
    let inside : IsIn (table_of i.shapes.entries i.structs.items i.ended.items) c.args.t = subst (λ table. IsIn table c.args.t) (sym c.self.view_is) c.requires in
    rw (← c.self.view_is) (kept-at (table_of i.shapes.entries i.structs.items i.ended.items) (values_of i.shapes.entries) i.structs.items c.self.invariant c.args.t c.unwrap.result.1.now inside at.1)
