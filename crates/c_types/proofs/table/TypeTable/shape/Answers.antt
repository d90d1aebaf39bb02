use Rattle.c_types.proofs.Reading.{entry-at, type-of-shape, can-build}
use Rattle.std.specs.Map.{values_of}
use Rattle.c_types.specs.Sound.{table_of}
use Rattle.c_types.proofs.table.TypeTable.shape.Goals as goal

pub returns-clause-means : goal.returns-clause-means
returns-clause-means c =
    let i = c.self.inside in
    let at = entry-at i.shapes.entries c.args.t.0 c.get_index.result c.unwrap.result c.get_index.ensures.entry c.unwrap.ensures in
    rw (← c.self.view_is) (type-of-shape (table_of i.shapes.entries i.structs.items i.ended.items) (values_of i.shapes.entries) i.structs.items c.args.t c.unwrap.result.0.now c.self.invariant at.0)

pub returns-clause-within_limits : goal.returns-clause-within_limits
returns-clause-within_limits c =
    let i = c.self.inside in
    let at = entry-at i.shapes.entries c.args.t.0 c.get_index.result c.unwrap.result c.get_index.ensures.entry c.unwrap.ensures in
    rw (← c.self.view_is) (can-build (table_of i.shapes.entries i.structs.items i.ended.items) (values_of i.shapes.entries) i.structs.items c.args.t c.unwrap.result.0.now c.self.invariant at.0)

pub returns-clause-once : goal.returns-clause-once
returns-clause-once c = rw (← c.self.view_is) c.self.invariant.differ
