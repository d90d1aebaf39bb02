use Rattle.std.proofs.Common.{◌≡◌, slice_get, Some}
use Rattle.std.proofs.Common.{sym, None}
use Rattle.std.specs.Map.{keys_of, values_of, lookup}
use Rattle.c_types.specs.Sound.{table_of}
use Rattle.c_types.specs.Shapes.{is_same}
use Rattle.c_types.proofs.ShapeKeys.{found-at, absent-at, none-from}
use Rattle.c_types.proofs.Reading.{type-of-shape}
use Rattle.c_types.proofs.table.TypeTable.known.Goals as goal

at : (c : goal.In-Some) → slice_get (keys_of c.self.inside.shapes.entries) c.in-Some.place ≡ Some c.args.s
at c = found-at (keys_of c.self.inside.shapes.entries) c.args.s c.in-Some.place (sym c.in-Some.ensures.index)

pub returns-in-Some-clause-found : goal.returns-in-Some-clause-found
returns-in-Some-clause-found c = rw (← c.self.view_is) (at c)

pub returns-in-Some-clause-means : goal.returns-in-Some-clause-means
returns-in-Some-clause-means c =
    let i = c.self.inside in
    rw (← c.self.view_is) (type-of-shape (table_of i.shapes.entries i.structs.items i.ended.items) (values_of i.shapes.entries) i.structs.items (record { 0 = c.in-Some.place }) c.args.s c.self.invariant (at c))

pub returns-in-None-clause-absent : goal.returns-in-None-clause-absent
returns-in-None-clause-absent c =
    let none : lookup (is_same c.args.s) c.self.inside.shapes.entries ≡ None = none-from _ c.in-None.ensures.found in
    rw (← c.self.view_is) (absent-at c.self.inside.shapes.entries c.args.s none)
