use Rattle.std.proofs.Common.{refl}
use Rattle.std.specs.Map.{values_of}
use Rattle.c_types.specs.Types.{type_at}
use Rattle.c_types.specs.Sound.{table_of}
use Rattle.c_types.proofs.SameTypes.{one-number}
use Rattle.c_types.proofs.table.TypeTable.same_types_have_one_number.Goals as goal

pub returns : goal.returns
returns c =
    let i = c.self.inside in
    let table = table_of i.shapes.entries i.structs.items i.ended.items in
    rw (← c.self.view_is) (λ a b in-a in-b same. one-number table (values_of i.shapes.entries) i.structs.items c.self.invariant (type_at table b) a b in-a in-b same refl)
