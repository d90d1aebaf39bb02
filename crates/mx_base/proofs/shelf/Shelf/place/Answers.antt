use Rattle.std.proofs.Common.{take}
use Rattle.mx_base.proofs.ShelfLemmas.{IsPlaceOf-position}
use Rattle.mx_base.proofs.shelf.Shelf.place.Goals as goal

pub returns : goal.returns
returns c = let is = rw c.deref.ensures.value at c.place_of.ensures in
    rw (← c.self.view_is) (IsPlaceOf-position (take c.self.inside.used c.self.inside.slots.items) _ _ is)
