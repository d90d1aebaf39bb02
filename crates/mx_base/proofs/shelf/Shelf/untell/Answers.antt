use Rattle.std.proofs.Common.{refl, ap, length-set}
use Rattle.mx_base.proofs.ShelfLemmas.{SlotAt, untold, file_named-absent, file_named-slot, with_untold-slot, shelf_same, with_untold-absent}
use Rattle.mx_base.proofs.shelf.Shelf.untell.Goals as goal

pub returns-in-None-clause-held : goal.returns-in-None-clause-held
returns-in-None-clause-held c = rw (file_named-absent c.args.self.now.held c.args.name.now c.in-None.ensures) refl

pub returns-in-None-clause-untold : goal.returns-in-None-clause-untold
returns-in-None-clause-untold c = rw (with_untold-absent c.args.self.now.held c.args.name.now c.in-None.ensures) refl

pub returns-in-Some-clause-held : goal.returns-in-Some-clause-held
returns-in-Some-clause-held c =
    let held = rw (← c.self.view_is) at c.in-Some.ensures in
    let slot : SlotAt c.self.inside.used c.self.inside.slots.items c.args.name.now c.in-Some.place c.index_mut.result.now = record { first = held.0; within = held.1; slot = c.index_mut.ensures.value } in
    rw (← c.self.view_is, file_named-slot slot) refl

pub returns-in-Some-clause-untold : goal.returns-in-Some-clause-untold
returns-in-Some-clause-untold c =
    let held = rw (← c.self.view_is) at c.in-Some.ensures in
    let slot : SlotAt c.self.inside.used c.self.inside.slots.items c.args.name.now c.in-Some.place c.index_mut.result.now = record { first = held.0; within = held.1; slot = c.index_mut.ensures.value } in
    rw (← c.self.view_is) (shelf_same _ _ (with_untold-slot slot _ (ap (λ v. untold v.file) c.behind-self.view_is)) (length-set c.self.inside.slots.items c.in-Some.place _) refl)
