use Rattle.std.proofs.Common.{refl, ap, arith, length-set}
use Rattle.mx_base.proofs.ShelfLemmas.{SlotAt, file_named-absent, file_named-slot, with_file-slot, with_file-next, has_room-held, has_room-full, length-held_of, shelf_same}
use Rattle.mx_base.proofs.shelf.Shelf.write.Goals as goal

pub returns-then-self-len-clause-room : goal.returns-then-self-len-clause-room
returns-then-self-len-clause-room c =
    let absent = file_named-absent c.args.self.now.held c.args.name.now c.in-None.ensures in
    let long = length-held_of c.self.inside.used c.self.inside.slots.items c.self.invariant.0 in
    has_room-full c.args.self.now c.args.name.now c.args.bytes.now absent (rw (← c.self.view_is) (omega (arith, long)))

pub returns-in-Some-clause-room : goal.returns-in-Some-clause-room
returns-in-Some-clause-room c =
    let held = rw (← c.self.view_is) at c.in-Some.ensures in
    let slot : SlotAt c.self.inside.used c.self.inside.slots.items c.args.name.now c.in-Some.place c.index_mut.result.now = record { first = held.0; within = held.1; slot = c.index_mut.ensures.value } in
    rw (← c.self.view_is) (has_room-held _ c.args.name.now c.args.bytes.now _ (omega arith) (omega arith) (file_named-slot slot))

pub returns-in-Some-clause-written : goal.returns-in-Some-clause-written
returns-in-Some-clause-written c =
    let held = rw (← c.self.view_is) at c.in-Some.ensures in
    let slot : SlotAt c.self.inside.used c.self.inside.slots.items c.args.name.now c.in-Some.place c.index_mut.result.now = record { first = held.0; within = held.1; slot = c.index_mut.ensures.value } in
    rw (← c.self.view_is) (shelf_same _ _ (with_file-slot slot c.args.bytes.now c.fill.new.self (ap (λ v. v.file) c.fill.ensures)) (length-set c.self.inside.slots.items c.in-Some.place _) refl)

pub returns-else-self-len-clause-written : goal.returns-else-self-len-clause-written
returns-else-self-len-clause-written c =
    let beyond = rw (← c.self.view_is) at c.in-None.ensures in
    rw (← c.self.view_is) (shelf_same _ _ (with_file-next c.self.inside.used c.self.inside.slots.items c.args.name.now c.args.bytes.now c.fill-in-None.new.self (omega arith) beyond (ap (λ v. v.file) c.fill-in-None.ensures)) (length-set c.self.inside.slots.items c.self.inside.used _) refl)
