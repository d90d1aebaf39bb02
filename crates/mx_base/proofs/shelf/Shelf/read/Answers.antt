use Rattle.std.proofs.Common.{rules, sym, ap, ◌∙◌, Some, length, min}
use Rattle.mx_base.proofs.ShelfLemmas.{SlotAt, file_named-absent, file_named-slot, from_offset}
use Rattle.mx_base.proofs.shelf.Shelf.read.Goals as goal

pub returns-in_err-place-clause-count : goal.returns-in_err-place-clause-count
returns-in_err-place-clause-count c = let beyond = rw c.in_err-place.was at c.place.ensures in
    rw (file_named-absent c.args.self.now.held c.args.name.now beyond) (search rules)

pub returns-in_err-place-clause-copied : goal.returns-in_err-place-clause-copied
returns-in_err-place-clause-copied c = let beyond = rw c.in_err-place.was at c.place.ensures in
    rw (file_named-absent c.args.self.now.held c.args.name.now beyond) (search rules)

pub returns-clause-count : goal.returns-clause-count
returns-clause-count c =
    let held = rw (c.in_ok-place.was, ← c.self.view_is) at c.place.ensures in
    let slot : SlotAt c.self.inside.used c.self.inside.slots.items c.args.name.now c.in_ok-place.field-0 c.index-slot.result.now = record { first = held.0; within = held.1; slot = c.index-slot.ensures } in
    let rest = from_offset c.deref.result.now c.slot.inside.bytes.items c.args.at c.min-from.result c.deref.ensures.value (c.min-from.ensures ∙ ap (min c.args.at) (c.len.ensures ∙ sym c.deref.ensures.len ∙ ap length c.deref.ensures.value)) in
    rw (← c.self.view_is, file_named-slot slot, ← c.slot.view_is) (ap Some (rw rest at c.copy_front.ensures.most))

pub returns-clause-copied : goal.returns-clause-copied
returns-clause-copied c =
    let held = rw (c.in_ok-place.was, ← c.self.view_is) at c.place.ensures in
    let slot : SlotAt c.self.inside.used c.self.inside.slots.items c.args.name.now c.in_ok-place.field-0 c.index-slot.result.now = record { first = held.0; within = held.1; slot = c.index-slot.ensures } in
    let rest = from_offset c.deref.result.now c.slot.inside.bytes.items c.args.at c.min-from.result c.deref.ensures.value (c.min-from.ensures ∙ ap (min c.args.at) (c.len.ensures ∙ sym c.deref.ensures.len ∙ ap length c.deref.ensures.value)) in
    rw (← c.self.view_is, file_named-slot slot, ← c.slot.view_is) (rw rest at c.copy_front.ensures.copied)
