use Rattle.std.proofs.Common.{◌≡◌, [], ◌∷◌, ap, ◌∙◌, length}
use Rattle.std.proofs.lemmas.Option.{slice_get_within}
use Rattle.std.proofs.lemmas.List.Elements.{All-nil, All-cons}
use Rattle.c_types.specs.Types.{Struct, type_at, IsIn}
use Rattle.c_types.specs.Layouts.{CanStand}
use Rattle.c_types.proofs.Standing.{integer-stands, pointer-stands, stands-stay}
use Rattle.c_tests.proofs.types.list_node.Goals as goal

pub end_struct-requires-clause-members : goal.end_struct-requires-clause-members
end_struct-requires-clause-members c =
    let table = c.intern-3.new.self in
    let value = integer-stands table c.in_ok-value.value _ _ c.in_ok-value.ensures.found c.in_ok-value.ensures.means in
    let next = stands-stay c.intern-2.new.self table c.intern-3.ensures.extends c.in_ok-next.next
    (pointer-stands c.intern-2.new.self c.in_ok-next.next _ _ c.in_ok-next.ensures.found c.in_ok-next.ensures.means) in
    All-cons (CanStand table) c.in_ok-value.value (c.in_ok-next.next ∷ []) value (All-cons (CanStand table) c.in_ok-next.next [] next (All-nil (CanStand table)))

stays-in : (c : goal.In_ok-end_struct) → IsIn c.end_struct.new.self c.in_ok-node.node × (type_at c.end_struct.new.self c.in_ok-node.node ≡ Struct c.in_ok-number.number)
stays-in c =
    let first = slice_get_within _ _ _ c.in_ok-node.ensures.found in
    let second = c.intern-2.ensures.extends.stays c.in_ok-node.node first in
    let third = c.intern-3.ensures.extends.stays c.in_ok-node.node second.0 in
    let last = c.end_struct.ensures.extends.stays c.in_ok-node.node third.0 in
    (last.0, last.1 ∙ third.1 ∙ second.1 ∙ c.in_ok-node.ensures.means)

pub returns-clause-inside : goal.returns-clause-inside
returns-clause-inside c = (stays-in c).0

pub returns-clause-sized : goal.returns-clause-sized
returns-clause-sized c = c.in_ok-end_struct.ensures.sized c.in_ok-node.node (stays-in c).1

pub returns-clause-members : goal.returns-clause-members
returns-clause-members c = ap length (c.in_ok-end_struct.ensures.members c.in_ok-node.node (stays-in c).1)
