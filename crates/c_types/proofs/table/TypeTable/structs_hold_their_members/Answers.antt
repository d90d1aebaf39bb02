use Rattle.std.proofs.Common.{ℕ, ◌+◌, ◌<◌, ◌≤◌, length, subst}
use Rattle.c_types.specs.declared.shape.TypeId.{TypeId}
use Rattle.c_types.specs.Types.{Types, IsIn, members_at}
use Rattle.c_types.specs.Layouts.{offset_of, member_layout, size_of}
use Rattle.std.specs.Map.{values_of}
use Rattle.c_types.specs.Sound.{table_of}
use Rattle.c_types.proofs.LawLemmas.{by-members, members-within}
use Rattle.c_types.proofs.table.TypeTable.structs_hold_their_members.Goals as goal

pub returns-clause-by_members : goal.returns-clause-by_members
returns-clause-by_members c =
    let i = c.self.inside in
    rw (← c.self.view_is) (λ t number inside is has. by-members (table_of i.shapes.entries i.structs.items i.ended.items) (values_of i.shapes.entries) i.structs.items c.self.invariant t number is has)

Within : Types → Type 0
Within table = (t : TypeId) (member : ℕ) → IsIn table t → member < length (members_at table t) → offset_of table t member + (member_layout table t member).size ≤ size_of table t

pub returns-clause-within : goal.returns-clause-within
unfolding Within
returns-clause-within c =
    let i = c.self.inside in
    subst Within c.self.view_is (λ t member inside h. members-within (table_of i.shapes.entries i.structs.items i.ended.items) (values_of i.shapes.entries) i.structs.items c.self.invariant t member h)
