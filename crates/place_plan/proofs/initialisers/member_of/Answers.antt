use Rattle.std.proofs.Common.{ap, sym, arith}
use Rattle.c_types.specs.declared.layout.Layout.{Layout}
use Rattle.c_types.specs.Types.{members_at}
use Rattle.c_types.specs.Layouts.{offset_of}
use Rattle.place_plan.specs.Initialisers.{member_part}
use Rattle.place_plan.proofs.MemberTypes.{member_laid, member_missing, as_many}
use Rattle.place_plan.proofs.initialisers.member_of.Goals as goal

pub returns-then-place-members-clause-room : goal.returns-then-place-members-clause-room
returns-then-place-members-clause-room c =
    let kinds = members_at c.args.table.now c.args.kind in
    let many = as_many c.args.table.now c.args.members.now kinds c.requires.types in
    let within = c.structs_hold_their_members.ensures.within c.args.kind c.args.place c.requires.known.0 (omega (arith, many)) in
    let same = ap (λ (l : Layout). l.size) (member_laid c.args.table.now c.args.members.now kinds c.args.place record { 0 = 0 } c.requires.types c.if-place-members.true) in
    omega (arith, within, same)

pub returns-else-place-members-clause-value : goal.returns-else-place-members-clause-value
returns-else-place-members-clause-value c = sym (ap (λ o. member_part o (offset_of c.args.table.now c.args.kind c.args.place)) (member_missing c.args.table.now c.args.members.now (members_at c.args.table.now c.args.kind) c.args.place c.requires.types c.if-place-members.false))
