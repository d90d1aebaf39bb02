use Rattle.std.proofs.Common.{◌≡◌, List, ap, sym, ◌∙◌, subst}
use Rattle.std.specs.List.{All}
use Rattle.c_types.specs.declared.shape.TypeId.{TypeId}
use Rattle.c_types.specs.Types.{Types}
use Rattle.c_types.specs.Layouts.{CanStand}
use Rattle.c_check_rules.specs.declared.names.Member.{Member}
use Rattle.c_check_statements.specs.Structs.{kinds_in}
use Rattle.c_check.specs.Checked.{Number}
use Rattle.c_check.proofs.TableStructs.{with_ended, members-stand, struct-added, struct-known}
use Rattle.c_check.proofs.TableGrowth.{extends-then}
use Rattle.c_check.proofs.numbers.number_struct.Goals as goal

numbers : (table : Types) (ids : List TypeId) (members other : List Member) → members ≡ other → Number table ids (kinds_in members) → Number table ids (kinds_in other)
numbers table ids members other is n = subst (λ (ms : List Member). Number table ids (kinds_in ms)) is n

pub end_struct-requires-clause-members : goal.end_struct-requires-clause-members
end_struct-requires-clause-members c =
    subst (All (CanStand c.number_members.new.table)) (sym c.as_slice-2.ensures)
    (members-stand c.args.table.now c.begin_struct.new.self c.number_members.new.table c.number_members.new.table c.args.info.now c.in_ok-number.number c.in_ok-members.members
    c.in_ok-number.ensures.begun c.in_ok-members.ensures.grows c.requires.members (numbers c.number_members.new.table c.in_ok-members.members _ _ c.as_slice.ensures c.in_ok-members.ensures.numbers) c.requires.built)

pub returns-clause-added : goal.returns-clause-added
returns-clause-added c =
    struct-added c.args.table.now c.begin_struct.new.self c.number_members.new.table c.end_struct.new.self c.args.info.now c.in_ok-number.number c.in_ok-members.members
    c.in_ok-number.ensures.begun c.in_ok-members.ensures.grows c.requires.members (numbers c.number_members.new.table c.in_ok-members.members _ _ c.as_slice.ensures c.in_ok-members.ensures.numbers) c.in_ok-number.ensures.number
    (c.in_ok-end_struct.ensures.ended ∙ ap (with_ended c.number_members.new.table c.in_ok-number.number) c.as_slice-2.ensures)

pub returns-clause-known : goal.returns-clause-known
returns-clause-known c =
    struct-known c.args.table.now c.begin_struct.new.self c.number_members.new.table c.end_struct.new.self c.args.info.now c.in_ok-number.number c.in_ok-members.members
    c.in_ok-number.ensures.begun c.in_ok-members.ensures.grows c.requires.members (numbers c.number_members.new.table c.in_ok-members.members _ _ c.as_slice.ensures c.in_ok-members.ensures.numbers)
    c.end_struct.ensures.extends c.requires.built

pub returns-clause-extends : goal.returns-clause-extends
returns-clause-extends c = extends-then c.args.table.now c.begin_struct.new.self c.end_struct.new.self c.begin_struct.ensures.extends
    (extends-then c.begin_struct.new.self c.number_members.new.table c.end_struct.new.self c.in_ok-members.ensures.grows.extends c.end_struct.ensures.extends)
