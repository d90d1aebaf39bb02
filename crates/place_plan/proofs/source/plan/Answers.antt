use Rattle.std.proofs.Common.{List, map, ap, ◌∙◌}
use Rattle.c_tree.specs.declared.tree.Item.{Item}
use Rattle.c_types.specs.Types.{structs_of}
use Rattle.c_check.specs.Accepted.{after}
use Rattle.place_plan.specs.Globals.{globals_of}
use Rattle.place_plan.specs.Plans.{planned, body_variables}
use Rattle.place_plan.specs.declared.plans.Plan.{Plan}
use Rattle.place_plan.specs.Source.{plan_of, globals_size, image_size}
use Rattle.place_plan.proofs.Assembled.{numbered, sizes, can_be_laid, data_small, data_fits, have_room, few_variables, same_size}
use Rattle.place_plan.proofs.PlannedData.{literals_behind}
use Rattle.place_plan.proofs.Checking.{same_plan}
use Rattle.place_plan.proofs.KnownMembers.{are_known}
use Rattle.place_plan.proofs.source.plan.Goals as goal

pub plan_items-requires-clause-known : goal.plan_items-requires-clause-known
plan_items-requires-clause-known c = can_be_laid c.args.checked.now.types c.args.checked.now.variables c.requires.says.variables.can_stand

pub plan_items-requires-clause-members : goal.plan_items-requires-clause-members
plan_items-requires-clause-members c =
    let known = numbered c.accepted_sources_can_be_numbered.ensures c.args.tree.now c.args.checked.now c.requires in
    are_known c.args.checked.now.types c.args.checked.now.structs (after c.args.tree.now).scope.structs c.requires.says.structs c.requires.says.structs_known known.structs

pub plan_items-requires-clause-small : goal.plan_items-requires-clause-small
plan_items-requires-clause-small c =
    let known = numbered c.accepted_sources_can_be_numbered.ensures c.args.tree.now c.args.checked.now c.requires in
    data_small (after c.args.tree.now) c.args.checked.now c.requires.says known (sizes c.checked_sizes_are_those_of_types.ensures (after c.args.tree.now) known) (data_fits c.args.tree.now c.requires.room c.requires.accepted)

pub plan_items-requires-clause-room : goal.plan_items-requires-clause-room
plan_items-requires-clause-room c =
    let known = numbered c.accepted_sources_can_be_numbered.ensures c.args.tree.now c.args.checked.now c.requires in
    have_room c.args.checked.now.types (after c.args.tree.now).scope.structs c.requires.says.structs (sizes c.checked_sizes_are_those_of_types.ensures (after c.args.tree.now) known) c.multiples_are_the_next.ensures.first
    c.args.checked.now.bodies (after c.args.tree.now).bodies c.requires.says.bodies known.bodies
    (c.accepted_frames_have_room.ensures c.args.tree.now c.requires.room c.requires.few c.requires.formed c.requires.accepted) (few_variables (after c.args.tree.now) known)

pub returns-clause-plan : goal.returns-clause-plan
unfolding plan_of
returns-clause-plan c = c.in_ok-planned.ensures.plan
    ∙ (ap (λ (items : List Item). planned (structs_of c.args.checked.now.types) (globals_of c.args.checked.now.types c.args.checked.now.variables) c.args.checked.now.global_items c.args.checked.now.constants c.args.checked.now.literals (map (body_variables c.args.checked.now.types) c.args.checked.now.bodies) items) c.as_slice.ensures
    ∙ same_plan (after c.args.tree.now) c.args.checked.now c.args.tree.now.items c.requires.says)

pub returns-clause-length : goal.returns-clause-length
unfolding image_size
returns-clause-length c = same_size (after c.args.tree.now) c.args.checked.now _ c.requires.says c.in_ok-planned.ensures.length

pub returns-clause-literals : goal.returns-clause-literals
unfolding plan_of
returns-clause-literals c =
    let state = after c.args.tree.now in
    literals_behind _ state.notes.literals _ (globals_size state) (ap (λ (p : Plan). p.image) (returns-clause-plan c)) (same_size state c.args.checked.now _ c.requires.says c.in_ok-planned.ensures.length)
