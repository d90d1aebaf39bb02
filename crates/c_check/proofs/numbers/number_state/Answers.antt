use Rattle.std.proofs.Common.{◌∙◌, subst}
use Rattle.c_check.specs.Checked.{Number, IsGlobals, AreStructs, AreBodies}
use Rattle.c_check.proofs.TableSources.{begun-with, begun-more, types-have-numbers, globals-have-numbers, bodies-have-numbers, says}
use Rattle.c_check.proofs.numbers.number_state.Goals as goal

pub number_types-requires-clause-built : goal.number_types-requires-clause-built
number_types-requires-clause-built c =
    let structs = c.args.state.now.scope.structs in
    let begun = begun-with c.as_slice.result.now structs c.in_ok-types.types c.as_slice.ensures c.in_ok-types.ensures.structs c.in_ok-types.ensures.begun c.in_ok-types.ensures.members in
    types-have-numbers structs c.in_ok-types.types begun c.requires.structs c.as_slice-2.result.now c.args.state.now.notes.kinds c.as_slice-2.ensures c.requires.kinds

pub number_types-requires-2-clause-built : goal.number_types-requires-2-clause-built
number_types-requires-2-clause-built c =
    let structs = c.args.state.now.scope.structs in
    let begun = begun-more structs c.in_ok-types.types c.number_types.new.table c.in_ok-kinds.ensures.grows
    (begun-with c.as_slice.result.now structs c.in_ok-types.types c.as_slice.ensures c.in_ok-types.ensures.structs c.in_ok-types.ensures.begun c.in_ok-types.ensures.members) in
    types-have-numbers structs c.number_types.new.table begun c.requires.structs c.as_slice-4.result.now c.args.state.now.notes.declared c.as_slice-4.ensures c.requires.declared

pub number_globals-requires-clause-members : goal.number_globals-requires-clause-members
number_globals-requires-clause-members c =
    let structs = c.args.state.now.scope.structs in
    (begun-more structs c.number_types.new.table c.number_types-2.new.table c.in_ok-declared.ensures.grows
    (begun-more structs c.in_ok-types.types c.number_types.new.table c.in_ok-kinds.ensures.grows
    (begun-with c.as_slice.result.now structs c.in_ok-types.types c.as_slice.ensures c.in_ok-types.ensures.structs c.in_ok-types.ensures.begun c.in_ok-types.ensures.members))).members

pub number_globals-requires-clause-built : goal.number_globals-requires-clause-built
number_globals-requires-clause-built c =
    let structs = c.args.state.now.scope.structs in
    let begun = begun-more structs c.number_types.new.table c.number_types-2.new.table c.in_ok-declared.ensures.grows
    (begun-more structs c.in_ok-types.types c.number_types.new.table c.in_ok-kinds.ensures.grows
    (begun-with c.as_slice.result.now structs c.in_ok-types.types c.as_slice.ensures c.in_ok-types.ensures.structs c.in_ok-types.ensures.begun c.in_ok-types.ensures.members)) in
    globals-have-numbers structs c.number_types-2.new.table begun c.requires.structs c.as_slice-5.result.now c.args.state.now.scope.variables c.as_slice-5.ensures c.requires.variables

pub number_bodies-requires-clause-members : goal.number_bodies-requires-clause-members
number_bodies-requires-clause-members c =
    let structs = c.args.state.now.scope.structs in
    (begun-more structs c.number_types-2.new.table c.number_globals.new.table c.in_ok-variables.ensures.grows
    (begun-more structs c.number_types.new.table c.number_types-2.new.table c.in_ok-declared.ensures.grows
    (begun-more structs c.in_ok-types.types c.number_types.new.table c.in_ok-kinds.ensures.grows
    (begun-with c.as_slice.result.now structs c.in_ok-types.types c.as_slice.ensures c.in_ok-types.ensures.structs c.in_ok-types.ensures.begun c.in_ok-types.ensures.members)))).members

pub number_bodies-requires-clause-built : goal.number_bodies-requires-clause-built
number_bodies-requires-clause-built c =
    let structs = c.args.state.now.scope.structs in
    let begun = begun-more structs c.number_types-2.new.table c.number_globals.new.table c.in_ok-variables.ensures.grows
    (begun-more structs c.number_types.new.table c.number_types-2.new.table c.in_ok-declared.ensures.grows
    (begun-more structs c.in_ok-types.types c.number_types.new.table c.in_ok-kinds.ensures.grows
    (begun-with c.as_slice.result.now structs c.in_ok-types.types c.as_slice.ensures c.in_ok-types.ensures.structs c.in_ok-types.ensures.begun c.in_ok-types.ensures.members))) in
    bodies-have-numbers structs c.number_globals.new.table begun c.requires.structs c.as_slice-6.result.now c.args.state.now.bodies c.as_slice-6.ensures c.requires.bodies

pub returns-clause-says : goal.returns-clause-says
returns-clause-says c =
    let structs = c.args.state.now.scope.structs in
    let begun = begun-more structs c.number_globals.new.table c.number_bodies.new.table c.in_ok-bodies.ensures.grows
    (begun-more structs c.number_types-2.new.table c.number_globals.new.table c.in_ok-variables.ensures.grows
    (begun-more structs c.number_types.new.table c.number_types-2.new.table c.in_ok-declared.ensures.grows
    (begun-more structs c.in_ok-types.types c.number_types.new.table c.in_ok-kinds.ensures.grows
    (begun-with c.as_slice.result.now structs c.in_ok-types.types c.as_slice.ensures c.in_ok-types.ensures.structs c.in_ok-types.ensures.begun c.in_ok-types.ensures.members)))) in
    says c.args.state.now c.in_ok-types.types c.number_types.new.table c.number_types-2.new.table c.number_globals.new.table c.number_bodies.new.table
    c.in_ok-kinds.kinds c.in_ok-binds.binds c.in_ok-declared.declared c.in_ok-variables.variables c.in_ok-bodies.bodies
    c.number_structs.new.known c.in_ok-global_items.global_items c.in_ok-constants.constants c.in_ok-literals.literals c.args.symbols
    begun c.in_ok-kinds.ensures.grows (subst (AreStructs c.in_ok-types.types c.number_structs.new.known) c.as_slice.ensures c.in_ok-types.ensures.known)
    (c.in_ok-global_items.ensures ∙ c.as_slice-7.ensures) (c.in_ok-constants.ensures ∙ c.as_slice-8.ensures) (c.in_ok-literals.ensures ∙ c.as_slice-9.ensures)
    c.in_ok-declared.ensures.grows c.in_ok-variables.ensures.grows c.in_ok-bodies.ensures.grows
    (subst (Number c.number_types.new.table c.in_ok-kinds.kinds) c.as_slice-2.ensures c.in_ok-kinds.ensures.numbers)
    (c.in_ok-binds.ensures ∙ c.as_slice-3.ensures)
    (subst (Number c.number_types-2.new.table c.in_ok-declared.declared) c.as_slice-4.ensures c.in_ok-declared.ensures.numbers)
    (subst (IsGlobals c.number_globals.new.table c.in_ok-variables.variables) c.as_slice-5.ensures c.in_ok-variables.ensures.numbers)
    (subst (AreBodies c.number_bodies.new.table c.in_ok-bodies.bodies) c.as_slice-6.ensures c.in_ok-bodies.ensures.numbers)
