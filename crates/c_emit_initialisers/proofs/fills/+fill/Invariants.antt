use Rattle.std.proofs.Common.{◌≡◌, drop, map}
use Rattle.std.specs.Prelude.{All}
use Rattle.c_types.specs.Types.{type_at}
use Rattle.bounds_plan.specs.elaboration.Types.{size_in}
use Rattle.bounds_plan.specs.elaboration.Expressions.{expression}
use Rattle.bounds_plan.specs.elaboration.Initialisers.{initialiser, elements_filled, members_filled}
use Rattle.steps_facts.specs.Seen.{reached_of}
use Rattle.steps_facts.specs.Around.{standing_at, part_types, part_offsets, IsPart}
use Rattle.steps_pieces.specs.Put.{put_of}
use Rattle.steps_filling.specs.Effects.{went_effects}
use Rattle.c_emit_initialisers.proofs.fills.+fill.Given as goal

-- what is left fills what is left of the array, and goes as far
abbrev pub invariant-fill_elements-loop-init : goal.invariant-fill_elements-loop-init
invariant-fill_elements-loop-init g l =
    let around = g.K.Knows.around l.known in
    let t = type_at (g.K.Knows.table l.known) l.element in
    let size = size_in around.structs t in
    let now = elements_filled (map (initialiser expression) (drop l.init-index l.all)) around t l.place size l.left (standing_at l.at) l.to (reached_of l.after) in
    let whole = elements_filled (map (initialiser expression) l.all) around t l.place size l.count (standing_at l.at) l.offset (reached_of l.fn.r) in
    record {
      put : went_effects now.effects l.d (put_of l.out) ≡ went_effects whole.effects l.d (put_of l.initial.out);
      after : now.after ≡ whole.after;
    }

-- the same for members
abbrev pub invariant-fill_members-loop-init : goal.invariant-fill_members-loop-init
invariant-fill_members-loop-init g l =
    let around = g.K.Knows.around l.known in
    let table = g.K.Knows.table l.known in
    let now = members_filled (map (initialiser expression) (drop l.init-index l.all)) around l.place (part_types table l.left) (part_offsets l.left) (standing_at l.at) l.offset (reached_of l.after) in
    let whole = members_filled (map (initialiser expression) l.all) around l.place (part_types table l.parts) (part_offsets l.parts) (standing_at l.at) l.offset (reached_of l.fn.r) in
    record {
      put : went_effects now.effects l.d (put_of l.out) ≡ went_effects whole.effects l.d (put_of l.initial.out);
      after : now.after ≡ whole.after;
      known : All (IsPart table) l.left;
    }
