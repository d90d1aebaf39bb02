use Rattle.std.proofs.Common.{◌≡◌, ◌+◌, ◌*◌, ℕ, drop, map}
use Rattle.std.specs.Prelude.{All}
use Rattle.mx_base.specs.declared.places.Place.{Place}
use Rattle.c_types.specs.Types.{type_at}
use Rattle.bounds_plan.specs.elaboration.Places.{Lvalue}
use Rattle.bounds_plan.specs.elaboration.Expressions.{expression}
use Rattle.bounds_plan.specs.elaboration.Initialisers.{initialiser, elements_filled, members_filled}
use Rattle.steps_facts.specs.Seen.{reached_of}
use Rattle.steps_facts.specs.Around.{part_types, part_offsets, IsPart}
use Rattle.c_look_declarations.proofs.pasts.+past.Given as goal

-- what is left of the list goes as far as all of it
abbrev pub invariant-past_elements-loop-init : goal.invariant-past_elements-loop-init
invariant-past_elements-loop-init g l =
    let around = g.K.Knows.around l.known in
    let t = type_at (g.K.Knows.table l.known) l.element in
    (place : Place) (size : ℕ) (at : Lvalue) (offset : ℕ) →
    (elements_filled (map (initialiser expression) (drop l.init-index l.all)) around t place size l.left at (offset + size * l.init-index) (reached_of l.after)).after
    ≡ (elements_filled (map (initialiser expression) l.all) around t place size l.count at offset (reached_of l.fn.r)).after

-- the same for members
abbrev pub invariant-past_members-loop-init : goal.invariant-past_members-loop-init
invariant-past_members-loop-init g l =
    let around = g.K.Knows.around l.known in
    let table = g.K.Knows.table l.known in record {
      goes : (place : Place) (at : Lvalue) (offset : ℕ) →
          (members_filled (map (initialiser expression) (drop l.init-index l.all)) around place (part_types table l.left) (part_offsets l.left) at offset (reached_of l.after)).after
          ≡ (members_filled (map (initialiser expression) l.all) around place (part_types table l.parts) (part_offsets l.parts) at offset (reached_of l.fn.r)).after;
      known : All (IsPart table) l.left;
    }
