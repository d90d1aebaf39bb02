use Rattle.std.proofs.Common.{◌≡◌, drop, map}
use Rattle.std.specs.Prelude.{All}
use Rattle.c_types.specs.Types.{type_at}
use Rattle.c_accepted.specs.SourceLiterals.{init_sizes, elements_sizes, members_sizes}
use Rattle.steps_facts.specs.Around.{part_types, part_offsets, IsPart}
use Rattle.c_literals.specs.Laid.{with_literals}
use Rattle.c_literals.proofs.inits.+inits.Given as goal

-- what is left of the list has what is left of all its literals
abbrev pub invariant-put_literals_of_elements-loop-init : goal.invariant-put_literals_of_elements-loop-init
invariant-put_literals_of_elements-loop-init g l =
    let around = g.K.Knows.around l.known in
    let t = type_at (g.K.Knows.table l.known) l.element in
    with_literals l.literals (elements_sizes (map init_sizes (drop l.init-index l.all)) around t l.left) ≡ with_literals l.initial.literals (elements_sizes (map init_sizes l.all) around t l.count)

-- the same for members
abbrev pub invariant-put_literals_of_members-loop-init : goal.invariant-put_literals_of_members-loop-init
invariant-put_literals_of_members-loop-init g l =
    let around = g.K.Knows.around l.known in
    let table = g.K.Knows.table l.known in record {
      laid : with_literals l.literals (members_sizes (map init_sizes (drop l.init-index l.all)) around (part_types table l.left) (part_offsets l.left))
          ≡ with_literals l.initial.literals (members_sizes (map init_sizes l.all) around (part_types table l.parts) (part_offsets l.parts));
      known : All (IsPart table) l.left;
    }
