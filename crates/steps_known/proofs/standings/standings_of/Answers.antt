use Rattle.std.proofs.Common.{ap, ◌∙◌, sym, ◌++◌, drop, map}
use Rattle.std.proofs.lemmas.List.{append-nil, nil_from_length}
use Rattle.c_types.specs.Types.{type_at}
use Rattle.c_accepted.specs.Planned.{stand_of}
use Rattle.steps_structs.specs.Structs.{structs_known}
use Rattle.steps_known.specs.Standings.{standings_from}
use Rattle.steps_known.proofs.StandingLemmas.{none_left}
use Rattle.steps_known.proofs.standings.standings_of.Goals as goal

pub returns-in_default : goal.returns-in_default
returns-in_default c =
    let structs = structs_known c.args.types.now c.args.structs.now in
    let rest = map (type_at c.args.types.now) (drop c.loop-one.one-index c.args.variables.now) in
    sym (append-nil c.loop-one.all)
    ∙ ap (λ more. c.loop-one.all ++ more) (sym (none_left structs c.loop-one.x rest))
    ∙ ap (λ ss. c.loop-one.all ++ standings_from structs c.loop-one.x rest (map stand_of ss)) (sym (nil_from_length c.loop-one.left.now c.in_default.ensures.cases))
    ∙ c.loop-one.invariant
