use Rattle.std.proofs.Common.{◌≡◌, map, drop}
use Rattle.bounds_plan.specs.elaboration.Expressions.{expression, find_all}
use Rattle.steps_facts.specs.Seen.{reached_of}
use Rattle.c_look.proofs.looks.+look.Given as goal

-- what is left goes as far as all
abbrev pub invariant-look_all-loop-e : goal.invariant-look_all-loop-e
invariant-look_all-loop-e g l =
    (find_all (map expression (drop l.e-index l.all)) (g.K.Knows.around l.known) (reached_of l.at)).after
    ≡ (find_all (map expression l.all) (g.K.Knows.around l.known) (reached_of l.fn.r)).after
