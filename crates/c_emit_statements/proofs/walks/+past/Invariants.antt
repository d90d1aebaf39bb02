use Rattle.std.proofs.Common.{◌≡◌, map, drop}
use Rattle.bounds_plan.specs.elaboration.Statements.{all_stated}
use Rattle.steps_facts.specs.Seen.{reached_of}
use Rattle.c_emit_statements.specs.Bodies.{statement}
use Rattle.c_emit_statements.proofs.walks.+past.Given as goal

-- what is left goes as far as all
abbrev pub invariant-past_block-loop-s : goal.invariant-past_block-loop-s
invariant-past_block-loop-s g l =
    (all_stated (map statement (drop l.s-index l.all)) (g.K.Knows.around l.known) (reached_of l.at)).after
    ≡ (all_stated (map statement l.all) (g.K.Knows.around l.known) (reached_of l.fn.r)).after
