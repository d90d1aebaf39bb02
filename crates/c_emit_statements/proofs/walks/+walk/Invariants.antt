use Rattle.std.proofs.Common.{◌≡◌, map, drop}
use Rattle.bounds_plan.specs.elaboration.Statements.{all_stated}
use Rattle.steps_facts.specs.Seen.{reached_of}
use Rattle.steps_pieces.specs.Put.{put_of}
use Rattle.c_emit_statements.specs.Bodies.{statement, went_statement}
use Rattle.c_emit_statements.proofs.walks.+walk.Given as goal

-- what is left is put down behind what was, and goes as far as all
abbrev pub invariant-emit_block-loop-s : goal.invariant-emit_block-loop-s
invariant-emit_block-loop-s g l =
    let now = all_stated (map statement (drop l.s-index l.all)) (g.K.Knows.around l.known) (reached_of l.at) in
    let whole = all_stated (map statement l.all) (g.K.Knows.around l.known) (reached_of l.fn.r) in
    record {
      put : went_statement now.statement l.d l.end l.next (put_of l.out) ≡ went_statement whole.statement l.d l.end l.next (put_of l.initial.out);
      after : now.after ≡ whole.after;
    }
