use Rattle.std.proofs.Common.{◌∙◌, ap, map}
use Rattle.bounds_plan.specs.elaboration.Expressions.{expression, find_all}
use Rattle.bounds_plan.specs.elaboration.Statements.{past_counts}
use Rattle.c_types.specs.Types.{type_at}
use Rattle.steps_facts.specs.Seen.{reached_of}
use Rattle.steps_facts.specs.Around.{standing_at}
use Rattle.steps_pieces.specs.Put.{put_of}
use Rattle.c_emit.proofs.Walks.{on_ok}
use Rattle.c_emit_statements.proofs.WalkLemmas.{no_local, local_filled}
use Rattle.c_emit_statements.proofs.locals.emit_local.Goals as goal

pub returns-in-None-clause-put : goal.returns-in-None-clause-put
returns-in-None-clause-put g c = no_local c.args.init.now (g.K.Knows.around c.args.known.now) (past_counts expression c.args.decl.now (g.K.Knows.around c.args.known.now) (reached_of c.args.r)) c.args.d (put_of c.args.out.now) c.in-None.is

pub returns-in_ok-meant-in-Some-clause-put : goal.returns-in_ok-meant-in-Some-clause-put
returns-in_ok-meant-in-Some-clause-put g c = let around = g.K.Knows.around c.args.known.now in
    on_ok c.fill.result _ _ (local_filled c.args.init.now c.in-Some.x around (reached_of c.in_ok-at.at) (past_counts expression c.args.decl.now around (reached_of c.args.r)) (reached_of c.in_ok-here.here.after) c.in_ok-meant-in-Some.meant.bind
    (type_at (g.K.Knows.table c.args.known.now) c.in_ok-here.here.kind) (standing_at c.local_at-place.result) c.args.d (put_of c.args.out.now) _ c.in-Some.is
    (c.in_ok-at.ensures ∙ ap (λ es. (find_all (map expression es) around (reached_of c.args.r)).after) c.as_slice-counts.ensures) c.in_ok-here.ensures.kind c.in_ok-here.ensures.after c.in_ok-meant-in-Some.ensures.bind c.local_at-place.ensures) c.fill.ensures.put
