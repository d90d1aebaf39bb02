use Rattle.std.proofs.Common.{◌∙◌, ap}
use Rattle.bounds_plan.specs.elaboration.Expressions.{expression}
use Rattle.steps_facts.specs.Seen.{view_of, reached_of}
use Rattle.steps_facts.specs.Around.{scalars_seen}
use Rattle.steps_pieces.specs.Put.{put_of}
use Rattle.c_emit_initialisers.proofs.OneLemmas.{struct_walk}
use Rattle.c_emit_initialisers.proofs.ones.fill_struct.Goals as goal

pub returns-clause-put : goal.returns-clause-put
returns-clause-put g c = struct_walk (g.K.Knows.around c.args.known.now).structs c.args.number c.args.at c.args.offset c.args.place (expression c.args.e.now (g.K.Knows.around c.args.known.now) (reached_of c.args.r)) (view_of c.in_ok-x.x) _ _ _
    c.args.size c.args.d (scalars_seen c.as_slice.result.now) (put_of c.args.out.now) _ _ _ _ c.in_ok-x.ensures.seen c.requires.size (ap scalars_seen c.as_slice.ensures ∙ c.in_ok-scalars.ensures)
    c.in_ok-put_struct_address.ensures c.in_ok-x.ensures.put c.in_ok-put_single.ensures c.in_ok-put_copied.ensures
