use Rattle.steps_facts.specs.Seen.{view_of}
use Rattle.steps_pieces.specs.Put.{put_of}
use Rattle.steps_filling.proofs.PartLemmas.{on_ok, stored}
use Rattle.steps_filling.proofs.parts.put_stored.Goals as goal

pub returns : goal.returns
returns c = on_ok c.put_assigned.result _ _ (stored (view_of c.scalar-to.result) (view_of c.scalar-from.result) c.args.sort c.args.spot c.args.number c.args.place c.args.d (put_of c.args.out.now) _
    c.scalar-to.ensures.sort c.scalar-to.ensures.spot c.scalar-to.ensures.place c.scalar-from.ensures.number) c.put_assigned.ensures
