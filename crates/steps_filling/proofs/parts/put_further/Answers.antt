use Rattle.steps_pieces.specs.Put.{put_of}
use Rattle.steps_filling.proofs.PartLemmas.{on_ok, no_further, on_further}
use Rattle.steps_filling.proofs.parts.put_further.Goals as goal

pub returns-then-offset-eq0 : goal.returns-then-offset-eq0
returns-then-offset-eq0 c = no_further c.args.offset c.args.d (put_of c.args.out.now) c.if-offset-eq0.true

pub returns : goal.returns
returns c = on_ok c.put-2.result _ _ (on_further c.args.offset c.args.d (put_of c.args.out.now) _ _ c.if-offset-eq0.false c.in_ok-put.ensures) c.put-2.ensures
