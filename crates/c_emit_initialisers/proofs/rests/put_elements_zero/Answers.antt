use Rattle.steps_facts.specs.Around.{scalars_seen}
use Rattle.steps_pieces.specs.Put.{put_of}
use Rattle.c_emit_initialisers.proofs.ZeroLemmas.{elements_out}
use Rattle.c_emit_initialisers.proofs.rests.put_elements_zero.Goals as goal

pub returns : goal.returns
returns c = elements_out c.args.count c.elements.left c.args.offset c.elements.to c.args.size (scalars_seen c.args.scalars.now) c.args.place c.args.at c.args.d (put_of c.args.out.now) (put_of c.elements.out) c.elements-test.false c.elements.invariant
