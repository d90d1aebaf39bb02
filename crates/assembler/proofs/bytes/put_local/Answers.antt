use Rattle.assembler.specs.Held.{placed_at}
use Rattle.assembler.proofs.BranchLemmas.{near_fits}
use Rattle.assembler.proofs.bytes.put_local.Goals as goal

pub put_branch-requires-clause-near : goal.put_branch-requires-clause-near
put_branch-requires-clause-near c =
    near_fits c.args.labels.now (placed_at c.args.at c.args.l.now) c.args.i.now c.in-Some.target c.requires.near c.requires.local c.in-Some.ensures
