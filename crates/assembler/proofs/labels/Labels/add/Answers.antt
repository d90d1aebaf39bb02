use Rattle.assembler.proofs.NamedLemmas.{label_added}
use Rattle.assembler.proofs.labels.Labels.add.Goals as goal

pub returns : goal.returns
returns c =
    label_added c.self.inside.map.entries c.insert.new.self.entries c.in_ok-key.key c.args.name.now c.args.mark c.args.self.now c.self.view_is c.in_ok-key.ensures.items c.requires c.in_ok-insert.ensures.entries
