use Rattle.std.proofs.Common.{◌∙◌, ap}
use Rattle.std.specs.Prelude.{option_map}
use Rattle.asm_text.specs.Assembly.{label_of}
use Rattle.assembler.specs.Held.{mark_of}
use Rattle.assembler.proofs.NamedLemmas.{find_label}
use Rattle.assembler.proofs.labels.Labels.find.Goals as goal

pub returns : goal.returns
returns c =
    c.copied.ensures
    ∙ (c.get.ensures.value ∙ (find_label c.args.name.now c.self.inside.map.entries ∙ ap (λ ls. option_map mark_of (label_of ls c.args.name.now)) c.self.view_is))
