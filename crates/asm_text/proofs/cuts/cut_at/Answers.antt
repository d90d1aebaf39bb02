use Rattle.asm_text.specs.Cuts.{is}
use Rattle.asm_text.proofs.CutLemmas.{cut_more}
use Rattle.asm_text.proofs.cuts.cut_at.Goals as goal

pub returns-in-len1-up-clause-parts : goal.returns-in-len1-up-clause-parts
returns-in-len1-up-clause-parts c =
    cut_more (is c.args.at) c.args.text.now c.split_at.result.0.now c.split_at.result.1.now c.bytes_before.result c.bytes_before.ensures.value c.split_at.ensures.front c.split_at.ensures.back c.in-len1-up.len_at_least
