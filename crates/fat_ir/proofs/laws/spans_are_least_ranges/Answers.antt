use Rattle.fat_ir.proofs.Spans.{spans_share}
use Rattle.fat_ir.proofs.laws.spans_are_least_ranges.Goals as goal

pub returns : goal.returns
returns c = spans_share
