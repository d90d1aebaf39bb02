use Rattle.std.proofs.Common.{◌∙◌, ap, ◌++◌}
use Rattle.assembler.specs.Seen.{seen_draft}
use Rattle.assembler.specs.Held.{placed_at}
use Rattle.assembler.proofs.UseLemmas.{put_in_data, put_in_code}
use Rattle.assembler.proofs.draft.put_line.Goals as goal

pub returns-in_ok-put_part : goal.returns-in_ok-put_part
returns-in_ok-put_part c =
    put_in_data c.args.labels.now (seen_draft c.args.d.now) (placed_at c.args.at c.args.l.now) c.put_part.new.out.items c.labels_after-d.result c.put_symbol.new.symbols c.put_part.new.fixes.items c.if-at.true
    c.in_ok-put_part.ensures.bytes c.labels_after-d.ensures c.in_ok-put_symbol.ensures (c.in_ok-put_part.ensures.fixes ∙ ap (λ l. c.args.d.now.stored_fixes.items ++ l) c.fix_of-fix.ensures)

pub returns-in_ok-put_part-2 : goal.returns-in_ok-put_part-2
returns-in_ok-put_part-2 c =
    put_in_code c.args.labels.now (seen_draft c.args.d.now) (placed_at c.args.at c.args.l.now) c.put_part-else-at.new.out.items c.labels_after-d.result c.put_symbol.new.symbols c.put_part-else-at.new.fixes.items c.if-at.false
    c.in_ok-put_part-2.ensures.bytes c.labels_after-d.ensures c.in_ok-put_symbol.ensures (c.in_ok-put_part-2.ensures.fixes ∙ ap (λ l. c.args.d.now.code_fixes.items ++ l) c.fix_of-fix.ensures)
