use Rattle.std.proofs.Common.{◌∙◌, ap, arith}
use Rattle.std.specs.Option.{option_copied}
use Rattle.asm_text.specs.declared.parts.Cursor.{Cursor}
use Rattle.asm_text.specs.Cuts.{parts_left, room_of}
use Rattle.asm_text.specs.Seen.{seen_line}
use Rattle.assembler.proofs.UseLemmas.{found_on, next_line}
use Rattle.assembler.proofs.lines.found_in.Goals as goal

pub loop-left-preserved : goal.loop-left-preserved
loop-left-preserved c =
    let line = ap (λ (x : Cursor). x.line) c.after-at.ensures.next ∙ next_line c.loop-left.at c.sound_line-line.result.kind in
    let room = ap (λ o. room_of (option_copied o)) c.in-Some.is in
    let before = c.loop-left.invariant.room in
    let few = c.loop-left.invariant.few in
    let shorter = c.cut_at-cut.ensures.shorter in
    record {
      labels =
          found_on (parts_left 10 (option_copied c.loop-left.left)) (parts_left 10 (option_copied c.cut_at-cut.result.more)) c.cut_at-cut.result.part.now c.loop-left.found.labels c.note.new.found.labels c.loop-left.at
          c.after-at.result (seen_line c.sound_line-line.result) (ap (λ o. parts_left 10 (option_copied o)) c.in-Some.is ∙ c.cut_at-cut.ensures.parts) c.sound_line-line.ensures.line c.in_ok-note.ensures.labels
          c.after-at.ensures.next
          ∙ c.loop-left.invariant.labels;
      symbols = c.in_ok-note.ensures.symbols;
      small = c.after-at.ensures.small;
      room = omega (arith, shorter, room, before);
      few = omega (arith, line, shorter, room, few);
    }
