use Rattle.std.proofs.Common.{◌≡◌, ◌≤◌, ◌+◌}
use Rattle.std.specs.Prelude.{fold}
use Rattle.std.specs.Option.{option_copied}
use Rattle.asm_text.specs.Cuts.{parts_left, room_of}
use Rattle.asm_text.specs.Assembly.{placed, start, texts_of, with_label, labels_of, labelled}
use Rattle.assembler.specs.Sound.{most_text}
use Rattle.assembler.specs.Held.{IsSmall}
use Rattle.assembler.proofs.lines.found_in.Given as goal

-- the lines that are left add the labels that are missing
abbrev pub invariant-loop-left : goal.invariant-loop-left
invariant-loop-left l = record {
  labels : fold with_label l.found.labels (placed l.at (parts_left 10 (option_copied l.left))) ≡ labels_of (placed start (texts_of l.text));
  symbols : l.found.symbols ≡ labelled l.found.labels;
  small : IsSmall l.at;
  room : room_of (option_copied l.left) ≤ most_text + 1;
  few : l.at.line + room_of (option_copied l.left) ≤ most_text + 2;
}

abbrev pub decreases-loop-left : goal.decreases-loop-left
decreases-loop-left l = room_of (option_copied l.left)
