use Rattle.std.proofs.Common.{◌≡◌, ◌≤◌, ◌+◌}
use Rattle.std.specs.Option.{option_copied}
use Rattle.asm_text.specs.Cuts.{parts_left, room_of}
use Rattle.asm_text.specs.Assembly.{placed, start, texts_of, nothing, drafted}
use Rattle.assembler.specs.Sound.{most_text}
use Rattle.assembler.specs.Held.{IsSmall}
use Rattle.assembler.specs.Seen.{seen_draft}
use Rattle.assembler.specs.Good.{IsWithin}
use Rattle.assembler.proofs.lines.put_lines.Given as goal

-- the lines that are left make the rest of the draft
abbrev pub invariant-loop-left : goal.invariant-loop-left
invariant-loop-left l = record {
  drafted : drafted l.labels (seen_draft l.d) (placed l.at (parts_left 10 (option_copied l.left))) ≡ drafted l.labels (nothing l.labels) (placed start (texts_of l.text));
  within : IsWithin l.labels l.at (seen_draft l.d);
  small : IsSmall l.at;
  room : room_of (option_copied l.left) ≤ most_text + 1;
  few : l.at.line + room_of (option_copied l.left) ≤ most_text + 2;
}

abbrev pub decreases-loop-left : goal.decreases-loop-left
decreases-loop-left l = room_of (option_copied l.left)
