use Rattle.std.proofs.Common.{◌≡◌, ◌≤◌, ◌+◌, length}
use Rattle.std.specs.Prelude.{◌&&◌}
use Rattle.std.specs.List.{list_all}
use Rattle.std.specs.Option.{option_copied}
use Rattle.asm_text.specs.Cuts.{parts_left, room_of}
use Rattle.asm_text.specs.Lines.{parts_of, is_number_text, is_byte_text}
use Rattle.asm_text.proofs.lines.byte_line.Given as goal

-- the parts that are left decide for all
abbrev pub invariant-loop-left : goal.invariant-loop-left
invariant-loop-left l = record {
  numbers : list_all is_number_text (parts_left 44 (option_copied l.left)) ≡ list_all is_number_text (parts_of l.text);
  bytes : (l.fits && list_all is_byte_text (parts_left 44 (option_copied l.left))) ≡ list_all is_byte_text (parts_of l.text);
  count : l.count + length (parts_left 44 (option_copied l.left)) ≡ length (parts_of l.text);
  bounded : l.count + room_of (option_copied l.left) ≤ length l.text + 1;
}

abbrev pub decreases-loop-left : goal.decreases-loop-left
decreases-loop-left l = room_of (option_copied l.left)
