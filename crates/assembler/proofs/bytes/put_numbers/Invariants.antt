use Rattle.std.proofs.Common.{◌≡◌, ◌++◌}
use Rattle.std.specs.Prelude.{map}
use Rattle.std.specs.Option.{option_copied}
use Rattle.asm_text.specs.Cuts.{parts_left, room_of}
use Rattle.asm_text.specs.Lines.{parts_of}
use Rattle.asm_text.specs.Assembly.{byte_of}
use Rattle.assembler.proofs.bytes.put_numbers.Given as goal

-- the numbers that are left follow those that are put
abbrev pub invariant-loop-left : goal.invariant-loop-left
invariant-loop-left l = l.out.items ++ map byte_of (parts_left 44 (option_copied l.left)) ≡ l.fn.out.items ++ map byte_of (parts_of l.text)

abbrev pub decreases-loop-left : goal.decreases-loop-left
decreases-loop-left l = room_of (option_copied l.left)
