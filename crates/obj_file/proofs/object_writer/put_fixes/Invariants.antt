use Rattle.std.proofs.Common.{◌≡◌, ◌++◌, length, take}
use Rattle.std.specs.Int.{w32}
use Rattle.std.specs.List.{flat_map}
use Rattle.obj_file.specs.InTurn.{le}
use Rattle.obj_file.specs.Object.{fix_text}
use Rattle.obj_file.proofs.object_writer.put_fixes.Given as goal

abbrev pub invariant-loop-fix : goal.invariant-loop-fix
invariant-loop-fix l = l.out.items ≡ l.fn.out.items ++ (le w32 (length l.fixes) ++ flat_map fix_text (take l.fix-index l.fixes))
