use Rattle.std.proofs.Common.{◌≡◌, ◌++◌, length, take}
use Rattle.std.specs.Int.{w32}
use Rattle.std.specs.List.{flat_map}
use Rattle.obj_file.specs.InTurn.{le}
use Rattle.obj_file.specs.Image.{file_text}
use Rattle.obj_file.proofs.image_writer.put_files.Given as goal

abbrev pub invariant-loop-file : goal.invariant-loop-file
invariant-loop-file l = l.out.items ≡ l.fn.out.items ++ (le w32 (length l.files) ++ flat_map file_text (take l.file-index l.files))
