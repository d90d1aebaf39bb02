use Rattle.std.proofs.Common.{◌≡◌, ◌++◌, take}
use Rattle.obj_linker.specs.Symbols.{numbered}
use Rattle.obj_linker.specs.Image.{data_segment}
use Rattle.obj_linker.proofs.segments.put_stored.Given as goal

abbrev pub invariant-all : goal.invariant-all
invariant-all l = l.out.items ≡ l.fn.out.items ++ numbered (data_segment l.objects l.plan) 0 (take l.object l.objects)
